use Rattle.std.proofs.Common.{◌≡◌, true, drop}
use Rattle.hp_obctext.specs.Breaches.{after}
use Rattle.hp_obctext.specs.NamesView.{types_seen}
use Rattle.hp_obctext.specs.Rules.{in_mems, with_mems}
use Rattle.hp_obctext.proofs.check.check_mems.Given as goal

abbrev pub invariant-loop-mem : goal.invariant-loop-mem
invariant-loop-mem l = record {
  found : after l.found (in_mems (types_seen l.types) l.first l.known (drop l.mem-index l.mems)) ≡ after l.initial.found (in_mems (types_seen l.types) true l.initial.known l.mems);
  known : with_mems l.known (drop l.mem-index l.mems) ≡ with_mems l.initial.known l.mems;
}
