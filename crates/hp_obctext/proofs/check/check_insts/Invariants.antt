use Rattle.std.proofs.Common.{◌≡◌, true, drop}
use Rattle.hp_obctext.specs.Breaches.{after}
use Rattle.hp_obctext.specs.Rules.{in_insts, with_insts}
use Rattle.hp_obctext.proofs.check.check_insts.Given as goal

abbrev pub invariant-loop-inst : goal.invariant-loop-inst
invariant-loop-inst l = record {
  found : after l.found (in_insts l.machines l.first l.known (drop l.inst-index l.insts)) ≡ after l.initial.found (in_insts l.machines true l.initial.known l.insts);
  known : with_insts l.machines l.known (drop l.inst-index l.insts) ≡ with_insts l.machines l.initial.known l.insts;
}
