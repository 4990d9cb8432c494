use Rattle.std.proofs.Common.{◌≡◌, drop}
use Rattle.hp_obctext.specs.Rules.{with_mems}
use Rattle.hp_obctext.proofs.check.note_mems.Given as goal

abbrev pub invariant-loop-mem : goal.invariant-loop-mem
invariant-loop-mem l = with_mems l.known (drop l.mem-index l.mems) ≡ with_mems l.initial.known l.mems
