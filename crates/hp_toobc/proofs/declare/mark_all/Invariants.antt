use Rattle.std.proofs.Common.{◌≡◌, drop}
use Rattle.hp_toobc.specs.Flags.{all_marked}
use Rattle.hp_toobc.proofs.declare.mark_all.Given as goal

abbrev pub invariant-loop-eqn : goal.invariant-loop-eqn
invariant-loop-eqn l = all_marked (drop l.eqn-index l.eqns) l.flags ≡ all_marked l.eqns l.initial.flags
