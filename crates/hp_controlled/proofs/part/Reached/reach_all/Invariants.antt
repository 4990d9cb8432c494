use Rattle.std.proofs.Common.{◌≡◌, drop}
use Rattle.hp_controlled.specs.Reaching.{all_touched, reaching_seen}
use Rattle.hp_controlled.proofs.part.Reached.reach_all.Given as goal

abbrev pub invariant-loop-i : goal.invariant-loop-i
invariant-loop-i l = all_touched (drop l.i l.variables) (reaching_seen l.self) ≡ all_touched l.variables (reaching_seen l.initial.self)
