use Rattle.std.proofs.Common.{◌≡◌, drop}
use Rattle.hp_controlled.specs.Parts.{tested_by}
use Rattle.hp_controlled.specs.Reaching.{all_touched, reaching_seen}
use Rattle.hp_controlled.proofs.part.Reached.reach_clock.Given as goal

abbrev pub invariant-loop-i : goal.invariant-loop-i
invariant-loop-i l = all_touched (tested_by (drop l.i l.clock)) (reaching_seen l.self) ≡ all_touched (tested_by l.clock) (reaching_seen l.initial.self)
