use Rattle.std.proofs.Common.{◌≡◌}
use Rattle.std.specs.List.{range_with_len}
use Rattle.hp_controlled.specs.Reaching.{all_touched, reaching_seen}
use Rattle.hp_controlled.proofs.part.Reached.reach_inputs.Given as goal

abbrev pub invariant-loop-input : goal.invariant-loop-input
invariant-loop-input l = reaching_seen l.self ≡ all_touched (range_with_len 0 l.input) (reaching_seen l.initial.self)
