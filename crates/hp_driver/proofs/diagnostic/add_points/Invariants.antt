use Rattle.std.proofs.Common.{◌≡◌, ◌++◌, drop}
use Rattle.hp_driver.specs.Diagnostics.{points_text}
use Rattle.hp_driver.proofs.diagnostic.add_points.Given as goal

abbrev pub invariant-loop-point : goal.invariant-loop-point
invariant-loop-point l = l.line.items ++ points_text (drop l.point-index l.points) ≡ l.initial.line.items ++ points_text l.points
