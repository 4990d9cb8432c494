use Rattle.std.proofs.Common.{◌≡◌, ◌+◌, drop}
use Rattle.hp_watch.specs.Lifting.{least_width}
use Rattle.hp_watch.proofs.lifting.least_width.Given as goal

abbrev pub invariant-loop-width : goal.invariant-loop-width
invariant-loop-width l = l.width + least_width (drop l.width l.powers) l.count ≡ least_width l.powers l.count
