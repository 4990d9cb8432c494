use Rattle.std.proofs.Common.{◌≡◌, drop}
use Rattle.hp_expand.specs.Shapes.{found_after, in_controls}
use Rattle.hp_expand.proofs.calls.check_controls.Given as goal

abbrev pub invariant-loop-control : goal.invariant-loop-control
invariant-loop-control l = found_after l.found (in_controls (drop l.control-index l.controls)) ≡ found_after l.initial.found (in_controls l.controls)
