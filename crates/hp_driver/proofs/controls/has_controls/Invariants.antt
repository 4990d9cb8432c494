use Rattle.std.proofs.Common.{◌≡◌, drop}
use Rattle.hp_driver.specs.Controls.{has_controls}
use Rattle.hp_driver.proofs.controls.has_controls.Given as goal

abbrev pub invariant-loop-item : goal.invariant-loop-item
invariant-loop-item l = has_controls (drop l.item-index l.item-items) ≡ has_controls l.item-items
