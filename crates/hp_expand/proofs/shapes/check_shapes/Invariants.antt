use Rattle.std.proofs.Common.{◌≡◌, drop}
use Rattle.hp_expand.specs.Shapes.{in_items, breach_in}
use Rattle.hp_expand.specs.Tables.{form_in}
use Rattle.hp_expand.proofs.shapes.check_shapes.Given as goal

abbrev pub invariant-loop-item : goal.invariant-loop-item
invariant-loop-item l = in_items (form_in l.forms) (drop l.item-index l.items) ≡ breach_in l.items
