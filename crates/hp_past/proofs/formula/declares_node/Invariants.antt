use Rattle.std.proofs.Common.{◌≡◌, drop}
use Rattle.hp_past.specs.Formulas.{word, declares_node}
use Rattle.hp_past.proofs.formula.declares_node.Given as goal

abbrev pub invariant-loop-item : goal.invariant-loop-item
invariant-loop-item l = declares_node (drop l.item-index l.items) (word l.formula) ≡ declares_node l.items (word l.formula)
