use Rattle.std.proofs.Common.{◌≡◌, drop}
use Rattle.hp_tree.specs.Meaning.{node_among}
use Rattle.hp_driver.proofs.certificate.node_named.Given as goal

abbrev pub invariant-loop-item : goal.invariant-loop-item
invariant-loop-item l = node_among (drop l.item-index l.item-items) l.fn.name ≡ node_among l.item-items l.fn.name
