use Rattle.std.proofs.Common.{sym, rules}
use Rattle.hp_diagram.proofs.Splits.{HasChildren-node}
use Rattle.hp_diagram.proofs.table.Table.children.Goals as goal

pub returns-in_Some-node : goal.returns-in_Some-node
returns-in_Some-node c =
    HasChildren-node c.args.self.now c.in_Some-node.ensures.reduced c.args.r c.in_Some-node.node c.args.var c.requires.has (sym c.in_Some-node.ensures.node) (search rules)
