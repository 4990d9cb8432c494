use Rattle.hp_diagram.proofs.Kept.{IfOk-same, value-var}
use Rattle.hp_diagram.proofs.table.Table.var.Goals as goal

pub returns-clause-ok : goal.returns-clause-ok
returns-clause-ok c = IfOk-same c.node.new.self _ _ (λ v. value-var c.args.self.now v c.zero.result c.one.result c.zero.ensures c.one.ensures c.args.v) c.node.result c.node.ensures.ok
