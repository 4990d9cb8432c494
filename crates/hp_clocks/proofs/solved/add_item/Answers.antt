use Rattle.hp_clocks.proofs.AnswerLaws.{err_node}
use Rattle.hp_clocks.proofs.solved.add_item.Goals as goal

pub returns-in-NodeItem-clause-clash : goal.returns-in-NodeItem-clause-clash
returns-in-NodeItem-clause-clash c = err_node c.in-NodeItem.node c.args.item.now c.add_node.result c.in-NodeItem.is c.add_node.ensures.clash
