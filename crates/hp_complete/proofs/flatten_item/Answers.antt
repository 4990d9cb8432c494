use Rattle.hp_complete.specs.Tables.{known_in}
use Rattle.hp_complete.proofs.MadeLaws.{made-node}
use Rattle.hp_complete.proofs.flatten_item.Goals as goal

pub returns-in_ok-add_node-in-Ok-clause-made : goal.returns-in_ok-add_node-in-Ok-clause-made
returns-in_ok-add_node-in-Ok-clause-made c =
    λ before h.
    made-node (known_in c.args.declared.now) before c.args.item.now c.in-NodeItem.node c.in-Ok.flat c.args.nodes.now.items c.add_node.new.nodes.items c.in-NodeItem.is c.in_ok-add_node-in-Ok.ensures c.in-Ok.ensures.made h
