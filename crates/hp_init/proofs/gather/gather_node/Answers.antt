use Rattle.std.proofs.Common.{length, ap, ◌∙◌}
use Rattle.hp_init.specs.Asks.{of_node}
use Rattle.hp_init.specs.Gathered.{seen_of_outputs}
use Rattle.hp_init.proofs.GatherLaws.{node-gathered}
use Rattle.hp_init.proofs.gather.gather_node.Goals as goal

pub returns : goal.returns
returns c =
    let begun = c.in_ok-gathering.ensures in
    let observer = c.in_ok-gather_contract.ensures in
    let node = c.node.inside in
    node-gathered node.outputs.items node.contract node.body c.in_ok-gathering.gathering c.gather_contract.new.gathering c.gather_block.new.gathering.asks.items (begun.seen ∙ ap seen_of_outputs c.deref.ensures.value)
    (begun.next ∙ ap length c.deref.ensures.value) begun.asks observer.variables observer.values observer.next observer.asks c.in_ok-gather_block.ensures.asks
    ∙ ap of_node c.node.view_is
