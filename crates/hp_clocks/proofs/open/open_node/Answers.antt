use Rattle.hp_clocks.specs.Units.{size_of_node}
use Rattle.hp_clocks.proofs.OpenRules.{all_opened}
use Rattle.hp_clocks.proofs.open.open_node.Goals as goal

pub returns : goal.returns
returns c =
    all_opened c.open_parts.new.cells.cells.items c.in_ok-cells.cells.cells.items (size_of_node c.args.node.now) c.in_ok-cells.ensures.base c.in_ok-open_parts.ensures.tells c.in_ok-open_parts.ensures.length
