use Rattle.std.proofs.Common.{refl}
use Rattle.hp_clocks.specs.declared.solved.SolvedNode.{SolvedNode}
use Rattle.hp_clocks.proofs.solved.push_node.Goals as goal

pub returns : goal.returns
returns c =
    let s : SolvedNode = record { name = c.args.name; solution = c.args.solution } in
    (s, c.in_ok-push.ensures.items, refl, refl)
