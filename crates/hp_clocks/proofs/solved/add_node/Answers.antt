use Rattle.std.proofs.Common.{sym, ap, ◌∙◌, subst}
use Rattle.hp_tree.specs.Programs.{Node}
use Rattle.hp_clocks.specs.Solved.{IsSolved}
use Rattle.hp_clocks.proofs.solved.add_node.Goals as goal

pub returns-clause-solved : goal.returns-clause-solved
returns-clause-solved c =
    let h = c.in_ok-push_node.ensures in
    (h.0, h.1, (h.2 ∙ ap (λ (n : Node). n.name) c.node.view_is, subst (IsSolved c.args.node.now) (sym h.3) c.in_ok-solution.ensures.solved))
