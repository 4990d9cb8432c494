use Rattle.std.proofs.Common.{◌≡◌, drop, map}
use Rattle.hp_tree.specs.BlockView.{eqn_seen}
use Rattle.hp_expand.specs.Replacing.{defined_by}
use Rattle.hp_expand.specs.Making.{with_more}
use Rattle.hp_expand.proofs.replace.add_definitions.Given as goal

abbrev pub invariant-loop-i : goal.invariant-loop-i
invariant-loop-i l =
    with_more (map eqn_seen l.into.items) (defined_by l.span (drop l.i l.names) l.at (drop l.i l.outputs))
    ≡ with_more (map eqn_seen l.initial.into.items) (defined_by l.span l.names l.at l.outputs)
