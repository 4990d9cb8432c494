use Rattle.std.proofs.Common.{◌≡◌, drop, map}
use Rattle.hp_tree.specs.BlockView.{eqn_seen}
use Rattle.hp_automata.specs.Lowering.{kept}
use Rattle.hp_automata.specs.Lists.{names_seen, with_more}
use Rattle.hp_automata.specs.Held.{said}
use Rattle.hp_automata.proofs.kept.add_each.Given as goal

abbrev pub invariant-loop-i : goal.invariant-loop-i
invariant-loop-i l =
    with_more (map eqn_seen l.into.items) (map (kept (said l.layers) l.span) (names_seen (drop l.i l.names)))
    ≡ with_more (map eqn_seen l.initial.into.items) (map (kept (said l.layers) l.span) (names_seen l.names))
