use Rattle.std.proofs.Common.{◌≡◌, length, drop, map}
use Rattle.hp_tree.specs.BlockView.{eqn_seen}
use Rattle.hp_automata.specs.Lowering.{choices}
use Rattle.hp_automata.specs.Lists.{with_more}
use Rattle.hp_automata.specs.Held.{frame_seen, said}
use Rattle.hp_automata.proofs.transitions.add_choices.Given as goal

abbrev pub invariant-loop-i : goal.invariant-loop-i
invariant-loop-i l =
    with_more (map eqn_seen l.into.items) (choices (said l.layers) (frame_seen l.frame) l.chain.word l.chain.state (length l.transitions) l.chain.end.now l.i (drop l.i l.transitions))
    ≡ with_more (map eqn_seen l.initial.into.items) (choices (said l.layers) (frame_seen l.frame) l.chain.word l.chain.state (length l.transitions) l.chain.end.now 0 l.transitions)
