use Rattle.std.proofs.Common.{◌≡◌, drop}
use Rattle.hp_automata.specs.Lowering.{transition_locals}
use Rattle.hp_automata.specs.Lists.{with_more}
use Rattle.hp_automata.specs.Held.{frame_seen}
use Rattle.hp_automata.proofs.transitions.add_transition_locals.Given as goal

abbrev pub invariant-loop-i : goal.invariant-loop-i
invariant-loop-i l =
    with_more l.into.items (transition_locals (frame_seen l.frame) l.word l.state l.i (drop l.i l.transitions))
    ≡ with_more l.initial.into.items (transition_locals (frame_seen l.frame) l.word l.state 0 l.transitions)
