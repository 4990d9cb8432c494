use Rattle.std.proofs.Common.{◌≡◌, drop, map}
use Rattle.hp_tree.specs.Blocks.{states_of}
use Rattle.hp_tree.specs.BlockView.{state_seen}
use Rattle.hp_automata.specs.Lowering.{locals_from}
use Rattle.hp_automata.specs.Lists.{with_more}
use Rattle.hp_automata.specs.Held.{frame_seen}
use Rattle.hp_automata.proofs.states.add_locals.Given as goal

abbrev pub invariant-loop-i : goal.invariant-loop-i
invariant-loop-i l =
    with_more l.into.items (locals_from l.types (frame_seen l.frame) l.i (states_of (map state_seen (drop l.i l.states))))
    ≡ with_more l.initial.into.items (locals_from l.types (frame_seen l.frame) 0 (states_of (map state_seen l.states)))
