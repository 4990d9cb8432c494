use Rattle.std.proofs.Common.{◌≡◌, drop, map}
use Rattle.hp_tree.specs.BlockView.{eqn_seen}
use Rattle.hp_automata.specs.Lowering.{joined}
use Rattle.hp_automata.specs.Lists.{names_seen, with_more}
use Rattle.hp_automata.specs.Held.{frame_seen, said}
use Rattle.hp_automata.proofs.states.add_all_joined.Given as goal

abbrev pub invariant-loop-i : goal.invariant-loop-i
invariant-loop-i l = with_more (map eqn_seen l.into.items) (map (joined l.enums (said l.around.layers.items) l.around.types (frame_seen l.frame)) (names_seen (drop l.i l.names))) ≡ with_more (map eqn_seen l.initial.into.items) (map (joined l.enums (said l.around.layers.items) l.around.types (frame_seen l.frame)) (names_seen l.names))
