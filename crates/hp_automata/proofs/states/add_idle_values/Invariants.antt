use Rattle.std.proofs.Common.{◌≡◌, drop, map}
use Rattle.hp_tree.specs.BlockView.{eqn_seen}
use Rattle.hp_automata.specs.Lowering.{idle_value}
use Rattle.hp_automata.specs.Lists.{names_seen, with_more}
use Rattle.hp_automata.specs.Held.{frame_seen}
use Rattle.hp_automata.proofs.states.add_idle_values.Given as goal

abbrev pub invariant-loop-i : goal.invariant-loop-i
invariant-loop-i l = with_more (map eqn_seen l.into.items) (map (idle_value l.enums l.types (frame_seen l.frame) l.state) (names_seen (drop l.i l.names))) ≡ with_more (map eqn_seen l.initial.into.items) (map (idle_value l.enums l.types (frame_seen l.frame) l.state) (names_seen l.names))
