use Rattle.std.proofs.Common.{◌≡◌, drop, map}
use Rattle.hp_automata.specs.Lowering.{value_local}
use Rattle.hp_automata.specs.Lists.{names_seen, with_more}
use Rattle.hp_automata.specs.Held.{frame_seen}
use Rattle.hp_automata.proofs.states.add_value_locals.Given as goal

abbrev pub invariant-loop-i : goal.invariant-loop-i
invariant-loop-i l = with_more l.into.items (map (value_local l.types (frame_seen l.frame) l.state) (names_seen (drop l.i l.names))) ≡ with_more l.initial.into.items (map (value_local l.types (frame_seen l.frame) l.state) (names_seen l.names))
