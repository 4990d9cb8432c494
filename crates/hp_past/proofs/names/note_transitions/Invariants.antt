use Rattle.std.proofs.Common.{◌≡◌, drop}
use Rattle.hp_past.specs.Names.{noted, names_in_transitions}
use Rattle.hp_past.proofs.names.note_transitions.Given as goal

abbrev pub invariant-loop-transition : goal.invariant-loop-transition
invariant-loop-transition l =
    noted l.names (names_in_transitions (drop l.transition-index l.transitions)) ≡ noted l.initial.names (names_in_transitions l.transitions)
