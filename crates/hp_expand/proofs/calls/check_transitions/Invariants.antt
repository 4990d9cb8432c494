use Rattle.std.proofs.Common.{◌≡◌, drop}
use Rattle.hp_expand.specs.Shapes.{found_after, in_transitions}
use Rattle.hp_expand.specs.Tables.{form_in}
use Rattle.hp_expand.proofs.calls.check_transitions.Given as goal

abbrev pub invariant-loop-transition : goal.invariant-loop-transition
invariant-loop-transition l =
    found_after l.found (in_transitions (form_in l.forms) (drop l.transition-index l.transitions)) ≡ found_after l.initial.found (in_transitions (form_in l.forms) l.transitions)
