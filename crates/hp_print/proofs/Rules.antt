-- Sets of lemmas that functions name.
use Rattle.hp_tree.proofs.Lists.{nodes-at, nodes-at_part}
use Rattle.hp_tree.proofs.BlockLists.{lines-at_eqn, lines-at_arm, lines-at_state}
use Rattle.hp_print.proofs.WrittenLaws.{drop-end, written_after-nil, written_after-append, written_after-cons, written_after-one, written_after-nothing, written_after-parameters, written_after-declarations, written_after-names, written_after-transitions, written_after-constructors, written_after-arguments, written_after-parts, written_after-path, written_after-equations, written_after-arms, written_after-states, written_after-items}

-- one token
pub ruleset tokens = written_after-one

-- tokens one behind the other
pub ruleset written = (written_after-nil, written_after-append, written_after-cons, written_after-nothing)

-- and element by element
pub ruleset written_in_expressions = (written_after-nil, written_after-append, written_after-cons, written_after-arguments, written_after-parts, drop-end, nodes-at, nodes-at_part)

pub ruleset written_in_declarations = (written_after-nil, written_after-append, written_after-cons, written_after-parameters, written_after-declarations, written_after-path, drop-end)

pub ruleset written_in_blocks = (written_after-nil, written_after-append, written_after-cons, written_after-names, written_after-transitions, written_after-equations, written_after-arms, written_after-states, drop-end, lines-at_eqn, lines-at_arm, lines-at_state)

pub ruleset written_in_programs = (written_after-nil, written_after-append, written_after-cons, written_after-constructors, written_after-items, drop-end)
