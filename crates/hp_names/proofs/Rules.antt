-- Sets of lemmas that functions name.
use Rattle.hp_tree.proofs.Lists.{nodes-at, nodes-at_part}
use Rattle.hp_tree.proofs.BlockLists.{lines-at_eqn, lines-at_arm, lines-at_state}
use Rattle.hp_names.proofs.ScopeLaws.{left-inside, left-controls, left-node}
use Rattle.hp_names.proofs.BlockLaws.{found_after-left, found_after-transitions, found_after-eqns, found_after-arms, found_after-states, found_after-new_states, with_names-next_state}
use Rattle.hp_names.proofs.ItemLaws.{found_after-constructors, with_names-next_constructor, found_after-items}
use Rattle.hp_names.proofs.RuleLaws.{program_law}
use Rattle.hp_names.proofs.FirstLaws.{breaches_law, clear_law, first_law, accepted_law}
use Rattle.hp_names.proofs.FoundLaws.{found_after-nil, found_after-append, found_after-cons, found_after-exprs, found_after-parts, found_after-path, found_after-decls, found_after-new, variables-with_variable, with_variables-next, drop-end}

-- what is found claim by claim
pub ruleset found = (found_after-nil, found_after-append, found_after-cons)

-- and element by element
pub ruleset found_in_lists = (found_after-nil, found_after-append, found_after-cons, found_after-exprs, found_after-parts, drop-end, nodes-at, nodes-at_part)

pub ruleset found_in_paths = (found_after-nil, found_after-path, drop-end)

pub ruleset found_in_decls = (found_after-nil, found_after-decls, found_after-new, variables-with_variable, with_variables-next, drop-end)

pub ruleset found_in_left = (found_after-nil, found_after-left, drop-end)

pub ruleset found_in_transitions = (found_after-nil, found_after-transitions, drop-end)

pub ruleset found_in_new_states = (found_after-nil, found_after-new_states, with_names-next_state, drop-end)

-- and in blocks, which leave the scope as it was
pub ruleset found_in_blocks = (found_after-nil, found_after-append, found_after-eqns, found_after-arms, found_after-states, drop-end, left-inside, lines-at_eqn, lines-at_arm, lines-at_state)

-- in nodes and programs
pub ruleset found_in_nodes = (found_after-nil, found_after-append, found_after-cons, left-inside, left-controls, left-node)

pub ruleset found_in_types = (found_after-nil, found_after-constructors, with_names-next_constructor, drop-end)

pub ruleset found_in_items = (found_after-nil, found_after-items, drop-end)

-- and of a program as a whole
pub ruleset laws = (program_law, breaches_law, clear_law, first_law, accepted_law)
