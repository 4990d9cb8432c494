-- Sets of lemmas that functions name.
use Rattle.hp_tree.proofs.Lists.{nodes-at, nodes-at_part}
use Rattle.hp_typing.proofs.TypeLaws.{found_after-parts, parts_fit-next, found_after-no_operands, found_after-call, all_typed-next, args_fit-next, args_fit-end, in_pairs-end, found_after-exprs, found_after-pairs}
use Rattle.hp_tree.proofs.BlockLists.{lines-at_eqn, lines-at_arm, lines-at_state}
use Rattle.hp_typing.proofs.ScopeLaws.{left-inside, left-controls, left-node, with_variables-next}
use Rattle.hp_typing.proofs.BlockLaws.{found_after-path, found_after-decls, found_after-names, found_after-transitions, found_after-eqns, found_after-arms, found_after-states, in_names-end}
use Rattle.hp_typing.proofs.ItemLaws.{with_constructors-next, found_after-items}
use Rattle.hp_typing.proofs.RuleLaws.{program_law}
use Rattle.hp_typing.proofs.TwiceLaws.{twice_used_law, twice_first_law}
use Rattle.hp_typing.proofs.FirstLaws.{breaches_law, clear_law, first_law, second_law, accepted_law, accepted_definitions_law}
use Rattle.hp_typing.proofs.DefinitionLaws.{definitions_law}
use Rattle.hp_typing.proofs.DefinedLaws.{conses-arm, conses-part, count-told, found_after-constructors, found_after-merge_parts, found_after-merge_args, found_after-merge_transitions, found_among-nil, found_among-variables, found_among-others, found_after-variables, found_after-others, found_after-outputs, both-nowhere, nowhere-both, both-names, both-eqns, blocks-arm, blocks-state, found_after-defined_eqns, found_after-defined_arms, found_after-defined_states, found_after-defined_items}
use Rattle.hp_typing.proofs.FoundLaws.{drop-next, found_after-nil, found_after-append, found_after-cons, drop-end}

-- what is found claim by claim
pub ruleset found = (found_after-nil, found_after-append, found_after-cons)

pub ruleset found_in_parts = (found_after-nil, found_after-append, found_after-cons, drop-end, found_after-parts, parts_fit-next, nodes-at_part)

pub ruleset found_in_operands = (found_after-nil, found_after-append, found_after-cons, found_after-no_operands)

pub ruleset found_in_calls = (found_after-nil, found_after-append, found_after-cons, found_after-call)

pub ruleset found_in_args = (found_after-nil, found_after-append, found_after-cons, drop-end, all_typed-next, args_fit-next, args_fit-end, in_pairs-end, found_after-exprs, found_after-pairs, nodes-at)

pub ruleset inputs = (drop-next, drop-end)

pub ruleset found_in_paths = (found_after-nil, found_after-path, drop-end)

pub ruleset found_in_decls = (found_after-nil, found_after-decls, with_variables-next, drop-end)

pub ruleset found_in_names = (found_after-nil, found_after-names, in_names-end)

pub ruleset found_in_transitions = (found_after-nil, found_after-transitions, drop-end)

-- in blocks, which leave the scope as it was
pub ruleset found_in_blocks = (found_after-nil, found_after-append, found_after-eqns, found_after-arms, found_after-states, drop-end, left-inside, lines-at_eqn, lines-at_arm, lines-at_state)

-- in nodes and programs
pub ruleset found_in_nodes = (found_after-nil, found_after-append, left-inside, left-controls, left-node)

pub ruleset constructors = (with_constructors-next, drop-end)

pub ruleset found_in_items = (found_after-nil, found_after-items, drop-end)

-- in definitions
pub ruleset conses = (conses-arm, conses-part, count-told, drop-end)

pub ruleset found_in_constructors = (found_after-nil, found_after-constructors, drop-end)

pub ruleset found_in_merges = (found_after-nil, found_after-append, found_after-merge_parts, found_after-merge_args, found_after-merge_transitions, drop-end, nodes-at, nodes-at_part)

pub ruleset found_in_variables = (found_among-nil, found_among-variables, found_among-others, drop-end)

pub ruleset uses = (both-nowhere, both-names, drop-end)

pub ruleset found_in_definitions = (found_after-nil, found_after-append, found_after-variables, nowhere-both, both-nowhere, both-eqns, blocks-arm, blocks-state, found_after-defined_eqns, found_after-defined_arms, found_after-defined_states, drop-end, left-inside, lines-at_eqn, lines-at_arm, lines-at_state)

pub ruleset found_in_defined = (found_after-nil, found_after-append, found_after-others, found_after-outputs, left-inside, left-controls, left-node)

pub ruleset found_in_defined_items = (found_after-nil, found_after-defined_items, drop-end)

-- and of a program as a whole
pub ruleset laws = (program_law, definitions_law, breaches_law, clear_law, first_law, second_law, accepted_law, accepted_definitions_law, twice_used_law, twice_first_law)
