-- Sets of lemmas that functions name.
use Rattle.std.proofs.lemmas.List.{take_all, map_more}
use Rattle.hp_tree.proofs.CountLaws.{limit-left, limit-right, limit-none, limit-one, args-next, parts-next, transitions-next, eqns-next, arms-next, states-next}
use Rattle.hp_tree.proofs.KindSizes.{nodes-expr_at}
use Rattle.hp_tree.proofs.Lists.{exprs_of-one, parts_of-one, nodes-at, nodes-at_part}
use Rattle.hp_tree.proofs.BlockLists.{eqns_of-one, arms_of-one, states_of-one, lines-at_eqn, lines-at_arm, lines-at_state}

-- lists of an expression that are the same are made of the same
pub ruleset expression_lists = (exprs_of-one, parts_of-one)

-- lists of a block that are the same are made of the same
pub ruleset block_lists = (eqns_of-one, arms_of-one, states_of-one)

-- a part is no larger than the list that it stands in
pub ruleset parts_of_expressions = (nodes-at, nodes-at_part)

-- the same of blocks, and one more element of a list that is seen
pub ruleset parts_of_blocks = (lines-at_eqn, lines-at_arm, lines-at_state, map_more)

-- an expression of a kind is as large wherever it stands
pub ruleset kinds = (nodes-expr_at, nodes-at)

-- counts up to the limit on places
pub ruleset counts = (limit-left, limit-right, limit-none, limit-one)

-- and element by element
pub ruleset counts_of_exprs = (limit-left, limit-right, limit-none, args-next, parts-next, take_all, nodes-at, nodes-at_part)

pub ruleset counts_of_transitions = (limit-none, transitions-next, take_all)

pub ruleset counts_of_blocks = (limit-left, limit-right, limit-none, eqns-next, arms-next, states-next, take_all, lines-at_eqn, lines-at_arm, lines-at_state)
