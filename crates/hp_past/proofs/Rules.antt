-- Sets of lemmas that functions name.
use Rattle.std.proofs.lemmas.List.{map_more, map-append}
use Rattle.hp_tree.proofs.Lists.{nodes-at, nodes-at_part}
use Rattle.hp_tree.proofs.BlockLists.{lines-at_eqn, lines-at_arm, lines-at_state}
use Rattle.hp_tree.proofs.KindSizes.{nodes-expr_at}
use Rattle.hp_past.proofs.ListLaws.{drop-end, noted-append, exprs-noted, exprs-noted_end, parts-noted, parts-noted_end, path-noted, path-noted_end, left-noted, left-noted_end, decls-noted, decls-noted_end, transitions-noted, transitions-noted_end, eqns-noted, eqns-noted_end, arms-noted, arms-noted_end, states-noted, states-noted_end, items-noted, items-noted_end, free-passed, free-found, free-end, one-argument, other-than-one, two-arguments, other-than-two, args-next, args-end, parts-next, parts-end, eqns-next, eqns-end, items-next, items-end}

-- the names that occur in expressions, in declarations and in blocks
pub ruleset noted_exprs = (noted-append, exprs-noted, exprs-noted_end, parts-noted, parts-noted_end, nodes-at, nodes-at_part)

pub ruleset noted_decls = (noted-append, path-noted, path-noted_end, left-noted, left-noted_end, decls-noted, decls-noted_end, transitions-noted, transitions-noted_end, items-noted, items-noted_end)

pub ruleset noted_blocks = (noted-append, eqns-noted, eqns-noted_end, arms-noted, arms-noted_end, states-noted, states-noted_end, lines-at_eqn, lines-at_arm, lines-at_state)

pub ruleset node_names = (drop-end)

-- names that do not occur
pub ruleset free_numbers = (free-passed, free-found, free-end)

pub ruleset added = map_more

-- calls of formulas
pub ruleset one_argument = (one-argument, other-than-one)

pub ruleset two_arguments = (two-arguments, other-than-two)

-- expressions and their lists
pub ruleset kinds = (nodes-expr_at, nodes-at)

pub ruleset lists = (args-next, args-end, parts-next, parts-end, nodes-at, nodes-at_part)

pub ruleset eqns = (eqns-next, eqns-end, map_more)

pub ruleset items = (items-next, items-end)

pub ruleset joined = map-append
