-- Sets of lemmas that functions name.
use Rattle.hp_tree.proofs.Lists.{nodes-at, nodes-at_part}
use Rattle.hp_tree.proofs.BlockLists.{lines-at_eqn, lines-at_arm, lines-at_state}
use Rattle.std.proofs.lemmas.List.{take_all, map_more, append-nil}
use Rattle.hp_tree.proofs.KindSizes.{nodes-expr_at}
use Rattle.hp_expand.proofs.SizeLaws.{cap-left, cap-right, cap-deeper, cap-call, cap-none, exprs-next, parts-next, transitions-next, eqns-next, arms-next, states-next, drop-end}
use Rattle.hp_expand.proofs.FoundLaws.{found_after-nil, found_after-append, found_after-cons, found_after-exprs, found_after-parts, found_after-transitions, found_after-controls, found_after-eqns, found_after-arms, found_after-states, shapes-type, shapes-broken, shapes-kept}
use Rattle.hp_expand.proofs.LayerLaws.{new-next, new-here, new-end, stem-next, stem-here, stem-end, six-digits, number-silent, number-found, number-begin, numbers-next, new-decls-next}
use Rattle.hp_expand.proofs.RenamingLaws.{eqns-mapped, arms-mapped, states-mapped, grown-next, map-one}
use Rattle.hp_expand.proofs.LayerLaws.{said-entered}
use Rattle.hp_expand.proofs.NumberingLaws.{front-more, front-left, block-entered, new-both, contract-numbered, behind-new, eqns-all, arms-all, states-all}
use Rattle.hp_expand.proofs.MakingLaws.{more-nil, more-append, more-from_nil, seen-pushed, given-next, given-end, defined-next, defined-end, exprs-finished, parts-finished}
use Rattle.hp_expand.proofs.BlockMaking.{eqns-finished, arms-replaced, states-replaced, block-made}
use Rattle.hp_expand.proofs.ReplacedSizes.{counted_law}
use Rattle.hp_expand.proofs.PlainLaws.{plain_law}
use Rattle.hp_expand.proofs.NewNumberLaws.{numbers_law, names_law}
use Rattle.hp_expand.proofs.CallNumberLaws.{calls_law}
use Rattle.hp_expand.proofs.LeftLaws.{left_law}
use Rattle.hp_expand.proofs.LimitLaws.{most-small, passed-min, keeps, passes, items-type, items-passed, items-kept}

-- sizes of parts that are capped
pub ruleset sizes = (cap-left, cap-right, cap-deeper, cap-call, cap-none)

-- and element by element
pub ruleset sizes_of_exprs = (cap-left, cap-right, cap-call, cap-none, exprs-next, parts-next, take_all, nodes-at, nodes-at_part)

pub ruleset sizes_of_transitions = (cap-none, transitions-next, take_all)

pub ruleset sizes_of_blocks = (cap-left, cap-right, cap-deeper, cap-none, eqns-next, arms-next, states-next, take_all, lines-at_eqn, lines-at_arm, lines-at_state)

pub ruleset limits = (most-small, passed-min)

pub ruleset limit_of_node = (keeps, passes)

pub ruleset limits_of_items = (items-type, items-passed, items-kept, drop-end)

-- what is found mark by mark
pub ruleset found = (found_after-nil, found_after-append, found_after-cons)

-- and element by element
pub ruleset found_in_exprs = (found_after-nil, found_after-exprs, found_after-parts, drop-end, nodes-at, nodes-at_part)

pub ruleset found_in_transitions = (found_after-nil, found_after-transitions, drop-end)

pub ruleset found_in_controls = (found_after-nil, found_after-controls, drop-end)

pub ruleset found_in_blocks = (found_after-nil, found_after-append, found_after-eqns, found_after-arms, found_after-states, drop-end, lines-at_eqn, lines-at_arm, lines-at_state)

pub ruleset shapes_of_items = (shapes-type, shapes-broken, shapes-kept, drop-end)

-- what is counted of a node
pub ruleset counted = (counted_law)

-- the names of new variables
pub ruleset signs = (new-next, new-here, new-end, stem-next, stem-here, stem-end, six-digits)

pub ruleset layers = (number-silent, number-found, number-begin)

pub ruleset declared = (numbers-next, new-decls-next, drop-end)

-- parts under other names
pub ruleset more = map_more

pub ruleset added = (grown-next, append-nil)

pub ruleset renamed_in_blocks = (eqns-mapped, arms-mapped, states-mapped, lines-at_eqn, lines-at_arm, lines-at_state, map_more, grown-next, map-one, append-nil)

-- blocks that are entered, and left again
pub ruleset entered = (front-more, said-entered)

pub ruleset left = front-left

pub ruleset numbered_in_blocks = (block-entered, new-both, eqns-all, arms-all, states-all, drop-end, lines-at_eqn, lines-at_arm, lines-at_state)

pub ruleset numbered_in_nodes = (new-both, contract-numbered, behind-new)

-- inlined calls are replaced
pub ruleset pushed = seen-pushed

pub ruleset given = (more-nil, given-next, given-end, defined-next, defined-end)

pub ruleset replaced_kinds = (nodes-expr_at, nodes-at)

pub ruleset replaced_exprs = (more-nil, more-append)

pub ruleset replaced_lists = (more-nil, exprs-finished, parts-finished, drop-end, nodes-at, nodes-at_part)

pub ruleset replaced_blocks = (more-nil, more-append, eqns-finished, arms-replaced, states-replaced, block-made, drop-end, lines-at_eqn, lines-at_arm, lines-at_state)

-- programs without inlined calls
pub ruleset plain = (plain_law, left_law)

-- the numbers of new variables
pub ruleset within_places = (numbers_law, calls_law, names_law)
