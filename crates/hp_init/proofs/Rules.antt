-- Sets of lemmas that functions name.
use Rattle.hp_tree.proofs.Lists.{nodes-at, nodes-at_part}
use Rattle.hp_tree.proofs.BlockLists.{lines-at_eqn, lines-at_arm, lines-at_state}
use Rattle.hp_names.proofs.FoundLaws.{drop-end}
use Rattle.hp_init.proofs.AnswerLaws.{unmet-next, unmet-here, names-node, from-next, from-end, late-here}
use Rattle.hp_init.proofs.AskLaws.{more-nil, more-from_nil, more-one, targets-next, more-append, asked-targets, asked-exprs, asked-parts, asked-tests, asked-path, asked-decls}
use Rattle.hp_init.proofs.EntryLaws.{front-more, front-left, sight-within}
use Rattle.hp_init.proofs.SpreadLaws.{greatest-next, noted-next, marked-next, sources-next}
use Rattle.hp_init.proofs.TableLaws.{declares-in, must-in, must-next}
use Rattle.std.proofs.lemmas.List.{replicate_more, set_past, length-map}
use Rattle.hp_init.proofs.LeastLaws.{lists-set, lists-last}

pub ruleset told = (more-nil, more-one, more-append, asked-targets, drop-end)

pub ruleset gathered = (more-nil, more-append)

pub ruleset gathered_in_lists = (more-nil, more-append, asked-exprs, asked-parts, asked-tests, drop-end, nodes-at, nodes-at_part)

pub ruleset gathered_in_decls = (more-nil, more-append, asked-path, asked-decls, drop-end)

pub ruleset gathered_in_blocks = (more-nil, more-append, drop-end, lines-at_eqn, lines-at_arm, lines-at_state)

pub ruleset gathered_in_nodes = (more-nil, more-from_nil, more-append)

-- what is entered, and left again
pub ruleset entered = (more-from_nil, front-more, sight-within)

pub ruleset left = front-left

pub ruleset locals = (declares-in, must-in)

pub ruleset targeted = (more-nil, more-from_nil, more-one, targets-next, drop-end)

pub ruleset musts = (must-next, drop-end)

pub ruleset counted = (greatest-next, noted-next, drop-end)

pub ruleset listed = (lists-set, lists-last, replicate_more, set_past, length-map)

pub ruleset marked = (marked-next, sources-next, drop-end)

pub ruleset spread = drop-end

pub ruleset wanted = (unmet-next, unmet-here, drop-end)

pub ruleset answered = (names-node, from-next, from-end, late-here)
