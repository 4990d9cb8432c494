-- Sets of lemmas that functions name.
use Rattle.std.proofs.lemmas.List.{length-map, take-map}
use Rattle.hp_tree.proofs.Lists.{nodes-at, nodes-at_part}
use Rattle.hp_tree.proofs.BlockLists.{lines-at_eqn, lines-at_arm, lines-at_state}
use Rattle.hp_cause.proofs.GrowLaws.{drop-end, more-nil, more-one, more-append, more-from_nil, facts-push, names-push, next-reader, next-vertex, next-declared}
use Rattle.hp_cause.proofs.AnswerLaws.{from-start, from-next, fall-end, causal-end, judged-here, named-here, names-node, one-more}
use Rattle.hp_cause.proofs.ClockLaws.{names-told}
use Rattle.hp_cause.proofs.TurnLaws.{number-known, number-unknown, described-push, point-there, point-beyond}
use Rattle.hp_cause.proofs.TableLaws.{declares-in, path-there, path-beyond}
use Rattle.hp_cause.proofs.EntryLaws.{front-more, front-left}

pub ruleset told = (more-nil, more-append, facts-push, next-reader, drop-end)

pub ruleset gathered = (more-nil, more-append)

pub ruleset gathered_in_lists = (more-nil, more-append, drop-end, nodes-at, nodes-at_part)

pub ruleset gathered_in_blocks = (more-nil, more-append, drop-end, lines-at_eqn, lines-at_arm, lines-at_state)

pub ruleset gathered_in_nodes = (more-nil, more-from_nil, more-append)

pub ruleset around = (more-nil, more-one, more-append, names-push, next-declared, drop-end)

pub ruleset names = (more-nil, more-from_nil, more-one, more-append, names-push, drop-end)

-- what is entered, and left again
pub ruleset entered = (more-from_nil, front-more, length-map)

pub ruleset left = (front-left, take-map)

pub ruleset locals = (declares-in, path-there, path-beyond)

pub ruleset targeted = (more-nil, more-from_nil, more-one, next-vertex, drop-end)

pub ruleset clocks = (more-nil, drop-end)

pub ruleset tellings = (more-from_nil, names-told)

pub ruleset ordered = (from-start, from-next, fall-end, causal-end, judged-here, named-here, names-node, one-more)

pub ruleset numbered = (number-known, number-unknown, drop-end)

pub ruleset described = (more-nil, more-from_nil, more-one, more-append, described-push, point-there, point-beyond, drop-end)
