-- Sets of lemmas that functions name.
use Rattle.hp_tree.proofs.Lists.{nodes-at, nodes-at_part}
use Rattle.hp_tree.proofs.BlockLists.{lines-at_eqn, lines-at_arm, lines-at_state}
use Rattle.hp_drawing.proofs.ListLaws.{drop-end}
use Rattle.hp_abstract.proofs.NameLaws.{states-counted}
use Rattle.hp_abstract.proofs.TableLaws.{counts-end}
use Rattle.hp_abstract.proofs.ScopeLaws.{inner-pushed, front-others, found-all, length-seen, entry-next, entry-none}

pub ruleset nodes = (nodes-at, nodes-at_part, drop-end)

pub ruleset lines = (lines-at_eqn, lines-at_arm, lines-at_state, drop-end)

pub ruleset tables = (counts-end, drop-end)

pub ruleset rows = (drop-end)

pub ruleset states = (drop-end, states-counted)

pub ruleset layers = (inner-pushed, front-others, found-all, length-seen)

pub ruleset entries = (drop-end, entry-next, entry-none)
