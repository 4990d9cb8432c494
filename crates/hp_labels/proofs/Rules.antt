-- Sets of lemmas that functions name.
use Rattle.hp_tree.proofs.Lists.{nodes-at, nodes-at_part}
use Rattle.hp_tree.proofs.BlockLists.{lines-at_eqn, lines-at_arm, lines-at_state}

pub ruleset nodes = (nodes-at, nodes-at_part)

pub ruleset lines = (lines-at_eqn, lines-at_arm, lines-at_state)
