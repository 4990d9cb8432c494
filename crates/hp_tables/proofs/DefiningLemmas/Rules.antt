-- Sets of lemmas that functions name.
use Rattle.hp_tables.proofs.DefiningLemmas.LayerLaws.{next-declared}
use Rattle.hp_tree.proofs.BlockLists.{lines-at_eqn, lines-at_arm, lines-at_state}
use Rattle.hp_tables.proofs.DefiningLemmas.NameLaws.{drop-end, more-nil, more-one, more-append, more-from_nil, names-push, names-left, names-undeclared, names-eqns, names-arms, names-states, names-controls}

pub ruleset names = (next-declared, more-nil, more-from_nil, more-one, more-append, names-push, names-left, names-undeclared, names-eqns, names-arms, names-states, names-controls, drop-end, lines-at_eqn, lines-at_arm, lines-at_state)
