-- What the proofs of the pass over a node cite.
use Rattle.hp_tree.proofs.BlockLists.{lines-at_eqn, lines-at_arm, lines-at_state}
use Rattle.hp_clocks.proofs.Leading.{drop_end}
use Rattle.hp_clocks.proofs.SightLaws.{front_more, front_left}
use Rattle.hp_clocks.proofs.NamedLaws.{more-nil, more-from_nil, more-one, more-append}

pub ruleset lists = (more-nil, more-one, more-append)

pub ruleset units = (more-nil, more-one, more-append)

pub ruleset in_lists = (more-nil, more-one, more-append, drop_end)

pub ruleset paths = drop_end

pub ruleset lefts = drop_end

pub ruleset entered = (more-nil, more-append, front_more)

pub ruleset left = front_left

pub ruleset blocks = (more-nil, more-append, drop_end, lines-at_eqn, lines-at_arm, lines-at_state)

pub ruleset nodes = (more-nil, more-from_nil, more-append)
