-- Sets of lemmas that functions name.
use Rattle.hp_tree.proofs.BlockLists.{lines-at_eqn, lines-at_arm, lines-at_state}
use Rattle.std.proofs.lemmas.List.{take_all, map_more, append-nil}
use Rattle.hp_automata.proofs.ListLaws.{drop-end, front-more, more-nil, more-from_nil, more-one, more-append, more-cons, more-is, names-push, seen-pushed}
use Rattle.hp_automata.proofs.LayerLaws.{said-here, said-further, said-all, declaring-next, enumerations-next}
use Rattle.hp_automata.proofs.PartLaws.{transition-locals-next, choices-next, value-locals-next, joined-next, idle-next, locals-next, kept-next}
use Rattle.hp_automata.proofs.BlockLaws.{declared-left, block-entered, body-entered, arms-mapped, eqns-end}
use Rattle.hp_automata.proofs.WordLaws.{new-next, new-here, new-end, signed-old, signed-new}
use Rattle.hp_automata.proofs.NameLaws.{missing-next, known-paired, paired-more, with-known, with-new, is_name-once, once-next}

-- names that are none of others
pub ruleset names = (more-nil, more-from_nil, more-one, more-append, names-push, missing-next, drop-end)

-- and each once
pub ruleset once = (known-paired, paired-more, with-known, with-new, more-one, names-push, once-next, is_name-once, drop-end)

-- the sign in a name
pub ruleset signs = (new-next, new-here, new-end, signed-old, signed-new)

pub ruleset pushed = seen-pushed

pub ruleset more = map_more

-- what stands for names, layer by layer
pub ruleset layers = (said-here, said-further, said-all)

-- which types are known
pub ruleset declared = (declaring-next, drop-end)

-- lists that grow
pub ruleset growing = (more-nil, more-one, more-append, more-cons, transition-locals-next, choices-next, value-locals-next, joined-next, idle-next, locals-next, drop-end)

pub ruleset made = (more-is, more-from_nil, more-append, more-cons, append-nil)

-- names that keep their last values
pub ruleset kept = (more-nil, more-from_nil, kept-next, drop-end)

pub ruleset left = front-more

-- blocks, element by element
pub ruleset lowered = (declared-left, block-entered, body-entered, arms-mapped, eqns-end, more-nil, more-append, map_more, drop-end, lines-at_eqn, lines-at_arm, lines-at_state)

pub ruleset enumerated = (enumerations-next, drop-end)
