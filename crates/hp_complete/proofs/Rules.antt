-- What the code's proofs use, by topic.
use Rattle.std.proofs.lemmas.List.{take_all, append-nil}
use Rattle.hp_tree.proofs.Lists.{nodes-at, nodes-at_part}
use Rattle.hp_tree.proofs.BlockLists.{lines-at_eqn, lines-at_arm}
use Rattle.hp_complete.proofs.DraftLaws.{first-output, outputs-bound, entered-on}
use Rattle.hp_complete.proofs.HidingLaws.{declared-all, hidden-all}
use Rattle.hp_complete.proofs.LayerLaws.{drop-end, inner-pushed, front-others, sight-all}
use Rattle.hp_complete.proofs.SignatureLaws.{names-next, name-pushed, no-name}
use Rattle.hp_complete.proofs.MadeLaws.{made-type, made-node, made-next}
use Rattle.hp_complete.proofs.NameLaws.{keeps-none, keeps-some}
use Rattle.hp_complete.proofs.StemLaws.{stem-begin, stem-next, stem-found, stem-end}
use Rattle.hp_complete.proofs.TellingLaws.{path-told}

-- a part is no larger than the list that it stands in
pub ruleset parts = (nodes-at, nodes-at_part, drop-end, append-nil)

pub ruleset grown = (drop-end, append-nil)

pub ruleset calls = first-output

pub ruleset lines = (lines-at_eqn, lines-at_arm, drop-end)

pub ruleset type_names = (names-next, name-pushed, no-name, take_all)

pub ruleset made = (made-type, made-node, made-next, take_all)

-- the part of a name before the sign
pub ruleset stems = (stem-begin, stem-next, stem-found, stem-end, take_all)

-- layers
pub ruleset layers = (inner-pushed, front-others)

pub ruleset sights = (sight-all, front-others)

pub ruleset hidden = (declared-all, hidden-all)

-- the clock of a definition
pub ruleset told = (path-told, entered-on)

pub ruleset bound = outputs-bound

-- variables of a block
pub ruleset owned = (keeps-none, keeps-some)
