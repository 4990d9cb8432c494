-- Sets of lemmas that functions name.
use Rattle.hp_form.proofs.KindLaws.{enum_told, constructor_told, integer_told}
use Rattle.hp_form.proofs.SizeLaws.{size-at_cmd, size-at_arm}
use Rattle.hp_form.proofs.EachLaws.{known_is, with_new}

-- kinds by the numbers of types
pub ruleset told = (enum_told, constructor_told, integer_told)

-- parts of commands are smaller
pub ruleset sizes = (size-at_cmd, size-at_arm)

-- what is known of names
pub ruleset known = (known_is, with_new)
