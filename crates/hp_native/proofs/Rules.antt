-- Sets of lemmas that functions name.
use Rattle.hp_exec.proofs.Translating.{size-at_cmd, size-at_arm}

-- parts of commands are smaller
pub ruleset sizes = (size-at_cmd, size-at_arm)
