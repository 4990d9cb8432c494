-- Sets of lemmas that functions name.
use Rattle.hp_fuse.proofs.SizeLaws.{size-at_cmd, size-at_arm}
use Rattle.hp_fuse.proofs.Steps.{behind-seen}

-- parts of commands are smaller
pub ruleset sizes = (size-at_cmd, size-at_arm)

-- commands behind others
pub ruleset behind = (behind-seen)
