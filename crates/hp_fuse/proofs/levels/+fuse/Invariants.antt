use Rattle.std.proofs.Common.{◌≡◌, ◌+◌, ◌*◌, map}
use Rattle.hp_obc.specs.CommandView.{cmd_seen}
use Rattle.hp_fuse.specs.Fusing.{fused_to, within}
use Rattle.hp_fuse.proofs.Steps.{mapped_to}
use Rattle.hp_fuse.proofs.levels.+fuse.Given as goal

abbrev pub decreases-fuse_cmds : goal.decreases-fuse_cmds
decreases-fuse_cmds l = 4 * l.levels

abbrev pub decreases-fuse_each : goal.decreases-fuse_each
decreases-fuse_each l = 4 * l.levels + 3

abbrev pub decreases-fuse_within : goal.decreases-fuse_within
decreases-fuse_within l = 4 * l.levels + 2

abbrev pub decreases-fuse_arms : goal.decreases-fuse_arms
decreases-fuse_arms l = 4 * l.levels + 1

abbrev pub invariant-fuse_each-loop-cmd : goal.invariant-fuse_each-loop-cmd
invariant-fuse_each-loop-cmd l = map cmd_seen l.cmds ≡ mapped_to (within (fused_to l.levels)) l.cmd-index (map cmd_seen l.initial.cmds)

abbrev pub invariant-fuse_arms-loop-cmds : goal.invariant-fuse_arms-loop-cmds
invariant-fuse_arms-loop-cmds l = l.arms ≡ mapped_to (fused_to l.levels) l.cmds-index l.initial.arms
