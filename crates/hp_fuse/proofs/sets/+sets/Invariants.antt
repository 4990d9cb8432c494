use Rattle.std.proofs.Common.{◌≡◌, ◌+◌, ◌*◌, map, drop}
use Rattle.hp_obc.specs.CommandView.{cmd_seen}
use Rattle.hp_obc.specs.Commands.{cmds_of, arms_of}
use Rattle.hp_obc.specs.Sizes.{size_of_cmds, size_of_cmd, size_of_arms}
use Rattle.hp_fuse.specs.Fusing.{set_in, set_in_arms}
use Rattle.hp_fuse.proofs.sets.+sets.Given as goal

abbrev pub decreases-set_in : goal.decreases-set_in
decreases-set_in l = 2 * size_of_cmds l.cmds.now

abbrev pub decreases-set_by : goal.decreases-set_by
decreases-set_by l = 2 * size_of_cmd (cmd_seen l.cmd.now)

abbrev pub decreases-set_in_arms : goal.decreases-set_in_arms
decreases-set_in_arms l = 2 * size_of_arms (arms_of l.arms.now) + 1

abbrev pub invariant-set_in-loop-cmd : goal.invariant-set_in-loop-cmd
invariant-set_in-loop-cmd l = set_in (cmds_of (map cmd_seen (drop l.cmd-index l.cmd-items))) l.name ≡ set_in (cmds_of (map cmd_seen l.cmd-items)) l.name

abbrev pub invariant-set_in_arms-loop-cmds : goal.invariant-set_in_arms-loop-cmds
invariant-set_in_arms-loop-cmds l = set_in_arms (arms_of (drop l.cmds-index l.arms)) l.name ≡ set_in_arms (arms_of l.arms) l.name
