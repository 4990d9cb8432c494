use Rattle.std.proofs.Common.{◌≤◌, ◌+◌, ◌*◌, map, drop}
use Rattle.std.specs.Prelude.{◌↔◌}
use Rattle.hp_obc.specs.CommandView.{cmd_seen}
use Rattle.hp_obc.specs.Commands.{cmds_of, arms_of}
use Rattle.hp_obc.specs.Form.{depth, depth_of_arms}
use Rattle.hp_form.proofs.levels.+levels.Given as goal

abbrev pub decreases-are_shallow : goal.decreases-are_shallow
decreases-are_shallow l = 4 * l.levels + 3

abbrev pub decreases-is_shallow : goal.decreases-is_shallow
decreases-is_shallow l = 4 * l.levels + 2

abbrev pub decreases-arms_are_shallow : goal.decreases-arms_are_shallow
decreases-arms_are_shallow l = 4 * l.levels + 1

abbrev pub decreases-arm_is_shallow : goal.decreases-arm_is_shallow
decreases-arm_is_shallow l = 4 * l.levels

abbrev pub invariant-are_shallow-loop-cmd : goal.invariant-are_shallow-loop-cmd
invariant-are_shallow-loop-cmd l = (depth (cmds_of (map cmd_seen (drop l.cmd-index l.cmd-items))) ≤ l.levels) ↔ (depth (cmds_of (map cmd_seen l.cmd-items)) ≤ l.levels)

abbrev pub invariant-arms_are_shallow-loop-cmds : goal.invariant-arms_are_shallow-loop-cmds
invariant-arms_are_shallow-loop-cmds l = (depth_of_arms (arms_of (drop l.cmds-index l.arms)) ≤ l.levels) ↔ (depth_of_arms (arms_of l.arms) ≤ l.levels)
