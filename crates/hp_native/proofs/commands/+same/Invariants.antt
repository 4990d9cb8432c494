use Rattle.std.proofs.Common.{◌≡◌, ◌+◌, ◌*◌, map, take}
use Rattle.hp_obc.specs.CommandView.{cmd_seen}
use Rattle.hp_obc.specs.Commands.{arms_of}
use Rattle.hp_obc.specs.Sizes.{size_of_cmds, size_of_cmd, size_of_arms}
use Rattle.hp_native.proofs.commands.+same.Given as goal

abbrev pub decreases-same_commands : goal.decreases-same_commands
decreases-same_commands l = 3 * size_of_cmds l.cmds.now

abbrev pub decreases-same_command : goal.decreases-same_command
decreases-same_command l = 3 * size_of_cmd (cmd_seen l.cmd.now) + 2

abbrev pub decreases-is_case : goal.decreases-is_case
decreases-is_case l = 3 * size_of_arms (arms_of l.arms.now) + 2

abbrev pub decreases-same_arms : goal.decreases-same_arms
decreases-same_arms l = 3 * size_of_arms (arms_of l.arms.now) + 1

abbrev pub invariant-same_commands-loop-i : goal.invariant-same_commands-loop-i
invariant-same_commands-loop-i l = map cmd_seen (take l.i l.cmds-inside.list.items) ≡ map cmd_seen (take l.i l.others-inside.list.items)

abbrev pub invariant-same_arms-loop-i : goal.invariant-same_arms-loop-i
invariant-same_arms-loop-i l = take l.i l.arms ≡ take l.i l.others
