use Rattle.std.proofs.Common.{◌+◌, ◌*◌, map, drop}
use Rattle.std.specs.Prelude.{◌↔◌}
use Rattle.hp_obc.specs.CommandView.{cmd_seen}
use Rattle.hp_obc.specs.Commands.{cmds_of, arms_of}
use Rattle.hp_obc.specs.Form.{HaveForm, ArmsHaveForm}
use Rattle.hp_obc.specs.Sizes.{size_of_cmds, size_of_cmd, size_of_arms}
use Rattle.hp_form.proofs.command.+commands.Given as goal

abbrev pub decreases-have_form : goal.decreases-have_form
decreases-have_form l = 2 * size_of_cmds l.cmds.now

abbrev pub decreases-has_form : goal.decreases-has_form
decreases-has_form l = 2 * size_of_cmd (cmd_seen l.cmd.now)

abbrev pub decreases-arms_have_form : goal.decreases-arms_have_form
decreases-arms_have_form l = 2 * size_of_arms (arms_of l.arms.now) + 1

abbrev pub invariant-have_form-loop-cmd : goal.invariant-have_form-loop-cmd
invariant-have_form-loop-cmd l =
    HaveForm l.names.types.now.declared.now l.names.earlier.now l.names.machine.now (cmds_of (map cmd_seen (drop l.cmd-index l.cmd-items)))
    ↔ HaveForm l.names.types.now.declared.now l.names.earlier.now l.names.machine.now (cmds_of (map cmd_seen l.cmd-items))

abbrev pub invariant-arms_have_form-loop-cmds : goal.invariant-arms_have_form-loop-cmds
invariant-arms_have_form-loop-cmds l =
    ArmsHaveForm l.names.types.now.declared.now l.names.earlier.now l.names.machine.now (arms_of (drop l.cmds-index l.arms))
    ↔ ArmsHaveForm l.names.types.now.declared.now l.names.earlier.now l.names.machine.now (arms_of l.arms)
