-- What commands are seen as: one level, whose inner commands are seen already.
use Rattle.std.specs.Prelude.{map}
use Rattle.hp_obc.specs.declared.command.Cmd.{Cmd}
use Rattle.hp_obc.specs.declared.command.Cmd.TheVariants.{Set, Call, Restart, Case}
use Rattle.hp_obc.specs.declared.command.Cmds.TheInside.{Inside}
use Rattle.hp_obc.specs.Commands as tree
use Rattle.hp_obc.specs.Commands.{cmds_of, arms_of}

abbrev pub cmd_seen : Cmd → tree.Cmd
cmd_seen (Set x op args) = tree.set x op args.items
cmd_seen (Call i outs args) = tree.call i outs.items args.items
cmd_seen (Restart i) = tree.restart i
cmd_seen (Case x arms) = tree.case_of x (arms_of arms.items)

abbrev pub cmds_seen : Inside → tree.Cmds
cmds_seen a = cmds_of (map cmd_seen a.list.items)
