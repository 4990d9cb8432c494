-- The commands of an arm are fewer than those around it.
use Rattle.std.specs.Prelude.{◌+◌, ◌≤◌, List, [], ◌∷◌, map}
use Rattle.std.proofs.Common.{arith}
use denote.Param.Weighed.{most}
use Rattle.hp_obc.specs.declared.command.Cmd.{Cmd}
use Rattle.hp_obc.specs.declared.command.Cmd.TheVariants.{Set, Call, Restart, Case}
use Rattle.hp_obc.specs.declared.command.Cmds.TheInside.{Inside}
use Rattle.hp_obc.specs.declared.command.Cmds.TheDeep.{deep-Cmds, deep-Cmd}
use Rattle.hp_obc.specs.CommandView.{cmds_seen, cmd_seen}
use Rattle.hp_obc.specs.Commands as tree
use Rattle.hp_obc.specs.Commands.{cmds_of, arms_of}
use Rattle.hp_obc.specs.Sizes.{size_of_cmds, size_of_cmd, size_of_arms}

most_of_arms : (arms : List tree.Cmds) → most (λ cs. size_of_cmds cs + 1) arms ≤ size_of_arms (arms_of arms) + 1
most_of_arms [] = omega arith
most_of_arms (cs ∷ arms) = omega (arith, most_of_arms arms)

cmd_smaller : (c : Cmd) → deep-Cmd c ≤ size_of_cmd (cmd_seen c)
cmd_smaller (Set x op args) = omega arith
cmd_smaller (Call i outs args) = omega arith
cmd_smaller (Restart i) = omega arith
cmd_smaller (Case x arms) = omega (arith, most_of_arms arms.items)

most_of_cmds : (cs : List Cmd) → most deep-Cmd cs ≤ size_of_cmds (cmds_of (map cmd_seen cs))
most_of_cmds [] = omega arith
most_of_cmds (c ∷ cs) = omega (arith, cmd_smaller c, most_of_cmds cs)

pub cmds_smaller : (a : Inside) → deep-Cmds a ≤ size_of_cmds (cmds_seen a)
cmds_smaller a = omega (arith, most_of_cmds a.list.items)
