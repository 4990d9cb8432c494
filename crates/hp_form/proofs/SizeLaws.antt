-- A command or an arm is smaller than the list that it stands in.
use Rattle.std.proofs.Common.{ℕ, zero, suc, ◌<◌, ◌≤◌, List, [], ◌∷◌, length, map, get_or, arith}
use Rattle.hp_obc.specs.declared.command.Cmd.{Cmd}
use Rattle.hp_obc.specs.CommandView.{cmd_seen}
use Rattle.hp_obc.specs.Commands.{Cmds, cmds_of, arms_of}
use Rattle.hp_obc.specs.Sizes.{size_of_cmds, size_of_cmd, size_of_arms}

size-positive : (cs : List Cmd) → 0 < size_of_cmds (cmds_of (map cmd_seen cs))
size-positive [] = omega arith
size-positive (c ∷ cs) = omega (arith, size-positive cs)

pub size-at_cmd : (cs : List Cmd) (i : ℕ) (d : Cmd) → i < length cs → size_of_cmd (cmd_seen (get_or cs i d)) < size_of_cmds (cmds_of (map cmd_seen cs))
size-at_cmd [] i d h = absurd (omega arith)
size-at_cmd (c ∷ cs) zero d h = omega (arith, size-positive cs)
size-at_cmd (c ∷ cs) (suc i) d h = omega (arith, size-at_cmd cs i d (omega arith))

pub size-at_arm : (arms : List Cmds) (i : ℕ) (d : Cmds) → i < length arms → size_of_cmds (get_or arms i d) ≤ size_of_arms (arms_of arms)
size-at_arm [] i d h = absurd (omega arith)
size-at_arm (cs ∷ arms) zero d h = omega arith
size-at_arm (cs ∷ arms) (suc i) d h = omega (arith, size-at_arm arms i d (omega arith))
