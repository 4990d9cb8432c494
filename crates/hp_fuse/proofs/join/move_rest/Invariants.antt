use Rattle.std.proofs.Common.{◌≡◌, ◌≤◌, ◌+◌, ◌++◌, map, length, vec_len, vec_capacity}
use Rattle.hp_obc.specs.CommandView.{cmd_seen}
use Rattle.hp_fuse.specs.Joining.{ahead}
use Rattle.hp_fuse.proofs.join.move_rest.Given as goal

abbrev pub decreases-loop-cmd : goal.decreases-loop-cmd
decreases-loop-cmd l = length (ahead l.rest)

abbrev pub invariant-loop-cmd : goal.invariant-loop-cmd
invariant-loop-cmd l = record {
  room : vec_len l.into + length (ahead l.rest) ≤ vec_capacity l.into;
  moved : map cmd_seen l.into.items ++ ahead l.rest ≡ map cmd_seen l.initial.into.items ++ ahead l.initial.rest;
}
