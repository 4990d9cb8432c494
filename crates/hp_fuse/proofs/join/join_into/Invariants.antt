use Rattle.std.proofs.Common.{◌≡◌, ◌≤◌, ◌+◌, map, length, vec_len, vec_capacity}
use Rattle.hp_obc.specs.CommandView.{cmd_seen}
use Rattle.hp_obc.specs.Commands.{cmds_of, and_then}
use Rattle.hp_fuse.specs.Fusing.{is_steady, followed, led_by, joined}
use Rattle.hp_fuse.specs.Likeness.{AreAlike}
use Rattle.hp_fuse.specs.Joining.{ahead}
use Rattle.hp_fuse.proofs.join.join_into.Given as goal

abbrev pub decreases-loop-found : goal.decreases-loop-found
decreases-loop-found l = length (ahead l.rest)

abbrev pub invariant-loop-found : goal.invariant-loop-found
invariant-loop-found l = record {
  room : vec_len l.into + (length (ahead l.rest) + 1) ≤ vec_capacity l.into;
  steady : l.steady ≡ is_steady (cmd_seen l.last);
  joined : followed (cmds_of (map cmd_seen l.into.items)) (led_by (cmd_seen l.last) (joined (cmds_of (ahead l.rest)))) ≡ led_by (cmd_seen l.initial.last) (joined (cmds_of (ahead l.initial.rest)));
  alike : AreAlike (and_then (cmd_seen l.initial.last) (cmds_of (ahead l.initial.rest))) (followed (cmds_of (map cmd_seen l.into.items)) (and_then (cmd_seen l.last) (cmds_of (ahead l.rest))));
}
