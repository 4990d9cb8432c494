-- How many commands and lists of commands there are in a list of commands, itself counted.
use Rattle.std.specs.Prelude.{ℕ, ◌+◌}
use Rattle.hp_obc.specs.Commands.{Cmds, Cmd, Arms, done, and_then, set, call, restart, case_of, no_arm, more_arms}

abbrev mutual
  pub size_of_cmds : Cmds → ℕ
  size_of_cmds done = 1
  size_of_cmds (and_then c cs) = size_of_cmd c + size_of_cmds cs

  pub size_of_cmd : Cmd → ℕ
  size_of_cmd (set x op args) = 1
  size_of_cmd (call i outs args) = 1
  size_of_cmd (restart i) = 1
  size_of_cmd (case_of x arms) = size_of_arms arms + 1

  pub size_of_arms : Arms → ℕ
  size_of_arms no_arm = 0
  size_of_arms (more_arms cs arms) = size_of_cmds cs + size_of_arms arms
