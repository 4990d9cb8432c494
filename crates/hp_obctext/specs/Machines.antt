-- The machines that a text says.
use Rattle.std.specs.Prelude.{map}
use Rattle.hp_obc.specs.Commands as tree
use Rattle.hp_obc.specs.Commands.{Cmds, Cmd, Arms}
use Rattle.hp_obc.specs.Machines.{Machine, Obc}
use Rattle.hp_obctext.specs.Files.{Steps, Step, Branches, Text, File, done, and_then, set, call, restart, case_of, no_branch, more_branches}

-- steps without the values of arms
abbrev mutual
  pub commands : Steps → Cmds
  commands done = tree.done
  commands (and_then s ss) = tree.and_then (command s) (commands ss)

  pub command : Step → Cmd
  command (set x op args) = tree.set x op args
  command (call i outs args) = tree.call i outs args
  command (restart i) = tree.restart i
  command (case_of x bs) = tree.case_of x (arms bs)

  pub arms : Branches → Arms
  arms no_branch = tree.no_arm
  arms (more_branches c ss bs) = tree.more_arms (commands ss) (arms bs)

abbrev pub machine_of : Text → Machine
machine_of m = record {
  name = m.name;
  inputs = m.inputs;
  outputs = m.outputs;
  vars = m.vars;
  mems = m.mems;
  insts = m.insts;
  step = commands m.steps;
}

abbrev pub machines_of : File → Obc
machines_of f = record { types = f.types; machines = map machine_of f.machines }
