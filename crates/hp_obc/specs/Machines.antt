-- Types, machines and files of machines as plain data.
use Rattle.std.specs.Prelude.{ℕ, List}
use Rattle.hp_obc.specs.declared.machine.Var.{Var}
use Rattle.hp_obc.specs.declared.machine.Mem.{Mem}
use Rattle.hp_obc.specs.Commands.{Cmds}

-- an enumeration, with its constructors in order
pub record ObcType : Type 0 where
  pub name : List ℕ
  pub cons : List (List ℕ)

-- a machine; an instance is its name and the name of its machine
pub record Machine : Type 0 where
  pub name : List ℕ
  pub inputs : List Var
  pub outputs : List Var
  pub vars : List Var
  pub mems : List Mem
  pub insts : List (List ℕ × List ℕ)
  pub step : Cmds

-- a file of machines: its types and machines, in order
pub record Obc : Type 0 where
  pub types : List ObcType
  pub machines : List Machine
