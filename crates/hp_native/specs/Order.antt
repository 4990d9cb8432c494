-- The machines of the lesser and of the greater of two integers.
use Rattle.std.specs.Prelude.{ℕ, List, [], ◌∷◌, codes, map}
use Rattle.hp_base.specs.declared.ty.Ty.{Ty}
use Rattle.hp_base.specs.declared.ty.Ty.TheVariants.{Bool as BoolTy, Int as IntTy}
use Rattle.hp_base.specs.declared.value.Value.{Value}
use Rattle.hp_obc.specs.declared.command.Arg.{Arg}
use Rattle.hp_obc.specs.declared.command.Arg.TheVariants.{Name as NameArg}
use Rattle.hp_obc.specs.declared.command.ObcOp.TheVariants.{Mux, Lt}
use Rattle.hp_obc.specs.declared.machine.Var.{Var}
use Rattle.hp_obc.specs.Commands.{Cmds, done, and_then, set}
use Rattle.hp_obc.specs.Machines.{Machine}
use Rattle.hp_obc.specs.Values.{binary, ternary}

-- the lesser and the greater of two values, where these are integers
abbrev pub lesser : Value → Value → Value
lesser v w = ternary Mux (binary Lt v w) v w

abbrev pub greater : Value → Value → Value
greater v w = ternary Mux (binary Lt v w) w v

abbrev pub named : List ℕ → Ty → Var
named x ty = record { name = x; ty = ty }

abbrev pub args_of : List (List ℕ) → List Arg
args_of xs = map NameArg xs

abbrev pub ordering_commands : List ℕ → List ℕ → Cmds
ordering_commands least other =
    and_then (set (codes "t") Lt (args_of (codes "a" ∷ codes "b" ∷ []))) (and_then (set (codes "m") Mux (args_of (codes "t" ∷ least ∷ other ∷ []))) done)

-- Whether the input a is less than b stands in t, and by it the output m is one of two names.
abbrev pub ordering : List ℕ → List ℕ → List ℕ → Machine
ordering name least other = record {
  name = name;
  inputs = named (codes "a") IntTy ∷ named (codes "b") IntTy ∷ [];
  outputs = named (codes "m") IntTy ∷ [];
  vars = named (codes "t") BoolTy ∷ [];
  mems = [];
  insts = [];
  step = ordering_commands least other;
}

abbrev pub min_machine : Machine
min_machine = ordering (codes "min") (codes "a") (codes "b")

abbrev pub max_machine : Machine
max_machine = ordering (codes "max") (codes "b") (codes "a")
