-- What the text of machines says. The arms of a case have the values of the kind of its name, in order.
use Rattle.std.specs.Prelude.{ℕ, true, false, List, [], ◌∷◌, map, Option, Some}
use Rattle.hp_base.specs.Kinds.{KindData, Bools, Constructors}
use Rattle.hp_base.specs.declared.ty.Const.{Const}
use Rattle.hp_base.specs.declared.ty.Const.TheVariants.{B as BoolConst, E as EnumConst}
use Rattle.hp_obc.specs.Commands as tree
use Rattle.hp_obc.specs.Commands.{Cmds, Cmd, Arms}
use Rattle.hp_obc.specs.Form.{scope, kind_in}
use Rattle.hp_obc.specs.Machines.{ObcType, Machine, Obc}
use Rattle.hp_obctext.specs.Files.{Steps, Step, Branches, Text, File, done, and_then, set, call, restart, case_of, no_branch, more_branches}

-- the values of a kind, in order; none of integers
abbrev pub labels_of : Option KindData → List Const
labels_of (Some Bools) = BoolConst false ∷ BoolConst true ∷ []
labels_of (Some (Constructors n names)) = map EnumConst names
labels_of kind = []

-- The values for the arms of a case are known from its name.
module _ (labels : List ℕ → List Const) where
  abbrev mutual
    pub said : Cmds → Steps
    said tree.done = done
    said (tree.and_then c cs) = and_then (said_by c) (said cs)

    pub said_by : Cmd → Step
    said_by (tree.set x op args) = set x op args
    said_by (tree.call i outs args) = call i outs args
    said_by (tree.restart i) = restart i
    said_by (tree.case_of x arms) = case_of x (said_in (labels x) arms)

    pub said_in : List Const → Arms → Branches
    said_in (c ∷ cs) (tree.more_arms steps arms) = more_branches c (said steps) (said_in cs arms)
    said_in cs arms = no_branch

-- what the text of a machine says, where the values for the arms are known
abbrev pub text_by : (List ℕ → List Const) → Machine → Text
text_by labels m = record {
  name = m.name;
  inputs = m.inputs;
  outputs = m.outputs;
  vars = m.vars;
  mems = m.mems;
  insts = m.insts;
  steps = said labels m.step;
}

-- the values of the kind of a name in a machine
abbrev pub labels_in : List ObcType → Machine → List ℕ → List Const
labels_in types m x = labels_of (kind_in types (scope m) x)

abbrev pub text_of : List ObcType → Machine → Text
text_of types m = text_by (labels_in types m) m

-- what the text of a file of machines says
abbrev pub file_of : Obc → File
file_of o = record { types = o.types; machines = map (text_of o.types) o.machines }
