-- Variables by their numbers, and types by theirs.
use Rattle.std.specs.Prelude.{ℕ, false, List, [], length, get_or}
use Rattle.hp_base.specs.declared.value.Value.{Value}
use Rattle.hp_base.specs.declared.value.Value.TheVariants.{B, E, I}
use Rattle.hp_base.specs.declared.ty.Ty.{Ty}
use Rattle.hp_base.specs.declared.ty.Ty.TheVariants.{Bool as BoolTy, Int as IntTy, Enum as EnumTy}
use Rattle.hp_base.specs.declared.ty.Const.{Const}
use Rattle.hp_base.specs.declared.ty.Const.TheVariants.{B as BoolConst, I as IntConst, E as EnumConst}
use Rattle.hp_obc.specs.declared.command.Arg.{Arg}
use Rattle.hp_obc.specs.declared.command.Arg.TheVariants.{Name as NameArg, Const as ConstArg}
use Rattle.hp_obc.specs.Machines.{ObcType}
use Rattle.hp_flat.specs.declared.equation.Atom.{Atom}
use Rattle.hp_flat.specs.declared.equation.Atom.TheVariants.{Variable as VariableAtom, Value as ValueAtom}
use Rattle.hp_flat.specs.declared.node.FlatTy.{FlatTy}
use Rattle.hp_flat.specs.declared.node.FlatTy.TheVariants.{Bool as FlatBool, Int as FlatInt, Enum as FlatEnum}
use Rattle.hp_flat.specs.declared.node.Variable.{Variable}

-- the variable of a number; one with no name where there is none
abbrev pub variable_at : List Variable → ℕ → Variable
variable_at variables x = get_or variables x (record { name = []; ty = FlatInt })

abbrev pub name_of : List Variable → ℕ → List ℕ
name_of variables x = (variable_at variables x).name

abbrev pub variable_type : List Variable → ℕ → FlatTy
variable_type variables x = (variable_at variables x).ty

-- the type of a number; one with no name and no constructor where there is none
abbrev pub type_at : List ObcType → ℕ → ObcType
type_at types n = get_or types n (record { name = []; cons = [] })

abbrev pub type_of : List ObcType → FlatTy → Ty
type_of types FlatBool = BoolTy
type_of types FlatInt = IntTy
type_of types (FlatEnum n) = EnumTy (type_at types n).name

-- how many arms a case over a variable of a type has
abbrev pub width_of : List ObcType → FlatTy → ℕ
width_of types FlatBool = 2
width_of types FlatInt = 0
width_of types (FlatEnum n) = length (type_at types n).cons

-- the name of a constructor, by the number of its type and its own
abbrev pub constructor_at : List ObcType → ℕ → ℕ → List ℕ
constructor_at types t c = get_or (type_at types t).cons c []

-- a value as a constant; one that no program writes is false
abbrev pub constant : List ObcType → Value → Const
constant types (B b) = BoolConst b
constant types (I n) = IntConst n
constant types (E t c) = EnumConst (constructor_at types t c)
constant types v = BoolConst false

abbrev pub argument : List ObcType → List Variable → Atom → Arg
argument types variables (VariableAtom x) = NameArg (name_of variables x)
argument types variables (ValueAtom v) = ConstArg (constant types v)
