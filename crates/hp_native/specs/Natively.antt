-- What the step of a machine gives that stands alone.
use Rattle.std.specs.Prelude.{◌≡◌, Bool, true, false, ◌&&◌, ◌==◌, IsTrue, List, [], ◌∷◌, length, unwrap_or}
use Rattle.std.specs.List.{list_all}
use Rattle.hp_base.specs.Kinds.{KindData, Bools, Ints, AreOfKinds}
use Rattle.hp_base.specs.declared.ty.Ty.{Ty}
use Rattle.hp_base.specs.declared.ty.Ty.TheVariants.{Bool as BoolTy, Int as IntTy, Enum as EnumTy}
use Rattle.hp_base.specs.declared.value.Value.{Value}
use Rattle.hp_base.specs.declared.value.Value.TheVariants.{B, I}
use Rattle.hp_obc.specs.declared.machine.Var.{Var}
use Rattle.hp_obc.specs.Machines.{ObcType, Machine}
use Rattle.hp_obc.specs.Kinded.{kinds_in}
use Rattle.hp_obc.specs.Values.{kind_of}
use Rattle.hp_obc.specs.Steps.{unknown, empty, behaviour}

-- the type of truth values or that of integers
abbrev pub is_simple : Ty → Bool
is_simple BoolTy = true
is_simple IntTy = true
is_simple (EnumTy x) = false

abbrev pub are_simple : List Var → Bool
are_simple vars = list_all (λ (x : Var). is_simple x.ty) vars

-- a machine has no memories and no instances, and all its variables are truth values and integers
abbrev pub is_plain : Machine → Bool
is_plain m = length m.mems == 0 && length m.insts == 0 && are_simple m.inputs && are_simple m.outputs && are_simple m.vars

-- the kinds of inputs and outputs of a plain machine, which are the same in every file
abbrev pub ins_of : Machine → List KindData
ins_of m = kinds_in [] m.inputs

abbrev pub outs_of : Machine → List KindData
outs_of m = kinds_in [] m.outputs

-- what a step of a machine without memories and instances gives, in a file of some types
abbrev pub outputs_of : List ObcType → Machine → List Value → List Value
outputs_of types m inputs = ((behaviour types unknown m).step empty inputs).outputs

-- A plain machine gives the same in every file.
pub record IsNative (m : Machine) : Type 0 where
  pub plain : IsTrue (is_plain m)
  pub alone : (types : List ObcType) (inputs : List Value) → AreOfKinds (ins_of m) inputs → outputs_of types m inputs ≡ outputs_of [] m inputs

-- the kind of a simple type, which is the same in every file
abbrev pub kind_in : Ty → KindData
kind_in ty = unwrap_or (kind_of [] ty) Bools

-- whether values are of kinds of simple types, one by one
abbrev pub fits_one : KindData → Value → Bool
fits_one Bools (B b) = true
fits_one Ints (I n) = true
fits_one kind value = false

abbrev pub fits : List KindData → List Value → Bool
fits [] [] = true
fits (kind ∷ kinds) (value ∷ values) = fits_one kind value && fits kinds values
fits kinds values = false
