-- What is known of the names of a machine, and lists of kinds that agree.
use Rattle.std.specs.Prelude.{◌≡◌, ℕ, List, [], ◌∷◌, map, Option}
use Rattle.hp_base.specs.Kinds.{KindData}
use Rattle.hp_base.specs.declared.ty.Ty.{Ty}
use Rattle.hp_obc.specs.declared.machine.Var.{Var}
use Rattle.hp_obc.specs.declared.machine.Mem.{Mem}
use Rattle.hp_obc.specs.Machines.{ObcType, Machine}
use Rattle.hp_obc.specs.Values.{kind_of}
use Rattle.hp_obc.specs.Form.{BothAre, written, machine_of}
use Rattle.hp_base.specs.Known.Known.{lookup}

-- the types of variables by their names
abbrev pub var_entries : List Var → List (List ℕ × Ty)
var_entries vars = map (λ (v : Var). (v.name, v.ty)) vars

abbrev pub mem_entries : List Mem → List (List ℕ × Ty)
mem_entries mems = map (λ (m : Mem). (m.name, m.ty)) mems

abbrev pub target_entries : Machine → List (List ℕ × Ty)
target_entries m = var_entries (written m)

-- machines by their names
abbrev pub machine_entries : List Machine → List (List ℕ × Machine)
machine_entries machines = map (λ (m : Machine). (m.name, m)) machines

-- Instances are looked up as the machine declares them.
abbrev pub Holds : List (List ℕ × Machine) → List Machine → List (List ℕ × List ℕ) → Type 0
Holds entries earlier insts = (i : List ℕ) → lookup entries i ≡ machine_of earlier insts i

-- Each thing has the kind of the variable that stands at its place.
module _ {A : Type 0} (kind : A → Option KindData) (types : List ObcType) where
  abbrev pub Agree : List A → List Var → Type 0
  Agree [] [] = Unit {0}
  Agree (a ∷ things) (v ∷ vars) = BothAre (kind a) (kind_of types v.ty) × Agree things vars
  Agree things vars = ⊥
