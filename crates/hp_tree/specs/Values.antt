-- Values of types.
use Rattle.std.specs.Prelude.{ℕ, ◌≡◌, ⊤, List, [], ◌∷◌, Contains, if◌then◌else◌}
use Rattle.std.specs.Str.{bytes_eq}
use Rattle.hp_base.specs.declared.ty.Ty.{Ty}
use Rattle.hp_base.specs.declared.ty.Ty.TheVariants as ty
use Rattle.hp_base.specs.declared.value.Value.{Value}
use Rattle.hp_base.specs.declared.value.Value.TheVariants.{B, E, I}
use Rattle.hp_tree.specs.Blocks.{Decl}
use Rattle.hp_tree.specs.Programs.{TypeDecl}
use Rattle.hp_tree.specs.Operators.{constructor_from}

-- the constructors of a type
abbrev pub constructors_of : List TypeDecl → List ℕ → List (List ℕ)
constructors_of [] t = []
constructors_of (d ∷ ds) t = if bytes_eq d.name t then d.cons else constructors_of ds t

-- A value is of a type; Absent, Nil and the mark are of none.
abbrev pub IsOf : List TypeDecl → Ty → Value → Type 0
IsOf types ty.Bool (B b) = ⊤
IsOf types ty.Int (I n) = ⊤
IsOf types (ty.Enum t) (E u k) = (c : List ℕ) × Contains (constructors_of types t) c × (E u k ≡ constructor_from 0 types c)
IsOf types t v = ⊥

-- one value for each declaration, of its type
abbrev pub AreOf : List TypeDecl → List Decl → List Value → Type 0
AreOf types [] [] = ⊤
AreOf types (d ∷ ds) (v ∷ vs) = IsOf types d.ty v × AreOf types ds vs
AreOf types ds vs = ⊥
