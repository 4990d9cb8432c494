-- Exactly integers are carried as marks: what is asked of the names of a drawing, by their types.
-- Source: own.
use Rattle.std.specs.Prelude.{ℕ, ◌≡◌, IsTrue, List, Some}
use Rattle.hp_base.specs.declared.ty.Ty.{Ty}
use Rattle.hp_base.specs.Known.Known.{lookup}
use Rattle.law_judged.specs.Typed.Scopes.{Scope as TypeScope}
use Rattle.law_values.specs.Valued.Judged.{Lasts}
use Rattle.hp_meaning.specs.Contract.Slots.{is_int}
use Rattle.hp_drawing.specs.Kept.{is_mark}
use Rattle.hp_drawing.specs.Scopes.{Scope, value_in, last_in}

-- names, and their last values, are integers by their types
pub record AreTyped (g : TypeScope) (has_last : Lasts) (z : Scope) : Type 0 where
  pub values : (x : List ℕ) (u : Ty) → lookup g.variables x ≡ Some u → is_mark (value_in z x).shape ≡ is_int u
  pub lasts : (x : List ℕ) (u : Ty) → IsTrue (has_last x) → lookup g.variables x ≡ Some u → is_mark (last_in z x).shape ≡ is_int u
  pub known : (x : List ℕ) → IsTrue (has_last x) → (u : Ty) × (lookup g.variables x ≡ Some u)
