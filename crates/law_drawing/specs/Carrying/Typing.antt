-- What is asked of the constructors of a program that is drawn.
use Rattle.std.specs.Prelude.{ℕ, ◌≡◌, ⊤, IsTrue, List, [], ◌∷◌, Some}
use Rattle.hp_tree.specs.declared.decl.Cons.{Cons}
use Rattle.hp_typing.specs.Types.{agrees, cons_type}
use Rattle.hp_base.specs.declared.ty.Ty.TheVariants as ty
use Rattle.hp_base.specs.declared.value.Value.TheVariants.{E}
use Rattle.hp_tree.specs.Operators.{constructor_from}
use Rattle.hp_tree.specs.Programs.{TypeDecl}
use Rattle.hp_tree.specs.Values.{IsOf}
use Rattle.hp_base.specs.Known.Known.{lookup}
use Rattle.law_judged.specs.Typed.Scopes.{Scope}
use Rattle.hp_meaning.specs.Contract.Memory.{number_in}
use Rattle.hp_drawing.specs.Told.{Told, constructor_number}

-- A constructor has the number of its value, which is of its type; values of one type have the number of that type.
pub record AreNumbered (types : List TypeDecl) (t : Told) (s : Scope) : Type 0 where
  pub numbers : (c : List ℕ) → number_in (constructor_from 0 types c) ≡ constructor_number (t.constructors c)
  pub of_type : (c x : List ℕ) → lookup s.constructors c ≡ Some x → IsOf types (ty.Enum x) (constructor_from 0 types c)
  pub one_type : (x : List ℕ) (u j v k : ℕ) → IsOf types (ty.Enum x) (E u j) → IsOf types (ty.Enum x) (E v k) → u ≡ v

-- Each step of a clock's path is over a name of the type of its constructor.
abbrev pub PathFits : Scope → List (Cons × List ℕ) → Type 0
PathFits s [] = ⊤
PathFits s (step ∷ steps) = IsTrue (agrees (lookup s.variables step.1) (cons_type s step.0)) × PathFits s steps
