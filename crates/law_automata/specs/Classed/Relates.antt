-- What is known of the classes of names, and of those that stand for them without automata.
use Rattle.std.specs.Prelude.{◌≡◌, ℕ, IsFalse, List}
use Rattle.hp_init.specs.Classes.{Known, or_first}
use Rattle.law_automata.specs.Lowered.OldNames.{IsOld}

-- No new name is of class Second.
pub record NewFirst (k : Known) : Type 0 where
  pub variables : (y : List ℕ) → (IsOld y → ⊥) → IsFalse (or_first (k.variables y))
  pub values : (y : List ℕ) → (IsOld y → ⊥) → IsFalse (k.values y)

-- What stands for a name is a variable of its class, and First where it is read as First.
pub record Relates (to : List ℕ → List ℕ) (k l : Known) : Type 0 where
  pub variables : (x : List ℕ) → IsOld x → or_first (l.variables (to x)) ≡ or_first (k.variables x)
  pub values : (x : List ℕ) → IsOld x → IsFalse (k.values x) → IsFalse (l.values (to x))
  pub fresh : NewFirst l
