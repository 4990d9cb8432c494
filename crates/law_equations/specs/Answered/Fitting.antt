-- When equations over flat names fit at an instant: whatever is read is there, and arguments are of their kinds where integers are of 32 bits.
use Rattle.std.specs.Prelude.{◌≡◌, ⊤, ℕ, ◌<◌, IsTrue, List, [], ◌∷◌, length, Some}
use Rattle.std.specs.List.{AllByRecursion}
use Rattle.hp_base.specs.Kinds.{KindData, AreOfKinds}
use Rattle.hp_base.specs.declared.value.Value.{Value}
use Rattle.hp_obc.specs.Steps.{Names}
use Rattle.hp_flat.specs.Equations.{FlatEqn}
use Rattle.law_equations.specs.Meaning.Fitting.{is_there, is_choice, is_flag}
use Rattle.law_equations.specs.Answered.Short.{AreShort}
use Rattle.law_equations.specs.Flattened.Flat.{Arg, name, value, Right, Op, Register, Call, Row, Flat, Now, holds, values}

module _ {A : Type 0} where
  -- A name of a clock, whose steps are innermost first, can be chosen by where the steps further out hold.
  abbrev pub StepsFit : List (Value × A) → Now A → Type 0
  StepsFit [] now = ⊤
  StepsFit (s ∷ steps) now = (IsTrue (holds steps now) → IsTrue (is_choice (now s.1))) × StepsFit steps now

  abbrev pub ArgFits : Now A → Arg A → Type 0
  ArgFits now (name a) = IsTrue (is_there (now a))
  ArgFits now (value v) = ⊤

  abbrev pub RightFits : Names (List KindData) → Now A → Right A → Type 0
  RightFits takes now (Op op xs) = AllByRecursion (ArgFits now) xs
  RightFits takes now (Register first next) = ArgFits now next
  RightFits takes now (Call f k xs) = AllByRecursion (ArgFits now) xs × (AreShort (values xs now) → AreOfKinds (takes f) (values xs now))

  -- The equation of a name fits.
  pub record RowFits (takes : Names (List KindData)) (now : Now A) (a : A) (r : Row A) : Type 0 where
    pub clock : StepsFit r.clock now
    pub restart : AllByRecursion (λ x. IsTrue (is_flag (now x))) r.restart
    pub right : IsTrue (holds r.clock now) → RightFits takes now r.right
    pub target : IsTrue (holds r.clock now) → IsTrue (is_there (now a))

  -- so does each of a name, and of all names that variables stand for
  abbrev pub FlatFits : Names (List KindData) → (ℕ → A) → Flat A → Now A → Type 0
  FlatFits takes means flat now = (x : ℕ) (rows : List (Row A)) → flat (means x) ≡ Some rows → AllByRecursion (RowFits takes now (means x)) rows

-- each equation defines something
abbrev pub DefineSome : List FlatEqn → Type 0
DefineSome es = AllByRecursion (λ (e : FlatEqn). 0 < length e.targets) es
