-- Clocked equations over numbered variables, each of which stands for a flat name.
use Rattle.std.specs.Prelude.{◌≡◌, ⊤, ℕ, suc, ◌≤◌, true, nat_eq, if◌then◌else◌, IsTrue, IsFalse, List, [], ◌∷◌, ◌++◌, length, map, reverse, Option, None, Some}
use Rattle.std.specs.List.{AllByRecursion}
use Rattle.hp_base.specs.declared.value.Value.{Value}
use Rattle.hp_base.specs.declared.value.Value.TheVariants.{Absent, B, E}
use Rattle.hp_flat.specs.declared.equation.Atom.{Atom}
use Rattle.hp_flat.specs.declared.equation.Atom.TheVariants.{Variable, Value as Fixed}
use Rattle.hp_flat.specs.Equations.{Clock, Right as Given, operator, register, called, FlatEqn}
use Rattle.hp_flat.specs.Nodes.{FlatNode}
use Rattle.law_equations.specs.Meaning.Instants.{Instant}
use Rattle.law_equations.specs.Meaning.Reactions.{Answers, Reaction, inputs_of}
use Rattle.law_equations.specs.Meaning.Scheduling.{DefinesNoInput}
use Rattle.law_equations.specs.Flattened.Flat.{Arg, name, value, Right, Op, Register, Call, Row, Flat, Now, Behaviours, holds, FlatReaction}
use Rattle.law_equations.specs.Flattened.Flatten.{FlatName, Input, Nowhere}
use Rattle.law_equations.specs.Flattened.Timely.{Along}

-- the number of the constructor that a value is
abbrev pub number_of : Value → ℕ
number_of (B true) = 1
number_of (E t c) = c
number_of v = 0

-- the equations that define a variable, each with its place among the targets
abbrev pub targets_from : ℕ → List ℕ → FlatEqn → ℕ → List (FlatEqn × ℕ)
targets_from k [] e x = []
targets_from k (y ∷ ys) e x = if nat_eq y x then (e, k) ∷ targets_from (suc k) ys e x else targets_from (suc k) ys e x

abbrev pub definitions : List FlatEqn → ℕ → List (FlatEqn × ℕ)
definitions [] x = []
definitions (e ∷ es) x = targets_from 0 e.targets e x ++ definitions es x

-- ---- variables that stand for flat names

module _ (means : ℕ → FlatName) where
  -- an argument stands for another; one that is known to be absent for the name that has no value
  abbrev pub IsArg : Atom → Arg FlatName → Type 0
  IsArg (Variable x) (name a) = means x ≡ a
  IsArg (Fixed v) (name a) = (v ≡ Absent) × (a ≡ Nowhere)
  IsArg (Fixed v) (value w) = v ≡ w
  IsArg x a = ⊥

  abbrev pub AreArgs : List Atom → List (Arg FlatName) → Type 0
  AreArgs [] [] = ⊤
  AreArgs (x ∷ xs) (a ∷ args) = IsArg x a × AreArgs xs args
  AreArgs xs args = ⊥

  -- what gives values, of which the one at this place is meant
  abbrev pub IsRight : ℕ → Given → Right FlatName → Type 0
  IsRight k (operator op args) (Op o xs) = (op ≡ o) × AreArgs args xs
  IsRight k (register first next) (Register v x) = (first ≡ v) × IsArg next x
  IsRight k (called f args) (Call g j xs) = (f ≡ g) × (k ≡ j) × AreArgs args xs
  IsRight k given r = ⊥

  -- the steps of a clock, in order
  abbrev pub AreSteps : Clock → List (Value × FlatName) → Type 0
  AreSteps [] [] = ⊤
  AreSteps (on ∷ clock) (s ∷ steps) = (means on.0 ≡ s.1) × (on.1 ≡ number_of s.0) × AreSteps clock steps
  AreSteps clock steps = ⊥

  -- An equation stands for a row, whose clock and restart list are innermost first.
  pub record IsRow (e : FlatEqn) (k : ℕ) (r : Row FlatName) : Type 0 where
    pub clock : AreSteps (reverse e.clock) r.clock
    pub restart : map means (reverse e.restart) ≡ r.restart
    pub right : IsRight k e.right r.right

  abbrev pub AreRows : List (FlatEqn × ℕ) → List (Row FlatName) → Type 0
  AreRows [] [] = ⊤
  AreRows (d ∷ ds) (r ∷ rows) = IsRow d.0 d.1 r × AreRows ds rows
  AreRows ds rows = ⊥

  -- the equations of a variable stand for the rows of a flat name; a name that is no target has no value
  abbrev pub StandFor : List (FlatEqn × ℕ) → FlatName → Option (List (Row FlatName)) → Type 0
  StandFor ds a None = (ds ≡ []) × (a ≡ Nowhere)
  StandFor ds a (Some rows) = AreRows ds rows

-- how many values a node answers with
abbrev pub HasTargets : (List ℕ → ℕ) → FlatEqn → Given → Type 0
HasTargets count e (called f args) = length e.targets ≡ count f
HasTargets count e given = length e.targets ≡ 1

-- The equations of a node stand for those of flat names; its inputs for the inputs of these names.
pub record AreEquationsFor (means : ℕ → FlatName) (flat : Flat FlatName) (names : List (List ℕ)) (count : List ℕ → ℕ) (n : FlatNode) : Type 0 where
  pub inputs : map means (inputs_of n) ≡ map Input names
  pub variables : (x : ℕ) → n.inputs ≤ x → StandFor means (definitions n.eqns x) (means x) (flat (means x))
  pub targets : AllByRecursion (λ (e : FlatEqn). HasTargets count e e.right) n.eqns
  pub no_inputs : DefinesNoInput n

-- ---- what is asked of flat instants

-- a value that is tested for a constructor is one of its type, or absent
abbrev pub IsTold : Value → Value → Type 0
IsTold (B b) (B c) = ⊤
IsTold (B b) Absent = ⊤
IsTold (E t c) (E u d) = t ≡ u
IsTold (E t c) Absent = ⊤
IsTold v w = ⊥

abbrev pub StepsTold : List (Value × FlatName) → Now FlatName → Type 0
StepsTold [] now = ⊤
StepsTold (s ∷ steps) now = IsTold s.0 (now s.1) × StepsTold steps now

abbrev pub RowsTold : List (Row FlatName) → Now FlatName → Type 0
RowsTold [] now = ⊤
RowsTold (r ∷ rows) now = StepsTold r.clock now × RowsTold rows now

-- no row is there
abbrev pub NoneThere : List (Row FlatName) → Now FlatName → Type 0
NoneThere [] now = ⊤
NoneThere (r ∷ rows) now = IsFalse (holds r.clock now) × NoneThere rows now

-- no two rows are there
abbrev pub AreExclusive : List (Row FlatName) → Now FlatName → Type 0
AreExclusive [] now = ⊤
AreExclusive (r ∷ rows) now = (IsTrue (holds r.clock now) → NoneThere rows now) × AreExclusive rows now

abbrev pub AreTold : Option (List (Row FlatName)) → Now FlatName → Type 0
AreTold None now = ⊤
AreTold (Some rows) now = RowsTold rows now × AreExclusive rows now

-- what is tested is told, no two rows of a name are there, and the name that has no value is absent
pub record IsTolds (means : ℕ → FlatName) (flat : Flat FlatName) (now : Now FlatName) : Type 0 where
  pub rows : (x : ℕ) → AreTold (flat (means x)) now
  pub nowhere : now Nowhere ≡ Absent

-- ---- the law

-- the instant of the variables
abbrev pub numbered : (ℕ → FlatName) → Now FlatName → Instant
numbered means now x = now (means x)

-- what nodes answer on the newest arguments behind the earlier ones
abbrev pub does_of : Answers → Behaviours
does_of answers f [] = []
does_of answers f (args ∷ earlier) = answers f args earlier

-- the inputs have these values
abbrev pub GivesValues : List (List ℕ) → List Value → Now FlatName → Type 0
GivesValues names values now = map (λ x. now (Input x)) names ≡ values

-- A reaction of flat names is, read by the variables that stand for them, a reaction of clocked equations.
abbrev pub NumberedLaw : Type 0
NumberedLaw =
    (answers : Answers) (count : List ℕ → ℕ) (means : ℕ → FlatName) (flat : Flat FlatName) (names : List (List ℕ)) (n : FlatNode) (inputs : List (List Value)) (L : List (Now FlatName))
    → AreEquationsFor means flat names count n
    → ((f : List ℕ) (args : List Value) (earlier : List (List Value)) → length (answers f args earlier) ≡ count f)
    → Along (λ G i. IsTolds means flat i) L → FlatReaction (does_of answers) flat (GivesValues names) inputs L → Reaction answers n inputs (map (numbered means) L)
