-- The part of a node that its outputs read, one by another: fewer variables, under other numbers, and the equations that define them.
-- Source: own; the cone of influence of what is looked at, as in Clarke, Grumberg and Peled: Model Checking (1999).
use Rattle.std.specs.Prelude.{◌≡◌, ℕ, ◌<◌, Bool, true, false, List, [], ◌∷◌, length, map}
use Rattle.std.specs.List.{AllByRecursion}
use Rattle.hp_flat.specs.declared.equation.Atom.{Atom}
use Rattle.hp_flat.specs.declared.equation.Atom.TheVariants.{Variable as Read, Value as Fixed}
use Rattle.hp_flat.specs.Equations.{Clock, Right, operator, register, called, FlatEqn}
use Rattle.hp_flat.specs.Nodes.{FlatNode}
use Rattle.law_equations.specs.Meaning.Fitting.{operands}
use Rattle.law_equations.specs.Meaning.Scheduling.{clock_variables}

-- ---- other numbers

-- which variables are kept, the new number of each, the old number of a new one, and how many there are
pub record Renumbering : Type 0 where
  pub kept : ℕ → Bool
  pub number : ℕ → ℕ
  pub old : ℕ → ℕ
  pub count : ℕ

-- The variables that are kept have the numbers below the count, each one of its own.
pub record IsRenumbering (r : Renumbering) : Type 0 where
  pub below : (x : ℕ) → r.kept x ≡ true → r.number x < r.count
  pub back : (x : ℕ) → r.kept x ≡ true → r.old (r.number x) ≡ x
  pub forth : (y : ℕ) → y < r.count → (r.kept (r.old y) ≡ true) × (r.number (r.old y) ≡ y)

module _ (r : Renumbering) where
  -- ---- equations under other numbers

  abbrev pub renumbered_atom : Atom → Atom
  renumbered_atom (Read x) = Read (r.number x)
  renumbered_atom (Fixed v) = Fixed v

  abbrev pub renumbered_right : Right → Right
  renumbered_right (operator op args) = operator op (map renumbered_atom args)
  renumbered_right (register first next) = register first (renumbered_atom next)
  renumbered_right (called f args) = called f (map renumbered_atom args)

  abbrev pub renumbered_step : ℕ × ℕ → ℕ × ℕ
  renumbered_step on = (r.number on.0, on.1)

  abbrev pub renumbered_clock : Clock → Clock
  renumbered_clock clock = map renumbered_step clock

  abbrev pub renumbered : FlatEqn → FlatEqn
  renumbered e = record { targets = map r.number e.targets; clock = renumbered_clock e.clock; right = renumbered_right e.right; restart = map r.number e.restart; at = e.at }

  -- ---- which equations are kept

  abbrev pub AreKept : List ℕ → Type 0
  AreKept xs = AllByRecursion (λ x. r.kept x ≡ true) xs

  -- all that an equation defines and reads is kept
  pub record EqnKept (e : FlatEqn) : Type 0 where
    pub targets : AreKept e.targets
    pub clock : AreKept (clock_variables e.clock)
    pub restart : AreKept e.restart
    pub operands : AreKept (operands e.right)

  -- Each equation is kept, with all that it defines and reads, or it defines nothing that is kept.
  pub data ArePart : List FlatEqn → List FlatEqn → Type 0 where
    no_eqn : ArePart [] []
    kept_eqn : {es fs : List FlatEqn} (e : FlatEqn) → EqnKept e → ArePart es fs → ArePart (e ∷ es) (renumbered e ∷ fs)
    left_eqn : {es fs : List FlatEqn} (e : FlatEqn) → AllByRecursion (λ x. r.kept x ≡ false) e.targets → ArePart es fs → ArePart (e ∷ es) fs

-- Some elements are left out of a list.
pub data AreFewer {A : Type 0} : List A → List A → Type 0 where
  no_element : AreFewer [] []
  kept_element : {xs ys : List A} (x : A) → AreFewer xs ys → AreFewer (x ∷ xs) (x ∷ ys)
  left_element : {xs ys : List A} (x : A) → AreFewer xs ys → AreFewer (x ∷ xs) ys

-- The second node is a part of the first one: it has the same inputs under the same numbers, and the same outputs.
pub record IsPart (r : Renumbering) (n m : FlatNode) : Type 0 where
  pub renumbering : IsRenumbering r
  pub variables : AreFewer n.variables m.variables
  pub count : r.count ≡ length m.variables
  pub inputs : m.inputs ≡ n.inputs
  pub own_inputs : (x : ℕ) → x < n.inputs → (r.kept x ≡ true) × (r.number x ≡ x)
  pub outputs_kept : AreKept r n.outputs
  pub outputs : m.outputs ≡ map r.number n.outputs
  pub eqns : ArePart r n.eqns m.eqns
