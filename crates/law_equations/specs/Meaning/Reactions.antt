-- When instants are a reaction of clocked equations. After Biernacki, Colaço, Hamon, Pouzet: Clock-directed modular code generation for synchronous data-flow languages (LCTES 2008).
use Rattle.std.specs.Prelude.{◌≡◌, ℕ, ◌≤◌, Bool, false, ◌&&◌, ◌||◌, nat_eq, List, [], ◌∷◌, map, IsTrue}
use Rattle.std.specs.List.{AllByRecursion, range_with_len}
use Rattle.hp_base.specs.declared.value.Value.{Value}
use Rattle.hp_base.specs.declared.value.Value.TheVariants.{Absent}
use Rattle.hp_obc.specs.Steps.{Names}
use Rattle.hp_obc.specs.Values.{operated}
use Rattle.hp_flat.specs.Equations.{Clock, Right, operator, register, called, FlatEqn}
use Rattle.hp_flat.specs.Nodes.{FlatNode}
use Rattle.law_equations.specs.Meaning.Instants.{Instant, holds, atom, atoms, since, newest}

-- what nodes answer on arguments, after the arguments of earlier instants, newest first
abbrev pub Answers : Type 0
Answers = Names (List Value → List (List Value) → List Value)

abbrev pub has : List ℕ → ℕ → Bool
has [] x = false
has (y ∷ ys) x = nat_eq y x || has ys x

-- some equation that is there defines a variable
abbrev pub is_set : List FlatEqn → Instant → ℕ → Bool
is_set [] now x = false
is_set (e ∷ es) now x = (holds e.clock now && has e.targets x) || is_set es now x

-- the variables of the inputs
abbrev pub inputs_of : FlatNode → List ℕ
inputs_of n = range_with_len 0 n.inputs

module _ (answers : Answers) where
  -- What gives the targets of an equation their values: an operator on its arguments, the value that the next one had when the clock was last there since
  -- the equation began anew, or the first one; or what a node answers on its arguments now and those since then.
  abbrev pub right_gives : Clock → List ℕ → List Instant → Instant → Right → List Value
  right_gives clock restart past now (operator op args) = operated op (atoms now args) ∷ []
  right_gives clock restart past now (register first next) = newest first (since clock restart (λ i. atom i next) past now) ∷ []
  right_gives clock restart past now (called f args) = answers f (atoms now args) (since clock restart (λ i. atoms i args) past now)

  abbrev pub gives : FlatEqn → List Instant → Instant → List Value
  gives e past now = right_gives e.clock e.restart past now e.right

  -- An equation holds: where it is there, its targets have the values that it gives.
  abbrev pub Holds : List Instant → Instant → FlatEqn → Type 0
  Holds past now e = IsTrue (holds e.clock now) → map now e.targets ≡ gives e past now

  -- An instant continues a past: it has the inputs, each equation holds, and every other variable is absent.
  pub record Continues (n : FlatNode) (past : List Instant) (inputs : List Value) (now : Instant) : Type 0 where
    pub inputs_are : map now (inputs_of n) ≡ inputs
    pub equations : AllByRecursion (Holds past now) n.eqns
    pub others : (x : ℕ) → n.inputs ≤ x → is_set n.eqns now x ≡ false → now x ≡ Absent

  -- Instants, newest first, are a reaction over inputs.
  abbrev pub Reaction : FlatNode → List (List Value) → List Instant → Type 0
  Reaction n [] [] = Unit {0}
  Reaction n (inputs ∷ earlier) (now ∷ past) = Reaction n earlier past × Continues n past inputs now
  Reaction n inputs instants = ⊥

-- the outputs of an instant
abbrev pub outputs_at : FlatNode → Instant → List Value
outputs_at n now = map now n.outputs
