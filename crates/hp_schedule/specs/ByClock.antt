-- The order of equations by clock: those that stand under one case stand together, as far as their readers let them, so that their cases can be joined.
-- Levels and heights are lengths of longest paths, as of tasks that are scheduled as late as they can be. Grouping by clock is after Biernacki, Colaço, Hamon, Pouzet:
-- Clock-directed modular code generation for synchronous data-flow languages (LCTES 2008).
use Rattle.std.specs.Prelude.{◌≡◌, ◌≤◌, ◌+◌, ℕ, suc, Bool, true, nat_eq, get_or, List, [], ◌∷◌, if◌then◌else◌}
use Rattle.std.specs.List.{AllByRecursion}
use Rattle.std.specs.List.Sorted.{IsPermutation, IsSortedBy, IsStableBy}
use Rattle.std.specs.Ordering.{is_lt, nat_cmp, ordering_then}
use Rattle.std.specs.declared.cmp.Ordering.{Ordering}
use Rattle.hp_flat.specs.Equations.{FlatEqn}
use Rattle.law_equations.specs.Meaning.Reactions.{has}
use Rattle.law_equations.specs.Meaning.Scheduling.{clock_variables, reads}

-- the variable that the clock of an equation asks at a depth, from 0, the outermost; where it has none, the base, a number that stands for that
abbrev pub control : ℕ → ℕ → FlatEqn → ℕ
control depth base e = get_or (clock_variables e.clock) depth base

-- what the step to an equation from one that reads it counts for: 1 where the control changes
abbrev pub change : ℕ → ℕ → FlatEqn → FlatEqn → ℕ
change depth base d e = if nat_eq (control depth base d) (control depth base e) then 0 else 1

-- 1 for each step
abbrev pub one : FlatEqn → FlatEqn → ℕ
one d e = 1

module _ (cost : FlatEqn → FlatEqn → ℕ) (length_of : FlatEqn → ℕ) (es : List FlatEqn) where
  -- a number is no less than the length of each path of readers from an equation: the length from one that reads it, and the first step
  abbrev pub IsAbovePaths : FlatEqn → ℕ → Type 0
  IsAbovePaths e n = AllByRecursion (λ x. AllByRecursion (λ (d : FlatEqn). has (reads d) x ≡ true → length_of d + cost d e ≤ n) es) e.targets

  -- The length of the longest path of readers from each equation.
  pub record IsLongest : Type 0 where
    pub above : (e : FlatEqn) → IsAbovePaths e (length_of e)
    pub least : (e : FlatEqn) (n : ℕ) → IsAbovePaths e n → length_of e ≤ n

-- Equations are ordered by four numbers: how far each is from the end by the controls at three depths of clocks, and by all steps.
pub record Keys : Type 0 where
  pub outer : FlatEqn → ℕ
  pub middle : FlatEqn → ℕ
  pub inner : FlatEqn → ℕ
  pub height : FlatEqn → ℕ

-- by level, the greatest first, then by control
abbrev pub at_depth : ℕ → ℕ → (FlatEqn → ℕ) → FlatEqn → FlatEqn → Ordering
at_depth depth base level d e = ordering_then (nat_cmp (level e) (level d)) (nat_cmp (control depth base d) (control depth base e))

-- by depth, the outermost first, and then by height, the greatest first
abbrev pub compared : ℕ → Keys → FlatEqn → FlatEqn → Ordering
compared base k d e = ordering_then (at_depth 0 base k.outer d e) (ordering_then (at_depth 1 base k.middle d e) (ordering_then (at_depth 2 base k.inner d e) (nat_cmp (k.height e) (k.height d))))

abbrev pub comes_before : ℕ → Keys → FlatEqn → FlatEqn → Bool
comes_before base k d e = is_lt (compared base k d e)

-- equations with places in a row
abbrev pub numbered : ℕ → List FlatEqn → List FlatEqn
numbered k [] = []
numbered k (e ∷ es) = record e { at = k } ∷ numbered (suc k) es

-- the keys are longest paths
pub record AreKeys (base : ℕ) (k : Keys) (es : List FlatEqn) : Type 0 where
  pub outers : IsLongest (change 0 base) k.outer es
  pub middles : IsLongest (change 1 base) k.middle es
  pub inners : IsLongest (change 2 base) k.inner es
  pub heights : IsLongest one k.height es

-- Equations stand by how often the outermost control changes on a path of readers from them, the most often first, then by that control, then so by the second and by the third, and by how many wait for them, the most first;
-- where all are the same, in the order in which they were.
pub record IsByClock (base : ℕ) (es scheduled : List FlatEqn) : Type 0 where
  pub keys : Keys
  pub longest : AreKeys base keys es
  pub ordered : List FlatEqn
  pub same : IsPermutation es ordered
  pub sorted : IsSortedBy (comes_before base keys) ordered
  pub stable : IsStableBy (comes_before base keys) es ordered
  pub places : scheduled ≡ numbered 0 ordered
