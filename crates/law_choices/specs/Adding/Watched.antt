-- The bits of free places are added to a node.
-- Source: own.
use Rattle.std.specs.Prelude.{ℕ, ◌<◌, ⊤, Bool, List, [], length, Option, None, Some}
use Rattle.std.specs.List.{AllByRecursion}
use Rattle.hp_obc.specs.Machines.{ObcType}
use Rattle.hp_flat.specs.declared.node.FlatTy.TheVariants.{Bool as Truth}
use Rattle.hp_flat.specs.Equations.{Clock}
use Rattle.hp_flat.specs.Nodes.{FlatNode}
use Rattle.law_equations.specs.Meaning.Kinding.{Callees}
use Rattle.hp_watch.specs.declared.watching.Free.{Free}
use Rattle.hp_watch.specs.Adding.{type_at}
use Rattle.hp_watch.specs.Watching.{clock_of, Watched, unwatched, with_places}
use Rattle.law_choices.specs.Adding.Keeping.{IsBased, Keeps}
use Rattle.law_choices.specs.Adding.Lifts.{HaveBytes, IsOn, CanStand}

-- a number is that of an equation, or there is none
abbrev pub IsNumbered : FlatNode → Option ℕ → Type 0
IsNumbered n None = ⊤
IsNumbered n (Some k) = k < length n.eqns

-- A place is free in a node: its equation is there, the clock of that can stand, and its variable is there then.
pub record IsFree (types : List ObcType) (n : FlatNode) (clock : ℕ → Clock) (f : Free) : Type 0 where
  pub numbered : IsNumbered n f.eqn
  pub stands : CanStand types n clock (clock_of n f.eqn)
  pub there : IsOn n clock (clock_of n f.eqn) (type_at n f.variable) f.variable

-- some variables are truth values on the base clock
abbrev pub AreBitsOf : FlatNode → (ℕ → Clock) → List ℕ → Type 0
AreBitsOf n clock xs = AllByRecursion (IsOn n clock [] Truth) xs

-- A node with the bits of free places, of which it is said which are early, is well built, and the bits are truth values on the base clock.
pub record HasBits (types : List ObcType) (callees : Callees) (clock : ℕ → Clock) (n : FlatNode) (w : Watched) : Type 0 where
  pub keeps : Keeps types callees clock n w.node
  pub early : AreBitsOf w.node keeps.clocks w.early
  pub late : AreBitsOf w.node keeps.clocks w.late

abbrev pub WatchedLaw : Type 0
WatchedLaw =
    (types : List ObcType) (callees : Callees) (clock : ℕ → Clock) (n : FlatNode) (free : List Free) (is_early : List Bool) → HaveBytes types → IsBased types callees clock n → AllByRecursion (IsFree types n clock) free
    → HasBits types callees clock n (with_places types free is_early (unwatched n))
