-- No early bit of the node that is watched is a controllable variable.
use Rattle.std.proofs.Common.{ℕ, zero, suc, ◌+◌, ◌<◌, ◌≤◌, Bool, true, false, if◌then◌else◌, List, [], ◌∷◌, ◌++◌, length, map, slice_get, Option, None, Some, arith}
use Rattle.std.specs.Prelude.{⊤}
use Rattle.std.specs.List.{AllByRecursion, flat_map, range_with_len}
use Rattle.hp_base.specs.declared.value.Value.TheVariants.{B, E}
use Rattle.hp_obc.specs.Machines.{ObcType}
use Rattle.hp_obc.specs.declared.command.ObcOp.TheVariants.{Copy, Eq, Or}
use Rattle.hp_flat.specs.declared.equation.Atom.TheVariants.{Variable as Read, Value as Fixed}
use Rattle.hp_flat.specs.declared.node.FlatTy.{FlatTy}
use Rattle.hp_flat.specs.declared.node.FlatTy.TheVariants as ty
use Rattle.hp_flat.specs.Equations.{Clock, Right, operator, register, called, FlatEqn}
use Rattle.hp_flat.specs.Nodes.{FlatNode}
use Rattle.law_equations.specs.Meaning.Scheduling.{AreBelow, clock_variables}
use Rattle.hp_watch.specs.declared.embedding.Shift.{Shift}
use Rattle.hp_watch.specs.declared.watching.Free.{Free}
use Rattle.hp_watch.specs.Adding.{next_variable, type_at, with_operator}
use Rattle.hp_watch.specs.Lifting.{count_of, either, has_bit, lifted, Valued, width_of, with_bit, with_bits, with_each, with_either, with_spelling, with_test}
use Rattle.hp_watch.specs.Watching.{called_by, clock_of, compares_integers, free_by, free_input, free_inputs, free_moved, free_placed, free_placed_by, free_target, is_integer, moved_free, Observed, Observing, Placed, shift_at, spelled_place, Watched, with_place, with_places}
use Rattle.law_choices.proofs.AddingLemmas.Adding.{both}
use Rattle.law_choices.proofs.AddingLemmas.Rows.{each_range}
use Rattle.law_choices.proofs.AddingLemmas.Surveyed.{flat_all}
use Rattle.law_choices.proofs.ClosedLemmas.ClosedLaws.{each_other}
use Rattle.law_controlled.proofs.RisingLaws.{free-below, FreeBelow, gets-lifted, gets-sound, IsSound, operator-longer, place-gets, step-below}

-- ---- new bits

module _ (low : ℕ) where
  -- a node and a variable that are not below
  abbrev NotBelow : Valued → Type 0
  NotBelow v = (low ≤ length v.node.variables) × (low ≤ v.value)

  or-high : (bit test : ℕ) (n : FlatNode) (b : Bool) → low ≤ length n.variables → low ≤ bit → NotBelow (if b then record { node = with_operator ty.Bool Or (Read bit ∷ Read test ∷ []) n; value = next_variable n } else record { node = n; value = bit })
  or-high bit test n true l m = let long = operator-longer ty.Bool Or (Read bit ∷ Read test ∷ []) n in (omega (arith, long, l), l)
  or-high bit test n false l m = (l, m)

  either-high : (place k : ℕ) (tests : List ℕ) (bit : ℕ) (n : FlatNode) → low ≤ length n.variables → low ≤ bit → NotBelow (either place k tests bit n)
  either-high place k [] bit n l m = (l, m)
  either-high place k (test ∷ tests) bit n l m =
      let first = with_either k place bit test n in
      let one : NotBelow first = or-high bit test n (has_bit k place) l m in
      either-high place (k + 1) tests first.value first.node one.0 one.1

  bits-high : (tests : List ℕ) (place : ℕ) (n : FlatNode) → low ≤ length n.variables → AllByRecursion (λ x. low ≤ x) (with_bits tests place n).bits
  bits-high tests zero n l = tt
  bits-high tests (suc place) n l =
      let args = Fixed (B false) ∷ [] in
      let long = operator-longer ty.Bool Copy args n in
      let bit = with_bit tests place n in
      let one = either-high place 0 tests (next_variable n) (with_operator ty.Bool Copy args n) (omega (arith, long, l)) l in
      (one.1, bits-high tests place bit.node one.0)

  tests-high : (t value count : ℕ) (n : FlatNode) → low ≤ length n.variables → low ≤ length (with_each (with_test t value) count n).variables
  tests-high t value zero n l = l
  tests-high t value (suc k) n l =
      let rest = tests-high t value k n l in
      let long = operator-longer ty.Bool Eq (Read value ∷ Fixed (E t k) ∷ []) (with_each (with_test t value) k n) in
      omega (arith, rest, long)

-- the bits of a variable with some property of all that is not below are so, too
module _ (P : ℕ → Type 0) (low : ℕ) (high : (x : ℕ) → low ≤ x → P x) (types : List ObcType) where
  pub spelling-apart : (t : FlatTy) (value : ℕ) (n : FlatNode) → low ≤ length n.variables → P value → AllByRecursion P (with_spelling types t value n).bits
  spelling-apart ty.Bool value n l p = (p, tt)
  spelling-apart ty.Int value n l p = tt
  spelling-apart (ty.Enum t) value n l p =
      let count = count_of types (ty.Enum t) in
      let m = with_each (with_test t value) count n in
      let names = range_with_len (next_variable n) count in
      each_other (λ x. low ≤ x) P high (with_bits names (width_of count) m).bits (bits-high low names (width_of count) m (tests-high low t value count n l))

-- ---- free places

module _ (P : ℕ → Type 0) where
  -- the variables of free places have the property
  abbrev pub FreeApart : List Free → Type 0
  FreeApart fs = AllByRecursion (λ (f : Free). P f.variable) fs

  one-or-none : (f : Free) (q : Bool) → P f.variable → FreeApart (if q then [] else f ∷ [])
  one-or-none f true h = tt
  one-or-none f false h = (h, tt)

  pub inputs-apart : (n : FlatNode) (count : ℕ) → ((x : ℕ) → x < count → P x) → FreeApart (free_inputs n count)
  inputs-apart n count f =
      flat_all (λ (g : Free). P g.variable) (free_input n) (range_with_len 0 count) (each_range (λ x. FreeApart (free_input n x)) 0 count (λ x l u. one-or-none (record { variable = x; eqn = None }) (is_integer (type_at n x)) (f x (omega (arith, u)))))

  pub moved-apart : (s : Shift) (fs : List Free) → ((x : ℕ) → s.variables ≤ x → P x) → FreeApart (map (moved_free s) fs)
  moved-apart s [] f = tt
  moved-apart s (g ∷ fs) f = (f (g.variable + s.variables) (omega arith), moved-apart s fs f)

  targets-apart : (n : FlatNode) (k : ℕ) (xs : List ℕ) → AllByRecursion P xs → FreeApart (flat_map (free_target n k) xs)
  targets-apart n k [] h = tt
  targets-apart n k (x ∷ xs) h = both (λ (g : Free). P g.variable) (free_target n k x) (flat_map (free_target n k) xs) (one-or-none (record { variable = x; eqn = Some k }) (is_integer (type_at n x)) h.0) (targets-apart n k xs h.1)

  pub by-apart : (n : FlatNode) (k : ℕ) (r : Right) (xs : List ℕ) → AllByRecursion P xs → FreeApart (free_by n k r xs)
  by-apart n k (operator o args) xs h = by (compares_integers n args)
    where
      by : (q : Bool) → FreeApart (if q then flat_map (free_target n k) xs else [])
      by true = targets-apart n k xs h
      by false = tt
  by-apart n k (register first next) xs h = tt
  by-apart n k (called f args) xs h = targets-apart n k xs h

  -- where an observer stands, if it stands there, all behind has the property
  abbrev pub StandsApart : Option Shift → Type 0
  StandsApart None = ⊤
  StandsApart (Some s) = (x : ℕ) → s.variables ≤ x → P x

  pub at-apart : (ss : List (Option Shift)) (k : ℕ) → AllByRecursion StandsApart ss → StandsApart (shift_at ss k)
  at-apart [] k h = tt
  at-apart (s ∷ ss) zero h = h.0
  at-apart (s ∷ ss) (suc k) h = at-apart ss k h.1

  observer-apart : (o : Option Observed) (s : Option Shift) → StandsApart s → FreeApart (free_moved o s)
  observer-apart None s h = tt
  observer-apart (Some o) None h = tt
  observer-apart (Some o) (Some s) h = moved-apart s o.free h

  -- those of comparisons and calls
  pub placed-apart : (observers : Observing) (p : Placed) → AllByRecursion (λ (e : FlatEqn). AllByRecursion P e.targets) p.node.eqns → AllByRecursion StandsApart p.shifts → (order : List ℕ) → FreeApart (flat_map (free_placed observers p) order)
  placed-apart observers p t s [] = tt
  placed-apart observers p t s (k ∷ order) = both (λ (g : Free). P g.variable) (free_placed observers p k) (flat_map (free_placed observers p) order) (at p.node.eqns k t) (placed-apart observers p t s order)
    where
      at : (es : List FlatEqn) (j : ℕ) → AllByRecursion (λ (e : FlatEqn). AllByRecursion P e.targets) es → FreeApart (free_placed_by observers p k (slice_get es j))
      at [] j h = tt
      at (e ∷ es) zero h = both (λ (g : Free). P g.variable) (free_by p.node k e.right e.targets) (free_moved (called_by observers e.right) (shift_at p.shifts k)) (by-apart p.node k e.right e.targets h.0) (observer-apart (called_by observers e.right) (shift_at p.shifts k) (at-apart p.shifts k s))
      at (e ∷ es) (suc j) h = at es j h.1

-- ---- the bits of free places

module _ (P : ℕ → Type 0) (low : ℕ) (high : (x : ℕ) → low ≤ x → P x) (types : List ObcType) where
  lifted-apart : (steps clock : Clock) (x : ℕ) (n : FlatNode) → AreBelow (length n.variables) (clock_variables clock) → AreBelow (length n.variables) (clock_variables steps) → x < length n.variables → low ≤ length n.variables → P x
      → P (lifted types clock steps x n).value
  lifted-apart [] clock x n c s l m p = p
  lifted-apart (step ∷ steps) clock x n c s l m p =
      let first = gets-lifted types steps (clock ++ step ∷ []) x n (step-below (length n.variables) clock step c s.0) s.1 l in
      let g = first.gets in
      let more = g.longer in
      high (next_variable (lifted types (clock ++ step ∷ []) steps x n).node) (omega (arith, more, m))

  place-apart : (f : Free) (n : FlatNode) → f.variable < length n.variables → AreBelow (length n.variables) (clock_variables (clock_of n f.eqn)) → low ≤ length n.variables → P f.variable → AllByRecursion P (spelled_place types f n).bits
  place-apart f n l c m p =
      let value = lifted types [] (clock_of n f.eqn) f.variable n in
      let first = gets-lifted types (clock_of n f.eqn) [] f.variable n tt c l in
      let g = first.gets in
      let more = g.longer in
      spelling-apart P low high types (type_at value.node value.value) value.value value.node (omega (arith, more, m)) (lifted-apart (clock_of n f.eqn) [] f.variable n tt c l m p)

  placed-early : (f : Free) (b : Bool) (w : Watched) → AllByRecursion P w.early → AllByRecursion P (spelled_place types f w.node).bits → AllByRecursion P (with_place types f b w).early
  placed-early f true w h g = both P w.early (spelled_place types f w.node).bits h g
  placed-early f false w h g = h

  pub places-apart : (k : ℕ) (fs : List Free) (bs : List Bool) (w : Watched) → k ≤ length w.node.variables → low ≤ k → FreeBelow k fs → FreeApart P fs → IsSound w.node → AllByRecursion P w.early → AllByRecursion P (with_places types fs bs w).early
  places-apart k [] bs w l m h f s e = e
  places-apart k (g ∷ fs) [] w l m h f s e = e
  places-apart k (g ∷ fs) (b ∷ bs) w l m h f s e =
      let below = h.0 in
      let next = place-gets types g b w (omega (arith, below, l)) s in
      let more = next.longer in
      places-apart k fs bs (with_place types g b w) (omega (arith, l, more)) m h.1 f.1 (gets-sound w.node (with_place types g b w).node next s)
      (placed-early g b w e (place-apart g w.node (omega (arith, below, l)) (free-below w.node g.eqn s) (omega (arith, l, m)) f.0))
