-- Where the variables of clocked equations have clocks, whatever is read is there.
use Rattle.std.proofs.Common.{◌≡◌, ◌⊎◌, inl, inr, ℕ, zero, suc, ◌+◌, ◌<◌, ◌≤◌, Bool, true, false, nat_lt, ◌&&◌, ◌||◌, List, [], ◌∷◌, ◌++◌, refl, sym, ap, subst, ◌∙◌, arith}
use Rattle.std.specs.Prelude.{Contains, IsTrue}
use Rattle.std.specs.List.{AllByRecursion}
use Rattle.std.proofs.lemmas.Bool.Decides.{nat_tests}
use Rattle.std.proofs.lemmas.List.Elements.{All-contains, All-from_recursion}
use Rattle.hp_base.specs.Kinds.{KindData, Bools, Ints, Constructors, IsOfKind}
use Rattle.hp_base.specs.declared.value.Value.{Value}
use Rattle.hp_base.specs.declared.value.Value.TheVariants.{Absent, Nil, B, E, I, Star}
use Rattle.hp_obc.specs.Machines.{ObcType}
use Rattle.hp_flat.specs.Equations.{Clock, FlatEqn}
use Rattle.hp_flat.specs.Nodes.{FlatNode}
use Rattle.law_equations.specs.Meaning.Fitting.{is_there, IsThere, operands}
use Rattle.law_equations.specs.Meaning.Instants.{Instant, has_constructor, holds}
use Rattle.law_equations.specs.Meaning.Kinding.{HasArm, variable_kind, is_present, OptionallyOf, IsPossible, ClockIsThere, ClocksFit}
use Rattle.law_equations.specs.Meaning.Reactions.{has, is_set}
use Rattle.law_equations.specs.Meaning.Scheduling.{clock_variables, right_reads, reads, IsDefinedBelow, IsRanked}
use Rattle.law_choices.specs.Closed.Closed.{IsGiven, variables_in, IsClosed}
use Rattle.law_choices.specs.Closed.Clocking.{IsFrontOf, IsDefinedOn, StepsStand, IsSplit, AreClocks, FitLaw, WellMadeLaw}
use Rattle.law_choices.specs.Closed.Exclusive.{IsAlwaysExclusive}
use Rattle.law_choices.proofs.ClosedLemmas.ClosedLaws.{each_other, each_both}
use Rattle.law_choices.proofs.ClosedLemmas.Exclusive.{both_true, each_has}

-- ---- lists

module _ {A : Type 0} (P : A → Type 0) where
  front : (xs ys : List A) → AllByRecursion P (xs ++ ys) → AllByRecursion P xs
  front [] ys h = tt
  front (x ∷ xs) ys h = (h.0, front xs ys h.1)

  behind : (xs ys : List A) → AllByRecursion P (xs ++ ys) → AllByRecursion P ys
  behind [] ys h = h
  behind (x ∷ xs) ys h = behind xs ys h.1

  among : (xs : List A) (x : A) → AllByRecursion P xs → Contains xs x → P x
  among xs x h at = All-contains P xs x (All-from_recursion P xs h) at

last_variable : (P : ℕ → Type 0) (c : Clock) (t i : ℕ) → AllByRecursion P (clock_variables (c ++ (t, i) ∷ [])) → P t
last_variable P [] t i h = h.0
last_variable P (on ∷ c) t i h = last_variable P c t i h.1

either_is : (a b : Bool) → b ≡ true → (a || b) ≡ true
either_is true b h = refl
either_is false b h = h

-- ---- clocks that hold

both_hold : (a b : Bool) → a ≡ true → b ≡ true → (a && b) ≡ true
both_hold true b h g = g
both_hold false b h g = absurd cc

front_holds : (c more : Clock) (now : Instant) → holds (c ++ more) now ≡ true → holds c now ≡ true
front_holds [] more now h = refl
front_holds (on ∷ c) more now h =
    let q = both_true (has_constructor on.1 (now on.0)) (holds (c ++ more) now) h in
    both_hold (has_constructor on.1 (now on.0)) (holds c now) q.0 (front_holds c more now q.1)

more_holds : (c : Clock) (t i : ℕ) (now : Instant) → holds c now ≡ true → has_constructor i (now t) ≡ true → holds (c ++ (t, i) ∷ []) now ≡ true
more_holds [] t i now h g = both_hold (has_constructor i (now t)) true g refl
more_holds (on ∷ c) t i now h g =
    let q = both_true (has_constructor on.1 (now on.0)) (holds c now) h in
    both_hold (has_constructor on.1 (now on.0)) (holds (c ++ (t, i) ∷ []) now) q.0 (more_holds c t i now q.1 g)

-- ---- values of kinds

pub kind_there : (k : KindData) (v : Value) → IsOfKind k v → IsTrue (is_there v)
kind_there k (B b) h = refl
kind_there k (E t c) h = refl
kind_there k (I n) h = refl
kind_there k Nil h = refl
kind_there k Star h = refl
kind_there Bools Absent h = absurd h
kind_there Ints Absent h = absurd h
kind_there (Constructors t cons) Absent h = absurd h

-- a value has one of the arms of its kind
some_arm : (k : KindData) (v : Value) → IsOfKind k v → HasArm k 0 → (c : ℕ) × HasArm k c × (has_constructor c v ≡ true)
some_arm Bools (B true) h a = (1, omega arith, refl)
some_arm Bools (B false) h a = (0, omega arith, refl)
some_arm Bools (E t c) h a = absurd h
some_arm Bools (I n) h a = absurd h
some_arm Bools Nil h a = absurd h
some_arm Bools Star h a = absurd h
some_arm Bools Absent h a = absurd h
some_arm Ints v h a = absurd a
some_arm (Constructors number cons) (E t c) h a = (c, h.1, grind (arith, nat_tests))
some_arm (Constructors number cons) (B b) h a = absurd h
some_arm (Constructors number cons) (I n) h a = absurd h
some_arm (Constructors number cons) Nil h a = absurd h
some_arm (Constructors number cons) Star h a = absurd h
some_arm (Constructors number cons) Absent h a = absurd h

-- ---- equations that are there

module _ (now : Instant) (x : ℕ) where
  set_all : (es : List FlatEqn) → AllByRecursion (λ (e : FlatEqn). has e.targets x ≡ true → holds e.clock now ≡ true → is_set es now x ≡ true) es
  set_all [] = tt
  set_all (e ∷ es) = (
    (λ t h. first (holds e.clock now && has e.targets x) (both_hold (holds e.clock now) (has e.targets x) h t)),
    each_other (λ (d : FlatEqn). has d.targets x ≡ true → holds d.clock now ≡ true → is_set es now x ≡ true) (λ (d : FlatEqn). has d.targets x ≡ true → holds d.clock now ≡ true → is_set (e ∷ es) now x ≡ true)
        (λ d f t h. either_is (holds e.clock now && has e.targets x) (is_set es now x) (f t h)) es (set_all es),
  )
    where
      first : (b : Bool) → b ≡ true → (b || is_set es now x) ≡ true
      first true h = refl
      first false h = absurd cc

has_target : (xs : List ℕ) (x : ℕ) → Contains xs x → has xs x ≡ true
has_target xs x at = among (λ y. has xs y ≡ true) xs x (each_has (λ y. has xs y ≡ true) xs (λ y h. h)) at

-- equations that define a variable have less rank than this
abbrev Low : FlatNode → ℕ → ℕ → Type 0
Low n m x = AllByRecursion (λ (d : FlatEqn). has d.targets x ≡ true → d.at < m) n.eqns

abbrev total : List FlatEqn → ℕ
total [] = 0
total (e ∷ es) = suc e.at + total es

all_low : (es : List FlatEqn) (m x : ℕ) → total es ≤ m → AllByRecursion (λ (d : FlatEqn). has d.targets x ≡ true → d.at < m) es
all_low [] m x l = tt
all_low (e ∷ es) m x l = ((λ h. omega (arith, l)), all_low es m x (omega (arith, l)))

module _ (types : List ObcType) (n : FlatNode) (ranked : IsRanked n.eqns) (closed : IsClosed n) (clock : ℕ → Clock) (c : AreClocks n types clock) (now : Instant) (p : IsPossible types n now) where
  abbrev kind : ℕ → KindData
  kind x = variable_kind types n.variables x

  there_of : (x : ℕ) → is_present n now x ≡ true → IsThere now x
  there_of x e = kind_there (kind x) (now x) (subst (λ b. OptionallyOf b (kind x) (now x)) e (p x))

  pub kind_of : (x : ℕ) → IsThere now x → IsOfKind (kind x) (now x)
  kind_of x t = by (is_present n now x) (p x)
    where
      by : (b : Bool) → OptionallyOf b (kind x) (now x) → IsOfKind (kind x) (now x)
      by true h = h
      by false h = absurd (let r = sym (ap is_there h) ∙ t in cc)

  input_there : (x : ℕ) → x < n.inputs → IsThere now x
  input_there x l = there_of x (by (nat_lt x n.inputs) (grind (arith, nat_tests, l)))
    where
      by : (b : Bool) → b ≡ true → (b || is_set n.eqns now x) ≡ true
      by true h = refl
      by false h = absurd cc

  -- what an equation that is there defines
  defined_there : (x : ℕ) (e : FlatEqn) → Contains n.eqns e → Contains e.targets x → holds e.clock now ≡ true → IsThere now x
  defined_there x e at of h =
      there_of x (either_is (nat_lt x n.inputs) (is_set n.eqns now x)
      (among (λ (e : FlatEqn). has e.targets x ≡ true → holds e.clock now ≡ true → is_set n.eqns now x ≡ true) n.eqns e (set_all now x n.eqns) at (has_target e.targets x of) h))

  abbrev Stands : ℕ → Type 0
  Stands m = (x : ℕ) → Low n m x → IsGiven n x → holds (clock x) now ≡ true → IsThere now x

  -- what is tested at the end of a clock is given, and of less rank
  tested_given : (x t i : ℕ) → (d : IsDefinedOn n x (clock x ++ (t, i) ∷ [])) → IsGiven n t
  tested_given x t i d =
      let all = among (λ (e : FlatEqn). AllByRecursion (IsGiven n) (variables_in e)) n.eqns d.0 closed.eqns d.1 in
      last_variable (IsGiven n) (clock x) t i (subst (λ z. AllByRecursion (IsGiven n) (clock_variables z)) d.3 (front (IsGiven n) (clock_variables d.0.clock) (d.0.restart ++ operands d.0.right) all))

  tested_low : (x t i m : ℕ) → (d : IsDefinedOn n x (clock x ++ (t, i) ∷ [])) → d.0.at ≤ m → Low n m t
  tested_low x t i m d l =
      let all = among (λ (e : FlatEqn). AllByRecursion (IsDefinedBelow n.eqns e) (reads e)) n.eqns d.0 ranked d.1 in
      let low = last_variable (IsDefinedBelow n.eqns d.0) (clock x) t i
      (subst (λ z. AllByRecursion (IsDefinedBelow n.eqns d.0) (clock_variables z)) d.3 (front (IsDefinedBelow n.eqns d.0) (clock_variables d.0.clock) (d.0.restart ++ right_reads d.0.right) all)) in
      each_other (λ (e : FlatEqn). has e.targets t ≡ true → e.at < d.0.at) (λ (e : FlatEqn). has e.targets t ≡ true → e.at < m) (λ e f h. let g = f h in omega (arith, g, l)) n.eqns low

  split_there : (m x : ℕ) → Stands m → Low n (suc m) x → IsSplit n types clock x → holds (clock x) now ≡ true → IsThere now x
  split_there m x again low s h =
      let t = s.tested in
      let first = s.arms 0 s.has_one in
      let less = among (λ (d : FlatEqn). has d.targets x ≡ true → d.at < suc m) n.eqns first.0 low first.1 (has_target first.0.targets x first.2) in
      let here = again t (tested_low x t 0 m first (omega (arith, less))) (tested_given x t 0 first) (front_holds (clock t) s.there.0 now (subst (λ z. holds z now ≡ true) s.there.1 h)) in
      let arm = some_arm (kind t) (now t) (kind_of t here) s.has_one in
      let own = s.arms arm.0 arm.1 in
      defined_there x own.0 own.1 own.2 (subst (λ z. holds z now ≡ true) (sym own.3) (more_holds (clock x) t arm.0 now h arm.2))

  stands : (m : ℕ) → Stands m
  stands m x low (inl l) h = input_there x l
  stands zero x low (inr t) h =
      let less = among (λ (d : FlatEqn). has d.targets x ≡ true → d.at < 0) n.eqns t.0 low t.1 (has_target t.0.targets x t.2) in
      absurd (omega (arith, less))
  stands (suc m) x low (inr t) h = by (c.defined x t) (λ y l g e. stands m y l g e)
    where
      by : IsDefinedOn n x (clock x) ⊎ IsSplit n types clock x → Stands m → IsThere now x
      by (inl d) again = defined_there x d.0 d.1 d.2 (subst (λ z. holds z now ≡ true) (sym d.3) h)
      by (inr s) again = split_there m x again low s h

  -- A variable is there where its clock holds.
  pub is_there_on : (x : ℕ) → IsGiven n x → holds (clock x) now ≡ true → IsThere now x
  is_there_on x g h = stands (total n.eqns) x (all_low n.eqns (total n.eqns) x (omega arith)) g h

  front_there : (x : ℕ) (d : Clock) → IsGiven n x → IsFrontOf (clock x) d → holds d now ≡ true → IsThere now x
  front_there x d g f h = is_there_on x g (front_holds (clock x) f.0 now (subst (λ z. holds z now ≡ true) f.1 h))

  steps_there : (before rest : Clock) → StepsStand n types clock before rest → AllByRecursion (IsGiven n) (clock_variables rest) → holds before now ≡ true → ClockIsThere rest now
  steps_there before [] s g h = tt
  steps_there before (on ∷ rest) s g h = (front_there on.0 before g.0 s.0 h, λ e. steps_there (before ++ on ∷ []) rest s.1 g.1 (more_holds before on.0 on.1 now h e))

  pub fits : IsAlwaysExclusive n → ClocksFit n now
  fits exclusive =
      record {
        outputs = each_both (λ x. clock x ≡ []) (IsGiven n) (IsThere now) (λ x e g. is_there_on x g (subst (λ z. holds z now ≡ true) (sym e) refl)) n.outputs c.outputs closed.outputs;
        clocks = each_both (λ (e : FlatEqn). StepsStand n types clock [] e.clock) (λ (e : FlatEqn). AllByRecursion (IsGiven n) (variables_in e)) (λ (e : FlatEqn). ClockIsThere e.clock now)
            (λ e s g. steps_there [] e.clock s (front (IsGiven n) (clock_variables e.clock) (e.restart ++ operands e.right) g) refl) n.eqns c.steps closed.eqns;
        operands_there = each_both (λ (e : FlatEqn). AllByRecursion (λ x. IsFrontOf (clock x) e.clock) (operands e.right)) (λ (e : FlatEqn). AllByRecursion (IsGiven n) (variables_in e))
            (λ (e : FlatEqn). IsTrue (holds e.clock now) → AllByRecursion (IsThere now) (operands e.right))
            (λ e f g h. each_both (λ x. IsFrontOf (clock x) e.clock) (IsGiven n) (IsThere now) (λ x r s. front_there x e.clock s r h) (operands e.right) f
            (behind (IsGiven n) e.restart (operands e.right) (behind (IsGiven n) (clock_variables e.clock) (e.restart ++ operands e.right) g)))
            n.eqns c.reads closed.eqns;
        exclusive = exclusive now;
      }

pub fit_law : FitLaw
fit_law types n ranked closed exclusive clocks now p = fits types n ranked closed clocks.0 clocks.1 now p exclusive

pub well_made_law : WellMadeLaw
well_made_law types callees n shape ranked closed exclusive clocks =
    record {
      ranked = ranked;
      no_inputs = shape.no_inputs;
      targets_differ = shape.targets_differ;
      values = shape.values;
      kinds = shape.kinds;
      fit = λ now p. fit_law types n ranked closed exclusive clocks now p;
    }
