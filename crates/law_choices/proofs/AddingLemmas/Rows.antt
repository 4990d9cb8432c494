-- Equations on the base clock that define variables in rows.
use Rattle.std.proofs.Common.{◌≡◌, ◌⊎◌, inl, inr, ℕ, zero, suc, ◌+◌, ◌<◌, ◌≤◌, Bool, true, false, if◌then◌else◌, nat_eq, nat_lt, List, [], ◌∷◌, ◌++◌, length, refl, sym, ap, subst, ◌∙◌, arith}
use Rattle.std.specs.Prelude.{Contains}
use Rattle.std.specs.List.{AllByRecursion, IsDistinct, range_with_len}
use Rattle.std.proofs.lemmas.Bool.Decides.{nat_tests}
use Rattle.std.proofs.lemmas.List.Elements.{Contains-append_right}
use Rattle.hp_obc.specs.Machines.{ObcType}
use Rattle.hp_flat.specs.declared.node.Variable.{Variable}
use Rattle.hp_flat.specs.Equations.{Clock, FlatEqn}
use Rattle.hp_flat.specs.Nodes.{FlatNode}
use Rattle.law_equations.specs.Meaning.Fitting.{operands}
use Rattle.law_equations.specs.Meaning.Kinding.{Callees, HasValue, EqnKinds}
use Rattle.law_equations.specs.Meaning.Reactions.{has}
use Rattle.law_equations.specs.Meaning.Scheduling.{clock_variables, AreBelow, EqnWithin}
use Rattle.law_choices.specs.Adding.Adding.{IsNewIn}
use Rattle.law_choices.specs.Adding.Keeping.{IsBased}
use Rattle.law_choices.specs.Adding.Controls.{always}
use Rattle.law_choices.specs.Closed.Closed.{IsTarget}
use Rattle.law_choices.specs.Closed.Clocking.{IsFrontOf, IsDefinedOn, StepsStand}
use Rattle.law_choices.specs.Closed.Exclusive.{AreParted, Differ}
use Rattle.law_choices.proofs.ClosedLemmas.ClosedLaws.{each_other, each_both, first_one, later_one}
use Rattle.law_choices.proofs.AddingLemmas.Steps.{IsStep, stepped, among, none_among}
use Rattle.law_choices.proofs.AddingLemmas.Adding.{differ_where}

-- ---- rows of numbers

pub each_range : (P : ℕ → Type 0) (a k : ℕ) → ((x : ℕ) → a ≤ x → x < a + k → P x) → AllByRecursion P (range_with_len a k)
each_range P a zero f = tt
each_range P a (suc k) f = (f a (omega arith) (omega arith), each_range P (a + 1) k (λ x l u. f x (omega (arith, l)) (omega (arith, u))))

range_differs : (a k : ℕ) → IsDistinct nat_eq (range_with_len a k)
unfolding IsDistinct
range_differs a zero = tt
range_differs a (suc k) = (each_range (λ y. nat_eq a y ≡ false) (a + 1) k (λ x l u. grind (arith, nat_tests, l)), range_differs (a + 1) k)

one_differs : (t : ℕ) → IsDistinct nat_eq (t ∷ [])
unfolding IsDistinct
one_differs t = (tt, tt)

range_has : (a k x : ℕ) → a ≤ x → x < a + k → Contains (range_with_len a k) x
range_has a zero x l u = absurd (omega (arith, l, u))
range_has a (suc k) x l u = by (nat_eq a x) refl (λ m. range_has (a + 1) k x m (omega (arith, u)))
  where
    by : (b : Bool) → nat_eq a x ≡ b → (a + 1 ≤ x → Contains (range_with_len (a + 1) k) x) → Contains (a ∷ range_with_len (a + 1) k) x
    by true e rest = let same : a ≡ x = grind (arith, nat_tests, e) in (0, omega arith, same)
    by false e rest = Contains-append_right (a ∷ []) (range_with_len (a + 1) k) x (rest (grind (arith, nat_tests, e, l)))

-- From two variables on, equations define the next ones of the first row, or the next one of the second, up to two others.
abbrev pub InRows : ℕ → ℕ → List FlatEqn → ℕ → ℕ → Type 0
InRows a t [] b u = (a ≡ b) × (t ≡ u)
InRows a t (e ∷ es) b u = ((k : ℕ) × (e.targets ≡ range_with_len a k) × InRows (a + k) t es b u) ⊎ ((e.targets ≡ t ∷ []) × InRows a (t + 1) es b u)

-- rows behind rows
pub rows-behind : (a t : ℕ) (es : List FlatEqn) (b u : ℕ) (fs : List FlatEqn) (c v : ℕ) → InRows a t es b u → InRows b u fs c v → InRows a t (es ++ fs) c v
rows-behind a t [] b u fs c v h g = subst (λ z. InRows z t fs c v) (sym h.0) (subst (λ z. InRows b z fs c v) (sym h.1) g)
rows-behind a t (e ∷ es) b u fs c v (inl h) g = inl (h.0, h.1, rows-behind (a + h.0) t es b u fs c v h.2 g)
rows-behind a t (e ∷ es) b u fs c v (inr h) g = inr (h.0, rows-behind a (t + 1) es b u fs c v h.1 g)

-- a number of one of two rows
abbrev pub Between : ℕ → ℕ → ℕ → ℕ → ℕ → Type 0
Between a b t u x = ((a ≤ x) × (x < b)) ⊎ ((t ≤ x) × (x < u))

pub rows_grow : (a t : ℕ) (es : List FlatEqn) (b u : ℕ) → InRows a t es b u → (a ≤ b) × (t ≤ u)
rows_grow a t [] b u h = let e = h.0 in let f = h.1 in (omega (arith, e), omega (arith, f))
rows_grow a t (e ∷ es) b u (inl h) = let g = rows_grow (a + h.0) t es b u h.2 in let l = g.0 in (omega (arith, l), g.1)
rows_grow a t (e ∷ es) b u (inr h) = let g = rows_grow a (t + 1) es b u h.1 in let l = g.1 in (g.0, omega (arith, l))

pub between : (a t : ℕ) (es : List FlatEqn) (b u : ℕ) → InRows a t es b u → AllByRecursion (λ (e : FlatEqn). AllByRecursion (Between a b t u) e.targets) es
between a t [] b u h = tt
between a t (e ∷ es) b u (inl h) =
    let g = rows_grow (a + h.0) t es b u h.2 in
    let l = g.0 in (
      subst (AllByRecursion (Between a b t u)) (sym h.1) (each_range (Between a b t u) a h.0 (λ x m v. inl (m, omega (arith, v, l)))),
      each_other (λ (d : FlatEqn). AllByRecursion (Between (a + h.0) b t u) d.targets) (λ (d : FlatEqn). AllByRecursion (Between a b t u) d.targets)
          (λ d i. each_other (Between (a + h.0) b t u) (Between a b t u) (λ x j. wider x j) d.targets i) es (between (a + h.0) t es b u h.2),
    )
  where
    wider : (x : ℕ) → Between (a + h.0) b t u x → Between a b t u x
    wider x (inl j) = let m = j.0 in inl (omega (arith, m), j.1)
    wider x (inr j) = inr j
between a t (e ∷ es) b u (inr h) =
    let g = rows_grow a (t + 1) es b u h.1 in
    let l = g.1 in (
      subst (AllByRecursion (Between a b t u)) (sym h.0) (inr (omega arith, omega (arith, l)), tt),
      each_other (λ (d : FlatEqn). AllByRecursion (Between a b (t + 1) u) d.targets) (λ (d : FlatEqn). AllByRecursion (Between a b t u) d.targets)
          (λ d i. each_other (Between a b (t + 1) u) (Between a b t u) (λ x j. wider x j) d.targets i) es (between a (t + 1) es b u h.1),
    )
  where
    wider : (x : ℕ) → Between a b (t + 1) u x → Between a b t u x
    wider x (inl j) = inl j
    wider x (inr j) = let m = j.0 in inr (omega (arith, m), j.1)

differ_all : (a t : ℕ) (es : List FlatEqn) (b u : ℕ) → InRows a t es b u → AllByRecursion (λ (e : FlatEqn). IsDistinct nat_eq e.targets) es
differ_all a t [] b u h = tt
differ_all a t (e ∷ es) b u (inl h) = (subst (IsDistinct nat_eq) (sym h.1) (range_differs a h.0), differ_all (a + h.0) t es b u h.2)
differ_all a t (e ∷ es) b u (inr h) = (subst (IsDistinct nat_eq) (sym h.0) (one_differs t), differ_all a (t + 1) es b u h.1)

-- the rows are apart: the second ends where the first one may not be
pub parted_rows : (a t : ℕ) (es : List FlatEqn) (b u : ℕ) → u ≤ a → InRows a t es b u → AreParted es
parted_rows a t [] b u l h = tt
parted_rows a t (e ∷ es) b u l (inl h) = (
  each_other (λ (d : FlatEqn). AllByRecursion (Between (a + h.0) b t u) d.targets) (Differ e)
      (λ d i. differ_where e d (subst (AllByRecursion (λ x. has d.targets x ≡ false)) (sym h.1) (each_range (λ x. has d.targets x ≡ false) a h.0 (λ x m v. none_among (Between (a + h.0) b t u) x (λ y j. apart x y m v j) d.targets i))))
      es (between (a + h.0) t es b u h.2),
  parted_rows (a + h.0) t es b u (omega (arith, l)) h.2,
)
  where
    apart : (x y : ℕ) → a ≤ x → x < a + h.0 → Between (a + h.0) b t u y → nat_eq y x ≡ false
    apart x y m v (inl j) = let k = j.0 in grind (arith, nat_tests, k, v)
    apart x y m v (inr j) = let k = j.1 in grind (arith, nat_tests, k, l, m)
parted_rows a t (e ∷ es) b u l (inr h) = (
  each_other (λ (d : FlatEqn). AllByRecursion (Between a b (t + 1) u) d.targets) (Differ e)
      (λ d i. differ_where e d (subst (AllByRecursion (λ x. has d.targets x ≡ false)) (sym h.0) (none_among (Between a b (t + 1) u) t (λ y j. apart y j) d.targets i, tt)))
      es (between a (t + 1) es b u h.1),
  parted_rows a (t + 1) es b u l h.1,
)
  where
    more : t + 1 ≤ u
    more = let g = rows_grow a (t + 1) es b u h.1 in g.1

    apart : (y : ℕ) → Between a b (t + 1) u y → nat_eq y t ≡ false
    apart y (inl j) = let k = j.0 in let m = more in grind (arith, nat_tests, k, l, m)
    apart y (inr j) = let k = j.0 in grind (arith, nat_tests, k)

-- each number of a row is a target
later : (e : FlatEqn) (es : List FlatEqn) (x : ℕ) → IsTarget es x → IsTarget (e ∷ es) x
later e es x s = (s.0, later_one e s.0 es s.1, s.2)

first_said : (a t : ℕ) (es : List FlatEqn) (b u : ℕ) → InRows a t es b u → (x : ℕ) → a ≤ x → x < b → IsTarget es x
first_said a t [] b u h x l v = let e = h.0 in absurd (omega (arith, l, v, e))
first_said a t (e ∷ es) b u (inl h) x l v = by (nat_lt x (a + h.0)) refl (λ m. first_said (a + h.0) t es b u h.2 x m v)
  where
    by : (c : Bool) → nat_lt x (a + h.0) ≡ c → (a + h.0 ≤ x → IsTarget es x) → IsTarget (e ∷ es) x
    by true q rest = (e, first_one e es, subst (λ xs. Contains xs x) (sym h.1) (range_has a h.0 x l (grind (arith, nat_tests, q))))
    by false q rest = later e es x (rest (grind (arith, nat_tests, q)))
first_said a t (e ∷ es) b u (inr h) x l v = later e es x (first_said a (t + 1) es b u h.1 x l v)

second_said : (a t : ℕ) (es : List FlatEqn) (b u : ℕ) → InRows a t es b u → (x : ℕ) → t ≤ x → x < u → IsTarget es x
second_said a t [] b u h x l v = let e = h.1 in absurd (omega (arith, l, v, e))
second_said a t (e ∷ es) b u (inl h) x l v = later e es x (second_said (a + h.0) t es b u h.2 x l v)
second_said a t (e ∷ es) b u (inr h) x l v = by (nat_eq t x) refl (λ m. second_said a (t + 1) es b u h.1 x m v)
  where
    by : (c : Bool) → nat_eq t x ≡ c → (t + 1 ≤ x → IsTarget es x) → IsTarget (e ∷ es) x
    by true q rest = let same : t ≡ x = grind (arith, nat_tests, q) in (e, first_one e es, subst (λ xs. Contains xs x) (sym h.0) (0, omega arith, same))
    by false q rest = later e es x (rest (grind (arith, nat_tests, q, l)))

-- ---- equations on the base clock

-- an equation on the base clock that reads what is there always, with kinds that agree
pub record IsAlways (types : List ObcType) (callees : Callees) (variables : List Variable) (clock : ℕ → Clock) (e : FlatEqn) : Type 0 where
  pub clock_is : e.clock ≡ []
  pub restart_is : e.restart ≡ []
  pub kinds : EqnKinds types callees variables e
  pub below : AreBelow (length variables) (operands e.right)
  pub there : AllByRecursion (λ x. IsFrontOf (clock x) []) (operands e.right)

-- Such equations are added, which define all new variables and the inputs that go, in rows.
pub record AddsRows (types : List ObcType) (callees : Callees) (n other : FlatNode) (vs : List Variable) (es : List FlatEqn) (clock : ℕ → Clock) : Type 0 where
  pub inputs : other.inputs ≤ n.inputs
  pub outputs : other.outputs ≡ n.outputs
  pub variables : other.variables ≡ n.variables ++ vs
  pub eqns : other.eqns ≡ n.eqns ++ es
  pub values : AllByRecursion (λ (v : Variable). HasValue types v.ty) vs
  pub rows : InRows (length n.variables) other.inputs es (length other.variables) n.inputs
  pub always_there : AllByRecursion (IsAlways types callees other.variables (always n clock)) es

module _ (types : List ObcType) (callees : Callees) (n other : FlatNode) (vs : List Variable) (es : List FlatEqn) (before : ℕ → Clock) (c : IsBased types callees before n) (a : AddsRows types callees n other vs es before) where
  abbrev V : ℕ
  V = length n.variables

  abbrev clock : ℕ → Clock
  clock = always n before

  abbrev A : FlatEqn → Type 0
  A = IsAlways types callees other.variables clock

  inputs_within : n.inputs ≤ V
  inputs_within = let w = c.well in let i = w.within in i.inputs

  grown : V ≤ length other.variables
  grown = let g = rows_grow V other.inputs es (length other.variables) n.inputs a.rows in g.0

  pub always_same : (x : ℕ) → x < V → clock x ≡ before x
  always_same x l = let e : nat_lt x V ≡ true = grind (arith, nat_tests, l) in ap (λ b. if b then before x else []) e

  abbrev In : ℕ → Type 0
  In = Between V (length other.variables) other.inputs n.inputs

  within : (x : ℕ) → In x → x < length other.variables
  within x (inl h) = h.1
  within x (inr h) = let l = h.1 in let m = inputs_within in let g = grown in omega (arith, l, m, g)

  new : (x : ℕ) → In x → IsNewIn n other x
  new x (inl h) = inr h
  new x (inr h) = inl h

  abbrev T : FlatEqn → Type 0
  T e = AllByRecursion In e.targets

  targets : AllByRecursion T es
  targets = between V other.inputs es (length other.variables) n.inputs a.rows

  fits : (e : FlatEqn) → T e → A e → EqnWithin (length other.variables) e
  fits e t i = record {
    targets = each_other In (λ x. x < length other.variables) within e.targets t;
    clock = subst (λ d. AreBelow (length other.variables) (clock_variables d)) (sym i.clock_is) tt;
    operands = i.below;
    restart = subst (AreBelow (length other.variables)) (sym i.restart_is) tt;
  }

  base : (x : ℕ) → IsNewIn n other x → clock x ≡ []
  base x (inl h) = let l = h.1 in let m = inputs_within in always_same x (omega (arith, l, m)) ∙ c.inputs x l
  base x (inr h) = let l = h.0 in let e : nat_lt x V ≡ false = grind (arith, nat_tests, l) in ap (λ b. if b then before x else []) e

  said : (x : ℕ) → IsNewIn n other x → IsTarget es x
  said x (inl h) = second_said V other.inputs es (length other.variables) n.inputs a.rows x h.0 h.1
  said x (inr h) = first_said V other.inputs es (length other.variables) n.inputs a.rows x h.0 h.1

  clock_of : (e : FlatEqn) → Contains es e → e.clock ≡ []
  clock_of e at = let i = among A es e a.always_there at in i.clock_is

  defined : (x : ℕ) → IsNewIn n other x → IsDefinedOn other x (clock x)
  defined x i =
      let s = said x i in
      (s.0, subst (λ ds. Contains ds s.0) (sym a.eqns) (Contains-append_right n.eqns es s.0 s.1), s.2, clock_of s.0 s.1 ∙ sym (base x i))

  step : IsStep types callees n other vs es clock
  step = record {
    variables = a.variables;
    inputs = a.inputs;
    outputs = a.outputs;
    eqns = a.eqns;
    values = a.values;
    within = each_both T A (EqnWithin (length other.variables)) fits es targets a.always_there;
    new = each_other T (λ (e : FlatEqn). AllByRecursion (IsNewIn n other) e.targets) (λ e t. each_other In (IsNewIn n other) new e.targets t) es targets;
    said = said;
    differ = differ_all V other.inputs es (length other.variables) n.inputs a.rows;
    kinds = each_other A (EqnKinds types callees other.variables) (λ e i. i.kinds) es a.always_there;
    parted = parted_rows V other.inputs es (length other.variables) n.inputs inputs_within a.rows;
    steps = each_other A (λ (e : FlatEqn). StepsStand other types clock [] e.clock) (λ e i. subst (StepsStand other types clock []) (sym i.clock_is) tt) es a.always_there;
    reads = each_other A (λ (e : FlatEqn). AllByRecursion (λ x. IsFrontOf (clock x) e.clock) (operands e.right)) (λ e i. subst (λ d. AllByRecursion (λ x. IsFrontOf (clock x) d) (operands e.right)) (sym i.clock_is) i.there) es a.always_there;
    defined = λ x i. inl (defined x i);
  }

  pub rows_based : IsBased types callees clock other
  rows_based = stepped types callees n other vs es before clock c always_same step
