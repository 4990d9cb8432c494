-- Values on the base clock.
use Rattle.std.proofs.Common.{rules, ◌≡◌, inr, ℕ, zero, suc, ◌<◌, Bool, true, false, if◌then◌else◌, nat_lt, min, List, [], ◌∷◌, ◌++◌, length, slice_get, refl, sym, ap, subst, ◌∙◌, arith}
use Rattle.std.specs.Prelude.{Contains, ◌==◌}
use Rattle.std.specs.List.{AllByRecursion, flat_map}
use Rattle.std.proofs.lemmas.Bool.Decides.{nat_tests}
use Rattle.std.proofs.lemmas.List.{append_assoc, append-nil}
use Rattle.std.proofs.lemmas.List.Elements.{Contains-append_left, Contains-append_right, Contains-push}
use Rattle.hp_base.specs.Kinds.{KindData, Ints, IsOfKind}
use Rattle.hp_base.specs.declared.value.Value.{Value}
use Rattle.hp_base.specs.declared.value.Value.TheVariants.{B, E}
use Rattle.hp_obc.specs.Machines.{ObcType}
use Rattle.hp_flat.specs.declared.equation.Atom.TheVariants.{Variable as Read, Value as Fixed}
use Rattle.hp_flat.specs.declared.node.FlatTy.{FlatTy}
use Rattle.hp_flat.specs.declared.node.FlatTy.TheVariants.{Bool as Truth, Int, Enum}
use Rattle.hp_flat.specs.Equations.{Clock, FlatEqn}
use Rattle.hp_flat.specs.Nodes.{FlatNode}
use Rattle.law_equations.specs.Meaning.Fitting.{atom_variables}
use Rattle.law_equations.specs.Meaning.Instants.{has_constructor}
use Rattle.law_equations.specs.Meaning.Kinding.{Callees, HasValue, HasArm, HaveKinds, IsTyped, constructors, kind_of_type, variable_kind}
use Rattle.law_equations.specs.Meaning.Reactions.{has}
use Rattle.law_equations.specs.Meaning.Scheduling.{clock_variables, AreBelow}
use Rattle.hp_watch.specs.Adding.{type_at, some_value, added_variable, with_variable}
use Rattle.hp_watch.specs.Lifting.{constructors as count_in, count_of, Valued, case_eqn, with_cases, with_step, lifted}
use Rattle.law_choices.specs.Adding.Keeping.{IsBased, Keeps}
use Rattle.law_choices.specs.Adding.Lifts.{HaveBytes, IsOn, CanStand, LiftLaw}
use Rattle.law_choices.specs.Closed.Closed.{IsTarget}
use Rattle.law_choices.specs.Closed.Clocking.{IsFrontOf, StepsStand, IsSplit}
use Rattle.law_choices.specs.Closed.Exclusive.{AreParted, Differ}
use Rattle.law_choices.proofs.ClosedLemmas.ClosedLaws.{each_other, first_one}
use Rattle.law_choices.proofs.AddingLemmas.Adding.{same_kind, both}
use Rattle.law_choices.proofs.AddingLemmas.One.{Behind, variable-behind, eqn-behind, grows-length, kind-at, value-at, keeps-self, keeps-both, one_more, Defines, one-keeps, one-on}
use Rattle.law_wellmade.proofs.PartedLemmas.Adding.{part-behind}

-- ---- constructors

pub bytes_at : (types : List ObcType) (t : ℕ) → HaveBytes types → count_in (slice_get types t) ≡ length (constructors types t)
bytes_at [] t h = refl
bytes_at (x ∷ types) zero h = let l = h.0 in let e : min (length x.cons) 256 ≡ length x.cons = omega (arith, l) in e
bytes_at (x ∷ types) (suc t) h = bytes_at types t h.1

arm_counts : (types : List ObcType) (ty : FlatTy) (c : ℕ) → HaveBytes types → HasArm (kind_of_type types ty) c → c < count_of types ty
arm_counts types Truth c h a = a
arm_counts types Int c h a = absurd a
arm_counts types (Enum t) c h a = let e = bytes_at types t h in omega (arith, a, e)

counts_arm : (types : List ObcType) (ty : FlatTy) (c : ℕ) → HaveBytes types → c < count_of types ty → HasArm (kind_of_type types ty) c
counts_arm types Truth c h a = a
counts_arm types Int c h a = absurd (omega (arith, a))
counts_arm types (Enum t) c h a = let e = bytes_at types t h in omega (arith, a, e)

zero_fits : IsOfKind Ints (some_value Int)
zero_fits = search rules

pub first_of : (types : List ObcType) (ty : FlatTy) → HasValue types ty → IsOfKind (kind_of_type types ty) (some_value ty) × IsTyped types (kind_of_type types ty)
first_of types Truth h = (tt, tt)
first_of types Int h = (zero_fits, tt)
first_of types (Enum t) h = ((refl, h), refl)

-- ---- clocks

clock_last : (P : ℕ → Type 0) (c : Clock) (t i j : ℕ) → AllByRecursion P (clock_variables (c ++ (t, i) ∷ [])) → AllByRecursion P (clock_variables (c ++ (t, j) ∷ []))
clock_last P [] t i j h = (h.0, tt)
clock_last P (on ∷ c) t i j h = (h.0, clock_last P c t i j h.1)

tested_last : (P : ℕ → Type 0) (c : Clock) (t i : ℕ) → AllByRecursion P (clock_variables (c ++ (t, i) ∷ [])) → P t
tested_last P [] t i h = h.0
tested_last P (on ∷ c) t i h = tested_last P c t i h.1

module _ (types : List ObcType) (n : FlatNode) (clock : ℕ → Clock) where
  steps_last : (first c : Clock) (t i j : ℕ) → StepsStand n types clock first (c ++ (t, i) ∷ []) → StepsStand n types clock first (c ++ (t, j) ∷ [])
  steps_last first [] t i j h = (h.0, tt)
  steps_last first (on ∷ c) t i j h = (h.0, steps_last (first ++ on ∷ []) c t i j h.1)

  steps_end : (first c : Clock) (t i : ℕ) → StepsStand n types clock first (c ++ (t, i) ∷ []) → IsFrontOf (clock t) (first ++ c)
  steps_end first [] t i h = let f = h.0 in (f.0, append-nil first ∙ f.1)
  steps_end first (on ∷ c) t i h = let f = steps_end (first ++ on ∷ []) c t i h.1 in (f.0, sym (append_assoc first (on ∷ []) c) ∙ f.1)

  steps_front : (first c more : Clock) → StepsStand n types clock first (c ++ more) → StepsStand n types clock first c
  steps_front first [] more h = tt
  steps_front first (on ∷ c) more h = (h.0, steps_front (first ++ on ∷ []) c more h.1)

pub each_front : {A : Type 0} (P : A → Type 0) (xs ys : List A) → AllByRecursion P (xs ++ ys) → AllByRecursion P xs
each_front P [] ys h = tt
each_front P (x ∷ xs) ys h = (h.0, each_front P xs ys h.1)

each_last : {A : Type 0} (P : A → Type 0) (xs : List A) (x : A) → AllByRecursion P (xs ++ x ∷ []) → P x
each_last P [] x h = h.0
each_last P (y ∷ xs) x h = each_last P xs x h.1

variables_front : (P : ℕ → Type 0) (c more : Clock) → AllByRecursion P (clock_variables (c ++ more)) → AllByRecursion P (clock_variables c)
variables_front P [] more h = tt
variables_front P (on ∷ c) more h = (h.0, variables_front P c more h.1)

-- behind the same steps a variable has one constructor alone
pub one_constructor : (v : Value) (c d : ℕ) → has_constructor c v ≡ true → has_constructor d v ≡ true → c ≡ d
one_constructor (B true) c d h g = grind (arith, nat_tests, h, g)
one_constructor (B false) c d h g = grind (arith, nat_tests, h, g)
one_constructor (E t k) c d h g = grind (arith, nat_tests, h, g)
one_constructor v c d h g = absurd cc

-- ---- one step

module _ (target : ℕ) (t : FlatTy) (before : Clock) (on : ℕ × ℕ) (value : ℕ) where
  abbrev pub case : ℕ → FlatEqn
  case k = case_eqn target t before on value k

  abbrev pub cases : ℕ → List FlatEqn
  cases zero = []
  cases (suc k) = cases k ++ case k ∷ []

  pub cases-behind : (k : ℕ) (n m : FlatNode) → Behind n m (added_variable (length n.variables) t ∷ []) [] → Behind n (with_cases target t before on value k m) (added_variable (length n.variables) t ∷ []) (cases k)
  cases-behind zero n m b = b
  cases-behind (suc k) n m b = eqn-behind n (with_cases target t before on value k m) (added_variable (length n.variables) t ∷ []) (cases k) (case k) (cases-behind k n m b)

  pub each_case : (P : FlatEqn → Type 0) (k : ℕ) → ((c : ℕ) → c < k → P (case c)) → AllByRecursion P (cases k)
  each_case P zero f = tt
  each_case P (suc k) f = both P (cases k) (case k ∷ []) (each_case P k (λ c l. f c (omega (arith, l)))) (f k (omega arith), tt)

  pub has_case : (k c : ℕ) → c < k → Contains (cases k) (case c)
  has_case zero c l = absurd (omega (arith, l))
  has_case (suc k) c l = by (nat_lt c k) refl (λ m. has_case k c m)
    where
      by : (b : Bool) → nat_lt c k ≡ b → (c < k → Contains (cases k) (case c)) → Contains (cases k ++ case k ∷ []) (case c)
      by true e rest = Contains-append_left (cases k) (case k ∷ []) (case c) (rest (grind (arith, nat_tests, e)))
      by false e rest = let same : k ≡ c = grind (arith, nat_tests, e, l) in subst (λ d. Contains (cases k ++ case k ∷ []) (case d)) same (Contains-push (cases k) (case k))

parted_more : (es : List FlatEqn) (d : FlatEqn) → AreParted es → AllByRecursion (λ (e : FlatEqn). Differ e d) es → AreParted (es ++ d ∷ [])
parted_more [] d h g = (tt, tt)
parted_more (e ∷ es) d h g = (both (Differ e) es (d ∷ []) h.0 (g.0, tt), parted_more es d h.1 g.1)

module _ (target : ℕ) (t : FlatTy) (before : Clock) (on : ℕ × ℕ) (value : ℕ) where
  pub cases_parted : (k : ℕ) → AreParted (cases target t before on value k)
  cases_parted zero = tt
  cases_parted (suc k) =
      let last = case target t before on value k in
      parted_more (cases target t before on value k) last (cases_parted k)
      (each_case target t before on value (λ (e : FlatEqn). Differ e last) k (λ c l x h g. part-behind before on.0 c k (grind (arith, nat_tests, l))))

module _ (types : List ObcType) (callees : Callees) (bytes : HaveBytes types) where
  module _ (n : FlatNode) (clock : ℕ → Clock) (c : IsBased types callees clock n) (before : Clock) (on : ℕ × ℕ) (x : ℕ) (stand : CanStand types n clock (before ++ on ∷ [])) (value : IsOn n clock (before ++ on ∷ []) (type_at n x) x) where
    abbrev pub V : ℕ
    V = length n.variables

    abbrev pub ty : FlatTy
    ty = type_at n x

    abbrev pub kind : KindData
    kind = kind_of_type types ty

    abbrev pub case_at : ℕ → FlatEqn
    case_at i = case V ty before on x i

    pub tested_below : on.0 < V
    tested_below = tested_last (λ y. y < V) before on.0 on.1 stand.within

    abbrev pub count : ℕ
    count = count_of types (type_at n on.0)

    abbrev pub eqns : List FlatEqn
    eqns = cases V ty before on x count

    pub has_value : HasValue types ty
    has_value = let w = c.well in value-at types n x value.variable w.values

    pub arm_of : (i : ℕ) → i < count → HasArm (variable_kind types n.variables on.0) i
    arm_of i l = subst (λ k. HasArm k i) (sym (kind-at types n on.0)) (counts_arm types (type_at n on.0) i bytes l)

    pub count_of_arm : (i : ℕ) → HasArm (variable_kind types n.variables on.0) i → i < count
    count_of_arm i a = arm_counts types (type_at n on.0) i bytes (subst (λ k. HasArm k i) (kind-at types n on.0) a)

    pub some_count : 0 < count
    some_count = let l = count_of_arm on.1 (each_last (λ (t : ℕ × ℕ). HasArm (variable_kind types n.variables t.0) t.1) before on stand.arms) in omega (arith, l)

    pub read : (b : Bool) → HaveKinds types callees n.variables ((if b then Read x else Fixed (some_value ty)) ∷ []) (kind ∷ [])
    read true = (kind-at types n x, tt)
    read false = (first_of types ty has_value, tt)

    pub below : (b : Bool) → AreBelow V (flat_map atom_variables ((if b then Read x else Fixed (some_value ty)) ∷ []))
    below true = (value.variable, tt)
    below false = tt

    pub front : (b : Bool) (i : ℕ) → (i == on.1) ≡ b → AllByRecursion (λ y. IsFrontOf (clock y) (before ++ (on.0, i) ∷ [])) (flat_map atom_variables ((if b then Read x else Fixed (some_value ty)) ∷ []))
    front true i e = let same : on.1 ≡ i = grind (arith, nat_tests, e) in (subst (λ j. IsFrontOf (clock x) (before ++ (on.0, j) ∷ [])) same value.there, tt)
    front false i e = tt

    pub case_defines : (i : ℕ) → i < count → Defines types callees n clock kind (case_at i)
    case_defines i l = record {
      target = refl;
      clock = clock_last (λ y. y < V) before on.0 on.1 i stand.within;
      operands_below = below (i == on.1);
      restart = refl;
      right = (kind ∷ [], read (i == on.1), kind, refl, refl);
      arms = both (λ (t : ℕ × ℕ). HasArm (variable_kind types n.variables t.0) t.1) before ((on.0, i) ∷ []) (each_front (λ (t : ℕ × ℕ). HasArm (variable_kind types n.variables t.0) t.1) before (on ∷ []) stand.arms) (arm_of i l, tt);
      steps = steps_last types n clock [] before on.0 on.1 i stand.steps;
      reads = front (i == on.1) i refl;
    }

    abbrev pub other : FlatNode
    other = with_step types before on x n

    pub behind : Behind n other (added_variable V ty ∷ []) eqns
    behind = cases-behind V ty before on x count n (with_variable ty n) (variable-behind ty n)

    pub same_before : (y : ℕ) → y < V → one_more n clock before y ≡ clock y
    same_before y l = let e : nat_lt y V ≡ true = grind (arith, nat_tests, l) in ap (λ b. if b then clock y else before) e

    pub last_clock : one_more n clock before V ≡ before
    last_clock = let e : nat_lt V V ≡ false = grind (arith, nat_tests) in ap (λ b. if b then clock V else before) e

    pub tested_kind : variable_kind types other.variables on.0 ≡ variable_kind types n.variables on.0
    tested_kind = ap (λ vs. variable_kind types vs on.0) behind.variables ∙ same_kind types callees n.variables (added_variable V ty ∷ []) on.0 tested_below

    pub split : IsSplit other types (one_more n clock before) V
    split = record {
      tested = on.0;
      there = let f = steps_end types n clock [] before on.0 on.1 stand.steps in (f.0, last_clock ∙ f.1 ∙ ap (λ d. d ++ f.0) (sym (same_before on.0 tested_below)));
      has_one = subst (λ k. HasArm k 0) (sym tested_kind) (arm_of 0 some_count);
      arms = λ i a.
          let l = count_of_arm i (subst (λ k. HasArm k i) tested_kind a) in
          let at = Contains-append_right n.eqns eqns (case_at i) (has_case V ty before on x count i l) in
          (case_at i, subst (λ es. Contains es (case_at i)) (sym behind.eqns) at, first_one V [], ap (λ d. d ++ (on.0, i) ∷ []) (sym last_clock));
    }

    pub said : IsTarget eqns V
    said = (case_at 0, has_case V ty before on x count 0 some_count, first_one V [])

    abbrev pub step-keeps : Keeps types callees clock n other
    step-keeps = one-keeps types callees n clock other ty before eqns c behind has_value (each_case V ty before on x (Defines types callees n clock kind) count case_defines) (cases_parted V ty before on x count) said (inr split)

    pub step-on : IsOn other step-keeps.clocks before ty V
    step-on = one-on types callees n clock other ty before eqns c behind has_value (each_case V ty before on x (Defines types callees n clock kind) count case_defines) (cases_parted V ty before on x count) said (inr split)

  -- ---- all steps

  pub stand_kept : (n other : FlatNode) (clock : ℕ → Clock) (k : Keeps types callees clock n other) (on : Clock) → CanStand types n clock on → CanStand types other k.clocks on
  stand_kept n other clock k on s = record {
    within = each_other (λ x. x < length n.variables) (λ x. x < length other.variables) (λ x l. let more = grows-length n other k.grows in omega (arith, l, more)) (clock_variables on) s.within;
    steps = steps [] on s.within s.steps;
    arms = arms on s.within s.arms;
  }
    where
      steps : (first rest : Clock) → AreBelow (length n.variables) (clock_variables rest) → StepsStand n types clock first rest → StepsStand other types k.clocks first rest
      steps first [] w h = tt
      steps first (on ∷ rest) w h = let f = h.0 in ((f.0, f.1 ∙ ap (λ d. d ++ f.0) (sym (k.same on.0 w.0))), steps (first ++ on ∷ []) rest w.1 h.1)

      arms : (rest : Clock) → AreBelow (length n.variables) (clock_variables rest) → AllByRecursion (λ (t : ℕ × ℕ). HasArm (variable_kind types n.variables t.0) t.1) rest → AllByRecursion (λ (t : ℕ × ℕ). HasArm (variable_kind types other.variables t.0) t.1) rest
      arms [] w h = tt
      arms (on ∷ rest) w h =
          let g = k.grows in
          let v = g.variables in
          let same : variable_kind types other.variables on.0 ≡ variable_kind types n.variables on.0 = ap (λ vs. variable_kind types vs on.0) v.1 ∙ same_kind types callees n.variables v.0 on.0 w.0 in
          (subst (λ j. HasArm j on.1) (sym same) h.0, arms rest w.1 h.1)

  stand_front : (n : FlatNode) (clock : ℕ → Clock) (c more : Clock) → CanStand types n clock (c ++ more) → CanStand types n clock c
  stand_front n clock c more s = record {
    within = variables_front (λ x. x < length n.variables) c more s.within;
    steps = steps_front types n clock [] c more s.steps;
    arms = each_front (λ (t : ℕ × ℕ). HasArm (variable_kind types n.variables t.0) t.1) c more s.arms;
  }

  abbrev Lifted : FlatNode → (ℕ → Clock) → Clock → FlatTy → Valued → Type 0
  Lifted n clock before ty made = (k : Keeps types callees clock n made.node) × IsOn made.node k.clocks before ty made.value

  lift : (n : FlatNode) (clock : ℕ → Clock) → IsBased types callees clock n → (before on : Clock) (ty : FlatTy) (x : ℕ) → CanStand types n clock (before ++ on) → IsOn n clock (before ++ on) ty x → Lifted n clock before ty (lifted types before on x n)
  lift n clock c before [] t x stand v = (keeps-self types callees n clock c, subst (λ d. IsOn n clock d t x) (append-nil before) v)
  lift n clock c before (on ∷ rest) t x stand v =
      let front = before ++ on ∷ [] in
      let e : before ++ on ∷ rest ≡ front ++ rest = sym (append_assoc before (on ∷ []) rest) in
      let stands = subst (CanStand types n clock) e stand in
      let inner = lift n clock c front rest t x stands (subst (λ d. IsOn n clock d t x) e v) in
      let made = lifted types front rest x n in
      let k = inner.0 in
      let i = inner.1 in
      let here = stand_kept n made.node clock k front (stand_front n clock front rest stands) in
      let value : IsOn made.node k.clocks front (type_at made.node made.value) made.value = record { variable = i.variable; there = i.there; type = refl } in
      let step = step-keeps made.node k.clocks k.built before on made.value here value in
      let last = step-on made.node k.clocks k.built before on made.value here value in (
        keeps-both types callees n made.node (with_step types before on made.value made.node) clock k step,
        record { variable = last.variable; there = last.there; type = last.type ∙ i.type },
      )

pub lift_law : LiftLaw
lift_law types callees n clock on x bytes c stand v = lift types callees bytes n clock c [] on (type_at n x) x stand v
