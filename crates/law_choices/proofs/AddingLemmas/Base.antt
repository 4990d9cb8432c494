-- Equations on the base clock are added.
use Rattle.std.proofs.Common.{◌≡◌, ◌⊎◌, inl, inr, ℕ, ◌<◌, ◌≤◌, false, ◌||◌, nat_eq, nat_lt, if◌then◌else◌, length, List, [], ◌∷◌, ◌++◌, refl, sym, ap, ap₂, subst, ◌∙◌, arith}
use Rattle.std.specs.Prelude.{Contains}
use Rattle.std.specs.List.{AllByRecursion, IsDistinct}
use Rattle.std.proofs.lemmas.Bool.{lt-ltb}
use Rattle.std.proofs.lemmas.Bool.Decides.{nat_tests}
use Rattle.std.proofs.lemmas.List.Elements.{All-contains, All-from_recursion, Contains-append_left, Contains-append_right, Contains-append_cases}
use Rattle.hp_obc.specs.Machines.{ObcType}
use Rattle.hp_flat.specs.Equations.{Clock, FlatEqn}
use Rattle.hp_flat.specs.Nodes.{FlatNode}
use Rattle.law_equations.specs.Meaning.Fitting.{operands}
use Rattle.law_equations.specs.Meaning.Kinding.{Callees}
use Rattle.law_equations.specs.Meaning.Reactions.{has}
use Rattle.law_choices.specs.Closed.Closed.{IsTarget}
use Rattle.law_choices.specs.Closed.Clocking.{IsFrontOf, IsDefinedOn, StepsStand}
use Rattle.law_choices.specs.Adding.Adding.{IsNewIn, ClocksAgree, Adds}
use Rattle.law_choices.specs.Adding.Base.{targets_of, based, AddsOnBase, BaseLaw}
use Rattle.law_choices.specs.Closed.Exclusive.{AreParted, Differ}
use Rattle.law_choices.proofs.ClosedLemmas.ClosedLaws.{first_one, later_one}
use Rattle.law_choices.proofs.AddingLemmas.Adding.{differ_where}

-- ---- targets

in_targets : (es : List FlatEqn) (e : FlatEqn) (x : ℕ) → Contains es e → Contains e.targets x → Contains (targets_of es) x
in_targets [] e x c t = absurd (none c)
  where
    none : Contains {X = FlatEqn} [] e → ⊥
    none c = omega (arith, c.1)
in_targets (d ∷ es) e x c t = by (λ h. in_targets es e x h t) (Contains-append_cases (d ∷ []) es e c)
  where
    by : (Contains es e → Contains (targets_of es) x) → Contains (d ∷ []) e ⊎ Contains es e → Contains (d.targets ++ targets_of es) x
    by rest (inl h) =
        let same = All-contains (λ (f : FlatEqn). f ≡ d) (d ∷ []) e (All-from_recursion (λ (f : FlatEqn). f ≡ d) (d ∷ []) (refl, tt)) h in
        Contains-append_left d.targets (targets_of es) x (subst (λ (f : FlatEqn). Contains f.targets x) same t)
    by rest (inr h) = Contains-append_right d.targets (targets_of es) x (rest h)

is_target : (es : List FlatEqn) (x : ℕ) → Contains (targets_of es) x → IsTarget es x
is_target [] x c = absurd (none c)
  where
    none : Contains {X = ℕ} [] x → ⊥
    none c = omega (arith, c.1)
is_target (e ∷ es) x c = by (is_target es x) (Contains-append_cases e.targets (targets_of es) x c)
  where
    by : (Contains (targets_of es) x → IsTarget es x) → Contains e.targets x ⊎ Contains (targets_of es) x → IsTarget (e ∷ es) x
    by rest (inl h) = (e, first_one e es, h)
    by rest (inr h) = let t = rest h in (t.0, later_one e t.0 es t.1, t.2)

-- ---- lists of numbers that differ

pub front : {A : Type 0} (P : A → Type 0) (xs ys : List A) → AllByRecursion P (xs ++ ys) → AllByRecursion P xs
front P [] ys h = tt
front P (x ∷ xs) ys h = (h.0, front P xs ys h.1)

behind : {A : Type 0} (P : A → Type 0) (xs ys : List A) → AllByRecursion P (xs ++ ys) → AllByRecursion P ys
behind P [] ys h = h
behind P (x ∷ xs) ys h = behind P xs ys h.1

distinct_front : (xs ys : List ℕ) → IsDistinct nat_eq (xs ++ ys) → IsDistinct nat_eq xs
unfolding IsDistinct
distinct_front [] ys h = tt
distinct_front (x ∷ xs) ys h = (front (λ y. nat_eq x y ≡ false) xs ys h.0, distinct_front xs ys h.1)

distinct_behind : (xs ys : List ℕ) → IsDistinct nat_eq (xs ++ ys) → IsDistinct nat_eq ys
unfolding IsDistinct
distinct_behind [] ys h = h
distinct_behind (x ∷ xs) ys h = distinct_behind xs ys h.1

distinct_apart : (xs ys : List ℕ) → IsDistinct nat_eq (xs ++ ys) → AllByRecursion (λ x. AllByRecursion (λ y. nat_eq x y ≡ false) ys) xs
unfolding IsDistinct
distinct_apart [] ys h = tt
distinct_apart (x ∷ xs) ys h = (behind (λ y. nat_eq x y ≡ false) xs ys h.0, distinct_apart xs ys h.1)

-- ---- no two define one variable

turned : (x y : ℕ) → nat_eq x y ≡ false → nat_eq y x ≡ false
turned x y h = grind (arith, nat_tests)

has_none : (xs : List ℕ) (x : ℕ) → AllByRecursion (λ y. nat_eq x y ≡ false) xs → has xs x ≡ false
has_none [] x h = refl
has_none (y ∷ ys) x h = ap₂ (λ a b. a || b) (turned x y h.0) (has_none ys x h.1)

none_of : (d : FlatEqn) (rest xs : List ℕ) → AllByRecursion (λ x. AllByRecursion (λ y. nat_eq x y ≡ false) (d.targets ++ rest)) xs → AllByRecursion (λ x. has d.targets x ≡ false) xs
none_of d rest [] h = tt
none_of d rest (x ∷ xs) h = (has_none d.targets x (front (λ y. nat_eq x y ≡ false) d.targets rest h.0), none_of d rest xs h.1)

others : (d : FlatEqn) (rest xs : List ℕ) → AllByRecursion (λ x. AllByRecursion (λ y. nat_eq x y ≡ false) (d.targets ++ rest)) xs → AllByRecursion (λ x. AllByRecursion (λ y. nat_eq x y ≡ false) rest) xs
others d rest [] h = tt
others d rest (x ∷ xs) h = (behind (λ y. nat_eq x y ≡ false) d.targets rest h.0, others d rest xs h.1)

no_other : (e : FlatEqn) (ds : List FlatEqn) → AllByRecursion (λ x. AllByRecursion (λ y. nat_eq x y ≡ false) (targets_of ds)) e.targets → AllByRecursion (Differ e) ds
no_other e [] h = tt
no_other e (d ∷ ds) h = (differ_where e d (none_of d (targets_of ds) e.targets h), no_other e ds (others d (targets_of ds) e.targets h))

distinct_parted : (es : List FlatEqn) → IsDistinct nat_eq (targets_of es) → AreParted es
distinct_parted [] h = tt
distinct_parted (e ∷ es) h = (no_other e es (distinct_apart e.targets (targets_of es) h), distinct_parted es (distinct_behind e.targets (targets_of es) h))

each_differs : (es : List FlatEqn) → IsDistinct nat_eq (targets_of es) → AllByRecursion (λ (e : FlatEqn). IsDistinct nat_eq e.targets) es
each_differs [] h = tt
each_differs (e ∷ es) h = (distinct_front e.targets (targets_of es) h, each_differs es (distinct_behind e.targets (targets_of es) h))

each_target : (P : ℕ → Type 0) (es : List FlatEqn) → AllByRecursion P (targets_of es) → AllByRecursion (λ (e : FlatEqn). AllByRecursion P e.targets) es
each_target P [] h = tt
each_target P (e ∷ es) h = (front P e.targets (targets_of es) h, each_target P es (behind P e.targets (targets_of es) h))

-- ---- the law

module _ (types : List ObcType) (callees : Callees) (n other : FlatNode) (more : List FlatEqn) (clock : ℕ → Clock) (low : n.inputs ≤ length n.variables) (a : AddsOnBase types callees n other more clock) where
  below_false : (x y : ℕ) → y ≤ x → nat_lt x y ≡ false
  below_false x y h = grind (arith, nat_tests)

  own_clock : (x : ℕ) → n.inputs ≤ x → x < length n.variables → based n clock x ≡ clock x
  own_clock x l u = ap (λ b. if b then [] else (if nat_lt x (length n.variables) then clock x else [])) (below_false x n.inputs l) ∙ ap (λ b. if b then clock x else []) (lt-ltb x (length n.variables) u)

  input_clock : (x : ℕ) → x < n.inputs → based n clock x ≡ []
  input_clock x h = ap (λ b. if b then [] else (if nat_lt x (length n.variables) then clock x else [])) (lt-ltb x n.inputs h)

  new_clock : (x : ℕ) → length n.variables ≤ x → based n clock x ≡ []
  new_clock x h =
      ap (λ b. if b then [] else (if nat_lt x (length n.variables) then clock x else [])) (below_false x n.inputs (omega (arith, low, h)))
      ∙ ap (λ b. if b then clock x else []) (below_false x (length n.variables) h)

  new_on_base : (x : ℕ) → IsNewIn n other x → based n clock x ≡ []
  new_on_base x (inl h) = input_clock x h.1
  new_on_base x (inr h) = new_clock x h.0

  steps_stand : (es : List FlatEqn) → AllByRecursion (λ (e : FlatEqn). e.clock ≡ []) es → AllByRecursion (λ (e : FlatEqn). StepsStand other types (based n clock) [] e.clock) es
  steps_stand [] h = tt
  steps_stand (e ∷ es) h = (subst (StepsStand other types (based n clock) []) (sym h.0) tt, steps_stand es h.1)

  front_of : (e : FlatEqn) (xs : List ℕ) → AllByRecursion (λ x. based n clock x ≡ []) xs → AllByRecursion (λ x. IsFrontOf (based n clock x) e.clock) xs
  front_of e [] h = tt
  front_of e (x ∷ xs) h = ((e.clock, ap (λ c. c ++ e.clock) (sym h.0)), front_of e xs h.1)

  reads_front : (es : List FlatEqn) → AllByRecursion (λ (e : FlatEqn). AllByRecursion (λ x. based n clock x ≡ []) (operands e.right)) es
      → AllByRecursion (λ (e : FlatEqn). AllByRecursion (λ x. IsFrontOf (based n clock x) e.clock) (operands e.right)) es
  reads_front [] h = tt
  reads_front (e ∷ es) h = (front_of e (operands e.right) h.0, reads_front es h.1)

  -- each is defined on the base clock
  defined_on : (x : ℕ) → IsTarget more x → IsDefinedOn other x (based n clock x)
  defined_on x t =
      let base = All-contains (λ (e : FlatEqn). e.clock ≡ []) more t.0 (All-from_recursion (λ (e : FlatEqn). e.clock ≡ []) more a.base) t.1 in
      let new = All-contains (IsNewIn n other) (targets_of more) x (All-from_recursion (IsNewIn n other) (targets_of more) a.new) (in_targets more t.0 x t.1 t.2) in
      (t.0, subst (λ es. Contains es t.0) (sym a.eqns) (Contains-append_right n.eqns more t.0 t.1), t.2, base ∙ sym (new_on_base x new))

  adds : Adds types callees n other more
  adds = record {
    added = a.added;
    variables = a.variables;
    inputs = a.inputs;
    eqns = a.eqns;
    outputs = a.outputs;
    within = a.within;
    new = each_target (IsNewIn n other) more a.new;
    defined = λ x h. is_target more x (a.defined x h);
    differ = each_differs more a.distinct;
    values = a.values;
    kinds = a.kinds;
    parted = distinct_parted more a.distinct;
  }

  agree : ClocksAgree types n other more clock (based n clock)
  agree = record {
    own = own_clock;
    inputs = input_clock;
    outputs = a.outputs_on_base;
    steps = steps_stand more a.base;
    reads = reads_front more a.reads;
    defined = λ x t. inl (defined_on x t);
  }

pub base_law : BaseLaw
base_law types callees n other more clock low a = (adds types callees n other more clock low a, agree types callees n other more clock low a)
