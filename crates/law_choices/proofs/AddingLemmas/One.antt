-- One new variable, with the equations that define it.
use Rattle.std.proofs.Common.{◌≡◌, ◌⊎◌, inl, inr, ℕ, zero, suc, ◌+◌, ◌<◌, ◌≤◌, true, false, if◌then◌else◌, nat_eq, nat_lt, List, [], ◌∷◌, ◌++◌, length, map, slice_get, refl, sym, ap, subst, ◌∙◌, arith}
use Rattle.std.specs.List.{AllByRecursion, IsDistinct}
use Rattle.std.proofs.lemmas.Bool.Decides.{nat_tests}
use Rattle.std.proofs.lemmas.List.{append_assoc, append-nil, length-append}
use Rattle.hp_base.specs.Kinds.{KindData, Bools}
use Rattle.hp_obc.specs.Machines.{ObcType}
use Rattle.hp_flat.specs.declared.node.FlatTy.{FlatTy}
use Rattle.hp_flat.specs.declared.node.Variable.{Variable}
use Rattle.hp_flat.specs.Equations.{Clock, FlatEqn}
use Rattle.hp_flat.specs.Nodes.{FlatNode}
use Rattle.law_equations.specs.Meaning.Fitting.{operands}
use Rattle.law_equations.specs.Meaning.Kinding.{Callees, HasValue, HasArm, RightHasKinds, EqnKinds, kind_of_type, variable_kind}
use Rattle.law_equations.specs.Meaning.Scheduling.{clock_variables, AreBelow, EqnWithin}
use Rattle.hp_watch.specs.Adding.{type_of, type_at, added_variable, with_variable, with_eqn}
use Rattle.hp_watch.specs.Growing.{Grows}
use Rattle.law_choices.specs.Adding.Adding.{IsNewIn}
use Rattle.law_choices.specs.Adding.Keeping.{IsBased, Keeps}
use Rattle.law_choices.specs.Adding.Lifts.{IsOn}
use Rattle.law_choices.specs.Closed.Closed.{IsTarget}
use Rattle.law_choices.specs.Closed.Clocking.{IsFrontOf, IsDefinedOn, StepsStand, IsSplit}
use Rattle.law_choices.specs.Closed.Exclusive.{AreParted}
use Rattle.law_choices.proofs.AddingLemmas.Adding.{right_kinds, clock_kinds, both}
use Rattle.law_choices.proofs.AddingLemmas.Steps.{IsStep, stepped, higher}
use Rattle.law_choices.proofs.ClosedLemmas.ClosedLaws.{each_other, each_both}

-- ---- what stands behind a node

pub record Behind (n other : FlatNode) (vs : List Variable) (es : List FlatEqn) : Type 0 where
  pub name : other.name ≡ n.name
  pub variables : other.variables ≡ n.variables ++ vs
  pub inputs : other.inputs ≡ n.inputs
  pub outputs : other.outputs ≡ n.outputs
  pub eqns : other.eqns ≡ n.eqns ++ es

abbrev pub nothing-behind : (n : FlatNode) → Behind n n [] []
nothing-behind n = record { name = refl; variables = sym (append-nil n.variables); inputs = refl; outputs = refl; eqns = sym (append-nil n.eqns) }

pub variable-more : (ty : FlatTy) (n other : FlatNode) (vs : List Variable) (es : List FlatEqn) → Behind n other vs es → Behind n (with_variable ty other) (vs ++ added_variable (length other.variables) ty ∷ []) es
unfolding with_variable
variable-more ty n other vs es b =
    let v = added_variable (length other.variables) ty ∷ [] in
    record { name = b.name; variables = ap (λ xs. xs ++ v) b.variables ∙ append_assoc n.variables vs v; inputs = b.inputs; outputs = b.outputs; eqns = b.eqns }

pub variable-behind : (ty : FlatTy) (n : FlatNode) → Behind n (with_variable ty n) (added_variable (length n.variables) ty ∷ []) []
variable-behind ty n = variable-more ty n n [] [] (nothing-behind n)

pub eqn-behind : (n other : FlatNode) (vs : List Variable) (es : List FlatEqn) (e : FlatEqn) → Behind n other vs es → Behind n (with_eqn e other) vs (es ++ e ∷ [])
unfolding with_eqn
eqn-behind n other vs es e b = record { name = b.name; variables = b.variables; inputs = b.inputs; outputs = b.outputs; eqns = ap (λ xs. xs ++ e ∷ []) b.eqns ∙ append_assoc n.eqns es (e ∷ []) }

abbrev pub grows-behind : (n other : FlatNode) (vs : List Variable) (es : List FlatEqn) → Behind n other vs es → Grows n other
grows-behind n other vs es b = record { name = b.name; inputs = b.inputs; outputs = b.outputs; variables = (vs, b.variables); eqns = (es, b.eqns) }

-- ---- growing

abbrev pub grows-self : (n : FlatNode) → Grows n n
grows-self n = grows-behind n n [] [] (nothing-behind n)

abbrev pub grows-both : (n m k : FlatNode) → Grows n m → Grows m k → Grows n k
grows-both n m k g h =
    let v = g.variables in
    let w = h.variables in
    let e = g.eqns in
    let f = h.eqns in
    record {
      name = h.name ∙ g.name;
      inputs = h.inputs ∙ g.inputs;
      outputs = h.outputs ∙ g.outputs;
      variables = (v.0 ++ w.0, w.1 ∙ ap (λ xs. xs ++ w.0) v.1 ∙ append_assoc n.variables v.0 w.0);
      eqns = (e.0 ++ f.0, f.1 ∙ ap (λ xs. xs ++ f.0) e.1 ∙ append_assoc n.eqns e.0 f.0);
    }

pub grows-length : (n m : FlatNode) → Grows n m → length n.variables ≤ length m.variables
grows-length n m g = let v = g.variables in let e = ap length v.1 in let l = length-append n.variables v.0 in omega (arith, e, l)

-- ---- types and kinds

pub type-more : (vs more : List Variable) (x : ℕ) → x < length vs → type_of (slice_get (vs ++ more) x) ≡ type_of (slice_get vs x)
type-more [] more x l = absurd (omega (arith, l))
type-more (v ∷ vs) more zero l = refl
type-more (v ∷ vs) more (suc x) l = type-more vs more x (omega (arith, l))

pub type-grown : (n other : FlatNode) (x : ℕ) → Grows n other → x < length n.variables → type_at other x ≡ type_at n x
type-grown n other x g l = let v = g.variables in ap (λ vs. type_of (slice_get vs x)) v.1 ∙ type-more n.variables v.0 x l

pub type-last : (vs : List Variable) (v : Variable) → type_of (slice_get (vs ++ v ∷ []) (length vs)) ≡ v.ty
type-last [] v = refl
type-last (w ∷ vs) v = type-last vs v

pub kind-type : (types : List ObcType) (vs : List Variable) (x : ℕ) → variable_kind types vs x ≡ kind_of_type types (type_of (slice_get vs x))
kind-type types [] x = refl
kind-type types (v ∷ vs) zero = refl
kind-type types (v ∷ vs) (suc x) = kind-type types vs x

pub kind-at : (types : List ObcType) (n : FlatNode) (x : ℕ) → variable_kind types n.variables x ≡ kind_of_type types (type_at n x)
kind-at types n x = kind-type types n.variables x

value-type : (types : List ObcType) (vs : List Variable) (x : ℕ) → x < length vs → AllByRecursion (λ (v : Variable). HasValue types v.ty) vs → HasValue types (type_of (slice_get vs x))
value-type types [] x l h = absurd (omega (arith, l))
value-type types (v ∷ vs) zero l h = h.0
value-type types (v ∷ vs) (suc x) l h = value-type types vs x (omega (arith, l)) h.1

pub value-at : (types : List ObcType) (n : FlatNode) (x : ℕ) → x < length n.variables → AllByRecursion (λ (v : Variable). HasValue types v.ty) n.variables → HasValue types (type_at n x)
value-at types n x l h = value-type types n.variables x l h

-- ---- what stays

module _ (types : List ObcType) (callees : Callees) where
  abbrev pub keeps-self : (n : FlatNode) (clock : ℕ → Clock) → IsBased types callees clock n → Keeps types callees clock n n
  keeps-self n clock b = record { clocks = clock; built = b; same = λ x l. refl; grows = grows-self n; fresh = tt }

  pub fresh-both : (n m other : FlatNode) (clock : ℕ → Clock) (k : Keeps types callees clock n m) (h : Keeps types callees k.clocks m other) → AllByRecursion (λ (e : FlatEqn). AllByRecursion (λ x. length n.variables ≤ x) e.targets) ((grows-both n m other k.grows h.grows).eqns).0
  fresh-both n m other clock k h =
      let g = k.grows in
      let q = h.grows in
      both (λ (e : FlatEqn). AllByRecursion (λ x. length n.variables ≤ x) e.targets) (g.eqns).0 (q.eqns).0 k.fresh
      (each_other (λ (e : FlatEqn). AllByRecursion (λ x. length m.variables ≤ x) e.targets) (λ (e : FlatEqn). AllByRecursion (λ x. length n.variables ≤ x) e.targets)
      (λ e i. each_other (λ x. length m.variables ≤ x) (λ x. length n.variables ≤ x) (λ x l. let more = grows-length n m g in omega (arith, l, more)) e.targets i) (q.eqns).0 h.fresh)

  abbrev pub keeps-both : (n m other : FlatNode) (clock : ℕ → Clock) (k : Keeps types callees clock n m) → Keeps types callees k.clocks m other → Keeps types callees clock n other
  keeps-both n m other clock k h =
      let g = k.grows in
      record {
        clocks = h.clocks;
        built = h.built;
        same = λ x l. let more = grows-length n m g in h.same x (omega (arith, l, more)) ∙ k.same x l;
        grows = grows-both n m other g h.grows;
        fresh = fresh-both n m other clock k h;
      }

  pub on-kept : (n other : FlatNode) (clock : ℕ → Clock) (k : Keeps types callees clock n other) (on : Clock) (ty : FlatTy) (x : ℕ) → IsOn n clock on ty x → IsOn other k.clocks on ty x
  on-kept n other clock k on ty x h =
      let g = k.grows in
      let l = h.variable in
      let t = h.there in
      record {
        variable = let more = grows-length n other g in omega (arith, l, more);
        there = (t.0, t.1 ∙ ap (λ d. d ++ t.0) (sym (k.same x l)));
        type = type-grown n other x g l ∙ h.type;
      }

-- ---- one new variable

abbrev pub one_more : FlatNode → (ℕ → Clock) → Clock → ℕ → Clock
one_more n clock new x = if nat_lt x (length n.variables) then clock x else new

module _ (types : List ObcType) (callees : Callees) (n : FlatNode) (before : ℕ → Clock) where
  abbrev pub V : ℕ
  V = length n.variables

  -- an equation that defines the next variable, of a kind
  pub record Defines (k : KindData) (e : FlatEqn) : Type 0 where
    pub target : e.targets ≡ V ∷ []
    pub clock : AreBelow V (clock_variables e.clock)
    pub operands_below : AreBelow V (operands e.right)
    pub restart : e.restart ≡ []
    pub right : RightHasKinds types callees n.variables e.right (k ∷ [])
    pub arms : AllByRecursion (λ (on : ℕ × ℕ). HasArm (variable_kind types n.variables on.0) on.1) e.clock
    pub steps : StepsStand n types before [] e.clock
    pub reads : AllByRecursion (λ x. IsFrontOf (before x) e.clock) (operands e.right)

  module _ (other : FlatNode) (ty : FlatTy) (on : Clock) (es : List FlatEqn) (c : IsBased types callees before n) (b : Behind n other (added_variable (length n.variables) ty ∷ []) es) (value : HasValue types ty)
      (all : AllByRecursion (Defines (kind_of_type types ty)) es) (parted : AreParted es) (said : IsTarget es (length n.variables))
      (defined : IsDefinedOn other (length n.variables) on ⊎ IsSplit other types (one_more n before on) (length n.variables)) where
    abbrev pub clock : ℕ → Clock
    clock = one_more n before on

    abbrev pub v : Variable
    v = added_variable V ty

    size : length other.variables ≡ V + 1
    size = ap length b.variables ∙ length-append n.variables (v ∷ [])

    pub same : (x : ℕ) → x < V → clock x ≡ before x
    same x l = let e : nat_lt x V ≡ true = grind (arith, nat_tests, l) in ap (λ q. if q then before x else on) e

    last : clock V ≡ on
    last = let e : nat_lt V V ≡ false = grind (arith, nat_tests) in ap (λ q. if q then before V else on) e

    front : (x : ℕ) (d : Clock) → x < V → IsFrontOf (before x) d → IsFrontOf (clock x) d
    front x d l h = (h.0, h.1 ∙ ap (λ k. k ++ h.0) (sym (same x l)))

    steps_same : (first rest : Clock) → AreBelow V (clock_variables rest) → StepsStand n types before first rest → StepsStand other types clock first rest
    steps_same first [] w h = tt
    steps_same first (s ∷ rest) w h = (front s.0 first w.0 h.0, steps_same (first ++ s ∷ []) rest w.1 h.1)

    last_kind : variable_kind types other.variables V ≡ kind_of_type types ty
    last_kind = ap (λ vs. variable_kind types vs V) b.variables ∙ kind-type types (n.variables ++ v ∷ []) V ∙ ap (kind_of_type types) (type-last n.variables v)

    fits : (e : FlatEqn) → Defines (kind_of_type types ty) e → EqnWithin (length other.variables) e
    fits e d = record {
      targets = subst (AreBelow (length other.variables)) (sym d.target) (omega (arith, size), tt);
      clock = higher V (length other.variables) (omega (arith, size)) (clock_variables e.clock) d.clock;
      operands = higher V (length other.variables) (omega (arith, size)) (operands e.right) d.operands_below;
      restart = subst (AreBelow (length other.variables)) (sym d.restart) tt;
    }

    kinded : (e : FlatEqn) → Defines (kind_of_type types ty) e → EqnKinds types callees other.variables e
    kinded e d = record {
      right = subst (λ vs. RightHasKinds types callees vs e.right (map (variable_kind types other.variables) e.targets)) (sym b.variables)
          (subst (RightHasKinds types callees (n.variables ++ v ∷ []) e.right) (ap (λ k. k ∷ []) (sym last_kind) ∙ ap (map (variable_kind types other.variables)) (sym d.target))
          (right_kinds types callees n.variables (v ∷ []) e.right (kind_of_type types ty ∷ []) d.operands_below d.right));
      clock = subst (λ vs. AllByRecursion (λ (s : ℕ × ℕ). HasArm (variable_kind types vs s.0) s.1) e.clock) (sym b.variables) (clock_kinds types callees n.variables (v ∷ []) e.clock d.clock d.arms);
      restart = subst (AllByRecursion (λ x. variable_kind types other.variables x ≡ Bools)) (sym d.restart) tt;
    }

    new_is : (x : ℕ) → IsNewIn n other x → x ≡ V
    new_is x (inl h) = let i = b.inputs in let m = h.0 in let u = h.1 in absurd (omega (arith, i, m, u))
    new_is x (inr h) = let l = h.0 in let u = h.1 in omega (arith, l, u, size)

    pub step : IsStep types callees n other (v ∷ []) es clock
    unfolding IsDistinct
    step = record {
      variables = b.variables;
      inputs = let i = b.inputs in omega (arith, i);
      outputs = b.outputs;
      eqns = b.eqns;
      values = (value, tt);
      within = each_other (Defines (kind_of_type types ty)) (EqnWithin (length other.variables)) fits es all;
      new = each_other (Defines (kind_of_type types ty)) (λ (e : FlatEqn). AllByRecursion (IsNewIn n other) e.targets) (λ e d. subst (AllByRecursion (IsNewIn n other)) (sym d.target) (inr (omega arith, omega (arith, size)), tt)) es all;
      said = λ x i. subst (IsTarget es) (sym (new_is x i)) said;
      differ = each_other (Defines (kind_of_type types ty)) (λ (e : FlatEqn). IsDistinct nat_eq e.targets) (λ e d. subst (IsDistinct nat_eq) (sym d.target) (tt, tt)) es all;
      kinds = each_other (Defines (kind_of_type types ty)) (EqnKinds types callees other.variables) kinded es all;
      parted = parted;
      steps = each_other (Defines (kind_of_type types ty)) (λ (e : FlatEqn). StepsStand other types clock [] e.clock) (λ e d. steps_same [] e.clock d.clock d.steps) es all;
      reads = each_other (Defines (kind_of_type types ty)) (λ (e : FlatEqn). AllByRecursion (λ x. IsFrontOf (clock x) e.clock) (operands e.right))
          (λ e d. each_both (λ x. x < V) (λ x. IsFrontOf (before x) e.clock) (λ x. IsFrontOf (clock x) e.clock) (λ x l h. front x e.clock l h) (operands e.right) d.operands_below d.reads) es all;
      defined = λ x i. subst (λ y. IsDefinedOn other y (clock y) ⊎ IsSplit other types clock y) (sym (new_is x i)) (by defined);
    }
      where
        by : IsDefinedOn other V on ⊎ IsSplit other types clock V → IsDefinedOn other V (clock V) ⊎ IsSplit other types clock V
        by (inl d) = inl (subst (IsDefinedOn other V) (sym last) d)
        by (inr s) = inr s

    abbrev pub one-keeps : Keeps types callees before n other
    one-keeps = record {
      clocks = clock;
      built = stepped types callees n other (v ∷ []) es before clock c same step;
      same = same;
      grows = grows-behind n other (v ∷ []) es b;
      fresh = each_other (Defines (kind_of_type types ty)) (λ (e : FlatEqn). AllByRecursion (λ x. V ≤ x) e.targets) (λ e d. subst (AllByRecursion (λ x. V ≤ x)) (sym d.target) (omega arith, tt)) es all;
    }

    pub one-on : IsOn other clock on ty V
    one-on = record {
      variable = omega (arith, size);
      there = ([], last_front);
      type = ap (λ vs. type_of (slice_get vs V)) b.variables ∙ type-last n.variables v;
    }
      where
        last_front : on ≡ clock V ++ []
        last_front = sym (ap (λ d. d ++ []) last ∙ append-nil on)
