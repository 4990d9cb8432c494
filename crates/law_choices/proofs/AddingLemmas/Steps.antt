-- One step in which more is added to a node.
use Rattle.std.proofs.Common.{◌≡◌, ◌⊎◌, inl, inr, ℕ, ◌<◌, ◌≤◌, Bool, true, false, ◌||◌, nat_eq, nat_lt, if◌then◌else◌, List, [], ◌∷◌, ◌++◌, length, refl, sym, ap, ap₂, subst, ◌∙◌, arith}
use Rattle.std.specs.Prelude.{Contains}
use Rattle.std.specs.List.{AllByRecursion, IsDistinct}
use Rattle.std.proofs.lemmas.Bool.Decides.{nat_tests}
use Rattle.std.proofs.lemmas.List.{length-append, append-nil}
use Rattle.std.proofs.lemmas.List.Elements.{All-contains, All-from_recursion}
use Rattle.hp_obc.specs.Machines.{ObcType}
use Rattle.hp_flat.specs.declared.node.Variable.{Variable}
use Rattle.hp_flat.specs.Equations.{Clock, FlatEqn}
use Rattle.hp_flat.specs.Nodes.{FlatNode}
use Rattle.law_equations.specs.Meaning.Fitting.{operands}
use Rattle.law_equations.specs.Meaning.Kinding.{Callees, HasValue, EqnKinds}
use Rattle.law_equations.specs.Meaning.Reactions.{has}
use Rattle.law_equations.specs.Meaning.Scheduling.{AreBelow, EqnWithin}
use Rattle.law_choices.specs.Adding.Adding.{IsWellBuilt, IsNewIn, ClocksAgree, Adds}
use Rattle.law_choices.specs.Adding.Base.{based}
use Rattle.law_choices.specs.Adding.Keeping.{IsBased, BasedLaw}
use Rattle.law_choices.specs.Closed.Closed.{IsTarget}
use Rattle.law_choices.specs.Closed.Clocking.{IsFrontOf, IsDefinedOn, StepsStand, IsSplit}
use Rattle.law_choices.specs.Closed.Exclusive.{AreParted}
use Rattle.law_choices.proofs.AddingLemmas.Adding.{adding_law}
use Rattle.law_choices.proofs.ClosedLemmas.ClosedLaws.{each_other, each_both}

-- ---- lists

pub among : {A : Type 0} (P : A → Type 0) (xs : List A) (x : A) → AllByRecursion P xs → Contains xs x → P x
among P xs x h at = All-contains P xs x (All-from_recursion P xs h) at

pub higher : (m n : ℕ) → m ≤ n → (xs : List ℕ) → AreBelow m xs → AreBelow n xs
higher m n l xs h = each_other (λ x. x < m) (λ x. x < n) (λ x g. omega (arith, l, g)) xs h

pub none_among : (P : ℕ → Type 0) (x : ℕ) → ((y : ℕ) → P y → nat_eq y x ≡ false) → (xs : List ℕ) → AllByRecursion P xs → has xs x ≡ false
none_among P x f [] h = refl
none_among P x f (y ∷ ys) h = ap₂ (λ a b. a || b) (f y h.0) (none_among P x f ys h.1)

-- ---- a step

-- The other node has these variables and equations more, and some inputs less; the clocks are those of all its variables.
pub record IsStep (types : List ObcType) (callees : Callees) (n other : FlatNode) (added : List Variable) (more : List FlatEqn) (clocks : ℕ → Clock) : Type 0 where
  pub variables : other.variables ≡ n.variables ++ added
  pub inputs : other.inputs ≤ n.inputs
  pub outputs : other.outputs ≡ n.outputs
  pub eqns : other.eqns ≡ n.eqns ++ more
  pub values : AllByRecursion (λ (v : Variable). HasValue types v.ty) added
  pub within : AllByRecursion (EqnWithin (length other.variables)) more
  pub new : AllByRecursion (λ (e : FlatEqn). AllByRecursion (IsNewIn n other) e.targets) more
  pub said : (x : ℕ) → IsNewIn n other x → IsTarget more x
  pub differ : AllByRecursion (λ (e : FlatEqn). IsDistinct nat_eq e.targets) more
  pub kinds : AllByRecursion (EqnKinds types callees other.variables) more
  pub parted : AreParted more
  pub steps : AllByRecursion (λ (e : FlatEqn). StepsStand other types clocks [] e.clock) more
  pub reads : AllByRecursion (λ (e : FlatEqn). AllByRecursion (λ x. IsFrontOf (clocks x) e.clock) (operands e.right)) more
  pub defined : (x : ℕ) → IsNewIn n other x → IsDefinedOn other x (clocks x) ⊎ IsSplit other types clocks x

module _ (types : List ObcType) (callees : Callees) (n other : FlatNode) (added : List Variable) (more : List FlatEqn) (clock clocks : ℕ → Clock) (b : IsBased types callees clock n) (same : (x : ℕ) → x < length n.variables → clocks x ≡ clock x)
    (s : IsStep types callees n other added more clocks) where
  w : IsWellBuilt types callees clock n
  w = b.well

  few_inputs : n.inputs ≤ length n.variables
  few_inputs = let i = w.within in i.inputs

  longer : length n.variables ≤ length other.variables
  longer = let l = length-append n.variables added in let e = ap length s.variables in omega (arith, l, e)

  below_outputs : AreBelow (length n.variables) n.outputs
  below_outputs = let i = w.within in i.outputs

  base_outputs : AllByRecursion (λ x. clocks x ≡ []) n.outputs
  base_outputs = let c = w.clocks in each_both (λ x. x < length n.variables) (λ x. clock x ≡ []) (λ x. clocks x ≡ []) (λ x l e. same x l ∙ e) n.outputs below_outputs c.outputs

  adds : Adds types callees n other more
  adds = record {
    added = added;
    variables = s.variables;
    inputs = s.inputs;
    eqns = s.eqns;
    outputs = subst (AreBelow (length other.variables)) (sym s.outputs) (higher (length n.variables) (length other.variables) longer n.outputs below_outputs);
    within = s.within;
    new = s.new;
    defined = s.said;
    differ = s.differ;
    values = s.values;
    kinds = s.kinds;
    parted = s.parted;
  }

  target_new : (x : ℕ) → IsTarget more x → IsNewIn n other x
  target_new x t =
      let e = t.0 in
      among (IsNewIn n other) e.targets x (among (λ (d : FlatEqn). AllByRecursion (IsNewIn n other) d.targets) more e s.new t.1) t.2

  agree : ClocksAgree types n other more clock clocks
  agree = record {
    own = λ x l u. same x u;
    inputs = λ x l. same x (omega (arith, l, few_inputs)) ∙ b.inputs x l;
    outputs = subst (AllByRecursion (λ x. clocks x ≡ [])) (sym s.outputs) base_outputs;
    steps = s.steps;
    reads = s.reads;
    defined = λ x t. s.defined x (target_new x t);
  }

  pub stepped : IsBased types callees clocks other
  stepped = record {
    well = adding_law types callees n other more clock clocks adds agree w;
    inputs = λ x l. let i = s.inputs in same x (omega (arith, l, i, few_inputs)) ∙ b.inputs x (omega (arith, l, i));
  }

-- ---- the inputs on the base clock

module _ (types : List ObcType) (callees : Callees) (clock : ℕ → Clock) (n : FlatNode) (w : IsWellBuilt types callees clock n) where
  abbrev V : ℕ
  V = length n.variables

  input_base : (x : ℕ) → x < n.inputs → based n clock x ≡ []
  input_base x l = let e : nat_lt x n.inputs ≡ true = grind (arith, nat_tests, l) in ap (λ b. if b then [] else (if nat_lt x V then clock x else [])) e

  pub own_same : (x : ℕ) → n.inputs ≤ x → x < V → based n clock x ≡ clock x
  own_same x l u =
      let e : nat_lt x n.inputs ≡ false = grind (arith, nat_tests, l) in
      let f : nat_lt x V ≡ true = grind (arith, nat_tests, u) in
      ap (λ b. if b then [] else (if nat_lt x V then clock x else [])) e ∙ ap (λ b. if b then clock x else []) f

  output_base : (x : ℕ) → x < V → clock x ≡ [] → based n clock x ≡ []
  output_base x u e = by (nat_lt x n.inputs) refl
    where
      by : (b : Bool) → nat_lt x n.inputs ≡ b → based n clock x ≡ []
      by true q = input_base x (grind (arith, nat_tests, q))
      by false q = own_same x (grind (arith, nat_tests, q)) u ∙ e

  none_new : (x : ℕ) → IsNewIn n n x → ⊥
  none_new x (inl h) = let a = h.0 in let b = h.1 in omega (arith, a, b)
  none_new x (inr h) = let a = h.0 in let b = h.1 in omega (arith, a, b)

  no_target : (x : ℕ) → IsTarget [] x → ⊥
  no_target x t = let c = t.1 in let l = c.1 in omega (arith, l)

  nothing_added : Adds types callees n n []
  nothing_added = record {
    added = [];
    variables = sym (append-nil n.variables);
    inputs = omega arith;
    eqns = sym (append-nil n.eqns);
    outputs = let i = w.within in i.outputs;
    within = tt;
    new = tt;
    defined = λ x h. absurd (none_new x h);
    differ = tt;
    values = tt;
    kinds = tt;
    parted = tt;
  }

  clocks_agree : ClocksAgree types n n [] clock (based n clock)
  clocks_agree = record {
    own = own_same;
    inputs = input_base;
    outputs = let i = w.within in let c = w.clocks in each_both (λ x. x < V) (λ x. clock x ≡ []) (λ x. based n clock x ≡ []) (λ x u e. output_base x u e) n.outputs i.outputs c.outputs;
    steps = tt;
    reads = tt;
    defined = λ x t. absurd (no_target x t);
  }

pub based_law : BasedLaw
based_law types callees clock n w = record {
  well = adding_law types callees n n [] clock (based n clock) (nothing_added types callees clock n w) (clocks_agree types callees clock n w) w;
  inputs = input_base types callees clock n w;
}
