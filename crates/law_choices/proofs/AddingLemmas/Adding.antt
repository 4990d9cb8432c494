-- Equations that are added keep what a well-made node has.
use Rattle.std.proofs.Common.{◌≡◌, ◌⊎◌, inl, inr, ℕ, zero, suc, ◌<◌, ◌≤◌, Bool, true, false, ◌||◌, nat_eq, nat_lt, get_or, length, List, [], ◌∷◌, ◌++◌, map, refl, sym, ap, ap₂, subst, ◌∙◌, arith}
use Rattle.std.specs.Prelude.{Contains}
use Rattle.std.specs.List.{AllByRecursion, IsDistinct, flat_map}
use Rattle.std.proofs.lemmas.List.{length-append}
use Rattle.std.proofs.lemmas.Bool.Decides.{nat_tests}
use Rattle.std.proofs.lemmas.List.Elements.{All-contains, All-from_recursion, Contains-append_left, Contains-append_right, Contains-append_cases}
use Rattle.hp_base.specs.Kinds.{KindData, Bools}
use Rattle.hp_obc.specs.Machines.{ObcType}
use Rattle.hp_flat.specs.declared.equation.Atom.{Atom}
use Rattle.hp_flat.specs.declared.equation.Atom.TheVariants.{Variable as Named, Value as Fixed}
use Rattle.hp_flat.specs.declared.node.FlatTy.TheVariants.{Int as FlatInt}
use Rattle.hp_flat.specs.declared.node.Variable.{Variable}
use Rattle.hp_flat.specs.Equations.{Clock, Right, operator, register, called, FlatEqn}
use Rattle.hp_flat.specs.Nodes.{FlatNode}
use Rattle.law_equations.specs.Meaning.Fitting.{atom_variables, operands}
use Rattle.law_equations.specs.Meaning.Kinding.{Callees, HasArm, HasValue, variable_kind, kind_of_type, AtomHasKind, HaveKinds, RightHasKinds, EqnKinds}
use Rattle.law_equations.specs.Meaning.Reactions.{has}
use Rattle.law_equations.specs.Meaning.Scheduling.{clock_variables, AreBelow, EqnWithin, IsWithin}
use Rattle.law_choices.specs.Closed.Closed.{IsTarget, IsGiven, variables_in}
use Rattle.law_choices.specs.Closed.Clocking.{IsFrontOf, IsDefinedOn, StepsStand, IsSplit, AreClocks}
use Rattle.law_choices.specs.Adding.Adding.{IsWellBuilt, IsNewIn, ClocksAgree, Adds}
use Rattle.law_choices.specs.Adding.Laws.{BuiltLaw, AddingLaw, OrderedLaw}
use Rattle.law_choices.specs.Closed.Exclusive.{AreParted, Differ}
use Rattle.law_choices.proofs.ClosedLemmas.Clocking.{fit_law}
use Rattle.law_choices.proofs.ClosedLemmas.Exclusive.{is_exclusive}

-- ---- lists

pub both : {A : Type 0} (P : A → Type 0) (xs ys : List A) → AllByRecursion P xs → AllByRecursion P ys → AllByRecursion P (xs ++ ys)
both P [] ys h k = k
both P (x ∷ xs) ys h k = (h.0, both P xs ys h.1 k)

each : {A : Type 0} (P Q : A → Type 0) → ((x : A) → P x → Q x) → (xs : List A) → AllByRecursion P xs → AllByRecursion Q xs
each P Q f [] h = tt
each P Q f (x ∷ xs) h = (f x h.0, each P Q f xs h.1)

each_two : {A : Type 0} (P Q R : A → Type 0) → ((x : A) → P x → Q x → R x) → (xs : List A) → AllByRecursion P xs → AllByRecursion Q xs → AllByRecursion R xs
each_two P Q R f [] h k = tt
each_two P Q R f (x ∷ xs) h k = (f x h.0 k.0, each_two P Q R f xs h.1 k.1)

get-front : (xs ys : List Variable) (x : ℕ) (d : Variable) → x < length xs → get_or (xs ++ ys) x d ≡ get_or xs x d
get-front [] ys x d h = absurd (omega (arith, h))
get-front (v ∷ xs) ys zero d h = refl
get-front (v ∷ xs) ys (suc x) d h = get-front xs ys x d (omega (arith, h))

get-beyond : (xs : List Variable) (x : ℕ) (d : Variable) → length xs ≤ x → get_or xs x d ≡ d
get-beyond [] x d h = refl
get-beyond (v ∷ xs) zero d h = absurd (omega (arith, h))
get-beyond (v ∷ xs) (suc x) d h = get-beyond xs x d (omega (arith, h))

-- an equation that defines nothing that another one does
pub differ_where : (e d : FlatEqn) → AllByRecursion (λ x. has d.targets x ≡ false) e.targets → Differ e d
differ_where e d h x t s = absurd (by e.targets h t)
  where
    by : (xs : List ℕ) → AllByRecursion (λ y. has d.targets y ≡ false) xs → has xs x ≡ true → ⊥
    by [] k u = absurd cc
    by (y ∷ ys) k u = one (nat_eq y x) refl u (by ys k.1)
      where
        one : (b : Bool) → nat_eq y x ≡ b → (b || has ys x) ≡ true → (has ys x ≡ true → ⊥) → ⊥
        one true q v f =
            let same : y ≡ x = grind (arith, nat_tests, q) in
            let no : true ≡ false = sym s ∙ ap (has d.targets) (sym same) ∙ k.0 in
            absurd cc
        one false q v f = f v

-- ---- kinds

module _ (types : List ObcType) (callees : Callees) (vs added : List Variable) where
  pub same_kind : (x : ℕ) → x < length vs → variable_kind types (vs ++ added) x ≡ variable_kind types vs x
  same_kind x h = ap (λ (v : Variable). kind_of_type types v.ty) (get-front vs added x (record { name = []; ty = FlatInt }) h)

  -- what has an arm is a variable
  is_variable : (x c : ℕ) → HasArm (variable_kind types vs x) c → x < length vs
  is_variable x c h = by (nat_lt x (length vs)) refl
    where
      below : nat_lt x (length vs) ≡ true → x < length vs
      below e = grind (arith, nat_tests)

      above : nat_lt x (length vs) ≡ false → length vs ≤ x
      above e = grind (arith, nat_tests)

      by : (b : Bool) → nat_lt x (length vs) ≡ b → x < length vs
      by true e = below e
      by false e = absurd (subst (λ (v : Variable). HasArm (kind_of_type types v.ty) c) (get-beyond vs x (record { name = []; ty = FlatInt }) (above e)) h)

  pub atom_kind : (a : Atom) (k : KindData) → AreBelow (length vs) (atom_variables a) → AtomHasKind types callees vs a k → AtomHasKind types callees (vs ++ added) a k
  atom_kind (Named x) k w h = same_kind x w.0 ∙ h
  atom_kind (Fixed v) k w h = h

  first_below : (a : Atom) (rest : List ℕ) → AreBelow (length vs) (atom_variables a ++ rest) → AreBelow (length vs) (atom_variables a) × AreBelow (length vs) rest
  first_below (Named x) rest w = ((w.0, tt), w.1)
  first_below (Fixed v) rest w = (tt, w)

  pub args_kinds : (args : List Atom) (ks : List KindData) → AreBelow (length vs) (flat_map atom_variables args) → HaveKinds types callees vs args ks → HaveKinds types callees (vs ++ added) args ks
  args_kinds [] [] w h = tt
  args_kinds [] (k ∷ ks) w h = absurd h
  args_kinds (a ∷ args) [] w h = absurd h
  args_kinds (a ∷ args) (k ∷ ks) w h =
      let p = first_below a (flat_map atom_variables args) w in
      (atom_kind a k p.0 h.0, args_kinds args ks p.1 h.1)

  pub right_kinds : (right : Right) (ks : List KindData) → AreBelow (length vs) (operands right) → RightHasKinds types callees vs right ks → RightHasKinds types callees (vs ++ added) right ks
  right_kinds (operator op args) ks w h = (h.0, args_kinds args h.0 w h.1, h.2, h.3, h.4)
  right_kinds (register first next) ks w h = (h.0, h.1, atom_kind next h.0 w h.2, h.3)
  right_kinds (called f args) ks w h = (args_kinds args (callees.takes f) w h.0, h.1)

  pub targets_kinds : (xs : List ℕ) → AreBelow (length vs) xs → map (variable_kind types (vs ++ added)) xs ≡ map (variable_kind types vs) xs
  targets_kinds [] w = refl
  targets_kinds (x ∷ xs) w = ap₂ (λ k ks. k ∷ ks) (same_kind x w.0) (targets_kinds xs w.1)

  pub clock_kinds : (clock : Clock) → AreBelow (length vs) (clock_variables clock) → AllByRecursion (λ (on : ℕ × ℕ). HasArm (variable_kind types vs on.0) on.1) clock
      → AllByRecursion (λ (on : ℕ × ℕ). HasArm (variable_kind types (vs ++ added) on.0) on.1) clock
  clock_kinds [] w h = tt
  clock_kinds (on ∷ clock) w h = (subst (λ k. HasArm k on.1) (sym (same_kind on.0 w.0)) h.0, clock_kinds clock w.1 h.1)

  pub restart_kinds : (xs : List ℕ) → AreBelow (length vs) xs → AllByRecursion (λ x. variable_kind types vs x ≡ Bools) xs → AllByRecursion (λ x. variable_kind types (vs ++ added) x ≡ Bools) xs
  restart_kinds [] w h = tt
  restart_kinds (x ∷ xs) w h = (same_kind x w.0 ∙ h.0, restart_kinds xs w.1 h.1)

  eqn_kinds : (e : FlatEqn) → EqnWithin (length vs) e → EqnKinds types callees vs e → EqnKinds types callees (vs ++ added) e
  eqn_kinds e w k = record {
    right = subst (RightHasKinds types callees (vs ++ added) e.right) (sym (targets_kinds e.targets w.targets)) (right_kinds e.right (map (variable_kind types vs) e.targets) w.operands k.right);
    clock = clock_kinds e.clock w.clock k.clock;
    restart = restart_kinds e.restart w.restart k.restart;
  }

-- ---- the node with what is added

module _ (types : List ObcType) (callees : Callees) (n other : FlatNode) (more : List FlatEqn) (clock clocks : ℕ → Clock) (a : Adds types callees n other more) (c : ClocksAgree types n other more clock clocks) (w : IsWellBuilt types callees clock n) where
  abbrev V : ℕ
  V = length n.variables

  longer : V ≤ length other.variables
  longer = let l = length-append n.variables a.added in let e = ap length a.variables in omega (arith, l, e)

  own_within : IsWithin n
  own_within = w.within

  -- ---- numbers

  below_longer : (xs : List ℕ) → AreBelow V xs → AreBelow (length other.variables) xs
  below_longer = each (λ x. x < V) (λ x. x < length other.variables) (λ x h. let l = longer in omega (arith, l, h))

  eqn_within : (e : FlatEqn) → EqnWithin V e → EqnWithin (length other.variables) e
  eqn_within e h = record { targets = below_longer e.targets h.targets; clock = below_longer (clock_variables e.clock) h.clock; operands = below_longer (operands e.right) h.operands; restart = below_longer e.restart h.restart }

  in_other : (P : FlatEqn → Type 0) → AllByRecursion P n.eqns → AllByRecursion P more → AllByRecursion P other.eqns
  in_other P h k = subst (AllByRecursion P) (sym a.eqns) (both P n.eqns more h k)

  new_behind : (x : ℕ) → IsNewIn n other x → other.inputs ≤ x
  new_behind x (inl h) = h.0
  new_behind x (inr h) = let i = a.inputs in let o = own_within in let j = o.inputs in omega (arith, h.0, i, j)

  -- ---- what is given

  target_front : (x : ℕ) → IsTarget n.eqns x → IsTarget other.eqns x
  target_front x t = (t.0, subst (λ es. Contains es t.0) (sym a.eqns) (Contains-append_left n.eqns more t.0 t.1), t.2)

  target_behind : (x : ℕ) → IsTarget more x → IsTarget other.eqns x
  target_behind x t = (t.0, subst (λ es. Contains es t.0) (sym a.eqns) (Contains-append_right n.eqns more t.0 t.1), t.2)

  below_or : (x y : ℕ) → (x < y) ⊎ (y ≤ x)
  below_or x y = by (nat_lt x y) refl
    where
      below : nat_lt x y ≡ true → x < y
      below e = grind (arith, nat_tests)

      above : nat_lt x y ≡ false → y ≤ x
      above e = grind (arith, nat_tests)

      by : (b : Bool) → nat_lt x y ≡ b → (x < y) ⊎ (y ≤ x)
      by true e = inl (below e)
      by false e = inr (above e)

  input_given : (x : ℕ) → x < n.inputs → IsGiven other x
  input_given x h = by (below_or x other.inputs)
    where
      by : (x < other.inputs) ⊎ (other.inputs ≤ x) → IsGiven other x
      by (inl l) = inl l
      by (inr l) = inr (target_behind x (a.defined x (inl (l, h))))

  old_given : (x : ℕ) → IsGiven n x → IsGiven other x
  old_given x (inl h) = input_given x h
  old_given x (inr t) = inr (target_front x t)

  given : (x : ℕ) → x < length other.variables → IsGiven other x
  given x h = by (below_or x V)
    where
      by : (x < V) ⊎ (V ≤ x) → IsGiven other x
      by (inl l) = let k = w.closed in old_given x (k.variables x l)
      by (inr l) = inr (target_behind x (a.defined x (inr (l, h))))

  all_given : (xs : List ℕ) → AreBelow (length other.variables) xs → AllByRecursion (IsGiven other) xs
  all_given = each (λ x. x < length other.variables) (IsGiven other) given

  read_given : (e : FlatEqn) → EqnWithin (length other.variables) e → AllByRecursion (IsGiven other) (variables_in e)
  read_given e h =
      both (IsGiven other) (clock_variables e.clock) (e.restart ++ operands e.right) (all_given (clock_variables e.clock) h.clock)
      (both (IsGiven other) e.restart (operands e.right) (all_given e.restart h.restart) (all_given (operands e.right) h.operands))

  all_within : AllByRecursion (EqnWithin (length other.variables)) other.eqns
  all_within = let o = own_within in in_other (EqnWithin (length other.variables)) (each (EqnWithin V) (EqnWithin (length other.variables)) eqn_within n.eqns o.eqns) a.within

  -- ---- nothing is defined twice

  apart : (x y : ℕ) → (y ≡ x → ⊥) → nat_eq y x ≡ false
  apart x y ne = by (nat_eq y x) refl
    where
      same : nat_eq y x ≡ true → y ≡ x
      same e = grind (arith, nat_tests)

      by : (b : Bool) → nat_eq y x ≡ b → nat_eq y x ≡ false
      by true e = absurd (ne (same e))
      by false e = e

  new_differs : (x y : ℕ) → n.inputs ≤ x → x < V → IsNewIn n other y → y ≡ x → ⊥
  new_differs x y l u (inl h) e = omega (arith, l, h.1, e)
  new_differs x y l u (inr h) e = omega (arith, u, h.0, e)

  not_among : (x : ℕ) (xs : List ℕ) → n.inputs ≤ x → x < V → AllByRecursion (IsNewIn n other) xs → has xs x ≡ false
  not_among x [] l u h = refl
  not_among x (y ∷ ys) l u h = ap₂ (λ p q. p || q) (apart x y (new_differs x y l u h.0)) (not_among x ys l u h.1)

  none_of : (e d : FlatEqn) → AllByRecursion (λ x. n.inputs ≤ x) e.targets → AreBelow V e.targets → AllByRecursion (IsNewIn n other) d.targets → Differ e d
  none_of e d l u h = differ_where e d (each_two (λ x. n.inputs ≤ x) (λ x. x < V) (λ x. has d.targets x ≡ false) (λ x p q. not_among x d.targets p q h) e.targets l u)

  no_other : (e : FlatEqn) (ds : List FlatEqn) → AllByRecursion (λ x. n.inputs ≤ x) e.targets → AreBelow V e.targets → AllByRecursion (λ (d : FlatEqn). AllByRecursion (IsNewIn n other) d.targets) ds → AllByRecursion (Differ e) ds
  no_other e [] l u h = tt
  no_other e (d ∷ ds) l u h = (none_of e d l u h.0, no_other e ds l u h.1)

  parted_both : (es : List FlatEqn) → AllByRecursion (λ (e : FlatEqn). AllByRecursion (λ x. n.inputs ≤ x) e.targets) es → AllByRecursion (EqnWithin V) es → AreParted es → AreParted (es ++ more)
  parted_both [] l u h = a.parted
  parted_both (e ∷ es) l u h =
      let within = u.0 in (
        both (Differ e) es more h.0 (no_other e more l.0 within.targets a.new),
        parted_both es l.1 u.1 h.1,
      )

  -- ---- clocks

  front_of : (x : ℕ) (before : Clock) → x < V → IsFrontOf (clock x) before → IsFrontOf (clocks x) before
  front_of x before u h = by (below_or x n.inputs)
    where
      by : (x < n.inputs) ⊎ (n.inputs ≤ x) → IsFrontOf (clocks x) before
      by (inl l) = (before, ap (λ d. d ++ before) (sym (c.inputs x l)))
      by (inr l) = subst (λ d. IsFrontOf d before) (sym (c.own x l u)) h

  steps_stand : (before rest : Clock) → AreBelow V (clock_variables rest) → StepsStand n types clock before rest → StepsStand other types clocks before rest
  steps_stand before [] u h = tt
  steps_stand before (on ∷ rest) u h = (front_of on.0 before u.0 h.0, steps_stand (before ++ on ∷ []) rest u.1 h.1)

  reads_front : (e : FlatEqn) → EqnWithin V e → AllByRecursion (λ x. IsFrontOf (clock x) e.clock) (operands e.right) → AllByRecursion (λ x. IsFrontOf (clocks x) e.clock) (operands e.right)
  reads_front e h k = each_two (λ x. x < V) (λ x. IsFrontOf (clock x) e.clock) (λ x. IsFrontOf (clocks x) e.clock) (λ x u f. front_of x e.clock u f) (operands e.right) h.operands k

  old_outputs : AllByRecursion (λ x. clocks x ≡ []) other.outputs
  old_outputs = c.outputs

  defined_on : (x : ℕ) (d : Clock) → IsDefinedOn n x d → IsDefinedOn other x d
  defined_on x d h = (h.0, subst (λ es. Contains es h.0) (sym a.eqns) (Contains-append_left n.eqns more h.0 h.1), h.2, h.3)

  arm_of : (x k : ℕ) → x < V → HasArm (variable_kind types n.variables x) k → HasArm (variable_kind types other.variables x) k
  arm_of x k u h = subst (λ vs. HasArm (variable_kind types vs x) k) (sym a.variables) (subst (λ kind. HasArm kind k) (sym (same_kind types callees n.variables a.added x u)) h)

  arm_back : (x k : ℕ) → x < V → HasArm (variable_kind types other.variables x) k → HasArm (variable_kind types n.variables x) k
  arm_back x k u h = subst (λ kind. HasArm kind k) (same_kind types callees n.variables a.added x u) (subst (λ vs. HasArm (variable_kind types vs x) k) a.variables h)

  -- what an equation of the node defines is no input, and one of its variables
  target_own : (x : ℕ) → IsTarget n.eqns x → (n.inputs ≤ x) × (x < V)
  target_own x t =
      let o = own_within in
      let inputs = All-contains (λ (e : FlatEqn). AllByRecursion (λ y. n.inputs ≤ y) e.targets) n.eqns t.0 (All-from_recursion (λ (e : FlatEqn). AllByRecursion (λ y. n.inputs ≤ y) e.targets) n.eqns w.no_inputs) t.1 in
      let within = All-contains (EqnWithin V) n.eqns t.0 (All-from_recursion (EqnWithin V) n.eqns o.eqns) t.1 in
      let e = t.0 in (
        All-contains (λ y. n.inputs ≤ y) e.targets x (All-from_recursion (λ y. n.inputs ≤ y) e.targets inputs) t.2,
        All-contains (λ y. y < V) e.targets x (All-from_recursion (λ y. y < V) e.targets within.targets) t.2,
      )

  split_still : (x : ℕ) → clocks x ≡ clock x → IsSplit n types clock x → IsSplit other types clocks x
  split_still x e s =
      let u = is_variable types callees n.variables n.variables s.tested 0 s.has_one in
      record {
        tested = s.tested;
        there = subst (λ d. IsFrontOf (clocks s.tested) d) (sym e) (front_of s.tested (clock x) u s.there);
        has_one = arm_of s.tested 0 u s.has_one;
        arms = λ k h. subst (λ d. IsDefinedOn other x (d ++ (s.tested, k) ∷ [])) (sym e) (defined_on x (clock x ++ (s.tested, k) ∷ []) (s.arms k (arm_back s.tested k u h)));
      }

  old_defined : (x : ℕ) → IsTarget n.eqns x → IsDefinedOn other x (clocks x) ⊎ IsSplit other types clocks x
  old_defined x t = by (is.defined x t)
    where
      is : AreClocks n types clock
      is = w.clocks

      same : clocks x ≡ clock x
      same = let o = target_own x t in c.own x o.0 o.1

      by : IsDefinedOn n x (clock x) ⊎ IsSplit n types clock x → IsDefinedOn other x (clocks x) ⊎ IsSplit other types clocks x
      by (inl h) = inl (subst (IsDefinedOn other x) (sym same) (defined_on x (clock x) h))
      by (inr s) = inr (split_still x same s)

  all_defined : (x : ℕ) → IsTarget other.eqns x → IsDefinedOn other x (clocks x) ⊎ IsSplit other types clocks x
  all_defined x t = by (Contains-append_cases n.eqns more t.0 (subst (λ es. Contains es t.0) a.eqns t.1))
    where
      by : Contains n.eqns t.0 ⊎ Contains more t.0 → IsDefinedOn other x (clocks x) ⊎ IsSplit other types clocks x
      by (inl h) = old_defined x (t.0, h, t.2)
      by (inr h) = c.defined x (t.0, h, t.2)

  are_clocks : AreClocks other types clocks
  are_clocks =
      let is = w.clocks in
      let o = own_within in
      record {
        outputs = c.outputs;
        steps = in_other (λ (e : FlatEqn). StepsStand other types clocks [] e.clock)
            (each_two (EqnWithin V) (λ (e : FlatEqn). StepsStand n types clock [] e.clock) (λ (e : FlatEqn). StepsStand other types clocks [] e.clock) (λ e u h. steps_stand [] e.clock u.clock h) n.eqns o.eqns is.steps) c.steps;
        reads = in_other (λ (e : FlatEqn). AllByRecursion (λ x. IsFrontOf (clocks x) e.clock) (operands e.right))
            (each_two (EqnWithin V) (λ (e : FlatEqn). AllByRecursion (λ x. IsFrontOf (clock x) e.clock) (operands e.right)) (λ (e : FlatEqn). AllByRecursion (λ x. IsFrontOf (clocks x) e.clock) (operands e.right)) reads_front n.eqns o.eqns is.reads)
            c.reads;
        defined = all_defined;
      }

  -- ---- all of it

  built : IsWellBuilt types callees clocks other
  built =
      let o = own_within in
      let i = a.inputs in
      record {
        within = record { inputs = let l = longer in let j = o.inputs in omega (arith, i, j, l); outputs = a.outputs; eqns = all_within };
        no_inputs = in_other (λ (e : FlatEqn). AllByRecursion (λ x. other.inputs ≤ x) e.targets)
            (each (λ (e : FlatEqn). AllByRecursion (λ x. n.inputs ≤ x) e.targets) (λ (e : FlatEqn). AllByRecursion (λ x. other.inputs ≤ x) e.targets)
            (λ e h. each (λ x. n.inputs ≤ x) (λ x. other.inputs ≤ x) (λ x l. omega (arith, i, l)) e.targets h) n.eqns w.no_inputs)
            (each (λ (e : FlatEqn). AllByRecursion (IsNewIn n other) e.targets) (λ (e : FlatEqn). AllByRecursion (λ x. other.inputs ≤ x) e.targets)
            (λ e h. each (IsNewIn n other) (λ x. other.inputs ≤ x) new_behind e.targets h) more a.new);
        targets_differ = in_other (λ (e : FlatEqn). IsDistinct nat_eq e.targets) w.targets_differ a.differ;
        values = subst (AllByRecursion (λ (v : Variable). HasValue types v.ty)) (sym a.variables) (both (λ (v : Variable). HasValue types v.ty) n.variables a.added w.values a.values);
        kinds = in_other (EqnKinds types callees other.variables)
            (subst (λ vs. AllByRecursion (EqnKinds types callees vs) n.eqns) (sym a.variables)
            (each_two (EqnWithin V) (EqnKinds types callees n.variables) (EqnKinds types callees (n.variables ++ a.added)) (λ e u k. eqn_kinds types callees n.variables a.added e u k) n.eqns o.eqns w.kinds)) a.kinds;
        closed = record {
          variables = given;
          outputs = all_given other.outputs a.outputs;
          eqns = each (EqnWithin (length other.variables)) (λ (e : FlatEqn). AllByRecursion (IsGiven other) (variables_in e)) read_given other.eqns all_within;
        };
        parted = subst AreParted (sym a.eqns) (parted_both n.eqns w.no_inputs o.eqns w.parted);
        clocks = are_clocks;
      }

-- ---- the laws

pub adding_law : AddingLaw
adding_law types callees n other more clock clocks a c w = built types callees n other more clock clocks a c w

pub built_law : BuiltLaw
built_law types callees clock n s closed parted clocks = record {
  within = s.within;
  no_inputs = s.no_inputs;
  targets_differ = s.targets_differ;
  values = s.values;
  kinds = s.kinds;
  closed = closed;
  parted = parted;
  clocks = clocks;
}

pub ordered_law : OrderedLaw
ordered_law types callees clock n w ranked = record {
  ranked = ranked;
  no_inputs = w.no_inputs;
  targets_differ = w.targets_differ;
  values = w.values;
  kinds = w.kinds;
  fit = λ now p. fit_law types n ranked w.closed (λ then. is_exclusive then n.eqns w.parted) (clock, w.clocks) now p;
}
