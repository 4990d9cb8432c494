-- The equations that make the values of control variables.
use Rattle.std.proofs.Common.{◌≡◌, inl, inr, ℕ, zero, suc, ◌+◌, ◌-◌, ◌<◌, ◌≤◌, Bool, true, false, if◌then◌else◌, nat_lt, List, [], ◌∷◌, ◌++◌, length, Some, None, refl, sym, ap, subst, ◌∙◌, arith}
use Rattle.std.specs.Prelude.{◌==◌}
use Rattle.std.specs.List.{AllByRecursion}
use Rattle.std.proofs.lemmas.Bool.Decides.{nat_tests}
use Rattle.std.proofs.lemmas.List.{length-append, append_assoc}
use Rattle.hp_base.specs.Kinds.{KindData, Bools, Constructors, IsOfKind}
use Rattle.hp_boolx.specs.Machine.{Machine}
use Rattle.hp_obc.specs.Machines.{ObcType}
use Rattle.hp_obc.specs.declared.command.ObcOp.TheVariants.{Copy, Mux}
use Rattle.hp_flat.specs.declared.equation.Atom.{Atom}
use Rattle.hp_flat.specs.declared.equation.Atom.TheVariants.{Variable as Read, Value as Fixed}
use Rattle.hp_flat.specs.declared.node.FlatTy.{FlatTy}
use Rattle.hp_flat.specs.declared.node.FlatTy.TheVariants.{Enum}
use Rattle.hp_flat.specs.declared.node.Variable.{Variable}
use Rattle.hp_flat.specs.Equations.{Clock, FlatEqn}
use Rattle.hp_flat.specs.Nodes.{FlatNode}
use Rattle.law_equations.specs.Meaning.Fitting.{atom_variables}
use Rattle.law_equations.specs.Meaning.Kinding.{Callees, HasValue, IsTyped, AtomHasKind, constructors, kind_of_type, variable_kind}
use Rattle.law_equations.specs.Meaning.Scheduling.{AreBelow}
use Rattle.hp_controller.specs.declared.decoding.Control.{Control}
use Rattle.hp_controller.specs.declared.decoding.ControlKind.{ControlKind}
use Rattle.hp_controller.specs.declared.decoding.ControlKind.TheVariants.{Truth, Constructor}
use Rattle.hp_controller.specs.Controllers.{equation, added_variable}
use Rattle.hp_controller.specs.Controlled.{bits_added, bit_variables, decoded_controls, controlled, IsControllable}
use Rattle.hp_controller.specs.Decoding.{value_of, tree, control_eqns, controls_eqns, total_width, HasBits}
use Rattle.law_choices.specs.Adding.Keeping.{IsBased, Stays}
use Rattle.law_choices.specs.Adding.Controls.{always, IsThereAlways, IsAskedFor, HasControlKind, HaveControlKinds, with_steps, ControlledStaysLaw}
use Rattle.law_choices.specs.Closed.Clocking.{IsFrontOf}
use Rattle.law_choices.proofs.ClosedLemmas.ClosedLaws.{each_other}
use Rattle.law_choices.proofs.AddingLemmas.Adding.{same_kind, both}
use Rattle.law_choices.proofs.AddingLemmas.Rows.{InRows, rows-behind, IsAlways, rows_based}
use Rattle.law_choices.proofs.AddingLemmas.Machine.{kind-behind, total, new, steps_keep}

-- ---- rows

tree-rows : (t count b w k next u : ℕ) → InRows next u (tree t count b w k next).eqns (tree t count b w k next).next u
tree-rows t count b zero k next u = (refl, refl)
tree-rows t count b (suc w) k next u =
    let high = tree t count (b + 1) w (k + k + 1) next in
    let low = tree t count (b + 1) w (k + k) high.next in
    let e = equation 0 low.next Mux (Read b ∷ high.atom ∷ low.atom ∷ []) in
    rows-behind next u high.eqns high.next u (low.eqns ++ e ∷ []) (low.next + 1) u (tree-rows t count (b + 1) w (k + k + 1) next u)
    (rows-behind high.next u low.eqns low.next u (e ∷ []) (low.next + 1) u (tree-rows t count (b + 1) w (k + k) high.next u) (inl (1, refl, (refl, refl))))

control-rows : (target b next width : ℕ) (kind : ControlKind) → InRows next target (control_eqns target b next width kind).eqns (control_eqns target b next width kind).next (target + 1)
control-rows target b next width Truth = inr (refl, (refl, refl))
control-rows target b next width (Constructor e) =
    let value = tree e.number e.constructors b width 0 next in
    rows-behind next target value.eqns value.next target (equation 0 target Copy (value.atom ∷ []) ∷ []) value.next (target + 1) (tree-rows e.number e.constructors b width 0 next target) (inr (refl, (refl, refl)))

controls-rows : (target b next : ℕ) (cs : List Control) → InRows next target (controls_eqns target b next cs).eqns (controls_eqns target b next cs).next (target + length cs)
controls-rows target b next [] = let e : target ≡ target + 0 = omega arith in (refl, e)
controls-rows target b next (c ∷ cs) =
    let one = control_eqns target b next c.width c.kind in
    let rest = controls_eqns (target + 1) (b + c.width) one.next cs in
    let e : target + 1 + length cs ≡ target + length (c ∷ cs) = omega arith in
    rows-behind next target one.eqns one.next (target + 1) rest.eqns rest.next (target + length (c ∷ cs)) (control-rows target b next c.width c.kind)
    (subst (InRows one.next (target + 1) rest.eqns rest.next) e (controls-rows (target + 1) (b + c.width) one.next cs))

-- ---- variables

tree-count : (t count b w k next : ℕ) → next + length (tree t count b w k next).variables ≡ (tree t count b w k next).next
tree-count t count b zero k next = omega arith
tree-count t count b (suc w) k next =
    let high = tree t count (b + 1) w (k + k + 1) next in
    let low = tree t count (b + 1) w (k + k) high.next in
    let last = added_variable low.next (Enum t) ∷ [] in
    let h = tree-count t count (b + 1) w (k + k + 1) next in
    let l = tree-count t count (b + 1) w (k + k) high.next in
    let m = length-append high.variables (low.variables ++ last) in
    let n = length-append low.variables last in
    omega (arith, h, l, m, n)

tree-types : (t count b w k next : ℕ) → AllByRecursion (λ (v : Variable). v.ty ≡ Enum t) (tree t count b w k next).variables
tree-types t count b zero k next = tt
tree-types t count b (suc w) k next =
    let high = tree t count (b + 1) w (k + k + 1) next in
    let low = tree t count (b + 1) w (k + k) high.next in
    let P : Variable → Type 0 = λ (v : Variable). v.ty ≡ Enum t in
    both P high.variables (low.variables ++ added_variable low.next (Enum t) ∷ []) (tree-types t count (b + 1) w (k + k + 1) next)
    (both P low.variables (added_variable low.next (Enum t) ∷ []) (tree-types t count (b + 1) w (k + k) high.next) (refl, tt))

control-count : (target b next width : ℕ) (kind : ControlKind) → next + length (control_eqns target b next width kind).variables ≡ (control_eqns target b next width kind).next
control-count target b next width Truth = omega arith
control-count target b next width (Constructor e) = tree-count e.number e.constructors b width 0 next

controls-count : (target b next : ℕ) (cs : List Control) → next + length (controls_eqns target b next cs).variables ≡ (controls_eqns target b next cs).next
controls-count target b next [] = omega arith
controls-count target b next (c ∷ cs) =
    let one = control_eqns target b next c.width c.kind in
    let rest = controls_eqns (target + 1) (b + c.width) one.next cs in
    let h = control-count target b next c.width c.kind in
    let l = controls-count (target + 1) (b + c.width) one.next cs in
    let m = length-append one.variables rest.variables in
    omega (arith, h, l, m)

module _ (types : List ObcType) where
  all-kind : (ty : FlatTy) (vs : List Variable) (i : ℕ) → AllByRecursion (λ (v : Variable). v.ty ≡ ty) vs → i < length vs → variable_kind types vs i ≡ kind_of_type types ty
  all-kind ty [] i h l = absurd (omega (arith, l))
  all-kind ty (v ∷ vs) zero h l = ap (kind_of_type types) h.0
  all-kind ty (v ∷ vs) (suc i) h l = all-kind ty vs i h.1 (omega (arith, l))

  kind-front : (vs ws : List Variable) (i : ℕ) → i < length vs → variable_kind types (vs ++ ws) i ≡ variable_kind types vs i
  kind-front [] ws i l = absurd (omega (arith, l))
  kind-front (v ∷ vs) ws zero l = refl
  kind-front (v ∷ vs) ws (suc i) l = kind-front vs ws i (omega (arith, l))

  -- these variables stand among others from one on
  pub record Segment (all : List Variable) (from : ℕ) (vs : List Variable) : Type 0 where
    pub within : from + length vs ≤ length all
    pub kinds : (i : ℕ) → i < length vs → variable_kind types all (from + i) ≡ variable_kind types vs i

  segment-first : (all : List Variable) (from : ℕ) (vs ws : List Variable) → Segment all from (vs ++ ws) → Segment all from vs
  segment-first all from vs ws s = record {
    within = let w = s.within in let l = length-append vs ws in omega (arith, w, l);
    kinds = λ i h. let l = length-append vs ws in s.kinds i (omega (arith, h, l)) ∙ kind-front vs ws i h;
  }

  segment-second : (all : List Variable) (from : ℕ) (vs ws : List Variable) (at : ℕ) → at ≡ from + length vs → Segment all from (vs ++ ws) → Segment all at ws
  segment-second all from vs ws at e s = record {
    within = let w = s.within in let l = length-append vs ws in omega (arith, w, l, e);
    kinds = λ i h.
        let l = length-append vs ws in
        let place : at + i ≡ from + (length vs + i) = omega (arith, e) in
        ap (variable_kind types all) place ∙ s.kinds (length vs + i) (omega (arith, h, l)) ∙ kind-behind types vs ws i;
  }

  control-values : (target b next width : ℕ) (k : KindData) (kind : ControlKind) → HasControlKind types k kind → AllByRecursion (λ (v : Variable). HasValue types v.ty) (control_eqns target b next width kind).variables
  control-values target b next width k Truth h = tt
  control-values target b next width k (Constructor e) h =
      let some : HasValue types (Enum e.number) = let c = h.1 in let p = h.2 in omega (arith, c, p) in
      each_other (λ (v : Variable). v.ty ≡ Enum e.number) (λ (v : Variable). HasValue types v.ty) (λ v q. subst (HasValue types) (sym q) some) (tree e.number e.constructors b width 0 next).variables (tree-types e.number e.constructors b width 0 next)

  controls-values : (vs : List Variable) (target b next : ℕ) (cs : List Control) → HaveControlKinds types vs target cs → AllByRecursion (λ (v : Variable). HasValue types v.ty) (controls_eqns target b next cs).variables
  controls-values vs target b next [] h = tt
  controls-values vs target b next (c ∷ cs) h =
      let one = control_eqns target b next c.width c.kind in
      let rest = controls_eqns (target + 1) (b + c.width) one.next cs in
      both (λ (v : Variable). HasValue types v.ty) one.variables rest.variables (control-values target b next c.width (variable_kind types vs target) c.kind h.0) (controls-values vs (target + 1) (b + c.width) one.next cs h.1)

-- ---- equations

module _ (types : List ObcType) (callees : Callees) (other : FlatNode) (clock : ℕ → Clock) where
  abbrev There : KindData → ℕ → Type 0
  There k x = IsThereAlways types other clock k x

  abbrev A : FlatEqn → Type 0
  A e = IsAlways types callees other.variables clock e

  abbrev IsValue : KindData → Atom → Type 0
  IsValue k (Read x) = There k x
  IsValue k (Fixed v) = IsOfKind k v × IsTyped types k

  value-kind : (k : KindData) (a : Atom) → IsValue k a → AtomHasKind types callees other.variables a k
  value-kind k (Read x) h = h.kind
  value-kind k (Fixed v) h = h

  value-below : (k : KindData) (a : Atom) → IsValue k a → AreBelow (length other.variables) (atom_variables a)
  value-below k (Read x) h = (h.variable, tt)
  value-below k (Fixed v) h = tt

  value-there : (k : KindData) (a : Atom) → IsValue k a → AllByRecursion (λ x. IsFrontOf (clock x) []) (atom_variables a)
  value-there k (Read x) h = (h.there, tt)
  value-there k (Fixed v) h = tt

  copy-always : (k : KindData) (x : ℕ) (a : Atom) → There k x → IsValue k a → A (equation 0 x Copy (a ∷ []))
  copy-always k x a t v = record {
    clock_is = refl;
    restart_is = refl;
    kinds = record { right = (k ∷ [], (value-kind k a v, tt), k, refl, ap (λ j. j ∷ []) t.kind); clock = tt; restart = tt };
    below = both (λ y. y < length other.variables) (atom_variables a) [] (value-below k a v) tt;
    there = both (λ y. IsFrontOf (clock y) []) (atom_variables a) [] (value-there k a v) tt;
  }

  same_number : (t : ℕ) → (t == t) ≡ true
  same_number t = grind (arith, nat_tests)

  module _ (t : ℕ) where
    abbrev K : KindData
    K = Constructors t (constructors types t)

    choice-always : (x b : ℕ) (high low : Atom) → There K x → There Bools b → IsValue K high → IsValue K low → A (equation 0 x Mux (Read b ∷ high ∷ low ∷ []))
    choice-always x b high low v bit h l = record {
      clock_is = refl;
      restart_is = refl;
      kinds = record {
        right = (Bools ∷ K ∷ K ∷ [], (bit.kind, (value-kind K high h, (value-kind K low l, tt))), K, ap (λ q. if q then Some K else None) (same_number t), ap (λ j. j ∷ []) v.kind);
        clock = tt;
        restart = tt;
      };
      below = (bit.variable, both (λ y. y < length other.variables) (atom_variables high) (atom_variables low ++ []) (value-below K high h) (both (λ y. y < length other.variables) (atom_variables low) [] (value-below K low l) tt));
      there = (bit.there, both (λ y. IsFrontOf (clock y) []) (atom_variables high) (atom_variables low ++ []) (value-there K high h) (both (λ y. IsFrontOf (clock y) []) (atom_variables low) [] (value-there K low l) tt));
    }

    -- the code of a constructor, or of the first one
    value-fits : (count k : ℕ) → count ≡ length (constructors types t) → 0 < count → IsValue K (Fixed (value_of t count k))
    value-fits count k e p = by (nat_lt k count) refl
      where
        by : (q : Bool) → nat_lt k count ≡ q → IsValue K (Fixed (value_of t count k))
        by true h = let l : k < count = grind (arith, nat_tests, h) in ((refl, subst (λ q. (if q then k else 0) < length (constructors types t)) (sym h) (omega (arith, l, e))), refl)
        by false h = ((refl, subst (λ q. (if q then k else 0) < length (constructors types t)) (sym h) (omega (arith, e, p))), refl)

    tree-grows : (count b w k next : ℕ) → next ≤ (tree t count b w k next).next
    tree-grows count b w k next = let e = tree-count t count b w k next in omega (arith, e)

    tree-always : (count b w k next : ℕ) → count ≡ length (constructors types t) → 0 < count → ((x : ℕ) → b ≤ x → x < b + w → There Bools x) → ((x : ℕ) → next ≤ x → x < (tree t count b w k next).next → There K x)
        → AllByRecursion A (tree t count b w k next).eqns × IsValue K (tree t count b w k next).atom
    tree-always count b zero k next e p bits new = (tt, value-fits count k e p)
    tree-always count b (suc w) k next e p bits new =
        let high = tree t count (b + 1) w (k + k + 1) next in
        let low = tree t count (b + 1) w (k + k) high.next in
        let g = tree-grows count (b + 1) w (k + k + 1) next in
        let f = tree-grows count (b + 1) w (k + k) high.next in
        let inner : (x : ℕ) → b + 1 ≤ x → x < b + 1 + w → There Bools x = λ x m u. bits x (omega (arith, m)) (omega (arith, u)) in
        let h = tree-always count (b + 1) w (k + k + 1) next e p inner (λ x m u. new x m (omega (arith, u, f))) in
        let l = tree-always count (b + 1) w (k + k) high.next e p inner (λ x m u. new x (omega (arith, m, g)) (omega (arith, u))) in
        let last = new low.next (omega (arith, g, f)) (omega arith) in
        let first = bits b (omega arith) (omega arith) in (
          both A high.eqns (low.eqns ++ equation 0 low.next Mux (Read b ∷ high.atom ∷ low.atom ∷ []) ∷ []) h.0 (both A low.eqns (equation 0 low.next Mux (Read b ∷ high.atom ∷ low.atom ∷ []) ∷ []) l.0 (choice-always low.next b high.atom low.atom last first h.1 l.1, tt)),
          last,
        )

  abbrev NewFrom : ℕ → Type 0
  NewFrom from = (x : ℕ) → from ≤ x → x < length other.variables → IsFrontOf (clock x) []

  control-always : (target b next width : ℕ) (kind : ControlKind) → HasControlKind types (variable_kind types other.variables target) kind → target < length other.variables → IsFrontOf (clock target) [] → HasBits kind width
      → ((x : ℕ) → b ≤ x → x < b + width → There Bools x) → NewFrom next → Segment types other.variables next (control_eqns target b next width kind).variables → AllByRecursion A (control_eqns target b next width kind).eqns
  control-always target b next width Truth h l f has bits new s =
      let bit = bits b (omega arith) (omega (arith, has)) in
      (copy-always Bools target (Read b) (record { variable = l; there = f; kind = h }) bit, tt)
  control-always target b next width (Constructor e) h l f has bits new s =
      let value = tree e.number e.constructors b width 0 next in
      let count = tree-count e.number e.constructors b width 0 next in
      let all = tree-always e.number e.constructors b width 0 next h.1 h.2 bits
      (λ x m u.
      let place : next + (x - next) ≡ x = omega (arith, m) in
      let short : x - next < length value.variables = omega (arith, m, u, count) in
      let w = s.within in
      let below : x < length other.variables = omega (arith, u, count, w) in
      record {
        variable = below;
        there = new x m below;
        kind = ap (variable_kind types other.variables) (sym place) ∙ s.kinds (x - next) short ∙ all-kind types (Enum e.number) value.variables (x - next) (tree-types e.number e.constructors b width 0 next) short;
      }) in
      both A value.eqns (equation 0 target Copy (value.atom ∷ []) ∷ []) all.0 (copy-always (K e.number) target value.atom (record { variable = l; there = f; kind = h.0 }) all.1, tt)

  controls-always : (target b next : ℕ) (cs : List Control) → HaveControlKinds types other.variables target cs → ((x : ℕ) → target ≤ x → x < target + length cs → (x < length other.variables) × IsFrontOf (clock x) []) → AllByRecursion (λ (c : Control). HasBits c.kind c.width) cs
      → ((x : ℕ) → b ≤ x → x < b + total_width cs → There Bools x) → NewFrom next → Segment types other.variables next (controls_eqns target b next cs).variables → AllByRecursion A (controls_eqns target b next cs).eqns
  controls-always target b next [] h f has bits new s = tt
  controls-always target b next (c ∷ cs) h f has bits new s =
      let one = control_eqns target b next c.width c.kind in
      let rest = controls_eqns (target + 1) (b + c.width) one.next cs in
      let count = control-count target b next c.width c.kind in
      let here = f target (omega arith) (omega arith) in
      both A one.eqns rest.eqns
      (control-always target b next c.width c.kind h.0 here.0 here.1 has.0 (λ x m u. bits x m (omega (arith, u))) new (segment-first types other.variables next one.variables rest.variables s))
      (controls-always (target + 1) (b + c.width) one.next cs h.1 (λ x m u. f x (omega (arith, m)) (omega (arith, u))) has.1 (λ x m u. bits x (omega (arith, m)) (omega (arith, u))) (λ x m u. new x (omega (arith, m, count)) u)
      (segment-second types other.variables next one.variables rest.variables one.next (sym count) s))

-- ---- the node

pub kinds-more : (types : List ObcType) (callees : Callees) (vs more : List Variable) (target : ℕ) (cs : List Control) → target + length cs ≤ length vs → HaveControlKinds types vs target cs → HaveControlKinds types (vs ++ more) target cs
kinds-more types callees vs more target [] l h = tt
kinds-more types callees vs more target (c ∷ cs) l h =
    (subst (λ k. HasControlKind types k c.kind) (sym (same_kind types callees vs more target (omega (arith, l)))) h.0, kinds-more types callees vs more (target + 1) cs (omega (arith, l)) h.1)

module _ (types : List ObcType) (callees : Callees) (n : FlatNode) (before : ℕ → Clock) (m : Machine) (name early late : List ℕ) (controls : List Control) (b : IsBased types callees before n) (is : IsControllable n m early controls) (asked : IsAskedFor callees m name)
    (earlies : AllByRecursion (IsThereAlways types n before Bools) early) (lates : AllByRecursion (IsThereAlways types n before Bools) late) (kinds : HaveControlKinds types n.variables (n.inputs - length controls) controls) where
  abbrev pub V : ℕ
  V = length n.variables

  abbrev pub middle : FlatNode
  middle = with_steps n m name early late

  abbrev pub first : ℕ → Clock
  first = always n before

  abbrev pub other : FlatNode
  other = controlled n m name early late controls

  abbrev pub clock : ℕ → Clock
  clock = always middle first

  abbrev pub target : ℕ
  target = n.inputs - length controls

  abbrev pub from : ℕ
  from = V + bits_added m

  abbrev pub made : List FlatEqn
  made = (decoded_controls n m controls).eqns

  abbrev pub vs : List Variable
  vs = (decoded_controls n m controls).variables

  middle_based : IsBased types callees first middle
  middle_based = steps_keep types callees n before m name early late b is.machine is.as_many asked earlies lates

  pub middle_total : length middle.variables ≡ from
  middle_total = total types callees n before m name early late b is.machine is.as_many asked earlies lates

  pub few : n.inputs ≤ V
  few = is.variables

  pub taken : length controls ≤ n.inputs
  taken = is.inputs

  pub other_total : length other.variables ≡ from + length vs
  other_total = length-append middle.variables vs ∙ ap (λ k. k + length vs) middle_total

  base_at : (x : ℕ) → (x < V → before x ≡ []) → clock x ≡ []
  base_at x f = by (nat_lt x (length middle.variables)) (nat_lt x V) refl
    where
      by : (p q : Bool) → nat_lt x V ≡ q → (if p then (if q then before x else []) else []) ≡ []
      by false q h = refl
      by true false h = refl
      by true true h = let l : x < V = grind (arith, nat_tests, h) in f l

  front_at : (x : ℕ) → (x < V → before x ≡ []) → IsFrontOf (clock x) []
  front_at x f = ([], ap (λ d. d ++ []) (sym (base_at x f)))

  pub bit_there : (x : ℕ) → V ≤ x → x < from → IsThereAlways types other clock Bools x
  bit_there x l u =
      let bit = new types callees n before m name early late b is.machine is.as_many asked earlies lates x l u in
      let k = bit.variable in
      record {
        variable = let t = other_total in let s = middle_total in omega (arith, k, t, s);
        there = front_at x (λ h. absurd (omega (arith, h, l)));
        kind = same_kind types callees middle.variables vs x k ∙ bit.kind;
      }

  control_at : (x : ℕ) → target ≤ x → x < target + length controls → (x < length other.variables) × IsFrontOf (clock x) []
  control_at x l u =
      let low : x < n.inputs = omega (arith, u, taken) in
      let t = other_total in
      (omega (arith, low, few, t), front_at x (λ h. b.inputs x low))

  new_from : (x : ℕ) → from ≤ x → x < length other.variables → IsFrontOf (clock x) []
  new_from x l u = front_at x (λ h. absurd (omega (arith, h, l)))

  segment : Segment types other.variables from vs
  segment = record {
    within = let t = other_total in omega (arith, t);
    kinds = λ i l. ap (λ k. variable_kind types other.variables (k + i)) (sym middle_total) ∙ kind-behind types middle.variables vs i;
  }

  kinds_there : HaveControlKinds types other.variables target controls
  kinds_there =
      subst (λ ws. HaveControlKinds types ws target controls) (sym (append_assoc n.variables (bit_variables V m) vs))
      (kinds-more types callees n.variables (bit_variables V m ++ vs) target controls (omega (arith, few, taken)) kinds)

  all_always : AllByRecursion (IsAlways types callees other.variables clock) made
  all_always = controls-always types callees other clock target (V + m.registers) from controls kinds_there control_at is.bits (λ x l u. let w = is.widths in bit_there x (omega (arith, l)) (omega (arith, u, w))) new_from segment

  pub rows : InRows (length middle.variables) other.inputs made (length other.variables) middle.inputs
  rows =
      let end : (decoded_controls n m controls).next ≡ length other.variables = let c = controls-count target (V + m.registers) from controls in let t = other_total in omega (arith, c, t) in
      let inputs : target + length controls ≡ n.inputs = omega (arith, taken) in
      subst (λ a. InRows a target made (length other.variables) n.inputs) (sym middle_total)
      (subst (λ z. InRows from target made z n.inputs) end (subst (InRows from target made (decoded_controls n m controls).next) inputs (controls-rows target (V + m.registers) from controls)))

  pub based : IsBased types callees clock other
  based = rows_based types callees middle other vs made first middle_based (record {
    inputs = omega arith;
    outputs = refl;
    variables = refl;
    eqns = refl;
    values = controls-values types n.variables target (V + m.registers) from controls kinds;
    rows = rows;
    always_there = all_always;
  })

  pub same : (x : ℕ) → x < V → clock x ≡ before x
  same x l =
      let s = middle_total in
      let p : nat_lt x (length middle.variables) ≡ true = grind (arith, nat_tests, l, s) in
      let q : nat_lt x V ≡ true = grind (arith, nat_tests, l) in
      ap (λ h. if h then first x else []) p ∙ ap (λ h. if h then before x else []) q

  abbrev pub stays : Stays types callees before n other
  stays = record { clocks = clock; built = based; same = same }

pub controlled_stays : ControlledStaysLaw
controlled_stays types callees n before m name early late controls b is asked earlies lates kinds = stays types callees n before m name early late controls b is asked earlies lates kinds
