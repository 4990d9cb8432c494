-- The equations of a node that asks its controller, in the order in which they read each other.
use Rattle.std.proofs.Common.{◌≡◌, ◌⊎◌, inl, inr, ℕ, zero, suc, ◌+◌, ◌<◌, ◌≤◌, Bool, true, false, if◌then◌else◌, nat_lt, List, [], ◌∷◌, ◌++◌, length, map, refl, arith}
use Rattle.std.specs.List.{AllByRecursion, flat_map}
use Rattle.std.proofs.lemmas.Bool.Decides.{nat_tests}
use Rattle.std.proofs.lemmas.List.{length-append}
use Rattle.hp_base.specs.declared.value.Value.TheVariants.{B}
use Rattle.hp_boolx.specs.declared.gate.Gate.{Gate}
use Rattle.hp_boolx.specs.declared.gate.Gate.TheVariants as gate
use Rattle.hp_boolx.specs.Search.{Bits}
use Rattle.hp_obc.specs.declared.command.ObcOp.{ObcOp}
use Rattle.hp_obc.specs.declared.command.ObcOp.TheVariants.{Copy, Mux}
use Rattle.hp_flat.specs.declared.equation.Atom.{Atom}
use Rattle.hp_flat.specs.declared.equation.Atom.TheVariants.{Variable as Read, Value as Fixed}
use Rattle.hp_flat.specs.declared.node.FlatTy.TheVariants.{Enum}
use Rattle.hp_flat.specs.Equations.{FlatEqn}
use Rattle.law_equations.specs.Meaning.Fitting.{atom_variables}
use Rattle.law_equations.specs.Meaning.Scheduling.{AreBelow, EqnWithin, reads}
use Rattle.hp_controller.specs.declared.decoding.Control.{Control}
use Rattle.hp_controller.specs.declared.decoding.ControlKind.{ControlKind}
use Rattle.hp_controller.specs.declared.decoding.ControlKind.TheVariants.{Truth, Constructor}
use Rattle.hp_controller.specs.Controllers.{added_variable, equation}
use Rattle.hp_controller.specs.Decoding.{control_eqns, controls_eqns, HasBits, total_width, tree}
use Rattle.hp_controller.specs.Gates.{gate_args, gate_at, gate_eqns, gate_op, variable_at}
use Rattle.hp_controller.specs.Steps.{register_eqn, register_eqns}
use Rattle.law_choices.proofs.AddingLemmas.Adding.{both}
use Rattle.law_choices.proofs.AddingLemmas.Steps.{higher}
use Rattle.law_choices.proofs.ClosedLemmas.ClosedLaws.{each_other}

-- ---- rows

-- An equation defines one variable, within bounds, with this property over what it reads; its numbers are below another one.
pub record IsRow (low high k : ℕ) (P : ℕ → ℕ → Type 0) (e : FlatEqn) : Type 0 where
  pub target : ℕ
  pub is : e.targets ≡ target ∷ []
  pub above : low ≤ target
  pub below : target < high
  pub read : AllByRecursion (P target) (reads e)
  pub within : EqnWithin k e

pub row-within : (k target at : ℕ) (op : ObcOp) (args : List Atom) → target < k → AreBelow k (flat_map atom_variables args) → EqnWithin k (equation at target op args)
row-within k target at op args l h = record { targets = (l, tt); clock = tt; operands = h; restart = tt }

-- ---- gates

module _ (P : ℕ → Type 0) where
  -- an atom reads what has the property
  abbrev pub Reads : Atom → Type 0
  Reads (Read y) = P y
  Reads (Fixed v) = Unit {0}

  pub all-reads : (args : List Atom) → AllByRecursion Reads args → AllByRecursion P (flat_map atom_variables args)
  all-reads [] h = tt
  all-reads (Read y ∷ args) h = (h.0, all-reads args h.1)
  all-reads (Fixed v ∷ args) h = all-reads args h.1

  at-place : (ps : List ℕ) (x : ℕ) → AllByRecursion P ps → Reads (variable_at ps x)
  at-place [] x h = tt
  at-place (p ∷ ps) zero h = h.0
  at-place (p ∷ ps) (suc x) h = at-place ps x h.1

  at-gate : (first count j : ℕ) → ((x : ℕ) → first ≤ x → x < first + count → P x) → Reads (gate_at first count j)
  at-gate first count j f = by (nat_lt j count) refl
    where
      by : (c : Bool) → nat_lt j count ≡ c → Reads (if c then Read (first + j) else Fixed (B false))
      by true e = let l : j < count = grind (arith, nat_tests, e) in f (first + j) (omega arith) (omega (arith, l))
      by false e = tt

  gate-reads : (ps : List ℕ) (first i : ℕ) (g : Gate) → AllByRecursion P ps → ((x : ℕ) → first ≤ x → x < first + i → P x) → AllByRecursion Reads (gate_args ps first i g)
  gate-reads ps first i (gate.Const b) h f = (tt, tt)
  gate-reads ps first i (gate.Var x) h f = (at-place ps x h, tt)
  gate-reads ps first i (gate.Not j) h f = (at-gate first i j f, tt)
  gate-reads ps first i (gate.And j k) h f = (at-gate first i j f, (at-gate first i k f, tt))
  gate-reads ps first i (gate.Or j k) h f = (at-gate first i j f, (at-gate first i k f, tt))
  gate-reads ps first i (gate.Xor j k) h f = (at-gate first i j f, (at-gate first i k f, tt))
  gate-reads ps first i (gate.Ite j k l) h f = (at-gate first i j f, (at-gate first i k f, (at-gate first i l f, tt)))

-- gates read less than they define
pub gates-rows : (ps : List ℕ) (first i : ℕ) (gs : List Gate) (high k : ℕ) → AreBelow first ps → high ≡ first + (i + length gs) → high ≤ k → AllByRecursion (IsRow first high k (λ x y. y < x)) (gate_eqns ps first i gs)
gates-rows ps first i [] high k h e l = tt
gates-rows ps first i (g ∷ gs) high k h e l =
    let x = first + i in
    let args = gate_args ps first i g in
    let low : AreBelow x (flat_map atom_variables args) = all-reads (λ y. y < x) args (gate-reads (λ y. y < x) ps first i g (higher first x (omega arith) ps h) (λ y m u. u)) in
    let here : x < k = omega (arith, e, l) in
    (record { target = x; is = refl; above = omega arith; below = omega (arith, e); read = low; within = row-within k x i (gate_op g) args here (higher x k (omega (arith, here)) (flat_map atom_variables args) low) }, gates-rows ps first (i + 1) gs high k h (omega (arith, e)) l)

-- ---- registers and the question

row-later : (a b high k : ℕ) (P : ℕ → ℕ → Type 0) → a ≤ b → (e : FlatEqn) → IsRow b high k P e → IsRow a high k P e
row-later a b high k P l e r = let m = r.above in record { target = r.target; is = r.is; above = omega (arith, l, m); below = r.below; read = r.read; within = r.within }

-- registers read nothing at their instant
pub registers-rows : (a first count high k : ℕ) (init : Bits) (next : List ℕ) → first + count ≤ k → a + length init ≤ high → high ≤ k → AllByRecursion (IsRow a high k (λ x y. ⊥)) (register_eqns a first count init next)
registers-rows a first count high k [] next u l m = tt
registers-rows a first count high k (b ∷ init) [] u l m = tt
registers-rows a first count high k (b ∷ init) (n ∷ next) u l m = (
  record { target = a; is = refl; above = omega arith; below = omega (arith, l); read = tt; within = within (gate_at first count n) (at-gate (λ y. y < k) first count n (λ x p v. omega (arith, v, u))) },
  each_other (IsRow (a + 1) high k (λ x y. ⊥)) (IsRow a high k (λ x y. ⊥)) (λ e h. row-later a (a + 1) high k (λ x y. ⊥) (omega arith) e h) (register_eqns (a + 1) first count init next) (registers-rows (a + 1) first count high k init next u (omega (arith, l)) m),
)
  where
    within : (g : Atom) → Reads (λ y. y < k) g → EqnWithin k (register_eqn a b g)
    within (Read y) h = record { targets = (omega (arith, l, m), tt); clock = tt; operands = (h, tt); restart = tt }
    within (Fixed v) h = record { targets = (omega (arith, l, m), tt); clock = tt; operands = tt; restart = tt }

pub question-reads : (P : ℕ → Type 0) (xs : List ℕ) → AllByRecursion P xs → AllByRecursion P (flat_map atom_variables (map (λ x. Read x) xs))
question-reads P [] h = tt
question-reads P (x ∷ xs) h = (h.0, question-reads P xs h.1)

-- ---- values of control variables

pub tree-count : (t count b w k next : ℕ) → next + length (tree t count b w k next).variables ≡ (tree t count b w k next).next
tree-count t count b zero k next = omega arith
tree-count t count b (suc w) k next =
    let high = tree t count (b + 1) w (k + k + 1) next in
    let low = tree t count (b + 1) w (k + k) high.next in
    let last = added_variable low.next (Enum t) ∷ [] in
    let h = tree-count t count (b + 1) w (k + k + 1) next in
    let l = tree-count t count (b + 1) w (k + k) high.next in
    let m = length-append high.variables (low.variables ++ last) in
    let n = length-append low.variables last in
    omega (arith, h, l, m, n)

control-count : (target b next width : ℕ) (kind : ControlKind) → next + length (control_eqns target b next width kind).variables ≡ (control_eqns target b next width kind).next
control-count target b next width Truth = omega arith
control-count target b next width (Constructor e) = tree-count e.number e.constructors b width 0 next

pub controls-count : (target b next : ℕ) (cs : List Control) → next + length (controls_eqns target b next cs).variables ≡ (controls_eqns target b next cs).next
controls-count target b next [] = omega arith
controls-count target b next (c ∷ cs) =
    let one = control_eqns target b next c.width c.kind in
    let rest = controls_eqns (target + 1) (b + c.width) one.next cs in
    let h = control-count target b next c.width c.kind in
    let l = controls-count (target + 1) (b + c.width) one.next cs in
    let m = length-append one.variables rest.variables in
    omega (arith, h, l, m)

module _ (first past bits gates from end k : ℕ) where
  -- a control variable or a choice in a tree reads bits, and choices that stand before
  abbrev pub MayRead : ℕ → ℕ → Type 0
  MayRead x y = ((bits ≤ y) × (y < gates)) ⊎ ((from ≤ y) × (y < end) × ((x < from) ⊎ (y < x)))

  -- Such an equation.
  pub record Decodes (e : FlatEqn) : Type 0 where
    pub target : ℕ
    pub is : e.targets ≡ target ∷ []
    pub stands : ((first ≤ target) × (target < past)) ⊎ ((from ≤ target) × (target < end))
    pub read : AllByRecursion (MayRead target) (reads e)
    pub within : EqnWithin k e

module _ (first past bits gates from end k : ℕ) (p : past ≤ from) (g : gates ≤ from) (f : end ≤ k) (f2 : from ≤ k) where
  abbrev May : ℕ → ℕ → Type 0
  May x y = MayRead first past bits gates from end k x y

  abbrev Is : FlatEqn → Type 0
  Is e = Decodes first past bits gates from end k e

  may-below : (x : ℕ) (ys : List ℕ) → AllByRecursion (May x) ys → AreBelow k ys
  may-below x ys h = each_other (May x) (λ y. y < k) (λ y m. one y m) ys h
    where
      one : (y : ℕ) → May x y → y < k
      one y (inl m) = let u = m.1 in omega (arith, u, g, f2)
      one y (inr m) = let u = m.1 in omega (arith, u, f)

  -- a choice in a tree
  chosen : (x b : ℕ) (high low : Atom) → from ≤ x → x < end → bits ≤ b → b < gates → Reads (λ y. (from ≤ y) × (y < x)) high → Reads (λ y. (from ≤ y) × (y < x)) low → Is (equation 0 x Mux (Read b ∷ high ∷ low ∷ []))
  chosen x b high low l u m v h q =
      let args = Read b ∷ high ∷ low ∷ [] in
      let all : AllByRecursion (May x) (flat_map atom_variables args) = all-reads (May x) args (inl (m, v), (before high h, (before low q, tt))) in
      record { target = x; is = refl; stands = inr (l, u); read = all; within = row-within k x 0 Mux args (omega (arith, u, f)) (may-below x (flat_map atom_variables args) all) }
    where
      before : (a : Atom) → Reads (λ y. (from ≤ y) × (y < x)) a → Reads (May x) a
      before (Read y) r = let s = r.1 in inr (r.0, omega (arith, s, u), inr s)
      before (Fixed c) r = tt

  raised : (m n : ℕ) (a : Atom) → m ≤ n → Reads (λ y. (from ≤ y) × (y < m)) a → Reads (λ y. (from ≤ y) × (y < n)) a
  raised m n (Read y) l r = let s = r.1 in (r.0, omega (arith, s, l))
  raised m n (Fixed c) l r = tt

  tree-rows : (t count b w c next : ℕ) → bits ≤ b → b + w ≤ gates → from ≤ next → (tree t count b w c next).next ≤ end
      → AllByRecursion Is (tree t count b w c next).eqns × Reads (λ y. (from ≤ y) × (y < (tree t count b w c next).next)) (tree t count b w c next).atom
  tree-rows t count b zero c next l u m v = (tt, tt)
  tree-rows t count b (suc w) c next l u m v =
      let high = tree t count (b + 1) w (c + c + 1) next in
      let low = tree t count (b + 1) w (c + c) high.next in
      let more = tree-count t count (b + 1) w (c + c + 1) next in
      let most = tree-count t count (b + 1) w (c + c) high.next in
      let one = tree-rows t count (b + 1) w (c + c + 1) next (omega (arith, l)) (omega (arith, u)) m (omega (arith, v, most)) in
      let two = tree-rows t count (b + 1) w (c + c) high.next (omega (arith, l)) (omega (arith, u)) (omega (arith, m, more)) (omega (arith, v)) in
      let last = equation 0 low.next Mux (Read b ∷ high.atom ∷ low.atom ∷ []) in (
        both Is high.eqns (low.eqns ++ last ∷ []) one.0 (both Is low.eqns (last ∷ []) two.0 (chosen low.next b high.atom low.atom (omega (arith, m, more, most)) (omega (arith, v)) l (omega (arith, u)) (raised high.next low.next high.atom (omega (arith, most)) one.1) two.1, tt)),
        (omega (arith, m, more, most), omega arith),
      )

  control-rows : (target b next width : ℕ) (kind : ControlKind) → HasBits kind width → first ≤ target → target < past → bits ≤ b → b + width ≤ gates → from ≤ next → (control_eqns target b next width kind).next ≤ end → AllByRecursion Is (control_eqns target b next width kind).eqns
  control-rows target b next width Truth has l u m v q r =
      (record { target = target; is = refl; stands = inl (l, u); read = (inl (m, omega (arith, has, v)), tt); within = row-within k target 0 Copy (Read b ∷ []) (omega (arith, u, p, f2)) (omega (arith, has, v, g, f2), tt) }, tt)
  control-rows target b next width (Constructor e) has l u m v q r =
      let value = tree e.number e.constructors b width 0 next in
      let rows = tree-rows e.number e.constructors b width 0 next m v q r in
      both Is value.eqns (equation 0 target Copy (value.atom ∷ []) ∷ []) rows.0 (copied value.atom rows.1, tt)
    where
      copied : (a : Atom) → Reads (λ y. (from ≤ y) × (y < (tree e.number e.constructors b width 0 next).next)) a → Is (equation 0 target Copy (a ∷ []))
      copied (Read y) h =
          let s = h.1 in
          record { target = target; is = refl; stands = inl (l, u); read = (inr (h.0, omega (arith, s, r), inl (omega (arith, u, p))), tt); within = row-within k target 0 Copy (Read y ∷ []) (omega (arith, u, p, f2)) (omega (arith, s, r, f), tt) }
      copied (Fixed c) h = record { target = target; is = refl; stands = inl (l, u); read = tt; within = row-within k target 0 Copy (Fixed c ∷ []) (omega (arith, u, p, f2)) tt }

  pub controls-rows : (target b next : ℕ) (cs : List Control) → AllByRecursion (λ (c : Control). HasBits c.kind c.width) cs → first ≤ target → target + length cs ≤ past → bits ≤ b → b + total_width cs ≤ gates → from ≤ next → (controls_eqns target b next cs).next ≤ end
      → AllByRecursion Is (controls_eqns target b next cs).eqns
  controls-rows target b next [] has l u m v q r = tt
  controls-rows target b next (c ∷ cs) has l u m v q r =
      let one = control_eqns target b next c.width c.kind in
      let rest = controls_eqns (target + 1) (b + c.width) one.next cs in
      let count = control-count target b next c.width c.kind in
      let more = controls-count (target + 1) (b + c.width) one.next cs in
      both Is one.eqns rest.eqns (control-rows target b next c.width c.kind has.0 l (omega (arith, u)) m (omega (arith, v)) q (omega (arith, r, more)))
      (controls-rows (target + 1) (b + c.width) one.next cs has.1 (omega (arith, l)) (omega (arith, u)) (omega (arith, m)) (omega (arith, v)) (omega (arith, q, count)) r)
