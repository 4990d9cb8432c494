-- Observers are put among the equations of a node such that no variable depends on itself.
use Rattle.std.proofs.Common.{◌≡◌, ◌⊎◌, inl, inr, ℕ, ◌+◌, ◌-◌, ◌<◌, ◌≤◌, List, [], ◌∷◌, ◌++◌, length, map, refl, sym, ap, subst, ◌∙◌, arith}
use Rattle.std.specs.Prelude.{Contains}
use Rattle.std.specs.List.{AllByRecursion, flat_map}
use Rattle.std.proofs.lemmas.List.{append-nil, append_assoc}
use Rattle.std.proofs.lemmas.List.Elements.{Contains-append_cases, Contains-append_left, Contains-append_right}
use Rattle.hp_obc.specs.declared.command.ObcOp.TheVariants.{Copy}
use Rattle.hp_flat.specs.declared.equation.Atom.{Atom}
use Rattle.hp_flat.specs.declared.equation.Atom.TheVariants.{Variable as Read, Value as Fixed}
use Rattle.hp_flat.specs.declared.node.Variable.{Variable}
use Rattle.hp_flat.specs.Equations.{Clock, Right, operator, register, called, FlatEqn}
use Rattle.hp_flat.specs.Nodes.{FlatNode}
use Rattle.law_equations.specs.Meaning.Fitting.{atom_variables, operands}
use Rattle.law_equations.specs.Meaning.Scheduling.{AreBelow, clock_variables, DefinesNoInput, EqnWithin, IsWithin, reads, right_reads}
use Rattle.hp_watch.specs.Adding.{operator_eqn, with_eqn, with_variable}
use Rattle.hp_watch.specs.Embedding.{embedded, moved_all, moved_atom, moved_clock, moved_eqn, moved_right, Site, with_inputs, with_moved, with_room, with_variables}
use Rattle.law_choices.specs.Depending.Dependence.{EquationChain, IsReadFor}
use Rattle.law_choices.proofs.AddingLemmas.Adding.{both}
use Rattle.law_choices.proofs.AddingLemmas.Steps.{among, higher}
use Rattle.law_choices.proofs.ClosedLemmas.ClosedLaws.{each_other, first_one, later_one}
use Rattle.law_controlled.specs.Early.{IsStraight}
use Rattle.law_controlled.proofs.RisingLaws.{IsSound, longer-variable, operator-rising, Rises, rises-eqn, rising-behind, rising-below, rising-straight, stay-higher}
use Rattle.law_controlled.proofs.StraightLaws.{AreBehind, StayBelow, straight_behind}

-- ---- what an equation reads is among what stands in it

right-within : (k : ℕ) (r : Right) → AreBelow k (operands r) → AreBelow k (right_reads r)
right-within k (operator op args) h = h
right-within k (register first next) h = tt
right-within k (called f args) h = h

pub reads-below : (k : ℕ) (e : FlatEqn) → EqnWithin k e → AreBelow k (reads e)
reads-below k e w = both (λ x. x < k) (clock_variables e.clock) (e.restart ++ right_reads e.right) w.clock (both (λ x. x < k) e.restart (right_reads e.right) w.restart (right-within k e.right w.operands))

pub within-below : (k : ℕ) (es : List FlatEqn) → AllByRecursion (EqnWithin k) es → StayBelow k es
within-below k es h = each_other (EqnWithin k) (λ (e : FlatEqn). AreBelow k e.targets × AreBelow k (reads e)) (λ e w. (w.targets, reads-below k e w)) es h

-- ---- moving

-- a number that is moved, or one of those of the site, which are below
abbrev pub Came : ℕ → List ℕ → ℕ → Type 0
Came by xs y = (y < by) ⊎ ((x : ℕ) × (y ≡ x + by) × Contains xs x)

came-more : (by : ℕ) (xs ys : List ℕ) → ((x : ℕ) → Contains xs x → Contains ys x) → (zs : List ℕ) → AllByRecursion (Came by xs) zs → AllByRecursion (Came by ys) zs
came-more by xs ys f zs h = each_other (Came by xs) (Came by ys) (λ z c. one z c) zs h
  where
    one : (z : ℕ) → Came by xs z → Came by ys z
    one z (inl l) = inl l
    one z (inr c) = inr (c.0, c.1, f c.0 c.2)

came-below : (by : ℕ) (xs ys : List ℕ) → AreBelow by ys → AllByRecursion (Came by xs) ys
came-below by xs ys h = each_other (λ y. y < by) (Came by xs) (λ y l. inl l) ys h

pub came-moved : (by : ℕ) (xs : List ℕ) → AllByRecursion (Came by xs) (moved_all by xs)
came-moved by [] = tt
came-moved by (x ∷ xs) = (inr (x, refl, first_one x xs), came-more by xs (x ∷ xs) (λ y c. later_one x y xs c) (moved_all by xs) (came-moved by xs))

pub moved-variables : (by : ℕ) (clock : Clock) → clock_variables (moved_clock by clock) ≡ moved_all by (clock_variables clock)
moved-variables by [] = refl
moved-variables by (on ∷ clock) = ap (λ xs. (on.0 + by) ∷ xs) (moved-variables by clock)

moved-atoms : (by : ℕ) (args : List Atom) → flat_map atom_variables (map (moved_atom by) args) ≡ moved_all by (flat_map atom_variables args)
moved-atoms by [] = refl
moved-atoms by (Read x ∷ args) = ap (λ xs. (x + by) ∷ xs) (moved-atoms by args)
moved-atoms by (Fixed v ∷ args) = moved-atoms by args

pub moved-reads : (by : ℕ) (r : Right) → right_reads (moved_right by r) ≡ moved_all by (right_reads r)
moved-reads by (operator op args) = moved-atoms by args
moved-reads by (register first next) = refl
moved-reads by (called f args) = moved-atoms by args

clocks-joined : (c d : Clock) → clock_variables (c ++ d) ≡ clock_variables c ++ clock_variables d
clocks-joined [] d = refl
clocks-joined (on ∷ c) d = ap (λ xs. on.0 ∷ xs) (clocks-joined c d)

module _ (site : Site) (far : ℕ) (clock : AreBelow far (clock_variables site.clock)) (restart : AreBelow far site.restart) where
  -- a moved equation reads what is moved, and what stands before
  reads-came : (e : FlatEqn) → AllByRecursion (Came far (reads e)) (reads (moved_eqn site far e))
  reads-came e =
      let all = reads e in
      let clocks = clock_variables e.clock in
      let rest = e.restart ++ right_reads e.right in
      let P = Came far all in
      let own = came-more far clocks all (λ x c. Contains-append_left clocks rest x c) (moved_all far clocks) (came-moved far clocks) in
      let again = came-more far e.restart all (λ x c. Contains-append_right clocks rest x (Contains-append_left e.restart (right_reads e.right) x c)) (moved_all far e.restart) (came-moved far e.restart) in
      let right = came-more far (right_reads e.right) all (λ x c. Contains-append_right clocks rest x (Contains-append_right e.restart (right_reads e.right) x c)) (moved_all far (right_reads e.right)) (came-moved far (right_reads e.right)) in
      let first : AllByRecursion P (clock_variables (site.clock ++ moved_clock far e.clock)) =
      subst (AllByRecursion P) (sym (clocks-joined site.clock (moved_clock far e.clock) ∙ ap (λ xs. clock_variables site.clock ++ xs) (moved-variables far e.clock))) (both P (clock_variables site.clock) (moved_all far clocks) (came-below far all (clock_variables site.clock) clock) own) in
      let second : AllByRecursion P (site.restart ++ moved_all far e.restart) = both P site.restart (moved_all far e.restart) (came-below far all site.restart restart) again in
      both P (clock_variables (site.clock ++ moved_clock far e.clock)) ((site.restart ++ moved_all far e.restart) ++ right_reads (moved_right far e.right)) first
      (both P (site.restart ++ moved_all far e.restart) (right_reads (moved_right far e.right)) second (subst (AllByRecursion P) (sym (moved-reads far e.right)) right))

  -- what it reads of what is moved, the equation reads
  unmoved : (x : ℕ) (xs : List ℕ) → Came far xs x → far ≤ x → Contains xs (x - far)
  unmoved x xs (inl l) h = absurd (omega (arith, l, h))
  unmoved x xs (inr c) h = let same = c.1 in subst (Contains xs) (omega (arith, same)) c.2

  pub from_map : (es : List FlatEqn) (d : FlatEqn) → Contains (map (moved_eqn site far) es) d → (e : FlatEqn) × Contains es e × (moved_eqn site far e ≡ d)
  from_map [] d h = absurd (among (λ (g : FlatEqn). ⊥) [] d tt h)
  from_map (e ∷ es) d h = by (λ c. from_map es d c) (Contains-append_cases (moved_eqn site far e ∷ []) (map (moved_eqn site far) es) d h)
    where
      by : (Contains (map (moved_eqn site far) es) d → (g : FlatEqn) × Contains es g × (moved_eqn site far g ≡ d)) → Contains (moved_eqn site far e ∷ []) d ⊎ Contains (map (moved_eqn site far) es) d → (g : FlatEqn) × Contains (e ∷ es) g × (moved_eqn site far g ≡ d)
      by rest (inl c) = (e, first_one e es, among (λ (g : FlatEqn). moved_eqn site far e ≡ g) (moved_eqn site far e ∷ []) d (refl, tt) c)
      by rest (inr c) = let r = rest c in (r.0, later_one e r.0 es r.1, r.2)

  module _ (es : List FlatEqn) where
    abbrev moved : List FlatEqn
    moved = map (moved_eqn site far) es

    moved-read : (v w : ℕ) → IsReadFor moved v w → (far ≤ v) × (far ≤ w → IsReadFor es (v - far) (w - far))
    moved-read v w r =
        let e = from_map es r.0 r.1 in
        let t : Contains (moved_all far (e.0).targets) v = subst (λ (g : FlatEqn). Contains g.targets v) (sym e.2) r.2 in
        let s : Contains (reads (moved_eqn site far e.0)) w = subst (λ (g : FlatEqn). Contains (reads g) w) (sym e.2) r.3 in
        let target = among (λ y. (x : ℕ) × (y ≡ x + far) × Contains (e.0).targets x) (moved_all far (e.0).targets) v (moved-has (e.0).targets) t in
        let same = target.1 in (
          omega (arith, same),
          λ l. (e.0, e.1, subst (Contains (e.0).targets) (omega (arith, same)) target.2, unmoved w (reads e.0) (among (Came far (reads e.0)) (reads (moved_eqn site far e.0)) w (reads-came e.0) s) l),
        )
      where
        moved-has : (xs : List ℕ) → AllByRecursion (λ y. (x : ℕ) × (y ≡ x + far) × Contains xs x) (moved_all far xs)
        moved-has [] = tt
        moved-has (x ∷ xs) =
            ((x, refl, first_one x xs), each_other (λ y. (z : ℕ) × (y ≡ z + far) × Contains xs z) (λ y. (z : ℕ) × (y ≡ z + far) × Contains (x ∷ xs) z) (λ y c. (c.0, c.1, later_one x c.0 xs c.2)) (moved_all far xs) (moved-has xs))

    moved-chain : (v : ℕ) (vs : List ℕ) (end : ℕ) → far ≤ end → EquationChain moved v vs end → (far ≤ v) × EquationChain es (v - far) (map (λ u. u - far) vs) (end - far)
    moved-chain v [] end l c = let r = moved-read v end c in (r.0, r.1 l)
    moved-chain v (w ∷ ws) end l c =
        let rest = moved-chain w ws end l c.1 in
        let r = moved-read v w c.0 in
        (r.0, (r.1 rest.0, rest.1))

    -- so no moved variable depends on itself
    moved-straight : IsStraight es → IsStraight moved
    moved-straight s v c = by c.0 c.1
      where
        by : (vs : List ℕ) → EquationChain moved v vs v → ⊥
        by [] d = let l = (moved-read v v d).0 in s (v - far) ([], (moved-chain v [] v l d).1)
        by (w ∷ ws) d = let l = (moved-read v w d.0).0 in s (v - far) (map (λ u. u - far) (w ∷ ws), (moved-chain v (w ∷ ws) v l d).1)

  -- moved equations define and read variables below what was below, moved
  came-high : (k : ℕ) (xs : List ℕ) → AreBelow k xs → (ys : List ℕ) → AllByRecursion (Came far xs) ys → AreBelow (far + k) ys
  came-high k xs low ys h = each_other (Came far xs) (λ y. y < far + k) (λ y c. one y c) ys h
    where
      one : (y : ℕ) → Came far xs y → y < far + k
      one y (inl l) = omega (arith, l)
      one y (inr c) = let same = c.1 in let l = among (λ x. x < k) xs c.0 low c.2 in omega (arith, same, l)

  moved-below : (k : ℕ) (es : List FlatEqn) → StayBelow k es → StayBelow (far + k) (map (moved_eqn site far) es)
  moved-below k [] h = tt
  moved-below k (e ∷ es) h =
      let first = h.0 in
      ((came-high k e.targets first.0 (moved_all far e.targets) (came-moved far e.targets), came-high k (reads e) first.1 (reads (moved_eqn site far e)) (reads-came e)), moved-below k es h.1)

  moved-behind : (k : ℕ) (es : List FlatEqn) → AllByRecursion (λ (e : FlatEqn). AllByRecursion (λ x. k ≤ x) e.targets) es → AreBehind (far + k) (map (moved_eqn site far) es)
  moved-behind k [] h = tt
  moved-behind k (e ∷ es) h = (targets e.targets h.0, moved-behind k es h.1)
    where
      targets : (xs : List ℕ) → AllByRecursion (λ x. k ≤ x) xs → AllByRecursion (λ x. far + k ≤ x) (moved_all far xs)
      targets [] g = tt
      targets (x ∷ xs) g = let l = g.0 in (omega (arith, l), targets xs g.1)

-- ---- the node with room

pub room-longer : (vs : List Variable) (n : FlatNode) → (length (with_variables vs n).variables ≡ length n.variables + length vs) × ((with_variables vs n).eqns ≡ n.eqns)
unfolding with_variable
room-longer [] n = (omega arith, refl)
room-longer (v ∷ vs) n =
    let rest = room-longer vs (with_variable v.ty n) in
    let here = longer-variable v.ty n in
    let long = rest.0 in
    (omega (arith, long, here), rest.1)

inputs-same : (clock : Clock) (args : List Atom) (target : ℕ) (n : FlatNode) → (with_inputs clock target args n).variables ≡ n.variables
unfolding with_eqn
inputs-same clock [] target n = refl
inputs-same clock (a ∷ args) target n = inputs-same clock args (target + 1) (with_eqn (operator_eqn target clock Copy (a ∷ [])) n)

-- copies of what stands before
rises-inputs : (low high : ℕ) (clock : Clock) (args : List Atom) (target : ℕ) (n m : FlatNode) → AreBelow low (clock_variables clock) → AreBelow low (flat_map atom_variables args) → low ≤ target → target + length args ≤ high → Rises low high n m
    → Rises low high n (with_inputs clock target args m)
rises-inputs low high clock [] target n m c a l u r = r
rises-inputs low high clock (Read x ∷ args) target n m c a l u r =
    let read = a.0 in
    let e = operator_eqn target clock Copy (Read x ∷ []) in
    rises-inputs low high clock args (target + 1) n (with_eqn e m) c a.1 (omega (arith, l)) (omega (arith, u))
    (rises-eqn low high n m e r (operator-rising low high target clock Copy (Read x ∷ []) l (omega (arith, u)) (higher low target l (clock_variables clock) c) (omega (arith, read, l), tt)))
rises-inputs low high clock (Fixed v ∷ args) target n m c a l u r =
    let e = operator_eqn target clock Copy (Fixed v ∷ []) in
    rises-inputs low high clock args (target + 1) n (with_eqn e m) c a (omega (arith, l)) (omega (arith, u))
    (rises-eqn low high n m e r (operator-rising low high target clock Copy (Fixed v ∷ []) l (omega (arith, u)) (higher low target l (clock_variables clock) c) tt))

pub moved-last : (site : Site) (far : ℕ) (es : List FlatEqn) (n : FlatNode) → ((with_moved site far es n).eqns ≡ n.eqns ++ map (moved_eqn site far) es) × ((with_moved site far es n).variables ≡ n.variables)
unfolding with_eqn
moved-last site far [] n = (sym (append-nil n.eqns), refl)
moved-last site far (e ∷ es) n =
    let rest = moved-last site far es (with_eqn (moved_eqn site far e) n) in
    (rest.0 ∙ append_assoc n.eqns (moved_eqn site far e ∷ []) (map (moved_eqn site far) es), rest.1)

-- ---- an observer in a node

-- What is asked of an observer: its numbers are those of its variables, no variable depends on itself, and no input is defined.
pub record CanBePut (o : FlatNode) : Type 0 where
  pub within : IsWithin o
  pub straight : IsStraight o.eqns
  pub no_inputs : DefinesNoInput o

-- What is asked of a site: its numbers are those of variables, and there is no more in it than the observer has inputs.
pub record IsSite (n o : FlatNode) (site : Site) : Type 0 where
  pub clock : AreBelow (length n.variables) (clock_variables site.clock)
  pub restart : AreBelow (length n.variables) site.restart
  pub inputs : AreBelow (length n.variables) (flat_map atom_variables site.inputs)
  pub few : length site.inputs ≤ o.inputs

module _ (n o : FlatNode) (site : Site) (s : IsSound n) (can : CanBePut o) (is : IsSite n o site) where
  abbrev V : ℕ
  V = length n.variables

  abbrev K : ℕ
  K = V + o.inputs

  abbrev other : FlatNode
  other = embedded o site n

  abbrev room : FlatNode
  room = with_room o site n

  abbrev last : List FlatEqn
  last = map (moved_eqn site V) o.eqns

  pub embedded-longer : length other.variables ≡ V + length o.variables
  embedded-longer = ap length ((moved-last site V o.eqns room).1 ∙ inputs-same site.clock site.inputs V (with_variables o.variables n)) ∙ (room-longer o.variables n).0

  in_room : Rises V K n room
  in_room =
      let few = is.few in
      rises-inputs V K site.clock site.inputs V n (with_variables o.variables n) is.clock is.inputs (omega arith) (omega (arith, few)) (record { more = []; eqns = (room-longer o.variables n).1 ∙ sym (append-nil n.eqns); each = tt })

  room_below : StayBelow K room.eqns
  room_below =
      let r = in_room in
      subst (StayBelow K) (sym r.eqns) (both (λ (e : FlatEqn). AreBelow K e.targets × AreBelow K (reads e)) n.eqns r.more (stay-higher V K (omega arith) n.eqns s.below) (rising-below V K r.more r.each))

  room_straight : IsStraight room.eqns
  room_straight = let r = in_room in subst IsStraight (sym r.eqns) (straight_behind V n.eqns r.more s.below (rising-behind V K r.more r.each) s.straight (rising-straight V K r.more r.each))

  pub embedded-sound : IsSound other
  embedded-sound =
      let w = can.within in
      let low = w.inputs in
      let L = V + length o.variables in
      let eqns = (moved-last site V o.eqns room).0 in
      let own = within-below (length o.variables) o.eqns w.eqns in record {
        below = subst (λ k. StayBelow k other.eqns) (sym embedded-longer)
            (subst (StayBelow L) (sym eqns) (both (λ (e : FlatEqn). AreBelow L e.targets × AreBelow L (reads e)) room.eqns last (stay-higher K L (omega (arith, low)) room.eqns room_below) (moved-below site V is.clock is.restart (length o.variables) o.eqns own)));
        straight = subst IsStraight (sym eqns) (straight_behind K room.eqns last room_below (moved-behind site V is.clock is.restart o.inputs o.eqns can.no_inputs) room_straight (moved-straight site V is.clock is.restart o.eqns can.straight));
      }

  -- the equations of the node stay in front
  pub embedded-front : (more : List FlatEqn) × (other.eqns ≡ n.eqns ++ more)
  embedded-front =
      let r = in_room in
      (r.more ++ last, (moved-last site V o.eqns room).0 ∙ ap (λ es. es ++ last) r.eqns ∙ append_assoc n.eqns r.more last)

  -- and all others are of its new variables
  pub embedded-behind : AreBehind V (embedded-front).0
  unfolding embedded-front in_room
  embedded-behind =
      let r = in_room in
      both (λ (e : FlatEqn). AllByRecursion (λ x. V ≤ x) e.targets) r.more last (rising-behind V K r.more r.each)
      (each_other (λ (e : FlatEqn). AllByRecursion (λ x. K ≤ x) e.targets) (λ (e : FlatEqn). AllByRecursion (λ x. V ≤ x) e.targets) (λ e h. each_other (λ x. K ≤ x) (λ x. V ≤ x) (λ x l. omega (arith, l)) e.targets h) last
      (moved-behind site V is.clock is.restart o.inputs o.eqns can.no_inputs))
