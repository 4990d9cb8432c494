-- What an observer depends on where it is put among the equations of a node: on inputs, which stand for variables of the node.
use Rattle.std.proofs.Common.{◌≡◌, ◌⊎◌, inl, inr, ℕ, zero, suc, ◌+◌, ◌<◌, ◌≤◌, Bool, true, false, nat_lt, List, [], ◌∷◌, ◌++◌, length, map, Some, refl, sym, ap, ap₂, subst, ◌∙◌, arith}
use Rattle.std.specs.Prelude.{Contains, slice_get}
use Rattle.std.specs.List.{AllByRecursion, flat_map, range_with_len}
use Rattle.std.proofs.lemmas.Bool.Decides.{nat_tests}
use Rattle.std.proofs.lemmas.List.{append-nil, append_assoc, map-append}
use Rattle.std.proofs.lemmas.List.FromFn.{length-range_with_len}
use Rattle.hp_obc.specs.declared.command.ObcOp.TheVariants.{Copy}
use Rattle.hp_flat.specs.declared.equation.Atom.{Atom}
use Rattle.hp_flat.specs.declared.equation.Atom.TheVariants.{Variable as Read, Value as Fixed}
use Rattle.hp_flat.specs.Equations.{Clock, FlatEqn}
use Rattle.hp_flat.specs.Nodes.{FlatNode}
use Rattle.law_equations.specs.Meaning.Fitting.{atom_variables}
use Rattle.law_equations.specs.Meaning.Scheduling.{AreBelow, clock_variables, IsWithin, reads as all_reads, right_reads}
use Rattle.hp_watch.specs.Adding.{operator_eqn, with_eqn}
use Rattle.hp_watch.specs.Embedding.{embedded, moved_all, moved_clock, moved_eqn, moved_right, Site, with_inputs, with_room, with_variables}
use Rattle.hp_watch.specs.Watching.{own_site, reads}
use Rattle.law_choices.specs.Depending.Dependence.{DependsOn, EquationChain, IsReadFor}
use Rattle.law_choices.proofs.AddingLemmas.Rows.{each_range}
use Rattle.law_choices.proofs.AddingLemmas.Steps.{among}
use Rattle.law_choices.proofs.ClosedLemmas.ClosedLaws.{each_other, first_one, later_one}
use Rattle.law_controlled.specs.Embedded.{CanStand, EmbeddedLaw, IsOrDependsOn, OwnEmbeddedLaw}
use Rattle.law_controlled.proofs.EmbeddedLaws.{CanBePut, from_map, IsSite, moved-last, moved-reads, moved-variables, room-longer, within-below}
use Rattle.law_controlled.proofs.StraightLaws.{depends-behind, depends-read, read_cases, StayBelow}

-- ---- copies of what an observer is put over

abbrev copies : Clock → ℕ → List Atom → List FlatEqn
copies clock target [] = []
copies clock target (a ∷ args) = operator_eqn target clock Copy (a ∷ []) ∷ copies clock (target + 1) args

copies-are : (clock : Clock) (args : List Atom) (target : ℕ) (m : FlatNode) → (with_inputs clock target args m).eqns ≡ m.eqns ++ copies clock target args
unfolding with_eqn
copies-are clock [] target m = sym (append-nil m.eqns)
copies-are clock (a ∷ args) target m = let e = operator_eqn target clock Copy (a ∷ []) in copies-are clock args (target + 1) (with_eqn e m) ∙ append_assoc m.eqns (e ∷ []) (copies clock (target + 1) args)

-- the copy that defines a variable reads what the observer is put over at its number
abbrev IsCopy : ℕ → List Atom → ℕ → ℕ → Type 0
IsCopy target args v w = (j : ℕ) × (j < length args) × (v ≡ target + j) × (slice_get args j ≡ Some (Read w))

one-read : (target : ℕ) (a : Atom) (args : List Atom) (v w : ℕ) → IsReadFor (operator_eqn target [] Copy (a ∷ []) ∷ []) v w → IsCopy target (a ∷ args) v w
one-read target a args v w r = by a there.1
  where
    there : Contains (target ∷ []) v × Contains (flat_map atom_variables (a ∷ [])) w
    there =
        let e = operator_eqn target [] Copy (a ∷ []) in
        among (λ (d : FlatEqn). Contains d.targets v → Contains (all_reads d) w → Contains (target ∷ []) v × Contains (flat_map atom_variables (a ∷ [])) w) (e ∷ []) r.0 ((λ t s. (t, s)), tt) r.1 r.2 r.3

    by : (a : Atom) → Contains (flat_map atom_variables (a ∷ [])) w → IsCopy target (a ∷ args) v w
    by (Read x) c =
        let same : target ≡ v = among (λ y. target ≡ y) (target ∷ []) v (refl, tt) there.0 in
        let read : x ≡ w = among (λ y. x ≡ y) (x ∷ []) w (refl, tt) c in
        (0, omega arith, omega (arith, same), ap (λ z. Some (Read z)) read)
    by (Fixed z) c = absurd (among (λ y. ⊥) [] w tt c)

copy-read : (args : List Atom) (target v w : ℕ) → IsReadFor (copies [] target args) v w → IsCopy target args v w
copy-read [] target v w r = absurd (among (λ (d : FlatEqn). ⊥) [] r.0 tt r.1)
copy-read (a ∷ args) target v w r = by (read_cases (operator_eqn target [] Copy (a ∷ []) ∷ []) (copies [] (target + 1) args) v w r) (λ c. copy-read args (target + 1) v w c)
  where
    by : IsReadFor (operator_eqn target [] Copy (a ∷ []) ∷ []) v w ⊎ IsReadFor (copies [] (target + 1) args) v w → (IsReadFor (copies [] (target + 1) args) v w → IsCopy (target + 1) args v w) → IsCopy target (a ∷ args) v w
    by (inl c) rest = one-read target a args v w c
    by (inr c) rest =
        let s = rest c in
        let l = s.1 in
        let e = s.2 in
        (suc s.0, omega (arith, l), omega (arith, e), s.3)

-- ---- numbers that are moved

moved-has : (by : ℕ) (xs : List ℕ) → AllByRecursion (λ y. (x : ℕ) × (y ≡ x + by) × Contains xs x) (moved_all by xs)
moved-has by [] = tt
moved-has by (x ∷ xs) =
    ((x, refl, first_one x xs), each_other (λ y. (z : ℕ) × (y ≡ z + by) × Contains xs z) (λ y. (z : ℕ) × (y ≡ z + by) × Contains (x ∷ xs) z) (λ y c. (c.0, c.1, later_one x c.0 xs c.2)) (moved_all by xs) (moved-has by xs))

unmoved : (by : ℕ) (xs : List ℕ) (y : ℕ) → Contains (moved_all by xs) y → (x : ℕ) × (y ≡ x + by) × Contains xs x
unmoved by xs y c = among (λ z. (x : ℕ) × (z ≡ x + by) × Contains xs x) (moved_all by xs) y (moved-has by xs) c

module _ (n o : FlatNode) (site : Site) (can : CanStand n o site) where
  abbrev V : ℕ
  V = length n.variables

  abbrev last : List FlatEqn
  last = map (moved_eqn site V) o.eqns

  abbrev E : List FlatEqn
  E = (embedded o site n).eqns

  eqns-are : E ≡ (n.eqns ++ copies [] V site.inputs) ++ last
  eqns-are =
      (moved-last site V o.eqns (with_room o site n)).0
      ∙ ap (λ es. es ++ last) (copies-are site.clock site.inputs V (with_variables o.variables n) ∙ ap₂ (λ (es : List FlatEqn) (k : Clock). es ++ copies k V site.inputs) (room-longer o.variables n).1 can.clock)

  all-moved : (e : FlatEqn) → all_reads (moved_eqn site V e) ≡ moved_all V (all_reads e)
  all-moved e =
      let clock = clock_variables e.clock in
      let right = right_reads e.right in
      let move : ℕ → ℕ = λ x. x + V in
      ap₂ (λ (c : Clock) (r : List ℕ). clock_variables (c ++ moved_clock V e.clock) ++ ((r ++ moved_all V e.restart) ++ right_reads (moved_right V e.right))) can.clock can.restart
      ∙ ap₂ (λ (a b : List ℕ). a ++ (moved_all V e.restart ++ b)) (moved-variables V e.clock) (moved-reads V e.right)
      ∙ ap (λ (z : List ℕ). moved_all V clock ++ z) (sym (map-append move e.restart right)) ∙ sym (map-append move clock (e.restart ++ right))

  -- ---- a read: in the node, of a copy, or in the observer

  abbrev IsMoved : ℕ → ℕ → Type 0
  IsMoved v w = (x y : ℕ) × (v ≡ x + V) × (w ≡ y + V) × IsReadFor o.eqns x y

  moved-read : (v w : ℕ) → IsReadFor last v w → IsMoved v w
  moved-read v w r =
      let e = from_map site V (subst (λ (c : Clock). AreBelow V (clock_variables c)) (sym can.clock) tt) (subst (AreBelow V) (sym can.restart) tt) o.eqns r.0 r.1 in
      let d : FlatEqn = e.0 in
      let t = unmoved V d.targets v (subst (λ (g : FlatEqn). Contains g.targets v) (sym e.2) r.2) in
      let s = unmoved V (all_reads d) w (subst (λ (xs : List ℕ). Contains xs w) (all-moved d) (subst (λ (g : FlatEqn). Contains (all_reads g) w) (sym e.2) r.3)) in
      (t.0, s.0, t.1, s.1, (d, e.1, t.2, s.2))

  abbrev Reading : ℕ → ℕ → Type 0
  Reading v w = (IsReadFor n.eqns v w × (v < V) × (w < V)) ⊎ (IsCopy V site.inputs v w ⊎ IsMoved v w)

  below : StayBelow V n.eqns
  below = let w = can.within in within-below V n.eqns w.eqns

  own-read : (v w : ℕ) → IsReadFor n.eqns v w → IsReadFor n.eqns v w × (v < V) × (w < V)
  own-read v w r =
      let all = among (λ (e : FlatEqn). AreBelow V e.targets × AreBelow V (all_reads e)) n.eqns r.0 below r.1 in
      (r, among (λ x. x < V) (r.0).targets v all.0 r.2, among (λ x. x < V) (all_reads r.0) w all.1 r.3)

  reading : (v w : ℕ) → IsReadFor E v w → Reading v w
  reading v w r = by (read_cases (n.eqns ++ copies [] V site.inputs) last v w (subst (λ (es : List FlatEqn). IsReadFor es v w) eqns-are r))
    where
      inner : IsReadFor n.eqns v w ⊎ IsReadFor (copies [] V site.inputs) v w → Reading v w
      inner (inl c) = inl (own-read v w c)
      inner (inr c) = inr (inl (copy-read site.inputs V v w c))

      by : IsReadFor (n.eqns ++ copies [] V site.inputs) v w ⊎ IsReadFor last v w → Reading v w
      by (inl c) = inner (read_cases n.eqns (copies [] V site.inputs) v w c)
      by (inr c) = inr (inr (moved-read v w c))

  -- ---- chains in the node

  low-read : (v w : ℕ) → v < V → IsReadFor E v w → IsReadFor n.eqns v w × (w < V)
  low-read v w l r = by (reading v w r)
    where
      by : Reading v w → IsReadFor n.eqns v w × (w < V)
      by (inl c) = (c.0, c.2)
      by (inr (inl c)) = let e = c.2 in absurd (omega (arith, e, l))
      by (inr (inr c)) = let e = c.2 in absurd (omega (arith, e, l))

  low-chain : (v : ℕ) (vs : List ℕ) (w : ℕ) → v < V → EquationChain E v vs w → EquationChain n.eqns v vs w
  low-chain v [] w l c = (low-read v w l c).0
  low-chain v (u ∷ us) w l c = let r = low-read v u l c.0 in (r.0, low-chain u us w r.1 c.1)

  -- ---- chains from inputs of the observer

  atom-below : (args : List Atom) (j a : ℕ) → AreBelow V (flat_map atom_variables args) → slice_get args j ≡ Some (Read a) → a < V
  atom-below [] j a h e = absurd cc
  atom-below (Read x ∷ args) zero a h e = let same : x ≡ a = cc in let l = h.0 in omega (arith, same, l)
  atom-below (Fixed z ∷ args) zero a h e = absurd cc
  atom-below (Read x ∷ args) (suc j) a h e = atom-below args j a h.1 e
  atom-below (Fixed z ∷ args) (suc j) a h e = atom-below args j a h e

  -- no input of the observer is defined in it
  no-target : (x y : ℕ) → x < o.inputs → IsReadFor o.eqns x y → ⊥
  no-target x y l r =
      let all = among (λ (e : FlatEqn). AllByRecursion (λ z. o.inputs ≤ z) e.targets) o.eqns r.0 can.no_inputs r.1 in
      let u = among (λ z. o.inputs ≤ z) (r.0).targets x all r.2 in
      omega (arith, l, u)

  input-read : (y w : ℕ) → y < o.inputs → IsReadFor E (y + V) w → slice_get site.inputs y ≡ Some (Read w)
  input-read y w l r = by (reading (y + V) w r)
    where
      by : Reading (y + V) w → slice_get site.inputs y ≡ Some (Read w)
      by (inl c) = let u = c.1 in absurd (omega (arith, u))
      by (inr (inl c)) =
          let e = c.2 in
          let same : c.0 ≡ y = omega (arith, e) in
          subst (λ z. slice_get site.inputs z ≡ Some (Read w)) same c.3
      by (inr (inr c)) =
          let e = c.2 in
          let same : c.0 ≡ y = omega (arith, e) in
          absurd (no-target y c.1 l (subst (λ z. IsReadFor o.eqns z c.1) same c.4))

  input-chain : (y : ℕ) (us : List ℕ) (w : ℕ) → y < o.inputs → EquationChain E (y + V) us w → (a : ℕ) × (slice_get site.inputs y ≡ Some (Read a)) × IsOrDependsOn n a w
  input-chain y [] w l c = (w, input-read y w l c, inl refl)
  input-chain y (u ∷ us) w l c =
      let g = input-read y u l c.0 in
      (u, g, inr (us, low-chain u us w (atom-below site.inputs y u can.inputs g) c.1))

  -- ---- chains from other variables of the observer

  inner-read : (x w : ℕ) → o.inputs ≤ x → IsReadFor E (x + V) w → (y : ℕ) × (w ≡ y + V) × IsReadFor o.eqns x y
  inner-read x w g r = by (reading (x + V) w r)
    where
      by : Reading (x + V) w → (y : ℕ) × (w ≡ y + V) × IsReadFor o.eqns x y
      by (inl c) = let u = c.1 in absurd (omega (arith, u))
      by (inr (inl c)) =
          let e = c.2 in
          let l = c.1 in
          let few = can.few in
          absurd (omega (arith, e, l, few, g))
      by (inr (inr c)) =
          let e = c.2 in
          let same : c.0 ≡ x = omega (arith, e) in
          (c.1, c.3, subst (λ z. IsReadFor o.eqns z c.1) same c.4)

  abbrev Found : ℕ → ℕ → Type 0
  Found x w = (j a : ℕ) × (slice_get site.inputs j ≡ Some (Read a)) × DependsOn o.eqns x j × IsOrDependsOn n a w

  inner-chain : (x : ℕ) (us : List ℕ) (w : ℕ) → o.inputs ≤ x → w < V → EquationChain E (x + V) us w → Found x w
  inner-chain x [] w g l c =
      let r = inner-read x w g c in
      let e = r.1 in
      absurd (omega (arith, e, l))
  inner-chain x (u ∷ us) w g l c =
      let r = inner-read x u g c.0 in
      let y : ℕ = r.0 in
      let next : EquationChain E (y + V) us w = subst (λ z. EquationChain E z us w) r.1 c.1 in
      by y r.2 next (nat_lt y o.inputs) refl (λ more. inner-chain y us w more l next)
    where
      by : (y : ℕ) → IsReadFor o.eqns x y → EquationChain E (y + V) us w → (b : Bool) → nat_lt y o.inputs ≡ b → (o.inputs ≤ y → Found y w) → Found x w
      by y r next true e again = let s = input-chain y us w (grind (arith, nat_tests, e)) next in (y, s.0, s.1, depends-read o.eqns x y r, s.2)
      by y r next false e again = let s = again (grind (arith, nat_tests, e)) in (s.0, s.1, s.2, depends-behind o.eqns x y s.0 r s.3, s.4)

pub embedded_law : EmbeddedLaw
embedded_law n o site can v w g l d = inner-chain n o site can v d.0 w g l d.1

-- ---- the own observer

-- what is known of the node that is watched is what is asked of it
pub can_stand : (n o : FlatNode) (inputs : ℕ) → IsWithin n → CanBePut o → IsSite n o (own_site inputs n) → CanStand n o (own_site inputs n)
can_stand n o inputs within can is = record { within = within; observer = can.within; no_inputs = can.no_inputs; clock = refl; restart = refl; inputs = is.inputs; few = is.few }

get-split : {A : Type 0} (xs ys : List A) (j : ℕ) (z : A) → slice_get (xs ++ ys) j ≡ Some z → (slice_get xs j ≡ Some z) ⊎ ((i : ℕ) × (j ≡ length xs + i) × (slice_get ys i ≡ Some z))
get-split [] ys j z e = inr (j, omega arith, e)
get-split (x ∷ xs) ys zero z e = inl e
get-split (x ∷ xs) ys (suc j) z e = by (get-split xs ys j z e)
  where
    by : (slice_get xs j ≡ Some z) ⊎ ((i : ℕ) × (j ≡ length xs + i) × (slice_get ys i ≡ Some z)) → (slice_get xs j ≡ Some z) ⊎ ((i : ℕ) × (suc j ≡ suc (length xs) + i) × (slice_get ys i ≡ Some z))
    by (inl h) = inl h
    by (inr h) = let same = h.1 in inr (h.0, omega (arith, same), h.2)

reads-get : (xs : List ℕ) (j a : ℕ) → slice_get (reads xs) j ≡ Some (Read a) → slice_get xs j ≡ Some a
reads-get [] j a e = absurd cc
reads-get (x ∷ xs) zero a e = let same : x ≡ a = cc in ap Some same
reads-get (x ∷ xs) (suc j) a e = reads-get xs j a e

get-each : (P : ℕ → Type 0) (xs : List ℕ) (j a : ℕ) → AllByRecursion P xs → slice_get xs j ≡ Some a → P a
get-each P [] j a h e = absurd cc
get-each P (x ∷ xs) zero a h e = let same : x ≡ a = cc in subst P same h.0
get-each P (x ∷ xs) (suc j) a h e = get-each P xs j a h.1 e

as-many : (xs : List ℕ) → length (reads xs) ≡ length xs
as-many [] = refl
as-many (x ∷ xs) = ap suc (as-many xs)

pub own_embedded_law : EmbeddedLaw → OwnEmbeddedLaw
own_embedded_law law n o inputs can no_inputs few v w g past l d = by (get-split (reads row) (reads n.outputs) s.0 (Read s.1) s.2)
  where
    row : List ℕ
    row = range_with_len 0 inputs

    s : (j a : ℕ) × (slice_get (reads (range_with_len 0 inputs) ++ reads n.outputs) j ≡ Some (Read a)) × DependsOn o.eqns v j × IsOrDependsOn n a w
    s = law n o (own_site inputs n) can v w g l d

    defined : (a : ℕ) → a < inputs → DependsOn n.eqns a w → ⊥
    defined a u c = first c.0 c.1
      where
        target : (y : ℕ) → IsReadFor n.eqns a y → ⊥
        target y r =
            let all = among (λ (e : FlatEqn). AllByRecursion (λ z. n.inputs ≤ z) e.targets) n.eqns r.0 no_inputs r.1 in
            let low = among (λ z. n.inputs ≤ z) (r.0).targets a all r.2 in
            omega (arith, low, u, few)

        first : (vs : List ℕ) → EquationChain n.eqns a vs w → ⊥
        first [] r = target w r
        first (y ∷ ys) r = target y r.0

    no_input : (a : ℕ) → a < inputs → IsOrDependsOn n a w → ⊥
    no_input a u (inl e) = omega (arith, u, e, past)
    no_input a u (inr c) = defined a u c

    by : (slice_get (reads (range_with_len 0 inputs)) s.0 ≡ Some (Read s.1)) ⊎ ((i : ℕ) × (s.0 ≡ length (reads (range_with_len 0 inputs)) + i) × (slice_get (reads n.outputs) i ≡ Some (Read s.1)))
        → (i a : ℕ) × (slice_get n.outputs i ≡ Some a) × DependsOn o.eqns v (inputs + i) × IsOrDependsOn n a w
    by (inl h) = absurd (no_input s.1 (get-each (λ x. x < inputs) (range_with_len 0 inputs) s.0 s.1 (each_range (λ x. x < inputs) 0 inputs (λ x a b. omega (arith, b))) (reads-get (range_with_len 0 inputs) s.0 s.1 h)) s.4)
    by (inr h) =
        let many = as-many (range_with_len 0 inputs) ∙ length-range_with_len 0 inputs in
        let at = h.1 in
        let same : s.0 ≡ inputs + h.0 = omega (arith, at, many) in
        (h.0, s.1, reads-get n.outputs h.0 s.1 h.2, subst (DependsOn o.eqns v) same s.3, s.4)
