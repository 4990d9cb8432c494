-- Observers in a node.
use Rattle.std.proofs.Common.{◌≡◌, ◌⊎◌, inl, inr, ℕ, zero, suc, ◌<◌, ◌≤◌, Bool, true, false, if◌then◌else◌, nat_lt, List, [], ◌∷◌, ◌++◌, length, map, slice_get, Option, None, Some, refl, sym, ap, subst, ◌∙◌, arith}
use Rattle.std.specs.List.{AllByRecursion, flat_map, range_with_len}
use Rattle.std.proofs.lemmas.Bool.Decides.{nat_tests}
use Rattle.std.proofs.lemmas.List.{append-nil, length-append}
use Rattle.hp_base.specs.Kinds.{KindData, Bools}
use Rattle.hp_obc.specs.Machines.{ObcType}
use Rattle.hp_flat.specs.declared.equation.Atom.{Atom}
use Rattle.hp_flat.specs.declared.equation.Atom.TheVariants.{Variable as Read, Value as Fixed}
use Rattle.hp_flat.specs.declared.node.Variable.{Variable}
use Rattle.hp_flat.specs.Equations.{Clock, Right, operator, register, called, FlatEqn}
use Rattle.hp_flat.specs.Nodes.{FlatNode}
use Rattle.law_equations.specs.Meaning.Fitting.{atom_variables, operands}
use Rattle.law_equations.specs.Meaning.Kinding.{Callees, HaveKinds, RightHasKinds, EqnKinds, kinds_at, variable_kind}
use Rattle.law_equations.specs.Meaning.Reactions.{inputs_of}
use Rattle.law_equations.specs.Meaning.Scheduling.{AreBelow, EqnWithin}
use Rattle.hp_watch.specs.declared.embedding.Shift.{Shift}
use Rattle.hp_watch.specs.declared.watching.Free.{Free}
use Rattle.hp_watch.specs.Adding.{type_at}
use Rattle.hp_watch.specs.Embedding.{Site, embedded, shift_of}
use Rattle.hp_watch.specs.Watching.{is_integer, compares_integers, free_target, free_by, free_input, free_inputs, Observed, Observing, moved_free, reads, own_site, args_of, site_of, called_by, Placed, with_observer, with_called, placed, or_none, shift_at, free_moved, free_placed_by, free_placed, clock_by, clock_of, surveyed}
use Rattle.law_choices.specs.Adding.Adding.{IsWellBuilt}
use Rattle.law_choices.specs.Adding.Embeds.{FitsSite}
use Rattle.law_choices.specs.Adding.Keeping.{IsBased, Keeps}
use Rattle.law_choices.specs.Adding.Lifts.{HaveBytes, IsOn, CanStand}
use Rattle.law_choices.specs.Adding.Surveyed.{HasEqn, Suits, AllSuit, IsNoCopy, MayBeSurveyed, IsSeen, SurveyedLaw}
use Rattle.law_choices.specs.Adding.Watched.{IsFree}
use Rattle.law_choices.specs.Closed.Clocking.{IsFrontOf, StepsStand, IsCopy, DefinesOwn}
use Rattle.law_choices.proofs.ClosedLemmas.ClosedLaws.{each_other, each_both}
use Rattle.law_choices.proofs.AddingLemmas.Adding.{same_kind, args_kinds, both}
use Rattle.law_choices.proofs.AddingLemmas.Steps.{higher}
use Rattle.law_choices.proofs.AddingLemmas.One.{keeps-self, keeps-both, grows-length}
use Rattle.law_choices.proofs.AddingLemmas.Rows.{each_range}
use Rattle.law_choices.proofs.AddingLemmas.Lifts.{stand_kept}
use Rattle.law_choices.proofs.AddingLemmas.Watched.{free_kept}
use Rattle.law_choices.proofs.AddingLemmas.Embeds.{keeps, place_kept}

-- ---- lists

pub at_number : {A : Type 0} (P : A → Type 0) (xs : List A) (k : ℕ) (x : A) → slice_get xs k ≡ Some x → AllByRecursion P xs → P x
at_number P [] k x e h = absurd cc
at_number P (y ∷ xs) zero x e h = let same : y ≡ x = cc in subst P same h.0
at_number P (y ∷ xs) (suc k) x e h = at_number P xs k x e h.1

pub number_below : {A : Type 0} (xs : List A) (k : ℕ) (x : A) → slice_get xs k ≡ Some x → k < length xs
number_below [] k x e = absurd cc
number_below (y ∷ xs) zero x e = omega arith
number_below (y ∷ xs) (suc k) x e = let l = number_below xs k x e in omega (arith, l)

pub get_front : {A : Type 0} (xs ys : List A) (k : ℕ) → k < length xs → slice_get (xs ++ ys) k ≡ slice_get xs k
get_front [] ys k l = absurd (omega (arith, l))
get_front (x ∷ xs) ys zero l = refl
get_front (x ∷ xs) ys (suc k) l = get_front xs ys k (omega (arith, l))

pub get_last : {A : Type 0} (xs : List A) (x : A) → slice_get (xs ++ x ∷ []) (length xs) ≡ Some x
get_last [] x = refl
get_last (y ∷ xs) x = get_last xs x

pub get_some : {A : Type 0} (xs : List A) (k : ℕ) → k < length xs → (x : A) × (slice_get xs k ≡ Some x)
get_some [] k l = absurd (omega (arith, l))
get_some (x ∷ xs) zero l = (x, refl)
get_some (x ∷ xs) (suc k) l = get_some xs k (omega (arith, l))

pub flat_all : {A B : Type 0} (P : B → Type 0) (f : A → List B) (xs : List A) → AllByRecursion (λ x. AllByRecursion P (f x)) xs → AllByRecursion P (flat_map f xs)
flat_all P f [] h = tt
flat_all P f (x ∷ xs) h = both P (f x) (flat_map f xs) h.0 (flat_all P f xs h.1)

-- ---- arguments

flat_join : (P : ℕ → Type 0) (args bs : List Atom) → AllByRecursion P (flat_map atom_variables args) → AllByRecursion P (flat_map atom_variables bs) → AllByRecursion P (flat_map atom_variables (args ++ bs))
flat_join P [] bs h g = g
flat_join P (Read x ∷ args) bs h g = (h.0, flat_join P args bs h.1 g)
flat_join P (Fixed v ∷ args) bs h g = flat_join P args bs h g

flat_reads : (P : ℕ → Type 0) (xs : List ℕ) → AllByRecursion P xs → AllByRecursion P (flat_map atom_variables (reads xs))
flat_reads P [] h = tt
flat_reads P (x ∷ xs) h = (h.0, flat_reads P xs h.1)

module _ (types : List ObcType) (callees : Callees) (vs : List Variable) where
  have_join : (args bs : List Atom) (ks js : List KindData) → HaveKinds types callees vs args ks → HaveKinds types callees vs bs js → HaveKinds types callees vs (args ++ bs) (ks ++ js)
  have_join [] bs [] js h g = g
  have_join [] bs (k ∷ ks) js h g = absurd h
  have_join (a ∷ args) bs [] js h g = absurd h
  have_join (a ∷ args) bs (k ∷ ks) js h g = (h.0, have_join args bs ks js h.1 g)

  have_reads : (xs : List ℕ) → HaveKinds types callees vs (reads xs) (map (variable_kind types vs) xs)
  have_reads [] = tt
  have_reads (x ∷ xs) = (refl, have_reads xs)

-- ---- what stays where more is added

module _ (types : List ObcType) (callees : Callees) (bytes : HaveBytes types) where
  fits_kept : (n other observer : FlatNode) (clock : ℕ → Clock) (k : Keeps types callees clock n other) (site : Site) → FitsSite types callees n clock observer site → FitsSite types callees other k.clocks observer site
  fits_kept n other observer clock k site f =
      let g = k.grows in
      let v = g.variables in
      let l = grows-length n other g in
      let same : (x : ℕ) → x < length n.variables → variable_kind types other.variables x ≡ variable_kind types n.variables x = λ x h. ap (λ vs. variable_kind types vs x) v.1 ∙ same_kind types callees n.variables v.0 x h in
      record {
        stands = stand_kept types callees bytes n other clock k site.clock f.stands;
        restart_within = higher (length n.variables) (length other.variables) l site.restart f.restart_within;
        restart_kinds = each_both (λ x. x < length n.variables) (λ x. variable_kind types n.variables x ≡ Bools) (λ x. variable_kind types other.variables x ≡ Bools) (λ x h e. same x h ∙ e) site.restart f.restart_within f.restart_kinds;
        kinds = subst (λ vs. HaveKinds types callees vs site.inputs (kinds_at types observer (inputs_of observer))) (sym v.1) (args_kinds types callees n.variables v.0 site.inputs (kinds_at types observer (inputs_of observer)) f.below f.kinds);
        below = higher (length n.variables) (length other.variables) l (flat_map atom_variables site.inputs) f.below;
        there = each_both (λ x. x < length n.variables) (λ x. IsFrontOf (clock x) site.clock) (λ x. IsFrontOf (k.clocks x) site.clock) (λ x h t. (t.0, t.1 ∙ ap (λ c. c ++ t.0) (sym (k.same x h)))) (flat_map atom_variables site.inputs) f.below f.there;
      }

  all_free_kept : (n other : FlatNode) (clock : ℕ → Clock) (k : Keeps types callees clock n other) (fs : List Free) → AllByRecursion (IsFree types n clock) fs → AllByRecursion (IsFree types other k.clocks) fs
  all_free_kept n other clock k fs h = each_other (IsFree types n clock) (IsFree types other k.clocks) (λ f i. free_kept types callees bytes n other clock k f i) fs h

  -- an observer that suits is put at a site that fits, and its free places are free there
  abbrev Put : FlatNode → (ℕ → Clock) → Observed → Site → Type 0
  Put n clock o site = (k : Keeps types callees clock n (embedded o.node site n)) × AllByRecursion (IsFree types (embedded o.node site n) k.clocks) (map (moved_free (shift_of o.node site n)) o.free)

  put : (n : FlatNode) (clock : ℕ → Clock) (f : List ℕ) (o : Observed) (site : Site) → IsBased types callees clock n → Suits types callees f o → FitsSite types callees n clock o.node site → Put n clock o site
  put n clock f o site b s fits =
      let k = keeps types callees n o.node clock s.own site b s.based fits in
      (k, all o.free s.free)
    where
      one : (p : Free) (e : Option ℕ) → p.eqn ≡ e → HasEqn e → IsFree types o.node s.own p → IsFree types (embedded o.node site n) (keeps types callees n o.node clock s.own site b s.based fits).clocks (moved_free (shift_of o.node site n) p)
      one p None e h i = absurd h
      one p (Some q) e h i = place_kept types callees n o.node clock s.own site b s.based fits p q e i

      all : (ps : List Free) → AllByRecursion (λ (p : Free). IsFree types o.node s.own p × HasEqn p.eqn) ps → AllByRecursion (IsFree types (embedded o.node site n) (keeps types callees n o.node clock s.own site b s.based fits).clocks) (map (moved_free (shift_of o.node site n)) ps)
      all [] h = tt
      all (p ∷ ps) h = (one p p.eqn refl h.0.1 h.0.0, all ps h.1)

-- ---- the node

module _ (types : List ObcType) (callees : Callees) (clock : ℕ → Clock) (observers : Observing) (own : Observed) (inputs : ℕ) (order : List ℕ) (n : FlatNode) (bytes : HaveBytes types) (b : IsBased types callees clock n) (may : MayBeSurveyed types callees clock inputs order n)
    (suit : AllSuit types callees observers) (has : observers n.name ≡ Some own) where
  abbrev V : ℕ
  V = length n.variables

  w : IsWellBuilt types callees clock n
  w = b.well

  few : n.inputs ≤ V
  few = let i = w.within in i.inputs

  -- what is known of an equation
  record Was (e : FlatEqn) : Type 0 where
    within : EqnWithin V e
    kinds : EqnKinds types callees n.variables e
    steps : StepsStand n types clock [] e.clock
    reads_there : AllByRecursion (λ x. IsFrontOf (clock x) e.clock) (operands e.right)
    own_clock : DefinesOwn clock e

  was : (k : ℕ) (e : FlatEqn) → slice_get n.eqns k ≡ Some e → Was e
  was k e at =
      let i = w.within in
      let c = w.clocks in
      record {
        within = at_number (EqnWithin V) n.eqns k e at i.eqns;
        kinds = at_number (EqnKinds types callees n.variables) n.eqns k e at w.kinds;
        steps = at_number (λ (d : FlatEqn). StepsStand n types clock [] d.clock) n.eqns k e at c.steps;
        reads_there = at_number (λ (d : FlatEqn). AllByRecursion (λ x. IsFrontOf (clock x) d.clock) (operands d.right)) n.eqns k e at c.reads;
        own_clock = at_number (DefinesOwn clock) n.eqns k e at may.own;
      }

  stands_of : (e : FlatEqn) → Was e → CanStand types n clock e.clock
  stands_of e h = let i = h.within in let k = h.kinds in record { within = i.clock; steps = h.steps; arms = k.clock }

  -- what is no copy defines what is there
  front_same : (x : ℕ) (c : Clock) → clock x ≡ c → IsFrontOf (clock x) c
  front_same x c e = ([], sym e ∙ sym (append-nil (clock x)))

  own_targets : (e : FlatEqn) → Was e → (IsCopy e.right → ⊥) → AllByRecursion (λ x. IsFrontOf (clock x) e.clock) e.targets
  own_targets e h no_copy = each_other (λ x. (clock x ≡ e.clock) ⊎ IsCopy e.right) (λ x. IsFrontOf (clock x) e.clock) by e.targets h.own_clock
    where
      by : (x : ℕ) → (clock x ≡ e.clock) ⊎ IsCopy e.right → IsFrontOf (clock x) e.clock
      by x (inl g) = front_same x e.clock g
      by x (inr c) = absurd (no_copy c)

  -- ---- the own observer

  own_suits : Suits types callees n.name own
  own_suits = suit n.name own has

  abbrev site : Site
  site = own_site inputs n

  own_fits : FitsSite types callees n clock own.node site
  own_fits =
      let i = w.within in
      let c = w.clocks in
      let row = range_with_len 0 inputs in
      let l = may.few in
      let f = few in
      let s = own_suits in
      record {
        stands = record { within = tt; steps = tt; arms = tt };
        restart_within = tt;
        restart_kinds = tt;
        kinds = subst (HaveKinds types callees n.variables (reads row ++ reads n.outputs)) (sym (s.takes ∙ ap (λ ks. ks ++ callees.gives n.name) may.takes ∙ ap (λ ks. kinds_at types n row ++ ks) may.gives))
            (have_join types callees n.variables (reads row) (reads n.outputs) (kinds_at types n row) (kinds_at types n n.outputs) (have_reads types callees n.variables row) (have_reads types callees n.variables n.outputs));
        below = flat_join (λ x. x < V) (reads row) (reads n.outputs) (flat_reads (λ x. x < V) row (each_range (λ x. x < V) 0 inputs (λ x m u. omega (arith, u, l, f)))) (flat_reads (λ x. x < V) n.outputs i.outputs);
        there = flat_join (λ x. IsFrontOf (clock x) []) (reads row) (reads n.outputs) (flat_reads (λ x. IsFrontOf (clock x) []) row (each_range (λ x. IsFrontOf (clock x) []) 0 inputs (λ x m u. front_same x [] (b.inputs x (omega (arith, u, l))))))
            (flat_reads (λ x. IsFrontOf (clock x) []) n.outputs (each_other (λ x. clock x ≡ []) (λ x. IsFrontOf (clock x) []) (λ x e. front_same x [] e) n.outputs c.outputs));
      }

  own_put : Put types callees bytes n clock own site
  own_put = put types callees bytes n clock n.name own site b own_suits own_fits

  abbrev begun : FlatNode
  begun = embedded own.node site n

  -- ---- the observer of a call

  call_fits : (e : FlatEqn) (f : List ℕ) (args : List Atom) → e.right ≡ called f args → Was e → (o : Observed) → Suits types callees f o → FitsSite types callees n clock o.node (site_of e)
  call_fits e f args is h o s = subst (λ r. FitsSite types callees n clock o.node (record { clock = e.clock; restart = e.restart; inputs = args_of r ++ reads e.targets })) (sym is) (record {
    stands = stands_of e h;
    restart_within = let i = h.within in i.restart;
    restart_kinds = let k = h.kinds in k.restart;
    kinds = subst (HaveKinds types callees n.variables (args ++ reads e.targets)) (sym (s.takes ∙ ap (λ ks. callees.takes f ++ ks) (sym right.1)))
        (have_join types callees n.variables args (reads e.targets) (callees.takes f) (map (variable_kind types n.variables) e.targets) right.0 (have_reads types callees n.variables e.targets));
    below = let i = h.within in flat_join (λ x. x < V) args (reads e.targets) (subst (λ r. AreBelow V (operands r)) is i.operands) (flat_reads (λ x. x < V) e.targets i.targets);
    there = flat_join (λ x. IsFrontOf (clock x) e.clock) args (reads e.targets) (subst (λ r. AllByRecursion (λ x. IsFrontOf (clock x) e.clock) (operands r)) is h.reads_there)
        (flat_reads (λ x. IsFrontOf (clock x) e.clock) e.targets (own_targets e h (λ c. let g : ⊥ = subst IsCopy is c in g)));
  })
    where
      right : HaveKinds types callees n.variables args (callees.takes f) × (map (variable_kind types n.variables) e.targets ≡ callees.gives f)
      right = let k = h.kinds in subst (λ r. RightHasKinds types callees n.variables r (map (variable_kind types n.variables) e.targets)) is k.right

  -- ---- the observers of the calls

  -- where those of the first so many equations are put, and free
  record Stands (k : ℕ) (p : Placed) : Type 0 where
    later : Keeps types callees (own_put.0).clocks begun p.node
    count : length p.shifts ≡ k
    free : (j : ℕ) (e : FlatEqn) → j < k → slice_get n.eqns j ≡ Some e → AllByRecursion (IsFree types p.node later.clocks) (free_moved (called_by observers e.right) (shift_at p.shifts j))

  -- and what that is beside the node itself
  abbrev all_keeps : (k : ℕ) (p : Placed) → Stands k p → Keeps types callees clock n p.node
  all_keeps k p t = keeps-both types callees n begun p.node clock own_put.0 t.later

  begun_stands : Stands 0 (placed observers 0 begun)
  begun_stands = record { later = keeps-self types callees begun (own_put.0).clocks (own_put.0).built; count = refl; free = λ j e l at. absurd (omega (arith, l)) }

  shift_front : (ss : List (Option Shift)) (s : Option Shift) (j : ℕ) → j < length ss → shift_at (ss ++ s ∷ []) j ≡ shift_at ss j
  shift_front ss s j l = ap or_none (get_front ss (s ∷ []) j l)

  module _ (k : ℕ) (p : Placed) (t : Stands k p) (e : FlatEqn) (at : slice_get n.eqns k ≡ Some e) where
    -- of the last equation, or of one before it
    same_eqn : (j : ℕ) (d : FlatEqn) → j ≡ k → slice_get n.eqns j ≡ Some d → e ≡ d
    same_eqn j d same there = let both_at : Some e ≡ Some d = sym at ∙ ap (slice_get n.eqns) (sym same) ∙ there in cc

    nothing_more : called_by observers e.right ≡ None → Stands (suc k) (with_observer None (site_of e) p)
    nothing_more is = record {
      later = t.later;
      count = let c = t.count in let l = length-append p.shifts (None ∷ []) in omega (arith, c, l);
      free = λ j d l there. by j d there (nat_lt j k) refl l;
    }
      where
        by : (j : ℕ) (d : FlatEqn) → slice_get n.eqns j ≡ Some d → (q : Bool) → nat_lt j k ≡ q → j < suc k → AllByRecursion (IsFree types p.node (t.later).clocks) (free_moved (called_by observers d.right) (shift_at (p.shifts ++ None ∷ []) j))
        by j d there true q l =
            let c = t.count in
            let below : j < k = grind (arith, nat_tests, q) in
            subst (λ s. AllByRecursion (IsFree types p.node (t.later).clocks) (free_moved (called_by observers d.right) s)) (sym (shift_front p.shifts None j (omega (arith, below, c)))) (t.free j d below there)
        by j d there false q l =
            let same : j ≡ k = grind (arith, nat_tests, q, l) in
            subst (λ (z : FlatEqn). AllByRecursion (IsFree types p.node (t.later).clocks) (free_moved (called_by observers z.right) (shift_at (p.shifts ++ None ∷ []) j))) (same_eqn j d same there)
            (subst (λ o. AllByRecursion (IsFree types p.node (t.later).clocks) (free_moved o (shift_at (p.shifts ++ None ∷ []) j))) (sym is) tt)

    module _ (o : Observed) (is : called_by observers e.right ≡ Some o) where
      abbrev shift : Shift
      shift = shift_of o.node (site_of e) p.node

      abbrev with_it : FlatNode
      with_it = embedded o.node (site_of e) p.node

      -- the call
      abbrev Calls : Type 0
      Calls = (f : List ℕ) × (args : List Atom) × (e.right ≡ called f args) × (observers f ≡ Some o)

      calls : (r : Right) → e.right ≡ r → called_by observers r ≡ Some o → Calls
      calls (called f args) q g = (f, args, q, g)
      calls (operator op args) q g = absurd cc
      calls (register first next) q g = absurd cc

      here : Put types callees bytes p.node (t.later).clocks o (site_of e)
      here =
          let c = calls e.right refl is in
          let s = suit c.0 o c.3 in
          put types callees bytes p.node (t.later).clocks c.0 o (site_of e) (t.later).built s (fits_kept types callees bytes n p.node o.node clock (all_keeps k p t) (site_of e) (call_fits e c.0 c.1 c.2 (was k e at) o s))

      abbrev AllFree : List Free → Type 0
      AllFree fs = AllByRecursion (IsFree types with_it (here.0).clocks) fs

      earlier_free : (j : ℕ) (d : FlatEqn) → slice_get n.eqns j ≡ Some d → (q : Bool) → nat_lt j k ≡ q → j < suc k → AllFree (free_moved (called_by observers d.right) (shift_at (p.shifts ++ Some shift ∷ []) j))
      earlier_free j d there true q l =
          let c = t.count in
          let below : j < k = grind (arith, nat_tests, q) in
          subst (λ s. AllFree (free_moved (called_by observers d.right) s)) (sym (shift_front p.shifts (Some shift) j (omega (arith, below, c))))
          (all_free_kept types callees bytes p.node with_it (t.later).clocks here.0 (free_moved (called_by observers d.right) (shift_at p.shifts j)) (t.free j d below there))
      earlier_free j d there false q l =
          let c = t.count in
          let same : j ≡ k = grind (arith, nat_tests, q, l) in
          let last : shift_at (p.shifts ++ Some shift ∷ []) j ≡ Some shift = ap (shift_at (p.shifts ++ Some shift ∷ [])) (same ∙ sym c) ∙ ap or_none (get_last p.shifts (Some shift)) in
          subst (λ (z : FlatEqn). AllFree (free_moved (called_by observers z.right) (shift_at (p.shifts ++ Some shift ∷ []) j))) (same_eqn j d same there)
          (subst (λ u. AllFree (free_moved u (shift_at (p.shifts ++ Some shift ∷ []) j))) (sym is) (subst (λ s. AllFree (free_moved (Some o) s)) (sym last) here.1))

      one_more : Stands (suc k) (with_observer (Some o) (site_of e) p)
      one_more = record {
        later = keeps-both types callees begun p.node with_it (own_put.0).clocks t.later here.0;
        count = let c = t.count in let l = length-append p.shifts (Some shift ∷ []) in omega (arith, c, l);
        free = λ j d l there. earlier_free j d there (nat_lt j k) refl l;
      }

    more_stands : (u : Option Observed) → called_by observers e.right ≡ u → Stands (suc k) (with_observer u (site_of e) p)
    more_stands None is = nothing_more is
    more_stands (Some o) is = one_more o is

  same_at : (k : ℕ) (p : Placed) (t : Stands k p) (j : ℕ) → j < length n.eqns → slice_get p.node.eqns j ≡ slice_get n.eqns j
  same_at k p t j l = let g = (all_keeps k p t).grows in let e = g.eqns in ap (λ es. slice_get es j) e.1 ∙ get_front n.eqns e.0 j l

  all_placed : (k : ℕ) → k ≤ length n.eqns → Stands k (placed observers k begun)
  all_placed zero l = begun_stands
  all_placed (suc k) l =
      let p = placed observers k begun in
      let t = all_placed k (omega (arith, l)) in
      let some = get_some n.eqns k (omega (arith, l)) in
      let e = some.0 in
      subst (λ u. Stands (suc k) (with_called observers u p)) (sym (same_at k p t k (omega (arith, l)) ∙ some.1)) (more_stands k p t e some.1 (called_by observers e.right) refl)

  abbrev last : Placed
  last = placed observers (length n.eqns) begun

  last_stands : Stands (length n.eqns) last
  last_stands = all_placed (length n.eqns) (omega arith)

  abbrev last_keeps : Keeps types callees clock n last.node
  last_keeps = all_keeps (length n.eqns) last last_stands

  abbrev IsFreeThere : Free → Type 0
  IsFreeThere f = IsFree types last.node last_keeps.clocks f

  -- ---- all free places

  one_or_none : (P : Free → Type 0) (f : Free) (q : Bool) → P f → AllByRecursion P (if q then [] else f ∷ [])
  one_or_none P f true h = tt
  one_or_none P f false h = (h, tt)

  input_free : (x : ℕ) → x < inputs → IsFree types n clock (record { variable = x; eqn = None })
  input_free x l =
      let a = may.few in
      let f = few in
      record { numbered = tt; stands = record { within = tt; steps = tt; arms = tt }; there = record { variable = omega (arith, l, a, f); there = front_same x [] (b.inputs x (omega (arith, l, a))); type = refl } }

  inputs_free : AllByRecursion IsFreeThere (free_inputs n inputs)
  inputs_free =
      all_free_kept types callees bytes n last.node clock last_keeps (free_inputs n inputs)
      (flat_all (IsFree types n clock) (free_input n) (range_with_len 0 inputs) (each_range (λ x. AllByRecursion (IsFree types n clock) (free_input n x)) 0 inputs (λ x m u. one_or_none (IsFree types n clock) (record { variable = x; eqn = None }) (is_integer (type_at n x)) (input_free x (omega (arith, u))))))

  own_free : AllByRecursion IsFreeThere (map (moved_free (shift_of own.node site n)) own.free)
  own_free = all_free_kept types callees bytes begun last.node (own_put.0).clocks last_stands.later (map (moved_free (shift_of own.node site n)) own.free) own_put.1

  target_free : (k : ℕ) (e : FlatEqn) → slice_get n.eqns k ≡ Some e → (x : ℕ) → x < V → IsFrontOf (clock x) e.clock → IsFreeThere (record { variable = x; eqn = Some k })
  target_free k e at x l there =
      let same : e.clock ≡ clock_of n (Some k) = sym (ap clock_by at) in
      free_kept types callees bytes n last.node clock last_keeps (record { variable = x; eqn = Some k }) (record {
        numbered = number_below n.eqns k e at;
        stands = subst (CanStand types n clock) same (stands_of e (was k e at));
        there = subst (λ c. IsOn n clock c (type_at n x) x) same (record { variable = l; there = there; type = refl });
      })

  targets_free : (k : ℕ) (xs : List ℕ) → AllByRecursion (λ x. IsFreeThere (record { variable = x; eqn = Some k })) xs → AllByRecursion IsFreeThere (flat_map (free_target last.node k) xs)
  targets_free k xs h =
      flat_all IsFreeThere (free_target last.node k) xs
      (each_other (λ x. IsFreeThere (record { variable = x; eqn = Some k })) (λ x. AllByRecursion IsFreeThere (free_target last.node k x)) (λ x i. one_or_none IsFreeThere (record { variable = x; eqn = Some k }) (is_integer (type_at last.node x)) i) xs h)

  some_or_none : (fs : List Free) (q : Bool) → AllByRecursion IsFreeThere fs → AllByRecursion IsFreeThere (if q then fs else [])
  some_or_none fs true h = h
  some_or_none fs false h = tt

  by_free : (k : ℕ) (r : Right) (xs : List ℕ) → AllByRecursion (λ x. IsFreeThere (record { variable = x; eqn = Some k })) xs → AllByRecursion IsFreeThere (free_by last.node k r xs)
  by_free k (operator o args) xs h = some_or_none (flat_map (free_target last.node k) xs) (compares_integers last.node args) (targets_free k xs h)
  by_free k (register first next) xs h = tt
  by_free k (called f args) xs h = targets_free k xs h

  placed_free : (k : ℕ) → IsNoCopy n k → AllByRecursion IsFreeThere (free_placed observers last k)
  placed_free k i =
      let e = i.0 in
      let at = i.1 in
      let h = was k e at in
      let l = number_below n.eqns k e at in
      let in_range = h.within in
      subst (λ u. AllByRecursion IsFreeThere (free_placed_by observers last k u)) (sym (same_at (length n.eqns) last last_stands k l ∙ at))
      (both IsFreeThere (free_by last.node k e.right e.targets) (free_moved (called_by observers e.right) (shift_at last.shifts k))
      (by_free k e.right e.targets (each_both (λ x. x < V) (λ x. IsFrontOf (clock x) e.clock) (λ x. IsFreeThere (record { variable = x; eqn = Some k })) (λ x g f. target_free k e at x g f) e.targets in_range.targets (own_targets e h i.2)))
      (last_stands.free k e l at))

  events_free : AllByRecursion IsFreeThere (flat_map (free_placed observers last) order)
  events_free = flat_all IsFreeThere (free_placed observers last) order (each_other (IsNoCopy n) (λ k. AllByRecursion IsFreeThere (free_placed observers last k)) placed_free order may.events)

  seen : IsSeen types callees clock n (surveyed observers own inputs order n)
  seen = record {
    keeps = last_keeps;
    free = both IsFreeThere (free_inputs n inputs ++ map (moved_free (shift_of own.node site n)) own.free) (flat_map (free_placed observers last) order) (both IsFreeThere (free_inputs n inputs) (map (moved_free (shift_of own.node site n)) own.free) inputs_free own_free) events_free;
  }

pub surveyed_law : SurveyedLaw
surveyed_law types callees clock observers own inputs order n bytes b may suit has = seen types callees clock observers own inputs order n bytes b may suit has
