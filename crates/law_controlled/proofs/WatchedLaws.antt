-- In the node that is watched no variable depends on itself.
use Rattle.std.proofs.Common.{◌≡◌, ◌⊎◌, inl, inr, ℕ, zero, suc, ◌+◌, ◌-◌, ◌≤◌, ◌<◌, Bool, true, false, if◌then◌else◌, List, [], ◌∷◌, ◌++◌, length, map, slice_get, Option, None, Some, refl, sym, ap, subst, ◌∙◌, arith}
use Rattle.std.specs.Prelude.{Contains, option_map}
use Rattle.std.specs.List.{AllByRecursion, flat_map, range_with_len}
use Rattle.std.proofs.lemmas.List.{append-nil, append_assoc, length-append, length-map}
use Rattle.std.proofs.lemmas.List.FromFn.{length-range_with_len}
use Rattle.std.proofs.lemmas.Option.{slice_get-map}
use Rattle.hp_base.specs.Kinds.{KindData}
use Rattle.hp_obc.specs.Machines.{ObcType}
use Rattle.hp_tree.specs.Programs.{Node}
use Rattle.hp_flat.specs.declared.equation.Atom.{Atom}
use Rattle.hp_flat.specs.declared.equation.Atom.TheVariants.{Variable as Read, Value as Fixed}
use Rattle.hp_flat.specs.declared.node.Variable.{Variable}
use Rattle.hp_flat.specs.Equations.{Clock, Right, operator, register, called, FlatEqn}
use Rattle.hp_flat.specs.Nodes.{FlatNode}
use Rattle.law_equations.specs.Meaning.Fitting.{atom_variables, operands}
use Rattle.law_equations.specs.Meaning.Kinding.{Callees, EqnKinds, HaveKinds, RightHasKinds, variable_kind}
use Rattle.law_equations.specs.Meaning.Reactions.{inputs_of}
use Rattle.law_equations.specs.Meaning.Scheduling.{AreBelow, clock_variables, DefinesNoInput, EqnWithin, IsRanked, IsWithin, reads as all_reads}
use Rattle.hp_watch.specs.declared.watching.Free.{Free}
use Rattle.hp_watch.specs.Adding.{type_at}
use Rattle.hp_watch.specs.Embedding.{embedded, moved_eqn, shift_of, Site, with_room}
use Rattle.hp_watch.specs.Watching.{args_of, called_by, free_input, free_inputs, free_placed, is_integer, IsWatched, moved_free, moved_number, Observed, Observing, own_site, Placed, placed, reads, site_of, Surveyed, surveyed, unwatched, walked, Watched, with_called, with_observer}
use Rattle.hp_controller.specs.declared.decoding.Control.{Control}
use Rattle.law_automata.specs.Lowered.Standing.{Along}
use Rattle.law_choices.specs.Adding.Choosing.{IsOfNode}
use Rattle.law_choices.specs.Adding.Lifts.{HaveBytes}
use Rattle.law_choices.specs.Adding.Surveyed.{AllSuit, Suits}
use Rattle.law_choices.specs.Adding.Watched.{IsFree}
use Rattle.law_choices.specs.Depending.Dependence.{IsReadFor}
use Rattle.law_choices.proofs.AddingLemmas.Choosing.{seen_in}
use Rattle.law_choices.proofs.AddingLemmas.Embeds.{map_has}
use Rattle.law_choices.proofs.AddingLemmas.Rows.{each_range}
use Rattle.law_choices.proofs.AddingLemmas.Steps.{among, higher}
use Rattle.law_choices.proofs.AddingLemmas.Surveyed.{at_number, flat_all, get_front, get_some}
use Rattle.law_choices.proofs.ClosedLemmas.ClosedLaws.{each_other}
use Rattle.law_choices.proofs.PlacesLemmas.Relating.{along-both}
use Rattle.law_choices.proofs.AddingLemmas.Adding.{both}
use Rattle.law_controlled.proofs.ApartLaws.{FreeApart, inputs-apart, moved-apart, placed-apart, places-apart, StandsApart}
use Rattle.law_controlled.proofs.EmbeddedLaws.{CanBePut, embedded-behind, embedded-front, embedded-longer, embedded-sound, IsSite, moved-last, within-below}
use Rattle.law_controlled.specs.Early.{WaitsForChoice}
use Rattle.law_controlled.proofs.ClearLaws.{AreClear, at_contained, clear-by, clear-grown, Good, IsClear, IsClearFree, IsStanding, places-good, standing-grown}
use Rattle.law_controlled.proofs.OwnContractLaws.{get-behind}
use Rattle.law_controlled.proofs.RisingLaws.{FreeBelow, IsSound, places-sound}
use Rattle.law_controlled.proofs.StraightLaws.{AreBehind, ranked_straight}

-- all observers can be put into a node
abbrev pub AllCanBePut : Observing → Type 0
AllCanBePut observers = (f : List ℕ) (o : Observed) → observers f ≡ Some o → CanBePut o.node

-- inputs are at no equation
inputs_are : (n : FlatNode) (count : ℕ) → AllByRecursion (λ (f : Free). (f.eqn ≡ None) × (f.variable < count)) (free_inputs n count)
inputs_are n count = flat_all P (free_input n) (range_with_len 0 count) (each_range (λ x. AllByRecursion P (free_input n x)) 0 count (λ x l u. by x (omega (arith, u)) (is_integer (type_at n x))))
  where
    P : Free → Type 0
    P f = (f.eqn ≡ None) × (f.variable < count)

    by : (x : ℕ) → x < count → (b : Bool) → AllByRecursion (λ (f : Free). (f.eqn ≡ None) × (f.variable < count)) (if b then [] else record { variable = x; eqn = None } ∷ [])
    by x l true = tt
    by x l false = ((refl, l), tt)

-- ---- how many there are

as-many-kinds : (types : List ObcType) (callees : Callees) (vs : List Variable) (args : List Atom) (ks : List KindData) → HaveKinds types callees vs args ks → length args ≡ length ks
as-many-kinds types callees vs [] [] h = refl
as-many-kinds types callees vs [] (k ∷ ks) h = absurd h
as-many-kinds types callees vs (a ∷ args) [] h = absurd h
as-many-kinds types callees vs (a ∷ args) (k ∷ ks) h = ap suc (as-many-kinds types callees vs args ks h.1)

as-many-reads : (xs : List ℕ) → length (reads xs) ≡ length xs
as-many-reads [] = refl
as-many-reads (x ∷ xs) = ap suc (as-many-reads xs)

reads-are : (P : ℕ → Type 0) (xs : List ℕ) → AllByRecursion P xs → AllByRecursion P (flat_map atom_variables (reads xs))
reads-are P [] h = tt
reads-are P (x ∷ xs) h = (h.0, reads-are P xs h.1)

atoms-joined : (P : ℕ → Type 0) (args bs : List Atom) → AllByRecursion P (flat_map atom_variables args) → AllByRecursion P (flat_map atom_variables bs) → AllByRecursion P (flat_map atom_variables (args ++ bs))
atoms-joined P [] bs h g = g
atoms-joined P (Read x ∷ args) bs h g = (h.0, atoms-joined P args bs h.1 g)
atoms-joined P (Fixed v ∷ args) bs h g = atoms-joined P args bs h g

module _ (types : List ObcType) (callees : Callees) (clock : ℕ → Clock) (observers : Observing) (node : Node) (n : FlatNode) (of_node : IsOfNode types callees clock node n) (suit : AllSuit types callees observers) (puts : AllCanBePut observers) where
  abbrev V : ℕ
  V = length n.variables

  within : IsWithin n
  within = let b = of_node.based in let w = b.well in w.within

  -- an observer has as many inputs as the nodes take and give
  as-many-inputs : (f : List ℕ) (o : Observed) → Suits types callees f o → o.node.inputs ≡ length (callees.takes f) + length (callees.gives f)
  as-many-inputs f o s =
      sym (length-range_with_len 0 o.node.inputs) ∙ sym (length-map (inputs_of o.node) (variable_kind types o.node.variables)) ∙ ap length s.takes ∙ length-append (callees.takes f) (callees.gives f)

  -- ---- the own observer

  abbrev inputs : ℕ
  inputs = length node.inputs

  pub own_site_is : (own : Observed) → observers n.name ≡ Some own → IsSite n own.node (own_site inputs n)
  own_site_is own has =
      let row = range_with_len 0 inputs in
      let many = as-many-inputs n.name own (suit n.name own has) in
      let takes = ap length of_node.takes ∙ length-map row (variable_kind types n.variables) ∙ length-range_with_len 0 inputs in
      let gives = ap length of_node.gives ∙ length-map n.outputs (variable_kind types n.variables) in
      let all = length-append (reads row) (reads n.outputs) in
      let first = as-many-reads row ∙ length-range_with_len 0 inputs in
      let second = as-many-reads n.outputs in
      let few = of_node.few in
      let w = within in
      let more = w.inputs in
      record {
        clock = tt;
        restart = tt;
        inputs = atoms-joined (λ x. x < V) (reads row) (reads n.outputs) (reads-are (λ x. x < V) row (each_range (λ x. x < V) 0 inputs (λ x l u. omega (arith, u, few, more)))) (reads-are (λ x. x < V) n.outputs w.outputs);
        few = omega (arith, many, takes, gives, all, first, second);
      }

  -- ---- those of calls

  -- a node with observers is one in which no variable depends on itself, the equations of the first node stay in front, and those of another one, behind which all define new variables
  record IsPut (b m : FlatNode) : Type 0 where
    sound : IsSound m
    longer : V ≤ length m.variables
    more : List FlatEqn
    front : m.eqns ≡ n.eqns ++ more
    added_to : length b.variables ≤ length m.variables
    added : List FlatEqn
    later : m.eqns ≡ b.eqns ++ added
    behind : AreBehind (length b.variables) added

  put : (b m o : FlatNode) (site : Site) → IsPut b m → CanBePut o → IsSite m o site → IsPut b (embedded o site m)
  put b m o site p can is =
      let s = p.sound in
      let front = embedded-front m o site s can is in
      let long = embedded-longer m o site s can is in
      let l = p.longer in
      let a = p.added_to in
      let B = length b.variables in
      record {
        sound = embedded-sound m o site s can is;
        longer = omega (arith, long, l);
        more = p.more ++ front.0;
        front = front.1 ∙ ap (λ es. es ++ front.0) p.front ∙ append_assoc n.eqns p.more front.0;
        added_to = omega (arith, long, a);
        added = p.added ++ front.0;
        later = front.1 ∙ ap (λ es. es ++ front.0) p.later ∙ append_assoc b.eqns p.added front.0;
        behind = both (λ (e : FlatEqn). AllByRecursion (λ x. B ≤ x) e.targets) p.added front.0 p.behind
            (each_other (λ (e : FlatEqn). AllByRecursion (λ x. length m.variables ≤ x) e.targets) (λ (e : FlatEqn). AllByRecursion (λ x. B ≤ x) e.targets) (λ e h. each_other (λ x. length m.variables ≤ x) (λ x. B ≤ x) (λ x u. omega (arith, u, a)) e.targets h) front.0
            (embedded-behind m o site s can is));
      }

  call_site : (m : FlatNode) (e : FlatEqn) (f : List ℕ) (args : List Atom) (o : Observed) → V ≤ length m.variables → e.right ≡ called f args → EqnWithin V e → EqnKinds types callees n.variables e → Suits types callees f o → IsSite m o.node (site_of e)
  call_site m e f args o l is w k s = subst (λ r. IsSite m o.node (record { clock = e.clock; restart = e.restart; inputs = args_of r ++ reads e.targets })) (sym is) (record {
    clock = higher V M l (clock_variables e.clock) w.clock;
    restart = higher V M l e.restart w.restart;
    inputs = atoms-joined (λ x. x < M) args (reads e.targets) (higher V M l (flat_map atom_variables args) (subst (λ r. AreBelow V (operands r)) is w.operands)) (reads-are (λ x. x < M) e.targets (higher V M l e.targets w.targets));
    few = omega (arith, many, all, first, second, third);
  })
    where
      M : ℕ
      M = length m.variables

      right : HaveKinds types callees n.variables args (callees.takes f) × (map (variable_kind types n.variables) e.targets ≡ callees.gives f)
      right = subst (λ r. RightHasKinds types callees n.variables r (map (variable_kind types n.variables) e.targets)) is k.right

      many : o.node.inputs ≡ length (callees.takes f) + length (callees.gives f)
      many = as-many-inputs f o s

      all : length (args ++ reads e.targets) ≡ length args + length (reads e.targets)
      all = length-append args (reads e.targets)

      first : length args ≡ length (callees.takes f)
      first = as-many-kinds types callees n.variables args (callees.takes f) right.0

      second : length (reads e.targets) ≡ length e.targets
      second = as-many-reads e.targets

      third : length e.targets ≡ length (callees.gives f)
      third = sym (length-map e.targets (variable_kind types n.variables)) ∙ ap length right.1

  put_call : (b : FlatNode) (p : Placed) (e : FlatEqn) → IsPut b p.node → EqnWithin V e → EqnKinds types callees n.variables e → IsPut b (with_called observers (Some e) p).node
  put_call b p e h w k = by e.right refl (called_by observers e.right) refl
    where
      one : (f : List ℕ) (args : List Atom) → e.right ≡ called f args → (o : Option Observed) → observers f ≡ o → IsPut b (with_observer o (site_of e) p).node
      one f args is None has = h
      one f args is (Some o) has = put b p.node o.node (site_of e) h (puts f o has) (call_site p.node e f args o h.longer is w k (suit f o has))

      by : (r : Right) → e.right ≡ r → (o : Option Observed) → called_by observers r ≡ o → IsPut b (with_observer o (site_of e) p).node
      by (operator op args) is None has = h
      by (operator op args) is (Some o) has = absurd cc
      by (register first next) is None has = h
      by (register first next) is (Some o) has = absurd cc
      by (called f args) is o has = one f args is o has

  begun : (own : Observed) → observers n.name ≡ Some own → IsSound n → IsPut (embedded own.node (own_site inputs n) n) (embedded own.node (own_site inputs n) n)
  begun own has s =
      let can = puts n.name own has in
      let is = own_site_is own has in
      let front = embedded-front n own.node (own_site inputs n) s can is in
      let long = embedded-longer n own.node (own_site inputs n) s can is in
      let b = embedded own.node (own_site inputs n) n in
      record { sound = embedded-sound n own.node (own_site inputs n) s can is; longer = omega (arith, long); more = front.0; front = front.1; added_to = omega arith; added = []; later = sym (append-nil b.eqns); behind = tt }

  all_put : (b m : FlatNode) → IsPut b m → (k : ℕ) → k ≤ length n.eqns → IsPut b (placed observers k m).node
  all_put base m h zero l = h
  all_put base m h (suc k) l =
      let p = placed observers k m in
      let rest = all_put base m h k (omega (arith, l)) in
      let e = get_some n.eqns k (omega (arith, l)) in
      let at : slice_get p.node.eqns k ≡ Some e.0 = ap (λ es. slice_get es k) rest.front ∙ get_front n.eqns rest.more k (omega (arith, l)) ∙ e.1 in
      let b = of_node.based in
      let well = b.well in
      let w = within in
      subst (λ o. IsPut base (with_called observers o p).node) (sym at) (put_call base p e.0 rest (at_number (EqnWithin V) n.eqns k e.0 e.1 w.eqns) (at_number (EqnKinds types callees n.variables) n.eqns k e.0 e.1 well.kinds))

  -- ---- what is no controllable variable

  -- an input of the node itself, or none of its inputs
  abbrev pub IsApart : ℕ → Type 0
  IsApart x = (x < inputs) ⊎ (n.inputs ≤ x)

  behind_apart : (x : ℕ) → V ≤ x → IsApart x
  behind_apart x l = let w = within in let few = w.inputs in inr (omega (arith, l, few))

  observer_shifts : (o : Option Observed) (site : Site) (p : Placed) → V ≤ length p.node.variables → AllByRecursion (StandsApart IsApart) p.shifts → AllByRecursion (StandsApart IsApart) (with_observer o site p).shifts
  observer_shifts None site p l h = both (StandsApart IsApart) p.shifts (None ∷ []) h (tt, tt)
  observer_shifts (Some o) site p l h = both (StandsApart IsApart) p.shifts (Some (shift_of o.node site p.node) ∷ []) h ((λ x m. behind_apart x (omega (arith, l, m))), tt)

  called_shifts : (e : Option FlatEqn) (p : Placed) → V ≤ length p.node.variables → AllByRecursion (StandsApart IsApart) p.shifts → AllByRecursion (StandsApart IsApart) (with_called observers e p).shifts
  called_shifts None p l h = observer_shifts None (record { clock = []; restart = []; inputs = [] }) p l h
  called_shifts (Some e) p l h = observer_shifts (called_by observers e.right) (site_of e) p l h

  all_shifts : (b m : FlatNode) → IsPut b m → (k : ℕ) → k ≤ length n.eqns → AllByRecursion (StandsApart IsApart) (placed observers k m).shifts
  all_shifts b m h zero l = tt
  all_shifts b m h (suc k) l =
      let p = placed observers k m in
      let rest = all_put b m h k (omega (arith, l)) in
      called_shifts (slice_get p.node.eqns k) p rest.longer (all_shifts b m h k (omega (arith, l)))

  -- ---- what is watched

  module _ (bytes : HaveBytes types) (is_early : List Bool) (w : Watched) (is : IsWatched types observers node is_early n w) (ranked : IsRanked n.eqns) where
    abbrev its : Surveyed
    its = let fits = is.fits in surveyed observers fits.own inputs (walked node n) n

    its_sound : IsSound its.node
    its_sound =
        let fits = is.fits in
        let i = within in
        let p = all_put (embedded fits.own.node (own_site inputs n) n) (embedded fits.own.node (own_site inputs n) n) (begun fits.own fits.has (record { below = within-below V n.eqns i.eqns; straight = ranked_straight n.eqns ranked })) (length n.eqns) (omega arith) in
        p.sound

    its_free : FreeBelow (length its.node.variables) its.free
    its_free =
        let seen = seen_in types callees clock observers node is_early n w bytes of_node suit is in
        let k = seen.keeps in
        each_other (IsFree types its.node k.clocks) (λ (f : Free). f.variable < length its.node.variables) (λ f i. let there = i.there in there.variable) its.free seen.free

    its_apart : FreeApart IsApart its.free
    its_apart =
        let fits = is.fits in
        let own = fits.own in
        let i = within in
        let seen = seen_in types callees clock observers node is_early n w bytes of_node suit is in
        let k = seen.keeps in
        let b = k.built in
        let well = b.well in
        let grows = k.grows in
        let same = grows.inputs in
        let begins = begun own fits.has (record { below = within-below V n.eqns i.eqns; straight = ranked_straight n.eqns ranked }) in
        let shifts = all_shifts (embedded own.node (own_site inputs n) n) (embedded own.node (own_site inputs n) n) begins (length n.eqns) (omega arith) in
        let p = placed observers (length n.eqns) (embedded own.node (own_site inputs n) n) in
        let P : Free → Type 0 = λ (f : Free). IsApart f.variable in
        let targets : AllByRecursion (λ (e : FlatEqn). AllByRecursion IsApart e.targets) p.node.eqns =
        each_other (λ (e : FlatEqn). AllByRecursion (λ x. p.node.inputs ≤ x) e.targets) (λ (e : FlatEqn). AllByRecursion IsApart e.targets)
        (λ e h. each_other (λ x. p.node.inputs ≤ x) IsApart (λ x l. inr (omega (arith, l, same))) e.targets h) p.node.eqns well.no_inputs in
        let first = inputs-apart IsApart n inputs (λ x u. inl u) in
        let second = moved-apart IsApart (shift_of own.node (own_site inputs n) n) own.free behind_apart in
        both P (free_inputs n inputs ++ map (moved_free (shift_of own.node (own_site inputs n) n)) own.free) (flat_map (free_placed observers p) (walked node n))
        (both P (free_inputs n inputs) (map (moved_free (shift_of own.node (own_site inputs n) n)) own.free) first second) (placed-apart IsApart observers p targets shifts (walked node n))

    -- no early bit is a controllable variable
    pub watched_apart : AllByRecursion IsApart w.early
    watched_apart =
        let fits = is.fits in
        let i = within in
        let p = all_put (embedded fits.own.node (own_site inputs n) n) (embedded fits.own.node (own_site inputs n) n) (begun fits.own fits.has (record { below = within-below V n.eqns i.eqns; straight = ranked_straight n.eqns ranked })) (length n.eqns) (omega arith) in
        subst (λ (z : Watched). AllByRecursion IsApart z.early) (sym is.is) (places-apart IsApart V behind_apart types (length its.node.variables) its.free is_early (unwatched its.node) (omega arith) p.longer its_free its_apart its_sound tt)

    pub watched_sound : IsSound w.node
    watched_sound = subst (λ (z : Watched). IsSound z.node) (sym is.is) (places-sound types (length its.node.variables) its.free is_early (unwatched its.node) (omega arith) its_free its_sound)

    -- ---- no early bit waits for the choice

    abbrev own : Observed
    own = let fits = is.fits in fits.own

    abbrev start : FlatNode
    start = embedded own.node (own_site inputs n) n

    -- What is known of free places that are early, behind the inputs: those of the own contract are clear where its observer stands, and those of comparisons and calls are clear in the node.
    pub record EarlyAreClear : Type 0 where
      pub given : List Bool
      pub told : List Bool
      pub brought : List Bool
      pub flags : is_early ≡ (given ++ told) ++ brought
      pub as_many : length given ≡ length (free_inputs n inputs)
      pub contract : Along (λ (f : Free) (b : Bool). b ≡ true → IsStanding own.node f × IsClear inputs n.inputs start.eqns (f.variable + V)) own.free told
      pub calls : Along (λ (f : Free) (b : Bool). b ≡ true → IsStanding n f × IsClear inputs n.inputs n.eqns f.variable) (flat_map (free_placed observers (placed observers (length n.eqns) start)) (walked node n)) brought

    module _ (no_inputs : DefinesNoInput n) (clear : EarlyAreClear) where
      n_sound : IsSound n
      n_sound = let i = within in record { below = within-below V n.eqns i.eqns; straight = ranked_straight n.eqns ranked }

      last : IsPut start its.node
      last = let fits = is.fits in all_put start start (begun own fits.has n_sound) (length n.eqns) (omega arith)

      start_sound : IsSound start
      start_sound = let fits = is.fits in (begun own fits.has n_sound).sound

      site_is : IsSite n own.node (own_site inputs n)
      site_is = let fits = is.fits in own_site_is own fits.has

      own_can : CanBePut own.node
      own_can = let fits = is.fits in puts n.name own fits.has

      start_long : length start.variables ≡ V + length own.node.variables
      start_long = embedded-longer n own.node (own_site inputs n) n_sound own_can site_is

      -- what is clear in a node before is clear in the last one
      from_start : (x : ℕ) → x < length start.variables → IsClear inputs n.inputs start.eqns x → Good inputs n.inputs its.node x
      from_start x l c =
          let p = last in
          let long = p.added_to in
          (omega (arith, l, long), subst (λ es. IsClear inputs n.inputs es x) (sym p.later) (clear-grown inputs n.inputs (length start.variables) start.eqns p.added start_sound.below p.behind x l c))

      from_node : (x : ℕ) → x < V → IsClear inputs n.inputs n.eqns x → Good inputs n.inputs its.node x
      from_node x l c =
          let front = embedded-front n own.node (own_site inputs n) n_sound own_can site_is in
          let behind = embedded-behind n own.node (own_site inputs n) n_sound own_can site_is in
          let long = start_long in
          from_start x (omega (arith, l, long)) (subst (λ es. IsClear inputs n.inputs es x) (sym front.1) (clear-grown inputs n.inputs V n.eqns front.0 n_sound.below behind x l c))

      -- inputs before the controllable variables are clear, since none is defined
      input_clear : (x : ℕ) → x < inputs → IsClear inputs n.inputs n.eqns x
      input_clear x l = clear-by inputs n.inputs n.eqns x (inl l) (λ y r. absurd (defined y r))
        where
          defined : (y : ℕ) → IsReadFor n.eqns x y → ⊥
          defined y r =
              let all = among (λ (e : FlatEqn). AllByRecursion (λ z. n.inputs ≤ z) e.targets) n.eqns r.0 no_inputs r.1 in
              let low = among (λ z. n.inputs ≤ z) (r.0).targets x all r.2 in
              let few = of_node.few in
              omega (arith, low, l, few)

      inputs_clear : (fs : List Free) (bs : List Bool) → length bs ≡ length fs → AllByRecursion (λ (f : Free). (f.eqn ≡ None) × (f.variable < inputs)) fs → AreClear inputs n.inputs its.node fs bs
      inputs_clear [] [] e h = tt
      inputs_clear [] (b ∷ bs) e h = absurd (omega (arith, e))
      inputs_clear (f ∷ fs) [] e h = absurd (omega (arith, e))
      inputs_clear (f ∷ fs) (b ∷ bs) e h =
          let l = h.0.1 in
          let few = of_node.few in
          let w = within in
          let more = w.inputs in
          ((λ t. (from_node f.variable (omega (arith, l, few, more)) (input_clear f.variable l), inl h.0.0)), inputs_clear fs bs (omega (arith, e)) h.1)

      -- those of comparisons and calls
      calls_clear : (fs : List Free) (bs : List Bool) → Along (λ (f : Free) (b : Bool). b ≡ true → IsStanding n f × IsClear inputs n.inputs n.eqns f.variable) fs bs → AreClear inputs n.inputs its.node fs bs
      calls_clear [] [] h = tt
      calls_clear [] (b ∷ bs) h = absurd h
      calls_clear (f ∷ fs) [] h = absurd h
      calls_clear (f ∷ fs) (b ∷ bs) h = ((λ t. one f (h.0 t)), calls_clear fs bs h.1)
        where
          one : (f : Free) → IsStanding n f × IsClear inputs n.inputs n.eqns f.variable → IsClearFree inputs n.inputs its.node f
          one f k =
              let stands = k.0 in
              let low = among (λ (e : FlatEqn). AreBelow V e.targets × AreBelow V (all_reads e)) n.eqns stands.1 n_sound.below (at_contained n.eqns stands.0 stands.1 stands.3) in
              let p = last in
              (from_node f.variable (among (λ x. x < V) (stands.1).targets f.variable low.0 stands.4) k.1, inr (standing-grown n its.node p.more p.front f stands))

      -- those of the own contract, where they stand
      moved_standing : (f : Free) → IsStanding own.node f → IsStanding its.node (moved_free (shift_of own.node (own_site inputs n) n) f) × (f.variable + V < length start.variables)
      moved_standing f s =
          let site = own_site inputs n in
          let room = with_room own.node site n in
          let e : FlatEqn = s.1 in
          let moved = moved_eqn site V e in
          let all = (moved-last site V own.node.eqns room).0 in
          let w = own_can.within in
          let low = among (λ (d : FlatEqn). AreBelow (length own.node.variables) d.targets × AreBelow (length own.node.variables) (all_reads d)) own.node.eqns e (within-below (length own.node.variables) own.node.eqns w.eqns) (at_contained own.node.eqns s.0 e s.3) in
          let below = among (λ x. x < length own.node.variables) e.targets f.variable low.0 s.4 in
          let long = start_long in
          let swap : length room.eqns + s.0 ≡ s.0 + length room.eqns = omega arith in
          let at : slice_get start.eqns (s.0 + length room.eqns) ≡ Some moved =
          ap (λ es. slice_get es (s.0 + length room.eqns)) all ∙ ap (slice_get (room.eqns ++ map (moved_eqn site V) own.node.eqns)) (sym swap)
          ∙ get-behind room.eqns (map (moved_eqn site V) own.node.eqns) s.0 ∙ slice_get-map (moved_eqn site V) own.node.eqns s.0 ∙ ap (option_map (moved_eqn site V)) s.3 in
          let target : Contains moved.targets (f.variable + V) = map_has (λ (x : ℕ). x + V) e.targets f.variable s.4 in
          let p = last in
          (standing-grown start its.node p.added p.later (moved_free (shift_of own.node site n) f) (s.0 + length room.eqns, moved, ap (moved_number (length room.eqns)) s.2, at, target), omega (arith, below, long))

      contract_clear : (fs : List Free) (bs : List Bool) → Along (λ (f : Free) (b : Bool). b ≡ true → IsStanding own.node f × IsClear inputs n.inputs start.eqns (f.variable + V)) fs bs → AreClear inputs n.inputs its.node (map (moved_free (shift_of own.node (own_site inputs n) n)) fs) bs
      contract_clear [] [] h = tt
      contract_clear [] (b ∷ bs) h = absurd h
      contract_clear (f ∷ fs) [] h = absurd h
      contract_clear (f ∷ fs) (b ∷ bs) h = ((λ t. one f (h.0 t)), contract_clear fs bs h.1)
        where
          one : (f : Free) → IsStanding own.node f × IsClear inputs n.inputs start.eqns (f.variable + V) → IsClearFree inputs n.inputs its.node (moved_free (shift_of own.node (own_site inputs n) n) f)
          one f k = let m = moved_standing f k.0 in (from_start (f.variable + V) m.1 k.1, inr m.0)

      its_clear : AreClear inputs n.inputs its.node its.free is_early
      its_clear =
          let given = clear.given in
          let told = clear.told in
          let first = inputs_clear (free_inputs n inputs) given clear.as_many (inputs_are n inputs) in
          let second = contract_clear own.free told clear.contract in
          let moved = map (moved_free (shift_of own.node (own_site inputs n) n)) own.free in
          let called = flat_map (free_placed observers (placed observers (length n.eqns) start)) (walked node n) in
          let P = λ (f : Free) (b : Bool). b ≡ true → IsClearFree inputs n.inputs its.node f in
          subst (AreClear inputs n.inputs its.node its.free) (sym clear.flags) (along-both P (free_inputs n inputs ++ moved) called (given ++ told) clear.brought (along-both P (free_inputs n inputs) moved given told first second) (calls_clear called clear.brought clear.calls))

      -- no early bit is a controllable variable, or depends on one
      pub watched_clear : AllByRecursion (Good inputs n.inputs w.node) w.early
      watched_clear =
          let i = within in
          let few = i.inputs in
          let p = last in
          let long = p.longer in
          subst (λ (z : Watched). AllByRecursion (Good inputs n.inputs z.node) z.early) (sym is.is)
          (places-good inputs n.inputs types (length its.node.variables) its.free is_early (unwatched its.node) (omega arith) its_free its_sound (omega (arith, few, long)) its_clear tt)

      pub none_waits : (controls : List Control) → w.node.inputs ≡ n.inputs → n.inputs ≡ inputs + length controls → WaitsForChoice w controls → ⊥
      none_waits controls same count waits =
          let good = among (Good inputs n.inputs w.node) w.early waits.early watched_clear waits.bit in
          let first = w.node.inputs - length controls in
          let c : ℕ = waits.control in
          let in_row = among (λ x. (first ≤ x) × (x < first + length controls)) (range_with_len first (length controls)) c (each_range (λ x. (first ≤ x) × (x < first + length controls)) first (length controls) (λ x l u. (l, u))) waits.chosen in
          let l = in_row.0 in
          let u = in_row.1 in
          good.1 c (omega (arith, l, same, count)) (omega (arith, u, same, count)) (inr waits.waits)
