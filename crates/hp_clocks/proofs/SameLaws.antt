-- The units over places and the units over cells ask the same.
use Rattle.std.proofs.Common.{◌≡◌, ℕ, ◌+◌, List, [], ◌∷◌, ◌++◌, length, map, reverse, refl, sym, ap, ◌∙◌, subst}
use Rattle.std.specs.Prelude.{⊤, Bool, true, false, ◌||◌, if◌then◌else◌, Option, None, Some, is_some}
use Rattle.std.specs.Str.{bytes_eq}
use Rattle.std.proofs.lemmas.Slice.Eq.{bytes_eq-Decides}
use Rattle.hp_base.specs.declared.span.Span.{Span}
use Rattle.hp_base.specs.declared.ty.Const.{Const}
use Rattle.hp_tree.specs.declared.block.Trans.{Trans}
use Rattle.hp_tree.specs.Expressions.{Expr}
use Rattle.hp_tree.specs.Blocks.{Decl, Block, block, Eqns, no_eqn, more_eqns, Eqn, define, switch, reset, automaton, Arms, no_arm, more_arms, States, no_state, more_states}
use Rattle.hp_tree.specs.Programs.{Contract, Node}
use Rattle.hp_tree.specs.Instant.{Place, Body, Observer, Named, Equations, Head, Tail, Right, Arms as ArmsOf, States as StatesOf, Clock}
use Rattle.hp_tree.specs.Meaning.{declares, defines, some_defines, is_among, controls_of}
use Rattle.hp_meaning.specs.Causal.Sources.{below}
use Rattle.hp_meaning.specs.Causal.Points.{span_of}
use Rattle.hp_meaning.specs.Causal.Clocked.{base_alone, ClockRight, IsOn}
use Rattle.hp_meaning.specs.Clocking.Terms.{value}
use Rattle.hp_meaning.specs.Clocking.Clocking as place
use Rattle.hp_meaning.specs.Clocking.Clocking.{Assignment, Term, ClockUnit, Seen, seen_on, controls_define, local_at, local_term, term_in, in_observer, in_body}
use Rattle.hp_meaning.proofs.ClockingLemmas.Generate.{Iff}
use Rattle.hp_clocks.specs.declared.layer.Seen.{Seen as SeenByCell}
use Rattle.hp_clocks.specs.declared.layer.Seen.TheVariants as seen
use Rattle.hp_clocks.specs.Cells.{Clocks}
use Rattle.hp_clocks.specs.Scopes.{Sight, seen_clock, standing}
use Rattle.hp_clocks.specs.Units.{CellUnit, declared, equated, tested, Allows, AllAllow, AllAre, place_of, size, size_of, number_in, or_base, local_cell, cell_of, cell_in, from_inside, sight_in, sight_of, on_base, contract_sight, body_sight, declarations, conditions, own_cell, left_cells, units, units_of_all, units_of_one, units_of_arms, units_of_states, told, contract_units, node_units, size_of_contract}
use Rattle.hp_clocks.proofs.TableLaws.{declares_in}
use Rattle.hp_clocks.proofs.TiedLaws.{number_block, number_all, number_one, number_arms, number_states, number_contract, Tied}

one_sided : (c : Option Clock) → base_alone (base_alone c) ≡ base_alone c
one_sided None = refl
one_sided (Some []) = refl
one_sided (Some (o ∷ c)) = refl

place_inside : (at : Assignment) (s : Seen) → seen_on at (place.from_inside s) ≡ base_alone (seen_on at s)
place_inside at place.nowhere = refl
place_inside at (place.own t) = refl
place_inside at (place.further t) = sym (one_sided (Some (value at t)))

cell_inside : (clocks : Clocks) (s : SeenByCell) → seen_clock clocks (from_inside s) ≡ base_alone (seen_clock clocks s)
cell_inside clocks seen.Nowhere = refl
cell_inside clocks (seen.Own i) = refl
cell_inside clocks (seen.Further i) = sym (one_sided (Some (clocks i)))

-- `Tie` is what clocks of places and clocks of cells have in common.
module _ (Tie : Assignment → Clocks → Type 0) (base_is : (at : Assignment) (clocks : Clocks) → Tie at clocks → clocks 0 ≡ []) where
  -- a part of a node whose places have these cells
  abbrev pub TiedIn : (Place → Place) → (Place → Option ℕ) → Type 0
  TiedIn here number = (at : Assignment) (clocks : Clocks) → Tie at clocks → (p : Place) (i : ℕ) → number p ≡ Some i → at (here p) ≡ clocks i

  abbrev pub SameSight : place.Sight → Sight → Type 0
  SameSight out see = (at : Assignment) (clocks : Clocks) → Tie at clocks → (x : List ℕ) → seen_on at (out x) ≡ seen_clock clocks (see x)

  abbrev pub SameTerm : Term → ℕ → Type 0
  SameTerm t i = (at : Assignment) (clocks : Clocks) → Tie at clocks → value at t ≡ clocks i

  abbrev pub SameUnit : ClockUnit → CellUnit → Type 0
  SameUnit u c = (place.place_of u ≡ place_of c) × ((at : Assignment) (clocks : Clocks) → Tie at clocks → Iff (place.Allows at u) (Allows clocks c))

  abbrev pub AllSame : List ClockUnit → List CellUnit → Type 0
  AllSame [] [] = ⊤
  AllSame [] (c ∷ cs) = ⊥
  AllSame (u ∷ us) [] = ⊥
  AllSame (u ∷ us) (c ∷ cs) = SameUnit u c × AllSame us cs

  pub same_append : (us vs : List ClockUnit) (cs ds : List CellUnit) → AllSame us cs → AllSame vs ds → AllSame (us ++ vs) (cs ++ ds)
  same_append [] vs [] ds h k = k
  same_append [] vs (c ∷ cs) ds h k = absurd h
  same_append (u ∷ us) vs [] ds h k = absurd h
  same_append (u ∷ us) vs (c ∷ cs) ds h k = (h.0, same_append us vs cs ds h.1 k)

  pub all_same : (us : List ClockUnit) (cs : List CellUnit) → AllSame us cs → (at : Assignment) (clocks : Clocks) → Tie at clocks → Iff (place.AllAllow at us) (AllAllow clocks cs)
  all_same [] [] h at clocks t = ((λ a. tt), λ a. tt)
  all_same [] (c ∷ cs) h at clocks t = absurd h
  all_same (u ∷ us) [] h at clocks t = absurd h
  all_same (u ∷ us) (c ∷ cs) h at clocks t =
      let f = h.0.1 at clocks t in
      let g = all_same us cs h.1 at clocks t in
      ((λ a. (f.0 a.0, g.0 a.1)), λ a. (f.1 a.0, g.1 a.1))

  -- units that stand where these do
  pub record Split (us : List ClockUnit) (before : List CellUnit) (c : CellUnit) : Type 0 where
    pub first : List ClockUnit
    pub one : ClockUnit
    pub last : List ClockUnit
    pub split : us ≡ first ++ one ∷ last
    pub first_same : AllSame first before
    pub one_same : SameUnit one c

  more_split : (u : ClockUnit) (us : List ClockUnit) (d : CellUnit) (before : List CellUnit) (c : CellUnit) → SameUnit u d → Split us before c → Split (u ∷ us) (d ∷ before) c
  more_split u us d before c h s =
      record { first = u ∷ s.first; one = s.one; last = s.last; split = ap (λ z. u ∷ z) s.split; first_same = (h, s.first_same); one_same = s.one_same }

  pub same_split : (us : List ClockUnit) (before : List CellUnit) (c : CellUnit) (later : List CellUnit) → AllSame us (before ++ c ∷ later) → Split us before c
  same_split [] [] c later h = absurd h
  same_split [] (d ∷ before) c later h = absurd h
  same_split (u ∷ us) [] c later h = record { first = []; one = u; last = us; split = refl; first_same = tt; one_same = h.0 }
  same_split (u ∷ us) (d ∷ before) c later h = more_split u us d before c h.0 (same_split us before c later h.1)

  -- ---- locals

  abbrev pub EachDeclared : List Decl → List Decl → Type 0
  EachDeclared all [] = ⊤
  EachDeclared all (d ∷ ds) = (declares all d.name ≡ true) × EachDeclared all ds

  or_true : (b : Bool) → (b || true) ≡ true
  or_true true = refl
  or_true false = refl

  each_declared : (all ds : List Decl) → ((x : List ℕ) → declares ds x ≡ true → declares all x ≡ true) → EachDeclared all ds
  each_declared all [] h = tt
  each_declared all (d ∷ ds) h = (
    h d.name (ap (λ b. b || declares ds d.name) ((bytes_eq-Decides d.name d.name).1 refl)),
    each_declared all ds (λ x e. h x (ap (λ b. bytes_eq d.name x || b) e ∙ or_true (bytes_eq d.name x))),
  )

  pub all_declared : (ds : List Decl) → EachDeclared ds ds
  all_declared ds = each_declared ds ds (λ x e. e)

  numbered : (o : Option ℕ) → is_some o ≡ true → (i : ℕ) × (o ≡ Some i)
  numbered None h = absurd (cc h)
  numbered (Some i) h = (i, refl)

  local_same_by : (last : Option Const) (defined : Bool) (p : Place) (i : ℕ) → ((at : Assignment) (clocks : Clocks) → Tie at clocks → at p ≡ clocks i) → SameTerm (local_at last defined p) (local_cell last defined i)
  local_same_by None true p i h at clocks t = sym (base_is at clocks t)
  local_same_by None false p i h at clocks t = h at clocks t
  local_same_by (Some c) defined p i h at clocks t = sym (base_is at clocks t)

  module _ (all : List Decl) (es : Eqns) (here : Place → Place) (k : ℕ) (tied : TiedIn here (number_block k (block all es))) where
    pub local_same : (d : Decl) → declares all d.name ≡ true → SameTerm (local_term es here d) (cell_of es k all d)
    local_same d h =
        let found = numbered (number_in k all d.name) (declares_in k all d.name ∙ h) in
        local_same_by d.last (controls_define es d.name) (here (Named d.name ∷ [])) (or_base (number_in k all d.name))
        (λ at clocks t. tied at clocks t (Named d.name ∷ []) found.0 found.1 ∙ ap (λ o. clocks (or_base o)) (sym found.1))

    pub term_same : (ds : List Decl) → EachDeclared all ds → (x : List ℕ) → SameTerm (term_in es here ds x) (cell_in es k all ds x)
    term_same [] h x at clocks t = sym (base_is at clocks t)
    term_same (d ∷ ds) h x at clocks t = tie (bytes_eq d.name x) (local_same d h.0 at clocks t) (term_same ds h.1 x at clocks t)
      where
        tie : (b : Bool) → value at (local_term es here d) ≡ clocks (cell_of es k all d) → value at (term_in es here ds x) ≡ clocks (cell_in es k all ds x) → value at (if b then local_term es here d else term_in es here ds x) ≡ clocks (if b then cell_of es k all d else cell_in es k all ds x)
        tie true f g = f
        tie false f g = g

    pub sight_same : (out : place.Sight) (see : Sight) → SameSight out see → SameSight (place.sight_in all es here out) (sight_in k all es see)
    sight_same out see same at clocks t x = tie (some_defines es x)
      where
        tie : (b : Bool) → seen_on at (if b then place.own (term_in es here all x) else place.from_inside (out x)) ≡ seen_clock clocks (if b then seen.Own (cell_in es k all all x) else from_inside (see x))
        tie true = ap Some (term_same all (all_declared all) x at clocks t)
        tie false = place_inside at (out x) ∙ ap base_alone (same at clocks t x) ∙ sym (cell_inside clocks (see x))

  -- names that equations define are seen as the block's own
  abbrev pub LeftSame : Eqns → (List ℕ → Term) → Sight → Type 0
  LeftSame es left see = (x : List ℕ) → some_defines es x ≡ true → (i : ℕ) × (see x ≡ seen.Own i) × SameTerm (left x) i

  -- ---- units

  module _ (out : place.Sight) (see : Sight) (same : SameSight out see) where
    stands : (at : Assignment) (clocks : Clocks) → Tie at clocks → place.standing at out ≡ standing clocks see
    stands at clocks t = λ j x. same at clocks t x j

    on_same : (e : Expr) (t : Term) (i : ℕ) → SameTerm t i → (at : Assignment) (clocks : Clocks) → Tie at clocks → Iff (IsOn (place.standing at out) e (value at t)) (IsOn (standing clocks see) e (clocks i))
    on_same e t i h at clocks w = (
      (λ o. subst (λ z. IsOn z e (clocks i)) (stands at clocks w) (subst (λ z. IsOn (place.standing at out) e z) (h at clocks w) o)),
      λ o. subst (λ z. IsOn (place.standing at out) e z) (sym (h at clocks w)) (subst (λ z. IsOn z e (clocks i)) (sym (stands at clocks w)) o),
    )

    pub test_same : (e : Expr) → SameUnit (place.tested (span_of e) out e) (tested (span_of e) see e)
    test_same e = (
      refl,
      λ at clocks w. (
        (λ o. subst (λ z. IsOn z e []) (stands at clocks w) o),
        λ o. subst (λ z. IsOn z e []) (sym (stands at clocks w)) o,
      ),
    )

    pub written_same : (s : Span) (t : Term) (i : ℕ) (c : Clock) → SameTerm t i → SameUnit (place.declared s out t c) (declared s see i c)
    written_same s t i c h = (
      refl,
      λ at clocks w. (
        (λ o. (subst (λ z. ClockRight z c) (stands at clocks w) o.0, sym (h at clocks w) ∙ o.1)),
        λ o. (subst (λ z. ClockRight z c) (sym (stands at clocks w)) o.0, h at clocks w ∙ o.1),
      ),
    )

    pub declarations_same : (all : List Decl) (es : Eqns) (here : Place → Place) (k : ℕ) → TiedIn here (number_block k (block all es)) → (ds : List Decl) → EachDeclared all ds → AllSame (place.declarations out es here ds) (declarations see es k all ds)
    declarations_same all es here k tied [] h = tt
    declarations_same all es here k tied (d ∷ ds) h = tie d.clock (declarations_same all es here k tied ds h.1)
      where
        tie : (o : Option Clock) → AllSame (place.declarations out es here ds) (declarations see es k all ds)
            → AllSame (elim o [ None ↦ place.declarations out es here ds | Some path ↦ place.declared d.span out (local_term es here d) (reverse path) ∷ place.declarations out es here ds ])
            (elim o [ None ↦ declarations see es k all ds | Some path ↦ declared d.span see (cell_of es k all d) (reverse path) ∷ declarations see es k all ds ])
        tie None g = g
        tie (Some path) g = (written_same d.span (local_term es here d) (cell_of es k all d) (reverse path) (local_same all es here k tied d h.0), g)

    pub conditions_same : (ts : List Trans) → AllSame (place.conditions out ts) (conditions see ts)
    conditions_same [] = tt
    conditions_same (t ∷ ts) = (test_same t.cond, conditions_same ts)

    own_added : (s : SeenByCell) (i : ℕ) (is : List ℕ) → s ≡ seen.Own i → own_cell s is ≡ i ∷ is
    own_added s i is e = ap (λ z. own_cell z is) e

    -- the names on a left side
    lefts_same : (left : List ℕ → Term) (ys : List (List ℕ × Span)) → ((x : List ℕ) → is_among ys x ≡ true → (i : ℕ) × (see x ≡ seen.Own i) × SameTerm (left x) i) → (at : Assignment) (clocks : Clocks) → Tie at clocks → (c : Clock) → Iff (place.AllAre at (map (λ y. left y.0) ys) c) (AllAre clocks (left_cells see ys) c)
    lefts_same left [] h at clocks w c = ((λ a. tt), λ a. tt)
    lefts_same left (y ∷ ys) h at clocks w c =
        let first = h y.0 (ap (λ b. b || is_among ys y.0) ((bytes_eq-Decides y.0 y.0).1 refl)) in
        let rest = lefts_same left ys (λ x e. h x (ap (λ b. bytes_eq y.0 x || b) e ∙ or_true (bytes_eq y.0 x))) at clocks w c in
        let cells : left_cells see (y ∷ ys) ≡ first.0 ∷ left_cells see ys = own_added (see y.0) first.0 (left_cells see ys) first.1 in (
          (λ a. subst (λ z. AllAre clocks z c) (sym cells) (sym (first.2 at clocks w) ∙ a.0, rest.0 a.1)),
          λ a. let b = subst (λ z. AllAre clocks z c) cells a in (first.2 at clocks w ∙ b.0, rest.1 b.1),
        )

    pub basic_same : (s : Span) (left : List ℕ → Term) (ys : List (List ℕ × Span)) (t : Term) (i : ℕ) (e : Expr) → ((x : List ℕ) → is_among ys x ≡ true → (j : ℕ) × (see x ≡ seen.Own j) × SameTerm (left x) j) → SameTerm t i → SameUnit (place.equated s out (map (λ y. left y.0) ys) t e) (equated s see (left_cells see ys) i e)
    basic_same s left ys t i e h k = (
      refl,
      λ at clocks w.
          let f = lefts_same left ys h at clocks w (clocks i) in
          let g = on_same e t i k at clocks w in (
            (λ a. (f.0 (subst (λ z. place.AllAre at (map (λ y. left y.0) ys) z) (k at clocks w) a.0), g.0 a.1)),
            λ a. (subst (λ z. place.AllAre at (map (λ y. left y.0) ys) z) (sym (k at clocks w)) (f.1 a.0), g.1 a.1),
          ),
    )

  mutual
    pub block_same : (b : Block) (here : Place → Place) (k : ℕ) (out : place.Sight) (see : Sight) → TiedIn here (number_block k b) → SameSight out see → AllSame (place.units b here out) (units k b see)
    block_same (block ds es) here k out see tied same =
        let inner = place.sight_in ds es here out in
        let within = sight_in k ds es see in
        let both = sight_same ds es here k tied out see same in
        same_append (place.declarations inner es here ds) (place.units_of_all es (below Equations here) inner (λ x. term_in es here ds x)) (declarations within es k ds ds) (units_of_all (k + length ds) es within)
        (declarations_same inner within both ds es here k tied ds (all_declared ds))
        (all_units_same es (below Equations here) (k + length ds) inner within (λ x. term_in es here ds x) (λ at clocks t p i e. tied at clocks t (Equations ∷ p) i e) both
        (λ x e. (cell_in es k ds ds x, ap (λ b. if b then seen.Own (cell_in es k ds ds x) else from_inside (see x)) e, term_same ds es here k tied ds (all_declared ds) x)))

    all_units_same : (es : Eqns) (here : Place → Place) (k : ℕ) (out : place.Sight) (see : Sight) (left : List ℕ → Term) → TiedIn here (number_all k es) → SameSight out see → LeftSame es left see → AllSame (place.units_of_all es here out left) (units_of_all k es see)
    all_units_same no_eqn here k out see left tied same own = tt
    all_units_same (more_eqns e es) here k out see left tied same own =
        same_append (place.units_of_one e (below Head here) out left) (place.units_of_all es (below Tail here) out left) (units_of_one k e see) (units_of_all (k + size_of e) es see)
        (one_unit_same e (below Head here) k out see left (λ at clocks t p i q. tied at clocks t (Head ∷ p) i q) same (λ x q. own x (ap (λ b. b || some_defines es x) q)))
        (all_units_same es (below Tail here) (k + size_of e) out see left (λ at clocks t p i q. tied at clocks t (Tail ∷ p) i q) same (λ x q. own x (ap (λ b. defines e x || b) q ∙ or_true (defines e x))))

    one_unit_same : (e : Eqn) (here : Place → Place) (k : ℕ) (out : place.Sight) (see : Sight) (left : List ℕ → Term) → TiedIn here (number_one k e) → SameSight out see → ((x : List ℕ) → defines e x ≡ true → (i : ℕ) × (see x ≡ seen.Own i) × SameTerm (left x) i) → AllSame (place.units_of_one e here out left) (units_of_one k e see)
    one_unit_same (define s ys e) here k out see left tied same own =
        (basic_same out see same s left ys (place.open_at (here (Right ∷ []))) k e own (λ at clocks t. tied at clocks t (Right ∷ []) k refl), tt)
    one_unit_same (switch s e arms) here k out see left tied same own =
        (test_same out see same e, arms_same arms (below ArmsOf here) k out see (λ at clocks t p i q. tied at clocks t (ArmsOf ∷ p) i q) same)
    one_unit_same (reset s b e) here k out see left tied same own =
        same_append (place.units b (below Body here) out) (place.tested (span_of e) out e ∷ []) (units k b see) (tested (span_of e) see e ∷ [])
        (block_same b (below Body here) k out see (λ at clocks t p i q. tied at clocks t (Body ∷ p) i q) same) (test_same out see same e, tt)
    one_unit_same (automaton s ss) here k out see left tied same own =
        states_same ss (below StatesOf here) k out see (λ at clocks t p i q. tied at clocks t (StatesOf ∷ p) i q) same

    arms_same : (arms : Arms) (here : Place → Place) (k : ℕ) (out : place.Sight) (see : Sight) → TiedIn here (number_arms k arms) → SameSight out see → AllSame (place.units_of_arms arms here out) (units_of_arms k arms see)
    arms_same no_arm here k out see tied same = tt
    arms_same (more_arms c b s arms) here k out see tied same =
        same_append (place.units b (below Head here) out) (place.units_of_arms arms (below Tail here) out) (units k b see) (units_of_arms (k + size b) arms see)
        (block_same b (below Head here) k out see (λ at clocks t p i q. tied at clocks t (Head ∷ p) i q) same)
        (arms_same arms (below Tail here) (k + size b) out see (λ at clocks t p i q. tied at clocks t (Tail ∷ p) i q) same)

    states_same : (ss : States) (here : Place → Place) (k : ℕ) (out : place.Sight) (see : Sight) → TiedIn here (number_states k ss) → SameSight out see → AllSame (place.units_of_states ss here out) (units_of_states k ss see)
    states_same no_state here k out see tied same = tt
    states_same (more_states f b until unless s ss) here k out see tied same =
        let mine = below Body (below Head here) in
        let own : TiedIn mine (number_block k b) = λ at clocks t p i q. tied at clocks t (Head ∷ Body ∷ p) i q in
        same_append (place.units b mine out) (place.conditions (place.sight_of b mine out) until ++ (place.conditions out unless ++ place.units_of_states ss (below Tail here) out)) (units k b see) (conditions (sight_of k b see) until ++ (conditions see unless ++ units_of_states (k + size b) ss see))
        (block_same b mine k out see own same)
        (same_append (place.conditions (place.sight_of b mine out) until) (place.conditions out unless ++ place.units_of_states ss (below Tail here) out) (conditions (sight_of k b see) until) (conditions see unless ++ units_of_states (k + size b) ss see)
        (conditions_same (place.sight_of b mine out) (sight_of k b see) (of_block_same b mine k out see own same) until)
        (same_append (place.conditions out unless) (place.units_of_states ss (below Tail here) out) (conditions see unless) (units_of_states (k + size b) ss see) (conditions_same out see same unless)
        (states_same ss (below Tail here) (k + size b) out see (λ at clocks t p i q. tied at clocks t (Tail ∷ p) i q) same)))

    pub of_block_same : (b : Block) (here : Place → Place) (k : ℕ) (out : place.Sight) (see : Sight) → TiedIn here (number_block k b) → SameSight out see → SameSight (place.sight_of b here out) (sight_of k b see)
    of_block_same (block ds es) here k out see tied same = sight_same ds es here k tied out see same

  -- ---- nodes

  based : (b : Bool) (at : Assignment) (clocks : Clocks) → Tie at clocks → seen_on at (place.known_on_base b) ≡ seen_clock clocks (on_base b)
  based true at clocks t = ap Some (sym (base_is at clocks t))
  based false at clocks t = refl

  told_same : (out : place.Sight) (see : Sight) → SameSight out see → (e : Option Expr) → AllSame (place.told out e) (told see e)
  told_same out see same None = tt
  told_same out see same (Some e) = (test_same out see same e, tt)

  pub contract_same : (c : Option Contract) (k : ℕ) (out : place.Sight) (see : Sight) → ((d : Contract) → c ≡ Some d → TiedIn in_observer (number_block k d.body)) → SameSight out see → AllSame (place.contract_units out c) (contract_units k see c)
  contract_same None k out see tied same = tt
  contract_same (Some c) k out see tied same =
      let own = tied c refl in
      let inner = of_block_same c.body in_observer k out see own same in
      let outer_sight = place.sight_of c.body in_observer out in
      let inner_sight = sight_of k c.body see in
      same_append (place.units c.body in_observer out) (place.told outer_sight c.assume ++ place.told outer_sight c.enforce) (units k c.body see) (told inner_sight c.assume ++ told inner_sight c.enforce)
      (block_same c.body in_observer k out see own same)
      (same_append (place.told outer_sight c.assume) (place.told outer_sight c.enforce) (told inner_sight c.assume) (told inner_sight c.enforce) (told_same outer_sight inner_sight inner c.assume)
      (told_same outer_sight inner_sight inner c.enforce))

  pub based_same : (names : List ℕ → Bool) → SameSight (λ x. place.known_on_base (names x)) (λ x. on_base (names x))
  based_same names at clocks t x = based (names x) at clocks t

pub node_base : (n : Node) (at : Assignment) (clocks : Clocks) → Tied n at clocks → clocks 0 ≡ []
node_base n at clocks t = t.base

-- The units of a node, over its places and over its cells.
pub node_same : (n : Node) → AllSame (Tied n) (node_base n) (place.node_units n) (node_units n)
node_same n =
    same_append (Tied n) (node_base n) (place.contract_units (place.contract_sight n) n.contract) (place.units n.body in_body (place.body_sight n)) (contract_units 1 (contract_sight n) n.contract) (units (1 + size_of_contract n.contract) n.body (body_sight n))
    (contract_same (Tied n) (node_base n) n.contract 1 (place.contract_sight n) (contract_sight n) (λ d e at clocks t p i q. t.tied (Observer ∷ p) i (ap (λ z. number_contract z p) e ∙ q))
    (based_same (Tied n) (node_base n) (λ x. declares n.inputs x || declares n.outputs x)))
    (block_same (Tied n) (node_base n) n.body in_body (1 + size_of_contract n.contract) (place.body_sight n) (body_sight n) (λ at clocks t p i q. t.tied (Body ∷ p) i q)
    (based_same (Tied n) (node_base n) (λ x. declares n.inputs x || (declares n.outputs x || declares (controls_of n.contract) x))))
