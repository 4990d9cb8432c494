-- The clocks that the meaning of the written program passes down are those of the shortest assignment.
use Rattle.std.proofs.Common.{◌≡◌, ℕ, List, [], ◌∷◌, ◌++◌, map, refl, sym, ap, ◌∙◌, subst}
use Rattle.std.proofs.lemmas.List.{append-nil}
use Rattle.std.proofs.lemmas.Slice.Eq.{bytes_eq-Decides}
use Rattle.std.specs.Prelude.{⊤, Bool, true, false, ◌||◌, IsTrue, if◌then◌else◌, reverse, Option, None, Some}
use Rattle.std.specs.Str.{bytes_eq}
use Rattle.hp_base.specs.declared.span.Span.{Span}
use Rattle.hp_base.specs.declared.ty.Const.{Const}
use Rattle.hp_tree.specs.declared.block.Trans.{Trans}
use Rattle.hp_tree.specs.Expressions.{Expr}
use Rattle.hp_tree.specs.Blocks.{Decl, Block, block, Eqns, no_eqn, more_eqns, Eqn, define, switch, reset, automaton, Arms, no_arm, more_arms, States, no_state, more_states}
use Rattle.hp_tree.specs.Programs.{Contract, Node}
use Rattle.hp_tree.specs.Instant.{Place, Body, Observer, Named, Equations, Head, Tail, Right, Arms as ArmsOf, States as StatesOf, Clock}
use Rattle.hp_tree.specs.Meaning.{declares, some_defines, clock_in, clock_told, or_base, clock_of}
use Rattle.hp_meaning.specs.Causal.Sources.{below}
use Rattle.hp_tree.specs.Meaning.{controls_of}
use Rattle.hp_meaning.specs.Causal.Clocked.{base_alone, ClockRight, IsOn}
use Rattle.hp_meaning.specs.Clocking.Terms.{value, IsPart, IsShortest}
use Rattle.hp_meaning.specs.Causal.Points.{span_of}
use Rattle.hp_meaning.specs.Clocking.Clocking.{On, Term, Assignment, Seen, own, from_inside, Sight, seen_on, standing, controls_define, local_at, local_term, term_in, sight_in, sight_of, declared, tested, AllAre, AllAllow, declarations, conditions, units, units_of_all, units_of_one, units_of_arms, units_of_states, known_on_base, contract_sight, body_sight, told, in_observer, in_body, contract_units, node_units, with_clock, with_clocks, all_with_clocks, one_with_clocks, arms_with_clocks, states_with_clocks, contract_with_clocks, node_with_clocks, node_sights, IsAllowed, EachBlock, EachOfAll, EachOfOne, EachOfArms, EachOfStates, EachInContract, AreDefined, AreOnce, NodeNamed, clocks_of, clocks_of_all, clocks_of_one, clocks_of_arms, clocks_of_states, clocks_of_contract, clocks_of_node}
use Rattle.hp_meaning.proofs.ClockingLemmas.Unify.{one_part}
use Rattle.hp_meaning.proofs.ClockingLemmas.Units.{all_allow}
use Rattle.hp_meaning.proofs.ClockingLemmas.Written.{clock_written, some_kept, declares_kept, standing_written, agreeing, seen_inside, told_there, fits, Fits}
use Rattle.hp_meaning.proofs.ClockingLemmas.Nodes.{on_known}
use Rattle.hp_meaning.proofs.ClockingLemmas.Cut.{weakly_shortest}
use Rattle.hp_meaning.proofs.ClockingLemmas.Fitting.{node_fits, node_places_fit}

abbrev Good : List Decl → Eqns → Type 0
Good ds es = AreOnce ds × AreDefined ds es

-- ---- each declaration is the one that its name finds

abbrev AllTerms : Eqns → (Place → Place) → List Decl → List Decl → Type 0
AllTerms es here all [] = ⊤
AllTerms es here all (d ∷ ds) = (term_in es here all d.name ≡ local_term es here d) × AllTerms es here all ds

abbrev pub Apart : List ℕ → List Decl → Type 0
Apart x [] = ⊤
Apart x (d ∷ ds) = (bytes_eq x d.name ≡ false) × Apart x ds

turned_false : (x y : List ℕ) → bytes_eq y x ≡ false → bytes_eq x y ≡ false
turned_false x y e = tie (bytes_eq x y) refl
  where
    tie : (d : Bool) → bytes_eq x y ≡ d → bytes_eq x y ≡ false
    tie true q = absurd (cc (sym e ∙ (bytes_eq-Decides y x).1 (sym ((bytes_eq-Decides x y).0 q))))
    tie false q = q

pub apart : (x : List ℕ) (ds : List Decl) → declares ds x ≡ false → Apart x ds
apart x [] h = tt
apart x (d ∷ ds) h = let r = neither (bytes_eq d.name x) (declares ds x) h in (turned_false x d.name r.0, apart x ds r.1)
  where
    neither : (a b : Bool) → (a || b) ≡ false → (a ≡ false) × (b ≡ false)
    neither true b e = absurd (cc e)
    neither false b e = (refl, e)

module _ (es : Eqns) (here : Place → Place) where
  lifted : (d : Decl) (all ds : List Decl) → Apart d.name ds → AllTerms es here all ds → AllTerms es here (d ∷ all) ds
  lifted d all [] a h = tt
  lifted d all (k ∷ ds) a h = (ap (λ z. if z then local_term es here d else term_in es here all k.name) a.0 ∙ h.0, lifted d all ds a.1 h.1)

  found : (ds : List Decl) → AreOnce ds → AllTerms es here ds ds
  found [] o = tt
  found (d ∷ ds) o = (
    ap (λ z. if z then local_term es here d else term_in es here ds d.name) ((bytes_eq-Decides d.name d.name).1 refl),
    lifted d ds ds (apart d.name ds o.0) (found ds o.1),
  )

module _ (at new : Assignment) where
  abbrev Are : (Place → Place) → (Place → Clock) → Type 0
  Are here clocks = (p : Place) → new (here p) ≡ clocks p

  abbrev Alike : Sight → Type 0
  Alike sight = (x : List ℕ) → seen_on new (sight x) ≡ seen_on at (sight x)

  stands_alike : (sight : Sight) → Alike sight → standing new sight ≡ standing at sight
  stands_alike sight h = λ z x. h x z

  local_same : (o : Option Const) (b : Bool) (p : Place) → new p ≡ value at (local_at o b p) → value new (local_at o b p) ≡ value at (local_at o b p)
  local_same None true p e = refl
  local_same None false p e = e
  local_same (Some c) b p e = refl

  module _ (es : Eqns) (here : Place → Place) (all : List Decl) (k : (x : List ℕ) → new (here (Named x ∷ [])) ≡ clock_in (map (with_clock at es here) all) x) where
    decl_same : (d : Decl) → term_in es here all d.name ≡ local_term es here d → value new (local_term es here d) ≡ value at (local_term es here d)
    decl_same d f =
        local_same d.last (controls_define es d.name) (here (Named d.name ∷ []))
        (k d.name ∙ clock_written at es here all d.name ∙ ap (value at) f)

    term_same : (ds : List Decl) → AllTerms es here all ds → (x : List ℕ) → value new (term_in es here ds x) ≡ value at (term_in es here ds x)
    term_same [] f x = refl
    term_same (d ∷ ds) f x = tie (bytes_eq d.name x) (decl_same d f.0) (term_same ds f.1 x)
      where
        tie : (b : Bool) → value new (local_term es here d) ≡ value at (local_term es here d) → value new (term_in es here ds x) ≡ value at (term_in es here ds x) → value new (if b then local_term es here d else term_in es here ds x) ≡ value at (if b then local_term es here d else term_in es here ds x)
        tie true g h = g
        tie false g h = h

    declared_same : (sight : Sight) → Alike sight → (ds : List Decl) → AllTerms es here all ds → AllAllow at (declarations sight es here ds) → AllAllow new (declarations sight es here ds)
    declared_same sight s [] f a = tt
    declared_same sight s (d ∷ ds) f a = tie d.clock a (decl_same d f.0) (declared_same sight s ds f.1)
      where
        tie : (o : Option (List On)) → AllAllow at (elim o [ None ↦ declarations sight es here ds | Some path ↦ declared d.span sight (local_term es here d) (reverse path) ∷ declarations sight es here ds ]) → value new (local_term es here d) ≡ value at (local_term es here d) → (AllAllow at (declarations sight es here ds) → AllAllow new (declarations sight es here ds)) → AllAllow new (elim o [ None ↦ declarations sight es here ds | Some path ↦ declared d.span sight (local_term es here d) (reverse path) ∷ declarations sight es here ds ])
        tie None h e g = g h
        tie (Some path) h e g = ((subst (λ z. ClockRight z (reverse path)) (sym (stands_alike sight s)) h.0.0, e ∙ h.0.1), g h.1)

  inside_alike : (s : Seen) → seen_on new s ≡ seen_on at s → seen_on new (from_inside s) ≡ seen_on at (from_inside s)
  inside_alike s e = seen_inside new s ∙ ap base_alone e ∙ sym (seen_inside at s)

  sight_alike : (ds : List Decl) (es : Eqns) (here : Place → Place) (out : Sight) → Alike out → ((x : List ℕ) → value new (term_in es here ds x) ≡ value at (term_in es here ds x)) → Alike (sight_in ds es here out)
  sight_alike ds es here out s h x = tie (some_defines es x)
    where
      tie : (d : Bool) → seen_on new (if d then own (term_in es here ds x) else from_inside (out x)) ≡ seen_on at (if d then own (term_in es here ds x) else from_inside (out x))
      tie true = ap Some (h x)
      tie false = inside_alike (out x) (s x)

  conditions_same : (sight : Sight) → Alike sight → (ts : List Trans) → AllAllow at (conditions sight ts) → AllAllow new (conditions sight ts)
  conditions_same sight s [] h = tt
  conditions_same sight s (t ∷ ts) h = (subst (λ z. IsOn z t.cond []) (sym (stands_alike sight s)) h.0, conditions_same sight s ts h.1)

  -- the declarations of a written block, which its names agree with
  abbrev Agrees : Sight → List Decl → Type 0
  Agrees sight ds = (x : List ℕ) (c : Clock) → standing at sight x ≡ Some c → clock_in ds x ≡ c

  agrees_in : (ds : List Decl) (es : Eqns) (here : Place → Place) (out : Sight) → AreDefined ds es → Agrees (sight_in ds es here out) (map (with_clock at es here) ds)
  agrees_in ds es here out l x c e =
      agreeing (map (with_clock at es here) ds) (all_with_clocks at (below Equations here) es) (standing at out)
      (λ y h. subst IsTrue (sym (some_kept at (below Equations here) es y)) (l y (subst IsTrue (declares_kept at es here ds y) h)))
      x c (sym (ap (λ z. z x) (standing_written at ds es here out)) ∙ e)

  lefts_same : (left : List ℕ → Term) → ((x : List ℕ) → value new (left x) ≡ value at (left x)) → (ys : List (List ℕ × Span)) (c : Clock) → AllAre at (map (λ y. left y.0) ys) c → AllAre new (map (λ y. left y.0) ys) c
  lefts_same left h [] c a = tt
  lefts_same left h (y ∷ ys) c a = (h y.0 ∙ a.0, lefts_same left h ys c a.1)

  module _ (sight : Sight) (left : List ℕ → Term) (ds : List Decl) (wr : (x : List ℕ) → clock_in ds x ≡ value at (left x)) (ag : Agrees sight ds) where
    -- an equation is read on its clock, or on a shorter one
    equation_same : Alike sight → ((x : List ℕ) → value new (left x) ≡ value at (left x)) → (ys : List (List ℕ × Span)) (e : Expr) (c k : Clock) → k ≡ clock_of ds ys e → AllAre at (map (λ y. left y.0) ys) c → IsOn (standing at sight) e c → AllAre new (map (λ y. left y.0) ys) k × IsOn (standing new sight) e k
    equation_same s h [] e c k q a i =
        (tt, subst (λ z. IsOn z e k) (sym (stands_alike sight s)) (subst (IsOn (standing at sight) e) (sym q) (on_base_or e c i)))
      where
        on_base_or : (e : Expr) (c : Clock) → IsOn (standing at sight) e c → IsOn (standing at sight) e (or_base (clock_told ds e))
        on_base_or e c i = told_there (standing at sight) ds ag e c i
    equation_same s h (y ∷ ys) e c k q a i =
        let r : k ≡ c = q ∙ wr y.0 ∙ a.0 in (
          subst (AllAre new (map (λ y. left y.0) (y ∷ ys))) (sym r) (lefts_same left h (y ∷ ys) c a),
          subst (λ z. IsOn z e k) (sym (stands_alike sight s)) (subst (IsOn (standing at sight) e) (sym r) i),
        )

    equation_part : (ys : List (List ℕ × Span)) (e : Expr) (c : Clock) → AllAre at (map (λ y. left y.0) ys) c → IsOn (standing at sight) e c → IsPart (clock_of ds ys e) c
    equation_part [] e c a i = tie (clock_told ds e) (fits (standing at sight) ds ag e c i)
      where
        tie : (o : Option Clock) → Fits o c → IsPart (or_base o) c
        tie None f = (c, refl)
        tie (Some d) f = ([], sym f ∙ sym (append-nil d))
    equation_part (y ∷ ys) e c a i = ([], sym a.0 ∙ sym (wr y.0) ∙ sym (append-nil (clock_in ds y.0)))

  of_alike : (b : Block) (here : Place → Place) (out : Sight) → EachBlock Good b → Are here (clocks_of (with_clocks at here b)) → Alike out → Alike (sight_of b here out)
  of_alike (block ds es) here out g k s =
      sight_alike ds es here out s (λ x. term_same es here ds (λ y. k (Named y ∷ [])) ds (found es here ds g.0.0) x)

  -- what an assignment allows, the clocks of the written program allow
  mutual
    block_same : (b : Block) (here : Place → Place) (out : Sight) → EachBlock Good b → Are here (clocks_of (with_clocks at here b)) → Alike out → AllAllow at (units b here out) → AllAllow new (units b here out)
    block_same (block ds es) here out g k s a =
        let sight = sight_in ds es here out in
        let left : List ℕ → Term = λ x. term_in es here ds x in
        let f = found es here ds g.0.0 in
        let same : (x : List ℕ) → value new (left x) ≡ value at (left x) = λ x. term_same es here ds (λ y. k (Named y ∷ [])) ds f x in
        let alike = sight_alike ds es here out s same in
        let r = (all_allow at (declarations sight es here ds) (units_of_all es (below Equations here) sight left)).0 a in
        (all_allow new (declarations sight es here ds) (units_of_all es (below Equations here) sight left)).1 (
          declared_same es here ds (λ y. k (Named y ∷ [])) sight alike ds f r.0,
          all_same es (below Equations here) sight left (map (with_clock at es here) ds) (λ x. clock_written at es here ds x)
              (agrees_in ds es here out g.0.1) same alike g.1 (λ p. k (Equations ∷ p)) r.1,
        )

    all_same : (es : Eqns) (here : Place → Place) (sight : Sight) (left : List ℕ → Term) (ds : List Decl) → ((x : List ℕ) → clock_in ds x ≡ value at (left x)) → Agrees sight ds → ((x : List ℕ) → value new (left x) ≡ value at (left x)) → Alike sight → EachOfAll Good es → Are here (clocks_of_all ds (all_with_clocks at here es)) → AllAllow at (units_of_all es here sight left) → AllAllow new (units_of_all es here sight left)
    all_same no_eqn here sight left ds wr ag h s g k a = tt
    all_same (more_eqns e es) here sight left ds wr ag h s g k a =
        let r = (all_allow at (units_of_one e (below Head here) sight left) (units_of_all es (below Tail here) sight left)).0 a in
        (all_allow new (units_of_one e (below Head here) sight left) (units_of_all es (below Tail here) sight left)).1
        (one_same e (below Head here) sight left ds wr ag h s g.0 (λ p. k (Head ∷ p)) r.0, all_same es (below Tail here) sight left ds wr ag h s g.1 (λ p. k (Tail ∷ p)) r.1)

    one_same : (e : Eqn) (here : Place → Place) (sight : Sight) (left : List ℕ → Term) (ds : List Decl) → ((x : List ℕ) → clock_in ds x ≡ value at (left x)) → Agrees sight ds → ((x : List ℕ) → value new (left x) ≡ value at (left x)) → Alike sight → EachOfOne Good e → Are here (clocks_of_one ds (one_with_clocks at here e)) → AllAllow at (units_of_one e here sight left) → AllAllow new (units_of_one e here sight left)
    one_same (define w ys e) here sight left ds wr ag h s g k a =
        let r = equation_same sight left ds wr ag s h ys e (at (here (Right ∷ []))) (new (here (Right ∷ []))) (k (Right ∷ [])) a.0.0 a.0.1 in ((r.0, r.1), tt)
    one_same (switch w e arms) here sight left ds wr ag h s g k a =
        (subst (λ z. IsOn z e []) (sym (stands_alike sight s)) a.0, arms_same arms (below ArmsOf here) sight s g (λ p. k (ArmsOf ∷ p)) a.1)
    one_same (reset w b e) here sight left ds wr ag h s g k a =
        let r = (all_allow at (units b (below Body here) sight) (tested (span_of e) sight e ∷ [])).0 a in
        (all_allow new (units b (below Body here) sight) (tested (span_of e) sight e ∷ [])).1
        (block_same b (below Body here) sight g (λ p. k (Body ∷ p)) s r.0, (subst (λ z. IsOn z e []) (sym (stands_alike sight s)) r.1.0, tt))
    one_same (automaton w ss) here sight left ds wr ag h s g k a = states_same ss (below StatesOf here) sight s g (λ p. k (StatesOf ∷ p)) a

    arms_same : (arms : Arms) (here : Place → Place) (sight : Sight) → Alike sight → EachOfArms Good arms → Are here (clocks_of_arms (arms_with_clocks at here arms)) → AllAllow at (units_of_arms arms here sight) → AllAllow new (units_of_arms arms here sight)
    arms_same no_arm here sight s g k a = tt
    arms_same (more_arms c b w arms) here sight s g k a =
        let r = (all_allow at (units b (below Head here) sight) (units_of_arms arms (below Tail here) sight)).0 a in
        (all_allow new (units b (below Head here) sight) (units_of_arms arms (below Tail here) sight)).1
        (block_same b (below Head here) sight g.0 (λ p. k (Head ∷ p)) s r.0, arms_same arms (below Tail here) sight s g.1 (λ p. k (Tail ∷ p)) r.1)

    states_same : (ss : States) (here : Place → Place) (sight : Sight) → Alike sight → EachOfStates Good ss → Are here (clocks_of_states (states_with_clocks at here ss)) → AllAllow at (units_of_states ss here sight) → AllAllow new (units_of_states ss here sight)
    states_same no_state here sight s g k a = tt
    states_same (more_states n b until unless w ss) here sight s g k a =
        let mine = below Body (below Head here) in
        let r = (all_allow at (units b mine sight) (conditions (sight_of b mine sight) until ++ (conditions sight unless ++ units_of_states ss (below Tail here) sight))).0 a in
        let q = (all_allow at (conditions (sight_of b mine sight) until) (conditions sight unless ++ units_of_states ss (below Tail here) sight)).0 r.1 in
        let o = (all_allow at (conditions sight unless) (units_of_states ss (below Tail here) sight)).0 q.1 in
        (all_allow new (units b mine sight) (conditions (sight_of b mine sight) until ++ (conditions sight unless ++ units_of_states ss (below Tail here) sight))).1 (
          block_same b mine sight g.0 (λ p. k (Head ∷ Body ∷ p)) s r.0,
          (all_allow new (conditions (sight_of b mine sight) until) (conditions sight unless ++ units_of_states ss (below Tail here) sight)).1 (
            conditions_same (sight_of b mine sight) (of_alike b mine sight g.0 (λ p. k (Head ∷ Body ∷ p)) s) until q.0,
            (all_allow new (conditions sight unless) (units_of_states ss (below Tail here) sight)).1
                (conditions_same sight s unless o.0, states_same ss (below Tail here) sight s g.1 (λ p. k (Tail ∷ p)) o.1),
          ),
        )

-- ---- the clocks of the written program are no longer

module _ (at : Assignment) where
  local_part : (o : Option Const) (b : Bool) (p : Place) → IsPart (value at (local_at o b p)) (at p)
  local_part None true p = (at p, refl)
  local_part None false p = ([], sym (append-nil (at p)))
  local_part (Some c) b p = (at p, refl)

  term_part : (es : Eqns) (here : Place → Place) (ds : List Decl) (x : List ℕ) → IsPart (value at (term_in es here ds x)) (at (here (Named x ∷ [])))
  term_part es here [] x = (at (here (Named x ∷ [])), refl)
  term_part es here (d ∷ ds) x =
      tie (bytes_eq d.name x) (bytes_eq-Decides d.name x).0 (local_part d.last (controls_define es d.name) (here (Named d.name ∷ []))) (term_part es here ds x)
    where
      tie : (b : Bool) → (b ≡ true → d.name ≡ x) → IsPart (value at (local_term es here d)) (at (here (Named d.name ∷ []))) → IsPart (value at (term_in es here ds x)) (at (here (Named x ∷ []))) → IsPart (value at (if b then local_term es here d else term_in es here ds x)) (at (here (Named x ∷ [])))
      tie true e f g = subst (λ z. IsPart (value at (local_term es here d)) (at (here (Named z ∷ [])))) (e refl) f
      tie false e f g = g

  none_part : (p : Place) → IsPart [] (at p)
  none_part p = (at p, refl)

  mutual
    block_part : (b : Block) (here : Place → Place) (out : Sight) → EachBlock Good b → AllAllow at (units b here out) → (p : Place) → IsPart (clocks_of (with_clocks at here b) p) (at (here p))
    block_part (block ds es) here out g a (Named x ∷ []) =
        subst (λ z. IsPart z (at (here (Named x ∷ [])))) (sym (clock_written at es here ds x)) (term_part es here ds x)
    block_part (block ds es) here out g a (Equations ∷ p) =
        let sight = sight_in ds es here out in
        let r = (all_allow at (declarations sight es here ds) (units_of_all es (below Equations here) sight (λ x. term_in es here ds x))).0 a in
        all_part es (below Equations here) sight (λ x. term_in es here ds x) (map (with_clock at es here) ds) (λ x. clock_written at es here ds x)
        (agrees_in at at ds es here out g.0.1) g.1 r.1 p
    block_part (block ds es) here out g a p = none_part (here p)

    all_part : (es : Eqns) (here : Place → Place) (sight : Sight) (left : List ℕ → Term) (ds : List Decl) → ((x : List ℕ) → clock_in ds x ≡ value at (left x)) → Agrees at at sight ds → EachOfAll Good es → AllAllow at (units_of_all es here sight left) → (p : Place) → IsPart (clocks_of_all ds (all_with_clocks at here es) p) (at (here p))
    all_part (more_eqns e es) here sight left ds wr ag g a (Head ∷ p) =
        one_part_of e (below Head here) sight left ds wr ag g.0 ((all_allow at (units_of_one e (below Head here) sight left) (units_of_all es (below Tail here) sight left)).0 a).0 p
    all_part (more_eqns e es) here sight left ds wr ag g a (Tail ∷ p) =
        all_part es (below Tail here) sight left ds wr ag g.1 ((all_allow at (units_of_one e (below Head here) sight left) (units_of_all es (below Tail here) sight left)).0 a).1 p
    all_part es here sight left ds wr ag g a p = none_part (here p)

    one_part_of : (e : Eqn) (here : Place → Place) (sight : Sight) (left : List ℕ → Term) (ds : List Decl) → ((x : List ℕ) → clock_in ds x ≡ value at (left x)) → Agrees at at sight ds → EachOfOne Good e → AllAllow at (units_of_one e here sight left) → (p : Place) → IsPart (clocks_of_one ds (one_with_clocks at here e) p) (at (here p))
    one_part_of (define w ys e) here sight left ds wr ag g a (Right ∷ []) =
        equation_part at at sight left ds wr ag ys e (at (here (Right ∷ []))) a.0.0 a.0.1
    one_part_of (switch w e arms) here sight left ds wr ag g a (ArmsOf ∷ p) = arms_part arms (below ArmsOf here) sight g a.1 p
    one_part_of (reset w b e) here sight left ds wr ag g a (Body ∷ p) =
        block_part b (below Body here) sight g ((all_allow at (units b (below Body here) sight) (tested (span_of e) sight e ∷ [])).0 a).0 p
    one_part_of (automaton w ss) here sight left ds wr ag g a (StatesOf ∷ p) = states_part ss (below StatesOf here) sight g a p
    one_part_of e here sight left ds wr ag g a p = none_part (here p)

    arms_part : (arms : Arms) (here : Place → Place) (sight : Sight) → EachOfArms Good arms → AllAllow at (units_of_arms arms here sight) → (p : Place) → IsPart (clocks_of_arms (arms_with_clocks at here arms) p) (at (here p))
    arms_part (more_arms c b w arms) here sight g a (Head ∷ p) =
        block_part b (below Head here) sight g.0 ((all_allow at (units b (below Head here) sight) (units_of_arms arms (below Tail here) sight)).0 a).0 p
    arms_part (more_arms c b w arms) here sight g a (Tail ∷ p) =
        arms_part arms (below Tail here) sight g.1 ((all_allow at (units b (below Head here) sight) (units_of_arms arms (below Tail here) sight)).0 a).1 p
    arms_part arms here sight g a p = none_part (here p)

    states_part : (ss : States) (here : Place → Place) (sight : Sight) → EachOfStates Good ss → AllAllow at (units_of_states ss here sight) → (p : Place) → IsPart (clocks_of_states (states_with_clocks at here ss) p) (at (here p))
    states_part (more_states n b until unless w ss) here sight g a (Head ∷ Body ∷ p) =
        let mine = below Body (below Head here) in
        block_part b mine sight g.0 ((all_allow at (units b mine sight) (conditions (sight_of b mine sight) until ++ (conditions sight unless ++ units_of_states ss (below Tail here) sight))).0 a).0 p
    states_part (more_states n b until unless w ss) here sight g a (Tail ∷ p) =
        let mine = below Body (below Head here) in
        let r = (all_allow at (units b mine sight) (conditions (sight_of b mine sight) until ++ (conditions sight unless ++ units_of_states ss (below Tail here) sight))).0 a in
        let q = (all_allow at (conditions (sight_of b mine sight) until) (conditions sight unless ++ units_of_states ss (below Tail here) sight)).0 r.1 in
        let o = (all_allow at (conditions sight unless) (units_of_states ss (below Tail here) sight)).0 q.1 in
        states_part ss (below Tail here) sight g.1 o.1 p
    states_part ss here sight g a p = none_part (here p)

-- ---- nodes

module _ (at : Assignment) where
  told_same : (new : Assignment) (sight : Sight) → Alike at new sight → (e : Option Expr) → AllAllow at (told sight e) → AllAllow new (told sight e)
  told_same new sight s None h = tt
  told_same new sight s (Some e) h = (subst (λ z. IsOn z e []) (sym (stands_alike at new sight s)) h.0, tt)

  contract_same : (new : Assignment) (out : Sight) (c : Option Contract) → EachInContract Good c → Are at new in_observer (clocks_of_contract (contract_with_clocks at c)) → Alike at new out → AllAllow at (contract_units out c) → AllAllow new (contract_units out c)
  contract_same new out None g k s a = tt
  contract_same new out (Some c) g k s a =
      let sight = sight_of c.body in_observer out in
      let alike = of_alike at new c.body in_observer out g k s in
      let r = (all_allow at (units c.body in_observer out) (told sight c.assume ++ told sight c.enforce)).0 a in
      let q = (all_allow at (told sight c.assume) (told sight c.enforce)).0 r.1 in
      (all_allow new (units c.body in_observer out) (told sight c.assume ++ told sight c.enforce)).1 (
        block_same at new c.body in_observer out g k s r.0,
        (all_allow new (told sight c.assume) (told sight c.enforce)).1 (told_same new sight alike c.assume q.0, told_same new sight alike c.enforce q.1),
      )

  contract_part : (out : Sight) (c : Option Contract) → EachInContract Good c → AllAllow at (contract_units out c) → (p : Place) → IsPart (clocks_of_contract (contract_with_clocks at c) p) (at (in_observer p))
  contract_part out None g a p = none_part at (in_observer p)
  contract_part out (Some c) g a p =
      let r = (all_allow at (units c.body in_observer out) (told (sight_of c.body in_observer out) c.assume ++ told (sight_of c.body in_observer out) c.enforce)).0 a in
      block_part at c.body in_observer out g r.0 p

  known_alike : (new : Assignment) (b : Bool) → seen_on new (known_on_base b) ≡ seen_on at (known_on_base b)
  known_alike new b = on_known new b ∙ sym (on_known at b)

  node_part : (n : Node) → NodeNamed n → AllAllow at (node_units n) → (p : Place) → IsPart (clocks_of_node (node_with_clocks at n) p) (at p)
  node_part n g a (Observer ∷ p) =
      contract_part (contract_sight n) n.contract g.1 ((all_allow at (contract_units (contract_sight n) n.contract) (units n.body in_body (body_sight n))).0 a).0 p
  node_part n g a (Body ∷ p) =
      block_part at n.body in_body (body_sight n) g.0 ((all_allow at (contract_units (contract_sight n) n.contract) (units n.body in_body (body_sight n))).0 a).1 p
  node_part n g a p = none_part at p

  node_same : (n : Node) → NodeNamed n → AllAllow at (node_units n) → AllAllow (clocks_of_node (node_with_clocks at n)) (node_units n)
  node_same n g a =
      let new = clocks_of_node (node_with_clocks at n) in
      let r = (all_allow at (contract_units (contract_sight n) n.contract) (units n.body in_body (body_sight n))).0 a in
      (all_allow new (contract_units (contract_sight n) n.contract) (units n.body in_body (body_sight n))).1 (
        contract_same new (contract_sight n) n.contract g.1 (λ p. refl) (λ x. known_alike new (declares n.inputs x || declares n.outputs x)) r.0,
        block_same at new n.body in_body (body_sight n) g.0 (λ p. refl)
            (λ x. known_alike new (declares n.inputs x || (declares n.outputs x || declares (controls_of n.contract) x))) r.1,
      )

-- The clocks of the program in which the shortest clocks are written are these.
pub passes : (n : Node) (at : Assignment) → NodeNamed n → IsShortest (IsAllowed n) at → clocks_of_node (node_with_clocks at n) ≡ at
passes n at g s =
    let new = clocks_of_node (node_with_clocks at n) in
    let weak = weakly_shortest (node_sights n) (node_units n) (node_fits n) (node_places_fit n) at s in
    let e : (p : Place) → new p ≡ at p =
    λ p. one_part Place On (new p) (at p) (node_part at n g s.0.1 p) (weak.1 new (node_same at n g s.0.1) p) in
    λ z p. e p z
