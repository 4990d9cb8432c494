-- The steps of the shortest clocks of a node, in its contract too, are good where its expressions and written clocks use good ones alone: without the other steps the clocks are allowed as well.
use Rattle.std.proofs.Common.{◌≡◌, ℕ, suc, ◌≤◌, length, List, [], ◌∷◌, ◌++◌, map, reverse, refl, sym, ap, subst, ◌∙◌, length-append, arith}
use Rattle.std.specs.Str.{bytes_eq}
use Rattle.std.specs.Prelude.{⊤, Bool, true, false, ◌||◌, IsTrue, if◌then◌else◌, Option, None, Some, option_map}
use Rattle.hp_base.specs.declared.span.Span.{Span}
use Rattle.hp_base.specs.declared.ty.Const.{Const}
use Rattle.hp_tree.specs.declared.block.Trans.{Trans}
use Rattle.hp_tree.specs.Expressions.{Expr, constant, variable, last_of, one, two, choose, pre, fby, arrow, when_is, merge, call, Exprs, no_expr, more_exprs, Parts, no_part, more_parts}
use Rattle.hp_tree.specs.Blocks.{Decl, Block, block, Eqns, no_eqn, more_eqns, Eqn, define, switch, reset, automaton, Arms, no_arm, more_arms, States, no_state, more_states}
use Rattle.hp_tree.specs.Programs.{Contract, Node}
use Rattle.hp_tree.specs.Instant.{Body, Observer, Named, Equations, Head, Tail, Right, Arms as ArmsOf, States as StatesOf, Place, Clock, without}
use Rattle.hp_tree.specs.Meaning.{declares, some_defines, controls_of}
use Rattle.hp_typing.specs.Scopes.{with_variables, inside}
use Rattle.law_judged.specs.Typed.Scopes.{Scope}
use Rattle.hp_meaning.specs.Causal.Sources.{below}
use Rattle.hp_meaning.specs.Causal.Points.{span_of}
use Rattle.hp_meaning.specs.Causal.Clocked.{Standing, base_alone, ClockRight, IsOn, ExprsOn, PartsOn}
use Rattle.hp_meaning.specs.Clocking.Terms.{value, IsShortest}
use Rattle.hp_meaning.specs.Clocking.Clocking.{On, Term, Assignment, open_at, Seen, nowhere, own, further, Sight, from_inside, seen_on, standing, controls_define, local_at, local_term, term_in, sight_in, sight_of, ClockUnit, declared, tested, AllAre, AllAllow, declarations, conditions, units, units_of_all, units_of_one, units_of_arms, units_of_states, known_on_base, contract_sight, body_sight, told, in_observer, in_body, contract_units, no_sight, sights, sights_of_all, sights_of_one, sights_of_arms, sights_of_states, contract_sights, node_sights, IsAllowed}
use Rattle.law_wellmade.proofs.TestedLemmas.GoodClocks.{Good, every, AllGood, ExprGood, ExprsGood, PartsGood, TestsGood, ToldGood, WrittenGood, DeclsGood, reversed, BlockGood, EqnsGood, EqnGood, ArmsGood, StatesGood, LocalsGood, BlockHas, EqnsHave, EqnHas, ArmsHave, StatesHave}

-- ---- a clock without its other steps

abbrev keep : Good → Clock → Clock
keep good [] = []
keep good (on ∷ clock) = if good on then on ∷ keep good clock else keep good clock

keep_first : (good : Good) (on : On) (clock : Clock) → IsTrue (good on) → keep good (on ∷ clock) ≡ on ∷ keep good clock
keep_first good on clock f = ap (λ b. if b then on ∷ keep good clock else keep good clock) f

keep_all : (good : Good) (clock : Clock) → AllGood good clock → keep good clock ≡ clock
keep_all good [] f = refl
keep_all good (on ∷ clock) f = keep_first good on clock f.0 ∙ ap (λ c. on ∷ c) (keep_all good clock f.1)

keep_shorter : (good : Good) (clock : Clock) → length (keep good clock) ≤ length clock
keep_shorter good [] = omega arith
keep_shorter good (on ∷ clock) = by (good on) (keep_shorter good clock)
  where
    by : (b : Bool) → length (keep good clock) ≤ length clock → length (if b then on ∷ keep good clock else keep good clock) ≤ suc (length clock)
    by true h = omega (arith, h)
    by false h = omega (arith, h)

abbrev others : Clock → Clock
others [] = []
others (on ∷ clock) = clock

too_long : (good : Good) (on : On) (clock rest : Clock) → keep good clock ≡ on ∷ (clock ++ rest) → ⊥
too_long good on clock rest h = omega (arith, keep_shorter good clock, ap length h, length-append clock rest)

kept_good : (good : Good) (clock rest : Clock) → keep good clock ≡ clock ++ rest → AllGood good clock
kept_good good [] rest h = tt
kept_good good (on ∷ clock) rest h = by (good on) refl h (λ z. kept_good good clock rest z)
  where
    by : (b : Bool) → good on ≡ b → (if b then on ∷ keep good clock else keep good clock) ≡ on ∷ (clock ++ rest) → (keep good clock ≡ clock ++ rest → AllGood good clock) → IsTrue (good on) × AllGood good clock
    by false e z f = absurd (too_long good on clock rest z)
    by true e z f = (e, f (ap others z))

-- ---- where names stand on such clocks

abbrev Follows : Good → Standing → Standing → Type 0
Follows good st ot = (x : List ℕ) (c : Clock) → st x ≡ Some c → ot x ≡ Some (keep good c)

module _ (good : Good) (st ot : Standing) (f : Follows good st ot) where
  right_keep : (c : Clock) → ClockRight st c → ClockRight ot (keep good c)
  right_keep [] h = tt
  right_keep (on ∷ clock) h = by (good on) (right_keep clock h.1)
    where
      by : (b : Bool) → ClockRight ot (keep good clock) → ClockRight ot (if b then on ∷ keep good clock else keep good clock)
      by false r = r
      by true r = (f on.1 clock h.0, r)

  abbrev WhenOn : On → Expr → Clock → Type 0
  WhenOn on a c = (c ≡ on ∷ without c) × (ot on.1 ≡ Some (without c)) × IsOn ot a (without c)

  mutual
    on_keep : (e : Expr) (c : Clock) → ExprGood good e → IsOn st e c → IsOn ot e (keep good c)
    on_keep (constant s v) c m h = tt
    on_keep (variable s x) c m h = f x c h
    on_keep (last_of s x) c m h = ap (keep good) h
    on_keep (one s o a) c m h = on_keep a c m h
    on_keep (two s o a b) c m h = (on_keep a c m.0 h.0, on_keep b c m.1 h.1)
    on_keep (choose s a b d) c m h = (on_keep a c m.0 h.0, on_keep b c m.1.0 h.1, on_keep d c m.1.1 h.2)
    on_keep (pre s a) c m h = on_keep a c m h
    on_keep (fby s a b) c m h = (on_keep a c m.0 h.0, on_keep b c m.1 h.1)
    on_keep (arrow s a b) c m h = (on_keep a c m.0 h.0, on_keep b c m.1 h.1)
    on_keep (when_is s a d x) c m h =
        let w = without c in
        subst (λ z. WhenOn (d, x) a z) (sym (ap (keep good) h.0 ∙ keep_first good (d, x) w m.0)) (refl, f x w h.1, on_keep a w m.1 h.2)
    on_keep (merge s x ps) c m h = (f x c h.0, parts_keep x ps c m h.1)
    on_keep (call s g i es) c m h = exprs_keep es c m h

    exprs_keep : (es : Exprs) (c : Clock) → ExprsGood good es → ExprsOn st es c → ExprsOn ot es (keep good c)
    exprs_keep no_expr c m h = tt
    exprs_keep (more_exprs e es) c m h = (on_keep e c m.0 h.0, exprs_keep es c m.1 h.1)

    parts_keep : (x : List ℕ) (ps : Parts) (c : Clock) → PartsGood good x ps → PartsOn st x ps c → PartsOn ot x ps (keep good c)
    parts_keep x no_part c m h = tt
    parts_keep x (more_parts d e ps) c m h = (subst (λ z. IsOn ot e z) (keep_first good (d, x) c m.0) (on_keep e ((d, x) ∷ c) m.1.0 h.0), parts_keep x ps c m.1.1 h.1)

none_keep : (good : Good) (st ot : Standing) → ((x : List ℕ) → st x ≡ None) → (c : Clock) → ClockRight st c → ClockRight ot (keep good c)
none_keep good st ot n c h = right_keep good st ot (λ x d e. absurd (no (sym (n x) ∙ e))) c h
  where
    no : {d : Clock} → None ≡ Some d → ⊥
    no h = absurd (cc)

-- ---- what is good in each scope

module _ (B : Scope → Good) where
  -- the good steps where each clock stands
  abbrev mutual
    goods : Scope → Block → Place → Good
    goods s (block ds es) (Named x ∷ []) = B (with_variables s ds)
    goods s (block ds es) (Equations ∷ p) = goods_all (with_variables s ds) es p
    goods s b p = every

    goods_all : Scope → Eqns → Place → Good
    goods_all s (more_eqns e es) (Head ∷ p) = goods_one s e p
    goods_all s (more_eqns e es) (Tail ∷ p) = goods_all s es p
    goods_all s es p = every

    goods_one : Scope → Eqn → Place → Good
    goods_one s (define a ys e) (Right ∷ []) = B s
    goods_one s (switch a e arms) (ArmsOf ∷ p) = goods_arms s arms p
    goods_one s (reset a b e) (Body ∷ p) = goods s b p
    goods_one s (automaton a ss) (StatesOf ∷ p) = goods_states s ss p
    goods_one s e p = every

    goods_arms : Scope → Arms → Place → Good
    goods_arms s (more_arms c b a arms) (Head ∷ p) = goods s b p
    goods_arms s (more_arms c b a arms) (Tail ∷ p) = goods_arms s arms p
    goods_arms s arms p = every

    goods_states : Scope → States → Place → Good
    goods_states s (more_states f b until unless a ss) (Head ∷ Body ∷ p) = goods s b p
    goods_states s (more_states f b until unless a ss) (Tail ∷ p) = goods_states s ss p
    goods_states s ss p = every

-- ---- the clocks of a node, with all steps and with the good ones alone

module _ (at : Assignment) (at_place : Place → Good) where
  abbrev other : Assignment
  other p = keep (at_place p) (at p)

  abbrev Under : (Place → Place) → (Place → Good) → Type 0
  Under here local = (p : Place) → at_place (here p) ≡ local p

  abbrev Kept : Good → Term → Type 0
  Kept good t = value other t ≡ keep good (value at t)

  abbrev SeenBase : Seen → Type 0
  SeenBase nowhere = ⊤
  SeenBase (own t) = value at t ≡ [] → value other t ≡ []
  SeenBase (further t) = value at t ≡ [] → value other t ≡ []

  abbrev Bases : Sight → Type 0
  Bases sight = (x : List ℕ) → SeenBase (sight x)

  abbrev Filters : Good → Sight → Type 0
  Filters good sight = Follows good (standing at sight) (standing other sight)

  inside_base : (s : Seen) → SeenBase s → SeenBase (from_inside s)
  inside_base nowhere h = tt
  inside_base (own t) h = h
  inside_base (further t) h = h

  base_keep : (good : Good) (v w : Clock) (c : Clock) → (v ≡ [] → w ≡ []) → base_alone (Some v) ≡ Some c → base_alone (Some w) ≡ Some (keep good c)
  base_keep good [] w c f h = subst (λ z. base_alone (Some z) ≡ Some (keep good c)) (sym (f refl)) (ap (option_map (keep good)) h)
  base_keep good (on ∷ v) w c f h = absurd (cc)

  seen_keep : (good : Good) (s : Seen) → SeenBase s → (c : Clock) → seen_on at (from_inside s) ≡ Some c → seen_on other (from_inside s) ≡ Some (keep good c)
  seen_keep good nowhere b c h = absurd (cc)
  seen_keep good (own t) b c h = base_keep good (value at t) (value other t) c b h
  seen_keep good (further t) b c h = base_keep good (value at t) (value other t) c b h

  at_kept : (good : Good) (p : Place) → at_place p ≡ good → Kept good (open_at p)
  at_kept good p e = ap (λ z. keep z (at p)) e

  module _ (good : Good) (es : Eqns) (here : Place → Place) (u : (x : List ℕ) → at_place (here (Named x ∷ [])) ≡ good) where
    local_kept : (d : Decl) → Kept good (local_term es here d)
    local_kept d = by d.last (controls_define es d.name)
      where
        by : (o : Option Const) (b : Bool) → Kept good (local_at o b (here (Named d.name ∷ [])))
        by None true = refl
        by None false = at_kept good (here (Named d.name ∷ [])) (u d.name)
        by (Some c) b = refl

    term_kept : (ds : List Decl) (x : List ℕ) → Kept good (term_in es here ds x)
    term_kept [] x = refl
    term_kept (d ∷ ds) x = by (bytes_eq d.name x) (term_kept ds x)
      where
        by : (b : Bool) → Kept good (term_in es here ds x) → Kept good (if b then local_term es here d else term_in es here ds x)
        by true r = local_kept d
        by false r = r

    filters_in : (ds : List Decl) (out : Sight) → Bases out → Filters good (sight_in ds es here out)
    filters_in ds out o x c h = by (some_defines es x) h
      where
        by : (b : Bool) → seen_on at (if b then own (term_in es here ds x) else from_inside (out x)) ≡ Some c → seen_on other (if b then own (term_in es here ds x) else from_inside (out x)) ≡ Some (keep good c)
        by true e = ap Some (term_kept ds x) ∙ ap (option_map (keep good)) e
        by false e = seen_keep good (out x) (o x) c e

    bases_in : (ds : List Decl) (out : Sight) → Bases out → Bases (sight_in ds es here out)
    bases_in ds out o x = by (some_defines es x)
      where
        by : (b : Bool) → SeenBase (if b then own (term_in es here ds x) else from_inside (out x))
        by true = λ e. term_kept ds x ∙ ap (keep good) e
        by false = inside_base (out x) (o x)

    -- declarations allow
    decls_allow : (sight : Sight) → Filters good sight → (ds : List Decl) → DeclsGood good ds → AllAllow at (declarations sight es here ds) → AllAllow other (declarations sight es here ds)
    decls_allow sight f [] m h = tt
    decls_allow sight f (d ∷ ds) m h = tie d.clock m.0 h (λ k. decls_allow sight f ds m.1 k)
      where
        tie : (o : Option (List On)) → WrittenGood good o
            → AllAllow at (elim o [ None ↦ declarations sight es here ds | Some path ↦ declared d.span sight (local_term es here d) (reverse path) ∷ declarations sight es here ds ])
            → (AllAllow at (declarations sight es here ds) → AllAllow other (declarations sight es here ds))
            → AllAllow other (elim o [ None ↦ declarations sight es here ds | Some path ↦ declared d.span sight (local_term es here d) (reverse path) ∷ declarations sight es here ds ])
        tie None n k rest = rest k
        tie (Some path) n k rest =
            let all = keep_all good (reverse path) (reversed good path n) in
            ((subst (λ z. ClockRight (standing other sight) z) all (right_keep good (standing at sight) (standing other sight) f (reverse path) k.0.0), local_kept d ∙ ap (keep good) k.0.1 ∙ all), rest k.1)

  -- ---- what units allow

  allow_left : (us vs : List ClockUnit) → AllAllow at (us ++ vs) → AllAllow at us
  allow_left [] vs h = tt
  allow_left (w ∷ us) vs h = (h.0, allow_left us vs h.1)

  allow_right : (us vs : List ClockUnit) → AllAllow at (us ++ vs) → AllAllow at vs
  allow_right [] vs h = h
  allow_right (w ∷ us) vs h = allow_right us vs h.1

  allow_both : (us vs : List ClockUnit) → AllAllow other us → AllAllow other vs → AllAllow other (us ++ vs)
  allow_both [] vs h k = k
  allow_both (w ∷ us) vs h k = (h.0, allow_both us vs h.1 k)

  split : (us vs : List ClockUnit) → (AllAllow at us → AllAllow other us) → (AllAllow at vs → AllAllow other vs) → AllAllow at (us ++ vs) → AllAllow other (us ++ vs)
  split us vs f g h = allow_both us vs (f (allow_left us vs h)) (g (allow_right us vs h))

  test_allows : (good : Good) (sight : Sight) → Filters good sight → (e : Expr) → ExprGood good e → AllAllow at (tested (span_of e) sight e ∷ []) → AllAllow other (tested (span_of e) sight e ∷ [])
  test_allows good sight f e m h = (on_keep good (standing at sight) (standing other sight) f e [] m h.0, tt)

  tests_allow : (good : Good) (sight : Sight) → Filters good sight → (ts : List Trans) → TestsGood good ts → AllAllow at (conditions sight ts) → AllAllow other (conditions sight ts)
  tests_allow good sight f [] m h = tt
  tests_allow good sight f (t ∷ ts) m h =
      split (tested (span_of t.cond) sight t.cond ∷ []) (conditions sight ts) (λ k. test_allows good sight f t.cond m.0 k) (λ k. tests_allow good sight f ts m.1 k) h

  told_allows : (good : Good) (sight : Sight) → Filters good sight → (o : Option Expr) → ToldGood good o → AllAllow at (told sight o) → AllAllow other (told sight o)
  told_allows good sight f None m h = tt
  told_allows good sight f (Some e) m h = test_allows good sight f e m h

  lefts_keep : (good : Good) (left : List ℕ → Term) → ((x : List ℕ) → Kept good (left x)) → (ys : List (List ℕ × Span)) (c : Clock) → AllAre at (map (λ y. left y.0) ys) c → AllAre other (map (λ y. left y.0) ys) (keep good c)
  lefts_keep good left l [] c h = tt
  lefts_keep good left l (y ∷ ys) c h = (l y.0 ∙ ap (keep good) h.0, lefts_keep good left l ys c h.1)

  module _ (B : Scope → Good) where
    mutual
      allow_block : (z : Scope) (b : Block) (here : Place → Place) (out : Sight) → Under here (goods B z b) → Bases out → BlockGood B z b → AllAllow at (units b here out) → AllAllow other (units b here out)
      allow_block z (block ds es) here out u o m h =
          let r = with_variables z ds in
          let sight = sight_in ds es here out in
          let named : (x : List ℕ) → at_place (here (Named x ∷ [])) ≡ B r = λ x. u (Named x ∷ []) in
          let f = filters_in (B r) es here named ds out o in
          split (declarations sight es here ds) (units_of_all es (below Equations here) sight (λ x. term_in es here ds x))
          (λ i. decls_allow (B r) es here named sight f ds m.0 i)
          (λ i. allow_eqns r es (below Equations here) sight (λ x. term_in es here ds x) (λ p. u (Equations ∷ p)) f (bases_in (B r) es here named ds out o) (λ x. term_kept (B r) es here named ds x) m.1 i) h

      allow_eqns : (z : Scope) (es : Eqns) (here : Place → Place) (sight : Sight) (left : List ℕ → Term) → Under here (goods_all B z es) → Filters (B z) sight → Bases sight → ((x : List ℕ) → Kept (B z) (left x)) → EqnsGood B z es → AllAllow at (units_of_all es here sight left) → AllAllow other (units_of_all es here sight left)
      allow_eqns z no_eqn here sight left u f o l m h = tt
      allow_eqns z (more_eqns e es) here sight left u f o l m h =
          split (units_of_one e (below Head here) sight left) (units_of_all es (below Tail here) sight left)
          (λ i. allow_eqn z e (below Head here) sight left (λ p. u (Head ∷ p)) f o l m.0 i)
          (λ i. allow_eqns z es (below Tail here) sight left (λ p. u (Tail ∷ p)) f o l m.1 i) h

      allow_eqn : (z : Scope) (e : Eqn) (here : Place → Place) (sight : Sight) (left : List ℕ → Term) → Under here (goods_one B z e) → Filters (B z) sight → Bases sight → ((x : List ℕ) → Kept (B z) (left x)) → EqnGood B z e → AllAllow at (units_of_one e here sight left) → AllAllow other (units_of_one e here sight left)
      allow_eqn z (define s ys e) here sight left u f o l m h =
          let c = at (here (Right ∷ [])) in (
            subst (λ w. AllAre other (map (λ y. left y.0) ys) w × IsOn (standing other sight) e w) (sym (at_kept (B z) (here (Right ∷ [])) (u (Right ∷ []))))
                (lefts_keep (B z) left l ys c h.0.0, on_keep (B z) (standing at sight) (standing other sight) f e c m h.0.1),
            tt,
          )
      allow_eqn z (switch s e arms) here sight left u f o l m h =
          split (tested (span_of e) sight e ∷ []) (units_of_arms arms (below ArmsOf here) sight)
          (λ i. test_allows (B z) sight f e m.0 i) (λ i. allow_arms z arms (below ArmsOf here) sight (λ p. u (ArmsOf ∷ p)) o m.1 i) h
      allow_eqn z (reset s b e) here sight left u f o l m h =
          split (units b (below Body here) sight) (tested (span_of e) sight e ∷ [])
          (λ i. allow_block z b (below Body here) sight (λ p. u (Body ∷ p)) o m.0 i) (λ i. test_allows (B z) sight f e m.1 i) h
      allow_eqn z (automaton s ss) here sight left u f o l m h = allow_states z ss (below StatesOf here) sight (λ p. u (StatesOf ∷ p)) f o m h

      allow_arms : (z : Scope) (arms : Arms) (here : Place → Place) (sight : Sight) → Under here (goods_arms B z arms) → Bases sight → ArmsGood B z arms → AllAllow at (units_of_arms arms here sight) → AllAllow other (units_of_arms arms here sight)
      allow_arms z no_arm here sight u o m h = tt
      allow_arms z (more_arms c b s arms) here sight u o m h =
          split (units b (below Head here) sight) (units_of_arms arms (below Tail here) sight)
          (λ i. allow_block z b (below Head here) sight (λ p. u (Head ∷ p)) o m.0 i)
          (λ i. allow_arms z arms (below Tail here) sight (λ p. u (Tail ∷ p)) o m.1 i) h

      allow_states : (z : Scope) (ss : States) (here : Place → Place) (sight : Sight) → Under here (goods_states B z ss) → Filters (B z) sight → Bases sight → StatesGood B z ss → AllAllow at (units_of_states ss here sight) → AllAllow other (units_of_states ss here sight)
      allow_states z no_state here sight u f o m h = tt
      allow_states z (more_states j (block ds es) until unless s ss) here sight u f o m h =
          let g : Place → Place = below Body (below Head here) in
          let inner = B (with_variables z ds) in
          let within = sight_in ds es g sight in
          split (units (block ds es) g sight) (conditions within until ++ (conditions sight unless ++ units_of_states ss (below Tail here) sight))
          (λ i. allow_block z (block ds es) g sight (λ p. u (Head ∷ Body ∷ p)) o m.0 i)
          (λ i. split (conditions within until) (conditions sight unless ++ units_of_states ss (below Tail here) sight)
          (λ i'. tests_allow inner within (filters_in inner es g (λ x. u (Head ∷ Body ∷ Named x ∷ [])) ds sight o) until m.1.0 i')
          (λ i'. split (conditions sight unless) (units_of_states ss (below Tail here) sight)
          (λ i''. tests_allow (B z) sight f unless m.1.1.0 i'') (λ i''. allow_states z ss (below Tail here) sight (λ p. u (Tail ∷ p)) f o m.1.1.1 i'') i') i) h

  -- ---- the clocks at places are right

  abbrev RightAt : Sight → Place → Type 0
  RightAt sight p = ClockRight (standing at sight) (at p) → ClockRight (standing other sight) (other p)

  right_none : (p : Place) → RightAt no_sight p
  right_none p h = none_keep (at_place p) (standing at no_sight) (standing other no_sight) (λ x. refl) (at p) h

  right_there : (good : Good) (sight : Sight) (p : Place) → at_place p ≡ good → Filters good sight → RightAt sight p
  right_there good sight p e f h = subst (λ z. ClockRight (standing other sight) z) (sym (at_kept good p e)) (right_keep good (standing at sight) (standing other sight) f (at p) h)

  module _ (B : Scope → Good) where
    mutual
      right_block : (z : Scope) (b : Block) (here : Place → Place) (out : Sight) → Under here (goods B z b) → Bases out → (p : Place) → RightAt (sights b here out p) (here p)
      right_block z (block ds es) here out u o (Named x ∷ []) =
          let r = B (with_variables z ds) in
          right_there r (sight_in ds es here out) (here (Named x ∷ [])) (u (Named x ∷ [])) (filters_in r es here (λ y. u (Named y ∷ [])) ds out o)
      right_block z (block ds es) here out u o (Equations ∷ p) =
          let r = B (with_variables z ds) in
          right_eqns (with_variables z ds) es (below Equations here) (sight_in ds es here out) (λ q. u (Equations ∷ q))
          (filters_in r es here (λ y. u (Named y ∷ [])) ds out o) (bases_in r es here (λ y. u (Named y ∷ [])) ds out o) p
      right_block z (block ds es) here out u o p = right_none (here p)

      right_eqns : (z : Scope) (es : Eqns) (here : Place → Place) (sight : Sight) → Under here (goods_all B z es) → Filters (B z) sight → Bases sight → (p : Place) → RightAt (sights_of_all es here sight p) (here p)
      right_eqns z (more_eqns e es) here sight u f o (Head ∷ p) = right_eqn z e (below Head here) sight (λ q. u (Head ∷ q)) f o p
      right_eqns z (more_eqns e es) here sight u f o (Tail ∷ p) = right_eqns z es (below Tail here) sight (λ q. u (Tail ∷ q)) f o p
      right_eqns z es here sight u f o p = right_none (here p)

      right_eqn : (z : Scope) (e : Eqn) (here : Place → Place) (sight : Sight) → Under here (goods_one B z e) → Filters (B z) sight → Bases sight → (p : Place) → RightAt (sights_of_one e here sight p) (here p)
      right_eqn z (define s ys e) here sight u f o (Right ∷ []) = right_there (B z) sight (here (Right ∷ [])) (u (Right ∷ [])) f
      right_eqn z (switch s e arms) here sight u f o (ArmsOf ∷ p) = right_arms z arms (below ArmsOf here) sight (λ q. u (ArmsOf ∷ q)) o p
      right_eqn z (reset s b e) here sight u f o (Body ∷ p) = right_block z b (below Body here) sight (λ q. u (Body ∷ q)) o p
      right_eqn z (automaton s ss) here sight u f o (StatesOf ∷ p) = right_states z ss (below StatesOf here) sight (λ q. u (StatesOf ∷ q)) o p
      right_eqn z e here sight u f o p = right_none (here p)

      right_arms : (z : Scope) (arms : Arms) (here : Place → Place) (sight : Sight) → Under here (goods_arms B z arms) → Bases sight → (p : Place) → RightAt (sights_of_arms arms here sight p) (here p)
      right_arms z (more_arms c b s arms) here sight u o (Head ∷ p) = right_block z b (below Head here) sight (λ q. u (Head ∷ q)) o p
      right_arms z (more_arms c b s arms) here sight u o (Tail ∷ p) = right_arms z arms (below Tail here) sight (λ q. u (Tail ∷ q)) o p
      right_arms z arms here sight u o p = right_none (here p)

      right_states : (z : Scope) (ss : States) (here : Place → Place) (sight : Sight) → Under here (goods_states B z ss) → Bases sight → (p : Place) → RightAt (sights_of_states ss here sight p) (here p)
      right_states z (more_states j b until unless s ss) here sight u o (Head ∷ Body ∷ p) = right_block z b (below Body (below Head here)) sight (λ q. u (Head ∷ Body ∷ q)) o p
      right_states z (more_states j b until unless s ss) here sight u o (Tail ∷ p) = right_states z ss (below Tail here) sight (λ q. u (Tail ∷ q)) o p
      right_states z ss here sight u o p = right_none (here p)

-- ---- what is good of all clocks of locals

module _ (B : Scope → Good) (at : Assignment) where
  module _ (at_place : Place → Good) (all : (p : Place) → AllGood (at_place p) (at p)) where
    local_good : (good : Good) (es : Eqns) (here : Place → Place) → ((x : List ℕ) → at_place (here (Named x ∷ [])) ≡ good) → (ds : List Decl) → LocalsGood B at good es here ds
    local_good good es here u [] = tt
    local_good good es here u (d ∷ ds) = (by d.last (controls_define es d.name), local_good good es here u ds)
      where
        by : (o : Option Const) (b : Bool) → AllGood good (value at (local_at o b (here (Named d.name ∷ []))))
        by None true = tt
        by None false = subst (λ z. AllGood z (at (here (Named d.name ∷ [])))) (u d.name) (all (here (Named d.name ∷ [])))
        by (Some c) b = tt

    mutual
      good_block : (z : Scope) (b : Block) (here : Place → Place) → Under at at_place here (goods B z b) → BlockHas B at z here b
      good_block z (block ds es) here u = (local_good (B (with_variables z ds)) es here (λ x. u (Named x ∷ [])) ds, good_eqns (with_variables z ds) es (below Equations here) (λ p. u (Equations ∷ p)))

      good_eqns : (z : Scope) (es : Eqns) (here : Place → Place) → Under at at_place here (goods_all B z es) → EqnsHave B at z here es
      good_eqns z no_eqn here u = tt
      good_eqns z (more_eqns e es) here u = (good_eqn z e (below Head here) (λ p. u (Head ∷ p)), good_eqns z es (below Tail here) (λ p. u (Tail ∷ p)))

      good_eqn : (z : Scope) (e : Eqn) (here : Place → Place) → Under at at_place here (goods_one B z e) → EqnHas B at z here e
      good_eqn z (define s ys e) here u = tt
      good_eqn z (switch s e arms) here u = good_arms z arms (below ArmsOf here) (λ p. u (ArmsOf ∷ p))
      good_eqn z (reset s b e) here u = good_block z b (below Body here) (λ p. u (Body ∷ p))
      good_eqn z (automaton s ss) here u = good_states z ss (below StatesOf here) (λ p. u (StatesOf ∷ p))

      good_arms : (z : Scope) (arms : Arms) (here : Place → Place) → Under at at_place here (goods_arms B z arms) → ArmsHave B at z here arms
      good_arms z no_arm here u = tt
      good_arms z (more_arms c b s arms) here u = (good_block z b (below Head here) (λ p. u (Head ∷ p)), good_arms z arms (below Tail here) (λ p. u (Tail ∷ p)))

      good_states : (z : Scope) (ss : States) (here : Place → Place) → Under at at_place here (goods_states B z ss) → StatesHave B at z here ss
      good_states z no_state here u = tt
      good_states z (more_states j b until unless s ss) here u = (good_block z b (below Body (below Head here)) (λ p. u (Head ∷ Body ∷ p)), good_states z ss (below Tail here) (λ p. u (Tail ∷ p)))

-- ---- nodes

-- a contract uses good steps alone
abbrev pub ContractGood : (Scope → Good) → Scope → Option Contract → Type 0
ContractGood B z None = ⊤
ContractGood B z (Some c) = BlockGood B z c.body × (ToldGood (B (inside z c.body)) c.assume × ToldGood (B (inside z c.body)) c.enforce)

-- and so do the clocks of its locals
abbrev pub ContractHas : (Scope → Good) → Assignment → Scope → Option Contract → Type 0
ContractHas B at z None = ⊤
ContractHas B at z (Some c) = BlockHas B at z in_observer c.body

abbrev in_contract : (Scope → Good) → Scope → Option Contract → Place → Good
in_contract B z None p = every
in_contract B z (Some c) p = goods B z c.body p

-- the contract of a node is read in one scope, its body in another
abbrev good_at : (Scope → Good) → Scope → Scope → Node → Place → Good
good_at B y z n (Observer ∷ p) = in_contract B y n.contract p
good_at B y z n (Body ∷ p) = goods B z n.body p
good_at B y z n p = every

module _ (B : Scope → Good) (at : Assignment) (at_place : Place → Good) (z : Scope) where
  allow_contract : (c : Option Contract) (out : Sight) → Under at at_place in_observer (in_contract B z c) → Bases at at_place out → ContractGood B z c → AllAllow at (contract_units out c) → AllAllow (other at at_place) (contract_units out c)
  allow_contract None out u o m h = tt
  allow_contract (Some c) out u o m h = by c.body c.assume c.enforce u m h
    where
      by : (b : Block) (assume enforce : Option Expr) → Under at at_place in_observer (goods B z b) → BlockGood B z b × (ToldGood (B (inside z b)) assume × ToldGood (B (inside z b)) enforce)
          → AllAllow at (units b in_observer out ++ (told (sight_of b in_observer out) assume ++ told (sight_of b in_observer out) enforce))
          → AllAllow (other at at_place) (units b in_observer out ++ (told (sight_of b in_observer out) assume ++ told (sight_of b in_observer out) enforce))
      by (block ds es) assume enforce v m i =
          let within = sight_in ds es in_observer out in
          let good = B (with_variables z ds) in
          let f = filters_in at at_place good es in_observer (λ x. v (Named x ∷ [])) ds out o in
          split at at_place (units (block ds es) in_observer out) (told within assume ++ told within enforce)
          (λ j. allow_block at at_place B z (block ds es) in_observer out v o m.0 j)
          (λ j. split at at_place (told within assume) (told within enforce) (λ k. told_allows at at_place good within f assume m.1.0 k) (λ k. told_allows at at_place good within f enforce m.1.1 k) j) i

  right_contract : (c : Option Contract) (out : Sight) → Under at at_place in_observer (in_contract B z c) → Bases at at_place out → (p : Place) → RightAt at at_place (contract_sights c out p) (Observer ∷ p)
  right_contract None out u o p = right_none at at_place (Observer ∷ p)
  right_contract (Some c) out u o p = right_block at at_place B z c.body in_observer out u o p

  contract_has : (all : (p : Place) → AllGood (at_place p) (at p)) (c : Option Contract) → Under at at_place in_observer (in_contract B z c) → ContractHas B at z c
  contract_has all None u = tt
  contract_has all (Some c) u = good_block B at at_place all z c.body in_observer u

pub clocks_good : (B : Scope → Good) (y z : Scope) (n : Node) (at : Assignment) → ContractGood B y n.contract → BlockGood B z n.body → IsShortest (IsAllowed n) at → ContractHas B at y n.contract × BlockHas B at z in_body n.body
clocks_good B y z n at mc m s =
    let there = good_at B y z n in
    let ug : Under at there in_observer (in_contract B y n.contract) = λ p. refl in
    let ub : Under at there in_body (goods B z n.body) = λ p. refl in
    let on_base : (b : Bool) → SeenBase at there (known_on_base b) = λ b. based b in
    let og : Bases at there (contract_sight n) = λ x. on_base (declares n.inputs x || declares n.outputs x) in
    let ob : Bases at there (body_sight n) = λ x. on_base (declares n.inputs x || (declares n.outputs x || declares (controls_of n.contract) x)) in
    let rest = s.1 (other at there) (
      (λ p. right there ug ub og ob p (s.0.0 p)),
      split at there (contract_units (contract_sight n) n.contract) (units n.body in_body (body_sight n)) (λ i. allow_contract B at there y n.contract (contract_sight n) ug og mc i) (λ i. allow_block at there B z n.body in_body (body_sight n) ub ob m i) s.0.1,
    ) in
    let all : (p : Place) → AllGood (there p) (at p) = λ p. kept_good (there p) (at p) (rest p).0 (rest p).1 in
    (contract_has B at there y all n.contract ug, good_block B at there all z n.body in_body ub)
  where
    based : (b : Bool) → SeenBase at (good_at B y z n) (known_on_base b)
    based true = λ e. refl
    based false = tt

    right : (there : Place → Good) → Under at there in_observer (in_contract B y n.contract) → Under at there in_body (goods B z n.body) → Bases at there (contract_sight n) → Bases at there (body_sight n) → (p : Place) → RightAt at there (node_sights n p) p
    right there ug ub og ob (Observer ∷ p) = right_contract B at there y n.contract (contract_sight n) ug og p
    right there ug ub og ob (Body ∷ p) = right_block at there B z n.body in_body (body_sight n) ub ob p
    right there ug ub og ob p = right_none at there p
