-- The names of the shortest clocks of a node are First, where what its units want is: without the steps whose names are Second the clocks are allowed as well.
use Rattle.std.proofs.Common.{◌≡◌, ℕ, zero, suc, ◌+◌, ◌≤◌, length, List, [], ◌∷◌, ◌++◌, map, reverse, refl, sym, ap, ap₂, subst, ◌∙◌, length-append, arith}
use Rattle.std.proofs.lemmas.List.{reverse-append}
use Rattle.std.specs.Str.{bytes_eq}
use Rattle.std.specs.Prelude.{⊤, Bool, true, false, ◌&&◌, ◌||◌, not, is_some, IsTrue, IsFalse, if◌then◌else◌, Option, None, Some, option_map}
use Rattle.hp_base.specs.declared.span.Span.{Span}
use Rattle.hp_base.specs.declared.ty.Const.{Const}
use Rattle.hp_tree.specs.declared.block.Trans.{Trans}
use Rattle.hp_tree.specs.Expressions.{Expr, constant, variable, last_of, one, two, choose, pre, fby, arrow, when_is, merge, call, Exprs, no_expr, more_exprs, Parts, no_part, more_parts}
use Rattle.hp_tree.specs.Blocks.{Decl, Block, block, Eqns, no_eqn, more_eqns, Eqn, define, switch, reset, automaton, Arms, no_arm, more_arms, States, no_state, more_states}
use Rattle.hp_tree.specs.Programs.{Contract, Node}
use Rattle.hp_tree.specs.Instant.{Body, Observer, Named, Equations, Head, Tail, Right, Arms as ArmsOf, States as StatesOf, Place, Clock, without}
use Rattle.hp_tree.specs.Meaning.{declares, some_defines, controls_of}
use Rattle.hp_meaning.specs.Causal.Sources.{below}
use Rattle.hp_meaning.specs.Causal.Points.{span_of}
use Rattle.hp_meaning.specs.Causal.Clocked.{Standing, base_alone, ClockRight, IsOn, ExprsOn, PartsOn}
use Rattle.hp_meaning.specs.Clocking.Terms.{value, IsShortest}
use Rattle.hp_meaning.specs.Clocking.Clocking.{On, Term, Assignment, base, open_at, Seen, nowhere, own, further, Sight, from_inside, seen_on, standing, controls_define, local_at, local_term, term_in, sight_in, sight_of, ClockUnit, declared, equated, tested, AllAre, Allows, AllAllow, declarations, conditions, units, units_of_all, units_of_one, units_of_arms, units_of_states, known_on_base, contract_sight, body_sight, told, in_observer, in_body, contract_units, node_units, no_sight, sights, sights_of_all, sights_of_one, sights_of_arms, sights_of_states, contract_sights, node_sights, AreClocks, IsAllowed}
use Rattle.hp_init.specs.Classes as classes
use Rattle.hp_init.specs.Classes.{Classes, Known, known_in, known_within, known_outputs, is_second}
use Rattle.hp_init.specs.Wants.{is_met, are_first, parts_first, is_first, Wish, path_first, of_clock, of_decls, of_test, of_tests, definition_met, some_must, of_block, of_eqns, of_eqn, of_arms, of_states, of_told, of_contract, of_node}
use Rattle.hp_init.specs.Initialised.{first_unmet}
use Rattle.law_values.proofs.ValuedLemmas.Joined.{met_left, met_right, met_one}
use Rattle.law_values.proofs.ValuedLemmas.Laws.{and_left, and_right}
use Rattle.law_values.specs.Accepted.ClocksFirst.{AllFirst, LocalsFirst, BlockFirst, EqnsFirst, EqnFirst, ArmsFirst, StatesFirst, ContractFirst, NodeFirst}

-- ---- a clock without its steps whose names are Second

abbrev keep : Classes → Clock → Clock
keep second [] = []
keep second (on ∷ clock) = if second on.1 then keep second clock else on ∷ keep second clock

keep_first : (second : Classes) (on : On) (clock : Clock) → IsFalse (second on.1) → keep second (on ∷ clock) ≡ on ∷ keep second clock
keep_first second on clock f = ap (λ b. if b then keep second clock else on ∷ keep second clock) f

keep_all : (second : Classes) (clock : Clock) → AllFirst second clock → keep second clock ≡ clock
keep_all second [] f = refl
keep_all second (on ∷ clock) f = keep_first second on clock f.0 ∙ ap (λ c. on ∷ c) (keep_all second clock f.1)

keep_shorter : (second : Classes) (clock : Clock) → length (keep second clock) ≤ length clock
keep_shorter second [] = omega arith
keep_shorter second (on ∷ clock) = by (second on.1) (keep_shorter second clock)
  where
    by : (b : Bool) → length (keep second clock) ≤ length clock → length (if b then keep second clock else on ∷ keep second clock) ≤ suc (length clock)
    by true h = omega (arith, h)
    by false h = omega (arith, h)

abbrev others : Clock → Clock
others [] = []
others (on ∷ clock) = clock

too_long : (second : Classes) (on : On) (clock rest : Clock) → keep second clock ≡ on ∷ (clock ++ rest) → ⊥
too_long second on clock rest h = omega (arith, keep_shorter second clock, ap length h, length-append clock rest)

kept_first : (second : Classes) (clock rest : Clock) → keep second clock ≡ clock ++ rest → AllFirst second clock
kept_first second [] rest h = tt
kept_first second (on ∷ clock) rest h = by (second on.1) refl h (λ z. kept_first second clock rest z)
  where
    by : (b : Bool) → second on.1 ≡ b → (if b then keep second clock else on ∷ keep second clock) ≡ on ∷ (clock ++ rest) → (keep second clock ≡ clock ++ rest → AllFirst second clock) → IsFalse (second on.1) × AllFirst second clock
    by true e z f = absurd (too_long second on clock rest z)
    by false e z f = (e, f (ap others z))

first_append : (second : Classes) (xs ys : Clock) → AllFirst second xs → AllFirst second ys → AllFirst second (xs ++ ys)
first_append second [] ys h k = k
first_append second (on ∷ xs) ys h k = (h.0, first_append second xs ys h.1 k)

is_not : (b : Bool) → IsTrue (not b) → IsFalse b
is_not true h = absurd (cc)
is_not false h = refl

reversed : (second : Classes) (path : Clock) → IsTrue (path_first second path) → AllFirst second (reverse path)
reversed second [] h = tt
reversed second (on ∷ path) h =
    subst (λ z. AllFirst second z) (sym (reverse-append (on ∷ []) path))
    (first_append second (reverse path) (on ∷ []) (reversed second path (and_right (not (second on.1)) (path_first second path) h)) (is_not (second on.1) (and_left (not (second on.1)) (path_first second path) h), tt))

-- ---- where names stand on such clocks

abbrev Follows : Classes → Standing → Standing → Type 0
Follows second st ot = (x : List ℕ) (c : Clock) → st x ≡ Some c → ot x ≡ Some (keep second c)

module _ (second : Classes) (st ot : Standing) (f : Follows second st ot) where
  right_keep : (c : Clock) → ClockRight st c → ClockRight ot (keep second c)
  right_keep [] h = tt
  right_keep (on ∷ clock) h = by (second on.1) (right_keep clock h.1)
    where
      by : (b : Bool) → ClockRight ot (keep second clock) → ClockRight ot (if b then keep second clock else on ∷ keep second clock)
      by true r = r
      by false r = (f on.1 clock h.0, r)

  abbrev WhenOn : On → Expr → Clock → Type 0
  WhenOn on a c = (c ≡ on ∷ without c) × (ot on.1 ≡ Some (without c)) × IsOn ot a (without c)

  mutual
    on_keep : (e : Expr) (c : Clock) → IsTrue (is_met second e) → IsOn st e c → IsOn ot e (keep second c)
    on_keep (constant s v) c m h = tt
    on_keep (variable s x) c m h = f x c h
    on_keep (last_of s x) c m h = ap (keep second) h
    on_keep (one s o a) c m h = on_keep a c m h
    on_keep (two s o a b) c m h = (on_keep a c (and_left (is_met second a) (is_met second b) m) h.0, on_keep b c (and_right (is_met second a) (is_met second b) m) h.1)
    on_keep (choose s a b d) c m h =
        let n = and_right (is_met second a) (is_met second b && is_met second d) m in
        (on_keep a c (and_left (is_met second a) (is_met second b && is_met second d) m) h.0, on_keep b c (and_left (is_met second b) (is_met second d) n) h.1, on_keep d c (and_right (is_met second b) (is_met second d) n) h.2)
    on_keep (pre s a) c m h = on_keep a c (and_left (is_met second a) (not (is_second second a)) m) h
    on_keep (fby s a b) c m h =
        let n = and_right (is_met second a) (is_met second b && not (is_second second b)) m in
        (on_keep a c (and_left (is_met second a) (is_met second b && not (is_second second b)) m) h.0, on_keep b c (and_left (is_met second b) (not (is_second second b)) n) h.1)
    on_keep (arrow s a b) c m h = (on_keep a c (and_left (is_met second a) (is_met second b) m) h.0, on_keep b c (and_right (is_met second a) (is_met second b) m) h.1)
    on_keep (when_is s a d x) c m h =
        let w = without c in
        let first = is_not (second x) (and_right (is_met second a) (not (second x)) m) in
        subst (λ z. WhenOn (d, x) a z) (sym (ap (keep second) h.0 ∙ keep_first second (d, x) w first)) (refl, f x w h.1, on_keep a w (and_left (is_met second a) (not (second x)) m) h.2)
    on_keep (merge s x ps) c m h =
        (f x c h.0, parts_keep x ps c (is_not (second x) (and_left (not (second x)) (parts_first second ps) m)) (and_right (not (second x)) (parts_first second ps) m) h.1)
    on_keep (call s g i es) c m h = exprs_keep es c m h

    exprs_keep : (es : Exprs) (c : Clock) → IsTrue (are_first second es) → ExprsOn st es c → ExprsOn ot es (keep second c)
    exprs_keep no_expr c m h = tt
    exprs_keep (more_exprs e es) c m h =
        let a = is_met second e in
        let b = not (is_second second e) in
        (on_keep e c (and_left a b (and_left (a && b) (are_first second es) m)) h.0, exprs_keep es c (and_right (a && b) (are_first second es) m) h.1)

    parts_keep : (x : List ℕ) (ps : Parts) (c : Clock) → IsFalse (second x) → IsTrue (parts_first second ps) → PartsOn st x ps c → PartsOn ot x ps (keep second c)
    parts_keep x no_part c y m h = tt
    parts_keep x (more_parts d e ps) c y m h =
        let a = is_met second e in
        let b = not (is_second second e) in (
          subst (λ z. IsOn ot e z) (keep_first second (d, x) c y) (on_keep e ((d, x) ∷ c) (and_left a b (and_left (a && b) (parts_first second ps) m)) h.0),
          parts_keep x ps c y (and_right (a && b) (parts_first second ps) m) h.1,
        )

none_keep : (second : Classes) (st ot : Standing) → ((x : List ℕ) → st x ≡ None) → (c : Clock) → ClockRight st c → ClockRight ot (keep second c)
none_keep second st ot n c h = right_keep second st ot (λ x d e. absurd (no (sym (n x) ∙ e))) c h
  where
    no : {d : Clock} → None ≡ Some d → ⊥
    no h = absurd (cc)

-- ---- the classes of names where each clock stands

none : Classes
none x = false

abbrev mutual
  knows : Known → classes.Assignment → Block → Place → Classes
  knows k class (block ds es) (Named x ∷ []) = (known_in (block ds es) class k).values
  knows k class (block ds es) (Equations ∷ p) = knows_all (known_in (block ds es) class k) (λ q. class (Equations ∷ q)) es p
  knows k class b p = none

  knows_all : Known → classes.Assignment → Eqns → Place → Classes
  knows_all k class (more_eqns e es) (Head ∷ p) = knows_one k (λ q. class (Head ∷ q)) e p
  knows_all k class (more_eqns e es) (Tail ∷ p) = knows_all k (λ q. class (Tail ∷ q)) es p
  knows_all k class es p = none

  knows_one : Known → classes.Assignment → Eqn → Place → Classes
  knows_one k class (define s ys e) (Right ∷ []) = k.values
  knows_one k class (switch s e arms) (ArmsOf ∷ p) = knows_arms (known_within (switch s e arms) k) (λ q. class (ArmsOf ∷ q)) arms p
  knows_one k class (reset s b e) (Body ∷ p) = knows (known_within (reset s b e) k) (λ q. class (Body ∷ q)) b p
  knows_one k class (automaton s ss) (StatesOf ∷ p) = knows_states (known_within (automaton s ss) k) (λ q. class (StatesOf ∷ q)) ss p
  knows_one k class e p = none

  knows_arms : Known → classes.Assignment → Arms → Place → Classes
  knows_arms k class (more_arms c b s arms) (Head ∷ p) = knows k (λ q. class (Head ∷ q)) b p
  knows_arms k class (more_arms c b s arms) (Tail ∷ p) = knows_arms k (λ q. class (Tail ∷ q)) arms p
  knows_arms k class arms p = none

  knows_states : Known → classes.Assignment → States → Place → Classes
  knows_states k class (more_states f b until unless s ss) (Head ∷ Body ∷ p) = knows k (λ q. class (Head ∷ Body ∷ q)) b p
  knows_states k class (more_states f b until unless s ss) (Tail ∷ p) = knows_states k (λ q. class (Tail ∷ q)) ss p
  knows_states k class ss p = none

abbrev knows_contract : Known → classes.Assignment → Option Contract → Place → Classes
knows_contract k class None p = none
knows_contract k class (Some c) p = knows k class c.body p

abbrev knows_node : classes.Assignment → Node → Place → Classes
knows_node class n (Observer ∷ p) = knows_contract (known_outputs n class) (λ q. class (Observer ∷ q)) n.contract p
knows_node class n (Body ∷ p) = knows (known_outputs n class) (λ q. class (Body ∷ q)) n.body p
knows_node class n p = none

-- ---- the clocks of a node, with all steps and without those whose names are Second

module _ (at : Assignment) (at_place : Place → Classes) where
  abbrev other : Assignment
  other p = keep (at_place p) (at p)

  abbrev Under : (Place → Place) → (Place → Classes) → Type 0
  Under here local = (p : Place) → at_place (here p) ≡ local p

  abbrev Kept : Classes → Term → Type 0
  Kept second t = value other t ≡ keep second (value at t)

  abbrev SeenBase : Seen → Type 0
  SeenBase nowhere = ⊤
  SeenBase (own t) = value at t ≡ [] → value other t ≡ []
  SeenBase (further t) = value at t ≡ [] → value other t ≡ []

  abbrev Bases : Sight → Type 0
  Bases sight = (x : List ℕ) → SeenBase (sight x)

  abbrev Filters : Classes → Sight → Type 0
  Filters second sight = Follows second (standing at sight) (standing other sight)

  inside_base : (s : Seen) → SeenBase s → SeenBase (from_inside s)
  inside_base nowhere h = tt
  inside_base (own t) h = h
  inside_base (further t) h = h

  base_keep : (second : Classes) (v w : Clock) (c : Clock) → (v ≡ [] → w ≡ []) → base_alone (Some v) ≡ Some c → base_alone (Some w) ≡ Some (keep second c)
  base_keep second [] w c f h = subst (λ z. base_alone (Some z) ≡ Some (keep second c)) (sym (f refl)) (ap (option_map (keep second)) h)
  base_keep second (on ∷ v) w c f h = absurd (cc)

  seen_keep : (second : Classes) (s : Seen) → SeenBase s → (c : Clock) → seen_on at (from_inside s) ≡ Some c → seen_on other (from_inside s) ≡ Some (keep second c)
  seen_keep second nowhere b c h = absurd (cc)
  seen_keep second (own t) b c h = base_keep second (value at t) (value other t) c b h
  seen_keep second (further t) b c h = base_keep second (value at t) (value other t) c b h

  at_kept : (second : Classes) (p : Place) → at_place p ≡ second → Kept second (open_at p)
  at_kept second p e = ap (λ z. keep z (at p)) e

  module _ (second : Classes) (es : Eqns) (here : Place → Place) (u : (x : List ℕ) → at_place (here (Named x ∷ [])) ≡ second) where
    local_kept : (d : Decl) → Kept second (local_term es here d)
    local_kept d = by d.last (controls_define es d.name)
      where
        by : (o : Option Const) (b : Bool) → Kept second (local_at o b (here (Named d.name ∷ [])))
        by None true = refl
        by None false = at_kept second (here (Named d.name ∷ [])) (u d.name)
        by (Some c) b = refl

    term_kept : (ds : List Decl) (x : List ℕ) → Kept second (term_in es here ds x)
    term_kept [] x = refl
    term_kept (d ∷ ds) x = by (bytes_eq d.name x) (term_kept ds x)
      where
        by : (b : Bool) → Kept second (term_in es here ds x) → Kept second (if b then local_term es here d else term_in es here ds x)
        by true r = local_kept d
        by false r = r

    filters_in : (ds : List Decl) (out : Sight) → Bases out → Filters second (sight_in ds es here out)
    filters_in ds out o x c h = by (some_defines es x) h
      where
        by : (b : Bool) → seen_on at (if b then own (term_in es here ds x) else from_inside (out x)) ≡ Some c → seen_on other (if b then own (term_in es here ds x) else from_inside (out x)) ≡ Some (keep second c)
        by true e = ap Some (term_kept ds x) ∙ ap (option_map (keep second)) e
        by false e = seen_keep second (out x) (o x) c e

    bases_in : (ds : List Decl) (out : Sight) → Bases out → Bases (sight_in ds es here out)
    bases_in ds out o x = by (some_defines es x)
      where
        by : (b : Bool) → SeenBase (if b then own (term_in es here ds x) else from_inside (out x))
        by true = λ e. term_kept ds x ∙ ap (keep second) e
        by false = inside_base (out x) (o x)

    -- declarations allow
    decls_allow : (sight : Sight) → Filters second sight → (ds : List Decl) → first_unmet (of_decls second ds) ≡ None → AllAllow at (declarations sight es here ds) → AllAllow other (declarations sight es here ds)
    decls_allow sight f [] m h = tt
    decls_allow sight f (d ∷ ds) m h = tie d.clock m h (λ n k. decls_allow sight f ds n k)
      where
        tie : (o : Option (List On)) → first_unmet (of_clock second d.span o ++ of_decls second ds) ≡ None
            → AllAllow at (elim o [ None ↦ declarations sight es here ds | Some path ↦ declared d.span sight (local_term es here d) (reverse path) ∷ declarations sight es here ds ])
            → (first_unmet (of_decls second ds) ≡ None → AllAllow at (declarations sight es here ds) → AllAllow other (declarations sight es here ds))
            → AllAllow other (elim o [ None ↦ declarations sight es here ds | Some path ↦ declared d.span sight (local_term es here d) (reverse path) ∷ declarations sight es here ds ])
        tie None n k rest = rest n k
        tie (Some path) n k rest =
            let w : Wish = record { at = d.span; met = path_first second path } in
            let all = keep_all second (reverse path) (reversed second path (met_one w (met_left (w ∷ []) (of_decls second ds) n))) in (
              (subst (λ z. ClockRight (standing other sight) z) all (right_keep second (standing at sight) (standing other sight) f (reverse path) k.0.0), local_kept d ∙ ap (keep second) k.0.1 ∙ all),
              rest (met_right (w ∷ []) (of_decls second ds) n) k.1,
            )

  abbrev known_values : Known → classes.Assignment → Block → Classes
  known_values k class b = (known_in b class k).values

  filters_of : (k : Known) (class : classes.Assignment) (b : Block) (here : Place → Place) (out : Sight) → Under here (knows k class b) → Bases out → Filters (known_values k class b) (sight_of b here out)
  filters_of k class (block ds es) here out u o = filters_in (known_in (block ds es) class k).values es here (λ x. u (Named x ∷ [])) ds out o

  -- ---- what units allow

  allow_left : (us vs : List ClockUnit) → AllAllow at (us ++ vs) → AllAllow at us
  allow_left [] vs h = tt
  allow_left (w ∷ us) vs h = (h.0, allow_left us vs h.1)

  allow_right : (us vs : List ClockUnit) → AllAllow at (us ++ vs) → AllAllow at vs
  allow_right [] vs h = h
  allow_right (w ∷ us) vs h = allow_right us vs h.1

  allow_both : (us vs : List ClockUnit) → AllAllow other us → AllAllow other vs → AllAllow other (us ++ vs)
  allow_both [] vs h k = k
  allow_both (w ∷ us) vs h k = (h.0, allow_both us vs h.1 k)

  split : (us vs : List ClockUnit) (ws xs : List Wish) → (first_unmet ws ≡ None → AllAllow at us → AllAllow other us) → (first_unmet xs ≡ None → AllAllow at vs → AllAllow other vs) → first_unmet (ws ++ xs) ≡ None → AllAllow at (us ++ vs) → AllAllow other (us ++ vs)
  split us vs ws xs f g m h = allow_both us vs (f (met_left ws xs m) (allow_left us vs h)) (g (met_right ws xs m) (allow_right us vs h))

  test_allows : (second : Classes) (sight : Sight) → Filters second sight → (e : Expr) → first_unmet (of_test second e) ≡ None → AllAllow at (tested (span_of e) sight e ∷ []) → AllAllow other (tested (span_of e) sight e ∷ [])
  test_allows second sight f e m h =
      (on_keep second (standing at sight) (standing other sight) f e [] (and_left (is_met second e) (not (is_second second e)) (met_one (record { at = span_of e; met = is_first second e }) m)) h.0, tt)

  tests_allow : (second : Classes) (sight : Sight) → Filters second sight → (ts : List Trans) → first_unmet (of_tests second ts) ≡ None → AllAllow at (conditions sight ts) → AllAllow other (conditions sight ts)
  tests_allow second sight f [] m h = tt
  tests_allow second sight f (t ∷ ts) m h =
      split (tested (span_of t.cond) sight t.cond ∷ []) (conditions sight ts) (of_test second t.cond) (of_tests second ts)
      (λ n k. test_allows second sight f t.cond n k) (λ n k. tests_allow second sight f ts n k) m h

  told_allows : (second : Classes) (sight : Sight) → Filters second sight → (o : Option Expr) → first_unmet (of_told second o) ≡ None → AllAllow at (told sight o) → AllAllow other (told sight o)
  told_allows second sight f None m h = tt
  told_allows second sight f (Some e) m h = test_allows second sight f e m h

  lefts_keep : (second : Classes) (left : List ℕ → Term) → ((x : List ℕ) → Kept second (left x)) → (ys : List (List ℕ × Span)) (c : Clock) → AllAre at (map (λ y. left y.0) ys) c → AllAre other (map (λ y. left y.0) ys) (keep second c)
  lefts_keep second left l [] c h = tt
  lefts_keep second left l (y ∷ ys) c h = (l y.0 ∙ ap (keep second) h.0, lefts_keep second left l ys c h.1)

  mutual
    allow_block : (k : Known) (class : classes.Assignment) (b : Block) (here : Place → Place) (out : Sight) → Under here (knows k class b) → Bases out → first_unmet (of_block k class b) ≡ None → AllAllow at (units b here out) → AllAllow other (units b here out)
    allow_block k class (block ds es) here out u o m h =
        let z = known_in (block ds es) class k in
        let c : classes.Assignment = λ p. class (Equations ∷ p) in
        let sight = sight_in ds es here out in
        let named : (x : List ℕ) → at_place (here (Named x ∷ [])) ≡ z.values = λ x. u (Named x ∷ []) in
        let f = filters_in z.values es here named ds out o in
        split (declarations sight es here ds) (units_of_all es (below Equations here) sight (λ x. term_in es here ds x)) (of_decls z.values ds) (of_eqns z ds c es)
        (λ n i. decls_allow z.values es here named sight f ds n i)
        (λ n i. allow_eqns z ds c es (below Equations here) sight (λ x. term_in es here ds x) (λ p. u (Equations ∷ p)) f (bases_in z.values es here named ds out o) (λ x. term_kept z.values es here named ds x) n i) m h

    allow_eqns : (k : Known) (ds : List Decl) (class : classes.Assignment) (es : Eqns) (here : Place → Place) (sight : Sight) (left : List ℕ → Term) → Under here (knows_all k class es) → Filters k.values sight → Bases sight → ((x : List ℕ) → Kept k.values (left x)) → first_unmet (of_eqns k ds class es) ≡ None → AllAllow at (units_of_all es here sight left) → AllAllow other (units_of_all es here sight left)
    allow_eqns k ds class no_eqn here sight left u f o l m h = tt
    allow_eqns k ds class (more_eqns e es) here sight left u f o l m h =
        split (units_of_one e (below Head here) sight left) (units_of_all es (below Tail here) sight left) (of_eqn k ds (λ p. class (Head ∷ p)) e) (of_eqns k ds (λ p. class (Tail ∷ p)) es)
        (λ n i. allow_eqn k ds (λ p. class (Head ∷ p)) e (below Head here) sight left (λ p. u (Head ∷ p)) f o l n i)
        (λ n i. allow_eqns k ds (λ p. class (Tail ∷ p)) es (below Tail here) sight left (λ p. u (Tail ∷ p)) f o l n i) m h

    allow_eqn : (k : Known) (ds : List Decl) (class : classes.Assignment) (e : Eqn) (here : Place → Place) (sight : Sight) (left : List ℕ → Term) → Under here (knows_one k class e) → Filters k.values sight → Bases sight → ((x : List ℕ) → Kept k.values (left x)) → first_unmet (of_eqn k ds class e) ≡ None → AllAllow at (units_of_one e here sight left) → AllAllow other (units_of_one e here sight left)
    allow_eqn k ds class (define s ys e) here sight left u f o l m h =
        let c = at (here (Right ∷ [])) in
        let met = and_left (is_met k.values e) (not (some_must ds ys && is_second k.values e)) (met_one (record { at = s; met = definition_met k.values ds ys e }) m) in (
          subst (λ z. AllAre other (map (λ y. left y.0) ys) z × IsOn (standing other sight) e z) (sym (at_kept k.values (here (Right ∷ [])) (u (Right ∷ []))))
              (lefts_keep k.values left l ys c h.0.0, on_keep k.values (standing at sight) (standing other sight) f e c met h.0.1),
          tt,
        )
    allow_eqn k ds class (switch s e arms) here sight left u f o l m h =
        let c : classes.Assignment = λ p. class (ArmsOf ∷ p) in
        split (tested (span_of e) sight e ∷ []) (units_of_arms arms (below ArmsOf here) sight) (of_test k.values e) (of_arms (known_within (switch s e arms) k) c arms)
        (λ n i. test_allows k.values sight f e n i) (λ n i. allow_arms (known_within (switch s e arms) k) c arms (below ArmsOf here) sight (λ p. u (ArmsOf ∷ p)) o n i) m h
    allow_eqn k ds class (reset s b e) here sight left u f o l m h =
        let c : classes.Assignment = λ p. class (Body ∷ p) in
        split (units b (below Body here) sight) (tested (span_of e) sight e ∷ []) (of_block (known_within (reset s b e) k) c b) (of_test k.values e)
        (λ n i. allow_block (known_within (reset s b e) k) c b (below Body here) sight (λ p. u (Body ∷ p)) o n i) (λ n i. test_allows k.values sight f e n i) m h
    allow_eqn k ds class (automaton s ss) here sight left u f o l m h =
        allow_states k (known_within (automaton s ss) k) (λ p. class (StatesOf ∷ p)) ss (below StatesOf here) sight (λ p. u (StatesOf ∷ p)) f o m h

    allow_arms : (k : Known) (class : classes.Assignment) (arms : Arms) (here : Place → Place) (sight : Sight) → Under here (knows_arms k class arms) → Bases sight → first_unmet (of_arms k class arms) ≡ None → AllAllow at (units_of_arms arms here sight) → AllAllow other (units_of_arms arms here sight)
    allow_arms k class no_arm here sight u o m h = tt
    allow_arms k class (more_arms c b s arms) here sight u o m h =
        split (units b (below Head here) sight) (units_of_arms arms (below Tail here) sight) (of_block k (λ p. class (Head ∷ p)) b) (of_arms k (λ p. class (Tail ∷ p)) arms)
        (λ n i. allow_block k (λ p. class (Head ∷ p)) b (below Head here) sight (λ p. u (Head ∷ p)) o n i)
        (λ n i. allow_arms k (λ p. class (Tail ∷ p)) arms (below Tail here) sight (λ p. u (Tail ∷ p)) o n i) m h

    allow_states : (out k : Known) (class : classes.Assignment) (ss : States) (here : Place → Place) (sight : Sight) → Under here (knows_states k class ss) → Filters out.values sight → Bases sight → first_unmet (of_states out k class ss) ≡ None → AllAllow at (units_of_states ss here sight) → AllAllow other (units_of_states ss here sight)
    allow_states out k class no_state here sight u f o m h = tt
    allow_states out k class (more_states j b until unless s ss) here sight u f o m h =
        let c : classes.Assignment = λ p. class (Head ∷ Body ∷ p) in
        let g : Place → Place = below Body (below Head here) in
        let inner = known_values k c b in
        let within = sight_of b g sight in
        let t : classes.Assignment = λ p. class (Tail ∷ p) in
        split (units b g sight) (conditions within until ++ (conditions sight unless ++ units_of_states ss (below Tail here) sight)) (of_block k c b) (of_tests inner until ++ (of_tests out.values unless ++ of_states out k t ss))
        (λ n i. allow_block k c b g sight (λ p. u (Head ∷ Body ∷ p)) o n i)
        (λ n i. split (conditions within until) (conditions sight unless ++ units_of_states ss (below Tail here) sight) (of_tests inner until) (of_tests out.values unless ++ of_states out k t ss)
        (λ n' i'. tests_allow inner within (filters_of k c b g sight (λ p. u (Head ∷ Body ∷ p)) o) until n' i')
        (λ n' i'. split (conditions sight unless) (units_of_states ss (below Tail here) sight) (of_tests out.values unless) (of_states out k t ss)
        (λ n'' i''. tests_allow out.values sight f unless n'' i'') (λ n'' i''. allow_states out k t ss (below Tail here) sight (λ p. u (Tail ∷ p)) f o n'' i'') n' i') n i) m h

  allow_contract : (k : Known) (class : classes.Assignment) (c : Option Contract) (out : Sight) → Under in_observer (knows_contract k class c) → Bases out → first_unmet (of_contract k class c) ≡ None → AllAllow at (contract_units out c) → AllAllow other (contract_units out c)
  allow_contract k class None out u o m h = tt
  allow_contract k class (Some c) out u o m h =
      let inner = known_values k class c.body in
      let within = sight_of c.body in_observer out in
      let f = filters_of k class c.body in_observer out u o in
      split (units c.body in_observer out) (told within c.assume ++ told within c.enforce) (of_block k class c.body) (of_told inner c.assume ++ of_told inner c.enforce)
      (λ n i. allow_block k class c.body in_observer out u o n i)
      (λ n i. split (told within c.assume) (told within c.enforce) (of_told inner c.assume) (of_told inner c.enforce) (λ n' i'. told_allows inner within f c.assume n' i') (λ n' i'. told_allows inner within f c.enforce n' i') n i) m h

  -- ---- the clocks at places are right

  abbrev RightAt : Sight → Place → Type 0
  RightAt sight p = ClockRight (standing at sight) (at p) → ClockRight (standing other sight) (other p)

  right_none : (p : Place) → RightAt no_sight p
  right_none p h = none_keep (at_place p) (standing at no_sight) (standing other no_sight) (λ x. refl) (at p) h

  right_there : (second : Classes) (sight : Sight) (p : Place) → at_place p ≡ second → Filters second sight → RightAt sight p
  right_there second sight p e f h = subst (λ z. ClockRight (standing other sight) z) (sym (at_kept second p e)) (right_keep second (standing at sight) (standing other sight) f (at p) h)

  mutual
    right_block : (k : Known) (class : classes.Assignment) (b : Block) (here : Place → Place) (out : Sight) → Under here (knows k class b) → Bases out → (p : Place) → RightAt (sights b here out p) (here p)
    right_block k class (block ds es) here out u o (Named x ∷ []) =
        let z = known_in (block ds es) class k in
        right_there z.values (sight_in ds es here out) (here (Named x ∷ [])) (u (Named x ∷ [])) (filters_in z.values es here (λ y. u (Named y ∷ [])) ds out o)
    right_block k class (block ds es) here out u o (Equations ∷ p) =
        let z = known_in (block ds es) class k in
        right_eqns z (λ q. class (Equations ∷ q)) es (below Equations here) (sight_in ds es here out) (λ q. u (Equations ∷ q))
        (filters_in z.values es here (λ y. u (Named y ∷ [])) ds out o) (bases_in z.values es here (λ y. u (Named y ∷ [])) ds out o) p
    right_block k class (block ds es) here out u o p = right_none (here p)

    right_eqns : (k : Known) (class : classes.Assignment) (es : Eqns) (here : Place → Place) (sight : Sight) → Under here (knows_all k class es) → Filters k.values sight → Bases sight → (p : Place) → RightAt (sights_of_all es here sight p) (here p)
    right_eqns k class (more_eqns e es) here sight u f o (Head ∷ p) = right_eqn k (λ q. class (Head ∷ q)) e (below Head here) sight (λ q. u (Head ∷ q)) f o p
    right_eqns k class (more_eqns e es) here sight u f o (Tail ∷ p) = right_eqns k (λ q. class (Tail ∷ q)) es (below Tail here) sight (λ q. u (Tail ∷ q)) f o p
    right_eqns k class es here sight u f o p = right_none (here p)

    right_eqn : (k : Known) (class : classes.Assignment) (e : Eqn) (here : Place → Place) (sight : Sight) → Under here (knows_one k class e) → Filters k.values sight → Bases sight → (p : Place) → RightAt (sights_of_one e here sight p) (here p)
    right_eqn k class (define s ys e) here sight u f o (Right ∷ []) = right_there k.values sight (here (Right ∷ [])) (u (Right ∷ [])) f
    right_eqn k class (switch s e arms) here sight u f o (ArmsOf ∷ p) = right_arms (known_within (switch s e arms) k) (λ q. class (ArmsOf ∷ q)) arms (below ArmsOf here) sight (λ q. u (ArmsOf ∷ q)) o p
    right_eqn k class (reset s b e) here sight u f o (Body ∷ p) = right_block (known_within (reset s b e) k) (λ q. class (Body ∷ q)) b (below Body here) sight (λ q. u (Body ∷ q)) o p
    right_eqn k class (automaton s ss) here sight u f o (StatesOf ∷ p) = right_states (known_within (automaton s ss) k) (λ q. class (StatesOf ∷ q)) ss (below StatesOf here) sight (λ q. u (StatesOf ∷ q)) o p
    right_eqn k class e here sight u f o p = right_none (here p)

    right_arms : (k : Known) (class : classes.Assignment) (arms : Arms) (here : Place → Place) (sight : Sight) → Under here (knows_arms k class arms) → Bases sight → (p : Place) → RightAt (sights_of_arms arms here sight p) (here p)
    right_arms k class (more_arms c b s arms) here sight u o (Head ∷ p) = right_block k (λ q. class (Head ∷ q)) b (below Head here) sight (λ q. u (Head ∷ q)) o p
    right_arms k class (more_arms c b s arms) here sight u o (Tail ∷ p) = right_arms k (λ q. class (Tail ∷ q)) arms (below Tail here) sight (λ q. u (Tail ∷ q)) o p
    right_arms k class arms here sight u o p = right_none (here p)

    right_states : (k : Known) (class : classes.Assignment) (ss : States) (here : Place → Place) (sight : Sight) → Under here (knows_states k class ss) → Bases sight → (p : Place) → RightAt (sights_of_states ss here sight p) (here p)
    right_states k class (more_states j b until unless s ss) here sight u o (Head ∷ Body ∷ p) = right_block k (λ q. class (Head ∷ Body ∷ q)) b (below Body (below Head here)) sight (λ q. u (Head ∷ Body ∷ q)) o p
    right_states k class (more_states j b until unless s ss) here sight u o (Tail ∷ p) = right_states k (λ q. class (Tail ∷ q)) ss (below Tail here) sight (λ q. u (Tail ∷ q)) o p
    right_states k class ss here sight u o p = right_none (here p)

  right_contract : (k : Known) (class : classes.Assignment) (c : Option Contract) (out : Sight) → Under in_observer (knows_contract k class c) → Bases out → (p : Place) → RightAt (contract_sights c out p) (Observer ∷ p)
  right_contract k class None out u o p = right_none (Observer ∷ p)
  right_contract k class (Some c) out u o p = right_block k class c.body in_observer out u o p

  -- ---- where no step goes, the names of clocks are First

  module _ (all : (p : Place) → AllFirst (at_place p) (at p)) where
    local_first : (second : Classes) (es : Eqns) (here : Place → Place) → ((x : List ℕ) → at_place (here (Named x ∷ [])) ≡ second) → (ds : List Decl) → LocalsFirst at second es here ds
    local_first second es here u [] = tt
    local_first second es here u (d ∷ ds) = (by d.last (controls_define es d.name), local_first second es here u ds)
      where
        by : (o : Option Const) (b : Bool) → AllFirst second (value at (local_at o b (here (Named d.name ∷ []))))
        by None true = tt
        by None false = subst (λ z. AllFirst z (at (here (Named d.name ∷ [])))) (u d.name) (all (here (Named d.name ∷ [])))
        by (Some c) b = tt

    mutual
      first_block : (k : Known) (class : classes.Assignment) (b : Block) (here : Place → Place) → Under here (knows k class b) → BlockFirst at k class here b
      first_block k class (block ds es) here u =
          (local_first (known_in (block ds es) class k).values es here (λ x. u (Named x ∷ [])) ds, first_eqns (known_in (block ds es) class k) (λ p. class (Equations ∷ p)) es (below Equations here) (λ p. u (Equations ∷ p)))

      first_eqns : (k : Known) (class : classes.Assignment) (es : Eqns) (here : Place → Place) → Under here (knows_all k class es) → EqnsFirst at k class here es
      first_eqns k class no_eqn here u = tt
      first_eqns k class (more_eqns e es) here u = (first_eqn k (λ p. class (Head ∷ p)) e (below Head here) (λ p. u (Head ∷ p)), first_eqns k (λ p. class (Tail ∷ p)) es (below Tail here) (λ p. u (Tail ∷ p)))

      first_eqn : (k : Known) (class : classes.Assignment) (e : Eqn) (here : Place → Place) → Under here (knows_one k class e) → EqnFirst at k class here e
      first_eqn k class (define s ys e) here u = tt
      first_eqn k class (switch s e arms) here u = first_arms (known_within (switch s e arms) k) (λ p. class (ArmsOf ∷ p)) arms (below ArmsOf here) (λ p. u (ArmsOf ∷ p))
      first_eqn k class (reset s b e) here u = first_block (known_within (reset s b e) k) (λ p. class (Body ∷ p)) b (below Body here) (λ p. u (Body ∷ p))
      first_eqn k class (automaton s ss) here u = first_states (known_within (automaton s ss) k) (λ p. class (StatesOf ∷ p)) ss (below StatesOf here) (λ p. u (StatesOf ∷ p))

      first_arms : (k : Known) (class : classes.Assignment) (arms : Arms) (here : Place → Place) → Under here (knows_arms k class arms) → ArmsFirst at k class here arms
      first_arms k class no_arm here u = tt
      first_arms k class (more_arms c b s arms) here u = (first_block k (λ p. class (Head ∷ p)) b (below Head here) (λ p. u (Head ∷ p)), first_arms k (λ p. class (Tail ∷ p)) arms (below Tail here) (λ p. u (Tail ∷ p)))

      first_states : (k : Known) (class : classes.Assignment) (ss : States) (here : Place → Place) → Under here (knows_states k class ss) → StatesFirst at k class here ss
      first_states k class no_state here u = tt
      first_states k class (more_states j b until unless s ss) here u =
          (first_block k (λ p. class (Head ∷ Body ∷ p)) b (below Body (below Head here)) (λ p. u (Head ∷ Body ∷ p)), first_states k (λ p. class (Tail ∷ p)) ss (below Tail here) (λ p. u (Tail ∷ p)))

    first_contract : (k : Known) (class : classes.Assignment) (c : Option Contract) → Under in_observer (knows_contract k class c) → ContractFirst at k class c
    first_contract k class None u = tt
    first_contract k class (Some c) u = first_block k class c.body in_observer u

-- ---- nodes

pub clocks_first : (n : Node) (class : classes.Assignment) (at : Assignment) → first_unmet (of_node class n) ≡ None → IsShortest (IsAllowed n) at → NodeFirst at class n
clocks_first n class at m s =
    let k = known_outputs n class in
    let a : classes.Assignment = λ q. class (Observer ∷ q) in
    let b : classes.Assignment = λ q. class (Body ∷ q) in
    let there = knows_node class n in
    let ug : Under at there in_observer (knows_contract k a n.contract) = λ p. refl in
    let ub : Under at there in_body (knows k b n.body) = λ p. refl in
    let on_base : (y : Bool) → SeenBase at there (known_on_base y) = λ y. based y in
    let og : Bases at there (contract_sight n) = λ x. on_base (declares n.inputs x || declares n.outputs x) in
    let ob : Bases at there (body_sight n) = λ x. on_base (declares n.inputs x || (declares n.outputs x || declares (controls_of n.contract) x)) in
    let rest = s.1 (other at there) (
      (λ p. right k a b there ug ub og ob p (s.0.0 p)),
      split at there (contract_units (contract_sight n) n.contract) (units n.body in_body (body_sight n)) (of_contract k a n.contract) (of_block k b n.body)
          (λ w i. allow_contract at there k a n.contract (contract_sight n) ug og w i) (λ w i. allow_block at there k b n.body in_body (body_sight n) ub ob w i) m s.0.1,
    ) in
    let all : (p : Place) → AllFirst (there p) (at p) = λ p. kept_first (there p) (at p) (rest p).0 (rest p).1 in
    (first_contract at there all k a n.contract ug, first_block at there all k b n.body in_body ub)
  where
    based : (y : Bool) → SeenBase at (knows_node class n) (known_on_base y)
    based true = λ e. refl
    based false = tt

    right : (k : Known) (a b : classes.Assignment) (there : Place → Classes) → Under at there in_observer (knows_contract k a n.contract) → Under at there in_body (knows k b n.body) → Bases at there (contract_sight n) → Bases at there (body_sight n) → (p : Place) → RightAt at there (node_sights n p) p
    right k a b there ug ub og ob (Observer ∷ p) = right_contract at there k a n.contract (contract_sight n) ug og p
    right k a b there ug ub og ob (Body ∷ p) = right_block at there k b n.body in_body (body_sight n) ub ob p
    right k a b there ug ub og ob p = right_none at there p
