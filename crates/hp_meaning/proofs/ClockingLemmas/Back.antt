-- Where the clocks of a program are right, they are an allowed assignment.
use Rattle.std.proofs.Common.{◌≡◌, ℕ, List, [], ◌∷◌, ◌++◌, map, refl, sym, ◌∙◌, subst}
use Rattle.std.specs.Prelude.{⊤, Bool, true, false, ◌||◌, IsTrue, if◌then◌else◌, reverse, Option, None, Some}
use Rattle.std.specs.Str.{bytes_eq}
use Rattle.hp_base.specs.declared.span.Span.{Span}
use Rattle.hp_base.specs.declared.ty.Const.{Const}
use Rattle.hp_tree.specs.declared.block.Trans.{Trans}
use Rattle.hp_tree.specs.Expressions.{Expr}
use Rattle.hp_tree.specs.Blocks.{Decl, Block, block, Eqns, no_eqn, more_eqns, Eqn, define, switch, reset, automaton, Arms, no_arm, more_arms, States, no_state, more_states}
use Rattle.hp_tree.specs.Programs.{Contract, Node}
use Rattle.hp_tree.specs.Instant.{Place, Body, Observer, Named, Equations, Head, Tail, Right, Arms as ArmsOf, States as StatesOf, Clock}
use Rattle.hp_tree.specs.Meaning.{declares, defines, some_defines, written, clock_in, clock_of}
use Rattle.hp_meaning.specs.Causal.Sources.{below}
use Rattle.hp_tree.specs.Meaning.{controls_of}
use Rattle.hp_meaning.specs.Causal.Clocked.{Standing, on_base, standing_in, standing_of, ClockRight, IsOn, ConditionsOn, LeftsOn, LastOnBase, DeclarationsRight, BlockRight, AllRight, OneRight, ArmsRight, StatesRight, TellsOnBase, ContractRight, ClocksRight}
use Rattle.hp_meaning.specs.Clocking.Terms.{value}
use Rattle.hp_meaning.specs.Causal.Points.{span_of}
use Rattle.hp_meaning.specs.Clocking.Clocking.{On, Term, Assignment, Sight, seen_on, standing, controls_define, local_at, local_term, term_in, sight_in, sight_of, declared, tested, AllAre, AllAllow, declarations, conditions, units, units_of_all, units_of_one, units_of_arms, units_of_states, contract_sight, body_sight, told, in_observer, in_body, contract_units, no_sight, sights, sights_of_all, sights_of_one, sights_of_arms, sights_of_states, contract_sights, node_sights, AreClocks, IsAllowed, EachBlock, EachOfAll, EachOfOne, EachOfArms, EachOfStates, EachInContract, AreFound, NodeFound, clocks_of, clocks_of_all, clocks_of_one, clocks_of_arms, clocks_of_states, clocks_of_contract, clocks_of_node}
use Rattle.hp_meaning.proofs.ClockingLemmas.Units.{all_allow}
use Rattle.hp_meaning.proofs.ClockingLemmas.Written.{value_if, seen_if}
use Rattle.hp_meaning.proofs.ClockingLemmas.Nodes.{on_known}

abbrev Found : List Decl → Eqns → Type 0
Found ds es = AreFound ds ds

or_cases : {X : Type 0} (a b : Bool) → IsTrue (a || b) → (IsTrue a → X) → (IsTrue b → X) → X
or_cases true b h f g = f refl
or_cases false b h f g = g h

-- what control equations define is on the base clock
controls_based : (names : Standing) (ds : List Decl) (es : Eqns) → AllRight names ds es → (x : List ℕ) → IsTrue (controls_define es x) → clock_in ds x ≡ []
controls_based names ds no_eqn r x h = absurd (cc h)
controls_based names ds (more_eqns (define s ys e) es) r x h = controls_based names ds es r.1 x h
controls_based names ds (more_eqns (switch s e arms) es) r x h =
    or_cases (defines (switch s e arms) x) (controls_define es x) h (λ k. r.0.0 x k) (λ k. controls_based names ds es r.1 x k)
controls_based names ds (more_eqns (reset s b e) es) r x h =
    or_cases (defines (reset s b e) x) (controls_define es x) h (λ k. r.0.0 x k) (λ k. controls_based names ds es r.1 x k)
controls_based names ds (more_eqns (automaton s ss) es) r x h =
    or_cases (defines (automaton s ss) x) (controls_define es x) h (λ k. r.0.0 x k) (λ k. controls_based names ds es r.1 x k)

clock_right : (names : Standing) (ds : List Decl) → DeclarationsRight names ds → (x : List ℕ) → ClockRight names (clock_in ds x)
clock_right names [] r x = tt
clock_right names (d ∷ ds) r x = tie (bytes_eq d.name x) r.0 (clock_right names ds r.2 x)
  where
    tie : (b : Bool) → ClockRight names (written d.clock) → ClockRight names (clock_in ds x) → ClockRight names (if b then written d.clock else clock_in ds x)
    tie true f g = f
    tie false f g = g

module _ (at : Assignment) where
  abbrev Are : (Place → Place) → (Place → Clock) → Type 0
  Are here clocks = (p : Place) → at (here p) ≡ clocks p

  abbrev Stand : (Place → Place) → (Place → Sight) → Type 0
  Stand here see = (p : Place) → ClockRight (standing at (see p)) (at (here p))

  -- a local is on its clock
  local_is : (o : Option Const) (b : Bool) (p : Place) (k : Clock) → elim o as (λ x. Type 0) [ None ↦ ⊤ | Some c ↦ k ≡ [] ] → (IsTrue b → k ≡ []) → at p ≡ k → value at (local_at o b p) ≡ k
  local_is None true p k l f e = sym (f refl)
  local_is None false p k l f e = e
  local_is (Some c) b p k l f e = sym l

  module _ (all : List Decl) (es : Eqns) (here : Place → Place) (names : Standing) (is : (x : List ℕ) → at (here (Named x ∷ [])) ≡ clock_in all x) (based : (x : List ℕ) → IsTrue (controls_define es x) → clock_in all x ≡ []) where
    decl_is : (d : Decl) → LastOnBase d → clock_in all d.name ≡ written d.clock → value at (local_term es here d) ≡ written d.clock
    decl_is d l e =
        local_is d.last (controls_define es d.name) (here (Named d.name ∷ [])) (written d.clock) l (λ h. sym e ∙ based d.name h) (is d.name ∙ e)

    term_is : (ds : List Decl) → DeclarationsRight names ds → AreFound all ds → (x : List ℕ) → value at (term_in es here ds x) ≡ clock_in ds x
    term_is [] r f x = refl
    term_is (d ∷ ds) r f x =
        let a = decl_is d r.1 f.0 in
        let b = term_is ds r.2 f.1 x in
        value_if at (bytes_eq d.name x) (local_term es here d) (term_in es here ds x) ∙ (λ z. if bytes_eq d.name x then a z else b z)

    declarations_allow : (sight : Sight) → standing at sight ≡ names → (ds : List Decl) → DeclarationsRight names ds → AreFound all ds → AllAllow at (declarations sight es here ds)
    declarations_allow sight path [] r f = tt
    declarations_allow sight path (d ∷ ds) r f = tie d.clock r.0 (decl_is d r.1 f.0) (declarations_allow sight path ds r.2 f.1)
      where
        tie : (o : Option (List On)) → ClockRight names (written o) → value at (local_term es here d) ≡ written o → AllAllow at (declarations sight es here ds) → AllAllow at (elim o [ None ↦ declarations sight es here ds | Some path ↦ declared d.span sight (local_term es here d) (reverse path) ∷ declarations sight es here ds ])
        tie None k e h = h
        tie (Some way) k e h = ((subst (λ z. ClockRight z (reverse way)) (sym path) k, e), h)

  standing_is : (ds : List Decl) (es : Eqns) (here : Place → Place) (out : Sight) → ((x : List ℕ) → value at (term_in es here ds x) ≡ clock_in ds x) → standing at (sight_in ds es here out) ≡ standing_in ds es (standing at out)
  standing_is ds es here out h =
      let f : (x : List ℕ) → seen_on at (sight_in ds es here out x) ≡ standing_in ds es (standing at out) x =
      λ x. seen_if at (some_defines es x) (some_defines es x) (term_in es here ds x) (out x) (clock_in ds x) refl (sym (h x)) in
      λ z x. f x z

  conditions_allow : (sight : Sight) (ts : List Trans) → ConditionsOn (standing at sight) ts → AllAllow at (conditions sight ts)
  conditions_allow sight [] h = tt
  conditions_allow sight (t ∷ ts) h = (h.0, conditions_allow sight ts h.1)

  lefts_are : (left : List ℕ → Term) (ds : List Decl) → ((x : List ℕ) → value at (left x) ≡ clock_in ds x) → (ys : List (List ℕ × Span)) (c : Clock) → LeftsOn ds ys c → AllAre at (map (λ y. left y.0) ys) c
  lefts_are left ds h [] c l = tt
  lefts_are left ds h (y ∷ ys) c l = (h y.0 ∙ l.0, lefts_are left ds h ys c l.1)

  -- all facts of a block, with the names as they are seen
  record InBlock (ds : List Decl) (es : Eqns) (here : Place → Place) (out : Sight) : Type 0 where
    pub path : standing at (sight_in ds es here out) ≡ standing_in ds es (standing at out)
    pub lefts : (x : List ℕ) → value at (term_in es here ds x) ≡ clock_in ds x
    pub declares_right : DeclarationsRight (standing at (sight_in ds es here out)) ds
    pub all_right : AllRight (standing at (sight_in ds es here out)) ds es
    pub declared_allow : AllAllow at (declarations (sight_in ds es here out) es here ds)

  in_block : (ds : List Decl) (es : Eqns) (here : Place → Place) (out : Sight) → AreFound ds ds → Are here (clocks_of (block ds es)) → BlockRight (standing at out) (block ds es) → InBlock ds es here out
  in_block ds es here out f k r =
      let names = standing_in ds es (standing at out) in
      let based : (x : List ℕ) → IsTrue (controls_define es x) → clock_in ds x ≡ [] = λ x h. controls_based names ds es r.1 x h in
      let t : (x : List ℕ) → value at (term_in es here ds x) ≡ clock_in ds x = λ x. term_is ds es here names (λ y. k (Named y ∷ [])) based ds r.0 f x in
      let way = standing_is ds es here out t in
      record {
        path = way;
        lefts = t;
        declares_right = subst (λ z. DeclarationsRight z ds) (sym way) r.0;
        all_right = subst (λ z. AllRight z ds es) (sym way) r.1;
        declared_allow = declarations_allow ds es here names (λ y. k (Named y ∷ [])) based (sight_in ds es here out) way ds r.0 f;
      }

  of_is : (b : Block) (here : Place → Place) (out : Sight) → EachBlock Found b → Are here (clocks_of b) → BlockRight (standing at out) b → standing at (sight_of b here out) ≡ standing_of b (standing at out)
  of_is (block ds es) here out f k r = (in_block ds es here out f.0 k r).path

  mutual
    pub block_allows : (b : Block) (here : Place → Place) (out : Sight) → EachBlock Found b → Are here (clocks_of b) → BlockRight (standing at out) b → AllAllow at (units b here out)
    block_allows (block ds es) here out f k r =
        let g = in_block ds es here out f.0 k r in
        let sight = sight_in ds es here out in
        (all_allow at (declarations sight es here ds) (units_of_all es (below Equations here) sight (λ x. term_in es here ds x))).1
        (g.declared_allow, all_allows es (below Equations here) sight (λ x. term_in es here ds x) ds g.lefts f.1 (λ p. k (Equations ∷ p)) g.all_right)

    all_allows : (es : Eqns) (here : Place → Place) (sight : Sight) (left : List ℕ → Term) (ds : List Decl) → ((x : List ℕ) → value at (left x) ≡ clock_in ds x) → EachOfAll Found es → Are here (clocks_of_all ds es) → AllRight (standing at sight) ds es → AllAllow at (units_of_all es here sight left)
    all_allows no_eqn here sight left ds h f k r = tt
    all_allows (more_eqns e es) here sight left ds h f k r =
        (all_allow at (units_of_one e (below Head here) sight left) (units_of_all es (below Tail here) sight left)).1
        (one_allows e (below Head here) sight left ds h f.0 (λ p. k (Head ∷ p)) r.0, all_allows es (below Tail here) sight left ds h f.1 (λ p. k (Tail ∷ p)) r.1)

    one_allows : (e : Eqn) (here : Place → Place) (sight : Sight) (left : List ℕ → Term) (ds : List Decl) → ((x : List ℕ) → value at (left x) ≡ clock_in ds x) → EachOfOne Found e → Are here (clocks_of_one ds e) → OneRight (standing at sight) ds e → AllAllow at (units_of_one e here sight left)
    one_allows (define s ys e) here sight left ds h f k r = (
      (
        subst (AllAre at (map (λ y. left y.0) ys)) (sym (k (Right ∷ []))) (lefts_are left ds h ys (clock_of ds ys e) r.1),
        subst (IsOn (standing at sight) e) (sym (k (Right ∷ []))) r.2,
      ),
      tt,
    )
    one_allows (switch s e arms) here sight left ds h f k r = (r.1, arms_allow arms (below ArmsOf here) sight f (λ p. k (ArmsOf ∷ p)) r.2)
    one_allows (reset s b e) here sight left ds h f k r =
        (all_allow at (units b (below Body here) sight) (tested (span_of e) sight e ∷ [])).1
        (block_allows b (below Body here) sight f (λ p. k (Body ∷ p)) r.2, (r.1, tt))
    one_allows (automaton s ss) here sight left ds h f k r = states_allow ss (below StatesOf here) sight f (λ p. k (StatesOf ∷ p)) r.1

    arms_allow : (arms : Arms) (here : Place → Place) (sight : Sight) → EachOfArms Found arms → Are here (clocks_of_arms arms) → ArmsRight (standing at sight) arms → AllAllow at (units_of_arms arms here sight)
    arms_allow no_arm here sight f k r = tt
    arms_allow (more_arms c b s arms) here sight f k r =
        (all_allow at (units b (below Head here) sight) (units_of_arms arms (below Tail here) sight)).1
        (block_allows b (below Head here) sight f.0 (λ p. k (Head ∷ p)) r.0, arms_allow arms (below Tail here) sight f.1 (λ p. k (Tail ∷ p)) r.1)

    states_allow : (ss : States) (here : Place → Place) (sight : Sight) → EachOfStates Found ss → Are here (clocks_of_states ss) → StatesRight (standing at sight) ss → AllAllow at (units_of_states ss here sight)
    states_allow no_state here sight f k r = tt
    states_allow (more_states n b until unless s ss) here sight f k r =
        let mine = below Body (below Head here) in
        (all_allow at (units b mine sight) (conditions (sight_of b mine sight) until ++ (conditions sight unless ++ units_of_states ss (below Tail here) sight))).1 (
          block_allows b mine sight f.0 (λ p. k (Head ∷ Body ∷ p)) r.0,
          (all_allow at (conditions (sight_of b mine sight) until) (conditions sight unless ++ units_of_states ss (below Tail here) sight)).1 (
            conditions_allow (sight_of b mine sight) until (subst (λ z. ConditionsOn z until) (sym (of_is b mine sight f.0 (λ p. k (Head ∷ Body ∷ p)) r.0)) r.1),
            (all_allow at (conditions sight unless) (units_of_states ss (below Tail here) sight)).1
                (conditions_allow sight unless r.2, states_allow ss (below Tail here) sight f.1 (λ p. k (Tail ∷ p)) r.3),
          ),
        )

  -- each clock is that of the names that stand where it does
  mutual
    pub block_stands : (b : Block) (here : Place → Place) (out : Sight) → EachBlock Found b → Are here (clocks_of b) → BlockRight (standing at out) b → Stand here (sights b here out)
    block_stands (block ds es) here out f k r (Named x ∷ []) =
        let g = in_block ds es here out f.0 k r in
        subst (ClockRight (standing at (sight_in ds es here out))) (sym (k (Named x ∷ []))) (clock_right (standing at (sight_in ds es here out)) ds g.declares_right x)
    block_stands (block ds es) here out f k r (Equations ∷ p) =
        let g = in_block ds es here out f.0 k r in
        all_stand es (below Equations here) (sight_in ds es here out) ds f.1 (λ q. k (Equations ∷ q)) g.all_right p
    block_stands (block ds es) here out f k r p = subst (ClockRight (standing at no_sight)) (sym (k p)) tt

    all_stand : (es : Eqns) (here : Place → Place) (sight : Sight) (ds : List Decl) → EachOfAll Found es → Are here (clocks_of_all ds es) → AllRight (standing at sight) ds es → Stand here (sights_of_all es here sight)
    all_stand (more_eqns e es) here sight ds f k r (Head ∷ p) = one_stands e (below Head here) sight ds f.0 (λ q. k (Head ∷ q)) r.0 p
    all_stand (more_eqns e es) here sight ds f k r (Tail ∷ p) = all_stand es (below Tail here) sight ds f.1 (λ q. k (Tail ∷ q)) r.1 p
    all_stand es here sight ds f k r p = subst (ClockRight (standing at no_sight)) (sym (k p)) tt

    one_stands : (e : Eqn) (here : Place → Place) (sight : Sight) (ds : List Decl) → EachOfOne Found e → Are here (clocks_of_one ds e) → OneRight (standing at sight) ds e → Stand here (sights_of_one e here sight)
    one_stands (define s ys e) here sight ds f k r (Right ∷ []) = subst (ClockRight (standing at sight)) (sym (k (Right ∷ []))) r.0
    one_stands (switch s e arms) here sight ds f k r (ArmsOf ∷ p) = arms_stand arms (below ArmsOf here) sight f (λ q. k (ArmsOf ∷ q)) r.2 p
    one_stands (reset s b e) here sight ds f k r (Body ∷ p) = block_stands b (below Body here) sight f (λ q. k (Body ∷ q)) r.2 p
    one_stands (automaton s ss) here sight ds f k r (StatesOf ∷ p) = states_stand ss (below StatesOf here) sight f (λ q. k (StatesOf ∷ q)) r.1 p
    one_stands e here sight ds f k r p = subst (ClockRight (standing at no_sight)) (sym (k p)) tt

    arms_stand : (arms : Arms) (here : Place → Place) (sight : Sight) → EachOfArms Found arms → Are here (clocks_of_arms arms) → ArmsRight (standing at sight) arms → Stand here (sights_of_arms arms here sight)
    arms_stand (more_arms c b s arms) here sight f k r (Head ∷ p) = block_stands b (below Head here) sight f.0 (λ q. k (Head ∷ q)) r.0 p
    arms_stand (more_arms c b s arms) here sight f k r (Tail ∷ p) = arms_stand arms (below Tail here) sight f.1 (λ q. k (Tail ∷ q)) r.1 p
    arms_stand arms here sight f k r p = subst (ClockRight (standing at no_sight)) (sym (k p)) tt

    states_stand : (ss : States) (here : Place → Place) (sight : Sight) → EachOfStates Found ss → Are here (clocks_of_states ss) → StatesRight (standing at sight) ss → Stand here (sights_of_states ss here sight)
    states_stand (more_states n b until unless s ss) here sight f k r (Head ∷ Body ∷ p) =
        block_stands b (below Body (below Head here)) sight f.0 (λ q. k (Head ∷ Body ∷ q)) r.0 p
    states_stand (more_states n b until unless s ss) here sight f k r (Tail ∷ p) = states_stand ss (below Tail here) sight f.1 (λ q. k (Tail ∷ q)) r.3 p
    states_stand ss here sight f k r p = subst (ClockRight (standing at no_sight)) (sym (k p)) tt

  -- ---- nodes

  told_allows : (sight : Sight) (e : Option Expr) → TellsOnBase (standing at sight) e → AllAllow at (told sight e)
  told_allows sight None h = tt
  told_allows sight (Some e) h = (h, tt)

  contract_allows : (out : Sight) (c : Option Contract) → EachInContract Found c → Are in_observer (clocks_of_contract c) → ContractRight (standing at out) c → AllAllow at (contract_units out c)
  contract_allows out None f k r = tt
  contract_allows out (Some c) f k r =
      let sight = sight_of c.body in_observer out in
      let path = of_is c.body in_observer out f k r.0 in
      (all_allow at (units c.body in_observer out) (told sight c.assume ++ told sight c.enforce)).1 (
        block_allows c.body in_observer out f k r.0,
        (all_allow at (told sight c.assume) (told sight c.enforce)).1 (
          told_allows sight c.assume (subst (λ z. TellsOnBase z c.assume) (sym path) r.1),
          told_allows sight c.enforce (subst (λ z. TellsOnBase z c.enforce) (sym path) r.2),
        ),
      )

  contract_stands : (out : Sight) (c : Option Contract) → EachInContract Found c → Are in_observer (clocks_of_contract c) → ContractRight (standing at out) c → Stand in_observer (contract_sights c out)
  contract_stands out None f k r p = subst (ClockRight (standing at no_sight)) (sym (k p)) tt
  contract_stands out (Some c) f k r p = block_stands c.body in_observer out f k r.0 p

  body_on : (n : Node) → standing at (body_sight n) ≡ (λ x. on_base (declares n.inputs x || (declares n.outputs x || declares (controls_of n.contract) x)))
  body_on n =
      let f : (x : List ℕ) → standing at (body_sight n) x ≡ on_base (declares n.inputs x || (declares n.outputs x || declares (controls_of n.contract) x)) =
      λ x. on_known at (declares n.inputs x || (declares n.outputs x || declares (controls_of n.contract) x)) in
      λ z x. f x z

  contract_on : (n : Node) → standing at (contract_sight n) ≡ (λ x. on_base (declares n.inputs x || declares n.outputs x))
  contract_on n =
      let f : (x : List ℕ) → standing at (contract_sight n) x ≡ on_base (declares n.inputs x || declares n.outputs x) =
      λ x. on_known at (declares n.inputs x || declares n.outputs x) in
      λ z x. f x z

pub node_allows : (n : Node) → NodeFound n → ClocksRight n → IsAllowed n (clocks_of_node n)
node_allows n f r =
    let at = clocks_of_node n in
    let body = subst (λ z. BlockRight z n.body) (sym (body_on at n)) r.body in
    let observer = subst (λ z. ContractRight z n.contract) (sym (contract_on at n)) r.contract in (
      stands_at n f body observer,
      (all_allow at (contract_units (contract_sight n) n.contract) (units n.body in_body (body_sight n))).1
          (contract_allows at (contract_sight n) n.contract f.1 (λ p. refl) observer, block_allows at n.body in_body (body_sight n) f.0 (λ p. refl) body),
    )
  where
    stands_at : (n : Node) → NodeFound n → BlockRight (standing (clocks_of_node n) (body_sight n)) n.body → ContractRight (standing (clocks_of_node n) (contract_sight n)) n.contract → AreClocks (node_sights n) (clocks_of_node n)
    stands_at n f body observer (Observer ∷ p) = contract_stands (clocks_of_node n) (contract_sight n) n.contract f.1 (λ q. refl) observer p
    stands_at n f body observer (Body ∷ p) = block_stands (clocks_of_node n) n.body in_body (body_sight n) f.0 (λ q. refl) body p
    stands_at n f body observer p = tt
