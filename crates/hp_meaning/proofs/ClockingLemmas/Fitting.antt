-- The clocks of a unit stand in the block of the unit.
use Rattle.std.proofs.Common.{◌≡◌, inl, inr, ℕ, List, [], ◌∷◌, ◌++◌, map, refl, ap}
use Rattle.std.specs.Prelude.{⊤, Bool, true, false, ◌||◌, if◌then◌else◌, reverse, Option, None, Some}
use Rattle.std.specs.Str.{bytes_eq}
use Rattle.hp_base.specs.declared.span.Span.{Span}
use Rattle.hp_base.specs.declared.ty.Const.{Const}
use Rattle.hp_tree.specs.declared.block.Trans.{Trans}
use Rattle.hp_tree.specs.Expressions.{Expr}
use Rattle.hp_tree.specs.Blocks.{Decl, Block, block, Eqns, no_eqn, more_eqns, Eqn, define, switch, reset, automaton, Arms, no_arm, more_arms, States, no_state, more_states}
use Rattle.hp_tree.specs.Programs.{Contract, Node}
use Rattle.hp_tree.specs.Instant.{Place, Body, Observer, Named, Equations, Head, Tail, Right, Arms as ArmsOf, States as StatesOf, Clock}
use Rattle.hp_tree.specs.Meaning.{declares, some_defines}
use Rattle.hp_meaning.specs.Causal.Sources.{below}
use Rattle.hp_tree.specs.Meaning.{controls_of}
use Rattle.hp_meaning.specs.Causal.Points.{span_of}
use Rattle.hp_meaning.specs.Clocking.Clocking.{Term, Seen, nowhere, own, further, from_inside, Sight, controls_define, local_at, local_term, term_in, sight_in, sight_of, declared, tested, declarations, conditions, units, units_of_all, units_of_one, units_of_arms, units_of_states, known_on_base, contract_sight, body_sight, told, in_observer, in_body, contract_units, node_units, no_sight, sights, sights_of_all, sights_of_one, sights_of_arms, sights_of_states, contract_sights, node_sights}
use Rattle.hp_meaning.proofs.ClockingLemmas.Cut.{TermFits, SeenFits, SightFits, TermsFit, UnitsFit, units_fit}

-- what is seen stands on a variable or on the base clock
abbrev BareSeen : Seen → Type 0
BareSeen nowhere = ⊤
BareSeen (own t) = t.0 ≡ []
BareSeen (further t) = t.0 ≡ []

abbrev Bare : Sight → Type 0
Bare sight = (x : List ℕ) → BareSeen (sight x)

module _ (see : Place → Sight) where
  abbrev Sees : (Place → Place) → (Place → Sight) → Type 0
  Sees here at_part = (p : Place) → see (here p) ≡ at_part p

  bare_fits : (sight : Sight) (s : Seen) → SeenFits see sight s → BareSeen s
  bare_fits sight nowhere f = tt
  bare_fits sight (own t) (inl e) = ap (λ z. z.0) e
  bare_fits sight (own t) (inr f) = ap (λ z. z.0) f.1
  bare_fits sight (further t) f = f

  inside_fits : (sight : Sight) (s : Seen) → BareSeen s → SeenFits see sight (from_inside s)
  inside_fits sight nowhere f = tt
  inside_fits sight (own t) f = f
  inside_fits sight (further t) f = f

  local_fits : (sight : Sight) (o : Option Const) (b : Bool) (p : Place) → see p ≡ sight → TermFits see sight (local_at o b p)
  local_fits sight None true p e = inl refl
  local_fits sight None false p e = inr (p, refl, e)
  local_fits sight (Some c) b p e = inl refl

  term_fits : (sight : Sight) (es : Eqns) (here : Place → Place) → ((x : List ℕ) → see (here (Named x ∷ [])) ≡ sight) → (ds : List Decl) (x : List ℕ) → TermFits see sight (term_in es here ds x)
  term_fits sight es here h [] x = inl refl
  term_fits sight es here h (d ∷ ds) x =
      tie (bytes_eq d.name x) (local_fits sight d.last (controls_define es d.name) (here (Named d.name ∷ [])) (h d.name)) (term_fits sight es here h ds x)
    where
      tie : (b : Bool) → TermFits see sight (local_term es here d) → TermFits see sight (term_in es here ds x) → TermFits see sight (if b then local_term es here d else term_in es here ds x)
      tie true f g = f
      tie false f g = g

  in_fits : (ds : List Decl) (es : Eqns) (here : Place → Place) (out : Sight) → Bare out → ((x : List ℕ) → see (here (Named x ∷ [])) ≡ sight_in ds es here out) → SightFits see (sight_in ds es here out)
  in_fits ds es here out b h x = tie (some_defines es x)
    where
      tie : (d : Bool) → SeenFits see (sight_in ds es here out) (if d then own (term_in es here ds x) else from_inside (out x))
      tie true = term_fits (sight_in ds es here out) es here h ds x
      tie false = inside_fits (sight_in ds es here out) (out x) (b x)

  of_fits : (b : Block) (here : Place → Place) (out : Sight) → Bare out → Sees here (sights b here out) → SightFits see (sight_of b here out)
  of_fits (block ds es) here out f s = in_fits ds es here out f (λ x. s (Named x ∷ []))

  no_fits : SightFits see no_sight
  no_fits x = tt

  declarations_fit : (sight : Sight) (es : Eqns) (here : Place → Place) → SightFits see sight → ((x : List ℕ) → see (here (Named x ∷ [])) ≡ sight) → (ds : List Decl) → UnitsFit see (declarations sight es here ds)
  declarations_fit sight es here f h [] = tt
  declarations_fit sight es here f h (d ∷ ds) = tie d.clock (declarations_fit sight es here f h ds)
    where
      tie : (o : Option Clock) → UnitsFit see (declarations sight es here ds) → UnitsFit see (elim o [ None ↦ declarations sight es here ds | Some path ↦ declared d.span sight (local_term es here d) (reverse path) ∷ declarations sight es here ds ])
      tie None g = g
      tie (Some path) g = ((f, local_fits sight d.last (controls_define es d.name) (here (Named d.name ∷ [])) (h d.name)), g)

  lefts_fit : (sight : Sight) (left : List ℕ → Term) → ((x : List ℕ) → TermFits see sight (left x)) → (ys : List (List ℕ × Span)) → TermsFit see sight (map (λ y. left y.0) ys)
  lefts_fit sight left f [] = tt
  lefts_fit sight left f (y ∷ ys) = (f y.0, lefts_fit sight left f ys)

  conditions_fit : (sight : Sight) → SightFits see sight → (ts : List Trans) → UnitsFit see (conditions sight ts)
  conditions_fit sight f [] = tt
  conditions_fit sight f (t ∷ ts) = (f, conditions_fit sight f ts)

  mutual
    pub block_fits : (b : Block) (here : Place → Place) (out : Sight) → Bare out → Sees here (sights b here out) → UnitsFit see (units b here out)
    block_fits (block ds es) here out bare s =
        let sight = sight_in ds es here out in
        let f = in_fits ds es here out bare (λ x. s (Named x ∷ [])) in
        units_fit see (declarations sight es here ds) (units_of_all es (below Equations here) sight (λ x. term_in es here ds x))
        (declarations_fit sight es here f (λ x. s (Named x ∷ [])) ds)
        (all_fit es (below Equations here) sight (λ x. term_in es here ds x) f (λ x. term_fits sight es here (λ y. s (Named y ∷ [])) ds x) (λ p. s (Equations ∷ p)))

    all_fit : (es : Eqns) (here : Place → Place) (sight : Sight) (left : List ℕ → Term) → SightFits see sight → ((x : List ℕ) → TermFits see sight (left x)) → Sees here (sights_of_all es here sight) → UnitsFit see (units_of_all es here sight left)
    all_fit no_eqn here sight left f g s = tt
    all_fit (more_eqns e es) here sight left f g s =
        units_fit see (units_of_one e (below Head here) sight left) (units_of_all es (below Tail here) sight left)
        (one_fits e (below Head here) sight left f g (λ p. s (Head ∷ p))) (all_fit es (below Tail here) sight left f g (λ p. s (Tail ∷ p)))

    one_fits : (e : Eqn) (here : Place → Place) (sight : Sight) (left : List ℕ → Term) → SightFits see sight → ((x : List ℕ) → TermFits see sight (left x)) → Sees here (sights_of_one e here sight) → UnitsFit see (units_of_one e here sight left)
    one_fits (define w ys e) here sight left f g s = ((f, lefts_fit sight left g ys, inr (here (Right ∷ []), refl, s (Right ∷ []))), tt)
    one_fits (switch w e arms) here sight left f g s = (f, arms_fit arms (below ArmsOf here) sight (λ x. bare_fits sight (sight x) (f x)) (λ p. s (ArmsOf ∷ p)))
    one_fits (reset w b e) here sight left f g s =
        units_fit see (units b (below Body here) sight) (tested (span_of e) sight e ∷ [])
        (block_fits b (below Body here) sight (λ x. bare_fits sight (sight x) (f x)) (λ p. s (Body ∷ p))) (f, tt)
    one_fits (automaton w ss) here sight left f g s = states_fit ss (below StatesOf here) sight f (λ p. s (StatesOf ∷ p))

    arms_fit : (arms : Arms) (here : Place → Place) (sight : Sight) → Bare sight → Sees here (sights_of_arms arms here sight) → UnitsFit see (units_of_arms arms here sight)
    arms_fit no_arm here sight f s = tt
    arms_fit (more_arms c b w arms) here sight f s =
        units_fit see (units b (below Head here) sight) (units_of_arms arms (below Tail here) sight)
        (block_fits b (below Head here) sight f (λ p. s (Head ∷ p))) (arms_fit arms (below Tail here) sight f (λ p. s (Tail ∷ p)))

    states_fit : (ss : States) (here : Place → Place) (sight : Sight) → SightFits see sight → Sees here (sights_of_states ss here sight) → UnitsFit see (units_of_states ss here sight)
    states_fit no_state here sight f s = tt
    states_fit (more_states n b until unless w ss) here sight f s =
        let mine = below Body (below Head here) in
        let bare : Bare sight = λ x. bare_fits sight (sight x) (f x) in
        units_fit see (units b mine sight) (conditions (sight_of b mine sight) until ++ (conditions sight unless ++ units_of_states ss (below Tail here) sight))
        (block_fits b mine sight bare (λ p. s (Head ∷ Body ∷ p)))
        (units_fit see (conditions (sight_of b mine sight) until) (conditions sight unless ++ units_of_states ss (below Tail here) sight)
        (conditions_fit (sight_of b mine sight) (of_fits b mine sight bare (λ p. s (Head ∷ Body ∷ p))) until)
        (units_fit see (conditions sight unless) (units_of_states ss (below Tail here) sight) (conditions_fit sight f unless)
        (states_fit ss (below Tail here) sight f (λ p. s (Tail ∷ p)))))

  -- what is seen at each place fits
  mutual
    pub places_fit : (b : Block) (here : Place → Place) (out : Sight) → Bare out → Sees here (sights b here out) → (p : Place) → SightFits see (sights b here out p)
    places_fit (block ds es) here out f s (Named x ∷ []) = in_fits ds es here out f (λ x. s (Named x ∷ []))
    places_fit (block ds es) here out f s (Equations ∷ p) =
        places_of_all es (below Equations here) (sight_in ds es here out) (in_fits ds es here out f (λ x. s (Named x ∷ []))) (λ q. s (Equations ∷ q)) p
    places_fit (block ds es) here out f s p = no_fits

    places_of_all : (es : Eqns) (here : Place → Place) (sight : Sight) → SightFits see sight → Sees here (sights_of_all es here sight) → (p : Place) → SightFits see (sights_of_all es here sight p)
    places_of_all (more_eqns e es) here sight f s (Head ∷ p) = places_of_one e (below Head here) sight f (λ q. s (Head ∷ q)) p
    places_of_all (more_eqns e es) here sight f s (Tail ∷ p) = places_of_all es (below Tail here) sight f (λ q. s (Tail ∷ q)) p
    places_of_all es here sight f s p = no_fits

    places_of_one : (e : Eqn) (here : Place → Place) (sight : Sight) → SightFits see sight → Sees here (sights_of_one e here sight) → (p : Place) → SightFits see (sights_of_one e here sight p)
    places_of_one (define w ys e) here sight f s (Right ∷ []) = f
    places_of_one (switch w e arms) here sight f s (ArmsOf ∷ p) = places_of_arms arms (below ArmsOf here) sight f (λ q. s (ArmsOf ∷ q)) p
    places_of_one (reset w b e) here sight f s (Body ∷ p) =
        places_fit b (below Body here) sight (λ x. bare_fits sight (sight x) (f x)) (λ q. s (Body ∷ q)) p
    places_of_one (automaton w ss) here sight f s (StatesOf ∷ p) = places_of_states ss (below StatesOf here) sight f (λ q. s (StatesOf ∷ q)) p
    places_of_one e here sight f s p = no_fits

    places_of_arms : (arms : Arms) (here : Place → Place) (sight : Sight) → SightFits see sight → Sees here (sights_of_arms arms here sight) → (p : Place) → SightFits see (sights_of_arms arms here sight p)
    places_of_arms (more_arms c b w arms) here sight f s (Head ∷ p) =
        places_fit b (below Head here) sight (λ x. bare_fits sight (sight x) (f x)) (λ q. s (Head ∷ q)) p
    places_of_arms (more_arms c b w arms) here sight f s (Tail ∷ p) = places_of_arms arms (below Tail here) sight f (λ q. s (Tail ∷ q)) p
    places_of_arms arms here sight f s p = no_fits

    places_of_states : (ss : States) (here : Place → Place) (sight : Sight) → SightFits see sight → Sees here (sights_of_states ss here sight) → (p : Place) → SightFits see (sights_of_states ss here sight p)
    places_of_states (more_states n b until unless w ss) here sight f s (Head ∷ Body ∷ p) =
        places_fit b (below Body (below Head here)) sight (λ x. bare_fits sight (sight x) (f x)) (λ q. s (Head ∷ Body ∷ q)) p
    places_of_states (more_states n b until unless w ss) here sight f s (Tail ∷ p) = places_of_states ss (below Tail here) sight f (λ q. s (Tail ∷ q)) p
    places_of_states ss here sight f s p = no_fits

-- ---- nodes

known_bare : (b : Bool) → BareSeen (known_on_base b)
known_bare true = refl
known_bare false = tt

known_fits : (see : Place → Sight) (b : Bool) → SeenFits see no_sight (known_on_base b)
known_fits see true = inl refl
known_fits see false = tt

contract_fits : (see : Place → Sight) (out : Sight) (c : Option Contract) → Bare out → Sees see in_observer (contract_sights c out) → UnitsFit see (contract_units out c)
contract_fits see out None f s = tt
contract_fits see out (Some c) f s =
    let sight = sight_of c.body in_observer out in
    let g = of_fits see c.body in_observer out f s in
    units_fit see (units c.body in_observer out) (told sight c.assume ++ told sight c.enforce)
    (block_fits see c.body in_observer out f s) (units_fit see (told sight c.assume) (told sight c.enforce) (one_told sight g c.assume) (one_told sight g c.enforce))
  where
    one_told : (sight : Sight) → SightFits see sight → (e : Option Expr) → UnitsFit see (told sight e)
    one_told sight g None = tt
    one_told sight g (Some e) = (g, tt)

contract_places : (see : Place → Sight) (out : Sight) (c : Option Contract) → Bare out → Sees see in_observer (contract_sights c out) → (p : Place) → SightFits see (contract_sights c out p)
contract_places see out None f s p = no_fits see
contract_places see out (Some c) f s p = places_fit see c.body in_observer out f s p

pub node_fits : (n : Node) → UnitsFit (node_sights n) (node_units n)
node_fits n =
    units_fit (node_sights n) (contract_units (contract_sight n) n.contract) (units n.body in_body (body_sight n))
    (contract_fits (node_sights n) (contract_sight n) n.contract (λ x. known_bare (declares n.inputs x || declares n.outputs x)) (λ p. refl))
    (block_fits (node_sights n) n.body in_body (body_sight n) (λ x. known_bare (declares n.inputs x || (declares n.outputs x || declares (controls_of n.contract) x))) (λ p. refl))

pub node_places_fit : (n : Node) (p : Place) → SightFits (node_sights n) (node_sights n p)
node_places_fit n (Observer ∷ p) =
    contract_places (node_sights n) (contract_sight n) n.contract (λ x. known_bare (declares n.inputs x || declares n.outputs x)) (λ q. refl) p
node_places_fit n (Body ∷ p) =
    places_fit (node_sights n) n.body in_body (body_sight n) (λ x. known_bare (declares n.inputs x || (declares n.outputs x || declares (controls_of n.contract) x))) (λ q. refl) p
node_places_fit n p = no_fits (node_sights n)
