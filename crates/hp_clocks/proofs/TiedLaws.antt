-- The cells of variables by their places, and clocks that are told of places and of cells alike.
use Rattle.std.proofs.Common.{◌≡◌, ℕ, zero, suc, ◌+◌, ◌<◌, ◌≤◌, List, [], ◌∷◌, ◌++◌, length, map, refl, sym, ap, ◌∙◌, subst, arith, length-append}
use Rattle.std.proofs.lemmas.List.{length-map}
use Rattle.std.specs.Prelude.{⊤, Bool, true, false, if◌then◌else◌, Option, None, Some}
use Rattle.std.specs.Str.{bytes_eq}
use Rattle.std.proofs.lemmas.Slice.Eq.{bytes_eq-Decides}
use Rattle.hp_tree.specs.Blocks.{Decl, Block, block, Eqns, no_eqn, more_eqns, Eqn, define, switch, reset, automaton, Arms, no_arm, more_arms, States, no_state, more_states}
use Rattle.hp_tree.specs.Programs.{Contract, Node}
use Rattle.hp_tree.specs.Instant.{Place, Body, Observer, Named, Equations, Head, Tail, Right, Arms as ArmsOf, States as StatesOf, Clock}
use Rattle.hp_meaning.specs.Causal.Sources.{below}
use Rattle.hp_meaning.specs.Clocking.Clocking.{Assignment, in_observer, in_body}
use Rattle.hp_clocks.specs.Cells.{Clocks}
use Rattle.hp_clocks.specs.Units.{size, size_of, size_of_all, size_of_arms, size_of_states, size_of_contract, size_of_node, number_in}

-- ---- the cell at a place, where a part has the cells from k on

abbrev pub Numbering : Type 0
Numbering = Place → Option ℕ

abbrev mutual
  pub number_block : ℕ → Block → Numbering
  number_block k (block ds es) (Named x ∷ []) = number_in k ds x
  number_block k (block ds es) (Equations ∷ p) = number_all (k + length ds) es p
  number_block k b p = None

  pub number_all : ℕ → Eqns → Numbering
  number_all k (more_eqns e es) (Head ∷ p) = number_one k e p
  number_all k (more_eqns e es) (Tail ∷ p) = number_all (k + size_of e) es p
  number_all k es p = None

  pub number_one : ℕ → Eqn → Numbering
  number_one k (define s ys e) (Right ∷ []) = Some k
  number_one k (switch s e arms) (ArmsOf ∷ p) = number_arms k arms p
  number_one k (reset s b e) (Body ∷ p) = number_block k b p
  number_one k (automaton s ss) (StatesOf ∷ p) = number_states k ss p
  number_one k e p = None

  pub number_arms : ℕ → Arms → Numbering
  number_arms k (more_arms c b s arms) (Head ∷ p) = number_block k b p
  number_arms k (more_arms c b s arms) (Tail ∷ p) = number_arms (k + size b) arms p
  number_arms k arms p = None

  pub number_states : ℕ → States → Numbering
  number_states k (more_states f b until unless s ss) (Head ∷ Body ∷ p) = number_block k b p
  number_states k (more_states f b until unless s ss) (Tail ∷ p) = number_states (k + size b) ss p
  number_states k ss p = None

abbrev pub number_contract : Option Contract → Numbering
number_contract None p = None
number_contract (Some c) p = number_block 1 c.body p

abbrev pub number_node : Node → Numbering
number_node n (Observer ∷ p) = number_contract n.contract p
number_node n (Body ∷ p) = number_block (1 + size_of_contract n.contract) n.body p
number_node n p = None

-- ---- the clocks of variables, one after another

abbrev mutual
  pub values : Assignment → (Place → Place) → Block → List Clock
  values at here (block ds es) = map (λ d. at (here (Named d.name ∷ []))) ds ++ values_of_all at (below Equations here) es

  pub values_of_all : Assignment → (Place → Place) → Eqns → List Clock
  values_of_all at here no_eqn = []
  values_of_all at here (more_eqns e es) = values_of_one at (below Head here) e ++ values_of_all at (below Tail here) es

  pub values_of_one : Assignment → (Place → Place) → Eqn → List Clock
  values_of_one at here (define s ys e) = at (here (Right ∷ [])) ∷ []
  values_of_one at here (switch s e arms) = values_of_arms at (below ArmsOf here) arms
  values_of_one at here (reset s b e) = values at (below Body here) b
  values_of_one at here (automaton s ss) = values_of_states at (below StatesOf here) ss

  pub values_of_arms : Assignment → (Place → Place) → Arms → List Clock
  values_of_arms at here no_arm = []
  values_of_arms at here (more_arms c b s arms) = values at (below Head here) b ++ values_of_arms at (below Tail here) arms

  pub values_of_states : Assignment → (Place → Place) → States → List Clock
  values_of_states at here no_state = []
  values_of_states at here (more_states f b until unless s ss) = values at (below Body (below Head here)) b ++ values_of_states at (below Tail here) ss

abbrev pub values_of_contract : Assignment → Option Contract → List Clock
values_of_contract at None = []
values_of_contract at (Some c) = values at in_observer c.body

abbrev pub values_of_node : Assignment → Node → List Clock
values_of_node at n = values_of_contract at n.contract ++ values at in_body n.body

sum : (us vs : List Clock) (m n : ℕ) → length us ≡ m → length vs ≡ n → length (us ++ vs) ≡ m + n
sum us vs m n d e = length-append us vs ∙ ap (λ i. i + length vs) d ∙ ap (λ i. m + i) e

module _ (at : Assignment) where
  mutual
    pub many : (b : Block) (here : Place → Place) → length (values at here b) ≡ size b
    many (block ds es) here =
        sum (map (λ d. at (here (Named d.name ∷ []))) ds) (values_of_all at (below Equations here) es) (length ds) (size_of_all es) (length-map ds (λ (d : Decl). at (here (Named d.name ∷ []))))
        (many_of_all es (below Equations here))

    many_of_all : (es : Eqns) (here : Place → Place) → length (values_of_all at here es) ≡ size_of_all es
    many_of_all no_eqn here = refl
    many_of_all (more_eqns e es) here =
        sum (values_of_one at (below Head here) e) (values_of_all at (below Tail here) es) (size_of e) (size_of_all es) (many_of_one e (below Head here)) (many_of_all es (below Tail here))

    many_of_one : (e : Eqn) (here : Place → Place) → length (values_of_one at here e) ≡ size_of e
    many_of_one (define s ys e) here = refl
    many_of_one (switch s e arms) here = many_of_arms arms (below ArmsOf here)
    many_of_one (reset s b e) here = many b (below Body here)
    many_of_one (automaton s ss) here = many_of_states ss (below StatesOf here)

    many_of_arms : (arms : Arms) (here : Place → Place) → length (values_of_arms at here arms) ≡ size_of_arms arms
    many_of_arms no_arm here = refl
    many_of_arms (more_arms c b s arms) here =
        sum (values at (below Head here) b) (values_of_arms at (below Tail here) arms) (size b) (size_of_arms arms) (many b (below Head here)) (many_of_arms arms (below Tail here))

    many_of_states : (ss : States) (here : Place → Place) → length (values_of_states at here ss) ≡ size_of_states ss
    many_of_states no_state here = refl
    many_of_states (more_states f b until unless s ss) here =
        sum (values at (below Body (below Head here)) b) (values_of_states at (below Tail here) ss) (size b) (size_of_states ss) (many b (below Body (below Head here))) (many_of_states ss (below Tail here))

  many_in_contract : (c : Option Contract) → length (values_of_contract at c) ≡ size_of_contract c
  many_in_contract None = refl
  many_in_contract (Some c) = many c.body in_observer

-- ---- clocks of cells that have these values

abbrev pub Listed : Clocks → ℕ → List Clock → Type 0
Listed clocks k [] = ⊤
Listed clocks k (v ∷ vs) = (clocks k ≡ v) × Listed clocks (k + 1) vs

first_part : (clocks : Clocks) (us vs : List Clock) (k : ℕ) → Listed clocks k (us ++ vs) → Listed clocks k us
first_part clocks [] vs k h = tt
first_part clocks (u ∷ us) vs k h = (h.0, first_part clocks us vs (k + 1) h.1)

second_part : (clocks : Clocks) (us vs : List Clock) (k m : ℕ) → length us ≡ m → Listed clocks k (us ++ vs) → Listed clocks (k + m) vs
second_part clocks [] vs k m e h =
    let z : k ≡ k + m = omega (arith, e) in
    subst (λ i. Listed clocks i vs) z h
second_part clocks (u ∷ us) vs k zero e h = absurd (cc e)
second_part clocks (u ∷ us) vs k (suc m) e h =
    let d : length us ≡ m = omega (arith, e) in
    let z : k + 1 + m ≡ k + suc m = omega arith in
    subst (λ i. Listed clocks i vs) z (second_part clocks us vs (k + 1) m d h.1)

some_same : (a c : ℕ) → Some a ≡ Some c → a ≡ c
some_same a c e = ap (or_else a) e
  where
    or_else : ℕ → Option ℕ → ℕ
    or_else k None = k
    or_else k (Some z) = z

-- a clock that is that of a cell from k on
abbrev pub IsAt : Clocks → ℕ → ℕ → Clock → ℕ → Type 0
IsAt clocks k n c i = (c ≡ clocks i) × (i < k + n)

wider : (clocks : Clocks) (k m n : ℕ) (c : Clock) (i : ℕ) → m ≤ n → IsAt clocks k m c i → IsAt clocks k n c i
wider clocks k m n c i h a = (a.0, omega (arith, h, a.1))

behind : (clocks : Clocks) (k m n : ℕ) (c : Clock) (i : ℕ) → IsAt clocks (k + m) n c i → IsAt clocks k (m + n) c i
behind clocks k m n c i a = (a.0, omega (arith, a.1))

ahead : (clocks : Clocks) (k m n : ℕ) (c : Clock) (i : ℕ) → IsAt clocks k m c i → IsAt clocks k (m + n) c i
ahead clocks k m n c i a = (a.0, omega (arith, a.1))

module _ (at : Assignment) (clocks : Clocks) where
  local_at : (ds : List Decl) (here : Place → Place) (k : ℕ) → Listed clocks k (map (λ d. at (here (Named d.name ∷ []))) ds) → (x : List ℕ) (i : ℕ) → number_in k ds x ≡ Some i → IsAt clocks k (length ds) (at (here (Named x ∷ []))) i
  local_at [] here k h x i e = absurd (cc e)
  local_at (d ∷ ds) here k h x i e = tie (bytes_eq d.name x) (bytes_eq-Decides d.name x).0 (λ q. local_at ds here (k + 1) h.1 x i q) e
    where
      tie : (b : Bool) → (b ≡ true → d.name ≡ x) → (number_in (k + 1) ds x ≡ Some i → IsAt clocks (k + 1) (length ds) (at (here (Named x ∷ []))) i) → (if b then Some k else number_in (k + 1) ds x) ≡ Some i → IsAt clocks k (suc (length ds)) (at (here (Named x ∷ []))) i
      tie true f g q =
          let z : k ≡ i = some_same k i q in
          (ap (λ y. at (here (Named y ∷ []))) (sym (f refl)) ∙ sym h.0 ∙ ap clocks z, omega (arith, z))
      tie false f g q =
          let a : IsAt clocks (k + 1) (length ds) (at (here (Named x ∷ []))) i = g q in
          (a.0, omega (arith, a.1))

  mutual
    pub at_block : (b : Block) (here : Place → Place) (k : ℕ) → Listed clocks k (values at here b) → (p : Place) (i : ℕ) → number_block k b p ≡ Some i → IsAt clocks k (size b) (at (here p)) i
    at_block (block ds es) here k h (Named x ∷ []) i e =
        ahead clocks k (length ds) (size_of_all es) (at (here (Named x ∷ []))) i
        (local_at ds here k (first_part clocks (map (λ d. at (here (Named d.name ∷ []))) ds) (values_of_all at (below Equations here) es) k h) x i e)
    at_block (block ds es) here k h (Equations ∷ p) i e =
        behind clocks k (length ds) (size_of_all es) (at (here (Equations ∷ p))) i
        (at_all es (below Equations here) (k + length ds)
        (second_part clocks (map (λ d. at (here (Named d.name ∷ []))) ds) (values_of_all at (below Equations here) es) k (length ds) (length-map ds (λ (d : Decl). at (here (Named d.name ∷ [])))) h) p i e)
    at_block b here k h p i e = absurd (cc e)

    at_all : (es : Eqns) (here : Place → Place) (k : ℕ) → Listed clocks k (values_of_all at here es) → (p : Place) (i : ℕ) → number_all k es p ≡ Some i → IsAt clocks k (size_of_all es) (at (here p)) i
    at_all (more_eqns e es) here k h (Head ∷ p) i q =
        ahead clocks k (size_of e) (size_of_all es) (at (here (Head ∷ p))) i
        (at_one e (below Head here) k (first_part clocks (values_of_one at (below Head here) e) (values_of_all at (below Tail here) es) k h) p i q)
    at_all (more_eqns e es) here k h (Tail ∷ p) i q =
        behind clocks k (size_of e) (size_of_all es) (at (here (Tail ∷ p))) i
        (at_all es (below Tail here) (k + size_of e)
        (second_part clocks (values_of_one at (below Head here) e) (values_of_all at (below Tail here) es) k (size_of e) (many_of_one at e (below Head here)) h) p i q)
    at_all es here k h p i q = absurd (cc q)

    at_one : (e : Eqn) (here : Place → Place) (k : ℕ) → Listed clocks k (values_of_one at here e) → (p : Place) (i : ℕ) → number_one k e p ≡ Some i → IsAt clocks k (size_of e) (at (here p)) i
    at_one (define s ys e) here k h (Right ∷ []) i q =
        let z : k ≡ i = some_same k i q in
        (sym h.0 ∙ ap clocks z, omega (arith, z))
    at_one (switch s e arms) here k h (ArmsOf ∷ p) i q = at_arms arms (below ArmsOf here) k h p i q
    at_one (reset s b e) here k h (Body ∷ p) i q = at_block b (below Body here) k h p i q
    at_one (automaton s ss) here k h (StatesOf ∷ p) i q = at_states ss (below StatesOf here) k h p i q
    at_one e here k h p i q = absurd (cc q)

    at_arms : (arms : Arms) (here : Place → Place) (k : ℕ) → Listed clocks k (values_of_arms at here arms) → (p : Place) (i : ℕ) → number_arms k arms p ≡ Some i → IsAt clocks k (size_of_arms arms) (at (here p)) i
    at_arms (more_arms c b s arms) here k h (Head ∷ p) i q =
        ahead clocks k (size b) (size_of_arms arms) (at (here (Head ∷ p))) i
        (at_block b (below Head here) k (first_part clocks (values at (below Head here) b) (values_of_arms at (below Tail here) arms) k h) p i q)
    at_arms (more_arms c b s arms) here k h (Tail ∷ p) i q =
        behind clocks k (size b) (size_of_arms arms) (at (here (Tail ∷ p))) i
        (at_arms arms (below Tail here) (k + size b)
        (second_part clocks (values at (below Head here) b) (values_of_arms at (below Tail here) arms) k (size b) (many at b (below Head here)) h) p i q)
    at_arms arms here k h p i q = absurd (cc q)

    at_states : (ss : States) (here : Place → Place) (k : ℕ) → Listed clocks k (values_of_states at here ss) → (p : Place) (i : ℕ) → number_states k ss p ≡ Some i → IsAt clocks k (size_of_states ss) (at (here p)) i
    at_states (more_states f b until unless s ss) here k h (Head ∷ Body ∷ p) i q =
        ahead clocks k (size b) (size_of_states ss) (at (here (Head ∷ Body ∷ p))) i
        (at_block b (below Body (below Head here)) k (first_part clocks (values at (below Body (below Head here)) b) (values_of_states at (below Tail here) ss) k h) p i q)
    at_states (more_states f b until unless s ss) here k h (Tail ∷ p) i q =
        behind clocks k (size b) (size_of_states ss) (at (here (Tail ∷ p))) i
        (at_states ss (below Tail here) (k + size b)
        (second_part clocks (values at (below Body (below Head here)) b) (values_of_states at (below Tail here) ss) k (size b) (many at b (below Body (below Head here))) h) p i q)
    at_states ss here k h p i q = absurd (cc q)

  at_contract : (c : Option Contract) → Listed clocks 1 (values_of_contract at c) → (p : Place) (i : ℕ) → number_contract c p ≡ Some i → IsAt clocks 1 (size_of_contract c) (at (Observer ∷ p)) i
  at_contract None h p i q = absurd (cc q)
  at_contract (Some c) h p i q = at_block c.body in_observer 1 h p i q

  pub at_node : (n : Node) → Listed clocks 1 (values_of_node at n) → (p : Place) (i : ℕ) → number_node n p ≡ Some i → IsAt clocks 1 (size_of_node n) (at p) i
  at_node n h (Observer ∷ p) i q =
      ahead clocks 1 (size_of_contract n.contract) (size n.body) (at (Observer ∷ p)) i
      (at_contract n.contract (first_part clocks (values_of_contract at n.contract) (values at in_body n.body) 1 h) p i q)
  at_node n h (Body ∷ p) i q =
      behind clocks 1 (size_of_contract n.contract) (size n.body) (at (Body ∷ p)) i
      (at_block n.body in_body (1 + size_of_contract n.contract)
      (second_part clocks (values_of_contract at n.contract) (values at in_body n.body) 1 (size_of_contract n.contract) (many_in_contract at n.contract) h) p i q)
  at_node n h p i q = absurd (cc q)

-- ---- from clocks of places to clocks of cells, and back

abbrev value_at : List Clock → ℕ → Clock
value_at [] i = []
value_at (v ∷ vs) zero = v
value_at (v ∷ vs) (suc i) = value_at vs i

abbrev spread : List Clock → Clocks
spread vs zero = []
spread vs (suc i) = value_at vs i

spread_out : (f : Clocks) (vs : List Clock) (k : ℕ) → ((i : ℕ) → f (k + i) ≡ value_at vs i) → Listed f k vs
spread_out f [] k h = tt
spread_out f (v ∷ vs) k h =
    let z : k ≡ k + 0 = omega arith in
    (ap f z ∙ h 0, spread_out f vs (k + 1) (λ i. let w : k + 1 + i ≡ k + suc i = omega arith in ap f w ∙ h (suc i)))

abbrev pub by_number : Clocks → Option ℕ → Clock
by_number clocks None = []
by_number clocks (Some i) = clocks i

-- clocks of places and of cells that are alike
pub record Tied (n : Node) (at : Assignment) (clocks : Clocks) : Type 0 where
  pub base : clocks 0 ≡ []
  pub tied : (p : Place) (i : ℕ) → number_node n p ≡ Some i → at p ≡ clocks i

pub tied_places : (n : Node) (clocks : Clocks) → clocks 0 ≡ [] → Tied n (λ p. by_number clocks (number_node n p)) clocks
tied_places n clocks b = record { base = b; tied = λ p i e. ap (by_number clocks) e }

one_more : (i : ℕ) → 1 + i ≡ suc i
one_more i = omega arith

abbrev pub cells_for : Assignment → Node → Clocks
cells_for at n = spread (values_of_node at n)

listed_cells : (at : Assignment) (n : Node) → Listed (cells_for at n) 1 (values_of_node at n)
listed_cells at n = spread_out (spread (values_of_node at n)) (values_of_node at n) 1 (λ i. ap (spread (values_of_node at n)) (one_more i))

pub tied_cells : (n : Node) (at : Assignment) → Tied n at (cells_for at n)
tied_cells n at = record { base = refl; tied = λ p i e. (at_node at (cells_for at n) n (listed_cells at n) p i e).0 }

-- Each cell of a place is one of the variables.
pub number_there : (n : Node) (p : Place) (i : ℕ) → number_node n p ≡ Some i → i < 1 + size_of_node n
number_there n p i e = (at_node (λ q. []) (cells_for (λ q. []) n) n (listed_cells (λ q. []) n) p i e).1
