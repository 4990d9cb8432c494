-- The clocks of locals and of right sides, by their cells.
use Rattle.std.proofs.Common.{◌≡◌, ℕ, ◌+◌, List, [], ◌∷◌, ◌++◌, length, map, refl, sym, ap, ◌∙◌}
use Rattle.std.proofs.lemmas.List.{map-append}
use Rattle.std.specs.Prelude.{Option, None, Some}
use Rattle.hp_tree.specs.declared.block.Trans.{Trans}
use Rattle.hp_tree.specs.Expressions.{Expr}
use Rattle.hp_tree.specs.Blocks.{Decl, Block, block, Eqns, no_eqn, more_eqns, Eqn, define, switch, reset, automaton, Arms, no_arm, more_arms, States, no_state, more_states}
use Rattle.hp_tree.specs.Programs.{Contract, Node}
use Rattle.hp_tree.specs.Instant.{Place, Body, Observer, Equations, Head, Tail, Right, Arms as ArmsOf, States as StatesOf, Clock}
use Rattle.hp_meaning.specs.Causal.Sources.{below}
use Rattle.hp_meaning.specs.Clocking.Terms.{value}
use Rattle.hp_meaning.specs.Clocking.Clocking.{Assignment, local_term, in_observer, in_body}
use Rattle.hp_clocks.specs.Cells.{Clocks}
use Rattle.hp_clocks.specs.Listed as place
use Rattle.hp_clocks.specs.Units.{size, size_of, size_of_contract, cell_of, locals, locals_in_all, locals_in_one, locals_in_arms, locals_in_states, locals_of_contract, locals_of_node, rights, rights_in_all, rights_in_one, rights_in_arms, rights_in_states, rights_told, rights_of_contract, rights_of_node, tests, test_of}
use Rattle.hp_clocks.proofs.TiedLaws.{number_block, number_all, number_one, number_arms, number_states, number_contract, Tied}
use Rattle.hp_clocks.proofs.SameLaws.{TiedIn, EachDeclared, all_declared, local_same}

module _ (at : Assignment) (clocks : Clocks) (base : clocks 0 ≡ []) where
  abbrev TiedTo : (Place → Place) → (Place → Option ℕ) → Type 0
  TiedTo here number = (p : Place) (i : ℕ) → number p ≡ Some i → at (here p) ≡ clocks i

  abbrev Here : Assignment → Clocks → Type 0
  Here other cells = (at ≡ other) × (clocks ≡ cells)

  here_base : (other : Assignment) (cells : Clocks) → Here other cells → cells 0 ≡ []
  here_base other cells h = ap (λ (f : Clocks). f 0) (sym h.1) ∙ base

  tied_for : (here : Place → Place) (number : Place → Option ℕ) → TiedTo here number → TiedIn Here here_base here number
  tied_for here number t other cells h p i e = ap (λ (f : Assignment). f (here p)) (sym h.0) ∙ t p i e ∙ ap (λ (f : Clocks). f i) h.1

  joined : (us vs : List Clock) (is js : List ℕ) → us ≡ map clocks is → vs ≡ map clocks js → us ++ vs ≡ map clocks (is ++ js)
  joined us vs is js e f = ap (λ z. z ++ vs) e ∙ ap (λ z. map clocks is ++ z) f ∙ sym (map-append clocks is js)

  own : (all : List Decl) (es : Eqns) (here : Place → Place) (k : ℕ) → TiedTo here (number_block k (block all es)) → (ds : List Decl) → EachDeclared Here here_base all ds → map (λ d. value at (local_term es here d)) ds ≡ map clocks (map (λ d. cell_of es k all d) ds)
  own all es here k t [] h = refl
  own all es here k t (d ∷ ds) h =
      ap (λ c. c ∷ map (λ e. value at (local_term es here e)) ds) (local_same Here here_base all es here k (tied_for here (number_block k (block all es)) t) d h.0 at clocks (refl, refl))
      ∙ ap (λ cs. clocks (cell_of es k all d) ∷ cs) (own all es here k t ds h.1)

  mutual
    pub locals_same : (b : Block) (here : Place → Place) (k : ℕ) → TiedTo here (number_block k b) → place.locals at here b ≡ map clocks (locals k b)
    locals_same (block ds es) here k t =
        joined (map (λ d. value at (local_term es here d)) ds) (place.locals_in_all at (below Equations here) es) (map (λ d. cell_of es k ds d) ds) (locals_in_all (k + length ds) es)
        (own ds es here k t ds (all_declared Here here_base ds)) (locals_all es (below Equations here) (k + length ds) (λ p i e. t (Equations ∷ p) i e))

    locals_all : (es : Eqns) (here : Place → Place) (k : ℕ) → TiedTo here (number_all k es) → place.locals_in_all at here es ≡ map clocks (locals_in_all k es)
    locals_all no_eqn here k t = refl
    locals_all (more_eqns e es) here k t =
        joined (place.locals_in_one at (below Head here) e) (place.locals_in_all at (below Tail here) es) (locals_in_one k e) (locals_in_all (k + size_of e) es) (locals_one e (below Head here) k (λ p i q. t (Head ∷ p) i q))
        (locals_all es (below Tail here) (k + size_of e) (λ p i q. t (Tail ∷ p) i q))

    locals_one : (e : Eqn) (here : Place → Place) (k : ℕ) → TiedTo here (number_one k e) → place.locals_in_one at here e ≡ map clocks (locals_in_one k e)
    locals_one (define s ys e) here k t = refl
    locals_one (switch s e arms) here k t = locals_arms arms (below ArmsOf here) k (λ p i q. t (ArmsOf ∷ p) i q)
    locals_one (reset s b e) here k t = locals_same b (below Body here) k (λ p i q. t (Body ∷ p) i q)
    locals_one (automaton s ss) here k t = locals_states ss (below StatesOf here) k (λ p i q. t (StatesOf ∷ p) i q)

    locals_arms : (arms : Arms) (here : Place → Place) (k : ℕ) → TiedTo here (number_arms k arms) → place.locals_in_arms at here arms ≡ map clocks (locals_in_arms k arms)
    locals_arms no_arm here k t = refl
    locals_arms (more_arms c b s arms) here k t =
        joined (place.locals at (below Head here) b) (place.locals_in_arms at (below Tail here) arms) (locals k b) (locals_in_arms (k + size b) arms) (locals_same b (below Head here) k (λ p i q. t (Head ∷ p) i q))
        (locals_arms arms (below Tail here) (k + size b) (λ p i q. t (Tail ∷ p) i q))

    locals_states : (ss : States) (here : Place → Place) (k : ℕ) → TiedTo here (number_states k ss) → place.locals_in_states at here ss ≡ map clocks (locals_in_states k ss)
    locals_states no_state here k t = refl
    locals_states (more_states f b until unless s ss) here k t =
        joined (place.locals at (below Body (below Head here)) b) (place.locals_in_states at (below Tail here) ss) (locals k b) (locals_in_states (k + size b) ss)
        (locals_same b (below Body (below Head here)) k (λ p i q. t (Head ∷ Body ∷ p) i q)) (locals_states ss (below Tail here) (k + size b) (λ p i q. t (Tail ∷ p) i q))

  -- ---- right sides

  abbrev pub read_right : ℕ × Expr → Clock × Expr
  read_right r = (clocks r.0, r.1)

  both : (us vs : List (Clock × Expr)) (is js : List (ℕ × Expr)) → us ≡ map read_right is → vs ≡ map read_right js → us ++ vs ≡ map read_right (is ++ js)
  both us vs is js e f = ap (λ z. z ++ vs) e ∙ ap (λ z. map read_right is ++ z) f ∙ sym (map-append read_right is js)

  with_clock : (c d : Clock) (e : Expr) (rest : List (Clock × Expr)) → c ≡ d → (let r : Clock × Expr = (c, e) in r ∷ rest) ≡ (let r : Clock × Expr = (d, e) in r ∷ rest)
  with_clock c d e rest p = ap (λ z. let r : Clock × Expr = (z, e) in r ∷ rest) p

  test_same : (e : Expr) → place.on_base e ∷ [] ≡ map read_right (test_of e)
  test_same e = with_clock [] (clocks 0) e [] (sym base)

  tests_same : (ts : List Trans) → place.conditions ts ≡ map read_right (tests ts)
  tests_same [] = refl
  tests_same (t ∷ ts) = with_clock [] (clocks 0) t.cond (place.conditions ts) (sym base) ∙ ap (λ z. read_right (0, t.cond) ∷ z) (tests_same ts)

  mutual
    pub rights_same : (b : Block) (here : Place → Place) (k : ℕ) → TiedTo here (number_block k b) → place.rights at here b ≡ map read_right (rights k b)
    rights_same (block ds es) here k t = rights_all es (below Equations here) (k + length ds) (λ p i e. t (Equations ∷ p) i e)

    rights_all : (es : Eqns) (here : Place → Place) (k : ℕ) → TiedTo here (number_all k es) → place.rights_in_all at here es ≡ map read_right (rights_in_all k es)
    rights_all no_eqn here k t = refl
    rights_all (more_eqns e es) here k t =
        both (place.rights_in_one at (below Head here) e) (place.rights_in_all at (below Tail here) es) (rights_in_one k e) (rights_in_all (k + size_of e) es) (rights_one e (below Head here) k (λ p i q. t (Head ∷ p) i q))
        (rights_all es (below Tail here) (k + size_of e) (λ p i q. t (Tail ∷ p) i q))

    rights_one : (e : Eqn) (here : Place → Place) (k : ℕ) → TiedTo here (number_one k e) → place.rights_in_one at here e ≡ map read_right (rights_in_one k e)
    rights_one (define s ys e) here k t = with_clock (at (here (Right ∷ []))) (clocks k) e [] (t (Right ∷ []) k refl)
    rights_one (switch s e arms) here k t =
        both (place.on_base e ∷ []) (place.rights_in_arms at (below ArmsOf here) arms) (test_of e) (rights_in_arms k arms) (test_same e) (rights_arms arms (below ArmsOf here) k (λ p i q. t (ArmsOf ∷ p) i q))
    rights_one (reset s b e) here k t =
        both (place.rights at (below Body here) b) (place.on_base e ∷ []) (rights k b) (test_of e) (rights_same b (below Body here) k (λ p i q. t (Body ∷ p) i q)) (test_same e)
    rights_one (automaton s ss) here k t = rights_states ss (below StatesOf here) k (λ p i q. t (StatesOf ∷ p) i q)

    rights_arms : (arms : Arms) (here : Place → Place) (k : ℕ) → TiedTo here (number_arms k arms) → place.rights_in_arms at here arms ≡ map read_right (rights_in_arms k arms)
    rights_arms no_arm here k t = refl
    rights_arms (more_arms c b s arms) here k t =
        both (place.rights at (below Head here) b) (place.rights_in_arms at (below Tail here) arms) (rights k b) (rights_in_arms (k + size b) arms) (rights_same b (below Head here) k (λ p i q. t (Head ∷ p) i q))
        (rights_arms arms (below Tail here) (k + size b) (λ p i q. t (Tail ∷ p) i q))

    rights_states : (ss : States) (here : Place → Place) (k : ℕ) → TiedTo here (number_states k ss) → place.rights_in_states at here ss ≡ map read_right (rights_in_states k ss)
    rights_states no_state here k t = refl
    rights_states (more_states f b until unless s ss) here k t =
        both (place.rights at (below Body (below Head here)) b) (place.conditions until ++ (place.conditions unless ++ place.rights_in_states at (below Tail here) ss)) (rights k b) (tests until ++ (tests unless ++ rights_in_states (k + size b) ss))
        (rights_same b (below Body (below Head here)) k (λ p i q. t (Head ∷ Body ∷ p) i q))
        (both (place.conditions until) (place.conditions unless ++ place.rights_in_states at (below Tail here) ss) (tests until) (tests unless ++ rights_in_states (k + size b) ss) (tests_same until)
        (both (place.conditions unless) (place.rights_in_states at (below Tail here) ss) (tests unless) (rights_in_states (k + size b) ss) (tests_same unless)
        (rights_states ss (below Tail here) (k + size b) (λ p i q. t (Tail ∷ p) i q))))

  told_rights : (e : Option Expr) → place.rights_told e ≡ map read_right (rights_told e)
  told_rights None = refl
  told_rights (Some e) = test_same e

-- ---- nodes

contract_locals : (at : Assignment) (clocks : Clocks) (base : clocks 0 ≡ []) (c : Option Contract) → ((p : Place) (i : ℕ) → number_contract c p ≡ Some i → at (Observer ∷ p) ≡ clocks i) → place.locals_of_contract at c ≡ map clocks (locals_of_contract c)
contract_locals at clocks base None t = refl
contract_locals at clocks base (Some c) t = locals_same at clocks base c.body in_observer 1 t

pub node_locals : (n : Node) (at : Assignment) (clocks : Clocks) → Tied n at clocks → place.locals_of_node at n ≡ map clocks (locals_of_node n)
node_locals n at clocks t =
    joined at clocks t.base (place.locals_of_contract at n.contract) (place.locals at in_body n.body) (locals_of_contract n.contract) (locals (1 + size_of_contract n.contract) n.body)
    (contract_locals at clocks t.base n.contract (λ p i e. t.tied (Observer ∷ p) i e))
    (locals_same at clocks t.base n.body in_body (1 + size_of_contract n.contract) (λ p i e. t.tied (Body ∷ p) i e))

contract_rights : (at : Assignment) (clocks : Clocks) (base : clocks 0 ≡ []) (c : Option Contract) → ((p : Place) (i : ℕ) → number_contract c p ≡ Some i → at (Observer ∷ p) ≡ clocks i) → place.rights_of_contract at c ≡ map (read_right at clocks base) (rights_of_contract c)
contract_rights at clocks base None t = refl
contract_rights at clocks base (Some c) t =
    both at clocks base (place.rights at in_observer c.body) (place.rights_told c.assume ++ place.rights_told c.enforce) (rights 1 c.body) (rights_told c.assume ++ rights_told c.enforce) (rights_same at clocks base c.body in_observer 1 t)
    (both at clocks base (place.rights_told c.assume) (place.rights_told c.enforce) (rights_told c.assume) (rights_told c.enforce) (told_rights at clocks base c.assume) (told_rights at clocks base c.enforce))

pub node_rights : (n : Node) (at : Assignment) (clocks : Clocks) (t : Tied n at clocks) → place.rights_of_node at n ≡ map (read_right at clocks t.base) (rights_of_node n)
node_rights n at clocks t =
    both at clocks t.base (place.rights_of_contract at n.contract) (place.rights at in_body n.body) (rights_of_contract n.contract) (rights (1 + size_of_contract n.contract) n.body)
    (contract_rights at clocks t.base n.contract (λ p i e. t.tied (Observer ∷ p) i e))
    (rights_same at clocks t.base n.body in_body (1 + size_of_contract n.contract) (λ p i e. t.tied (Body ∷ p) i e))
