-- The program of a text that is well named is neat.
use Rattle.std.proofs.Common.{◌≡◌, ℕ, zero, suc, ◌+◌, ◌<◌, ◌≤◌, ◌⊎◌, inl, inr, ⊎_elim, Bool, true, false, if◌then◌else◌, List, [], ◌∷◌, ◌++◌, length, Contains, arith}
use Rattle.std.proofs.lemmas.List.Elements.{Contains-append_cases}
use Rattle.std.specs.Prelude.{IsTrue, Option, None, Some}
use Rattle.std.specs.Str.{bytes_eq}
use Rattle.hp_tree.specs.declared.block.Trans.{Trans}
use Rattle.hp_tree.specs.declared.program.Item.{Item}
use Rattle.hp_tree.specs.declared.program.Item.TheVariants.{TypeItem, NodeItem}
use Rattle.hp_tree.specs.Expressions.{Expr, constant, variable, last_of, one, two, choose, pre, fby, arrow, when_is, merge, call}
use Rattle.hp_tree.specs.Blocks.{Block, block, Eqns, no_eqn, more_eqns, Eqn, define, switch, reset, automaton, Arms, no_arm, more_arms, States, no_state, more_states}
use Rattle.hp_tree.specs.Programs.{Contract}
use Rattle.hp_parser.specs.declared.mode.Mode.TheVariants.{Plain as Plainly}
use Rattle.hp_print.proofs.Heights.{Good}
use Rattle.hp_print.proofs.Readable.{Each, GoodTransition, SomeStates, GoodBlock, GoodEqns, GoodEqn, GoodArms, GoodStates, GoodOptional, GoodItem, nest_block, nest_eqns, nest_eqn, nest_arms, nest_states}
use Rattle.hp_names.specs.Names.{has, with_name, with_names, state_names}
use Rattle.hp_tree.specs.Meaning.{controls_of}
use Rattle.hp_names.specs.Scopes.{with_variables, inside, inside_node, behind as behind_item}
use Rattle.hp_names.specs.Rules.{TransitionsAreNamed, BlockIsNamed, EqnsAreNamed, EqnIsNamed, ArmsAreNamed, StatesAreNamed, ContractIsNamed, ItemsAreNamed}
use Rattle.law_judged.specs.Named.Scopes.{NameScope}
use Rattle.law_judged.specs.Named.Scoped.{EachNode}
use Rattle.law_judged.proofs.NamedLemmas.Sets.{or_left, or_right, name_same}
use Rattle.hp_automata.specs.Lowering.{count_of}
use Rattle.law_automata.specs.Lowered.Removable.{Plain, is_state, most}
use Rattle.law_automata.proofs.LowerableLemmas.Neat.{StateNames, TransitionsNeat, RowNeat, BlockNeat, EqnsNeat, EqnNeat, ArmsNeat, StatesNeat, ContractNeat, NodeNeat}
use Rattle.law_automata.proofs.LowerableLemmas.NeatReplaced.{inner_at}
use Rattle.law_automata.proofs.LowerableLemmas.Weights.{in_block, in_eqns, in_eqn, in_arms, in_states, in_contract, few, AllFew}

-- ---- states that are known are states

one_name : (y x : List ℕ) → Contains (y ∷ []) x → y ≡ x
one_name y x (zero, h, e) = e
one_name y x (suc k, h, e) = absurd (omega (arith, h))

pub name_cases : (names : List (List ℕ)) (y x : List ℕ) → Contains (with_name names y) x → (y ≡ x) ⊎ Contains names x
name_cases names y x h = by (has names y) h
  where
    last : Contains names x ⊎ Contains (y ∷ []) x → (y ≡ x) ⊎ Contains names x
    last (inl k) = inr k
    last (inr k) = inl (one_name y x k)

    by : (known : Bool) → Contains (if known then names else names ++ y ∷ []) x → (y ≡ x) ⊎ Contains names x
    by true k = inr k
    by false k = last (Contains-append_cases names (y ∷ []) x k)

state_cases : (qs : States) (names : List (List ℕ)) (x : List ℕ) → Contains (with_names names (state_names qs)) x → Contains names x ⊎ IsTrue (is_state qs x)
state_cases no_state names x h = inl h
state_cases (more_states f b until unless s qs) names x h = by (state_cases qs (with_name names f) x h)
  where
    first : (f ≡ x) ⊎ Contains names x → Contains names x ⊎ IsTrue (is_state (more_states f b until unless s qs) x)
    first (inl e) = inr (or_left (bytes_eq f x) (is_state qs x) (name_same f x e))
    first (inr k) = inl k

    by : Contains (with_name names f) x ⊎ IsTrue (is_state qs x) → Contains names x ⊎ IsTrue (is_state (more_states f b until unless s qs) x)
    by (inl k) = first (name_cases names f x k)
    by (inr k) = inr (or_right (bytes_eq f x) (is_state qs x) k)

none_contained : (x : List ℕ) → Contains [] x → ⊥
none_contained x (k, h, e) = absurd (omega (arith, h))

state_known : (qs : States) (x : List ℕ) → Contains (with_names [] (state_names qs)) x → is_state qs x ≡ true
state_known qs x h = ⊎_elim (λ k. absurd (none_contained x k)) (λ k. k) (state_cases qs [] x h)

-- ---- conditions

expr_plain : (e : Expr) → Good Plainly e → Plain e
expr_plain (constant at c) g = tt
expr_plain (variable at x) g = tt
expr_plain (last_of at x) g = tt
expr_plain (one at op a) g = expr_plain a g
expr_plain (two at op a b) g = (expr_plain a g.0, expr_plain b g.1)
expr_plain (choose at a b c) g = (expr_plain a g.0, expr_plain b g.1, expr_plain c g.2)
expr_plain (pre at a) g = absurd g.0
expr_plain (fby at a b) g = absurd g.0
expr_plain (arrow at a b) g = absurd g.0
expr_plain (when_is at a c x) g = absurd g.0
expr_plain (merge at x ps) g = absurd g.0
expr_plain (call at f inlined es) g = absurd g.0

-- ---- counts

count_few : (ss : States) → count_of ss ≤ in_states ss
count_few no_state = omega arith
count_few (more_states f b until unless s ss) = let h : count_of ss ≤ in_states ss = count_few ss in omega (arith, h)

some_few : (ss : States) → SomeStates ss → 0 < count_of ss
some_few no_state h = absurd h
some_few (more_states f b until unless s ss) h = omega arith

few_most : (n m : ℕ) → n ≤ m → m < few → n < most
few_most n m h l = omega (arith, h, l)

-- ---- blocks

module _ (d : ℕ) where
  -- the states that are known are among the names
  abbrev Known : List (List ℕ) → StateNames → Type 0
  Known states names = (x : List ℕ) → Contains states x → names x ≡ true

  tests_neat : (s : NameScope) (states : List (List ℕ)) (names : StateNames) → Known states names → (ts : List Trans) → Each (GoodTransition d) ts → TransitionsAreNamed s states ts → TransitionsNeat names ts
  tests_neat s states names k [] g n = tt
  tests_neat s states names k (t ∷ ts) g n = ((expr_plain t.cond g.0.0, k t.target n.1.0), tests_neat s states names k ts g.1 n.1.1)

  row_neat : (s : NameScope) (states : List (List ℕ)) (names : StateNames) → Known states names → (ts : List Trans) → Each (GoodTransition d) ts → TransitionsAreNamed s states ts → length ts < few → RowNeat names ts
  row_neat s states names k ts g n l = (tests_neat s states names k ts g n, omega (arith, l))

  mutual
    block_neat : (s : NameScope) (room : ℕ) (b : Block) → GoodBlock d b → BlockIsNamed s b → in_block b < few → nest_block b ≤ room → BlockNeat room b
    block_neat s room (block ds es) g n w l = eqns_neat (with_variables s ds) room es g.1 n.1 w l

    eqns_neat : (s : NameScope) (room : ℕ) (es : Eqns) → GoodEqns d es → EqnsAreNamed s es → in_eqns es < few → nest_eqns es ≤ room → EqnsNeat room es
    eqns_neat s room no_eqn g n w l = tt
    eqns_neat s room (more_eqns e es) g n w l = (eqn_neat s room e g.0 n.0 (omega (arith, w)) (omega (arith, l)), eqns_neat s room es g.1 n.1 (omega (arith, w)) (omega (arith, l)))

    eqn_neat : (s : NameScope) (room : ℕ) (e : Eqn) → GoodEqn d e → EqnIsNamed s e → in_eqn e < few → nest_eqn e ≤ room → EqnNeat room e
    eqn_neat s room (define at ys e) g n w l = tt
    eqn_neat s room (switch at e arms) g n w l = arms_neat s room arms g.2 n.1 w l
    eqn_neat s room (reset at b e) g n w l = inner_at room (nest_block b) b l (λ r m. block_neat s r b g.0 n.0 w m)
    eqn_neat s room (automaton at ss) g n w l = (
      (some_few ss g.0, few_most (count_of ss) (in_states ss) (count_few ss) w),
      states_neat s (with_names [] (state_names ss)) (is_state ss) (λ x h. state_known ss x h) room ss g.1 n.1 w l,
    )

    arms_neat : (s : NameScope) (room : ℕ) (arms : Arms) → GoodArms d arms → ArmsAreNamed s arms → in_arms arms < few → suc (nest_arms arms) ≤ room → ArmsNeat room arms
    arms_neat s room no_arm g n w l = tt
    arms_neat s room (more_arms c b at arms) g n w l = (
      inner_at room (nest_block b) b (omega (arith, l)) (λ r m. block_neat s r b g.0 n.1.0 (omega (arith, w)) m),
      arms_neat s room arms g.1 n.1.1 (omega (arith, w)) (omega (arith, l)),
    )

    states_neat : (s : NameScope) (states : List (List ℕ)) (names : StateNames) → Known states names → (room : ℕ) (ss : States) → GoodStates d ss → StatesAreNamed s states ss → in_states ss < few → suc (nest_states ss) ≤ room → StatesNeat names room ss
    states_neat s states names k room no_state g n w l = tt
    states_neat s states names k room (more_states f b until unless at ss) g n w l = (
      inner_at room (nest_block b) b (omega (arith, l)) (λ r m. block_neat s r b g.0 n.0 (omega (arith, w)) m),
      (
        (row_neat (inside s b) states names k until g.1 n.1.0 (omega (arith, w)), row_neat s states names k unless g.2 n.1.1.0 (omega (arith, w))),
        states_neat s states names k room ss g.3 n.1.1.1 (omega (arith, w)) (omega (arith, l)),
      ),
    )

  contract_neat : (s : NameScope) (o : Option Contract) → GoodOptional d 64 o → ContractIsNamed s o → in_contract o < few → ContractNeat 63 o
  contract_neat s None g n w = tt
  contract_neat s (Some c) g n w = let l : nest_block c.body < 64 = g.0.1 in block_neat s 63 c.body g.0.0 n.0 w (omega (arith, l))

  pub items_neat : (s : NameScope) (inputs outputs more : Option ℕ) (items : List Item) → Each (GoodItem d 64 inputs outputs more) items → ItemsAreNamed s items → AllFew items → EachNode (NodeNeat 63) items
  items_neat s inputs outputs more [] g n w = tt
  items_neat s inputs outputs more (TypeItem t ∷ items) g n w = items_neat (behind_item s (TypeItem t)) inputs outputs more items g.1 n.1 w
  items_neat s inputs outputs more (NodeItem m ∷ items) g n w =
      let l : nest_block m.body < 64 = g.0.4 in
      let here : in_contract m.contract + in_block m.body < few = w.0 in (
        (
          contract_neat (inside_node s m) m.contract g.0.2 n.0.1.1.1.1.1.0 (omega (arith, here)),
          block_neat (with_variables (inside_node s m) (controls_of m.contract)) 63 m.body g.0.3 n.0.1.1.1.1.1.1.1 (omega (arith, here)) (omega (arith, l)),
        ),
        items_neat (behind_item s (NodeItem m)) inputs outputs more items g.1 n.1 w.1,
      )
