-- What names in their scopes give: each local is declared once and has an equation, and what control equations define is declared.
use Rattle.std.proofs.Common.{ℕ, ⊎_elim, false, List, [], ◌∷◌, ◌++◌}
use Rattle.std.specs.Prelude.{IsTrue, Option, None, Some}
use Rattle.std.specs.Str.{bytes_eq}
use Rattle.hp_tree.specs.declared.program.Item.{Item}
use Rattle.hp_tree.specs.declared.program.Item.TheVariants.{TypeItem, NodeItem}
use Rattle.hp_tree.specs.Blocks.{Decl, Block, block, Eqns, no_eqn, more_eqns, Eqn, define, switch, reset, automaton, Arms, no_arm, more_arms, States, no_state, more_states}
use Rattle.hp_tree.specs.Programs.{Contract}
use Rattle.hp_tree.specs.Meaning.{declares, defines, some_defines, arms_define, states_define, block_defines, names_of, controls_of}
use Rattle.hp_meaning.specs.Causal.Points.{is_one_of, Declared, DeclaredInAll, DeclaredInOne, DeclaredInArms, DeclaredInStates, DeclaredInContract, NamesDeclared}
use Rattle.hp_meaning.specs.Clocking.Clocking.{EachBlock, EachOfAll, EachOfOne, EachOfArms, EachOfStates, EachInContract, NamesRight, locals_declare, NodeNamed}
use Rattle.law_judged.specs.Named.Scoped.{Names, no_names, also, BlockScoped, EqnsScoped, EqnScoped, ArmsScoped, StatesScoped, ContractScoped, interface, NodeScoped, EachNode}
use Rattle.law_judged.specs.Named.Laws.{NamesLaw, NamedLaw}
use Rattle.law_judged.proofs.NamedLemmas.Sets.{or_cases, or_left, or_right, first_true, second_false}
use Rattle.law_judged.proofs.NamedLemmas.Judged.{scoped}

-- ---- each local is declared once and has an equation

mutual
  block_named : (seen own : Names) (b : Block) → BlockScoped seen own b → EachBlock NamesRight b
  block_named seen own (block ds es) s = ((s.0, s.2), all_named (also seen ds) (also own ds) es s.3)

  all_named : (seen own : Names) (es : Eqns) → EqnsScoped seen own es → EachOfAll NamesRight es
  all_named seen own no_eqn s = tt
  all_named seen own (more_eqns e es) s = (one_named seen own e s.0, all_named seen own es s.1)

  one_named : (seen own : Names) (e : Eqn) → EqnScoped seen own e → EachOfOne NamesRight e
  one_named seen own (define at ys e) s = tt
  one_named seen own (switch at e arms) s = arms_named seen own arms s
  one_named seen own (reset at b e) s = block_named seen own b s
  one_named seen own (automaton at ss) s = states_named seen own ss s

  arms_named : (seen own : Names) (arms : Arms) → ArmsScoped seen own arms → EachOfArms NamesRight arms
  arms_named seen own no_arm s = tt
  arms_named seen own (more_arms c b at arms) s = (block_named seen own b s.0, arms_named seen own arms s.1)

  states_named : (seen own : Names) (ss : States) → StatesScoped seen own ss → EachOfStates NamesRight ss
  states_named seen own no_state s = tt
  states_named seen own (more_states f b until unless at ss) s = (block_named seen own b s.0, states_named seen own ss s.1)

contract_named : (seen : Names) (c : Option Contract) → ContractScoped seen c → EachInContract NamesRight c
contract_named seen None s = tt
contract_named seen (Some c) s = block_named seen no_names c.body s

apart : (seen own : Names) (b : Block) → BlockScoped seen own b → (x : List ℕ) → IsTrue (seen x) → IsTrue (locals_declare b x) → ⊥
apart seen own (block ds es) s x h l = s.1 x l h

-- ---- what equations define is to be defined there

module _ (x : List ℕ) where
  mutual
    block_owned : (seen own : Names) (b : Block) → BlockScoped seen own b → IsTrue (block_defines b x) → IsTrue (own x)
    block_owned seen own (block ds es) s h =
        ⊎_elim (λ l. absurd (second_false (some_defines es x) (declares ds x) h l)) (λ o. o)
        (or_cases (declares ds x) (own x) (eqns_owned (also seen ds) (also own ds) es s.3 (first_true (some_defines es x) (declares ds x) h)))

    eqns_owned : (seen own : Names) (es : Eqns) → EqnsScoped seen own es → IsTrue (some_defines es x) → IsTrue (own x)
    eqns_owned seen own no_eqn s h = absurd (cc h)
    eqns_owned seen own (more_eqns e es) s h =
        ⊎_elim (λ l. eqn_owned seen own e s.0 l) (λ l. eqns_owned seen own es s.1 l) (or_cases (defines e x) (some_defines es x) h)

    pub eqn_owned : (seen own : Names) (e : Eqn) → EqnScoped seen own e → IsTrue (defines e x) → IsTrue (own x)
    eqn_owned seen own (define at ys e) s h = s x h
    eqn_owned seen own (switch at e arms) s h = arms_owned seen own arms s h
    eqn_owned seen own (reset at b e) s h = block_owned seen own b s h
    eqn_owned seen own (automaton at ss) s h = states_owned seen own ss s h

    arms_owned : (seen own : Names) (arms : Arms) → ArmsScoped seen own arms → IsTrue (arms_define arms x) → IsTrue (own x)
    arms_owned seen own no_arm s h = absurd (cc h)
    arms_owned seen own (more_arms c b at arms) s h =
        ⊎_elim (λ l. block_owned seen own b s.0 l) (λ l. arms_owned seen own arms s.1 l) (or_cases (block_defines b x) (arms_define arms x) h)

    states_owned : (seen own : Names) (ss : States) → StatesScoped seen own ss → IsTrue (states_define ss x) → IsTrue (own x)
    states_owned seen own no_state s h = absurd (cc h)
    states_owned seen own (more_states f b until unless at ss) s h =
        ⊎_elim (λ l. block_owned seen own b s.0 l) (λ l. states_owned seen own ss s.1 l) (or_cases (block_defines b x) (states_define ss x) h)

-- ---- and so it is declared

abbrev Lists : List (List ℕ) → Names → Type 0
Lists declared own = (x : List ℕ) → IsTrue (own x) → IsTrue (is_one_of declared x)

one_of_first : (xs ys : List (List ℕ)) (x : List ℕ) → IsTrue (is_one_of xs x) → IsTrue (is_one_of (xs ++ ys) x)
one_of_first [] ys x h = absurd (cc h)
one_of_first (y ∷ xs) ys x h =
    ⊎_elim (λ e. or_left (bytes_eq y x) (is_one_of (xs ++ ys) x) e) (λ l. or_right (bytes_eq y x) (is_one_of (xs ++ ys) x) (one_of_first xs ys x l))
    (or_cases (bytes_eq y x) (is_one_of xs x) h)

one_of_then : (xs ys : List (List ℕ)) (x : List ℕ) → IsTrue (is_one_of ys x) → IsTrue (is_one_of (xs ++ ys) x)
one_of_then [] ys x h = h
one_of_then (y ∷ xs) ys x h = or_right (bytes_eq y x) (is_one_of (xs ++ ys) x) (one_of_then xs ys x h)

one_declared : (ds : List Decl) (x : List ℕ) → IsTrue (declares ds x) → IsTrue (is_one_of (names_of ds) x)
one_declared [] x h = h
one_declared (d ∷ ds) x h =
    ⊎_elim (λ e. or_left (bytes_eq d.name x) (is_one_of (names_of ds) x) e) (λ l. or_right (bytes_eq d.name x) (is_one_of (names_of ds) x) (one_declared ds x l))
    (or_cases (bytes_eq d.name x) (declares ds x) h)

lists_more : (declared : List (List ℕ)) (own : Names) (ds : List Decl) → Lists declared own → Lists (declared ++ names_of ds) (also own ds)
lists_more declared own ds k x h =
    ⊎_elim (λ l. one_of_then declared (names_of ds) x (one_declared ds x l)) (λ o. one_of_first declared (names_of ds) x (k x o)) (or_cases (declares ds x) (own x) h)

mutual
  block_declared : (declared : List (List ℕ)) (seen own : Names) (b : Block) → Lists declared own → BlockScoped seen own b → Declared declared b
  block_declared declared seen own (block ds es) k s =
      all_declared (declared ++ names_of ds) (also seen ds) (also own ds) es (lists_more declared own ds k) s.3

  all_declared : (declared : List (List ℕ)) (seen own : Names) (es : Eqns) → Lists declared own → EqnsScoped seen own es → DeclaredInAll declared es
  all_declared declared seen own no_eqn k s = tt
  all_declared declared seen own (more_eqns e es) k s = (one_is_declared declared seen own e k s.0, all_declared declared seen own es k s.1)

  one_is_declared : (declared : List (List ℕ)) (seen own : Names) (e : Eqn) → Lists declared own → EqnScoped seen own e → DeclaredInOne declared e
  one_is_declared declared seen own (define at ys e) k s = tt
  one_is_declared declared seen own (switch at e arms) k s =
      ((λ x h. k x (eqn_owned x seen own (switch at e arms) s h)), arms_declared declared seen own arms k s)
  one_is_declared declared seen own (reset at b e) k s =
      ((λ x h. k x (eqn_owned x seen own (reset at b e) s h)), block_declared declared seen own b k s)
  one_is_declared declared seen own (automaton at ss) k s =
      ((λ x h. k x (eqn_owned x seen own (automaton at ss) s h)), states_declared declared seen own ss k s)

  arms_declared : (declared : List (List ℕ)) (seen own : Names) (arms : Arms) → Lists declared own → ArmsScoped seen own arms → DeclaredInArms declared arms
  arms_declared declared seen own no_arm k s = tt
  arms_declared declared seen own (more_arms c b at arms) k s =
      (block_declared declared seen own b k s.0, arms_declared declared seen own arms k s.1)

  states_declared : (declared : List (List ℕ)) (seen own : Names) (ss : States) → Lists declared own → StatesScoped seen own ss → DeclaredInStates declared ss
  states_declared declared seen own no_state k s = tt
  states_declared declared seen own (more_states f b until unless at ss) k s =
      (block_declared declared seen own b k s.0, states_declared declared seen own ss k s.1)

contract_declared : (seen : Names) (c : Option Contract) → ContractScoped seen c → DeclaredInContract c
contract_declared seen None s = tt
contract_declared seen (Some c) s = block_declared [] seen no_names c.body (λ x h. h) s

outputs_listed : (ds : List Decl) → Lists (names_of ds) (also no_names ds)
outputs_listed ds x h = ⊎_elim (λ l. one_declared ds x l) (λ l. absurd (cc l)) (or_cases (declares ds x) false h)

pub node_names : NamesLaw
node_names n s =
    let seen = also (interface n) (controls_of n.contract) in
    let own = also no_names n.outputs in (
      (
        block_named seen own n.body s.body,
        contract_named (interface n) n.contract s.contract,
        λ x o l. apart seen own n.body s.body x
            (or_right (declares (controls_of n.contract) x) (interface n x) (or_left (declares n.outputs x) (also no_names n.inputs x) o)) l,
      ),
      (contract_declared (interface n) n.contract s.contract, block_declared (names_of n.outputs) seen own n.body (outputs_listed n.outputs) s.body),
    )

each_named : (items : List Item) → EachNode NodeScoped items → EachNode (λ n. NodeNamed n × NamesDeclared n) items
each_named [] s = tt
each_named (TypeItem t ∷ items) s = each_named items s
each_named (NodeItem n ∷ items) s = (node_names n s.0, each_named items s.1)

pub named : NamedLaw
named program n d = each_named program (scoped program n d)
