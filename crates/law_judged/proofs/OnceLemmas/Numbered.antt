-- Where new variables get their numbers, each name has one equation in its block.
use Rattle.std.proofs.Common.{◌≡◌, ℕ, ◌+◌, ◌≤◌, ⊎_elim, List, arith}
use Rattle.std.specs.Prelude.{IsTrue, false, Option, None, Some, option_map}
use Rattle.hp_tree.specs.Blocks.{Decl, Block, block, Eqns, no_eqn, more_eqns, Eqn, define, switch, reset, automaton, Arms, no_arm, more_arms, States, no_state, more_states}
use Rattle.hp_tree.specs.Programs.{Contract, Node}
use Rattle.hp_tree.specs.Meaning.{declares, defines, some_defines, arms_define, states_define, block_defines, controls_of}
use Rattle.law_judged.specs.Named.Scoped.{Names, no_names, also, BlockScoped, EqnsScoped, EqnScoped, ArmsScoped, StatesScoped, ContractScoped, interface, NodeScoped}
use Rattle.law_judged.proofs.NamedLemmas.Sets.{or_cases, or_left, or_right, false_if, first_true}
use Rattle.law_judged.proofs.NamedLemmas.Declared.{eqn_owned}
use Rattle.hp_expand.specs.NewNames.{is_new}
use Rattle.hp_expand.specs.Renaming.{renamed_decls}
use Rattle.hp_expand.specs.Numbering.{declaring, new_in_decls, new_in_block, new_in_eqns, new_in_eqn, new_in_arms, new_in_states, in_block, in_eqns, in_eqn, in_arms, in_states, same_name as itself, in_contract, behind, numbered}
use Rattle.law_judged.specs.Replaced.Laws.{FewVariables, PlainInterface}
use Rattle.law_judged.proofs.ReplacedLemmas.Renaming.{left_back}
use Rattle.law_judged.proofs.ReplacedLemmas.Numbered.{State, later, undeclared, entered, at_first}
use Rattle.law_judged.specs.Once.Once.{BlockOnce, AllOnce, OneOnce, ArmsOnce, StatesOnce, ContractOnce, DefinedOnce}
use Rattle.law_judged.proofs.OnceLemmas.Renamed.{or_none, some_owned, Comes, comes_left, comes_right, comes_out, apart_said}

module _ (z : List ℕ) where
  mutual
    block_back : (to : List ℕ → List ℕ) (k : ℕ) (b : Block) → IsTrue (block_defines (in_block to k b) z) → Comes to (block_defines b) z
    block_back to k (block ds es) h =
        let said = declaring to k ds in
        let r = in_eqns said (k + new_in_decls ds) es in
        comes_out to said ds es r z (λ x d. undeclared to k ds x d) h (some_back said (k + new_in_decls ds) es (first_true (some_defines r z) (declares (renamed_decls said ds) z) h))

    some_back : (to : List ℕ → List ℕ) (k : ℕ) (es : Eqns) → IsTrue (some_defines (in_eqns to k es) z) → Comes to (some_defines es) z
    some_back to k no_eqn h = absurd (cc h)
    some_back to k (more_eqns e es) h =
        ⊎_elim (λ l. comes_left to (defines e) (some_defines es) z (one_back to k e l)) (λ l. comes_right to (defines e) (some_defines es) z (some_back to (k + new_in_eqn e) es l))
        (or_cases (defines (in_eqn to k e) z) (some_defines (in_eqns to (k + new_in_eqn e) es) z) h)

    one_back : (to : List ℕ → List ℕ) (k : ℕ) (e : Eqn) → IsTrue (defines (in_eqn to k e) z) → Comes to (defines e) z
    one_back to k (define s ys e) h = left_back to ys z h
    one_back to k (switch s e arms) h = arms_back to k arms h
    one_back to k (reset s b e) h = block_back to k b h
    one_back to k (automaton s ss) h = states_back to k ss h

    arms_back : (to : List ℕ → List ℕ) (k : ℕ) (arms : Arms) → IsTrue (arms_define (in_arms to k arms) z) → Comes to (arms_define arms) z
    arms_back to k no_arm h = absurd (cc h)
    arms_back to k (more_arms c b s arms) h =
        ⊎_elim (λ l. comes_left to (block_defines b) (arms_define arms) z (block_back to k b l)) (λ l. comes_right to (block_defines b) (arms_define arms) z (arms_back to (k + new_in_block b) arms l))
        (or_cases (block_defines (in_block to k b) z) (arms_define (in_arms to (k + new_in_block b) arms) z) h)

    states_back : (to : List ℕ → List ℕ) (k : ℕ) (ss : States) → IsTrue (states_define (in_states to k ss) z) → Comes to (states_define ss) z
    states_back to k no_state h = absurd (cc h)
    states_back to k (more_states f (block ds es) until unless s ss) h =
        ⊎_elim (λ l. comes_left to (block_defines (block ds es)) (states_define ss) z (block_back to k (block ds es) l))
        (λ l. comes_right to (block_defines (block ds es)) (states_define ss) z (states_back to (k + (new_in_decls ds + new_in_eqns es)) ss l))
        (or_cases (block_defines (in_block to k (block ds es)) z) (states_define (in_states to (k + (new_in_decls ds + new_in_eqns es)) ss) z) h)

-- what is to be defined, is seen
abbrev Sees : Names → Names → Type 0
Sees seen own = (x : List ℕ) → IsTrue (own x) → IsTrue (seen x)

sees_more : (seen own : Names) (ds : List Decl) → Sees seen own → Sees (also seen ds) (also own ds)
sees_more seen own ds p x h = ⊎_elim (λ l. or_left (declares ds x) (seen x) l) (λ l. or_right (declares ds x) (seen x) (p x l)) (or_cases (declares ds x) (own x) h)

mutual
  block_numbered : (to : List ℕ → List ℕ) (k : ℕ) (seen own after owned : Names) (b : Block) → Sees seen own → State to k seen own after owned → k + new_in_block b ≤ 1000000 → BlockScoped seen own b → BlockOnce b → BlockOnce (in_block to k b)
  block_numbered to k seen own after owned (block ds es) p s f c o =
      let few : k + new_in_decls ds ≤ 1000000 = omega (arith, f) in
      let inner : k + new_in_decls ds + new_in_eqns es ≤ 1000000 = omega (arith, f) in
      let said = declaring to k ds in
      let more = renamed_decls said ds in
      all_numbered said (k + new_in_decls ds) (also seen ds) (also own ds) (also after more) (also owned more) es (sees_more seen own ds p) (entered to k seen own after owned s ds c.0 c.1 few) inner c.3 o

  all_numbered : (to : List ℕ → List ℕ) (k : ℕ) (seen own after owned : Names) (es : Eqns) → Sees seen own → State to k seen own after owned → k + new_in_eqns es ≤ 1000000 → EqnsScoped seen own es → AllOnce es → AllOnce (in_eqns to k es)
  all_numbered to k seen own after owned no_eqn p s f c o = tt
  all_numbered to k seen own after owned (more_eqns e es) p s f c o = (
    (λ z h. false_if (some_defines (in_eqns to (k + new_in_eqn e) es) z)
        (λ l. apart_said to (defines e) (some_defines es) own (λ x y q r d. s.inj x y (p x q) (p y r) d) (λ x q. eqn_owned x seen own e c.0 q) (λ x q. some_owned x seen own es c.1 q) o.0 z
        (one_back z to k e h) (some_back z to (k + new_in_eqn e) es l))),
    (
      one_numbered to k seen own after owned e p s (omega (arith, f)) c.0 o.1.0,
      all_numbered to (k + new_in_eqn e) seen own after owned es p (later to k (k + new_in_eqn e) seen own after owned (omega arith) s) (omega (arith, f)) c.1 o.1.1,
    ),
  )

  one_numbered : (to : List ℕ → List ℕ) (k : ℕ) (seen own after owned : Names) (e : Eqn) → Sees seen own → State to k seen own after owned → k + new_in_eqn e ≤ 1000000 → EqnScoped seen own e → OneOnce e → OneOnce (in_eqn to k e)
  one_numbered to k seen own after owned (define w ys e) p s f c o = tt
  one_numbered to k seen own after owned (switch w e arms) p s f c o = arms_numbered to k seen own after owned arms p s f c o
  one_numbered to k seen own after owned (reset w b e) p s f c o = block_numbered to k seen own after owned b p s f c o
  one_numbered to k seen own after owned (automaton w ss) p s f c o = states_numbered to k seen own after owned ss p s f c o

  arms_numbered : (to : List ℕ → List ℕ) (k : ℕ) (seen own after owned : Names) (arms : Arms) → Sees seen own → State to k seen own after owned → k + new_in_arms arms ≤ 1000000 → ArmsScoped seen own arms → ArmsOnce arms → ArmsOnce (in_arms to k arms)
  arms_numbered to k seen own after owned no_arm p s f c o = tt
  arms_numbered to k seen own after owned (more_arms q b w arms) p s f c o = (
    block_numbered to k seen own after owned b p s (omega (arith, f)) c.0 o.0,
    arms_numbered to (k + new_in_block b) seen own after owned arms p (later to k (k + new_in_block b) seen own after owned (omega arith) s) (omega (arith, f)) c.1 o.1,
  )

  states_numbered : (to : List ℕ → List ℕ) (k : ℕ) (seen own after owned : Names) (ss : States) → Sees seen own → State to k seen own after owned → k + new_in_states ss ≤ 1000000 → StatesScoped seen own ss → StatesOnce ss → StatesOnce (in_states to k ss)
  states_numbered to k seen own after owned no_state p s f c o = tt
  states_numbered to k seen own after owned (more_states n (block ds es) until unless w ss) p s f c o = (
    block_numbered to k seen own after owned (block ds es) p s (omega (arith, f)) c.0 o.0,
    states_numbered to (k + (new_in_decls ds + new_in_eqns es)) seen own after owned ss p (later to k (k + (new_in_decls ds + new_in_eqns es)) seen own after owned (omega arith) s) (omega (arith, f)) c.1 o.1,
  )

contract_numbered : (seen : Names) (c : Option Contract) → ((x : List ℕ) → IsTrue (seen x) → is_new x ≡ false) → behind c ≤ 1000000 → ContractScoped seen c → ContractOnce c → ContractOnce (option_map in_contract c)
contract_numbered seen None p f s o = tt
contract_numbered seen (Some c) p f s o = block_numbered itself 1 seen no_names seen no_names c.body (λ x h. absurd (cc h)) (at_first 1 seen no_names p) (omega (arith, f)) s o

pub node_numbered : (n : Node) → FewVariables n → PlainInterface n → NodeScoped n → DefinedOnce n → DefinedOnce (numbered n)
node_numbered n f p s o =
    let controls = controls_of n.contract in
    let seen = also (interface n) controls in
    let own = also no_names n.outputs in
    let all : behind n.contract + new_in_block n.body ≤ 1000000 = f in
    let sees : (x : List ℕ) → IsTrue (own x) → IsTrue (seen x) =
    λ x h. or_right (declares controls x) (interface n x)
    (or_left (declares n.outputs x) (also no_names n.inputs x) (or_none (declares n.outputs x) h)) in (
      contract_numbered (interface n) n.contract (λ x h. p x (or_right (declares controls x) (interface n x) h)) (omega (arith, all)) s.contract o.0,
      block_numbered itself (behind n.contract) seen own seen own n.body sees (at_first (behind n.contract) seen own p) all s.body o.1,
    )
