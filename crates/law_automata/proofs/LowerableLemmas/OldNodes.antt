-- Each name that a node declares is told from those of removed automata, where its inlined calls are replaced and its clocks are written.
use Rattle.std.proofs.Common.{◌≡◌, ℕ, ◌||◌, List, [], ◌∷◌, map, refl, sym, ap, ◌∙◌, subst}
use Rattle.std.specs.Prelude.{IsTrue, Option, None, Some, option_map}
use Rattle.std.specs.Str.{bytes_eq}
use Rattle.hp_tree.specs.declared.program.Item.{Item}
use Rattle.hp_tree.specs.declared.program.Item.TheVariants.{TypeItem, NodeItem}
use Rattle.hp_tree.specs.Blocks.{Decl, Block, block, Eqns, no_eqn, more_eqns, Eqn, define, switch, reset, automaton, Arms, no_arm, more_arms, States, no_state, more_states}
use Rattle.hp_tree.specs.Programs.{Contract, Node}
use Rattle.hp_tree.specs.Instant.{Place, Body, Equations, Head, Tail, Arms as ArmsOf, States as StatesOf}
use Rattle.hp_tree.specs.Meaning.{declares, controls_of}
use Rattle.hp_meaning.specs.Causal.Sources.{below}
use Rattle.hp_meaning.specs.Clocking.Clocking.{Assignment, with_clocks, all_with_clocks, one_with_clocks, arms_with_clocks, states_with_clocks, in_observer, in_body, base_written, contract_with_clocks, node_with_clocks}
use Rattle.hp_meaning.proofs.ClockingLemmas.Written.{declares_kept}
use Rattle.law_judged.specs.Named.Scoped.{also, no_names, interface, EachNode}
use Rattle.hp_expand.specs.Replacing.{in_contract, in_node}
use Rattle.hp_expand.specs.Numbering as number
use Rattle.hp_expand.specs.Numbering.{behind, replaced_node, with_node, replaced_items, no_node, replaced}
use Rattle.law_judged.specs.Replaced.Fitting.{BlockNames, EqnsNames, EqnNames, ArmsNames, StatesNames, ContractNames, NodeNames, IsReady}
use Rattle.law_judged.specs.Replaced.Laws.{CanBeReplaced, AllCanBeReplaced}
use Rattle.law_judged.proofs.ReplacedLemmas.ReplacedNodes.{contract_controls, in_node_scoped, node_replaced, none_ready, with_ready}
use Rattle.law_values.specs.Accepted.Written.{AreClocked}
use Rattle.law_automata.specs.Lowered.OldNames.{IsOld}
use Rattle.law_automata.proofs.LowerableLemmas.NamesKept.{old_plain, block_new, contract_new, block_old, contract_old}

-- ---- replaced nodes

controls_numbered : (o : Option Contract) → controls_of (option_map number.in_contract o) ≡ controls_of o
controls_numbered None = refl
controls_numbered (Some c) = refl

module _ (nodes : List ℕ → Node) (ready : (f : List ℕ) → IsReady (nodes f)) where
  node_old : (n : Node) → CanBeReplaced nodes n → NodeNames IsOld (replaced_node nodes n)
  node_old n c =
      let m = in_node nodes n in
      let k = (in_contract nodes 1 n.contract).next in
      let s = in_node_scoped nodes ready n c.scoped c.plain c.fits c.few_calls in
      let same : controls_of m.contract ≡ controls_of n.contract = contract_controls nodes ready 1 n.contract in
      record {
        interface = λ x h. old_plain x (c.plain.interface x (subst (λ z. IsTrue (also (interface n) z x)) (controls_numbered m.contract ∙ same) h));
        contract = contract_old (interface m) m.contract s.contract (contract_new nodes n.contract c.plain.contract);
        body = block_old number.same_name (behind m.contract) (also (interface m) (controls_of m.contract)) (also no_names m.outputs) m.body (λ x e. refl) s.body (block_new nodes k n.body c.plain.body);
      }

items_old : (nodes : List ℕ → Node) → ((f : List ℕ) → IsReady (nodes f)) → (items : List Item) → AllCanBeReplaced nodes items → EachNode (NodeNames IsOld) (replaced_items nodes items)
items_old nodes ready [] c = tt
items_old nodes ready (TypeItem t ∷ items) c = items_old nodes ready items c
items_old nodes ready (NodeItem n ∷ items) c =
    (node_old nodes ready n c.0, items_old (with_node nodes (replaced_node nodes n)) (with_ready nodes ready (replaced_node nodes n) (node_replaced nodes ready n c.0)) items c.1)

pub program_old : (program : List Item) → AllCanBeReplaced no_node program → EachNode (NodeNames IsOld) (replaced program)
program_old program c = items_old no_node none_ready program c

-- ---- clocks

based : (ds : List Decl) (x : List ℕ) → declares (map base_written ds) x ≡ declares ds x
based [] x = refl
based (d ∷ ds) x = ap (λ z. bytes_eq d.name x || z) (based ds x)

module _ (P : List ℕ → Type 0) (at : Assignment) where
  mutual
    block_kept : (here : Place → Place) (b : Block) → BlockNames P b → BlockNames P (with_clocks at here b)
    block_kept here (block ds es) p = ((λ x h. p.0 x (subst IsTrue (declares_kept at es here ds x) h)), eqns_kept (below Equations here) es p.1)

    eqns_kept : (here : Place → Place) (es : Eqns) → EqnsNames P es → EqnsNames P (all_with_clocks at here es)
    eqns_kept here no_eqn p = tt
    eqns_kept here (more_eqns e es) p = (eqn_kept (below Head here) e p.0, eqns_kept (below Tail here) es p.1)

    eqn_kept : (here : Place → Place) (e : Eqn) → EqnNames P e → EqnNames P (one_with_clocks at here e)
    eqn_kept here (define s ys e) p = tt
    eqn_kept here (switch s e arms) p = arms_kept (below ArmsOf here) arms p
    eqn_kept here (reset s b e) p = block_kept (below Body here) b p
    eqn_kept here (automaton s ss) p = states_kept (below StatesOf here) ss p

    arms_kept : (here : Place → Place) (arms : Arms) → ArmsNames P arms → ArmsNames P (arms_with_clocks at here arms)
    arms_kept here no_arm p = tt
    arms_kept here (more_arms c b s arms) p = (block_kept (below Head here) b p.0, arms_kept (below Tail here) arms p.1)

    states_kept : (here : Place → Place) (ss : States) → StatesNames P ss → StatesNames P (states_with_clocks at here ss)
    states_kept here no_state p = tt
    states_kept here (more_states f b until unless s ss) p = (block_kept (below Body (below Head here)) b p.0, states_kept (below Tail here) ss p.1)

  contract_kept : (o : Option Contract) → ContractNames P o → ContractNames P (contract_with_clocks at o)
  contract_kept None p = tt
  contract_kept (Some c) p = block_kept in_observer c.body p

  controls_kept : (o : Option Contract) (x : List ℕ) → declares (controls_of (contract_with_clocks at o)) x ≡ declares (controls_of o) x
  controls_kept None x = refl
  controls_kept (Some c) x = based c.controls x

  seen_kept : (n : Node) (x : List ℕ) → also (interface (node_with_clocks at n)) (controls_of (node_with_clocks at n).contract) x ≡ also (interface n) (controls_of n.contract) x
  seen_kept n x =
      ap (λ d. d || (declares (map base_written n.outputs) x || (declares (map base_written n.inputs) x || no_names x))) (controls_kept n.contract x)
      ∙ ap (λ d. declares (controls_of n.contract) x || (d || (declares (map base_written n.inputs) x || no_names x))) (based n.outputs x)
      ∙ ap (λ d. declares (controls_of n.contract) x || (declares n.outputs x || (d || no_names x))) (based n.inputs x)

  node_kept : (n : Node) → NodeNames P n → NodeNames P (node_with_clocks at n)
  node_kept n p = record {
    interface = λ x h. p.interface x (subst IsTrue (seen_kept n x) h);
    contract = contract_kept n.contract p.contract;
    body = block_kept in_body n.body p.body;
  }

pub old_clocked : (xs ys : List Item) → AreClocked xs ys → EachNode (NodeNames IsOld) xs → EachNode (NodeNames IsOld) ys
old_clocked [] [] c p = tt
old_clocked (TypeItem t ∷ xs) (y ∷ ys) c p = subst (λ z. EachNode (NodeNames IsOld) (z ∷ ys)) (sym c.0) (old_clocked xs ys c.1 p)
old_clocked (NodeItem n ∷ xs) (y ∷ ys) c p = subst (λ z. EachNode (NodeNames IsOld) (z ∷ ys)) (sym c.0.1.1) (node_kept IsOld c.0.0 n p.0, old_clocked xs ys c.1 p.1)
old_clocked [] (y ∷ ys) c p = absurd c
old_clocked (TypeItem t ∷ xs) [] c p = absurd c
old_clocked (NodeItem n ∷ xs) [] c p = absurd c
