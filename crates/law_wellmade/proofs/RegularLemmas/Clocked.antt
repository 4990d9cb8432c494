-- Where clocks are written, integers are still of 32 bits.
use Rattle.std.proofs.Common.{List, [], ◌∷◌, map, Option, None, Some, sym, subst}
use Rattle.hp_tree.specs.Blocks.{Decl, Block, block, Eqns, no_eqn, more_eqns, Eqn, define, switch, reset, automaton, Arms, no_arm, more_arms, States, no_state, more_states}
use Rattle.hp_tree.specs.Instant.{Place, Body, Equations, Head, Tail, Arms as ArmsOf, States as StatesOf}
use Rattle.hp_tree.specs.declared.program.Item.{Item}
use Rattle.hp_tree.specs.declared.program.Item.TheVariants.{TypeItem, NodeItem}
use Rattle.hp_tree.specs.Programs.{Contract, Node}
use Rattle.hp_meaning.specs.Clocking.Clocking.{Assignment, with_clock, base_written, with_clocks, all_with_clocks, one_with_clocks, arms_with_clocks, states_with_clocks, in_observer, in_body, contract_with_clocks}
use Rattle.hp_meaning.specs.Causal.Sources.{below}
use Rattle.law_judged.specs.Named.Scoped.{EachNode}
use Rattle.law_values.specs.Accepted.Written.{AreClocked}
use Rattle.law_wellmade.specs.Spelled.Integers.{LastsShort, BlockShort, EqnsShort, EqnShort, ArmsShort, StatesShort, ContractShort, NodeShort}

outputs_short : (ds : List Decl) → LastsShort ds → LastsShort (map base_written ds)
outputs_short [] h = tt
outputs_short (d ∷ ds) h = (h.0, outputs_short ds h.1)

module _ (at : Assignment) where
  lasts_clocked : (here : Place → Place) (es : Eqns) (ds : List Decl) → LastsShort ds → LastsShort (map (with_clock at es here) ds)
  lasts_clocked here es [] h = tt
  lasts_clocked here es (d ∷ ds) h = (h.0, lasts_clocked here es ds h.1)

  mutual
    block_clocked : (here : Place → Place) (b : Block) → BlockShort b → BlockShort (with_clocks at here b)
    block_clocked here (block ds es) h = (lasts_clocked here es ds h.0, eqns_clocked (below Equations here) es h.1)

    eqns_clocked : (here : Place → Place) (es : Eqns) → EqnsShort es → EqnsShort (all_with_clocks at here es)
    eqns_clocked here no_eqn h = tt
    eqns_clocked here (more_eqns e es) h = (eqn_clocked (below Head here) e h.0, eqns_clocked (below Tail here) es h.1)

    eqn_clocked : (here : Place → Place) (e : Eqn) → EqnShort e → EqnShort (one_with_clocks at here e)
    eqn_clocked here (define s ys e) h = h
    eqn_clocked here (switch s e arms) h = (h.0, arms_clocked (below ArmsOf here) arms h.1)
    eqn_clocked here (reset s b e) h = (h.0, block_clocked (below Body here) b h.1)
    eqn_clocked here (automaton s ss) h = states_clocked (below StatesOf here) ss h

    arms_clocked : (here : Place → Place) (arms : Arms) → ArmsShort arms → ArmsShort (arms_with_clocks at here arms)
    arms_clocked here no_arm h = tt
    arms_clocked here (more_arms c b s arms) h = (block_clocked (below Head here) b h.0, arms_clocked (below Tail here) arms h.1)

    states_clocked : (here : Place → Place) (ss : States) → StatesShort ss → StatesShort (states_with_clocks at here ss)
    states_clocked here no_state h = tt
    states_clocked here (more_states f b until unless s ss) h = ((block_clocked (below Body (below Head here)) b h.0.0, h.0.1), states_clocked (below Tail here) ss h.1)

  contract_clocked : (o : Option Contract) → ContractShort o → ContractShort (contract_with_clocks at o)
  contract_clocked None h = tt
  contract_clocked (Some c) h = (block_clocked in_observer c.body h.0, h.1)

pub contracts_clocked : (xs ys : List Item) → AreClocked xs ys → EachNode (λ (n : Node). ContractShort n.contract) xs → EachNode (λ (n : Node). ContractShort n.contract) ys
contracts_clocked [] [] c p = tt
contracts_clocked (TypeItem t ∷ xs) (y ∷ ys) c p = subst (λ z. EachNode (λ (n : Node). ContractShort n.contract) (z ∷ ys)) (sym c.0) (contracts_clocked xs ys c.1 p)
contracts_clocked (NodeItem n ∷ xs) (y ∷ ys) c p =
    subst (λ z. EachNode (λ (n : Node). ContractShort n.contract) (z ∷ ys)) (sym c.0.1.1) (contract_clocked c.0.0 n.contract p.0, contracts_clocked xs ys c.1 p.1)
contracts_clocked [] (y ∷ ys) c p = absurd c
contracts_clocked (TypeItem t ∷ xs) [] c p = absurd c
contracts_clocked (NodeItem n ∷ xs) [] c p = absurd c

pub short_clocked : (xs ys : List Item) → AreClocked xs ys → EachNode NodeShort xs → EachNode NodeShort ys
short_clocked [] [] c p = tt
short_clocked (TypeItem t ∷ xs) (y ∷ ys) c p = subst (λ z. EachNode NodeShort (z ∷ ys)) (sym c.0) (short_clocked xs ys c.1 p)
short_clocked (NodeItem n ∷ xs) (y ∷ ys) c p =
    subst (λ z. EachNode NodeShort (z ∷ ys)) (sym c.0.1.1) ((outputs_short n.outputs p.0.0, block_clocked c.0.0 in_body n.body p.0.1), short_clocked xs ys c.1 p.1)
short_clocked [] (y ∷ ys) c p = absurd c
short_clocked (TypeItem t ∷ xs) [] c p = absurd c
short_clocked (NodeItem n ∷ xs) [] c p = absurd c
