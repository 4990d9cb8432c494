-- Where clocks are written, names and types are as they were.
use Rattle.std.proofs.Common.{◌≡◌, ℕ, List, [], ◌∷◌, map, refl, sym, ap, subst, ◌∙◌}
use Rattle.std.specs.Prelude.{Option, None, Some}
use Rattle.hp_tree.specs.Blocks.{Decl, Block, block, Eqns, no_eqn, more_eqns, Eqn, define, switch, reset, automaton, Arms, no_arm, more_arms, States, no_state, more_states}
use Rattle.hp_tree.specs.Programs.{Contract, Node}
use Rattle.hp_tree.specs.Meaning.{types_of}
use Rattle.hp_tree.specs.Instant.{Place, Body, Equations, Head, Tail, Arms as ArmsOf, States as StatesOf}
use Rattle.hp_tree.specs.declared.program.Item.{Item}
use Rattle.hp_tree.specs.declared.program.Item.TheVariants.{TypeItem, NodeItem}
use Rattle.hp_meaning.specs.Clocking.Clocking.{Assignment, with_clock, base_written, with_clocks, all_with_clocks, one_with_clocks, arms_with_clocks, states_with_clocks, in_observer, in_body, contract_with_clocks}
use Rattle.hp_meaning.specs.Causal.Sources.{below}
use Rattle.law_judged.specs.Named.Scoped.{EachNode}
use Rattle.hp_clocks.specs.Writing.{AreWritten}
use Rattle.law_wellmade.specs.Lettered.Names.{DeclsSpelled, BlockSpelled, EqnsSpelled, EqnSpelled, ArmsSpelled, StatesSpelled, ContractSpelled, NodeSpelled}

module _ (P : List ℕ → Type 0) where
  base_spelled : (ds : List Decl) → DeclsSpelled P ds → DeclsSpelled P (map base_written ds)
  base_spelled [] h = tt
  base_spelled (d ∷ ds) h = (h.0, base_spelled ds h.1)

  module _ (at : Assignment) where
    decls_clocked : (here : Place → Place) (es : Eqns) (ds : List Decl) → DeclsSpelled P ds → DeclsSpelled P (map (with_clock at es here) ds)
    decls_clocked here es [] h = tt
    decls_clocked here es (d ∷ ds) h = (h.0, decls_clocked here es ds h.1)

    mutual
      block_clocked : (here : Place → Place) (b : Block) → BlockSpelled P b → BlockSpelled P (with_clocks at here b)
      block_clocked here (block ds es) h = (decls_clocked here es ds h.0, eqns_clocked (below Equations here) es h.1)

      eqns_clocked : (here : Place → Place) (es : Eqns) → EqnsSpelled P es → EqnsSpelled P (all_with_clocks at here es)
      eqns_clocked here no_eqn h = tt
      eqns_clocked here (more_eqns e es) h = (eqn_clocked (below Head here) e h.0, eqns_clocked (below Tail here) es h.1)

      eqn_clocked : (here : Place → Place) (e : Eqn) → EqnSpelled P e → EqnSpelled P (one_with_clocks at here e)
      eqn_clocked here (define s ys e) h = h
      eqn_clocked here (switch s e arms) h = arms_clocked (below ArmsOf here) arms h
      eqn_clocked here (reset s b e) h = block_clocked (below Body here) b h
      eqn_clocked here (automaton s ss) h = states_clocked (below StatesOf here) ss h

      arms_clocked : (here : Place → Place) (arms : Arms) → ArmsSpelled P arms → ArmsSpelled P (arms_with_clocks at here arms)
      arms_clocked here no_arm h = tt
      arms_clocked here (more_arms c b s arms) h = (block_clocked (below Head here) b h.0, arms_clocked (below Tail here) arms h.1)

      states_clocked : (here : Place → Place) (ss : States) → StatesSpelled P ss → StatesSpelled P (states_with_clocks at here ss)
      states_clocked here no_state h = tt
      states_clocked here (more_states f b until unless s ss) h = (block_clocked (below Body (below Head here)) b h.0, states_clocked (below Tail here) ss h.1)

    contract_clocked : (o : Option Contract) → ContractSpelled P o → ContractSpelled P (contract_with_clocks at o)
    contract_clocked None h = tt
    contract_clocked (Some c) h = (base_spelled c.controls h.0, block_clocked in_observer c.body h.1)

pub program_clocked : (P : List ℕ → Type 0) (R : Node → Assignment → Type 0) (xs ys : List Item) → AreWritten R xs ys → EachNode (NodeSpelled P) xs → EachNode (NodeSpelled P) ys
program_clocked P R [] [] c p = tt
program_clocked P R [] (y ∷ ys) c p = absurd c
program_clocked P R (TypeItem t ∷ xs) [] c p = absurd c
program_clocked P R (NodeItem n ∷ xs) [] c p = absurd c
program_clocked P R (TypeItem t ∷ xs) (y ∷ ys) c p = subst (λ z. EachNode (NodeSpelled P) (z ∷ ys)) (sym c.0) (program_clocked P R xs ys c.1 p)
program_clocked P R (NodeItem n ∷ xs) (y ∷ ys) c p =
    let at = c.0.0 in
    subst (λ z. EachNode (NodeSpelled P) (z ∷ ys)) (sym c.0.2) (
      (
        p.0.0,
        (
          base_spelled P n.inputs p.0.1.0,
          (base_spelled P n.outputs p.0.1.1.0, (contract_clocked P at n.contract p.0.1.1.1.0, block_clocked P at in_body n.body p.0.1.1.1.1)),
        ),
      ),
      program_clocked P R xs ys c.1 p.1,
    )

-- ---- and types

pub types_clocked : (R : Node → Assignment → Type 0) (xs ys : List Item) → AreWritten R xs ys → types_of ys ≡ types_of xs
types_clocked R [] [] c = refl
types_clocked R [] (y ∷ ys) c = absurd c
types_clocked R (TypeItem t ∷ xs) [] c = absurd c
types_clocked R (NodeItem n ∷ xs) [] c = absurd c
types_clocked R (TypeItem t ∷ xs) (y ∷ ys) c = ap (λ z. types_of (z ∷ ys)) c.0 ∙ ap (λ ts. t ∷ ts) (types_clocked R xs ys c.1)
types_clocked R (NodeItem n ∷ xs) (y ∷ ys) c = ap (λ z. types_of (z ∷ ys)) c.0.2 ∙ types_clocked R xs ys c.1
