-- In a written program each clock is written.
use Rattle.std.proofs.Common.{List, [], ◌∷◌, map, refl}
use Rattle.std.specs.Prelude.{Option, None, Some}
use Rattle.hp_tree.specs.Blocks.{Decl, Block, block, Eqns, no_eqn, more_eqns, Eqn, define, switch, reset, automaton, Arms, no_arm, more_arms, States, no_state, more_states}
use Rattle.hp_tree.specs.Programs.{Contract, Node}
use Rattle.hp_tree.specs.Instant.{Place, Body, Equations, Head, Tail, Arms as ArmsOf, States as StatesOf}
use Rattle.hp_meaning.specs.Causal.Sources.{below}
use Rattle.hp_meaning.specs.Clocking.Clocking.{Assignment, in_observer, in_body, with_clock, base_written, with_clocks, all_with_clocks, one_with_clocks, arms_with_clocks, states_with_clocks, contract_with_clocks, node_with_clocks, EachBlock, EachOfAll, EachOfOne, EachOfArms, EachOfStates, EachInContract, AreWritten, AreOnBase, ControlsWritten, NodeWritten}

abbrev Writes : List Decl → Eqns → Type 0
Writes ds es = AreWritten ds

based : (ds : List Decl) → AreOnBase (map base_written ds)
based [] = tt
based (d ∷ ds) = (refl, based ds)

module _ (at : Assignment) where
  locals_written : (es : Eqns) (here : Place → Place) (ds : List Decl) → AreWritten (map (with_clock at es here) ds)
  locals_written es here [] = tt
  locals_written es here (d ∷ ds) = (tt, locals_written es here ds)

  mutual
    block_written : (b : Block) (here : Place → Place) → EachBlock Writes (with_clocks at here b)
    block_written (block ds es) here = (locals_written es here ds, all_written es (below Equations here))

    all_written : (es : Eqns) (here : Place → Place) → EachOfAll Writes (all_with_clocks at here es)
    all_written no_eqn here = tt
    all_written (more_eqns e es) here = (one_written e (below Head here), all_written es (below Tail here))

    one_written : (e : Eqn) (here : Place → Place) → EachOfOne Writes (one_with_clocks at here e)
    one_written (define s ys e) here = tt
    one_written (switch s e arms) here = arms_written arms (below ArmsOf here)
    one_written (reset s b e) here = block_written b (below Body here)
    one_written (automaton s ss) here = states_written ss (below StatesOf here)

    arms_written : (arms : Arms) (here : Place → Place) → EachOfArms Writes (arms_with_clocks at here arms)
    arms_written no_arm here = tt
    arms_written (more_arms c b s arms) here = (block_written b (below Head here), arms_written arms (below Tail here))

    states_written : (ss : States) (here : Place → Place) → EachOfStates Writes (states_with_clocks at here ss)
    states_written no_state here = tt
    states_written (more_states f b until unless s ss) here = (block_written b (below Body (below Head here)), states_written ss (below Tail here))

  controls_written : (c : Option Contract) → ControlsWritten (contract_with_clocks at c)
  controls_written None = tt
  controls_written (Some c) = based c.controls

  contract_written : (c : Option Contract) → EachInContract Writes (contract_with_clocks at c)
  contract_written None = tt
  contract_written (Some c) = block_written c.body in_observer

  pub node_written : (n : Node) → NodeWritten (node_with_clocks at n)
  node_written n =
      record {
        inputs = based n.inputs;
        outputs = based n.outputs;
        controls = controls_written n.contract;
        body = block_written n.body in_body;
        contract = contract_written n.contract;
      }
