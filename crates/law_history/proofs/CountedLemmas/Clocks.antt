-- Writing clocks leaves calls as they are.
use Rattle.std.proofs.Common.{◌≡◌, ℕ, List, refl, ap, ap₂}
use Rattle.hp_tree.specs.Blocks.{Block, block, Eqns, no_eqn, more_eqns, Eqn, define, switch, reset, automaton, Arms, no_arm, more_arms, States, no_state, more_states}
use Rattle.hp_tree.specs.Instant.{Place, Equations, Head, Tail, Body, Arms as ArmsOf, States as StatesOf}
use Rattle.hp_meaning.specs.Causal.Sources.{below}
use Rattle.hp_meaning.specs.Clocking.Clocking.{Assignment, with_clocks, all_with_clocks, one_with_clocks, arms_with_clocks, states_with_clocks}
use Rattle.law_history.specs.Counted.Counted.{in_expr, in_transitions, in_block, in_eqns, in_eqn, in_arms, in_states}

module _ (join : ℕ → ℕ → ℕ) (known : List ℕ → ℕ) (at : Assignment) where
  mutual
    pub block_clocked : (here : Place → Place) (b : Block) → in_block join known (with_clocks at here b) ≡ in_block join known b
    block_clocked here (block ds es) = eqns_clocked (below Equations here) es

    eqns_clocked : (here : Place → Place) (es : Eqns) → in_eqns join known (all_with_clocks at here es) ≡ in_eqns join known es
    eqns_clocked here no_eqn = refl
    eqns_clocked here (more_eqns e es) = ap₂ join (eqn_clocked (below Head here) e) (eqns_clocked (below Tail here) es)

    eqn_clocked : (here : Place → Place) (e : Eqn) → in_eqn join known (one_with_clocks at here e) ≡ in_eqn join known e
    eqn_clocked here (define s ys e) = refl
    eqn_clocked here (switch s e arms) = ap (join (in_expr join known e)) (arms_clocked (below ArmsOf here) arms)
    eqn_clocked here (reset s b e) = ap (join (in_expr join known e)) (block_clocked (below Body here) b)
    eqn_clocked here (automaton s ss) = states_clocked (below StatesOf here) ss

    arms_clocked : (here : Place → Place) (arms : Arms) → in_arms join known (arms_with_clocks at here arms) ≡ in_arms join known arms
    arms_clocked here no_arm = refl
    arms_clocked here (more_arms c b s arms) = ap₂ join (block_clocked (below Head here) b) (arms_clocked (below Tail here) arms)

    states_clocked : (here : Place → Place) (ss : States) → in_states join known (states_with_clocks at here ss) ≡ in_states join known ss
    states_clocked here no_state = refl
    states_clocked here (more_states f b until unless s ss) =
        ap₂ join (ap (λ n. join (in_transitions join known unless) (join (in_transitions join known until) n)) (block_clocked (below Body (below Head here)) b)) (states_clocked (below Tail here) ss)
