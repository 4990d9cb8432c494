-- Writing clocks keeps that each name has one equation in its block.
use Rattle.std.proofs.Common.{sym, ◌∙◌}
use Rattle.std.specs.Prelude.{Option, None, Some}
use Rattle.hp_tree.specs.Blocks.{Block, block, Eqns, no_eqn, more_eqns, Eqn, define, switch, reset, automaton, Arms, no_arm, more_arms, States, no_state, more_states}
use Rattle.hp_tree.specs.Programs.{Contract}
use Rattle.hp_tree.specs.Instant.{Place, Body, Equations, Head, Tail, Arms as ArmsOf, States as StatesOf}
use Rattle.hp_meaning.specs.Causal.Sources.{below}
use Rattle.hp_meaning.specs.Clocking.Clocking.{Assignment, with_clocks, all_with_clocks, one_with_clocks, arms_with_clocks, states_with_clocks, in_observer, in_body, contract_with_clocks}
use Rattle.hp_meaning.proofs.ClockingLemmas.Written.{some_kept, defines_kept}
use Rattle.law_judged.specs.Once.Once.{BlockOnce, AllOnce, OneOnce, ArmsOnce, StatesOnce, ContractOnce}
use Rattle.law_judged.specs.Once.Laws.{ClocksLaw}

module _ (at : Assignment) where
  mutual
    block_kept : (here : Place → Place) (b : Block) → BlockOnce b → BlockOnce (with_clocks at here b)
    block_kept here (block ds es) o = all_kept (below Equations here) es o

    all_kept : (here : Place → Place) (es : Eqns) → AllOnce es → AllOnce (all_with_clocks at here es)
    all_kept here no_eqn o = tt
    all_kept here (more_eqns e es) o = (
      (λ x h. some_kept at (below Tail here) es x ∙ o.0 x (sym (defines_kept at (below Head here) e x) ∙ h)),
      (one_kept (below Head here) e o.1.0, all_kept (below Tail here) es o.1.1),
    )

    one_kept : (here : Place → Place) (e : Eqn) → OneOnce e → OneOnce (one_with_clocks at here e)
    one_kept here (define s ys e) o = tt
    one_kept here (switch s e arms) o = arms_kept (below ArmsOf here) arms o
    one_kept here (reset s b e) o = block_kept (below Body here) b o
    one_kept here (automaton s ss) o = states_kept (below StatesOf here) ss o

    arms_kept : (here : Place → Place) (arms : Arms) → ArmsOnce arms → ArmsOnce (arms_with_clocks at here arms)
    arms_kept here no_arm o = tt
    arms_kept here (more_arms c b s arms) o = (block_kept (below Head here) b o.0, arms_kept (below Tail here) arms o.1)

    states_kept : (here : Place → Place) (ss : States) → StatesOnce ss → StatesOnce (states_with_clocks at here ss)
    states_kept here no_state o = tt
    states_kept here (more_states f b until unless s ss) o = (block_kept (below Body (below Head here)) b o.0, states_kept (below Tail here) ss o.1)

  contract_kept : (c : Option Contract) → ContractOnce c → ContractOnce (contract_with_clocks at c)
  contract_kept None o = tt
  contract_kept (Some c) o = block_kept in_observer c.body o

pub kept : ClocksLaw
kept n at o = (contract_kept at n.contract o.0, block_kept at in_body n.body o.1)
