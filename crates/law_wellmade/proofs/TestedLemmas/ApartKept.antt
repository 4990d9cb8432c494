-- Where tests fit among the names around, no constructor stands twice; and so it is where clocks are written.
use Rattle.std.proofs.Common.{ℕ, List}
use Rattle.std.specs.Prelude.{Option, None, Some}
use Rattle.hp_tree.specs.Blocks.{Block, block, Eqns, no_eqn, more_eqns, Eqn, define, switch, reset, automaton, Arms, no_arm, more_arms, States, no_state, more_states}
use Rattle.hp_tree.specs.Programs.{Contract}
use Rattle.hp_tree.specs.Instant.{Place, Body, Equations, Head, Tail, Arms as ArmsOf, States as StatesOf}
use Rattle.hp_meaning.specs.Clocking.Clocking.{Assignment, with_clocks, all_with_clocks, one_with_clocks, arms_with_clocks, states_with_clocks, in_observer, contract_with_clocks}
use Rattle.hp_meaning.specs.Causal.Sources.{below}
use Rattle.law_judged.specs.Typed.Scopes.{Scope}
use Rattle.law_values.specs.Valued.Judged.{of_arms}
use Rattle.law_wellmade.specs.Timely.Tested.{AreApart}
use Rattle.law_wellmade.specs.Tested.Apart.{BlockApart, EqnsApart, EqnApart, ArmsApart, StatesApart, ContractApart}
use Rattle.law_wellmade.specs.Tested.Around.{Around, among, BlockAround, EqnsAround, EqnAround, ArmsAround, StatesAround, ContractAround}
use Rattle.std.proofs.Common.{◌≡◌, refl, sym, ap, subst, ◌∷◌}

module _ (known : Scope) (at : Assignment) where
  arms_same : (here : Place → Place) (arms : Arms) → of_arms (arms_with_clocks at here arms) ≡ of_arms arms
  arms_same here no_arm = refl
  arms_same here (more_arms c b s arms) = ap (λ cs. c ∷ cs) (arms_same (below Tail here) arms)

  mutual
    block_apart : (here : Place → Place) (G : Around) (b : Block) → BlockAround known G b → BlockApart (with_clocks at here b)
    block_apart here G (block ds es) h = eqns_apart (below Equations here) (among G ds) es h.1

    eqns_apart : (here : Place → Place) (G : Around) (es : Eqns) → EqnsAround known G es → EqnsApart (all_with_clocks at here es)
    eqns_apart here G no_eqn h = tt
    eqns_apart here G (more_eqns e es) h = (eqn_apart (below Head here) G e h.0, eqns_apart (below Tail here) G es h.1)

    eqn_apart : (here : Place → Place) (G : Around) (e : Eqn) → EqnAround known G e → EqnApart (one_with_clocks at here e)
    eqn_apart here G (define s ys e) h = h
    eqn_apart here G (switch s e arms) h = (h.0, (subst AreApart (sym (arms_same (below ArmsOf here) arms)) h.1.0.1.1, arms_apart (below ArmsOf here) G arms h.1.1))
    eqn_apart here G (reset s b e) h = (h.0, block_apart (below Body here) G b h.1)
    eqn_apart here G (automaton s ss) h = states_apart (below StatesOf here) G ss h

    arms_apart : (here : Place → Place) (G : Around) (arms : Arms) → ArmsAround known G arms → ArmsApart (arms_with_clocks at here arms)
    arms_apart here G no_arm h = tt
    arms_apart here G (more_arms c b s arms) h = (block_apart (below Head here) G b h.0, arms_apart (below Tail here) G arms h.1)

    states_apart : (here : Place → Place) (G : Around) (ss : States) → StatesAround known G ss → StatesApart (states_with_clocks at here ss)
    states_apart here G no_state h = tt
    states_apart here G (more_states f b until unless s ss) h = (block_apart (below Body (below Head here)) G b h.0, (h.1.0, (h.1.1.0, states_apart (below Tail here) G ss h.1.1.1)))

  pub contract_apart : (G : Around) (o : Option Contract) → ContractAround known G o → ContractApart (contract_with_clocks at o)
  contract_apart G None h = tt
  contract_apart G (Some c) h = (block_apart in_observer G c.body h.0, h.1)
