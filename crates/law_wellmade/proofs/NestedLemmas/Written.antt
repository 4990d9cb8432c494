-- Where no clock of a node is too long, the clocks of its names are short.
use Rattle.std.proofs.Common.{◌⊎◌, inl, inr, ℕ, ◌<◌, ◌≤◌, List, [], ◌∷◌, length}
use Rattle.hp_tree.specs.Blocks.{Decl, Block, block, Eqns, no_eqn, more_eqns, Eqn, define, switch, reset, automaton, Arms, no_arm, more_arms, States, no_state, more_states}
use Rattle.hp_tree.specs.Instant.{Place, Named, Equations, Head, Tail, Body, Arms as ArmsOf, States as StatesOf}
use Rattle.hp_meaning.specs.Clocking.EveryClock.{every_clock, every_clock_of_all, every_clock_of_one, every_clock_of_arms, every_clock_of_states, every_clock_of_node}
use Rattle.law_equations.proofs.MadeLemmas.StepLaws.{split_at}
use Rattle.law_wellmade.specs.Nested.Nested.{BlockShort, EqnsShort, EqnShort, ArmsShort, StatesShort}
use Rattle.law_wellmade.specs.Nested.Laws.{WrittenLaw}

module _ (limit : ℕ) where
  mutual
    block_short : (b : Block) → ((p : Place) → length (every_clock b p) ≤ limit) → BlockShort limit b
    block_short (block ds es) h = (λ x. h (Named x ∷ []), eqns_short es ds (λ p. h (Equations ∷ p)))

    eqns_short : (es : Eqns) (ds : List Decl) → ((p : Place) → length (every_clock_of_all ds es p) ≤ limit) → EqnsShort limit es
    eqns_short no_eqn ds h = tt
    eqns_short (more_eqns e es) ds h = (eqn_short e ds (λ p. h (Head ∷ p)), eqns_short es ds (λ p. h (Tail ∷ p)))

    eqn_short : (e : Eqn) (ds : List Decl) → ((p : Place) → length (every_clock_of_one ds e p) ≤ limit) → EqnShort limit e
    eqn_short (define s ys e) ds h = tt
    eqn_short (switch s e arms) ds h = arms_short arms (λ p. h (ArmsOf ∷ p))
    eqn_short (reset s b e) ds h = block_short b (λ p. h (Body ∷ p))
    eqn_short (automaton s ss) ds h = states_short ss (λ p. h (StatesOf ∷ p))

    arms_short : (arms : Arms) → ((p : Place) → length (every_clock_of_arms arms p) ≤ limit) → ArmsShort limit arms
    arms_short no_arm h = tt
    arms_short (more_arms c b s arms) h = (block_short b (λ p. h (Head ∷ p)), arms_short arms (λ p. h (Tail ∷ p)))

    states_short : (ss : States) → ((p : Place) → length (every_clock_of_states ss p) ≤ limit) → StatesShort limit ss
    states_short no_state h = tt
    states_short (more_states f b until unless s ss) h = (block_short b (λ p. h (Head ∷ (Body ∷ p))), states_short ss (λ p. h (Tail ∷ p)))

pub written_law : WrittenLaw
written_law limit n h = block_short limit n.body (λ p. by (Body ∷ p) (split_at limit (length (every_clock_of_node n (Body ∷ p)))))
  where
    by : (p : Place) → (limit < length (every_clock_of_node n p)) ⊎ (length (every_clock_of_node n p) ≤ limit) → length (every_clock_of_node n p) ≤ limit
    by p (inl l) = absurd (h (p, l))
    by p (inr l) = l
