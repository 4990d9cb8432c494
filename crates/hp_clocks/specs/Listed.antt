-- The clocks of a node as they are listed: those of its locals, and those of the expressions that are not in others, in the order of the text's parts.
use Rattle.std.specs.Prelude.{List, [], ◌∷◌, ◌++◌, map, Option, None, Some}
use Rattle.hp_tree.specs.declared.block.Trans.{Trans}
use Rattle.hp_tree.specs.Expressions.{Expr}
use Rattle.hp_tree.specs.Blocks.{Block, block, Eqns, no_eqn, more_eqns, Eqn, define, switch, reset, automaton, Arms, no_arm, more_arms, States, no_state, more_states}
use Rattle.hp_tree.specs.Programs.{Contract, Node}
use Rattle.hp_tree.specs.Instant.{Place, Body, Equations, Head, Tail, Right as RightSide, Arms as ArmsOf, States as StatesOf, Clock}
use Rattle.hp_meaning.specs.Causal.Sources.{below}
use Rattle.hp_meaning.specs.Clocking.Terms.{value}
use Rattle.hp_meaning.specs.Clocking.Clocking.{Assignment, local_term, open_at, in_observer, in_body}

-- ---- the clock of each local, a block's own before those of its inner blocks

abbrev mutual
  pub locals : Assignment → (Place → Place) → Block → List Clock
  locals at here (block ds es) = map (λ d. value at (local_term es here d)) ds ++ locals_in_all at (below Equations here) es

  pub locals_in_all : Assignment → (Place → Place) → Eqns → List Clock
  locals_in_all at here no_eqn = []
  locals_in_all at here (more_eqns e es) = locals_in_one at (below Head here) e ++ locals_in_all at (below Tail here) es

  pub locals_in_one : Assignment → (Place → Place) → Eqn → List Clock
  locals_in_one at here (define s ys e) = []
  locals_in_one at here (switch s e arms) = locals_in_arms at (below ArmsOf here) arms
  locals_in_one at here (reset s b e) = locals at (below Body here) b
  locals_in_one at here (automaton s ss) = locals_in_states at (below StatesOf here) ss

  pub locals_in_arms : Assignment → (Place → Place) → Arms → List Clock
  locals_in_arms at here no_arm = []
  locals_in_arms at here (more_arms c b s arms) = locals at (below Head here) b ++ locals_in_arms at (below Tail here) arms

  pub locals_in_states : Assignment → (Place → Place) → States → List Clock
  locals_in_states at here no_state = []
  locals_in_states at here (more_states f b until unless s ss) = locals at (below Body (below Head here)) b ++ locals_in_states at (below Tail here) ss

abbrev pub locals_of_contract : Assignment → Option Contract → List Clock
locals_of_contract at None = []
locals_of_contract at (Some c) = locals at in_observer c.body

abbrev pub locals_of_node : Assignment → Node → List Clock
locals_of_node at n = locals_of_contract at n.contract ++ locals at in_body n.body

-- ---- each right side, condition and expression of a contract, with its clock

abbrev pub Right : Type 0
Right = Clock × Expr

abbrev pub on_base : Expr → Right
on_base e = ([], e)

abbrev pub conditions : List Trans → List Right
conditions ts = map (λ t. on_base t.cond) ts

abbrev mutual
  pub rights : Assignment → (Place → Place) → Block → List Right
  rights at here (block ds es) = rights_in_all at (below Equations here) es

  pub rights_in_all : Assignment → (Place → Place) → Eqns → List Right
  rights_in_all at here no_eqn = []
  rights_in_all at here (more_eqns e es) = rights_in_one at (below Head here) e ++ rights_in_all at (below Tail here) es

  pub rights_in_one : Assignment → (Place → Place) → Eqn → List Right
  rights_in_one at here (define s ys e) = (value at (open_at (here (RightSide ∷ []))), e) ∷ []
  rights_in_one at here (switch s e arms) = on_base e ∷ rights_in_arms at (below ArmsOf here) arms
  rights_in_one at here (reset s b e) = rights at (below Body here) b ++ (on_base e ∷ [])
  rights_in_one at here (automaton s ss) = rights_in_states at (below StatesOf here) ss

  pub rights_in_arms : Assignment → (Place → Place) → Arms → List Right
  rights_in_arms at here no_arm = []
  rights_in_arms at here (more_arms c b s arms) = rights at (below Head here) b ++ rights_in_arms at (below Tail here) arms

  pub rights_in_states : Assignment → (Place → Place) → States → List Right
  rights_in_states at here no_state = []
  rights_in_states at here (more_states f b until unless s ss) =
      rights at (below Body (below Head here)) b ++ (conditions until ++ (conditions unless ++ rights_in_states at (below Tail here) ss))

abbrev pub rights_told : Option Expr → List Right
rights_told None = []
rights_told (Some e) = on_base e ∷ []

abbrev pub rights_of_contract : Assignment → Option Contract → List Right
rights_of_contract at None = []
rights_of_contract at (Some c) = rights at in_observer c.body ++ (rights_told c.assume ++ rights_told c.enforce)

abbrev pub rights_of_node : Assignment → Node → List Right
rights_of_node at n = rights_of_contract at n.contract ++ rights at in_body n.body
