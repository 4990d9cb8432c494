-- How far the numbers of inlined calls go.
use Rattle.std.specs.Prelude.{◌≤◌, ℕ, ◌+◌, List, [], ◌∷◌, Option, None, Some}
use Rattle.hp_tree.specs.Blocks.{Block, block, Eqns, no_eqn, more_eqns, Eqn, define, switch, reset, automaton, Arms, no_arm, more_arms, States, no_state, more_states}
use Rattle.hp_tree.specs.Programs.{Contract, Node}
use Rattle.hp_expand.specs.Sizes.{Size, in_node}
use Rattle.hp_expand.specs.Replacing.{in_block, in_contract}

-- how many equations of a part have no name on the left
abbrev mutual
  pub nameless : Block → ℕ
  nameless (block ds es) = nameless_in es

  pub nameless_in : Eqns → ℕ
  nameless_in no_eqn = 0
  nameless_in (more_eqns e es) = nameless_of e + nameless_in es

  pub nameless_of : Eqn → ℕ
  nameless_of (define s [] e) = 1
  nameless_of (define s (x ∷ xs) e) = 0
  nameless_of (switch s e arms) = nameless_in_arms arms
  nameless_of (reset s b e) = nameless b
  nameless_of (automaton s qs) = nameless_in_states qs

  pub nameless_in_arms : Arms → ℕ
  nameless_in_arms no_arm = 0
  nameless_in_arms (more_arms c b at arms) = nameless b + nameless_in_arms arms

  pub nameless_in_states : States → ℕ
  nameless_in_states no_state = 0
  nameless_in_states (more_states x b until unless at qs) = nameless b + nameless_in_states qs

abbrev pub nameless_in_contract : Option Contract → ℕ
nameless_in_contract None = 0
nameless_in_contract (Some c) = nameless c.body

-- the number behind that of a node's last inlined call
abbrev pub behind_calls : (List ℕ → Node) → Node → ℕ
behind_calls nodes n = (in_block nodes (in_contract nodes 1 n.contract).next n.body).next

-- Each inlined call is counted as a place, but for one that is the right side of an equation without a name.
abbrev pub CallsWithinPlaces : Type 0
CallsWithinPlaces = (known : List ℕ → Size) (nodes : List ℕ → Node) (n : Node)
    → behind_calls nodes n ≤ 1 + ((in_node known n).places + (nameless_in_contract n.contract + nameless n.body))
