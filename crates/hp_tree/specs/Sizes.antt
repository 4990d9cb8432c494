-- How large a tree is. A child is smaller than what it is a part of.
use Rattle.std.specs.Prelude.{ℕ, ◌+◌}
use Rattle.hp_tree.specs.Expressions.{Expr, Exprs, Parts, constant, variable, last_of, one, two, choose, pre, fby, arrow, when_is, merge, call, no_expr, more_exprs, no_part, more_parts}
use Rattle.hp_tree.specs.Blocks.{Block, Eqns, Eqn, Arms, States, block, no_eqn, more_eqns, define, switch, reset, automaton, no_arm, more_arms, no_state, more_states}

-- how many expressions there are in an expression, itself counted
abbrev mutual
  pub nodes : Expr → ℕ
  nodes (constant s c) = 1
  nodes (variable s x) = 1
  nodes (last_of s x) = 1
  nodes (one s op a) = nodes a + 1
  nodes (two s op a b) = nodes a + nodes b + 1
  nodes (choose s a b c) = nodes a + nodes b + nodes c + 1
  nodes (pre s a) = nodes a + 1
  nodes (fby s a b) = nodes a + nodes b + 1
  nodes (arrow s a b) = nodes a + nodes b + 1
  nodes (when_is s a c x) = nodes a + 1
  nodes (merge s x ps) = nodes_of_parts ps + 1
  nodes (call s f i es) = nodes_of_all es + 1

  pub nodes_of_all : Exprs → ℕ
  nodes_of_all no_expr = 0
  nodes_of_all (more_exprs e es) = nodes e + nodes_of_all es

  pub nodes_of_parts : Parts → ℕ
  nodes_of_parts no_part = 0
  nodes_of_parts (more_parts c e ps) = nodes e + nodes_of_parts ps

-- how many equations and blocks there are in a block, itself counted
abbrev mutual
  pub lines : Block → ℕ
  lines (block ds es) = lines_of_eqns es + 1

  pub lines_of_eqns : Eqns → ℕ
  lines_of_eqns no_eqn = 0
  lines_of_eqns (more_eqns e es) = lines_of_eqn e + lines_of_eqns es

  pub lines_of_eqn : Eqn → ℕ
  lines_of_eqn (define s xs e) = 1
  lines_of_eqn (switch s e arms) = lines_of_arms arms + 1
  lines_of_eqn (reset s b e) = lines b + 1
  lines_of_eqn (automaton s qs) = lines_of_states qs + 1

  pub lines_of_arms : Arms → ℕ
  lines_of_arms no_arm = 0
  lines_of_arms (more_arms c b s arms) = lines b + lines_of_arms arms

  pub lines_of_states : States → ℕ
  lines_of_states no_state = 0
  lines_of_states (more_states x b until unless s qs) = lines b + lines_of_states qs
