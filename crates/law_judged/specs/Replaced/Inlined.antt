-- How many inlined calls there are in a part of a program.
use Rattle.std.specs.Prelude.{ℕ, suc, ◌+◌, true, false, Option, None, Some}
use Rattle.hp_tree.specs.Expressions.{Expr, constant, variable, last_of, one, two, choose, pre, fby, arrow, when_is, merge, call, Exprs, no_expr, more_exprs, Parts, no_part, more_parts}
use Rattle.hp_tree.specs.Blocks.{Block, block, Eqns, no_eqn, more_eqns, Eqn, define, switch, reset, automaton, Arms, no_arm, more_arms, States, no_state, more_states}
use Rattle.hp_tree.specs.Programs.{Contract, Node}

abbrev mutual
  pub in_expr : Expr → ℕ
  in_expr (constant at c) = 0
  in_expr (variable at x) = 0
  in_expr (last_of at x) = 0
  in_expr (one at op a) = in_expr a
  in_expr (two at op a b) = in_expr a + in_expr b
  in_expr (choose at a b c) = in_expr a + (in_expr b + in_expr c)
  in_expr (pre at a) = in_expr a
  in_expr (fby at a b) = in_expr a + in_expr b
  in_expr (arrow at a b) = in_expr a + in_expr b
  in_expr (when_is at a c x) = in_expr a
  in_expr (merge at x ps) = in_parts ps
  in_expr (call at f false es) = in_exprs es
  in_expr (call at f true es) = suc (in_exprs es)

  pub in_exprs : Exprs → ℕ
  in_exprs no_expr = 0
  in_exprs (more_exprs e es) = in_expr e + in_exprs es

  pub in_parts : Parts → ℕ
  in_parts no_part = 0
  in_parts (more_parts c e ps) = in_expr e + in_parts ps

-- transitions hold none
abbrev mutual
  pub in_block : Block → ℕ
  in_block (block ds es) = in_eqns es

  pub in_eqns : Eqns → ℕ
  in_eqns no_eqn = 0
  in_eqns (more_eqns e es) = in_eqn e + in_eqns es

  pub in_eqn : Eqn → ℕ
  in_eqn (define s ys e) = in_expr e
  in_eqn (switch s e arms) = in_expr e + in_arms arms
  in_eqn (reset s b e) = in_expr e + in_block b
  in_eqn (automaton s ss) = in_states ss

  pub in_arms : Arms → ℕ
  in_arms no_arm = 0
  in_arms (more_arms c b s arms) = in_block b + in_arms arms

  pub in_states : States → ℕ
  in_states no_state = 0
  in_states (more_states f b until unless s ss) = in_block b + in_states ss

abbrev pub in_condition : Option Expr → ℕ
in_condition None = 0
in_condition (Some e) = in_expr e

abbrev pub in_contract : Option Contract → ℕ
in_contract None = 0
in_contract (Some c) = in_block c.body + (in_condition c.assume + in_condition c.enforce)

abbrev pub in_node : Node → ℕ
in_node n = in_contract n.contract + in_block n.body
