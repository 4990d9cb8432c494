-- Where calls may be, any are.
use Rattle.std.specs.Prelude.{true, List, [], ◌∷◌, Option, None, Some}
use Rattle.std.proofs.Common.{refl}
use Rattle.hp_tree.specs.declared.block.Trans.{Trans}
use Rattle.hp_tree.specs.Expressions.{Expr, constant, variable, last_of, one, two, choose, pre, fby, arrow, when_is, merge, call, Exprs, no_expr, more_exprs, Parts, no_part, more_parts}
use Rattle.hp_tree.specs.Blocks.{Block, block, Eqns, no_eqn, more_eqns, Eqn, define, switch, reset, automaton, Arms, no_arm, more_arms, States, no_state, more_states}
use Rattle.hp_tree.specs.Programs.{Contract}
use Rattle.law_games.proofs.SettledLemmas.Calling.{ExprCalls, ExprsCall, PartsCall, TestsCall, BlockCalls, EqnsCall, EqnCalls, ArmsCall, StatesCall, ToldCalls, ContractCalls}

mutual
  expr_calls : (e : Expr) → ExprCalls true e
  expr_calls (constant at c) = tt
  expr_calls (variable at x) = tt
  expr_calls (last_of at x) = tt
  expr_calls (one at o a) = expr_calls a
  expr_calls (two at o a b) = (expr_calls a, expr_calls b)
  expr_calls (choose at a b c) = (expr_calls a, (expr_calls b, expr_calls c))
  expr_calls (pre at a) = expr_calls a
  expr_calls (fby at a b) = (expr_calls a, expr_calls b)
  expr_calls (arrow at a b) = (expr_calls a, expr_calls b)
  expr_calls (when_is at a c x) = expr_calls a
  expr_calls (merge at x ps) = parts_call ps
  expr_calls (call at f inlined es) = (refl, exprs_call es)

  exprs_call : (es : Exprs) → ExprsCall true es
  exprs_call no_expr = tt
  exprs_call (more_exprs e es) = (expr_calls e, exprs_call es)

  parts_call : (ps : Parts) → PartsCall true ps
  parts_call no_part = tt
  parts_call (more_parts c e ps) = (expr_calls e, parts_call ps)

tests_call : (ts : List Trans) → TestsCall true ts
tests_call [] = tt
tests_call (t ∷ ts) = (expr_calls t.cond, tests_call ts)

mutual
  pub block_calls : (b : Block) → BlockCalls true b
  block_calls (block ds es) = eqns_call es

  eqns_call : (es : Eqns) → EqnsCall true es
  eqns_call no_eqn = tt
  eqns_call (more_eqns e es) = (eqn_calls e, eqns_call es)

  eqn_calls : (e : Eqn) → EqnCalls true e
  eqn_calls (define at ys e) = expr_calls e
  eqn_calls (switch at e arms) = (expr_calls e, arms_call arms)
  eqn_calls (reset at b e) = (expr_calls e, block_calls b)
  eqn_calls (automaton at ss) = states_call ss

  arms_call : (arms : Arms) → ArmsCall true arms
  arms_call no_arm = tt
  arms_call (more_arms c b at arms) = (block_calls b, arms_call arms)

  states_call : (ss : States) → StatesCall true ss
  states_call no_state = tt
  states_call (more_states f b until unless at ss) = (block_calls b, (tests_call until, (tests_call unless, states_call ss)))

told_calls : (o : Option Expr) → ToldCalls true o
told_calls None = tt
told_calls (Some e) = expr_calls e

pub contract_calls : (o : Option Contract) → ContractCalls true o
contract_calls None = tt
contract_calls (Some c) = (block_calls c.body, (told_calls c.assume, told_calls c.enforce))
