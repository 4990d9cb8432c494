-- How many places a node has. A place is a declaration, an occurrence of a subexpression, or one of the four words of an automaton: active, fresh, next and pending.
-- Source: own; one for each stream of Colaço, Pagano and Pouzet, A conservative extension of synchronous data-flow with state machines, EMSOFT 2005.
use Rattle.std.specs.Prelude.{ℕ, suc, ◌+◌, min, List, [], ◌∷◌, length, Option, None, Some}
use Rattle.hp_base.specs.Limits.{most}
use Rattle.hp_base.specs.declared.limit.What.TheVariants.{Places}
use Rattle.hp_tree.specs.declared.block.Trans.{Trans}
use Rattle.hp_tree.specs.Expressions.{Expr, constant, variable, last_of, one, two, choose, pre, fby, arrow, when_is, merge, call, Exprs, no_expr, more_exprs, Parts, no_part, more_parts}
use Rattle.hp_tree.specs.Blocks.{Block, block, Eqns, no_eqn, more_eqns, Eqn, define, switch, reset, automaton, Arms, no_arm, more_arms, States, no_state, more_states}
use Rattle.hp_tree.specs.Programs.{Contract, Node}

-- The places of an expression; those of the node that it calls are the called node's own.
abbrev mutual
  pub places_of_expr : Expr → ℕ
  places_of_expr (constant at c) = 1
  places_of_expr (variable at x) = 1
  places_of_expr (last_of at x) = 1
  places_of_expr (one at op a) = 1 + places_of_expr a
  places_of_expr (two at op a b) = 1 + (places_of_expr a + places_of_expr b)
  places_of_expr (choose at a b c) = 1 + (places_of_expr a + (places_of_expr b + places_of_expr c))
  places_of_expr (pre at a) = 1 + places_of_expr a
  places_of_expr (fby at a b) = 1 + (places_of_expr a + places_of_expr b)
  places_of_expr (arrow at a b) = 1 + (places_of_expr a + places_of_expr b)
  places_of_expr (when_is at a c x) = 1 + places_of_expr a
  places_of_expr (merge at x ps) = 1 + places_of_parts ps
  places_of_expr (call at f inlined es) = 1 + places_of_exprs es

  pub places_of_exprs : Exprs → ℕ
  places_of_exprs no_expr = 0
  places_of_exprs (more_exprs e es) = places_of_expr e + places_of_exprs es

  pub places_of_parts : Parts → ℕ
  places_of_parts no_part = 0
  places_of_parts (more_parts c e ps) = places_of_expr e + places_of_parts ps

abbrev pub places_of_transitions : List Trans → ℕ
places_of_transitions [] = 0
places_of_transitions (t ∷ ts) = places_of_expr t.cond + places_of_transitions ts

abbrev mutual
  pub places_of_block : Block → ℕ
  places_of_block (block ds es) = length ds + places_of_eqns es

  pub places_of_eqns : Eqns → ℕ
  places_of_eqns no_eqn = 0
  places_of_eqns (more_eqns e es) = places_of_eqn e + places_of_eqns es

  pub places_of_eqn : Eqn → ℕ
  places_of_eqn (define at xs e) = places_of_expr e
  places_of_eqn (switch at e arms) = places_of_expr e + places_of_arms arms
  places_of_eqn (reset at b e) = places_of_block b + places_of_expr e
  places_of_eqn (automaton at qs) = 4 + places_of_states qs

  pub places_of_arms : Arms → ℕ
  places_of_arms no_arm = 0
  places_of_arms (more_arms c b at arms) = places_of_block b + places_of_arms arms

  pub places_of_states : States → ℕ
  places_of_states no_state = 0
  places_of_states (more_states x b until unless at qs) =
      (places_of_block b + (places_of_transitions until + places_of_transitions unless)) + places_of_states qs

abbrev pub places_of_condition : Option Expr → ℕ
places_of_condition None = 0
places_of_condition (Some e) = places_of_expr e

abbrev pub places_of_contract : Option Contract → ℕ
places_of_contract None = 0
places_of_contract (Some c) = length c.controls + (places_of_block c.body + (places_of_condition c.assume + places_of_condition c.enforce))

abbrev pub places_of_node : Node → ℕ
places_of_node n = (length n.inputs + length n.outputs) + (places_of_contract n.contract + places_of_block n.body)

-- A number as far as the limit on places tells it: what is over the limit is one more than the limit.
unfoldable pub up_to_limit : ℕ → ℕ
up_to_limit n = min (suc (most Places)) n
