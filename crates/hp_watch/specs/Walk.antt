-- The comparisons and calls of a part of a tree, in the order of their places.
-- Source: own. Clocked equations are made of an operator behind those of its operands, of the condition of a `reset` before those of its body, and of the transitions of a state before those of its body. In the order of places each of these is the other way round.
-- An event is what was made of a comparison or a call. A walk takes events in the order of making, and is a function on lists of anything: it changes their order alone, and leaves out those that stand at no place.
use Rattle.std.specs.Prelude.{ℕ, zero, suc, ◌+◌, Bool, true, false, if◌then◌else◌, List, [], ◌∷◌, ◌++◌, take, drop, Option, Some, None}
use Rattle.hp_tree.specs.declared.expr.Op2.{Op2}
use Rattle.hp_tree.specs.declared.expr.Op2.TheVariants as op
use Rattle.hp_tree.specs.declared.block.Trans.{Trans}
use Rattle.hp_tree.specs.Expressions.{Expr, Exprs, Parts, constant, variable, last_of, one, two, choose, pre, fby, arrow, when_is, merge, call, no_expr, more_exprs, no_part, more_parts}
use Rattle.hp_tree.specs.Blocks.{Block, Eqns, Eqn, Arms, States, State, block, no_eqn, more_eqns, define, switch, reset, automaton, no_arm, more_arms, no_state, more_states}
use Rattle.hp_tree.specs.Programs.{Contract}
use Rattle.hp_obc.specs.declared.command.ObcOp.{ObcOp}
use Rattle.hp_obc.specs.declared.command.ObcOp.TheVariants as machine
use Rattle.hp_flat.specs.Equations.{Right, operator, register, called, FlatEqn}

-- ---- events

-- an operator of the tree that compares
abbrev pub compares : Op2 → Bool
compares op.Eq = true
compares op.Ne = true
compares op.Lt = true
compares op.Le = true
compares op.Gt = true
compares op.Ge = true
compares other = false

-- an operator of equations that compares
abbrev pub is_comparison : ObcOp → Bool
is_comparison machine.Eq = true
is_comparison machine.Ne = true
is_comparison machine.Lt = true
is_comparison machine.Le = true
is_comparison machine.Gt = true
is_comparison machine.Ge = true
is_comparison other = false

abbrev pub is_event : Right → Bool
is_event (operator o args) = is_comparison o
is_event (register first next) = false
is_event (called f args) = true

-- the numbers of the events among equations, from a number on
abbrev pub events_from : ℕ → List FlatEqn → List ℕ
events_from i [] = []
events_from i (e ∷ es) = if is_event e.right then i ∷ events_from (suc i) es else events_from (suc i) es

-- ---- how many there are

-- the comparisons that are made for a state besides those of its conditions and its body: two for the jumps from it, two for those that make it active, and one for its restart
abbrev pub for_a_state : ℕ
for_a_state = 5

-- how many events are made of an expression
abbrev mutual
  pub in_expr : Expr → ℕ
  in_expr (constant s c) = 0
  in_expr (variable s x) = 0
  in_expr (last_of s x) = 0
  in_expr (one s o a) = in_expr a
  in_expr (two s o a b) = in_expr a + in_expr b + (if compares o then 1 else 0)
  in_expr (choose s a b c) = in_expr a + in_expr b + in_expr c
  in_expr (pre s a) = in_expr a
  in_expr (fby s a b) = in_expr a + in_expr b
  in_expr (arrow s a b) = in_expr a + in_expr b
  in_expr (when_is s a c x) = in_expr a
  in_expr (merge s x parts) = in_parts parts
  in_expr (call s f inlined args) = in_exprs args + 1

  pub in_exprs : Exprs → ℕ
  in_exprs no_expr = 0
  in_exprs (more_exprs e es) = in_expr e + in_exprs es

  pub in_parts : Parts → ℕ
  in_parts no_part = 0
  in_parts (more_parts c e ps) = in_expr e + in_parts ps

-- of an operator on two expressions
abbrev pub in_two : Op2 → Expr → Expr → ℕ
in_two o a b = in_expr a + in_expr b + (if compares o then 1 else 0)

abbrev pub in_conditions : List Trans → ℕ
in_conditions [] = 0
in_conditions (t ∷ ts) = in_expr t.cond + in_conditions ts

-- and of a block
abbrev mutual
  pub in_block : Block → ℕ
  in_block (block ds es) = in_eqns es

  pub in_eqns : Eqns → ℕ
  in_eqns no_eqn = 0
  in_eqns (more_eqns e es) = in_eqn e + in_eqns es

  pub in_eqn : Eqn → ℕ
  in_eqn (define s xs e) = in_expr e
  in_eqn (switch s e arms) = in_expr e + in_arms arms
  in_eqn (reset s b e) = in_expr e + in_block b
  in_eqn (automaton s qs) = in_states qs

  pub in_arms : Arms → ℕ
  in_arms no_arm = 0
  in_arms (more_arms c b s arms) = in_block b + in_arms arms

  pub in_states : States → ℕ
  in_states no_state = 0
  in_states (more_states x b until unless s qs) = in_conditions unless + for_a_state + in_conditions until + in_block b + in_states qs

-- of the conditions of a state, and of what else is compared for it
abbrev pub in_transitions : State → ℕ
in_transitions q = in_conditions q.unless + for_a_state + in_conditions q.until

abbrev pub in_state : State → ℕ
in_state q = in_conditions q.unless + for_a_state + in_conditions q.until + in_block q.body

abbrev pub in_condition : Option Expr → ℕ
in_condition None = 0
in_condition (Some e) = in_expr e

abbrev pub in_contract : Contract → ℕ
in_contract c = in_block c.body + in_condition c.assume + in_condition c.enforce

-- ---- the walk

-- what is found, in the order of places, and the events that are left
abbrev pub Walked : Type 0 → Type 0
Walked X = List X × List X

-- the next event, where there is one, stands before what was found of its operands
abbrev pub in_front : {X : Type 0} → Walked X → Walked X
in_front x = (take 1 x.1 ++ x.0, drop 1 x.1)

-- behind what was found there stands what is found here
abbrev pub behind : {X : Type 0} → List X → Walked X → Walked X
behind found x = (found ++ x.0, x.1)

-- before what was found there stands what is found here
abbrev pub before : {X : Type 0} → List X → Walked X → Walked X
before found x = (x.0 ++ found, x.1)

module _ {X : Type 0} where
  abbrev mutual
    pub walk : Expr → List X → Walked X
    walk (constant s c) es = ([], es)
    walk (variable s x) es = ([], es)
    walk (last_of s x) es = ([], es)
    walk (one s o a) es = walk a es
    walk (two s o a b) es =
        let x = walk a es in
        let y = behind x.0 (walk b x.1) in
        if compares o then in_front y else y
    walk (choose s a b c) es =
        let x = walk a es in
        let y = walk b x.1 in
        behind (x.0 ++ y.0) (walk c y.1)
    walk (pre s a) es = walk a es
    walk (fby s a b) es = let x = walk a es in behind x.0 (walk b x.1)
    walk (arrow s a b) es = let x = walk a es in behind x.0 (walk b x.1)
    walk (when_is s a c x) es = walk a es
    walk (merge s x parts) es = walk_parts parts es
    walk (call s f inlined args) es = in_front (walk_all args es)

    pub walk_all : Exprs → List X → Walked X
    walk_all no_expr es = ([], es)
    walk_all (more_exprs e rest) es = let x = walk e es in behind x.0 (walk_all rest x.1)

    pub walk_parts : Parts → List X → Walked X
    walk_parts no_part es = ([], es)
    walk_parts (more_parts c e rest) es = let x = walk e es in behind x.0 (walk_parts rest x.1)

  -- two expressions, one behind the other
  abbrev pub both : Expr → Expr → List X → Walked X
  both a b es = let x = walk a es in behind x.0 (walk b x.1)

  -- an operator on two expressions
  abbrev pub walk_two : Op2 → Expr → Expr → List X → Walked X
  walk_two o a b es = let y = both a b es in if compares o then in_front y else y

  abbrev pub walk_conditions : List Trans → List X → Walked X
  walk_conditions [] es = ([], es)
  walk_conditions (t ∷ ts) es = let x = walk t.cond es in behind x.0 (walk_conditions ts x.1)

  abbrev mutual
    pub walk_block : Block → List X → Walked X
    walk_block (block ds eqns) es = walk_eqns eqns es

    pub walk_eqns : Eqns → List X → Walked X
    walk_eqns no_eqn es = ([], es)
    walk_eqns (more_eqns e rest) es = let x = walk_eqn e es in behind x.0 (walk_eqns rest x.1)

    pub walk_eqn : Eqn → List X → Walked X
    walk_eqn (define s xs e) es = walk e es
    walk_eqn (switch s e arms) es = let x = walk e es in behind x.0 (walk_arms arms x.1)
    walk_eqn (reset s b e) es = let x = walk e es in before x.0 (walk_block b x.1)
    walk_eqn (automaton s qs) es = walk_states qs es

    pub walk_arms : Arms → List X → Walked X
    walk_arms no_arm es = ([], es)
    walk_arms (more_arms c b s rest) es = let x = walk_block b es in behind x.0 (walk_arms rest x.1)

    pub walk_states : States → List X → Walked X
    walk_states no_state es = ([], es)
    walk_states (more_states x b until unless s rest) es =
        let strong = walk_conditions unless es in
        let weak = walk_conditions until (drop for_a_state strong.1) in
        let body = walk_block b weak.1 in
        behind (body.0 ++ weak.0 ++ strong.0) (walk_states rest body.1)

  -- the body of a `reset`, and before it in the order of making its condition
  abbrev pub walk_reset : Block → Expr → List X → Walked X
  walk_reset b e es = let x = walk e es in before x.0 (walk_block b x.1)

  -- the strong conditions of a state, and behind what else is compared for it its weak ones
  abbrev pub walk_strong : State → List X → Walked X
  walk_strong q es = walk_conditions q.unless es

  abbrev pub walk_weak : State → List X → Walked X
  walk_weak q es = walk_conditions q.until (drop for_a_state (walk_strong q es).1)

  -- a state: its body, its weak conditions, and its strong ones
  abbrev pub walk_state : State → List X → Walked X
  walk_state q es =
      let strong = walk_conditions q.unless es in
      let weak = walk_conditions q.until (drop for_a_state strong.1) in
      let body = walk_block q.body weak.1 in
      (body.0 ++ weak.0 ++ strong.0, body.1)

  abbrev pub walk_condition : Option Expr → List X → Walked X
  walk_condition None es = ([], es)
  walk_condition (Some e) es = walk e es

  -- of a contract: its block, what it assumes, and what it enforces
  abbrev pub walk_contract : Contract → List X → Walked X
  walk_contract c es =
      let body = walk_block c.body es in
      let assumed = walk_condition c.assume body.1 in
      behind (body.0 ++ assumed.0) (walk_condition c.enforce assumed.1)
