-- What the calls of a part come to: their sum, or the greatest of them.
use Rattle.std.specs.Prelude.{◌≡◌, ◌≤◌, ℕ, List, [], ◌∷◌}
use Rattle.hp_tree.specs.declared.block.Trans.{Trans}
use Rattle.hp_tree.specs.Expressions.{Expr, constant, variable, last_of, one, two, choose, pre, fby, arrow, when_is, merge, call, Exprs, no_expr, more_exprs, Parts, no_part, more_parts}
use Rattle.hp_tree.specs.Blocks.{Block, block, Eqns, no_eqn, more_eqns, Eqn, define, switch, reset, automaton, Arms, no_arm, more_arms, States, no_state, more_states}
use Rattle.hp_flat.specs.Equations.{Right, operator, register, called, FlatEqn}

-- How two numbers come together, as in a sum, or as the greatest of some: in whatever order, and nothing adds nothing.
pub record Joins (join : ℕ → ℕ → ℕ) : Type 0 where
  pub grouped : (a b c : ℕ) → join (join a b) c ≡ join a (join b c)
  pub turned : (a b : ℕ) → join a b ≡ join b a
  pub none : (a : ℕ) → join a 0 ≡ a
  pub grows : (a b c d : ℕ) → a ≤ c → b ≤ d → join a b ≤ join c d

-- where it is known how much a call of each node is
module _ (join : ℕ → ℕ → ℕ) (known : List ℕ → ℕ) where
  abbrev mutual
    pub in_expr : Expr → ℕ
    in_expr (constant s c) = 0
    in_expr (variable s x) = 0
    in_expr (last_of s x) = 0
    in_expr (one s o a) = in_expr a
    in_expr (two s o a b) = join (in_expr a) (in_expr b)
    in_expr (choose s a b c) = join (in_expr a) (join (in_expr b) (in_expr c))
    in_expr (pre s a) = in_expr a
    in_expr (fby s a b) = join (in_expr a) (in_expr b)
    in_expr (arrow s a b) = join (in_expr a) (in_expr b)
    in_expr (when_is s a c x) = in_expr a
    in_expr (merge s x ps) = in_parts ps
    in_expr (call s f inlined es) = join (in_exprs es) (known f)

    pub in_exprs : Exprs → ℕ
    in_exprs no_expr = 0
    in_exprs (more_exprs e es) = join (in_expr e) (in_exprs es)

    pub in_parts : Parts → ℕ
    in_parts no_part = 0
    in_parts (more_parts c e ps) = join (in_expr e) (in_parts ps)

  abbrev pub in_transitions : List Trans → ℕ
  in_transitions [] = 0
  in_transitions (t ∷ ts) = join (in_expr t.cond) (in_transitions ts)

  abbrev mutual
    pub in_block : Block → ℕ
    in_block (block ds es) = in_eqns es

    pub in_eqns : Eqns → ℕ
    in_eqns no_eqn = 0
    in_eqns (more_eqns e es) = join (in_eqn e) (in_eqns es)

    pub in_eqn : Eqn → ℕ
    in_eqn (define s ys e) = in_expr e
    in_eqn (switch s e arms) = join (in_expr e) (in_arms arms)
    in_eqn (reset s b e) = join (in_expr e) (in_block b)
    in_eqn (automaton s ss) = in_states ss

    pub in_arms : Arms → ℕ
    in_arms no_arm = 0
    in_arms (more_arms c b s arms) = join (in_block b) (in_arms arms)

    pub in_states : States → ℕ
    in_states no_state = 0
    in_states (more_states f b until unless s ss) = join (join (in_transitions unless) (join (in_transitions until) (in_block b))) (in_states ss)

  -- the calls of clocked equations
  abbrev pub in_right : Right → ℕ
  in_right (operator op args) = 0
  in_right (register first next) = 0
  in_right (called f args) = known f

  abbrev pub in_flat : List FlatEqn → ℕ
  in_flat [] = 0
  in_flat (e ∷ es) = join (in_right e.right) (in_flat es)

  -- the instances of a machine, each with its name and that of its machine
  abbrev pub in_instances : List (List ℕ × List ℕ) → ℕ
  in_instances [] = 0
  in_instances (i ∷ insts) = join (known i.1) (in_instances insts)
