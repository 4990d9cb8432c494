-- Which calls are in the parts of a node: none, unless there may be some.
-- The contract of a node that is called makes no call.
use Rattle.std.specs.Prelude.{⊤, Bool, IsTrue, List, [], ◌∷◌, Option, None, Some}
use Rattle.hp_tree.specs.declared.block.Trans.{Trans}
use Rattle.hp_tree.specs.Expressions.{Expr, constant, variable, last_of, one, two, choose, pre, fby, arrow, when_is, merge, call, Exprs, no_expr, more_exprs, Parts, no_part, more_parts}
use Rattle.hp_tree.specs.Blocks.{Block, block, Eqns, no_eqn, more_eqns, Eqn, define, switch, reset, automaton, Arms, no_arm, more_arms, States, no_state, more_states}
use Rattle.hp_tree.specs.Programs.{Contract}

-- `may` says whether there may be calls.
module _ (may : Bool) where
  abbrev mutual
    pub ExprCalls : Expr → Type 0
    ExprCalls (constant at c) = ⊤
    ExprCalls (variable at x) = ⊤
    ExprCalls (last_of at x) = ⊤
    ExprCalls (one at o a) = ExprCalls a
    ExprCalls (two at o a b) = ExprCalls a × ExprCalls b
    ExprCalls (choose at a b c) = ExprCalls a × (ExprCalls b × ExprCalls c)
    ExprCalls (pre at a) = ExprCalls a
    ExprCalls (fby at a b) = ExprCalls a × ExprCalls b
    ExprCalls (arrow at a b) = ExprCalls a × ExprCalls b
    ExprCalls (when_is at a c x) = ExprCalls a
    ExprCalls (merge at x ps) = PartsCall ps
    ExprCalls (call at f inlined es) = IsTrue may × ExprsCall es

    pub ExprsCall : Exprs → Type 0
    ExprsCall no_expr = ⊤
    ExprsCall (more_exprs e es) = ExprCalls e × ExprsCall es

    pub PartsCall : Parts → Type 0
    PartsCall no_part = ⊤
    PartsCall (more_parts c e ps) = ExprCalls e × PartsCall ps

  abbrev pub TestsCall : List Trans → Type 0
  TestsCall [] = ⊤
  TestsCall (t ∷ ts) = ExprCalls t.cond × TestsCall ts

  abbrev mutual
    pub BlockCalls : Block → Type 0
    BlockCalls (block ds es) = EqnsCall es

    pub EqnsCall : Eqns → Type 0
    EqnsCall no_eqn = ⊤
    EqnsCall (more_eqns e es) = EqnCalls e × EqnsCall es

    pub EqnCalls : Eqn → Type 0
    EqnCalls (define at ys e) = ExprCalls e
    EqnCalls (switch at e arms) = ExprCalls e × ArmsCall arms
    EqnCalls (reset at b e) = ExprCalls e × BlockCalls b
    EqnCalls (automaton at ss) = StatesCall ss

    pub ArmsCall : Arms → Type 0
    ArmsCall no_arm = ⊤
    ArmsCall (more_arms c b at arms) = BlockCalls b × ArmsCall arms

    pub StatesCall : States → Type 0
    StatesCall no_state = ⊤
    StatesCall (more_states f b until unless at ss) = BlockCalls b × (TestsCall until × (TestsCall unless × StatesCall ss))

  abbrev pub ToldCalls : Option Expr → Type 0
  ToldCalls None = ⊤
  ToldCalls (Some e) = ExprCalls e

  abbrev pub ContractCalls : Option Contract → Type 0
  ContractCalls None = ⊤
  ContractCalls (Some c) = BlockCalls c.body × (ToldCalls c.assume × ToldCalls c.enforce)
