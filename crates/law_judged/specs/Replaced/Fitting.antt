-- What replacing inlined calls asks of a program: each fits the node that it calls, and names of the text have no sign.
-- Source: the expansion of nodes in Lustre, Caspi and others (POPL 1987); names that marks tell apart, hygienic expansion by Kohlbecker and others (LFP 1986).
use Rattle.std.specs.Prelude.{ℕ, ◌≡◌, ◌≤◌, ⊤, true, false, IsTrue, List, [], ◌∷◌, Option, None, Some, length}
use Rattle.hp_base.specs.declared.span.Span.{Span}
use Rattle.hp_tree.specs.Expressions.{Expr, constant, variable, last_of, one, two, choose, pre, fby, arrow, when_is, merge, call, Exprs, no_expr, more_exprs, Parts, no_part, more_parts}
use Rattle.hp_tree.specs.Blocks.{Decl, Block, block, Eqns, no_eqn, more_eqns, Eqn, define, switch, reset, automaton, Arms, no_arm, more_arms, States, no_state, more_states}
use Rattle.hp_tree.specs.Programs.{Contract, Node}
use Rattle.hp_tree.specs.Meaning.{declares, controls_of}
use Rattle.law_judged.specs.Named.Scoped.{also, interface, NodeScoped}
use Rattle.hp_expand.specs.NewNames.{is_new}

-- ---- something is true of each name that is declared in a block, here or inside

abbrev pub DeclNames : (List ℕ → Type 0) → List Decl → Type 0
DeclNames P ds = (x : List ℕ) → IsTrue (declares ds x) → P x

abbrev mutual
  pub BlockNames : (List ℕ → Type 0) → Block → Type 0
  BlockNames P (block ds es) = DeclNames P ds × EqnsNames P es

  pub EqnsNames : (List ℕ → Type 0) → Eqns → Type 0
  EqnsNames P no_eqn = ⊤
  EqnsNames P (more_eqns e es) = EqnNames P e × EqnsNames P es

  pub EqnNames : (List ℕ → Type 0) → Eqn → Type 0
  EqnNames P (define s ys e) = ⊤
  EqnNames P (switch s e arms) = ArmsNames P arms
  EqnNames P (reset s b e) = BlockNames P b
  EqnNames P (automaton s ss) = StatesNames P ss

  pub ArmsNames : (List ℕ → Type 0) → Arms → Type 0
  ArmsNames P no_arm = ⊤
  ArmsNames P (more_arms c b s arms) = BlockNames P b × ArmsNames P arms

  pub StatesNames : (List ℕ → Type 0) → States → Type 0
  StatesNames P no_state = ⊤
  StatesNames P (more_states f b until unless s ss) = BlockNames P b × StatesNames P ss

abbrev pub ContractNames : (List ℕ → Type 0) → Option Contract → Type 0
ContractNames P None = ⊤
ContractNames P (Some c) = BlockNames P c.body

-- of each name that a node declares
pub record NodeNames (P : List ℕ → Type 0) (n : Node) : Type 0 where
  pub interface : (x : List ℕ) → IsTrue (also (interface n) (controls_of n.contract) x) → P x
  pub contract : ContractNames P n.contract
  pub body : BlockNames P n.body

-- a name of a text: without the sign, and of at most 255 bytes
abbrev pub IsPlain : List ℕ → Type 0
IsPlain x = (is_new x ≡ false) × (length x ≤ 255)

-- ---- inlined calls that fit

-- There is an argument for each input, and an output for each name on the left.
abbrev pub Covers : List Decl → Exprs → Type 0
Covers [] es = ⊤
Covers (d ∷ ds) no_expr = ⊥
Covers (d ∷ ds) (more_exprs e es) = Covers ds es

abbrev pub Gives : List Decl → List (List ℕ × Span) → Type 0
Gives outs [] = ⊤
Gives [] (y ∷ ys) = ⊥
Gives (d ∷ outs) (y ∷ ys) = Gives outs ys

module _ (nodes : List ℕ → Node) where
  abbrev mutual
    pub ExprFits : Expr → Type 0
    ExprFits (constant at c) = ⊤
    ExprFits (variable at x) = ⊤
    ExprFits (last_of at x) = ⊤
    ExprFits (one at op a) = ExprFits a
    ExprFits (two at op a b) = ExprFits a × ExprFits b
    ExprFits (choose at a b c) = ExprFits a × ExprFits b × ExprFits c
    ExprFits (pre at a) = ExprFits a
    ExprFits (fby at a b) = ExprFits a × ExprFits b
    ExprFits (arrow at a b) = ExprFits a × ExprFits b
    ExprFits (when_is at a c x) = ExprFits a
    ExprFits (merge at x ps) = PartsFit ps
    ExprFits (call at f false es) = ExprsFit es
    ExprFits (call at f true es) = Covers (nodes f).inputs es × ExprsFit es

    pub ExprsFit : Exprs → Type 0
    ExprsFit no_expr = ⊤
    ExprsFit (more_exprs e es) = ExprFits e × ExprsFit es

    pub PartsFit : Parts → Type 0
    PartsFit no_part = ⊤
    PartsFit (more_parts c e ps) = ExprFits e × PartsFit ps

  -- where the right side is an inlined call
  abbrev pub LeftFits : List (List ℕ × Span) → Expr → Type 0
  LeftFits ys (call at f true es) = Gives (nodes f).outputs ys
  LeftFits ys e = ⊤

  abbrev mutual
    pub BlockFits : Block → Type 0
    BlockFits (block ds es) = EqnsFit es

    pub EqnsFit : Eqns → Type 0
    EqnsFit no_eqn = ⊤
    EqnsFit (more_eqns e es) = EqnFits e × EqnsFit es

    pub EqnFits : Eqn → Type 0
    EqnFits (define s ys e) = LeftFits ys e × ExprFits e
    EqnFits (switch s e arms) = ExprFits e × ArmsFit arms
    EqnFits (reset s b e) = ExprFits e × BlockFits b
    EqnFits (automaton s ss) = StatesFit ss

    pub ArmsFit : Arms → Type 0
    ArmsFit no_arm = ⊤
    ArmsFit (more_arms c b s arms) = BlockFits b × ArmsFit arms

    pub StatesFit : States → Type 0
    StatesFit no_state = ⊤
    StatesFit (more_states f b until unless s ss) = BlockFits b × StatesFit ss

  abbrev pub ConditionFits : Option Expr → Type 0
  ConditionFits None = ⊤
  ConditionFits (Some e) = ExprFits e

  abbrev pub ContractFits : Option Contract → Type 0
  ContractFits None = ⊤
  ContractFits (Some c) = BlockFits c.body × ConditionFits c.assume × ConditionFits c.enforce

  abbrev pub NodeFits : Node → Type 0
  NodeFits n = ContractFits n.contract × BlockFits n.body

-- A node whose calls may be inlined: its names are in their scopes, and not too long.
pub record IsReady (n : Node) : Type 0 where
  pub scoped : NodeScoped n
  pub names : NodeNames (λ x. length x ≤ 262) n
