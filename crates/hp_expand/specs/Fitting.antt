-- When the replacement of inlined calls is as large as it was counted: the calls fit the nodes that they name.
use Rattle.std.specs.Prelude.{◌≡◌, ℕ, suc, true, false, List, length, Option, None, Some}
use Rattle.hp_tree.specs.Expressions.{Expr, constant, variable, last_of, one, two, choose, pre, fby, arrow, when_is, merge, call, Exprs, no_expr, more_exprs, Parts, no_part, more_parts}
use Rattle.hp_tree.specs.Blocks.{Block, block, Eqns, no_eqn, more_eqns, Eqn, define, switch, reset, automaton, Arms, no_arm, more_arms, States, no_state, more_states}
use Rattle.hp_tree.specs.Programs.{Contract, Node}
use Rattle.hp_expand.specs.Sizes.{Size, in_node}
use Rattle.hp_expand.specs.Numbering.{replaced_node}

-- how many arguments there are
abbrev pub count : Exprs → ℕ
count no_expr = 0
count (more_exprs e es) = suc (count es)

module _ (known : List ℕ → Size) (nodes : List ℕ → Node) where
  -- The node of the name has no contract and so many inputs, and it is as large as is known.
  pub record IsInlinable (f : List ℕ) (arguments : ℕ) : Type 0 where
    pub no_contract : (nodes f).contract ≡ None
    pub inputs : length (nodes f).inputs ≡ arguments
    pub size : known f ≡ in_node known (nodes f)

  -- each inlined call in a part is one of such a node
  abbrev mutual
    pub Fits : Expr → Type 0
    Fits (constant at c) = Unit {0}
    Fits (variable at x) = Unit {0}
    Fits (last_of at x) = Unit {0}
    Fits (one at op a) = Fits a
    Fits (two at op a b) = Fits a × Fits b
    Fits (choose at a b c) = Fits a × (Fits b × Fits c)
    Fits (pre at a) = Fits a
    Fits (fby at a b) = Fits a × Fits b
    Fits (arrow at a b) = Fits a × Fits b
    Fits (when_is at a c x) = Fits a
    Fits (merge at x ps) = PartsFit ps
    Fits (call at f false es) = AllFit es
    Fits (call at f true es) = IsInlinable f (count es) × AllFit es

    pub AllFit : Exprs → Type 0
    AllFit no_expr = Unit {0}
    AllFit (more_exprs e es) = Fits e × AllFit es

    pub PartsFit : Parts → Type 0
    PartsFit no_part = Unit {0}
    PartsFit (more_parts c e ps) = Fits e × PartsFit ps

  -- an inlined call gives the values of all names
  abbrev pub RightFits : ℕ → Expr → Type 0
  RightFits names (call at f true es) = (length (nodes f).outputs ≡ names) × (IsInlinable f (count es) × AllFit es)
  RightFits names e = Fits e

  abbrev mutual
    pub BlockFits : Block → Type 0
    BlockFits (block ds es) = EqnsFit es

    pub EqnsFit : Eqns → Type 0
    EqnsFit no_eqn = Unit {0}
    EqnsFit (more_eqns e es) = EqnFits e × EqnsFit es

    pub EqnFits : Eqn → Type 0
    EqnFits (define s xs e) = RightFits (length xs) e
    EqnFits (switch s e arms) = Fits e × ArmsFit arms
    EqnFits (reset s b e) = BlockFits b × Fits e
    EqnFits (automaton s qs) = StatesFit qs

    pub ArmsFit : Arms → Type 0
    ArmsFit no_arm = Unit {0}
    ArmsFit (more_arms c b at arms) = BlockFits b × ArmsFit arms

    pub StatesFit : States → Type 0
    StatesFit no_state = Unit {0}
    StatesFit (more_states x b until unless at qs) = BlockFits b × StatesFit qs

  abbrev pub ConditionFits : Option Expr → Type 0
  ConditionFits None = Unit {0}
  ConditionFits (Some e) = Fits e

  abbrev pub ContractFits : Option Contract → Type 0
  ContractFits None = Unit {0}
  ContractFits (Some c) = BlockFits c.body × (ConditionFits c.assume × ConditionFits c.enforce)

  abbrev pub NodeFits : Node → Type 0
  NodeFits n = ContractFits n.contract × BlockFits n.body

-- What is counted of a node is what there is in it once its inlined calls are replaced.
abbrev pub CountedAsReplaced : Type 0
CountedAsReplaced = (known : List ℕ → Size) (nodes : List ℕ → Node) (n : Node) → NodeFits known nodes n → in_node known (replaced_node nodes n) ≡ in_node known n
