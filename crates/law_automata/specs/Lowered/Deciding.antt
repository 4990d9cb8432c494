-- Where conditions of transitions have truth values: strong ones of each state, and weak ones of the state that is active.
use Rattle.std.specs.Prelude.{ℕ, ◌≡◌, Bool, true, List, [], ◌∷◌, Option, None, Some, ⊤, reverse}
use Rattle.std.specs.Str.{bytes_eq}
use Rattle.hp_base.specs.declared.value.Value.TheVariants.{B}
use Rattle.hp_tree.specs.declared.block.Trans.{Trans}
use Rattle.hp_tree.specs.declared.program.Item.{Item}
use Rattle.hp_tree.specs.declared.program.Item.TheVariants.{TypeItem, NodeItem}
use Rattle.hp_tree.specs.Expressions.{Expr, constant, variable, last_of, one, two, choose, pre, fby, arrow, when_is, merge, call, Exprs, no_expr, more_exprs, Parts, no_part, more_parts}
use Rattle.hp_tree.specs.Blocks.{Block, block, Eqns, no_eqn, more_eqns, Eqn, define, switch, reset, automaton, Arms, no_arm, more_arms, States, no_state, more_states}
use Rattle.hp_tree.specs.Programs.{Contract, Node}
use Rattle.hp_tree.specs.Operators.{is_there}
use Rattle.hp_tree.specs.Instant.{Body, Observer, Assume, Enforce, Fresh, Equations, Head, Tail, Right, Test, Arms as ArmsOf, States as StatesOf, Until, Unless, First, Second, Third, Args, Instance, Instant, part}
use Rattle.law_automata.specs.Lowered.Standing.{either_is}

-- something of an instant of a part
abbrev pub Property : Type 1
Property = Instant → Type 0

-- of a block or an instance where it is there
abbrev pub IfThere : Property → Property
IfThere P i = is_there (i (Fresh ∷ [])) ≡ true → P i

-- the conditions of some transitions, in a row
abbrev pub RowDecided : List Trans → Property
RowDecided [] i = ⊤
RowDecided (t ∷ ts) i = ((b : Bool) × (i (Head ∷ []) ≡ B b)) × RowDecided ts (part Tail i)

-- `callee` says it of instances of each node
module _ (callee : List ℕ → Property) where
  abbrev mutual
    pub ExprDecided : Expr → Property
    ExprDecided (constant s c) i = ⊤
    ExprDecided (variable s x) i = ⊤
    ExprDecided (last_of s x) i = ⊤
    ExprDecided (one s o a) i = ExprDecided a (part First i)
    ExprDecided (two s o a b) i = ExprDecided a (part First i) × ExprDecided b (part Second i)
    ExprDecided (choose s a b c) i = ExprDecided a (part First i) × ExprDecided b (part Second i) × ExprDecided c (part Third i)
    ExprDecided (pre s a) i = ExprDecided a (part First i)
    ExprDecided (fby s a b) i = ExprDecided a (part First i) × ExprDecided b (part Second i)
    ExprDecided (arrow s a b) i = ExprDecided a (part First i) × ExprDecided b (part Second i)
    ExprDecided (when_is s a c x) i = ExprDecided a (part First i)
    ExprDecided (merge s x ps) i = PartsDecided ps (part Args i)
    ExprDecided (call s f inlined es) i = ExprsDecided es (part Args i) × IfThere (callee f) (part Instance i)

    pub ExprsDecided : Exprs → Property
    ExprsDecided no_expr i = ⊤
    ExprsDecided (more_exprs e es) i = ExprDecided e (part Head i) × ExprsDecided es (part Tail i)

    pub PartsDecided : Parts → Property
    PartsDecided no_part i = ⊤
    PartsDecided (more_parts c e ps) i = ExprDecided e (part Head i) × PartsDecided ps (part Tail i)

  abbrev mutual
    pub BlockDecided : Block → Property
    BlockDecided (block ds es) i = EqnsDecided es (part Equations i)

    pub EqnsDecided : Eqns → Property
    EqnsDecided no_eqn i = ⊤
    EqnsDecided (more_eqns e es) i = EqnDecided e (part Head i) × EqnsDecided es (part Tail i)

    pub EqnDecided : Eqn → Property
    EqnDecided (define s ys e) i = ExprDecided e (part Right i)
    EqnDecided (switch s e arms) i = ExprDecided e (part Test i) × ArmsDecided arms (part ArmsOf i)
    EqnDecided (reset s b e) i = ExprDecided e (part Test i) × IfThere (BlockDecided b) (part Body i)
    EqnDecided (automaton s ss) i = StatesDecided ss (part StatesOf i)

    pub ArmsDecided : Arms → Property
    ArmsDecided no_arm i = ⊤
    ArmsDecided (more_arms c b s arms) i = IfThere (BlockDecided b) (part Head i) × ArmsDecided arms (part Tail i)

    pub StatesDecided : States → Property
    StatesDecided no_state i = ⊤
    StatesDecided (more_states f b until unless s ss) i =
        (RowDecided unless (part Unless (part Head i)) × IfThere (λ body. RowDecided until (part Until (part Head i))) (part Body (part Head i)) × IfThere (BlockDecided b) (part Body (part Head i)))
        × StatesDecided ss (part Tail i)

  abbrev pub ConditionDecided : Option Expr → Property
  ConditionDecided None i = ⊤
  ConditionDecided (Some e) i = ExprDecided e i

  abbrev pub ContractDecided : Option Contract → Property
  ContractDecided None i = ⊤
  ContractDecided (Some c) i = BlockDecided c.body (part Observer i) × ConditionDecided c.assume (part Assume i) × ConditionDecided c.enforce (part Enforce i)

  abbrev pub NodeDecided : Node → Property
  NodeDecided n i = BlockDecided n.body (part Body i) × ContractDecided n.contract i

-- of the node of a name, where the nodes are given the last one first
abbrev pub decided_among : List Item → List ℕ → Property
decided_among [] f i = ⊤
decided_among (TypeItem t ∷ earlier) f i = decided_among earlier f i
decided_among (NodeItem n ∷ earlier) f i = either_is (bytes_eq n.name f) (NodeDecided (decided_among earlier) n i) (decided_among earlier f i)

-- of the node of a name, in a program
abbrev pub IsDecided : List Item → List ℕ → Property
IsDecided program f = decided_among (reverse program) f
