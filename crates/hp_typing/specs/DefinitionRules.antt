-- When the names of a program are well defined.
use Rattle.std.specs.Prelude.{◌≡◌, true, ◌⊎◌, is_some, List, [], ◌∷◌, Option, None, Some}
use Rattle.hp_tree.specs.declared.block.Trans.{Trans}
use Rattle.hp_tree.specs.declared.program.Item.{Item}
use Rattle.hp_tree.specs.declared.program.Item.TheVariants.{TypeItem, NodeItem}
use Rattle.hp_tree.specs.Expressions.{Expr, constant, variable, last_of, one, two, choose, pre, fby, arrow, when_is, merge, call, Exprs, no_expr, more_exprs, Parts, no_part, more_parts}
use Rattle.hp_tree.specs.Blocks.{Decl, Block, block, Eqns, no_eqn, more_eqns, Eqn, define, switch, reset, automaton, Arms, no_arm, more_arms, States, no_state, more_states}
use Rattle.hp_tree.specs.Programs.{Contract, Node}
use Rattle.hp_base.specs.Known.Known.{lookup}
use Rattle.hp_tree.specs.Meaning.{controls_of}
use Rattle.hp_typing.specs.Scopes.{Scope, nothing, with_variables, inside, inside_node, behind}
use Rattle.hp_typing.specs.Types.{type_of, constructors_of}
use Rattle.hp_typing.specs.Definitions.{SomeDefines, DefineAtMostOnce, DefineWhole, EachStandsOnce}
use Rattle.hp_typing.specs.Definedness.{conses_of_parts, conses_of_arms, equations}

-- ---- declarations

-- Equations define a variable of their block: once in each block, and where a control equation does in all its blocks, or it is `last`.
abbrev pub VariableIsDefined : Eqns → Decl → Type 0
VariableIsDefined es d = SomeDefines es d.name × (DefineAtMostOnce es d.name × ((is_some d.last ≡ true) ⊎ DefineWhole es d.name))

abbrev pub VariablesAreDefined : Eqns → List Decl → Type 0
VariablesAreDefined es [] = Unit {0}
VariablesAreDefined es (d ∷ ds) = VariableIsDefined es d × VariablesAreDefined es ds

-- Inputs and the like have no equation.
abbrev pub HaveNoEquation : Eqns → List Decl → Type 0
HaveNoEquation es [] = Unit {0}
HaveNoEquation es (d ∷ ds) = (SomeDefines es d.name → ⊥) × HaveNoEquation es ds

-- ---- expressions

-- Each `merge` names each constructor of its type once.
abbrev mutual
  pub MergesAreWhole : Scope → Expr → Type 0
  MergesAreWhole s (constant at c) = Unit {0}
  MergesAreWhole s (variable at x) = Unit {0}
  MergesAreWhole s (last_of at x) = Unit {0}
  MergesAreWhole s (one at op a) = MergesAreWhole s a
  MergesAreWhole s (two at op a b) = MergesAreWhole s a × MergesAreWhole s b
  MergesAreWhole s (choose at a b c) = MergesAreWhole s a × (MergesAreWhole s b × MergesAreWhole s c)
  MergesAreWhole s (pre at a) = MergesAreWhole s a
  MergesAreWhole s (fby at a b) = MergesAreWhole s a × MergesAreWhole s b
  MergesAreWhole s (arrow at a b) = MergesAreWhole s a × MergesAreWhole s b
  MergesAreWhole s (when_is at a c x) = MergesAreWhole s a
  MergesAreWhole s (merge at x ps) = EachStandsOnce (constructors_of s (lookup s.variables x)) (conses_of_parts ps) × PartsAreWhole s ps
  MergesAreWhole s (call at f inlined es) = ArgumentsAreWhole s es

  pub ArgumentsAreWhole : Scope → Exprs → Type 0
  ArgumentsAreWhole s no_expr = Unit {0}
  ArgumentsAreWhole s (more_exprs e es) = MergesAreWhole s e × ArgumentsAreWhole s es

  pub PartsAreWhole : Scope → Parts → Type 0
  PartsAreWhole s no_part = Unit {0}
  PartsAreWhole s (more_parts c e ps) = MergesAreWhole s e × PartsAreWhole s ps

abbrev pub TransitionsAreWhole : Scope → List Trans → Type 0
TransitionsAreWhole s [] = Unit {0}
TransitionsAreWhole s (t ∷ ts) = MergesAreWhole s t.cond × TransitionsAreWhole s ts

-- ---- equations

-- Blocks define their variables, and each `switch` names each constructor of its type once.
abbrev mutual
  pub BlockIsDefined : Scope → Block → Type 0
  BlockIsDefined s (block ds es) = EqnsAreDefined (with_variables s ds) es × VariablesAreDefined es ds

  pub EqnsAreDefined : Scope → Eqns → Type 0
  EqnsAreDefined s no_eqn = Unit {0}
  EqnsAreDefined s (more_eqns e es) = EqnIsDefined s e × EqnsAreDefined s es

  pub EqnIsDefined : Scope → Eqn → Type 0
  EqnIsDefined s (define at xs e) = MergesAreWhole s e
  EqnIsDefined s (switch at e arms) =
      MergesAreWhole s e × (EachStandsOnce (constructors_of s (type_of s e)) (conses_of_arms arms) × ArmsAreDefined s arms)
  EqnIsDefined s (reset at b e) = BlockIsDefined s b × MergesAreWhole s e
  EqnIsDefined s (automaton at qs) = StatesAreDefined s qs

  pub ArmsAreDefined : Scope → Arms → Type 0
  ArmsAreDefined s no_arm = Unit {0}
  ArmsAreDefined s (more_arms c b at arms) = BlockIsDefined s b × ArmsAreDefined s arms

  pub StatesAreDefined : Scope → States → Type 0
  StatesAreDefined s no_state = Unit {0}
  StatesAreDefined s (more_states x b until unless at qs) =
      BlockIsDefined s b × (TransitionsAreWhole (inside s b) until × (TransitionsAreWhole s unless × StatesAreDefined s qs))

-- ---- nodes and programs

abbrev pub ConditionIsWhole : Scope → Option Expr → Type 0
ConditionIsWhole s None = Unit {0}
ConditionIsWhole s (Some e) = MergesAreWhole s e

-- A contract defines its own variables, and neither inputs nor outputs.
abbrev pub ContractIsDefined : Scope → List Decl → List Decl → Option Contract → Type 0
ContractIsDefined s inputs outputs None = Unit {0}
ContractIsDefined s inputs outputs (Some c) =
    BlockIsDefined s c.body
    × (HaveNoEquation (equations c.body) inputs
    × (HaveNoEquation (equations c.body) outputs × (ConditionIsWhole (inside s c.body) c.assume × ConditionIsWhole (inside s c.body) c.enforce)))

-- A body defines its locals and the outputs, and neither inputs nor controllable variables.
abbrev pub BodyIsDefined : Scope → List Decl → List Decl → List Decl → Block → Type 0
BodyIsDefined s inputs outputs controls b =
    BlockIsDefined (with_variables s controls) b
    × (HaveNoEquation (equations b) inputs × (HaveNoEquation (equations b) controls × VariablesAreDefined (equations b) outputs))

abbrev pub NodeIsDefined : Scope → Node → Type 0
NodeIsDefined s n =
    ContractIsDefined (inside_node s n) n.inputs n.outputs n.contract
    × BodyIsDefined (inside_node s n) n.inputs n.outputs (controls_of n.contract) n.body

abbrev pub ItemIsDefined : Scope → Item → Type 0
ItemIsDefined s (TypeItem t) = Unit {0}
ItemIsDefined s (NodeItem n) = NodeIsDefined s n

abbrev pub ItemsAreDefined : Scope → List Item → Type 0
ItemsAreDefined s [] = Unit {0}
ItemsAreDefined s (item ∷ items) = ItemIsDefined s item × ItemsAreDefined (behind s item) items

-- The names of the program are well defined.
abbrev pub WellDefined : List Item → Type 0
WellDefined program = ItemsAreDefined nothing program
