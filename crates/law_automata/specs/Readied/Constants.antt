-- The type of each name that a node declares has a constant, as the removal of automata takes for a name that no state hands on.
use Rattle.std.specs.Prelude.{◌≡◌, ⊤, List, [], ◌∷◌, Option, None, Some}
use Rattle.hp_base.specs.declared.ty.Ty.{Ty}
use Rattle.hp_tree.specs.Blocks.{Decl, Block, block, Eqns, no_eqn, more_eqns, Eqn, define, switch, reset, automaton, Arms, no_arm, more_arms, States, no_state, more_states}
use Rattle.hp_tree.specs.Programs.{Contract, Node}
use Rattle.hp_typing.specs.Types.{constant_type}
use Rattle.law_judged.specs.Typed.Scopes.{Scope}
use Rattle.hp_automata.specs.Lowering.{Enumerations, some_constant}

abbrev pub HasConstant : Enumerations → Scope → Ty → Type 0
HasConstant enums s t = constant_type s (some_constant enums t) ≡ Some t

module _ (P : Ty → Type 0) where
  abbrev pub DeclTypes : List Decl → Type 0
  DeclTypes [] = ⊤
  DeclTypes (d ∷ ds) = P d.ty × DeclTypes ds

  abbrev mutual
    pub BlockTypes : Block → Type 0
    BlockTypes (block ds es) = DeclTypes ds × EqnsTypes es

    pub EqnsTypes : Eqns → Type 0
    EqnsTypes no_eqn = ⊤
    EqnsTypes (more_eqns e es) = EqnTypes e × EqnsTypes es

    pub EqnTypes : Eqn → Type 0
    EqnTypes (define s ys e) = ⊤
    EqnTypes (switch s e arms) = ArmsTypes arms
    EqnTypes (reset s b e) = BlockTypes b
    EqnTypes (automaton s ss) = StatesTypes ss

    pub ArmsTypes : Arms → Type 0
    ArmsTypes no_arm = ⊤
    ArmsTypes (more_arms c b s arms) = BlockTypes b × ArmsTypes arms

    pub StatesTypes : States → Type 0
    StatesTypes no_state = ⊤
    StatesTypes (more_states f b until unless s ss) = BlockTypes b × StatesTypes ss

  abbrev pub ContractTypes : Option Contract → Type 0
  ContractTypes None = ⊤
  ContractTypes (Some c) = BlockTypes c.body

  -- outputs and locals
  abbrev pub NodeTypes : Node → Type 0
  NodeTypes n = DeclTypes n.outputs × (ContractTypes n.contract × BlockTypes n.body)
