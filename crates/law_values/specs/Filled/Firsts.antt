-- Types with a first value, and nodes each of whose declarations is of such a type.
-- Source: own. The filled form gives the first value of a type; an enumeration has one where it has a constructor, as each enumeration of a text has.
use Rattle.std.specs.Prelude.{◌≡◌, ⊤, List, [], ◌∷◌, Option, None, Some}
use Rattle.hp_base.specs.declared.ty.Ty.{Ty}
use Rattle.hp_tree.specs.Blocks.{Decl, Block, block, Eqns, no_eqn, more_eqns, Eqn, define, switch, reset, automaton, Arms, no_arm, more_arms, States, no_state, more_states}
use Rattle.hp_tree.specs.Programs.{TypeDecl, Contract, Node}
use Rattle.hp_tree.specs.Values.{IsOf}
use Rattle.hp_tree.specs.Meaning.{controls_of}
use Rattle.hp_tree.specs.Filled.{first_value}

-- The first value of a type is of the type.
abbrev pub HasFirst : List TypeDecl → Ty → Type 0
HasFirst types t = IsOf types t (first_value types t)

-- Each enumeration has a constructor, as in the program of every text.
abbrev pub TypesHaveConstructors : List TypeDecl → Type 0
TypesHaveConstructors [] = ⊤
TypesHaveConstructors (d ∷ ds) = (d.cons ≡ [] → ⊥) × TypesHaveConstructors ds

-- So it is for each declaration, here and inside.
module _ (types : List TypeDecl) where
  abbrev pub DeclsHaveFirsts : List Decl → Type 0
  DeclsHaveFirsts [] = ⊤
  DeclsHaveFirsts (d ∷ ds) = HasFirst types d.ty × DeclsHaveFirsts ds

  abbrev mutual
    pub BlockHasFirsts : Block → Type 0
    BlockHasFirsts (block ds es) = DeclsHaveFirsts ds × EqnsHaveFirsts es

    pub EqnsHaveFirsts : Eqns → Type 0
    EqnsHaveFirsts no_eqn = ⊤
    EqnsHaveFirsts (more_eqns e es) = EqnHasFirsts e × EqnsHaveFirsts es

    pub EqnHasFirsts : Eqn → Type 0
    EqnHasFirsts (define s ys e) = ⊤
    EqnHasFirsts (switch s e arms) = ArmsHaveFirsts arms
    EqnHasFirsts (reset s b e) = BlockHasFirsts b
    EqnHasFirsts (automaton s ss) = StatesHaveFirsts ss

    pub ArmsHaveFirsts : Arms → Type 0
    ArmsHaveFirsts no_arm = ⊤
    ArmsHaveFirsts (more_arms c b s arms) = BlockHasFirsts b × ArmsHaveFirsts arms

    pub StatesHaveFirsts : States → Type 0
    StatesHaveFirsts no_state = ⊤
    StatesHaveFirsts (more_states f b until unless s ss) = BlockHasFirsts b × StatesHaveFirsts ss

  abbrev pub ContractHasFirsts : Option Contract → Type 0
  ContractHasFirsts None = ⊤
  ContractHasFirsts (Some c) = BlockHasFirsts c.body

-- Each declaration of a node has a type with a first value.
pub record NodeHasFirsts (types : List TypeDecl) (n : Node) : Type 0 where
  pub inputs : DeclsHaveFirsts types n.inputs
  pub outputs : DeclsHaveFirsts types n.outputs
  pub controls : DeclsHaveFirsts types (controls_of n.contract)
  pub contract : ContractHasFirsts types n.contract
  pub body : BlockHasFirsts types n.body
