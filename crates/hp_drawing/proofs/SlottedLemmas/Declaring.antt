-- What holds of each list of declarations of a block, or of a node.
use Rattle.std.specs.Prelude.{⊤, ℕ, ◌≡◌, List, [], ◌∷◌, Option, None, Some}
use Rattle.hp_tree.specs.declared.program.Item.{Item}
use Rattle.hp_tree.specs.declared.program.Item.TheVariants.{TypeItem, NodeItem}
use Rattle.hp_tree.specs.Blocks.{Decl, Block, block, Eqns, no_eqn, more_eqns, Eqn, define, switch, reset, automaton, Arms, no_arm, more_arms, States, no_state, more_states}
use Rattle.hp_tree.specs.Programs.{Contract, Node}

module _ (Good : List Decl → Type 0) where
  abbrev mutual
    pub BlockDeclares : Block → Type 0
    BlockDeclares (block ds es) = Good ds × EqnsDeclare es

    pub EqnsDeclare : Eqns → Type 0
    EqnsDeclare no_eqn = ⊤
    EqnsDeclare (more_eqns e es) = EqnDeclares e × EqnsDeclare es

    pub EqnDeclares : Eqn → Type 0
    EqnDeclares (define s ys e) = ⊤
    EqnDeclares (switch s e arms) = ArmsDeclare arms
    EqnDeclares (reset s b e) = BlockDeclares b
    EqnDeclares (automaton s ss) = StatesDeclare ss

    pub ArmsDeclare : Arms → Type 0
    ArmsDeclare no_arm = ⊤
    ArmsDeclare (more_arms c b s arms) = BlockDeclares b × ArmsDeclare arms

    pub StatesDeclare : States → Type 0
    StatesDeclare no_state = ⊤
    StatesDeclare (more_states f b until unless s ss) = BlockDeclares b × StatesDeclare ss

  abbrev pub ContractDeclares : Option Contract → Type 0
  ContractDeclares None = ⊤
  ContractDeclares (Some c) = BlockDeclares c.body

  -- the outputs, and what is declared in the contract and in the body
  abbrev pub NodeDeclares : Node → Type 0
  NodeDeclares n = Good n.outputs × (ContractDeclares n.contract × BlockDeclares n.body)

  abbrev pub NodesDeclare : List Item → Type 0
  NodesDeclare [] = ⊤
  NodesDeclare (TypeItem t ∷ items) = NodesDeclare items
  NodesDeclare (NodeItem n ∷ items) = NodeDeclares n × NodesDeclare items

-- no other declaration in the list has the name
abbrev pub Lacks : List ℕ → List Decl → Type 0
Lacks x [] = ⊤
Lacks x (d ∷ ds) = (d.name ≡ x → ⊥) × Lacks x ds

abbrev pub DeclaresApart : List Decl → Type 0
DeclaresApart [] = ⊤
DeclaresApart (d ∷ ds) = Lacks d.name ds × DeclaresApart ds
