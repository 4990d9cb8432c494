-- The names of a node in their scopes: what passes behind the judgements rely on, and keep.
-- Each block declares names that are not seen around it, each once, and defines each of them; its equations define names that are to
-- be defined there. Source: lexical scopes without shadowing; definedness of streams as in Lustre, Halbwachs and others (1991).
use Rattle.std.specs.Prelude.{ℕ, Bool, false, ◌||◌, IsTrue, ⊤, List, [], ◌∷◌, ◌++◌, Option, None, Some}
use Rattle.hp_base.specs.declared.span.Span.{Span}
use Rattle.hp_tree.specs.declared.program.Item.{Item}
use Rattle.hp_tree.specs.declared.program.Item.TheVariants.{TypeItem, NodeItem}
use Rattle.hp_tree.specs.Blocks.{Decl, Block, block, Eqns, no_eqn, more_eqns, Eqn, define, switch, reset, automaton, Arms, no_arm, more_arms, States, no_state, more_states}
use Rattle.hp_tree.specs.Programs.{Contract, Node}
use Rattle.hp_tree.specs.Meaning.{declares, is_among, controls_of}
use Rattle.hp_meaning.specs.Clocking.Clocking.{AreOnce, AreDefined}

-- some names
abbrev pub Names : Type 0
Names = List ℕ → Bool

abbrev pub no_names : Names
no_names x = false

-- and those of declarations
abbrev pub also : Names → List Decl → Names
also names ds x = declares ds x || names x

-- None of the declarations has one of the names.
abbrev pub AreFresh : Names → List Decl → Type 0
AreFresh names ds = (x : List ℕ) → IsTrue (declares ds x) → IsTrue (names x) → ⊥

-- The names on the left of an equation are to be defined there.
abbrev pub AreOwn : Names → List (List ℕ × Span) → Type 0
AreOwn own ys = (x : List ℕ) → IsTrue (is_among ys x) → IsTrue (own x)

-- A block around which names are seen, of which some are to be defined there.
abbrev mutual
  pub BlockScoped : Names → Names → Block → Type 0
  BlockScoped seen own (block ds es) =
      AreOnce ds × AreFresh seen ds × AreDefined ds es × EqnsScoped (also seen ds) (also own ds) es

  pub EqnsScoped : Names → Names → Eqns → Type 0
  EqnsScoped seen own no_eqn = ⊤
  EqnsScoped seen own (more_eqns e es) = EqnScoped seen own e × EqnsScoped seen own es

  pub EqnScoped : Names → Names → Eqn → Type 0
  EqnScoped seen own (define s ys e) = AreOwn own ys
  EqnScoped seen own (switch s e arms) = ArmsScoped seen own arms
  EqnScoped seen own (reset s b e) = BlockScoped seen own b
  EqnScoped seen own (automaton s ss) = StatesScoped seen own ss

  pub ArmsScoped : Names → Names → Arms → Type 0
  ArmsScoped seen own no_arm = ⊤
  ArmsScoped seen own (more_arms c b s arms) = BlockScoped seen own b × ArmsScoped seen own arms

  pub StatesScoped : Names → Names → States → Type 0
  StatesScoped seen own no_state = ⊤
  StatesScoped seen own (more_states f b until unless s ss) = BlockScoped seen own b × StatesScoped seen own ss

-- A contract sees inputs and outputs, and defines its own variables alone.
abbrev pub ContractScoped : Names → Option Contract → Type 0
ContractScoped seen None = ⊤
ContractScoped seen (Some c) = BlockScoped seen no_names c.body

abbrev pub equations_of : Block → Eqns
equations_of (block ds es) = es

abbrev pub interface : Node → Names
interface n = also (also no_names n.inputs) n.outputs

pub record NodeScoped (n : Node) : Type 0 where
  pub once : AreOnce (n.inputs ++ n.outputs)
  pub contract : ContractScoped (interface n) n.contract
  pub body : BlockScoped (also (interface n) (controls_of n.contract)) (also no_names n.outputs) n.body
  pub outputs : AreDefined n.outputs (equations_of n.body)

-- Something is true of each node of a program.
abbrev pub EachNode : (Node → Type 0) → List Item → Type 0
EachNode P [] = ⊤
EachNode P (TypeItem t ∷ items) = EachNode P items
EachNode P (NodeItem n ∷ items) = P n × EachNode P items
