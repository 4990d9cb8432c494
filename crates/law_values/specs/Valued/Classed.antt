-- The classes of names where they are read, and what is asked of the classes of a node besides that they follow its definitions and meet what is wanted.
use Rattle.std.specs.Prelude.{◌≡◌, ⊤, ℕ, Bool, false, IsTrue, IsFalse, if◌then◌else◌, List, [], ◌∷◌, Option, None, Some}
use Rattle.hp_base.specs.declared.ty.Const.{Const}
use Rattle.hp_tree.specs.Blocks.{Decl, Block, block, Eqns, no_eqn, more_eqns, Eqn, define, switch, reset, automaton, Arms, no_arm, more_arms, States, no_state, more_states}
use Rattle.hp_tree.specs.Programs.{Contract, Node}
use Rattle.hp_tree.specs.Instant.{Body, Observer, Named, Equations, Head, Tail, Arms as ArmsOf, States as StatesOf}
use Rattle.hp_tree.specs.Meaning.{declares, defines, some_defines}
use Rattle.hp_init.specs.Classes.{Classes, Assignment, Known, or_first, with_declared, known_in, known_within, known_outputs, NodeFollows}
use Rattle.hp_init.specs.Wants.{of_node}
use Rattle.hp_init.specs.Initialised.{first_unmet}

abbrev pub none_second : Classes
none_second x = false

-- ---- the class of each name that a block defines, at its place there; so it is read in the block

abbrev pub classes_in : Eqns → Classes → Assignment → Classes
classes_in es out class x = if some_defines es x then class (Named x ∷ []) else out x

abbrev pub classes_within : Eqn → Classes → Classes
classes_within e second x = if defines e x then false else second x

abbrev pub classes_of : Block → Classes → Assignment → Classes
classes_of (block ds es) out class = classes_in es out class

-- These are found from the classes of variables, which stand where each is declared.
abbrev mutual
  pub seen_in_block : Known → Assignment → Block → Assignment
  seen_in_block k class (block ds es) (Named x ∷ []) = or_first (with_declared ds class k.variables x)
  seen_in_block k class (block ds es) (Equations ∷ p) = seen_in_eqns (known_in (block ds es) class k) (λ q. class (Equations ∷ q)) es p
  seen_in_block k class b p = false

  pub seen_in_eqns : Known → Assignment → Eqns → Assignment
  seen_in_eqns k class (more_eqns e es) (Head ∷ p) = seen_in_eqn k (λ q. class (Head ∷ q)) e p
  seen_in_eqns k class (more_eqns e es) (Tail ∷ p) = seen_in_eqns k (λ q. class (Tail ∷ q)) es p
  seen_in_eqns k class es p = false

  pub seen_in_eqn : Known → Assignment → Eqn → Assignment
  seen_in_eqn k class (switch at e arms) (ArmsOf ∷ p) = seen_in_arms (known_within (switch at e arms) k) (λ q. class (ArmsOf ∷ q)) arms p
  seen_in_eqn k class (reset at b e) (Body ∷ p) = seen_in_block (known_within (reset at b e) k) (λ q. class (Body ∷ q)) b p
  seen_in_eqn k class (automaton at ss) (StatesOf ∷ p) = seen_in_states (known_within (automaton at ss) k) (λ q. class (StatesOf ∷ q)) ss p
  seen_in_eqn k class e p = false

  pub seen_in_arms : Known → Assignment → Arms → Assignment
  seen_in_arms k class (more_arms c b at arms) (Head ∷ p) = seen_in_block k (λ q. class (Head ∷ q)) b p
  seen_in_arms k class (more_arms c b at arms) (Tail ∷ p) = seen_in_arms k (λ q. class (Tail ∷ q)) arms p
  seen_in_arms k class arms p = false

  pub seen_in_states : Known → Assignment → States → Assignment
  seen_in_states k class (more_states f b until unless at ss) (Head ∷ Body ∷ p) = seen_in_block k (λ q. class (Head ∷ Body ∷ q)) b p
  seen_in_states k class (more_states f b until unless at ss) (Tail ∷ p) = seen_in_states k (λ q. class (Tail ∷ q)) ss p
  seen_in_states k class ss p = false

abbrev pub seen_in_contract : Known → Assignment → Option Contract → Assignment
seen_in_contract k class None p = false
seen_in_contract k class (Some c) p = seen_in_block k class c.body p

abbrev pub seen_in_node : Assignment → Node → Assignment
seen_in_node class n (Observer ∷ p) = seen_in_contract (known_outputs n class) (λ q. class (Observer ∷ q)) n.contract p
seen_in_node class n (Body ∷ p) = seen_in_block (known_outputs n class) (λ q. class (Body ∷ q)) n.body p
seen_in_node class n p = false

-- ---- names that have to be First: those that are declared `last`, and those that a block defines and does not declare. Of the least classes this is true, where what is wanted is met.

abbrev pub LastFirst : Option Const → Bool → Type 0
LastFirst None second = ⊤
LastFirst (Some c) second = IsFalse second

abbrev pub LastsFirst : Assignment → List Decl → Type 0
LastsFirst class [] = ⊤
LastsFirst class (d ∷ ds) = LastFirst d.last (class (Named d.name ∷ [])) × LastsFirst class ds

abbrev pub OthersFirst : Known → List Decl → Eqns → Type 0
OthersFirst k ds es = (x : List ℕ) → IsTrue (some_defines es x) → IsFalse (declares ds x) → IsFalse (or_first (k.variables x))

abbrev mutual
  pub BlockDefinite : Known → Assignment → Block → Type 0
  BlockDefinite k class (block ds es) =
      LastsFirst class ds × (OthersFirst k ds es × EqnsDefinite (known_in (block ds es) class k) (λ p. class (Equations ∷ p)) es)

  pub EqnsDefinite : Known → Assignment → Eqns → Type 0
  EqnsDefinite k class no_eqn = ⊤
  EqnsDefinite k class (more_eqns e es) = EqnDefinite k (λ p. class (Head ∷ p)) e × EqnsDefinite k (λ p. class (Tail ∷ p)) es

  pub EqnDefinite : Known → Assignment → Eqn → Type 0
  EqnDefinite k class (define at ys e) = ⊤
  EqnDefinite k class (switch at e arms) = ArmsDefinite (known_within (switch at e arms) k) (λ p. class (ArmsOf ∷ p)) arms
  EqnDefinite k class (reset at b e) = BlockDefinite (known_within (reset at b e) k) (λ p. class (Body ∷ p)) b
  EqnDefinite k class (automaton at ss) = StatesDefinite (known_within (automaton at ss) k) (λ p. class (StatesOf ∷ p)) ss

  pub ArmsDefinite : Known → Assignment → Arms → Type 0
  ArmsDefinite k class no_arm = ⊤
  ArmsDefinite k class (more_arms c b at arms) = BlockDefinite k (λ p. class (Head ∷ p)) b × ArmsDefinite k (λ p. class (Tail ∷ p)) arms

  pub StatesDefinite : Known → Assignment → States → Type 0
  StatesDefinite k class no_state = ⊤
  StatesDefinite k class (more_states f b until unless at ss) = BlockDefinite k (λ p. class (Head ∷ Body ∷ p)) b × StatesDefinite k (λ p. class (Tail ∷ p)) ss

abbrev pub ContractDefinite : Known → Assignment → Option Contract → Type 0
ContractDefinite k class None = ⊤
ContractDefinite k class (Some c) = BlockDefinite k class c.body

abbrev pub NodeDefinite : Assignment → Node → Type 0
NodeDefinite class n =
    ContractDefinite (known_outputs n class) (λ p. class (Observer ∷ p)) n.contract × BlockDefinite (known_outputs n class) (λ p. class (Body ∷ p)) n.body

-- Classes of a node: they follow its definitions, what is wanted First is, and so is each name that has to be.
pub record HasClasses (class : Assignment) (n : Node) : Type 0 where
  pub follow : NodeFollows class n
  pub met : first_unmet (of_node class n) ≡ None
  pub definite : NodeDefinite class n
