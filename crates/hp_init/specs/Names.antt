-- The numbers of the variables of a node.
use Rattle.std.specs.Prelude.{ℕ, ◌+◌, if◌then◌else◌, List, [], ◌∷◌, ◌++◌, length, map, Option, None, Some}
use Rattle.std.specs.Str.{bytes_eq}
use Rattle.hp_tree.specs.Blocks.{Decl, Block, block, Eqns, no_eqn, more_eqns, Eqn, define, switch, reset, automaton, Arms, no_arm, more_arms, States, no_state, more_states}
use Rattle.hp_tree.specs.Programs.{Contract, Node}
use Rattle.hp_tree.specs.Instant.{Body, Observer, Named, Equations, Head, Tail, Arms as ArmsOf, States as StatesOf, Place}
use Rattle.hp_tree.specs.Meaning.{names_of as declared}
use Rattle.hp_tables.specs.Defining.Layers.{numbered}

-- ---- the numbers of the variables of a node: its outputs, the variables of its contract, and those of its body; those of a block first, and then those of its parts, in order

abbrev mutual
  pub size : Block → ℕ
  size (block ds es) = length ds + size_of_all es

  pub size_of_all : Eqns → ℕ
  size_of_all no_eqn = 0
  size_of_all (more_eqns e es) = size_of e + size_of_all es

  pub size_of : Eqn → ℕ
  size_of (define at ys e) = 0
  size_of (switch at e arms) = size_of_arms arms
  size_of (reset at b e) = size b
  size_of (automaton at ss) = size_of_states ss

  pub size_of_arms : Arms → ℕ
  size_of_arms no_arm = 0
  size_of_arms (more_arms c b at arms) = size b + size_of_arms arms

  pub size_of_states : States → ℕ
  size_of_states no_state = 0
  size_of_states (more_states f b until unless at ss) = size b + size_of_states ss

-- the number at a place, where a part is numbered from k on
abbrev pub Numbering : Type 0
Numbering = Place → Option ℕ

abbrev mutual
  pub number_block : ℕ → Block → Numbering
  number_block k (block ds es) (Named x ∷ []) = numbered k (declared ds) x
  number_block k (block ds es) (Equations ∷ p) = number_eqns (k + length ds) es p
  number_block k b p = None

  pub number_eqns : ℕ → Eqns → Numbering
  number_eqns k (more_eqns e es) (Head ∷ p) = number_eqn k e p
  number_eqns k (more_eqns e es) (Tail ∷ p) = number_eqns (k + size_of e) es p
  number_eqns k es p = None

  pub number_eqn : ℕ → Eqn → Numbering
  number_eqn k (switch at e arms) (ArmsOf ∷ p) = number_arms k arms p
  number_eqn k (reset at b e) (Body ∷ p) = number_block k b p
  number_eqn k (automaton at ss) (StatesOf ∷ p) = number_states k ss p
  number_eqn k e p = None

  pub number_arms : ℕ → Arms → Numbering
  number_arms k (more_arms c b at arms) (Head ∷ p) = number_block k b p
  number_arms k (more_arms c b at arms) (Tail ∷ p) = number_arms (k + size b) arms p
  number_arms k arms p = None

  pub number_states : ℕ → States → Numbering
  number_states k (more_states f b until unless at ss) (Head ∷ Body ∷ p) = number_block k b p
  number_states k (more_states f b until unless at ss) (Tail ∷ p) = number_states (k + size b) ss p
  number_states k ss p = None

abbrev pub number_contract : ℕ → Option Contract → Numbering
number_contract k None p = None
number_contract k (Some c) p = number_block k c.body p

abbrev pub size_of_contract : Option Contract → ℕ
size_of_contract None = 0
size_of_contract (Some c) = size c.body

abbrev pub number_node : Node → Numbering
number_node n (Named x ∷ []) = numbered 0 (declared n.outputs) x
number_node n (Observer ∷ p) = number_contract (length n.outputs) n.contract p
number_node n (Body ∷ p) = number_block (length n.outputs + size_of_contract n.contract) n.body p
number_node n p = None
