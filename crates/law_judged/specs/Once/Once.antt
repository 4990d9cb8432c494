-- Each name has one equation in its block, and so in all inner blocks.
-- Source: definedness of streams as in Lustre, Halbwachs and others (1991).
use Rattle.std.specs.Prelude.{ℕ, ◌≡◌, ⊤, true, false, List, Option, None, Some}
use Rattle.hp_tree.specs.Blocks.{Block, block, Eqns, no_eqn, more_eqns, Eqn, define, switch, reset, automaton, Arms, no_arm, more_arms, States, no_state, more_states}
use Rattle.hp_tree.specs.Programs.{Contract, Node}
use Rattle.hp_tree.specs.Meaning.{defines, some_defines}

abbrev mutual
  pub BlockOnce : Block → Type 0
  BlockOnce (block ds es) = AllOnce es

  pub AllOnce : Eqns → Type 0
  AllOnce no_eqn = ⊤
  AllOnce (more_eqns e es) = ((x : List ℕ) → defines e x ≡ true → some_defines es x ≡ false) × (OneOnce e × AllOnce es)

  pub OneOnce : Eqn → Type 0
  OneOnce (define s ys e) = ⊤
  OneOnce (switch s e arms) = ArmsOnce arms
  OneOnce (reset s b e) = BlockOnce b
  OneOnce (automaton s ss) = StatesOnce ss

  pub ArmsOnce : Arms → Type 0
  ArmsOnce no_arm = ⊤
  ArmsOnce (more_arms c b s arms) = BlockOnce b × ArmsOnce arms

  pub StatesOnce : States → Type 0
  StatesOnce no_state = ⊤
  StatesOnce (more_states f b until unless s ss) = BlockOnce b × StatesOnce ss

abbrev pub ContractOnce : Option Contract → Type 0
ContractOnce None = ⊤
ContractOnce (Some c) = BlockOnce c.body

abbrev pub DefinedOnce : Node → Type 0
DefinedOnce n = ContractOnce n.contract × BlockOnce n.body
