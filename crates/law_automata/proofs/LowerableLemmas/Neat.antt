-- Blocks as removing automata wants them, but for names: conditions of transitions are plain and go to states of their automaton, an
-- automaton has a state and not too many, and there is room for so many levels of blocks.
use Rattle.std.proofs.Common.{◌≡◌, ℕ, suc, ◌<◌, Bool, true, List, [], ◌∷◌, length}
use Rattle.std.specs.Prelude.{⊤, Option, None, Some}
use Rattle.hp_tree.specs.declared.block.Trans.{Trans}
use Rattle.hp_tree.specs.Blocks.{Block, block, Eqns, no_eqn, more_eqns, Eqn, define, switch, reset, automaton, Arms, no_arm, more_arms, States, no_state, more_states}
use Rattle.hp_tree.specs.Programs.{Contract, Node}
use Rattle.hp_automata.specs.Lowering.{count_of}
use Rattle.law_automata.specs.Lowered.Removable.{Plain, is_state, most}

-- the names of some states
abbrev pub StateNames : Type 0
StateNames = List ℕ → Bool

abbrev pub TransitionsNeat : StateNames → List Trans → Type 0
TransitionsNeat names [] = ⊤
TransitionsNeat names (t ∷ ts) = (Plain t.cond × (names t.target ≡ true)) × TransitionsNeat names ts

-- some transitions, and not too many
abbrev pub RowNeat : StateNames → List Trans → Type 0
RowNeat names ts = TransitionsNeat names ts × (length ts < most)

abbrev mutual
  pub BlockNeat : ℕ → Block → Type 0
  BlockNeat room (block ds es) = EqnsNeat room es

  pub EqnsNeat : ℕ → Eqns → Type 0
  EqnsNeat room no_eqn = ⊤
  EqnsNeat room (more_eqns e es) = EqnNeat room e × EqnsNeat room es

  pub EqnNeat : ℕ → Eqn → Type 0
  EqnNeat room (define s ys e) = ⊤
  EqnNeat room (switch s e arms) = ArmsNeat room arms
  EqnNeat room (reset s b e) = (r : ℕ) × ((room ≡ suc r) × BlockNeat r b)
  EqnNeat room (automaton s ss) = ((0 < count_of ss) × (count_of ss < most)) × StatesNeat (is_state ss) room ss

  pub ArmsNeat : ℕ → Arms → Type 0
  ArmsNeat room no_arm = ⊤
  ArmsNeat room (more_arms c b s arms) = ((r : ℕ) × ((room ≡ suc r) × BlockNeat r b)) × ArmsNeat room arms

  pub StatesNeat : StateNames → ℕ → States → Type 0
  StatesNeat names room no_state = ⊤
  StatesNeat names room (more_states f b until unless s ss) =
      ((r : ℕ) × ((room ≡ suc r) × BlockNeat r b)) × ((RowNeat names until × RowNeat names unless) × StatesNeat names room ss)

-- an inner block
abbrev pub InnerNeat : ℕ → Block → Type 0
InnerNeat room b = (r : ℕ) × ((room ≡ suc r) × BlockNeat r b)

abbrev pub ContractNeat : ℕ → Option Contract → Type 0
ContractNeat room None = ⊤
ContractNeat room (Some c) = BlockNeat room c.body

abbrev pub NodeNeat : ℕ → Node → Type 0
NodeNeat room n = ContractNeat room n.contract × BlockNeat room n.body

-- the levels of blocks in the body of a node, or of its contract: a text has at most 64, and no program more where its inlined calls are replaced
abbrev pub levels : ℕ
levels = 63
