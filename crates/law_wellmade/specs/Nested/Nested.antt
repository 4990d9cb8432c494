-- How deep the arms of a program stand in each other, and how long its clocks are.
use Rattle.std.specs.Prelude.{ℕ, suc, max, ◌≤◌, List, ⊤, length}
use Rattle.hp_tree.specs.Blocks.{Block, block, Eqns, no_eqn, more_eqns, Eqn, define, switch, reset, automaton, Arms, no_arm, more_arms, States, no_state, more_states}
use Rattle.hp_tree.specs.Meaning.{clock_in}

-- The levels of arms in each other. A state of an automaton counts as the arm that it becomes; the block of a `reset` stands on the clock of its equation.
abbrev mutual
  pub arms_of_block : Block → ℕ
  arms_of_block (block ds es) = arms_of_eqns es

  pub arms_of_eqns : Eqns → ℕ
  arms_of_eqns no_eqn = 0
  arms_of_eqns (more_eqns e es) = max (arms_of_eqn e) (arms_of_eqns es)

  pub arms_of_eqn : Eqn → ℕ
  arms_of_eqn (define s ys e) = 0
  arms_of_eqn (switch s e arms) = arms_of_arms arms
  arms_of_eqn (reset s b e) = arms_of_block b
  arms_of_eqn (automaton s ss) = arms_of_states ss

  pub arms_of_arms : Arms → ℕ
  arms_of_arms no_arm = 0
  arms_of_arms (more_arms c b s arms) = max (suc (arms_of_block b)) (arms_of_arms arms)

  pub arms_of_states : States → ℕ
  arms_of_states no_state = 0
  arms_of_states (more_states f b until unless s ss) = max (suc (arms_of_block b)) (arms_of_states ss)

-- In each block the clock of each name has at most so many steps.
abbrev mutual
  pub BlockShort : ℕ → Block → Type 0
  BlockShort limit (block ds es) = ((x : List ℕ) → length (clock_in ds x) ≤ limit) × EqnsShort limit es

  pub EqnsShort : ℕ → Eqns → Type 0
  EqnsShort limit no_eqn = ⊤
  EqnsShort limit (more_eqns e es) = EqnShort limit e × EqnsShort limit es

  pub EqnShort : ℕ → Eqn → Type 0
  EqnShort limit (define s ys e) = ⊤
  EqnShort limit (switch s e arms) = ArmsShort limit arms
  EqnShort limit (reset s b e) = BlockShort limit b
  EqnShort limit (automaton s ss) = StatesShort limit ss

  pub ArmsShort : ℕ → Arms → Type 0
  ArmsShort limit no_arm = ⊤
  ArmsShort limit (more_arms c b s arms) = BlockShort limit b × ArmsShort limit arms

  pub StatesShort : ℕ → States → Type 0
  StatesShort limit no_state = ⊤
  StatesShort limit (more_states f b until unless s ss) = BlockShort limit b × StatesShort limit ss
