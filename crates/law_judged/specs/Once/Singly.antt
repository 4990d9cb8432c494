-- Each name has one equation in its block, and stands there once on the left.
use Rattle.std.specs.Prelude.{ℕ, ◌≡◌, ⊤, true, false, List, [], ◌∷◌, Option, None, Some}
use Rattle.hp_base.specs.declared.span.Span.{Span}
use Rattle.hp_tree.specs.Blocks.{Block, block, Eqns, no_eqn, more_eqns, Eqn, define, switch, reset, automaton, Arms, no_arm, more_arms, States, no_state, more_states}
use Rattle.hp_tree.specs.Programs.{Contract, Node}
use Rattle.hp_tree.specs.Meaning.{is_among, defines, some_defines}

-- No two names on a left side are the same.
abbrev pub AreDistinct : List (List ℕ × Span) → Type 0
AreDistinct [] = ⊤
AreDistinct (y ∷ ys) = (is_among ys y.0 ≡ false) × AreDistinct ys

abbrev mutual
  pub BlockSingly : Block → Type 0
  BlockSingly (block ds es) = AllSingly es

  pub AllSingly : Eqns → Type 0
  AllSingly no_eqn = ⊤
  AllSingly (more_eqns e es) = ((x : List ℕ) → defines e x ≡ true → some_defines es x ≡ false) × (OneSingly e × AllSingly es)

  pub OneSingly : Eqn → Type 0
  OneSingly (define s ys e) = AreDistinct ys
  OneSingly (switch s e arms) = ArmsSingly arms
  OneSingly (reset s b e) = BlockSingly b
  OneSingly (automaton s ss) = StatesSingly ss

  pub ArmsSingly : Arms → Type 0
  ArmsSingly no_arm = ⊤
  ArmsSingly (more_arms c b s arms) = BlockSingly b × ArmsSingly arms

  pub StatesSingly : States → Type 0
  StatesSingly no_state = ⊤
  StatesSingly (more_states f b until unless s ss) = BlockSingly b × StatesSingly ss

abbrev pub ContractSingly : Option Contract → Type 0
ContractSingly None = ⊤
ContractSingly (Some c) = BlockSingly c.body

abbrev pub DefinedSingly : Node → Type 0
DefinedSingly n = ContractSingly n.contract × BlockSingly n.body
