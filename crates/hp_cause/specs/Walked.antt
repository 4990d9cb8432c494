-- What the vertices of controls read, and where a name has one equation.
use Rattle.std.specs.Prelude.{ℕ, Bool, true, false, IsTrue, ⊤, List, [], ◌∷◌, Option, None, Some}
use Rattle.hp_tree.specs.Blocks.{Block, block, Eqns, no_eqn, more_eqns, Eqn, define, switch, reset, automaton, Arms, no_arm, more_arms, States, no_state, more_states}
use Rattle.hp_tree.specs.Programs.{Contract, Node}
use Rattle.hp_tree.specs.Instant.{Controls, Body, Observer, Fresh, Equations, Head, Tail, Test, Arms as ArmsOf, States as StatesOf, Active, Place}
use Rattle.hp_tree.specs.Meaning.{defines, some_defines, controls_of}
use Rattle.hp_meaning.specs.Causal.Sources.{Sources, none, only, both, NameSources, PlaceSources, below}
use Rattle.hp_meaning.specs.Causal.WhatIsRead.{of_expr, names_in, names_within, control_in, output_in}

-- the place of a control
abbrev pub is_fresh : Place → Bool
is_fresh [] = false
is_fresh (Fresh ∷ []) = true
is_fresh (s ∷ p) = is_fresh p

-- What the control of each `switch` and `reset` reads, at its place: its condition, and the control around it.
abbrev mutual
  pub control_of_block : Block → NameSources → Sources → PlaceSources → PlaceSources
  control_of_block (block ds es) names around k (Equations ∷ p) = control_of_eqns es (names_in es names k) around (below Equations k) p
  control_of_block b names around k p = none

  pub control_of_eqns : Eqns → NameSources → Sources → PlaceSources → PlaceSources
  control_of_eqns (more_eqns e es) names around k (Head ∷ p) = control_of_eqn e names around (below Head k) p
  control_of_eqns (more_eqns e es) names around k (Tail ∷ p) = control_of_eqns es names around (below Tail k) p
  control_of_eqns es names around k p = none

  pub control_of_eqn : Eqn → NameSources → Sources → PlaceSources → PlaceSources
  control_of_eqn (switch at e arms) names around k (Fresh ∷ []) = both around (of_expr e names (below Test k))
  control_of_eqn (switch at e arms) names around k (ArmsOf ∷ p) = control_of_arms arms (names_within (switch at e arms) names) (both around (of_expr e names (below Test k))) (below ArmsOf k) p
  control_of_eqn (reset at b e) names around k (Fresh ∷ []) = both around (of_expr e names (below Test k))
  control_of_eqn (reset at b e) names around k (Body ∷ p) = control_of_block b (names_within (reset at b e) names) (both around (of_expr e names (below Test k))) (below Body k) p
  control_of_eqn (automaton at ss) names around k (StatesOf ∷ p) = control_of_states ss (names_within (automaton at ss) names) (both around (k (Active ∷ []))) (below StatesOf k) p
  control_of_eqn e names around k p = none

  pub control_of_arms : Arms → NameSources → Sources → PlaceSources → PlaceSources
  control_of_arms (more_arms c b at arms) names around k (Head ∷ p) = control_of_block b names around (below Head k) p
  control_of_arms (more_arms c b at arms) names around k (Tail ∷ p) = control_of_arms arms names around (below Tail k) p
  control_of_arms arms names around k p = none

  pub control_of_states : States → NameSources → Sources → PlaceSources → PlaceSources
  control_of_states (more_states f b until unless at ss) names around k (Head ∷ Body ∷ p) = control_of_block b names around (below Body (below Head k)) p
  control_of_states (more_states f b until unless at ss) names around k (Tail ∷ p) = control_of_states ss names around (below Tail k) p
  control_of_states ss names around k p = none

abbrev pub control_of_contract : Option Contract → NameSources → PlaceSources → PlaceSources
control_of_contract (Some c) names k (Observer ∷ p) = control_of_block c.body names none (below Observer k) p
control_of_contract c names k p = none

abbrev pub control_of_node : Node → PlaceSources
control_of_node n (Body ∷ p) = control_of_block n.body (control_in (controls_of n.contract) (below Controls only)) none (below Body only) p
control_of_node n p = control_of_contract n.contract (output_in n (below Body only)) only p

-- ---- No two equations of a block define one name.

abbrev mutual
  pub DefinedOnce : Block → Type 0
  DefinedOnce (block ds es) = DefinedOnceInAll es

  pub DefinedOnceInAll : Eqns → Type 0
  DefinedOnceInAll no_eqn = ⊤
  DefinedOnceInAll (more_eqns e es) = ((x : List ℕ) → IsTrue (defines e x) → IsTrue (some_defines es x) → ⊥) × DefinedOnceInOne e × DefinedOnceInAll es

  pub DefinedOnceInOne : Eqn → Type 0
  DefinedOnceInOne (define at ys e) = ⊤
  DefinedOnceInOne (switch at e arms) = DefinedOnceInArms arms
  DefinedOnceInOne (reset at b e) = DefinedOnce b
  DefinedOnceInOne (automaton at ss) = DefinedOnceInStates ss

  pub DefinedOnceInArms : Arms → Type 0
  DefinedOnceInArms no_arm = ⊤
  DefinedOnceInArms (more_arms c b at arms) = DefinedOnce b × DefinedOnceInArms arms

  pub DefinedOnceInStates : States → Type 0
  DefinedOnceInStates no_state = ⊤
  DefinedOnceInStates (more_states f b until unless at ss) = DefinedOnce b × DefinedOnceInStates ss

abbrev pub DefinedOnceInContract : Option Contract → Type 0
DefinedOnceInContract None = ⊤
DefinedOnceInContract (Some c) = DefinedOnce c.body

abbrev pub NamesDefinedOnce : Node → Type 0
NamesDefinedOnce n = DefinedOnceInContract n.contract × DefinedOnce n.body
