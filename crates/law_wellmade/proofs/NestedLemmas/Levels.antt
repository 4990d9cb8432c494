-- Where there is room for so many levels of blocks, there is for those of arms.
use Rattle.std.proofs.Common.{◌≡◌, ℕ, suc, ◌≤◌, max, arith}
use Rattle.hp_tree.specs.Blocks.{Block, block, Eqns, no_eqn, more_eqns, Eqn, define, switch, reset, automaton, Arms, no_arm, more_arms, States, no_state, more_states}
use Rattle.law_automata.proofs.LowerableLemmas.Neat.{StateNames, BlockNeat, EqnsNeat, EqnNeat, ArmsNeat, StatesNeat}
use Rattle.law_wellmade.specs.Nested.Nested.{arms_of_block, arms_of_eqns, arms_of_eqn, arms_of_arms, arms_of_states}

two_levels : (a b room : ℕ) → a ≤ room → b ≤ room → max a b ≤ room
two_levels a b room h g = omega (arith, h, g)

-- an arm in the room that is left inside
inner_level : (a r room : ℕ) → room ≡ suc r → a ≤ r → suc a ≤ room
inner_level a r room e h = omega (arith, e, h)

looser : (a r room : ℕ) → room ≡ suc r → a ≤ r → a ≤ room
looser a r room e h = omega (arith, e, h)

mutual
  pub block_levels : (b : Block) (room : ℕ) → BlockNeat room b → arms_of_block b ≤ room
  block_levels (block ds es) room h = eqns_levels es room h

  eqns_levels : (es : Eqns) (room : ℕ) → EqnsNeat room es → arms_of_eqns es ≤ room
  eqns_levels no_eqn room h = omega arith
  eqns_levels (more_eqns e es) room h = two_levels (arms_of_eqn e) (arms_of_eqns es) room (eqn_levels e room h.0) (eqns_levels es room h.1)

  eqn_levels : (e : Eqn) (room : ℕ) → EqnNeat room e → arms_of_eqn e ≤ room
  eqn_levels (define s ys e) room h = omega arith
  eqn_levels (switch s e arms) room h = arms_levels arms room h
  eqn_levels (reset s b e) room h = looser (arms_of_block b) h.0 room h.1.0 (block_levels b h.0 h.1.1)
  eqn_levels (automaton s ss) room h = states_levels ss _ room h.1

  arms_levels : (arms : Arms) (room : ℕ) → ArmsNeat room arms → arms_of_arms arms ≤ room
  arms_levels no_arm room h = omega arith
  arms_levels (more_arms c b s arms) room h =
      two_levels (suc (arms_of_block b)) (arms_of_arms arms) room (inner_level (arms_of_block b) h.0.0 room h.0.1.0 (block_levels b h.0.0 h.0.1.1)) (arms_levels arms room h.1)

  states_levels : (ss : States) (names : StateNames) (room : ℕ) → StatesNeat names room ss → arms_of_states ss ≤ room
  states_levels no_state names room h = omega arith
  states_levels (more_states f b until unless s ss) names room h =
      two_levels (suc (arms_of_block b)) (arms_of_states ss) room (inner_level (arms_of_block b) h.0.0 room h.0.1.0 (block_levels b h.0.0 h.0.1.1)) (states_levels ss names room h.1.1)
