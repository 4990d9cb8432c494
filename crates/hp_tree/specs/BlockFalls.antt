-- Each block in a block has fewer lines than the block.
use Rattle.std.specs.Prelude.{◌+◌, ◌≤◌, List, [], ◌∷◌, map}
use Rattle.std.proofs.Common.{arith}
use denote.Param.Weighed.{most}
use Rattle.hp_tree.specs.declared.block.Eqn.{Eqn}
use Rattle.hp_tree.specs.declared.block.Eqn.TheVariants.{Def, Switch, Reset, Automaton}
use Rattle.hp_tree.specs.declared.block.Arm.{Arm}
use Rattle.hp_tree.specs.declared.block.State.{State}
use Rattle.hp_tree.specs.declared.block.Block.TheInside.{Inside}
use Rattle.hp_tree.specs.declared.block.Block.TheDeep.{deep-Block, deep-Eqn, deep-Arm, deep-State}
use Rattle.hp_tree.specs.BlockView.{block_seen, eqn_seen, arm_seen, state_seen}
use Rattle.hp_tree.specs.Blocks.{eqns_of, arms_of, states_of}
use Rattle.hp_tree.specs.Sizes.{lines, lines_of_eqn, lines_of_eqns, lines_of_arms, lines_of_states}

most_of_arms : (arms : List Arm) → most deep-Arm arms ≤ lines_of_arms (arms_of (map arm_seen arms)) + 1
most_of_arms [] = omega arith
most_of_arms (a ∷ arms) = omega (arith, most_of_arms arms)

most_of_states : (qs : List State) → most deep-State qs ≤ lines_of_states (states_of (map state_seen qs)) + 1
most_of_states [] = omega arith
most_of_states (q ∷ qs) = omega (arith, most_of_states qs)

eqn_smaller : (e : Eqn) → deep-Eqn e ≤ lines_of_eqn (eqn_seen e)
eqn_smaller (Def s xs e) = omega arith
eqn_smaller (Switch s e arms) = omega (arith, most_of_arms arms.items)
eqn_smaller (Reset s b e) = omega arith
eqn_smaller (Automaton s qs) = omega (arith, most_of_states qs.items)

most_of_eqns : (es : List Eqn) → most deep-Eqn es ≤ lines_of_eqns (eqns_of (map eqn_seen es))
most_of_eqns [] = omega arith
most_of_eqns (e ∷ es) = omega (arith, eqn_smaller e, most_of_eqns es)

pub blocks_smaller : (a : Inside) → deep-Block a ≤ lines (block_seen a)
blocks_smaller a = omega (arith, most_of_eqns a.eqns.items)
