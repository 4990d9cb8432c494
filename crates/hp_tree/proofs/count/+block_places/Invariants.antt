use Rattle.std.proofs.Common.{◌≡◌, ◌+◌, ◌*◌, take, map}
use Rattle.hp_tree.specs.Blocks.{eqns_of, arms_of, states_of}
use Rattle.hp_tree.specs.BlockView.{eqn_seen, arm_seen, state_seen}
use Rattle.hp_tree.specs.Sizes.{lines, lines_of_eqn, lines_of_eqns, lines_of_arms, lines_of_states}
use Rattle.hp_tree.specs.Counting.{up_to_limit, places_of_eqns, places_of_arms, places_of_states}
use Rattle.hp_tree.proofs.count.+block_places.Given as goal

abbrev pub decreases-places_of_block : goal.decreases-places_of_block
decreases-places_of_block l = 2 * lines l.block.now

abbrev pub decreases-places_of_eqns : goal.decreases-places_of_eqns
decreases-places_of_eqns l = 2 * lines_of_eqns (eqns_of (map eqn_seen l.eqns.now)) + 1

abbrev pub decreases-places_of_eqn : goal.decreases-places_of_eqn
decreases-places_of_eqn l = 2 * lines_of_eqn (eqn_seen l.eqn.now)

abbrev pub decreases-places_of_arms : goal.decreases-places_of_arms
decreases-places_of_arms l = 2 * lines_of_arms (arms_of (map arm_seen l.arms.now)) + 1

abbrev pub decreases-places_of_states : goal.decreases-places_of_states
decreases-places_of_states l = 2 * lines_of_states (states_of (map state_seen l.states.now)) + 1

abbrev pub invariant-places_of_eqns-loop-eqn : goal.invariant-places_of_eqns-loop-eqn
invariant-places_of_eqns-loop-eqn l = l.all ≡ up_to_limit (places_of_eqns (eqns_of (map eqn_seen (take l.eqn-index l.eqns))))

abbrev pub invariant-places_of_arms-loop-arm : goal.invariant-places_of_arms-loop-arm
invariant-places_of_arms-loop-arm l = l.all ≡ up_to_limit (places_of_arms (arms_of (map arm_seen (take l.arm-index l.arms))))

abbrev pub invariant-places_of_states-loop-state : goal.invariant-places_of_states-loop-state
invariant-places_of_states-loop-state l = l.all ≡ up_to_limit (places_of_states (states_of (map state_seen (take l.state-index l.states))))
