use Rattle.std.proofs.Common.{◌≡◌, ◌+◌, ◌*◌, take, map}
use Rattle.hp_tree.specs.Blocks.{eqns_of, arms_of, states_of}
use Rattle.hp_tree.specs.BlockView.{eqn_seen, arm_seen, state_seen}
use Rattle.hp_tree.specs.Sizes.{lines, lines_of_eqn, lines_of_eqns, lines_of_arms, lines_of_states}
use Rattle.hp_expand.specs.Capped.{cap}
use Rattle.hp_expand.specs.Sizes.{in_eqns, in_arms, in_states}
use Rattle.hp_expand.specs.Tables.{size_in}
use Rattle.hp_expand.proofs.sizes.+block.Given as goal

abbrev pub decreases-size_of_block : goal.decreases-size_of_block
decreases-size_of_block l = 2 * lines l.block.now

abbrev pub decreases-size_of_eqns : goal.decreases-size_of_eqns
decreases-size_of_eqns l = 2 * lines_of_eqns (eqns_of (map eqn_seen l.eqns.now)) + 1

abbrev pub decreases-size_of_eqn : goal.decreases-size_of_eqn
decreases-size_of_eqn l = 2 * lines_of_eqn (eqn_seen l.eqn.now)

abbrev pub decreases-size_of_arms : goal.decreases-size_of_arms
decreases-size_of_arms l = 2 * lines_of_arms (arms_of (map arm_seen l.arms.now)) + 1

abbrev pub decreases-size_of_states : goal.decreases-size_of_states
decreases-size_of_states l = 2 * lines_of_states (states_of (map state_seen l.states.now)) + 1

abbrev pub invariant-size_of_eqns-loop-eqn : goal.invariant-size_of_eqns-loop-eqn
invariant-size_of_eqns-loop-eqn l = l.all ≡ cap (in_eqns (size_in l.known) (eqns_of (map eqn_seen (take l.eqn-index l.eqns))))

abbrev pub invariant-size_of_arms-loop-arm : goal.invariant-size_of_arms-loop-arm
invariant-size_of_arms-loop-arm l = l.all ≡ cap (in_arms (size_in l.known) (arms_of (map arm_seen (take l.arm-index l.arms))))

abbrev pub invariant-size_of_states-loop-state : goal.invariant-size_of_states-loop-state
invariant-size_of_states-loop-state l = l.all ≡ cap (in_states (size_in l.known) (states_of (map state_seen (take l.state-index l.states))))
