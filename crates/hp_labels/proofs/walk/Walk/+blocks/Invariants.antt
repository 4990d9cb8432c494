use Rattle.std.proofs.Common.{◌+◌, ◌*◌, map}
use Rattle.hp_tree.specs.Blocks.{eqns_of, arms_of, states_of}
use Rattle.hp_tree.specs.BlockView.{eqn_seen, arm_seen, state_seen}
use Rattle.hp_tree.specs.Sizes.{lines, lines_of_eqn, lines_of_eqns, lines_of_arms, lines_of_states}
use Rattle.hp_labels.proofs.walk.Walk.+blocks.Given as goal

abbrev pub decreases-block : goal.decreases-block
decreases-block l = 6 * lines l.block.now

abbrev pub decreases-equations : goal.decreases-equations
decreases-equations l = 6 * lines_of_eqns (eqns_of (map eqn_seen l.eqns.now)) + 1

abbrev pub decreases-equation : goal.decreases-equation
decreases-equation l = 6 * lines_of_eqn (eqn_seen l.eqn.now)

abbrev pub decreases-arms : goal.decreases-arms
decreases-arms l = 6 * lines_of_arms (arms_of (map arm_seen l.arms.now)) + 2

abbrev pub decreases-states : goal.decreases-states
decreases-states l = 6 * lines_of_states (states_of (map state_seen l.states.now)) + 2

abbrev pub decreases-state : goal.decreases-state
decreases-state l = 6 * lines l.state.now.body + 1
