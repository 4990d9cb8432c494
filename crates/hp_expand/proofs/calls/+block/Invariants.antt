use Rattle.std.proofs.Common.{◌≡◌, ◌+◌, ◌*◌, drop, map}
use Rattle.hp_tree.specs.Blocks.{eqns_of, arms_of, states_of}
use Rattle.hp_tree.specs.BlockView.{eqn_seen, arm_seen, state_seen}
use Rattle.hp_tree.specs.Sizes.{lines, lines_of_eqn, lines_of_eqns, lines_of_arms, lines_of_states}
use Rattle.hp_expand.specs.Shapes.{found_after, in_eqns, in_arms, in_states}
use Rattle.hp_expand.specs.Tables.{form_in}
use Rattle.hp_expand.proofs.calls.+block.Given as goal

abbrev pub decreases-check_block : goal.decreases-check_block
decreases-check_block l = 2 * lines l.block.now

abbrev pub decreases-check_eqns : goal.decreases-check_eqns
decreases-check_eqns l = 2 * lines_of_eqns (eqns_of (map eqn_seen l.eqns.now)) + 1

abbrev pub decreases-check_eqn : goal.decreases-check_eqn
decreases-check_eqn l = 2 * lines_of_eqn (eqn_seen l.eqn.now)

abbrev pub decreases-check_arms : goal.decreases-check_arms
decreases-check_arms l = 2 * lines_of_arms (arms_of (map arm_seen l.arms.now)) + 1

abbrev pub decreases-check_states : goal.decreases-check_states
decreases-check_states l = 2 * lines_of_states (states_of (map state_seen l.states.now)) + 1

abbrev pub invariant-check_eqns-loop-eqn : goal.invariant-check_eqns-loop-eqn
invariant-check_eqns-loop-eqn l =
    found_after l.found (in_eqns (form_in l.forms) (eqns_of (map eqn_seen (drop l.eqn-index l.eqns)))) ≡ found_after l.initial.found (in_eqns (form_in l.forms) (eqns_of (map eqn_seen l.eqns)))

abbrev pub invariant-check_arms-loop-arm : goal.invariant-check_arms-loop-arm
invariant-check_arms-loop-arm l =
    found_after l.found (in_arms (form_in l.forms) (arms_of (map arm_seen (drop l.arm-index l.arms)))) ≡ found_after l.initial.found (in_arms (form_in l.forms) (arms_of (map arm_seen l.arms)))

abbrev pub invariant-check_states-loop-state : goal.invariant-check_states-loop-state
invariant-check_states-loop-state l =
    found_after l.found (in_states (form_in l.forms) (states_of (map state_seen (drop l.state-index l.states)))) ≡ found_after l.initial.found (in_states (form_in l.forms) (states_of (map state_seen l.states)))
