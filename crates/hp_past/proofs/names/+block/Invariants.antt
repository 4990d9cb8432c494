use Rattle.std.proofs.Common.{◌≡◌, ◌+◌, ◌*◌, drop, map}
use Rattle.hp_tree.specs.Blocks.{eqns_of, arms_of, states_of}
use Rattle.hp_tree.specs.BlockView.{eqn_seen, arm_seen, state_seen}
use Rattle.hp_tree.specs.Sizes.{lines, lines_of_eqn, lines_of_eqns, lines_of_arms, lines_of_states}
use Rattle.hp_past.specs.Names.{noted, names_in_eqns, names_in_arms, names_in_states}
use Rattle.hp_past.proofs.names.+block.Given as goal

abbrev pub decreases-note_block : goal.decreases-note_block
decreases-note_block l = 4 * lines l.block.now

abbrev pub decreases-note_eqns : goal.decreases-note_eqns
decreases-note_eqns l = 4 * lines_of_eqns (eqns_of (map eqn_seen l.eqns.now)) + 1

abbrev pub decreases-note_eqn : goal.decreases-note_eqn
decreases-note_eqn l = 4 * lines_of_eqn (eqn_seen l.eqn.now)

abbrev pub decreases-note_arms : goal.decreases-note_arms
decreases-note_arms l = 4 * lines_of_arms (arms_of (map arm_seen l.arms.now)) + 1

abbrev pub decreases-note_states : goal.decreases-note_states
decreases-note_states l = 4 * lines_of_states (states_of (map state_seen l.states.now)) + 2

abbrev pub decreases-note_state : goal.decreases-note_state
decreases-note_state l = 4 * lines l.state.now.body + 1

abbrev pub invariant-note_eqns-loop-eqn : goal.invariant-note_eqns-loop-eqn
invariant-note_eqns-loop-eqn l =
    noted l.names (names_in_eqns (eqns_of (map eqn_seen (drop l.eqn-index l.eqns)))) ≡ noted l.initial.names (names_in_eqns (eqns_of (map eqn_seen l.eqns)))

abbrev pub invariant-note_arms-loop-arm : goal.invariant-note_arms-loop-arm
invariant-note_arms-loop-arm l =
    noted l.names (names_in_arms (arms_of (map arm_seen (drop l.arm-index l.arms)))) ≡ noted l.initial.names (names_in_arms (arms_of (map arm_seen l.arms)))

abbrev pub invariant-note_states-loop-state : goal.invariant-note_states-loop-state
invariant-note_states-loop-state l =
    noted l.names (names_in_states (states_of (map state_seen (drop l.state-index l.states)))) ≡ noted l.initial.names (names_in_states (states_of (map state_seen l.states)))
