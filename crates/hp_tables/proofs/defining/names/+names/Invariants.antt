use Rattle.std.proofs.Common.{◌≡◌, ◌+◌, ◌*◌, map, drop}
use Rattle.hp_tree.specs.Blocks.{eqns_of, arms_of, states_of}
use Rattle.hp_tree.specs.BlockView.{eqn_seen, arm_seen, state_seen}
use Rattle.hp_tree.specs.Sizes.{lines, lines_of_eqn, lines_of_eqns, lines_of_arms, lines_of_states}
use Rattle.hp_tables.specs.Defining.Names.{names_in, names_of_arms, names_of_states}
use Rattle.hp_tables.specs.Defining.Seen.{names_seen, with_more}
use Rattle.hp_tables.proofs.defining.names.+names.Given as goal

abbrev pub decreases-add_names : goal.decreases-add_names
decreases-add_names l = 4 * lines_of_eqns (eqns_of (map eqn_seen l.eqns.now)) + 1

abbrev pub decreases-add_names_of : goal.decreases-add_names_of
decreases-add_names_of l = 4 * lines_of_eqn (eqn_seen l.eqn.now)

abbrev pub decreases-add_names_of_arms : goal.decreases-add_names_of_arms
decreases-add_names_of_arms l = 4 * lines_of_arms (arms_of (map arm_seen l.arms.now)) + 2

abbrev pub decreases-add_names_of_states : goal.decreases-add_names_of_states
decreases-add_names_of_states l = 4 * lines_of_states (states_of (map state_seen l.states.now)) + 2

abbrev pub decreases-add_outer_names : goal.decreases-add_outer_names
decreases-add_outer_names l = 4 * lines l.block.now

abbrev pub invariant-add_names-loop-eqn : goal.invariant-add_names-loop-eqn
invariant-add_names-loop-eqn l =
    with_more (names_seen l.into.items) (names_in (eqns_of (map eqn_seen (drop l.eqn-index l.eqns)))) ≡ with_more (names_seen l.initial.into.items) (names_in (eqns_of (map eqn_seen l.eqns)))

abbrev pub invariant-add_names_of_arms-loop-arm : goal.invariant-add_names_of_arms-loop-arm
invariant-add_names_of_arms-loop-arm l =
    with_more (names_seen l.into.items) (names_of_arms (arms_of (map arm_seen (drop l.arm-index l.arms)))) ≡ with_more (names_seen l.initial.into.items) (names_of_arms (arms_of (map arm_seen l.arms)))

abbrev pub invariant-add_names_of_states-loop-state : goal.invariant-add_names_of_states-loop-state
invariant-add_names_of_states-loop-state l =
    with_more (names_seen l.into.items) (names_of_states (states_of (map state_seen (drop l.state-index l.states)))) ≡ with_more (names_seen l.initial.into.items) (names_of_states (states_of (map state_seen l.states)))
