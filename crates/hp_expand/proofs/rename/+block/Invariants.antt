use Rattle.std.proofs.Common.{◌≡◌, ◌+◌, ◌*◌, ◌++◌, take, map}
use Rattle.hp_tree.specs.Blocks.{eqns_of, arms_of, states_of}
use Rattle.hp_tree.specs.BlockView.{eqn_seen, arm_seen, state_seen}
use Rattle.hp_tree.specs.Sizes.{lines, lines_of_eqn, lines_of_eqns, lines_of_arms, lines_of_states}
use Rattle.hp_expand.specs.Renaming.{renamed_eqn}
use Rattle.hp_expand.specs.Renamed.{renamed_arm, renamed_state}
use Rattle.hp_expand.specs.Layers.{said}
use Rattle.hp_expand.proofs.rename.+block.Given as goal

abbrev pub decreases-rename_block : goal.decreases-rename_block
decreases-rename_block l = 3 * lines l.block.now

abbrev pub decreases-add_eqns : goal.decreases-add_eqns
decreases-add_eqns l = 3 * lines_of_eqns (eqns_of (map eqn_seen l.eqns.now)) + 1

abbrev pub decreases-rename_eqn : goal.decreases-rename_eqn
decreases-rename_eqn l = 3 * lines_of_eqn (eqn_seen l.eqn.now)

abbrev pub decreases-rename_arm : goal.decreases-rename_arm
decreases-rename_arm l = 3 * lines l.arm.now.body + 1

abbrev pub decreases-rename_arms : goal.decreases-rename_arms
decreases-rename_arms l = 3 * lines_of_arms (arms_of (map arm_seen l.arms.now)) + 2

abbrev pub decreases-rename_state : goal.decreases-rename_state
decreases-rename_state l = 3 * lines l.state.now.body + 1

abbrev pub decreases-rename_states : goal.decreases-rename_states
decreases-rename_states l = 3 * lines_of_states (states_of (map state_seen l.states.now)) + 2

abbrev pub invariant-add_eqns-loop-eqn : goal.invariant-add_eqns-loop-eqn
invariant-add_eqns-loop-eqn l = map eqn_seen l.into.items ≡ map eqn_seen l.initial.into.items ++ map (λ e. renamed_eqn (said l.naming) (eqn_seen e)) (take l.eqn-index l.eqns)

abbrev pub invariant-rename_arms-loop-arm : goal.invariant-rename_arms-loop-arm
invariant-rename_arms-loop-arm l = map arm_seen l.others.items ≡ map (λ a. renamed_arm (said l.naming) (arm_seen a)) (take l.arm-index l.arms)

abbrev pub invariant-rename_states-loop-state : goal.invariant-rename_states-loop-state
invariant-rename_states-loop-state l = map state_seen l.others.items ≡ map (λ q. renamed_state (said l.naming) (state_seen q)) (take l.state-index l.states)
