use Rattle.std.proofs.Common.{◌≡◌, ◌+◌, ◌*◌, take, map}
use Rattle.hp_tree.specs.Blocks.{eqns_of, arms_of, states_of}
use Rattle.hp_tree.specs.BlockView.{eqn_seen, arm_seen, state_seen}
use Rattle.hp_tree.specs.Sizes.{lines, lines_of_eqn, lines_of_eqns, lines_of_arms, lines_of_states}
use Rattle.hp_tree.proofs.block.+copy.Given as goal

abbrev pub decreases-Block::copy : goal.decreases-Block::copy
decreases-Block::copy l = 3 * lines l.self.now

abbrev pub decreases-Eqn::copy : goal.decreases-Eqn::copy
decreases-Eqn::copy l = 3 * lines_of_eqn (eqn_seen l.self.now)

abbrev pub decreases-Arm::copy : goal.decreases-Arm::copy
decreases-Arm::copy l = 3 * lines l.self.now.body + 1

abbrev pub decreases-State::copy : goal.decreases-State::copy
decreases-State::copy l = 3 * lines l.self.now.body + 1

abbrev pub decreases-copy_eqns : goal.decreases-copy_eqns
decreases-copy_eqns l = 3 * lines_of_eqns (eqns_of (map eqn_seen l.eqns.now)) + 1

abbrev pub decreases-copy_arms : goal.decreases-copy_arms
decreases-copy_arms l = 3 * lines_of_arms (arms_of (map arm_seen l.arms.now)) + 2

abbrev pub decreases-copy_states : goal.decreases-copy_states
decreases-copy_states l = 3 * lines_of_states (states_of (map state_seen l.states.now)) + 2

abbrev pub invariant-copy_eqns-loop-eqn : goal.invariant-copy_eqns-loop-eqn
invariant-copy_eqns-loop-eqn l = map eqn_seen l.copies.items ≡ map eqn_seen (take l.eqn-index l.eqns)

abbrev pub invariant-copy_arms-loop-arm : goal.invariant-copy_arms-loop-arm
invariant-copy_arms-loop-arm l = l.copies.items ≡ take l.arm-index l.arms

abbrev pub invariant-copy_states-loop-state : goal.invariant-copy_states-loop-state
invariant-copy_states-loop-state l = map state_seen l.copies.items ≡ map state_seen (take l.state-index l.states)
