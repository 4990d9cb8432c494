use Rattle.std.proofs.Common.{◌≡◌, ◌+◌, ◌*◌, take, map}
use Rattle.hp_tree.specs.Blocks.{eqns_of, arms_of, states_of}
use Rattle.hp_tree.specs.BlockView.{eqn_seen, arm_seen, state_seen}
use Rattle.hp_tree.specs.Sizes.{lines, lines_of_eqn, lines_of_eqns, lines_of_arms, lines_of_states}
use Rattle.hp_tree.proofs.block.+same.Given as goal

abbrev pub decreases-Block::same : goal.decreases-Block::same
decreases-Block::same l = 3 * lines l.self.now

abbrev pub decreases-Eqn::same : goal.decreases-Eqn::same
decreases-Eqn::same l = 3 * lines_of_eqn (eqn_seen l.self.now)

abbrev pub decreases-Arm::same : goal.decreases-Arm::same
decreases-Arm::same l = 3 * lines l.self.now.body + 1

abbrev pub decreases-State::same : goal.decreases-State::same
decreases-State::same l = 3 * lines l.self.now.body + 1

abbrev pub decreases-same_eqns : goal.decreases-same_eqns
decreases-same_eqns l = 3 * lines_of_eqns (eqns_of (map eqn_seen l.eqns.now)) + 1

abbrev pub decreases-same_arms : goal.decreases-same_arms
decreases-same_arms l = 3 * lines_of_arms (arms_of (map arm_seen l.arms.now)) + 2

abbrev pub decreases-same_states : goal.decreases-same_states
decreases-same_states l = 3 * lines_of_states (states_of (map state_seen l.states.now)) + 2

abbrev pub invariant-same_eqns-loop-i : goal.invariant-same_eqns-loop-i
invariant-same_eqns-loop-i l = map eqn_seen (take l.i l.eqns) ≡ map eqn_seen (take l.i l.others)

abbrev pub invariant-same_arms-loop-i : goal.invariant-same_arms-loop-i
invariant-same_arms-loop-i l = map arm_seen (take l.i l.arms) ≡ map arm_seen (take l.i l.others)

abbrev pub invariant-same_states-loop-i : goal.invariant-same_states-loop-i
invariant-same_states-loop-i l = map state_seen (take l.i l.states) ≡ map state_seen (take l.i l.others)
