use Rattle.std.proofs.Common.{◌≡◌, ◌+◌, ◌*◌, ◌++◌, drop, map}
use Rattle.hp_tree.specs.Blocks.{eqns_of, arms_of, states_of}
use Rattle.hp_tree.specs.BlockView.{eqn_seen, arm_seen, state_seen}
use Rattle.hp_tree.specs.Sizes.{lines, lines_of_eqn, lines_of_eqns, lines_of_arms, lines_of_states}
use Rattle.hp_watch.specs.Walk.{in_eqns, in_arms, in_states, walk_eqns, walk_arms, walk_states}
use Rattle.hp_watch.proofs.walk.Walk.+block.Given as goal

abbrev pub decreases-block : goal.decreases-block
decreases-block l = 4 * lines l.block.now

abbrev pub decreases-eqns : goal.decreases-eqns
decreases-eqns l = 4 * lines_of_eqns (eqns_of (map eqn_seen l.eqns.now)) + 1

abbrev pub decreases-eqn : goal.decreases-eqn
decreases-eqn l = 4 * lines_of_eqn (eqn_seen l.eqn.now)

abbrev pub decreases-reset : goal.decreases-reset
decreases-reset l = 4 * lines l.body.now + 1

abbrev pub decreases-arms : goal.decreases-arms
decreases-arms l = 4 * lines_of_arms (arms_of (map arm_seen l.arms.now)) + 1

abbrev pub decreases-states : goal.decreases-states
decreases-states l = 4 * lines_of_states (states_of (map state_seen l.states.now)) + 2

abbrev pub decreases-state : goal.decreases-state
decreases-state l = 4 * lines l.state.now.body + 1

abbrev pub invariant-eqns-loop-eqn : goal.invariant-eqns-loop-eqn
invariant-eqns-loop-eqn l = record {
  found : l.into.items ++ (walk_eqns (eqns_of (map eqn_seen (drop l.eqn-index l.eqns))) l.self.left.now).0 ≡ l.initial.into.items ++ (walk_eqns (eqns_of (map eqn_seen l.eqns)) l.initial.self.left.now).0;
  left : (walk_eqns (eqns_of (map eqn_seen (drop l.eqn-index l.eqns))) l.self.left.now).1 ≡ (walk_eqns (eqns_of (map eqn_seen l.eqns)) l.initial.self.left.now).1;
  asked : l.self.asked + in_eqns (eqns_of (map eqn_seen (drop l.eqn-index l.eqns))) ≡ l.initial.self.asked + in_eqns (eqns_of (map eqn_seen l.eqns));
}

abbrev pub invariant-arms-loop-arm : goal.invariant-arms-loop-arm
invariant-arms-loop-arm l = record {
  found : l.into.items ++ (walk_arms (arms_of (map arm_seen (drop l.arm-index l.arms))) l.self.left.now).0 ≡ l.initial.into.items ++ (walk_arms (arms_of (map arm_seen l.arms)) l.initial.self.left.now).0;
  left : (walk_arms (arms_of (map arm_seen (drop l.arm-index l.arms))) l.self.left.now).1 ≡ (walk_arms (arms_of (map arm_seen l.arms)) l.initial.self.left.now).1;
  asked : l.self.asked + in_arms (arms_of (map arm_seen (drop l.arm-index l.arms))) ≡ l.initial.self.asked + in_arms (arms_of (map arm_seen l.arms));
}

abbrev pub invariant-states-loop-state : goal.invariant-states-loop-state
invariant-states-loop-state l = record {
  found : l.into.items ++ (walk_states (states_of (map state_seen (drop l.state-index l.states))) l.self.left.now).0 ≡ l.initial.into.items ++ (walk_states (states_of (map state_seen l.states)) l.initial.self.left.now).0;
  left : (walk_states (states_of (map state_seen (drop l.state-index l.states))) l.self.left.now).1 ≡ (walk_states (states_of (map state_seen l.states)) l.initial.self.left.now).1;
  asked : l.self.asked + in_states (states_of (map state_seen (drop l.state-index l.states))) ≡ l.initial.self.asked + in_states (states_of (map state_seen l.states));
}
