use Rattle.std.proofs.Common.{◌+◌, ◌*◌, map}
use Rattle.hp_tree.specs.Blocks.{eqns_of, arms_of, states_of}
use Rattle.hp_tree.specs.BlockView.{eqn_seen, arm_seen, state_seen}
use Rattle.hp_tree.specs.Sizes.{lines, lines_of_eqn, lines_of_eqns, lines_of_arms, lines_of_states}
use Rattle.hp_clocks.specs.Writing.{ahead, eqn_written, eqn_left}
use Rattle.hp_clocks.proofs.Turned.{Writes}
use Rattle.hp_clocks.proofs.WriteLaws.{arm_written, arm_left, state_written, state_left}
use Rattle.hp_clocks.proofs.write.+write.Given as goal

abbrev pub decreases-write_block : goal.decreases-write_block
decreases-write_block l = 3 * lines l.block.now

abbrev pub decreases-write_eqns : goal.decreases-write_eqns
decreases-write_eqns l = 3 * lines_of_eqns (eqns_of (map eqn_seen l.eqns.now)) + 1

abbrev pub decreases-write_eqn : goal.decreases-write_eqn
decreases-write_eqn l = 3 * lines_of_eqn (eqn_seen l.eqn.now)

abbrev pub decreases-write_arms : goal.decreases-write_arms
decreases-write_arms l = 3 * lines_of_arms (arms_of (map arm_seen l.arms.now)) + 2

abbrev pub decreases-write_states : goal.decreases-write_states
decreases-write_states l = 3 * lines_of_states (states_of (map state_seen l.states.now)) + 2

abbrev pub invariant-write_eqns-loop-eqn : goal.invariant-write_eqns-loop-eqn
invariant-write_eqns-loop-eqn l = Writes eqn_seen eqn_written eqn_left l.initial.eqns (ahead l.initial.paths) l.eqns l.eqn-index (ahead l.paths)

abbrev pub invariant-write_arms-loop-arm : goal.invariant-write_arms-loop-arm
invariant-write_arms-loop-arm l = Writes arm_seen arm_written arm_left l.initial.arms (ahead l.initial.paths) l.arms l.arm-index (ahead l.paths)

abbrev pub invariant-write_states-loop-state : goal.invariant-write_states-loop-state
invariant-write_states-loop-state l = Writes state_seen state_written state_left l.initial.states (ahead l.initial.paths) l.states l.state-index (ahead l.paths)
