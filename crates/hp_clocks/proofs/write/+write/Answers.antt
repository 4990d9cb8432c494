use Rattle.std.proofs.Common.{◌≤◌, ◌+◌, ap, ◌∙◌, length, map, slice_index_or, arith}
use Rattle.hp_tree.specs.Blocks.{eqns_of, arms_of, states_of}
use Rattle.hp_tree.specs.BlockView.{eqn_seen, arm_seen, state_seen}
use Rattle.hp_tree.specs.Sizes.{lines, lines_of_eqn, lines_of_eqns, lines_of_arms, lines_of_states}
use Rattle.hp_clocks.specs.Writing.{ahead, eqn_written, eqn_left}
use Rattle.hp_clocks.proofs.Turned.{begun, next, ended, ended_left, still_below, at_end, one_more}
use Rattle.hp_clocks.proofs.WriteLaws.{arm_with, arm_written, arm_left, state_with, state_written, state_left, eqns_each, eqns_each_left, arms_each, arms_each_left, states_each, states_each_left, eqn_lines, arm_lines, state_lines}
use Rattle.hp_clocks.proofs.write.+write.Goals as goal

pub write_eqns-loop-eqn-init : goal.write_eqns-loop-eqn-init
write_eqns-loop-eqn-init t c = begun eqn_seen eqn_written eqn_left c.args.eqns.now (ahead c.args.paths.now)

pub write_eqns-loop-eqn-preserved : goal.write_eqns-loop-eqn-preserved
write_eqns-loop-eqn-preserved t c =
    next eqn_seen eqn_written eqn_left c.args.eqns.now (ahead c.args.paths.now) c.loop-eqn.eqns c.loop-eqn.eqn-index (c.loop-eqn.eqn-index + 1)
    (ahead c.loop-eqn.paths) (ahead c.write_eqn.new.paths) c.eqn-item.result c.write_eqn.new.eqn c.loop-eqn.invariant
    (still_below c.loop-eqn.eqn-index (length c.loop-eqn.eqns) (length c.args.eqns.now) c.loop-eqn-test.true c.loop-eqn.auto.eqns)
    (one_more c.loop-eqn.eqn-index) c.write_eqn.ensures.eqn c.write_eqn.ensures.left

pub write_eqns-returns-clause-eqns : goal.write_eqns-returns-clause-eqns
write_eqns-returns-clause-eqns t c =
    ap eqns_of (ended eqn_seen eqn_written eqn_left c.args.eqns.now (ahead c.args.paths.now) c.loop-eqn.eqns c.loop-eqn.eqn-index (ahead c.loop-eqn.paths) c.loop-eqn.invariant
    (at_end c.loop-eqn.eqn-index (length c.loop-eqn.eqns) (length c.args.eqns.now) c.loop-eqn-test.false c.loop-eqn.auto.eqns))
    ∙ eqns_each (map eqn_seen c.args.eqns.now) (ahead c.args.paths.now)

pub write_eqns-returns-clause-left : goal.write_eqns-returns-clause-left
write_eqns-returns-clause-left t c =
    ended_left eqn_seen eqn_written eqn_left c.args.eqns.now (ahead c.args.paths.now) c.loop-eqn.eqns c.loop-eqn.eqn-index (ahead c.loop-eqn.paths) c.loop-eqn.invariant
    (at_end c.loop-eqn.eqn-index (length c.loop-eqn.eqns) (length c.args.eqns.now) c.loop-eqn-test.false c.loop-eqn.auto.eqns)
    ∙ eqns_each_left (map eqn_seen c.args.eqns.now) (ahead c.args.paths.now)

pub write_arms-loop-arm-init : goal.write_arms-loop-arm-init
write_arms-loop-arm-init t c = begun arm_seen arm_written arm_left c.args.arms.now (ahead c.args.paths.now)

pub write_arms-loop-arm-preserved : goal.write_arms-loop-arm-preserved
write_arms-loop-arm-preserved t c =
    next arm_seen arm_written arm_left c.args.arms.now (ahead c.args.paths.now) c.loop-arm.arms c.loop-arm.arm-index (c.loop-arm.arm-index + 1)
    (ahead c.loop-arm.paths) (ahead c.write_block.new.paths) c.arm-item.result _ c.loop-arm.invariant
    (still_below c.loop-arm.arm-index (length c.loop-arm.arms) (length c.args.arms.now) c.loop-arm-test.true c.loop-arm.auto.arms)
    (one_more c.loop-arm.arm-index) (ap (λ z. arm_with (arm_seen (slice_index_or c.loop-arm.arms c.loop-arm.arm-index c.arm-item.result)) z) c.write_block.ensures.block) c.write_block.ensures.left

pub write_arms-returns-clause-arms : goal.write_arms-returns-clause-arms
write_arms-returns-clause-arms t c =
    ap arms_of (ended arm_seen arm_written arm_left c.args.arms.now (ahead c.args.paths.now) c.loop-arm.arms c.loop-arm.arm-index (ahead c.loop-arm.paths) c.loop-arm.invariant
    (at_end c.loop-arm.arm-index (length c.loop-arm.arms) (length c.args.arms.now) c.loop-arm-test.false c.loop-arm.auto.arms))
    ∙ arms_each (map arm_seen c.args.arms.now) (ahead c.args.paths.now)

pub write_arms-returns-clause-left : goal.write_arms-returns-clause-left
write_arms-returns-clause-left t c =
    ended_left arm_seen arm_written arm_left c.args.arms.now (ahead c.args.paths.now) c.loop-arm.arms c.loop-arm.arm-index (ahead c.loop-arm.paths) c.loop-arm.invariant
    (at_end c.loop-arm.arm-index (length c.loop-arm.arms) (length c.args.arms.now) c.loop-arm-test.false c.loop-arm.auto.arms)
    ∙ arms_each_left (map arm_seen c.args.arms.now) (ahead c.args.paths.now)

pub write_states-loop-state-init : goal.write_states-loop-state-init
write_states-loop-state-init t c = begun state_seen state_written state_left c.args.states.now (ahead c.args.paths.now)

pub write_states-loop-state-preserved : goal.write_states-loop-state-preserved
write_states-loop-state-preserved t c =
    next state_seen state_written state_left c.args.states.now (ahead c.args.paths.now) c.loop-state.states c.loop-state.state-index (c.loop-state.state-index + 1)
    (ahead c.loop-state.paths) (ahead c.write_block.new.paths) c.state-item.result _ c.loop-state.invariant
    (still_below c.loop-state.state-index (length c.loop-state.states) (length c.args.states.now) c.loop-state-test.true c.loop-state.auto.states)
    (one_more c.loop-state.state-index) (ap (λ z. state_with (state_seen (slice_index_or c.loop-state.states c.loop-state.state-index c.state-item.result)) z) c.write_block.ensures.block) c.write_block.ensures.left

pub write_states-returns-clause-states : goal.write_states-returns-clause-states
write_states-returns-clause-states t c =
    ap states_of (ended state_seen state_written state_left c.args.states.now (ahead c.args.paths.now) c.loop-state.states c.loop-state.state-index (ahead c.loop-state.paths) c.loop-state.invariant
    (at_end c.loop-state.state-index (length c.loop-state.states) (length c.args.states.now) c.loop-state-test.false c.loop-state.auto.states))
    ∙ states_each (map state_seen c.args.states.now) (ahead c.args.paths.now)

pub write_states-returns-clause-left : goal.write_states-returns-clause-left
write_states-returns-clause-left t c =
    ended_left state_seen state_written state_left c.args.states.now (ahead c.args.paths.now) c.loop-state.states c.loop-state.state-index (ahead c.loop-state.paths) c.loop-state.invariant
    (at_end c.loop-state.state-index (length c.loop-state.states) (length c.args.states.now) c.loop-state-test.false c.loop-state.auto.states)
    ∙ states_each_left (map state_seen c.args.states.now) (ahead c.args.paths.now)

pub write_eqns-write_eqn-requires : goal.write_eqns-write_eqn-requires
write_eqns-write_eqn-requires t c =
    let fewer : lines_of_eqn (eqn_seen (slice_index_or c.loop-eqn.eqns c.loop-eqn.eqn-index c.eqn-item.result)) ≤ lines_of_eqns (eqns_of (map eqn_seen c.args.eqns.now)) =
    eqn_lines c.loop-eqn.eqns c.args.eqns.now c.loop-eqn.eqn-index c.eqn-item.result c.loop-eqn-test.true
    (c.loop-eqn.invariant.unvisited c.loop-eqn.eqn-index c.eqn-item.result (omega arith)) in
    (omega (arith, fewer, c.decreases), tt)

pub write_arms-write_block-requires : goal.write_arms-write_block-requires
write_arms-write_block-requires t c =
    let fewer : lines (slice_index_or c.loop-arm.arms c.loop-arm.arm-index c.arm-item.result).body ≤ lines_of_arms (arms_of (map arm_seen c.args.arms.now)) =
    arm_lines c.loop-arm.arms c.args.arms.now c.loop-arm.arm-index c.arm-item.result c.loop-arm-test.true
    (c.loop-arm.invariant.unvisited c.loop-arm.arm-index c.arm-item.result (omega arith)) in
    (omega (arith, fewer, c.decreases), tt)

pub write_states-write_block-requires : goal.write_states-write_block-requires
write_states-write_block-requires t c =
    let fewer : lines (slice_index_or c.loop-state.states c.loop-state.state-index c.state-item.result).body ≤ lines_of_states (states_of (map state_seen c.args.states.now)) =
    state_lines c.loop-state.states c.args.states.now c.loop-state.state-index c.state-item.result c.loop-state-test.true
    (c.loop-state.invariant.unvisited c.loop-state.state-index c.state-item.result (omega arith)) in
    (omega (arith, fewer, c.decreases), tt)
