use Rattle.std.proofs.Common.{arith}
use Rattle.hp_clocks.proofs.OpenRules.{opens_then}
use Rattle.hp_clocks.proofs.SizeLaws.{sized_eqns, sized_arms, sized_states}
use Rattle.hp_clocks.proofs.open.+open.Goals as goal

pub open_eqns-loop-eqn-preserved : goal.open_eqns-loop-eqn-preserved
open_eqns-loop-eqn-preserved t c =
    record {
      tells = opens_then c.args.cells.now.cells.items c.loop-eqn.cells.cells.items c.open_eqn.new.cells.cells.items c.loop-eqn.invariant.tells c.in_ok-open_eqn.ensures.tells;
      many = omega (arith, c.loop-eqn.invariant.many, c.in_ok-open_eqn.ensures.length, sized_eqns c.args.eqns.now c.loop-eqn.eqn-index c.eqn-item.result c.loop-eqn-test.true c.eqn-item.is);
    }

pub open_arms-loop-arm-preserved : goal.open_arms-loop-arm-preserved
open_arms-loop-arm-preserved t c =
    record {
      tells = opens_then c.args.cells.now.cells.items c.loop-arm.cells.cells.items c.open_block.new.cells.cells.items c.loop-arm.invariant.tells c.in_ok-open_block.ensures.tells;
      many = omega (arith, c.loop-arm.invariant.many, c.in_ok-open_block.ensures.length, sized_arms c.args.arms.now c.loop-arm.arm-index c.arm-item.result c.loop-arm-test.true c.arm-item.is);
    }

pub open_states-loop-state-preserved : goal.open_states-loop-state-preserved
open_states-loop-state-preserved t c =
    record {
      tells = opens_then c.args.cells.now.cells.items c.loop-state.cells.cells.items c.open_block.new.cells.cells.items c.loop-state.invariant.tells c.in_ok-open_block.ensures.tells;
      many = omega (arith, c.loop-state.invariant.many, c.in_ok-open_block.ensures.length, sized_states c.args.states.now c.loop-state.state-index c.state-item.result c.loop-state-test.true c.state-item.is);
    }
