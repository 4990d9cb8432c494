use Rattle.std.proofs.Common.{arith}
use Rattle.hp_clocks.proofs.OpenRules.{opens_then}
use Rattle.hp_clocks.proofs.open.open_locals.Goals as goal

pub add_open-requires : goal.add_open-requires
add_open-requires c = c.loop-left.invariant.tells.cells

pub loop-left-preserved : goal.loop-left-preserved
loop-left-preserved c =
    record {
      tells = opens_then c.args.cells.now.cells.items c.loop-left.cells.cells.items c.add_open.new.self.cells.items c.loop-left.invariant.tells c.in_ok-add_open.ensures.tells;
      many = omega (arith, c.loop-left.invariant.many, c.in_ok-add_open.ensures.length);
    }
