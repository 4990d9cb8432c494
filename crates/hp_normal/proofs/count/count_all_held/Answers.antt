use Rattle.std.specs.List.{flat_map}
use Rattle.hp_normal.specs.Needing.{held_reads}
use Rattle.hp_normal.specs.Tables.{counted}
use Rattle.hp_normal.proofs.CountLaws.{all-next, all-end}
use Rattle.hp_normal.proofs.count.count_all_held.Goals as goal

pub loop-eqn-preserved : goal.loop-eqn-preserved
loop-eqn-preserved c =
    all-next held_reads c.args.eqns.now c.loop-eqn.eqn-index c.loop-eqn.counts c.count_held_of.new.counts (counted (flat_map held_reads c.args.eqns.now) c.args.counts.now)
    c.eqn-item.result c.loop-eqn-test.true c.eqn-item.is c.count_held_of.ensures c.loop-eqn.invariant

pub returns : goal.returns
returns c = all-end held_reads c.args.eqns.now c.loop-eqn.eqn-index c.loop-eqn.counts (counted (flat_map held_reads c.args.eqns.now) c.args.counts.now) c.loop-eqn-test.false c.loop-eqn.invariant
