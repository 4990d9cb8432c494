use Rattle.std.specs.List.{flat_map}
use Rattle.hp_flat.specs.Equations.{FlatEqn}
use Rattle.hp_normal.specs.Tables.{counted}
use Rattle.hp_normal.proofs.CountLaws.{all-next, all-end}
use Rattle.hp_normal.proofs.count.count_all_targets.Goals as goal

pub loop-eqn-preserved : goal.loop-eqn-preserved
loop-eqn-preserved c =
    all-next (λ (e : FlatEqn). e.targets) c.args.eqns.now c.loop-eqn.eqn-index c.loop-eqn.counts c.count_targets_of.new.counts (counted (flat_map (λ (e : FlatEqn). e.targets) c.args.eqns.now) c.args.counts.now)
    c.eqn-item.result c.loop-eqn-test.true c.eqn-item.is c.count_targets_of.ensures c.loop-eqn.invariant

pub returns : goal.returns
returns c = all-end (λ (e : FlatEqn). e.targets) c.args.eqns.now c.loop-eqn.eqn-index c.loop-eqn.counts (counted (flat_map (λ (e : FlatEqn). e.targets) c.args.eqns.now) c.args.counts.now) c.loop-eqn-test.false c.loop-eqn.invariant
