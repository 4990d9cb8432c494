use Rattle.std.proofs.Common.{◌∙◌}
use Rattle.hp_cause.specs.Describing.{points_seen}
use Rattle.hp_cause.proofs.TurnLaws.{described-step}
use Rattle.hp_cause.proofs.cycle.points_of.Goals as goal

pub loop-i-preserved : goal.loop-i-preserved
loop-i-preserved c = described-step _ c.args.facts.now c.loop-i.i c.loop-i-test.true (points_seen c.loop-i.points.items) (points_seen c.add_described.new.into.items) c.in_ok-add_described.ensures ∙ c.loop-i.invariant
