use Rattle.std.proofs.Common.{◌∙◌}
use Rattle.hp_cause.proofs.EdgeLaws.{dependence-step}
use Rattle.hp_cause.proofs.edges.dependences.Goals as goal

pub loop-i-preserved : goal.loop-i-preserved
loop-i-preserved c = dependence-step _ c.args.facts.now c.loop-i.i c.loop-i-test.true c.loop-i.edges.items c.add_dependence.new.edges.items c.in_ok-add_dependence.ensures ∙ c.loop-i.invariant
