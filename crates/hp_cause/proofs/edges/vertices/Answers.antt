use Rattle.std.proofs.Common.{◌∙◌}
use Rattle.hp_cause.proofs.EdgeLaws.{point-step}
use Rattle.hp_cause.proofs.edges.vertices.Goals as goal

pub loop-i-preserved : goal.loop-i-preserved
loop-i-preserved c = point-step _ c.args.facts.now c.loop-i.i c.loop-i-test.true c.loop-i.vertices.items c.add_vertex.new.into.items c.in_ok-add_vertex.ensures ∙ c.loop-i.invariant
