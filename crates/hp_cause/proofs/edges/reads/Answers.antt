use Rattle.std.proofs.Common.{◌∙◌}
use Rattle.hp_cause.proofs.EdgeLaws.{read-step}
use Rattle.hp_cause.proofs.edges.reads.Goals as goal

pub loop-i-preserved : goal.loop-i-preserved
loop-i-preserved c = read-step _ c.args.facts.now c.loop-i.i c.loop-i-test.true c.loop-i.edges.items c.add_read.new.edges.items c.in_ok-add_read.ensures ∙ c.loop-i.invariant
