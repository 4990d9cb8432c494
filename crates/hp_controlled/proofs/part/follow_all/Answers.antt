use Rattle.hp_controlled.specs.Reaching.{definitions_seen, reaching_seen}
use Rattle.hp_controlled.proofs.PartLaws.{one-followed, room-next}
use Rattle.hp_controlled.proofs.part.follow_all.Goals as goal

pub loop-variable-smaller : goal.loop-variable-smaller
loop-variable-smaller c =
    room-next c.args.node.now (definitions_seen c.args.definitions.now) (reaching_seen c.loop-variable.found) (reaching_seen c.follow.new.found) c.pop.new.self.items c.in-Some.variable c.in-Some.ensures.items c.in_ok-follow.ensures

pub loop-variable-preserved : goal.loop-variable-preserved
loop-variable-preserved c =
    one-followed c.args.node.now (definitions_seen c.args.definitions.now) (reaching_seen c.args.found.now) (reaching_seen c.loop-variable.found) (reaching_seen c.follow.new.found) c.pop.new.self.items c.in-Some.variable c.loop-variable.invariant
    c.in-Some.ensures.items c.in_ok-follow.ensures
