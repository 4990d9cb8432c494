use Rattle.hp_cause.specs.Told.{facts_seen}
use Rattle.hp_cause.proofs.OrderLaws.{points-ranked}
use Rattle.hp_cause.proofs.sorting.rank_points.Goals as goal

pub returns : goal.returns
returns c = points-ranked c.args.node.now (facts_seen c.args.facts.now) c.requires.gathered c.args.ranks.now c.in_ok-found.found.items c.requires.declared c.requires.falls c.in_ok-found.ensures
