use Rattle.std.proofs.Common.{subst}
use Rattle.hp_cause.specs.Facts.{dependences_in}
use Rattle.hp_graph.specs.Graphs.{IsSortedBy}
use Rattle.hp_cause.specs.Told.{facts_seen}
use Rattle.hp_cause.proofs.OrderLaws.{no_cycle}
use Rattle.hp_cause.proofs.sorting.order_acyclic.Goals as goal

pub unreachable-requires : goal.unreachable-requires
unreachable-requires c =
    let facts = facts_seen c.args.facts.now in
    no_cycle c.args.node.now facts c.requires.gathered c.requires.once c.requires.causal c.requires.clocks c.in-Cycle.field-0.items (subst (IsSortedBy (dependences_in facts)) c.in-Cycle.is c.in_ok-ranks.ensures)
