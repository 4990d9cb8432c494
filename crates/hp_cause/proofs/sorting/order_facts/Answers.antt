use Rattle.std.proofs.Common.{subst}
use Rattle.hp_cause.specs.Facts.{reads_in}
use Rattle.hp_graph.specs.Graphs.{IsSortedBy}
use Rattle.hp_cause.specs.Told.{facts_seen}
use Rattle.hp_cause.proofs.OrderLaws.{causal-ranked}
use Rattle.hp_cause.proofs.sorting.order_facts.Goals as goal

pub order_causal-requires-clause-causal : goal.order_causal-requires-clause-causal
order_causal-requires-clause-causal c =
    let facts = facts_seen c.args.facts.now in
    causal-ranked c.args.node.now facts c.requires.gathered c.in-Ranks.field-0.items c.requires.declared (subst (IsSortedBy (reads_in facts)) c.in-Ranks.is c.in_ok-sort_reads.ensures)
