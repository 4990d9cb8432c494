-- Sets of lemmas that functions name.
use Rattle.hp_graph.proofs.EdgeLaws.{next-covered, all-covered, sorted-by, rank-beyond}

pub ruleset covered = (next-covered, all-covered)

pub ruleset sorted = (sorted-by, rank-beyond)
