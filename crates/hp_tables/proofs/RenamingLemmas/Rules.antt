-- Sets of lemmas that functions name.
use Rattle.std.proofs.lemmas.List.{map_more}
use Rattle.hp_tree.proofs.Lists.{nodes-at, nodes-at_part}
use Rattle.hp_tree.proofs.KindSizes.{nodes-expr_at}
use Rattle.hp_tables.proofs.RenamingLemmas.RenamingLaws.{exprs-mapped, parts-mapped}

pub ruleset renamed_kinds = (nodes-expr_at, nodes-at)

pub ruleset renamed_exprs = (exprs-mapped, parts-mapped)

pub ruleset renamed_in_exprs = (nodes-at, nodes-at_part, map_more)

pub ruleset more = map_more
