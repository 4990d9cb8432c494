use Rattle.std.proofs.Common.{◌≡◌, replicate}
use Rattle.hp_graph.specs.declared.search.Mark.TheVariants.{New}
use Rattle.hp_graph.proofs.search.all_new.Given as goal

abbrev pub invariant-loop : goal.invariant-loop
invariant-loop l = l.marks.items ≡ replicate l.counter New
