use Rattle.std.proofs.Common.{◌≡◌, drop}
use Rattle.hp_normal.specs.Tables.{none_counted}
use Rattle.hp_normal.proofs.prune.none_counted.Given as goal

abbrev pub invariant-loop-i : goal.invariant-loop-i
invariant-loop-i l = none_counted l.counts (drop l.i l.variables) ≡ none_counted l.counts l.variables
