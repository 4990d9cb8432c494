use Rattle.std.proofs.Common.{◌+◌, length}
use Rattle.hp_init.specs.Spreading.{lists, marks, unmarked, Spreads, Grew}
use Rattle.hp_init.proofs.least.spread.Given as goal

abbrev pub invariant-loop-number : goal.invariant-loop-number
invariant-loop-number l =
    record {
      spreads : Spreads (lists l.followers) (marks l.second l.waiting.items);
      grew : Grew (lists l.followers) l.initial.second l.second;
    }

abbrev pub decreases-loop-number : goal.decreases-loop-number
decreases-loop-number l = length l.waiting.items + unmarked l.second
