use Rattle.std.proofs.Common.{◌≡◌, ◌+◌, ◌≤◌, length, drop}
use Rattle.hp_tables.specs.Defining.Seen.{names_seen}
use Rattle.hp_tables.specs.Defining.Layers.{says, says_numbers}
use Rattle.hp_tables.proofs.defining.layer.Layer.numbered.Given as goal

abbrev pub invariant-loop-i : goal.invariant-loop-i
invariant-loop-i l =
    record {
      within : l.i ≤ length l.names;
      numbers : says l.layer ≡ says_numbers (l.first + l.i) (names_seen (drop l.i l.names));
    }

abbrev pub decreases-loop-i : goal.decreases-loop-i
decreases-loop-i l = l.i
