use Rattle.std.proofs.Common.{◌≡◌, ◌≤◌, length, drop, None}
use Rattle.hp_tables.specs.Defining.Layers.{said}
use Rattle.hp_tables.proofs.defining.layer.sight.Given as goal

abbrev pub invariant-loop-i : goal.invariant-loop-i
invariant-loop-i l =
    record {
      within : l.i ≤ length l.layers;
      silent : said (drop l.i l.layers) l.name ≡ None;
    }

abbrev pub decreases-loop-i : goal.decreases-loop-i
decreases-loop-i l = l.i
