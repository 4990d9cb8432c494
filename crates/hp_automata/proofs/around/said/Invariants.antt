use Rattle.std.proofs.Common.{◌≡◌, ◌≤◌, length, take}
use Rattle.hp_automata.specs.Held.{said}
use Rattle.hp_automata.proofs.around.said.Given as goal

abbrev pub invariant-loop-i : goal.invariant-loop-i
invariant-loop-i l =
    record {
      within : l.i ≤ length l.layers;
      silent : said (take l.i l.layers) l.name ≡ said l.layers l.name;
    }

abbrev pub decreases-loop-i : goal.decreases-loop-i
decreases-loop-i l = l.i
