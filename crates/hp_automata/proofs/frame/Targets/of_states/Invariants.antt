use Rattle.std.proofs.Common.{◌≡◌, ◌≤◌, length, drop, map}
use Rattle.hp_tree.specs.Blocks.{states_of}
use Rattle.hp_tree.specs.BlockView.{state_seen}
use Rattle.hp_tree.specs.Meaning.{number_of}
use Rattle.hp_automata.specs.Held.{target_in}
use Rattle.hp_automata.proofs.frame.Targets.of_states.Given as goal

abbrev pub invariant-loop-i : goal.invariant-loop-i
invariant-loop-i l =
    record {
      within : l.i ≤ length l.states;
      numbers : target_in l.targets ≡ number_of l.i (states_of (map state_seen (drop l.i l.states)));
    }

abbrev pub decreases-loop-i : goal.decreases-loop-i
decreases-loop-i l = l.i
