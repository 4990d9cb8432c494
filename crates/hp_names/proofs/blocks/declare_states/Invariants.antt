use Rattle.std.proofs.Common.{◌≡◌, drop, map, []}
use Rattle.hp_tree.specs.BlockView.{state_seen}
use Rattle.hp_tree.specs.Blocks.{states_of}
use Rattle.hp_names.specs.Breaches.{found_after}
use Rattle.hp_names.specs.Names.{with_names, state_names}
use Rattle.hp_names.specs.Claims.{new_names}
use Rattle.hp_names.proofs.blocks.declare_states.Given as goal

abbrev pub invariant-loop-state : goal.invariant-loop-state
invariant-loop-state l =
    record {
      names : with_names l.names (state_names (states_of (map state_seen (drop l.state-index l.states)))) ≡ with_names [] (state_names (states_of (map state_seen l.states)));
      found : found_after l.found (new_names l.names (state_names (states_of (map state_seen (drop l.state-index l.states)))))
          ≡ found_after l.initial.found (new_names [] (state_names (states_of (map state_seen l.states))));
    }
