use Rattle.std.proofs.Common.{◌≡◌, ◌+◌, ◌*◌, length, drop, map}
use Rattle.std.specs.Prelude.{⊤}
use Rattle.hp_tree.specs.Blocks.{eqns_of, arms_of, states_of}
use Rattle.hp_tree.specs.BlockView.{eqn_seen, arm_seen, state_seen}
use Rattle.hp_tree.specs.Sizes.{lines, lines_of_eqn, lines_of_eqns, lines_of_arms, lines_of_states}
use Rattle.hp_clocks.specs.Cells.{Tells}
use Rattle.hp_clocks.specs.Units.{size_of_all, size_of_arms, size_of_states}
use Rattle.hp_clocks.proofs.open.+open.Given as goal

abbrev pub decreases-open_block : goal.decreases-open_block
decreases-open_block l = 4 * lines l.block.now

abbrev pub decreases-open_eqns : goal.decreases-open_eqns
decreases-open_eqns l = 4 * lines_of_eqns (eqns_of (map eqn_seen l.eqns.now)) + 1

abbrev pub decreases-open_eqn : goal.decreases-open_eqn
decreases-open_eqn l = 4 * lines_of_eqn (eqn_seen l.eqn.now)

abbrev pub decreases-open_arms : goal.decreases-open_arms
decreases-open_arms l = 4 * lines_of_arms (arms_of (map arm_seen l.arms.now)) + 2

abbrev pub decreases-open_states : goal.decreases-open_states
decreases-open_states l = 4 * lines_of_states (states_of (map state_seen l.states.now)) + 2

abbrev pub invariant-open_eqns-loop-eqn : goal.invariant-open_eqns-loop-eqn
invariant-open_eqns-loop-eqn l =
    record {
      tells : Tells l.initial.cells.cells.items l.cells.cells.items (λ at. ⊤);
      many : length l.cells.cells.items + size_of_all (eqns_of (map eqn_seen (drop l.eqn-index l.eqns))) ≡ length l.initial.cells.cells.items + size_of_all (eqns_of (map eqn_seen l.eqns));
    }

abbrev pub invariant-open_arms-loop-arm : goal.invariant-open_arms-loop-arm
invariant-open_arms-loop-arm l =
    record {
      tells : Tells l.initial.cells.cells.items l.cells.cells.items (λ at. ⊤);
      many : length l.cells.cells.items + size_of_arms (arms_of (map arm_seen (drop l.arm-index l.arms))) ≡ length l.initial.cells.cells.items + size_of_arms (arms_of (map arm_seen l.arms));
    }

abbrev pub invariant-open_states-loop-state : goal.invariant-open_states-loop-state
invariant-open_states-loop-state l =
    record {
      tells : Tells l.initial.cells.cells.items l.cells.cells.items (λ at. ⊤);
      many : length l.cells.cells.items + size_of_states (states_of (map state_seen (drop l.state-index l.states))) ≡ length l.initial.cells.cells.items + size_of_states (states_of (map state_seen l.states));
    }
