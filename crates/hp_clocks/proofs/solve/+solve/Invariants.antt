use Rattle.std.proofs.Common.{◌≡◌, ◌+◌, ◌*◌, ◌≤◌, length, drop, map}
use Rattle.hp_tree.specs.Blocks.{eqns_of, arms_of, states_of}
use Rattle.hp_tree.specs.BlockView.{eqn_seen, arm_seen, state_seen}
use Rattle.hp_tree.specs.Sizes.{lines, lines_of_eqn, lines_of_eqns, lines_of_arms, lines_of_states}
use Rattle.hp_clocks.specs.Layers.{sight}
use Rattle.hp_clocks.specs.Names.{with_more}
use Rattle.hp_clocks.specs.Units.{size_of_all, size_of_arms, size_of_states, locals_in_all, locals_in_arms, locals_in_states, rights_in_all, rights_in_arms, rights_in_states, units_of_all, units_of_arms, units_of_states}
use Rattle.hp_clocks.specs.Putting.{rights_seen}
use Rattle.hp_clocks.proofs.SolvesLaws.{LeadsTo}
use Rattle.hp_clocks.proofs.solve.+solve.Given as goal

abbrev pub decreases-solve_block : goal.decreases-solve_block
decreases-solve_block l = 6 * lines l.block.now + 1

abbrev pub decreases-solve_entered : goal.decreases-solve_entered
decreases-solve_entered l = 6 * lines l.block.now

abbrev pub decreases-solve_eqns : goal.decreases-solve_eqns
decreases-solve_eqns l = 6 * lines_of_eqns (eqns_of (map eqn_seen l.eqns.now)) + 1

abbrev pub decreases-solve_eqn : goal.decreases-solve_eqn
decreases-solve_eqn l = 6 * lines_of_eqn (eqn_seen l.eqn.now)

abbrev pub decreases-solve_arms : goal.decreases-solve_arms
decreases-solve_arms l = 6 * lines_of_arms (arms_of (map arm_seen l.arms.now)) + 2

abbrev pub decreases-solve_states : goal.decreases-solve_states
decreases-solve_states l = 6 * lines_of_states (states_of (map state_seen l.states.now)) + 2

abbrev pub decreases-solve_state : goal.decreases-solve_state
decreases-solve_state l = 6 * lines l.state.now.body + 1

abbrev pub invariant-solve_eqns-loop-eqn : goal.invariant-solve_eqns-loop-eqn
invariant-solve_eqns-loop-eqn l =
    record {
      layers : l.layers.items ≡ l.initial.layers.items;
      variables : l.solution.variables ≡ l.initial.solution.variables;
      floor : l.initial.solution.variables ≤ length l.solution.cells.cells.items;
      next : l.solution.next + size_of_all (eqns_of (map eqn_seen (drop l.eqn-index l.eqns))) ≡ l.initial.solution.next + size_of_all (eqns_of (map eqn_seen l.eqns));
      locals : with_more l.solution.locals.items (locals_in_all l.solution.next (eqns_of (map eqn_seen (drop l.eqn-index l.eqns)))) ≡ with_more l.initial.solution.locals.items (locals_in_all l.initial.solution.next (eqns_of (map eqn_seen l.eqns)));
      rights : with_more (rights_seen l.solution.rights.items) (rights_in_all l.solution.next (eqns_of (map eqn_seen (drop l.eqn-index l.eqns)))) ≡ with_more (rights_seen l.initial.solution.rights.items) (rights_in_all l.initial.solution.next (eqns_of (map eqn_seen l.eqns)));
      leads : LeadsTo l.initial.solution.variables l.initial.solution.cells.cells.items l.solution.cells.cells.items (units_of_all l.solution.next (eqns_of (map eqn_seen (drop l.eqn-index l.eqns))) (sight l.initial.layers.items)) (units_of_all l.initial.solution.next (eqns_of (map eqn_seen l.eqns)) (sight l.initial.layers.items));
    }

abbrev pub invariant-solve_arms-loop-arm : goal.invariant-solve_arms-loop-arm
invariant-solve_arms-loop-arm l =
    record {
      layers : l.layers.items ≡ l.initial.layers.items;
      variables : l.solution.variables ≡ l.initial.solution.variables;
      floor : l.initial.solution.variables ≤ length l.solution.cells.cells.items;
      next : l.solution.next + size_of_arms (arms_of (map arm_seen (drop l.arm-index l.arms))) ≡ l.initial.solution.next + size_of_arms (arms_of (map arm_seen l.arms));
      locals : with_more l.solution.locals.items (locals_in_arms l.solution.next (arms_of (map arm_seen (drop l.arm-index l.arms)))) ≡ with_more l.initial.solution.locals.items (locals_in_arms l.initial.solution.next (arms_of (map arm_seen l.arms)));
      rights : with_more (rights_seen l.solution.rights.items) (rights_in_arms l.solution.next (arms_of (map arm_seen (drop l.arm-index l.arms)))) ≡ with_more (rights_seen l.initial.solution.rights.items) (rights_in_arms l.initial.solution.next (arms_of (map arm_seen l.arms)));
      leads : LeadsTo l.initial.solution.variables l.initial.solution.cells.cells.items l.solution.cells.cells.items (units_of_arms l.solution.next (arms_of (map arm_seen (drop l.arm-index l.arms))) (sight l.initial.layers.items)) (units_of_arms l.initial.solution.next (arms_of (map arm_seen l.arms)) (sight l.initial.layers.items));
    }

abbrev pub invariant-solve_states-loop-state : goal.invariant-solve_states-loop-state
invariant-solve_states-loop-state l =
    record {
      layers : l.layers.items ≡ l.initial.layers.items;
      variables : l.solution.variables ≡ l.initial.solution.variables;
      floor : l.initial.solution.variables ≤ length l.solution.cells.cells.items;
      next : l.solution.next + size_of_states (states_of (map state_seen (drop l.state-index l.states))) ≡ l.initial.solution.next + size_of_states (states_of (map state_seen l.states));
      locals : with_more l.solution.locals.items (locals_in_states l.solution.next (states_of (map state_seen (drop l.state-index l.states)))) ≡ with_more l.initial.solution.locals.items (locals_in_states l.initial.solution.next (states_of (map state_seen l.states)));
      rights : with_more (rights_seen l.solution.rights.items) (rights_in_states l.solution.next (states_of (map state_seen (drop l.state-index l.states)))) ≡ with_more (rights_seen l.initial.solution.rights.items) (rights_in_states l.initial.solution.next (states_of (map state_seen l.states)));
      leads : LeadsTo l.initial.solution.variables l.initial.solution.cells.cells.items l.solution.cells.cells.items (units_of_states l.solution.next (states_of (map state_seen (drop l.state-index l.states))) (sight l.initial.layers.items)) (units_of_states l.initial.solution.next (states_of (map state_seen l.states)) (sight l.initial.layers.items));
    }
