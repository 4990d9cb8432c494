use Rattle.std.proofs.Common.{◌≡◌, ◌+◌, ◌*◌, Some, drop, map}
use Rattle.hp_tree.specs.Blocks.{eqns_of, arms_of, states_of}
use Rattle.hp_tree.specs.BlockView.{eqn_seen, arm_seen, state_seen}
use Rattle.hp_tree.specs.Sizes.{lines, lines_of_eqn, lines_of_eqns, lines_of_arms, lines_of_states}
use Rattle.hp_cause.specs.Gathering.{of_eqns, of_arms, of_states}
use Rattle.hp_tables.specs.Defining.Layers.{sight}
use Rattle.hp_cause.specs.Told.{facts_seen, front, names_seen, with_more}
use Rattle.hp_cause.specs.Vertices.{size_of_all, size_of_arms, size_of_states}
use Rattle.hp_cause.proofs.gather.+gather.Given as goal

abbrev pub decreases-gather_block : goal.decreases-gather_block
decreases-gather_block l = 6 * lines l.block.now + 1

abbrev pub decreases-gather_inside : goal.decreases-gather_inside
decreases-gather_inside l = 6 * lines l.block.now

abbrev pub decreases-gather_eqns : goal.decreases-gather_eqns
decreases-gather_eqns l = 6 * lines_of_eqns (eqns_of (map eqn_seen l.eqns.now)) + 1

abbrev pub decreases-gather_eqn : goal.decreases-gather_eqn
decreases-gather_eqn l = 6 * lines_of_eqn (eqn_seen l.eqn.now)

abbrev pub decreases-gather_arms : goal.decreases-gather_arms
decreases-gather_arms l = 6 * lines_of_arms (arms_of (map arm_seen l.arms.now)) + 2

abbrev pub decreases-gather_states : goal.decreases-gather_states
decreases-gather_states l = 6 * lines_of_states (states_of (map state_seen l.states.now)) + 2

abbrev pub decreases-gather_state : goal.decreases-gather_state
decreases-gather_state l = 6 * lines l.state.now.body + 1

abbrev pub invariant-gather_eqns-loop-eqn : goal.invariant-gather_eqns-loop-eqn
invariant-gather_eqns-loop-eqn l =
    record {
      values : l.scope.values.items ≡ l.initial.scope.values.items;
      around : names_seen l.scope.around.names.items ≡ names_seen l.initial.scope.around.names.items;
      next : l.notes.next + size_of_all (eqns_of (map eqn_seen (drop l.eqn-index l.eqns))) ≡ l.initial.notes.next + size_of_all (eqns_of (map eqn_seen l.eqns));
      facts : with_more (facts_seen l.notes.facts.items) (of_eqns (sight l.initial.scope.values.items) l.control (names_seen l.initial.scope.around.names.items) l.locals.decls.now l.notes.next (eqns_of (map eqn_seen (drop l.eqn-index l.eqns))))
          ≡ with_more (facts_seen l.initial.notes.facts.items) (of_eqns (sight l.initial.scope.values.items) l.control (names_seen l.initial.scope.around.names.items) l.locals.decls.now l.initial.notes.next (eqns_of (map eqn_seen l.eqns)));
    }

abbrev pub invariant-gather_arms-loop-arm : goal.invariant-gather_arms-loop-arm
invariant-gather_arms-loop-arm l =
    record {
      values : l.scope.values.items ≡ l.initial.scope.values.items;
      around : names_seen l.scope.around.names.items ≡ names_seen l.initial.scope.around.names.items;
      next : l.notes.next + size_of_arms (arms_of (map arm_seen (drop l.arm-index l.arms))) ≡ l.initial.notes.next + size_of_arms (arms_of (map arm_seen l.arms));
      facts : with_more (facts_seen l.notes.facts.items) (of_arms (sight (front l.initial.scope.values.items)) (sight l.initial.scope.values.items) (Some l.control) (names_seen l.initial.scope.around.names.items) l.notes.next (arms_of (map arm_seen (drop l.arm-index l.arms))))
          ≡ with_more (facts_seen l.initial.notes.facts.items) (of_arms (sight (front l.initial.scope.values.items)) (sight l.initial.scope.values.items) (Some l.control) (names_seen l.initial.scope.around.names.items) l.initial.notes.next (arms_of (map arm_seen l.arms)));
    }

abbrev pub invariant-gather_states-loop-state : goal.invariant-gather_states-loop-state
invariant-gather_states-loop-state l =
    record {
      values : l.scope.values.items ≡ l.initial.scope.values.items;
      around : names_seen l.scope.around.names.items ≡ names_seen l.initial.scope.around.names.items;
      next : l.notes.next + size_of_states (states_of (map state_seen (drop l.state-index l.states))) ≡ l.initial.notes.next + size_of_states (states_of (map state_seen l.states));
      facts : with_more (facts_seen l.notes.facts.items) (of_states (sight (front l.initial.scope.values.items)) l.control (sight l.initial.scope.values.items) l.active l.next_word (names_seen l.initial.scope.around.names.items) l.notes.next (states_of (map state_seen (drop l.state-index l.states))))
          ≡ with_more (facts_seen l.initial.notes.facts.items) (of_states (sight (front l.initial.scope.values.items)) l.control (sight l.initial.scope.values.items) l.active l.next_word (names_seen l.initial.scope.around.names.items) l.initial.notes.next (states_of (map state_seen l.states)));
    }
