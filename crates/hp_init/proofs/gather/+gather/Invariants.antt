use Rattle.std.proofs.Common.{◌≡◌, ◌+◌, ◌*◌, drop, map}
use Rattle.hp_tree.specs.Blocks.{eqns_of, arms_of, states_of}
use Rattle.hp_tree.specs.BlockView.{eqn_seen, arm_seen, state_seen}
use Rattle.hp_tree.specs.Sizes.{lines, lines_of_eqn, lines_of_eqns, lines_of_arms, lines_of_states}
use Rattle.hp_init.specs.Names.{size_of_all, size_of_arms, size_of_states}
use Rattle.hp_init.specs.Asks.{of_eqns, of_arms, of_states}
use Rattle.hp_init.specs.Gathered.{seen_at, seen_outside}
use Rattle.hp_init.specs.Goals.{with_more}
use Rattle.hp_init.proofs.gather.+gather.Given as goal

abbrev pub decreases-gather_block : goal.decreases-gather_block
decreases-gather_block l = 6 * lines l.block.now + 1

abbrev pub decreases-gather_inside : goal.decreases-gather_inside
decreases-gather_inside l = 6 * lines l.block.now

abbrev pub decreases-gather_eqns : goal.decreases-gather_eqns
decreases-gather_eqns l = 6 * lines_of_eqns (eqns_of (map eqn_seen l.eqns.now)) + 1

abbrev pub decreases-gather_eqn : goal.decreases-gather_eqn
decreases-gather_eqn l = 6 * lines_of_eqn (eqn_seen l.eqn.now)

abbrev pub decreases-gather_arms : goal.decreases-gather_arms
decreases-gather_arms l = 6 * lines_of_arms (arms_of (map arm_seen l.arms.now)) + 2

abbrev pub decreases-gather_states : goal.decreases-gather_states
decreases-gather_states l = 6 * lines_of_states (states_of (map state_seen l.states.now)) + 2

abbrev pub decreases-gather_state : goal.decreases-gather_state
decreases-gather_state l = 6 * lines l.state.now.body + 1

abbrev pub invariant-gather_eqns-loop-eqn : goal.invariant-gather_eqns-loop-eqn
invariant-gather_eqns-loop-eqn l =
    record {
      variables : l.gathering.variables.items ≡ l.initial.gathering.variables.items;
      values : l.gathering.values.items ≡ l.initial.gathering.values.items;
      next : l.gathering.next + size_of_all (eqns_of (map eqn_seen (drop l.eqn-index l.eqns))) ≡ l.initial.gathering.next + size_of_all (eqns_of (map eqn_seen l.eqns));
      asks : with_more l.gathering.asks.items (of_eqns (seen_at l.initial.gathering) l.locals.decls.now l.gathering.next (eqns_of (map eqn_seen (drop l.eqn-index l.eqns))))
          ≡ with_more l.initial.gathering.asks.items (of_eqns (seen_at l.initial.gathering) l.locals.decls.now l.initial.gathering.next (eqns_of (map eqn_seen l.eqns)));
    }

abbrev pub invariant-gather_arms-loop-arm : goal.invariant-gather_arms-loop-arm
invariant-gather_arms-loop-arm l =
    record {
      variables : l.gathering.variables.items ≡ l.initial.gathering.variables.items;
      values : l.gathering.values.items ≡ l.initial.gathering.values.items;
      next : l.gathering.next + size_of_arms (arms_of (map arm_seen (drop l.arm-index l.arms))) ≡ l.initial.gathering.next + size_of_arms (arms_of (map arm_seen l.arms));
      asks : with_more l.gathering.asks.items (of_arms (seen_at l.initial.gathering) l.gathering.next (arms_of (map arm_seen (drop l.arm-index l.arms))))
          ≡ with_more l.initial.gathering.asks.items (of_arms (seen_at l.initial.gathering) l.initial.gathering.next (arms_of (map arm_seen l.arms)));
    }

abbrev pub invariant-gather_states-loop-state : goal.invariant-gather_states-loop-state
invariant-gather_states-loop-state l =
    record {
      variables : l.gathering.variables.items ≡ l.initial.gathering.variables.items;
      values : l.gathering.values.items ≡ l.initial.gathering.values.items;
      next : l.gathering.next + size_of_states (states_of (map state_seen (drop l.state-index l.states))) ≡ l.initial.gathering.next + size_of_states (states_of (map state_seen l.states));
      asks : with_more l.gathering.asks.items (of_states (seen_outside l.initial.gathering) (seen_at l.initial.gathering) l.gathering.next (states_of (map state_seen (drop l.state-index l.states))))
          ≡ with_more l.initial.gathering.asks.items (of_states (seen_outside l.initial.gathering) (seen_at l.initial.gathering) l.initial.gathering.next (states_of (map state_seen l.states)));
    }
