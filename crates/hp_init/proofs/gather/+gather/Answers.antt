use Rattle.std.proofs.Common.{◌+◌, map, drop, sym, ap, ◌∙◌}
use Rattle.hp_tree.specs.Blocks.{eqns_of, arms_of, states_of}
use Rattle.hp_tree.specs.BlockView.{eqn_seen, arm_seen, state_seen}
use Rattle.hp_init.specs.Names.{size, size_of, size_of_all, size_of_arms, size_of_states}
use Rattle.hp_init.specs.Asks.{of_block, of_eqn, of_eqns, of_arms, of_states}
use Rattle.hp_init.specs.Gathered.{front, seen_at, seen_outside, of_state}
use Rattle.hp_init.proofs.GatherLaws.{asked-eqns, asked-arms, asked-states, sized-eqns, sized-arms, sized-states, numbers-on, asks-on, switched, resetted, automated}
use Rattle.hp_init.proofs.gather.+gather.Goals as goal

pub gather_arms-loop-arm-preserved : goal.gather_arms-loop-arm-preserved
gather_arms-loop-arm-preserved t c =
    let first = c.args.gathering.now in
    let now = c.loop-arm.gathering in
    let after = c.gather_block.new.gathering in
    let known = c.loop-arm.invariant in
    let step = c.in_ok-gather_block.ensures in
    let arms = c.args.arms.now in
    let i = c.loop-arm.arm-index in
    let arm = c.arm-item.result in
    let rest = arms_of (map arm_seen (drop (i + 1) arms)) in
    record {
      variables = step.variables ∙ known.variables;
      values = step.values ∙ known.values;
      next = numbers-on first.next now.next after.next (size arm.body) (size_of_arms rest) (size_of_arms (arms_of (map arm_seen arms))) (size_of_arms (arms_of (map arm_seen (drop i arms))))
          step.next (sized-arms arms i arm c.loop-arm-test.true c.arm-item.is) known.next;
      asks = asks-on first now after (λ out see. of_block see now.next arm.body) (λ k. of_arms (seen_at first) k rest) (size arm.body) known.variables known.values step.next step.asks
          ∙ sym (asked-arms now.asks.items now.next (seen_at first) arms i arm c.loop-arm-test.true c.arm-item.is)
          ∙ known.asks;
    }

pub gather_eqns-loop-eqn-preserved : goal.gather_eqns-loop-eqn-preserved
gather_eqns-loop-eqn-preserved t c =
    let first = c.args.gathering.now in
    let now = c.loop-eqn.gathering in
    let after = c.gather_eqn.new.gathering in
    let known = c.loop-eqn.invariant in
    let step = c.in_ok-gather_eqn.ensures in
    let ds = c.args.locals.now.decls.now in
    let eqns = c.args.eqns.now in
    let i = c.loop-eqn.eqn-index in
    let eqn = c.eqn-item.result in
    let rest = eqns_of (map eqn_seen (drop (i + 1) eqns)) in
    record {
      variables = step.variables ∙ known.variables;
      values = step.values ∙ known.values;
      next = numbers-on first.next now.next after.next (size_of (eqn_seen eqn)) (size_of_all rest) (size_of_all (eqns_of (map eqn_seen eqns))) (size_of_all (eqns_of (map eqn_seen (drop i eqns))))
          step.next (sized-eqns eqns i eqn c.loop-eqn-test.true c.eqn-item.is) known.next;
      asks = asks-on first now after (λ out see. of_eqn see ds now.next (eqn_seen eqn)) (λ k. of_eqns (seen_at first) ds k rest) (size_of (eqn_seen eqn)) known.variables known.values step.next step.asks
          ∙ sym (asked-eqns now.asks.items now.next (seen_at first) ds eqns i eqn c.loop-eqn-test.true c.eqn-item.is)
          ∙ known.asks;
    }

pub gather_states-loop-state-preserved : goal.gather_states-loop-state-preserved
gather_states-loop-state-preserved t c =
    let first = c.args.gathering.now in
    let now = c.loop-state.gathering in
    let after = c.gather_state.new.gathering in
    let known = c.loop-state.invariant in
    let step = c.in_ok-gather_state.ensures in
    let states = c.args.states.now in
    let i = c.loop-state.state-index in
    let state = c.state-item.result in
    let rest = states_of (map state_seen (drop (i + 1) states)) in
    record {
      variables = step.variables ∙ known.variables;
      values = step.values ∙ known.values;
      next = numbers-on first.next now.next after.next (size state.body) (size_of_states rest) (size_of_states (states_of (map state_seen states))) (size_of_states (states_of (map state_seen (drop i states))))
          step.next (sized-states states i state c.loop-state-test.true c.state-item.is) known.next;
      asks = asks-on first now after (λ out see. of_state out see now.next state.body state.until.items state.unless.items) (λ k. of_states (seen_outside first) (seen_at first) k rest) (size state.body)
          known.variables known.values step.next step.asks
          ∙ sym (asked-states now.asks.items now.next (seen_outside first) (seen_at first) states i state c.loop-state-test.true c.state-item.is)
          ∙ known.asks;
    }

pub gather_eqn-returns-in_ok-gather_arms-in-Switch-clause-asks : goal.gather_eqn-returns-in_ok-gather_arms-in-Switch-clause-asks
gather_eqn-returns-in_ok-gather_arms-in-Switch-clause-asks t c =
    let first = c.args.gathering.now in
    let entered = c.in_ok-enter_control-in-Switch.ensures in
    switched first.variables.items first.values.items c.enter_control.new.values.items c.deref-in-Switch.result.now c.args.locals.now.decls.now first.next first.asks.items c.gather_test.new.asks.items
    c.gather_arms.new.gathering.asks.items (eqn_seen c.args.eqn.now) entered.seen c.in-Switch.span c.in-Switch.cond (arms_of (map arm_seen c.in-Switch.arms.items)) (arms_of (map arm_seen c.deref-in-Switch-2.result.now))
    (ap eqn_seen c.in-Switch.is) c.deref-in-Switch.ensures.value (ap (λ arms. arms_of (map arm_seen arms)) c.deref-in-Switch-2.ensures.value) c.in_ok-gather_test-in-Switch.ensures
    c.in_ok-gather_arms-in-Switch.ensures.asks

pub gather_eqn-returns-in_ok-gather_test-in-Reset-clause-asks : goal.gather_eqn-returns-in_ok-gather_test-in-Reset-clause-asks
gather_eqn-returns-in_ok-gather_test-in-Reset-clause-asks t c =
    let first = c.args.gathering.now in
    let entered = c.in_ok-enter_control-in-Reset.ensures in
    let body = c.in_ok-gather_block-in-Reset.ensures in
    resetted first.variables.items first.values.items c.enter_control-in-Reset.new.values.items c.deref-in-Reset.result.now c.args.locals.now.decls.now first.next first.asks.items
    c.gather_block.new.gathering.asks.items c.gather_test-in-Reset.new.asks.items (eqn_seen c.args.eqn.now) entered.seen c.in-Reset.span c.in-Reset.body c.in-Reset.cond (ap eqn_seen c.in-Reset.is)
    (c.deref-in-Reset.ensures.value ∙ c.leave_layer-in-Reset.ensures ∙ ap front body.values ∙ entered.values) body.asks c.in_ok-gather_test-in-Reset.ensures

pub gather_eqn-returns-in_ok-gather_states-in-Automaton-clause-asks : goal.gather_eqn-returns-in_ok-gather_states-in-Automaton-clause-asks
gather_eqn-returns-in_ok-gather_states-in-Automaton-clause-asks t c =
    let first = c.args.gathering.now in
    let entered = c.in_ok-enter_control-in-Automaton.ensures in
    automated first.variables.items first.values.items c.enter_control-in-Automaton.new.values.items first.values.items c.args.locals.now.decls.now first.next first.asks.items first.asks.items
    c.gather_states.new.gathering.asks.items (eqn_seen c.args.eqn.now) entered.seen c.in-Automaton.span (states_of (map state_seen c.in-Automaton.states.items)) (states_of (map state_seen c.deref-in-Automaton.result.now))
    (ap eqn_seen c.in-Automaton.is) entered.values (ap (λ states. states_of (map state_seen states)) c.deref-in-Automaton.ensures.value) c.in_ok-gather_states-in-Automaton.ensures.asks
