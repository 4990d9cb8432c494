use Rattle.std.proofs.Common.{◌≡◌, ◌+◌, ◌++◌, Some, map, drop, sym, ap, ◌∙◌}
use Rattle.hp_tree.specs.Blocks.{eqns_of, arms_of, states_of}
use Rattle.hp_tree.specs.BlockView.{eqn_seen, arm_seen, state_seen}
use Rattle.hp_cause.specs.Gathering.{of_block, of_eqn, of_eqns, of_arms, of_inside, of_state, of_states}
use Rattle.hp_tables.specs.Defining.Layers.{sight}
use Rattle.hp_cause.specs.Told.{facts_seen, front, names_seen, with_more}
use Rattle.hp_cause.specs.Vertices.{own_size, size_inside, size_of, size_of_all, size_of_arms, size_of_states, size_of_tests}
use Rattle.hp_tree.specs.Meaning.{names_of as declared_names}
use Rattle.hp_cause.proofs.GrowLaws.{more-is, numbers-on}
use Rattle.hp_cause.proofs.GatherLaws.{next-eqn, next-arm, next-state, count-eqns, count-arms, count-states, facts-on, numbers-through, numbers-past, no_shorter, as_before}
use Rattle.hp_cause.proofs.gather.+gather.Goals as goal

pub gather_eqns-loop-eqn-preserved : goal.gather_eqns-loop-eqn-preserved
gather_eqns-loop-eqn-preserved t c =
    let first = c.args.scope.now in
    let now = c.loop-eqn.notes in
    let after = c.gather_eqn.new.notes in
    let known = c.loop-eqn.invariant in
    let step = c.in_ok-gather_eqn.ensures in
    let ds = c.args.locals.now.decls.now in
    let eqns = c.args.eqns.now in
    let i = c.loop-eqn.eqn-index in
    let eqn = c.eqn-item.result in
    let rest = eqns_of (map eqn_seen (drop (i + 1) eqns)) in
    let see = sight first.values.items in
    let around = names_seen first.around.names.items in
    let made = facts_seen now.facts.items in
    let control = c.args.control in
    record {
      values = step.values ∙ known.values;
      around = step.around ∙ known.around;
      next = numbers-on c.args.notes.now.next now.next after.next (size_of (eqn_seen eqn)) (size_of_all rest) (size_of_all (eqns_of (map eqn_seen eqns))) (size_of_all (eqns_of (map eqn_seen (drop i eqns))))
          step.next (count-eqns eqns i eqn c.loop-eqn-test.true c.eqn-item.is) known.next;
      facts = facts-on first.values.items c.loop-eqn.scope.values.items around (names_seen c.loop-eqn.scope.around.names.items) made (facts_seen after.facts.items) (now.next + size_of (eqn_seen eqn)) after.next
          (λ out see around. of_eqn see control around ds now.next (eqn_seen eqn)) (λ k. of_eqns see control around ds k rest)
          known.values known.around step.next step.facts
          ∙ sym (next-eqn made see control around ds now.next eqns i eqn c.loop-eqn-test.true c.eqn-item.is)
          ∙ known.facts;
    }

pub gather_arms-loop-arm-preserved : goal.gather_arms-loop-arm-preserved
gather_arms-loop-arm-preserved t c =
    let first = c.args.scope.now in
    let now = c.loop-arm.notes in
    let after = c.gather_block.new.notes in
    let known = c.loop-arm.invariant in
    let step = c.in_ok-gather_block.ensures in
    let arms = c.args.arms.now in
    let i = c.loop-arm.arm-index in
    let arm = c.arm-item.result in
    let rest = arms_of (map arm_seen (drop (i + 1) arms)) in
    let out = sight (front first.values.items) in
    let see = sight first.values.items in
    let around = names_seen first.around.names.items in
    let made = facts_seen now.facts.items in
    let control = Some c.args.control in
    record {
      values = step.values ∙ known.values;
      around = step.around ∙ known.around;
      next = numbers-through c.args.notes.now.next now.next after.next (own_size arm.body) (size_inside arm.body) (size_of_arms rest) (size_of_arms (arms_of (map arm_seen arms))) (size_of_arms (arms_of (map arm_seen (drop i arms))))
          step.next (count-arms arms i arm c.loop-arm-test.true c.arm-item.is) known.next;
      facts = facts-on first.values.items c.loop-arm.scope.values.items around (names_seen c.loop-arm.scope.around.names.items) made (facts_seen after.facts.items) ((now.next + own_size arm.body) + size_inside arm.body) after.next
          (λ out see around. of_block out see control around now.next arm.body) (λ k. of_arms out see control around k rest)
          known.values known.around step.next step.facts
          ∙ sym (next-arm made out see control around now.next arms i arm c.loop-arm-test.true c.arm-item.is)
          ∙ known.facts;
    }

pub gather_states-loop-state-preserved : goal.gather_states-loop-state-preserved
gather_states-loop-state-preserved t c =
    let first = c.args.scope.now in
    let now = c.loop-state.notes in
    let after = c.gather_state.new.notes in
    let known = c.loop-state.invariant in
    let step = c.in_ok-gather_state.ensures in
    let states = c.args.states.now in
    let i = c.loop-state.state-index in
    let state = c.state-item.result in
    let rest = states_of (map state_seen (drop (i + 1) states)) in
    let out = sight (front first.values.items) in
    let see = sight first.values.items in
    let around = names_seen first.around.names.items in
    let made = facts_seen now.facts.items in
    let control = c.args.control in
    let active = c.args.active in
    let next_word = c.args.next_word in
    record {
      values = step.values ∙ known.values;
      around = step.around ∙ known.around;
      next = numbers-past c.args.notes.now.next now.next after.next (own_size state.body) (size_inside state.body) (size_of_tests state.until.items) (size_of_tests state.unless.items) (size_of_states rest)
          (size_of_states (states_of (map state_seen states))) (size_of_states (states_of (map state_seen (drop i states))))
          step.next (count-states states i state c.loop-state-test.true c.state-item.is) known.next;
      facts = facts-on first.values.items c.loop-state.scope.values.items around (names_seen c.loop-state.scope.around.names.items) made (facts_seen after.facts.items)
          ((((now.next + own_size state.body) + size_inside state.body) + size_of_tests state.until.items) + size_of_tests state.unless.items) after.next
          (λ out see around. of_state out control see active next_word around now.next state.body state.until.items state.unless.items) (λ k. of_states out control see active next_word around k rest)
          known.values known.around step.next step.facts
          ∙ sym (next-state made out see control active next_word around now.next states i state c.loop-state-test.true c.state-item.is)
          ∙ known.facts;
    }

pub gather_inside-forget-requires : goal.gather_inside-forget-requires
gather_inside-forget-requires t c =
    let old = c.args.scope.now.around.names.items in
    let inner = c.add_declared.new.self.names.items in
    no_shorter old inner c.gather_eqns.new.scope.around.names.items (declared_names c.deref.result.now) c.len-count.result c.len-count.ensures c.in_ok-add_declared.ensures c.in_ok-gather_eqns.ensures.around

pub gather_inside-returns-clause-around : goal.gather_inside-returns-clause-around
gather_inside-returns-clause-around t c =
    let old = c.args.scope.now.around.names.items in
    let inner = c.add_declared.new.self.names.items in
    c.forget.ensures ∙ as_before old inner c.gather_eqns.new.scope.around.names.items (declared_names c.deref.result.now) c.len-count.result c.len-count.ensures c.in_ok-add_declared.ensures c.in_ok-gather_eqns.ensures.around

pub gather_inside-returns-clause-facts : goal.gather_inside-returns-clause-facts
gather_inside-returns-clause-facts t c =
    let old = names_seen c.args.scope.now.around.names.items in
    let made = facts_seen c.args.notes.now.facts.items in
    let see = sight c.args.scope.now.values.items in
    let control = c.args.control in
    let k = c.args.notes.now.next in
    let ds = c.block.inside.locals.items in
    let es = eqns_of (map eqn_seen c.block.inside.eqns.items) in
    let names : names_seen c.add_declared.new.self.names.items ≡ old ++ declared_names ds =
    c.in_ok-add_declared.ensures ∙ ap (λ decls. with_more old (declared_names decls)) c.deref.ensures.value ∙ more-is old (declared_names ds) in
    let decls : c.in_ok-locals.locals.decls.now ≡ ds = c.in_ok-locals.ensures ∙ c.deref-2.ensures.value in
    c.in_ok-gather_eqns.ensures.facts
    ∙ ap (λ around. with_more made (of_eqns see control around c.in_ok-locals.locals.decls.now k (eqns_of (map eqn_seen c.deref-3.result.now)))) names
    ∙ ap (λ locals. with_more made (of_eqns see control (old ++ declared_names ds) locals k (eqns_of (map eqn_seen c.deref-3.result.now)))) decls
    ∙ ap (λ eqns. with_more made (of_eqns see control (old ++ declared_names ds) ds k (eqns_of (map eqn_seen eqns)))) c.deref-3.ensures.value
    ∙ ap (λ b. with_more made (of_inside see control old k b)) c.block.view_is
