use Rattle.std.proofs.Common.{ℕ, ◌≡◌, ◌+◌, ◌<◌, ◌≤◌, List, [], ◌∷◌, ◌++◌, length, drop, map, All, Err, refl, sym, ap, ◌∙◌, subst, arith}
use Rattle.hp_tree.specs.Blocks.{eqns_of, arms_of, states_of}
use Rattle.hp_tree.specs.BlockView.{eqn_seen, arm_seen, state_seen}
use Rattle.hp_tree.specs.Sizes.{lines, lines_of_eqn, lines_of_eqns, lines_of_arms, lines_of_states}
use Rattle.hp_tree.specs.declared.block.Eqn.{Eqn as CodeEqn}
use Rattle.hp_tree.specs.declared.block.Arm.{Arm as CodeArm}
use Rattle.hp_tree.specs.declared.block.State.{State as CodeState}
use Rattle.hp_tree.proofs.BlockLists.{lines-at_eqn, lines-at_arm, lines-at_state}
use Rattle.hp_meaning.specs.Causal.Points.{span_of}
use Rattle.hp_clocks.specs.declared.layer.Layer.{Layer}
use Rattle.hp_clocks.specs.Layers.{sight}
use Rattle.hp_clocks.specs.Names.{with_more}
use Rattle.hp_clocks.specs.Units.{Right, tested, size, size_of, size_of_all, sight_of, conditions, units, units_of_all, units_of_one, units_of_arms, units_of_states, rights_in_one, rights_in_arms, test_of}
use Rattle.hp_clocks.specs.Putting.{own_size, own_locals, declared_units, rights_seen}
use Rattle.hp_clocks.proofs.Leading.{drop_end}
use Rattle.hp_clocks.proofs.DefinedLaws.{ok_then}
use Rattle.hp_clocks.proofs.NamedLaws.{more-append}
use Rattle.hp_clocks.proofs.SizeLaws.{sized_eqns, sized_arms, sized_states}
use Rattle.hp_clocks.proofs.BoundLaws.{own_below}
use Rattle.hp_clocks.proofs.SolvesLaws.{solves_then, stops, solves_like, solves_handed, solves_as, puts_as, leads_to_next, leads_to_error, leads_to_end}
use Rattle.hp_clocks.proofs.EndLaws.{ready_now, ready_entered, ready_end, own_many, own_listed, own_size_is, size_is, lines_is, block_units, eqns_next, arms_next, states_next, eqns_locals, arms_locals, states_locals, eqns_rights, arms_rights, states_rights}
use Rattle.hp_clocks.proofs.solve.+solve.Goals as goal

pub solve_eqns-solve_eqn-requires : goal.solve_eqns-solve_eqn-requires
solve_eqns-solve_eqn-requires t c =
    let old = c.args.solution.now in
    let now = c.loop-eqn.solution in
    let known = c.loop-eqn.invariant in
    let xs = c.args.eqns.now in
    let i = c.loop-eqn.eqn-index in
    let x = c.eqn-item.result in
    let see = sight c.args.layers.now.items in
    let sized = sized_eqns xs i x c.loop-eqn-test.true c.eqn-item.is in
    let fewer = subst (λ (z : CodeEqn). lines_of_eqn (eqn_seen z) ≤ lines_of_eqns (eqns_of (map eqn_seen xs))) (sym c.eqn-item.is) (lines-at_eqn xs i x c.loop-eqn-test.true) in (
      omega (arith, fewer, c.decreases),
      (ready_now old.variables now.variables now.cells.cells.items c.args.layers.now.items c.loop-eqn.layers.items old.cells.cells.items known.variables known.layers c.requires.ready known.leads.cells known.floor, omega (arith, sized, known.next, known.variables, c.requires.room)),
    )

pub solve_eqns-returns-in_err-solve_eqn-clause-solves : goal.solve_eqns-returns-in_err-solve_eqn-clause-solves
solve_eqns-returns-in_err-solve_eqn-clause-solves t c =
    let old = c.args.solution.now in
    let now = c.loop-eqn.solution in
    let known = c.loop-eqn.invariant in
    let xs = c.args.eqns.now in
    let i = c.loop-eqn.eqn-index in
    let x = c.eqn-item.result in
    let see = sight c.args.layers.now.items in
    let sized = sized_eqns xs i x c.loop-eqn-test.true c.eqn-item.is in
    let e = c.in_err-solve_eqn.field-0.0 in
    let ds = now.cells.cells.items in
    let es = c.solve_eqn.new.solution.cells.cells.items in
    let us = units_of_one now.next (eqn_seen x) see in
    solves_handed old.variables old.cells.cells.items es (units_of_all old.next (eqns_of (map eqn_seen xs)) see) c.from_residual.result e c.from_residual.ensures.1
    (leads_to_error old.variables old.cells.cells.items ds es es us (units_of_all (now.next + size_of (eqn_seen x)) (eqns_of (map eqn_seen (drop (i + 1) xs))) see) (units_of_all now.next (eqns_of (map eqn_seen (drop i xs))) see) (units_of_all old.next (eqns_of (map eqn_seen xs)) see) e (eqns_next see now.next (now.next + size_of (eqn_seen x)) xs i x c.loop-eqn-test.true c.eqn-item.is refl) known.leads
    (solves_as old.variables now.variables ds ds es (units_of_one now.next (eqn_seen x) (sight c.loop-eqn.layers.items)) us (Err e) known.variables refl (ap (λ ls. units_of_one now.next (eqn_seen x) (sight ls)) known.layers) c.in_err-solve_eqn.ensures.solves))

pub solve_eqns-loop-eqn-preserved : goal.solve_eqns-loop-eqn-preserved
solve_eqns-loop-eqn-preserved t c =
    let old = c.args.solution.now in
    let now = c.loop-eqn.solution in
    let known = c.loop-eqn.invariant in
    let xs = c.args.eqns.now in
    let i = c.loop-eqn.eqn-index in
    let x = c.eqn-item.result in
    let see = sight c.args.layers.now.items in
    let sized = sized_eqns xs i x c.loop-eqn-test.true c.eqn-item.is in
    let after = c.solve_eqn.new.solution in
    let step = c.in_ok-solve_eqn.ensures in
    let ds = now.cells.cells.items in
    let es = after.cells.cells.items in
    let us = units_of_one now.next (eqn_seen x) see in
    let puts = puts_as old.variables now.variables ds ds es (units_of_one now.next (eqn_seen x) (sight c.loop-eqn.layers.items)) us known.variables refl (ap (λ ls. units_of_one now.next (eqn_seen x) (sight ls)) known.layers) step.solves in
    record {
      layers = ◌∙◌ {A = List Layer} step.layers known.layers;
      variables = step.variables ∙ known.variables;
      floor = omega (arith, known.floor, puts.grows.longer);
      next = omega (arith, sized, known.next, step.next);
      locals = ◌∙◌ {A = List ℕ} (eqns_locals now.locals.items after.locals.items now.next after.next xs i x c.loop-eqn-test.true c.eqn-item.is step.next step.locals) known.locals;
      rights = ◌∙◌ {A = List Right} (eqns_rights (rights_seen now.rights.items) (rights_seen after.rights.items) now.next after.next xs i x c.loop-eqn-test.true c.eqn-item.is step.next step.rights) known.rights;
      leads = leads_to_next old.variables old.cells.cells.items ds es us (units_of_all after.next (eqns_of (map eqn_seen (drop (i + 1) xs))) see) (units_of_all now.next (eqns_of (map eqn_seen (drop i xs))) see) (units_of_all old.next (eqns_of (map eqn_seen xs)) see) (eqns_next see now.next after.next xs i x c.loop-eqn-test.true c.eqn-item.is step.next) known.leads puts;
    }

pub solve_eqns-returns-clause-solves : goal.solve_eqns-returns-clause-solves
solve_eqns-returns-clause-solves t c =
    let old = c.args.solution.now in
    let now = c.loop-eqn.solution in
    let known = c.loop-eqn.invariant in
    let xs = c.args.eqns.now in
    let i = c.loop-eqn.eqn-index in
    let see = sight c.args.layers.now.items in
    leads_to_end old.variables old.cells.cells.items now.cells.cells.items (units_of_all now.next (eqns_of (map eqn_seen (drop i xs))) see) (units_of_all old.next (eqns_of (map eqn_seen xs)) see) tt (ap (λ (more : List CodeEqn). units_of_all now.next (eqns_of (map eqn_seen more)) see) (drop_end xs i c.loop-eqn-test.false)) known.floor known.leads

pub solve_arms-solve_block-requires : goal.solve_arms-solve_block-requires
solve_arms-solve_block-requires t c =
    let old = c.args.solution.now in
    let now = c.loop-arm.solution in
    let known = c.loop-arm.invariant in
    let xs = c.args.arms.now in
    let i = c.loop-arm.arm-index in
    let x = c.arm-item.result in
    let see = sight c.args.layers.now.items in
    let sized = sized_arms xs i x c.loop-arm-test.true c.arm-item.is in
    let fewer = subst (λ (z : CodeArm). lines z.body ≤ lines_of_arms (arms_of (map arm_seen xs))) (sym c.arm-item.is) (lines-at_arm xs i x c.loop-arm-test.true) in (
      omega (arith, fewer, c.decreases),
      (ready_now old.variables now.variables now.cells.cells.items c.args.layers.now.items c.loop-arm.layers.items old.cells.cells.items known.variables known.layers c.requires.ready known.leads.cells known.floor, omega (arith, sized, known.next, known.variables, c.requires.room)),
    )

pub solve_arms-returns-in_err-solve_block-clause-solves : goal.solve_arms-returns-in_err-solve_block-clause-solves
solve_arms-returns-in_err-solve_block-clause-solves t c =
    let old = c.args.solution.now in
    let now = c.loop-arm.solution in
    let known = c.loop-arm.invariant in
    let xs = c.args.arms.now in
    let i = c.loop-arm.arm-index in
    let x = c.arm-item.result in
    let see = sight c.args.layers.now.items in
    let sized = sized_arms xs i x c.loop-arm-test.true c.arm-item.is in
    let e = c.in_err-solve_block.field-0.0 in
    let ds = now.cells.cells.items in
    let es = c.solve_block.new.solution.cells.cells.items in
    let us = units now.next x.body see in
    solves_handed old.variables old.cells.cells.items es (units_of_arms old.next (arms_of (map arm_seen xs)) see) c.from_residual.result e c.from_residual.ensures.1
    (leads_to_error old.variables old.cells.cells.items ds es es us (units_of_arms (now.next + size x.body) (arms_of (map arm_seen (drop (i + 1) xs))) see) (units_of_arms now.next (arms_of (map arm_seen (drop i xs))) see) (units_of_arms old.next (arms_of (map arm_seen xs)) see) e (arms_next see now.next (now.next + size x.body) xs i x c.loop-arm-test.true c.arm-item.is refl) known.leads
    (solves_as old.variables now.variables ds ds es (units now.next x.body (sight c.loop-arm.layers.items)) us (Err e) known.variables refl (ap (λ ls. units now.next x.body (sight ls)) known.layers) c.in_err-solve_block.ensures.solves))

pub solve_arms-loop-arm-preserved : goal.solve_arms-loop-arm-preserved
solve_arms-loop-arm-preserved t c =
    let old = c.args.solution.now in
    let now = c.loop-arm.solution in
    let known = c.loop-arm.invariant in
    let xs = c.args.arms.now in
    let i = c.loop-arm.arm-index in
    let x = c.arm-item.result in
    let see = sight c.args.layers.now.items in
    let sized = sized_arms xs i x c.loop-arm-test.true c.arm-item.is in
    let after = c.solve_block.new.solution in
    let step = c.in_ok-solve_block.ensures in
    let ds = now.cells.cells.items in
    let es = after.cells.cells.items in
    let us = units now.next x.body see in
    let puts = puts_as old.variables now.variables ds ds es (units now.next x.body (sight c.loop-arm.layers.items)) us known.variables refl (ap (λ ls. units now.next x.body (sight ls)) known.layers) step.solves in
    record {
      layers = ◌∙◌ {A = List Layer} step.layers known.layers;
      variables = step.variables ∙ known.variables;
      floor = omega (arith, known.floor, puts.grows.longer);
      next = omega (arith, sized, known.next, step.next);
      locals = ◌∙◌ {A = List ℕ} (arms_locals now.locals.items after.locals.items now.next after.next xs i x c.loop-arm-test.true c.arm-item.is step.next step.locals) known.locals;
      rights = ◌∙◌ {A = List Right} (arms_rights (rights_seen now.rights.items) (rights_seen after.rights.items) now.next after.next xs i x c.loop-arm-test.true c.arm-item.is step.next step.rights) known.rights;
      leads = leads_to_next old.variables old.cells.cells.items ds es us (units_of_arms after.next (arms_of (map arm_seen (drop (i + 1) xs))) see) (units_of_arms now.next (arms_of (map arm_seen (drop i xs))) see) (units_of_arms old.next (arms_of (map arm_seen xs)) see) (arms_next see now.next after.next xs i x c.loop-arm-test.true c.arm-item.is step.next) known.leads puts;
    }

pub solve_arms-returns-clause-solves : goal.solve_arms-returns-clause-solves
solve_arms-returns-clause-solves t c =
    let old = c.args.solution.now in
    let now = c.loop-arm.solution in
    let known = c.loop-arm.invariant in
    let xs = c.args.arms.now in
    let i = c.loop-arm.arm-index in
    let see = sight c.args.layers.now.items in
    leads_to_end old.variables old.cells.cells.items now.cells.cells.items (units_of_arms now.next (arms_of (map arm_seen (drop i xs))) see) (units_of_arms old.next (arms_of (map arm_seen xs)) see) tt (ap (λ (more : List CodeArm). units_of_arms now.next (arms_of (map arm_seen more)) see) (drop_end xs i c.loop-arm-test.false)) known.floor known.leads

pub solve_states-solve_state-requires : goal.solve_states-solve_state-requires
solve_states-solve_state-requires t c =
    let old = c.args.solution.now in
    let now = c.loop-state.solution in
    let known = c.loop-state.invariant in
    let xs = c.args.states.now in
    let i = c.loop-state.state-index in
    let x = c.state-item.result in
    let see = sight c.args.layers.now.items in
    let sized = sized_states xs i x c.loop-state-test.true c.state-item.is in
    let fewer = subst (λ (z : CodeState). lines z.body ≤ lines_of_states (states_of (map state_seen xs))) (sym c.state-item.is) (lines-at_state xs i x c.loop-state-test.true) in (
      omega (arith, fewer, c.decreases),
      (ready_now old.variables now.variables now.cells.cells.items c.args.layers.now.items c.loop-state.layers.items old.cells.cells.items known.variables known.layers c.requires.ready known.leads.cells known.floor, omega (arith, sized, known.next, known.variables, c.requires.room)),
    )

pub solve_states-returns-in_err-solve_state-clause-solves : goal.solve_states-returns-in_err-solve_state-clause-solves
solve_states-returns-in_err-solve_state-clause-solves t c =
    let old = c.args.solution.now in
    let now = c.loop-state.solution in
    let known = c.loop-state.invariant in
    let xs = c.args.states.now in
    let i = c.loop-state.state-index in
    let x = c.state-item.result in
    let see = sight c.args.layers.now.items in
    let sized = sized_states xs i x c.loop-state-test.true c.state-item.is in
    let e = c.in_err-solve_state.field-0.0 in
    let ds = now.cells.cells.items in
    let es = c.solve_state.new.solution.cells.cells.items in
    let us = units now.next x.body see ++ (conditions (sight_of now.next x.body see) x.until.items ++ conditions see x.unless.items) in
    solves_handed old.variables old.cells.cells.items es (units_of_states old.next (states_of (map state_seen xs)) see) c.from_residual.result e c.from_residual.ensures.1
    (leads_to_error old.variables old.cells.cells.items ds es es us (units_of_states (now.next + size x.body) (states_of (map state_seen (drop (i + 1) xs))) see) (units_of_states now.next (states_of (map state_seen (drop i xs))) see) (units_of_states old.next (states_of (map state_seen xs)) see) e (states_next see now.next (now.next + size x.body) xs i x c.loop-state-test.true c.state-item.is refl) known.leads
    (solves_as old.variables now.variables ds ds es (units now.next x.body (sight c.loop-state.layers.items) ++ (conditions (sight_of now.next x.body (sight c.loop-state.layers.items)) x.until.items ++ conditions (sight c.loop-state.layers.items) x.unless.items)) us (Err e) known.variables refl (ap (λ ls. units now.next x.body (sight ls) ++ (conditions (sight_of now.next x.body (sight ls)) x.until.items ++ conditions (sight ls) x.unless.items)) known.layers) c.in_err-solve_state.ensures.solves))

pub solve_states-loop-state-preserved : goal.solve_states-loop-state-preserved
solve_states-loop-state-preserved t c =
    let old = c.args.solution.now in
    let now = c.loop-state.solution in
    let known = c.loop-state.invariant in
    let xs = c.args.states.now in
    let i = c.loop-state.state-index in
    let x = c.state-item.result in
    let see = sight c.args.layers.now.items in
    let sized = sized_states xs i x c.loop-state-test.true c.state-item.is in
    let after = c.solve_state.new.solution in
    let step = c.in_ok-solve_state.ensures in
    let ds = now.cells.cells.items in
    let es = after.cells.cells.items in
    let us = units now.next x.body see ++ (conditions (sight_of now.next x.body see) x.until.items ++ conditions see x.unless.items) in
    let puts = puts_as old.variables now.variables ds ds es (units now.next x.body (sight c.loop-state.layers.items) ++ (conditions (sight_of now.next x.body (sight c.loop-state.layers.items)) x.until.items ++ conditions (sight c.loop-state.layers.items) x.unless.items)) us known.variables refl (ap (λ ls. units now.next x.body (sight ls) ++ (conditions (sight_of now.next x.body (sight ls)) x.until.items ++ conditions (sight ls) x.unless.items)) known.layers) step.solves in
    record {
      layers = ◌∙◌ {A = List Layer} step.layers known.layers;
      variables = step.variables ∙ known.variables;
      floor = omega (arith, known.floor, puts.grows.longer);
      next = omega (arith, sized, known.next, step.next);
      locals = ◌∙◌ {A = List ℕ} (states_locals now.locals.items after.locals.items now.next after.next xs i x c.loop-state-test.true c.state-item.is step.next step.locals) known.locals;
      rights = ◌∙◌ {A = List Right} (states_rights (rights_seen now.rights.items) (rights_seen after.rights.items) now.next after.next xs i x c.loop-state-test.true c.state-item.is step.next step.rights) known.rights;
      leads = leads_to_next old.variables old.cells.cells.items ds es us (units_of_states after.next (states_of (map state_seen (drop (i + 1) xs))) see) (units_of_states now.next (states_of (map state_seen (drop i xs))) see) (units_of_states old.next (states_of (map state_seen xs)) see) (states_next see now.next after.next xs i x c.loop-state-test.true c.state-item.is step.next) known.leads puts;
    }

pub solve_states-returns-clause-solves : goal.solve_states-returns-clause-solves
solve_states-returns-clause-solves t c =
    let old = c.args.solution.now in
    let now = c.loop-state.solution in
    let known = c.loop-state.invariant in
    let xs = c.args.states.now in
    let i = c.loop-state.state-index in
    let see = sight c.args.layers.now.items in
    leads_to_end old.variables old.cells.cells.items now.cells.cells.items (units_of_states now.next (states_of (map state_seen (drop i xs))) see) (units_of_states old.next (states_of (map state_seen xs)) see) tt (ap (λ (more : List CodeState). units_of_states now.next (states_of (map state_seen more)) see) (drop_end xs i c.loop-state-test.false)) known.floor known.leads

pub solve_entered-solve_decls-requires-clause-ready : goal.solve_entered-solve_decls-requires-clause-ready
solve_entered-solve_decls-requires-clause-ready t c =
    let old = c.args.solution.now in
    let b = c.args.block.now in
    let ds = c.block.inside.locals.items in
    let es = eqns_of (map eqn_seen c.block.inside.eqns.items) in
    let enter = c.enter.new.solution in
    let step = c.in_ok-enter.ensures in
    let k = old.next in
    let out = sight c.args.layers.now.items in
    let inner = sight c.enter.new.layers.items in
    let first = c.len-first.result in
    let is = drop first enter.locals.items in
    let many : first ≡ length old.locals.items = omega (arith, c.len-first.ensures, old.locals.ok.0) in
    let own = own_size_is b ds es c.block.view_is in
    let whole = size_is b ds es c.block.view_is in
    let room : k + own_size b ≤ old.variables = omega (arith, own, whole, c.requires.room) in
    ready_entered old.variables enter.variables old.cells.cells.items enter.cells.cells.items k b out (sight c.deref.result.now) step.variables step.cells (ap sight c.deref.ensures.value ∙ step.seen) room c.requires.ready

pub solve_entered-solve_decls-requires-clause-listed : goal.solve_entered-solve_decls-requires-clause-listed
solve_entered-solve_decls-requires-clause-listed t c =
    let old = c.args.solution.now in
    let b = c.args.block.now in
    let ds = c.block.inside.locals.items in
    let es = eqns_of (map eqn_seen c.block.inside.eqns.items) in
    let enter = c.enter.new.solution in
    let step = c.in_ok-enter.ensures in
    let k = old.next in
    let out = sight c.args.layers.now.items in
    let inner = sight c.enter.new.layers.items in
    let first = c.len-first.result in
    let is = drop first enter.locals.items in
    let many : first ≡ length old.locals.items = omega (arith, c.len-first.ensures, old.locals.ok.0) in
    let own = own_size_is b ds es c.block.view_is in
    let whole = size_is b ds es c.block.view_is in
    let room : k + own_size b ≤ old.variables = omega (arith, own, whole, c.requires.room) in
    let all = own_many old.locals.items enter.locals.items k b first many step.locals in
    let same : length c.deref-2.result.now ≡ length ds = ap length c.deref-2.ensures.value in
    omega (arith, all, own, same)

pub solve_entered-solve_decls-requires-clause-there : goal.solve_entered-solve_decls-requires-clause-there
solve_entered-solve_decls-requires-clause-there t c =
    let old = c.args.solution.now in
    let b = c.args.block.now in
    let ds = c.block.inside.locals.items in
    let es = eqns_of (map eqn_seen c.block.inside.eqns.items) in
    let enter = c.enter.new.solution in
    let step = c.in_ok-enter.ensures in
    let k = old.next in
    let out = sight c.args.layers.now.items in
    let inner = sight c.enter.new.layers.items in
    let first = c.len-first.result in
    let is = drop first enter.locals.items in
    let many : first ≡ length old.locals.items = omega (arith, c.len-first.ensures, old.locals.ok.0) in
    let own = own_size_is b ds es c.block.view_is in
    let whole = size_is b ds es c.block.view_is in
    let room : k + own_size b ≤ old.variables = omega (arith, own, whole, c.requires.room) in
    let listed = own_listed old.locals.items enter.locals.items k b first many step.locals in
    subst (λ z. All (λ i. i < enter.variables) z) (sym listed) (subst (λ n. All (λ i. i < n) (own_locals k b)) (sym step.variables) (own_below old.variables c.requires.ready.some k b room))

pub solve_entered-returns-in_err-solve_decls-clause-solves : goal.solve_entered-returns-in_err-solve_decls-clause-solves
solve_entered-returns-in_err-solve_decls-clause-solves t c =
    let old = c.args.solution.now in
    let b = c.args.block.now in
    let ds = c.block.inside.locals.items in
    let es = eqns_of (map eqn_seen c.block.inside.eqns.items) in
    let enter = c.enter.new.solution in
    let step = c.in_ok-enter.ensures in
    let k = old.next in
    let out = sight c.args.layers.now.items in
    let inner = sight c.enter.new.layers.items in
    let first = c.len-first.result in
    let is = drop first enter.locals.items in
    let many : first ≡ length old.locals.items = omega (arith, c.len-first.ensures, old.locals.ok.0) in
    let own = own_size_is b ds es c.block.view_is in
    let whole = size_is b ds es c.block.view_is in
    let room : k + own_size b ≤ old.variables = omega (arith, own, whole, c.requires.room) in
    let listed = own_listed old.locals.items enter.locals.items k b first many step.locals in
    let us = declared_units inner is ds in
    let vs = units_of_all (k + length ds) es inner in
    let path = ap (λ ls. declared_units (sight ls) is c.deref-2.result.now) c.deref.ensures.value ∙ ap (λ more. declared_units inner is more) c.deref-2.ensures.value in
    let made = block_units k b ds es out inner is c.block.view_is step.seen listed in
    let e = c.in_err-solve_decls.field-0.0 in
    let fs = c.solve_decls.new.solution.cells.cells.items in
    solves_handed old.variables old.cells.cells.items fs (units k b out) c.from_residual-in_err-solve_decls.result e c.from_residual-in_err-solve_decls.ensures.1
    (solves_like old.variables old.cells.cells.items fs (us ++ vs) (units k b out) (Err e) made
    (stops old.variables old.cells.cells.items fs fs us vs e
    (solves_as old.variables enter.variables old.cells.cells.items enter.cells.cells.items fs (declared_units (sight c.deref.result.now) is c.deref-2.result.now) us (Err e) step.variables step.cells path c.in_err-solve_decls.ensures.solves)))

pub solve_entered-solve_eqns-requires : goal.solve_entered-solve_eqns-requires
solve_entered-solve_eqns-requires t c =
    let old = c.args.solution.now in
    let b = c.args.block.now in
    let ds = c.block.inside.locals.items in
    let es = eqns_of (map eqn_seen c.block.inside.eqns.items) in
    let enter = c.enter.new.solution in
    let step = c.in_ok-enter.ensures in
    let k = old.next in
    let out = sight c.args.layers.now.items in
    let inner = sight c.enter.new.layers.items in
    let first = c.len-first.result in
    let is = drop first enter.locals.items in
    let many : first ≡ length old.locals.items = omega (arith, c.len-first.ensures, old.locals.ok.0) in
    let own = own_size_is b ds es c.block.view_is in
    let whole = size_is b ds es c.block.view_is in
    let room : k + own_size b ≤ old.variables = omega (arith, own, whole, c.requires.room) in
    let decls = c.in_ok-solve_decls.ensures in
    let after = c.solve_decls.new.solution in
    let lined = lines_is b ds es c.block.view_is in
    let lined2 : lines_of_eqns (eqns_of (map eqn_seen c.deref-3.result.now)) ≡ lines_of_eqns es = ap (λ (z : List CodeEqn). lines_of_eqns (eqns_of (map eqn_seen z))) c.deref-3.ensures.value in
    let sized : size_of_all (eqns_of (map eqn_seen c.deref-3.result.now)) ≡ size_of_all es = ap (λ (z : List CodeEqn). size_of_all (eqns_of (map eqn_seen z))) c.deref-3.ensures.value in
    let ready = ready_entered old.variables enter.variables old.cells.cells.items enter.cells.cells.items k b out inner step.variables step.cells step.seen room c.requires.ready in (
      omega (arith, lined, lined2, c.decreases),
      (
        ready_now enter.variables after.variables after.cells.cells.items c.enter.new.layers.items c.enter.new.layers.items enter.cells.cells.items decls.variables refl ready decls.solves.grows.cells
            (omega (arith, decls.solves.floor, decls.solves.grows.longer)),
        omega (arith, decls.next, step.next, own, whole, sized, decls.variables, step.variables, c.requires.room),
      ),
    )

pub solve_entered-returns-clause-ready : goal.solve_entered-returns-clause-ready
solve_entered-returns-clause-ready t c =
    let old = c.args.solution.now in
    let b = c.args.block.now in
    let ds = c.block.inside.locals.items in
    let es = eqns_of (map eqn_seen c.block.inside.eqns.items) in
    let enter = c.enter.new.solution in
    let step = c.in_ok-enter.ensures in
    let k = old.next in
    let out = sight c.args.layers.now.items in
    let inner = sight c.enter.new.layers.items in
    let first = c.len-first.result in
    let is = drop first enter.locals.items in
    let many : first ≡ length old.locals.items = omega (arith, c.len-first.ensures, old.locals.ok.0) in
    let own = own_size_is b ds es c.block.view_is in
    let whole = size_is b ds es c.block.view_is in
    let room : k + own_size b ≤ old.variables = omega (arith, own, whole, c.requires.room) in
    let decls = c.in_ok-solve_decls.ensures in
    let after = c.solve_decls.new.solution in
    let last = c.solve_eqns.new.solution in
    let ready = ready_entered old.variables enter.variables old.cells.cells.items enter.cells.cells.items k b out inner step.variables step.cells step.seen room c.requires.ready in
    let ready2 = ready_now enter.variables after.variables after.cells.cells.items c.enter.new.layers.items c.enter.new.layers.items enter.cells.cells.items decls.variables refl ready decls.solves.grows.cells
    (omega (arith, decls.solves.floor, decls.solves.grows.longer)) in
    ready_end old.variables after.variables last.variables after.cells.cells.items last.cells.cells.items c.enter.new.layers.items c.solve_eqns.new.layers.items (units_of_all after.next (eqns_of (map eqn_seen c.deref-3.result.now)) inner) c.solve_eqns.result ready2
    c.solve_eqns.ensures.solves c.solve_eqns.ensures.variables c.solve_eqns.ensures.layers

pub solve_entered-returns-clause-solves : goal.solve_entered-returns-clause-solves
solve_entered-returns-clause-solves t c =
    let old = c.args.solution.now in
    let b = c.args.block.now in
    let ds = c.block.inside.locals.items in
    let es = eqns_of (map eqn_seen c.block.inside.eqns.items) in
    let enter = c.enter.new.solution in
    let step = c.in_ok-enter.ensures in
    let k = old.next in
    let out = sight c.args.layers.now.items in
    let inner = sight c.enter.new.layers.items in
    let first = c.len-first.result in
    let is = drop first enter.locals.items in
    let many : first ≡ length old.locals.items = omega (arith, c.len-first.ensures, old.locals.ok.0) in
    let own = own_size_is b ds es c.block.view_is in
    let whole = size_is b ds es c.block.view_is in
    let room : k + own_size b ≤ old.variables = omega (arith, own, whole, c.requires.room) in
    let listed = own_listed old.locals.items enter.locals.items k b first many step.locals in
    let us = declared_units inner is ds in
    let vs = units_of_all (k + length ds) es inner in
    let path = ap (λ ls. declared_units (sight ls) is c.deref-2.result.now) c.deref.ensures.value ∙ ap (λ more. declared_units inner is more) c.deref-2.ensures.value in
    let made = block_units k b ds es out inner is c.block.view_is step.seen listed in
    let decls = c.in_ok-solve_decls.ensures in
    let after = c.solve_decls.new.solution in
    let cs = old.cells.cells.items in
    let ms = after.cells.cells.items in
    let fs = c.solve_eqns.new.solution.cells.cells.items in
    let next : after.next ≡ k + length ds = decls.next ∙ step.next ∙ ap (λ n. k + n) own in
    let path2 = ap (λ j. units_of_all j (eqns_of (map eqn_seen c.deref-3.result.now)) inner) next ∙ ap (λ (z : List CodeEqn). units_of_all (k + length ds) (eqns_of (map eqn_seen z)) inner) c.deref-3.ensures.value in
    solves_like old.variables cs fs (us ++ vs) (units k b out) c.solve_eqns.result made
    (solves_then old.variables cs ms fs us vs c.solve_eqns.result
    (puts_as old.variables enter.variables cs enter.cells.cells.items ms (declared_units (sight c.deref.result.now) is c.deref-2.result.now) us step.variables step.cells path decls.solves)
    (solves_as old.variables after.variables ms ms fs (units_of_all after.next (eqns_of (map eqn_seen c.deref-3.result.now)) inner) vs c.solve_eqns.result (decls.variables ∙ step.variables) refl path2 c.solve_eqns.ensures.solves))

pub solve_eqn-returns-in_err-solve_test-in-Switch-clause-solves : goal.solve_eqn-returns-in_err-solve_test-in-Switch-clause-solves
solve_eqn-returns-in_err-solve_test-in-Switch-clause-solves t c =
    let old = c.args.solution.now in
    let cs = old.cells.cells.items in
    let see = sight c.args.layers.now.items in
    let k = old.next in
    let cond = c.in-Switch.cond in
    let arms = arms_of (map arm_seen c.in-Switch.arms.items) in
    let q = ap eqn_seen c.in-Switch.is in
    let e = c.in_err-solve_test-in-Switch.field-0.0 in
    let fs = c.solve_test.new.solution.cells.cells.items in
    let us = tested (span_of cond) see cond ∷ [] in
    let vs = units_of_arms k arms see in
    let goal_units = units_of_one k (eqn_seen c.args.eqn.now) see in
    solves_handed old.variables cs fs goal_units c.from_residual.result e c.from_residual.ensures.1
    (solves_like old.variables cs fs (us ++ vs) goal_units (Err e) (ap (λ z. units_of_one k z see) (sym q))
    (stops old.variables cs fs fs us vs e
    (solves_as old.variables old.variables cs cs fs (tested (span_of cond) (sight c.deref-in-Switch.result.now) cond ∷ []) us (Err e) refl refl (ap (λ ls. tested (span_of cond) (sight ls) cond ∷ []) c.deref-in-Switch.ensures.value)
    c.in_err-solve_test-in-Switch.ensures.solves)))

pub solve_eqn-returns-in_ok-solve_test-in-Switch-clause-rights : goal.solve_eqn-returns-in_ok-solve_test-in-Switch-clause-rights
solve_eqn-returns-in_ok-solve_test-in-Switch-clause-rights t c =
    let old = c.args.solution.now in
    let k = old.next in
    let cond = c.in-Switch.cond in
    let before = rights_seen old.rights.items in
    let test = c.in_ok-solve_test-in-Switch.ensures in
    let mid = c.solve_test.new.solution in
    let arms = arms_of (map arm_seen c.in-Switch.arms.items) in
    let arms2 = arms_of (map arm_seen c.deref-in-Switch-2.result.now) in
    let q = ap eqn_seen c.in-Switch.is in
    ok_then (rights_seen c.solve_arms.new.solution.rights.items) (with_more (rights_seen mid.rights.items) (rights_in_arms mid.next arms2)) (with_more before (rights_in_one k (eqn_seen c.args.eqn.now))) c.solve_arms.result c.solve_arms.ensures.rights
    (ap (λ z. with_more z (rights_in_arms mid.next arms2)) test.rights
    ∙ ap (λ j. with_more (with_more before (test_of cond)) (rights_in_arms j arms2)) test.next
    ∙ ap (λ (z : List CodeArm). with_more (with_more before (test_of cond)) (rights_in_arms k (arms_of (map arm_seen z)))) c.deref-in-Switch-2.ensures.value
    ∙ sym (more-append before (test_of cond) (rights_in_arms k arms))
    ∙ ap (λ z. with_more before (rights_in_one k z)) (sym q))

pub solve_eqn-returns-in_ok-solve_test-in-Switch-clause-solves : goal.solve_eqn-returns-in_ok-solve_test-in-Switch-clause-solves
solve_eqn-returns-in_ok-solve_test-in-Switch-clause-solves t c =
    let old = c.args.solution.now in
    let cs = old.cells.cells.items in
    let see = sight c.args.layers.now.items in
    let k = old.next in
    let cond = c.in-Switch.cond in
    let test = c.in_ok-solve_test-in-Switch.ensures in
    let mid = c.solve_test.new.solution in
    let ms = mid.cells.cells.items in
    let fs = c.solve_arms.new.solution.cells.cells.items in
    let arms = arms_of (map arm_seen c.in-Switch.arms.items) in
    let arms2 = arms_of (map arm_seen c.deref-in-Switch-2.result.now) in
    let q = ap eqn_seen c.in-Switch.is in
    let us = tested (span_of cond) see cond ∷ [] in
    let vs = units_of_arms k arms see in
    solves_like old.variables cs fs (us ++ vs) (units_of_one k (eqn_seen c.args.eqn.now) see) c.solve_arms.result (ap (λ z. units_of_one k z see) (sym q))
    (solves_then old.variables cs ms fs us vs c.solve_arms.result
    (puts_as old.variables old.variables cs cs ms (tested (span_of cond) (sight c.deref-in-Switch.result.now) cond ∷ []) us refl refl (ap (λ ls. tested (span_of cond) (sight ls) cond ∷ []) c.deref-in-Switch.ensures.value) test.solves)
    (solves_as old.variables mid.variables ms ms fs (units_of_arms mid.next arms2 see) vs c.solve_arms.result test.variables refl
    (ap (λ j. units_of_arms j arms2 see) test.next ∙ ap (λ (z : List CodeArm). units_of_arms k (arms_of (map arm_seen z)) see) c.deref-in-Switch-2.ensures.value) c.solve_arms.ensures.solves))

pub solve_eqn-returns-in_err-solve_block-in-Reset-clause-solves : goal.solve_eqn-returns-in_err-solve_block-in-Reset-clause-solves
solve_eqn-returns-in_err-solve_block-in-Reset-clause-solves t c =
    let old = c.args.solution.now in
    let cs = old.cells.cells.items in
    let see = sight c.args.layers.now.items in
    let k = old.next in
    let cond = c.in-Reset.cond in
    let q = ap eqn_seen c.in-Reset.is in
    let e = c.in_err-solve_block-in-Reset.field-0.0 in
    let fs = c.solve_block.new.solution.cells.cells.items in
    let us = units k c.in-Reset.body see in
    let vs = tested (span_of cond) see cond ∷ [] in
    let goal_units = units_of_one k (eqn_seen c.args.eqn.now) see in
    solves_handed old.variables cs fs goal_units c.from_residual-in_err-solve_block-in-Reset.result e c.from_residual-in_err-solve_block-in-Reset.ensures.1
    (solves_like old.variables cs fs (us ++ vs) goal_units (Err e) (ap (λ z. units_of_one k z see) (sym q)) (stops old.variables cs fs fs us vs e c.in_err-solve_block-in-Reset.ensures.solves))

pub solve_eqn-returns-in_ok-solve_block-in-Reset-clause-solves : goal.solve_eqn-returns-in_ok-solve_block-in-Reset-clause-solves
solve_eqn-returns-in_ok-solve_block-in-Reset-clause-solves t c =
    let old = c.args.solution.now in
    let cs = old.cells.cells.items in
    let see = sight c.args.layers.now.items in
    let k = old.next in
    let cond = c.in-Reset.cond in
    let q = ap eqn_seen c.in-Reset.is in
    let body = c.in_ok-solve_block-in-Reset.ensures in
    let mid = c.solve_block.new.solution in
    let ms = mid.cells.cells.items in
    let fs = c.solve_test-in-Reset.new.solution.cells.cells.items in
    let r = c.solve_test-in-Reset.result in
    let us = units k c.in-Reset.body see in
    let vs = tested (span_of cond) see cond ∷ [] in
    solves_like old.variables cs fs (us ++ vs) (units_of_one k (eqn_seen c.args.eqn.now) see) r (ap (λ z. units_of_one k z see) (sym q))
    (solves_then old.variables cs ms fs us vs r body.solves
    (solves_as old.variables mid.variables ms ms fs (tested (span_of cond) (sight c.deref-in-Reset.result.now) cond ∷ []) vs r body.variables refl
    (ap (λ ls. tested (span_of cond) (sight ls) cond ∷ []) (c.deref-in-Reset.ensures.value ∙ body.layers)) c.solve_test-in-Reset.ensures.solves))

pub solve_state-returns-in_err-solve_entered-clause-solves : goal.solve_state-returns-in_err-solve_entered-clause-solves
solve_state-returns-in_err-solve_entered-clause-solves t c =
    let old = c.args.solution.now in
    let cs = old.cells.cells.items in
    let out = sight c.args.layers.now.items in
    let k = old.next in
    let s = c.args.state.now in
    let inner = sight_of k s.body out in
    let us = units k s.body out in
    let vs = conditions inner s.until.items in
    let ws = conditions out s.unless.items in
    let e = c.in_err-solve_entered.field-0.0 in
    let fs = c.solve_entered.new.solution.cells.cells.items in
    solves_handed old.variables cs fs (us ++ (vs ++ ws)) c.from_residual.result e c.from_residual.ensures.1 (stops old.variables cs fs fs us (vs ++ ws) e c.in_err-solve_entered.ensures.solves)

pub solve_state-returns-in_err-solve_tests-clause-solves : goal.solve_state-returns-in_err-solve_tests-clause-solves
solve_state-returns-in_err-solve_tests-clause-solves t c =
    let old = c.args.solution.now in
    let cs = old.cells.cells.items in
    let out = sight c.args.layers.now.items in
    let k = old.next in
    let s = c.args.state.now in
    let inner = sight_of k s.body out in
    let us = units k s.body out in
    let vs = conditions inner s.until.items in
    let ws = conditions out s.unless.items in
    let body = c.in_ok-solve_entered.ensures in
    let mid = c.solve_entered.new.solution in
    let ms = mid.cells.cells.items in
    let e = c.in_err-solve_tests.field-0.0 in
    let fs = c.solve_tests.new.solution.cells.cells.items in
    solves_handed old.variables cs fs (us ++ (vs ++ ws)) c.from_residual-in_err-solve_tests.result e c.from_residual-in_err-solve_tests.ensures.1
    (solves_then old.variables cs ms fs us (vs ++ ws) (Err e) body.solves
    (stops old.variables ms fs fs vs ws e
    (solves_as old.variables mid.variables ms ms fs (conditions (sight c.deref.result.now) c.deref-2.result.now) vs (Err e) body.variables refl
    (ap (λ ls. conditions (sight ls) c.deref-2.result.now) c.deref.ensures.value ∙ ap (λ z. conditions z c.deref-2.result.now) body.seen ∙ ap (λ ts. conditions inner ts) c.deref-2.ensures.value) c.in_err-solve_tests.ensures.solves)))

pub solve_state-returns-clause-solves : goal.solve_state-returns-clause-solves
solve_state-returns-clause-solves t c =
    let old = c.args.solution.now in
    let cs = old.cells.cells.items in
    let out = sight c.args.layers.now.items in
    let k = old.next in
    let s = c.args.state.now in
    let inner = sight_of k s.body out in
    let us = units k s.body out in
    let vs = conditions inner s.until.items in
    let ws = conditions out s.unless.items in
    let body = c.in_ok-solve_entered.ensures in
    let mid = c.solve_entered.new.solution in
    let ms = mid.cells.cells.items in
    let tests = c.in_ok-solve_tests.ensures in
    let mid2 = c.solve_tests.new.solution in
    let ns = mid2.cells.cells.items in
    let r = c.solve_tests-2.result in
    let fs = c.solve_tests-2.new.solution.cells.cells.items in
    solves_then old.variables cs ms fs us (vs ++ ws) r body.solves
    (solves_then old.variables ms ns fs vs ws r
    (puts_as old.variables mid.variables ms ms ns (conditions (sight c.deref.result.now) c.deref-2.result.now) vs body.variables refl
    (ap (λ ls. conditions (sight ls) c.deref-2.result.now) c.deref.ensures.value ∙ ap (λ z. conditions z c.deref-2.result.now) body.seen ∙ ap (λ ts. conditions inner ts) c.deref-2.ensures.value) tests.solves)
    (solves_as old.variables mid2.variables ns ns fs (conditions (sight c.deref-3.result.now) c.deref-4.result.now) ws r (tests.variables ∙ body.variables) refl
    (ap (λ ls. conditions (sight ls) c.deref-4.result.now) (c.deref-3.ensures.value ∙ c.leave.ensures ∙ body.layers) ∙ ap (λ ts. conditions out ts) c.deref-4.ensures.value) c.solve_tests-2.ensures.solves))
