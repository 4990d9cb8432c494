use Rattle.std.proofs.Common.{◌+◌, List, drop, [], ◌∷◌, Err, refl, sym, ap, ◌∙◌, arith}
use Rattle.hp_meaning.specs.Causal.Points.{span_of}
use Rattle.hp_clocks.specs.Layers.{sight}
use Rattle.hp_clocks.specs.Names.{with_more}
use Rattle.hp_clocks.specs.Units.{conditions, tested, tests, test_of, Right}
use Rattle.hp_clocks.specs.Putting.{rights_seen}
use Rattle.hp_clocks.proofs.NamedLaws.{more-append}
use Rattle.hp_clocks.proofs.SolvesLaws.{leads_to_next, leads_to_error, leads_to_end, solves_handed, solves_as, puts_as}
use Rattle.hp_clocks.proofs.UnitLaws.{conditions_next, conditions_end, tests_next}
use Rattle.hp_clocks.proofs.solve.solve_tests.Goals as goal

pub returns-in_err-solve_test-clause-solves : goal.returns-in_err-solve_test-clause-solves
returns-in_err-solve_test-clause-solves c =
    let old = c.args.solution.now in
    let now = c.loop-transition.solution in
    let known = c.loop-transition.invariant in
    let see = sight c.args.layers.now in
    let xs = c.args.transitions.now in
    let i = c.loop-transition.transition-index in
    let x = c.transition-item.result in
    let ds = now.cells.cells.items in
    let es = c.solve_test.new.solution.cells.cells.items in
    let us = tested (span_of x.cond) see x.cond ∷ [] in
    let e = c.in_err-solve_test.field-0.0 in
    solves_handed old.variables old.cells.cells.items es (conditions see xs) c.from_residual.result e c.from_residual.ensures.1
    (leads_to_error old.variables old.cells.cells.items ds es es us (conditions see (drop (i + 1) xs)) (conditions see (drop i xs)) (conditions see xs) e (conditions_next see xs i x c.loop-transition-test.true c.transition-item.is) known.leads
    (solves_as old.variables now.variables ds ds es us us (Err e) known.variables refl refl c.in_err-solve_test.ensures.solves))

pub loop-transition-preserved : goal.loop-transition-preserved
loop-transition-preserved c =
    let old = c.args.solution.now in
    let now = c.loop-transition.solution in
    let known = c.loop-transition.invariant in
    let see = sight c.args.layers.now in
    let xs = c.args.transitions.now in
    let i = c.loop-transition.transition-index in
    let x = c.transition-item.result in
    let ds = now.cells.cells.items in
    let es = c.solve_test.new.solution.cells.cells.items in
    let us = tested (span_of x.cond) see x.cond ∷ [] in
    let after = c.solve_test.new.solution in
    let step = c.in_ok-solve_test.ensures in
    let puts = puts_as old.variables now.variables ds ds es us us known.variables refl refl step.solves in
    let before = rights_seen now.rights.items in
    record {
      variables = step.variables ∙ known.variables;
      floor = omega (arith, known.floor, puts.grows.longer);
      next = step.next ∙ known.next;
      locals = step.locals ∙ known.locals;
      rights = ap (λ (z : List Right). with_more z (tests (drop (i + 1) xs))) step.rights ∙ sym (more-append before (test_of x.cond) (tests (drop (i + 1) xs))) ∙ ap (with_more before) (sym (tests_next xs i x c.loop-transition-test.true c.transition-item.is)) ∙ known.rights;
      leads = leads_to_next old.variables old.cells.cells.items ds es us (conditions see (drop (i + 1) xs)) (conditions see (drop i xs)) (conditions see xs) (conditions_next see xs i x c.loop-transition-test.true c.transition-item.is) known.leads puts;
    }

pub returns-clause-solves : goal.returns-clause-solves
returns-clause-solves c =
    let old = c.args.solution.now in
    let see = sight c.args.layers.now in
    let ts = c.args.transitions.now in
    let i = c.loop-transition.transition-index in
    leads_to_end old.variables old.cells.cells.items c.loop-transition.solution.cells.cells.items (conditions see (drop i ts)) (conditions see ts) tt
    (conditions_end see ts i c.loop-transition-test.false) c.loop-transition.invariant.floor c.loop-transition.invariant.leads
