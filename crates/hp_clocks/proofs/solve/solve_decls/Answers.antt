use Rattle.std.proofs.Common.{◌≡◌, ◌+◌, ℕ, List, drop, get_or, Err, refl, ap, ◌∙◌, arith}
use Rattle.hp_clocks.specs.Layers.{sight}
use Rattle.hp_clocks.specs.Putting.{declared_unit, declared_units}
use Rattle.hp_clocks.proofs.SolvesLaws.{leads_to_next, leads_to_error, leads_to_end, solves_handed, solves_as, puts_as}
use Rattle.hp_clocks.proofs.UnitLaws.{declared_next, declared_end}
use Rattle.hp_clocks.proofs.solve.solve_decls.Goals as goal

pub returns-in_err-solve_decl-clause-solves : goal.returns-in_err-solve_decl-clause-solves
returns-in_err-solve_decl-clause-solves c =
    let old = c.args.solution.now in
    let now = c.loop-i.solution in
    let known = c.loop-i.invariant in
    let see = sight c.args.layers.now in
    let first = c.args.first in
    let i = c.loop-i.i in
    let xs = c.args.decls.now in
    let x = c.index-decls-i.result in
    let is = old.locals.items in
    let local = c.index-local.result.now in
    let e = c.in_err-solve_decl.field-0.0 in
    let ds = now.cells.cells.items in
    let es = c.solve_decl.new.solution.cells.cells.items in
    let found : local ≡ get_or is (first + i) local = c.index-local.ensures ∙ ap (λ (z : List ℕ). get_or z (first + i) local) known.locals in
    solves_handed old.variables old.cells.cells.items es (declared_units see (drop first is) xs) c.from_residual.result e c.from_residual.ensures.1
    (leads_to_error old.variables old.cells.cells.items ds es es (declared_unit see local x) (declared_units see (drop (first + (i + 1)) is) (drop (i + 1) xs)) (declared_units see (drop (first + i) is) (drop i xs)) (declared_units see (drop first is) xs) e
    (declared_next see is xs first i local x (omega (arith, c.loop-i-test.true, c.requires.listed)) found c.loop-i-test.true c.index-decls-i.is) known.leads
    (solves_as old.variables now.variables ds ds es (declared_unit see local x) (declared_unit see local x) (Err e) known.variables refl refl c.in_err-solve_decl.ensures.solves))

pub loop-i-preserved : goal.loop-i-preserved
loop-i-preserved c =
    let old = c.args.solution.now in
    let now = c.loop-i.solution in
    let known = c.loop-i.invariant in
    let see = sight c.args.layers.now in
    let first = c.args.first in
    let i = c.loop-i.i in
    let xs = c.args.decls.now in
    let x = c.index-decls-i.result in
    let is = old.locals.items in
    let local = c.index-local.result.now in
    let step = c.in_ok-solve_decl.ensures in
    let ds = now.cells.cells.items in
    let es = c.solve_decl.new.solution.cells.cells.items in
    let found : local ≡ get_or is (first + i) local = c.index-local.ensures ∙ ap (λ (z : List ℕ). get_or z (first + i) local) known.locals in
    let puts = puts_as old.variables now.variables ds ds es (declared_unit see local x) (declared_unit see local x) known.variables refl refl step.solves in
    record {
      variables = step.variables ∙ known.variables;
      floor = omega (arith, known.floor, puts.grows.longer);
      next = step.next ∙ known.next;
      locals = step.locals ∙ known.locals;
      rights = step.rights ∙ known.rights;
      leads = leads_to_next old.variables old.cells.cells.items ds es (declared_unit see local x) (declared_units see (drop (first + (i + 1)) is) (drop (i + 1) xs)) (declared_units see (drop (first + i) is) (drop i xs)) (declared_units see (drop first is) xs)
          (declared_next see is xs first i local x (omega (arith, c.loop-i-test.true, c.requires.listed)) found c.loop-i-test.true c.index-decls-i.is) known.leads puts;
    }

pub returns-clause-solves : goal.returns-clause-solves
returns-clause-solves c =
    let old = c.args.solution.now in
    let see = sight c.args.layers.now in
    leads_to_end old.variables old.cells.cells.items c.loop-i.solution.cells.cells.items (declared_units see (drop (c.args.first + c.loop-i.i) old.locals.items) (drop c.loop-i.i c.args.decls.now)) (declared_units see (drop c.args.first old.locals.items) c.args.decls.now) tt
    (declared_end see (drop (c.args.first + c.loop-i.i) old.locals.items) c.args.decls.now c.loop-i.i c.loop-i-test.false) c.loop-i.invariant.floor c.loop-i.invariant.leads
