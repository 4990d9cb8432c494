use Rattle.std.proofs.Common.{◌++◌, Err, refl, ap, ◌∙◌}
use Rattle.hp_tree.specs.Programs.{Contract}
use Rattle.hp_clocks.specs.Layers.{sight}
use Rattle.hp_clocks.specs.Units.{units, told, sight_of}
use Rattle.hp_clocks.proofs.SolvesLaws.{solves_then, stops, solves_handed, solves_as, puts_as}
use Rattle.hp_clocks.proofs.solve.solve_contract.Goals as goal

pub returns-in_err-solve_entered-clause-solves : goal.returns-in_err-solve_entered-clause-solves
returns-in_err-solve_entered-clause-solves c =
    let old = c.args.solution.now in
    let cs = old.cells.cells.items in
    let out = sight c.args.layers.now.items in
    let k = old.next in
    let g = c.args.contract.now in
    let inner = sight_of k g.body out in
    let us = units k g.body out in
    let vs = told inner g.assume in
    let ws = told inner g.enforce in
    let body_is = ap (λ (m : Contract). m.body) c.contract.view_is in
    let assume_is = ap (λ (m : Contract). m.assume) c.contract.view_is in
    let enforce_is = ap (λ (m : Contract). m.enforce) c.contract.view_is in
    let within = c.contract.inside in
    let e = c.in_err-solve_entered.field-0.0 in
    let fs = c.solve_entered.new.solution.cells.cells.items in
    solves_handed old.variables cs fs (us ++ (vs ++ ws)) c.from_residual.result e c.from_residual.ensures.1
    (stops old.variables cs fs fs us (vs ++ ws) e
    (solves_as old.variables old.variables cs cs fs (units k within.body out) us (Err e) refl refl (ap (λ b. units k b out) body_is) c.in_err-solve_entered.ensures.solves))

pub returns-in_err-solve_told-clause-solves : goal.returns-in_err-solve_told-clause-solves
returns-in_err-solve_told-clause-solves c =
    let old = c.args.solution.now in
    let cs = old.cells.cells.items in
    let out = sight c.args.layers.now.items in
    let k = old.next in
    let g = c.args.contract.now in
    let inner = sight_of k g.body out in
    let us = units k g.body out in
    let vs = told inner g.assume in
    let ws = told inner g.enforce in
    let body_is = ap (λ (m : Contract). m.body) c.contract.view_is in
    let assume_is = ap (λ (m : Contract). m.assume) c.contract.view_is in
    let enforce_is = ap (λ (m : Contract). m.enforce) c.contract.view_is in
    let within = c.contract.inside in
    let body = c.in_ok-solve_entered.ensures in
    let mid = c.solve_entered.new.solution in
    let ms = mid.cells.cells.items in
    let e = c.in_err-solve_told.field-0.0 in
    let fs = c.solve_told.new.solution.cells.cells.items in
    let seen = ap sight c.deref.ensures.value ∙ body.seen ∙ ap (λ b. sight_of k b out) body_is in
    solves_handed old.variables cs fs (us ++ (vs ++ ws)) c.from_residual-in_err-solve_told.result e c.from_residual-in_err-solve_told.ensures.1
    (solves_then old.variables cs ms fs us (vs ++ ws) (Err e) (puts_as old.variables old.variables cs cs ms (units k within.body out) us refl refl (ap (λ b. units k b out) body_is) body.solves)
    (stops old.variables ms fs fs vs ws e
    (solves_as old.variables mid.variables ms ms fs (told (sight c.deref.result.now) within.assume) vs (Err e) body.variables refl
    (ap (λ z. told z within.assume) seen ∙ ap (told inner) assume_is) c.in_err-solve_told.ensures.solves)))

pub returns-clause-solves : goal.returns-clause-solves
returns-clause-solves c =
    let old = c.args.solution.now in
    let cs = old.cells.cells.items in
    let out = sight c.args.layers.now.items in
    let k = old.next in
    let g = c.args.contract.now in
    let inner = sight_of k g.body out in
    let us = units k g.body out in
    let vs = told inner g.assume in
    let ws = told inner g.enforce in
    let body_is = ap (λ (m : Contract). m.body) c.contract.view_is in
    let assume_is = ap (λ (m : Contract). m.assume) c.contract.view_is in
    let enforce_is = ap (λ (m : Contract). m.enforce) c.contract.view_is in
    let within = c.contract.inside in
    let body = c.in_ok-solve_entered.ensures in
    let mid = c.solve_entered.new.solution in
    let ms = mid.cells.cells.items in
    let assumed = c.in_ok-solve_told.ensures in
    let mid2 = c.solve_told.new.solution in
    let ns = mid2.cells.cells.items in
    let r = c.solve_told-2.result in
    let fs = c.solve_told-2.new.solution.cells.cells.items in
    let seen = ap sight c.deref.ensures.value ∙ body.seen ∙ ap (λ b. sight_of k b out) body_is in
    let seen2 = ap sight c.deref-2.ensures.value ∙ body.seen ∙ ap (λ b. sight_of k b out) body_is in
    solves_then old.variables cs ms fs us (vs ++ ws) r (puts_as old.variables old.variables cs cs ms (units k within.body out) us refl refl (ap (λ b. units k b out) body_is) body.solves)
    (solves_then old.variables ms ns fs vs ws r
    (puts_as old.variables mid.variables ms ms ns (told (sight c.deref.result.now) within.assume) vs body.variables refl (ap (λ z. told z within.assume) seen ∙ ap (told inner) assume_is) assumed.solves)
    (solves_as old.variables mid2.variables ns ns fs (told (sight c.deref-2.result.now) within.enforce) ws r (assumed.variables ∙ body.variables) refl
    (ap (λ z. told z within.enforce) seen2 ∙ ap (told inner) enforce_is) c.solve_told-2.ensures.solves))
