use Rattle.std.proofs.Common.{◌≡◌, ◌+◌, ◌++◌, Some, Err, Option, refl, sym, ap, ◌∙◌}
use Rattle.hp_tree.specs.Programs.{Node, Contract}
use Rattle.hp_tree.specs.Meaning.{controls_of}
use Rattle.hp_clocks.specs.Units.{size, size_of_contract, units, contract_units, contract_sight, body_sight, node_units}
use Rattle.hp_clocks.specs.Putting.{interface_sight}
use Rattle.hp_clocks.proofs.SolvesLaws.{solves_then, stops, solves_like, solves_handed, solves_as, puts_as}
use Rattle.hp_clocks.proofs.solve.solve_parts.Goals as goal

pub returns-in_err-solve_observer-in-Some-clause-solves : goal.returns-in_err-solve_observer-in-Some-clause-solves
returns-in_err-solve_observer-in-Some-clause-solves c =
    let old = c.args.solution.now in
    let cs = old.cells.cells.items in
    let n = c.args.node.now in
    let g = c.in-Some.contract in
    let some : n.contract ≡ Some g = sym (ap (λ (m : Node). m.contract) c.node.view_is) ∙ c.in-Some.is in
    let see = contract_sight n in
    let us = contract_units 1 see (Some g) in
    let vs = units (1 + size g.body) n.body (body_sight n) in
    let e = c.in_err-solve_observer-in-Some.field-0.0 in
    let fs = c.solve_observer.new.solution.cells.cells.items in
    solves_handed old.variables cs fs (node_units n) c.from_residual.result e c.from_residual.ensures.1
    (solves_like old.variables cs fs (us ++ vs) (node_units n) (Err e) (ap (λ (o : Option Contract). contract_units 1 see o ++ units (1 + size_of_contract o) n.body (body_sight n)) (sym some))
    (stops old.variables cs fs fs us vs e
    (solves_as old.variables old.variables cs cs fs (contract_units old.next see (Some g)) us (Err e) refl refl (ap (λ j. contract_units j see (Some g)) c.requires.first) c.in_err-solve_observer-in-Some.ensures.solves)))

pub returns-in_ok-solve_observer-in-Some-clause-solves : goal.returns-in_ok-solve_observer-in-Some-clause-solves
returns-in_ok-solve_observer-in-Some-clause-solves c =
    let old = c.args.solution.now in
    let cs = old.cells.cells.items in
    let n = c.args.node.now in
    let g = c.in-Some.contract in
    let some : n.contract ≡ Some g = sym (ap (λ (m : Node). m.contract) c.node.view_is) ∙ c.in-Some.is in
    let see = contract_sight n in
    let us = contract_units 1 see (Some g) in
    let vs = units (1 + size g.body) n.body (body_sight n) in
    let observer = c.in_ok-solve_observer-in-Some.ensures in
    let mid = c.solve_observer.new.solution in
    let ms = mid.cells.cells.items in
    let r = c.solve_body-in-Some.result in
    let fs = c.solve_body-in-Some.new.solution.cells.cells.items in
    let next : mid.next ≡ 1 + size g.body = observer.next ∙ ap (λ j. j + size g.body) c.requires.first in
    let controls : c.deref.result.now ≡ controls_of n.contract = c.deref.ensures.value ∙ ap (λ (m : Contract). m.controls) c.contract.view_is ∙ sym (ap controls_of some) in
    solves_like old.variables cs fs (us ++ vs) (node_units n) r (ap (λ (o : Option Contract). contract_units 1 see o ++ units (1 + size_of_contract o) n.body (body_sight n)) (sym some))
    (solves_then old.variables cs ms fs us vs r
    (puts_as old.variables old.variables cs cs ms (contract_units old.next see (Some g)) us refl refl (ap (λ j. contract_units j see (Some g)) c.requires.first) observer.solves)
    (solves_as old.variables mid.variables ms ms fs (units mid.next n.body (interface_sight n c.deref.result.now)) vs r observer.variables refl
    (ap (λ j. units j n.body (interface_sight n c.deref.result.now)) next ∙ ap (λ ds. units (1 + size g.body) n.body (interface_sight n ds)) controls) c.solve_body-in-Some.ensures.solves))
