use Rattle.std.proofs.Common.{[], Some, refl, sym, ap, ◌∙◌, subst}
use Rattle.hp_clocks.specs.Scopes.{AreThere}
use Rattle.hp_clocks.specs.Layers.{sight}
use Rattle.hp_clocks.specs.Units.{contract_units, contract_sight}
use Rattle.hp_clocks.proofs.BoundLaws.{interface_there}
use Rattle.hp_clocks.proofs.SightLaws.{no_controls}
use Rattle.hp_clocks.proofs.SolvesLaws.{solves_as}
use Rattle.hp_clocks.proofs.solve.solve_observer.Goals as goal

pub solve_contract-requires-clause-ready : goal.solve_contract-requires-clause-ready
solve_contract-requires-clause-ready c =
    let n = c.args.solution.now.variables in
    record {
      cells = c.requires.cells;
      floor = c.requires.floor;
      some = c.requires.some;
      there = subst (λ z. AreThere n z) (sym c.in_ok-layers.ensures) (interface_there n c.requires.some c.args.node.now []);
    }

pub returns-clause-solves : goal.returns-clause-solves
returns-clause-solves c =
    let old = c.args.solution.now in
    let cs = old.cells.cells.items in
    let g = c.args.contract.now in
    let see = contract_sight c.args.node.now in
    solves_as old.variables old.variables cs cs c.solve_contract.new.solution.cells.cells.items (contract_units old.next (sight c.in_ok-layers.layers.items) (Some g)) (contract_units old.next see (Some g)) c.solve_contract.result refl refl
    (ap (λ z. contract_units old.next z (Some g)) (c.in_ok-layers.ensures ∙ no_controls c.args.node.now)) c.solve_contract.ensures.solves
