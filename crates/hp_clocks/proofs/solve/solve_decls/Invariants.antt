use Rattle.std.proofs.Common.{◌≡◌, ◌+◌, ◌≤◌, length, drop}
use Rattle.hp_clocks.specs.Layers.{sight}
use Rattle.hp_clocks.specs.Putting.{rights_seen, declared_units}
use Rattle.hp_clocks.proofs.SolvesLaws.{LeadsTo}
use Rattle.hp_clocks.proofs.solve.solve_decls.Given as goal

abbrev pub invariant-loop-i : goal.invariant-loop-i
invariant-loop-i l =
    record {
      variables : l.solution.variables ≡ l.initial.solution.variables;
      floor : l.initial.solution.variables ≤ length l.solution.cells.cells.items;
      next : l.solution.next ≡ l.initial.solution.next;
      locals : l.solution.locals.items ≡ l.initial.solution.locals.items;
      rights : rights_seen l.solution.rights.items ≡ rights_seen l.initial.solution.rights.items;
      leads : LeadsTo l.initial.solution.variables l.initial.solution.cells.cells.items l.solution.cells.cells.items (declared_units (sight l.layers) (drop (l.first + l.i) l.initial.solution.locals.items) (drop l.i l.decls)) (declared_units (sight l.layers) (drop l.first l.initial.solution.locals.items) l.decls);
    }
