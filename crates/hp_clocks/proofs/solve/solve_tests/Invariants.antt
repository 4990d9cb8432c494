use Rattle.std.proofs.Common.{◌≡◌, ◌≤◌, length, drop}
use Rattle.hp_clocks.specs.Layers.{sight}
use Rattle.hp_clocks.specs.Names.{with_more}
use Rattle.hp_clocks.specs.Units.{conditions, tests}
use Rattle.hp_clocks.specs.Putting.{rights_seen}
use Rattle.hp_clocks.proofs.SolvesLaws.{LeadsTo}
use Rattle.hp_clocks.proofs.solve.solve_tests.Given as goal

abbrev pub invariant-loop-transition : goal.invariant-loop-transition
invariant-loop-transition l =
    record {
      variables : l.solution.variables ≡ l.initial.solution.variables;
      floor : l.initial.solution.variables ≤ length l.solution.cells.cells.items;
      next : l.solution.next ≡ l.initial.solution.next;
      locals : l.solution.locals.items ≡ l.initial.solution.locals.items;
      rights : with_more (rights_seen l.solution.rights.items) (tests (drop l.transition-index l.transitions)) ≡ with_more (rights_seen l.initial.solution.rights.items) (tests l.transitions);
      leads : LeadsTo l.initial.solution.variables l.initial.solution.cells.cells.items l.solution.cells.cells.items (conditions (sight l.layers) (drop l.transition-index l.transitions)) (conditions (sight l.layers) l.transitions);
    }
