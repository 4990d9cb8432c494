use Rattle.std.proofs.Common.{◌≡◌, ◌+◌, drop}
use Rattle.hp_cause.specs.Gathering.{of_tests}
use Rattle.hp_tables.specs.Defining.Layers.{sight}
use Rattle.hp_cause.specs.Told.{facts_seen, with_more}
use Rattle.hp_cause.specs.Vertices.{size_of_tests}
use Rattle.hp_cause.proofs.expression.gather_tests.Given as goal

abbrev pub invariant-loop-transition : goal.invariant-loop-transition
invariant-loop-transition l =
    record {
      next : l.notes.next + size_of_tests (drop l.transition-index l.transitions) ≡ l.initial.notes.next + size_of_tests l.transitions;
      facts : with_more (facts_seen l.notes.facts.items) (of_tests (sight l.layers) l.control l.reader l.notes.next (drop l.transition-index l.transitions))
          ≡ with_more (facts_seen l.initial.notes.facts.items) (of_tests (sight l.layers) l.control l.reader l.initial.notes.next l.transitions);
    }
