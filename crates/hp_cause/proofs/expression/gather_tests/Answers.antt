use Rattle.std.proofs.Common.{◌+◌, drop, sym, ap, ◌∙◌}
use Rattle.hp_cause.specs.Gathering.{of_tests}
use Rattle.hp_tables.specs.Defining.Layers.{sight}
use Rattle.hp_cause.specs.Told.{facts_seen, with_more}
use Rattle.hp_cause.specs.Vertices.{calls_in, own_of_test, size_of_tests}
use Rattle.hp_cause.proofs.GrowLaws.{next-test, count-tests, numbers-after}
use Rattle.hp_cause.proofs.expression.gather_tests.Goals as goal

pub loop-transition-preserved : goal.loop-transition-preserved
loop-transition-preserved c =
    let i = c.loop-transition.transition-index in
    let ts = c.args.transitions.now in
    let t = c.transition-item.result in
    let now = c.loop-transition.notes in
    let after = c.gather_test.new.notes in
    let step = c.in_ok-gather_test.ensures in
    let rest = drop (i + 1) ts in
    let see = sight c.args.layers.now in
    record {
      next = numbers-after c.args.notes.now.next now.next after.next (own_of_test t.cond) (calls_in t.cond) (size_of_tests rest) (size_of_tests ts) (size_of_tests (drop i ts))
          step.next (count-tests ts i t c.loop-transition-test.true c.transition-item.is) c.loop-transition.invariant.next;
      facts = ap (λ k. with_more (facts_seen after.facts.items) (of_tests see c.args.control c.args.reader k rest)) step.next
          ∙ ap (λ facts. with_more facts (of_tests see c.args.control c.args.reader ((now.next + own_of_test t.cond) + calls_in t.cond) rest)) step.facts
          ∙ sym (next-test (facts_seen now.facts.items) see c.args.control c.args.reader now.next ts i t c.loop-transition-test.true c.transition-item.is)
          ∙ c.loop-transition.invariant.facts;
    }
