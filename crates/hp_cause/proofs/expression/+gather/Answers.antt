use Rattle.std.proofs.Common.{◌+◌, [], ◌∷◌, drop, sym, ap, ◌∙◌}
use Rattle.hp_tree.specs.Expressions.{exprs_of, parts_of}
use Rattle.hp_cause.specs.Gathering.{of_exprs, of_parts}
use Rattle.hp_tables.specs.Defining.Layers.{sight}
use Rattle.hp_cause.specs.Told.{facts_seen, names_seen, with_more}
use Rattle.hp_cause.specs.Vertices.{calls_in, calls_in_all, calls_in_parts}
use Rattle.hp_cause.proofs.GrowLaws.{next-arg, next-part, count-args, count-parts, numbers-on}
use Rattle.hp_cause.proofs.expression.+gather.Goals as goal

pub gather_args-loop-arg-preserved : goal.gather_args-loop-arg-preserved
gather_args-loop-arg-preserved t c =
    let i = c.loop-arg.arg-index in
    let args = c.args.args.now in
    let arg = c.arg-item.result in
    let now = c.loop-arg.notes in
    let after = c.gather_expr.new.notes in
    let step = c.in_ok-gather_expr.ensures in
    let rest = exprs_of (drop (i + 1) args) in
    let see = sight c.args.layers.now in
    let clock = names_seen c.args.clock.now in
    record {
      next = numbers-on c.args.notes.now.next now.next after.next (calls_in arg) (calls_in_all rest) (calls_in_all (exprs_of args)) (calls_in_all (exprs_of (drop i args)))
          step.next (count-args args i arg c.loop-arg-test.true c.arg-item.is) c.loop-arg.invariant.next;
      facts = ap (λ k. with_more (facts_seen after.facts.items) (of_exprs see c.args.control clock (c.args.reader ∷ []) k rest)) step.next
          ∙ ap (λ facts. with_more facts (of_exprs see c.args.control clock (c.args.reader ∷ []) (now.next + calls_in arg) rest)) step.facts
          ∙ sym (next-arg (facts_seen now.facts.items) see c.args.control clock (c.args.reader ∷ []) now.next args i arg c.loop-arg-test.true c.arg-item.is)
          ∙ c.loop-arg.invariant.facts;
    }

pub gather_parts-loop-expr-preserved : goal.gather_parts-loop-expr-preserved
gather_parts-loop-expr-preserved t c =
    let i = c.loop-expr.expr-index in
    let parts = c.args.parts.now in
    let part = c.loop-expr-item.result in
    let now = c.loop-expr.notes in
    let after = c.gather_expr.new.notes in
    let step = c.in_ok-gather_expr.ensures in
    let rest = parts_of (drop (i + 1) parts) in
    let see = sight c.args.layers.now in
    let clock = names_seen c.args.clock.now in
    let readers = c.args.readers.now in
    record {
      next = numbers-on c.args.notes.now.next now.next after.next (calls_in part.1) (calls_in_parts rest) (calls_in_parts (parts_of parts)) (calls_in_parts (parts_of (drop i parts)))
          step.next (count-parts parts i part c.loop-expr-test.true c.loop-expr-item.is) c.loop-expr.invariant.next;
      facts = ap (λ k. with_more (facts_seen after.facts.items) (of_parts see c.args.control clock readers k rest)) step.next
          ∙ ap (λ facts. with_more facts (of_parts see c.args.control clock readers (now.next + calls_in part.1) rest)) step.facts
          ∙ sym (next-part (facts_seen now.facts.items) see c.args.control clock readers now.next parts i part c.loop-expr-test.true c.loop-expr-item.is)
          ∙ c.loop-expr.invariant.facts;
    }
