use Rattle.std.proofs.Common.{◌≡◌, ◌+◌, ◌++◌, [], ◌∷◌, map, drop, sym, ap, ◌∙◌}
use Rattle.hp_tree.specs.BlockView.{eqn_seen}
use Rattle.hp_tree.specs.Expressions.{Exprs, more_exprs, exprs_of, Parts, more_parts, parts_of}
use Rattle.hp_expand.specs.Replacing.{Replaced, in_expr, in_exprs, in_parts}
use Rattle.hp_expand.specs.Making.{with_more}
use Rattle.hp_expand.specs.NodeTables.{node_in}
use Rattle.hp_expand.proofs.MakingLaws.{exprs-from, parts-from, exprs-placed, parts-placed, more-on}
use Rattle.hp_expand.proofs.replace.+replace.Goals as goal

pub replace_args-loop-arg-preserved : goal.replace_args-loop-arg-preserved
replace_args-loop-arg-preserved t c =
    let nodes = node_in c.args.nodes.now in
    let first = c.args.made.now in
    let now = c.loop-arg.made in
    let after = c.replace_expr.new.made in
    let known = c.loop-arg.invariant in
    let step = c.in_ok-replace_expr.ensures in
    let args = c.args.args.now in
    let i = c.loop-arg.arg-index in
    let arg = c.arg-item.result in
    let own = in_expr nodes now.next arg in
    let rest = in_exprs nodes after.next (exprs_of (drop (i + 1) args)) in
    let from = in_exprs nodes now.next (exprs_of (drop i args)) in
    let all = in_exprs nodes first.next (exprs_of args) in
    let here = exprs-from nodes now.next args i arg c.loop-arg-test.true c.arg-item.is in
    let on : in_exprs nodes own.next (exprs_of (drop (i + 1) args)) ≡ rest = sym (ap (λ k. in_exprs nodes k (exprs_of (drop (i + 1) args))) step.next) in
    record {
      args = exprs-placed c.loop-arg.others.items c.push.new.self.items c.in_ok-replace_expr.field-0 own.part rest.part from.part all.part c.in_ok-push.ensures.items step.expr
          (ap (λ (r : Replaced Exprs). r.part) here ∙ ap (λ (r : Replaced Exprs). more_exprs own.part r.part) on) known.args;
      locals = more-on now.locals.items after.locals.items own.locals rest.locals from.locals (with_more first.locals.items all.locals) step.locals
          (ap (λ (r : Replaced Exprs). r.locals) here ∙ ap (λ (r : Replaced Exprs). own.locals ++ r.locals) on) known.locals;
      eqns = more-on (map eqn_seen now.eqns.items) (map eqn_seen after.eqns.items) own.before rest.before from.before (with_more (map eqn_seen first.eqns.items) all.before) step.eqns
          (ap (λ (r : Replaced Exprs). r.before) here ∙ ap (λ (r : Replaced Exprs). own.before ++ r.before) on) known.eqns;
      next = sym (ap (λ (r : Replaced Exprs). r.next) here ∙ ap (λ (r : Replaced Exprs). r.next) on) ∙ known.next;
    }

pub replace_parts-loop-cons-preserved : goal.replace_parts-loop-cons-preserved
replace_parts-loop-cons-preserved t c =
    let nodes = node_in c.args.nodes.now in
    let first = c.args.made.now in
    let now = c.loop-cons.made in
    let after = c.replace_expr.new.made in
    let known = c.loop-cons.invariant in
    let step = c.in_ok-replace_expr.ensures in
    let parts = c.args.parts.now in
    let i = c.loop-cons.cons-index in
    let part = c.loop-cons-item.result in
    let own = in_expr nodes now.next part.1 in
    let rest = in_parts nodes after.next (parts_of (drop (i + 1) parts)) in
    let from = in_parts nodes now.next (parts_of (drop i parts)) in
    let all = in_parts nodes first.next (parts_of parts) in
    let here = parts-from nodes now.next parts i part c.loop-cons-test.true c.loop-cons-item.is in
    let on : in_parts nodes own.next (parts_of (drop (i + 1) parts)) ≡ rest = sym (ap (λ k. in_parts nodes k (parts_of (drop (i + 1) parts))) step.next) in
    record {
      parts = parts-placed c.loop-cons.others.items c.push.new.self.items part.0 c.in_ok-replace_expr.field-0 own.part rest.part from.part all.part
          (c.in_ok-push.ensures.items ∙ ap (λ x. c.loop-cons.others.items ++ (x, c.in_ok-replace_expr.field-0) ∷ []) c.in_ok-cons.ensures) step.expr
          (ap (λ (r : Replaced Parts). r.part) here ∙ ap (λ (r : Replaced Parts). more_parts part.0 own.part r.part) on) known.parts;
      locals = more-on now.locals.items after.locals.items own.locals rest.locals from.locals (with_more first.locals.items all.locals) step.locals
          (ap (λ (r : Replaced Parts). r.locals) here ∙ ap (λ (r : Replaced Parts). own.locals ++ r.locals) on) known.locals;
      eqns = more-on (map eqn_seen now.eqns.items) (map eqn_seen after.eqns.items) own.before rest.before from.before (with_more (map eqn_seen first.eqns.items) all.before) step.eqns
          (ap (λ (r : Replaced Parts). r.before) here ∙ ap (λ (r : Replaced Parts). own.before ++ r.before) on) known.eqns;
      next = sym (ap (λ (r : Replaced Parts). r.next) here ∙ ap (λ (r : Replaced Parts). r.next) on) ∙ known.next;
    }
