use Rattle.std.proofs.Common.{Err, ap, subst}
use Rattle.hp_tree.specs.Expressions.{exprs_of, parts_of, constant, variable, last_of, choose, when_is, merge, call}
use Rattle.hp_tree.specs.declared.expr.ExprKind.TheVariants as kind
use Rattle.hp_meaning.specs.Causal.Clocked.{IsOn, ExprsOn, PartsOn}
use Rattle.hp_clocks.specs.Layers.{sight}
use Rattle.hp_clocks.specs.Scopes.{standing, Grows}
use Rattle.hp_clocks.proofs.Unifying.{ok_map}
use Rattle.hp_clocks.proofs.NameLaws.{is_last}
use Rattle.hp_clocks.proofs.Growing.{grows_of_tells}
use Rattle.hp_clocks.proofs.Sampling.{when_grows, when_never, when_never_here}
use Rattle.hp_clocks.proofs.Leading.{grows_none, args_next, args_end, parts_next, parts_never, parts_end, both_grow, second_never, three_grow, third_never, merge_grows}
use Rattle.hp_clocks.specs.declared.cell.Failure.TheVariants as Failure
use Rattle.hp_clocks.proofs.Seeing.{seen_as, grows_seen, never_seen, handed_on, one_is, two_is, one_grows, two_grow, two_never}
use Rattle.hp_clocks.proofs.expression.+put.Goals as goal

pub put_args-loop-arg-preserved : goal.put_args-loop-arg-preserved
put_args-loop-arg-preserved t c =
    args_next (sight c.args.layers.now) c.args.cells.now.cells.items c.loop-arg.cells.cells.items (λ at. ExprsOn (standing at (sight c.args.layers.now)) (exprs_of c.args.args.now) (at c.args.clock)) c.args.clock
    c.requires.all_there c.requires.there c.args.args.now c.loop-arg.arg-index c.put_expr.new.cells.cells.items c.arg-item.result c.loop-arg-test.true c.arg-item.is c.loop-arg.invariant c.in_ok-put_expr.ensures.grows

pub put_args-returns-clause-grows : goal.put_args-returns-clause-grows
put_args-returns-clause-grows t c =
    args_end (sight c.args.layers.now) c.args.cells.now.cells.items c.loop-arg.cells.cells.items (λ at. ExprsOn (standing at (sight c.args.layers.now)) (exprs_of c.args.args.now) (at c.args.clock)) c.args.clock
    c.requires.all_there c.requires.there c.args.args.now c.loop-arg.arg-index c.loop-arg-test.false c.loop-arg.invariant

pub put_parts-loop-cons-preserved : goal.put_parts-loop-cons-preserved
put_parts-loop-cons-preserved t c =
    parts_next (sight c.args.layers.now) c.args.cells.now.cells.items c.loop-cons.cells.cells.items (λ at. PartsOn (standing at (sight c.args.layers.now)) c.args.name.now (parts_of c.args.parts.now) (at c.args.clock)) c.args.clock
    c.requires.all_there c.requires.there c.args.name.now c.args.parts.now c.loop-cons.cons-index c.add_on.new.self.cells.items c.put_expr.new.cells.cells.items c.in_ok-on.on c.loop-cons-item.result c.loop-cons-test.true c.loop-cons-item.is c.loop-cons.invariant
    c.in_ok-on.ensures.number c.in_ok-on.ensures.tells c.in_ok-put_expr.ensures.grows

pub put_parts-returns-clause-grows : goal.put_parts-returns-clause-grows
put_parts-returns-clause-grows t c =
    parts_end (sight c.args.layers.now) c.args.cells.now.cells.items c.loop-cons.cells.cells.items (λ at. PartsOn (standing at (sight c.args.layers.now)) c.args.name.now (parts_of c.args.parts.now) (at c.args.clock)) c.args.clock
    c.requires.all_there c.requires.there c.args.name.now c.args.parts.now c.loop-cons.cons-index c.loop-cons-test.false c.loop-cons.invariant

pub put_parts-returns-in_err-put_expr-clause-clash : goal.put_parts-returns-in_err-put_expr-clause-clash
put_parts-returns-in_err-put_expr-clause-clash t c =
    λ q.
    parts_never (sight c.args.layers.now) c.args.cells.now.cells.items c.loop-cons.cells.cells.items (λ at. PartsOn (standing at (sight c.args.layers.now)) c.args.name.now (parts_of c.args.parts.now) (at c.args.clock)) c.args.clock
    c.requires.all_there c.requires.there c.args.name.now c.args.parts.now c.loop-cons.cons-index c.add_on.new.self.cells.items c.in_ok-on.on c.loop-cons-item.result c.loop-cons-test.true c.loop-cons-item.is c.loop-cons.invariant
    c.in_ok-on.ensures.number c.in_ok-on.ensures.tells (c.in_err-put_expr.ensures.clash (ap Err (handed_on c.from_residual-in_err-put_expr.result c.in_err-put_expr.field-0.0 Failure.Clash c.from_residual-in_err-put_expr.ensures.1 q)))

pub put_expr-returns-in-Const-clause-grows : goal.put_expr-returns-in-Const-clause-grows
put_expr-returns-in-Const-clause-grows t c =
    let seen = seen_as c.expr.inside c.args.expr.now c.deref.result.now (kind.Const c.in-Const.field-0) c.expr.view_is c.deref.ensures c.in-Const.is in
    grows_seen (sight c.args.layers.now) c.args.cells.now.cells.items c.args.clock (constant c.expr.inside.span c.in-Const.field-0) c.args.expr.now seen c.args.cells.now.cells.items
    (grows_none c.args.cells.now.cells.items (λ at. IsOn (standing at (sight c.args.layers.now)) (constant c.expr.inside.span c.in-Const.field-0) (at c.args.clock)) c.requires.are_cells (λ at. tt))

pub put_expr-returns-in-Name-clause-grows : goal.put_expr-returns-in-Name-clause-grows
put_expr-returns-in-Name-clause-grows t c =
    let seen = seen_as c.expr.inside c.args.expr.now c.deref.result.now (kind.Name c.in-Name.name) c.expr.view_is c.deref.ensures c.in-Name.is in
    ok_map c.put_name.result
    (λ g.
    grows_seen (sight c.args.layers.now) c.args.cells.now.cells.items c.args.clock (variable c.expr.inside.span c.in-Name.name) c.args.expr.now seen c.put_name.new.cells.cells.items
    (grows_of_tells c.args.cells.now.cells.items c.put_name.new.cells.cells.items (λ at. IsOn (standing at (sight c.args.layers.now)) (variable c.expr.inside.span c.in-Name.name) (at c.args.clock)) g))
    c.put_name.ensures.tells

pub put_expr-returns-in-Last-clause-grows : goal.put_expr-returns-in-Last-clause-grows
put_expr-returns-in-Last-clause-grows t c =
    let seen = seen_as c.expr.inside c.args.expr.now c.deref.result.now (kind.Last c.in-Last.field-0) c.expr.view_is c.deref.ensures c.in-Last.is in
    ok_map c.unify.result
    (λ g.
    grows_seen (sight c.args.layers.now) c.args.cells.now.cells.items c.args.clock (last_of c.expr.inside.span c.in-Last.field-0) c.args.expr.now seen c.unify.new.self.cells.items
    (is_last (sight c.args.layers.now) c.args.cells.now.cells.items c.unify.new.self.cells.items c.args.clock c.expr.inside.span c.in-Last.field-0 c.requires.are_cells g))
    c.unify.ensures.tells

pub put_expr-returns-in-One-clause-grows : goal.put_expr-returns-in-One-clause-grows
put_expr-returns-in-One-clause-grows t c =
    let see = sight c.args.layers.now in
    ok_map c.put_expr-in-One.result
    (λ g.
    one_grows see c.args.cells.now.cells.items c.put_expr-in-One.new.cells.cells.items c.args.clock c.args.expr.now c.in-One.a
    (one_is c.expr.inside c.args.expr.now c.deref.result.now c.expr.view_is c.deref.ensures c.in-One.a c.in-One.is) g)
    c.put_expr-in-One.ensures.grows

pub put_expr-returns-in_ok-put_expr-in-Two-clause-grows : goal.put_expr-returns-in_ok-put_expr-in-Two-clause-grows
put_expr-returns-in_ok-put_expr-in-Two-clause-grows t c =
    let see = sight c.args.layers.now in
    ok_map c.put_expr-in-Two-2.result
    (λ g.
    two_grow see c.args.cells.now.cells.items c.put_expr-in-Two-2.new.cells.cells.items c.args.clock c.args.expr.now c.in-Two.a c.in-Two.b
    (two_is c.expr.inside c.args.expr.now c.deref.result.now c.expr.view_is c.deref.ensures c.in-Two.a c.in-Two.b c.in-Two.is)
    (both_grow see c.args.cells.now.cells.items c.put_expr-in-Two.new.cells.cells.items c.args.clock c.requires.all_there c.requires.there c.in-Two.a c.in-Two.b c.put_expr-in-Two-2.new.cells.cells.items c.in_ok-put_expr-in-Two.ensures.grows g))
    c.put_expr-in-Two-2.ensures.grows

pub put_expr-returns-in_ok-put_expr-in-Two-clause-clash : goal.put_expr-returns-in_ok-put_expr-in-Two-clause-clash
put_expr-returns-in_ok-put_expr-in-Two-clause-clash t c =
    let see = sight c.args.layers.now in
    λ q.
    two_never see c.args.cells.now.cells.items c.put_expr-in-Two-2.new.cells.cells.items c.args.clock c.args.expr.now c.in-Two.a c.in-Two.b
    (two_is c.expr.inside c.args.expr.now c.deref.result.now c.expr.view_is c.deref.ensures c.in-Two.a c.in-Two.b c.in-Two.is)
    (second_never see c.args.cells.now.cells.items c.put_expr-in-Two.new.cells.cells.items c.args.clock c.requires.all_there c.requires.there c.in-Two.a c.in-Two.b c.in_ok-put_expr-in-Two.ensures.grows (c.put_expr-in-Two-2.ensures.clash q))

pub put_expr-returns-in_err-put_expr-in-If-2-clause-clash : goal.put_expr-returns-in_err-put_expr-in-If-2-clause-clash
put_expr-returns-in_err-put_expr-in-If-2-clause-clash t c =
    let see = sight c.args.layers.now in
    let d = choose c.expr.inside.span c.in-If.a c.in-If.b c.in-If.c in
    let seen = seen_as c.expr.inside c.args.expr.now c.deref.result.now (kind.If c.in-If.a c.in-If.b c.in-If.c) c.expr.view_is c.deref.ensures c.in-If.is in
    λ q.
    never_seen see c.args.cells.now.cells.items c.args.clock d c.args.expr.now seen
    (λ at f r.
    second_never see c.args.cells.now.cells.items c.put_expr.new.cells.cells.items c.args.clock c.requires.all_there c.requires.there c.in-If.a c.in-If.b c.in_ok-put_expr-in-If.ensures.grows
    (c.in_err-put_expr-in-If-2.ensures.clash (ap Err (handed_on c.from_residual-in_err-put_expr-in-If-2.result c.in_err-put_expr-in-If-2.field-0.0 Failure.Clash c.from_residual-in_err-put_expr-in-If-2.ensures.1 q))) at f (r.0, r.1))

pub put_expr-returns-in_ok-put_expr-in-If-2-clause-grows : goal.put_expr-returns-in_ok-put_expr-in-If-2-clause-grows
put_expr-returns-in_ok-put_expr-in-If-2-clause-grows t c =
    let see = sight c.args.layers.now in
    let d = choose c.expr.inside.span c.in-If.a c.in-If.b c.in-If.c in
    let seen = seen_as c.expr.inside c.args.expr.now c.deref.result.now (kind.If c.in-If.a c.in-If.b c.in-If.c) c.expr.view_is c.deref.ensures c.in-If.is in
    ok_map c.put_expr-in-If-2.result
    (λ g.
    grows_seen see c.args.cells.now.cells.items c.args.clock d c.args.expr.now seen c.put_expr-in-If-2.new.cells.cells.items
    (three_grow see c.args.cells.now.cells.items c.put_expr.new.cells.cells.items c.put_expr-in-If.new.cells.cells.items c.args.clock c.requires.all_there c.requires.there c.in-If.a c.in-If.b c.in-If.c c.put_expr-in-If-2.new.cells.cells.items
    c.in_ok-put_expr-in-If.ensures.grows c.in_ok-put_expr-in-If-2.ensures.grows g))
    c.put_expr-in-If-2.ensures.grows

pub put_expr-returns-in_ok-put_expr-in-If-2-clause-clash : goal.put_expr-returns-in_ok-put_expr-in-If-2-clause-clash
put_expr-returns-in_ok-put_expr-in-If-2-clause-clash t c =
    let see = sight c.args.layers.now in
    let d = choose c.expr.inside.span c.in-If.a c.in-If.b c.in-If.c in
    let seen = seen_as c.expr.inside c.args.expr.now c.deref.result.now (kind.If c.in-If.a c.in-If.b c.in-If.c) c.expr.view_is c.deref.ensures c.in-If.is in
    λ q.
    never_seen see c.args.cells.now.cells.items c.args.clock d c.args.expr.now seen
    (third_never see c.args.cells.now.cells.items c.put_expr.new.cells.cells.items c.put_expr-in-If.new.cells.cells.items c.args.clock c.requires.all_there c.requires.there c.in-If.a c.in-If.b c.in-If.c
    c.in_ok-put_expr-in-If.ensures.grows c.in_ok-put_expr-in-If-2.ensures.grows (c.put_expr-in-If-2.ensures.clash q))

pub put_expr-returns-in_err-unify-in-When-clause-clash : goal.put_expr-returns-in_err-unify-in-When-clause-clash
put_expr-returns-in_err-unify-in-When-clause-clash t c =
    let see = sight c.args.layers.now in
    let d = when_is c.expr.inside.span c.in-When.a c.in-When.cons c.in-When.name in
    let seen = seen_as c.expr.inside c.args.expr.now c.deref.result.now (kind.When c.in-When.a c.in-When.cons c.in-When.name) c.expr.view_is c.deref.ensures c.in-When.is in
    λ q.
    never_seen see c.args.cells.now.cells.items c.args.clock d c.args.expr.now seen
    (when_never_here see c.args.cells.now.cells.items c.clock_of_name.new.cells.cells.items c.add_on.new.self.cells.items c.in_ok-on-in-When.on c.args.clock c.in_ok-under-in-When.under c.expr.inside.span c.in-When.cons c.in-When.name c.in-When.a c.requires.all_there c.in_ok-on-in-When.ensures.number c.requires.there c.in_ok-under-in-When.ensures.there c.in_ok-under-in-When.ensures.tells c.in_ok-under-in-When.ensures.clock c.in_ok-on-in-When.ensures.tells
    (c.in_err-unify-in-When.ensures.clash (ap Err (handed_on c.from_residual-in_err-unify-in-When.result c.in_err-unify-in-When.field-0.0 Failure.Clash c.from_residual-in_err-unify-in-When.ensures.1 q))))

pub put_expr-returns-in_ok-unify-in-When-clause-grows : goal.put_expr-returns-in_ok-unify-in-When-clause-grows
put_expr-returns-in_ok-unify-in-When-clause-grows t c =
    let see = sight c.args.layers.now in
    let d = when_is c.expr.inside.span c.in-When.a c.in-When.cons c.in-When.name in
    let seen = seen_as c.expr.inside c.args.expr.now c.deref.result.now (kind.When c.in-When.a c.in-When.cons c.in-When.name) c.expr.view_is c.deref.ensures c.in-When.is in
    ok_map c.put_expr-in-When.result
    (λ g.
    grows_seen see c.args.cells.now.cells.items c.args.clock d c.args.expr.now seen c.put_expr-in-When.new.cells.cells.items
    (when_grows see c.args.cells.now.cells.items c.clock_of_name.new.cells.cells.items c.add_on.new.self.cells.items c.unify-in-When.new.self.cells.items c.put_expr-in-When.new.cells.cells.items c.in_ok-on-in-When.on c.args.clock c.in_ok-under-in-When.under c.expr.inside.span c.in-When.cons c.in-When.name c.in-When.a c.requires.all_there c.in_ok-on-in-When.ensures.number c.requires.there c.in_ok-under-in-When.ensures.there c.in_ok-under-in-When.ensures.tells c.in_ok-under-in-When.ensures.clock c.in_ok-on-in-When.ensures.tells
    c.in_ok-unify-in-When.ensures.tells g))
    c.put_expr-in-When.ensures.grows

pub put_expr-returns-in_ok-unify-in-When-clause-clash : goal.put_expr-returns-in_ok-unify-in-When-clause-clash
put_expr-returns-in_ok-unify-in-When-clause-clash t c =
    let see = sight c.args.layers.now in
    let d = when_is c.expr.inside.span c.in-When.a c.in-When.cons c.in-When.name in
    let seen = seen_as c.expr.inside c.args.expr.now c.deref.result.now (kind.When c.in-When.a c.in-When.cons c.in-When.name) c.expr.view_is c.deref.ensures c.in-When.is in
    λ q.
    never_seen see c.args.cells.now.cells.items c.args.clock d c.args.expr.now seen
    (when_never see c.args.cells.now.cells.items c.clock_of_name.new.cells.cells.items c.add_on.new.self.cells.items c.unify-in-When.new.self.cells.items c.in_ok-on-in-When.on c.args.clock c.in_ok-under-in-When.under c.expr.inside.span c.in-When.cons c.in-When.name c.in-When.a c.requires.all_there c.in_ok-on-in-When.ensures.number c.requires.there c.in_ok-under-in-When.ensures.there c.in_ok-under-in-When.ensures.tells c.in_ok-under-in-When.ensures.clock c.in_ok-on-in-When.ensures.tells
    c.in_ok-unify-in-When.ensures.tells (c.put_expr-in-When.ensures.clash q))

pub put_expr-returns-in_ok-put_name-in-Merge-clause-grows : goal.put_expr-returns-in_ok-put_name-in-Merge-clause-grows
put_expr-returns-in_ok-put_name-in-Merge-clause-grows t c =
    let see = sight c.args.layers.now in
    let d = merge c.expr.inside.span c.in-Merge.name (parts_of c.in-Merge.parts.items) in
    let seen = seen_as c.expr.inside c.args.expr.now c.deref.result.now (kind.Merge c.in-Merge.name c.in-Merge.parts) c.expr.view_is c.deref.ensures c.in-Merge.is in
    ok_map c.put_parts.result
    (λ g.
    grows_seen see c.args.cells.now.cells.items c.args.clock d c.args.expr.now seen c.put_parts.new.cells.cells.items
    (merge_grows see c.args.cells.now.cells.items c.put_name-in-Merge.new.cells.cells.items c.args.clock c.in-Merge.name c.in-Merge.parts.items c.requires.all_there c.requires.there c.put_parts.new.cells.cells.items
    c.in_ok-put_name-in-Merge.ensures.tells
    (subst (λ z. Grows c.put_name-in-Merge.new.cells.cells.items c.put_parts.new.cells.cells.items (λ at. PartsOn (standing at see) c.in-Merge.name (parts_of z) (at c.args.clock))) c.deref-in-Merge.ensures.value g)))
    c.put_parts.ensures.grows

pub put_expr-returns-in-Call-clause-grows : goal.put_expr-returns-in-Call-clause-grows
put_expr-returns-in-Call-clause-grows t c =
    let see = sight c.args.layers.now in
    let d = call c.expr.inside.span c.in-Call.node c.in-Call.inlined (exprs_of c.in-Call.args.items) in
    let seen = seen_as c.expr.inside c.args.expr.now c.deref.result.now (kind.Call c.in-Call.node c.in-Call.inlined c.in-Call.args) c.expr.view_is c.deref.ensures c.in-Call.is in
    ok_map c.put_args.result
    (λ g.
    grows_seen see c.args.cells.now.cells.items c.args.clock d c.args.expr.now seen c.put_args.new.cells.cells.items
    (subst (λ z. Grows c.args.cells.now.cells.items c.put_args.new.cells.cells.items (λ at. ExprsOn (standing at see) (exprs_of z) (at c.args.clock))) c.deref-in-Call.ensures.value g))
    c.put_args.ensures.grows
