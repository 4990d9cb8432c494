use Rattle.hp_typing.specs.Seen.{kind_told}
use Rattle.hp_typing.proofs.TypeLaws.{operands_law, all_typed-step, args_fit-step_on, exprs-step, pairs-step, parts_fit-step, parts-step}
use Rattle.hp_typing.proofs.expressions.+check.Goals as goal

pub check_args-loop-i-preserved : goal.check_args-loop-i-preserved
check_args-loop-i-preserved t c =
    let s = c.args.scope.now in
    let inputs = c.args.inputs.now in
    let args = c.args.args.now in
    let i = c.loop-i.i in
    let e = c.index-args-i.result in
    let more = c.loop-i-test.true in
    let is = c.index-args-i.is in
    let known = c.check_expr-is.ensures.kind in
    record {
      typed = all_typed-step s inputs args i e more is c.loop-i.typed _ _ _ c.is_some-typed.ensures known c.loop-i.invariant.typed;
      fit = args_fit-step_on s inputs args i e more is c.loop-i.fit _ _ _ c.check_input-input_fits.ensures.fits known c.loop-i.invariant.fit;
      found = exprs-step s inputs args i e more is c.loop-i.found _ _ c.check_expr-is.ensures.found c.loop-i.invariant.found;
      mismatch = pairs-step s inputs args i e more is c.loop-i.mismatch _ _ _ _ c.place.ensures known c.check_input-input_fits.ensures.mismatch c.loop-i.invariant.mismatch;
    }

pub check_merge-returns-then-rest_fit-clause-found : goal.check_merge-returns-then-rest_fit-clause-found
check_merge-returns-then-rest_fit-clause-found t c =
    operands_law c.args.scope.now c.args.at (kind_told c.args.name) c.args.found.now c.args.parts.now _ _ _ _ _ _ _ c.in-len1-up.len_at_least c.cons_kind.ensures
    c.check_expr-first.ensures.kind c.want-cons_fits.ensures.found c.check_expr-first.ensures.found c.check_parts-rest_fit.ensures.found

pub check_merge-returns-else-chooses-clause-found : goal.check_merge-returns-else-chooses-clause-found
check_merge-returns-else-chooses-clause-found t c =
    operands_law c.args.scope.now c.args.at (kind_told c.args.name) c.args.found.now c.args.parts.now _ _ _ _ _ _ _ c.in-len1-up.len_at_least c.cons_kind.ensures
    c.check_expr-first.ensures.kind c.want-cons_fits.ensures.found c.check_expr-first.ensures.found c.check_parts-rest_fit.ensures.found

pub check_parts-loop-cons-preserved : goal.check_parts-loop-cons-preserved
check_parts-loop-cons-preserved t c =
    let s = c.args.scope.now in
    let at = c.args.at in
    let name = kind_told c.args.name in
    let first = kind_told c.args.first in
    let parts = c.args.parts.now in
    let i = c.loop-cons.cons-index in
    let p = c.loop-cons-item.result in
    let more = c.loop-cons-test.true in
    let is = c.loop-cons-item.is in
    record {
      fit = parts_fit-step s name first parts i p more is c.loop-cons.fit _ _ _ _ _ c.want-cons_fits.ensures.agrees c.cons_kind.ensures c.want-right_fits.ensures.agrees
          c.check_expr-is.ensures.kind c.loop-cons.invariant.fit;
      found = parts-step s name first parts i p more is at _ c.loop-cons.found _ _ _ _ _ _ c.cons_kind.ensures c.check_expr-is.ensures.kind c.place.ensures
          c.want-cons_fits.ensures.found c.check_expr-is.ensures.found c.want-right_fits.ensures.found c.loop-cons.invariant.found;
    }
