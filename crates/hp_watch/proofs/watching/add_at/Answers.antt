use Rattle.std.proofs.Common.{◌≡◌, ◌∙◌, None, Some, ap, length, refl, slice_get, sym}
use Rattle.std.proofs.lemmas.Option.{slice_get_past, slice_get_read}
use Rattle.hp_watch.proofs.SurveyLaws.{none-free, some-free}
use Rattle.hp_watch.proofs.watching.add_at.Goals as goal

pub returns-in_default : goal.returns-in_default
returns-in_default c =
    let es = c.deref.result.now in
    let k = c.args.number in
    let same : es ≡ c.args.node.now.eqns = c.deref.ensures.value ∙ ap (λ n. n.eqns) c.node.view_is in
    let at : slice_get c.args.node.now.eqns k ≡ None = ap (λ xs. slice_get xs k) (sym same) ∙ slice_get_past es k c.in_default.ensures.lookup.3 in
    none-free c.args.node.now k c.args.free.now.items at

pub returns : goal.returns
returns c =
    let es = c.deref.result.now in
    let k = c.args.number in
    let e = c.in-Some.eqn.now in
    let same : es ≡ c.args.node.now.eqns = c.deref.ensures.value ∙ ap (λ n. n.eqns) c.node.view_is in
    let at : slice_get c.args.node.now.eqns k ≡ Some e = ap (λ xs. slice_get xs k) (sym same) ∙ slice_get_read es (length es) k e refl c.in-Some.ensures.lookup.3.0 c.in-Some.ensures.lookup.1 in
    some-free c.args.node.now k c.args.free.now.items c.add_event.new.free.items e at c.in_ok-add_event.ensures
