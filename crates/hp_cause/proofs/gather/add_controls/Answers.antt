use Rattle.std.proofs.Common.{◌≡◌, ◌+◌, Some, drop, sym, ap, ◌∙◌}
use Rattle.hp_meaning.specs.declared.causal.point.PointKind.TheVariants as kind
use Rattle.hp_cause.specs.Facts.{stand}
use Rattle.hp_cause.specs.Gathering.{of_controls}
use Rattle.hp_cause.specs.Told.{facts_seen, with_more}
use Rattle.hp_cause.proofs.GrowLaws.{next-control}
use Rattle.hp_cause.proofs.gather.add_controls.Goals as goal

pub loop-i-preserved : goal.loop-i-preserved
loop-i-preserved c =
    let i = c.loop-i.i in
    let decls = c.args.decls.now in
    let decl = c.index-decls-i.result in
    let before = facts_seen c.loop-i.facts.items in
    let name_is : c.bytes.result.now ≡ decl.name = cc in
    let span_is : c.decl.inside.span ≡ decl.span = ap (λ d. d.span) c.decl.view_is in
    ap (λ made. with_more made (of_controls (i + 1) (drop (i + 1) decls)))
    (c.in_ok-stand.ensures ∙ ap (λ name. with_more before (stand kind.Def name c.decl.inside.span (Some i))) name_is ∙ ap (λ at. with_more before (stand kind.Def decl.name at (Some i))) span_is)
    ∙ sym (next-control before i decls i decl c.loop-i-test.true c.index-decls-i.is)
    ∙ c.loop-i.invariant
