use Rattle.std.proofs.Common.{◌≡◌, ◌+◌, Some, slice_set, sym, subst, ◌∙◌, arith}
use Rattle.hp_diagram.proofs.Choices.{Keeps-trans}
use Rattle.hp_synth.specs.Layouts.{place}
use Rattle.hp_synth.specs.Renamed.{AreNamed}
use Rattle.hp_synth.proofs.RenamedLaws.{one-named}
use Rattle.hp_synth.proofs.renaming.names.Goals as goal

pub loop-x-preserved : goal.loop-x-preserved
loop-x-preserved c =
    let l = c.args.layout.now in
    let x = c.loop-x.x in
    let u = c.var.new.self in
    let r = c.in_ok-var.field-0 in
    let at : place l x ≡ c.from-at.result = sym (c.from-at.ensures ∙ c.place.ensures) in (
      Keeps-trans _ _ _ c.loop-x.invariant.0 c.var.ensures.keeps,
      subst (λ y. AreNamed l u (x + 1) (slice_set c.loop-x.by.items y (Some r))) at
          (one-named c.args.t.now.vars l c.requires c.loop-x.t u c.loop-x.by.items x r c.loop-x.invariant.0.vars (omega (arith, c.loop-x-test.true, c.vars-vars.ensures.vars)) c.var.ensures.keeps c.in_ok-var.ensures.ok c.loop-x.invariant.1),
    )
