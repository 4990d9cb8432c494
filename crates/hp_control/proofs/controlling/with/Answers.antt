use Rattle.std.proofs.Common.{List, Option, subst, sym}
use Rattle.hp_diagram.specs.declared.reference.Ref.{Ref}
use Rattle.hp_control.specs.Controlling.{IsOnly}
use Rattle.hp_synth.proofs.RoundSteps.{if_ok-map, Means-equal}
use Rattle.hp_control.proofs.ControlBits.{put-value}
use Rattle.hp_control.proofs.controlling.with.Goals as goal

pub returns-clause-ok : goal.returns-clause-ok
returns-clause-ok c =
    if_ok-map c.compose.result (λ s. Means-equal _ _ _ s (put-value c.args.t.now c.deref.result.now c.args.f c.args.k c.args.r
    (subst (λ (l : List (Option Ref)). IsOnly l c.args.k c.args.r) (sym c.deref.ensures.value) c.in_ok-by.ensures.only)))
    c.compose.ensures.ok
