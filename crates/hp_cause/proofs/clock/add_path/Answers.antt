use Rattle.std.proofs.Common.{◌≡◌, ◌-◌, [], ◌∷◌, length, ap, ◌∙◌, arith}
use Rattle.hp_cause.specs.Told.{names_seen, with_more}
use Rattle.hp_cause.proofs.GrowLaws.{names-push}
use Rattle.hp_cause.proofs.ClockLaws.{path-end, path-next}
use Rattle.hp_cause.proofs.clock.add_path.Goals as goal

pub loop-i-init : goal.loop-i-init
loop-i-init c = record { within = omega arith; names = path-end (names_seen c.args.into.now.items) c.args.path.now (length c.args.path.now) (omega arith) }

pub loop-i-preserved : goal.loop-i-preserved
loop-i-preserved c =
    let path = c.args.path.now in
    let i = c.loop-i.i - 1 in
    let step = c.index-path-i.result in
    let old = names_seen c.args.into.now.items in
    let name_is : c.bytes.result.now ≡ step.1 = cc in
    record {
      within = omega arith;
      names = ap names_seen c.in_ok-push.ensures.items
          ∙ names-push c.loop-i.into.items c.bytes.result
          ∙ ap (λ name. with_more (names_seen c.loop-i.into.items) (name ∷ [])) name_is
          ∙ ap (λ made. with_more made (step.1 ∷ [])) c.loop-i.invariant.names
          ∙ path-next old path i c.loop-i.i step (omega arith) (omega arith) c.index-path-i.is;
    }
