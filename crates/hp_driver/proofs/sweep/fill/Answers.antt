use Rattle.std.proofs.Common.{◌∙◌, ap, arith, set}
use Rattle.std.proofs.lemmas.List.{length-set}
use Rattle.hp_base.specs.declared.value.Value.TheVariants.{B}
use Rattle.hp_driver.proofs.SweepLaws.{fill_next}
use Rattle.hp_driver.proofs.sweep.fill.Goals as goal

pub loop-i-preserved : goal.loop-i-preserved
loop-i-preserved c =
    let i = c.loop-i.i in
    let now = c.loop-i.inputs in (
      length-set now i (B c.is_input.result) ∙ c.loop-i.invariant.0,
      ap (λ v. set now i (B v)) c.is_input.ensures ∙ fill_next c.args.instant i c.args.inputs.now now (omega arith) c.loop-i.invariant.1,
    )
