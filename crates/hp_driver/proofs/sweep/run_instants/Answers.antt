use Rattle.std.proofs.Common.{◌≡◌, ◌∙◌, ap, arith, length, sym}
use Rattle.hp_base.specs.Kinds.{SignatureData}
use Rattle.hp_exec.specs.Executors.{kept}
use Rattle.hp_driver.specs.Sweeping.{counts_behind}
use Rattle.hp_driver.proofs.SweepLaws.{counts_next, memory_next}
use Rattle.hp_driver.proofs.sweep.run_instants.Goals as goal

pub loop-i-preserved : goal.loop-i-preserved
loop-i-preserved c =
    let h = c.loop-i.invariant in
    let e = c.step.ensures in
    let many = length c.args.room.now.inputs.items in
    let places = length c.loop-i.room.inputs.items in (
      e.inputs ∙ h.0 ∙ sym (ap (λ (s : SignatureData). length s.inputs) e.signature),
      e.outputs ∙ h.1 ∙ sym (ap (λ (s : SignatureData). length s.outputs) e.signature),
      e.counts ∙ h.2 ∙ sym e.outputs,
      e.inputs ∙ h.3,
      e.outputs ∙ h.4,
      λ b runs fresh none.
          let before = h.5 b runs fresh none in
          (e.runs b before.0, e.kept b before.0 ∙ memory_next b many c.loop-i.i places (kept c.loop-i.exec) h.3 before.1, e.counted b before.0 ∙ counts_next b many c.loop-i.i places (kept c.loop-i.exec) h.3 before.1 (length c.args.room.now.outputs.items) c.loop-i.room.counts.items before.2),
    )

pub returns : goal.returns
returns c = λ b runs fresh none.
    let all : c.loop-i.i ≡ c.args.instants = omega arith in
    (c.loop-i.invariant.5 b runs fresh none).2 ∙ ap (counts_behind b (length c.args.room.now.inputs.items) (length c.args.room.now.outputs.items)) all
