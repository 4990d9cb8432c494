use Rattle.std.proofs.Common.{arith}
use Rattle.hp_io.proofs.FaultLaws.{Same-trans}
use Rattle.hp_io.proofs.ToldLaws.{Grows-piece}
use Rattle.hp_driver.proofs.report.tell.Goals as goal

pub loop-done-preserved : goal.loop-done-preserved
loop-done-preserved g c =
    let h = c.loop-done.invariant in
    let put = c.in_ok-done.ensures in (
      omega (arith, put.within),
      Grows-piece _ _ _ c.args.text.now c.loop-done.done c.in_ok-done.field-0 h.1 put.took,
      Same-trans h.2 put.no_other_cause.0,
    )
