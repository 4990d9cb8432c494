use Rattle.std.proofs.Common.{arith, ◌∙◌}
use Rattle.hp_io.proofs.FaultLaws.{Same-trans}
use Rattle.hp_io.proofs.ToldLaws.{Grows-map_piece}
use Rattle.hp_io.specs.declared.console.Event.TheVariants.{Said}
use Rattle.hp_driver.proofs.follow.say.Goals as goal

pub loop-done-preserved : goal.loop-done-preserved
loop-done-preserved g c =
    let h = c.loop-done.invariant in
    let put = c.in_ok-done.ensures in (
      omega (arith, put.within),
      Grows-map_piece Said _ _ _ c.args.text.now c.loop-done.done c.in_ok-done.field-0 h.1 put.events,
      put.left ∙ h.2,
      Same-trans h.3 put.no_other_cause.0,
      Same-trans h.4 put.takes,
    )
