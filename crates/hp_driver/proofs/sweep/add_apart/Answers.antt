use Rattle.std.proofs.Common.{◌+◌, arith, codes}
use Rattle.hp_driver.specs.Sweeping.{pair_text}
use Rattle.hp_driver.proofs.SweepTexts.{row_more}
use Rattle.hp_driver.proofs.sweep.add_apart.Goals as goal

pub loop-i-preserved : goal.loop-i-preserved
loop-i-preserved c = (
  omega arith,
  row_more (codes " & ") (λ other. pair_text other (c.args.others + 1)) c.args.text.now.items c.loop-i.text.items c.add.new.text.items c.add_pair-in-loop-i.new.text.items c.loop-i.i c.loop-i.invariant.0 c.loop-i.invariant.1
      c.in_ok-add.ensures c.in_ok-add_pair-2.ensures,
)
