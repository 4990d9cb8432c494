use Rattle.std.proofs.Common.{◌≡◌, ◌∙◌, ◌++◌, ◌-◌, ap, arith, codes}
use Rattle.hp_driver.specs.Sweeping.{apart_text}
use Rattle.hp_driver.proofs.SweepTexts.{guarantee_all, row_more}
use Rattle.hp_driver.proofs.sweep.add_guarantee.Goals as goal

pub loop-i-preserved : goal.loop-i-preserved
loop-i-preserved c = (
  omega arith,
  row_more (codes " & ") apart_text c.args.text.now.items c.loop-i.text.items c.add-in-loop-i.new.text.items c.add_apart-in-loop-i.new.text.items c.loop-i.i c.loop-i.invariant.0 c.loop-i.invariant.1
      c.in_ok-add.ensures c.in_ok-add_apart-2.ensures,
)

pub returns : goal.returns
returns c =
    let all : c.loop-i.i ≡ c.args.tasks - 1 = omega arith in
    c.loop-i.invariant.1 ∙ ap (λ z. c.args.text.now.items ++ z) (guarantee_all c.args.tasks c.loop-i.i c.loop-i.invariant.0 all)
