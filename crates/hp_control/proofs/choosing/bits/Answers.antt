use Rattle.std.proofs.Common.{◌≡◌, ◌+◌, ◌<◌, ◌≤◌, length, refl, sym, subst, ◌∙◌, arith}
use Rattle.std.proofs.lemmas.List.Elements.{All-nil}
use Rattle.hp_diagram.specs.Diagrams.{Has, Means}
use Rattle.hp_diagram.proofs.Choices.{Keeps-refl, Keeps-trans}
use Rattle.hp_synth.specs.Building.{HasEach}
use Rattle.hp_synth.specs.Layouts.{place, IsLayout}
use Rattle.hp_synth.specs.Valued.{control_from}
use Rattle.hp_synth.proofs.Gates.{has-keep, has-push}
use Rattle.hp_control.specs.Controlling.{put_in}
use Rattle.hp_control.proofs.ChoosingLaws.{chosen-none, chosen-more, chosen-all}
use Rattle.hp_control.proofs.choosing.bits.Goals as goal

pub loop-i-init : goal.loop-i-init
loop-i-init c = (
  c.requires.choices,
  Keeps-refl c.args.t.now c.vars-vars.ensures.reduced,
  omega arith,
  λ g q counts left. chosen-none g (place c.args.layout.now) q (control_from g) c.args.prefer.now c.args.t.now c.args.choices c.new-funs.result.items c.new-funs.ensures.items left,
  subst (HasEach c.args.t.now) (sym c.new-funs.ensures.items) (All-nil (Has c.args.t.now)),
)

pub control_bit-requires-clause-layout : goal.control_bit-requires-clause-layout
control_bit-requires-clause-layout c = subst (λ n. IsLayout n c.args.layout.now) (sym c.loop-i.invariant.1.vars) c.requires.layout

pub returns-in_err-fun-clause-keeps : goal.returns-in_err-fun-clause-keeps
returns-in_err-fun-clause-keeps c = Keeps-trans _ _ _ c.loop-i.invariant.1 c.control_bit.ensures.keeps

pub put-requires-clause-r : goal.put-requires-clause-r
put-requires-clause-r c = c.in_ok-fun.ensures.has

pub returns-in_err-left-clause-keeps : goal.returns-in_err-left-clause-keeps
returns-in_err-left-clause-keeps c = Keeps-trans _ _ _ (Keeps-trans _ _ _ c.loop-i.invariant.1 c.control_bit.ensures.keeps) c.put.ensures.keeps

pub returns-in_err-push-clause-keeps : goal.returns-in_err-push-clause-keeps
returns-in_err-push-clause-keeps c = Keeps-trans _ _ _ (Keeps-trans _ _ _ c.loop-i.invariant.1 c.control_bit.ensures.keeps) c.put.ensures.keeps

pub loop-i-preserved : goal.loop-i-preserved
loop-i-preserved c = (
  c.in_ok-left.ensures.ok.has,
  Keeps-trans _ _ _ (Keeps-trans _ _ _ c.loop-i.invariant.1 c.control_bit.ensures.keeps) c.put.ensures.keeps,
  omega (arith, c.loop-i.invariant.2),
  λ g q counts left.
      let l = c.args.layout.now in
      let within : c.loop-i.i < length c.args.prefer.now = omega arith in
      let at : c.loop-i.k ≡ control_from g + c.loop-i.i = omega (arith, c.loop-i.invariant.2, counts.0, counts.1) in
      let put = subst (λ y. Means c.put.new.t (put_in c.control_bit.new.t c.loop-i.left y c.in_ok-fun.fun) c.in_ok-left.left) c.place.ensures c.in_ok-left.ensures.ok in
      chosen-more c.args.t.now.vars l c.requires.layout g q (control_from g) c.loop-i.k c.args.prefer.now c.loop-i.t c.control_bit.new.t c.put.new.t c.loop-i.i c.loop-i.left c.in_ok-fun.fun c.in_ok-left.left c.loop-i.funs.items c.push.new.self.items
      within at refl (c.requires.count ∙ sym counts.2) (c.loop-i.invariant.3 g q counts left) c.control_bit.ensures.keeps
      (λ n p to is. c.in_ok-fun.ensures.ok g n p counts (omega (arith, at)) to is)
      c.put.ensures.keeps put c.in_ok-push.ensures.items,
  subst (HasEach c.put.new.t) (sym c.in_ok-push.ensures.items)
      (has-push c.put.new.t c.loop-i.funs.items c.in_ok-fun.fun
      (has-keep c.loop-i.t c.put.new.t c.loop-i.funs.items (Keeps-trans _ _ _ c.control_bit.ensures.keeps c.put.ensures.keeps) c.loop-i.invariant.4)
      (c.put.ensures.keeps.has c.in_ok-fun.fun c.in_ok-fun.ensures.has)),
)

pub returns-clause-ok : goal.returns-clause-ok
returns-clause-ok c = λ g q counts left.
    let past : length c.args.prefer.now ≤ c.loop-i.i = omega arith in
    chosen-all g (place c.args.layout.now) q (control_from g) c.args.prefer.now c.loop-i.t c.loop-i.i c.loop-i.left c.loop-i.funs.items past (c.loop-i.invariant.3 g q counts left)
