use Rattle.std.proofs.Common.{◌≡◌, ◌+◌, ◌<◌, ◌≤◌, length, slice_index_or, sym, subst, ◌∙◌, arith}
use Rattle.hp_diagram.specs.Diagrams.{Has, Means, zero_ref}
use Rattle.hp_diagram.proofs.Choices.{Keeps-refl, Keeps-trans}
use Rattle.hp_control.specs.Controlling.{put_in}
use Rattle.hp_synth.specs.Layouts.{place}
use Rattle.hp_synth.specs.Valued.{control_from}
use Rattle.hp_cert.proofs.ChosenLaws.{chosen-first, chosen-next, chosen-last}
use Rattle.hp_cert.proofs.steps.chosen.Goals as goal

pub loop-i-init : goal.loop-i-init
loop-i-init c = record {
  has = c.requires.choices;
  keeps = Keeps-refl c.args.t.now c.vars-vars.ensures.reduced;
  at = omega arith;
  near = omega arith;
  left_is = λ g q F counts choices given. chosen-first c.args.t.now.vars c.args.layout.now c.requires.layout g q F c.args.t.now c.args.funs.now c.requires.funs (c.requires.count ∙ sym counts.2) given c.args.choices choices;
}

pub put-requires-clause-r : goal.put-requires-clause-r
put-requires-clause-r c =
    let less : c.loop-i.i < length c.args.funs.now = omega arith in
    c.loop-i.invariant.keeps.has (slice_index_or c.args.funs.now c.loop-i.i zero_ref) (c.requires.funs c.loop-i.i zero_ref less)

pub returns-in_err-left-clause-keeps : goal.returns-in_err-left-clause-keeps
returns-in_err-left-clause-keeps c = Keeps-trans _ _ _ c.loop-i.invariant.keeps c.put.ensures.keeps

pub loop-i-preserved : goal.loop-i-preserved
loop-i-preserved c =
    let old = c.loop-i.invariant in
    let less : c.loop-i.i < length c.args.funs.now = omega arith in
    let fun = slice_index_or c.args.funs.now c.loop-i.i zero_ref in
    record {
      has = c.in_ok-left.ensures.ok.has;
      keeps = Keeps-trans _ _ _ old.keeps c.put.ensures.keeps;
      at = omega (arith, old.at);
      near = omega (arith, less);
      left_is = λ g q F counts choices given.
          let at : c.loop-i.k ≡ control_from g + c.loop-i.i = omega (arith, old.at, counts.0, counts.1) in
          let put = subst (λ y. Means c.put.new.t (put_in c.loop-i.t c.loop-i.left y fun) c.in_ok-left.left) c.place.ensures c.in_ok-left.ensures.ok in
          chosen-next c.args.t.now.vars c.args.layout.now c.requires.layout g q F c.args.t.now c.args.funs.now c.requires.funs (c.requires.count ∙ sym counts.2) given c.loop-i.t c.put.new.t old.keeps c.loop-i.i c.loop-i.k less at c.loop-i.left c.in_ok-left.left
          (old.left_is g q F counts choices given) put;
    }

pub returns-clause-ok : goal.returns-clause-ok
returns-clause-ok c = λ g q F counts choices given.
    let past : length c.args.funs.now ≤ c.loop-i.i = omega arith in
    chosen-last c.args.t.now.vars c.args.layout.now c.requires.layout g q F c.args.t.now c.args.funs.now c.requires.funs (c.requires.count ∙ sym counts.2) given c.loop-i.t c.loop-i.i c.loop-i.left past c.loop-i.invariant.near
    (c.loop-i.invariant.left_is g q F counts choices given)
