use Rattle.std.proofs.Common.{◌≡◌, ◌+◌, false, get_or, refl, rules}
use Rattle.hp_diagram.proofs.Choices.{Keeps-trans, Keeps-refl}
use Rattle.hp_synth.specs.Layouts.{place}
use Rattle.hp_play.proofs.PickLaws.{more-values, no-values, one-true}
use Rattle.hp_play.proofs.picking.of_values.Goals as goal

pub loop-i-init : goal.loop-i-init
loop-i-init c = (no-values (place c.args.layout.now) c.args.t.now c.args.from c.one-all.result (search rules) (search (rules, one-true)), Keeps-refl c.args.t.now c.vars-vars.ensures.reduced)

pub loop-i-preserved : goal.loop-i-preserved
loop-i-preserved c =
    let at : c.place.result ≡ place c.args.layout.now (c.args.from + c.loop-i.i) = search rules in (
      more-values (place c.args.layout.now) c.loop-i.t c.literal.new.t c.and.new.self c.args.from c.loop-i.i c.place.result c.args.values.now (get_or c.args.values.now c.loop-i.i false) c.loop-i.all c.in_ok-value.value c.in_ok-all.all
          (search rules) at refl c.in_ok-value.ensures.keeps c.loop-i.invariant.0 c.in_ok-value.ensures.ok c.in_ok-all.ensures.ok,
      Keeps-trans _ _ _ (Keeps-trans _ _ _ c.loop-i.invariant.1 c.in_ok-value.ensures.keeps) c.and.ensures.keeps,
    )
