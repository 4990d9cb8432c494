use Rattle.std.proofs.Common.{◌≡◌, ◌++◌, ◌∷◌, [], Bool, false, get_or, sym, ap, ap₂, ◌∙◌, rules}
use Rattle.hp_boolx.specs.Search.{Bits}
use Rattle.hp_diagram.specs.Diagrams.{valuation}
use Rattle.hp_synth.specs.Layouts.{place}
use Rattle.hp_synth.specs.Valued.{Valued, through}
use Rattle.hp_play.proofs.ListLaws.{read-next}
use Rattle.hp_play.proofs.picking.own_values.Goals as goal

pub loop-x-preserved : goal.loop-x-preserved
loop-x-preserved c =
    let v : Valued = through (place c.args.layout.now) (valuation c.args.placed.now) in
    let same : c.from.result ≡ c.place.result = search rules in
    c.in_ok-push.ensures.items
    ∙ ap₂ (λ (a : Bits) (b : Bool). a ++ b ∷ []) c.loop-x.invariant (ap (λ k. get_or c.args.placed.now k false) (same ∙ c.place.ensures))
    ∙ sym (read-next c.loop-x.x v)
