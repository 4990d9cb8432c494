use Rattle.std.proofs.Common.{◌-◌, take, sym, ap, ◌∙◌, arith}
use Rattle.law_equations.specs.Made.Making.{or_entry}
use Rattle.hp_complete.specs.Layers.{inner_first, seen_if, sight}
use Rattle.hp_complete.proofs.LayerLaws.{sight-next}
use Rattle.hp_complete.proofs.layer.sight.Goals as goal

pub returns-in-Some : goal.returns-in-Some
returns-in-Some c =
    let layers = c.args.layers.now in
    let name = c.args.name.now in
    let i = c.loop-i.i - 1 in
    let out = sight (inner_first (take i layers)) name in
    sym (c.loop-i.invariant.found ∙ sight-next layers i c.loop-i.i c.index-layers-i.result name (omega arith) (omega arith) c.index-layers-i.is ∙ ap (λ o. or_entry o out) (sym c.of.ensures ∙ ap seen_if c.in-Some.is))
