use Rattle.std.proofs.Common.{◌≡◌, ◌+◌, ◌<◌, ◌-◌, length, Some, ap, ◌∙◌, arith}
use Rattle.hp_tables.specs.Defining.Layers.{put_at, says}
use Rattle.hp_tables.proofs.DefiningLemmas.LayerLaws.{numbers-end, numbers-next}
use Rattle.hp_tables.proofs.defining.layer.Layer.numbered.Goals as goal

pub loop-i-init : goal.loop-i-init
loop-i-init c =
    let names = c.args.names.now in
    record { within = omega arith; numbers = c.new-layer.ensures ∙ numbers-end c.args.first names (length names) (omega arith) }

pub loop-i-preserved : goal.loop-i-preserved
loop-i-preserved c =
    let names = c.args.names.now in
    let i = c.loop-i.i - 1 in
    let name = c.index-names-i.result in
    let number = Some (c.args.first + i) in
    let inside : i < length names = omega arith in
    let name_is : c.bytes-name.result.now ≡ name.now = cc in
    record {
      within = omega arith;
      numbers = c.in_ok-put.ensures
          ∙ ap (λ x. put_at (says c.loop-i.layer) x number) name_is
          ∙ ap (λ f. put_at f name.now number) c.loop-i.invariant.numbers
          ∙ numbers-next c.args.first names i c.loop-i.i name (omega arith) inside c.index-names-i.is;
    }
