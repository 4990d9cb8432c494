use Rattle.std.proofs.Common.{◌≡◌, ◌<◌, ◌-◌, length, drop, ap, ◌∙◌, arith}
use Rattle.hp_tables.specs.Defining.Seen.{names_seen}
use Rattle.hp_tables.specs.Defining.Layers.{put_at, says_seen, sight}
use Rattle.hp_tables.proofs.DefiningLemmas.LayerLaws.{seen-end, seen-next}
use Rattle.hp_tables.proofs.defining.layer.Layer.seen.Goals as goal

pub loop-i-init : goal.loop-i-init
loop-i-init c =
    let names = c.args.names.now in
    record { within = omega arith; seen = c.new-layer.ensures ∙ seen-end names (sight c.args.layers.now) (length names) (omega arith) }

pub loop-i-preserved : goal.loop-i-preserved
loop-i-preserved c =
    let names = c.args.names.now in
    let see = sight c.args.layers.now in
    let i = c.loop-i.i - 1 in
    let name = c.index-names-i.result in
    let within : i < length names = omega arith in
    let name_is : c.bytes-name.result.now ≡ name.now = cc in
    let rest = says_seen (names_seen (drop c.loop-i.i names)) see in
    record {
      within = omega arith;
      seen = c.in_ok-put.ensures
          ∙ ap (λ f. put_at f c.bytes-name.result.now c.sight.result) c.loop-i.invariant.seen
          ∙ ap (λ number. put_at rest c.bytes-name.result.now number) c.sight.ensures
          ∙ ap (λ x. put_at rest x (see x)) name_is
          ∙ seen-next names see i c.loop-i.i name (omega arith) within c.index-names-i.is;
    }
