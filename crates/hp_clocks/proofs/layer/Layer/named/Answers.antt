use Rattle.std.proofs.Common.{◌≡◌, ◌<◌, ◌-◌, ℕ, List, Bor, length, map, drop, ap, ◌∙◌, arith}
use Rattle.hp_clocks.specs.Layers.{put_at, says, says_names}
use Rattle.hp_clocks.specs.Units.{or_base}
use Rattle.hp_clocks.proofs.TableLaws.{named_end, named_next}
use Rattle.hp_clocks.proofs.layer.Layer.named.Goals as goal

pub loop-i-init : goal.loop-i-init
loop-i-init c =
    let names = c.args.names.now in
    record { within = omega arith; named = c.new-layer.ensures ∙ named_end names (says c.args.cells.now) (length names) (omega arith) }

pub loop-i-preserved : goal.loop-i-preserved
loop-i-preserved c =
    let names = c.args.names.now in
    let see = says c.args.cells.now in
    let i = c.loop-i.i - 1 in
    let name = c.index-names-i.result in
    let within : i < length names = omega arith in
    let name_is : c.bytes-name.result.now ≡ name.now = cc in
    let rest = says_names (map (λ (x : Bor (List ℕ)). x.now) (drop c.loop-i.i names)) see in
    record {
      within = omega arith;
      named = c.in_ok-put.ensures
          ∙ ap (λ f. put_at f c.bytes-name.result.now c.cell.result) c.loop-i.invariant.named
          ∙ ap (λ number. put_at rest c.bytes-name.result.now number) c.cell.ensures
          ∙ ap (λ x. put_at rest x (or_base (see x))) name_is
          ∙ named_next names see i c.loop-i.i name (omega arith) within c.index-names-i.is;
    }
