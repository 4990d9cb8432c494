use Rattle.std.proofs.Common.{◌≡◌, min, length, ap, ◌∙◌, arith}
use Rattle.std.proofs.lemmas.List.{length-take}
use Rattle.std.specs.Prelude.{decimal}
use Rattle.hp_expand.proofs.LayerLaws.{six-digits}
use Rattle.hp_expand.proofs.names.with_number.Goals as goal

pub new-requires : goal.new-requires
new-requires c =
    let digits : length c.as_bytes.result.now ≡ length (decimal (min c.args.number 999999)) = ap length (c.as_bytes.ensures.value ∙ c.format.ensures.text ∙ ap decimal c.min-2.ensures) in
    omega (arith, c.deref.ensures.len, c.in_ok-extend_from_slice.ensures.len, c.in_ok-push.ensures.len, c.in_ok-bytes.ensures.len, c.min.ensures, digits, six-digits c.args.number, length-take c.min.result c.args.text.now, c.requires)
