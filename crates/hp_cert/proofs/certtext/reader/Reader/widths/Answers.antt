use Rattle.std.proofs.Common.{ap, ◌∙◌, arith}
use Rattle.hp_cert.specs.Certtext.Texts.{space, newline}
use Rattle.hp_cert.specs.Certtext.Reading.{either, until, width}
use Rattle.hp_cert.proofs.CerttextLemmas.UntilLaws.{pick_strict, width_falls, until_more, first_read}
use Rattle.hp_cert.proofs.certtext.reader.Reader.widths.Goals as goal

pub loop-widths-preserved : goal.loop-widths-preserved
loop-widths-preserved c =
    let old = c.loop-widths.widths.items in
    let x = c.in_ok-width.field-0 in
    ap (λ z. until space newline width z c.width.new.self) c.in_ok-push.ensures.items
    ∙ until_more space newline width (pick_strict space newline) width_falls old x c.loop-widths.self c.either.new.self c.width.new.self
    (first_read (either space newline c.loop-widths.self) c.in_ok-either.field-0 c.either.new.self c.in_ok-either.ensures.read c.if-branch.true) c.in_ok-width.ensures
    ∙ c.loop-widths.invariant

pub loop-widths-smaller : goal.loop-widths-smaller
loop-widths-smaller c =
    let one = c.in_ok-either.ensures.shorter in
    let two = width_falls 0 c.either.new.self c.in_ok-width.field-0 c.width.new.self c.in_ok-width.ensures in
    omega (arith, one, two)
