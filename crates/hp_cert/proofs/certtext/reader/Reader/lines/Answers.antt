use Rattle.std.proofs.Common.{◌≡◌, length, codes, ap, sym, ◌∙◌, rules, arith}
use Rattle.hp_cert.specs.Certtext.Reading.{either, until, line}
use Rattle.hp_cert.proofs.CerttextLemmas.UntilLaws.{pick_strict, line_falls, until_more, first_read}
use Rattle.hp_cert.proofs.certtext.reader.Reader.lines.Goals as goal

pub loop-lines-preserved : goal.loop-lines-preserved
loop-lines-preserved c =
    let old = c.loop-lines.lines.items in
    let x = c.in_ok-line.field-0 in
    let count : c.len.result ≡ length old = search rules in
    ap (λ z. until (codes "d") c.args.stop.now line z c.line.new.self) c.in_ok-push.ensures.items
    ∙ until_more (codes "d") c.args.stop.now line (pick_strict (codes "d") c.args.stop.now) line_falls old x c.loop-lines.self c.either.new.self c.line.new.self
    (first_read (either (codes "d") c.args.stop.now c.loop-lines.self) c.in_ok-either.field-0 c.either.new.self c.in_ok-either.ensures.read c.if-branch.true) (ap (λ n. line n c.either.new.self) (sym count) ∙ c.in_ok-line.ensures)
    ∙ c.loop-lines.invariant

pub loop-lines-smaller : goal.loop-lines-smaller
loop-lines-smaller c =
    let one = c.in_ok-either.ensures.shorter in
    let two = line_falls c.len.result c.either.new.self c.in_ok-line.field-0 c.line.new.self c.in_ok-line.ensures in
    omega (arith, one, two)
