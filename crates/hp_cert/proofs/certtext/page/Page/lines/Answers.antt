use Rattle.std.proofs.Common.{◌<◌, ◌≤◌, ◌+◌, length, drop, ap, refl, ◌∙◌, arith}
use Rattle.hp_cert.specs.Certtext.Texts.{lines}
use Rattle.hp_cert.specs.Certtext.Written.{written}
use Rattle.hp_cert.proofs.CerttextLemmas.RowLaws.{lines_next, lines_end}
use Rattle.hp_cert.proofs.certtext.page.Page.lines.Goals as goal

pub loop-i-preserved : goal.loop-i-preserved
loop-i-preserved c =
    let xs = c.args.lines.now in
    let i = c.loop-i.i in
    let less : i < length xs = omega arith in
    ap (λ z. written z (lines (i + 1 + 2) (drop (i + 1) xs))) c.in_ok-line.ensures ∙ lines_next c.loop-i.self (written c.args.self.now (lines 2 xs)) xs i _ _ less refl c.loop-i.invariant

pub returns : goal.returns
returns c =
    let xs = c.args.lines.now in
    let i = c.loop-i.i in
    let end : length xs ≤ i = omega arith in
    lines_end c.loop-i.self (written c.args.self.now (lines 2 xs)) xs i end c.loop-i.invariant
