use Rattle.std.proofs.Common.{◌≡◌, ◌<◌, ◌≤◌, ◌+◌, length, get_or, drop, ap, ◌∙◌, arith}
use Rattle.hp_cert.specs.Certtext.Texts.{spaced, decimals}
use Rattle.hp_cert.specs.Certtext.Written.{written}
use Rattle.hp_cert.proofs.CerttextLemmas.RowLaws.{numbers_next, numbers_end}
use Rattle.hp_cert.proofs.certtext.page.Page.numbers.Goals as goal

pub loop-number-preserved : goal.loop-number-preserved
loop-number-preserved c =
    let xs = c.args.numbers.now in
    let i = c.loop-number.number-index in
    let less : i < length xs = omega arith in
    let same : c.from.result ≡ get_or xs i 0 = omega arith in
    ap (λ z. written z (spaced (decimals (drop (i + 1) xs)))) c.in_ok-number.ensures ∙ numbers_next c.loop-number.self (written c.args.self.now (spaced (decimals xs))) xs i c.from.result less same c.loop-number.invariant

pub returns : goal.returns
returns c =
    let xs = c.args.numbers.now in
    let i = c.loop-number.number-index in
    let end : length xs ≤ i = omega arith in
    numbers_end c.loop-number.self (written c.args.self.now (spaced (decimals xs))) xs i end c.loop-number.invariant
