use Rattle.std.proofs.Common.{◌<◌, ◌≤◌, ◌+◌, length, get_or, drop, ap, refl, ◌∙◌, arith}
use Rattle.hp_cert.specs.Certtext.Texts.{ranks}
use Rattle.hp_cert.specs.Certtext.Written.{written}
use Rattle.hp_cert.proofs.CerttextLemmas.RowLaws.{ranks_next, ranks_end}
use Rattle.hp_cert.proofs.certtext.page.Page.ranks.Goals as goal

pub loop-i-preserved : goal.loop-i-preserved
loop-i-preserved c =
    let xs = c.args.ranks.now in
    let i = c.loop-i.i in
    let less : i < length xs = omega arith in
    ap (λ z. written z (ranks (i + 1 + 1) (drop (i + 1) xs))) c.in_ok-rank.ensures ∙ ranks_next c.loop-i.self (written c.args.self.now (ranks 1 xs)) xs i (get_or xs i 0) less refl c.loop-i.invariant

pub returns : goal.returns
returns c =
    let xs = c.args.ranks.now in
    let i = c.loop-i.i in
    let end : length xs ≤ i = omega arith in
    ranks_end c.loop-i.self (written c.args.self.now (ranks 1 xs)) xs i end c.loop-i.invariant
