use Rattle.std.proofs.Common.{◌<◌, ◌≤◌, ◌+◌, length, get_or, drop, ap, refl, ◌∙◌, arith}
use Rattle.hp_cert.specs.Certtext.Texts.{funs}
use Rattle.hp_cert.specs.Certtext.Written.{written}
use Rattle.hp_cert.proofs.CerttextLemmas.RowLaws.{funs_next, funs_end}
use Rattle.hp_cert.proofs.certtext.page.Page.funs.Goals as goal

pub loop-r-preserved : goal.loop-r-preserved
loop-r-preserved c =
    let xs = c.args.funs.now in
    let i = c.loop-r.r-index in
    let less : i < length xs = omega arith in
    ap (λ z. written z (funs (drop (i + 1) xs))) c.in_ok-counted.ensures ∙ funs_next c.loop-r.self (written c.args.self.now (funs xs)) xs i (get_or xs i 0) less refl c.loop-r.invariant

pub returns : goal.returns
returns c =
    let xs = c.args.funs.now in
    let i = c.loop-r.r-index in
    let end : length xs ≤ i = omega arith in
    funs_end c.loop-r.self (written c.args.self.now (funs xs)) xs i end c.loop-r.invariant
