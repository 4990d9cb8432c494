use Rattle.std.proofs.Common.{◌≡◌, ◌↔◌, ◌+◌, ◌<◌, ◌-◌, IsTrue, length, map, get_or, sym, ap, subst, ◌∙◌, arith}
use Rattle.std.proofs.lemmas.List.{get_or_default}
use Rattle.hp_boolx.specs.Solved.{rank}
use Rattle.hp_cert.specs.Certtext.Certificates.{Claim, lose, IsClaim}
use Rattle.hp_cert.specs.Certtext.CertView.{claim_seen}
use Rattle.hp_cert.specs.Proving.{set_of, HoldsAt}
use Rattle.hp_cert.proofs.LineLaws.{last_rank}
use Rattle.hp_cert.proofs.conditions.holds_at.Goals as goal

pub returns-in-Lose : goal.returns-in-Lose
returns-in-Lose c =
    let lines = c.args.lines.now in
    let state = c.args.state.now in
    let result = c.value-in-Lose.result in
    let rs = c.in-Lose.ranks.items in
    let claim : IsClaim (length lines + 2) (lose rs) = subst (IsClaim (length lines + 2)) (ap claim_seen c.in-Lose.is) c.requires.claim in
    let some = claim.0 in
    let whole = c.in-Lose.ranks.ok.0 in
    let n : c.len.result ≡ length rs = let e = c.len.ensures in omega (arith, e, whole) in
    let less : length rs - 1 < length rs = omega (arith, some) in
    let last : c.index.result.now ≡ get_or rs (length rs - 1) 0 = c.index.ensures ∙ ap (λ k. get_or rs (k - 1) c.index.result.now) n ∙ get_or_default rs (length rs - 1) c.index.result.now 0 less in
    let e : result ≡ rank (map (set_of lines) rs) (length rs) state = c.value-in-Lose.ensures ∙ ap (λ r. set_of lines r state) last ∙ last_rank lines rs state some in
    let Q : Claim → Type 0 = λ k. IsTrue result ↔ HoldsAt lines state k in
    subst Q (sym (ap claim_seen c.in-Lose.is)) (λ t. sym e ∙ t, λ t. e ∙ t)
