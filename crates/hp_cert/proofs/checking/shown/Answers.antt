use Rattle.std.proofs.Common.{◌≡◌, ◌+◌, ℕ, suc, List, Some, sym, ap, subst, ◌∙◌, true≢false, arith}
use Rattle.hp_cert.specs.Certtext.Certificates.{Claim, lose, Certificate}
use Rattle.hp_cert.specs.Certtext.CertView.{claim_seen, cert_seen}
use Rattle.hp_quant.specs.declared.line.Line.{Line}
use Rattle.hp_cert.specs.Checked.{Shows, FailsStep, FailsRank}
use Rattle.hp_cert.specs.Conditions.{FirstFailing}
use Rattle.hp_cert.specs.Proving.{Keeps}
use Rattle.hp_cert.specs.declared.checking.Proved.TheVariants as proved
use Rattle.hp_cert.proofs.checking.shown.Goals as goal

pub returns-then-branch-clause-proved : goal.returns-then-branch-clause-proved
returns-then-branch-clause-proved c =
    let m = c.args.m.now in
    let x = cert_seen c.c.inside in
    let P : Certificate → Type 0 = λ z. Shows m z z.claim proved.Win in
    let Q : Claim → Type 0 = λ k. Shows m x k proved.Win in
    let R : List Line → List ℕ → Type 0 = λ ls fs. Keeps m ls c.in-Win.inv fs in
    let keeps = c.in_ok-keeps-in-Win.ensures.0 c.if-branch.true in
    record {
      fits = c.requires.fits;
      first = c.requires.first;
      shows = subst P c.c.view_is (subst Q (sym (ap claim_seen c.in-Win.is)) (subst (R x.lines) c.deref-in-Win.ensures.value (subst (λ ls. R ls c.deref-in-Win.result.now) c.deref.ensures.value keeps)));
    }

pub returns-else-branch-clause-refused : goal.returns-else-branch-clause-refused
returns-else-branch-clause-refused c =
    let m = c.args.m.now in
    let x = cert_seen c.c.inside in
    let P : Certificate → Type 0 = λ z. FailsStep m z z.claim in
    let Q : Claim → Type 0 = λ k. FailsStep m x k in
    let R : List Line → List ℕ → Type 0 = λ ls fs. Keeps m ls c.in-Win.inv fs → ⊥ in
    let fails : R c.deref.result.now c.deref-in-Win.result.now = λ k. true≢false (sym (c.in_ok-keeps-in-Win.ensures.1 k) ∙ c.if-branch.false) in (
      c.requires.fits,
      (
        c.requires.first,
        subst P c.c.view_is (subst Q (sym (ap claim_seen c.in-Win.is)) (subst (R x.lines) c.deref-in-Win.ensures.value (subst (λ ls. R ls c.deref-in-Win.result.now) c.deref.ensures.value fails))),
      ),
    )

pub returns-in-Some-clause-refused : goal.returns-in-Some-clause-refused
returns-in-Some-clause-refused c =
    let m = c.args.m.now in
    let x = cert_seen c.c.inside in
    let k = c.in-Some.k in
    let one : suc k ≡ k + 1 = omega arith in
    let P : Certificate → Type 0 = λ z. FailsRank m z z.claim (k + 1) in
    let Q : Claim → Type 0 = λ q. FailsRank m x q (k + 1) in
    let R : List Line → List ℕ → Type 0 = λ ls rs. FirstFailing m ls rs (Some k) in
    let first : R c.deref-in-Lose.result.now c.deref-in-Lose-2.result.now = subst (FirstFailing m c.deref-in-Lose.result.now c.deref-in-Lose-2.result.now) c.in-Some.is c.in_ok-first_failing-in-Lose.ensures in
    let fails : R x.lines c.in-Lose.ranks.items = subst (R x.lines) c.deref-in-Lose-2.ensures.value (subst (λ ls. R ls c.deref-in-Lose-2.result.now) c.deref-in-Lose.ensures.value first) in
    (c.requires.fits, (c.requires.first, subst P c.c.view_is (subst Q (sym (ap claim_seen c.in-Lose.is)) (subst (λ n. FailsRank m x (lose c.in-Lose.ranks.items) n) one fails))))
