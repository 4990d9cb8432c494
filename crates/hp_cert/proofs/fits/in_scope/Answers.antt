use Rattle.std.proofs.Common.{◌≡◌, ◌↔◌, ◌+◌, ℕ, IsTrue, List, All, sym, ap, subst, rules}
use Rattle.std.specs.Prelude.{IfOk}
use Rattle.hp_cert.specs.Certtext.Certificates.{Claim, Certificate}
use Rattle.hp_cert.specs.Certtext.CertView.{claim_seen, cert_seen}
use Rattle.hp_quant.specs.declared.line.Line.{Line}
use Rattle.hp_cert.specs.Proving.{InScope, ReadsBelow}
use Rattle.hp_cert.proofs.fits.in_scope.Goals as goal

pub returns-in-Win : goal.returns-in-Win
returns-in-Win c =
    let m = c.args.m.now in
    let x = cert_seen c.c.inside in
    let result = c.win_in_scope.result in
    let registers : c.from-registers.result ≡ m.registers = search rules in
    let early : c.from-early.result ≡ m.early = search rules in
    let P : Certificate → Type 0 = λ z. IfOk result (λ b. IsTrue b ↔ InScope m z z.claim) in
    let Q : Claim → Type 0 = λ k. IfOk result (λ b. IsTrue b ↔ InScope m x k) in
    let inv = c.in-Win.inv in
    let R : List Line → ℕ → ℕ → List ℕ → Type 0 = λ ls n k rs. IfOk result (λ b. IsTrue b ↔ (ReadsBelow ls n inv × All (ReadsBelow ls (n + k)) rs)) in
    subst P c.c.view_is (subst Q (sym (ap claim_seen c.in-Win.is))
    (subst (λ rs. R x.lines m.registers m.early rs) c.deref-in-Win.ensures.value (subst (λ k. R x.lines m.registers k c.deref-in-Win.result.now) early (subst (λ n. R x.lines n c.from-early.result c.deref-in-Win.result.now) registers
    (subst (λ (ls : List Line). R ls c.from-registers.result c.from-early.result c.deref-in-Win.result.now) c.deref.ensures.value c.win_in_scope.ensures)))))

pub returns-in-Lose : goal.returns-in-Lose
returns-in-Lose c =
    let m = c.args.m.now in
    let x = cert_seen c.c.inside in
    let result = c.read_below.result in
    let registers : c.from-registers.result ≡ m.registers = search rules in
    let P : Certificate → Type 0 = λ z. IfOk result (λ b. IsTrue b ↔ InScope m z z.claim) in
    let Q : Claim → Type 0 = λ k. IfOk result (λ b. IsTrue b ↔ InScope m x k) in
    let R : List Line → ℕ → List ℕ → Type 0 = λ ls n rs. IfOk result (λ b. IsTrue b ↔ All (ReadsBelow ls n) rs) in
    subst P c.c.view_is (subst Q (sym (ap claim_seen c.in-Lose.is))
    (subst (λ rs. R x.lines m.registers rs) c.deref-in-Lose-2.ensures.value (subst (λ n. R x.lines n c.deref-in-Lose-2.result.now) registers
    (subst (λ (ls : List Line). R ls c.from-registers.result c.deref-in-Lose-2.result.now) c.deref-in-Lose.ensures.value c.read_below.ensures))))
