use Rattle.std.proofs.Common.{◌≡◌, false, length, sym, subst, arith}
use Rattle.std.specs.Bool.{Decides}
use Rattle.hp_obc.specs.CommandView.{cmd_seen}
use Rattle.hp_obc.specs.Form.{HasForm}
use Rattle.hp_form.proofs.EachLaws.{refuted}
use Rattle.hp_form.proofs.ScopeLaws.{case_not, case_by}
use Rattle.hp_form.proofs.command.+commands.Goals as goal

pub has_form-returns-then-not-has_arms : goal.has_form-returns-then-not-has_arms
has_form-returns-then-not-has_arms t c =
    let s = c.args.names.now in
    let n : c.len.result ≡ length c.in-Case.arms.items = omega (arith, c.len.ensures, c.in-Case.arms.ok.0) in
    subst (λ z. Decides false (HasForm s.types.now.declared.now s.earlier.now s.machine.now (cmd_seen z))) (sym c.in-Case.is)
    (case_not s.types.now.declared.now s.earlier.now s.machine.now c.in-Case.name c.in-Case.arms.items c.len.result n (refuted c.has_arms.ensures c.if-not-has_arms.true))

pub has_form-returns-in_ok-held-in-Case : goal.has_form-returns-in_ok-held-in-Case
has_form-returns-in_ok-held-in-Case t c =
    let s = c.args.names.now in
    let n : c.len.result ≡ length c.in-Case.arms.items = omega (arith, c.len.ensures, c.in-Case.arms.ok.0) in
    subst (λ z. Decides c.in_ok-held-in-Case.held (HasForm s.types.now.declared.now s.earlier.now s.machine.now (cmd_seen z))) (sym c.in-Case.is)
    (case_by s.types.now.declared.now s.earlier.now s.machine.now c.in-Case.name c.in-Case.arms.items c.deref-in-Case.result.now c.len.result c.in_ok-held-in-Case.held n c.deref-in-Case.ensures.value
    (c.has_arms.ensures.0 c.if-not-has_arms.false) c.in_ok-held-in-Case.ensures)
