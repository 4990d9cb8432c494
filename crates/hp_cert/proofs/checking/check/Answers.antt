use Rattle.std.proofs.Common.{Result, refl, subst}
use Rattle.std.specs.Prelude.{IfOk}
use Rattle.hp_cert.specs.declared.certtext.error.CertErr.{CertErr}
use Rattle.hp_cert.specs.Checked.{Proves}
use Rattle.hp_cert.specs.declared.checking.Proved.{Proved}
use Rattle.hp_cert.specs.declared.checking.Proved.TheVariants as proved
use Rattle.hp_cert.proofs.CheckLaws.{win_safe, lose_forced, handed_reason, refused_by}
use Rattle.hp_cert.proofs.checking.check.Goals as goal

pub returns-in_err-fits-clause-exact : goal.returns-in_err-fits-clause-exact
returns-in_err-fits-clause-exact c = λ e h. handed_reason c.args.m.now c.args.c.now c.vars-vars.ensures.kept c.from_residual.result c.in_err-fits.field-0.0 e c.from_residual.ensures.1 c.in_err-fits.ensures.refused h

pub returns-clause-win : goal.returns-clause-win
returns-clause-win c = λ e.
    let P : Result Proved CertErr → Type 0 = λ r. IfOk r (Proves c.args.m.now c.args.c.now) in
    win_safe c.args.m.now c.args.c.now c.vars-vars.ensures.kept proved.Win (subst P e c.shown.ensures.proved) refl

pub returns-clause-lose : goal.returns-clause-lose
returns-clause-lose c = λ n e.
    let P : Result Proved CertErr → Type 0 = λ r. IfOk r (Proves c.args.m.now c.args.c.now) in
    lose_forced c.args.m.now c.args.c.now c.vars-vars.ensures.kept (proved.Lose n) n (subst P e c.shown.ensures.proved) refl

pub returns-clause-exact : goal.returns-clause-exact
returns-clause-exact c = λ e h. refused_by c.args.m.now c.args.c.now c.vars-vars.ensures.kept c.shown.result e c.shown.ensures.proved c.shown.ensures.refused h
