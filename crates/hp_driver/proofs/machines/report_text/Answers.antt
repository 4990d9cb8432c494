use Rattle.std.proofs.Common.{[], sym, subst}
use Rattle.hp_io.proofs.ToldLaws.{Grows-nil}
use Rattle.hp_driver.specs.Diagnostics.{no_text_line, no_form_line, limit_line}
use Rattle.hp_compile.specs.declared.refusal.Place.TheVariants.{Whole}
use Rattle.hp_driver.specs.Follows.{RefusedText}
use Rattle.hp_driver.proofs.MachineLaws.{text_told, text_no_memory, no_text, no_form, long_text}
use Rattle.hp_driver.specs.Status.{code_of}
use Rattle.hp_driver.proofs.machines.report_text.Goals as goal

pub returns-in-Syntax-clause-told : goal.returns-in-Syntax-clause-told
returns-in-Syntax-clause-told g c =
    text_told c.args.error.now (g.E.Sink.took c.args.diag.now) (g.E.Sink.took c.report_place.new.diag) (code_of c.report_place.result) (no_text_line c.in-Syntax.span) 8 c.report_place.ensures.reports
    (subst (λ e. RefusedText e (no_text_line c.in-Syntax.span) 8) (sym c.in-Syntax.is) (no_text c.in-Syntax.span))

pub returns-in-Form-clause-told : goal.returns-in-Form-clause-told
returns-in-Form-clause-told g c =
    text_told c.args.error.now (g.E.Sink.took c.args.diag.now) (g.E.Sink.took c.report_place-in-Form.new.diag) (code_of c.report_place-in-Form.result) (no_form_line c.in-Form.span) 8 c.report_place-in-Form.ensures.reports
    (subst (λ e. RefusedText e (no_form_line c.in-Form.span) 8) (sym c.in-Form.is) (no_form c.in-Form.span))

pub returns-in-Limit-clause-told : goal.returns-in-Limit-clause-told
returns-in-Limit-clause-told g c =
    text_told c.args.error.now (g.E.Sink.took c.args.diag.now) (g.E.Sink.took c.report_limit.new.diag) (code_of c.report_limit.result) (limit_line Whole c.in-Limit.limit) 1 c.report_limit.ensures.reports
    (subst (λ e. RefusedText e (limit_line Whole c.in-Limit.limit) 1) (sym c.in-Limit.is) (long_text c.in-Limit.limit))

pub returns-in-OutOfMemory-clause-told : goal.returns-in-OutOfMemory-clause-told
returns-in-OutOfMemory-clause-told g c = ([], Grows-nil (g.E.Sink.took c.args.diag.now), text_no_memory c.args.error.now)
