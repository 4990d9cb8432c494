use Rattle.std.proofs.Common.{◌≡◌, [], rules}
use Rattle.hp_io.proofs.ToldLaws.{Grows-nil}
use Rattle.hp_driver.specs.CompileErrors.{TellsCause}
use Rattle.hp_driver.specs.declared.compile_error.CompileErr.TheVariants.{Refused, Contract}
use Rattle.hp_driver.specs.Diagnostics.{contract_line, refusal_line}
use Rattle.hp_driver.specs.Status.{code_of}
use Rattle.hp_driver.proofs.OutcomeLaws.{told_or_not}
use Rattle.hp_driver.proofs.refuse.report_uncompiled.Goals as goal

pub returns-in-Refused-clause-told : goal.returns-in-Refused-clause-told
returns-in-Refused-clause-told g c =
    let cause = c.in-Refused.refusal in
    let same : c.args.error.now ≡ Refused cause = search rules in
    told_or_not (TellsCause c.args.error.now) (λ line b rest status h. TellsCause.line_failed line b rest status h) TellsCause.no_memory (g.E.Sink.took c.args.diag.now) (g.E.Sink.took c.report_refusal.new.diag) (refusal_line cause) 1
    (code_of c.report_refusal.result) c.report_refusal.ensures.reports (TellsCause.refused cause same)

pub returns-in-Contract-clause-told : goal.returns-in-Contract-clause-told
returns-in-Contract-clause-told g c =
    let cause = c.in-Contract.cause in
    let same : c.args.error.now ≡ Contract cause = search rules in
    told_or_not (TellsCause c.args.error.now) (λ line b rest status h. TellsCause.line_failed line b rest status h) TellsCause.no_memory (g.E.Sink.took c.args.diag.now) (g.E.Sink.took c.report_contract.new.diag) (contract_line cause) 1
    (code_of c.report_contract.result) c.report_contract.ensures.reports (TellsCause.contract_refused cause same)

pub returns-in-OutOfMemory-clause-told : goal.returns-in-OutOfMemory-clause-told
returns-in-OutOfMemory-clause-told g c = ([], Grows-nil (g.E.Sink.took c.args.diag.now), TellsCause.no_memory)
