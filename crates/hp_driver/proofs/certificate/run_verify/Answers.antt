use Rattle.std.proofs.Common.{[], inl, inr, refl}
use Rattle.hp_io.proofs.ToldLaws.{Grows-nil}
use Rattle.hp_driver.specs.Command.{IsVerifyOf, IsOverContract}
use Rattle.hp_driver.proofs.CertLaws.{text_refused, text_machine, of_text}
use Rattle.hp_driver.proofs.RanLaws.{heard_nothing}
use Rattle.hp_driver.specs.Status.{code_of}
use Rattle.hp_driver.proofs.certificate.run_verify.Goals as goal

pub returns-in-Err-clause-outcome : goal.returns-in-Err-clause-outcome
returns-in-Err-clause-outcome g c =
    let name = c.args.name.now in
    let told = text_refused (g.F.Folder.files c.args.files.now) (λ words file. IsVerifyOf words file name c.args.cert.now) name (λ words file w. IsOverContract.to_verify w) c.args.text.now c.in-Err.refusal
    (g.E.Sink.took c.args.diag.now) (g.E.Sink.took c.report_refusal.new.diag) (code_of c.report_refusal.result) c.in-Err.ensures.refused c.in-Err.ensures.none c.report_refusal.ensures.reports c.report_refusal.ensures.no_memory in
    ([], told.0, Grows-nil (g.C.Console.events c.args.console.now), heard_nothing (g.C.Console.left c.args.console.now), told.1, told.2)

pub returns-in-Ok-clause-outcome : goal.returns-in-Ok-clause-outcome
returns-in-Ok-clause-outcome g c =
    let name = c.args.name.now in
    let ran = c.verify_node.ensures.outcome in (
      ran.0,
      ran.1,
      ran.2,
      ran.3,
      ran.4,
      of_text (g.F.Folder.files c.args.files.now) (λ words file. IsVerifyOf words file name c.args.cert.now) name (λ words file w. IsOverContract.to_verify w) c.args.text.now c.in-Ok.ordered.program
          ran.0 ran.1 (code_of c.verify_node.result) c.in-Ok.ensures.ordered ran.5,
    )

pub verify_node-requires : goal.verify_node-requires
verify_node-requires g c = let o = c.in-Ok.ensures.ordered in (o.program, (c.args.text.now, o.ranks, o.judged, o.arranged))

pub returns-in-Err-clause-machine : goal.returns-in-Err-clause-machine
returns-in-Err-clause-machine g c = inl refl

pub returns-in-Ok-clause-machine : goal.returns-in-Ok-clause-machine
returns-in-Ok-clause-machine g c =
    elim c.verify_node.ensures.machine [
      | inl same ↦ inl same
      | inr has ↦ inr (text_machine c.args.text.now c.in-Ok.ordered.program c.args.name.now c.in-Ok.ensures.ordered has)
    ]
