use Rattle.std.proofs.Common.{[]}
use Rattle.hp_driver.specs.Command.{IsProveOf, IsOverContract}
use Rattle.hp_driver.specs.Diagnostics.{refusal_line}
use Rattle.hp_driver.proofs.CertLaws.{text_refused, of_text, text_leaves}
use Rattle.hp_driver.proofs.MachineLaws.{not_done_or_not, nothing_written}
use Rattle.hp_driver.specs.Status.{code_of}
use Rattle.hp_driver.proofs.certificate.run_prove.Goals as goal

pub returns-in-Ok-clause-outcome : goal.returns-in-Ok-clause-outcome
returns-in-Ok-clause-outcome g c =
    let name = c.args.name.now in
    let done = c.prove_node.ensures.outcome in (
      done.0,
      done.1,
      of_text (g.F.Folder.files c.args.files.now) (λ words file. IsProveOf words file name c.args.cert.now) name (λ words file w. IsOverContract.to_prove w) c.args.text.now c.in-Ok.ordered.program
          [] done.0 (code_of c.prove_node.result) c.in-Ok.ensures.ordered done.2,
    )

pub returns-in-Err-clause-outcome : goal.returns-in-Err-clause-outcome
returns-in-Err-clause-outcome g c =
    let name = c.args.name.now in
    text_refused (g.F.Folder.files c.args.files.now) (λ words file. IsProveOf words file name c.args.cert.now) name (λ words file w. IsOverContract.to_prove w) c.args.text.now c.in-Err.refusal
    (g.E.Sink.took c.args.diag.now) (g.E.Sink.took c.report_refusal.new.diag) (code_of c.report_refusal.result) c.in-Err.ensures.refused c.in-Err.ensures.none c.report_refusal.ensures.reports c.report_refusal.ensures.no_memory

pub returns-in-Err-clause-leaves : goal.returns-in-Err-clause-leaves
returns-in-Err-clause-leaves g c = λ words file w gives.
    nothing_written words (g.F.Folder.files c.args.files.now) (code_of c.report_refusal.result)
    (not_done_or_not (g.E.Sink.took c.args.diag.now) (g.E.Sink.took c.report_refusal.new.diag) (refusal_line c.in-Err.refusal) (code_of c.report_refusal.result) c.report_refusal.ensures.reports)

pub returns-in-Ok-clause-leaves : goal.returns-in-Ok-clause-leaves
returns-in-Ok-clause-leaves g c =
    text_leaves c.args.name.now c.args.cert.now c.args.text.now c.in-Ok.ordered.program (g.F.Folder.files c.args.files.now) (g.F.Folder.files c.prove_node.new.files) (code_of c.prove_node.result) c.in-Ok.ensures.ordered
    c.prove_node.ensures.leaves

pub prove_node-requires : goal.prove_node-requires
prove_node-requires g c = let o = c.in-Ok.ensures.ordered in (o.program, (c.args.text.now, o.ranks, o.judged, o.arranged))
