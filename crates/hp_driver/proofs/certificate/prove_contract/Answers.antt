use Rattle.std.proofs.Common.{◌≡◌, [], rules, sym, subst}
use Rattle.hp_io.proofs.ToldLaws.{Grows-nil}
use Rattle.hp_verdicts.specs.Decided.{IsProof}
use Rattle.hp_driver.specs.Diagnostics.{contract_line}
use Rattle.hp_driver.proofs.GameLaws.{proof_is_built}
use Rattle.hp_driver.proofs.CertLaws.{refused_told, wrote, wrote_leaves}
use Rattle.hp_driver.proofs.MachineLaws.{not_done_or_not, nothing_written}
use Rattle.hp_driver.specs.Status.{code_of}
use Rattle.hp_driver.proofs.certificate.prove_contract.Goals as goal

pub returns-in-Ok-clause-outcome : goal.returns-in-Ok-clause-outcome
returns-in-Ok-clause-outcome g c =
    let ordered = c.args.ordered.now in
    let node = c.args.node.now in
    let text : c.as_slice.result.now ≡ c.in-Ok.text.items = search rules in
    let proof = subst (IsProof ordered node) (sym text) c.in-Ok.ensures.proof in
    ([], Grows-nil (g.E.Sink.took c.args.diag.now), wrote c.outcomes_are_so.ensures ordered node c.args.cert.now c.as_slice.result.now proof (g.F.Folder.files c.args.files.now) (code_of c.write_text.result) c.write_text.ensures.status)

pub returns-in-Ok-clause-leaves : goal.returns-in-Ok-clause-leaves
returns-in-Ok-clause-leaves g c =
    let ordered = c.args.ordered.now in
    let node = c.args.node.now in
    let text : c.as_slice.result.now ≡ c.in-Ok.text.items = search rules in
    let proof = subst (IsProof ordered node) (sym text) c.in-Ok.ensures.proof in
    wrote_leaves c.outcomes_are_so.ensures ordered node c.args.cert.now c.as_slice.result.now proof (g.F.Folder.files c.args.files.now) (g.F.Folder.files c.write_text.new.files) (code_of c.write_text.result) c.write_text.ensures.leaves

pub returns-in-Err-clause-outcome : goal.returns-in-Err-clause-outcome
returns-in-Err-clause-outcome g c =
    refused_told (g.F.Folder.files c.args.files.now) c.outcomes_are_so.ensures c.args.ordered.now c.args.node.now c.args.cert.now c.in-Err.error
    (g.E.Sink.took c.args.diag.now) (g.E.Sink.took c.report_contract.new.diag) (code_of c.report_contract.result) c.in-Err.ensures.refused c.report_contract.ensures.reports c.report_contract.ensures.no_memory

pub returns-in-Err-clause-leaves : goal.returns-in-Err-clause-leaves
returns-in-Err-clause-leaves g c = λ words file name k same is w.
    nothing_written words (g.F.Folder.files c.args.files.now) (code_of c.report_contract.result)
    (not_done_or_not (g.E.Sink.took c.args.diag.now) (g.E.Sink.took c.report_contract.new.diag) (contract_line c.in-Err.error) (code_of c.report_contract.result) c.report_contract.ensures.reports)

pub report_contract-requires : goal.report_contract-requires
report_contract-requires g c = proof_is_built c.outcomes_are_so.ensures c.args.ordered.now c.args.node.now c.requires.1 c.in-Err.error c.in-Err.ensures.refused
