use Rattle.std.proofs.Common.{◌≡◌, false, [], rules}
use Rattle.std.specs.Prelude.{is_some, IsTrue}
use Rattle.std.proofs.lemmas.Option.{MatchOption-at_none, MatchOption-at_some}
use Rattle.hp_driver.specs.Command.{IsProveOf, IsOverContract, no_node_line}
use Rattle.hp_driver.specs.Diagnostics.{no_contract_line}
use Rattle.hp_driver.specs.Ran.{ReportsOrNot}
use Rattle.hp_driver.proofs.CertLaws.{no_node_told, no_contract_told, of_node, node_leaves}
use Rattle.hp_driver.proofs.ContractLaws.{is_none}
use Rattle.hp_driver.proofs.MachineLaws.{not_done_or_not, nothing_written}
use Rattle.hp_driver.specs.Status.{code_of}
use Rattle.hp_driver.proofs.certificate.prove_node.Goals as goal

pub returns-in_default-clause-outcome : goal.returns-in_default-clause-outcome
returns-in_default-clause-outcome g c =
    let name = c.args.name.now in
    no_node_told (g.F.Folder.files c.args.files.now) (λ words file. IsProveOf words file name c.args.cert.now) name (λ words file w. IsOverContract.to_prove w) c.args.ordered.now
    (g.E.Sink.took c.args.diag.now) (g.E.Sink.took c.report_no_node.new.diag) (code_of c.report_no_node.result) (MatchOption-at_none _ _ c.in_default.is c.node_named.ensures) c.report_no_node.ensures.reports

pub returns-in_default-clause-leaves : goal.returns-in_default-clause-leaves
returns-in_default-clause-leaves g c = λ words file program held same w.
    nothing_written words (g.F.Folder.files c.args.files.now) (code_of c.report_no_node.result)
    (not_done_or_not (g.E.Sink.took c.args.diag.now) (g.E.Sink.took c.report_no_node.new.diag) (no_node_line c.args.name.now) (code_of c.report_no_node.result) c.report_no_node.ensures.reports)

pub returns-then-is_none-clause-outcome : goal.returns-then-is_none-clause-outcome
returns-then-is_none-clause-outcome g c =
    let name = c.args.name.now in
    let node = c.in-Some.node.now in
    let before = g.E.Sink.took c.args.diag.now in
    let after = g.E.Sink.took c.report_no_contract.new.diag in
    let none : is_some node.contract ≡ false = search rules in
    let reports : ReportsOrNot before after (no_contract_line name node.span) 1 (code_of c.report_no_contract.result) = search rules in
    no_contract_told (g.F.Folder.files c.args.files.now) (λ words file. IsProveOf words file name c.args.cert.now) name (λ words file w. IsOverContract.to_prove w) c.args.ordered.now
    before after (code_of c.report_no_contract.result) node (MatchOption-at_some _ _ c.in-Some.node c.in-Some.is c.node_named.ensures) (is_none node.contract none) reports

pub returns-then-is_none-clause-leaves : goal.returns-then-is_none-clause-leaves
returns-then-is_none-clause-leaves g c =
    let name = c.args.name.now in
    let node = c.in-Some.node.now in
    let before = g.E.Sink.took c.args.diag.now in
    let after = g.E.Sink.took c.report_no_contract.new.diag in
    let reports : ReportsOrNot before after (no_contract_line name node.span) 1 (code_of c.report_no_contract.result) = search rules in
    λ words file program held same w. nothing_written words (g.F.Folder.files c.args.files.now) (code_of c.report_no_contract.result) (not_done_or_not before after (no_contract_line name node.span) (code_of c.report_no_contract.result) reports)

pub returns-clause-outcome : goal.returns-clause-outcome
returns-clause-outcome g c =
    let node = c.in-Some.node.now in
    let done = c.prove_contract.ensures.outcome in
    let some : IsTrue (is_some node.contract) = search rules in (
      done.0,
      done.1,
      of_node (g.F.Folder.files c.args.files.now) (λ words file name. IsProveOf words file name c.args.cert.now) c.args.ordered.now node c.args.name.now [] done.0 (code_of c.prove_contract.result)
          (MatchOption-at_some _ _ c.in-Some.node c.in-Some.is c.node_named.ensures) some done.2,
    )

pub returns-clause-leaves : goal.returns-clause-leaves
returns-clause-leaves g c =
    let node = c.in-Some.node.now in
    let some : IsTrue (is_some node.contract) = search rules in
    node_leaves c.args.name.now c.args.cert.now c.args.ordered.now node (g.F.Folder.files c.args.files.now) (g.F.Folder.files c.prove_contract.new.files) (code_of c.prove_contract.result)
    (MatchOption-at_some _ _ c.in-Some.node c.in-Some.is c.node_named.ensures) some c.prove_contract.ensures.leaves

pub prove_contract-requires : goal.prove_contract-requires
prove_contract-requires g c =
    let some : IsTrue (is_some c.in-Some.node.now.contract) = search rules in
    (some, (c.requires.0, c.args.name.now, c.requires.1, MatchOption-at_some _ _ c.in-Some.node c.in-Some.is c.node_named.ensures))
