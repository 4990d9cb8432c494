use Rattle.std.proofs.Common.{◌≡◌, false, [], inl, inr, refl, rules}
use Rattle.std.specs.Prelude.{is_some, IsTrue}
use Rattle.std.proofs.lemmas.Option.{MatchOption-at_none, MatchOption-at_some}
use Rattle.hp_io.proofs.ToldLaws.{Grows-nil}
use Rattle.hp_driver.specs.Command.{IsVerifyOf, IsOverContract}
use Rattle.hp_driver.proofs.CertLaws.{no_node_told, no_contract_told, of_node}
use Rattle.hp_driver.proofs.ContractLaws.{is_none}
use Rattle.hp_driver.proofs.RanLaws.{heard_nothing}
use Rattle.hp_driver.specs.Status.{code_of}
use Rattle.hp_driver.proofs.certificate.verify_node.Goals as goal

pub returns-in_default-clause-outcome : goal.returns-in_default-clause-outcome
returns-in_default-clause-outcome g c =
    let name = c.args.name.now in
    let told = no_node_told (g.F.Folder.files c.args.files.now) (λ words file. IsVerifyOf words file name c.args.cert.now) name (λ words file w. IsOverContract.to_verify w) c.args.ordered.now
    (g.E.Sink.took c.args.diag.now) (g.E.Sink.took c.report_no_node.new.diag) (code_of c.report_no_node.result) (MatchOption-at_none _ _ c.in_default.is c.node_named.ensures) c.report_no_node.ensures.reports in
    ([], told.0, Grows-nil (g.C.Console.events c.args.console.now), heard_nothing (g.C.Console.left c.args.console.now), told.1, told.2)

pub returns-then-is_none-clause-outcome : goal.returns-then-is_none-clause-outcome
returns-then-is_none-clause-outcome g c =
    let name = c.args.name.now in
    let node = c.in-Some.node.now in
    let none : is_some node.contract ≡ false = search rules in
    let told = no_contract_told (g.F.Folder.files c.args.files.now) (λ words file. IsVerifyOf words file name c.args.cert.now) name (λ words file w. IsOverContract.to_verify w) c.args.ordered.now
    (g.E.Sink.took c.args.diag.now) (g.E.Sink.took c.report_no_contract.new.diag) (code_of c.report_no_contract.result) node (MatchOption-at_some _ _ c.in-Some.node c.in-Some.is c.node_named.ensures) (is_none node.contract none)
    (search rules) in
    ([], told.0, Grows-nil (g.C.Console.events c.args.console.now), heard_nothing (g.C.Console.left c.args.console.now), told.1, told.2)

pub returns-clause-outcome : goal.returns-clause-outcome
returns-clause-outcome g c =
    let node = c.in-Some.node.now in
    let ran = c.verify_contract.ensures.outcome in
    let some : IsTrue (is_some node.contract) = search rules in (
      ran.0,
      ran.1,
      ran.2,
      ran.3,
      ran.4,
      of_node (g.F.Folder.files c.args.files.now) (λ words file name. IsVerifyOf words file name c.args.cert.now) c.args.ordered.now node c.args.name.now ran.0 ran.1 (code_of c.verify_contract.result)
          (MatchOption-at_some _ _ c.in-Some.node c.in-Some.is c.node_named.ensures) some ran.5,
    )

pub verify_contract-requires : goal.verify_contract-requires
verify_contract-requires g c =
    let some : IsTrue (is_some c.in-Some.node.now.contract) = search rules in
    (some, (c.requires.0, c.args.name.now, c.requires.1, MatchOption-at_some _ _ c.in-Some.node c.in-Some.is c.node_named.ensures))

pub returns-in_default-clause-machine : goal.returns-in_default-clause-machine
returns-in_default-clause-machine g c = inl refl

pub returns-then-is_none-clause-machine : goal.returns-then-is_none-clause-machine
returns-then-is_none-clause-machine g c = inl refl

pub returns-clause-machine : goal.returns-clause-machine
returns-clause-machine g c =
    let some : IsTrue (is_some c.in-Some.node.now.contract) = search rules in
    elim c.verify_contract.ensures.machine [
      | inl same ↦ inl same
      | inr has ↦ inr (c.in-Some.node.now, MatchOption-at_some _ _ c.in-Some.node c.in-Some.is c.node_named.ensures, some, has)
    ]
