use Rattle.std.proofs.Common.{refl, ap, ◌∙◌}
use Rattle.hp_tree.specs.ContractView.{contract_seen}
use Rattle.hp_automata.specs.Lowering.{lowered_contract}
use Rattle.hp_automata.proofs.ProgramLaws.{contract-made}
use Rattle.hp_automata.proofs.programs.lower_contract.Goals as goal

pub returns-clause-contract : goal.returns-clause-contract
returns-clause-contract c =
    let enums = c.args.enums.now in
    let types = c.args.around.now.types in
    contract-made enums types (contract_seen c.contract.inside) _ c.args.around.now.layers.items c.requires c.in_ok-lower_block.ensures.block
    c.in_ok-copy_condition.ensures c.in_ok-copy_condition-2.ensures (c.in_ok-copy_decls.ensures ∙ c.deref.ensures.value) refl
    ∙ ap (lowered_contract enums types) c.contract.view_is
