use Rattle.std.proofs.Common.{◌≡◌, subst, sym, rules}
use Rattle.std.specs.List.{AllByRecursion}
use Rattle.hp_obc.specs.Form.{HasObcForm}
use Rattle.hp_obc.specs.Machines.{Obc}
use Rattle.hp_automata.specs.Lowering.{lowered_program}
use Rattle.hp_complete.specs.Declaring.{known_of}
use Rattle.hp_complete.specs.Made.{AreMadeOf}
use Rattle.hp_complete.specs.Signatures.{AreFlat, places_of}
use Rattle.hp_machines.specs.Machined.{AreMachinesOf}
use Rattle.law_equations.specs.Made.Types.{obc_types_of}
use Rattle.hp_machines.specs.Making.{AreMade}
use Rattle.hp_machines.specs.NotBuilt.{HasNoMachines}
use Rattle.hp_form.specs.Regular.Regular.{EqnsRegular}
use Rattle.hp_machines.proofs.HeadingLaws.{are_machines}
use Rattle.hp_machines.proofs.NotBuiltLaws.{not_regular, no_form, says_of_form}
use Rattle.hp_machines.proofs.machines.Goals as goal

pub returns-clause-machines : goal.returns-clause-machines
returns-clause-machines c =
    let program = c.args.program in
    let lowered = c.in_ok-lowered.lowered in
    let types = c.in_ok-types.types.items in
    let nodes = c.in_ok-nodes.nodes.items in
    let machines = c.in-Ok.machines.items in
    let declared : types ≡ obc_types_of program = search rules in
    let without : lowered ≡ lowered_program program = search rules in
    let flat : AreFlat (places_of lowered) lowered nodes = search rules in
    let equations : AreMadeOf (known_of lowered) lowered nodes = c.in_ok-nodes.ensures.made in
    let seen : c.deref-2.result.now ≡ types = search rules in
    let made : AreMade types nodes machines = subst (λ ts. AreMade ts nodes machines) seen c.in-Ok.ensures.made in
    let whole = are_machines program lowered nodes types machines declared without flat equations made c.in_ok-file.ensures.form in
    let file : c.in_ok-file.file ≡ record { types = types; machines = machines } = λ i. record { types = c.in_ok-file.ensures.types i; machines = c.in_ok-file.ensures.machines i } in
    subst (λ (o : Obc). AreMachinesOf program o) (sym file) whole

pub returns-in-Err-clause-not_built : goal.returns-in-Err-clause-not_built
returns-in-Err-clause-not_built c =
    let program = c.args.program in
    let lowered = c.in_ok-lowered.lowered in
    let types = c.in_ok-types.types.items in
    let nodes = c.in_ok-nodes.nodes.items in
    let declared : types ≡ obc_types_of program = search rules in
    let without : lowered ≡ lowered_program program = search rules in
    let seen : c.deref-2.result.now ≡ types = search rules in
    let flat : AreFlat (places_of lowered) lowered nodes = search rules in
    λ says.
    not_regular program lowered nodes types declared without flat c.in_ok-nodes.ensures.made
    (subst (λ ts. AllByRecursion (EqnsRegular ts) nodes → ⊥) seen (c.in-Err.ensures.irregular says))

pub returns-in_err-file-clause-not_built : goal.returns-in_err-file-clause-not_built
returns-in_err-file-clause-not_built c =
    let program = c.args.program in
    let lowered = c.in_ok-lowered.lowered in
    let types = c.in_ok-types.types.items in
    let nodes = c.in_ok-nodes.nodes.items in
    let machines = c.in-Ok.machines.items in
    let declared : types ≡ obc_types_of program = search rules in
    let without : lowered ≡ lowered_program program = search rules in
    let flat : AreFlat (places_of lowered) lowered nodes = search rules in
    let seen : c.deref-2.result.now ≡ types = search rules in
    let made : AreMade types nodes machines = subst (λ ts. AreMade ts nodes machines) seen c.in-Ok.ensures.made in
    says_of_form (HasNoMachines program) (HasObcForm types machines) c.in_err-file.field-0.0 c.from_residual-in_err-file.result c.in_err-file.ensures.refused
    (no_form program lowered nodes types declared without flat c.in_ok-nodes.ensures.made machines made) c.from_residual-in_err-file.ensures.1
