use Rattle.std.proofs.Common.{rules, ◌≡◌, List, subst}
use Rattle.std.specs.Prelude.{IfErr}
use Rattle.hp_obc.specs.Form.{HasObcForm}
use Rattle.hp_obc.specs.Machines.{ObcType}
use Rattle.law_equations.specs.Made.Types.{obc_types_of}
use Rattle.hp_controlled.specs.Compiled.{AreCompiled}
use Rattle.hp_controlled.specs.Lacking.{HasNoChosenMachines, LacksCompiled, SaysNotBuilt}
use Rattle.hp_controlled.specs.Lacking.HasNoChosenMachines.{not_compiled, formless}
use Rattle.hp_controlled.proofs.ChoosingLaws.{says_more, says_of_form}
use Rattle.hp_controlled.proofs.machines.compiled_machines.Goals as goal

pub returns-in_err-machines-clause-not_built : goal.returns-in_err-machines-clause-not_built
returns-in_err-machines-clause-not_built c =
    let program = c.args.program.now in
    let types : c.deref-2.result.now ≡ obc_types_of program = search rules in
    let said : IfErr c.from_residual-in_err-machines.result (SaysNotBuilt (LacksCompiled program c.deref-2.result.now)) = search rules in
    says_more c.from_residual-in_err-machines.result _ _ (λ lacks. not_compiled (subst (λ (ts : List ObcType). LacksCompiled program ts) types lacks)) said

pub returns-in_err-file-clause-not_built : goal.returns-in_err-file-clause-not_built
returns-in_err-file-clause-not_built c =
    let program = c.args.program.now in
    let machines = c.in_ok-machines.machines.items in
    let types = c.in_ok-types.types.items in
    let seen : c.deref-2.result.now ≡ obc_types_of program = search rules in
    let declared : types ≡ obc_types_of program = search rules in
    let are = subst (λ (ts : List ObcType). AreCompiled program ts machines) seen c.in_ok-machines.ensures.compiled in
    says_of_form (HasNoChosenMachines program) (HasObcForm types machines) c.in_err-file.field-0.0 c.from_residual-in_err-file.result c.in_err-file.ensures.refused
    (λ not. formless machines are (subst (λ (ts : List ObcType). HasObcForm ts machines → ⊥) declared not)) c.from_residual-in_err-file.ensures.1
