use Rattle.std.proofs.Common.{◌≡◌, rules, subst, List}
use Rattle.hp_obc.specs.Machines.{Machine}
use Rattle.law_equations.specs.Made.Types.{obc_types_of}
use Rattle.hp_controlled.specs.Joining.{AreMadeMachines, AreOfNodes}
use Rattle.hp_controlled.proofs.JoiningLaws.{of_file}
use Rattle.hp_controlled.proofs.joining.machines_with_contracts.Goals as goal

pub returns : goal.returns
returns c =
    let program = c.args.program.now in
    let types = c.in_ok-types.types.items in
    let all = c.in_ok-machines.machines.items in
    let declared : types ≡ obc_types_of program = search rules in
    let seen : c.deref-2.result.now ≡ types = search rules in
    let found : (own : List Machine) × AreMadeMachines program types own × AreOfNodes program own all =
    subst (λ ts. (own : List Machine) × AreMadeMachines program ts own × AreOfNodes program own all) seen c.in_ok-machines.ensures in
    of_file program types c.in_ok-file.file.types all c.in_ok-file.file.machines declared found c.in_ok-file.ensures.types c.in_ok-file.ensures.machines c.in_ok-file.ensures.form
