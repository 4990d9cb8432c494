use Rattle.hp_driver.specs.Compiled.{HasCircuit, IsCompiled, IsNotCompiled}
use Rattle.hp_driver.specs.declared.compile_error.CompileErr.TheVariants.{OutOfMemory}
use Rattle.hp_driver.specs.CompileErrors.{of_contract}
use Rattle.hp_driver.proofs.CompilingLaws.{compiled_by, contract_refused_by, has_circuit}
use Rattle.hp_driver.proofs.HandedLaws.{handed, handed_match}
use Rattle.hp_driver.proofs.compiling.compile_ordered.Goals as goal

pub returns-in_err-decide-clause-compiled : goal.returns-in_err-decide-clause-compiled
returns-in_err-decide-clause-compiled c = λ text found.
    let cause = c.in_err-decide.field-0.0 in
    handed_match (IsCompiled text) (IsNotCompiled text) c.from_residual.result (of_contract cause) c.from_residual.ensures.1
    (contract_refused_by text c.args.program.now c.args.ordered.program found c.outcomes_are_so.ensures cause c.in_err-decide.ensures.refused)

pub returns-in_err-decide-clause-circuits : goal.returns-in_err-decide-clause-circuits
returns-in_err-decide-clause-circuits c =
    let cause = c.in_err-decide.field-0.0 in
    handed HasCircuit c.from_residual.result (of_contract cause) c.from_residual.ensures.1 (has_circuit c.outcomes_are_so.ensures c.args.program.now c.args.ordered.program c.requires cause c.in_err-decide.ensures.refused)

pub machines_of-requires-clause-arranged : goal.machines_of-requires-clause-arranged
machines_of-requires-clause-arranged c = (c.args.program.now, c.requires)

pub machines_of-requires-clause-kept : goal.machines_of-requires-clause-kept
machines_of-requires-clause-kept c = c.in_ok-decide.ensures.kept

pub returns-in_err-machines-clause-compiled : goal.returns-in_err-machines-clause-compiled
returns-in_err-machines-clause-compiled c = λ text found.
    handed_match (IsCompiled text) (IsNotCompiled text) c.from_residual-in_err-machines.result OutOfMemory c.from_residual-in_err-machines.ensures.1 IsNotCompiled.out_of_memory

pub returns-clause-compiled : goal.returns-clause-compiled
returns-clause-compiled c = λ text found.
    compiled_by text c.args.program.now c.args.ordered.program found c.outcomes_are_so.ensures c.in_ok-decide.ensures.kept c.machines_do_what_programs_say.ensures c.in_ok-machines.machines c.in_ok-machines.ensures
