use Rattle.hp_driver.specs.Compiled.{IsCompiled, IsNotCompiled}
use Rattle.hp_driver.specs.CompileErrors.{of_refusal}
use Rattle.hp_driver.proofs.CompilingLaws.{refused_by}
use Rattle.hp_driver.proofs.HandedLaws.{handed_match}
use Rattle.hp_driver.proofs.compiling.compile.Goals as goal

pub returns-in_err-program-clause-compiled : goal.returns-in_err-program-clause-compiled
returns-in_err-program-clause-compiled c =
    let text = c.args.text.now in
    let cause = c.in_err-program.field-0.0 in
    handed_match (IsCompiled text) (IsNotCompiled text) c.from_residual.result (of_refusal cause) c.from_residual.ensures.1
    (refused_by text cause c.in_err-program.ensures.refused (λ differs program judged arrangeable. differs (c.in_err-program.ensures.given program judged)))
