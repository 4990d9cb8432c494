use Rattle.std.proofs.Common.{subst}
use Rattle.hp_compile.specs.Arranged.{IsArrangeable}
use Rattle.hp_driver.specs.Compiled.{IsCompiled, IsNotCompiled}
use Rattle.hp_driver.specs.CompileErrors.{of_refusal}
use Rattle.hp_driver.proofs.CompilingLaws.{refused_by}
use Rattle.hp_driver.proofs.HandedLaws.{handed_match}
use Rattle.hp_driver.proofs.compiling.compile_program.Goals as goal

pub returns-in_err-ordered-clause-compiled : goal.returns-in_err-ordered-clause-compiled
returns-in_err-ordered-clause-compiled c = λ text judged only.
    let cause = c.in_err-ordered.field-0.0 in
    handed_match (IsCompiled text) (IsNotCompiled text) c.from_residual.result (of_refusal cause) c.from_residual.ensures.1
    (refused_by text cause (c.in_err-ordered.ensures.refused text judged) (λ differs program its_judged arrangeable. differs (c.in_err-ordered.ensures.accepted (subst IsArrangeable (only program its_judged) arrangeable))))
