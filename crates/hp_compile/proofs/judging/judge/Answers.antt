use Rattle.std.proofs.Common.{◌≡◌, sym, subst}
use Rattle.hp_names.specs.Rules.{WellNamed}
use Rattle.hp_typing.specs.Rules.{WellTyped}
use Rattle.hp_typing.specs.DefinitionRules.{WellDefined}
use Rattle.hp_compile.proofs.RefusalLaws.{names_memory, types_memory}
use Rattle.hp_compile.proofs.judging.judge.Goals as goal

pub returns-in_err-resolve-clause-given : goal.returns-in_err-resolve-clause-given
returns-in_err-resolve-clause-given c = λ p h.
    let same : c.in_ok-program.program ≡ p = c.in_ok-program.ensures.given p h.program_of in
    let memory = c.in_err-resolve.ensures.accepted (subst WellNamed (sym same) h.named) in
    names_memory p c.from_residual-in_err-resolve.result _ memory c.from_residual-in_err-resolve.ensures.1

pub returns-in_err-check_types-clause-given : goal.returns-in_err-check_types-clause-given
returns-in_err-check_types-clause-given c = λ p h.
    let same : c.in_ok-program.program ≡ p = c.in_ok-program.ensures.given p h.program_of in
    let memory = c.in_err-check_types.ensures.accepted (subst WellTyped (sym same) h.typed) (subst WellDefined (sym same) h.defined) in
    types_memory p c.from_residual-in_err-check_types.result _ memory c.from_residual-in_err-check_types.ensures.1

pub returns-clause-given : goal.returns-clause-given
returns-clause-given c = λ p h. c.in_ok-program.ensures.given p h.program_of
