-- Errors of each step as why a text is not compiled, and what is told of it.
use Rattle.std.specs.Prelude.{◌≡◌, ℕ, List, [], ◌∷◌, ◌++◌}
use Rattle.hp_compile.specs.declared.refusal.Refusal.{Refusal}
use Rattle.hp_compile.specs.declared.refusal.Refusal.TheVariants as refusal
use Rattle.hp_verdicts.specs.declared.error.ContractErr.{ContractErr}
use Rattle.hp_verdicts.specs.declared.error.ContractErr.TheVariants as contract
use Rattle.hp_driver.specs.Diagnostics.{contract_line, refusal_line}
use Rattle.hp_driver.specs.declared.compile_error.CompileErr.{CompileErr}
use Rattle.hp_driver.specs.declared.compile_error.CompileErr.TheVariants as compile

abbrev pub of_refusal : Refusal → CompileErr
of_refusal refusal.OutOfMemory = compile.OutOfMemory
of_refusal r = compile.Refused r

abbrev pub of_contract : ContractErr → CompileErr
of_contract contract.OutOfMemory = compile.OutOfMemory
of_contract e = compile.Contract e

-- The line of diagnostics that tells it, and the status of the call; or there was no memory, or the diagnostics took only the first bytes of the line.
pub data TellsCause (error : CompileErr) : List ℕ → ℕ → Type 0 where
  refused : (cause : Refusal) → error ≡ compile.Refused cause → TellsCause error (refusal_line cause) 1
  contract_refused : (cause : ContractErr) → error ≡ compile.Contract cause → TellsCause error (contract_line cause) 1
  no_memory : TellsCause error [] 6
  line_failed : (line : List ℕ) (b : ℕ) (rest : List ℕ) (status : ℕ) → TellsCause error (line ++ b ∷ rest) status → TellsCause error line 5
