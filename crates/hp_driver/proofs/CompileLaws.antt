-- From what a text is compiled to, or why it is not, to what `compile` does, and leaves.
use Rattle.std.proofs.Common.{◌≡◌, ◌≢◌, ◌⊎◌, ℕ, false, List, [], ◌∷◌, ◌++◌, inl, inr, refl, sym, subst, arith}
use Rattle.std.specs.Prelude.{IsTrue, Option, is_some}
use Rattle.hp_compile.specs.declared.refusal.Refusal.{Refusal}
use Rattle.hp_io.specs.Files.{Files}
use Rattle.hp_driver.proofs.AcceptedLaws.{none_or}
use Rattle.hp_driver.specs.Compiled.{IsCompiled, IsFound, IsNotCompiled}
use Rattle.hp_driver.specs.CompileErrors.{TellsCause}
use Rattle.hp_driver.specs.declared.compile_error.CompileErr.{CompileErr}
use Rattle.hp_driver.specs.declared.compile_error.CompileErr.TheVariants.{Refused, Contract}
use Rattle.hp_obc.specs.Machines.{Obc}
use Rattle.hp_tree.specs.Programs.{Node}
use Rattle.hp_tree.specs.declared.program.Item.{Item}
use Rattle.hp_tree.specs.declared.program.Item.TheVariants.{NodeItem}
use Rattle.hp_verdicts.specs.Decided.{RefusesContract, has_contract, own_contract}
use Rattle.hp_verdicts.specs.declared.error.ContractErr.{ContractErr}
use Rattle.hp_verdicts.specs.declared.error.ContractErr.TheVariants as contract
use Rattle.hp_driver.specs.Command.{IsCompileOf, IsOverSource, ReadsSource}
use Rattle.hp_driver.specs.Diagnostics.{contract_line, refusal_line}
use Rattle.hp_driver.specs.Follows.{RefusedCompile}
use Rattle.hp_driver.specs.Leaves.{Leaves}
use Rattle.hp_driver.specs.Leaving.{WritesMachines}
use Rattle.hp_driver.specs.Outcome.{AreCompiled, Gives, IsHeld, Outcome}
use Rattle.hp_driver.proofs.ContractLaws.{has_one}

-- the file holds the program of its text
abbrev pub held_by : (text : List ℕ) (files : Option Files) (file : List ℕ) → Gives files file text → (program ordered : List Item) → IsFound text program ordered → IsHeld files file program
held_by text files file gives program ordered found =
    record { text = text; held = gives; judged = found.judged; only = found.only; clocked = ordered; ranks = found.ranks; arranged = found.arranged }

-- ---- it is compiled

module _ (text : List ℕ) (files : Option Files) (file : List ℕ) (gives : Gives files file text) (o : Obc) (c : IsCompiled text o) where
  are_compiled : AreCompiled files file o
  are_compiled = record { program = c.program; held = held_by text files file gives c.program c.ordered c.found; kept = c.kept; are = c.machines }

  module _ (words : List (List ℕ)) (out : List ℕ) (w : IsCompileOf words file out) where
    -- its machines were written, or could not be
    pub written : (status : ℕ) → (status ≡ 0) ⊎ (status ≡ 5) ⊎ (status ≡ 6) → Outcome words files [] [] status
    written status (inl h) = subst (Outcome words files [] []) (sym h) (Outcome.compiled w are_compiled)
    written status (inr (inl h)) = subst (Outcome words files [] []) (sym h) (Outcome.not_written w are_compiled)
    written status (inr (inr h)) = subst (Outcome words files [] []) (sym h) Outcome.no_memory

    -- what is left then
    pub left : (after : Option Files) (status : ℕ) → WritesMachines o out files after status → Leaves words files after status
    left after status (WritesMachines.nothing same) = Leaves.as_they_were same (λ y v h. omega (arith, h))
    left after status (WritesMachines.whole printed all) = Leaves.written w are_compiled printed all
    left after status (WritesMachines.part why printed others_same this) = Leaves.in_part why w are_compiled printed others_same this

-- ---- it is not

-- whatever is to be written
abbrev Uncompiled : CompileErr → List ℕ → ℕ → Type 0
Uncompiled error line status = (out : List ℕ) → RefusedCompile out error line status

text_refused : (cause : Refusal) → Uncompiled (Refused cause) (refusal_line cause) 1
text_refused cause out words files file text w gives (IsNotCompiled.refused causes none) = Outcome.refused text cause (ReadsSource.of_program (IsOverSource.to_compile w)) gives causes none

-- a contract that is refused is there
its_contract : (program : List Item) (n : Node) (cause : ContractErr) → cause ≢ contract.OutOfMemory → RefusesContract program n cause → IsTrue (is_some n.contract)
its_contract program n (contract.Assume name at) differs r = r.1
its_contract program n (contract.Limit name limit) differs r = r.1
its_contract program n (contract.Forced name instants cert) differs r = r.1
its_contract program n contract.TooLong differs r = absurd r
its_contract program n contract.NotBuilt differs r = r.0
its_contract program n contract.OutOfMemory differs r = absurd (differs refl)

contract_among : (before behind : List Item) (n : Node) → IsTrue (is_some n.contract) → has_contract (before ++ NodeItem n ∷ behind) ≡ false → ⊥
contract_among [] behind n some none = let parts = none_or (is_some n.contract) (has_contract behind) none in let e = parts.0 in absurd (cc (some, e))
contract_among (item ∷ before) behind n some none = contract_among before behind n some (none_or (own_contract item) (has_contract (before ++ NodeItem n ∷ behind)) none).1

contract_refused : (cause : ContractErr) → Uncompiled (Contract cause) (contract_line cause) 1
contract_refused cause out words files file text w gives (IsNotCompiled.contract_refused {program = program} {ordered = ordered} found differs refuses) =
    let r = refuses.refused in
    let some : has_contract ordered ≡ false → ⊥ = λ none. contract_among r.before r.behind r.node (its_contract ordered r.node cause differs r.refused) (subst (λ z. has_contract z ≡ false) r.stands none) in
    let held = held_by text files file gives program ordered found in
    Outcome.contract_refused cause (IsOverSource.to_compile w) held (has_one files file program held some) differs refuses

-- what is told of it
pub uncompiled : (error : CompileErr) (line : List ℕ) (status : ℕ) → TellsCause error line status → (out : List ℕ) → RefusedCompile out error line status
uncompiled error line status (TellsCause.refused cause e) = subst (λ z. Uncompiled z (refusal_line cause) 1) (sym e) (text_refused cause)
uncompiled error line status (TellsCause.contract_refused cause e) = subst (λ z. Uncompiled z (contract_line cause) 1) (sym e) (contract_refused cause)
uncompiled error line status TellsCause.no_memory = λ out words files file text w gives n. Outcome.no_memory
uncompiled error line status (TellsCause.line_failed front b rest before told) =
    λ out words files file text w gives n. Outcome.line_failed front b rest (uncompiled error (front ++ b ∷ rest) before told out words files file text w gives n)
