-- The words of a call, and the lines of its diagnostics.
use Rattle.std.specs.Prelude.{◌≡◌, ◌≢◌, ◌≤◌, ◌⊎◌, ◌+◌, ◌*◌, ◌-◌, if◌then◌else◌, Bool, true, false, ℕ, List, [], ◌∷◌, ◌++◌, codes, decimal, Option, None, Some}
use Rattle.hp_base.specs.Bytes.{is_digit}
use Rattle.hp_cert.specs.declared.checking.Proved.{Proved}
use Rattle.hp_cert.specs.declared.checking.Proved.TheVariants.{Win, Lose}
use Rattle.hp_tree.specs.declared.program.Item.{Item}
use Rattle.hp_arguments.specs.Words.{IsArgument}
use Rattle.hp_print.specs.ProgramTokens.{canonical_text}

-- the words NAME FILE NODE, or NAME FILE OUT
pub record IsOnTraceBy (name : List ℕ) (words : List (List ℕ)) (file node : List ℕ) : Type 0 where
  pub spelled : words ≡ name ∷ file ∷ node ∷ []
  pub file_is_argument : IsArgument file
  pub node_is_argument : IsArgument node

-- the words `run FILE NODE`, `compile FILE OUT`, `past FILE OUT`, and `exec FILE NODE`
abbrev pub IsRunOf : List (List ℕ) → List ℕ → List ℕ → Type 0
IsRunOf = IsOnTraceBy (codes "run")

abbrev pub IsCompileOf : List (List ℕ) → List ℕ → List ℕ → Type 0
IsCompileOf = IsOnTraceBy (codes "compile")

abbrev pub IsPastOf : List (List ℕ) → List ℕ → List ℕ → Type 0
IsPastOf = IsOnTraceBy (codes "past")

abbrev pub IsExecOf : List (List ℕ) → List ℕ → List ℕ → Type 0
IsExecOf = IsOnTraceBy (codes "exec")

-- the words `run FILE NODE` with `--contract` anywhere behind the first word
pub record IsTellOf (words : List (List ℕ)) (file node : List ℕ) : Type 0 where
  pub spelled : (words ≡ codes "run" ∷ file ∷ node ∷ codes "--contract" ∷ [])
      ⊎ ((words ≡ codes "run" ∷ file ∷ codes "--contract" ∷ node ∷ []) ⊎ (words ≡ codes "run" ∷ codes "--contract" ∷ file ∷ node ∷ []))
  pub file_is_argument : IsArgument file
  pub node_is_argument : IsArgument node

-- the words NAME FILE NODE CERT, or NAME FILE NODE MEM
pub record IsOnCertBy (name : List ℕ) (words : List (List ℕ)) (file node cert : List ℕ) : Type 0 where
  pub spelled : words ≡ name ∷ file ∷ node ∷ cert ∷ []
  pub file_is_argument : IsArgument file
  pub node_is_argument : IsArgument node
  pub cert_is_argument : IsArgument cert

-- the words `prove FILE NODE CERT` and `verify FILE NODE CERT`
abbrev pub IsProveOf : List (List ℕ) → List ℕ → List ℕ → List ℕ → Type 0
IsProveOf = IsOnCertBy (codes "prove")

abbrev pub IsVerifyOf : List (List ℕ) → List ℕ → List ℕ → List ℕ → Type 0
IsVerifyOf = IsOnCertBy (codes "verify")

-- the words `save FILE NODE MEM`
abbrev pub IsSaveOf : List (List ℕ) → List ℕ → List ℕ → List ℕ → Type 0
IsSaveOf = IsOnCertBy (codes "save")

-- the words `resume FILE NODE MEM OUT`
pub record IsResumeOf (words : List (List ℕ)) (file node mem out : List ℕ) : Type 0 where
  pub spelled : words ≡ codes "resume" ∷ file ∷ node ∷ mem ∷ out ∷ []
  pub file_is_argument : IsArgument file
  pub node_is_argument : IsArgument node
  pub mem_is_argument : IsArgument mem
  pub out_is_argument : IsArgument out

-- The words ask to run the node of this name, of the program of this source file, from the memory after a reset or from the one of the checkpoint in a file, and to write a checkpoint of the memory behind the run.
pub data IsSegmentOf (words : List (List ℕ)) (file node : List ℕ) : Option (List ℕ) → List ℕ → Type 0 where
  to_save : {out : List ℕ} → IsSaveOf words file node out → IsSegmentOf words file node None out
  to_resume : {mem out : List ℕ} → IsResumeOf words file node mem out → IsSegmentOf words file node (Some mem) out

-- the words ask for no such run
abbrev pub IsNoSegment : List (List ℕ) → Type 0
IsNoSegment words = (file node : List ℕ) (from : Option (List ℕ)) (out : List ℕ) → IsSegmentOf words file node from out → ⊥

-- the words `check FILE`
pub record IsPlainCheckOf (words : List (List ℕ)) (file : List ℕ) : Type 0 where
  pub spelled : words ≡ codes "check" ∷ file ∷ []
  pub file_is_argument : IsArgument file

-- the same with `--print` behind the file or in front of it
pub record IsPrintOf (words : List (List ℕ)) (file : List ℕ) : Type 0 where
  pub spelled : (words ≡ codes "check" ∷ file ∷ codes "--print" ∷ []) ⊎ (words ≡ codes "check" ∷ codes "--print" ∷ file ∷ [])
  pub file_is_argument : IsArgument file

-- the words `check FILE [--print]`, where the canonical text is to be printed or not
abbrev pub IsCheckOf : List (List ℕ) → List ℕ → Bool → Type 0
IsCheckOf words file false = IsPlainCheckOf words file
IsCheckOf words file true = IsPrintOf words file

-- The words are of a command over all of the program of this source file.
pub data IsOverSource (words : List (List ℕ)) (file : List ℕ) : Type 0 where
  to_run : {node : List ℕ} → IsRunOf words file node → IsOverSource words file
  to_tell : {node : List ℕ} → IsTellOf words file node → IsOverSource words file
  to_check : (print : Bool) → IsCheckOf words file print → IsOverSource words file
  to_compile : {out : List ℕ} → IsCompileOf words file out → IsOverSource words file

-- ---- a sweep

-- a number with one more decimal digit behind it, if the byte is one
abbrev pub with_digit : ℕ → ℕ → Option ℕ
with_digit number byte = if is_digit byte then Some (number * 10 + (byte - 48)) else None

-- the number that a number and some digits behind it spell
abbrev pub with_digits : Option ℕ → List ℕ → Option ℕ
with_digits None word = None
with_digits (Some number) [] = Some number
with_digits (Some number) (byte ∷ word) = with_digits (with_digit number byte) word

-- A word of decimal digits, which may begin with zeros, spells a number.
pub record SpellsNumber (word : List ℕ) (number : ℕ) : Type 0 where
  pub some : word ≢ []
  pub value : with_digits (Some 0) word ≡ Some number

-- the words `sweep TASKS INSTANTS`
pub record IsSweepOf (words : List (List ℕ)) (tasks instants : ℕ) : Type 0 where
  pub tasks_word : List ℕ
  pub instants_word : List ℕ
  pub spelled : words ≡ codes "sweep" ∷ tasks_word ∷ instants_word ∷ []
  pub tasks_are : SpellsNumber tasks_word tasks
  pub instants_are : SpellsNumber instants_word instants
  pub some_tasks : 1 ≤ tasks
  pub few_tasks : tasks ≤ 8
  pub few_instants : instants ≤ 1000000

-- numbers, each with a space in front
abbrev pub spaced_numbers : List ℕ → List ℕ
spaced_numbers [] = []
spaced_numbers (n ∷ ns) = (codes " " ++ decimal n) ++ spaced_numbers ns

-- a line of numbers behind a letter
abbrev pub counted_line : List ℕ → List ℕ → List ℕ
counted_line letter numbers = letter ++ (spaced_numbers numbers ++ codes "\n")

-- a line for how often each task was active, and one for how often each started
abbrev pub summary_text : List ℕ → List ℕ → List ℕ
summary_text active started = counted_line (codes "a") active ++ counted_line (codes "s") started

-- The words are of a command over the contract of the node of this name, of the program of this source file.
pub data IsOverContract (words : List (List ℕ)) (file node : List ℕ) : Type 0 where
  to_prove : {cert : List ℕ} → IsProveOf words file node cert → IsOverContract words file node
  to_verify : {cert : List ℕ} → IsVerifyOf words file node cert → IsOverContract words file node

-- The words are of a command that reads this source file.
pub data ReadsSource (words : List (List ℕ)) (file : List ℕ) : Type 0 where
  of_program : IsOverSource words file → ReadsSource words file
  of_contract : {node : List ℕ} → IsOverContract words file node → ReadsSource words file

-- The words are of a command that reads this file before all others: source text, or a text of machines.
pub data ReadsFirst (words : List (List ℕ)) (file : List ℕ) : Type 0 where
  a_source : ReadsSource words file → ReadsFirst words file
  a_tree : {out : List ℕ} → IsPastOf words file out → ReadsFirst words file
  machines : {node : List ℕ} → IsExecOf words file node → ReadsFirst words file

-- The words are of a command that reads this file: source text, a text of machines, a certificate, or a checkpoint.
pub data IsOver (words : List (List ℕ)) (file : List ℕ) : Type 0 where
  a_source : ReadsSource words file → IsOver words file
  a_tree : {out : List ℕ} → IsPastOf words file out → IsOver words file
  machines : {node : List ℕ} → IsExecOf words file node → IsOver words file
  a_certificate : {source node : List ℕ} → IsVerifyOf words source node file → IsOver words file
  a_segment : {node out : List ℕ} {from : Option (List ℕ)} → IsSegmentOf words file node from out → IsOver words file
  a_checkpoint : {source node out : List ℕ} → IsSegmentOf words source node (Some file) out → IsOver words file

-- The words are of a command that writes this file: machines, source text, a certificate, or a checkpoint.
pub data Writes (words : List (List ℕ)) (out : List ℕ) : Type 0 where
  machines : {file : List ℕ} → IsCompileOf words file out → Writes words out
  a_source : {file : List ℕ} → IsPastOf words file out → Writes words out
  a_certificate : {file node : List ℕ} → IsProveOf words file node out → Writes words out
  a_checkpoint : {file node : List ℕ} {from : Option (List ℕ)} → IsSegmentOf words file node from out → Writes words out

-- the words are of no command over all of a program
abbrev pub IsNoSourceCommand : List (List ℕ) → Type 0
IsNoSourceCommand words = (file : List ℕ) → IsOverSource words file → ⊥

-- the words are of no command over a certificate
abbrev pub IsNoCertCommand : List (List ℕ) → Type 0
IsNoCertCommand words = (file node : List ℕ) → IsOverContract words file node → ⊥

-- the words are of no command over a file
abbrev pub IsNoFileCommand : List (List ℕ) → Type 0
IsNoFileCommand words = (file : List ℕ) → IsOver words file → ⊥

-- the words are none of the forms
abbrev pub IsNoCommand : List (List ℕ) → Type 0
IsNoCommand words = IsNoFileCommand words × ((tasks instants : ℕ) → IsSweepOf words tasks instants → ⊥)

abbrev pub usage_line : List ℕ
usage_line = codes "usage: hept check run compile exec prove verify sweep past save resume\n"

-- the program has no such node
abbrev pub no_node_line : List ℕ → List ℕ
no_node_line node = codes "E12 " ++ node ++ codes "\n"

-- what is said of a program that is accepted: the word for it, or its canonical text
abbrev pub accepted_text : Bool → List Item → List ℕ
accepted_text false program = codes "accepted\n"
accepted_text true program = canonical_text program

-- what a certificate proves: nothing is forced, or a violation is, within so many instants
abbrev pub verdict_text : Proved → List ℕ
verdict_text Win = codes "win\n"
verdict_text (Lose instants) = codes "lose " ++ (decimal instants ++ codes "\n")
