-- From how a trace ended, and from what was found in the text, to what the call did.
use Rattle.std.proofs.Common.{◌≡◌, ℕ, inl, inr, true, false, List, [], ◌∷◌, ◌++◌, length, take, map, get_or, None, Some, refl, sym, subst, ◌∙◌, arith}
use Rattle.std.specs.Prelude.{Option}
use Rattle.hp_io.specs.Events.{put_events}
use Rattle.hp_io.specs.Files.{Files}
use Rattle.hp_io.specs.Told.{Grows, Loses}
use Rattle.hp_io.proofs.ToldLaws.{Loses-nil}
use Rattle.hp_io.specs.declared.console.Event.{Event}
use Rattle.hp_compile.specs.Arranged.{IsArranged, IsArrangeable}
use Rattle.hp_compile.specs.Judged.{IsJudged}
use Rattle.hp_compile.specs.Refusals.{Causes, IsRefused}
use Rattle.hp_compile.specs.declared.refusal.Refusal.TheVariants as refusal
use Rattle.hp_compile.specs.declared.refusal.Refusal.{Refusal}
use Rattle.hp_base.specs.Limits.{most}
use Rattle.hp_driver.specs.Answers.{IsAnswer}
use Rattle.hp_driver.specs.Systems.{System, inputs_of}
use Rattle.hp_driver.specs.Command.{IsPastOf, IsExecOf, IsOverSource, IsOverContract, ReadsSource, ReadsFirst, IsOver, IsNoSourceCommand, IsNoCertCommand, IsNoFileCommand, IsNoSegment}
use Rattle.hp_driver.specs.Commanded.{SpellsTask, Spells, file_of, limit_of}
use Rattle.hp_driver.specs.Course.{InStep}
use Rattle.hp_driver.specs.Diagnostics.{refusal_line, too_long_line}
use Rattle.hp_driver.specs.Follows.{OutcomeOf, DecidedOutcome, ProgramOutcome}
use Rattle.hp_driver.specs.Lines.{whole_lines, lines_of}
use Rattle.hp_driver.specs.Log.{heard, said, has_ended, HeardFrom}
use Rattle.hp_driver.specs.PastOutcome.{PastOutcome}
use Rattle.hp_driver.specs.Outcome.{Outcome, Gives, GivesMoreThan, IsHeld, IsOnly, HasNoProgram, IsAskedFor, InLockstep}
use Rattle.hp_driver.specs.Ran.{Ran, Reports, ReportsOrNot}
use Rattle.hp_driver.specs.Trace.{Machine, said_to, refused_in}
use Rattle.hp_driver.specs.Values.{first_bad}
use Rattle.hp_driver.specs.declared.words.Command.{Command}
use Rattle.hp_driver.specs.declared.words.Command.TheVariants.{Past, Source, Exec, Prove, Verify}
use Rattle.hp_driver.specs.declared.words.Task.{Task}
use Rattle.hp_driver.specs.declared.words.Task.TheVariants.{Run, Tell, Check, Compile}
use Rattle.hp_driver.specs.declared.trace_limits.BadLine.{BadLine}
use Rattle.hp_driver.proofs.RanLaws.{around}
use Rattle.hp_tree.specs.declared.program.Item.{Item}

-- what a report tells, and the status that it gives, where a part of the line goes with status 5
pub told_of : (O : List ℕ → ℕ → Type 0) → ((line : List ℕ) (b : ℕ) (rest : List ℕ) (status : ℕ) → O (line ++ b ∷ rest) status → O line 5) →
    (before after : Option (List ℕ)) (line : List ℕ) (status result : ℕ) → Reports before after line status result → O line status → (told : List ℕ) × Grows before after told × O told result
told_of O f before after line status result (inl h) r = (line, h.1, subst (O line) (sym h.0) r)
told_of O f before after line status result (inr h) r =
    let p = h.1 in
    let a = around line p.0 p.1 in
    (take p.0 line, p.2, subst (O (take p.0 line)) (sym h.0) (f (take p.0 line) a.0 a.1 status (subst (λ z. O z status) (sym a.2) r)))

-- the same, where there may be no memory for the line
pub told_or_not : (O : List ℕ → ℕ → Type 0) → ((line : List ℕ) (b : ℕ) (rest : List ℕ) (status : ℕ) → O (line ++ b ∷ rest) status → O line 5) → O [] 6 →
    (before after : Option (List ℕ)) (line : List ℕ) (status result : ℕ) → ReportsOrNot before after line status result → O line status → (told : List ℕ) × Grows before after told × O told result
told_or_not O f memory before after line status result (inl h) r = told_of O f before after line status result h r
told_or_not O f memory before after line status result (inr h) r = ([], h.1, subst (O []) (sym h.0) memory)

-- ---- what is run on a trace

-- A machine says and refuses what the run of a node or a machine does.
pub record Mirrors {S : Type 0} (machine : Machine S) (start : S) (s : System) : Type 0 where
  pub says : (lines : List (List ℕ)) → IsAnswer s lines (said_to machine start 1 lines)
  pub refuses : (lines : List (List ℕ)) → refused_in machine start 1 lines ≡ first_bad (inputs_of s) 1 lines

module _ {S : Type 0} (machine : Machine S) (start : S) (s : System) (m : Mirrors machine start s) where
  pub answers : (lines : List (List ℕ)) (bytes : List ℕ) → bytes ≡ said_to machine start 1 lines → IsAnswer s lines bytes
  answers lines bytes e = subst (IsAnswer s lines) (sym e) (m.says lines)

  pub refuses : (lines : List (List ℕ)) (bad : Option BadLine) → refused_in machine start 1 lines ≡ bad → first_bad (inputs_of s) 1 lines ≡ bad
  refuses lines bad e = sym (m.refuses lines) ∙ e

  pub in_lockstep : (log : List Event) → InStep machine start log → InLockstep s log
  in_lockstep log h before after e =
      let found = h before after e in
      (found.0, answers (whole_lines (heard before)) (said before) found.1, refuses (lines_of false (heard before)) None found.2)

  pub outcome : (words : List (List ℕ)) (files : Option Files) → IsAskedFor words files s → (log : List Event) (line : List ℕ) (status : ℕ) → Ran machine start log line status → Outcome words files log line status
  outcome words files w log line status Ran.no_memory = Outcome.no_memory
  outcome words files w log line status (Ran.done k) =
      Outcome.done w (in_lockstep log k.in_step) k.closes.0 (answers (lines_of true (heard log)) (said log) k.closes.1) (refuses (lines_of true (heard log)) None k.closes.2)
  outcome words files w log line status (Ran.refused bad k) =
      Outcome.bad_line bad w (in_lockstep log k.in_step)
      (answers (lines_of (has_ended log) (heard log)) (said log) k.closes.0) (refuses (lines_of (has_ended log) (heard log)) (Some bad) k.closes.1)
  outcome words files w log line status (Ran.take_failed k) =
      Outcome.take_failed w (in_lockstep log k.in_step)
      (answers (whole_lines (heard log)) (said log) k.closes.0) (refuses (lines_of false (heard log)) None k.closes.1)
  outcome words files w log line status (Ran.put_failed k) =
      Outcome.put_failed k.closes.0 w (in_lockstep log k.in_step)
      (answers (lines_of (has_ended log) (heard log)) (said log ++ k.closes.0) (sym k.closes.1))
  outcome words files w log line status (Ran.line_failed l b rest r) =
      Outcome.line_failed line b rest (outcome words files w log (line ++ b ∷ rest) _ r)

-- ---- the words

-- they are of no form where they are of no command over a program or a certificate, and not those of `exec`, `past`, `save` or `resume`
pub no_command : (words : List (List ℕ)) → IsNoSegment words → ((file node : List ℕ) → IsExecOf words file node → ⊥) → ((file out : List ℕ) → IsPastOf words file out → ⊥) → IsNoCertCommand words → IsNoSourceCommand words → IsNoFileCommand words
no_command words n f p k g file (IsOver.a_source (ReadsSource.of_program s)) = g file s
no_command words n f p k g file (IsOver.a_source (ReadsSource.of_contract {node = y} w)) = k file y w
no_command words n f p k g file (IsOver.a_tree {out} w) = p file out w
no_command words n f p k g file (IsOver.machines {node} w) = f file node w
no_command words n f p k g file (IsOver.a_certificate {source = x} {node = y} w) = k x y (IsOverContract.to_verify w)
no_command words n f p k g file (IsOver.a_segment {node = y} {out = z} {from = m} s) = n file y m z s
no_command words n f p k g file (IsOver.a_checkpoint {source = x} {node = y} {out = z} s) = n x y (Some file) z s

-- ---- a text that was read

pub over_source : (words : List (List ℕ)) (file : List ℕ) (task : Task) → SpellsTask words file task → IsOverSource words file
over_source words file (Run node) w = IsOverSource.to_run w
over_source words file (Tell node) w = IsOverSource.to_tell w
over_source words file (Check print) w = IsOverSource.to_check print w
over_source words file (Compile out) w = IsOverSource.to_compile w

-- the file that it reads before all others
first : (words : List (List ℕ)) (command : Command) → Spells words command → ReadsFirst words (file_of command)
first words (Source file task) w = ReadsFirst.a_source (ReadsSource.of_program (over_source words file.now task w))
first words (Past file out) w = ReadsFirst.a_tree w
first words (Exec file node) w = ReadsFirst.machines w
first words (Prove file node cert) w = ReadsFirst.a_source (ReadsSource.of_contract (IsOverContract.to_prove w))
first words (Verify file node cert) w = ReadsFirst.a_source (ReadsSource.of_contract (IsOverContract.to_verify w))

pub first_of : (words : List (List ℕ)) (command : Command) → Spells words command → ReadsFirst words (file_of command)
first_of words command w = first words command w

over : (words : List (List ℕ)) (file : List ℕ) → ReadsFirst words file → IsOver words file
over words file (ReadsFirst.a_source reads) = IsOver.a_source reads
over words file (ReadsFirst.a_tree {out} w) = IsOver.a_tree w
over words file (ReadsFirst.machines {node} w) = IsOver.machines w

pub over_of : (words : List (List ℕ)) (command : Command) → Spells words command → IsOver words (file_of command)
over_of words command w = over words (file_of command) (first words command w)

-- the text is refused
pub refused_of : (task : Task) (text : List ℕ) (cause : Refusal) → Causes text cause → HasNoProgram text → OutcomeOf task text [] (refusal_line cause) 1
refused_of task text cause h none words files file w held = Outcome.refused text cause (ReadsSource.of_program (over_source words file task w)) held h none

pub line_failed_of : (task : Task) (text : List ℕ) (log : List Event) (line : List ℕ) (b : ℕ) (rest : List ℕ) (status : ℕ) → OutcomeOf task text log (line ++ b ∷ rest) status →
    OutcomeOf task text log line 5
line_failed_of task text log line b rest status f words files file w held = Outcome.line_failed line b rest (f words files file w held)

pub no_memory_of : (task : Task) (text : List ℕ) → OutcomeOf task text [] [] 6
no_memory_of task text words files file w held = Outcome.no_memory

-- where a program that breaks no rule is refused for want of memory alone
none_judged : (text : List ℕ) (cause : Refusal) → ((program : List Item) → IsJudged text program → cause ≡ refusal.OutOfMemory) → (cause ≡ refusal.OutOfMemory → ⊥) → HasNoProgram text
none_judged text cause n differs program judged h = differs (n program judged)

none_arranged : (text : List ℕ) (program : List Item) (cause : Refusal) → IsOnly text program → (IsArrangeable program → cause ≡ refusal.OutOfMemory) → (cause ≡ refusal.OutOfMemory → ⊥) → HasNoProgram text
none_arranged text program cause only n differs other judged h = differs (n (subst IsArrangeable (only other judged) h))

-- what is told of a refusal
pub refusal_told : (task : Task) (text : List ℕ) (cause : Refusal) (before after : Option (List ℕ)) (result : ℕ) → IsRefused text cause → ((program : List Item) → IsJudged text program → cause ≡ refusal.OutOfMemory) → ReportsOrNot before after (refusal_line cause) 1 result →
    (cause ≡ refusal.OutOfMemory → (result ≡ 6) × Grows before after []) → (told : List ℕ) × Grows before after told × OutcomeOf task text [] told result
refusal_told task text refusal.OutOfMemory before after result h n r m =
    let found = m refl in
    ([], found.1, subst (OutcomeOf task text [] []) (sym found.0) (no_memory_of task text))
refusal_told task text (refusal.Limit place limit) before after result h n r m =
    told_or_not (OutcomeOf task text []) (line_failed_of task text []) (no_memory_of task text) before after (refusal_line (refusal.Limit place limit)) 1 result r (refused_of task text (refusal.Limit place limit) h (none_judged text (refusal.Limit place limit) n (λ e. absurd cc)))
refusal_told task text (refusal.Lex span) before after result h n r m =
    told_or_not (OutcomeOf task text []) (line_failed_of task text []) (no_memory_of task text) before after (refusal_line (refusal.Lex span)) 1 result r (refused_of task text (refusal.Lex span) h (none_judged text (refusal.Lex span) n (λ e. absurd cc)))
refusal_told task text (refusal.Parse span) before after result h n r m =
    told_or_not (OutcomeOf task text []) (line_failed_of task text []) (no_memory_of task text) before after (refusal_line (refusal.Parse span)) 1 result r (refused_of task text (refusal.Parse span) h (none_judged text (refusal.Parse span) n (λ e. absurd cc)))
refusal_told task text (refusal.Name e) before after result h n r m =
    told_or_not (OutcomeOf task text []) (line_failed_of task text []) (no_memory_of task text) before after (refusal_line (refusal.Name e)) 1 result r (refused_of task text (refusal.Name e) h (none_judged text (refusal.Name e) n (λ e. absurd cc)))
refusal_told task text (refusal.Types e) before after result h n r m =
    told_or_not (OutcomeOf task text []) (line_failed_of task text []) (no_memory_of task text) before after (refusal_line (refusal.Types e)) 1 result r (refused_of task text (refusal.Types e) h (none_judged text (refusal.Types e) n (λ e. absurd cc)))
refusal_told task text (refusal.Expand e) before after result h n r m =
    told_or_not (OutcomeOf task text []) (line_failed_of task text []) (no_memory_of task text) before after (refusal_line (refusal.Expand e)) 1 result r (refused_of task text (refusal.Expand e) h (none_judged text (refusal.Expand e) n (λ e. absurd cc)))
refusal_told task text (refusal.Clocks e) before after result h n r m =
    told_or_not (OutcomeOf task text []) (line_failed_of task text []) (no_memory_of task text) before after (refusal_line (refusal.Clocks e)) 1 result r (refused_of task text (refusal.Clocks e) h (none_judged text (refusal.Clocks e) n (λ e. absurd cc)))
refusal_told task text (refusal.Init e) before after result h n r m =
    told_or_not (OutcomeOf task text []) (line_failed_of task text []) (no_memory_of task text) before after (refusal_line (refusal.Init e)) 1 result r (refused_of task text (refusal.Init e) h (none_judged text (refusal.Init e) n (λ e. absurd cc)))
refusal_told task text (refusal.Cause e) before after result h n r m =
    told_or_not (OutcomeOf task text []) (line_failed_of task text []) (no_memory_of task text) before after (refusal_line (refusal.Cause e)) 1 result r (refused_of task text (refusal.Cause e) h (none_judged text (refusal.Cause e) n (λ e. absurd cc)))

-- ---- a program that breaks no rule

abbrev held_of : (files : Option Files) (file text : List ℕ) (program clocked : List Item) (ranks : List (List ℕ)) → Gives files file text → IsJudged text program → IsOnly text program → IsArranged program clocked ranks → IsHeld files file program
held_of files file text program clocked ranks held judged only arranged = record { text = text; held = held; judged = judged; only = only; clocked = clocked; ranks = ranks; arranged = arranged }

module _ (program clocked : List Item) (ranks : List (List ℕ)) (arranged : IsArranged program clocked ranks) where
  -- whatever is decided of its contracts
  pub arranged_outcome : (task : Task) (log : List Event) (line : List ℕ) (status : ℕ) → DecidedOutcome task program clocked log line status → ProgramOutcome task program log line status
  arranged_outcome task log line status f text judged only words files file w held = f words files file (held_of files file text program clocked ranks held judged only arranged) refl w

pub program_failed : (task : Task) (program : List Item) (log : List Event) (line : List ℕ) (b : ℕ) (rest : List ℕ) (status : ℕ) → ProgramOutcome task program log (line ++ b ∷ rest) status →
    ProgramOutcome task program log line 5
program_failed task program log line b rest status f text judged only words files file w held = Outcome.line_failed line b rest (f text judged only words files file w held)

pub program_memory : (task : Task) (program : List Item) → ProgramOutcome task program [] [] 6
program_memory task program text judged only words files file w held = Outcome.no_memory

-- a program that is refused, whatever its text is
pub refusal_of_program : (task : Task) (program : List Item) (cause : Refusal) (before after : Option (List ℕ)) (result : ℕ) → ((text : List ℕ) → IsJudged text program → IsRefused text cause) → (IsArrangeable program → cause ≡ refusal.OutOfMemory) →
    ReportsOrNot before after (refusal_line cause) 1 result → (cause ≡ refusal.OutOfMemory → (result ≡ 6) × Grows before after []) →
    (told : List ℕ) × Grows before after told × ProgramOutcome task program [] told result
refusal_of_program task program refusal.OutOfMemory before after result h n r m =
    let found = m refl in
    ([], found.1, subst (ProgramOutcome task program [] []) (sym found.0) (program_memory task program))
refusal_of_program task program (refusal.Limit place limit) before after result h n r m =
    told_or_not (ProgramOutcome task program []) (program_failed task program []) (program_memory task program) before after (refusal_line (refusal.Limit place limit)) 1 result r
    (λ text judged only. refused_of task text (refusal.Limit place limit) (h text judged) (none_arranged text program (refusal.Limit place limit) only n (λ e. absurd cc)))
refusal_of_program task program (refusal.Lex span) before after result h n r m =
    told_or_not (ProgramOutcome task program []) (program_failed task program []) (program_memory task program) before after (refusal_line (refusal.Lex span)) 1 result r
    (λ text judged only. refused_of task text (refusal.Lex span) (h text judged) (none_arranged text program (refusal.Lex span) only n (λ e. absurd cc)))
refusal_of_program task program (refusal.Parse span) before after result h n r m =
    told_or_not (ProgramOutcome task program []) (program_failed task program []) (program_memory task program) before after (refusal_line (refusal.Parse span)) 1 result r
    (λ text judged only. refused_of task text (refusal.Parse span) (h text judged) (none_arranged text program (refusal.Parse span) only n (λ e. absurd cc)))
refusal_of_program task program (refusal.Name e) before after result h n r m =
    told_or_not (ProgramOutcome task program []) (program_failed task program []) (program_memory task program) before after (refusal_line (refusal.Name e)) 1 result r
    (λ text judged only. refused_of task text (refusal.Name e) (h text judged) (none_arranged text program (refusal.Name e) only n (λ e. absurd cc)))
refusal_of_program task program (refusal.Types e) before after result h n r m =
    told_or_not (ProgramOutcome task program []) (program_failed task program []) (program_memory task program) before after (refusal_line (refusal.Types e)) 1 result r
    (λ text judged only. refused_of task text (refusal.Types e) (h text judged) (none_arranged text program (refusal.Types e) only n (λ e. absurd cc)))
refusal_of_program task program (refusal.Expand e) before after result h n r m =
    told_or_not (ProgramOutcome task program []) (program_failed task program []) (program_memory task program) before after (refusal_line (refusal.Expand e)) 1 result r
    (λ text judged only. refused_of task text (refusal.Expand e) (h text judged) (none_arranged text program (refusal.Expand e) only n (λ e. absurd cc)))
refusal_of_program task program (refusal.Clocks e) before after result h n r m =
    told_or_not (ProgramOutcome task program []) (program_failed task program []) (program_memory task program) before after (refusal_line (refusal.Clocks e)) 1 result r
    (λ text judged only. refused_of task text (refusal.Clocks e) (h text judged) (none_arranged text program (refusal.Clocks e) only n (λ e. absurd cc)))
refusal_of_program task program (refusal.Init e) before after result h n r m =
    told_or_not (ProgramOutcome task program []) (program_failed task program []) (program_memory task program) before after (refusal_line (refusal.Init e)) 1 result r
    (λ text judged only. refused_of task text (refusal.Init e) (h text judged) (none_arranged text program (refusal.Init e) only n (λ e. absurd cc)))
refusal_of_program task program (refusal.Cause e) before after result h n r m =
    told_or_not (ProgramOutcome task program []) (program_failed task program []) (program_memory task program) before after (refusal_line (refusal.Cause e)) 1 result r
    (λ text judged only. refused_of task text (refusal.Cause e) (h text judged) (none_arranged text program (refusal.Cause e) only n (λ e. absurd cc)))

-- a file with more bytes than it may have
pub too_long_of : (words : List (List ℕ)) (files : Option Files) (command : Command) → Spells words command → GivesMoreThan files (file_of command) (most (limit_of command)) →
    Outcome words files [] (too_long_line (limit_of command)) 1
too_long_of words files (Source file task) w long = Outcome.too_long (ReadsSource.of_program (over_source words file.now task w)) long
too_long_of words files (Prove file node cert) w long = Outcome.too_long (ReadsSource.of_contract (IsOverContract.to_prove w)) long
too_long_of words files (Verify file node cert) w long = Outcome.too_long (ReadsSource.of_contract (IsOverContract.to_verify w)) long
too_long_of words files (Past file out) w long = Outcome.past w (PastOutcome.too_long long)
too_long_of words files (Exec file node) w long = Outcome.long_text w long

-- ---- puts alone

heard-put : (out : List ℕ) → heard (put_events out) ≡ []
heard-put [] = refl
heard-put (b ∷ out) = heard-put out

open-put : (out : List ℕ) → has_ended (put_events out) ≡ false
open-put [] = refl
open-put (b ∷ out) = open-put out

-- where something was said alone nothing was heard
pub nothing-heard : (before after : Option (List ℕ)) (out : List ℕ) → after ≡ before → HeardFrom before after (put_events out)
nothing-heard before after out e = (
  subst (λ (xs : List ℕ). Loses before after xs) (sym (heard-put out)) (subst (λ (o : Option (List ℕ)). Loses before o []) (sym e) (Loses-nil before)),
  λ ended. absurd (let still = open-put out in cc),
)

-- a list of three items
pub three : {X Y : Type 0} (f : X → Y) (xs : List X) (a b d : X) → length xs ≡ 3 → a ≡ get_or xs 0 a → b ≡ get_or xs 1 b → d ≡ get_or xs 2 d → map f xs ≡ f a ∷ f b ∷ f d ∷ []
three f [] a b d h p q r = absurd (omega (arith, h))
three f (x ∷ []) a b d h p q r = absurd (omega (arith, h))
three f (x ∷ y ∷ []) a b d h p q r = absurd (omega (arith, h))
three f (x ∷ y ∷ z ∷ []) a b d h p q r = λ i. f (sym p i) ∷ f (sym q i) ∷ f (sym r i) ∷ []
three f (x ∷ y ∷ z ∷ u ∷ xs) a b d h p q r = absurd (omega (arith, h))
