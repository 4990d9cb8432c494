-- What `past` says and leaves.
use Rattle.std.proofs.Common.{◌≡◌, ◌≤◌, ◌⊎◌, ◌∷◌, ◌++◌, inl, inr, ℕ, List, [], length, Option, sym, subst}
use Rattle.hp_base.specs.Limits.{most}
use Rattle.hp_base.specs.declared.limit.What.TheVariants.{Size}
use Rattle.hp_compile.specs.Judged.{IsProgramOf}
use Rattle.hp_compile.specs.Refusals.{Causes, IsRefused}
use Rattle.hp_compile.specs.declared.refusal.Refusal.{Refusal}
use Rattle.hp_compile.specs.declared.refusal.Refusal.TheVariants as refusal
use Rattle.hp_io.specs.Files.{Files}
use Rattle.hp_io.specs.Told.{Grows}
use Rattle.hp_past.specs.Unfolding.{unfolded}
use Rattle.law_past.specs.Unfolded.{TellsFormulas}
use Rattle.hp_print.specs.ReadBack.{IsReadBack}
use Rattle.hp_tree.specs.declared.program.Item.{Item}
use Rattle.hp_driver.specs.Diagnostics.{refusal_line}
use Rattle.hp_driver.specs.Given.{Gives}
use Rattle.hp_driver.specs.Leaves.{Leaves}
use Rattle.hp_driver.specs.Leaving.{WritesText}
use Rattle.hp_driver.specs.Outcome.{Outcome}
use Rattle.hp_driver.specs.Past.{UnfoldsText, UnfoldsProgram, WritesSource, LeavesOfProgram, LeavesSource}
use Rattle.hp_driver.specs.PastOutcome.{PastOutcome, HoldsProgram, unfolded_text}
use Rattle.hp_driver.specs.Ran.{ReportsOrNot}
use Rattle.hp_driver.proofs.CertLaws.{refusal_or}
use Rattle.hp_driver.proofs.OutcomeLaws.{told_or_not}

-- a text that may be written was, or was not
pub wrote_source : (text : List ℕ) (status : ℕ) → length text ≤ most Size → (status ≡ 0) ⊎ ((status ≡ 5) ⊎ (status ≡ 6)) → WritesSource text [] status
wrote_source text status short (inl e) = subst (WritesSource text []) (sym e) (WritesSource.written short)
wrote_source text status short (inr (inl e)) = subst (WritesSource text []) (sym e) (WritesSource.not_written short)
wrote_source text status short (inr (inr e)) = subst (WritesSource text []) (sym e) WritesSource.no_memory

module _ (out : List ℕ) (program : List Item) where
  holds : (files : Option Files) (file text : List ℕ) → Gives files file text → IsProgramOf text program → HoldsProgram files file program
  holds files file text gives is = record { text = text; gives = gives; program_of = is }

  -- what is written of the program of a text is read back, and tells the formulas
  abbrev pub ReadsBack : Type 0
  ReadsBack = (text : List ℕ) → IsProgramOf text program → length (unfolded_text program) ≤ most Size → IsReadBack (unfolded program) (unfolded_text program) × TellsFormulas program

  -- so is the text of the program without the formulas of its contracts
  pub unfolds : ReadsBack → (line : List ℕ) (status : ℕ) → WritesSource (unfolded_text program) line status → UnfoldsProgram out program line status
  unfolds back line status (WritesSource.too_long long) text is words files file w gives = Outcome.past w (PastOutcome.too_long_unfolded (holds files file text gives is) long)
  unfolds back line status (WritesSource.written short) text is words files file w gives = let b = back text is short in Outcome.past w (PastOutcome.written (holds files file text gives is) short b.0 b.1)
  unfolds back line status (WritesSource.not_written short) text is words files file w gives = Outcome.past w (PastOutcome.not_written (holds files file text gives is) short)
  unfolds back line status WritesSource.no_memory text is words files file w gives = Outcome.no_memory
  unfolds back line status (WritesSource.line_failed {status = s} told b rest r) text is words files file w gives =
      Outcome.line_failed line b rest (unfolds back (line ++ b ∷ rest) s r text is words files file w gives)

  pub unfolds_memory : UnfoldsProgram out program [] 6
  unfolds_memory text is words files file w gives = Outcome.no_memory

  pub leaves_unfolded : (before after : Option Files) (status : ℕ) → LeavesSource out (unfolded_text program) before after status → LeavesOfProgram out program before after status
  leaves_unfolded before after status (inl h) text is words file w gives = Leaves.as_they_were h.0 (λ y v. h.1)
  leaves_unfolded before after status (inr (short, WritesText.whole all)) text is words file w gives = Leaves.unfolded w (holds before file text gives is) short all
  leaves_unfolded before after status (inr (short, WritesText.part why others this)) text is words file w gives = Leaves.unfolded_in_part why w (holds before file text gives is) others this

-- what is told of a text that is no program
module _ (out text : List ℕ) (cause : Refusal) where
  failed : (line : List ℕ) (b : ℕ) (rest : List ℕ) (status : ℕ) → UnfoldsText out text (line ++ b ∷ rest) status → UnfoldsText out text line 5
  failed line b rest status f words files file w gives = Outcome.line_failed line b rest (f words files file w gives)

  no_memory : UnfoldsText out text [] 6
  no_memory words files file w gives = Outcome.no_memory

  refused : Causes text cause → ((program : List Item) → IsProgramOf text program → ⊥) → UnfoldsText out text (refusal_line cause) 1
  refused causes none words files file w gives = Outcome.past w (PastOutcome.refused text cause gives causes none)

  pub not_unfolded : (before after : Option (List ℕ)) (result : ℕ) → IsRefused text cause → ((program : List Item) → IsProgramOf text program → cause ≡ refusal.OutOfMemory)
      → ReportsOrNot before after (refusal_line cause) 1 result → (cause ≡ refusal.OutOfMemory → (result ≡ 6) × Grows before after []) → (told : List ℕ) × Grows before after told × UnfoldsText out text told result
  not_unfolded before after result h none reports memory = by (refusal_or text cause h)
    where
      by : (cause ≡ refusal.OutOfMemory) ⊎ ((cause ≡ refusal.OutOfMemory → ⊥) × Causes text cause) → (told : List ℕ) × Grows before after told × UnfoldsText out text told result
      by (inl e) = let found = memory e in ([], found.1, subst (UnfoldsText out text []) (sym found.0) no_memory)
      by (inr p) = told_or_not (UnfoldsText out text) failed no_memory before after (refusal_line cause) 1 result reports (refused p.1 (λ program is. p.0 (none program is)))
