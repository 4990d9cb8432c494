-- A call of `past` with a text that is a program succeeds but for want of memory, where what it would write is not too long.
use Rattle.std.proofs.Common.{◌≡◌, ◌≤◌, ◌⊎◌, inl, inr, ℕ, List, codes, length, Some, refl, sym, ap, subst, arith}
use Rattle.std.specs.Prelude.{Option}
use Rattle.hp_base.specs.Limits.{most}
use Rattle.hp_base.specs.declared.limit.What.TheVariants.{Size}
use Rattle.hp_io.specs.Files.{Files, Holds}
use Rattle.hp_io.specs.declared.console.Event.{Event}
use Rattle.hp_compile.specs.Judged.{IsProgramOf}
use Rattle.hp_obc.specs.Machines.{Obc}
use Rattle.hp_tree.specs.declared.program.Item.{Item}
use Rattle.hp_driver.specs.Command.{IsPastOf, IsExecOf, IsOverContract, IsOverSource, ReadsSource, IsOver}
use Rattle.hp_driver.specs.GoodCalls.{IsGoodPast}
use Rattle.hp_driver.specs.Outcome.{Outcome, Gives, IsAskedFor}
use Rattle.hp_driver.specs.PastOutcome.{PastOutcome, unfolded_text}
use Rattle.hp_driver.specs.Systems.{System}
use Rattle.hp_driver.proofs.Completeness.{same_text}
use Rattle.hp_driver.proofs.WordLaws.{past_source, past_contract, past_exec, same_words, running_source, either_source, sweep_past}

module _ (words : List (List ℕ)) (held : Files) (file out text : List ℕ) (program : List Item) (w : IsPastOf words file out) (holds : Holds held file text) (is : IsProgramOf text program)
    (short : (other : List Item) → IsProgramOf text other → length (unfolded_text other) ≤ most Size) where
  not_source : (x : List ℕ) → IsOverSource words x → ⊥
  not_source = past_source words file out w

  not_contract : (x y : List ℕ) → IsOverContract words x y → ⊥
  not_contract = past_contract words file out w

  not_exec : (x y : List ℕ) → IsExecOf words x y → ⊥
  not_exec = past_exec words file out w

  not_read : (x : List ℕ) → ReadsSource words x → ⊥
  not_read x (ReadsSource.of_program over) = not_source x over
  not_read x (ReadsSource.of_contract {node = y} k) = not_contract x y k

  not_system : (s : System) → IsAskedFor words (Some held) s → ⊥
  not_system s (IsAskedFor.a_node {file = x} {node = y} n r compiled named found is) = not_source x (IsOverSource.to_run r)
  not_system s (IsAskedFor.a_machine {file = x} {node = y} v others found) = not_exec x y v
  not_system s (IsAskedFor.a_contract {file = x} {node = y} n r compiled named some found is) = not_source x (IsOverSource.to_tell r)
  not_system s (IsAskedFor.no_contract {file = x} {node = y} n r compiled named none found is) = not_source x (IsOverSource.to_tell r)

  -- the file is the one that holds the text
  same_file : (x y other : List ℕ) → IsPastOf words x y → Holds held x other → other ≡ text
  same_file x y other v h = same_text held file x text other (same_words (codes "past") words file out x y w v).0 holds h

  unfolds : (x y line : List ℕ) (status : ℕ) → IsPastOf words x y → PastOutcome (Some held) x line status → (status ≡ 5 → ⊥) → (status ≡ 0) ⊎ (status ≡ 6)
  unfolds x y line status v (PastOutcome.too_long long) g =
      let same : length long.0 ≡ length text = ap length (same_file x y long.0 v long.1) in
      let tokens = is.spelled in
      let within = tokens.size in
      let longer = long.2 in
      absurd (omega (arith, within, longer, same))
  unfolds x y line status v (PastOutcome.refused other cause gives causes none) g = absurd (none program (subst (λ t. IsProgramOf t program) (sym (same_file x y other v gives)) is))
  unfolds x y line status v (PastOutcome.too_long_unfolded {program = p} h long) g =
      let low = short p (subst (λ t. IsProgramOf t p) (same_file x y h.text v h.gives) h.program_of) in
      absurd (omega (arith, low, long))
  unfolds x y line status v (PastOutcome.written h s b t) g = inl refl
  unfolds x y line status v (PastOutcome.not_written h s) g = absurd (g refl)

  pub succeeds : (log : List Event) (line : List ℕ) (status : ℕ) → Outcome words (Some held) log line status → (status ≡ 4 → ⊥) → (status ≡ 5 → ⊥) → (status ≡ 0) ⊎ (status ≡ 6)
  succeeds log line status (Outcome.usage h) f g = absurd (h.0 file (IsOver.a_tree w))
  succeeds log line status (Outcome.unread h) f g = absurd (f refl)
  succeeds log line status Outcome.no_memory f g = inr refl
  succeeds log line status (Outcome.too_long {file = x} reads long) f g = absurd (not_read x reads)
  succeeds log line status (Outcome.refused {file = x} other cause reads gives causes none) f g = absurd (not_read x reads)
  succeeds log line status (Outcome.contract_refused {file = x} cause over source some differs refuses) f g = absurd (not_source x over)
  succeeds log line status (Outcome.no_node_to_run {file = x} {name = y} asks source kept none) f g = absurd (not_source x (either_source words x y asks))
  succeeds log line status (Outcome.chosen_too_large {file = x} {node = y} {name = z} limit compiled asks for passed) f g =
      absurd (not_source x (running_source words x y compiled.program asks))
  succeeds log line status (Outcome.accepted print c source kept) f g = inl refl
  succeeds log line status (Outcome.accepted_in_part print said rest c source kept e) f g = absurd (g refl)
  succeeds log line status (Outcome.no_node {file = x} {name = y} k source none) f g = absurd (not_contract x y k)
  succeeds log line status (Outcome.no_contract {file = x} {name = y} n k source named none) f g = absurd (not_contract x y k)
  succeeds log line status (Outcome.no_verdict {file = x} {name = y} cause k c differs refuses) f g = absurd (not_contract x y k)
  succeeds log line status (Outcome.long_proof {file = x} {name = y} p c has long) f g = absurd (not_contract x y (IsOverContract.to_prove p))
  succeeds log line status (Outcome.proved p c proof) f g = inl refl
  succeeds log line status (Outcome.proof_not_written p c proof) f g = absurd (g refl)
  succeeds log line status (Outcome.unread_certificate v c has) f g = absurd (f refl)
  succeeds log line status (Outcome.long_certificate {file = x} {name = y} v c has long) f g = absurd (not_contract x y (IsOverContract.to_verify v))
  succeeds log line status (Outcome.verified other p v c gives shows) f g = inl refl
  succeeds log line status (Outcome.verified_in_part other p said rest v c gives shows e) f g = absurd (g refl)
  succeeds log line status (Outcome.certificate_refused {file = x} {name = y} other cause v c gives differs refuses) f g = absurd (not_contract x y (IsOverContract.to_verify v))
  succeeds log line status (Outcome.long_text {file = x} {node = y} v long) f g = absurd (not_exec x y v)
  succeeds log line status (Outcome.no_text {file = x} {node = y} other at v gives r) f g = absurd (not_exec x y v)
  succeeds log line status (Outcome.no_form {file = x} {node = y} other at v gives b) f g = absurd (not_exec x y v)
  succeeds log line status (Outcome.no_machine {file = x} {node = y} v others none) f g = absurd (not_exec x y v)
  succeeds log line status (Outcome.too_large {file = x} {node = y} limit v others passed) f g = absurd (not_exec x y v)
  succeeds log line status (Outcome.compiled c compiled) f g = inl refl
  succeeds log line status (Outcome.not_written c compiled) f g = absurd (g refl)
  succeeds log line status (Outcome.past {file = x} {out = y} v r) f g = unfolds x y line status v r g
  succeeds log line status (Outcome.swept other s is_summary) f g = inl refl
  succeeds log line status (Outcome.swept_in_part other said rest s is_summary e) f g = absurd (g refl)
  succeeds log line status (Outcome.not_swept {tasks = t} {instants = i} s why) f g = absurd (sweep_past words t i s file out w)
  succeeds log line status (Outcome.done asked step has_end answer good_lines) f g = inl refl
  succeeds log line status (Outcome.bad_line {s = s} bad_line asked step answer e) f g = absurd (not_system s asked)
  succeeds log line status (Outcome.take_failed asked step answer good_lines) f g = absurd (f refl)
  succeeds log line status (Outcome.put_failed rest asked step answer) f g = absurd (g refl)
  succeeds log line status (Outcome.line_failed told b rest r) f g = absurd (g refl)

pub good_past : (words : List (List ℕ)) (files : Option Files) (log : List Event) (line : List ℕ) (status : ℕ) → IsGoodPast words files → Outcome words files log line status → (status ≡ 4 → ⊥) → (status ≡ 5 → ⊥) →
    (status ≡ 0) ⊎ (status ≡ 6)
good_past words files log line status good r f g =
    succeeds words good.held good.file good.out good.text good.program good.asked (subst (λ z. Gives z good.file good.text) good.folder good.gives) good.program_of good.short log line status
    (subst (λ z. Outcome words z log line status) good.folder r) f g
