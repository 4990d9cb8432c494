-- A call of `save` or `resume` of which nothing is wrong succeeds but for want of memory.
use Rattle.std.proofs.Common.{◌≡◌, ℕ, ◌⊎◌, inl, inr, List, [], ◌∷◌, length, None, Some, refl, sym, ap, subst, ◌∙◌, arith}
use Rattle.std.specs.Prelude.{codes, Option, is_some}
use Rattle.hp_base.specs.Limits.{most}
use Rattle.hp_base.specs.declared.limit.What.TheVariants.{Text}
use Rattle.hp_io.specs.Files.{Files, Holds, HoldsMoreThan}
use Rattle.hp_io.specs.declared.console.Event.{Event}
use Rattle.hp_obc.specs.Machines.{Obc}
use Rattle.hp_obc.specs.Steps.{Memory}
use Rattle.hp_driver.specs.Command.{IsRunOf, IsSegmentOf}
use Rattle.hp_driver.specs.Given.{Gives, GivesMoreThan}
use Rattle.hp_driver.specs.GoodCalls.{IsGoodResume, IsGoodRun, IsGoodSave, IsGoodSegment, IsRefused, IsResume}
use Rattle.hp_driver.specs.Joined.{OneMemoryLaw, TakenLaw}
use Rattle.hp_driver.specs.Lines.{lines_of}
use Rattle.hp_driver.specs.Log.{heard, has_ended, HeardFrom}
use Rattle.hp_driver.specs.NodeKinds.{input_kinds}
use Rattle.hp_driver.specs.Outcome.{IsAskedFor, IsMachine}
use Rattle.hp_driver.specs.Segments.{AreRun, Begins, CallOutcome, IsRunnable, SegmentRun, Stops, Traced, run_words}
use Rattle.hp_driver.specs.Systems.{System, inputs_of}
use Rattle.hp_driver.specs.Values.{first_bad}
use Rattle.hp_driver.specs.WrittenText.{WritesText}
use Rattle.hp_driver.proofs.CheckpointLaws.{not_refused, same_memory}
use Rattle.hp_driver.proofs.Completeness.{same_text}
use Rattle.hp_driver.proofs.SegmentLaws.{as_run}
use Rattle.hp_driver.proofs.SourceCalls.{good_kinds, good_lines, good_run}

-- ---- the words name their parts once

two_of_four : (x a b c d e f : List ℕ) → x ∷ a ∷ b ∷ c ∷ [] ≡ x ∷ d ∷ e ∷ f ∷ [] → (a ≡ d) × (b ≡ e)
two_of_four x a b c d e f k = (cc, cc)

three_of_five : (x a b c g d e f h : List ℕ) → x ∷ a ∷ b ∷ c ∷ g ∷ [] ≡ x ∷ d ∷ e ∷ f ∷ h ∷ [] → (a ≡ d) × (b ≡ e) × (c ≡ f)
three_of_five x a b c g d e f h k = (cc, cc, cc)

module _ (words : List (List ℕ)) (file node other name : List ℕ) where
  pub same_segment : (from before : Option (List ℕ)) (out y : List ℕ) → IsSegmentOf words file node from out → IsSegmentOf words other name before y → (other ≡ file) × (name ≡ node) × (before ≡ from)
  same_segment from before out y (IsSegmentOf.to_save w) (IsSegmentOf.to_save v) =
      let same = two_of_four (codes "save") other name y file node out (sym v.spelled ∙ w.spelled) in (same.0, same.1, refl)
  same_segment from before out y (IsSegmentOf.to_save w) (IsSegmentOf.to_resume {mem = m} v) =
      let four : length words ≡ 4 = ap length w.spelled in
      let five : length words ≡ 5 = ap length v.spelled in
      absurd (omega (arith, four, five))
  same_segment from before out y (IsSegmentOf.to_resume {mem = m} w) (IsSegmentOf.to_save v) =
      let five : length words ≡ 5 = ap length w.spelled in
      let four : length words ≡ 4 = ap length v.spelled in
      absurd (omega (arith, four, five))
  same_segment from before out y (IsSegmentOf.to_resume {mem = m} w) (IsSegmentOf.to_resume {mem = n} v) =
      let same = three_of_five (codes "resume") other name n y file node m out (sym v.spelled ∙ w.spelled) in (same.0, same.1, ap Some same.2)

-- ---- checkpoints of what is run

pub taken : TakenLaw
taken files file node o text cause there is r = not_refused o node text is.0 there.form (ap is_some there.machine.named) is.1 cause r

pub one_memory : OneMemoryLaw
one_memory files file node o text kept other there is also = same_memory o node text kept there.form (ap is_some there.machine.named) is other also

-- ---- what the call does

-- `run` asks for what is run
as_asked : (words : List (List ℕ)) (files : Option Files) (file node : List ℕ) (o : Obc) (s : System) → IsRunOf words file node → AreRun files file node o s → IsMachine node o → IsAskedFor words files s
as_asked words files file node o s r (AreRun.own n compiled named headed) is = IsAskedFor.a_node n r compiled named is headed

module _ (files : Option Files) (file node : List ℕ) where
  -- the text in the file of a checkpoint is too long, or refused by a machine that may be run
  data StopsAt (from : Option (List ℕ)) (status : ℕ) : Type 0 where
    too_long : {mem : List ℕ} → from ≡ Some mem → GivesMoreThan files mem (most Text) → StopsAt from status
    refused : {mem : List ℕ} (text : List ℕ) → from ≡ Some mem → Gives files mem text → status ≡ 9 → IsRefused files file node text → StopsAt from status

  abbrev Ends : Option (List ℕ) → ℕ → Type 0
  Ends from status = ((status ≡ 0) ⊎ (status ≡ 6)) ⊎ StopsAt from status

  module _ (left after : Option (List ℕ)) (asked : IsRunOf (run_words file node) file node) (good : IsGoodRun (run_words file node) files left) where
    runnable_kinds : (o : Obc) (there : IsRunnable files file node o) → inputs_of there.system ≡ input_kinds good.program good.node
    runnable_kinds o there = good_kinds (run_words file node) files left good there.system (as_asked (run_words file node) files file node o there.system asked there.are there.machine)

    begun_kinds : (from : Option (List ℕ)) (o : Obc) (kept : Memory) (s : System) → Begins files file node o from kept s → inputs_of s ≡ input_kinds good.program good.node
    begun_kinds from o kept s (Begins.from_reset there) = runnable_kinds o there
    begun_kinds from o kept s (Begins.from_checkpoint {mem = m} {text = t} there gives is) = there.inputs ∙ runnable_kinds o there

    traced : (from : Option (List ℕ)) (s : System) (log : List Event) (line : List ℕ) (status : ℕ) → inputs_of s ≡ input_kinds good.program good.node → HeardFrom left after log → Traced s log line status →
        (status ≡ 4 → ⊥) → (status ≡ 5 → ⊥) → Ends from status
    traced from s log line status kinds h (Traced.done step ended answer lines) f g = inl (inl refl)
    traced from s log line status kinds h (Traced.bad_line bad_line step answer e) f g =
        absurd (good_lines (input_kinds good.program good.node) good.input left after log bad_line good.console good.lines h (ap (λ ks. first_bad ks 1 (lines_of (has_ended log) (heard log))) (sym kinds) ∙ e))
    traced from s log line status kinds h (Traced.take_failed step answer lines) f g = absurd (f refl)
    traced from s log line status kinds h (Traced.put_failed rest step answer) f g = absurd (g refl)

    stops : (from : Option (List ℕ)) (log : List Event) (line : List ℕ) (status : ℕ) → HeardFrom left after log → Stops files file node from log line status → (status ≡ 4 → ⊥) → (status ≡ 5 → ⊥) → Ends from status
    stops from log line status h (Stops.not_run outcome) f g = inl (good_run (run_words file node) files left after [] line status good h outcome f g)
    stops from log line status h (Stops.unread_checkpoint {mem = m} {o = o} named there) f g = absurd (f refl)
    stops from log line status h (Stops.long_checkpoint {mem = m} {o = o} named there long) f g = inr (StopsAt.too_long named long)
    stops from log line status h (Stops.checkpoint_refused {mem = m} {o = o} text cause named there gives refuses) f g =
        inr (StopsAt.refused text named gives refl (record { o = o; there = there; cause = cause; refuses = refuses }))
    stops from log line status h (Stops.traced {o = o} {memory = kept} {s = s} begins t) f g = traced from s log line status (begun_kinds from o kept s begins) h t f g
    stops from log line status h (Stops.line_failed told b rest r) f g = absurd (g refl)

    runs : (from : Option (List ℕ)) (behind : Option Files) (out : List ℕ) (log : List Event) (line : List ℕ) (status : ℕ) → HeardFrom left after log → SegmentRun files behind file node from out log line status →
        (status ≡ 4 → ⊥) → (status ≡ 5 → ⊥) → Ends from status
    runs from behind out log line status h (SegmentRun.stopped r fails same) f g = stops from log line status h r f g
    runs from behind out log line status h (SegmentRun.written begins t is (WritesText.whole all)) f g = inl (inl refl)
    runs from behind out log line status h (SegmentRun.written begins t is (WritesText.part why others this)) f g = inl (elim why [ inl five ↦ absurd (g five) | inr six ↦ inr six ])

-- ---- a call

module _ (words : List (List ℕ)) (files behind : Option Files) (left after : Option (List ℕ)) where
  ends : (from : Option (List ℕ)) (good : IsGoodSegment words files left from) (log : List Event) (line : List ℕ) (status : ℕ) → HeardFrom left after log → CallOutcome words files behind log line status →
      (status ≡ 4 → ⊥) → (status ≡ 5 → ⊥) → Ends files good.file good.node from status
  ends from good log line status h CallOutcome.no_memory f g = inl (inr refl)
  ends from good log line status h (CallOutcome.command other outcome) f g = absurd (other good.file good.node from good.out good.asked)
  ends from good log line status h (CallOutcome.segment s) f g =
      let same = same_segment words good.file good.node s.file s.node from s.from good.out s.out good.asked s.asked in
      runs files good.file good.node left after (as_run words good.file good.node from good.out good.asked) good.run from behind s.out log line status h
      (subst (λ z. SegmentRun files behind z good.node from s.out log line status) same.0
      (subst (λ z. SegmentRun files behind s.file z from s.out log line status) same.1 (subst (λ z. SegmentRun files behind s.file s.node z s.out log line status) same.2 s.ran))) f g

  pub good_save : IsGoodSave words files left → (log : List Event) (line : List ℕ) (status : ℕ) → HeardFrom left after log → CallOutcome words files behind log line status →
      (status ≡ 4 → ⊥) → (status ≡ 5 → ⊥) → (status ≡ 0) ⊎ (status ≡ 6)
  good_save good log line status h r f g = by (ends None good log line status h r f g)
    where
      by : Ends files good.file good.node None status → (status ≡ 0) ⊎ (status ≡ 6)
      by (inl e) = e
      by (inr (StopsAt.too_long {mem = m} named long)) = absurd cc
      by (inr (StopsAt.refused {mem = m} text named gives nine is)) = absurd cc

  module _ (good : IsResume words files left) where
    module _ (m : List ℕ) (named : Some good.mem ≡ Some m) where
      abbrev held : Files
      held = good.segment.run.source.held

      same_name : m ≡ good.mem
      same_name = cc

      same : (text : List ℕ) → Holds held m text → text ≡ good.text
      same text holds = same_text held good.mem m good.text text same_name (subst (λ z. Gives z good.mem good.text) good.segment.run.source.folder good.gives) holds

      not_long : GivesMoreThan files m (most Text) → ⊥
      not_long told =
          let long : HoldsMoreThan held m (most Text) = subst (λ z. GivesMoreThan z m (most Text)) good.segment.run.source.folder told in
          let within = good.short in
          let longer = long.2 in
          let count : length long.0 ≡ length good.text = ap length (same long.0 long.1) in
          omega (arith, within, longer, count)

      same_given : (text : List ℕ) → Gives files m text → text ≡ good.text
      same_given text gives = same text (subst (λ z. Gives z m text) good.segment.run.source.folder gives)

    pub resume_ends : (log : List Event) (line : List ℕ) (status : ℕ) → HeardFrom left after log → CallOutcome words files behind log line status → (status ≡ 4 → ⊥) → (status ≡ 5 → ⊥) →
        ((status ≡ 0) ⊎ (status ≡ 6)) ⊎ ((status ≡ 9) × IsRefused files good.segment.file good.segment.node good.text)
    resume_ends log line status h r f g = by (ends (Some good.mem) good.segment log line status h r f g)
      where
        by : Ends files good.segment.file good.segment.node (Some good.mem) status → ((status ≡ 0) ⊎ (status ≡ 6)) ⊎ ((status ≡ 9) × IsRefused files good.segment.file good.segment.node good.text)
        by (inl e) = inl e
        by (inr (StopsAt.too_long {mem = m} named long)) = absurd (not_long m named long)
        by (inr (StopsAt.refused {mem = m} text named gives nine is)) = inr (nine, subst (λ t. IsRefused files good.segment.file good.segment.node t) (same_given m named text gives) is)

  pub good_resume : IsGoodResume words files left → (log : List Event) (line : List ℕ) (status : ℕ) → HeardFrom left after log → CallOutcome words files behind log line status →
      (status ≡ 4 → ⊥) → (status ≡ 5 → ⊥) → (status ≡ 0) ⊎ (status ≡ 6)
  good_resume good log line status h r f g = by (resume_ends good.resume log line status h r f g)
    where
      by : ((status ≡ 0) ⊎ (status ≡ 6)) ⊎ ((status ≡ 9) × IsRefused files good.resume.segment.file good.resume.segment.node good.resume.text) → (status ≡ 0) ⊎ (status ≡ 6)
      by (inl e) = e
      by (inr k) =
          let segment = good.resume.segment in
          absurd (taken files segment.file segment.node k.1.o good.resume.text k.1.cause k.1.there (good.taken k.1.o k.1.there) k.1.refuses)
