-- From the machine that is run, its memory and its trace to what `save` and `resume` did.
use Rattle.std.proofs.Common.{◌≡◌, ◌≢◌, ℕ, inl, inr, true, false, List, [], ◌∷◌, ◌++◌, None, Some, refl, sym, ap, subst, ◌∙◌, arith}
use Rattle.std.specs.Prelude.{Option, IsSome, is_some}
use Rattle.hp_base.specs.Kinds.{AreOfKinds, kinds_of}
use Rattle.hp_base.specs.Limits.{most}
use Rattle.hp_base.specs.declared.limit.What.TheVariants.{Size}
use Rattle.hp_exec.specs.Answers.{Executes}
use Rattle.hp_exec.specs.Executors.{Executor, Runs, IsKindedBy, kept}
use Rattle.hp_exec.specs.Layouts.{flattened, flat_kinds}
use Rattle.hp_io.specs.Faults.{Faults, Rose}
use Rattle.hp_io.specs.Files.{Files}
use Rattle.hp_io.specs.Reads.{Reading}
use Rattle.hp_io.specs.Told.{Grows}
use Rattle.hp_io.proofs.ToldLaws.{Grows-trans}
use Rattle.hp_io.specs.declared.console.Event.{Event}
use Rattle.hp_obc.specs.Form.{HasObcForm, TypesForm, machine_named}
use Rattle.hp_obc.specs.Kinded.{machine_keeps}
use Rattle.hp_obc.specs.Machines.{Obc}
use Rattle.hp_obc.specs.Steps.{Memory, machine_behaviour, outputs_from}
use Rattle.hp_obctext.specs.MemoryKinds.{AreOfTypes, kinds_at, memory_text, misfit}
use Rattle.hp_obctext.specs.MemoryTexts.{Says}
use Rattle.hp_obctext.specs.MemoryKinds as memories
use Rattle.hp_obctext.specs.declared.memory.error.MemErr.{MemErr}
use Rattle.hp_obctext.specs.declared.memory.error.MemErr.TheVariants as error
use Rattle.hp_driver.specs.Checkpoints.{IsCheckpointOf, RefusesCheckpoint, memory_behind}
use Rattle.hp_driver.specs.Command.{IsNoSegment, IsOver, IsOverSource, IsRunOf, IsSegmentOf, ReadsFirst, ReadsSource, Writes}
use Rattle.hp_driver.specs.Course.{Takes}
use Rattle.hp_driver.specs.Executing.{HasBehaviour, executing, step_of}
use Rattle.hp_driver.specs.Diagnostics.{too_long_line}
use Rattle.hp_driver.specs.Given.{GivesMoreThan}
use Rattle.hp_driver.specs.Leaves.{Leaves, ReadRose, WriteRose}
use Rattle.hp_driver.specs.Lines.{whole_lines, lines_of}
use Rattle.hp_driver.specs.Log.{heard, said, has_ended}
use Rattle.hp_driver.specs.Outcome.{Outcome, IsMachine}
use Rattle.hp_driver.specs.Ran.{Ran, ReportsOrNot}
use Rattle.hp_driver.specs.Readings.{AreReadings}
use Rattle.hp_driver.specs.Restoring.{IsBegun, KeepsRun, NotBegun, NotRestored, ReadsFrom, RoseInRead, SegmentOfMachines, StandsFor}
use Rattle.hp_driver.specs.Segments.{AreRun, Begins, CallOutcome, IsRunnable, SegmentRun, Stops, Traced, run_words}
use Rattle.hp_driver.specs.Systems.{System, of_machine, from_memory, inputs_of}
use Rattle.hp_driver.specs.Trace.{Machine}
use Rattle.hp_driver.specs.Values.{inputs_until}
use Rattle.hp_driver.specs.WrittenText.{WritesText}
use Rattle.hp_driver.proofs.CheckpointLaws.{has_flat, keeps_found}
use Rattle.hp_driver.proofs.ExecutionLaws.{few_of_signature, ins_are, kept_through, kinds_through, left_by_lines, refuses_lines, runs_through, says_kinded, says_outputs, signature_through}
use Rattle.hp_driver.proofs.MachineLaws.{machine_mirrors, not_done_or_not}
use Rattle.hp_driver.proofs.OutcomeLaws.{Mirrors, answers, in_lockstep, refuses, told_or_not}
use Rattle.hp_driver.proofs.ReadingLaws.{HasRead}
use Rattle.hp_driver.proofs.SpellingLaws.{AllOfKinds, all_of_kinds, steps_through}
use Rattle.hp_lines.specs.Values.{HaveFewConstructors}

-- ---- an executor that stands for a machine

abbrev is_machine : (o : Obc) (node : List ℕ) (e : Executor) → Executes o node e → IsMachine node o
is_machine o node e h = record { machine = h.machine; named = h.named; chain = h.chain; count = h.count }

pub stands_fresh : (o : Obc) (node : List ℕ) (e : Executor) → Executes o node e → StandsFor o node e
stands_fresh o node e h = record { is = is_machine o node e h; signature = h.signature; runs = h.runs; kinds = h.kinds }

pub stands_loaded : (o : Obc) (node : List ℕ) (old new : Executor) → StandsFor o node old → new.signature ≡ old.signature → Runs new (machine_behaviour o node) → IsKindedBy (machine_keeps o node) new (machine_behaviour o node) →
    StandsFor o node new
stands_loaded o node old new h same runs kinds = record { is = h.is; signature = same ∙ h.signature; runs = runs; kinds = kinds }

module _ (o : Obc) (node : List ℕ) (e : Executor) (h : StandsFor o node e) where
  holds : flattened (kept e) ≡ e.values
  holds = h.runs.flat e.values h.runs.long

  pub of_kinds : AreOfKinds (flat_kinds (machine_keeps o node)) e.values
  of_kinds = subst (AreOfKinds (flat_kinds (machine_keeps o node))) holds (has_flat (machine_keeps o node) (kept e) h.kinds.has)

  pub kinds_are : kinds_at o.types e.values ≡ flat_kinds (machine_keeps o node)
  kinds_are = keeps_found o node e.values of_kinds

  pub of_types : AreOfTypes o.types e.values
  of_types = subst (λ ks. AreOfKinds ks e.values) (sym kinds_are) of_kinds

  pub has_machine : IsSome (machine_named o.machines node)
  has_machine = ap is_some h.is.named

  pub is_checkpoint : (text : List ℕ) → text ≡ memory_text o.types node e.values → IsCheckpointOf o node (kept e) text
  is_checkpoint text spelled = record { shaped = h.runs.shape e.values h.runs.long; kinded = h.kinds.has; spelled = spelled ∙ ap (memory_text o.types node) (sym holds) }

  pub few_to_read : TypesForm o.types → HaveFewConstructors (kinds_of e.signature.inputs)
  few_to_read form = few_of_signature o e h.is.machine form h.signature

  pub has_behaviour : HasBehaviour e
  has_behaviour = record { behaviour = machine_behaviour o node; runs = h.runs; kinded = record { keeps = machine_keeps o node; by = h.kinds } }

  pub memory_mirrors : Mirrors executing e (from_memory o node (kept e))
  memory_mirrors = record {
    says = λ lines. record {
      outputs = outputs_from (machine_behaviour o node) (kept e) (inputs_until (inputs_of (of_machine o node)) 1 lines);
      run = refl;
      kinds = says_kinded o node e h.is.machine h.is.named h.signature (machine_behaviour o node) h.runs (machine_keeps o node) h.kinds lines;
      said = says_outputs o node e h.is.machine h.is.named h.signature (machine_behaviour o node) h.runs lines;
    };
    refuses = refuses_lines o node e h.is.machine h.is.named h.signature;
  }

  -- behind lines that it takes
  module _ (behind : Executor) (lines : List (List ℕ)) (said : List ℕ) (takes : Takes executing e 1 lines said behind) where
    same : behind ≡ steps_through step_of e (inputs_until (kinds_of e.signature.inputs) 1 lines)
    same = left_by_lines e behind lines said takes

    fit : AllOfKinds (kinds_of e.signature.inputs) (inputs_until (kinds_of e.signature.inputs) 1 lines)
    fit = all_of_kinds (kinds_of e.signature.inputs) 1 lines

    pub stands_behind : StandsFor o node behind
    stands_behind =
        let given = inputs_until (kinds_of e.signature.inputs) 1 lines in
        subst (StandsFor o node) (sym same)
        (record {
          is = h.is;
          signature = signature_through e given ∙ h.signature;
          runs = runs_through (machine_behaviour o node) e given h.runs fit;
          kinds = kinds_through (machine_behaviour o node) (machine_keeps o node) e given h.runs h.kinds fit;
        })

    pub kept_behind : kept behind ≡ memory_behind (machine_behaviour o node) (kept e) (inputs_until (inputs_of (of_machine o node)) 1 lines)
    kept_behind =
        ap kept same ∙ kept_through (machine_behaviour o node) e (inputs_until (kinds_of e.signature.inputs) 1 lines) h.runs fit
        ∙ ap (λ kinds. memory_behind (machine_behaviour o node) (kept e) (inputs_until kinds 1 lines)) (ins_are o node e h.is.machine h.is.named h.signature)

-- ---- a checkpoint that is refused

refuses_by : (o : Obc) (node text : List ℕ) (cause : MemErr) → memories.Refuses text cause →
    ((name : List ℕ) (ws : List (List ℕ)) → Says text name ws → Some cause ≡ misfit node (flat_kinds (machine_keeps o node)) name ws) → RefusesCheckpoint o node text cause
refuses_by o node text (error.Syntax span) h fits = h
refuses_by o node text error.Node h fits = (h.0, h.1, h.2, sym (fits h.0 h.1 h.2))
refuses_by o node text (error.Count found) h fits = (h.0, h.1, h.2, sym (fits h.0 h.1 h.2))
refuses_by o node text (error.Word number) h fits = (h.0, h.1, h.2, sym (fits h.0 h.1 h.2))

pub refused_checkpoint : (o : Obc) (node text : List ℕ) (e : Executor) (cause : MemErr) → StandsFor o node e → memories.Refuses text cause →
    ((name : List ℕ) (ws : List (List ℕ)) → Says text name ws → Some cause ≡ misfit node (kinds_at o.types e.values) name ws) → RefusesCheckpoint o node text cause
refused_checkpoint o node text e cause h refuses fits =
    refuses_by o node text cause refuses (λ name ws says. fits name ws says ∙ ap (λ kinds. misfit node kinds name ws) (kinds_are o node e h))

-- ---- the trace

module _ {S : Type 0} (machine : Machine S) (start : S) (s : System) (m : Mirrors machine start s) where
  pub done_traced : (log : List Event) (line : List ℕ) (status : ℕ) → Ran machine start log line status → status ≡ 0 → Traced s log [] 0
  done_traced log line status Ran.no_memory e = absurd (omega (arith, e))
  done_traced log line status (Ran.done k) e =
      Traced.done (in_lockstep machine start s m log k.in_step) k.closes.0 (answers machine start s m (lines_of true (heard log)) (said log) k.closes.1)
      (refuses machine start s m (lines_of true (heard log)) None k.closes.2)
  done_traced log line status (Ran.refused bad k) e = absurd (omega (arith, e))
  done_traced log line status (Ran.take_failed k) e = absurd (omega (arith, e))
  done_traced log line status (Ran.put_failed k) e = absurd (omega (arith, e))
  done_traced log line status (Ran.line_failed l b rest r) e = absurd (omega (arith, e))

  module _ (files : Option Files) (file node : List ℕ) (o : Obc) (from : Option (List ℕ)) (memory : Memory) (begins : Begins files file node o from memory s) where
    pub stops : (log : List Event) (line : List ℕ) (status : ℕ) → Ran machine start log line status → Stops files file node from log line status
    stops log line status Ran.no_memory = Stops.not_run Outcome.no_memory
    stops log line status (Ran.done k) = Stops.traced begins (done_traced log line status (Ran.done k) refl)
    stops log line status (Ran.refused bad k) =
        Stops.traced begins (Traced.bad_line bad (in_lockstep machine start s m log k.in_step)
        (answers machine start s m (lines_of (has_ended log) (heard log)) (said log) k.closes.0) (refuses machine start s m (lines_of (has_ended log) (heard log)) (Some bad) k.closes.1))
    stops log line status (Ran.take_failed k) =
        Stops.traced begins (Traced.take_failed (in_lockstep machine start s m log k.in_step)
        (answers machine start s m (whole_lines (heard log)) (said log) k.closes.0) (refuses machine start s m (lines_of false (heard log)) None k.closes.1))
    stops log line status (Ran.put_failed k) =
        Stops.traced begins (Traced.put_failed k.closes.0 (in_lockstep machine start s m log k.in_step)
        (answers machine start s m (lines_of (has_ended log) (heard log)) (said log ++ k.closes.0) (sym k.closes.1)))
    stops log line status (Ran.line_failed l b rest r) = Stops.line_failed line b rest (stops log (line ++ b ∷ rest) _ r)

-- ---- what is run

run_mirrors : (files : Option Files) (file node : List ℕ) (o : Obc) (s : System) → AreRun files file node o s → (e : Executor) → Executes o node e → Mirrors executing e s
run_mirrors files file node o s (AreRun.own n compiled named is) e h = machine_mirrors node o e h

takes : (files : Option Files) (file node : List ℕ) (o : Obc) (s : System) → AreRun files file node o s → inputs_of (of_machine o node) ≡ inputs_of s
takes files file node o s (AreRun.own n compiled named is) = refl

runnable : (files : Option Files) (file node : List ℕ) (o : Obc) (s : System) → HasObcForm o.types o.machines → AreRun files file node o s → IsMachine node o → IsRunnable files file node o
runnable files file node o s form are is = record { system = s; are = are; machine = is; inputs = takes files file node o s are; form = form }

-- from what was run and written
module _ (before after : Option Files) (file node : List ℕ) (from : Option (List ℕ)) (out : List ℕ) (o : Obc) (e : Executor) (h : StandsFor o node e) (s : System) (m : Mirrors executing e s)
    (memory : Memory) (begins : Begins before file node o from memory s) (same : kept e ≡ memory) where
  pub segment_ran : (log : List Event) (line : List ℕ) (status : ℕ) → KeepsRun o node e out before after log line status → SegmentRun before after file node from out log line status
  segment_ran log line status (KeepsRun.stopped r fails files) = SegmentRun.stopped (stops executing e s m before file node o from memory begins log line status r) fails files
  segment_ran log line status (KeepsRun.written {text} behind r takes is wrote) =
      let lines = lines_of true (heard log) in
      let memories = kept_behind o node e h behind lines (said log) takes ∙ ap (λ kept. memory_behind (machine_behaviour o node) kept (inputs_until (inputs_of (of_machine o node)) 1 lines)) same in
      SegmentRun.written begins (done_traced executing e s m log [] 0 r refl) (subst (λ kept. IsCheckpointOf o node kept text) memories is) wrote

pub segment_of_machines : (before after : Option Files) (node : List ℕ) (from : Option (List ℕ)) (out : List ℕ) (o : Obc) (e : Executor) → HasObcForm o.types o.machines → StandsFor o node e →
    IsBegun before o node from e → (log : List Event) (line : List ℕ) (status : ℕ) → KeepsRun o node e out before after log line status → SegmentOfMachines o node from out before after log line status
unfolding runnable
segment_of_machines before after node None out o e form h fresh log line status r file s are =
    segment_ran before after file node None out o e h s (run_mirrors before file node o s are e fresh) (machine_behaviour o node).reset (Begins.from_reset (runnable before file node o s form are (is_machine o node e fresh))) fresh.fresh log line status r
segment_of_machines before after node (Some mem) out o e form h begun log line status r file s are =
    segment_ran before after file node (Some mem) out o e h (from_memory o node (kept e)) (memory_mirrors o node e h) (kept e)
    (Begins.from_checkpoint (runnable before file node o s form are h.is) begun.1 begun.2) refl log line status r

-- ---- what is not run

module _ (files : Option Files) (file node mem : List ℕ) (from : Option (List ℕ)) (o : Obc) (asked : from ≡ Some mem) (there : IsRunnable files file node o) where
  not_restored : (line : List ℕ) (status : ℕ) → NotRestored files o node mem line status → Stops files file node from [] line status
  not_restored line status NotRestored.no_memory = Stops.not_run Outcome.no_memory
  not_restored line status NotRestored.unread = Stops.unread_checkpoint asked there
  not_restored line status (NotRestored.too_long long) = Stops.long_checkpoint asked there long
  not_restored line status (NotRestored.refused text cause gives refuses) = Stops.checkpoint_refused text cause asked there gives refuses
  not_restored line status (NotRestored.line_failed l b rest r) = Stops.line_failed line b rest (not_restored (line ++ b ∷ rest) _ r)

pub not_begun : (before after : Option Files) (node : List ℕ) (from : Option (List ℕ)) (out : List ℕ) (o : Obc) → HasObcForm o.types o.machines → IsMachine node o → (line : List ℕ) (status : ℕ) →
    NotBegun before o node from line status → status ≢ 0 → after ≡ before → SegmentOfMachines o node from out before after [] line status
not_begun before after node from out o form is line status h fails same file s are =
    SegmentRun.stopped (not_restored before file node h.0 from o h.1 (runnable before file node o s form are is) line status h.2) fails same

-- the words of `run` for the same node
pub as_run : (words : List (List ℕ)) (file node : List ℕ) (from : Option (List ℕ)) (out : List ℕ) → IsSegmentOf words file node from out → IsRunOf (run_words file node) file node
as_run words file node from out (IsSegmentOf.to_save w) = record { spelled = refl; file_is_argument = w.file_is_argument; node_is_argument = w.node_is_argument }
as_run words file node from out (IsSegmentOf.to_resume w) = record { spelled = refl; file_is_argument = w.file_is_argument; node_is_argument = w.node_is_argument }

-- ---- a call

runnable_of : (files : Option Files) (file node : List ℕ) (o : Obc) (from : Option (List ℕ)) (kept : Memory) (s : System) → Begins files file node o from kept s → IsRunnable files file node o
runnable_of files file node o from kept s (Begins.from_reset there) = there
runnable_of files file node o from kept s (Begins.from_checkpoint there gives is) = there

pub segment_leaves : (words : List (List ℕ)) (before after : Option Files) (file node : List ℕ) (from : Option (List ℕ)) (out : List ℕ) → IsSegmentOf words file node from out →
    (log : List Event) (line : List ℕ) (status : ℕ) → SegmentRun before after file node from out log line status → Leaves words before after status
segment_leaves words before after file node from out w log line status (SegmentRun.stopped r fails same) = Leaves.as_they_were same (λ y v. fails)
segment_leaves words before after file node from out w log line status (SegmentRun.written {o} {memory} {s} begins traced is (WritesText.whole all)) =
    Leaves.saved w (runnable_of before file node o from memory s begins) is all
segment_leaves words before after file node from out w log line status (SegmentRun.written {o} {memory} {s} begins traced is (WritesText.part why others this)) =
    Leaves.saved_in_part why w (runnable_of before file node o from memory s begins) is others this

pub segment_call : (words : List (List ℕ)) (before after : Option Files) (file node : List ℕ) (from : Option (List ℕ)) (out : List ℕ) → IsSegmentOf words file node from out →
    (log : List Event) (line : List ℕ) (status : ℕ) → SegmentRun before after file node from out log line status → CallOutcome words before after log line status
segment_call words before after file node from out w log line status r = CallOutcome.segment (record { file = file; node = node; from = from; out = out; asked = w; ran = r })

-- what happens where the words ask for no such run
pub command_outcome : (words : List (List ℕ)) (before after : Option Files) (log : List Event) (line : List ℕ) (status : ℕ) → IsNoSegment words → CallOutcome words before after log line status → Outcome words before log line status
command_outcome words before after log line status none CallOutcome.no_memory = Outcome.no_memory
command_outcome words before after log line status none (CallOutcome.command other outcome) = outcome
command_outcome words before after log line status none (CallOutcome.segment s) = absurd (none s.file s.node s.from s.out s.asked)

-- the source is not read, or is too long
pub not_run_call : (words : List (List ℕ)) (before after : Option Files) (file node : List ℕ) (from : Option (List ℕ)) (out : List ℕ) → IsSegmentOf words file node from out → (line : List ℕ) (status : ℕ) →
    Outcome (run_words file node) before [] line status → status ≢ 0 → after ≡ before → CallOutcome words before after [] line status
not_run_call words before after file node from out w line status o fails same = segment_call words before after file node from out w [] line status (SegmentRun.stopped (Stops.not_run o) fails same)

reads_source : (words : List (List ℕ)) (file node : List ℕ) (from : Option (List ℕ)) (out : List ℕ) → IsSegmentOf words file node from out → ReadsSource (run_words file node) file
reads_source words file node from out w = ReadsSource.of_program (IsOverSource.to_run (as_run words file node from out w))

pub unread_source : (words : List (List ℕ)) (before after : Option Files) (file node : List ℕ) (from : Option (List ℕ)) (out : List ℕ) → IsSegmentOf words file node from out → after ≡ before → CallOutcome words before after [] [] 4
unread_source words before after file node from out w same =
    not_run_call words before after file node from out w [] 4 (Outcome.unread (ReadsFirst.a_source (reads_source words file node from out w))) (λ h. omega (arith, h)) same

pub long_source : (words : List (List ℕ)) (before after : Option Files) (file node : List ℕ) (from : Option (List ℕ)) (out : List ℕ) → IsSegmentOf words file node from out → GivesMoreThan before file (most Size) → after ≡ before →
    (took told : Option (List ℕ)) (result : ℕ) → ReportsOrNot took told (too_long_line Size) 1 result → (line : List ℕ) × Grows took told line × CallOutcome words before after [] line result
long_source words before after file node from out w long same took told result reports =
    let run = run_words file node in
    let found = told_or_not (Outcome run before []) (λ line b rest status r. Outcome.line_failed line b rest r) Outcome.no_memory took told (too_long_line Size) 1 result reports (Outcome.too_long (reads_source words file node from out w) long) in
    (found.0, found.1, not_run_call words before after file node from out w found.0 result found.2 (not_done_or_not took told (too_long_line Size) result reports) same)

-- what was read, and where a read or a write failed
pub segment_read : (words : List (List ℕ)) (files : Option Files) (file node : List ℕ) (from : Option (List ℕ)) (out : List ℕ) → IsSegmentOf words file node from out → (first before after : Option (List Reading)) →
    Grows first before ((file, most Size) ∷ []) → ReadsFrom from before after → HasRead words files first after
segment_read words files file node None out w first before after grew same = (_, subst (λ told. Grows first told ((file, most Size) ∷ [])) (sym same) grew, AreReadings.a_segment w)
segment_read words files file node (Some mem) out w first before after grew (inl same) = (_, subst (λ told. Grows first told ((file, most Size) ∷ [])) (sym same) grew, AreReadings.a_segment w)
segment_read words files file node (Some mem) out w first before after grew (inr more) = (_, Grows-trans first before after _ _ grew more, AreReadings.a_checkpoint w)

pub segment_read_rose : (words : List (List ℕ)) (file node : List ℕ) (from : Option (List ℕ)) (out : List ℕ) → IsSegmentOf words file node from out → (before after : List ℕ → Faults) → RoseInRead from before after → ReadRose words before after
segment_read_rose words file node None out w before after rose = absurd rose
segment_read_rose words file node (Some mem) out w before after rose = record { file = mem; asked = IsOver.a_checkpoint w; rose = rose }

pub segment_write_rose : (words : List (List ℕ)) (file node : List ℕ) (from : Option (List ℕ)) (out : List ℕ) → IsSegmentOf words file node from out → (before after : List ℕ → Faults) → Rose (before out) (after out) → WriteRose words before after
segment_write_rose words file node from out w before after rose = record { out = out; asked = Writes.a_checkpoint w; rose = rose }
