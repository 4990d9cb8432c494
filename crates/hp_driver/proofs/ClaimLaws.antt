-- From what the call did, as `run_tool` has it, to the rows of the claim.
use Rattle.std.proofs.Common.{◌≡◌, ◌≢◌, ◌⊎◌, ◌+◌, ◌*◌, inl, inr, ℕ, Bool, true, false, List, [], ◌∷◌, ◌++◌, length, get_or, Option, None, Some, refl, sym, ap, subst, ◌∙◌, arith}
use Rattle.std.specs.Prelude.{⊤, option_map}
use Rattle.std.specs.FinMap as finmap
use Rattle.std.specs.Option.{option_copied, unwrap_or}
use Rattle.std.specs.Borrow.{Bor}
use Rattle.std.proofs.lemmas.Bool.Decides.{eqb_tells}
use Rattle.std.proofs.lemmas.List.{append-nil}
use Rattle.hp_base.specs.declared.limit.What.TheVariants.{Size, Text}
use Rattle.hp_boolx.specs.Machine.{Machine as BoolMachine}
use Rattle.hp_compile.specs.Refusals.{Causes}
use Rattle.hp_io.specs.Files.{Files}
use Rattle.hp_io.specs.declared.console.Event.{Event}
use Rattle.hp_io.specs.declared.console.Event.TheVariants.{Asked, Heard, Ended, Said}
use Rattle.hp_io.specs.Events.{put_events, said_bytes}
use Rattle.hp_tree.specs.declared.program.Item.{Item}
use Rattle.hp_tree.specs.Meaning.{node_among}
use Rattle.hp_obc.specs.Machines.{Obc}
use Rattle.hp_obc.specs.Steps.{Memory}
use Rattle.hp_cert.specs.declared.checking.Proved.TheVariants.{Lose}
use Rattle.hp_cert.specs.declared.certtext.error.CertErr.{CertErr}
use Rattle.hp_cert.specs.declared.certtext.error.CertErr.TheVariants as certificate
use Rattle.hp_verdicts.specs.Decided.{ShowsLoss, is_wide_contract, verdict_of}
use Rattle.hp_verdicts.specs.Verified.{RefusesBy}
use Rattle.hp_verdicts.specs.declared.error.ContractErr.{ContractErr}
use Rattle.hp_verdicts.specs.declared.error.ContractErr.TheVariants as contract
use Rattle.law_decided.specs.Outcomes.{RefusesInGame, RefusesInGames}
use Rattle.hp_driver.specs.Answers.{IsAnswer}
use Rattle.hp_driver.specs.BadLines.{bad_line_line}
use Rattle.hp_driver.specs.Claim.{Does, Ends}
use Rattle.hp_driver.specs.ClaimTerms.{AllKept, Certifies, Implement, IsNoProof, IsOwnOf, IsReadAs, IsTellerOf, IsTrace, LacksFile, Program, RefusesTasks, Runs, Starts}
use Rattle.hp_driver.specs.Checkpoints.{IsCheckpointOf, memory_past}
use Rattle.hp_driver.specs.Command.{IsRunOf, IsTellOf, IsCheckOf, IsExecOf, IsPastOf, IsVerifyOf, IsSweepOf, IsNoSegment, IsSegmentOf, IsOver, IsOverSource, IsOverContract, Writes, no_node_line, verdict_text, accepted_text}
use Rattle.hp_driver.specs.Compiled.{IsCompiled, IsNotCompiled}
use Rattle.hp_driver.specs.Commanded.{Spells, SpellsSegment, file_of}
use Rattle.hp_driver.specs.Diagnostics.{behind_forced, certificate_status, contract_line, forced_line, refusal_line, too_long_line}
use Rattle.hp_driver.specs.Happened.{Happened}
use Rattle.hp_driver.specs.Leaves.{Leaves}
use Rattle.hp_driver.specs.Lines.{lines_of}
use Rattle.hp_driver.specs.Log.{heard, said, has_ended}
use Rattle.hp_driver.specs.Outcome.{Outcome, IsHeld, AreCompiled, HasContract, IsAskedFor}
use Rattle.hp_driver.specs.PastOutcome.{PastOutcome, unfolded_text}
use Rattle.hp_driver.specs.Segments.{AreRun, Begins, CallOutcome, IsRunnable, SegmentRun, Stops, Traced, memory_after, run_words}
use Rattle.hp_driver.specs.Status.{code_of}
use Rattle.hp_driver.specs.Sweeping.{tasks_text}
use Rattle.hp_driver.specs.Swept.{IsNotSwept, IsSwept}
use Rattle.hp_driver.specs.Systems.{System, inputs_of, Gives}
use Rattle.hp_driver.specs.Values.{first_bad, inputs_until}
use Rattle.hp_driver.specs.WrittenText.{WritesText}
use Rattle.hp_driver.specs.Texts.{HasNoProgram}
use Rattle.hp_driver.specs.declared.compile_error.CompileErr.{CompileErr}
use Rattle.hp_driver.specs.declared.compile_error.CompileErr.TheVariants as compile
use Rattle.hp_driver.specs.declared.status.Status.{Status}
use Rattle.hp_driver.specs.declared.status.Status.TheVariants.{NoMemory, ReadFailed}
use Rattle.hp_driver.specs.declared.trace_limits.BadLine.{BadLine}
use Rattle.hp_driver.specs.declared.words.Command.{Command}
use Rattle.hp_driver.specs.declared.words.Segment.{Segment}
use Rattle.hp_driver.proofs.GoodLines.{same_up_to}
use Rattle.hp_driver.proofs.OutcomeLaws.{over_of}
use Rattle.hp_driver.proofs.ResumedLaws.{get_inserted}

some_same : {A : Type 0} (a b : A) → Some a ≡ Some b → a ≡ b
some_same a b e = ap (λ o. unwrap_or o a) e

-- ---- what is said

said_put : (bytes : List ℕ) → said (put_events bytes) ≡ bytes
said_put [] = refl
said_put (b ∷ bytes) = ap (λ z. b ∷ z) (said_put bytes)

-- ---- the command, by its first word

abbrev mark : List (List ℕ) → ℕ
mark words = length (get_or words 0 []) * 1000 + get_or (get_or words 0 []) 0 0

check_mark : (words : List (List ℕ)) (file : List ℕ) (print : Bool) → IsCheckOf words file print → mark words ≡ 5099
check_mark words file false w = ap mark w.spelled
check_mark words file true w = elim w.spelled [ inl e ↦ ap mark e | inr e ↦ ap mark e ]

run_mark : (words : List (List ℕ)) (file node : List ℕ) → IsRunOf words file node → mark words ≡ 3114
run_mark words file node w = ap mark w.spelled

tell_mark : (words : List (List ℕ)) (file node : List ℕ) → IsTellOf words file node → mark words ≡ 3114
tell_mark words file node w = elim w.spelled [ inl e ↦ ap mark e | inr r ↦ elim r [ inl e ↦ ap mark e | inr e ↦ ap mark e ] ]

exec_mark : (words : List (List ℕ)) (file node : List ℕ) → IsExecOf words file node → mark words ≡ 4101
exec_mark words file node w = ap mark w.spelled

verify_mark : (words : List (List ℕ)) (file node cert : List ℕ) → IsVerifyOf words file node cert → mark words ≡ 6118
verify_mark words file node cert w = ap mark w.spelled

sweep_mark : (words : List (List ℕ)) (tasks instants : ℕ) → IsSweepOf words tasks instants → mark words ≡ 5115
sweep_mark words tasks instants w = ap mark w.spelled

-- the marks of the commands that write a file
abbrev IsWritingMark : ℕ → Type 0
IsWritingMark n = (n ≡ 7099) ⊎ ((n ≡ 4112) ⊎ (n ≡ 5112))

writing_mark : (words : List (List ℕ)) → IsNoSegment words → (out : List ℕ) → Writes words out → IsWritingMark (mark words)
writing_mark words none out (Writes.machines w) = inl (ap mark w.spelled)
writing_mark words none out (Writes.a_source w) = inr (inl (ap mark w.spelled))
writing_mark words none out (Writes.a_certificate w) = inr (inr (ap mark w.spelled))
writing_mark words none out (Writes.a_checkpoint {file = f} {node = n} {from = m} w) = absurd (none f n m out w)

writes_nothing : (n : ℕ) → n ≢ 7099 → n ≢ 4112 → n ≢ 5112 → (words : List (List ℕ)) → IsNoSegment words → mark words ≡ n → (out : List ℕ) → Writes words out → ⊥
writes_nothing n f g h words none e out w = elim (writing_mark words none out w) [ inl k ↦ f (sym e ∙ k) | inr r ↦ elim r [ inl k ↦ g (sym e ∙ k) | inr k ↦ h (sym e ∙ k) ] ]

-- ---- what becomes of the files

module _ (words : List (List ℕ)) (files left : Files) where
  -- a call that is not one that did what a command is for that writes a file
  untouched : (status : ℕ) → Leaves words (Some files) (Some left) status → status ≢ 5 → status ≢ 6 → (status ≢ 0) ⊎ ((out : List ℕ) → Writes words out → ⊥) → left ≡ files
  untouched status (Leaves.as_they_were same not) f g h = some_same left files same
  untouched status (Leaves.written {out = o} w written printed same) f g h = absurd (elim h [ inl n ↦ n refl | inr n ↦ n o (Writes.machines w) ])
  untouched status (Leaves.in_part why w written printed b c) f g h = absurd (elim why [ inl e ↦ f e | inr e ↦ g e ])
  untouched status (Leaves.unfolded {out = o} w holds short same) f g h = absurd (elim h [ inl n ↦ n refl | inr n ↦ n o (Writes.a_source w) ])
  untouched status (Leaves.unfolded_in_part why w holds b c) f g h = absurd (elim why [ inl e ↦ f e | inr e ↦ g e ])
  untouched status (Leaves.proved {cert = o} w there proof same) f g h = absurd (elim h [ inl n ↦ n refl | inr n ↦ n o (Writes.a_certificate w) ])
  untouched status (Leaves.proof_in_part why w there proof b c) f g h = absurd (elim why [ inl e ↦ f e | inr e ↦ g e ])
  untouched status (Leaves.saved {out = o} w there is same) f g h = absurd (elim h [ inl n ↦ n refl | inr n ↦ n o (Writes.a_checkpoint w) ])
  untouched status (Leaves.saved_in_part why w there is b c) f g h = absurd (elim why [ inl e ↦ f e | inr e ↦ g e ])

-- ---- traces

same_inputs_answer : (s : System) (xs ys : List (List ℕ)) (bytes : List ℕ) → inputs_until (inputs_of s) 1 ys ≡ inputs_until (inputs_of s) 1 xs → IsAnswer s xs bytes → IsAnswer s ys bytes
same_inputs_answer s xs ys bytes e a = record { outputs = a.outputs; run = subst (λ inputs. Gives s inputs a.outputs) (sym e) a.run; kinds = a.kinds; said = a.said }

-- what was heard of an input, and what is left of it, which is nothing where it has ended
pub record IsHeard (input : List ℕ) (log : List Event) : Type 0 where
  pub rest : List ℕ
  pub are : input ≡ heard log ++ rest
  pub end : has_ended log ≡ true → rest ≡ []

all_heard : (input : List ℕ) (log : List Event) → IsHeard input log → has_ended log ≡ true → heard log ≡ input
all_heard input log h e = sym (append-nil (heard log)) ∙ sym (ap (λ z. heard log ++ z) (h.end e)) ∙ sym h.are

module _ (input : List ℕ) (log : List Event) (h : IsHeard input log) (s : System) where
  whole_trace : has_ended log ≡ true → IsAnswer s (lines_of true (heard log)) (said log) → first_bad (inputs_of s) 1 (lines_of true (heard log)) ≡ None → IsTrace s (lines_of true input) (said log) [] 0
  whole_trace e answer good = subst (λ z. IsTrace s (lines_of true z) (said log) [] 0) (all_heard input log h e) (IsTrace.whole answer good)

  broken_by : (b : Bool) → has_ended log ≡ b → (bad : BadLine) → IsAnswer s (lines_of b (heard log)) (said log) → first_bad (inputs_of s) 1 (lines_of b (heard log)) ≡ Some bad →
      IsTrace s (lines_of true input) (said log) (bad_line_line bad) 3
  broken_by true e bad answer fault = subst (λ z. IsTrace s (lines_of true z) (said log) (bad_line_line bad) 3) (all_heard input log h e) (IsTrace.broken bad answer fault)
  broken_by false e bad answer fault =
      let all = lines_of true (heard log ++ h.rest) in
      let same = same_up_to (inputs_of s) (heard log) h.rest bad fault in
      subst (λ z. IsTrace s (lines_of true z) (said log) (bad_line_line bad) 3) (sym h.are)
      (IsTrace.broken bad (same_inputs_answer s (lines_of false (heard log)) all (said log) same.1 answer) (same.0 ∙ fault))

  broken_trace : (bad : BadLine) → IsAnswer s (lines_of (has_ended log) (heard log)) (said log) → first_bad (inputs_of s) 1 (lines_of (has_ended log) (heard log)) ≡ Some bad →
      IsTrace s (lines_of true input) (said log) (bad_line_line bad) 3
  broken_trace bad answer fault = broken_by (has_ended log) refl bad answer fault

-- ---- programs and contracts

abbrev pub program_of : (files : Files) (file : List ℕ) (program : List Item) → IsHeld (Some files) file program → Program files file
program_of files file program held = record {
  text = held.text;
  held = held.held;
  program = program;
  judged = held.judged;
  only = held.only;
  clocked = held.clocked;
  ranks = held.ranks;
  arranged = held.arranged;
}

-- their machines
implementing : (files : Files) (file : List ℕ) (o : Obc) (compiled : AreCompiled (Some files) file o) → Implement (program_of files file compiled.program compiled.held) o
implementing files file o compiled = record { kept = compiled.kept.safe; says = compiled.are.says; agree = λ none. let plain = compiled.are.plain none in plain.agree }

-- ---- a sweep

module _ (files : Files) (tasks : ℕ) (o : Obc) (compiled : IsCompiled (tasks_text tasks) o) where
  -- the program of its tasks, as though a file held it
  abbrev tasks_program : Program (finmap.insert files [] (tasks_text tasks)) []
  tasks_program = record {
    text = tasks_text tasks;
    held = get_inserted files [] (tasks_text tasks);
    program = compiled.program;
    judged = compiled.found.judged;
    only = compiled.found.only;
    clocked = compiled.ordered;
    ranks = compiled.found.ranks;
    arranged = compiled.found.arranged;
  }

  implemented : Implement tasks_program o
  implemented = record { kept = compiled.kept.safe; says = compiled.machines.says; agree = λ none. let plain = compiled.machines.plain none in plain.agree }

-- where a text is refused it has no program, and this is why
abbrev Refused : List ℕ → CompileErr → Type 0
Refused text (compile.Refused cause) = HasNoProgram text × Causes text cause
Refused text error = ⊤

refused_text : (text : List ℕ) (error : CompileErr) → IsNotCompiled text error → Refused text error
refused_text text error (IsNotCompiled.refused causes none) = (none, causes)
refused_text text error (IsNotCompiled.contract_refused found differs refuses) = tt
refused_text text error IsNotCompiled.out_of_memory = tt

-- why it says nothing
refuses_tasks : (tasks : ℕ) (line : List ℕ) → IsNotSwept tasks line → RefusesTasks tasks line
refuses_tasks tasks line (IsNotSwept.refused cause why) =
    let told = refused_text (tasks_text tasks) (compile.Refused cause) why in RefusesTasks.refused cause told.0 told.1
refuses_tasks tasks line (IsNotSwept.contract_refused cause why) = RefusesTasks.contract_refused cause
refuses_tasks tasks line (IsNotSwept.too_large limit compiled passed) = RefusesTasks.too_large limit

-- ---- contracts

-- what stands behind the line of a contract that is lost
loss_text : (m : BoolMachine) (wide : Bool) (instants : ℕ) (text : Option (List ℕ)) → ShowsLoss m wide instants text → Certifies (behind_forced text) (Lose instants) ⊎ (behind_forced text ≡ too_long_line Text)
loss_text m wide instants None h = inr refl
loss_text m wide instants (Some text) h = inl (h.certified.certificate, h.certified.text_is, h.verdict)

-- why a text proves nothing of a machine
no_proof : (m : BoolMachine) (text : List ℕ) (cause : CertErr) → cause ≢ certificate.OutOfMemory → RefusesBy m text cause → IsNoProof text cause
no_proof m text (certificate.Syntax at) e h = h
no_proof m text (certificate.Misfit k) e h = (h.certificate, h.reads)
no_proof m text (certificate.Fails k) e h = (h.certificate, h.reads)
no_proof m text (certificate.Limit limit) e h = h
no_proof m text certificate.OutOfMemory e h = absurd (e refl)

refused_status : (cause : CertErr) → certificate_status cause ≢ 0
refused_status (certificate.Syntax at) e = omega (arith, e)
refused_status (certificate.Misfit m) e = omega (arith, e)
refused_status (certificate.Fails k) e = omega (arith, e)
refused_status (certificate.Limit limit) e = omega (arith, e)
refused_status certificate.OutOfMemory e = omega (arith, e)

-- ---- the rows

module _ (words : List (List ℕ)) (files left : Files) (input : List ℕ) where
  -- a row over the files that are left
  at_left : (z : Files) (bytes line : List ℕ) (status : ℕ) → left ≡ z → Does words files input bytes line z status → Does words files input bytes line left status
  at_left z bytes line status e row = subst (λ y. Does words files input bytes line y status) (sym e) row

  is_swept : (text : List ℕ) (tasks instants : ℕ) → IsSweepOf words tasks instants → IsSwept tasks instants text → Does words files input text [] files 0
  is_swept text tasks instants w summary =
      let o = summary.machines in
      let compiled = summary.compiled in
      subst (λ z. Does words files input z [] files 0) (sym summary.spelled)
      (Does.swept (tasks_program files tasks o compiled) w (implemented files tasks o compiled) summary.has)

  module _ (none : IsNoSegment words) where
    -- a command that writes a file did what it is for
    wrote : (status : ℕ) → Leaves words (Some files) (Some left) status → status ≡ 0 → (out : List ℕ) → Writes words out → Does words files input [] [] left status
    wrote status (Leaves.as_they_were same not) e out w = absurd (not out w e)
    wrote status (Leaves.written {file = f} {out = o} {text = t} {o = ms} w compiled printed same) e out x =
        let z = finmap.insert files o t in
        at_left z [] [] 0 (some_same left z same) (Does.compiled t (program_of files f compiled.program compiled.held) w (implementing files f ms compiled) printed.stands)
    wrote status (Leaves.in_part why w compiled printed b c) e out x = absurd (elim why [ inl k ↦ omega (arith, e, k) | inr k ↦ omega (arith, e, k) ])
    wrote status (Leaves.unfolded {file = f} {out = o} {program = p} w holds short same) e out x =
        let z = finmap.insert files o (unfolded_text p) in at_left z [] [] 0 (some_same left z same) (Does.unfolded w holds.gives holds.program_of)
    wrote status (Leaves.unfolded_in_part why w holds b c) e out x = absurd (elim why [ inl k ↦ omega (arith, e, k) | inr k ↦ omega (arith, e, k) ])
    wrote status (Leaves.proved {file = f} {name = name} {cert = o} {text = t} w there proof same) e out x =
        let z = finmap.insert files o t in
        let certified = proof.proof.certified in
        at_left z [] [] 0 (some_same left z same)
        (Does.proved there.node (verdict_of certified.certificate.claim) (program_of files f there.program there.held) w there.named proof.verdict
        (certified.certificate, certified.text_is, refl))
    wrote status (Leaves.proof_in_part why w there proof b c) e out x = absurd (elim why [ inl k ↦ omega (arith, e, k) | inr k ↦ omega (arith, e, k) ])
    wrote status (Leaves.saved {file = f} {node = n} {out = o} {from = m} w there is same) e out x = absurd (none f n m o w)
    wrote status (Leaves.saved_in_part why w there is b c) e out x = absurd (elim why [ inl k ↦ omega (arith, e, k) | inr k ↦ omega (arith, e, k) ])

  module _ (same : left ≡ files) where
    -- the first contract that is refused
    first_refused : (file : List ℕ) (program : List Item) (cause : ContractErr) → IsOverSource words file → (held : IsHeld (Some files) file program) → cause ≢ contract.OutOfMemory → RefusesInGames held.clocked cause →
        Does words files input [] (contract_line cause) left 1
    first_refused file program (contract.Forced name instants cert) over held differs r =
        let n = r.refused.node in
        let behind = option_map (λ text. text.items) cert in
        let shown = r.refused.refused.2 in
        at_left files [] (forced_line name instants (behind_forced behind)) 1 same
        (subst (λ z. Does words files input [] (forced_line z instants (behind_forced behind)) files 1) (sym r.refused.refused.0)
        (Does.lost n instants (program_of files file program held) over (r.refused.before, r.refused.behind, r.refused.stands, r.before) r.says
        (loss_text shown.forced.machine (is_wide_contract n.contract) instants behind shown.shown)))
    first_refused file program (contract.Assume name at) over held differs r =
        at_left files [] (contract_line (contract.Assume name at)) 1 same
        (Does.undecided r.refused.node (contract.Assume name at) (program_of files file program held) over
        (r.refused.before, r.refused.behind, r.refused.stands, r.before) (r.refused.refused.0, r.says))
    first_refused file program (contract.Limit name limit) over held differs r =
        at_left files [] (contract_line (contract.Limit name limit)) 1 same
        (Does.undecided r.refused.node (contract.Limit name limit) (program_of files file program held) over
        (r.refused.before, r.refused.behind, r.refused.stands, r.before) (r.refused.refused.0, r.says))
    first_refused file program contract.TooLong over held differs r = absurd r.says
    first_refused file program contract.NotBuilt over held differs r = absurd r.says
    first_refused file program contract.OutOfMemory over held differs r = absurd (differs refl)

    -- the contract of a node that has no machine
    no_verdict : (file name : List ℕ) (cause : ContractErr) → IsOverContract words file name → (c : HasContract (Some files) file name) → cause ≢ contract.OutOfMemory → RefusesInGame c.held.clocked c.node cause →
        Does words files input [] (contract_line cause) left 1
    no_verdict file name (contract.Forced node instants cert) k c differs r = absurd r.refused
    no_verdict file name (contract.Assume node at) k c differs r =
        at_left files [] (contract_line (contract.Assume node at)) 1 same
        (Does.no_verdict c.node (contract.Assume node at) (program_of files file c.program c.held) k c.named (r.refused.0, r.says))
    no_verdict file name (contract.Limit node limit) k c differs r =
        at_left files [] (contract_line (contract.Limit node limit)) 1 same
        (Does.no_verdict c.node (contract.Limit node limit) (program_of files file c.program c.held) k c.named (r.refused.0, r.says))
    no_verdict file name contract.TooLong k c differs r = absurd r.says
    no_verdict file name contract.NotBuilt k c differs r = absurd r.says
    no_verdict file name contract.OutOfMemory k c differs r = absurd (differs refl)

    no_node_to_run : (file name : List ℕ) (program : List Item) → IsRunOf words file name ⊎ IsTellOf words file name → (held : IsHeld (Some files) file program) → AllKept (program_of files file program held) →
        node_among held.clocked name ≡ None → Does words files input [] (no_node_line name) left 1
    no_node_to_run file name program asks held kept unnamed = at_left files [] (no_node_line name) 1 same (Does.no_node_to_run (program_of files file program held) kept asks unnamed)

    -- what is run on a trace
    ran : (s : System) (bytes line : List ℕ) (status : ℕ) → IsAskedFor words (Some files) s → IsTrace s (lines_of true input) bytes line status → Does words files input bytes line left status
    ran s bytes line status (IsAskedFor.a_node {file = f} {o = o} n w compiled named there is) t =
        at_left files bytes line status same (Does.ran (program_of files f compiled.program compiled.held) w (implementing files f o compiled) (IsOwnOf.own n named is) t)
    ran s bytes line status (IsAskedFor.a_machine w ms there) t = at_left files bytes line status same (Does.executed there.machine w ms.held ms.read there.named t)
    ran s bytes line status (IsAskedFor.a_contract {file = f} {o = o} n w compiled named some there is) t =
        at_left files bytes line status same (Does.told (program_of files f compiled.program compiled.held) w (implementing files f o compiled) (IsTellerOf.with_contract n named some is) t)
    ran s bytes line status (IsAskedFor.no_contract {file = f} {o = o} n w compiled named without there is) t =
        at_left files bytes line status same (Does.told (program_of files f compiled.program compiled.held) w (implementing files f o compiled) (IsTellerOf.without n named without is) t)

    -- the program without the formulas of its contracts was not written
    past_refused : (file out line : List ℕ) (status : ℕ) → IsPastOf words file out → PastOutcome (Some files) file line status → status ≢ 0 → status ≢ 5 → Does words files input [] line left status
    past_refused file out line status w (PastOutcome.too_long long) f g = at_left files [] (too_long_line Size) 1 same (Does.too_long (IsReadAs.a_tree w) long)
    past_refused file out line status w (PastOutcome.refused text cause gives causes unread) f g = at_left files [] (refusal_line cause) 1 same (Does.no_program cause w gives unread causes)
    past_refused file out line status w (PastOutcome.too_long_unfolded holds long) f g = at_left files [] (too_long_line Size) 1 same (Does.long_unfolded w holds.gives holds.program_of long)
    past_refused file out line status w (PastOutcome.written holds short back tells) f g = absurd (f refl)
    past_refused file out line status w (PastOutcome.not_written holds short) f g = absurd (g refl)

  -- a program is written without them, or is not
  past_ended : (none : IsNoSegment words) (file out line : List ℕ) (status : ℕ) → IsPastOf words file out → PastOutcome (Some files) file line status →
      Leaves words (Some files) (Some left) status → status ≢ 5 → status ≢ 6 → Does words files input [] line left status
  past_ended none file out line status w (PastOutcome.written holds short back tells) leaves g h = wrote none 0 leaves refl out (Writes.a_source w)
  past_ended none file out line status w (PastOutcome.not_written holds short) leaves g h = absurd (g refl)
  past_ended none file out line status w (PastOutcome.too_long long) leaves g h =
      past_refused (untouched words files left 1 leaves g h (inl (λ e. omega (arith, e)))) file out (too_long_line Size) 1 w (PastOutcome.too_long long) (λ e. omega (arith, e)) g
  past_ended none file out line status w (PastOutcome.refused text cause gives causes unread) leaves g h =
      past_refused (untouched words files left 1 leaves g h (inl (λ e. omega (arith, e)))) file out (refusal_line cause) 1 w (PastOutcome.refused text cause gives causes unread) (λ e. omega (arith, e)) g
  past_ended none file out line status w (PastOutcome.too_long_unfolded holds long) leaves g h =
      past_refused (untouched words files left 1 leaves g h (inl (λ e. omega (arith, e)))) file out (too_long_line Size) 1 w (PastOutcome.too_long_unfolded holds long) (λ e. omega (arith, e)) g

  module _ (none : IsNoSegment words) where
    -- the mark of a command that runs something
    asked_mark : (s : System) → IsAskedFor words (Some files) s → (mark words ≡ 3114) ⊎ (mark words ≡ 4101)
    asked_mark s (IsAskedFor.a_node {file = f} {node = k} n w compiled named there is) = inl (run_mark words f k w)
    asked_mark s (IsAskedFor.a_machine {file = f} {node = n} w ms there) = inr (exec_mark words f n w)
    asked_mark s (IsAskedFor.a_contract {file = f} {node = k} n w compiled named some there is) = inl (tell_mark words f k w)
    asked_mark s (IsAskedFor.no_contract {file = f} {node = k} n w compiled named without there is) = inl (tell_mark words f k w)

    runs_write_nothing : (s : System) → IsAskedFor words (Some files) s → (out : List ℕ) → Writes words out → ⊥
    runs_write_nothing s asked = elim (asked_mark s asked) [
      | inl e ↦ writes_nothing 3114 (λ k. omega (arith, k)) (λ k. omega (arith, k)) (λ k. omega (arith, k)) words none e
      | inr e ↦ writes_nothing 4101 (λ k. omega (arith, k)) (λ k. omega (arith, k)) (λ k. omega (arith, k)) words none e
    ]

    ended : (log : List Event) (line : List ℕ) (status : ℕ) → Outcome words (Some files) log line status → IsHeard input log → Leaves words (Some files) (Some left) status → status ≢ 4 → status ≢ 5 → status ≢ 6 →
        Does words files input (said log) line left status
    ended log line status (Outcome.usage w) h leaves e f g = let same = untouched words files left 2 leaves f g (inl (λ k. omega (arith, k))) in at_left files [] line 2 same (Does.usage w)
    ended log line status (Outcome.unread w) h leaves e f g = absurd (e refl)
    ended log line status Outcome.no_memory h leaves e f g = absurd (g refl)
    ended log line status (Outcome.too_long w long) h leaves e f g = let same = untouched words files left 1 leaves f g (inl (λ k. omega (arith, k))) in at_left files [] line 1 same (Does.too_long (IsReadAs.a_source w) long)
    ended log line status (Outcome.refused text cause w gives causes unheld) h leaves e f g =
        let same = untouched words files left 1 leaves f g (inl (λ k. omega (arith, k))) in at_left files [] line 1 same (Does.refused cause w gives unheld causes)
    ended log line status (Outcome.contract_refused {file = x} {program = p} cause over held some differs refuses) h leaves e f g =
        first_refused (untouched words files left 1 leaves f g (inl (λ k. omega (arith, k)))) x p cause over held differs refuses
    ended log line status (Outcome.no_node_to_run {file = x} {name = y} {program = p} asks held kept unnamed) h leaves e f g =
        no_node_to_run (untouched words files left 1 leaves f g (inl (λ k. omega (arith, k)))) x y p asks held kept.safe unnamed
    ended log line status (Outcome.chosen_too_large {file = x} {o = o} limit compiled asks for passed) h leaves e f g =
        let same = untouched words files left 1 leaves f g (inl (λ k. omega (arith, k))) in
        at_left files [] line 1 same (Does.chosen_too_large limit (program_of files x compiled.program compiled.held) asks (implementing files x o compiled) for passed)
    ended log line status (Outcome.accepted {file = x} {program = p} print w held kept) h leaves e f g =
        let same = untouched words files left 0 leaves f g (inr (writes_nothing 5099 (λ k. omega (arith, k)) (λ k. omega (arith, k)) (λ k. omega (arith, k)) words none (check_mark words x print w))) in
        subst (λ z. Does words files input z [] left 0) (sym (said_put (accepted_text print p))) (at_left files (accepted_text print p) [] 0 same (Does.accepted print (program_of files x p held) w kept.safe))
    ended log line status (Outcome.accepted_in_part print out rest w held kept k) h leaves e f g = absurd (f refl)
    ended log line status (Outcome.no_node {file = x} {program = p} w held unnamed) h leaves e f g =
        let same = untouched words files left 1 leaves f g (inl (λ k. omega (arith, k))) in at_left files [] line 1 same (Does.no_node (program_of files x p held) w unnamed)
    ended log line status (Outcome.no_contract {file = x} {program = p} n w held named without) h leaves e f g =
        let same = untouched words files left 1 leaves f g (inl (λ k. omega (arith, k))) in at_left files [] line 1 same (Does.no_contract n (program_of files x p held) w named without)
    ended log line status (Outcome.no_verdict {file = x} {name = y} cause w c differs refuses) h leaves e f g =
        no_verdict (untouched words files left 1 leaves f g (inl (λ k. omega (arith, k)))) x y cause w c differs refuses
    ended log line status (Outcome.long_proof {file = x} w c has long) h leaves e f g =
        let same = untouched words files left 1 leaves f g (inl (λ k. omega (arith, k))) in
        let it = long.certificate in
        at_left files [] line 1 same (Does.not_proved (verdict_of it.claim) (program_of files x c.program c.held) w (it, refl, refl) long.longer)
    ended log line status (Outcome.proved {cert = o} w c proof) h leaves e f g = wrote none 0 leaves refl o (Writes.a_certificate w)
    ended log line status (Outcome.proof_not_written w c proof) h leaves e f g = absurd (f refl)
    ended log line status (Outcome.unread_certificate w c has) h leaves e f g = absurd (e refl)
    ended log line status (Outcome.long_certificate w c has long) h leaves e f g =
        let same = untouched words files left 1 leaves f g (inl (λ k. omega (arith, k))) in at_left files [] line 1 same (Does.too_long (IsReadAs.a_certificate w) long)
    ended log line status (Outcome.verified {file = x} {name = y} {cert = z} text p w c gives shows) h leaves e f g =
        let same = untouched words files left 0 leaves f g (inr (writes_nothing 6118 (λ k. omega (arith, k)) (λ k. omega (arith, k)) (λ k. omega (arith, k)) words none (verify_mark words x y z w))) in
        subst (λ u. Does words files input u [] left 0) (sym (said_put (verdict_text p)))
        (at_left files (verdict_text p) [] 0 same (Does.verified text c.node p (program_of files x c.program c.held) w c.named gives shows.holds))
    ended log line status (Outcome.verified_in_part text p out rest w c gives shows k) h leaves e f g = absurd (f refl)
    ended log line status (Outcome.certificate_refused {file = x} text cause w c gives differs refuses) h leaves e f g =
        let same = untouched words files left (certificate_status cause) leaves f g (inl (refused_status cause)) in
        at_left files [] line (certificate_status cause) same (Does.not_verified text cause (program_of files x c.program c.held) w gives differs (no_proof (refuses.has).machine text cause differs refuses.refused))
    ended log line status (Outcome.long_text w long) h leaves e f g = let same = untouched words files left 1 leaves f g (inl (λ k. omega (arith, k))) in at_left files [] line 1 same (Does.too_long (IsReadAs.machines w) long)
    ended log line status (Outcome.no_text text at w gives r) h leaves e f g = let same = untouched words files left 8 leaves f g (inl (λ k. omega (arith, k))) in at_left files [] line 8 same (Does.no_text at w gives r)
    ended log line status (Outcome.no_form text at w gives b) h leaves e f g = let same = untouched words files left 8 leaves f g (inl (λ k. omega (arith, k))) in at_left files [] line 8 same (Does.no_form at w gives b)
    ended log line status (Outcome.no_machine w ms unnamed) h leaves e f g =
        let same = untouched words files left 1 leaves f g (inl (λ k. omega (arith, k))) in at_left files [] line 1 same (Does.no_machine w ms.held ms.read unnamed)
    ended log line status (Outcome.too_large limit w ms passed) h leaves e f g =
        let same = untouched words files left 1 leaves f g (inl (λ k. omega (arith, k))) in at_left files [] line 1 same (Does.too_large limit w ms.held ms.read passed)
    ended log line status (Outcome.compiled {out = o} w written) h leaves e f g = wrote none 0 leaves refl o (Writes.machines w)
    ended log line status (Outcome.not_written w written) h leaves e f g = absurd (f refl)
    ended log line status (Outcome.past {file = x} {out = y} w past) h leaves e f g = past_ended none x y line status w past leaves f g
    ended log line status (Outcome.swept {tasks = t} {instants = i} text w summary) h leaves e f g =
        let same = untouched words files left 0 leaves f g (inr (writes_nothing 5115 (λ k. omega (arith, k)) (λ k. omega (arith, k)) (λ k. omega (arith, k)) words none (sweep_mark words t i w))) in
        subst (λ z. Does words files input z [] left 0) (sym (said_put text)) (at_left files text [] 0 same (is_swept text t i w summary))
    ended log line status (Outcome.swept_in_part text out rest w summary k) h leaves e f g = absurd (f refl)
    ended log line status (Outcome.not_swept {tasks = t} w why) h leaves e f g = let same = untouched words files left 1 leaves f g (inl (λ k. omega (arith, k))) in at_left files [] line 1 same (Does.not_swept w (refuses_tasks t line why))
    ended log line status (Outcome.done {s = s} asked step end answer good) h leaves e f g =
        let same = untouched words files left 0 leaves f g (inr (runs_write_nothing s asked)) in ran same s (said log) [] 0 asked (whole_trace input log h s end answer good)
    ended log line status (Outcome.bad_line {s = s} bad asked step answer fault) h leaves e f g =
        let same = untouched words files left 3 leaves f g (inl (λ k. omega (arith, k))) in ran same s (said log) line 3 asked (broken_trace input log h s bad answer fault)
    ended log line status (Outcome.take_failed asked step answer good) h leaves e f g = absurd (e refl)
    ended log line status (Outcome.put_failed rest asked step answer) h leaves e f g = absurd (f refl)
    ended log line status (Outcome.line_failed told b rest r) h leaves e f g = absurd (f refl)

-- ---- `save` and `resume`

-- the words of `run` ask for no checkpoint
run_is_no_segment : (file node : List ℕ) → IsNoSegment (run_words file node)
run_is_no_segment file node f n from out (IsSegmentOf.to_save w) = let e : 3114 ≡ 4115 = ap mark w.spelled in absurd (omega (arith, e))
run_is_no_segment file node f n from out (IsSegmentOf.to_resume w) = let e : 3114 ≡ 6114 = ap mark w.spelled in absurd (omega (arith, e))

-- a trace that ended with status 0 was answered to its end
pub record IsAnswered (s : System) (log : List Event) : Type 0 where
  pub end : has_ended log ≡ true
  pub answer : IsAnswer s (lines_of true (heard log)) (said log)
  pub good : first_bad (inputs_of s) 1 (lines_of true (heard log)) ≡ None

answered : (s : System) (log : List Event) (line : List ℕ) (status : ℕ) → Traced s log line status → status ≡ 0 → IsAnswered s log
answered s log line status (Traced.done step end answer good) e = record { end = end; answer = answer; good = good }
answered s log line status (Traced.bad_line bad step answer fault) e = absurd (omega (arith, e))
answered s log line status (Traced.take_failed step answer good) e = absurd (omega (arith, e))
answered s log line status (Traced.put_failed rest step answer) e = absurd (omega (arith, e))

module _ (files : Files) (file node : List ℕ) (o : Obc) where
  -- what is run, and the program
  runs_by : (s : System) → AreRun (Some files) file node o s → (p : Program files file) × Runs p o node s
  runs_by s (AreRun.own n compiled named is) = (program_of files file compiled.program compiled.held, Runs.the_machine (implementing files file o compiled) (IsOwnOf.own n named is))

  runs_of : (there : IsRunnable (Some files) file node o) → (p : Program files file) × Runs p o node there.system
  runs_of there = runs_by there.system there.are

  starts_of : (from : Option (List ℕ)) (memory : Memory) (s : System) → Begins (Some files) file node o from memory s → (p : Program files file) × Starts p o node from memory s
  starts_of from memory s (Begins.from_reset there) = let r = runs_of there in (r.0, Starts.anew r.1)
  starts_of from memory s (Begins.from_checkpoint there gives is) = let r = runs_of there in (r.0, Starts.again r.1 gives is)

module _ (words : List (List ℕ)) (files : Files) (input : List ℕ) (file node : List ℕ) (from : Option (List ℕ)) (out : List ℕ) (asked : IsSegmentOf words file node from out) where
  asked_from : (mem : List ℕ) → from ≡ Some mem → IsSegmentOf words file node (Some mem) out
  asked_from mem e = subst (λ z. IsSegmentOf words file node z out) e asked

  -- a trace that ended otherwise
  trace_stopped : (o : Obc) (memory : Memory) (s : System) (log : List Event) (line : List ℕ) (status : ℕ) → Begins (Some files) file node o from memory s → Traced s log line status → IsHeard input log →
      status ≢ 0 → status ≢ 4 → status ≢ 5 → Ends words files input (said log) line files status
  trace_stopped o memory s log line status begins (Traced.done step end answer good) h d e f = absurd (d refl)
  trace_stopped o memory s log line status begins (Traced.bad_line bad step answer fault) h d e f =
      let start = starts_of files file node o from memory s begins in Ends.stopped start.0 asked start.1 (broken_trace input log h s bad answer fault)
  trace_stopped o memory s log line status begins (Traced.take_failed step answer good) h d e f = absurd (e refl)
  trace_stopped o memory s log line status begins (Traced.put_failed rest step answer) h d e f = absurd (f refl)

  -- it stops before a checkpoint is left
  stops : (log : List Event) (line : List ℕ) (status : ℕ) → Stops (Some files) file node from log line status → IsHeard input log → status ≢ 0 → status ≢ 4 → status ≢ 5 → status ≢ 6 → Ends words files input (said log) line files status
  stops log line status (Stops.not_run o) h d e f g =
      let run = run_words file node in
      Ends.not_run asked
      (ended run files files [] (run_is_no_segment file node) [] line status o (record { rest = []; are = refl; end = λ k. refl }) (Leaves.as_they_were refl (λ y w. d)) e f g) d
  stops log line status (Stops.unread_checkpoint k there) h d e f g = absurd (e refl)
  stops log line status (Stops.long_checkpoint {mem = m} k there long) h d e f g = Ends.long_checkpoint (asked_from m k) long
  stops log line status (Stops.checkpoint_refused {mem = m} {o = o} text cause k there gives refuses) h d e f g =
      let r = runs_of files file node o there in Ends.checkpoint_refused cause r.0 (asked_from m k) r.1 gives refuses
  stops log line status (Stops.traced {o = o} {memory = memory} {s = s} begins traced) h d e f g = trace_stopped o memory s log line status begins traced h d e f
  stops log line status (Stops.line_failed told b rest r) h d e f g = absurd (f refl)

  -- all lines were answered
  saves : (o : Obc) (memory : Memory) (s : System) (log : List Event) (text : List ℕ) → Begins (Some files) file node o from memory s → IsAnswered s log → IsHeard input log →
      IsCheckpointOf o node (memory_after o node memory log) text → Ends words files input (said log) [] (finmap.insert files out text) 0
  saves o memory s log text begins a h is =
      let start = starts_of files file node o from memory s begins in
      Ends.saved start.0 asked start.1 (whole_trace input log h s a.end a.answer a.good)
      (subst (λ z. IsCheckpointOf o node (memory_past o node memory (lines_of true z)) text) (all_heard input log h a.end) is)

  segment_ended : (left : Files) (log : List Event) (line : List ℕ) (status : ℕ) → SegmentRun (Some files) (Some left) file node from out log line status → IsHeard input log →
      status ≢ 4 → status ≢ 5 → status ≢ 6 → Ends words files input (said log) line left status
  segment_ended left log line status (SegmentRun.stopped r fails same) h e f g =
      subst (λ z. Ends words files input (said log) line z status) (sym (some_same left files same)) (stops log line status r h fails e f g)
  segment_ended left log line status (SegmentRun.written {o = o} {memory = memory} {s = s} {text = text} begins traced is (WritesText.whole same)) h e f g =
      let z = finmap.insert files out text in
      subst (λ y. Ends words files input (said log) [] y 0) (sym (some_same left z same)) (saves o memory s log text begins (answered s log [] 0 traced refl) h is)
  segment_ended left log line status (SegmentRun.written begins traced is (WritesText.part why b c)) h e f g = absurd (elim why [ inl k ↦ f k | inr k ↦ g k ])

module _ (words : List (List ℕ)) (files left : Files) (input : List ℕ) where
  -- the call ends so, where it is not for want of memory
  call_ended : (log : List Event) (line : List ℕ) (status : ℕ) → IsHeard input log → CallOutcome words (Some files) (Some left) log line status → Leaves words (Some files) (Some left) status →
      status ≢ 4 → status ≢ 5 → status ≢ 6 → Ends words files input (said log) line left status
  call_ended log line status h CallOutcome.no_memory leaves e f g = absurd (g refl)
  call_ended log line status h (CallOutcome.command none o) leaves e f g = Ends.does (ended words files left input none log line status o h leaves e f g)
  call_ended log line status h (CallOutcome.segment s) leaves e f g = segment_ended words files input s.file s.node s.from s.out s.asked left log line status s.ran h e f g

  -- the numbers of a status that is told
  told_status : (log : List Event) (line : List ℕ) (status : ℕ) → IsHeard input log → CallOutcome words (Some files) (Some left) log line status → Leaves words (Some files) (Some left) status →
      status ≢ 4 → status ≢ 5 → Ends words files input (said log) line left status
  told_status log line status h o leaves e f = elim (eqb_tells status 6) [
    | inl k ↦ subst (λ n. Ends words files input (said log) line left n) (sym k.1) Ends.lacking
    | inr k ↦ call_ended log line status h o leaves e f k.1
  ]

-- ---- what objects in memory tell

same_said : (log : List Event) → said_bytes log ≡ said log
same_said [] = refl
same_said (Asked ∷ log) = same_said log
same_said (Heard b ∷ log) = same_said log
same_said (Ended ∷ log) = same_said log
same_said (Said b ∷ log) = ap (λ z. b ∷ z) (same_said log)

module _ (words : List (List ℕ)) (files left : Files) (input : List ℕ) where
  -- a call in which no call of the outside failed
  in_memory : (events : List Event) (rest took : List ℕ) (status : ℕ) → Happened (Some []) (Some events) (Some input) (Some rest) (Some []) (Some took) (λ log line. CallOutcome words (Some files) (Some left) log line status) →
      Leaves words (Some files) (Some left) status → status ≢ 4 → status ≢ 5 → Ends words files input (said_bytes events) took left status
  in_memory events rest took status o leaves e f =
      let log = o.0 in
      let line = o.1 in
      let events_are : events ≡ log = some_same events log o.2 in
      let took_is : took ≡ line = some_same took line o.4 in
      let h : IsHeard input log = record { rest = rest; are = some_same input (heard log ++ rest) o.3.0; end = o.3.1 } in
      subst (λ z. Ends words files input z took left status) (sym (ap said_bytes events_are ∙ same_said log))
      (subst (λ z. Ends words files input (said log) z left status) (sym took_is) (told_status words files left input log line status h o.5 leaves e f))

  -- what is answered then: what the objects took that were new
  pub told_answer : (none events : List Event) (given rest nothing took : List ℕ) (status : ℕ) → none ≡ [] → given ≡ input → nothing ≡ [] →
      Happened (Some none) (Some events) (Some given) (Some rest) (Some nothing) (Some took) (λ log line. CallOutcome words (Some files) (Some left) log line status) →
      Leaves words (Some files) (Some left) status → status ≢ 4 → status ≢ 5 → (bytes line : List ℕ) (number : ℕ) → bytes ≡ said_bytes events → line ≡ took → number ≡ status →
      Ends words files input bytes line left number
  told_answer none events given rest nothing took status p q r o leaves e f bytes line number u v w =
      let done = λ (a : List Event) (b c : List ℕ). Happened (Some a) (Some events) (Some b) (Some rest) (Some c) (Some took) (λ log told. CallOutcome words (Some files) (Some left) log told status) in
      let new : done [] input [] = subst (λ a. done a input []) p (subst (λ b. done none b []) q (subst (λ c. done none given c) r o)) in
      subst (λ z. Ends words files input z line left number) (sym u)
      (subst (λ z. Ends words files input (said_bytes events) z left number) (sym v)
      (subst (λ z. Ends words files input (said_bytes events) took left z) (sym w) (in_memory events rest took status new leaves e f)))

  -- what is answered where a read or a take failed
  pub unread_answer : (status : ℕ) → status ≡ 4 → Leaves words (Some files) (Some left) status → (why : Status) → (why ≡ NoMemory) ⊎ ((why ≡ ReadFailed) × LacksFile words left) →
      (bytes line : List ℕ) (number : ℕ) → bytes ≡ [] → line ≡ [] → number ≡ code_of why → Ends words files input bytes line left number
  unread_answer status e leaves why (inl m) bytes line number p q r = subst (λ z. Ends words files input bytes line left z) (sym (r ∙ ap code_of m)) Ends.lacking
  unread_answer status e leaves why (inr k) bytes line number p q r =
      let lacks = k.1 in
      let same = untouched words files left status leaves (λ k. omega (arith, e, k)) (λ k. omega (arith, e, k)) (inl (λ k. omega (arith, e, k))) in
      subst (λ z. Ends words files input z line left number) (sym p)
      (subst (λ z. Ends words files input [] z left number) (sym q)
      (subst (λ z. Ends words files input [] [] left z) (sym (r ∙ ap code_of k.0))
      (Ends.does (at_left words files left input files [] [] 4 same (Does.absent (lacks.0, lacks.1, subst (λ z. finmap.get z lacks.0 ≡ None) same lacks.2))))))

  -- what is answered for want of memory
  pub lacking_answer : (bytes line : List ℕ) (number : ℕ) → number ≡ 6 → Ends words files input bytes line left number
  lacking_answer bytes line number e = subst (λ z. Ends words files input bytes line left z) (sym e) Ends.lacking

-- ---- files that are not there

pub lacks_of : (words : List (List ℕ)) (files : Files) (command : Command) → Spells words command → finmap.get files (file_of command) ≡ None → LacksFile words files
lacks_of words files command spells none = (file_of command, over_of words command spells, none)

pub lacks_cert : (words : List (List ℕ)) (files : Files) (source node cert : List ℕ) → IsVerifyOf words source node cert → finmap.get files cert ≡ None → LacksFile words files
lacks_cert words files source node cert w none = (cert, IsOver.a_certificate w, none)

pub lacks_source : (words : List (List ℕ)) (files : Files) (s : Segment) → SpellsSegment words s → finmap.get files s.file.now ≡ None → LacksFile words files
lacks_source words files s w none = (s.file.now, IsOver.a_segment w, none)

pub lacks_checkpoint : (words : List (List ℕ)) (files : Files) (s : Segment) (mem : Bor (List ℕ)) → s.from ≡ Some mem → SpellsSegment words s → finmap.get files mem.now ≡ None → LacksFile words files
lacks_checkpoint words files s mem e w none = (mem.now, IsOver.a_checkpoint (subst (λ from. IsSegmentOf words s.file.now s.node.now (option_copied from) s.out.now) e w), none)
