-- A machine that is there, on an input whose lines are good, is run to the end of it where nothing fails and there is memory.
use Rattle.std.proofs.Common.{◌≡◌, ℕ, ◌⊎◌, inl, inr, Bool, true, false, List, [], ◌∷◌, ◌++◌, length, None, Some, refl, sym, ap, subst, ◌∙◌, arith}
use Rattle.std.proofs.lemmas.List.{append-nil}
use Rattle.std.specs.Prelude.{codes, Option}
use Rattle.hp_base.specs.Kinds.{KindData}
use Rattle.hp_base.specs.declared.span.Span.{Span}
use Rattle.std.specs.FinMap as map
use Rattle.hp_io.specs.Files.{Files, Holds}
use Rattle.hp_io.specs.declared.console.Event.{Event}
use Rattle.hp_exec.specs.Answers.{IsPassed}
use Rattle.hp_exec.specs.Bounds.{longest_chain, instance_count}
use Rattle.hp_obc.specs.Form.{machine_named}
use Rattle.hp_obc.specs.Machines.{Obc}
use Rattle.hp_base.specs.declared.limit.Limit.{Limit}
use Rattle.hp_obctext.specs.Answers.{IsTextOf, BreaksForm}
use Rattle.hp_obctext.specs.Files.{File}
use Rattle.hp_obctext.specs.Lexing.{words as text_words}
use Rattle.hp_obctext.specs.Outcomes.{Words}
use Rattle.hp_obctext.specs.Refusals.{SpellFile, IsDead, IsRefused}
use Rattle.hp_obctext.proofs.Answering.{same_machines, keeps_all}
use Rattle.hp_driver.specs.Command.{IsExecOf, IsOverContract, ReadsSource, IsOver}
use Rattle.hp_driver.specs.Lines.{lines_of}
use Rattle.hp_driver.specs.GoodCalls.{IsGood}
use Rattle.hp_driver.specs.Log.{heard, has_ended, HeardFrom}
use Rattle.hp_driver.specs.Outcome.{Outcome, AreMachines, IsMachine, IsAskedFor}
use Rattle.hp_driver.specs.Systems.{System, of_machine, inputs_of}
use Rattle.hp_driver.specs.Values.{first_bad}
use Rattle.hp_driver.specs.declared.trace_limits.BadLine.{BadLine}
use Rattle.hp_driver.proofs.GoodLines.{good_so_far}
use Rattle.hp_driver.proofs.WordLaws.{past_exec, run_exec, same_words, exec_source, exec_contract, tell_exec, running_source, either_source, sweep_exec}

-- ---- texts

pub same_text : (held : Files) (file x text u : List ℕ) → x ≡ file → Holds held file text → Holds held x u → u ≡ text
same_text held file x text u e h k = let both : Some u ≡ Some text = sym k ∙ ap (map.get held) e ∙ h in cc

alive : (us front rest : Words) (f : File) → us ≡ front ++ rest → SpellFile us f → IsDead front rest → ⊥
alive us front [] f e s dead = dead f (subst (λ z. SpellFile z f) (e ∙ append-nil front) s)
alive us front (w ∷ behind) f e s dead =
    dead (record { more = behind; file_is = f; whole = subst (λ z. SpellFile z f) (e ∙ one_more front) s })
  where
    one_more : (xs : Words) → xs ++ (w ∷ behind) ≡ (xs ++ w ∷ []) ++ behind
    one_more [] = refl
    one_more (x ∷ xs) = ap (λ z. x ∷ z) (one_more xs)

-- a text of machines is not refused
not_refused : (text : List ℕ) (o : Obc) (at : Span) → IsTextOf text o → IsRefused text at → ⊥
not_refused text o at t r = alive (text_words text) r.front r.rest t.file_is r.split t.spelled r.dead

-- ---- lines

-- no line of what was heard has a fault, where none of all of the input has
pub no_bad_line : (kinds : List KindData) (ended : Bool) (bytes more : List ℕ) (bad_line : BadLine) → (ended ≡ true → more ≡ []) → first_bad kinds 1 (lines_of true (bytes ++ more)) ≡ None →
    first_bad kinds 1 (lines_of ended bytes) ≡ Some bad_line → ⊥
no_bad_line kinds true bytes more bad_line h good e =
    let all : first_bad kinds 1 (lines_of true bytes) ≡ None = ap (λ z. first_bad kinds 1 (lines_of true z)) (sym (append-nil bytes) ∙ ap (λ z. bytes ++ z) (sym (h refl))) ∙ good in cc
no_bad_line kinds false bytes more bad_line h good e = let all = good_so_far kinds bytes more good in cc

module _ (words : List (List ℕ)) (held : Files) (file node : List ℕ) (o : Obc) (w : IsExecOf words file node) (ms : AreMachines (Some held) file o) (m : IsMachine node o) where
  -- the machines are those of the file
  same_obc : (x y : List ℕ) (p : Obc) → IsExecOf words x y → AreMachines (Some held) x p → p ≡ o
  same_obc x y p v others =
      let text : others.text ≡ ms.text = same_text held file x ms.text others.text (same_words (codes "exec") words file node x y w v).0 ms.held others.held in
      let read : IsTextOf ms.text p = subst (λ t. IsTextOf t p) text others.read in
      same_machines ms.text read.file_is p o read.spelled read.machines ms.read

  named_twice : (x y : List ℕ) (p : Obc) → IsExecOf words x y → AreMachines (Some held) x p → machine_named p.machines y ≡ None → ⊥
  named_twice x y p v others none =
      let same : (p ≡ o) × (y ≡ node) = (same_obc x y p v others, (same_words (codes "exec") words file node x y w v).1) in
      let found : machine_named p.machines y ≡ Some m.machine = (λ i. machine_named (same.0 i).machines (same.1 i)) ∙ m.named in cc

  not_passed : (x y : List ℕ) (p : Obc) (limit : Limit) → IsExecOf words x y → AreMachines (Some held) x p → IsPassed p y limit → ⊥
  not_passed x y p limit v others passed =
      let same : (p ≡ o) × (y ≡ node) = (same_obc x y p v others, (same_words (codes "exec") words file node x y w v).1) in
      let chains : longest_chain p.machines y ≡ longest_chain o.machines node = λ i. longest_chain (same.0 i).machines (same.1 i) in
      let counts : instance_count p.machines y ≡ instance_count o.machines node = λ i. instance_count (same.0 i).machines (same.1 i) in
      let chain = m.chain in
      let count = m.count in
      elim passed [ inl a ↦ (let long = a.0 in omega (arith, long, chains, chain)) | inr a ↦ (let many = a.1 in omega (arith, many, counts, count)) ]

  system : (s : System) → IsAskedFor words (Some held) s → s ≡ of_machine o node
  system s (IsAskedFor.a_node {file = x} {node = y} n r compiled named found is) = absurd (run_exec words x y file node r w)
  system s (IsAskedFor.a_contract {file = x} {node = y} n r compiled named some found is) = absurd (tell_exec words x y file node r w)
  system s (IsAskedFor.no_contract {file = x} {node = y} n r compiled named none found is) = absurd (tell_exec words x y file node r w)
  system s (IsAskedFor.a_machine {file = x} {node = y} {o = p} v others found) = λ i. of_machine (same_obc x y p v others i) ((same_words (codes "exec") words file node x y w v).1 i)

  pub completes : (log : List Event) (line : List ℕ) (status : ℕ) (more : List ℕ) → Outcome words (Some held) log line status → (has_ended log ≡ true → more ≡ []) →
      first_bad (inputs_of (of_machine o node)) 1 (lines_of true (heard log ++ more)) ≡ None → (status ≡ 4 → ⊥) → (status ≡ 5 → ⊥) → (status ≡ 0) ⊎ (status ≡ 6)
  completes log line status more (Outcome.usage h) ended good f g = absurd (h.0 file (IsOver.machines w))
  completes log line status more (Outcome.unread h) ended good f g = absurd (f refl)
  completes log line status more Outcome.no_memory ended good f g = inr refl
  completes log line status more (Outcome.too_long {file = x} (ReadsSource.of_program over) long) ended good f g = absurd (exec_source words file node x w over)
  completes log line status more (Outcome.too_long {file = x} (ReadsSource.of_contract {node = y} k) long) ended good f g = absurd (exec_contract words file node x y w k)
  completes log line status more (Outcome.refused {file = x} text cause (ReadsSource.of_program over) gives causes none) ended good f g = absurd (exec_source words file node x w over)
  completes log line status more (Outcome.refused {file = x} text cause (ReadsSource.of_contract {node = y} k) gives causes none) ended good f g = absurd (exec_contract words file node x y w k)
  completes log line status more (Outcome.contract_refused {file = x} cause over source some differs refuses) ended good f g = absurd (exec_source words file node x w over)
  completes log line status more (Outcome.no_node_to_run {file = x} {name = y} asks source kept none) ended good f g = absurd (exec_source words file node x w (either_source words x y asks))
  completes log line status more (Outcome.chosen_too_large {file = x} {node = y} {name = z} limit compiled asks for passed) ended good f g =
      absurd (exec_source words file node x w (running_source words x y compiled.program asks))
  completes log line status more (Outcome.accepted print c source kept) ended good f g = inl refl
  completes log line status more (Outcome.accepted_in_part print out rest c source kept e) ended good f g = absurd (g refl)
  completes log line status more (Outcome.no_node {file = x} {name = y} k source none) ended good f g = absurd (exec_contract words file node x y w k)
  completes log line status more (Outcome.no_contract {file = x} {name = y} n k source named none) ended good f g = absurd (exec_contract words file node x y w k)
  completes log line status more (Outcome.no_verdict {file = x} {name = y} cause k c differs refuses) ended good f g = absurd (exec_contract words file node x y w k)
  completes log line status more (Outcome.long_proof {file = x} {name = y} p c has long) ended good f g = absurd (exec_contract words file node x y w (IsOverContract.to_prove p))
  completes log line status more (Outcome.proved {file = x} {name = y} p c proof) ended good f g = inl refl
  completes log line status more (Outcome.proof_not_written {file = x} {name = y} p c proof) ended good f g = absurd (g refl)
  completes log line status more (Outcome.unread_certificate {file = x} {name = y} v c has) ended good f g = absurd (f refl)
  completes log line status more (Outcome.long_certificate {file = x} {name = y} v c has long) ended good f g = absurd (exec_contract words file node x y w (IsOverContract.to_verify v))
  completes log line status more (Outcome.verified {file = x} {name = y} text p v c gives shows) ended good f g = inl refl
  completes log line status more (Outcome.verified_in_part {file = x} {name = y} text p out rest v c gives shows e) ended good f g = absurd (g refl)
  completes log line status more (Outcome.certificate_refused {file = x} {name = y} text cause v c gives differs refuses) ended good f g = absurd (exec_contract words file node x y w (IsOverContract.to_verify v))
  completes log line status more (Outcome.long_text {file = x} {node = y} v long) ended good f g =
      let text : long.0 ≡ ms.text = same_text held file x ms.text long.0 (same_words (codes "exec") words file node x y w v).0 ms.held long.1 in
      let within = ms.read.within in
      let longer = long.2 in
      let same : length long.0 ≡ length ms.text = ap length text in
      absurd (omega (arith, within, longer, same))
  completes log line status more (Outcome.no_text {file = x} {node = y} text at v gives r) ended good f g =
      let same = same_text held file x ms.text text (same_words (codes "exec") words file node x y w v).0 ms.held gives in
      absurd (not_refused ms.text o at ms.read (subst (λ t. IsRefused t at) same r))
  completes log line status more (Outcome.no_form {file = x} {node = y} text at v gives b) ended good f g =
      let same = same_text held file x ms.text text (same_words (codes "exec") words file node x y w v).0 ms.held gives in
      let t = ms.read in
      absurd (keeps_all ms.text t.file_is at t.spelled t.kept (subst (λ z. BreaksForm z at) same b))
  completes log line status more (Outcome.no_machine {file = x} {node = y} {o = p} v others none) ended good f g = absurd (named_twice x y p v others none)
  completes log line status more (Outcome.too_large {file = x} {node = y} {o = p} limit v others passed) ended good f g = absurd (not_passed x y p limit v others passed)
  completes log line status more (Outcome.compiled c compiled) ended good f g = inl refl
  completes log line status more (Outcome.not_written c compiled) ended good f g = absurd (g refl)
  completes log line status more (Outcome.past {file = x} {out = y} p r) ended good f g = absurd (past_exec words x y p file node w)
  completes log line status more (Outcome.swept {tasks = t} {instants = i} text s is) ended good f g = inl refl
  completes log line status more (Outcome.swept_in_part {tasks = t} {instants = i} text out rest s is e) ended good f g = absurd (g refl)
  completes log line status more (Outcome.not_swept {tasks = t} {instants = i} s why) ended good f g = absurd (sweep_exec words t i s file node w)
  completes log line status more (Outcome.done asked step has_end answer good_lines) ended good f g = inl refl
  completes log line status more (Outcome.bad_line {s = s} bad_line asked step answer e) ended good f g =
      absurd (no_bad_line (inputs_of (of_machine o node)) (has_ended log) (heard log) more bad_line ended good (ap (λ z. first_bad (inputs_of z) 1 (lines_of (has_ended log) (heard log))) (sym (system s asked)) ∙ e))
  completes log line status more (Outcome.take_failed asked step answer good_lines) ended good f g = absurd (f refl)
  completes log line status more (Outcome.put_failed rest asked step answer) ended good f g = absurd (g refl)
  completes log line status more (Outcome.line_failed told b rest r) ended good f g = absurd (g refl)

-- ---- a call

-- the input in two parts: what was heard, and what is left
good_by : (words : List (List ℕ)) (held : Files) (file node : List ℕ) (o : Obc) (input : List ℕ) (after : Option (List ℕ)) (log : List Event) (line : List ℕ) (status : ℕ) →
    IsExecOf words file node → AreMachines (Some held) file o → IsMachine node o → first_bad (inputs_of (of_machine o node)) 1 (lines_of true input) ≡ None → HeardFrom (Some input) after log →
    Outcome words (Some held) log line status → (status ≡ 4 → ⊥) → (status ≡ 5 → ⊥) → (status ≡ 0) ⊎ (status ≡ 6)
good_by words held file node o input None log line status w ms m good h r f g = absurd (let lost = h.0 in cc)
good_by words held file node o input (Some rest) log line status w ms m good h r f g =
    let split : input ≡ heard log ++ rest = (let lost = h.0 in cc) in
    completes words held file node o w ms m log line status rest r h.1 (subst (λ z. first_bad (inputs_of (of_machine o node)) 1 (lines_of true z) ≡ None) split good) f g

pub good_call : (words : List (List ℕ)) (files : Option Files) (left after : Option (List ℕ)) (log : List Event) (line : List ℕ) (status : ℕ) → IsGood words files left → HeardFrom left after log →
    Outcome words files log line status → (status ≡ 4 → ⊥) → (status ≡ 5 → ⊥) → (status ≡ 0) ⊎ (status ≡ 6)
good_call words files left after log line status good h r f g =
    good_by words good.held good.file good.node good.o good.input after log line status good.asked
    (subst (λ z. AreMachines z good.file good.o) good.folder good.machines) good.machine good.lines
    (subst (λ z. HeardFrom z after log) good.console h) (subst (λ z. Outcome words z log line status) good.folder r) f g
