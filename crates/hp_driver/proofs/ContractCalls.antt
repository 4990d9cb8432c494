-- A certificate of a contract that can be decided is written and verified, where nothing fails and there is memory.
use Rattle.std.proofs.Common.{◌≡◌, ◌≢◌, ℕ, ◌⊎◌, inl, inr, List, length, None, Some, refl, sym, ap, subst, ◌∙◌, arith}
use Rattle.std.specs.Prelude.{codes, Option, IsTrue, is_some}
use Rattle.hp_base.specs.Limits.{most}
use Rattle.hp_base.specs.declared.limit.What.TheVariants.{Text}
use Rattle.hp_abstract.specs.Machines.{IsMachineOf}
use Rattle.hp_boolx.specs.Machine.{Machine}
use Rattle.hp_cert.specs.declared.certtext.error.CertErr.{CertErr}
use Rattle.hp_cert.specs.declared.certtext.error.CertErr.TheVariants as certificate
use Rattle.hp_compile.specs.Arranged.{IsArrangeable, IsArranged}
use Rattle.hp_compile.specs.Judged.{IsJudged}
use Rattle.law_decided.specs.Acceptable.{IsDecidable}
use Rattle.law_decided.specs.Outcomes.{RefusesInGame}
use Rattle.hp_io.specs.Files.{Files, Holds}
use Rattle.hp_io.specs.declared.console.Event.{Event}
use Rattle.hp_obc.specs.Machines.{Obc}
use Rattle.hp_tree.specs.Meaning.{node_among}
use Rattle.hp_tree.specs.Programs.{Contract, Node}
use Rattle.hp_tree.specs.declared.program.Item.{Item}
use Rattle.hp_verdicts.specs.Decided.{IsLong, is_wide_contract}
use Rattle.hp_verdicts.specs.Verified.{HasMachine, Shows, RefusesCert}
use Rattle.hp_verdicts.specs.declared.error.ContractErr.{ContractErr}
use Rattle.hp_verdicts.specs.declared.error.ContractErr.TheVariants as contract
use Rattle.hp_verdicts.proofs.ShownLaws.{node_shown}
use Rattle.hp_driver.specs.Command.{IsProveOf, IsVerifyOf, IsOverContract, IsOverSource, ReadsSource, IsOver}
use Rattle.hp_driver.specs.GoodCalls.{HasDecidable, IsProvable, IsVerifiable, IsGoodProve, IsGoodVerify}
use Rattle.hp_driver.specs.Outcome.{Outcome, Gives, GivesMoreThan, IsHeld, HasContract, IsAskedFor}
use Rattle.hp_driver.specs.Systems.{System}
use Rattle.hp_driver.proofs.Completeness.{same_text}
use Rattle.hp_driver.proofs.GoodContracts.{has_verdict}
use Rattle.hp_driver.proofs.SourceCalls.{same_arranged, not_long, has_program}
use Rattle.hp_driver.proofs.WordLaws.{past_contract, exec_contract, source_contract, prove_contract, verify_contract, prove_verify, same_four, running_source, either_source, sweep_contract}

same_some : (n m : Node) → Some n ≡ Some m → n ≡ m
same_some n m e = cc

-- a node has a contract, or none
some_or_none : (o : Option Contract) → IsTrue (is_some o) → o ≡ None → ⊥
some_or_none None some none = cc
some_or_none (Some c) some none = cc

-- ---- a call over the contract of a node that can be decided

module _ (words : List (List ℕ)) (held : Files) (file name text : List ℕ) (program : List Item) (over : IsOverContract words file name)
    (only : (x y : List ℕ) → IsOverContract words x y → (x ≡ file) × (y ≡ name)) (holds : Holds held file text) (judged : IsJudged text program) (arrangeable : IsArrangeable program) where
  arranged_so : (x y : List ℕ) (p : List Item) → IsOverContract words x y → (h : IsHeld (Some held) x p) → IsArranged program h.clocked h.ranks
  arranged_so x y p k h = same_arranged held file text program holds judged x p (only x y k).0 h

  not_system : (s : System) → IsAskedFor words (Some held) s → ⊥
  not_system s (IsAskedFor.a_node {file = x} {node = y} n r compiled named found is) = source_contract words x file name (IsOverSource.to_run r) over
  not_system s (IsAskedFor.a_machine {file = x} {node = y} v others found) = exec_contract words x y file name v over
  not_system s (IsAskedFor.a_contract {file = x} {node = y} n r compiled named some found is) = source_contract words x file name (IsOverSource.to_tell r) over
  not_system s (IsAskedFor.no_contract {file = x} {node = y} n r compiled named none found is) = source_contract words x file name (IsOverSource.to_tell r) over

  module _ (has : (clocked : List Item) (ranks : List (List ℕ)) → IsArranged program clocked ranks → HasDecidable clocked name) where
    node_there : (x y : List ℕ) (p : List Item) → IsOverContract words x y → (h : IsHeld (Some held) x p) → node_among h.clocked y ≡ None → ⊥
    node_there x y p k h none =
        let found = has h.clocked h.ranks (arranged_so x y p k h) in
        let both : Some found.node ≡ None = sym found.named ∙ ap (node_among h.clocked) (sym (only x y k).1) ∙ none in cc

    -- the node is the one that has the contract
    pub same_node : (x y : List ℕ) (p : List Item) (n : Node) → IsOverContract words x y → (h : IsHeld (Some held) x p) → node_among h.clocked y ≡ Some n → (arranged : IsArranged program h.clocked h.ranks) →
        (has h.clocked h.ranks arranged).node ≡ n
    same_node x y p n k h named arranged =
        let found = has h.clocked h.ranks arranged in
        same_some found.node n (sym found.named ∙ ap (node_among h.clocked) (sym (only x y k).1) ∙ named)

    contract_there : (x y : List ℕ) (p : List Item) (n : Node) → IsOverContract words x y → (h : IsHeld (Some held) x p) → node_among h.clocked y ≡ Some n → n.contract ≡ None → ⊥
    contract_there x y p n k h named none =
        let arranged = arranged_so x y p k h in
        let found = has h.clocked h.ranks arranged in
        some_or_none n.contract (subst (λ (m : Node). IsTrue (is_some m.contract)) (same_node x y p n k h named arranged) found.some) none

    machine_there : (x y : List ℕ) (cause : ContractErr) → IsOverContract words x y → (c : HasContract (Some held) x y) → cause ≢ contract.OutOfMemory → RefusesInGame c.held.clocked c.node cause → ⊥
    machine_there x y cause k c differs refuses =
        let h = c.held in
        let arranged = arranged_so x y c.program k h in
        let found = has h.clocked h.ranks arranged in
        has_verdict h.clocked c.node cause (subst (λ n. IsDecidable h.clocked n) (same_node x y c.program c.node k h c.named arranged) found.decidable) refuses differs

    -- the call succeeds but for want of memory, where its certificate is not too long and not refused
    pub decides : (log : List Event) (line : List ℕ) (status : ℕ) →
        ((x y z : List ℕ) → IsProveOf words x y z → (c : HasContract (Some held) x y) → (m : HasMachine c.held.clocked c.node) → IsLong m.machine (is_wide_contract c.node.contract) → ⊥) →
        ((x y z : List ℕ) → IsVerifyOf words x y z → HasContract (Some held) x y → GivesMoreThan (Some held) z (most Text) → ⊥) →
        ((x y z other : List ℕ) (cause : CertErr) → IsVerifyOf words x y z → (c : HasContract (Some held) x y) → Gives (Some held) z other → cause ≢ certificate.OutOfMemory → RefusesCert c.held.clocked c.node other cause → ⊥) →
        Outcome words (Some held) log line status → (status ≡ 4 → ⊥) → (status ≡ 5 → ⊥) → (status ≡ 0) ⊎ (status ≡ 6)
    decides log line status short within shown (Outcome.usage h) f g = absurd (h.0 file (IsOver.a_source (ReadsSource.of_contract over)))
    decides log line status short within shown (Outcome.unread h) f g = absurd (f refl)
    decides log line status short within shown Outcome.no_memory f g = inr refl
    decides log line status short within shown (Outcome.too_long {file = x} (ReadsSource.of_program reads) long) f g = absurd (source_contract words x file name reads over)
    decides log line status short within shown (Outcome.too_long {file = x} (ReadsSource.of_contract {node = y} k) long) f g = absurd (not_long held file text program holds judged x (only x y k).0 long)
    decides log line status short within shown (Outcome.refused {file = x} other cause (ReadsSource.of_program reads) gives causes none) f g = absurd (source_contract words x file name reads over)
    decides log line status short within shown (Outcome.refused {file = x} other cause (ReadsSource.of_contract {node = y} k) gives causes none) f g =
        absurd (has_program held file text program holds judged x other (only x y k).0 gives arrangeable none)
    decides log line status short within shown (Outcome.contract_refused {file = x} cause reads source some differs refuses) f g = absurd (source_contract words x file name reads over)
    decides log line status short within shown (Outcome.no_node_to_run {file = x} {name = y} asks source kept none) f g = absurd (source_contract words x file name (either_source words x y asks) over)
    decides log line status short within shown (Outcome.chosen_too_large {file = x} {node = y} {name = z} limit compiled asks for passed) f g =
        absurd (source_contract words x file name (running_source words x y compiled.program asks) over)
    decides log line status short within shown (Outcome.accepted print c source kept) f g = inl refl
    decides log line status short within shown (Outcome.accepted_in_part print out rest c source kept e) f g = absurd (g refl)
    decides log line status short within shown (Outcome.no_node {file = x} {name = y} {program = p} k source none) f g = absurd (node_there x y p k source none)
    decides log line status short within shown (Outcome.no_contract {file = x} {name = y} {program = p} n k source named none) f g = absurd (contract_there x y p n k source named none)
    decides log line status short within shown (Outcome.no_verdict {file = x} {name = y} cause k c differs refuses) f g = absurd (machine_there x y cause k c differs refuses)
    decides log line status short within shown (Outcome.long_proof {file = x} {name = y} {cert = z} p c m long) f g = absurd (short x y z p c m long)
    decides log line status short within shown (Outcome.proved p c proof) f g = inl refl
    decides log line status short within shown (Outcome.proof_not_written p c proof) f g = absurd (g refl)
    decides log line status short within shown (Outcome.unread_certificate v c m) f g = absurd (f refl)
    decides log line status short within shown (Outcome.long_certificate {file = x} {name = y} {cert = z} v c m long) f g = absurd (within x y z v c long)
    decides log line status short within shown (Outcome.verified other p v c gives shows) f g = inl refl
    decides log line status short within shown (Outcome.verified_in_part other p out rest v c gives shows e) f g = absurd (g refl)
    decides log line status short within shown (Outcome.certificate_refused {file = x} {name = y} {cert = z} other cause v c gives differs refuses) f g = absurd (shown x y z other cause v c gives differs refuses)
    decides log line status short within shown (Outcome.long_text {file = x} {node = y} v long) f g = absurd (exec_contract words x y file name v over)
    decides log line status short within shown (Outcome.no_text {file = x} {node = y} other at v gives r) f g = absurd (exec_contract words x y file name v over)
    decides log line status short within shown (Outcome.no_form {file = x} {node = y} other at v gives b) f g = absurd (exec_contract words x y file name v over)
    decides log line status short within shown (Outcome.no_machine {file = x} {node = y} v others none) f g = absurd (exec_contract words x y file name v over)
    decides log line status short within shown (Outcome.too_large {file = x} {node = y} limit v others passed) f g = absurd (exec_contract words x y file name v over)
    decides log line status short within shown (Outcome.compiled c compiled) f g = inl refl
    decides log line status short within shown (Outcome.not_written c compiled) f g = absurd (g refl)
    decides log line status short within shown (Outcome.past {file = x} {out = y} p r) f g = absurd (past_contract words x y p file name over)
    decides log line status short within shown (Outcome.swept {tasks = t} {instants = i} other s is) f g = inl refl
    decides log line status short within shown (Outcome.swept_in_part {tasks = t} {instants = i} other out rest s is e) f g = absurd (g refl)
    decides log line status short within shown (Outcome.not_swept {tasks = t} {instants = i} s why) f g = absurd (sweep_contract words t i s file name over)
    decides log line status short within shown (Outcome.done asked step has_end answer good_lines) f g = inl refl
    decides log line status short within shown (Outcome.bad_line {s = s} bad_line asked step answer e) f g = absurd (not_system s asked)
    decides log line status short within shown (Outcome.take_failed asked step answer good_lines) f g = absurd (f refl)
    decides log line status short within shown (Outcome.put_failed rest asked step answer) f g = absurd (g refl)
    decides log line status short within shown (Outcome.line_failed told b rest r) f g = absurd (g refl)

-- ---- a certificate is written

module _ (words : List (List ℕ)) (held : Files) (file name cert text : List ℕ) (program : List Item) (w : IsProveOf words file name cert) (holds : Holds held file text) (judged : IsJudged text program)
    (arrangeable : IsArrangeable program) (provable : (clocked : List Item) (ranks : List (List ℕ)) → IsArranged program clocked ranks → IsProvable clocked name) where
  only_prove : (x y : List ℕ) → IsOverContract words x y → (x ≡ file) × (y ≡ name)
  only_prove x y k = prove_contract words file name cert x y w k

  abbrev decidable_there : (clocked : List Item) (ranks : List (List ℕ)) → IsArranged program clocked ranks → HasDecidable clocked name
  decidable_there clocked ranks arranged = (provable clocked ranks arranged).there

  short : (x y z : List ℕ) → IsProveOf words x y z → (c : HasContract (Some held) x y) → (m : HasMachine c.held.clocked c.node) → IsLong m.machine (is_wide_contract c.node.contract) → ⊥
  short x y z p c m long =
      let h = c.held in
      let arranged = same_arranged held file text program holds judged x c.program (only_prove x y (IsOverContract.to_prove p)).0 h in
      let found = provable h.clocked h.ranks arranged in
      let same = same_node words held file name text program (IsOverContract.to_prove w) only_prove holds judged arrangeable decidable_there x y c.program c.node (IsOverContract.to_prove p) h c.named arranged in
      let Short : Node → Type 0 = λ n. (a : Machine) → IsMachineOf h.clocked n a → IsLong a (is_wide_contract n.contract) → ⊥ in
      subst Short same found.short m.machine m.is_machine long

  pub proves : (log : List Event) (line : List ℕ) (status : ℕ) → Outcome words (Some held) log line status → (status ≡ 4 → ⊥) → (status ≡ 5 → ⊥) → (status ≡ 0) ⊎ (status ≡ 6)
  proves log line status r f g =
      decides words held file name text program (IsOverContract.to_prove w) only_prove holds judged arrangeable decidable_there log line status
      short (λ x y z v c long. prove_verify words file name cert x y z w v) (λ x y z other cause v c gives differs refuses. prove_verify words file name cert x y z w v) r f g

pub good_prove : (words : List (List ℕ)) (files : Option Files) (log : List Event) (line : List ℕ) (status : ℕ) → IsGoodProve words files →
    Outcome words files log line status → (status ≡ 4 → ⊥) → (status ≡ 5 → ⊥) → (status ≡ 0) ⊎ (status ≡ 6)
good_prove words files log line status good r f g =
    let source = good.source in
    proves words source.held good.file good.node good.cert source.text good.program good.asked (subst (λ z. Gives z good.file source.text) source.folder source.gives) source.judged source.arrangeable good.provable
    log line status (subst (λ z. Outcome words z log line status) source.folder r) f g

-- ---- a certificate is verified

module _ (words : List (List ℕ)) (held : Files) (file name cert text : List ℕ) (program : List Item) (w : IsVerifyOf words file name cert) (holds : Holds held file text) (judged : IsJudged text program)
    (arrangeable : IsArrangeable program) (bytes : List ℕ) (told : Holds held cert bytes) (verifiable : (clocked : List Item) (ranks : List (List ℕ)) → IsArranged program clocked ranks → IsVerifiable clocked name bytes) where
  only_verify : (x y : List ℕ) → IsOverContract words x y → (x ≡ file) × (y ≡ name)
  only_verify x y k = verify_contract words file name cert x y w k

  abbrev verifiable_there : (clocked : List Item) (ranks : List (List ℕ)) → IsArranged program clocked ranks → HasDecidable clocked name
  verifiable_there clocked ranks arranged = (verifiable clocked ranks arranged).there

  same_bytes : (x y z other : List ℕ) → IsVerifyOf words x y z → Holds held z other → other ≡ bytes
  same_bytes x y z other v gives = same_text held cert z bytes other (same_four (codes "verify") words file name cert x y z w v).2 told gives

  within : (x y z : List ℕ) → IsVerifyOf words x y z → HasContract (Some held) x y → GivesMoreThan (Some held) z (most Text) → ⊥
  within x y z v c long =
      let h = c.held in
      let arranged = same_arranged held file text program holds judged x c.program (only_verify x y (IsOverContract.to_verify v)).0 h in
      let found = verifiable h.clocked h.ranks arranged in
      let few = found.shown.checked.within in
      let many = long.2 in
      let same : length long.0 ≡ length bytes = ap length (same_bytes x y z long.0 v long.1) in
      omega (arith, few, many, same)

  shown : (x y z other : List ℕ) (cause : CertErr) → IsVerifyOf words x y z → (c : HasContract (Some held) x y) → Gives (Some held) z other → cause ≢ certificate.OutOfMemory → RefusesCert c.held.clocked c.node other cause → ⊥
  shown x y z other cause v c gives differs refuses =
      let h = c.held in
      let arranged = same_arranged held file text program holds judged x c.program (only_verify x y (IsOverContract.to_verify v)).0 h in
      let found = verifiable h.clocked h.ranks arranged in
      let same = same_node words held file name text program (IsOverContract.to_verify w) only_verify holds judged arrangeable verifiable_there x y c.program c.node (IsOverContract.to_verify v) h c.named arranged in
      let shows = subst (λ n. Shows h.clocked n bytes found.verdict) same found.shown in
      differs (node_shown h.clocked c.node bytes found.verdict cause shows (subst (λ t. RefusesCert h.clocked c.node t cause) (same_bytes x y z other v gives) refuses))

  pub verifies : (log : List Event) (line : List ℕ) (status : ℕ) → Outcome words (Some held) log line status → (status ≡ 4 → ⊥) → (status ≡ 5 → ⊥) → (status ≡ 0) ⊎ (status ≡ 6)
  verifies log line status r f g =
      decides words held file name text program (IsOverContract.to_verify w) only_verify holds judged arrangeable verifiable_there log line status
      (λ x y z p c m long. prove_verify words x y z file name cert p w) within shown r f g

pub good_verify : (words : List (List ℕ)) (files : Option Files) (log : List Event) (line : List ℕ) (status : ℕ) → IsGoodVerify words files →
    Outcome words files log line status → (status ≡ 4 → ⊥) → (status ≡ 5 → ⊥) → (status ≡ 0) ⊎ (status ≡ 6)
good_verify words files log line status good r f g =
    let source = good.source in
    verifies words source.held good.file good.node good.cert source.text good.program good.asked (subst (λ z. Gives z good.file source.text) source.folder source.gives) source.judged source.arrangeable
    good.text (subst (λ z. Gives z good.cert good.text) source.folder good.gives) good.verifiable log line status (subst (λ z. Outcome words z log line status) source.folder r) f g
