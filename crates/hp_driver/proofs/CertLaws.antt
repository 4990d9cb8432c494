-- From what is found of the contract of a node, and of a certificate, to what the call did.
use Rattle.std.proofs.Common.{◌≡◌, ◌≢◌, ◌⊎◌, ◌<◌, ◌≤◌, ◌+◌, inl, inr, ℕ, suc, Bool, true, false, List, [], ◌∷◌, ◌++◌, length, drop, drop-cons, get_or, refl, sym, ap, subst, ◌∙◌, arith, if◌then◌else◌}
use Rattle.std.specs.Prelude.{Option, None, Some, is_some, IsTrue}
use Rattle.std.specs.Str.{bytes_eq}
use Rattle.std.proofs.lemmas.List.{drop_all}
use Rattle.hp_base.specs.Limits.{most}
use Rattle.hp_base.specs.declared.limit.What.TheVariants.{Text}
use Rattle.hp_abstract.specs.Machines.{IsMachineOf}
use Rattle.hp_boolx.specs.Machine.{Machine}
use Rattle.hp_cert.specs.declared.checking.Proved.{Proved}
use Rattle.hp_cert.specs.declared.certtext.error.CertErr.{CertErr}
use Rattle.hp_cert.specs.declared.certtext.error.CertErr.TheVariants as certificate
use Rattle.hp_compile.specs.Refusals.{Causes, IsRefused}
use Rattle.hp_compile.specs.declared.refusal.Refusal.{Refusal}
use Rattle.hp_compile.specs.declared.refusal.Refusal.TheVariants as refusal
use Rattle.hp_io.specs.Events.{put_events}
use Rattle.hp_io.specs.Files.{Files}
use Rattle.hp_io.specs.Told.{Grows}
use Rattle.hp_io.specs.declared.console.Event.{Event}
use Rattle.hp_tree.specs.Meaning.{node_among}
use Rattle.hp_tree.specs.Programs.{Node}
use Rattle.hp_tree.specs.declared.program.Item.{Item}
use Rattle.hp_tree.specs.declared.program.Item.TheVariants.{TypeItem, NodeItem}
use Rattle.law_decided.specs.Outcomes.{OutcomesLaw, IsProofInGame, ShowsInGame}
use Rattle.hp_verdicts.specs.Decided.{IsLong, IsProof, RefusesMachine, RefusesProof, is_wide_contract}
use Rattle.hp_verdicts.specs.Verified.{IsChecked, RefusesBy}
use Rattle.hp_verdicts.specs.declared.error.ContractErr.{ContractErr}
use Rattle.hp_verdicts.specs.declared.error.ContractErr.TheVariants as contract
use Rattle.hp_driver.specs.Command.{IsProveOf, IsVerifyOf, IsOverContract, ReadsSource, no_node_line, verdict_text}
use Rattle.hp_driver.specs.Diagnostics.{contract_line, certificate_line, certificate_status, no_contract_line, refusal_line, too_long_line}
use Rattle.hp_driver.specs.Follows.{Accepts, IsOrdered, TextOutcome, NodeOutcome, ContractOutcome, MachineOutcome, CertOutcome}
use Rattle.hp_driver.specs.Found.{node_in}
use Rattle.hp_driver.specs.Leaves.{Leaves}
use Rattle.hp_driver.specs.Leaving.{WritesText, TextLeaves, NodeLeaves, ContractLeaves}
use Rattle.hp_driver.specs.Outcome.{Outcome, GivesMoreThan, HasNoProgram, HasContract}
use Rattle.hp_driver.specs.Ran.{ReportsOrNot}
use Rattle.hp_driver.specs.Readings.{NodeHasMachine, TextHasMachine}
use Rattle.hp_driver.proofs.ContractLaws.{contract_told_by}
use Rattle.hp_driver.proofs.GameLaws.{are_said}
use Rattle.hp_driver.proofs.OutcomeLaws.{told_or_not}

-- ---- the node of a name

-- items in front of which the node of a name is looked for
pub none_in : (item : Item) (items : List Item) (f : List ℕ) → node_in item f ≡ None → node_among (item ∷ items) f ≡ node_among items f
none_in (TypeItem t) items f e = refl
none_in (NodeItem n) items f e = by (bytes_eq n.name f) e
  where
    by : (b : Bool) → (if b then Some n else None) ≡ None → (if b then Some n else node_among items f) ≡ node_among items f
    by true e = absurd cc
    by false e = refl

pub some_in : (item : Item) (items : List Item) (f : List ℕ) (found : Node) → node_in item f ≡ Some found → node_among (item ∷ items) f ≡ Some found
some_in (TypeItem t) items f found e = absurd cc
some_in (NodeItem n) items f found e = by (bytes_eq n.name f) e
  where
    by : (b : Bool) → (if b then Some n else None) ≡ Some found → (if b then Some n else node_among items f) ≡ Some found
    by true e = e
    by false e = absurd cc

-- items of which none is the one up to some place
module _ (items : List Item) (i : ℕ) (f : List ℕ) (so_far : node_among (drop i items) f ≡ node_among items f) where
  module _ (item : Item) (more : i < length items) (is : item ≡ get_or items i item) where
    split : drop i items ≡ item ∷ drop (suc i) items
    split = drop-cons items i item more ∙ ap (λ z. z ∷ drop (suc i) items) (sym is)

    pub next_named : node_in item f ≡ None → node_among (drop (i + 1) items) f ≡ node_among items f
    next_named none =
        let next : i + 1 ≡ suc i = omega arith in
        ap (λ n. node_among (drop n items) f) next ∙ sym (none_in item (drop (suc i) items) f none) ∙ ap (λ z. node_among z f) (sym split) ∙ so_far

    pub here_named : (found : Node) → node_in item f ≡ Some found → node_among items f ≡ Some found
    here_named found e = sym so_far ∙ ap (λ z. node_among z f) split ∙ some_in item (drop (suc i) items) f found e

  pub none_named : length items ≤ i → node_among items f ≡ None
  none_named past = sym so_far ∙ ap (λ z. node_among z f) (drop_all i items past)

-- ---- the text is refused

-- why it is, or that there is no memory
pub refusal_or : (text : List ℕ) (cause : Refusal) → IsRefused text cause → (cause ≡ refusal.OutOfMemory) ⊎ ((cause ≢ refusal.OutOfMemory) × Causes text cause)
refusal_or text refusal.OutOfMemory h = inl refl
refusal_or text (refusal.Limit place limit) h = inr (λ e. absurd cc, h)
refusal_or text (refusal.Lex span) h = inr (λ e. absurd cc, h)
refusal_or text (refusal.Parse span) h = inr (λ e. absurd cc, h)
refusal_or text (refusal.Name e) h = inr (λ e. absurd cc, h)
refusal_or text (refusal.Types e) h = inr (λ e. absurd cc, h)
refusal_or text (refusal.Expand e) h = inr (λ e. absurd cc, h)
refusal_or text (refusal.Clocks e) h = inr (λ e. absurd cc, h)
refusal_or text (refusal.Init e) h = inr (λ e. absurd cc, h)
refusal_or text (refusal.Cause e) h = inr (λ e. absurd cc, h)

module _ (files : Option Files) (Asked : List (List ℕ) → List ℕ → Type 0) (name : List ℕ) (asks : (words : List (List ℕ)) (file : List ℕ) → Asked words file → IsOverContract words file name) where
  pub text_refused : (text : List ℕ) (cause : Refusal) (before after : Option (List ℕ)) (result : ℕ) → IsRefused text cause → (cause ≢ refusal.OutOfMemory → HasNoProgram text) →
      ReportsOrNot before after (refusal_line cause) 1 result → (cause ≡ refusal.OutOfMemory → (result ≡ 6) × Grows before after []) →
      (told : List ℕ) × Grows before after told × TextOutcome files Asked text [] told result
  text_refused text cause before after result h none reports memory = by (refusal_or text cause h)
    where
      no_memory : TextOutcome files Asked text [] [] 6
      no_memory words file w gives = Outcome.no_memory

      failed : (line : List ℕ) (b : ℕ) (rest : List ℕ) (status : ℕ) → TextOutcome files Asked text [] (line ++ b ∷ rest) status → TextOutcome files Asked text [] line 5
      failed line b rest status f words file w gives = Outcome.line_failed line b rest (f words file w gives)

      refused : cause ≢ refusal.OutOfMemory → Causes text cause → TextOutcome files Asked text [] (refusal_line cause) 1
      refused differs causes words file w gives = Outcome.refused text cause (ReadsSource.of_contract (asks words file w)) gives causes (none differs)

      by : (cause ≡ refusal.OutOfMemory) ⊎ ((cause ≢ refusal.OutOfMemory) × Causes text cause) → (told : List ℕ) × Grows before after told × TextOutcome files Asked text [] told result
      by (inl e) = let found = memory e in ([], found.1, subst (TextOutcome files Asked text [] []) (sym found.0) no_memory)
      by (inr p) = told_or_not (TextOutcome files Asked text []) failed no_memory before after (refusal_line cause) 1 result reports (refused p.0 p.1)

  -- ---- the program is that of the text

  pub of_text : (text : List ℕ) (ordered : List Item) (log : List Event) (line : List ℕ) (status : ℕ) → IsOrdered text ordered → NodeOutcome files Asked ordered log line status → TextOutcome files Asked text log line status
  of_text text ordered log line status o f words file w gives =
      f words file o.program (record { text = text; held = gives; judged = o.judged; only = o.only; clocked = ordered; ranks = o.ranks; arranged = o.arranged }) refl w

  -- ---- the program has no such node, or it has no contract

  module _ (ordered : List Item) (before after : Option (List ℕ)) (result : ℕ) where
    node_memory : NodeOutcome files Asked ordered [] [] 6
    node_memory words file program held same w = Outcome.no_memory

    node_failed : (line : List ℕ) (b : ℕ) (rest : List ℕ) (status : ℕ) → NodeOutcome files Asked ordered [] (line ++ b ∷ rest) status → NodeOutcome files Asked ordered [] line 5
    node_failed line b rest status f words file program held same w = Outcome.line_failed line b rest (f words file program held same w)

    pub no_node_told : node_among ordered name ≡ None → ReportsOrNot before after (no_node_line name) 1 result → (told : List ℕ) × Grows before after told × NodeOutcome files Asked ordered [] told result
    no_node_told none reports =
        told_or_not (NodeOutcome files Asked ordered []) node_failed node_memory before after (no_node_line name) 1 result reports
        (λ words file program held same w. Outcome.no_node (asks words file w) held (ap (λ z. node_among z name) same ∙ none))

    pub no_contract_told : (node : Node) → node_among ordered name ≡ Some node → node.contract ≡ None → ReportsOrNot before after (no_contract_line name node.span) 1 result →
        (told : List ℕ) × Grows before after told × NodeOutcome files Asked ordered [] told result
    no_contract_told node found none reports =
        told_or_not (NodeOutcome files Asked ordered []) node_failed node_memory before after (no_contract_line name node.span) 1 result reports
        (λ words file program held same w. Outcome.no_contract node (asks words file w) held (ap (λ z. node_among z name) same ∙ found) none)

-- ---- the node has a contract

module _ (files : Option Files) (Asked : List (List ℕ) → List ℕ → List ℕ → Type 0) (ordered : List Item) (node : Node) where
  pub of_node : (name : List ℕ) (log : List Event) (line : List ℕ) (status : ℕ) → node_among ordered name ≡ Some node → IsTrue (is_some node.contract) → ContractOutcome files Asked ordered node log line status →
      NodeOutcome files (λ words file. Asked words file name) ordered log line status
  of_node name log line status found some f words file program held same w =
      f words file name (record { program = program; held = held; node = node; named = ap (λ z. node_among z name) same ∙ found; some = some }) same refl w

  -- it has no machine
  module _ (law : OutcomesLaw) (asks : (words : List (List ℕ)) (file name : List ℕ) → Asked words file name → IsOverContract words file name) where
    pub no_machine : (cause : ContractErr) → RefusesMachine ordered node cause → cause ≢ contract.OutOfMemory → ContractOutcome files Asked ordered node [] (contract_line cause) 1
    no_machine cause refuses differs words file name c same is w =
        Outcome.no_verdict cause (asks words file name w) c differs
        ((are_said law files file c.program c.held).node_refused name c.node c.named cause (subst (λ z. RefusesMachine z c.node cause) (sym same) (subst (λ n. RefusesMachine ordered n cause) (sym is) refuses)))

  pub contract_told_as : (cause : ContractErr) (before after : Option (List ℕ)) (result : ℕ) → (cause ≢ contract.OutOfMemory → ContractOutcome files Asked ordered node [] (contract_line cause) 1) →
      ReportsOrNot before after (contract_line cause) 1 result → (cause ≡ contract.OutOfMemory → (result ≡ 6) × Grows before after []) →
      (told : List ℕ) × Grows before after told × ContractOutcome files Asked ordered node [] told result
  contract_told_as cause before after result refused reports memory =
      contract_told_by (ContractOutcome files Asked ordered node []) (λ line b rest status f words file name c same is w. Outcome.line_failed line b rest (f words file name c same is w))
      (λ words file name c same is w. Outcome.no_memory) cause before after result refused reports memory

-- ---- `prove`

module _ (files : Option Files) (law : OutcomesLaw) (ordered : List Item) (node : Node) (cert : List ℕ) where
  abbrev Proves : List Event → List ℕ → ℕ → Type 0
  Proves = ContractOutcome files (λ words file name. IsProveOf words file name cert) ordered node

  asks : (words : List (List ℕ)) (file name : List ℕ) → IsProveOf words file name cert → IsOverContract words file name
  asks words file name w = IsOverContract.to_prove w

  none : (cause : ContractErr) → RefusesMachine ordered node cause → cause ≢ contract.OutOfMemory → Proves [] (contract_line cause) 1
  none = no_machine files (λ words file name. IsProveOf words file name cert) ordered node law asks

  -- why no certificate is written
  refused_as : (cause : ContractErr) → RefusesProof ordered node cause → cause ≢ contract.OutOfMemory → Proves [] (contract_line cause) 1
  refused_as (contract.Assume name span) h differs = none (contract.Assume name span) h differs
  refused_as (contract.Limit name limit) h differs = none (contract.Limit name limit) h differs
  refused_as (contract.Forced name instants text) h differs = absurd h
  refused_as contract.TooLong h differs =
      let m = h.1.0 in
      λ words file name c same is w.
      let of_node = subst (λ z. IsMachineOf z c.node m) (sym same) (subst (λ n. IsMachineOf ordered n m) (sym is) h.1.1) in
      Outcome.long_proof w c (record { machine = m; is_machine = of_node }) (subst (λ n. IsLong m (is_wide_contract n.contract)) (sym is) h.1.2)
  refused_as contract.NotBuilt h differs = none contract.NotBuilt h differs
  refused_as contract.OutOfMemory h differs = absurd (differs refl)

  pub refused_told : (cause : ContractErr) (before after : Option (List ℕ)) (result : ℕ) → RefusesProof ordered node cause → ReportsOrNot before after (contract_line cause) 1 result →
      (cause ≡ contract.OutOfMemory → (result ≡ 6) × Grows before after []) → (told : List ℕ) × Grows before after told × Proves [] told result
  refused_told cause before after result refuses reports memory =
      contract_told_as files (λ words file name. IsProveOf words file name cert) ordered node cause before after result (refused_as cause refuses) reports memory

module _ (law : OutcomesLaw) (ordered : List Item) (node : Node) (cert text : List ℕ) (proof : IsProof ordered node text) where
  proof_of : (files : Option Files) (file name : List ℕ) (c : HasContract files file name) → c.held.clocked ≡ ordered → c.node ≡ node → IsProofInGame c.held.clocked c.node text
  proof_of files file name c same is =
      (are_said law files file c.program c.held).proof name c.node c.named text (subst (λ z. IsProof z c.node text) (sym same) (subst (λ m. IsProof ordered m text) (sym is) proof))

  pub wrote : (files : Option Files) (status : ℕ) → (status ≡ 0) ⊎ (status ≡ 5) ⊎ (status ≡ 6) → ContractOutcome files (λ words file name. IsProveOf words file name cert) ordered node [] [] status
  wrote files status (inl h) words file name c same is w = subst (Outcome words files [] []) (sym h) (Outcome.proved w c (proof_of files file name c same is))
  wrote files status (inr (inl h)) words file name c same is w = subst (Outcome words files [] []) (sym h) (Outcome.proof_not_written w c (proof_of files file name c same is))
  wrote files status (inr (inr h)) words file name c same is w = subst (Outcome words files [] []) (sym h) Outcome.no_memory

  pub wrote_leaves : (before after : Option Files) (status : ℕ) → WritesText text cert before after status → ContractLeaves cert ordered node before after status
  wrote_leaves before after status (WritesText.whole all) words file name c same is w = Leaves.proved w c (proof_of before file name c same is) all
  wrote_leaves before after status (WritesText.part why others this) words file name c same is w = Leaves.proof_in_part why w c (proof_of before file name c same is) others this

pub node_leaves : (name cert : List ℕ) (ordered : List Item) (node : Node) (before after : Option Files) (status : ℕ) → node_among ordered name ≡ Some node → IsTrue (is_some node.contract) →
    ContractLeaves cert ordered node before after status → NodeLeaves name cert ordered before after status
node_leaves name cert ordered node before after status found some f words file program held same w =
    f words file name (record { program = program; held = held; node = node; named = ap (λ z. node_among z name) same ∙ found; some = some }) same refl w

pub text_leaves : (name cert text : List ℕ) (ordered : List Item) (before after : Option Files) (status : ℕ) → IsOrdered text ordered → NodeLeaves name cert ordered before after status → TextLeaves name cert text before after status
text_leaves name cert text ordered before after status o f words file w gives =
    f words file o.program (record { text = text; held = gives; judged = o.judged; only = o.only; clocked = ordered; ranks = o.ranks; arranged = o.arranged }) refl w

-- ---- `verify`

is_memory : (cause : CertErr) → (cause ≡ certificate.OutOfMemory) ⊎ (cause ≢ certificate.OutOfMemory)
is_memory (certificate.Syntax span) = inr (λ e. absurd cc)
is_memory (certificate.Misfit m) = inr (λ e. absurd cc)
is_memory (certificate.Fails k) = inr (λ e. absurd cc)
is_memory (certificate.Limit limit) = inr (λ e. absurd cc)
is_memory certificate.OutOfMemory = inl refl

-- the text was read
module _ (m : Machine) (text : List ℕ) where
  cert_memory : CertOutcome m text [] [] 6
  cert_memory files cert gives words file name c is w = Outcome.no_memory

  cert_failed : (line : List ℕ) (b : ℕ) (rest : List ℕ) (status : ℕ) → CertOutcome m text [] (line ++ b ∷ rest) status → CertOutcome m text [] line 5
  cert_failed line b rest status f files cert gives words file name c is w = Outcome.line_failed line b rest (f files cert gives words file name c is w)

  module _ (law : OutcomesLaw) (p : Proved) (checked : IsChecked m text p) where
    shows_of : (files : Option Files) (file name : List ℕ) (c : HasContract files file name) → IsMachineOf c.held.clocked c.node m → ShowsInGame c.held.clocked c.node text p
    shows_of files file name c is =
        (are_said law files file c.program c.held).shown name c.node c.named text p (record { has = record { machine = m; is_machine = is }; checked = checked })

    pub verified_of : (out : List ℕ) (status : ℕ) → Accepts (verdict_text p) out status → CertOutcome m text (put_events out) [] status
    verified_of out status Accepts.said files cert gives words file name c is w = Outcome.verified text p w c gives (shows_of files file name c is)
    verified_of out status (Accepts.said_in_part said rest e) files cert gives words file name c is w = Outcome.verified_in_part text p out rest w c gives (shows_of files file name c is) e
    verified_of out status Accepts.no_memory files cert gives words file name c is w = Outcome.no_memory

  refused_cert : (cause : CertErr) → RefusesBy m text cause → cause ≢ certificate.OutOfMemory → CertOutcome m text [] (certificate_line cause) (certificate_status cause)
  refused_cert cause refuses differs files cert gives words file name c is w =
      Outcome.certificate_refused text cause w c gives differs (record { has = record { machine = m; is_machine = is }; refused = refuses })

  pub cert_told : (cause : CertErr) (before after : Option (List ℕ)) (result : ℕ) → RefusesBy m text cause → ReportsOrNot before after (certificate_line cause) (certificate_status cause) result →
      (cause ≡ certificate.OutOfMemory → (result ≡ 6) × Grows before after []) → (told : List ℕ) × Grows before after told × CertOutcome m text [] told result
  cert_told cause before after result refuses reports memory = by (is_memory cause)
    where
      by : (cause ≡ certificate.OutOfMemory) ⊎ (cause ≢ certificate.OutOfMemory) → (told : List ℕ) × Grows before after told × CertOutcome m text [] told result
      by (inl e) = let found = memory e in ([], found.1, subst (CertOutcome m text [] []) (sym found.0) cert_memory)
      by (inr differs) =
          told_or_not (CertOutcome m text []) cert_failed cert_memory before after (certificate_line cause) (certificate_status cause) result reports (refused_cert cause refuses differs)

-- the contract has a machine
module _ (files : Option Files) (cert : List ℕ) (m : Machine) where
  pub long_told : (before after : Option (List ℕ)) (result : ℕ) → GivesMoreThan files cert (most Text) → ReportsOrNot before after (too_long_line Text) 1 result →
      (told : List ℕ) × Grows before after told × MachineOutcome files cert m [] told result
  long_told before after result long reports =
      told_or_not (MachineOutcome files cert m []) (λ line b rest status f words file name c is w. Outcome.line_failed line b rest (f words file name c is w)) (λ words file name c is w. Outcome.no_memory)
      before after (too_long_line Text) 1 result reports (λ words file name c is w. Outcome.long_certificate w c (record { machine = m; is_machine = is }) long)

  -- the certificate was not read
  pub unread_told : MachineOutcome files cert m [] [] 4
  unread_told words file name c is w = Outcome.unread_certificate w c (record { machine = m; is_machine = is })

  -- whatever program the node is of
  pub of_machine : (ordered : List Item) (node : Node) → IsMachineOf ordered node m → (log : List Event) (line : List ℕ) (status : ℕ) → MachineOutcome files cert m log line status →
      ContractOutcome files (λ words file name. IsVerifyOf words file name cert) ordered node log line status
  of_machine ordered node machine log line status f words file name c same is w =
      f words file name c (subst (λ z. IsMachineOf z c.node m) (sym same) (subst (λ n. IsMachineOf ordered n m) (sym is) machine)) w

-- it has none
pub verify_refused : (files : Option Files) (law : OutcomesLaw) (ordered : List Item) (node : Node) (cert : List ℕ) (cause : ContractErr) (before after : Option (List ℕ)) (result : ℕ) →
    RefusesMachine ordered node cause → ReportsOrNot before after (contract_line cause) 1 result → (cause ≡ contract.OutOfMemory → (result ≡ 6) × Grows before after []) →
    (told : List ℕ) × Grows before after told × ContractOutcome files (λ words file name. IsVerifyOf words file name cert) ordered node [] told result
verify_refused files law ordered node cert cause before after result refuses reports memory =
    contract_told_as files (λ words file name. IsVerifyOf words file name cert) ordered node cause before after result
    (no_machine files (λ words file name. IsVerifyOf words file name cert) ordered node law (λ words file name w. IsOverContract.to_verify w) cause refuses) reports memory

-- ---- the contract of a node of a text has a machine

pub text_machine : (text : List ℕ) (ordered : List Item) (name : List ℕ) → IsOrdered text ordered → NodeHasMachine ordered name → TextHasMachine text name
text_machine text ordered name o h files file gives = record {
  there = record {
    program = o.program;
    held = record { text = text; held = gives; judged = o.judged; only = o.only; clocked = ordered; ranks = o.ranks; arranged = o.arranged };
    node = h.0;
    named = h.1;
    some = h.2;
  };
  machine = h.3;
}
