-- From what is decided of the contracts of a program to what the call did.
use Rattle.std.proofs.Common.{◌≡◌, ◌≢◌, ◌⊎◌, ◌∙◌, ◌||◌, inl, inr, ℕ, Bool, true, false, List, [], ◌∷◌, ◌++◌, None, Some, refl, sym, ap, subst}
use Rattle.std.specs.Prelude.{Option, is_some}
use denote.Ref.{Bor}
use Rattle.hp_io.specs.Events.{put_events}
use Rattle.hp_io.specs.Files.{Files}
use Rattle.hp_io.specs.Told.{Grows}
use Rattle.hp_io.specs.declared.console.Event.{Event}
use Rattle.hp_meaning.specs.Clocking.Clocking.{Assignment, node_with_clocks}
use Rattle.hp_clocks.specs.Answers.{IsClocked}
use Rattle.hp_clocks.specs.Writing.{AreWritten}
use Rattle.hp_expand.specs.Numbering.{with_node, no_node, replaced_node, replaced_items}
use Rattle.hp_tree.specs.Meaning.{controls_of}
use Rattle.hp_tree.specs.Programs.{Contract, Node}
use Rattle.hp_tree.specs.declared.program.Item.{Item}
use Rattle.hp_tree.specs.declared.program.Item.TheVariants.{TypeItem, NodeItem}
use Rattle.law_decided.specs.Outcomes.{OutcomesLaw, AreKeptInGames}
use Rattle.hp_verdicts.specs.Decided.{own_contract, has_contract, AreKept, Refuses}
use Rattle.hp_verdicts.specs.declared.error.ContractErr.{ContractErr}
use Rattle.hp_verdicts.specs.declared.error.ContractErr.TheVariants as contract
use Rattle.hp_driver.specs.Controls.{some_variable, has_controls}
use Rattle.hp_driver.specs.Command.{accepted_text}
use Rattle.hp_driver.specs.Diagnostics.{contract_line}
use Rattle.hp_driver.specs.Follows.{DecidedOutcome, OrderedRun, OrderedTell, Accepts}
use Rattle.hp_driver.specs.Outcome.{Outcome, IsHeld}
use Rattle.hp_driver.specs.Ran.{ReportsOrNot}
use Rattle.hp_driver.specs.declared.words.Task.{Task}
use Rattle.hp_driver.specs.declared.words.Task.TheVariants.{Run, Tell, Check}
use Rattle.hp_driver.proofs.GameLaws.{are_said}
use Rattle.hp_driver.proofs.AcceptedLaws.{none_or}
use Rattle.hp_driver.proofs.OutcomeLaws.{over_source, told_or_not}

-- ---- programs without contracts

-- a node has no contract once its inlined calls are replaced and its clocks written, where it had none
none_written : (nodes : List ℕ → Node) (at : Assignment) (n : Node) → n.contract ≡ None → (node_with_clocks at (replaced_node nodes n)).contract ≡ None
none_written nodes at n e = ap (λ (c : Option Contract). (node_with_clocks at (replaced_node nodes (record n { contract = c }))).contract) e

pub is_none : (o : Option Contract) → is_some o ≡ false → o ≡ None
is_none None e = refl
is_none (Some c) e = absurd cc

none_both : (b c : Bool) → b ≡ false → c ≡ false → (b || c) ≡ false
none_both b c e f = ap (λ z. z || c) e ∙ f

pub plain_written : (nodes : List ℕ → Node) (items ys : List Item) → has_contract items ≡ false → AreWritten IsClocked (replaced_items nodes items) ys → has_contract ys ≡ false
plain_written nodes [] [] none w = refl
plain_written nodes [] (y ∷ ys) none w = absurd w
plain_written nodes (TypeItem t ∷ items) [] none w = absurd w
plain_written nodes (NodeItem n ∷ items) [] none w = absurd w
plain_written nodes (TypeItem t ∷ items) (y ∷ ys) none w = none_both (own_contract y) (has_contract ys) (ap own_contract w.0) (plain_written nodes items ys none w.1)
plain_written nodes (NodeItem n ∷ items) (y ∷ ys) none w =
    let parts = none_or (is_some n.contract) (has_contract items) none in
    none_both (own_contract y) (has_contract ys) (ap own_contract w.0.2 ∙ ap is_some (none_written nodes w.0.0 n (is_none n.contract parts.0)))
    (plain_written (with_node nodes (replaced_node nodes n)) items ys parts.1 w.1)

-- without contracts a program has no controllable variables
pub uncontrolled_plain : (items : List Item) → has_contract items ≡ false → has_controls items ≡ false
uncontrolled_plain [] none = refl
uncontrolled_plain (TypeItem t ∷ items) none = uncontrolled_plain items none
uncontrolled_plain (NodeItem n ∷ items) none =
    let parts = none_or (is_some n.contract) (has_contract items) none in
    none_both (some_variable (controls_of n.contract)) (has_controls items) (ap (λ (c : Option Contract). some_variable (controls_of c)) (is_none n.contract parts.0)) (uncontrolled_plain items parts.1)

-- a program has a contract, where one is refused once it is arranged
pub has_one : (files : Option Files) (file : List ℕ) (program : List Item) (held : IsHeld files file program) → (has_contract held.clocked ≡ false → ⊥) → has_contract program ≡ true
has_one files file program held some = by (has_contract program) refl
  where
    by : (b : Bool) → has_contract program ≡ b → has_contract program ≡ true
    by true e = e
    by false e = let arranged = held.arranged in absurd (some (plain_written no_node program held.clocked e arranged.clocks))

-- ---- what is told of a contract that is refused

is_memory : (cause : ContractErr) → (cause ≡ contract.OutOfMemory) ⊎ (cause ≢ contract.OutOfMemory)
is_memory (contract.Assume node span) = inr (λ e. absurd cc)
is_memory (contract.Limit node limit) = inr (λ e. absurd cc)
is_memory (contract.Forced node instants cert) = inr (λ e. absurd cc)
is_memory contract.TooLong = inr (λ e. absurd cc)
is_memory contract.NotBuilt = inr (λ e. absurd cc)
is_memory contract.OutOfMemory = inl refl

-- where there is memory it is the line of the contract
pub contract_told_by : (O : List ℕ → ℕ → Type 0) → ((line : List ℕ) (b : ℕ) (rest : List ℕ) (status : ℕ) → O (line ++ b ∷ rest) status → O line 5) → O [] 6 → (cause : ContractErr)
    (before after : Option (List ℕ)) (result : ℕ) → (cause ≢ contract.OutOfMemory → O (contract_line cause) 1) → ReportsOrNot before after (contract_line cause) 1 result →
    (cause ≡ contract.OutOfMemory → (result ≡ 6) × Grows before after []) → (told : List ℕ) × Grows before after told × O told result
contract_told_by O failed no_memory cause before after result refused reports memory = by (is_memory cause)
  where
    by : (cause ≡ contract.OutOfMemory) ⊎ (cause ≢ contract.OutOfMemory) → (told : List ℕ) × Grows before after told × O told result
    by (inl e) = let found = memory e in ([], found.1, subst (O []) (sym found.0) no_memory)
    by (inr differs) = told_or_not O failed no_memory before after (contract_line cause) 1 result reports (refused differs)

module _ (task : Task) (program ordered : List Item) where
  pub decided_memory : DecidedOutcome task program ordered [] [] 6
  decided_memory words files file held same w = Outcome.no_memory

  pub decided_failed : (log : List Event) (line : List ℕ) (b : ℕ) (rest : List ℕ) (status : ℕ) → DecidedOutcome task program ordered log (line ++ b ∷ rest) status → DecidedOutcome task program ordered log line 5
  decided_failed log line b rest status f words files file held same w = Outcome.line_failed line b rest (f words files file held same w)

  module _ (law : OutcomesLaw) (cause : ContractErr) (plain : has_contract ordered ≡ false → cause ≡ contract.OutOfMemory) (refuses : Refuses ordered cause) where
    refused_of : cause ≢ contract.OutOfMemory → DecidedOutcome task program ordered [] (contract_line cause) 1
    refused_of differs words files file held same w =
        Outcome.contract_refused cause (over_source words file task w) held (has_one files file program held (λ none. differs (plain (ap has_contract (sym same) ∙ none)))) differs
        ((are_said law files file program held).refused cause (subst (λ z. Refuses z cause) (sym same) refuses))

    pub contract_told : (before after : Option (List ℕ)) (result : ℕ) → ReportsOrNot before after (contract_line cause) 1 result →
        (cause ≡ contract.OutOfMemory → (result ≡ 6) × Grows before after []) → (told : List ℕ) × Grows before after told × DecidedOutcome task program ordered [] told result
    contract_told before after result reports memory =
        contract_told_by (DecidedOutcome task program ordered []) (decided_failed []) decided_memory cause before after result refused_of reports memory

-- ---- contracts that are kept

module _ (law : OutcomesLaw) (program ordered : List Item) (kept : AreKept ordered ordered) where
  -- on their machines, and so in their games
  pub in_games : (files : Option Files) (file : List ℕ) (held : IsHeld files file program) → held.clocked ≡ ordered → AreKeptInGames held.clocked
  in_games files file held same = (are_said law files file program held).kept (subst (λ z. AreKept z z) (sym same) kept)

  -- the program is accepted
  pub accepted_of : (print : Bool) (out : List ℕ) (status : ℕ) → Accepts (accepted_text print program) out status → DecidedOutcome (Check print) program ordered (put_events out) [] status
  accepted_of print out status Accepts.said words files file held same w = Outcome.accepted print w held (in_games files file held same)
  accepted_of print out status (Accepts.said_in_part said rest e) words files file held same w = Outcome.accepted_in_part print out rest w held (in_games files file held same) e
  accepted_of print out status Accepts.no_memory words files file held same w = Outcome.no_memory

  -- a node of it is to be run
  pub ordered_run : (node : Bor (List ℕ)) (log : List Event) (line : List ℕ) (status : ℕ) → OrderedRun node.now ordered log line status → DecidedOutcome (Run node) program ordered log line status
  ordered_run node log line status f words files file held same w = f words files file program held same (in_games files file held same) w

  -- or it is asked what a contract assumes and enforces
  pub ordered_tell : (node : Bor (List ℕ)) (log : List Event) (line : List ℕ) (status : ℕ) → OrderedTell node.now ordered log line status → DecidedOutcome (Tell node) program ordered log line status
  ordered_tell node log line status f words files file held same w = f words files file program held same (in_games files file held same) w
