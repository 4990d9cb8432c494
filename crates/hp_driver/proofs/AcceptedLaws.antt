-- The program of a text that is judged and arranged is one that the judgements accept.
use Rattle.std.proofs.Common.{◌≡◌, ℕ, Bool, true, false, ◌||◌, List, [], ◌∷◌, refl}
use Rattle.hp_compile.proofs.FormLaws.{formed}
use Rattle.hp_compile.specs.Arranged.{IsArranged}
use Rattle.hp_compile.specs.Judged.{IsJudged}
use Rattle.hp_controlled.specs.Lacking.{HasNoChosenMachines}
use Rattle.hp_driver.specs.Controls.{some_variable, has_controls}
use Rattle.hp_driver.specs.Texts.{IsArrangedText}
use Rattle.hp_meaning.specs.Causal.Runs.{NoControls}
use Rattle.hp_tree.specs.Blocks.{Decl}
use Rattle.hp_tree.specs.Meaning.{controls_of}
use Rattle.hp_tree.specs.declared.program.Item.{Item}
use Rattle.hp_tree.specs.declared.program.Item.TheVariants.{TypeItem, NodeItem}
use Rattle.hp_verdicts.specs.Decided.{AreKept}
use Rattle.law_controlled.specs.Built.{ChosenBuiltLaw}
use Rattle.law_decided.specs.Laws.{IsAcceptedText}
use Rattle.law_history.specs.Streams.Texts.{IsAccepted}

pub accepted_by : (text : List ℕ) (program ordered : List Item) (ranks : List (List ℕ)) (judged : IsJudged text program) → IsArranged program ordered ranks → IsAcceptedText text judged.program_of.tokens program ordered ranks
accepted_by text program ordered ranks judged arranged = record {
  spelled = judged.program_of.spelled;
  read = judged.program_of.read;
  named = judged.named;
  typed = judged.typed;
  defined = judged.defined;
  formed = formed text program judged arranged.well_formed;
  initialised = arranged.initialised;
  clocks = arranged.clocks;
  fall = arranged.ordered;
}

-- ---- no controllable variables

pub none_or : (b c : Bool) → (b || c) ≡ false → (b ≡ false) × (c ≡ false)
none_or false c e = (refl, e)
none_or true c e = absurd cc

is_empty : (ds : List Decl) → some_variable ds ≡ false → ds ≡ []
is_empty [] e = refl
is_empty (d ∷ ds) e = absurd cc

pub no_controls : (items : List Item) → has_controls items ≡ false → NoControls items
no_controls [] e = tt
no_controls (TypeItem t ∷ items) e = no_controls items e
no_controls (NodeItem n ∷ items) e =
    let none = none_or (some_variable (controls_of n.contract)) (has_controls items) e in (is_empty (controls_of n.contract) none.0, no_controls items none.1)

pub accepted_plain : (text : List ℕ) (program ordered : List Item) (ranks : List (List ℕ)) (judged : IsJudged text program) → IsArranged program ordered ranks → has_controls program ≡ false
    → IsAccepted text judged.program_of.tokens program ordered ranks
accepted_plain text program ordered ranks judged arranged none = record {
  spelled = judged.program_of.spelled;
  read = judged.program_of.read;
  named = judged.named;
  typed = judged.typed;
  defined = judged.defined;
  formed = formed text program judged arranged.well_formed;
  initialised = arranged.initialised;
  clocks = arranged.clocks;
  fall = arranged.ordered;
  uncontrolled = no_controls program none;
}

-- nothing is in the way of machines that choose, where contracts are kept
pub are_built : ChosenBuiltLaw → (ordered : List Item) → (program : List Item) × IsArrangedText program ordered → AreKept ordered ordered → HasNoChosenMachines ordered → ⊥
are_built law ordered t kept none =
    let program = t.0 in
    let text = t.1.0 in
    let judged = t.1.2 in
    let arranged = t.1.3 in
    law text judged.program_of.tokens program ordered t.1.1 judged.program_of.spelled judged.program_of.read judged.named judged.typed judged.defined (formed text program judged arranged.well_formed) arranged.initialised arranged.clocks
    arranged.ordered kept none
