-- Where a program has no controllable variable nothing is chosen.
use Rattle.std.proofs.Common.{◌≡◌, ℕ, List, [], ◌∷◌, map, reverse, refl, sym, ap, subst, ◌∙◌}
use Rattle.std.proofs.Math.Path.{fun_ext}
use Rattle.std.specs.Prelude.{Option, None, Some}
use Rattle.hp_base.specs.Kinds.{KindData, AreOfKinds}
use Rattle.hp_obc.specs.Steps.{Names}
use Rattle.hp_tree.specs.declared.program.Item.{Item}
use Rattle.hp_tree.specs.declared.program.Item.TheVariants.{TypeItem, NodeItem}
use Rattle.hp_tree.specs.Blocks.{Decl}
use Rattle.hp_tree.specs.Programs.{TypeDecl, Node}
use Rattle.hp_tree.specs.Values.{AreOf}
use Rattle.hp_tree.specs.Meaning.{types_of, controls_of}
use Rattle.hp_meaning.specs.Causal.Runs.{NoControls}
use Rattle.law_judged.specs.Named.Scoped.{EachNode}
use Rattle.hp_automata.specs.Lowering as lowering
use Rattle.hp_automata.specs.Lowering.{Enumerations, enumerations, lowered_item, lowered_program}
use Rattle.law_automata.proofs.LowerableLemmas.Texts.{each_reverse}
use Rattle.law_equations.specs.Made.Types.{obc_types}
use Rattle.hp_complete.specs.Declaring.{known_of}
use Rattle.hp_complete.proofs.KnownLaws.{nodes-known}
use Rattle.law_wellmade.specs.Regular.Kinds.{kinds_of_decls}
use Rattle.law_history.proofs.StreamsLemmas.NamesApart.{each_found}
use Rattle.law_choices.specs.OnClocks.WellMade.{callees_of}
use Rattle.law_choices.specs.Choosing.Choices.{ChoicesOfKinds}
use Rattle.law_choices.specs.Choosing.Meaning.{UncontrolledLaw}
use Rattle.law_choices.specs.Choosing.Programs.{steered_by, controls_in}
use Rattle.law_choices.specs.Runs.Laws.{ChoosesValues}
use Rattle.law_choices.specs.Streams.Uncontrolled.{UncontrolledProgramLaw, no_choice, NoChoiceLaw}
use Rattle.law_choices.proofs.StreamsLemmas.Signatures.{controls_lowered}

-- a node without controllable variables
abbrev Bare : Node → Type 0
Bare n = controls_of n.contract ≡ []

bare_lowered : (enums : Enumerations) (items : List Item) → NoControls items → EachNode Bare (map (lowered_item enums) items)
bare_lowered enums [] none = tt
bare_lowered enums (TypeItem t ∷ items) none = bare_lowered enums items none
bare_lowered enums (NodeItem n ∷ items) none = (controls_lowered enums (lowering.types_of n) n.contract ∙ none.0, bare_lowered enums items none.1)

none_steered : (o : Option Node) → ((n : Node) → o ≡ Some n → Bare n) → steered_by o ≡ []
none_steered None h = refl
none_steered (Some n) h = h n refl

-- so the nodes of a program have no kinds of controllable variables
no_controls : (after : List Item) → NoControls after → controls_in after ≡ (λ f. [])
no_controls after none =
    let low = lowered_program after in
    let k = known_of low in
    fun_ext
    (λ (f : List ℕ). ap (λ (ds : List Decl). kinds_of_decls (obc_types (types_of after)) k ds)
    (none_steered (k.nodes f) (λ n e. each_found Bare (reverse low) f n (each_reverse Bare low (bare_lowered (enumerations [] after) after none)) (sym (nodes-known low f) ∙ e))))

pub uncontrolled_programs : UncontrolledLaw → UncontrolledProgramLaw
uncontrolled_programs law after none choices fit fs one under =
    law (callees_of after) choices fs (subst (λ (controls : Names (List KindData)). ChoicesOfKinds choices (callees_of after) controls) (no_controls after none) fit) one under

-- ---- nothing is chosen

nothing_chosen : (types : List TypeDecl) (items : List Item) → NoControls items → EachNode (ChoosesValues types no_choice) items
nothing_chosen types [] none = tt
nothing_chosen types (TypeItem t ∷ items) none = nothing_chosen types items none
nothing_chosen types (NodeItem n ∷ items) none = (λ args earlier. subst (λ (ds : List Decl). AreOf types ds []) (sym none.0) tt, nothing_chosen types items none.1)

pub no_choice_law : NoChoiceLaw
no_choice_law after none = (
  λ f args earlier h g. subst (λ (controls : Names (List KindData)). AreOfKinds (controls f) []) (sym (no_controls after none)) tt,
  nothing_chosen (types_of after) after none,
)
