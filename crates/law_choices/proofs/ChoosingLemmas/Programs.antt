-- The nodes that are made of a ready program have one meaning under each choice.
use Rattle.std.proofs.Common.{◌≡◌, ℕ, List, [], ◌∷◌, ◌++◌, sym, ap, ◌∙◌}
use Rattle.std.proofs.lemmas.List.{map-append}
use Rattle.hp_obc.specs.Machines.{ObcType}
use Rattle.hp_tree.specs.declared.program.Item.{Item}
use Rattle.hp_tree.specs.declared.program.Item.TheVariants.{TypeItem, NodeItem}
use Rattle.hp_tree.specs.Blocks.{Decl}
use Rattle.hp_tree.specs.Meaning.{types_of, controls_of}
use Rattle.law_judged.specs.Named.Scoped.{EachNode}
use Rattle.hp_automata.specs.Lowering.{lowered_program}
use Rattle.hp_flat.specs.Nodes.{FlatNode}
use Rattle.law_equations.specs.Meaning.Kinding.{OneReactionLaw, OutputsOfKindsLaw, kind_of_type}
use Rattle.law_equations.specs.Fitting.Fitting.{CallsLaw, TargetsLaw}
use Rattle.law_equations.specs.Made.Making.{Known, flat_type, outputs_of}
use Rattle.law_equations.specs.Made.Types.{obc_types}
use Rattle.hp_complete.specs.Declaring.{known_of}
use Rattle.hp_complete.specs.Made.{AreMadeOf}
use Rattle.law_wellmade.specs.Spelled.Integers.{NodeShort}
use Rattle.law_wellmade.specs.Regular.Kinds.{kinds_of_decls}
use Rattle.law_choices.specs.OnClocks.WellMade.{given_to, calls_of, callees_of}
use Rattle.law_choices.proofs.OnClocksLemmas.OneMeaning.{AreTurned, AreReady, compiled_nodes, ready_nodes}
use Rattle.law_choices.proofs.OnClocksLemmas.Texts.{when_accepted}
use Rattle.law_choices.specs.Closed.Compilable.{HasTypesOf, IsCompilable}
use Rattle.law_choices.specs.Choosing.Choices.{Choices}
use Rattle.law_choices.specs.Choosing.Meaning.{AreInTurn, HasOneMeaningUnder}
use Rattle.law_choices.specs.Choosing.Programs.{steered_by, controls_in, AreChoices, ReadyLaw, TextLaw}
use Rattle.law_choices.proofs.ChoosingLemmas.Meanings.{meaning_law}

-- the kinds of a node's inputs, and behind them those of its controllable variables
both_kinds : (types : List ObcType) (k : Known) (xs ys : List Decl) → kinds_of_decls types k (xs ++ ys) ≡ kinds_of_decls types k xs ++ kinds_of_decls types k ys
both_kinds types k xs ys = map-append (λ (d : Decl). kind_of_type types (flat_type k.types d.ty)) xs ys

module _ (types : List ObcType) (k : Known) where
  in_turn : (names : List (List ℕ)) (items : List Item) (fs : List FlatNode) → AreTurned types k names items fs → AreInTurn types (calls_of types k) (λ f. kinds_of_decls types k (steered_by (k.nodes f))) names fs
  in_turn names [] [] t = tt
  in_turn names [] (f ∷ fs) t = absurd t
  in_turn names (TypeItem d ∷ items) fs t = in_turn names items fs t
  in_turn names (NodeItem n ∷ items) [] t = absurd t
  in_turn names (NodeItem n ∷ items) (f ∷ fs) t =
      let one = t.0 in
      let signed = one.signed in (
        one.well,
        record {
          takes = ap (λ o. kinds_of_decls types k (given_to o) ++ kinds_of_decls types k (steered_by o)) one.own ∙ sym (both_kinds types k n.inputs (controls_of n.contract)) ∙ signed.takes;
          gives = ap (λ o. kinds_of_decls types k (outputs_of o)) one.own ∙ signed.gives;
        },
        one.new,
        one.calls,
        in_turn (f.name ∷ names) items fs t.1,
      )

module _ (targets : TargetsLaw) (calls_law : CallsLaw) (one : OneReactionLaw) (outputs_law : OutputsOfKindsLaw) where
  of_nodes : (after : List Item) (choices : Choices) → AreChoices after choices → (fs : List FlatNode) → AreReady after fs → HasOneMeaningUnder choices (callees_of after) fs
  of_nodes after choices fit fs nodes =
      let low = lowered_program after in
      let types = obc_types (types_of after) in
      meaning_law one outputs_law types (callees_of after) (controls_in after) choices fs (in_turn types (known_of low) [] low fs nodes.turned) fit nodes.some

  -- so have those of a program that can be compiled
  pub compiled_law : (program after : List Item) → HasTypesOf program (lowered_program after) → IsCompilable (lowered_program after) → EachNode NodeShort (lowered_program after) → (choices : Choices) → AreChoices after choices
      → (fs : List FlatNode) → AreMadeOf (known_of (lowered_program after)) (lowered_program after) fs → HasOneMeaningUnder choices (callees_of after) fs
  compiled_law program after t c short choices fit fs made = of_nodes after choices fit fs (compiled_nodes targets calls_law program after t c short fs made)

  pub ready_law : ReadyLaw
  ready_law program after r ok form short choices fit fs made = of_nodes after choices fit fs (ready_nodes targets calls_law program after r ok form short fs made)

  pub text_law : TextLaw
  text_law text tokens program after a p n t d f i c choices fit fs made =
      let q = when_accepted text tokens program after a p n t d f i c in
      ready_law program after q.ready q.removable q.form q.short choices fit fs made
