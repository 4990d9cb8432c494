-- The node that chooses is well made, whatever is made of other nodes.
use Rattle.std.proofs.Common.{◌≡◌, ℕ, List, [], ◌∷◌, ap, sym, subst, ◌∙◌}
use Rattle.std.specs.Prelude.{⊤, true, false}
use Rattle.hp_obc.specs.Form.{TypesForm, has_name}
use Rattle.hp_obc.specs.Machines.{ObcType}
use Rattle.hp_tree.specs.Meaning.{types_of}
use Rattle.hp_tree.specs.Programs.{Node, TypeDecl}
use Rattle.hp_tree.specs.declared.program.Item.{Item}
use Rattle.law_judged.specs.Named.Scoped.{EachNode}
use Rattle.hp_automata.specs.Lowering.{Enumerations, enumerations, lowered_node, lowered_program}
use Rattle.hp_automata.specs.NewNames.{is_new}
use Rattle.law_equations.specs.Made.Making.{Known}
use Rattle.law_equations.specs.Made.Types.{obc_types}
use Rattle.law_equations.specs.Meaning.Kinding.{Callees, IsWellMade}
use Rattle.hp_complete.specs.Declaring.{known_of}
use Rattle.hp_complete.specs.Made.{IsMadeOf}
use Rattle.hp_watch.specs.Watching.{Observing}
use Rattle.law_choices.specs.Adding.Made.{CompiledMadeLaw, IsReadyMade}
use Rattle.law_choices.specs.Adding.Surveyed.{AllSuit}
use Rattle.law_choices.specs.InTurn.Calling.{CallNothing}
use Rattle.law_choices.specs.InTurn.Nodes.{Contracted, IsContracted, also_said}
use Rattle.law_choices.specs.InTurn.Observed.{CanBeObserved}
use Rattle.law_choices.specs.InTurn.Observers.{ObserverLaw}
use Rattle.law_choices.specs.OnClocks.WellMade.{callees_of}
use Rattle.law_choices.proofs.InTurnLemmas.Contracted.{Ground, chooses}
use Rattle.law_choices.proofs.InTurnLemmas.Names.{controller_new}
use Rattle.law_choices.proofs.InTurnLemmas.Observed.{observed_by}
use Rattle.law_choices.proofs.InTurnLemmas.Programs.{TurnLaws, inputs_are, of_node}
use Rattle.law_choices.proofs.InTurnLemmas.Said.{SaySame, said_old, said_own}
use Rattle.law_choices.proofs.InTurnLemmas.Types.{types_same}
use Rattle.law_choices.proofs.OnClocksLemmas.OneMeaning.{IsTurned}
use Rattle.law_choices.proofs.OnClocksLemmas.Texts.{IsArranged}
use Rattle.hp_controlled.specs.Compiled.{AreObserved}
use Rattle.law_controlled.proofs.ObserverLaws.{observers_suit_by}

module _ (laws : TurnLaws) (made_law : CompiledMadeLaw) (observer_law : ObserverLaw) (program after : List Item) (q : IsArranged program after) (signs : EachNode (λ (n : Node). is_new n.name ≡ false) after) (can : CanBeObserved after) (observers : Observing) (are : AreObserved after observers)
    (node : Node) (c : Contracted) (is : IsContracted (obc_types (types_of after)) observers node c) where
  abbrev types : List ObcType
  types = obc_types (types_of after)

  abbrev k : Known
  k = known_of (lowered_program after)

  abbrev enums : Enumerations
  enums = enumerations [] after

  -- what is said of the nodes of the program, and of the controller
  abbrev pub all : Callees
  all = also_said types (c.controller ∷ []) (callees_of after)

  controller_sign : is_new c.controller.name ≡ true
  controller_sign = let m = is.machine in let own = is.controller in ap is_new own.name ∙ controller_new m.name

  old : (f : List ℕ) → is_new f ≡ false → SaySame (callees_of after) all f
  old f e = said_old types (callees_of after) (c.controller ∷ []) f (controller_sign, tt) e

  suit : AllSuit types all observers × CallNothing observers
  suit =
      let equations = are.equations in
      observers_suit_by types all observer_law after observers are (observed_by made_law laws.called laws.calls program after all are.nodes q.ready q.form signs can old equations.made)

  pub chosen_well : (names : List (List ℕ)) → IsTurned types k names (lowered_node enums node) c.plant → IsMadeOf k (lowered_node enums node) c.plant → IsReadyMade types (callees_of after) c.plant → ((g : List ℕ) → has_name names g ≡ true → is_new g ≡ false)
      → is_new c.plant.name ≡ false → IsWellMade types all c.chosen.node
  chosen_well names t made r signed plain =
      let bytes = laws.bytes types (subst (λ (ts : List TypeDecl). TypesForm (obc_types ts)) (sym (types_same program after q.ready)) q.form) in
      let IsThere : Node → Type 0 = λ n. ⊤ in
      let ground : Ground types all observers node c = record {
        clock = r.clock;
        bytes = bytes;
        of_node = of_node laws types k enums observers all bytes suit.0 suit.1 old IsThere names node c.plant t made r signed plain;
        suit = suit.0;
        is = is;
        named = made.name;
        inputs = inputs_are laws types k enums observers all bytes suit.0 suit.1 old IsThere names node c.plant t made r signed plain;
        ranked = made.ranked;
        asked = said_own types (callees_of after) c.controller [];
      } in
      (chooses laws.nodes types all observers node c ground).0
