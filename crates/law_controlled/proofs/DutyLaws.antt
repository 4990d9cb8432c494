-- In a reaction in which the controllable variables of a node have the greatest permitted values, the duty of the node is kept.
use Rattle.std.proofs.Common.{◌≡◌, ℕ, List, [], ◌∷◌, ◌++◌, reverse, Some, sym, ap, subst, ◌∙◌}
use Rattle.std.specs.List.{AllByRecursion}
use Rattle.hp_base.specs.Kinds.{AreOfKinds}
use Rattle.hp_base.specs.declared.value.Value.{Value}
use Rattle.hp_tree.specs.declared.program.Item.{Item}
use Rattle.hp_tree.specs.declared.program.Item.TheVariants.{TypeItem, NodeItem}
use Rattle.hp_tree.specs.Instant.{Past}
use Rattle.hp_tree.specs.Meaning.{types_of, node_among}
use Rattle.hp_tree.specs.Programs.{Node, TypeDecl}
use Rattle.hp_tree.specs.Values.{AreOf}
use Rattle.hp_meaning.specs.Contract.ChosenRuns.{NamesApart}
use Rattle.hp_meaning.specs.Contract.Game.{AllowedLaw, ChoiceTypesLaw, GuaranteeLaw}
use Rattle.hp_meaning.specs.Contract.Guarantee.{AllSafe, ErasedNextLaw, HasContract, Through}
use Rattle.law_judged.specs.Named.Scoped.{EachNode}
use Rattle.hp_automata.specs.Lowering.{enumerations}
use Rattle.law_automata.proofs.LowerableLemmas.Texts.{each_reverse}
use Rattle.law_games.specs.ReadyGames.Laws.{IsInOrder, ReadyContractsLaw, ReadySettledLaw, StandsLaw}
use Rattle.law_games.proofs.GuaranteedLemmas.Apart.{ready_apart}
use Rattle.law_history.proofs.StreamsLemmas.NamesApart.{name_found}
use Rattle.law_wellmade.specs.Timely.Kinds.{kinds_of_decls}
use Rattle.law_wellmade.specs.Timely.Tested.{ConstructorsDiffer}
use Rattle.law_wellmade.proofs.BegunLemmas.Items.{types_low}
use Rattle.law_wellmade.proofs.TestedLemmas.FittedLaws.{differ_law}
use Rattle.law_wellmade.proofs.TimelyLemmas.KindLaws.{are_of}
use Rattle.law_choices.specs.Playing.Greatest.{ChoosesGreatest, GreatestLaw}
use Rattle.law_choices.specs.Runs.Chosen.{ChosenReaction}
use Rattle.law_choices.specs.Seeing.OwnContract.{CallsNothingLaw}
use Rattle.law_choices.specs.Seeing.SeenOwn.{SeenOwnLaw}
use Rattle.law_choices.specs.Seeing.Greatest.{SeenGreatestLaw}
use Rattle.law_choices.specs.Seeing.Telling.{SeenToldLaw}
use Rattle.law_choices.specs.Runs.Laws.{ChoosesValues, OfProgramLaw}
use Rattle.law_choices.proofs.PlayingLemmas.Holding.{runs-of}
use Rattle.law_choices.proofs.RunsLemmas.Wholes.{typed-through}
use Rattle.law_controlled.specs.Greatest.{KeepsDuty}
use Rattle.law_controlled.proofs.KeepingLaws.{keeps_duty, safe_of}
use Rattle.law_choices.specs.Choosing.Choices.{Choices}
use Rattle.law_choices.specs.Instances.InKind.{InKindLaw}
use Rattle.law_choices.specs.InTurn.Telling.{TellsForLaw}

-- the laws that are joined here
pub record SteeringLaws : Type 0 where
  pub greatest : GreatestLaw
  pub of_program : OfProgramLaw
  pub allowed : AllowedLaw
  pub guarantee : GuaranteeLaw
  pub next : ErasedNextLaw
  pub of_types : ChoiceTypesLaw
  pub contracts : ReadyContractsLaw
  pub settled : ReadySettledLaw
  pub stands : StandsLaw
  pub instances : InKindLaw
  pub tells : TellsForLaw
  pub calls_nothing : CallsNothingLaw
  pub own : SeenOwnLaw
  pub seen : SeenGreatestLaw
  pub seen_told : SeenToldLaw

drop_front : (P : Node → Type 0) (later items : List Item) → EachNode P (later ++ items) → EachNode P items
drop_front P [] items v = v
drop_front P (TypeItem t ∷ later) items v = drop_front P later items v
drop_front P (NodeItem m ∷ later) items v = drop_front P later items v.1

module _ (laws : SteeringLaws) (program after : List Item) (ranks : List (List ℕ)) (order : IsInOrder program after ranks) (safe : AllSafe after (reverse after)) where
  abbrev pub decls : List TypeDecl
  decls = types_of after

  pub differ : ConstructorsDiffer decls
  differ = subst ConstructorsDiffer (types_low (enumerations [] after) after) (differ_law program after order.ready)

  pub rows_of : (n : Node) (rows : List (List Value)) → AllByRecursion (AreOfKinds (kinds_of_decls decls n.inputs)) rows → AllByRecursion (AreOf decls n.inputs) rows
  rows_of n [] h = tt
  rows_of n (row ∷ rows) h = (are_of decls n.inputs row differ h.0, rows_of n rows h.1)

  -- a reaction under some choices, in which the values are the greatest permitted ones, is one in which the duty is kept
  pub keeps : (choices : Choices) → EachNode (ChoosesValues decls choices) after → (f : List ℕ) (n : Node) (rows : List (List Value)) (past : Past) → node_among (reverse after) f ≡ Some n → AllByRecursion (AreOf decls n.inputs) rows → ChosenReaction choices after f rows past
      → Through (ChoosesGreatest after n) past → HasContract n → KeepsDuty n past
  keeps choices values f n rows past e typed_rows reacts greatest has =
      let named = name_found (reverse after) f n e in
      let own : node_among (reverse after) n.name ≡ Some n = ap (node_among (reverse after)) named ∙ e in
      let place = laws.stands after f n e in
      let earlier = place.0 in
      let stands = place.1 in
      let apart : NamesApart (reverse after) = ready_apart program after order.ready in
      let settled = laws.settled program after ranks order earlier n stands in
      let s = settled.1 in
      let turned : EachNode (ChoosesValues decls choices) (reverse after) = each_reverse (ChoosesValues decls choices) after values in
      let others = drop_front (ChoosesValues decls choices) stands.0 (NodeItem n ∷ earlier) (subst (EachNode (ChoosesValues decls choices)) stands.1 turned) in
      let chosen = subst (λ x. ChosenReaction choices after x rows past) (sym named) reacts in
      let reaction = laws.of_program choices after n.name rows past chosen in
      let runs = runs-of choices after earlier n stands apart rows _ past chosen in
      let typed = typed-through choices after earlier n stands apart settled.0 s.accepted s.ranked s.ranked_earlier others.0 others.1 rows past typed_rows runs in
      keeps_duty laws.allowed laws.guarantee laws.next choices after earlier n (laws.contracts program after order.ready order.conditions) own (safe_of after (reverse after) f n e safe has) rows past typed_rows runs reaction typed greatest
