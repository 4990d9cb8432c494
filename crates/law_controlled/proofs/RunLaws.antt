-- A reaction of a node that calls nothing, in which its controllable variables have the greatest permitted values, is its run of chosen values.
use Rattle.std.proofs.Common.{◌≡◌, ℕ, List, [], ◌∷◌, ◌++◌, reverse, Some, sym, ap, subst}
use Rattle.std.specs.Prelude.{Bool, true, false, if◌then◌else◌, IsTrue, All}
use Rattle.std.specs.Bool.{MatchBool}
use Rattle.std.specs.List.{AllByRecursion}
use Rattle.std.specs.Str.{bytes_eq}
use Rattle.std.proofs.lemmas.List.{reverse-reverse}
use Rattle.std.proofs.lemmas.List.Elements.{All-nil}
use Rattle.hp_base.specs.declared.value.Value.{Value}
use Rattle.hp_tree.specs.declared.program.Item.{Item}
use Rattle.hp_tree.specs.declared.program.Item.TheVariants.{TypeItem, NodeItem}
use Rattle.hp_tree.specs.Programs.{Node}
use Rattle.hp_tree.specs.Operators.{is_there}
use Rattle.hp_tree.specs.Instant.{Fresh, Inputs, Instance, Instant, Past, part}
use Rattle.hp_tree.specs.Meaning.{controls_of, node_among, types_of}
use Rattle.hp_tree.specs.Reaction.{Each, NodeReaction, controls_at, row_of}
use Rattle.hp_tree.specs.Values.{AreOf}
use Rattle.hp_meaning.specs.Causal.Points.{Placed}
use Rattle.hp_meaning.specs.Contract.ChosenRuns.{Chosen, ChosenThroughout, IsChosenRun, own_past}
use Rattle.hp_meaning.specs.Contract.Forgetting.{erase}
use Rattle.hp_meaning.specs.Contract.FreePlaces.{calls_of, instance_at}
use Rattle.hp_meaning.specs.Contract.Game.{ChoiceTypesLaw, IsChosen}
use Rattle.hp_meaning.specs.Contract.Guarantee.{Through}
use Rattle.law_choices.specs.InTurn.AllowedRuns.{IsAllowedRun}
use Rattle.law_choices.specs.Playing.Greatest.{ChoosesGreatest}

module _ (program : List Item) (f : List ℕ) (n : Node) (none : calls_of n ≡ []) where
  -- what is asked of a node of this name and of all that it calls
  abbrev Below : List Item → Past → Instant → Placed → Type 0
  Below items past now k = IsTrue (is_there (instance_at k now (Fresh ∷ []))) → Chosen program items k.point.name (own_past (k.place ++ (Instance ∷ [])) past now) (instance_at k now)

  abbrev Here : List Item → Past → Instant → Node → Type 0
  Here items past now m = IsChosen program m (erase past) (row_of m.inputs (part Inputs now)) now (controls_at m now) × All (Below items past now) (calls_of m)

  chosen : (items : List Item) (past : Past) (now : Instant) → node_among items f ≡ Some n → ChoosesGreatest program n past now → Chosen program items f past now
  chosen [] past now e h = absurd cc
  chosen (TypeItem t ∷ items) past now e h = chosen items past now e h
  chosen (NodeItem m ∷ items) past now e h = by (bytes_eq m.name f) e (λ k. chosen items past now k h)
    where
      by : (b : Bool) → (if b then Some m else node_among items f) ≡ Some n → (node_among items f ≡ Some n → Chosen program items f past now) → MatchBool b (Here items past now m) (Chosen program items f past now)
      by true k rest =
          let same : m ≡ n = cc in
          subst (Here items past now) (sym same) (h, subst (λ (cs : List Placed). All (Below items past now) cs) (sym none) (All-nil (Below items past now)))
      by false k rest = rest k

  throughout : (past : Past) → node_among (reverse program) f ≡ Some n → Through (ChoosesGreatest program n) past → ChosenThroughout program f past
  throughout [] e h = tt
  throughout (now ∷ past) e h = (throughout past e h.0, chosen (reverse program) past now e h.1)

  controls_fit : ChoiceTypesLaw → (past : Past) → Through (ChoosesGreatest program n) past → Each (λ now. AreOf (types_of program) (controls_of n.contract) (controls_at n now)) past
  controls_fit law [] h = tt
  controls_fit law (now ∷ past) h = (law program n (controls_at n now) h.1.fits, controls_fit law past h.0)

  each_input : (rows : List (List Value)) → AllByRecursion (AreOf (types_of program) n.inputs) rows → Each (AreOf (types_of program) n.inputs) rows
  each_input [] h = tt
  each_input (row ∷ rows) h = (h.0, each_input rows h.1)

  pub chosen_run : ChoiceTypesLaw → (inputs said : List (List Value)) → node_among (reverse program) f ≡ Some n → AllByRecursion (AreOf (types_of program) n.inputs) inputs → (run : IsAllowedRun program f inputs said)
      → Through (ChoosesGreatest program n) run.past → IsChosenRun program f (reverse inputs) (reverse said)
  chosen_run law inputs said e fit run greatest =
      let reaction : NodeReaction program f inputs run.past run.past = record { node = n; is_node = e; inputs_fit = each_input inputs fit; controls_fit = controls_fit law run.past greatest; reaction = run.reaction } in
      record {
        frees = run.past;
        past = run.past;
        reaction = subst (λ xs. NodeReaction program f xs run.past run.past) (sym (reverse-reverse inputs)) reaction;
        chosen = throughout run.past e greatest;
        gives = ap reverse run.outputs;
      }
