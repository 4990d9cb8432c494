-- In a ready program the instances of calls, in a reaction with chosen values, are reactions of their callees with chosen values.
use Rattle.std.proofs.Common.{◌≡◌, ℕ, List, [], ◌∷◌, ◌++◌, map, reverse, Some, sym, ap, subst}
use Rattle.std.specs.Prelude.{All, filter}
use Rattle.std.specs.List.{AllByRecursion}
use Rattle.hp_base.specs.declared.value.Value.{Value}
use Rattle.hp_tree.specs.declared.program.Item.{Item}
use Rattle.hp_tree.specs.declared.program.Item.TheVariants.{TypeItem, NodeItem}
use Rattle.hp_tree.specs.Programs.{Node}
use Rattle.hp_tree.specs.Instant.{Instant, Past}
use Rattle.hp_tree.specs.Meaning.{node_among, types_of}
use Rattle.hp_tree.specs.Values.{AreOf}
use Rattle.hp_meaning.specs.Causal.Points.{points_of_contract}
use Rattle.hp_meaning.specs.Contract.ChosenRuns.{NamesApart}
use Rattle.hp_meaning.specs.Contract.Forgetting.{ContractsCallNothing}
use Rattle.hp_meaning.specs.Contract.FreePlaces.{calls_of, is_call}
use Rattle.hp_meaning.proofs.ContractLemmas.ForgetsNodes.{nothing_called_reverse}
use Rattle.hp_drawing.specs.Told.{told_of}
use Rattle.law_drawing.specs.Drawable.Fitting.{FitsLaw, ToldLaw}
use Rattle.law_judged.specs.Named.Scoped.{EachNode}
use Rattle.law_automata.proofs.LowerableLemmas.Texts.{each_reverse}
use Rattle.law_games.specs.ReadyGames.Laws.{IsInOrder}
use Rattle.law_games.proofs.GuaranteedLemmas.Apart.{ready_apart}
use Rattle.law_games.proofs.ReadyGamesLemmas.Ordered.{all_stand}
use Rattle.law_games.proofs.ReadyGamesLemmas.Settled.{ready_contracts, ready_settled}
use Rattle.law_history.proofs.StreamsLemmas.NamesApart.{name_found}
use Rattle.law_choices.specs.Choosing.Choices.{Choices}
use Rattle.law_choices.specs.Instances.Reacting.{InstanceReacts, InstancesLaw}
use Rattle.law_choices.specs.Runs.Chosen.{ChosenReaction}
use Rattle.law_choices.specs.Runs.Laws.{ChoosesValues}
use Rattle.law_choices.proofs.InstancesLemmas.Reacting.{Calling, instances-react}

drop-front : (P : Node → Type 0) (later items : List Item) → EachNode P (later ++ items) → EachNode P items
drop-front P [] items v = v
drop-front P (TypeItem t ∷ later) items v = drop-front P later items v
drop-front P (NodeItem m ∷ later) items v = drop-front P later items v.1

-- the contract of a node behind others calls nothing
quiet-behind : (later earlier : List Item) (n : Node) → ContractsCallNothing (later ++ NodeItem n ∷ earlier) → filter (λ c. is_call c.point.kind) (points_of_contract n.contract (λ p. p)) ≡ []
quiet-behind [] earlier n h = h.0
quiet-behind (TypeItem t ∷ later) earlier n h = quiet-behind later earlier n h
quiet-behind (NodeItem m ∷ later) earlier n h = quiet-behind later earlier n h.1

pub instances_law : ToldLaw → FitsLaw → InstancesLaw
instances_law told fits program after ranks order choices values f n rows past now e typed reaction =
    let named : n.name ≡ f = name_found (reverse after) f n e in
    let place = all_stand after f n e in
    let earlier = place.0 in
    let stands = place.1 in
    let settled = ready_settled program after ranks order earlier n stands in
    let s = settled.1 in
    let apart : NamesApart (reverse after) = ready_apart program after order.ready in
    let quiet = nothing_called_reverse after (ready_contracts program after order.ready order.conditions) in
    let turned : EachNode (ChoosesValues (types_of after) choices) (reverse after) = each_reverse (ChoosesValues (types_of after) choices) after values in
    let others = drop-front (ChoosesValues (types_of after) choices) stands.0 (NodeItem n ∷ earlier) (subst (EachNode (ChoosesValues (types_of after) choices)) stands.1 turned) in
    let known : Calling (told_of after) after earlier n settled.0 choices = record {
      accepted = s.accepted;
      ranked = s.ranked;
      ranked_earlier = s.ranked_earlier;
      values = others.0;
      others = others.1;
      fit = (fits program after ranks order earlier n stands).body;
      quiet = quiet-behind stands.0 earlier n (subst ContractsCallNothing stands.1 quiet);
      found = told program after ranks order earlier n stands;
    } in
    instances-react (told_of after) after earlier n stands apart settled.0 choices known rows past now typed (subst (λ x. ChosenReaction choices after x rows (now ∷ past)) (sym named) reaction)
