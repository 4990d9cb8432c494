-- There is one reaction with the chosen values of a ready program, and one without its automata, which stands for it.
use Rattle.std.proofs.Common.{◌≡◌, ℕ, List, [], ◌∷◌, map, reverse, subst}
use Rattle.std.specs.Prelude.{⊤, true, Some}
use Rattle.hp_base.specs.declared.value.Value.{Value}
use Rattle.hp_tree.specs.declared.program.Item.{Item}
use Rattle.hp_tree.specs.Programs.{Node}
use Rattle.hp_tree.specs.Values.{AreOf}
use Rattle.hp_tree.specs.Instant.{Instant, nothing}
use Rattle.hp_tree.specs.Meaning.{types_of, node_among}
use Rattle.hp_tree.specs.Reaction.{Each}
use Rattle.hp_meaning.specs.Causal.Causality.{IsRanked}
use Rattle.hp_meaning.specs.Causal.RanksOfPoints.{AllRanksLaw}
use Rattle.hp_meaning.proofs.CausalLemmas.Unique.{same_pasts}
use Rattle.law_judged.specs.Named.Scoped.{EachNode}
use Rattle.law_values.specs.Valued.Values.{Classing, AreAccepted}
use Rattle.hp_automata.specs.Lowering.{lowered_program}
use Rattle.law_automata.specs.Lowered.Removable.{IsRemovable}
use Rattle.law_automata.specs.Lowered.Standing.{Along, Stands}
use Rattle.law_automata.specs.Lowered.Laws.{OutputsLaw, RanksLaw}
use Rattle.law_automata.proofs.LowerableLemmas.Decided.{past_decided}
use Rattle.law_automata.proofs.LowerableLemmas.Texts.{each_reverse}
use Rattle.law_values.proofs.AcceptedLemmas.Laws.{accepted}
use Rattle.law_choices.specs.Choosing.Choices.{Choices}
use Rattle.law_choices.specs.Runs.Laws.{ChoosesValues, OneForOne, LoweredLaw}
use Rattle.law_choices.proofs.RunsLemmas.Chosen.{one_law}
use Rattle.law_choices.proofs.RunsLemmas.Values.{chosen_fit}
use Rattle.law_choices.proofs.RunsLemmas.Lowered.{chosen_kept}

nothings_along : (inputs : List (List Value)) → Along (λ (i j : Instant). ⊤) (map (λ (vs : List Value). nothing) inputs) (map (λ (vs : List Value). nothing) inputs)
nothings_along [] = tt
nothings_along (vs ∷ inputs) = (tt, nothings_along inputs)

-- So it is of an accepted program whose places have ranks.
pub one_for_one : OutputsLaw → (after : List Item) → IsRemovable after → IsRanked after → IsRanked (lowered_program after) → (class : Classing) → AreAccepted (types_of after) class (reverse after)
    → (choices : Choices) → EachNode (ChoosesValues (types_of after) choices) after → (f : List ℕ) (n : Node) (inputs : List (List Value)) → node_among (reverse after) f ≡ Some n → Each (AreOf (types_of after) n.inputs) inputs → OneForOne choices after f inputs
one_for_one outputs after ok ranked low_ranked class a choices values f n inputs e fit =
    let low = lowered_program after in
    let frees = map (λ (vs : List Value). nothing) inputs in
    let before = one_law choices after f inputs ranked in
    let behind = one_law choices low f inputs low_ranked in
    let fits = chosen_fit choices after class f n inputs frees before.past a ranked (each_reverse (ChoosesValues (types_of after) choices) after values) e fit before.is_one in
    let decided = past_decided (types_of after) true class (reverse after) a f before.past fits in
    let kept = chosen_kept choices after ok f inputs frees frees before.past (nothings_along inputs) before.is_one decided in
    let stands = subst (Along (Stands after f) before.past) (same_pasts kept.0 behind.past (behind.only kept.0 kept.1)) kept.2 in
    record { before = before; behind = behind; stands = stands; outputs = outputs after ok f before.past behind.past stands }

pub lowered_law : AllRanksLaw → RanksLaw → OutputsLaw → LoweredLaw
lowered_law all_ranks low_ranks outputs program after ranks r ok fall =
    let ranked = all_ranks after ranks fall in
    let a = accepted program after r in
    one_for_one outputs after ok ranked (low_ranks after ok ranked) a.0 a.1
