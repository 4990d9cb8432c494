-- Worked: the run of a node whose callee wants a true argument.
use Rattle.std.proofs.Common.{◌≡◌, List, [], ◌∷◌, Some, refl, sym, subst, ◌∙◌}
use Rattle.std.proofs.lemmas.List.Elements.{All-nil, All-cons}
use Rattle.std.specs.Prelude.{Bool, true, false, IsTrue, reverse, ◌++◌}
use Rattle.hp_base.specs.declared.value.Value.TheVariants.{B}
use Rattle.hp_tree.specs.Operators.{real, is_there}
use Rattle.hp_tree.specs.Instant.{Inputs, Controls, Body, Fresh, Instance, Head, Named, Instant, Past}
use Rattle.hp_tree.specs.Meaning.{meaning}
use Rattle.hp_meaning.specs.Causal.OneReaction.{OneInstant}
use Rattle.hp_meaning.proofs.CausalLemmas.Unique.{one_instant}
use Rattle.hp_meaning.specs.Contract.Forgetting.{erase}
use Rattle.hp_meaning.specs.Contract.Game.{IsChosen}
use Rattle.hp_meaning.specs.Contract.ChosenRuns.{own_past, Chosen, IsChosenRun}
use Rattle.hp_meaning.specs.Contract.FreePlaces.{instance_at}
use Rattle.hp_meaning.specs.Causal.Points.{Placed}
use Rattle.hp_tree.specs.declared.program.Item.{Item}
use Rattle.hp_meaning.proofs.ContractLemmas.Texts.{bool, c, v, x, y, z, truth, alone, promises, echo, demanding}
use Rattle.hp_meaning.proofs.ContractLemmas.Uncontrolled.{no_choice}
use Rattle.hp_meaning.proofs.ContractLemmas.WorkedCalls.{careful, the_call, of_callee, careful_choice, wanting_ranked, careful_ranked}
use Rattle.hp_tree.specs.Reaction.{controls_at}
use Rattle.hp_tree.specs.Values.{IsOf, AreOf}
use Rattle.hp_base.specs.declared.ty.Ty.TheVariants as ty

abbrev echo_alone : List Item
echo_alone = alone (echo (promises (Some (v x)) (truth true) []))

abbrev all_false : Instant
all_false p = B false

abbrev Reacts : Bool → Past → Type 0
Reacts i past = OneInstant (meaning real demanding careful.name (B i ∷ []) (record { past = past; free = all_false }))

reacts : (i : Bool) (past : Past) → Reacts i past
reacts i past = one_instant real demanding careful.name (B i ∷ []) (record { past = past; free = all_false }) (wanting_ranked, (careful_ranked, tt))

module _ (i : Bool) (past : Past) (one : Reacts i past) where
  echo_is : one.now (Named y ∷ []) ≡ B true
  echo_is = one.meets (Named y ∷ []) ∙ one.meets (Body ∷ Named y ∷ []) ∙ one.meets (of_callee (Body ∷ Named y ∷ []))

  variable_is : one.now (Named z ∷ []) ≡ B false
  variable_is = one.meets (Named z ∷ []) ∙ one.meets (Body ∷ Named z ∷ [])

  variable_fits : AreOf [] (bool c ∷ []) (controls_at careful one.now)
  variable_fits = (subst (IsOf [] ty.Bool) (sym (one.meets (Controls ∷ Head ∷ []))) tt, tt)

  chosen_now : Chosen demanding (reverse demanding) careful.name past one.now
  chosen_now =
      let P : Placed → Type 0 = λ k. IsTrue (is_there (instance_at k one.now (Fresh ∷ []))) → Chosen demanding (echo_alone) k.point.name (own_past (k.place ++ (Instance ∷ [])) past one.now) (instance_at k one.now) in (
        subst (λ w. IsChosen demanding careful (erase past) (one.now (Inputs ∷ Head ∷ []) ∷ []) one.now (w ∷ [])) (sym (one.meets (Controls ∷ Head ∷ [])))
            (careful_choice (erase past) (one.now (Inputs ∷ Head ∷ []) ∷ []) one.now),
        All-cons P the_call [] (λ there. (no_choice demanding _ _ _ _ refl, All-nil _)) (All-nil P),
      )

careful_runs : IsChosenRun demanding careful.name ((B false ∷ []) ∷ (B true ∷ []) ∷ []) ((B true ∷ B false ∷ []) ∷ (B true ∷ B false ∷ []) ∷ [])
careful_runs =
    let first = reacts false [] in
    let second = reacts true (first.now ∷ []) in
    record {
      frees = all_false ∷ all_false ∷ [];
      past = second.now ∷ first.now ∷ [];
      reaction = record { node = careful; is_node = refl; inputs_fit = ((tt, tt), ((tt, tt), tt)); controls_fit = (variable_fits true (first.now ∷ []) second, (variable_fits false [] first, tt)); reaction = ((tt, first.meets), second.meets) };
      chosen = ((tt, chosen_now false [] first), chosen_now true (first.now ∷ []) second);
      gives = rw (echo_is false [] first, variable_is false [] first, echo_is true (first.now ∷ []) second, variable_is true (first.now ∷ []) second) refl;
    }
