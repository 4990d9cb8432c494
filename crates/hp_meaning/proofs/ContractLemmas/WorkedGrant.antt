-- Worked: a grant that is given where it does no harm, as a game and as a run.
use Rattle.std.proofs.Common.{◌≡◌, List, [], ◌∷◌, refl, sym, ap, ap₂, ◌∙◌, subst}
use Rattle.std.proofs.lemmas.List.Elements.{All-nil}
use Rattle.std.specs.Prelude.{Bool, true, false, not, ◌&&◌, IsTrue}
use Rattle.hp_base.specs.declared.value.Value.{Value}
use Rattle.hp_base.specs.declared.value.Value.TheVariants.{B}
use Rattle.hp_tree.specs.declared.expr.Op2.TheVariants.{And}
use Rattle.hp_tree.specs.Operators.{real, marked, two_marked}
use Rattle.hp_tree.specs.Instant.{Inputs, Controls, Body, Assume, Enforce, Head, Tail, Named, Place, Instant, Past}
use Rattle.hp_tree.specs.Meaning.{meaning}
use Rattle.hp_meaning.specs.Causal.Causality.{IsRanked}
use Rattle.hp_meaning.specs.Causal.OneReaction.{OneInstant}
use Rattle.hp_meaning.specs.Causal.Abstract.{abstract_meaning}
use Rattle.hp_meaning.specs.Causal.Steering.{steered_by}
use Rattle.hp_meaning.proofs.CausalLemmas.Unique.{one_instant}
use Rattle.hp_meaning.proofs.CausalLemmas.Ranking.{ranks_enough}
use Rattle.hp_meaning.proofs.CausalLemmas.Worked.{tested}
use Rattle.hp_meaning.specs.Contract.Forgetting.{erase}
use Rattle.hp_meaning.specs.Contract.FreePlaces.{InputsFit}
use Rattle.hp_meaning.specs.Contract.Duties.{hypothesis, duty}
use Rattle.hp_meaning.specs.Contract.Game.{at_controls, IsNext, Safe, IsChosen, AtMost}
use Rattle.hp_meaning.specs.Contract.ChosenRuns.{Chosen, IsChosenRun}
use Rattle.hp_meaning.proofs.ContractLemmas.Games.{kept}
use Rattle.hp_meaning.proofs.ContractLemmas.Texts.{a, c, g, bool, alone, grant}
use Rattle.hp_meaning.proofs.ContractLemmas.GameWords.{of_one, may_be, at_most_true, as_given}
use Rattle.hp_tree.specs.Reaction.{controls_at}
use Rattle.hp_tree.specs.Values.{IsOf, AreOf}
use Rattle.hp_base.specs.declared.ty.Ty.TheVariants as ty

-- ---- the game

module _ (v w : Value) (r e : Bool) (is_r : v ≡ B r) (is_e : w ≡ B e) (history : Past) (free : Instant) (chosen : Bool) (now : Instant) (meets : (p : Place) → now p ≡ abstract_meaning (alone grant) grant.name (v ∷ w ∷ []) (record { past = history; free = steered_by free (at_controls (B chosen ∷ [])) }) now p) where
  granted_is : now (Named a ∷ []) ≡ B (r && chosen)
  granted_is = meets (Named a ∷ []) ∙ meets (Body ∷ Named a ∷ []) ∙ ap (λ v. two_marked And (B chosen) (marked v) (B chosen)) is_r

  grant_supposes : hypothesis grant now ≡ not (r && e) && true
  grant_supposes = rw (meets (Assume ∷ []), is_r, is_e) refl

  grant_owes : duty grant now ≡ not ((r && chosen) && e) && true
  grant_owes = rw (meets (Enforce ∷ []), granted_is, is_e) refl

no_harm : (r e : Bool) → IsTrue (not (r && e) && true) → IsTrue (not ((r && true) && e) && true)
no_harm true e h = h
no_harm false e h = refl

-- Where the assumption holds, the choice true does no harm.
grant_keeps : (history : Past) (inputs : List Value) (early : Instant) (now : Instant) → InputsFit [] grant.inputs inputs → IsNext (alone grant) grant history inputs early (B true ∷ []) now → IsTrue (hypothesis grant now) → IsTrue (duty grant now)
grant_keeps history [] early now fits next h = absurd fits
grant_keeps history (v ∷ []) early now fits next h = absurd fits.1
grant_keeps history (v ∷ w ∷ u ∷ inputs) early now fits next h = absurd fits.1.1
grant_keeps history (v ∷ w ∷ []) early now fits next h =
    let r = fits.0 in
    let e = fits.1.0 in
    grant_owes v w r.0 e.0 r.1 e.1 history next.free true now next.meets
    ∙ no_harm r.0 e.0 (sym (grant_supposes v w r.0 e.0 r.1 e.1 history next.free true now next.meets) ∙ h)

grant_is_safe : (history : Past) → Safe (alone grant) grant history
grant_is_safe history =
    kept (alone grant) grant (λ h. true)
    (λ history inputs early k fits. ((B true ∷ []), may_be true, λ now next h. (grant_keeps history inputs early now fits next h, refl)))
    history refl

grant_choice : (history : Past) (inputs : List Value) (early : Instant) → InputsFit [] grant.inputs inputs → IsChosen (alone grant) grant history inputs early (B true ∷ [])
grant_choice history inputs early fits =
    record {
      fits = may_be true;
      greatest = λ d l p. ((λ now next h. (grant_keeps history inputs early now fits next h, grant_is_safe (now ∷ history))), of_one (λ d. AtMost [] (bool c ∷ []) d (B true ∷ [])) at_most_true d l);
      else_preferred = λ none. refl;
    }

-- ---- the run

pub grant_ranked : IsRanked (alone grant)
grant_ranked = (ranks_enough grant (0 ∷ 1 ∷ []) (tt, (tt, tt)) (tested grant (0 ∷ 1 ∷ []) refl refl), tt)

abbrev all_true : Instant
all_true = as_given (λ p. true)

abbrev Reacts : Bool → Bool → Past → Type 0
Reacts r e past = OneInstant (meaning real (alone grant) g (B r ∷ B e ∷ []) (record { past = past; free = all_true }))

reacts : (r e : Bool) (past : Past) → Reacts r e past
reacts r e past = one_instant real (alone grant) g (B r ∷ B e ∷ []) (record { past = past; free = all_true }) grant_ranked

module _ (r e : Bool) (past : Past) (one : Reacts r e past) where
  gives_now : one.now (Named a ∷ []) ≡ B (r && true)
  gives_now = one.meets (Named a ∷ []) ∙ one.meets (Body ∷ Named a ∷ [])

  assumes_now : one.now (Assume ∷ []) ≡ B (not (r && e))
  assumes_now = one.meets (Assume ∷ [])

  enforces_now : one.now (Enforce ∷ []) ≡ B (not ((r && true) && e))
  enforces_now = rw (one.meets (Enforce ∷ []), gives_now) refl

  variable_fits : AreOf [] (bool c ∷ []) (controls_at grant one.now)
  variable_fits = (subst (IsOf [] ty.Bool) (sym (one.meets (Controls ∷ Head ∷ []))) tt, tt)

  chosen_now : Chosen (alone grant) (alone grant) g past one.now
  chosen_now = (
    subst (λ w. IsChosen (alone grant) grant (erase past) (one.now (Inputs ∷ Head ∷ []) ∷ one.now (Inputs ∷ Tail ∷ Head ∷ []) ∷ []) one.now (w ∷ [])) (sym (one.meets (Controls ∷ Head ∷ [])))
        (grant_choice (erase past) (one.now (Inputs ∷ Head ∷ []) ∷ one.now (Inputs ∷ Tail ∷ Head ∷ []) ∷ []) one.now
        ((r, one.meets (Inputs ∷ Head ∷ [])), ((e, one.meets (Inputs ∷ Tail ∷ Head ∷ [])), tt))),
    All-nil _,
  )

-- At the second instant the assumption fails, and the grant is given.
grant_runs : IsChosenRun (alone grant) g ((B true ∷ B false ∷ []) ∷ (B true ∷ B true ∷ []) ∷ (B false ∷ B true ∷ []) ∷ []) ((B true ∷ []) ∷ (B true ∷ []) ∷ (B false ∷ []) ∷ [])
grant_runs =
    let first = reacts true false [] in
    let second = reacts true true (first.now ∷ []) in
    let third = reacts false true (second.now ∷ first.now ∷ []) in
    record {
      frees = all_true ∷ all_true ∷ all_true ∷ [];
      past = third.now ∷ second.now ∷ first.now ∷ [];
      reaction = record { node = grant; is_node = refl; inputs_fit = ((tt, (tt, tt)), ((tt, (tt, tt)), ((tt, (tt, tt)), tt))); controls_fit = (variable_fits false true (second.now ∷ first.now ∷ []) third, (variable_fits true true (first.now ∷ []) second, (variable_fits true false [] first, tt))); reaction = (((tt, first.meets), second.meets), third.meets) };
      chosen = (((tt, chosen_now true false [] first), chosen_now true true (first.now ∷ []) second), chosen_now false true (second.now ∷ first.now ∷ []) third);
      gives = rw (gives_now true false [] first, gives_now true true (first.now ∷ []) second, gives_now false true (second.now ∷ first.now ∷ []) third) refl;
    }

-- What the contract says at these instants, whatever was before: the assumption, and what is enforced.
abbrev told : (r e : Bool) → Past → List Value
told r e past = (reacts r e past).now (Assume ∷ []) ∷ (reacts r e past).now (Enforce ∷ []) ∷ []

grant_tells : (r e : Bool) (past : Past) → told r e past ≡ B (not (r && e)) ∷ B (not ((r && true) && e)) ∷ []
grant_tells r e past = ap₂ (λ v w. v ∷ w ∷ []) (assumes_now r e past (reacts r e past)) (enforces_now r e past (reacts r e past))

first_tells : (past : Past) → told true false past ≡ B true ∷ B true ∷ []
first_tells past = grant_tells true false past

second_tells : (past : Past) → told true true past ≡ B false ∷ B false ∷ []
second_tells past = grant_tells true true past

third_tells : (past : Past) → told false true past ≡ B true ∷ B true ∷ []
third_tells past = grant_tells false true past
