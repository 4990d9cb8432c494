-- Worked games of comparisons: each one is free by itself, and those of a node itself are early.
use Rattle.std.proofs.Common.{◌≡◌, inl, List, [], ◌∷◌, refl, sym, ap, ◌∙◌, ⊎_elim}
use Rattle.std.specs.Prelude.{Bool, true, false, ◌&&◌, IsTrue, IsFalse, ◌⊎◌, if◌then◌else◌, pos}
use Rattle.hp_base.specs.declared.value.Value.{Value}
use Rattle.hp_base.specs.declared.value.Value.TheVariants.{B, I, Star}
use Rattle.hp_tree.specs.declared.expr.Op2.TheVariants.{Gt}
use Rattle.hp_tree.specs.Operators.{same_bool, is_true, marked, two_marked}
use Rattle.hp_tree.specs.Instant.{Body, Controls, Assume, Enforce, Equations, Head, Right, First, Second, Named, Place, Instant, Past}
use Rattle.hp_meaning.specs.Causal.Causality.{IsRanked, Reads, Chain}
use Rattle.hp_meaning.specs.Causal.RanksOfPoints.{same_place}
use Rattle.hp_meaning.specs.Causal.Abstract.{abstract_meaning}
use Rattle.hp_meaning.specs.Causal.Steering.{steered_by}
use Rattle.hp_meaning.proofs.CausalLemmas.AbstractOne.{abstract_one}
use Rattle.hp_meaning.proofs.CausalLemmas.Ranking.{ranks_enough}
use Rattle.hp_meaning.proofs.CausalLemmas.Worked.{tested}
use Rattle.hp_meaning.specs.Contract.FreePlaces.{IsEarly, InputsFit}
use Rattle.hp_meaning.specs.Contract.Duties.{hypothesis, duty}
use Rattle.hp_meaning.specs.Contract.Game.{at_controls, IsNext, Forced, Safe}
use Rattle.hp_meaning.proofs.ContractLemmas.Games.{kept}
use Rattle.hp_meaning.proofs.ContractLemmas.Texts.{b, y, z, alone, compared_twice, compared_once, matched}
use Rattle.hp_meaning.proofs.ContractLemmas.GameWords.{may_be, of_none, compared, as_given, no_call_fits}

abbrev in_body : Place
in_body = Body ∷ Equations ∷ Head ∷ Right ∷ []

-- ---- the same comparison twice: nothing says that both give the same

twice_ranked : IsRanked (alone compared_twice)
twice_ranked = (ranks_enough compared_twice (0 ∷ []) (tt, (tt, tt)) (tested compared_twice (0 ∷ []) refl refl), tt)

abbrev unlike : Place → Bool
unlike p = if same_place p (Enforce ∷ Second ∷ []) then false else true

forced_by_two : Forced (alone compared_twice) compared_twice 1 []
forced_by_two = (
  (I (pos 0) ∷ []),
  as_given unlike,
  (refl, tt),
  of_none (λ c. (now : Instant) × IsNext (alone compared_twice) compared_twice [] (I (pos 0) ∷ []) (as_given unlike) c now × IsTrue (hypothesis compared_twice now) × (IsFalse (duty compared_twice now) ⊎ ⊥))
      (let free = as_given unlike in
      let one = abstract_one (alone compared_twice) compared_twice.name (I (pos 0) ∷ []) (record { past = []; free = steered_by free (at_controls []) }) twice_ranked in
      let now = one.now in (
        now,
        record { free = free; fits = no_call_fits (alone compared_twice) compared_twice now unlike refl; agrees = λ p e. refl; meets = one.meets },
        rw (one.meets (Assume ∷ [])) refl,
        inl (rw (one.meets (Enforce ∷ []) ∙ compared (now (Named y ∷ [])) (B false) true false (free (Enforce ∷ [])) (one.meets (Named y ∷ []) ∙ one.meets (Body ∷ Named y ∷ [])) refl) refl),
      )),
)

-- ---- a comparison that has a name is one value

same_twice : (t : Bool) → IsTrue (same_bool t t && true)
same_twice true = refl
same_twice false = refl

module _ (value : Value) (is : marked value ≡ Star) (history : Past) (free : Instant) (now : Instant) (meets : (p : Place) → now p ≡ abstract_meaning (alone compared_once) compared_once.name (value ∷ []) (record { past = history; free = steered_by free (at_controls []) }) now p) where
  named_is : now (Body ∷ Named b ∷ []) ≡ free in_body
  named_is = meets (Body ∷ Named b ∷ []) ∙ ap (λ w. two_marked Gt (free in_body) w Star) is

  once_owes : (given : Bool) → free in_body ≡ B given → IsTrue (duty compared_once now)
  once_owes given e =
      rw (meets (Enforce ∷ [])
      ∙ compared (now (Named y ∷ [])) (now (Named b ∷ [])) given given (free (Enforce ∷ []))
      (meets (Named y ∷ []) ∙ meets (Body ∷ Named y ∷ []) ∙ named_is ∙ e) (meets (Named b ∷ []) ∙ named_is ∙ e))
      (same_twice given)

once_keeps : (history : Past) (inputs : List Value) (early : Instant) (now : Instant) → InputsFit [] compared_once.inputs inputs → IsNext (alone compared_once) compared_once history inputs early [] now → IsTrue (duty compared_once now)
once_keeps history [] early now fits next = absurd fits
once_keeps history (value ∷ w ∷ inputs) early now fits next = absurd fits.1
once_keeps history (value ∷ []) early now fits next =
    let given = next.fits.comparisons in_body (next.meets (Body ∷ Equations ∷ Head ∷ Right ∷ First ∷ []) ∙ fits.0) (next.meets (Body ∷ Equations ∷ Head ∷ Right ∷ Second ∷ [])) (next.meets in_body ∙ ap (λ w. two_marked Gt (next.free in_body) w Star) fits.0) in
    once_owes value fits.0 history next.free now next.meets given.0 given.1

once_is_safe : (history : Past) → Safe (alone compared_once) compared_once history
once_is_safe history =
    kept (alone compared_once) compared_once (λ h. true)
    (λ history inputs early k fits. ([], tt, λ now next h. (once_keeps history inputs early now fits next, refl)))
    history refl

-- ---- a comparison of the node itself is early, so a controllable variable may match it

reads_none : (q : Place) → Reads matched in_body q → ⊥
reads_none q r = ⊎_elim (λ n. n) (λ s. ⊎_elim (λ n. n) (λ n. n) s) r

comparison_is_early : IsEarly (alone matched) matched in_body
comparison_is_early = record { is_free = inl refl; on_base = refl; unsteered = by_none }
  where
    by_none : (between : List Place) (q : Place) → Chain matched in_body between (Controls ∷ q) → ⊥
    by_none [] q chain = reads_none (Controls ∷ q) chain
    by_none (r ∷ between) q chain = reads_none r chain.0

module _ (value : Value) (is : marked value ≡ Star) (history : Past) (free : Instant) (chosen : Bool) (now : Instant) (meets : (p : Place) → now p ≡ abstract_meaning (alone matched) matched.name (value ∷ []) (record { past = history; free = steered_by free (at_controls (B chosen ∷ [])) }) now p) where
  matched_owes : free in_body ≡ B chosen → IsTrue (duty matched now)
  matched_owes e =
      rw (meets (Enforce ∷ [])
      ∙ compared (now (Named y ∷ [])) (now (Named z ∷ [])) chosen chosen (free (Enforce ∷ []))
      (meets (Named y ∷ []) ∙ meets (Body ∷ Named y ∷ []) ∙ ap (λ w. two_marked Gt (free in_body) w Star) is ∙ e)
      (meets (Named z ∷ []) ∙ meets (Body ∷ Named z ∷ [])))
      (same_twice chosen)

-- The choice is the early value.
matched_keeps : (history : Past) (inputs : List Value) (early : Instant) (now : Instant) → InputsFit [] matched.inputs inputs → IsNext (alone matched) matched history inputs early (B (is_true (early in_body)) ∷ []) now → IsTrue (duty matched now)
matched_keeps history [] early now fits next = absurd fits
matched_keeps history (value ∷ w ∷ inputs) early now fits next = absurd fits.1
matched_keeps history (value ∷ []) early now fits next =
    let given = next.fits.comparisons in_body (next.meets (Body ∷ Equations ∷ Head ∷ Right ∷ First ∷ []) ∙ fits.0) (next.meets (Body ∷ Equations ∷ Head ∷ Right ∷ Second ∷ [])) (next.meets in_body ∙ ap (λ w. two_marked Gt (next.free in_body) w Star) fits.0) in
    let known = sym (next.agrees in_body comparison_is_early) ∙ given.1 in
    matched_owes value fits.0 history next.free (is_true (early in_body)) now next.meets (given.1 ∙ ap B (sym (ap is_true known)))

matched_is_safe : (history : Past) → Safe (alone matched) matched history
matched_is_safe history =
    kept (alone matched) matched (λ h. true)
    (λ history inputs early k fits. ((B (is_true (early in_body)) ∷ []), may_be (is_true (early in_body)), λ now next h. (matched_keeps history inputs early now fits next, refl)))
    history refl
