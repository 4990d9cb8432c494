-- Worked games of a node that calls: its callee's output is late, and the callee's contract counts.
use Rattle.std.proofs.Common.{◌≡◌, inl, inr, List, [], ◌∷◌, refl, sym, ap, ◌∙◌, subst, None, Some}
use Rattle.std.specs.Prelude.{Bool, true, false, not, ◌||◌, ◌&&◌, IsTrue, IsFalse, ◌⊎◌, if◌then◌else◌, Option, codes}
use Rattle.hp_base.specs.declared.value.Value.{Value}
use Rattle.hp_base.specs.declared.value.Value.TheVariants.{B}
use Rattle.hp_tree.specs.declared.expr.Op1.TheVariants.{Not}
use Rattle.hp_tree.specs.declared.expr.Op2.TheVariants.{Eq}
use Rattle.hp_tree.specs.declared.program.Item.TheVariants.{NodeItem}
use Rattle.hp_tree.specs.Expressions.{one, two}
use Rattle.hp_tree.specs.Programs.{Contract, Node}
use Rattle.hp_tree.specs.Operators.{same_bool, marked}
use Rattle.hp_tree.specs.Instant.{Body, Observer, Fresh, Assume, Enforce, Equations, Head, Tail, Right, Args, First, Named, Instance, Place, Instant, Past, Clock}
use Rattle.hp_meaning.specs.declared.causal.point.PointKind.TheVariants as kind
use Rattle.hp_meaning.specs.Causal.Points.{Placed}
use Rattle.hp_meaning.specs.Causal.Causality.{Ranked}
use Rattle.hp_meaning.specs.Causal.RanksOfPoints.{same_place}
use Rattle.hp_meaning.specs.Causal.Abstract.{abstract_meaning}
use Rattle.hp_meaning.specs.Causal.Steering.{steered_by}
use Rattle.hp_meaning.proofs.CausalLemmas.AbstractOne.{abstract_one}
use Rattle.hp_meaning.proofs.CausalLemmas.Choices.{by_cases, if_false}
use Rattle.hp_meaning.proofs.CausalLemmas.Ranking.{ranks_enough, place_same}
use Rattle.hp_meaning.proofs.CausalLemmas.Worked.{tested}
use Rattle.hp_meaning.specs.Contract.FreePlaces.{IsEarly}
use Rattle.hp_meaning.specs.Contract.Duties.{hypothesis, duty}
use Rattle.hp_meaning.specs.Contract.Game.{at_controls, IsNext, Forced, Permitted, Safe, IsChosen, AtMost}
use Rattle.hp_meaning.proofs.ContractLemmas.Games.{kept}
use Rattle.hp_meaning.proofs.ContractLemmas.Texts.{here, bool, truth, c, v, x, y, z, silent, faithful, demanding, echo, top, same_outputs, promises}
use Rattle.hp_meaning.proofs.ContractLemmas.GameWords.{of_one, may_be, at_most_true, compared, as_given, one_call_fits, one_output}

abbrev pub the_call : Placed
the_call = record { point = record { kind = kind.Call; name = codes "echo"; span = here }; place = Body ∷ Equations ∷ Head ∷ Right ∷ [] }

abbrev given_output : Place
given_output = Body ∷ Equations ∷ Head ∷ Right ∷ Instance ∷ Named y ∷ []

abbrev pub of_callee : Place → Place
of_callee p = Body ∷ Equations ∷ Head ∷ Right ∷ Instance ∷ p

-- The output of the call is one value or the other, and all else is true.
abbrev gives : Bool → Place → Bool
gives output p = if same_place p given_output then output else true

-- ---- an echo of the controllable variable, which is to be the variable

abbrev steered : Node
steered = top same_outputs (v c)

steered_ranked : Ranked steered
steered_ranked = ranks_enough steered (0 ∷ 2 ∷ 1 ∷ 1 ∷ []) (tt, (tt, (tt, tt))) (tested steered (0 ∷ 2 ∷ 1 ∷ 1 ∷ []) refl refl)

-- The output is not early, since it reads the call, which reads the controllable variable.
output_is_late : IsEarly silent steered given_output → ⊥
output_is_late early = early.unsteered ((Body ∷ Equations ∷ Head ∷ Right ∷ []) ∷ []) (Head ∷ []) (inr refl, inr (inl refl))

module _ (contract : Option Contract) (inputs : List Value) (history : Past) (free : Instant) (chosen : Bool) (now : Instant) (meets : (p : Place) → now p ≡ abstract_meaning (NodeItem (echo contract) ∷ NodeItem steered ∷ []) steered.name inputs (record { past = history; free = steered_by free (at_controls (B chosen ∷ [])) }) now p) where
  output_is : now (Named y ∷ []) ≡ marked (free given_output)
  output_is = meets (Named y ∷ []) ∙ meets (Body ∷ Named y ∷ [])

  variable_is : now (Named z ∷ []) ≡ B chosen
  variable_is = meets (Named z ∷ []) ∙ meets (Body ∷ Named z ∷ [])

  enforced_is : (given : Bool) → free given_output ≡ B given → now (Enforce ∷ []) ≡ B (same_bool given chosen)
  enforced_is given e =
      meets (Enforce ∷ []) ∙ compared (now (Named y ∷ [])) (now (Named z ∷ [])) given chosen (free (Enforce ∷ [])) (output_is ∙ ap marked e) variable_is

-- ---- of the callee nothing is known

echo_ranked : Ranked (echo None)
echo_ranked = ranks_enough (echo None) (0 ∷ []) (tt, (tt, tt)) (tested (echo None) (0 ∷ []) refl refl)

module _ (inputs : List Value) (history : Past) (free : Instant) (chosen : Bool) (now : Instant) (meets : (p : Place) → now p ≡ abstract_meaning silent steered.name inputs (record { past = history; free = steered_by free (at_controls (B chosen ∷ [])) }) now p) where
  silent_supposes : IsTrue (hypothesis steered now)
  silent_supposes = rw (meets (Assume ∷ []), meets (of_callee (Assume ∷ [])), meets (of_callee (Enforce ∷ []))) refl

  silent_owes : (given : Bool) → free given_output ≡ B given → duty steered now ≡ same_bool given chosen && true
  silent_owes given e = rw (enforced_is None inputs history free chosen now meets given e, meets (of_callee (Assume ∷ []))) refl

differs : (t : Bool) → IsFalse (same_bool (not t) t && true)
differs true = refl
differs false = refl

contrary_agrees : (chosen : Bool) (p : Place) → IsEarly silent steered p → B (gives (not chosen) p) ≡ B true
contrary_agrees chosen p early =
    ap B (by_cases (same_place p given_output)
    (λ e. absurd (output_is_late (subst (IsEarly silent steered) (place_same p given_output e) early)))
    (λ e. if_false (same_place p given_output) (not chosen) true e))

-- A violation is forced at once: the output is known after the choice.
late_after_choice : Forced silent steered 1 []
late_after_choice = (
  (B true ∷ []),
  (λ p. B true),
  ((true, refl), tt),
  of_one (λ c. (now : Instant) × IsNext silent steered [] (B true ∷ []) (λ p. B true) c now × IsTrue (hypothesis steered now) × (IsFalse (duty steered now) ⊎ ⊥))
      (λ chosen.
      let free = as_given (gives (not chosen)) in
      let one = abstract_one silent steered.name (B true ∷ []) (record { past = []; free = steered_by free (at_controls (B chosen ∷ [])) }) (echo_ranked, (steered_ranked, tt)) in (
        one.now,
        record { free = free; fits = one_call_fits silent steered the_call (bool y) one.now (gives (not chosen)) refl refl refl; agrees = contrary_agrees chosen; meets = one.meets },
        silent_supposes (B true ∷ []) [] free chosen one.now one.meets,
        inl (silent_owes (B true ∷ []) [] free chosen one.now one.meets (not chosen) refl ∙ differs chosen),
      )),
)

-- ---- the callee promises to echo

abbrev echoes : Option Contract
echoes = promises None ((two here Eq (v y) (v x))) []

module _ (inputs : List Value) (history : Past) (free : Instant) (chosen : Bool) (now : Instant) (meets : (p : Place) → now p ≡ abstract_meaning faithful steered.name inputs (record { past = history; free = steered_by free (at_controls (B chosen ∷ [])) }) now p) where
  promise_is : (given : Bool) → free given_output ≡ B given → now (of_callee (Enforce ∷ [])) ≡ B (same_bool given chosen)
  promise_is given e = meets (of_callee (Enforce ∷ [])) ∙ compared (marked (free given_output)) (B chosen) given chosen (free (of_callee (Enforce ∷ []))) (ap marked e) refl

  faithful_supposes : (given : Bool) → free given_output ≡ B given → hypothesis steered now ≡ same_bool given chosen && true
  faithful_supposes given e = rw (meets (Assume ∷ []), meets (of_callee (Assume ∷ [])), promise_is given e) refl

  faithful_owes : (given : Bool) → free given_output ≡ B given → duty steered now ≡ same_bool given chosen && true
  faithful_owes given e = rw (enforced_is echoes inputs history free chosen now meets given e, meets (of_callee (Assume ∷ []))) refl

-- So both choices keep the duty, and nothing is ever forced.
echo_keeps : (history : Past) (inputs : List Value) (early : Instant) (chosen : Bool) (now : Instant) → IsNext faithful steered history inputs early (B chosen ∷ []) now → IsTrue (hypothesis steered now) → IsTrue (duty steered now)
echo_keeps history inputs early chosen now next h =
    let g = one_output faithful steered the_call (bool y) now next.free refl refl refl next.fits (rw (next.meets (of_callee (Fresh ∷ []))) refl) in
    faithful_owes inputs history next.free chosen now next.meets g.0 g.1 ∙ sym (faithful_supposes inputs history next.free chosen now next.meets g.0 g.1) ∙ h

faithful_is_safe : (history : Past) → Safe faithful steered history
faithful_is_safe history =
    kept faithful steered (λ h. true)
    (λ history inputs early k fits. ((B true ∷ []), may_be true, λ now next h. (echo_keeps history inputs early true now next h, refl)))
    history refl

-- the greatest choice is taken
faithful_choice : (history : Past) (inputs : List Value) (early : Instant) → IsChosen faithful steered history inputs early (B true ∷ [])
faithful_choice history inputs early =
    record {
      fits = may_be true;
      greatest = λ d l p. ((λ now next h. (echo_keeps history inputs early true now next h, faithful_is_safe (now ∷ history))), of_one (λ d. AtMost [] (bool c ∷ []) d (B true ∷ [])) at_most_true d l);
      else_preferred = λ none. refl;
    }

-- ---- the callee wants a true argument, and is called with what the controllable variable is not

abbrev pub careful : Node
careful = top (truth true) (one here Not (v c))

wants : Option Contract
wants = promises (Some (v x)) (truth true) []

pub wanting_ranked : Ranked (echo (promises (Some (v x)) (truth true) []))
wanting_ranked = ranks_enough (echo (promises (Some (v x)) (truth true) [])) (0 ∷ []) (tt, (tt, tt)) (tested (echo (promises (Some (v x)) (truth true) [])) (0 ∷ []) refl refl)

pub careful_ranked : Ranked careful
careful_ranked = ranks_enough careful (0 ∷ 2 ∷ 1 ∷ 1 ∷ []) (tt, (tt, (tt, tt))) (tested careful (0 ∷ 2 ∷ 1 ∷ 1 ∷ []) refl refl)

module _ (inputs : List Value) (history : Past) (free : Instant) (chosen : Bool) (now : Instant) (meets : (p : Place) → now p ≡ abstract_meaning demanding careful.name inputs (record { past = history; free = steered_by free (at_controls (B chosen ∷ [])) }) now p) where
  careful_supposes : IsTrue (hypothesis careful now)
  careful_supposes = rw (meets (Assume ∷ []), meets (of_callee (Assume ∷ [])), meets (of_callee (Enforce ∷ []))) (either chosen)
    where
      either : (t : Bool) → IsTrue ((not (not t) || true) && true)
      either true = refl
      either false = refl

  -- The assumption of the callee is a duty.
  careful_owes : duty careful now ≡ not chosen && true
  careful_owes = rw (meets (Enforce ∷ []), meets (of_callee (Assume ∷ []))) refl

abbrev base : Clock
base = []

not_free : None ≡ Some base → ⊥
not_free e = absurd (cc)

-- No place is early: the outputs of the call read it, and it reads the controllable variable.
none_early : (p : Place) → IsEarly demanding careful p → ⊥
none_early (Body ∷ Equations ∷ Head ∷ Right ∷ Instance ∷ Named w ∷ []) early =
    early.unsteered ((Body ∷ Equations ∷ Head ∷ Right ∷ []) ∷ []) (Head ∷ []) (inr refl, inr (inl refl))
none_early (Body ∷ Equations ∷ Head ∷ Right ∷ Args ∷ Head ∷ First ∷ p) early = not_free early.on_base
none_early (Body ∷ Equations ∷ Tail ∷ Head ∷ Right ∷ p) early = not_free early.on_base
none_early (Observer ∷ Equations ∷ p) early = not_free early.on_base
none_early p early = not_free early.on_base

-- With the variable true the argument is false.
true_is_refused : (history : Past) (inputs : List Value) (early : Instant) → Permitted demanding careful history inputs early (B true ∷ []) → ⊥
true_is_refused history inputs early permitted =
    let free = as_given (λ p. true) in
    let one = abstract_one demanding careful.name inputs (record { past = history; free = steered_by free (at_controls (B true ∷ [])) }) (wanting_ranked, (careful_ranked, tt)) in
    let next : IsNext demanding careful history inputs early (B true ∷ []) one.now =
    record {
      free = free;
      fits = one_call_fits demanding careful the_call (bool y) one.now (λ p. true) refl refl refl;
      agrees = λ p e. absurd (none_early p e);
      meets = one.meets;
    } in
    let owed = (permitted one.now next (careful_supposes inputs history free true one.now one.meets)).0 in
    false_is_not (sym (careful_owes inputs history free true one.now one.meets) ∙ owed)
  where
    false_is_not : IsTrue false → ⊥
    false_is_not e = absurd (cc)

careful_keeps : (history : Past) (inputs : List Value) (early : Instant) (now : Instant) → IsNext demanding careful history inputs early (B false ∷ []) now → IsTrue (duty careful now)
careful_keeps history inputs early now next = careful_owes inputs history next.free false now next.meets

demanding_is_safe : (history : Past) → Safe demanding careful history
demanding_is_safe history =
    kept demanding careful (λ h. true)
    (λ history inputs early k fits. ((B false ∷ []), may_be false, λ now next h. (careful_keeps history inputs early now next, refl)))
    history refl

-- So the variable is false.
pub careful_choice : (history : Past) (inputs : List Value) (early : Instant) → IsChosen demanding careful history inputs early (B false ∷ [])
careful_choice history inputs early =
    record {
      fits = may_be false;
      greatest = λ d l p. (keeping, of_one (λ d. Permitted demanding careful history inputs early d → AtMost [] (bool c ∷ []) d (B false ∷ [])) below d l p);
      else_preferred = λ none. absurd (none (B false ∷ []) (may_be false) keeping);
    }
  where
    keeping : Permitted demanding careful history inputs early (B false ∷ [])
    keeping now next h = (careful_keeps history inputs early now next, demanding_is_safe (now ∷ history))

    below : (t : Bool) → Permitted demanding careful history inputs early (B t ∷ []) → AtMost [] (bool c ∷ []) (B t ∷ []) (B false ∷ [])
    below true p = absurd (true_is_refused history inputs early p)
    below false p = inr (refl, tt)
