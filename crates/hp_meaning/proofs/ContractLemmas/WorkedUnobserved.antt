-- Worked: a node without a contract can be forced to break its callee's assumption, and the guarantee asks nothing of it.
use Rattle.std.proofs.Common.{◌≡◌, inl, List, [], ◌∷◌, refl, None, Some}
use Rattle.std.specs.Prelude.{true, false, IsTrue, IsFalse, ◌⊎◌, codes, reverse}
use Rattle.hp_base.specs.declared.value.Value.{Value}
use Rattle.hp_base.specs.declared.value.Value.TheVariants.{B}
use Rattle.hp_tree.specs.declared.program.Item.{Item}
use Rattle.hp_tree.specs.declared.program.Item.TheVariants.{NodeItem}
use Rattle.hp_tree.specs.Programs.{Node}
use Rattle.hp_tree.specs.Instant.{Body, Assume, Enforce, Equations, Head, Right, Instance, Place, Instant, Past}
use Rattle.hp_meaning.specs.declared.causal.point.PointKind.TheVariants as kind
use Rattle.hp_meaning.specs.Causal.Points.{Placed}
use Rattle.hp_meaning.specs.Causal.Causality.{Ranked}
use Rattle.hp_meaning.specs.Causal.Abstract.{abstract_meaning}
use Rattle.hp_meaning.specs.Causal.Steering.{steered_by}
use Rattle.hp_meaning.proofs.CausalLemmas.AbstractOne.{abstract_one}
use Rattle.hp_meaning.proofs.CausalLemmas.Ranking.{ranks_enough}
use Rattle.hp_meaning.proofs.CausalLemmas.Worked.{tested}
use Rattle.hp_meaning.specs.Contract.Duties.{hypothesis, duty}
use Rattle.hp_meaning.specs.Contract.Game.{at_controls, IsNext, Forced, Safe}
use Rattle.hp_meaning.specs.Contract.Guarantee.{HasContract, AllSafe}
use Rattle.hp_meaning.proofs.ContractLemmas.Games.{kept}
use Rattle.hp_meaning.proofs.ContractLemmas.Texts.{here, bool, truth, g, i, x, y, z, v, echo, promises, node, def, calls}
use Rattle.hp_meaning.proofs.ContractLemmas.GameWords.{of_none, as_given, one_call_fits}
use Rattle.hp_meaning.proofs.ContractLemmas.WorkedCalls.{wanting_ranked}

-- z = echo(i), where echo wants a true argument
abbrev passing : Node
passing = node g (bool i ∷ []) (bool z ∷ []) None (def z (calls (codes "echo") (v i)) ∷ [])

abbrev wanting : Node
wanting = echo (promises (Some (v x)) (truth true) [])

abbrev unobserved : List Item
unobserved = NodeItem wanting ∷ NodeItem passing ∷ []

abbrev the_call : Placed
the_call = record { point = record { kind = kind.Call; name = codes "echo"; span = here }; place = Body ∷ Equations ∷ Head ∷ Right ∷ [] }

abbrev of_callee : Place → Place
of_callee p = Body ∷ Equations ∷ Head ∷ Right ∷ Instance ∷ p

passing_ranked : Ranked passing
passing_ranked = ranks_enough passing (1 ∷ 0 ∷ []) (tt, (tt, tt)) (tested passing (1 ∷ 0 ∷ []) refl refl)

abbrev all_true : Instant
all_true = as_given (λ p. true)

module _ (now : Instant) (meets : (p : Place) → now p ≡ abstract_meaning unobserved passing.name (B false ∷ []) (record { past = []; free = steered_by all_true (at_controls []) }) now p) where
  passing_supposes : IsTrue (hypothesis passing now)
  passing_supposes = rw (meets (Assume ∷ []), meets (of_callee (Assume ∷ []))) refl

  passing_fails : IsFalse (duty passing now)
  passing_fails = rw (meets (Enforce ∷ []), meets (of_callee (Assume ∷ []))) refl

-- The input false breaks the assumption of the callee at once.
passing_is_forced : Forced unobserved passing 1 []
passing_is_forced = (
  (B false ∷ []),
  all_true,
  ((false, refl), tt),
  of_none (λ c. (now : Instant) × IsNext unobserved passing [] (B false ∷ []) all_true c now × IsTrue (hypothesis passing now) × (IsFalse (duty passing now) ⊎ ⊥))
      (let one = abstract_one unobserved passing.name (B false ∷ []) (record { past = []; free = steered_by all_true (at_controls []) }) (wanting_ranked, (passing_ranked, tt)) in (
        one.now,
        record { free = all_true; fits = one_call_fits unobserved passing the_call (bool y) one.now (λ p. true) refl refl refl; agrees = λ p early. refl; meets = one.meets },
        passing_supposes one.now one.meets,
        inl (passing_fails one.now one.meets),
      )),
)

passing_is_not_safe : Safe unobserved passing [] → ⊥
passing_is_not_safe safe = safe 1 passing_is_forced

wanting_owes : (inputs : List Value) (history : Past) (free now : Instant) → ((p : Place) → now p ≡ abstract_meaning unobserved wanting.name inputs (record { past = history; free = free }) now p) → IsTrue (duty wanting now)
wanting_owes inputs history free now meets = rw (meets (Enforce ∷ [])) refl

wanting_is_safe : Safe unobserved wanting []
wanting_is_safe =
    kept unobserved wanting (λ h. true)
    (λ history inputs early k fits. ([], tt, λ now next h. (wanting_owes inputs history (steered_by next.free (at_controls [])) now next.meets, refl)))
    [] refl

-- Still the guarantee speaks of this program.
all_safe : AllSafe unobserved (reverse unobserved)
all_safe = (no_contract, ((λ has. wanting_is_safe), tt))
  where
    no_contract : HasContract passing → Safe unobserved passing []
    no_contract (contract, e) = absurd (cc)
