-- Worked: a delay that is to be true. Its abstract instants by computing, and a violation that takes two instants.
use Rattle.std.proofs.Common.{◌≡◌, ℕ, zero, suc, inl, inr, List, [], ◌∷◌, refl, ◌∙◌}
use Rattle.std.specs.Prelude.{Bool, true, false, ◌&&◌, IsTrue, IsFalse, ◌⊎◌}
use Rattle.hp_base.specs.declared.value.Value.{Value}
use Rattle.hp_base.specs.declared.value.Value.TheVariants.{B}
use Rattle.hp_tree.specs.declared.program.Item.{Item}
use Rattle.hp_tree.specs.Programs.{Node}
use Rattle.hp_tree.specs.Instant.{Body, Assume, Enforce, Equations, Head, Right, First, Second, Fresh, Named, Place, Instant, Past, nothing}
use Rattle.hp_meaning.specs.Causal.Causality.{IsRanked}
use Rattle.hp_meaning.specs.Causal.Abstract.{abstract_meaning}
use Rattle.hp_meaning.specs.Causal.Steering.{steered_by}
use Rattle.hp_meaning.proofs.CausalLemmas.AbstractOne.{abstract_one}
use Rattle.hp_meaning.proofs.CausalLemmas.Ranking.{ranks_enough}
use Rattle.hp_meaning.proofs.CausalLemmas.Worked.{tested}
use Rattle.hp_meaning.specs.Contract.Duties.{hypothesis, duty}
use Rattle.hp_meaning.specs.Contract.Game.{at_controls, IsNext, Forced}
use Rattle.hp_meaning.proofs.ContractLemmas.Texts.{y, alone, remembered}
use Rattle.hp_meaning.proofs.ContractLemmas.GameWords.{of_none, as_given, no_call_fits}

-- ---- by computing

-- the abstract instant after a history, in rounds
abbrev pub abstractly : List Item → Node → Past → List Value → ℕ → Instant
abstractly program n history inputs zero = nothing
abstractly program n history inputs (suc k) =
    abstract_meaning program n.name inputs (record { past = history; free = steered_by nothing (at_controls []) }) (abstractly program n history inputs k)

-- a history that goes on by an instant with this input
abbrev pub after : Past → Bool → Past
after history x = abstractly (alone remembered) remembered history (B x ∷ []) 3 ∷ history

abbrev owed_now : Past → Bool
owed_now [] = true
owed_now (now ∷ history) = duty remembered now

-- The duty holds at first, and later where the input before was true. So what is remembered is that input, and that there was one.
owed_at_first : (x : Bool) → owed_now (after [] x) ≡ true
owed_at_first x = refl

owed_later : (was x : Bool) → owed_now (after (after [] was) x) ≡ was
owed_later true x = refl
owed_later false x = refl

owed_still_later : (first was x : Bool) → owed_now (after (after (after [] first) was) x) ≡ was
owed_still_later first true x = refl
owed_still_later first false x = refl

-- ---- the game

remembered_ranked : IsRanked (alone remembered)
remembered_ranked = (ranks_enough remembered (0 ∷ []) (tt, (tt, tt)) (tested remembered (0 ∷ []) refl refl), tt)

-- The instant has these inputs after a history, where nothing is chosen.
abbrev Follows : Past → Bool → Instant → Type 0
Follows history x now = (free : Instant) × ((p : Place) → now p ≡ abstract_meaning (alone remembered) remembered.name (B x ∷ []) (record { past = history; free = steered_by free (at_controls []) }) now p)

supposes : (history : Past) (x : Bool) (now : Instant) → Follows history x now → IsTrue (hypothesis remembered now)
supposes history x now m = rw (m.1 (Assume ∷ [])) refl

owes_at_first : (inputs : List Value) (free now : Instant) → ((p : Place) → now p ≡ abstract_meaning (alone remembered) remembered.name inputs (record { past = []; free = free }) now p) → IsTrue (duty remembered now)
owes_at_first inputs free now m = rw (m (Enforce ∷ []) ∙ m (Named y ∷ []) ∙ m (Body ∷ Named y ∷ [])) refl

owes_later : (was x : Bool) (before now : Instant) → Follows [] was before → Follows (before ∷ []) x now → duty remembered now ≡ was && true
owes_later was x before now m k =
    rw (k.1 (Enforce ∷ []) ∙ k.1 (Named y ∷ []) ∙ k.1 (Body ∷ Named y ∷ []), m.1 (Body ∷ Fresh ∷ []), m.1 (Body ∷ Equations ∷ Head ∷ Right ∷ First ∷ []), m.1 (Body ∷ Equations ∷ Head ∷ Right ∷ Second ∷ [])) refl

abbrev all_true : Instant
all_true = as_given (λ p. true)

follows : (history : Past) → (now : Instant) × IsNext (alone remembered) remembered history (B false ∷ []) all_true [] now × Follows history false now
follows history =
    let one = abstract_one (alone remembered) remembered.name (B false ∷ []) (record { past = history; free = steered_by all_true (at_controls []) }) remembered_ranked in (
      one.now,
      record { free = all_true; fits = no_call_fits (alone remembered) remembered one.now (λ p. true) refl; agrees = λ p e. refl; meets = one.meets },
      (all_true, one.meets),
    )

-- The input false leads to an instant at which the duty fails.
forced_in_two : Forced (alone remembered) remembered 2 []
forced_in_two = (
  (B false ∷ []),
  all_true,
  ((false, refl), tt),
  of_none (λ c. (now : Instant) × IsNext (alone remembered) remembered [] (B false ∷ []) all_true c now × IsTrue (hypothesis remembered now) × (IsFalse (duty remembered now) ⊎ Forced (alone remembered) remembered 1 (now ∷ [])))
      (let before = follows [] in (
        before.0,
        before.1,
        supposes [] false before.0 before.2,
        inr (
          (B false ∷ []),
          all_true,
          ((false, refl), tt),
          of_none (λ c. (now : Instant) × IsNext (alone remembered) remembered (before.0 ∷ []) (B false ∷ []) all_true c now × IsTrue (hypothesis remembered now) × (IsFalse (duty remembered now) ⊎ ⊥))
              (let now = follows (before.0 ∷ []) in
              (now.0, now.1, supposes (before.0 ∷ []) false now.0 now.2, inl (owes_later false false before.0 now.0 before.2 now.2))),
        ),
      )),
)

-- and at the first instant it holds
not_in_one : Forced (alone remembered) remembered 1 [] → ⊥
not_in_one forced =
    let bad = forced.3 [] tt in
    both (duty remembered bad.0) (owes_at_first forced.0 (steered_by bad.1.free (at_controls [])) bad.0 bad.1.meets) bad.3
  where
    both : (t : Bool) → IsTrue t → IsFalse t ⊎ ⊥ → ⊥
    both true h (inl f) = absurd (cc)
    both false h (inl f) = absurd (cc)
    both t h (inr f) = f
