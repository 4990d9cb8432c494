-- Slots that are laid down: one list behind another.
use Rattle.std.proofs.Common.{◌≡◌, ℕ, suc, ◌+◌, List, [], ◌∷◌, ◌++◌, length, sym, ap, subst, ◌∙◌, arith}
use Rattle.hp_tree.specs.Instant.{Instant}
use Rattle.hp_meaning.specs.Contract.Memory.{number_in}
use Rattle.hp_meaning.specs.Contract.Slots as slots
use Rattle.hp_meaning.specs.Contract.Slots.{register, free, input, control}
use Rattle.hp_circuit.specs.declared.circuit.Role.{Role}
use Rattle.hp_circuit.specs.declared.circuit.Role.TheVariants as role
use Rattle.hp_circuit.specs.declared.circuit.Slot.{Slot}
use Rattle.law_drawing.specs.Carrying.Drawing.{past, AreHeld, Takes, First, any_role, AreLaid}
use Rattle.law_drawing.proofs.CarryingLemmas.Numbers.{has-more}

-- ---- what slots hold

module _ (slot : ℕ → ℕ) (memory given : Instant) where
  pub held-first : (ss ts : List slots.Slot) (n : ℕ) → AreHeld slot memory given (ss ++ ts) n → AreHeld slot memory given ss n
  held-first [] ts n h = tt
  held-first (register p slots.truth ∷ ss) ts n h = (h.0, held-first ss ts (suc n) h.1)
  held-first (register p slots.mark ∷ ss) ts n h = held-first ss ts n h
  held-first (register p (slots.cons t m) ∷ ss) ts n h = (h.0, held-first ss ts (suc n) h.1)
  held-first (free p t ∷ ss) ts n h = (h.0, held-first ss ts (suc n) h.1)
  held-first (input p t ∷ ss) ts n h = (h.0, held-first ss ts (suc n) h.1)
  held-first (control p t ∷ ss) ts n h = (h.0, held-first ss ts (suc n) h.1)

  pub held-rest : (ss ts : List slots.Slot) (n : ℕ) → AreHeld slot memory given (ss ++ ts) n → AreHeld slot memory given ts (past ss n)
  held-rest [] ts n h = h
  held-rest (register p slots.truth ∷ ss) ts n h = held-rest ss ts (suc n) h.1
  held-rest (register p slots.mark ∷ ss) ts n h = held-rest ss ts n h
  held-rest (register p (slots.cons t m) ∷ ss) ts n h = held-rest ss ts (suc n) h.1
  held-rest (free p t ∷ ss) ts n h = held-rest ss ts (suc n) h.1
  held-rest (input p t ∷ ss) ts n h = held-rest ss ts (suc n) h.1
  held-rest (control p t ∷ ss) ts n h = held-rest ss ts (suc n) h.1

-- ---- what registers take

takes-more : (ns more : List ℕ) (k : ℕ) (r : Role) → Takes ns k r → Takes (ns ++ more) k r
takes-more ns more k (role.Register first next) h = has-more ns more next k h
takes-more ns more k role.Input h = h
takes-more ns more k role.Control h = h
takes-more ns more k (role.Free early) h = h

any_stays : (r : Role) → any_role r → any_role r
any_stays r h = h

first-map : (A B : Role → Type 0) (P Q : List Slot → Type 0) → ((r : Role) → A r → B r) → ((laid : List Slot) → P laid → Q laid) → (laid : List Slot) → First A P laid → First B Q laid
first-map A B P Q g h [] k = k
first-map A B P Q g h (slot ∷ laid) k = (g slot.role k.0, h laid k.1)

module _ (ns more : List ℕ) (next : Instant) where
  pub laid-more : (ss : List slots.Slot) (laid : List Slot) → AreLaid ns next ss laid → AreLaid (ns ++ more) next ss laid
  laid-more [] laid h = h
  laid-more (register p slots.truth ∷ ss) laid h = first-map (Takes ns (number_in (next p))) (Takes (ns ++ more) (number_in (next p))) (AreLaid ns next ss) (AreLaid (ns ++ more) next ss) (takes-more ns more (number_in (next p))) (laid-more ss) laid h
  laid-more (register p slots.mark ∷ ss) laid h = laid-more ss laid h
  laid-more (register p (slots.cons t m) ∷ ss) laid h = first-map (Takes ns (number_in (next p))) (Takes (ns ++ more) (number_in (next p))) (AreLaid ns next ss) (AreLaid (ns ++ more) next ss) (takes-more ns more (number_in (next p))) (laid-more ss) laid h
  laid-more (free p t ∷ ss) laid h = first-map any_role any_role (AreLaid ns next ss) (AreLaid (ns ++ more) next ss) any_stays (laid-more ss) laid h
  laid-more (input p t ∷ ss) laid h = first-map any_role any_role (AreLaid ns next ss) (AreLaid (ns ++ more) next ss) any_stays (laid-more ss) laid h
  laid-more (control p t ∷ ss) laid h = first-map any_role any_role (AreLaid ns next ss) (AreLaid (ns ++ more) next ss) any_stays (laid-more ss) laid h

first-join : (A : Role → Type 0) (P Q : List Slot → Type 0) (also : List Slot) → ((laid : List Slot) → P laid → Q (laid ++ also)) → (laid : List Slot) → First A P laid → First A Q (laid ++ also)
first-join A P Q also h [] k = absurd k
first-join A P Q also h (slot ∷ laid) k = (k.0, h laid k.1)

module _ (ns : List ℕ) (next : Instant) where
  pub laid-join : (ss ts : List slots.Slot) (laid also : List Slot) → AreLaid ns next ss laid → AreLaid ns next ts also → AreLaid ns next (ss ++ ts) (laid ++ also)
  laid-join [] ts laid also h k = subst (λ l. AreLaid ns next ts (l ++ also)) (sym h) k
  laid-join (register p slots.truth ∷ ss) ts laid also h k = first-join (Takes ns (number_in (next p))) (AreLaid ns next ss) (AreLaid ns next (ss ++ ts)) also (λ l g. laid-join ss ts l also g k) laid h
  laid-join (register p slots.mark ∷ ss) ts laid also h k = laid-join ss ts laid also h k
  laid-join (register p (slots.cons t m) ∷ ss) ts laid also h k = first-join (Takes ns (number_in (next p))) (AreLaid ns next ss) (AreLaid ns next (ss ++ ts)) also (λ l g. laid-join ss ts l also g k) laid h
  laid-join (free p t ∷ ss) ts laid also h k = first-join any_role (AreLaid ns next ss) (AreLaid ns next (ss ++ ts)) also (λ l g. laid-join ss ts l also g k) laid h
  laid-join (input p t ∷ ss) ts laid also h k = first-join any_role (AreLaid ns next ss) (AreLaid ns next (ss ++ ts)) also (λ l g. laid-join ss ts l also g k) laid h
  laid-join (control p t ∷ ss) ts laid also h k = first-join any_role (AreLaid ns next ss) (AreLaid ns next (ss ++ ts)) also (λ l g. laid-join ss ts l also g k) laid h

  first-length : (A : Role → Type 0) (P : List Slot → Type 0) (ss : List slots.Slot) → ((laid : List Slot) (n : ℕ) → P laid → n + length laid ≡ past ss n) → (laid : List Slot) (n : ℕ) → First A P laid → n + length laid ≡ past ss (suc n)
  first-length A P ss h [] n k = absurd k
  first-length A P ss h (slot ∷ laid) n k = let e : n + suc (length laid) ≡ suc n + length laid = omega arith in e ∙ h laid (suc n) k.1

  pub laid-length : (ss : List slots.Slot) (laid : List Slot) (n : ℕ) → AreLaid ns next ss laid → n + length laid ≡ past ss n
  laid-length [] laid n h = ap (λ l. n + length l) h ∙ (omega arith)
  laid-length (register p slots.truth ∷ ss) laid n h = first-length (Takes ns (number_in (next p))) (AreLaid ns next ss) ss (laid-length ss) laid n h
  laid-length (register p slots.mark ∷ ss) laid n h = laid-length ss laid n h
  laid-length (register p (slots.cons t m) ∷ ss) laid n h = first-length (Takes ns (number_in (next p))) (AreLaid ns next ss) ss (laid-length ss) laid n h
  laid-length (free p t ∷ ss) laid n h = first-length any_role (AreLaid ns next ss) ss (laid-length ss) laid n h
  laid-length (input p t ∷ ss) laid n h = first-length any_role (AreLaid ns next ss) ss (laid-length ss) laid n h
  laid-length (control p t ∷ ss) laid n h = first-length any_role (AreLaid ns next ss) ss (laid-length ss) laid n h
