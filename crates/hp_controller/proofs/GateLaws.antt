-- The variables of gates have their values.
use Rattle.std.proofs.Common.{◌≡◌, ◌⊎◌, inl, inr, ℕ, zero, suc, ◌+◌, ◌<◌, ◌≤◌, Bool, true, false, not, if◌then◌else◌, nat_lt, List, [], ◌∷◌, ◌++◌, length, refl, sym, ap, ap₂, subst, ◌∙◌, arith}
use Rattle.std.specs.List.{AllByRecursion}
use Rattle.std.proofs.lemmas.List.{length-append}
use Rattle.hp_base.specs.declared.value.Value.TheVariants.{B}
use Rattle.hp_boolx.specs.declared.gate.Gate.{Gate}
use Rattle.hp_boolx.specs.declared.gate.Gate.TheVariants as gate
use Rattle.hp_boolx.specs.Machine.{bit, gate_value, values}
use Rattle.hp_boolx.specs.Search.{Bits}
use Rattle.hp_obc.specs.Values.{operated, same_bool}
use Rattle.hp_flat.specs.declared.equation.Atom.TheVariants.{Variable as Read, Value as Fixed}
use Rattle.law_equations.specs.Meaning.Instants.{Instant, atom, atoms}
use Rattle.law_equations.specs.Meaning.Reactions.{Answers, Holds}
use Rattle.hp_controller.specs.Controllers.{equation}
use Rattle.hp_controller.specs.Gates.{gate_at, gate_op, gate_args, gate_eqns, HaveBits, GatesLaw}
use Rattle.hp_controller.proofs.ControllerLaws.{first_of, below-nat_lt, above-nat_lt, split_at}

-- ---- bits in a row

bit_none : (bs : Bits) (k : ℕ) → length bs ≤ k → bit bs k ≡ false
bit_none [] k h = refl
bit_none (b ∷ bs) zero h = absurd (omega (arith, h))
bit_none (b ∷ bs) (suc k) h = bit_none bs k (omega (arith, h))

bit_front : (bs : Bits) (b : Bool) (k : ℕ) → k < length bs → bit (bs ++ b ∷ []) k ≡ bit bs k
bit_front [] b k h = absurd (omega (arith, h))
bit_front (c ∷ bs) b zero h = refl
bit_front (c ∷ bs) b (suc k) h = bit_front bs b k (omega (arith, h))

bit_last : (bs : Bits) (b : Bool) → bit (bs ++ b ∷ []) (length bs) ≡ b
bit_last [] b = refl
bit_last (c ∷ bs) b = bit_last bs b

values_many : (v done : Bits) (gates : List Gate) → length (values v done gates) ≡ length done + length gates
values_many v done [] = let same : length done ≡ length done + 0 = omega arith in same
values_many v done (g ∷ gs) =
    let more = values_many v (done ++ gate_value v done g ∷ []) gs in
    let size = length-append done (gate_value v done g ∷ []) in
    omega (arith, more, size)

xor_is : (a b : Bool) → not (same_bool a b) ≡ (if a then not b else b)
xor_is true true = refl
xor_is true false = refl
xor_is false true = refl
xor_is false false = refl

picked : (c f g : Bool) → (if c then B f else B g) ≡ B (if c then f else g)
picked true f g = refl
picked false f g = refl

module _ (answers : Answers) (past : List Instant) (now : Instant) (places : List ℕ) (first : ℕ) (v : Bits) (have : HaveBits places now v) where
  -- those that are done have their values
  abbrev Done : Bits → Type 0
  Done done = (k : ℕ) → k < length done → now (first + k) ≡ B (bit done k)

  gate_is : (done : Bits) → Done done → (j : ℕ) (c : Bool) → nat_lt j (length done) ≡ c → atom now (if c then Read (first + j) else Fixed (B false)) ≡ B (bit done j)
  gate_is done h j true e = h j (below-nat_lt j (length done) e)
  gate_is done h j false e = ap B (sym (bit_none done j (above-nat_lt j (length done) e)))

  earlier : (done : Bits) → Done done → (j : ℕ) → atom now (gate_at first (length done) j) ≡ B (bit done j)
  earlier done h j = gate_is done h j (nat_lt j (length done)) refl

  value_is : (done : Bits) → Done done → (g : Gate) → operated (gate_op g) (atoms now (gate_args places first (length done) g)) ≡ B (gate_value v done g)
  value_is done h (gate.Const b) = refl
  value_is done h (gate.Var x) = have x
  value_is done h (gate.Not j) = ap (λ a. operated (gate_op (gate.Not j)) (a ∷ [])) (earlier done h j)
  value_is done h (gate.And j k) = ap₂ (λ a b. operated (gate_op (gate.And j k)) (a ∷ b ∷ [])) (earlier done h j) (earlier done h k)
  value_is done h (gate.Or j k) = ap₂ (λ a b. operated (gate_op (gate.Or j k)) (a ∷ b ∷ [])) (earlier done h j) (earlier done h k)
  value_is done h (gate.Xor j k) = ap₂ (λ a b. operated (gate_op (gate.Xor j k)) (a ∷ b ∷ [])) (earlier done h j) (earlier done h k) ∙ ap B (xor_is (bit done j) (bit done k))
  value_is done h (gate.Ite j k l) =
      (λ i. operated (gate_op (gate.Ite j k l)) (earlier done h j i ∷ earlier done h k i ∷ earlier done h l i ∷ [])) ∙ picked (bit done j) (bit done k) (bit done l)

  one_more : (done : Bits) (b : Bool) → Done done → now (first + length done) ≡ B b → Done (done ++ b ∷ [])
  one_more done b h e k l = by (split_at k (length done))
    where
      by : (k < length done) ⊎ (length done ≤ k) → now (first + k) ≡ B (bit (done ++ b ∷ []) k)
      by (inl m) = h k m ∙ ap B (sym (bit_front done b k m))
      by (inr m) =
          let size = length-append done (b ∷ []) in
          let same : length done ≡ k = omega (arith, m, l, size) in
          subst (λ j. now (first + j) ≡ B (bit (done ++ b ∷ []) j)) same (e ∙ ap B (sym (bit_last done b)))

  all_done : (done : Bits) (i : ℕ) → length done ≡ i → Done done → (gates : List Gate) → AllByRecursion (Holds answers past now) (gate_eqns places first i gates) → Done (values v done gates)
  all_done done i size h [] hs = h
  all_done done i size h (g ∷ gs) hs =
      let eqn : Holds answers past now (equation (length done) (first + length done) (gate_op g) (gate_args places first (length done) g)) =
      subst (λ j. Holds answers past now (equation j (first + j) (gate_op g) (gate_args places first j g))) (sym size) hs.0 in
      let grown = length-append done (gate_value v done g ∷ []) in
      all_done (done ++ gate_value v done g ∷ []) (i + 1) (omega (arith, grown, size)) (one_more done (gate_value v done g) h (ap first_of (eqn refl) ∙ value_is done h g)) gs hs.1

pub gates_valued : GatesLaw
gates_valued answers past now places first gates v have hs k l =
    let size = values_many v [] gates in
    all_done answers past now places first v have [] 0 refl (λ j m. absurd (omega (arith, m))) gates hs k (omega (arith, l, size))

-- where a gate is read, whether there is one or not
pub gate_read : (answers : Answers) (past : List Instant) (now : Instant) (places : List ℕ) (first : ℕ) (gates : List Gate) (v : Bits) → HaveBits places now v → AllByRecursion (Holds answers past now) (gate_eqns places first 0 gates)
    → (n : ℕ) → atom now (gate_at first (length gates) n) ≡ B (bit (values v [] gates) n)
gate_read answers past now places first gates v have hs n =
    let size = values_many v [] gates in
    let same : length (values v [] gates) ≡ length gates = omega (arith, size) in
    let done = all_done answers past now places first v have [] 0 refl (λ j m. absurd (omega (arith, m))) gates hs in
    subst (λ c. atom now (gate_at first c n) ≡ B (bit (values v [] gates) n)) same (earlier answers past now places first v have (values v [] gates) done n)
