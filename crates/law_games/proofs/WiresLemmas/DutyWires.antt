-- The hypothesis and the duty of an instant are those of its wires.
use Rattle.std.proofs.Common.{◌≡◌, inl, inr, List, [], ◌∷◌, refl, sym, ap, ap₂, ◌∙◌}
use Rattle.std.proofs.lemmas.List.Elements.{All-head, All-tail}
use Rattle.std.specs.Prelude.{Bool, ◌&&◌, ◌||◌, not, All}
use Rattle.std.specs.List.{list_all}
use Rattle.hp_tree.specs.Operators.{is_there}
use Rattle.hp_tree.specs.Instant.{Assume, Enforce, Fresh, Instant}
use Rattle.hp_meaning.specs.Causal.Points.{Placed}
use Rattle.hp_meaning.specs.Contract.Duties.{holds_or_missing, assumes, enforces}
use Rattle.hp_meaning.specs.Contract.FreePlaces.{calls_of, instance_at}
use Rattle.law_games.specs.Wires.Laws.{Seen, DutyLaw, instant_of}
use Rattle.law_games.proofs.WiresLemmas.Instants.{tops}
use Rattle.law_games.proofs.WiresLemmas.CallWires.{calls_seen}

assumed : (i j : Instant) → Seen i j → assumes i ≡ (not (is_there (i (Fresh ∷ []))) || assumes j)
assumed i j (inl t) = ap holds_or_missing t.1.0 ∙ sym (ap (λ d. not d || assumes j) t.0)
assumed i j (inr z) = ap holds_or_missing (z (Assume ∷ [])) ∙ sym (ap (λ v. not (is_there v) || assumes j) (z (Fresh ∷ [])))

kept : (i j : Instant) → Seen i j → (not (assumes i) || enforces i) ≡ (not (is_there (i (Fresh ∷ []))) || (not (assumes j) || enforces j))
kept i j (inl t) =
    ap₂ (λ u v. not (holds_or_missing u) || holds_or_missing v) t.1.0 t.1.1 ∙ sym (ap (λ d. not d || (not (assumes j) || enforces j)) t.0)
kept i j (inr z) =
    ap₂ (λ u v. not (holds_or_missing u) || holds_or_missing v) (z (Assume ∷ [])) (z (Enforce ∷ [])) ∙ sym (ap (λ v. not (is_there v) || (not (assumes j) || enforces j)) (z (Fresh ∷ [])))

-- a test of all calls, where it is the same at each
same_all : (P : Placed → Type 0) (f g : Placed → Bool) → ((c : Placed) → P c → f c ≡ g c) → (cs : List Placed) → All P cs → list_all f cs ≡ list_all g cs
same_all P f g e [] h = refl
same_all P f g e (c ∷ cs) h = ap₂ (λ u v. u && v) (e c (All-head P c cs h)) (same_all P f g e cs (All-tail P c cs h))

pub duties : DutyLaw
duties types items n inputs m now h =
    let s = instant_of types items n inputs m now in
    let own = tops types items n inputs m now h in
    let seen = calls_seen types items n inputs m now h in
    let P : Placed → Type 0 = λ c. Seen (instance_at c s) (instance_at c now) in (
      ap₂ (λ u v. u && v) (ap holds_or_missing own.0)
          (same_all P (λ c. not (assumes (instance_at c s)) || enforces (instance_at c s)) (λ c. not (is_there (instance_at c s (Fresh ∷ []))) || (not (assumes (instance_at c now)) || enforces (instance_at c now)))
          (λ c k. kept (instance_at c s) (instance_at c now) k) (calls_of n) seen),
      ap₂ (λ u v. u && v) (ap holds_or_missing own.1)
          (same_all P (λ c. assumes (instance_at c s)) (λ c. not (is_there (instance_at c s (Fresh ∷ []))) || assumes (instance_at c now))
          (λ c k. assumed (instance_at c s) (instance_at c now) k) (calls_of n) seen),
    )
