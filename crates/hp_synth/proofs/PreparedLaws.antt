-- The references of a machine's gates, among those that the rounds of a solver work on.
use Rattle.std.proofs.Common.{◌≡◌, ℕ, zero, suc, ◌<◌, Bool, List, [], ◌∷◌, ◌++◌, length, map, slice_index_or, refl, sym, ap, subst, ◌∙◌, arith}
use Rattle.std.specs.List.{All}
use Rattle.std.proofs.lemmas.List.{append_assoc}
use Rattle.std.proofs.lemmas.List.Elements.{All-head, All-tail}
use Rattle.hp_diagram.specs.declared.reference.Ref.{Ref}
use Rattle.hp_diagram.specs.Diagrams.{Diagrams, Has, Means, Keeps, function}
use Rattle.hp_diagram.proofs.Choices.{Means-keeps}
use Rattle.hp_boolx.specs.Game.{Game, valid_choice, valid_early}
use Rattle.hp_boolx.specs.Machine.{Machine, IsMachine, bit, values, at_gate, game}
use Rattle.hp_boolx.specs.declared.gate.Gate.{Gate}
use Rattle.hp_synth.specs.Building.{HasEach, AreGates, functions_at}
use Rattle.hp_synth.specs.Kept.{AllMean}
use Rattle.hp_synth.specs.Sought.{base_at, next_from}
use Rattle.hp_synth.specs.Valued.{Valued, all, through, over, OfEarly, OfChoice}
use Rattle.hp_synth.proofs.SoughtLaws.{all-keeps}

-- ---- one gate

has-at : (t : Diagrams) (rs : List Ref) (k : ℕ) (d : Ref) → HasEach t rs → k < length rs → Has t (slice_index_or rs k d)
has-at t [] k d h l = absurd (omega (arith, l))
has-at t (r ∷ rs) zero d h l = All-head (Has t) r rs h
has-at t (r ∷ rs) (suc k) d h l = has-at t rs k d (All-tail (Has t) r rs h) (omega (arith, l))

function-at : (t : Diagrams) (rs : List Ref) (k : ℕ) (d : Ref) (v : Valued) → k < length rs → function t (slice_index_or rs k d) v ≡ bit (functions_at t rs v) k
function-at t [] k d v l = absurd (omega (arith, l))
function-at t (r ∷ rs) zero d v l = refl
function-at t (r ∷ rs) (suc k) d v l = function-at t rs k d v (omega (arith, l))

pub gate-at : (g : Game) (place : ℕ → ℕ) (t : Diagrams) (gs : List Gate) (rs : List Ref) (k : ℕ) (d : Ref) → AreGates g place t gs rs → k < length rs → Means t (over place (λ v. bit (values (all g v) [] gs) k)) (slice_index_or rs k d)
gate-at g place t gs rs k d a l = record { has = has-at t rs k d a.0 l; value = λ v. function-at t rs k d v l ∙ ap (λ q. bit q k) (a.1 v) }

-- ---- the next values

bit-map : (f : ℕ → Bool) (front : List ℕ) (k : ℕ) (ks : List ℕ) → bit (map f (front ++ k ∷ ks)) (length front) ≡ f k
bit-map f [] k ks = refl
bit-map f (j ∷ front) k ks = bit-map f front k ks

len-push : (front : List ℕ) (k : ℕ) → length (front ++ k ∷ []) ≡ suc (length front)
len-push [] k = refl
len-push (j ∷ front) k = ap suc (len-push front k)

module _ (m : Machine) (place : ℕ → ℕ) (t : Diagrams) (rs : List Ref) (d : Ref) (are : AreGates (game m) place t m.gates rs) where
  nexts : (front ks : List ℕ) → front ++ ks ≡ m.next → All (λ k. k < length rs) ks → AllMean t (map (over place) (next_from (game m) (length front) (length ks))) (map (λ k. slice_index_or rs k d) ks)
  nexts front [] e h = tt
  nexts front (k ∷ ks) e h =
      let g = game m in
      let is : Means t (over place (λ v. at_gate m (all g v) k)) (slice_index_or rs k d) = gate-at g place t m.gates rs k d are (All-head (λ j. j < length rs) k ks h) in
      let same : (v : Valued) → at_gate m (all g v) k ≡ bit (g.next (all g v)) (length front) =
      λ v. sym (bit-map (at_gate m (all g v)) front k ks) ∙ ap (λ (l : List ℕ). bit (map (at_gate m (all g v)) l) (length front)) e in
      let rest = nexts (front ++ k ∷ []) ks (append_assoc front (k ∷ []) ks ∙ e) (All-tail (λ j. j < length rs) k ks h) in (
        record { has = is.has; value = λ v. is.value v ∙ same (through place v) },
        subst (λ n. AllMean t (map (over place) (next_from g n (length ks))) (map (λ j. slice_index_or rs j d) ks)) (len-push front k) rest,
      )

  -- all references, where the table has grown
  pub prepared : (u : Diagrams) → Keeps t u → IsMachine m → length rs ≡ length m.gates → (choices earlies : Ref) → Means u (over place (OfChoice (game m) (valid_choice (game m)))) choices → Means u (over place (OfEarly (game m) (valid_early (game m)))) earlies →
      All (λ k. k < length rs) m.next →
      AllMean u (base_at place (game m)) ((slice_index_or rs m.valid d ∷ slice_index_or rs m.hyp d ∷ slice_index_or rs m.duty d ∷ choices ∷ earlies ∷ []) ++ map (λ k. slice_index_or rs k d) m.next)
  prepared u k is len choices earlies c e within =
      let g = game m in
      let keep : (n : ℕ) → n < length m.gates → Means u (over place (λ v. at_gate m (all g v) n)) (slice_index_or rs n d) = λ n l. Means-keeps t u k _ (slice_index_or rs n d) (gate-at g place t m.gates rs n d are (omega (arith, l, len))) in
      let next = all-keeps t u (map (over place) (next_from g 0 (length m.next))) (map (λ j. slice_index_or rs j d) m.next) k (nexts [] m.next refl within) in
      (keep m.valid is.valid, (keep m.hyp is.hyp, (keep m.duty is.duty, (c, (e, subst (λ n. AllMean u (map (over place) (next_from g 0 n)) (map (λ j. slice_index_or rs j d) m.next)) is.next next)))))
