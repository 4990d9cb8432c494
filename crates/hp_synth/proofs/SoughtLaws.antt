-- What a solver works on, in its list of references.
use Rattle.std.proofs.Common.{◌≡◌, ℕ, zero, suc, ◌+◌, ◌<◌, List, [], ◌∷◌, ◌++◌, length, map, slice_index_or, Option, Some, None, refl, ap, subst, ◌∙◌, arith}
use Rattle.std.proofs.lemmas.List.Elements.{All-nil, All-cons}
use Rattle.hp_diagram.specs.declared.reference.Ref.{Ref}
use Rattle.hp_diagram.specs.Diagrams.{Diagrams, Has, Means, Keeps}
use Rattle.hp_diagram.proofs.Choices.{Means-keeps}
use Rattle.hp_boolx.specs.Game.{Game, IsForm}
use Rattle.hp_boolx.specs.Machine.{bit}
use Rattle.hp_synth.specs.Building.{HasEach}
use Rattle.hp_synth.specs.Kept.{AllMean}
use Rattle.hp_synth.specs.Rounds.{AreSets}
use Rattle.hp_synth.specs.Sought.{base_at, next_from}
use Rattle.hp_synth.specs.Valued.{Fun, all, over}
use Rattle.hp_synth.proofs.Built.{next-replaced}

pub all-has : (t : Diagrams) (fs : List Fun) (rs : List Ref) → AllMean t fs rs → HasEach t rs
all-has t [] [] h = All-nil (Has t)
all-has t [] (r ∷ rs) h = absurd h
all-has t (f ∷ fs) [] h = absurd h
all-has t (f ∷ fs) (r ∷ rs) h = All-cons (Has t) r rs (h.0).has (all-has t fs rs h.1)

pub all-keeps : (t u : Diagrams) (fs : List Fun) (rs : List Ref) → Keeps t u → AllMean t fs rs → AllMean u fs rs
all-keeps t u [] [] k h = tt
all-keeps t u [] (r ∷ rs) k h = absurd h
all-keeps t u (f ∷ fs) [] k h = absurd h
all-keeps t u (f ∷ fs) (r ∷ rs) k h = (Means-keeps t u k f r h.0, all-keeps t u fs rs k h.1)

pub all-len : (t : Diagrams) (fs : List Fun) (rs : List Ref) → AllMean t fs rs → length fs ≡ length rs
all-len t [] [] h = refl
all-len t [] (r ∷ rs) h = absurd h
all-len t (f ∷ fs) [] h = absurd h
all-len t (f ∷ fs) (r ∷ rs) h = ap suc (all-len t fs rs h.1)

pub all-both : (t : Diagrams) (fs gs : List Fun) (rs ss : List Ref) → AllMean t fs rs → AllMean t gs ss → AllMean t (fs ++ gs) (rs ++ ss)
all-both t [] gs [] ss h k = k
all-both t [] gs (r ∷ rs) ss h k = absurd h
all-both t (f ∷ fs) gs [] ss h k = absurd h
all-both t (f ∷ fs) gs (r ∷ rs) ss h k = (h.0, all-both t fs gs rs ss h.1 k)

-- and nothing behind them
pub none-more : (t : Diagrams) (fs : List Fun) (rs : List Ref) → AllMean t fs rs → AllMean t (fs ++ []) rs
none-more t [] rs h = h
none-more t (f ∷ fs) [] h = absurd h
none-more t (f ∷ fs) (r ∷ rs) h = (h.0, none-more t fs rs h.1)

-- ---- the next values of registers

next-at : (g : Game) (place : ℕ → ℕ) (t : Diagrams) (k n : ℕ) (rest : List Fun) (rs : List Ref) (d : Ref) → AllMean t (map (over place) (next_from g k n) ++ rest) rs → (i : ℕ) → i < n → Means t (over place (λ v. bit (g.next (all g v)) (k + i))) (slice_index_or rs i d)
next-at g place t k zero rest rs d h i l = absurd (omega (arith, l))
next-at g place t k (suc n) rest [] d h i l = absurd h
next-at g place t k (suc n) rest (r ∷ rs) d h zero l = subst (λ (m : ℕ). Means t (over place (λ v. bit (g.next (all g v)) m)) r) (omega arith) h.0
next-at g place t k (suc n) rest (r ∷ rs) d h (suc i) l =
    subst (λ (m : ℕ). Means t (over place (λ v. bit (g.next (all g v)) m)) (slice_index_or rs i d)) (omega arith) (next-at g place t (suc k) n rest rs d h.1 i (omega (arith, l)))

pub are-sets : (g : Game) → IsForm g → (place : ℕ → ℕ) (t : Diagrams) (roots : List Ref) (rest : List Fun) (by : List (Option Ref)) (d : Ref) → AllMean t (base_at place g ++ rest) roots →
    ((k : ℕ) → k < g.registers → slice_index_or by (place k) None ≡ Some (slice_index_or roots (5 + k) d)) →
    AreSets place t (record { valid = slice_index_or roots 0 d; hyp = slice_index_or roots 1 d; duty = slice_index_or roots 2 d; choices = slice_index_or roots 3 d; earlies = slice_index_or roots 4 d }) by g
are-sets g form place t [] rest by d h at = absurd h
are-sets g form place t (a ∷ []) rest by d h at = absurd h.1
are-sets g form place t (a ∷ b ∷ []) rest by d h at = absurd h.1.1
are-sets g form place t (a ∷ b ∷ c ∷ []) rest by d h at = absurd h.1.1.1
are-sets g form place t (a ∷ b ∷ c ∷ e ∷ []) rest by d h at = absurd h.1.1.1.1
are-sets g form place t (a ∷ b ∷ c ∷ e ∷ f ∷ rs) rest by d h at =
    let nexts = h.1.1.1.1.1 in
    let all_of = a ∷ b ∷ c ∷ e ∷ f ∷ rs in
    record {
      valid = h.0;
      hyp = h.1.0;
      duty = h.1.1.0;
      choices = h.1.1.1.0;
      earlies = h.1.1.1.1.0;
      next = next-replaced g form place t by (λ k l.
          let root : slice_index_or all_of (5 + k) d ≡ slice_index_or rs k d = ap (λ n. slice_index_or all_of n d) (let n : 5 + k ≡ suc (suc (suc (suc (suc k)))) = omega arith in n) in
          let is : Means t (over place (λ v. bit (g.next (all g v)) (0 + k))) (slice_index_or rs k d) = next-at g place t 0 g.registers rest rs d nexts k l in
          (slice_index_or rs k d, at k l ∙ ap Some root, subst (λ (m : ℕ). Means t (over place (λ v. bit (g.next (all g v)) m)) (slice_index_or rs k d)) (omega arith) is));
    }
