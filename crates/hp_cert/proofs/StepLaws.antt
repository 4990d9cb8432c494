-- The steps of certificates as facts of valuations.
use Rattle.std.proofs.Common.{◌≡◌, ◌↔◌, ◌⊎◌, inl, inr, ℕ, zero, suc, ◌+◌, ◌-◌, ◌<◌, ◌≤◌, Bool, true, false, not, ◌&&◌, ◌||◌, IsTrue, List, [], ◌∷◌, ◌++◌, length, map, slice_get, slice_index_or, Option, Some, None, refl, sym, ap, subst, ◌∙◌, arith, true≢false}
use Rattle.std.specs.Option.{option_map_or}
use Rattle.std.proofs.lemmas.Bool.{cases_lt}
use Rattle.hp_boolx.specs.Search.{Bits, Set, every_of}
use Rattle.hp_boolx.specs.Game.{Game, valid_early, permitted, attract}
use Rattle.hp_boolx.specs.Solved.{rank, win_step, rank_step}
use Rattle.hp_boolx.proofs.SearchLaws.{every-at, every-from}
use Rattle.hp_diagram.specs.declared.reference.Ref.{Ref}
use Rattle.hp_diagram.specs.Diagrams.{Diagrams, function, Has, Means, Keeps, valuation, zero_ref}
use Rattle.hp_diagram.proofs.Kept.{function-zero}
use Rattle.hp_quant.specs.Replacements.{replaced, HasAll}
use Rattle.hp_synth.specs.Building.{HasEach, functions_at}
use Rattle.hp_synth.specs.Kept.{AllMean}
use Rattle.hp_synth.specs.declared.layout.Layout.{Layout}
use Rattle.hp_synth.specs.Layouts.{place, variable, IsLayout}
use Rattle.hp_synth.specs.Valued.{Valued, Fun, through, over, read, states, earlies, controls, control_from, OfState, OfChoice}
use Rattle.hp_synth.proofs.Gates.{states-valuation}
use Rattle.hp_synth.proofs.LayoutLaws.{seen}
use Rattle.hp_synth.proofs.Ranges.{read-len, read-same, read-list}

-- ---- tests

pub after_not : (a b : Bool) → IsTrue (not a || b) → IsTrue a → IsTrue b
after_not true b h e = h
after_not false b h e = absurd (true≢false (sym e))

pub from_not : (a b : Bool) → (IsTrue a → IsTrue b) → IsTrue (not a || b)
from_not true b h = h refl
from_not false b h = refl

and_both : (a b : Bool) → IsTrue a → IsTrue b → IsTrue (a && b)
and_both true b h k = k
and_both false b h k = absurd (true≢false (sym h))

both_and : (a b : Bool) → IsTrue (a && b) → IsTrue a × IsTrue b
both_and true b h = (refl, h)
both_and false b h = absurd (true≢false (sym h))

-- ---- one function within another

not_true : (a b : Bool) → (IsTrue a → IsTrue b) → (a && not b) ≡ false
not_true true true h = refl
not_true true false h = absurd (true≢false (sym (h refl)))
not_true false b h = refl

true_not : (a b : Bool) → (a && not b) ≡ false → IsTrue a → IsTrue b
true_not true true e h = refl
true_not true false e h = absurd (true≢false e)
true_not false b e h = absurd (true≢false (sym h))

-- the difference of two functions is nothing exactly where the one is within the other
pub within_told : (t u w : Diagrams) (inner outer others left z : Ref) (b : Bool) → z ≡ zero_ref → Keeps t u → Has t inner → Means u (λ v. not (function t outer v)) others →
    Means w (λ v. function u inner v && function u others v) left → IsTrue b ↔ ((v : Valued) → function w left v ≡ function w z v) →
    IsTrue b ↔ ((v : Valued) → IsTrue (function t inner v) → IsTrue (function t outer v))
within_told t u w inner outer others left z b none k has m n same = (to, back)
  where
    value : (v : Valued) → function w left v ≡ (function t inner v && not (function t outer v))
    value v = n.value v ∙ ap (λ d. d && function u others v) (k.functions inner has v) ∙ ap (λ d. function t inner v && d) (m.value v)

    to : IsTrue b → (v : Valued) → IsTrue (function t inner v) → IsTrue (function t outer v)
    to h v i = true_not (function t inner v) (function t outer v) (sym (value v) ∙ same.0 h v ∙ function-zero w v z (ap (λ (r : Ref). r.index) none)) i

    back : ((v : Valued) → IsTrue (function t inner v) → IsTrue (function t outer v)) → IsTrue b
    back h = same.1 (λ v. value v ∙ not_true (function t inner v) (function t outer v) (h v) ∙ sym (function-zero w v z (ap (λ (r : Ref). r.index) none)))

-- ---- lists of values as valuations

behind_at : (r u : Bits) (k : ℕ) → slice_index_or (r ++ u) (length r + k) false ≡ slice_index_or u k false
behind_at [] u k = ap (λ n. slice_index_or u n false) (omega arith)
behind_at (b ∷ r) u k = ap (λ n. slice_index_or (b ∷ (r ++ u)) n false) (one (length r) k) ∙ behind_at r u k
  where
    one : (n k : ℕ) → suc n + k ≡ suc (n + k)
    one n k = omega arith

front_at : (u w : Bits) (k : ℕ) → k < length u → slice_index_or (u ++ w) k false ≡ slice_index_or u k false
front_at [] w k l = absurd (omega (arith, l))
front_at (b ∷ u) w zero l = refl
front_at (b ∷ u) w (suc k) l = front_at u w k (omega (arith, l))

module _ (g : Game) where
  earlies-valuation : (r u : Bits) → length r ≡ g.registers → length u ≡ g.early → earlies g (valuation (r ++ u)) ≡ u
  earlies-valuation r u e f =
      ap (λ n. read g.registers n (valuation (r ++ u))) (sym f)
      ∙ read-list g.registers (valuation (r ++ u)) u (λ k l. ap (λ n. slice_index_or (r ++ u) (n + k) false) (sym e) ∙ behind_at r u k)

  -- ---- ranks

  pub rank_valued : (X Y : Set) → ((v : Valued) → IsTrue (Y (states g v)) → IsTrue (attract g X (states g v))) ↔ IsTrue (rank_step g X Y)
  rank_valued X Y = (to, back)
    where
      to : ((v : Valued) → IsTrue (Y (states g v)) → IsTrue (attract g X (states g v))) → IsTrue (rank_step g X Y)
      to h = every-from g.registers (λ r. not (Y r) || attract g X r) (λ r e. from_not (Y r) (attract g X r) (λ y.
          let s = states-valuation g r [] e in
          subst (λ z. IsTrue (attract g X z)) s (h (valuation (r ++ [])) (subst (λ z. IsTrue (Y z)) (sym s) y))))

      back : IsTrue (rank_step g X Y) → (v : Valued) → IsTrue (Y (states g v)) → IsTrue (attract g X (states g v))
      back h v y = after_not (Y (states g v)) (attract g X (states g v)) (every-at g.registers (λ r. not (Y r) || attract g X r) h (states g v) (read-len 0 g.registers v)) y

  -- ---- wins

  pub win_valued : (X : Set) (F : Bits → Bits → Bits) →
      ((v : Valued) → IsTrue (X (states g v) && valid_early g (states g v) (earlies g v)) → IsTrue (permitted g (λ s. not (X s)) (states g v) (earlies g v) (F (states g v) (earlies g v)))) ↔ IsTrue (win_step g X F)
  win_valued X F = (to, back)
    where
      inner : Bits → Set
      inner r u = not (valid_early g r u) || permitted g (λ s. not (X s)) r u (F r u)

      to : ((v : Valued) → IsTrue (X (states g v) && valid_early g (states g v) (earlies g v)) → IsTrue (permitted g (λ s. not (X s)) (states g v) (earlies g v) (F (states g v) (earlies g v)))) → IsTrue (win_step g X F)
      to h = every-from g.registers (λ r. not (X r) || every_of g.early (λ u. not (valid_early g r u) || permitted g (λ s. not (X s)) r u (F r u))) (λ r e. from_not (X r) _ (λ x.
          every-from g.early (λ u. not (valid_early g r u) || permitted g (λ s. not (X s)) r u (F r u)) (λ u l. from_not (valid_early g r u) _ (λ y.
          let s = states-valuation g r u e in
          let q = earlies-valuation r u e l in
          let v = valuation (r ++ u) in
          let P : Bits → Bits → Type 0 = λ r u. IsTrue (permitted g (λ s. not (X s)) r u (F r u)) in
          let Q : Bits → Bits → Type 0 = λ r u. IsTrue (X r && valid_early g r u) in
          subst (λ z. P z u) s (subst (λ z. P (states g v) z) q (h v (subst (λ z. Q z (earlies g v)) (sym s) (subst (λ z. Q r z) (sym q) (and_both (X r) (valid_early g r u) x y)))))))))

      back : IsTrue (win_step g X F) → (v : Valued) → IsTrue (X (states g v) && valid_early g (states g v) (earlies g v)) → IsTrue (permitted g (λ s. not (X s)) (states g v) (earlies g v) (F (states g v) (earlies g v)))
      back h v i =
          let p = both_and (X (states g v)) (valid_early g (states g v) (earlies g v)) i in
          let row = after_not (X (states g v)) _ (every-at g.registers (λ r. not (X r) || every_of g.early (λ u. not (valid_early g r u) || permitted g (λ s. not (X s)) r u (F r u))) h (states g v) (read-len 0 g.registers v)) p.0 in
          after_not (valid_early g (states g v) (earlies g v)) _ (every-at g.early (λ u. not (valid_early g (states g v) u) || permitted g (λ s. not (X s)) (states g v) u (F (states g v) u)) row (earlies g v) (read-len g.registers g.early v)) p.1

-- ---- the same of other functions

-- where variables stand at places
pub transfer : (vars : ℕ) (l : Layout) → IsLayout vars l → (b : Bool) (p q a c : Valued → Bool) (W : Type 0) → ((v : Valued) → p v ≡ a (through (place l) v)) → ((v : Valued) → q v ≡ c (through (place l) v)) →
    IsTrue b ↔ ((v : Valued) → IsTrue (p v) → IsTrue (q v)) → ((v : Valued) → IsTrue (a v) → IsTrue (c v)) ↔ W → IsTrue b ↔ W
transfer vars l placed b p q a c W e f is told = (
  λ h. told.0 (λ v i.
      let w : Valued = through (variable l) v in
      let back : through (place l) w ≡ v = seen vars l placed v in
      subst (λ z. IsTrue (c z)) back (subst IsTrue (f w) (is.0 h w (subst IsTrue (sym (e w)) (subst (λ z. IsTrue (a z)) (sym back) i))))),
  λ w. is.1 (λ v i. subst IsTrue (sym (f v)) (told.1 w (through (place l) v) (subst IsTrue (e v) i))),
)

-- ---- references by their places

pub mean_at : (t : Diagrams) (fs : List Fun) (rs : List Ref) → AllMean t fs rs → (k : ℕ) (f : Fun) (d : Ref) → slice_get fs k ≡ Some f → Means t f (slice_index_or rs k d)
mean_at t [] [] h k f d e = absurd cc
mean_at t [] (r ∷ rs) h k f d e = absurd h
mean_at t (g ∷ fs) [] h k f d e = absurd h
mean_at t (g ∷ fs) (r ∷ rs) h zero f d e = let same : g ≡ f = cc in subst (λ z. Means t z r) same h.0
mean_at t (g ∷ fs) (r ∷ rs) h (suc k) f d e = mean_at t fs rs h.1 k f d e

pub set_at : (g : Game) (place : ℕ → ℕ) (t : Diagrams) (Xs : List Set) (rs : List Ref) → AllMean t (map (λ X. over place (OfState g X)) Xs) rs → (k : ℕ) (d : Ref) → k < length rs → Means t (over place (OfState g (rank Xs (suc k)))) (slice_index_or rs k d)
set_at g place t [] [] h k d l = absurd (omega (arith, l))
set_at g place t [] (r ∷ rs) h k d l = absurd h
set_at g place t (X ∷ Xs) [] h k d l = absurd h
set_at g place t (X ∷ Xs) (r ∷ rs) h zero d l = h.0
set_at g place t (X ∷ Xs) (r ∷ rs) h (suc k) d l = set_at g place t Xs rs h.1 k d (omega (arith, l))

pub sets_len : (g : Game) (place : ℕ → ℕ) (t : Diagrams) (Xs : List Set) (rs : List Ref) → AllMean t (map (λ X. over place (OfState g X)) Xs) rs → length Xs ≡ length rs
sets_len g place t [] [] h = refl
sets_len g place t [] (r ∷ rs) h = absurd h
sets_len g place t (X ∷ Xs) [] h = absurd h
sets_len g place t (X ∷ Xs) (r ∷ rs) h = ap suc (sets_len g place t Xs rs h.1)

pub nothing_means : (g : Game) (place : ℕ → ℕ) (t : Diagrams) (r : Ref) → r ≡ zero_ref → Means t (over place (OfState g (λ q. false))) r
nothing_means g place t r e = record { has = (let z = ap (λ (r : Ref). r.index) e in omega (arith, z)); value = λ v. function-zero t v r (ap (λ (r : Ref). r.index) e) }
