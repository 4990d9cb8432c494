-- The part of a name before the sign, byte by byte.
use Rattle.std.proofs.Common.{◌≡◌, ℕ, zero, suc, ◌+◌, ◌<◌, ◌≤◌, min, nat_eq, get_or, length, take, drop, true, false, if◌then◌else◌, List, [], ◌∷◌, ◌++◌, refl, sym, ap, ◌∙◌, arith}
use Rattle.std.specs.Prelude.{decimal}
use Rattle.std.proofs.lemmas.List.{append_assoc, append-nil, take_all}
use Rattle.hp_toobc.specs.Labels.{stem, dollar, made_name}
use Rattle.hp_toobc.proofs.Lists.{drop-next, drop-end, take-next}

module _ (xs : List ℕ) (i x : ℕ) (h : i < length xs) (p : x ≡ get_or xs i x) where
  stem_from : stem (drop i xs) ≡ (if nat_eq x dollar then [] else x ∷ stem (drop (i + 1) xs))
  stem_from = ap stem (drop-next xs i x h p)

  pub stem-here : nat_eq x 36 ≡ true → take i xs ++ stem (drop i xs) ≡ take i xs
  stem-here e = ap (λ s. take i xs ++ s) (stem_from ∙ ap (λ d. if d then [] else x ∷ stem (drop (i + 1) xs)) e) ∙ append-nil (take i xs)

  pub stem-next : nat_eq x 36 ≡ false → take (i + 1) xs ++ stem (drop (i + 1) xs) ≡ take i xs ++ stem (drop i xs)
  stem-next e =
      ap (λ s. s ++ stem (drop (i + 1) xs)) (take-next xs i x h p)
      ∙ append_assoc (take i xs) (x ∷ []) (stem (drop (i + 1) xs))
      ∙ sym (ap (λ s. take i xs ++ s) (stem_from ∙ ap (λ d. if d then [] else x ∷ stem (drop (i + 1) xs)) e))

pub stem-end : (xs : List ℕ) (i : ℕ) → length xs ≤ i → take i xs ++ stem (drop i xs) ≡ xs
stem-end xs i h = (λ j. take_all i xs h j ++ stem (drop-end xs i h j)) ∙ append-nil xs

take_least : (xs : List ℕ) (n : ℕ) → take (min (length xs) n) xs ≡ take n xs
take_least [] zero = refl
take_least [] (suc n) = let least : min (length {A = ℕ} []) (suc n) ≡ 0 = omega arith in ap (λ k. take {A = ℕ} k []) least
take_least (x ∷ xs) zero = let least : min (length (x ∷ xs)) 0 ≡ 0 = omega arith in ap (λ k. take k (x ∷ xs)) least
take_least (x ∷ xs) (suc n) =
    let least : min (length (x ∷ xs)) (suc n) ≡ suc (min (length xs) n) = omega arith in
    ap (λ k. take k (x ∷ xs)) least ∙ ap (λ ys. x ∷ ys) (take_least xs n)

-- a name as it is made: the stem, the sign, the letter, the digits
pub name-made : (text front : List ℕ) (letter place m k : ℕ) (first second third digits all : List ℕ) → front ≡ stem text → m ≡ min (length front) 255 → first ≡ take m front
    → second ≡ first ++ 36 ∷ [] → third ≡ second ++ letter ∷ [] → digits ≡ decimal place → k ≡ min (length digits) 13 → all ≡ third ++ take k digits
    → all ≡ made_name text letter place
name-made text front letter place m k first second third digits all a b c d e f g h =
    let stemmed : first ≡ take 255 (stem text) = c ∙ ap (λ n. take n front) b ∙ take_least front 255 ∙ ap (take 255) a in
    let numbered : take k digits ≡ take 13 (decimal place) = ap (λ n. take n digits) g ∙ take_least digits 13 ∙ ap (take 13) f in
    h ∙ (λ j. (e j) ++ numbered j)
    ∙ ap (λ xs. (xs ++ letter ∷ []) ++ take 13 (decimal place)) (d ∙ ap (λ xs. xs ++ 36 ∷ []) stemmed)
    ∙ append_assoc (take 255 (stem text) ++ 36 ∷ []) (letter ∷ []) (take 13 (decimal place))
    ∙ append_assoc (take 255 (stem text)) (36 ∷ []) (letter ∷ take 13 (decimal place))
