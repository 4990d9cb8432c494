-- Lists, element by element.
use Rattle.std.proofs.Common.{◌≡◌, ℕ, ◌+◌, ◌<◌, ◌≤◌, get_or, length, take, drop, List, [], ◌∷◌, ◌++◌, sym, ap, ◌∙◌}
use Rattle.std.proofs.lemmas.List.{append_assoc, append-nil, drop_all}
use Rattle.std.proofs.Math.Numerals.{add-one}
use Rattle.std.proofs.Math.Seq.{drop-cons, take-suc}

module _ {A : Type 0} (xs : List A) (i : ℕ) where
  pub drop-next : (x : A) → i < length xs → x ≡ get_or xs i x → drop i xs ≡ x ∷ drop (i + 1) xs
  drop-next x h p = drop-cons xs i x h ∙ rw (add-one, ← p)

  pub drop-end : length xs ≤ i → drop i xs ≡ []
  drop-end h = drop_all i xs h

  pub take-next : (x : A) → i < length xs → x ≡ get_or xs i x → take (i + 1) xs ≡ take i xs ++ x ∷ []
  take-next x h p = ap (λ n. take n xs) (add-one i) ∙ take-suc xs i x h ∙ ap (λ y. take i xs ++ y ∷ []) (sym p)

-- what is made so far, and what the rest gives; one more part of it is made
module _ {A B : Type 0} (of : ℕ → List A → List B) (one : ℕ → A → List B) (next : (i : ℕ) (x : A) (xs : List A) → of i (x ∷ xs) ≡ one i x ++ of (i + 1) xs) where
  pub made-next : (before now after : List B) (xs : List A) (i : ℕ) (x : A) → i < length xs → x ≡ get_or xs i x → after ≡ now ++ one i x
      → now ++ of i (drop i xs) ≡ before → after ++ of (i + 1) (drop (i + 1) xs) ≡ before
  made-next before now after xs i x h p step known =
      ap (λ ys. ys ++ of (i + 1) (drop (i + 1) xs)) step
      ∙ append_assoc now (one i x) (of (i + 1) (drop (i + 1) xs))
      ∙ sym (ap (λ ys. now ++ ys) (ap (of i) (drop-next xs i x h p) ∙ next i x (drop (i + 1) xs)))
      ∙ known

module _ {A B : Type 0} (of : ℕ → List A → List B) (none : (i : ℕ) → of i [] ≡ []) where
  pub made-end : (before now : List B) (xs : List A) (i : ℕ) → length xs ≤ i → now ++ of i (drop i xs) ≡ before → now ≡ before
  made-end before now xs i h known = sym (ap (λ ys. now ++ ys) (ap (of i) (drop-end xs i h) ∙ none i) ∙ append-nil now) ∙ known
