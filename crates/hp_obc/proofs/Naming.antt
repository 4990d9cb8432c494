-- What names stand for that differ.
use Rattle.std.proofs.Common.{◌≡◌, ℕ, Bool, false, List, [], ◌∷◌, length, map, if◌then◌else◌, refl, ap, ◌∙◌, arith}
use Rattle.std.specs.List.{IsDistinct, AllByRecursion}
use Rattle.std.specs.Str.{bytes_eq}
use Rattle.std.proofs.lemmas.Slice.Eq.{bytes_eq-Decides}
use Rattle.hp_obc.specs.Steps.{Names, given, all_given}

module _ {A : Type 0} where
  others_stay : (x : List ℕ) (v : A) (base : Names A) (ys : List (List ℕ)) → AllByRecursion (λ y. bytes_eq x y ≡ false) ys → map (given x v base) ys ≡ map base ys
  others_stay x v base [] h = refl
  others_stay x v base (y ∷ ys) h =
      ap (λ (b : Bool). (if b then v else base y) ∷ map (given x v base) ys) h.0 ∙ ap (λ rest. base y ∷ rest) (others_stay x v base ys h.1)

  -- names that differ stand for the values that they were given
  pub map-all_given : (xs : List (List ℕ)) (vs : List A) (base : Names A) → IsDistinct bytes_eq xs → length xs ≡ length vs → map (all_given xs vs base) xs ≡ vs
  unfolding IsDistinct
  map-all_given [] [] base h e = refl
  map-all_given [] (v ∷ vs) base h e = absurd (omega arith)
  map-all_given (x ∷ xs) [] base h e = absurd (omega arith)
  map-all_given (x ∷ xs) (v ∷ vs) base h e =
      ap (λ (b : Bool). (if b then v else all_given xs vs base x) ∷ map (given x v (all_given xs vs base)) xs) ((bytes_eq-Decides x x).1 refl)
      ∙ ap (λ rest. v ∷ rest) (others_stay x v (all_given xs vs base) xs h.0 ∙ map-all_given xs vs base h.1 (omega arith))
