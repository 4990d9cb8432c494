-- Sets of names, as the code holds them and as they are seen.
use Rattle.std.proofs.Common.{◌≡◌, ℕ, Bool, true, false, ◌||◌, if◌then◌else◌, List, [], ◌∷◌, ◌++◌, map, refl, ap}
use Rattle.std.specs.List.{list_any}
use Rattle.std.specs.Str.{bytes_eq}
use Rattle.std.proofs.lemmas.List.{map-append}
use Rattle.hp_names.specs.Names.{has, with_name}

module _ {A : Type 0} (f : A → List ℕ) where
  -- a name is looked up among what the keys are seen as
  pub has-map : (keys : List A) (x : List ℕ) → list_any (λ k. bytes_eq x (f k)) keys ≡ has (map f keys) x
  has-map [] x = refl
  has-map (k ∷ keys) x = ap (λ b. bytes_eq x (f k) || b) (has-map keys x)

  -- and a new key is seen as a new name
  pub with_name-map : (keys : List A) (k : A) → map f (if list_any (λ y. bytes_eq (f k) (f y)) keys then keys else keys ++ k ∷ []) ≡ with_name (map f keys) (f k)
  with_name-map keys k = by _ (has-map keys (f k))
    where
      by : (known : Bool) → known ≡ has (map f keys) (f k) → map f (if known then keys else keys ++ k ∷ []) ≡ with_name (map f keys) (f k)
      by true p = rw (← p)
      by false p = rw (← p) (map-append f keys (k ∷ []))
