-- Names and their numbers.
use Rattle.std.proofs.Common.{◌≡◌, ℕ, ◌+◌, Bool, true, false, IsTrue, ◌||◌, if◌then◌else◌, List, [], ◌∷◌, Option, None, Some, refl}
use Rattle.std.specs.Str.{bytes_eq}
use Rattle.hp_tables.specs.Defining.Layers.{numbered}
use Rattle.hp_tables.specs.Defining.Names.{listed}

pub numbered_listed : (j : ℕ) (names : List (List ℕ)) (x : List ℕ) → IsTrue (listed names x) → (v : ℕ) × (numbered j names x ≡ Some v)
numbered_listed j [] x h = absurd cc
numbered_listed j (y ∷ ys) x h = by (bytes_eq y x) h (numbered_listed (j + 1) ys x)
  where
    by : (d : Bool) → IsTrue (d || listed ys x) → (IsTrue (listed ys x) → (v : ℕ) × (numbered (j + 1) ys x ≡ Some v)) → (v : ℕ) × ((if d then Some j else numbered (j + 1) ys x) ≡ Some v)
    by true h rest = (j, refl)
    by false h rest = rest h

pub over_there : (o p : Option ℕ) (v : ℕ) → o ≡ Some v → (elim o as (λ _. Option ℕ) [ None ↦ p | Some u ↦ Some u ]) ≡ Some v
over_there None p v h = absurd cc
over_there (Some u) p v h = h

pub listed_numbered : (j : ℕ) (names : List (List ℕ)) (x : List ℕ) (v : ℕ) → numbered j names x ≡ Some v → IsTrue (listed names x)
listed_numbered j [] x v h = absurd cc
listed_numbered j (y ∷ ys) x v h = by (bytes_eq y x) h (listed_numbered (j + 1) ys x v)
  where
    by : (d : Bool) → (if d then Some j else numbered (j + 1) ys x) ≡ Some v → (numbered (j + 1) ys x ≡ Some v → IsTrue (listed ys x)) → IsTrue (d || listed ys x)
    by true h rest = refl
    by false h rest = rest h
