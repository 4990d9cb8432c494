-- Lists as the code holds them.
use Rattle.std.specs.Prelude.{ℕ, ◌-◌, List, ◌++◌, length, map, take}
use Rattle.std.specs.Borrow.{Bor}

abbrev pub names_seen : List (Bor (List ℕ)) → List (List ℕ)
names_seen names = map (λ (x : Bor (List ℕ)). x.now) names

-- names that are known as themselves
abbrev pub paired : List (List ℕ) → List (List ℕ × List ℕ)
paired xs = map (λ (x : List ℕ). (x, x)) xs

-- a list and more behind it
unfoldable pub with_more : {A : Type 0} → List A → List A → List A
with_more before more = before ++ more

-- all but the last
abbrev pub front : {A : Type 0} → List A → List A
front xs = take (length xs - 1) xs
