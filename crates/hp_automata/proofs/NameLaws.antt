-- Which names there are among some.
use Rattle.std.proofs.Common.{◌≡◌, ℕ, ◌+◌, ◌<◌, get_or, length, drop, map, Bool, true, false, if◌then◌else◌, List, [], ◌∷◌, ◌++◌, Bor, is_some, Some, refl, sym, ap, ◌∙◌}
use Rattle.std.specs.Str.{bytes_eq}
use Rattle.std.proofs.lemmas.Slice.Eq.{bytes_eq-Decides}
use Rattle.hp_base.specs.Known.Known.{lookup, with_entry}
use Rattle.hp_tree.specs.Blocks.{Decl}
use Rattle.hp_tree.specs.Meaning.{declares}
use Rattle.hp_tables.specs.Defining.Names.{undeclared}
use Rattle.hp_automata.specs.Names.{is_name, missing, with_name, once_behind, once}
use Rattle.hp_automata.specs.Lists.{names_seen, paired, with_more}
use Rattle.hp_automata.proofs.ListLaws.{drop-next, more-append, map-one}

pub one_name : (x y : List ℕ) → bytes_eq x y ≡ true → x ≡ y
one_name x y = (bytes_eq-Decides x y).0

-- ---- names that are known as themselves

known_by : (d : Bool) (y : List ℕ) (o : Bool) (ys : List (List ℕ)) (x : List ℕ) → is_some (lookup (paired ys) x) ≡ o
    → is_some (if d then Some y else lookup (paired ys) x) ≡ (if d then true else o)
known_by true y o ys x h = refl
known_by false y o ys x h = h

pub known-paired : (ys : List (List ℕ)) (x : List ℕ) → is_some (lookup (paired ys) x) ≡ is_name ys x
known-paired [] x = refl
known-paired (y ∷ ys) x = known_by (bytes_eq x y) y (is_name ys x) ys x (known-paired ys x)

entry_by : (d : Bool) (ys : List (List ℕ)) (x : List ℕ) → d ≡ false → (if d then paired ys else paired ys ++ (x, x) ∷ []) ≡ paired (ys ++ x ∷ [])
entry_by true ys x h = absurd cc
entry_by false ys x h = sym (map-one (λ (z : List ℕ). (z, z)) ys x)

-- a name that is none of them is added to both
pub paired-more : (ys : List (List ℕ)) (x : List ℕ) → is_name ys x ≡ false → with_entry (paired ys) x x ≡ paired (ys ++ x ∷ [])
paired-more ys x h = entry_by (is_some (lookup (paired ys) x)) ys x (known-paired ys x ∙ h)

-- ---- each once

pub with-known : (ys : List (List ℕ)) (x : List ℕ) → is_name ys x ≡ true → with_name ys x ≡ ys
with-known ys x h = ap (λ d. if d then ys else ys ++ x ∷ []) h

pub with-new : (ys : List (List ℕ)) (x : List ℕ) → is_name ys x ≡ false → with_name ys x ≡ ys ++ x ∷ []
with-new ys x h = ap (λ d. if d then ys else ys ++ x ∷ []) h

last_by : (a b r : Bool) → (if a then true else (if b then true else r)) ≡ (if b then true else (if a then true else r))
last_by true true r = refl
last_by true false r = refl
last_by false b r = refl

is_name-last : (ys : List (List ℕ)) (y x : List ℕ) → is_name (ys ++ y ∷ []) x ≡ (if bytes_eq x y then true else is_name ys x)
is_name-last [] y x = refl
is_name-last (z ∷ ys) y x = ap (λ r. if bytes_eq x z then true else r) (is_name-last ys y x) ∙ last_by (bytes_eq x z) (bytes_eq x y) (is_name ys x)

known_then : (d r : Bool) → (d ≡ true → r ≡ true) → r ≡ (if d then true else r)
known_then true r h = h refl
known_then false r h = refl

with_by : (ys : List (List ℕ)) (y x : List ℕ) (d : Bool) → is_name ys y ≡ d → is_name (if d then ys else ys ++ y ∷ []) x ≡ (if bytes_eq x y then true else is_name ys x)
with_by ys y x true h = known_then (bytes_eq x y) (is_name ys x) (λ same. ap (is_name ys) (one_name x y same) ∙ h)
with_by ys y x false h = is_name-last ys y x

is_name-with : (ys : List (List ℕ)) (y x : List ℕ) → is_name (with_name ys y) x ≡ (if bytes_eq x y then true else is_name ys x)
is_name-with ys y x = with_by ys y x (is_name ys y) refl

once_by : (d r s : Bool) → (if (if d then true else r) then true else s) ≡ (if r then true else (if d then true else s))
once_by true true s = refl
once_by true false s = refl
once_by false r s = refl

is_name-behind : (ys xs : List (List ℕ)) (x : List ℕ) → is_name (once_behind xs ys) x ≡ (if is_name xs x then true else is_name ys x)
is_name-behind [] xs x = other (is_name xs x)
  where
    other : (d : Bool) → d ≡ (if d then true else false)
    other true = refl
    other false = refl
is_name-behind (y ∷ ys) xs x =
    is_name-behind ys (with_name xs y) x ∙ ap (λ d. if d then true else is_name ys x) (is_name-with xs y x) ∙ once_by (bytes_eq x y) (is_name xs x) (is_name ys x)

-- which names there are, does not depend on how often
pub is_name-once : (ys : List (List ℕ)) → is_name (once ys) ≡ is_name ys
is_name-once ys = λ j x. is_name-behind ys [] x j

module _ (xs : List (Bor (List ℕ))) (i : ℕ) (x : Bor (List ℕ)) (h : i < length xs) (p : x ≡ get_or xs i x) where
  pub once-next : (found : List (List ℕ)) → once_behind found (names_seen (drop i xs)) ≡ once_behind (with_name found x.now) (names_seen (drop (i + 1) xs))
  once-next found = ap (λ more. once_behind found (names_seen more)) (drop-next xs i x h p)

-- ---- those that are missing

missing_by : (before : List (List ℕ)) (own : List ℕ → Bool) (x : List ℕ) (xs : List (List ℕ)) (d : Bool) → with_more before (if d then missing own xs else x ∷ missing own xs)
    ≡ with_more (if d then before else with_more before (x ∷ [])) (missing own xs)
missing_by before own x xs true = refl
missing_by before own x xs false = more-append before (x ∷ []) (missing own xs)

pub missing-next : (before : List (List ℕ)) (own : List ℕ → Bool) (xs : List (Bor (List ℕ))) (i : ℕ) (x : Bor (List ℕ)) → i < length xs → x ≡ get_or xs i x
    → with_more before (missing own (names_seen (drop i xs))) ≡ with_more (if own x.now then before else with_more before (x.now ∷ [])) (missing own (names_seen (drop (i + 1) xs)))
missing-next before own xs i x h p =
    ap (λ more. with_more before (missing own (names_seen more))) (drop-next xs i x h p) ∙ missing_by before own x.now (names_seen (drop (i + 1) xs)) (own x.now)

-- ---- those that are not declared

pub undeclared_is : (ds : List Decl) (xs : List (List ℕ)) → undeclared ds xs ≡ missing (declares ds) xs
undeclared_is ds [] = refl
undeclared_is ds (x ∷ xs) = ap (λ more. if declares ds x then more else x ∷ more) (undeclared_is ds xs)
