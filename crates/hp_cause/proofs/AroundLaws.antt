-- The places of the names around that are among some, found and sorted, are those that a walk over all of them meets.
use Rattle.std.proofs.Common.{◌≡◌, ◌⊎◌, ℕ, zero, suc, ◌+◌, ◌-◌, ◌<◌, ◌≤◌, Bool, true, false, ◌||◌, if◌then◌else◌, List, [], ◌∷◌, ◌++◌, length, get_or, drop, Bor, inl, inr, Option, None, Some, position, slice_get, slice_index, option_map, cond, nat_cmp, eqb, refl, sym, ap, subst, ◌∙◌, arith}
use Rattle.std.specs.Str.{bytes_eq}
use Rattle.std.specs.List.{AllByRecursion, Contains, IsDistinct, dedup, position_from}
use Rattle.std.specs.List.Sorted.{IsPermutation, IsSorted, IsStrictlyIncreasing}
use Rattle.std.proofs.lemmas.Slice.Eq.{bytes_eq-Decides}
use Rattle.std.proofs.lemmas.Option.{slice_get-map}
use Rattle.std.proofs.lemmas.List.Elements.{All-from_recursion, Contains-append_right, recursion_from_All}
use Rattle.std.proofs.lemmas.List.Filters.{All-dedup}
use Rattle.std.proofs.lemmas.List.Kept.{Contains-dedup_nat}
use Rattle.std.proofs.lemmas.List.Quantifiers.{position-Some}
use Rattle.std.proofs.lemmas.List.Sorted.{All-permutation, Contains-permutation}
use Rattle.std.proofs.lemmas.Map.Keys.{IsStrictlyIncreasing-dedup}
use Rattle.std.proofs.lemmas.Iterator.Adapters.{position_from-zero}
use Rattle.hp_base.specs.declared.span.Span.{Span}
use Rattle.hp_cause.specs.Around.{places_from, first_places, of_place, of_places}
use Rattle.hp_cause.specs.Facts.{Fact}
use Rattle.hp_cause.specs.Gathering.{Sight, in_list, of_defined_name, of_defined}
use Rattle.hp_tables.specs.Defining.Names.{listed}
use Rattle.hp_cause.specs.Told.{names_seen, with_more}
use Rattle.hp_cause.proofs.GrowLaws.{drop-next, more-append}

-- ---- what is said of the names at the places of those that are wanted

module _ (see : Sight) (control v : Option ℕ) (at : Span) (wanted : List ℕ → Bool) where
  -- a list from a place on
  abbrev Behind : List (List ℕ) → ℕ → List (List ℕ) → Type 0
  Behind around k xs = (i : ℕ) → slice_get around (k + i) ≡ slice_get xs i

  walk_by : (around : List (List ℕ)) (k : ℕ) (x : List ℕ) (xs : List (List ℕ)) → slice_get around k ≡ Some x
      → of_places see control v at around (places_from (k + 1) wanted xs) ≡ of_defined see control v at wanted xs → (d : Bool)
      → of_places see control v at around (if d then k ∷ places_from (k + 1) wanted xs else places_from (k + 1) wanted xs)
      ≡ (if d then of_defined_name see control v at x else []) ++ of_defined see control v at wanted xs
  walk_by around k x xs h rest false = rest
  walk_by around k x xs h rest true =
      ap (λ o. of_place see control v at o ++ of_places see control v at around (places_from (k + 1) wanted xs)) h
      ∙ ap (λ facts. of_defined_name see control v at x ++ facts) rest

  walked : (around : List (List ℕ)) (k : ℕ) (xs : List (List ℕ)) → Behind around k xs
      → of_places see control v at around (places_from k wanted xs) ≡ of_defined see control v at wanted xs
  walked around k [] h = refl
  walked around k (x ∷ xs) h =
      walk_by around k x xs (let same : k ≡ k + 0 = omega arith in ap (slice_get around) same ∙ h 0)
      (walked around (k + 1) xs (λ i. let same : (k + 1) + i ≡ k + suc i = omega arith in ap (slice_get around) same ∙ h (suc i))) (wanted x)

  pub all-walked : (around : List (List ℕ)) → of_places see control v at around (places_from 0 wanted around) ≡ of_defined see control v at wanted around
  all-walked around = walked around 0 around (λ i. let same : 0 + i ≡ i = omega arith in ap (slice_get around) same)

-- ---- rising places

abbrev Rising : ℕ → List ℕ → Type 0
Rising k [] = Unit {0}
Rising k (p ∷ ps) = (k ≤ p) × Rising (p + 1) ps

abbrev Has : List ℕ → ℕ → Type 0
Has [] x = ⊥
Has (p ∷ ps) x = (p ≡ x) ⊎ Has ps x

has_at : (ps : List ℕ) (k x : ℕ) → k < length ps → get_or ps k x ≡ x → Has ps x
has_at [] k x h e = absurd (omega arith)
has_at (p ∷ ps) zero x h e = inl e
has_at (p ∷ ps) (suc k) x h e = inr (has_at ps k x (omega arith) e)

has : (ps : List ℕ) (x : ℕ) → Contains ps x → Has ps x
has ps x c = has_at ps c.0 x c.1 c.2

abbrev AtLeast : ℕ → List ℕ → Type 0
AtLeast k [] = Unit {0}
AtLeast k (p ∷ ps) = k ≤ p

rising : (k : ℕ) (ps : List ℕ) → AtLeast k ps → IsStrictlyIncreasing ps → Rising k ps
rising k [] b h = tt
rising k (p ∷ []) b h = (b, tt)
rising k (p ∷ q ∷ ps) b h =
    (b, rising (p + 1) (q ∷ ps) (let l : p < q = h 0 (omega arith) in omega arith) (λ j l. on p q ps j (h (suc j) (omega arith))))
  where
    on : (p q : ℕ) (ps : List ℕ) (j : ℕ) → slice_index (p ∷ q ∷ ps) (suc j) < slice_index (p ∷ q ∷ ps) (suc j + 1) → slice_index (q ∷ ps) j < slice_index (q ∷ ps) (j + 1)
    on p q ps j l = let same : suc j + 1 ≡ suc (j + 1) = omega arith in subst (λ n. slice_index (p ∷ q ∷ ps) (suc j) < slice_index (p ∷ q ∷ ps) n) same l

-- what rises from a place on has nothing before it
none_before : (k x : ℕ) (ps : List ℕ) → Rising k ps → x < k → Has ps x → ⊥
none_before k x [] r l h = h
none_before k x (p ∷ ps) r l (inl e) = absurd (let b : k ≤ p = r.0 in omega arith)
none_before k x (p ∷ ps) r l (inr h) = none_before (p + 1) x ps r.1 (let b : k ≤ p = r.0 in omega arith) h

-- ---- the places that are wanted

module _ (wanted : List ℕ → Bool) where
  -- a place in a list that begins at place k, at which the name is wanted
  abbrev Wanted : ℕ → List (List ℕ) → ℕ → Type 0
  Wanted k xs p = (i : ℕ) × (p ≡ k + i) × (i < length xs) × (wanted (get_or xs i []) ≡ true)

  abbrev Each : ℕ → List (List ℕ) → List ℕ → Type 0
  Each k xs [] = Unit {0}
  Each k xs (p ∷ ps) = Wanted k xs p × Each k xs ps

  later : (k : ℕ) (x : List ℕ) (xs : List (List ℕ)) (p : ℕ) → k < p → Wanted k (x ∷ xs) p → Wanted (k + 1) xs p
  later k x xs p l (zero, e, b, w) = absurd (omega arith)
  later k x xs p l (suc i, e, b, w) = (i, omega arith, omega arith, w)

  all_later : (k j : ℕ) (x : List ℕ) (xs : List (List ℕ)) (ps : List ℕ) → k < j → Rising j ps → Each k (x ∷ xs) ps → Each (k + 1) xs ps
  all_later k j x xs [] l r e = tt
  all_later k j x xs (p ∷ ps) l r e =
      let b : j ≤ p = r.0 in
      (later k x xs p (omega arith) e.0, all_later k (p + 1) x xs ps (omega arith) r.1 e.1)

  -- what is known of a list of places in a list of names that begins at place k
  abbrev Covers : ℕ → List (List ℕ) → List ℕ → Type 0
  Covers k xs ps = (i : ℕ) → i < length xs → wanted (get_or xs i []) ≡ true → Has ps (k + i)

  abbrev Told : ℕ → List (List ℕ) → List ℕ → Type 0
  Told k xs ps = Rising k ps × Each k xs ps × Covers k xs ps

  not_first : (k p : ℕ) (ps : List ℕ) (i : ℕ) → p ≡ k → Has (p ∷ ps) (k + suc i) → Has ps ((k + 1) + i)
  not_first k p ps i e (inl q) = absurd (omega arith)
  not_first k p ps i e (inr h) = let same : k + suc i ≡ (k + 1) + i = omega arith in subst (Has ps) same h

  step : (k : ℕ) (x : List ℕ) (xs : List (List ℕ)) → ((ps : List ℕ) → Told (k + 1) xs ps → ps ≡ places_from (k + 1) wanted xs)
      → (d : Bool) → wanted x ≡ d → (ps : List ℕ) → Told k (x ∷ xs) ps
      → ps ≡ (if d then k ∷ places_from (k + 1) wanted xs else places_from (k + 1) wanted xs)
  step k x xs rest true w [] (r, e, h) = absurd (h 0 (omega arith) w)
  step k x xs rest true w (p ∷ ps) (r, ((zero, q, b, u), e), h) =
      let first : p ≡ k = omega arith in
      let more : Rising (k + 1) ps = subst (λ j. Rising (j + 1) ps) first r.1 in
      ap (λ j. j ∷ ps) first
      ∙ ap (λ more. k ∷ more) (rest ps (more, all_later k (k + 1) x xs ps (omega arith) more e, λ i l u. not_first k p ps i first (h (suc i) (omega arith) u)))
  step k x xs rest true w (p ∷ ps) (r, ((suc i, q, b, u), e), h) =
      let gone : Has (p ∷ ps) (k + 0) = h 0 (omega arith) w in
      absurd (none_before p (k + 0) (p ∷ ps) (let l : p ≤ p = omega arith in (l, r.1)) (omega arith) gone)
  step k x xs rest false w [] (r, e, h) =
      rest [] (tt, tt, λ i l u. let same : k + suc i ≡ (k + 1) + i = omega arith in subst (Has []) same (h (suc i) (omega arith) u))
  step k x xs rest false w (p ∷ ps) (r, ((zero, q, b, u), e), h) = absurd (let no : true ≡ false = sym u ∙ w in cc)
  step k x xs rest false w (p ∷ ps) (r, ((suc i, q, b, u), e), h) =
      let l : k + 1 ≤ p = omega arith in
      rest (p ∷ ps) (
        (l, r.1),
        (later k x xs p (omega arith) (suc i, q, b, u), all_later k (p + 1) x xs ps (omega arith) r.1 e),
        λ i l u. let same : k + suc i ≡ (k + 1) + i = omega arith in subst (Has (p ∷ ps)) same (h (suc i) (omega arith) u),
      )

  -- A rising list of exactly the places at which names are wanted is the list of them.
  only_list : (k : ℕ) (xs : List (List ℕ)) (ps : List ℕ) → Told k xs ps → ps ≡ places_from k wanted xs
  only_list k [] [] t = refl
  only_list k [] (p ∷ ps) (r, e, h) = absurd (let l : e.0.0 < 0 = e.0.2 in omega arith)
  only_list k (x ∷ xs) ps t = step k x xs (λ ps t. only_list (k + 1) xs ps t) (wanted x) refl ps t

-- ---- the first places of names among others

same_name : (x y : List ℕ) → bytes_eq x y ≡ true → x ≡ y
same_name x y = (bytes_eq-Decides x y).0

or_right : (a : Bool) → (a || true) ≡ true
or_right true = refl
or_right false = refl

module _ (around : List (List ℕ)) where
  wanted_there : (names : List (List ℕ)) (y : List ℕ) (p : ℕ) → Wanted (listed names) 0 around p → Wanted (listed (y ∷ names)) 0 around p
  wanted_there names y p (i, e, b, w) = (i, e, b, ap (λ r. bytes_eq y (get_or around i []) || r) w ∙ or_right (bytes_eq y (get_or around i [])))

  all_there : (names : List (List ℕ)) (y : List ℕ) (ps : List ℕ) → AllByRecursion (Wanted (listed names) 0 around) ps → AllByRecursion (Wanted (listed (y ∷ names)) 0 around) ps
  all_there names y [] a = tt
  all_there names y (p ∷ ps) a = (wanted_there names y p a.0, all_there names y ps a.1)

  put_ahead : {P : ℕ → Type 0} (o : Option ℕ) (ps : List ℕ) → ((p : ℕ) → o ≡ Some p → P p) → AllByRecursion P ps → AllByRecursion P (in_list o ++ ps)
  put_ahead None ps h a = a
  put_ahead (Some p) ps h a = (h p refl, a)

  here : (names : List (List ℕ)) (y : List ℕ) (p : ℕ) → position (bytes_eq y) around ≡ Some p → Wanted (listed (y ∷ names)) 0 around p
  here names y p e =
      let t = position-Some (bytes_eq y) around p [] e in
      (p, omega arith, t.0, ap (λ r. r || listed names (get_or around p [])) t.1)

  all_wanted : (names : List (List ℕ)) → AllByRecursion (Wanted (listed names) 0 around) (first_places around names)
  all_wanted [] = tt
  all_wanted (y ∷ names) = put_ahead (position (bytes_eq y) around) (first_places around names) (here names y) (all_there names y (first_places around names) (all_wanted names))

each_at : (xs : List (List ℕ)) (x y : List ℕ) (i : ℕ) → AllByRecursion (λ z. bytes_eq x z ≡ false) xs → i < length xs → get_or xs i [] ≡ y → bytes_eq x y ≡ false
each_at [] x y i a l e = absurd (omega arith)
each_at (z ∷ xs) x y zero a l e = ap (bytes_eq x) (sym e) ∙ a.0
each_at (z ∷ xs) x y (suc i) a l e = each_at xs x y i a.1 (omega arith) e

place_from : (y : List ℕ) (xs : List (List ℕ)) (k i : ℕ) → IsDistinct bytes_eq xs → i < length xs → bytes_eq y (get_or xs i []) ≡ true → position_from (bytes_eq y) k xs ≡ Some (k + i)
unfolding IsDistinct
place_from y [] k i d l e = absurd (omega arith)
place_from y (x ∷ xs) k zero d l e = ap (λ b. cond b (Some k) (position_from (bytes_eq y) (k + 1) xs)) e ∙ ap Some (omega arith)
place_from y (x ∷ xs) k (suc i) d l e =
    by (bytes_eq y x) refl (place_from y xs (k + 1) i d.1 (omega arith) e)
  where
    by : (b : Bool) → bytes_eq y x ≡ b → position_from (bytes_eq y) (k + 1) xs ≡ Some ((k + 1) + i) → cond b (Some k) (position_from (bytes_eq y) (k + 1) xs) ≡ Some (k + suc i)
    by true h rest = absurd (let no : true ≡ false = sym e ∙ ap (λ z. bytes_eq z (get_or xs i [])) (same_name y x h) ∙ each_at xs x (get_or xs i []) i d.0 (omega arith) refl in cc)
    by false h rest = rest ∙ ap Some (omega arith)

place : (y : List ℕ) (xs : List (List ℕ)) (i : ℕ) → IsDistinct bytes_eq xs → i < length xs → bytes_eq y (get_or xs i []) ≡ true → position (bytes_eq y) xs ≡ Some i
place y xs i d l e = position_from-zero (bytes_eq y) xs ∙ place_from y xs 0 i d l e ∙ ap Some (omega arith)

found_by : (around names : List (List ℕ)) (y : List ℕ) (i : ℕ) → IsDistinct bytes_eq around → i < length around
    → (listed names (get_or around i []) ≡ true → Contains (first_places around names) i)
    → (b : Bool) → bytes_eq y (get_or around i []) ≡ b → (b || listed names (get_or around i [])) ≡ true
    → Contains (in_list (position (bytes_eq y) around) ++ first_places around names) i
found_by around names y i d l rest true h w =
    subst (λ o. Contains (in_list o ++ first_places around names) i) (sym (place y around i d l h)) (0, omega arith, refl)
found_by around names y i d l rest false h w = Contains-append_right (in_list (position (bytes_eq y) around)) (first_places around names) i (rest w)

all_found : (around names : List (List ℕ)) (i : ℕ) → IsDistinct bytes_eq around → i < length around → listed names (get_or around i []) ≡ true → Contains (first_places around names) i
all_found around [] i d l w = absurd cc
all_found around (y ∷ names) i d l w = found_by around names y i d l (all_found around names i d l) (bytes_eq y (get_or around i [])) refl w

-- ---- what is found, sorted

each_from : (wanted : List ℕ → Bool) (xs : List (List ℕ)) (ps : List ℕ) → AllByRecursion (Wanted wanted 0 xs) ps → Each wanted 0 xs ps
each_from wanted xs [] a = tt
each_from wanted xs (p ∷ ps) a = (a.0, each_from wanted xs ps a.1)

at_least_none : (ps : List ℕ) → AtLeast 0 ps
at_least_none [] = tt
at_least_none (p ∷ ps) = omega arith

-- The first places of names, sorted and each once, are the places at which they stand, where no two names around are equal.
pub sorted-places : (around names : List (List ℕ)) (sorted ps : List ℕ) → IsDistinct bytes_eq around → IsPermutation (first_places around names) sorted → IsSorted nat_cmp sorted
    → ps ≡ dedup eqb sorted → ps ≡ places_from 0 (listed names) around
sorted-places around names sorted ps d moved s e =
    let found : AllByRecursion (Wanted (listed names) 0 around) (dedup eqb sorted) =
    recursion_from_All (Wanted (listed names) 0 around) (dedup eqb sorted)
    (All-dedup eqb (Wanted (listed names) 0 around) sorted
    (All-permutation (Wanted (listed names) 0 around) (first_places around names) sorted moved
    (All-from_recursion (Wanted (listed names) 0 around) (first_places around names) (all_wanted around names)))) in
    e ∙ only_list (listed names) 0 around (dedup eqb sorted) (
      rising 0 (dedup eqb sorted) (at_least_none (dedup eqb sorted)) (IsStrictlyIncreasing-dedup sorted s),
      each_from (listed names) around (dedup eqb sorted) found,
      λ i l w. let same : i ≡ 0 + i = omega arith in
          subst (Has (dedup eqb sorted)) same (has (dedup eqb sorted) i (Contains-dedup_nat sorted i (Contains-permutation (first_places around names) sorted i moved (all_found around names i d l w)))),
    )

-- ---- step by step

pub next-first : (around : List (List ℕ)) (before : List ℕ) (xs : List (Bor (List ℕ))) (i : ℕ) (x : Bor (List ℕ)) → i < length xs → x ≡ get_or xs i x
    → with_more before (first_places around (names_seen (drop i xs)))
    ≡ with_more (with_more before (in_list (position (bytes_eq x.now) around))) (first_places around (names_seen (drop (i + 1) xs)))
next-first around before xs i x h p =
    ap (λ more. with_more before (first_places around (names_seen more))) (drop-next xs i x h p)
    ∙ more-append before (in_list (position (bytes_eq x.now) around)) (first_places around (names_seen (drop (i + 1) xs)))

pub next-place : (before : List Fact) (see : Sight) (control v : Option ℕ) (at : Span) (around : List (List ℕ)) (ps : List ℕ) (i : ℕ) (p : ℕ) → i < length ps → p ≡ get_or ps i p
    → with_more before (of_places see control v at around (drop i ps))
    ≡ with_more (with_more before (of_place see control v at (slice_get around p))) (of_places see control v at around (drop (i + 1) ps))
next-place before see control v at around ps i p h q =
    ap (λ more. with_more before (of_places see control v at around more)) (drop-next ps i p h q)
    ∙ more-append before (of_place see control v at (slice_get around p)) (of_places see control v at around (drop (i + 1) ps))

-- ---- the names of a set

seen_apart : (x : Bor (List ℕ)) (ys : List (Bor (List ℕ))) → AllByRecursion (λ (y : Bor (List ℕ)). bytes_eq x.now y.now ≡ false) ys → AllByRecursion (λ y. bytes_eq x.now y ≡ false) (names_seen ys)
seen_apart x [] a = tt
seen_apart x (y ∷ ys) a = (a.0, seen_apart x ys a.1)

pub distinct-seen : (keys : List (Bor (List ℕ))) → IsDistinct (λ (x y : Bor (List ℕ)). bytes_eq x.now y.now) keys → IsDistinct bytes_eq (names_seen keys)
unfolding IsDistinct
distinct-seen [] d = tt
distinct-seen (x ∷ xs) d = (seen_apart x xs d.0, distinct-seen xs d.1)

seen_from : (x : List ℕ) (k : ℕ) (keys : List (Bor (List ℕ))) → position_from (λ (y : Bor (List ℕ)). bytes_eq x y.now) k keys ≡ position_from (bytes_eq x) k (names_seen keys)
seen_from x k [] = refl
seen_from x k (y ∷ ys) = ap (λ r. cond (bytes_eq x y.now) (Some k) r) (seen_from x (k + 1) ys)

pub position-seen : (x : List ℕ) (keys : List (Bor (List ℕ))) → position (λ (y : Bor (List ℕ)). bytes_eq x y.now) keys ≡ position (bytes_eq x) (names_seen keys)
position-seen x keys = position_from-zero (λ (y : Bor (List ℕ)). bytes_eq x y.now) keys ∙ seen_from x 0 keys ∙ sym (position_from-zero (bytes_eq x) (names_seen keys))

beyond : {A : Type 0} (xs : List A) (i : ℕ) → length xs ≤ i → slice_get xs i ≡ None
beyond [] i h = refl
beyond (x ∷ xs) zero h = absurd (omega arith)
beyond (x ∷ xs) (suc i) h = beyond xs i (omega arith)

pub name-beyond : (xs : List (Bor (List ℕ))) (i : ℕ) → length xs ≤ i → slice_get (names_seen xs) i ≡ None
name-beyond xs i h = slice_get-map (λ (x : Bor (List ℕ)). x.now) xs i ∙ ap (option_map (λ (x : Bor (List ℕ)). x.now)) (beyond xs i h)
