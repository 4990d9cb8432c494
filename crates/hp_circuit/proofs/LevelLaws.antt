-- The levels of wires, and their order by level: there is one.
use Rattle.std.proofs.Common.{◌≡◌, ◌≢◌, ◌≤◌, ◌<◌, ◌+◌, ◌⊎◌, inl, inr, ℕ, zero, suc, Bool, true, false, List, [], ◌∷◌, ◌++◌, length, set, take, drop, get_or, replicate, refl, sym, ap, ap₂, subst, ◌∙◌, arith, drop-cons, if◌then◌else◌}
use Rattle.std.specs.Prelude.{All, Contains, nat_le, nat_lt}
use Rattle.std.specs.Cmp.{IsStrictWeakOrder, nat_cmp_is}
use Rattle.std.specs.List.{AllByRecursion, sum_by}
use Rattle.std.specs.Ordering.{is_lt, nat_cmp, ordering_then}
use Rattle.std.specs.declared.cmp.Ordering.{Ordering}
use Rattle.std.specs.declared.cmp.Ordering.TheVariants.{Equal}
use Rattle.std.proofs.lemmas.Cmp.{nat_cmp_total, on_total, then_total}
use Rattle.std.proofs.lemmas.List.MinMax.{ranks_by}
use Rattle.std.proofs.lemmas.List.Sorted.{sorted_far, sum_by-IsPermutation}
use Rattle.std.proofs.lemmas.List.Sums.{sum_by-cons}
use Rattle.std.proofs.Math.Seq.{take-append_seam}
use Rattle.std.proofs.lemmas.Bool.{ltb-true, ltb-false}
use Rattle.std.proofs.lemmas.List.{append_assoc, append-nil, get_or-set_same, get_or-set_other, drop_all, length-set}
use Rattle.std.proofs.lemmas.List.Elements.{All-contains, recursion_from_All}
use Rattle.hp_circuit.specs.Levels.{AreLevels, AreLifted, AreSorted, IsByLevel, level_at, lifted, numbered_from, read_of, reader_of}
use Rattle.hp_circuit.specs.Ordering.{AreEdgesByRank, AreFalling}
use Rattle.hp_circuit.proofs.NumberLaws.{tests, le_true, le_false}
use Rattle.hp_circuit.proofs.OrderLaws.{first_le}
use Rattle.hp_circuit.proofs.SteeredLaws.{same_edge, same_number}

-- ---- one wire is lifted

module _ (levels : List ℕ) (reader read : ℕ) (there : reader < length levels) where
  -- what is known of the levels then
  record Lifts (new : List ℕ) : Type 0 where
    others : (w : ℕ) → w ≢ reader → level_at new w ≡ level_at levels w
    above : level_at levels read < level_at new reader
    more : level_at levels reader ≤ level_at new reader
    either : (level_at new reader ≡ level_at levels reader) ⊎ (level_at new reader ≡ suc (level_at levels read))

  lifts_by : (b : Bool) → nat_lt (level_at levels reader) (level_at levels read + 1) ≡ b → Lifts (if b then set levels reader (level_at levels read + 1) else levels)
  lifts_by true e =
      let here : level_at (set levels reader (level_at levels read + 1)) reader ≡ level_at levels read + 1 = get_or-set_same levels reader (level_at levels read + 1) 0 there in
      let low = ltb-true (level_at levels reader) (level_at levels read + 1) e in
      record {
        others = λ w f. get_or-set_other levels reader w (level_at levels read + 1) 0 f;
        above = omega (arith, here);
        more = omega (arith, here, low);
        either = inr (omega (arith, here));
      }
  lifts_by false e =
      let high = ltb-false (level_at levels reader) (level_at levels read + 1) e in
      record { others = λ w f. refl; above = omega (arith, high); more = omega arith; either = inl refl }

  lifts : Lifts (lifted levels reader read)
  lifts = lifts_by (nat_lt (level_at levels reader) (level_at levels read + 1)) refl

-- ---- edges by rank, one after another

module _ (edges : List (ℕ × ℕ × ℕ)) (ranks : List ℕ) (f : AreFalling ranks edges) (i : ℕ) (l : i < length edges) where
  -- no edge up to this one reads the wire that reads here
  unread : (k : ℕ) → k ≤ i → read_of edges k ≢ reader_of edges i
  unread k m e =
      let d : ℕ × ℕ × ℕ = (0, 0, 0) in
      let k_there : k < length edges = omega (arith, m, l) in
      let up : (get_or edges k d).0 ≤ (get_or edges i d).0 = f.rising k i d m l in
      let falls : get_or ranks (get_or edges k d).2 0 < get_or ranks (get_or edges k d).1 0 = f.falls k d k_there in
      let a : (get_or edges k d).0 ≡ get_or ranks (get_or edges k d).1 0 = f.own k d k_there in
      let b : (get_or edges i d).0 ≡ get_or ranks (get_or edges i d).1 0 = f.own i d l in
      let x : get_or ranks (get_or edges k d).2 0 ≡ get_or ranks (get_or edges i d).1 0 = ap (λ n. get_or ranks n 0) e in
      absurd (omega (arith, up, falls, a, b, x))

  module _ (levels : List ℕ) (there : reader_of edges i < length levels) (h : AreLifted edges i levels) where
    abbrev pub new : List ℕ
    new = lifted levels (reader_of edges i) (read_of edges i)

    got : Lifts levels (reader_of edges i) (read_of edges i) there new
    got = lifts levels (reader_of edges i) (read_of edges i) there

    -- what is read has its level still
    still : (k : ℕ) → k ≤ i → level_at new (read_of edges k) ≡ level_at levels (read_of edges k)
    still k m = got.others (read_of edges k) (unread k m)

    no_lower : (w : ℕ) → level_at levels w ≤ level_at new w
    no_lower w = by (same_number w (reader_of edges i))
      where
        by : (w ≡ reader_of edges i) ⊎ (w ≢ reader_of edges i) → level_at levels w ≤ level_at new w
        by (inl e) = subst (λ z. level_at levels z ≤ level_at new z) (sym e) got.more
        by (inr g) = let e = got.others w g in omega (arith, e)

    abbrev Least : ℕ → Type 0
    Least w = (level_at new w ≡ 0) ⊎ ((k : ℕ) × (k < i + 1) × (reader_of edges k ≡ w) × (level_at new w ≡ suc (level_at new (read_of edges k))))

    -- a wire whose level stays
    stays : (w : ℕ) → level_at new w ≡ level_at levels w → Least w
    stays w same = by (h.least w)
      where
        by : (level_at levels w ≡ 0) ⊎ ((k : ℕ) × (k < i) × (reader_of edges k ≡ w) × (level_at levels w ≡ suc (level_at levels (read_of edges k)))) → Least w
        by (inl e) = inl (same ∙ e)
        by (inr q) =
            let k_less = q.1 in
            inr (q.0, omega (arith, k_less), q.2, same ∙ q.3 ∙ ap suc (sym (still q.0 (omega (arith, k_less)))))

    least_at : (w : ℕ) → Least w
    least_at w = by (same_number w (reader_of edges i))
      where
        here : (level_at new (reader_of edges i) ≡ level_at levels (reader_of edges i)) ⊎ (level_at new (reader_of edges i) ≡ suc (level_at levels (read_of edges i))) → Least (reader_of edges i)
        here (inl e) = stays (reader_of edges i) e
        here (inr e) = inr (i, omega arith, refl, e ∙ ap suc (sym (still i (omega arith))))

        by : (w ≡ reader_of edges i) ⊎ (w ≢ reader_of edges i) → Least w
        by (inl e) = subst Least (sym e) (here got.either)
        by (inr g) = stays w (got.others w g)

    above_at : (k : ℕ) → k < i + 1 → level_at new (read_of edges k) < level_at new (reader_of edges k)
    above_at k m = tests (nat_le i k)
        (λ t.
        let s : i ≡ k = (let u = le_true i k t in omega (arith, m, u)) in
        let e = still i (omega arith) in
        let a = got.above in
        subst (λ n. level_at new (read_of edges n) < level_at new (reader_of edges n)) s (omega (arith, e, a)))
        (λ t.
        let k_less = le_false i k t in
        let e = still k (omega (arith, k_less)) in
        let a = h.above k k_less in
        let b = no_lower (reader_of edges k) in
        omega (arith, e, a, b))

    pub lifted_more : AreLifted edges (i + 1) new
    lifted_more = record { above = above_at; least = least_at }

-- there are as many levels
pub lifted_long : (levels : List ℕ) (reader read : ℕ) → length (lifted levels reader read) ≡ length levels
lifted_long levels reader read = by (nat_lt (level_at levels reader) (level_at levels read + 1))
  where
    by : (b : Bool) → length (if b then set levels reader (level_at levels read + 1) else levels) ≡ length levels
    by true = length-set levels reader (level_at levels read + 1)
    by false = refl

-- no wire is lifted yet
zero_at : (n w : ℕ) → level_at (replicate n 0) w ≡ 0
zero_at zero w = refl
zero_at (suc n) zero = refl
zero_at (suc n) (suc w) = zero_at n w

pub lifted_none : (edges : List (ℕ × ℕ × ℕ)) (n : ℕ) → AreLifted edges 0 (replicate n 0)
lifted_none edges n = record { above = λ k m. absurd (omega (arith, m)); least = λ w. inl (zero_at n w) }

-- levels that were put into a vector of their length
pub levels_back : (n : ℕ) (levels old : List ℕ) → length levels ≡ n → take n (levels ++ drop (length levels) old) ≡ levels
levels_back n levels old h = ap (λ m. take m (levels ++ drop (length levels) old)) (sym h) ∙ take-append_seam levels (drop (length levels) old)

-- all are
pub levels_are : (edges : List (ℕ × ℕ)) (ranks : List ℕ) (sorted : List (ℕ × ℕ × ℕ)) (levels : List ℕ) → AreEdgesByRank edges ranks sorted → AreLifted sorted (length sorted) levels → AreLevels edges levels
levels_are edges ranks sorted levels by h = record { above = above; least = λ w. least w (h.least w) }
  where
    all : All (λ (e : ℕ × ℕ × ℕ). level_at levels e.2 < level_at levels e.1) sorted
    all k d l = subst (λ (e : ℕ × ℕ × ℕ). level_at levels e.2 < level_at levels e.1) (same_edge sorted k k (0, 0, 0) d refl l) (h.above k l)

    above : All (λ (e : ℕ × ℕ). level_at levels e.1 < level_at levels e.0) edges
    above k d l = All-contains (λ (e : ℕ × ℕ × ℕ). level_at levels e.2 < level_at levels e.1) sorted (get_or ranks (get_or edges k d).0 0, (get_or edges k d).0, (get_or edges k d).1) all (by.whole k d l)

    least : (w : ℕ) → (level_at levels w ≡ 0) ⊎ ((k : ℕ) × (k < length sorted) × (reader_of sorted k ≡ w) × (level_at levels w ≡ suc (level_at levels (read_of sorted k))))
        → (level_at levels w ≡ 0) ⊎ ((r : ℕ) × Contains edges (w, r) × (level_at levels w ≡ suc (level_at levels r)))
    least w (inl e) = inl e
    least w (inr q) = inr (read_of sorted q.0, subst (λ z. Contains edges (z, read_of sorted q.0)) q.2 (by.are q.0 (0, 0, 0) q.1), q.3)

-- ---- numbers behind their levels

pub numbered_more : (levels : List ℕ) (order : List (ℕ × ℕ)) (i : ℕ) → i < length levels → order ++ numbered_from i (drop i levels) ≡ numbered_from 0 levels
    → (order ++ (get_or levels i 0, i) ∷ []) ++ numbered_from (i + 1) (drop (i + 1) levels) ≡ numbered_from 0 levels
numbered_more levels order i l h =
    append_assoc order ((get_or levels i 0, i) ∷ []) (numbered_from (i + 1) (drop (i + 1) levels))
    ∙ ap (λ (xs : List ℕ). order ++ numbered_from i xs) (sym (drop-cons levels i 0 l ∙ ap (λ n. get_or levels i 0 ∷ drop n levels) (let e : suc i ≡ i + 1 = omega arith in e)))
    ∙ h

pub numbered_all : (levels : List ℕ) (order : List (ℕ × ℕ)) (i : ℕ) → i ≡ length levels → order ++ numbered_from i (drop i levels) ≡ numbered_from 0 levels → order ≡ numbered_from 0 levels
numbered_all levels order i e h = sym (append-nil order) ∙ ap (λ (xs : List ℕ). order ++ numbered_from i xs) (sym (drop_all i levels (omega (arith, e)))) ∙ h

-- ---- there is one order

module _ (edges : List (ℕ × ℕ)) (xs ys : List ℕ) (h : AreLevels edges xs) (g : AreLevels edges ys) where
  no_higher : (n w : ℕ) → level_at xs w < n → level_at xs w ≤ level_at ys w
  no_higher zero w l = absurd (omega (arith, l))
  no_higher (suc n) w l = by (λ r. no_higher n r) (h.least w)
    where
      by : ((r : ℕ) → level_at xs r < n → level_at xs r ≤ level_at ys r) → (level_at xs w ≡ 0) ⊎ ((r : ℕ) × Contains edges (w, r) × (level_at xs w ≡ suc (level_at xs r))) → level_at xs w ≤ level_at ys w
      by lower (inl e) = omega (arith, e)
      by lower (inr q) =
          let e = q.2 in
          let below = lower q.0 (omega (arith, e, l)) in
          let up : level_at ys q.0 < level_at ys w = All-contains (λ (e : ℕ × ℕ). level_at ys e.1 < level_at ys e.0) edges (w, q.0) g.above q.1 in
          omega (arith, e, below, up)

same_lists : (xs ys : List ℕ) → length xs ≡ length ys → ((w : ℕ) → level_at xs w ≡ level_at ys w) → xs ≡ ys
same_lists [] [] e h = refl
same_lists [] (y ∷ ys) e h = absurd (omega (arith, e))
same_lists (x ∷ xs) [] e h = absurd (omega (arith, e))
same_lists (x ∷ xs) (y ∷ ys) e h = ap₂ (λ (a : ℕ) rest. a ∷ rest) (h 0) (same_lists xs ys (omega (arith, e)) (λ w. h (suc w)))

pub one_levels : (edges : List (ℕ × ℕ)) (xs ys : List ℕ) → length xs ≡ length ys → AreLevels edges xs → AreLevels edges ys → xs ≡ ys
one_levels edges xs ys e h g =
    same_lists xs ys e (λ w.
    let a = no_higher edges xs ys h g (suc (level_at xs w)) w (omega arith) in
    let b = no_higher edges ys xs g h (suc (level_at ys w)) w (omega arith) in
    omega (arith, a, b))

-- ---- a list of pairs has one order

abbrev Pair : Type 0
Pair = ℕ × ℕ

abbrev less : Pair → Pair → Bool
less x y = is_lt (ordering_then (nat_cmp x.0 y.0) (nat_cmp x.1 y.1))

weak : IsStrictWeakOrder less
weak = ranks_by (then_total (on_total (λ (p : Pair). p.0) nat_cmp_total) (on_total (λ (p : Pair). p.1) nat_cmp_total)) (λ (p : Pair). p)

-- no pair comes before one in front of it
abbrev Rises : List Pair → Type 0
Rises [] = Unit {0}
Rises (x ∷ xs) = AllByRecursion (λ y. less y x ≡ false) xs × Rises xs

far_rises : (xs : List Pair) → ((i j : ℕ) (d : Pair) → i ≤ j → j < length xs → less (get_or xs j d) (get_or xs i d) ≡ false) → Rises xs
far_rises [] h = tt
far_rises (x ∷ xs) h =
    (recursion_from_All (λ y. less y x ≡ false) xs (λ k d m. h 0 (suc k) d (omega arith) (omega (arith, m))), far_rises xs (λ i j d le m. h (suc i) (suc j) d (omega (arith, le)) (omega (arith, m))))

same_ends : (a : ℕ) → nat_cmp a a ≡ Equal
same_ends a = sym (nat_cmp_is a a Equal refl)

itself : (x : Pair) → less x x ≡ false
itself x = ap₂ (λ o q. is_lt (ordering_then o q)) (same_ends x.0) (same_ends x.1)

second_le : (a x y : ℕ) → is_lt (ordering_then (nat_cmp a a) (nat_cmp y x)) ≡ false → x ≤ y
second_le a x y h = first_le x y Equal (by (nat_cmp y x) (sym (ap (λ o. is_lt (ordering_then o (nat_cmp y x))) (same_ends a)) ∙ h))
  where
    by : (o : Ordering) → is_lt (ordering_then Equal o) ≡ false → is_lt (ordering_then o Equal) ≡ false
    by Ordering.Less h = h
    by Ordering.Equal h = h
    by Ordering.Greater h = h

-- two of which neither comes before the other are one
one_pair : (x y : Pair) → less y x ≡ false → less x y ≡ false → x ≡ y
one_pair x y h g =
    let a = first_le x.0 y.0 (nat_cmp y.1 x.1) h in
    let b = first_le y.0 x.0 (nat_cmp x.1 y.1) g in
    let first : x.0 ≡ y.0 = omega (arith, a, b) in
    let c = second_le x.0 x.1 y.1 (subst (λ z. is_lt (ordering_then (nat_cmp z x.0) (nat_cmp y.1 x.1)) ≡ false) (sym first) h) in
    let d = second_le x.0 y.1 x.1 (subst (λ z. is_lt (ordering_then (nat_cmp x.0 z) (nat_cmp x.1 y.1)) ≡ false) (sym first) g) in
    let second : x.1 ≡ y.1 = omega (arith, c, d) in
    λ i. (first i, second i)

nothing : (f : Pair → ℕ) (xs : List Pair) → AllByRecursion (λ x. f x ≡ 0) xs → sum_by f xs ≡ 0
nothing f [] h = refl
nothing f (x ∷ xs) h = let a = h.0 in let b = nothing f xs h.1 in sum_by-cons f x xs ∙ (let e : f x + sum_by f xs ≡ 0 = omega (arith, a, b) in e)

abbrev one_if : Bool → ℕ
one_if b = if b then 1 else 0

none_less : (y : Pair) (xs : List Pair) → AllByRecursion (λ x. less x y ≡ false) xs → AllByRecursion (λ x. one_if (less x y) ≡ 0) xs
none_less y [] h = tt
none_less y (x ∷ xs) h = (ap one_if h.0, none_less y xs h.1)

-- no pair comes before the first of a list with the same elements
not_before : (x y : Pair) (xs ys : List Pair) → Rises (y ∷ ys) → ((f : Pair → ℕ) → sum_by f (x ∷ xs) ≡ sum_by f (y ∷ ys)) → (b : Bool) → less x y ≡ b → less x y ≡ false
not_before x y xs ys up same false e = e
not_before x y xs ys up same true e =
    let f : Pair → ℕ = λ z. one_if (less z y) in
    let none : sum_by f (y ∷ ys) ≡ 0 = nothing f (y ∷ ys) (ap one_if (itself y), none_less y ys up.0) in
    let some : f x + sum_by f xs ≡ 0 = sym (sum_by-cons f x xs) ∙ same f ∙ none in
    let here : f x ≡ 1 = ap one_if e in
    absurd (omega (arith, some, here))

one_rising : (xs ys : List Pair) → Rises xs → Rises ys → ((f : Pair → ℕ) → sum_by f xs ≡ sum_by f ys) → xs ≡ ys
one_rising [] [] u v h = refl
one_rising [] (y ∷ ys) u v h = let e : 0 ≡ 1 + sum_by (λ z. 1) ys = h (λ z. 1) ∙ sum_by-cons (λ z. 1) y ys in absurd (omega (arith, e))
one_rising (x ∷ xs) [] u v h = let e : 1 + sum_by (λ z. 1) xs ≡ 0 = sym (sum_by-cons (λ z. 1) x xs) ∙ h (λ z. 1) in absurd (omega (arith, e))
one_rising (x ∷ xs) (y ∷ ys) u v h =
    let same : x ≡ y = one_pair x y (not_before y x ys xs u (λ f. sym (h f)) (less y x) refl) (not_before x y xs ys v h (less x y) refl) in
    let rest : (f : Pair → ℕ) → sum_by f xs ≡ sum_by f ys =
    λ f.
    let e : f x + sum_by f xs ≡ f y + sum_by f ys = sym (sum_by-cons f x xs) ∙ h f ∙ sum_by-cons f y ys in
    let g : f x ≡ f y = ap f same in
    omega (arith, e, g) in
    ap₂ (λ (p : Pair) ps. p ∷ ps) same (one_rising xs ys u.1 v.1 rest)

one_sorted : (levels : List ℕ) (xs ys : List Pair) → AreSorted levels xs → AreSorted levels ys → xs ≡ ys
one_sorted levels xs ys h g =
    one_rising xs ys (far_rises xs (sorted_far less weak xs h.rising)) (far_rises ys (sorted_far less weak ys g.rising))
    (λ f. sum_by-IsPermutation f (numbered_from 0 levels) xs h.same ∙ sym (sum_by-IsPermutation f (numbered_from 0 levels) ys g.same))

pub one_by_level : (edges : List (ℕ × ℕ)) (many : ℕ) (xs ys : List (ℕ × ℕ)) → IsByLevel edges many xs → IsByLevel edges many ys → xs ≡ ys
one_by_level edges many xs ys h g =
    let same : h.levels ≡ g.levels = one_levels edges h.levels g.levels (h.as_many ∙ sym g.as_many) h.are g.are in
    one_sorted h.levels xs ys h.sorted (subst (λ (ls : List ℕ). AreSorted ls ys) (sym same) g.sorted)
