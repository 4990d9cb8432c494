-- The points of a cycle, number by number.
use Rattle.std.proofs.Common.{◌≡◌, ℕ, zero, suc, ◌+◌, ◌<◌, ◌≤◌, ◌-◌, get_or, length, drop, take, Bool, true, false, if◌then◌else◌, List, [], ◌∷◌, ◌++◌, Option, None, Some, refl, sym, ap, subst, ◌∙◌, arith}
use Rattle.std.specs.Prelude.{nat_eq}
use Rattle.std.proofs.lemmas.List.{get_or_default, length-drop, map-append, take_all}
use Rattle.hp_meaning.specs.declared.causal.point.Point.{Point}
use Rattle.hp_cause.specs.declared.cycle.Described.{Described}
use Rattle.hp_cause.specs.declared.fact.Fact as held
use Rattle.hp_cause.specs.Describing.{first_or, AreFirsts, AllBelow, one_seen, points_seen, point_in}
use Rattle.hp_cause.specs.Facts.{Fact, stands, reads, depends, points_in}
use Rattle.hp_cause.specs.Gathering.{in_list}
use Rattle.hp_cause.specs.Naming.{first_at, numbers_of, point_by, picked}
use Rattle.hp_cause.specs.Told.{fact_seen, facts_seen, with_more}
use Rattle.hp_cause.proofs.GrowLaws.{drop-next, drop-end, more-append, more-from_nil, more-is, more-one}
use Rattle.hp_cause.proofs.NamedLaws.{picked_append}

first_less : (k : ℕ) (vs : List ℕ) (v i : ℕ) → first_at k vs v ≡ Some i → i < k + length vs
first_less k [] v i h = absurd cc
first_less k (u ∷ us) v i h = by (nat_eq u v) h (λ g. first_less (k + 1) us v i g)
  where
    by : (d : Bool) → (if d then Some k else first_at (k + 1) us v) ≡ Some i → (first_at (k + 1) us v ≡ Some i → i < k + 1 + length us) → i < k + suc (length us)
    by true g rest = let e : k ≡ i = cc in omega arith
    by false g rest = let l : i < k + 1 + length us = rest g in omega arith

known_by : (many point : ℕ) (o : Option ℕ) → ((i : ℕ) → o ≡ Some i → i < many) → point ≡ first_or many o → point < many → Some point ≡ o
known_by many point None f e l = absurd (omega arith)
known_by many point (Some i) f e l = ap Some e

unknown_by : (many point : ℕ) (o : Option ℕ) → ((i : ℕ) → o ≡ Some i → i < many) → point ≡ first_or many o → many ≤ point → None ≡ o
unknown_by many point None f e l = refl
unknown_by many point (Some i) f e l = let g : i < many = f i refl in absurd (omega arith)

pub number-known : (vs firsts : List ℕ) (v : ℕ) → AreFirsts vs firsts → v < length firsts → get_or firsts v 0 < length vs → Some (get_or firsts v 0) ≡ first_at 0 vs v
number-known vs firsts v a h l = known_by (length vs) (get_or firsts v 0) (first_at 0 vs v) (λ i e. let g : i < 0 + length vs = first_less 0 vs v i e in omega arith) (a v h) l

pub number-unknown : (vs firsts : List ℕ) (v : ℕ) → AreFirsts vs firsts → v < length firsts → length vs ≤ get_or firsts v 0 → None ≡ first_at 0 vs v
number-unknown vs firsts v a h l = unknown_by (length vs) (get_or firsts v 0) (first_at 0 vs v) (λ i e. let g : i < 0 + length vs = first_less 0 vs v i e in omega arith) (a v h) l

pub below-at : (bound : ℕ) (vs : List ℕ) (i : ℕ) → AllBelow bound vs → i < length vs → get_or vs i 0 < bound
below-at bound [] i h l = absurd (omega arith)
below-at bound (v ∷ vs) zero h l = h.0
below-at bound (v ∷ vs) (suc i) h l = below-at bound vs i h.1 (omega arith)

pub next-number : (before vs c : List ℕ) (i : ℕ) → i < length c → with_more before (numbers_of vs (drop i c)) ≡ with_more (with_more before (in_list (first_at 0 vs (get_or c i 0)))) (numbers_of vs (drop (i + 1) c))
next-number before vs c i h =
    let v = get_or c i 0 in
    ap (λ more. with_more before (numbers_of vs more)) (drop-next c i v h (get_or_default c i 0 v h)) ∙ more-append before (in_list (first_at 0 vs v)) (numbers_of vs (drop (i + 1) c))

pub next-picked : (before : List Point) (ps : List Point) (is : List ℕ) (i : ℕ) → i < length is → with_more before (picked ps (drop i is)) ≡ with_more (with_more before (point_by ps (get_or is i 0))) (picked ps (drop (i + 1) is))
next-picked before ps is i h =
    let v = get_or is i 0 in
    ap (λ more. with_more before (picked ps more)) (drop-next is i v h (get_or_default is i 0 v h)) ∙ more-append before (point_by ps v) (picked ps (drop (i + 1) is))

point_first : (f : Fact) (fs : List Fact) → points_in (f ∷ fs) ≡ point_in f ++ points_in fs
point_first (stands p v) fs = refl
point_first (reads v u) fs = refl
point_first (depends v u) fs = refl

module _ (d : held.Fact) (fs : List held.Fact) (i : ℕ) (h : i < length fs) where
  pub described-step : (before made : List Point) → made ≡ with_more before (point_in (fact_seen (get_or fs i d))) → with_more made (points_in (facts_seen (drop (i + 1) fs))) ≡ with_more before (points_in (facts_seen (drop i fs)))
  described-step before made e =
      let f = get_or fs i d in
      ap (λ m. with_more m (points_in (facts_seen (drop (i + 1) fs)))) e
      ∙ sym (ap (λ more. with_more before (points_in (facts_seen more))) (drop-next fs i f h (get_or_default fs i d f h)) ∙ ap (with_more before) (point_first (fact_seen f) (facts_seen (drop (i + 1) fs)))
      ∙ more-append before (point_in (fact_seen f)) (points_in (facts_seen (drop (i + 1) fs))))

pub described-push : (xs : List Described) (x : Described) → points_seen (xs ++ x ∷ []) ≡ with_more (points_seen xs) (one_seen x ∷ [])
described-push xs x = map-append one_seen xs (x ∷ []) ∙ more-one (points_seen xs) (one_seen x)

pub point-there : (d : Described) (ds : List Described) (i : ℕ) → i < length ds → point_by (points_seen ds) i ≡ one_seen (get_or ds i d) ∷ []
point-there d [] i h = absurd (omega arith)
point-there d (x ∷ ds) zero h = refl
point-there d (x ∷ ds) (suc i) h = point-there d ds i (omega arith)

pub point-beyond : (ds : List Described) (i : ℕ) → length ds ≤ i → point_by (points_seen ds) i ≡ []
point-beyond [] i h = refl
point-beyond (x ∷ ds) zero h = absurd (omega arith)
point-beyond (x ∷ ds) (suc i) h = point-beyond ds i (omega arith)

-- ---- a table

pub next-below : (bound : ℕ) (c : List ℕ) (i : ℕ) → i < length c → get_or c i 0 < bound → AllBelow bound (drop (i + 1) c) → AllBelow bound (drop i c)
next-below bound c i h l rest = let v = get_or c i 0 in subst (AllBelow bound) (sym (drop-next c i v h (get_or_default c i 0 v h))) (l, rest)

pub all-below : (bound : ℕ) (c : List ℕ) (i : ℕ) → length c ≤ i → AllBelow bound (drop i c)
all-below bound c i h = subst (AllBelow bound) (sym (drop-end c i h)) tt

pub filled-more : (n : ℕ) (xs : List ℕ) (x : ℕ) → ((v : ℕ) → v < length xs → get_or xs v 0 ≡ n) → x ≡ n → (v : ℕ) → v < length (xs ++ x ∷ []) → get_or (xs ++ x ∷ []) v 0 ≡ n
filled-more n [] x f e zero h = e
filled-more n [] x f e (suc v) h = absurd (omega arith)
filled-more n (y ∷ ys) x f e zero h = f 0 (omega arith)
filled-more n (y ∷ ys) x f e (suc v) h = filled-more n ys x (λ u l. f (suc u) (omega arith)) e v (omega arith)

pub first-next : (vs : List ℕ) (i k u v : ℕ) → k ≡ i + 1 → i < length vs → u ≡ get_or vs i 0 → first_at i (drop i vs) v ≡ (if nat_eq u v then Some i else first_at k (drop k vs) v)
first-next vs i k u v next h e =
    ap (λ more. first_at i more v) (drop-next vs i u h (e ∙ get_or_default vs i 0 (get_or vs i 0) h ∙ ap (get_or vs i) (sym e)))
    ∙ ap (λ m. if nat_eq u v then Some i else first_at m (drop m vs) v) (sym next)

pub turned-named : (pts : List Point) (a b : List ℕ) (none one two : List Point) → none ≡ [] → one ≡ with_more none (picked pts a) → two ≡ with_more one (picked pts b) → two ≡ picked pts (a ++ b)
turned-named pts a b none one two e f g =
    g ∙ ap (λ made. with_more made (picked pts b)) (f ∙ ap (λ made. with_more made (picked pts a)) e ∙ more-from_nil (picked pts a)) ∙ more-is (picked pts a) (picked pts b) ∙ sym (picked_append pts a b)

pub rest-whole : (xs : List ℕ) (n : ℕ) → take (length xs - n) (drop n xs) ≡ drop n xs
rest-whole xs n = take_all (length xs - n) (drop n xs) (let e : length (drop n xs) ≡ length xs - n = length-drop n xs in omega arith)
