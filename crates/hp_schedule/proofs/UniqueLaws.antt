-- There is one order by clock, and in it each equation stands behind those that it reads.
use Rattle.std.proofs.Common.{◌≡◌, ℕ, zero, suc, ◌+◌, ◌<◌, ◌≤◌, nat_eq, nat_lt, length, drop, get_or, Bool, true, false, not, ◌&&◌, cond, if◌then◌else◌, List, [], ◌∷◌, map, refl, sym, ap, subst, ◌∙◌, arith}
use Rattle.std.specs.Cmp.{IsStrictWeakOrder, IsTotalOrder}
use Rattle.std.specs.List.{AllByRecursion, filter}
use Rattle.std.specs.List.Sorted.{IsPermutation, IsSortedBy, IsStableBy, ties}
use Rattle.std.specs.Ordering.{is_lt, nat_cmp, ordering_then}
use Rattle.std.specs.declared.cmp.Ordering.{Ordering}
use Rattle.std.specs.declared.cmp.Ordering.TheVariants.{Less, Equal}
use Rattle.std.specs.Cmp.{nat_cmp_is}
use Rattle.std.proofs.lemmas.Bool.{eqb-true, ltb-true, ltb-false}
use Rattle.std.proofs.lemmas.Cmp.{back_total, nat_cmp_total, on_total, then_total}
use Rattle.std.proofs.lemmas.List.Elements.{recursion_from_All}
use Rattle.std.proofs.lemmas.List.Sorted.{IsPermutation-sym, ranks_by, sorted_far}
use Rattle.hp_flat.specs.Equations.{FlatEqn}
use Rattle.law_equations.specs.Meaning.Reactions.{has}
use Rattle.law_equations.specs.Meaning.Scheduling.{reads, IsDefinedBelow, IsRanked}
use Rattle.law_equations.specs.Made.Laws.{unplaced}
use Rattle.law_equations.proofs.FewerLemmas.Members.{each_at, each_both, each_map, has-count}
use Rattle.law_equations.proofs.FewerLemmas.OrderLaws.{each_moved}
use Rattle.hp_schedule.specs.ByClock.{control, change, one, Keys, AreKeys, IsLongest, at_depth, comes_before, numbered, IsByClock}
use Rattle.hp_schedule.proofs.PathLaws.{all_own}

-- ---- longest paths

abbrev Step : (FlatEqn → FlatEqn → ℕ) → (FlatEqn → ℕ) → FlatEqn → ℕ → ℕ → FlatEqn → Type 0
Step cost path e n x d = has (reads d) x ≡ true → path d + cost d e ≤ n

-- in another order equations have the same longest paths
pub longest-moved : (cost : FlatEqn → FlatEqn → ℕ) (path : FlatEqn → ℕ) (es ds : List FlatEqn) → IsPermutation es ds → IsLongest cost path es → IsLongest cost path ds
longest-moved cost path es ds p h = record {
  above = λ e. each_map (λ x. AllByRecursion (Step cost path e (path e) x) es) (λ x. AllByRecursion (Step cost path e (path e) x) ds) (λ x g. each_moved (Step cost path e (path e) x) es ds p g) e.targets (h.above e);
  least = λ e n g. h.least e n
      (each_map (λ x. AllByRecursion (Step cost path e n x) ds) (λ x. AllByRecursion (Step cost path e n x) es) (λ x f. each_moved (Step cost path e n x) ds es (IsPermutation-sym es ds p) f) e.targets g);
}

module _ (es : List FlatEqn) (height : FlatEqn → ℕ) (heights : IsLongest one height es) (cost : FlatEqn → FlatEqn → ℕ) where
  module _ (p q : FlatEqn → ℕ) (n : ℕ) (e : FlatEqn) (shorter : (d : FlatEqn) → height d < n → p d ≤ q d) (h : height e < suc n) where
    at : (x : ℕ) → AllByRecursion (Step one height e (height e) x) es → AllByRecursion (Step cost q e (q e) x) es → AllByRecursion (Step cost p e (q e) x) es
    at x a b = each_both (Step one height e (height e) x) (Step cost q e (q e) x) (Step cost p e (q e) x)
        (λ d s t g. let lower : height d + 1 ≤ height e = s g in let there : q d + cost d e ≤ q e = t g in let less : p d ≤ q d = shorter d (omega arith) in omega arith) es a b

    at_all : (xs : List ℕ) → AllByRecursion (λ x. AllByRecursion (Step one height e (height e) x) es) xs → AllByRecursion (λ x. AllByRecursion (Step cost q e (q e) x) es) xs
        → AllByRecursion (λ x. AllByRecursion (Step cost p e (q e) x) es) xs
    at_all [] a b = tt
    at_all (x ∷ xs) a b = (at x a.0 b.0, at_all xs a.1 b.1)

  no_longer : (p q : FlatEqn → ℕ) → IsLongest cost p es → IsLongest cost q es → (n : ℕ) (e : FlatEqn) → height e < n → p e ≤ q e
  no_longer p q P Q zero e h = absurd (omega arith)
  no_longer p q P Q (suc n) e h = P.least e (q e) (at_all p q n e (no_longer p q P Q n) h e.targets (heights.above e) (Q.above e))

  pub one_longest : (p q : FlatEqn → ℕ) → IsLongest cost p es → IsLongest cost q es → (e : FlatEqn) → p e ≡ q e
  one_longest p q P Q e = omega (arith, no_longer p q P Q (suc (height e)) e (omega arith), no_longer q p Q P (suc (height e)) e (omega arith))

-- ---- the order

less : (a b : ℕ) → a < b → nat_cmp a b ≡ Less
less a b h = sym (nat_cmp_is a b Less h)

equal : (a b : ℕ) → a ≡ b → nat_cmp a b ≡ Equal
equal a b h = sym (nat_cmp_is a b Equal h)

-- what is read comes before at a depth, or what stands behind decides
module _ (depth base : ℕ) (level : FlatEqn → ℕ) (d e : FlatEqn) (rest : Ordering) where
  abbrev Told : Type 0
  Told = is_lt (ordering_then (at_depth depth base level d e) rest) ≡ true

  by_level : level e < level d → Told
  by_level h = ap (λ o. is_lt (ordering_then (ordering_then o (nat_cmp (control depth base d) (control depth base e))) rest)) (less (level e) (level d) h)

  by_rest : level e ≡ level d → control depth base d ≡ control depth base e → is_lt rest ≡ true → Told
  by_rest l c r = ap (λ o. is_lt (ordering_then o rest)) (λ i. ordering_then (equal (level e) (level d) l i) (equal (control depth base d) (control depth base e) c i)) ∙ r

  no_lower : (b : Bool) → nat_lt (level e) (level d) ≡ b → level e ≤ level d → control depth base d ≡ control depth base e → is_lt rest ≡ true → Told
  no_lower true q l c r = by_level (ltb-true (level e) (level d) q)
  no_lower false q l c r = let back : level d ≤ level e = ltb-false (level e) (level d) q in by_rest (omega (arith, l, back)) c r

  by_change : (b : Bool) → nat_eq (control depth base e) (control depth base d) ≡ b → level e + (if b then 0 else 1) ≤ level d → is_lt rest ≡ true → Told
  by_change true q l r = no_lower (nat_lt (level e) (level d)) refl (omega arith) (sym (eqb-true (control depth base e) (control depth base d) q)) r
  by_change false q l r = by_level (omega arith)

  told : level e + change depth base e d ≤ level d → is_lt rest ≡ true → Told
  told l r = by_change (nat_eq (control depth base e) (control depth base d)) refl l r

module _ (base : ℕ) (k : Keys) where
  abbrev before : FlatEqn → FlatEqn → Bool
  before d e = comes_before base k d e

  total_at : (depth : ℕ) (level : FlatEqn → ℕ) → IsTotalOrder (at_depth depth base level)
  total_at depth level = then_total (on_total level (back_total nat_cmp_total)) (on_total (control depth base) nat_cmp_total)

  weak : IsStrictWeakOrder before
  weak = ranks_by (then_total (total_at 0 k.outer) (then_total (total_at 1 k.middle) (then_total (total_at 2 k.inner) (on_total k.height (back_total nat_cmp_total))))) (λ (e : FlatEqn). e)

  -- what is read comes before
  read_before : (d e : FlatEqn) → k.outer e + change 0 base e d ≤ k.outer d → k.middle e + change 1 base e d ≤ k.middle d → k.inner e + change 2 base e d ≤ k.inner d → k.height e + 1 ≤ k.height d → before d e ≡ true
  read_before d e o m n h =
      let by_height : Ordering = nat_cmp (k.height e) (k.height d) in
      let last : is_lt by_height ≡ true = ap is_lt (less (k.height e) (k.height d) (omega (arith, h))) in
      told 0 base k.outer d e (ordering_then (at_depth 1 base k.middle d e) (ordering_then (at_depth 2 base k.inner d e) by_height)) o
      (told 1 base k.middle d e (ordering_then (at_depth 2 base k.inner d e) by_height) m
      (told 2 base k.inner d e by_height n last))

-- no element comes before one in front of it
abbrev pub Rises : {A : Type 0} → (A → A → Bool) → List A → Type 0
Rises lt [] = Unit {0}
Rises lt (x ∷ xs) = AllByRecursion (λ y. lt y x ≡ false) xs × Rises lt xs

module _ {A : Type 0} (lt : A → A → Bool) where
  abbrev Far : List A → Type 0
  Far xs = (i j : ℕ) (d : A) → i ≤ j → j < length xs → lt (get_or xs j d) (get_or xs i d) ≡ false

  far_rises : (xs : List A) → Far xs → Rises lt xs
  far_rises [] h = tt
  far_rises (x ∷ xs) h = (recursion_from_All (λ y. lt y x ≡ false) xs (λ k d k_lt. h 0 (suc k) d (omega arith) (omega arith)), far_rises xs (λ i j d le j_lt. h (suc i) (suc j) d (omega arith) (omega arith)))

  pub sorted-rises : IsStrictWeakOrder lt → (xs : List A) → IsSortedBy lt xs → Rises lt xs
  sorted-rises o xs h = far_rises xs (sorted_far lt o xs h)

  -- ---- two stable orders of the same elements are one

  filter_first : (t : A → Bool) (x : A) (xs : List A) → t x ≡ true → filter t (x ∷ xs) ≡ x ∷ filter t xs
  filter_first t x xs h = ap (λ c. cond c (x ∷ filter t xs) (filter t xs)) h

  filter_skip : (t : A → Bool) (x : A) (xs : List A) → t x ≡ false → filter t (x ∷ xs) ≡ filter t xs
  filter_skip t x xs h = ap (λ c. cond c (x ∷ filter t xs) (filter t xs)) h

  filter_none : (t : A → Bool) (xs : List A) → AllByRecursion (λ x. t x ≡ false) xs → filter t xs ≡ []
  filter_none t [] h = refl
  filter_none t (x ∷ xs) h = filter_skip t x xs h.0 ∙ filter_none t xs h.1

  both_not : (b c : Bool) → b ≡ false → c ≡ false → (not b && not c) ≡ true
  both_not b c h g = λ i. not (h i) && not (g i)

  untied : (b c : Bool) → b ≡ true → (not b && not c) ≡ false
  untied b c h = ap (λ d. not d && not c) h

  module _ (o : IsStrictWeakOrder lt) where
    ties_itself : (x : A) → ties lt x x ≡ true
    ties_itself x = both_not (lt x x) (lt x x) (own (lt x x) refl) (own (lt x x) refl)
      where
        own : (b : Bool) → lt x x ≡ b → lt x x ≡ false
        own true e = o.one_way x x e
        own false e = e

    -- what stands behind something greater is greater
    greater : (x y z : A) (b : Bool) → lt x z ≡ b → lt x y ≡ true → lt z y ≡ false → ties lt x z ≡ false
    greater x y z true e h g = untied (lt x z) (lt z x) e
    greater x y z false e h g = let not_less : lt x y ≡ false = o.chain x z y e g in absurd (cc)

    all_greater : (x y : A) → lt x y ≡ true → (zs : List A) → AllByRecursion (λ z. lt z y ≡ false) zs → AllByRecursion (λ z. ties lt x z ≡ false) zs
    all_greater x y h [] g = tt
    all_greater x y h (z ∷ zs) g = (greater x y z (lt x z) refl h g.0, all_greater x y h zs g.1)

    none_tied : (x y : A) (ys : List A) → lt x y ≡ true → AllByRecursion (λ z. lt z y ≡ false) ys → filter (ties lt x) (y ∷ ys) ≡ []
    none_tied x y ys h g = filter_none (ties lt x) (y ∷ ys) (untied (lt x y) (lt y x) h, all_greater x y h ys g)

    not_less : (y z : A) (ys zs : List A) → AllByRecursion (λ x. lt x z ≡ false) zs → filter (ties lt y) (y ∷ ys) ≡ filter (ties lt y) (z ∷ zs) → (b : Bool) → lt y z ≡ b → lt y z ≡ false
    not_less y z ys zs up same true e =
        let there : y ∷ filter (ties lt y) ys ≡ [] = sym (filter_first (ties lt y) y ys (ties_itself y)) ∙ same ∙ none_tied y z zs e up in
        absurd (cc)
    not_less y z ys zs up same false e = e

    behind : (t : A → Bool) (y z : A) (ys zs : List A) (b : Bool) → y ≡ z → t y ≡ b → filter t (y ∷ ys) ≡ filter t (z ∷ zs) → filter t ys ≡ filter t zs
    behind t y z ys zs true s e h = ap (λ l. drop 1 l) (sym (filter_first t y ys e) ∙ h ∙ filter_first t z zs (ap t (sym s) ∙ e))
    behind t y z ys zs false s e h = sym (filter_skip t y ys e) ∙ h ∙ filter_skip t z zs (ap t (sym s) ∙ e)

    abbrev first_of : A → List A → A
    first_of d [] = d
    first_of d (x ∷ xs) = x

    pub one_order : (ys zs : List A) → Rises lt ys → Rises lt zs → ((x : A) → filter (ties lt x) ys ≡ filter (ties lt x) zs) → ys ≡ zs
    one_order [] [] u v h = refl
    one_order [] (z ∷ zs) u v h = let there : [] ≡ z ∷ filter (ties lt z) zs = h z ∙ filter_first (ties lt z) z zs (ties_itself z) in absurd (cc)
    one_order (y ∷ ys) [] u v h = let there : y ∷ filter (ties lt y) ys ≡ [] = sym (filter_first (ties lt y) y ys (ties_itself y)) ∙ h y in absurd (cc)
    one_order (y ∷ ys) (z ∷ zs) u v h =
        let below : lt y z ≡ false = not_less y z ys zs v.0 (h y) (lt y z) refl in
        let above : lt z y ≡ false = not_less z y zs ys u.0 (sym (h z)) (lt z y) refl in
        let fronts : y ∷ filter (ties lt y) ys ≡ z ∷ filter (ties lt y) zs = sym (filter_first (ties lt y) y ys (ties_itself y)) ∙ h y ∙ filter_first (ties lt y) z zs (both_not (lt y z) (lt z y) below above) in
        let same : y ≡ z = ap (first_of y) fronts in
        (λ i. same i ∷ one_order ys zs u.1 v.1 (λ x. behind (ties lt x) y z ys zs (ties lt x y) same refl (h x)) i)

-- ---- the order by clock

abbrev Reads : (FlatEqn → FlatEqn → Bool) → FlatEqn → ℕ → FlatEqn → Type 0
Reads lt e x d = has d.targets x ≡ true → lt d e ≡ true

module _ (lt : FlatEqn → FlatEqn → Bool) where
  later : (k : ℕ) (es : List FlatEqn) → AllByRecursion (λ (f : FlatEqn). k ≤ f.at) (numbered k es)
  later k [] = tt
  later k (e ∷ es) = (omega arith, each_map (λ (f : FlatEqn). suc k ≤ f.at) (λ (f : FlatEqn). k ≤ f.at) (λ f h. omega (arith, h)) (numbered (suc k) es) (later (suc k) es))

  unread : (x k n : ℕ) (e : FlatEqn) (es : List FlatEqn) → AllByRecursion (λ d. lt d e ≡ false) es → AllByRecursion (Reads lt e x) es → AllByRecursion (λ (d : FlatEqn). has d.targets x ≡ true → d.at < k) (numbered n es)
  unread x k n e [] u h = tt
  unread x k n e (d ∷ es) u h = ((λ q. let yes : lt d e ≡ true = h.0 q in let no : lt d e ≡ false = u.0 in absurd (cc)), unread x k (suc n) e es u.1 h.1)

  first_ranked : (k : ℕ) (e : FlatEqn) (es : List FlatEqn) → lt e e ≡ false → AllByRecursion (λ d. lt d e ≡ false) es → (xs : List ℕ) → AllByRecursion (λ x. AllByRecursion (Reads lt e x) (e ∷ es)) xs
      → AllByRecursion (IsDefinedBelow (numbered k (e ∷ es)) (record e { at = k })) xs
  first_ranked k e es own u [] h = tt
  first_ranked k e es own u (x ∷ xs) h =
      (((λ q. let yes : lt e e ≡ true = h.0.0 q in absurd (cc)), unread x k (suc k) e es u h.0.1), first_ranked k e es own u xs h.1)

  ranked_more : (k : ℕ) (e : FlatEqn) (es : List FlatEqn) → IsRanked (numbered (suc k) es)
      → AllByRecursion (λ (f : FlatEqn). AllByRecursion (IsDefinedBelow (numbered k (e ∷ es)) f) (reads f)) (numbered (suc k) es)
  ranked_more k e es h =
      each_both (λ (f : FlatEqn). suc k ≤ f.at) (λ (f : FlatEqn). AllByRecursion (IsDefinedBelow (numbered (suc k) es) f) (reads f)) (λ (f : FlatEqn). AllByRecursion (IsDefinedBelow (numbered k (e ∷ es)) f) (reads f))
      (λ f le r. each_map (IsDefinedBelow (numbered (suc k) es) f) (IsDefinedBelow (numbered k (e ∷ es)) f) (λ x d. ((λ q. omega (arith, le)), d)) (reads f) r) (numbered (suc k) es) (later (suc k) es) h

  pub rises-ranked : ((e : FlatEqn) → lt e e ≡ false) → (k : ℕ) (es : List FlatEqn) → Rises lt es → AllByRecursion (λ (e : FlatEqn). AllByRecursion (λ x. AllByRecursion (Reads lt e x) es) (reads e)) es → IsRanked (numbered k es)
  rises-ranked own k [] u h = tt
  rises-ranked own k (e ∷ es) u h = (
    first_ranked k e es (own e) u.0 (reads e) h.0,
    ranked_more k e es (rises-ranked own (suc k) es u.1
        (each_map (λ (f : FlatEqn). AllByRecursion (λ x. AllByRecursion (Reads lt f x) (e ∷ es)) (reads f)) (λ (f : FlatEqn). AllByRecursion (λ x. AllByRecursion (Reads lt f x) es) (reads f))
        (λ f g. each_map (λ x. AllByRecursion (Reads lt f x) (e ∷ es)) (λ x. AllByRecursion (Reads lt f x) es) (λ x r. r.1) (reads f) g) es h.1)),
  )

own_not : (lt : FlatEqn → FlatEqn → Bool) → IsStrictWeakOrder lt → (e : FlatEqn) (b : Bool) → lt e e ≡ b → lt e e ≡ false
own_not lt o e true q = o.one_way e e q
own_not lt o e false q = q

nothing : {A : Type 0} (xs : List A) → AllByRecursion (λ x. Unit {0}) xs
nothing [] = tt
nothing (x ∷ xs) = (tt, nothing xs)

-- what holds of all pairs holds of them the other way round
turned_round : {A B : Type 0} (R : A → B → Type 0) (xs : List A) (ys : List B) → AllByRecursion (λ x. AllByRecursion (R x) ys) xs → AllByRecursion (λ y. AllByRecursion (λ x. R x y) xs) ys
turned_round R [] ys h = nothing ys
turned_round R (x ∷ xs) ys h =
    each_both (R x) (λ y. AllByRecursion (λ z. R z y) xs) (λ y. R x y × AllByRecursion (λ z. R z y) xs) (λ y p q. (p, q)) ys h.0 (turned_round R xs ys h.1)

module _ (base : ℕ) (es scheduled : List FlatEqn) (h : IsByClock base es scheduled) where
  abbrev ahead : FlatEqn → FlatEqn → Bool
  ahead d e = before base h.keys d e

  -- an equation stands before one that reads a variable, and before one that reads what it defines
  abbrev Ahead : FlatEqn → ℕ → FlatEqn → Type 0
  Ahead e x d = has (reads d) x ≡ true → ahead e d ≡ true

  abbrev Feeds : FlatEqn → FlatEqn → Type 0
  Feeds e d = (x : ℕ) → has e.targets x ≡ true → has (reads d) x ≡ true → ahead e d ≡ true

  -- the steps of paths from an equation, to the readers of some variables
  abbrev Steps : FlatEqn → (FlatEqn → FlatEqn → ℕ) → (FlatEqn → ℕ) → List ℕ → Type 0
  Steps e cost path xs = AllByRecursion (λ x. AllByRecursion (Step cost path e (path e) x) h.ordered) xs

  all_ahead : (e : FlatEqn) → AllByRecursion (λ x. AllByRecursion (Ahead e x) h.ordered) e.targets
  all_ahead e = each e.targets (moved (change 0 base) (h.keys).outer (h.longest).outers) (moved (change 1 base) (h.keys).middle (h.longest).middles) (moved (change 2 base) (h.keys).inner (h.longest).inners)
      (moved one (h.keys).height (h.longest).heights)
    where
      moved : (cost : FlatEqn → FlatEqn → ℕ) (path : FlatEqn → ℕ) → IsLongest cost path es → Steps e cost path e.targets
      moved cost path l = (longest-moved cost path es h.ordered h.same l).above e

      at : (x : ℕ) (ds : List FlatEqn) → AllByRecursion (Step (change 0 base) (h.keys).outer e ((h.keys).outer e) x) ds → AllByRecursion (Step (change 1 base) (h.keys).middle e ((h.keys).middle e) x) ds
          → AllByRecursion (Step (change 2 base) (h.keys).inner e ((h.keys).inner e) x) ds → AllByRecursion (Step one (h.keys).height e ((h.keys).height e) x) ds → AllByRecursion (Ahead e x) ds
      at x [] a b c f = tt
      at x (d ∷ ds) a b c f = ((λ r. read_before base h.keys e d (a.0 r) (b.0 r) (c.0 r) (f.0 r)), at x ds a.1 b.1 c.1 f.1)

      each : (xs : List ℕ) → Steps e (change 0 base) (h.keys).outer xs → Steps e (change 1 base) (h.keys).middle xs → Steps e (change 2 base) (h.keys).inner xs → Steps e one (h.keys).height xs → AllByRecursion (λ x. AllByRecursion (Ahead e x) h.ordered) xs
      each [] a b c f = tt
      each (x ∷ xs) a b c f = (at x h.ordered a.0 b.0 c.0 f.0, each xs a.1 b.1 c.1 f.1)

  all_feed : (ds : List FlatEqn) → AllByRecursion (λ (e : FlatEqn). AllByRecursion (Feeds e) h.ordered) ds
  all_feed [] = tt
  all_feed (e ∷ ds) = (
    each_map (λ (d : FlatEqn). AllByRecursion (λ x. Ahead e x d) e.targets) (Feeds e) (λ d a x own there. each_at (λ y. Ahead e y d) e.targets x a (has-count e.targets x own) there) h.ordered
        (turned_round (Ahead e) e.targets h.ordered (all_ahead e)),
    all_feed ds,
  )

  all_read : AllByRecursion (λ (e : FlatEqn). AllByRecursion (λ x. AllByRecursion (Reads (before base h.keys) e x) h.ordered) (reads e)) h.ordered
  all_read =
      each_map (λ (e : FlatEqn). AllByRecursion (λ (d : FlatEqn). Feeds d e) h.ordered) (λ (e : FlatEqn). AllByRecursion (λ x. AllByRecursion (Reads (before base h.keys) e x) h.ordered) (reads e))
      (λ e fed. each_map (λ x. has (reads e) x ≡ true) (λ x. AllByRecursion (Reads (before base h.keys) e x) h.ordered)
      (λ x there. each_map (λ (d : FlatEqn). Feeds d e) (Reads (before base h.keys) e x) (λ d f own. f x own there) h.ordered fed) (reads e) (all_own (reads e))) h.ordered
      (turned_round Feeds h.ordered h.ordered (all_feed h.ordered))

  -- In the order by clock each equation stands behind those that it reads.
  pub ranked-by_clock : IsRanked scheduled
  ranked-by_clock =
      let lt = before base h.keys in
      subst IsRanked (sym h.places)
      (rises-ranked (before base h.keys) (λ e. own_not (before base h.keys) (weak base h.keys) e (before base h.keys e e) refl) 0 h.ordered
      (sorted-rises (before base h.keys) (weak base h.keys) h.ordered h.sorted) all_read)

-- ---- the order does not depend on places

level_free : (depth base : ℕ) (path : FlatEqn → ℕ) (es : List FlatEqn) → IsLongest (change depth base) path es → (e : FlatEqn) → path (unplaced e) ≡ path e
level_free depth base path es h e = omega (arith, h.least (unplaced e) (path e) (h.above e), h.least e (path (unplaced e)) (h.above (unplaced e)))

height_free : (path : FlatEqn → ℕ) (es : List FlatEqn) → IsLongest one path es → (e : FlatEqn) → path (unplaced e) ≡ path e
height_free path es h e = omega (arith, h.least (unplaced e) (path e) (h.above e), h.least e (path (unplaced e)) (h.above (unplaced e)))

module _ (cost : FlatEqn → FlatEqn → ℕ) (path : FlatEqn → ℕ) (cost_free : (d e : FlatEqn) → cost (unplaced d) e ≡ cost d e) (path_free : (d : FlatEqn) → path (unplaced d) ≡ path d) where
  up : (e : FlatEqn) (n x : ℕ) (es : List FlatEqn) → AllByRecursion (Step cost path e n x) es → AllByRecursion (Step cost path e n x) (map unplaced es)
  up e n x [] h = tt
  up e n x (d ∷ es) h = ((λ q. omega (arith, h.0 q, cost_free d e, path_free d)), up e n x es h.1)

  down : (e : FlatEqn) (n x : ℕ) (es : List FlatEqn) → AllByRecursion (Step cost path e n x) (map unplaced es) → AllByRecursion (Step cost path e n x) es
  down e n x [] h = tt
  down e n x (d ∷ es) h = ((λ q. omega (arith, h.0 q, cost_free d e, path_free d)), down e n x es h.1)

  longest_up : (es : List FlatEqn) → IsLongest cost path es → IsLongest cost path (map unplaced es)
  longest_up es h = record {
    above = λ e. each_map (λ x. AllByRecursion (Step cost path e (path e) x) es) (λ x. AllByRecursion (Step cost path e (path e) x) (map unplaced es)) (λ x g. up e (path e) x es g) e.targets (h.above e);
    least = λ e n g. h.least e n (each_map (λ x. AllByRecursion (Step cost path e n x) (map unplaced es)) (λ x. AllByRecursion (Step cost path e n x) es) (λ x f. down e n x es f) e.targets g);
  }

module _ (lt : FlatEqn → FlatEqn → Bool) (free : (d e : FlatEqn) → lt (unplaced d) (unplaced e) ≡ lt d e) (half : (d e : FlatEqn) → (lt d (unplaced e) ≡ lt d e) × (lt (unplaced d) e ≡ lt d e)) where
  rises_up : (es : List FlatEqn) → Rises lt es → Rises lt (map unplaced es)
  rises_up [] h = tt
  rises_up (e ∷ es) h = (each es h.0, rises_up es h.1)
    where
      each : (ds : List FlatEqn) → AllByRecursion (λ d. lt d e ≡ false) ds → AllByRecursion (λ d. lt d (unplaced e) ≡ false) (map unplaced ds)
      each [] g = tt
      each (d ∷ ds) g = (free d e ∙ g.0, each ds g.1)

  tie_free : (x e : FlatEqn) → ties lt x (unplaced e) ≡ ties lt x e
  tie_free x e = λ i. not ((half x e).0 i) && not ((half e x).1 i)

  filter_up : (t : FlatEqn → Bool) → ((e : FlatEqn) → t (unplaced e) ≡ t e) → (es : List FlatEqn) → filter t (map unplaced es) ≡ map unplaced (filter t es)
  filter_up t h [] = refl
  filter_up t h (e ∷ es) = by (t e) (h e) (filter_up t h es)
    where
      by : (b : Bool) → t (unplaced e) ≡ b → filter t (map unplaced es) ≡ map unplaced (filter t es) → cond (t (unplaced e)) (unplaced e ∷ filter t (map unplaced es)) (filter t (map unplaced es)) ≡ map unplaced (cond b (e ∷ filter t es) (filter t es))
      by true q r = λ i. cond (q i) (unplaced e ∷ r i) (r i)
      by false q r = λ i. cond (q i) (unplaced e ∷ r i) (r i)

  stable_up : (es ds : List FlatEqn) → IsStableBy lt es ds → (x : FlatEqn) → filter (ties lt x) (map unplaced ds) ≡ filter (ties lt x) (map unplaced es)
  stable_up es ds h x = filter_up (ties lt x) (tie_free x) ds ∙ ap (map unplaced) (h x) ∙ sym (filter_up (ties lt x) (tie_free x) es)

numbered_up : (k : ℕ) (es : List FlatEqn) → numbered k (map unplaced es) ≡ numbered k es
numbered_up k [] = refl
numbered_up k (e ∷ es) = ap (λ ds. record e { at = k } ∷ ds) (numbered_up (suc k) es)

-- keys do not tell places
record AreFree (k : Keys) : Type 0 where
  outer : (e : FlatEqn) → k.outer (unplaced e) ≡ k.outer e
  middle : (e : FlatEqn) → k.middle (unplaced e) ≡ k.middle e
  inner : (e : FlatEqn) → k.inner (unplaced e) ≡ k.inner e
  height : (e : FlatEqn) → k.height (unplaced e) ≡ k.height e

module _ (base : ℕ) (k : Keys) (f : AreFree k) where
  -- the comparison, with the numbers of keys left open
  abbrev with_numbers : FlatEqn → ℕ → ℕ → ℕ → ℕ → FlatEqn → ℕ → ℕ → ℕ → ℕ → Bool
  with_numbers d dl dm di dh e el em ei eh = is_lt
      (ordering_then (ordering_then (nat_cmp el dl) (nat_cmp (control 0 base d) (control 0 base e)))
      (ordering_then (ordering_then (nat_cmp em dm) (nat_cmp (control 1 base d) (control 1 base e)))
      (ordering_then (ordering_then (nat_cmp ei di) (nat_cmp (control 2 base d) (control 2 base e)))
      (nat_cmp eh dh))))

  before_free : (d e : FlatEqn) → before base k (unplaced d) (unplaced e) ≡ before base k d e
  before_free d e = λ i. with_numbers d (f.outer d i) (f.middle d i) (f.inner d i) (f.height d i) e (f.outer e i) (f.middle e i) (f.inner e i) (f.height e i)

  before_half : (d e : FlatEqn) → (before base k d (unplaced e) ≡ before base k d e) × (before base k (unplaced d) e ≡ before base k d e)
  before_half d e = (
    (λ i. with_numbers d (k.outer d) (k.middle d) (k.inner d) (k.height d) e (f.outer e i) (f.middle e i) (f.inner e i) (f.height e i)),
    (λ i. with_numbers d (f.outer d i) (f.middle d i) (f.inner d i) (f.height d i) e (k.outer e) (k.middle e) (k.inner e) (k.height e)),
  )

-- an order by clock of equations without places
record Plainly (base : ℕ) (us scheduled : List FlatEqn) : Type 0 where
  keys : Keys
  longest : AreKeys base keys us
  ordered : List FlatEqn
  rises : Rises (before base keys) ordered
  stable : (x : FlatEqn) → filter (ties (before base keys) x) ordered ≡ filter (ties (before base keys) x) us
  places : scheduled ≡ numbered 0 ordered

keys_free : (base : ℕ) (k : Keys) (es : List FlatEqn) → AreKeys base k es → AreFree k
keys_free base k es h = record {
  outer = level_free 0 base k.outer es h.outers;
  middle = level_free 1 base k.middle es h.middles;
  inner = level_free 2 base k.inner es h.inners;
  height = height_free k.height es h.heights;
}

plainly : (base : ℕ) (es scheduled : List FlatEqn) → IsByClock base es scheduled → Plainly base (map unplaced es) scheduled
plainly base es scheduled h =
    let f : AreFree h.keys = keys_free base h.keys es h.longest in
    record {
      keys = h.keys;
      longest = record {
        outers = longest_up (change 0 base) (h.keys).outer (λ d e. refl) f.outer es (h.longest).outers;
        middles = longest_up (change 1 base) (h.keys).middle (λ d e. refl) f.middle es (h.longest).middles;
        inners = longest_up (change 2 base) (h.keys).inner (λ d e. refl) f.inner es (h.longest).inners;
        heights = longest_up one (h.keys).height (λ d e. refl) f.height es (h.longest).heights;
      };
      ordered = map unplaced h.ordered;
      rises = rises_up (before base h.keys) (before_free base h.keys f) (before_half base h.keys f) h.ordered (sorted-rises (before base h.keys) (weak base h.keys) h.ordered h.sorted);
      stable = stable_up (before base h.keys) (before_free base h.keys f) (before_half base h.keys f) es h.ordered h.stable;
      places = h.places ∙ sym (numbered_up 0 h.ordered);
    }

one_keys : (base : ℕ) (us : List FlatEqn) (k l : Keys) → AreKeys base k us → AreKeys base l us → l ≡ k
one_keys base us k l p q =
    let outer : (e : FlatEqn) → l.outer e ≡ k.outer e = one_longest us k.height p.heights (change 0 base) l.outer k.outer q.outers p.outers in
    let middle : (e : FlatEqn) → l.middle e ≡ k.middle e = one_longest us k.height p.heights (change 1 base) l.middle k.middle q.middles p.middles in
    let inner : (e : FlatEqn) → l.inner e ≡ k.inner e = one_longest us k.height p.heights (change 2 base) l.inner k.inner q.inners p.inners in
    let height : (e : FlatEqn) → l.height e ≡ k.height e = one_longest us k.height p.heights one l.height k.height q.heights p.heights in
    (λ i. record { outer = λ e. outer e i; middle = λ e. middle e i; inner = λ e. inner e i; height = λ e. height e i })

abbrev IsOrdered : ℕ → List FlatEqn → List FlatEqn → Keys → Type 0
IsOrdered base us ordered k = Rises (before base k) ordered × ((x : FlatEqn) → filter (ties (before base k) x) ordered ≡ filter (ties (before base k) x) us)

one_plain : (base : ℕ) (us s t : List FlatEqn) → Plainly base us s → Plainly base us t → s ≡ t
one_plain base us s t p q =
    let keys : q.keys ≡ p.keys = one_keys base us p.keys q.keys p.longest q.longest in
    let own : IsOrdered base us q.ordered q.keys = (q.rises, q.stable) in
    let there : IsOrdered base us q.ordered p.keys = subst (IsOrdered base us q.ordered) keys own in
    p.places ∙ ap (numbered 0) (one_order (before base p.keys) (weak base p.keys) p.ordered q.ordered p.rises there.0 (λ x. p.stable x ∙ sym (there.1 x))) ∙ sym q.places

-- Equations that are the same but for their places have one order by clock.
pub one_by_clock : (base : ℕ) (es fs s t : List FlatEqn) → map unplaced es ≡ map unplaced fs → IsByClock base es s → IsByClock base fs t → s ≡ t
one_by_clock base es fs s t e h g = one_plain base (map unplaced fs) s t (subst (λ us. Plainly base us s) e (plainly base es s h)) (plainly base fs t g)
