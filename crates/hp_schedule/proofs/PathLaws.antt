-- What is noted of all equations tells the longest path of readers from each.
use Rattle.std.proofs.Common.{◌≡◌, ◌≢◌, ℕ, zero, suc, ◌+◌, ◌-◌, ◌<◌, ◌≤◌, max, nat_eq, nat_lt, length, Bool, true, false, ◌&&◌, ◌||◌, not, if◌then◌else◌, List, [], ◌∷◌, refl, sym, ap, subst, ◌∙◌, arith}
use Rattle.std.specs.List.{AllByRecursion}
use Rattle.std.proofs.Math.ListN.{replicate}
use Rattle.std.proofs.lemmas.Bool.{eqb-true, eq-eqb, ltb-true, ltb-false}
use Rattle.std.proofs.lemmas.List.{length-set, get_or-set_same, get_or-set_other}
use Rattle.hp_flat.specs.Equations.{FlatEqn}
use Rattle.law_equations.specs.Meaning.Reactions.{has}
use Rattle.law_equations.specs.Meaning.Scheduling.{reads, AreBelow, IsDefinedBelow, IsRanked}
use Rattle.law_equations.proofs.FewerLemmas.Members.{each_at, each_both, each_counted, each_map, count-has, has-count}
use Rattle.hp_schedule.specs.declared.reach.Reach.{Reach}
use Rattle.hp_schedule.specs.declared.reach.Weight.{Weight}
use Rattle.hp_schedule.specs.ByClock.{control, change, one, IsLongest}
use Rattle.hp_schedule.specs.Reaching.{seen_from, met, unmet, reach_of, raised, raised_all, weight_of, noted_one, noted_all, noted, noted_eqns}

abbrev step : Bool → ℕ
step same = if same then 0 else 1

-- ---- equations behind their readers

-- a variable is read by none of some equations
abbrev pub IsUnread : List FlatEqn → ℕ → Type 0
IsUnread es x = AllByRecursion (λ (e : FlatEqn). has (reads e) x ≡ false) es

-- What an equation defines is read neither by itself nor by a later one.
abbrev pub IsAwaited : List FlatEqn → Type 0
IsAwaited [] = Unit {0}
IsAwaited (e ∷ es) = AllByRecursion (IsUnread (e ∷ es)) e.targets × IsAwaited es

-- no place is greater than one in front of it
abbrev pub Falls : List FlatEqn → Type 0
Falls [] = Unit {0}
Falls (e ∷ es) = AllByRecursion (λ (d : FlatEqn). d.at ≤ e.at) es × Falls es

pub all_own : (xs : List ℕ) → AllByRecursion (λ x. has xs x ≡ true) xs
all_own xs = each_counted (λ x. has xs x ≡ true) xs (λ x n. count-has xs x n)

module _ (e : FlatEqn) (es : List FlatEqn) (x : ℕ) (own : has e.targets x ≡ true) where
  unread_by : (d : FlatEqn) → d.at ≤ e.at → AllByRecursion (IsDefinedBelow (e ∷ es) d) (reads d) → (b : Bool) → has (reads d) x ≡ b → has (reads d) x ≡ false
  unread_by d low ranked true h =
      let there : AllByRecursion (λ (f : FlatEqn). has f.targets x ≡ true → f.at < d.at) (e ∷ es) = each_at (IsDefinedBelow (e ∷ es) d) (reads d) x ranked (has-count (reads d) x h) in
      let less : e.at < d.at = there.0 own in
      absurd (omega arith)
  unread_by d low ranked false h = h

  unread_in : (ds : List FlatEqn) → AllByRecursion (λ (d : FlatEqn). d.at ≤ e.at) ds → AllByRecursion (λ (d : FlatEqn). AllByRecursion (IsDefinedBelow (e ∷ es) d) (reads d)) ds → IsUnread ds x
  unread_in ds low ranked = each_both (λ (d : FlatEqn). d.at ≤ e.at) (λ (d : FlatEqn). AllByRecursion (IsDefinedBelow (e ∷ es) d) (reads d)) (λ (d : FlatEqn). has (reads d) x ≡ false)
      (λ d l r. unread_by d l r (has (reads d) x) refl) ds low ranked

rest_ranked : (e : FlatEqn) (es : List FlatEqn) → IsRanked (e ∷ es) → IsRanked es
rest_ranked e es h =
    each_map (λ (d : FlatEqn). AllByRecursion (IsDefinedBelow (e ∷ es) d) (reads d)) (λ (d : FlatEqn). AllByRecursion (IsDefinedBelow es d) (reads d))
    (λ d r. each_map (IsDefinedBelow (e ∷ es) d) (IsDefinedBelow es d) (λ y q. q.1) (reads d) r) es h.1

pub awaited : (es : List FlatEqn) → IsRanked es → Falls es → IsAwaited es
awaited [] r f = tt
awaited (e ∷ es) r f = (
  each_map (λ x. has e.targets x ≡ true) (IsUnread (e ∷ es)) (λ x own. unread_in e es x own (e ∷ es) (omega arith, f.0) r) e.targets (all_own e.targets),
  awaited es (rest_ranked e es r) f.1,
)

-- ---- one equation more

-- l: is_lower; a: the controls are the same; b: the reader's level would be the one that is noted; s, t: the reader has the one control, the other
stays : (l a b s t : Bool) (level outside : ℕ) → level < outside → (a ≡ true → s ≡ true → t ≡ true) → (a ≡ false → s ≡ true → t ≡ false) → (b ≡ true → level + 1 ≡ outside) → (b ≡ false → level + 1 ≢ outside)
    → (if (l && (a || not b)) && s then outside - 1 else outside) ≡ max (if l && s then outside - 1 else outside) (level + step t)
stays false a b s true level outside lt f g h k = omega arith
stays false a b s false level outside lt f g h k = omega arith
stays true true b false true level outside lt f g h k = omega arith
stays true true b false false level outside lt f g h k = omega arith
stays true false true false true level outside lt f g h k = omega arith
stays true false true false false level outside lt f g h k = omega arith
stays true false false false true level outside lt f g h k = omega arith
stays true false false false false level outside lt f g h k = omega arith
stays true true b true true level outside lt f g h k = omega arith
stays true true b true false level outside lt f g h k = let no : false ≡ true = f refl refl in absurd (cc)
stays true false true true false level outside lt f g h k = omega (arith, h refl)
stays true false true true true level outside lt f g h k = let no : true ≡ false = g refl refl in absurd (cc)
stays true false false true false level outside lt f g h k = let other : level + 1 ≢ outside = k refl in omega arith
stays true false false true true level outside lt f g h k = let no : true ≡ false = g refl refl in absurd (cc)

rises : (u t : Bool) (level outside : ℕ) → outside ≤ level → (if t then (level + 1) - 1 else level + 1) ≡ max (if u then outside - 1 else outside) (level + step t)
rises true true level outside h = omega arith
rises true false level outside h = omega arith
rises false true level outside h = omega arith
rises false false level outside h = omega arith

eqb-false : (x y : ℕ) → nat_eq x y ≡ false → x ≢ y
eqb-false x y e q = absurd (cc (eq-eqb x y q))

same_then : (x y z : ℕ) → nat_eq x y ≡ true → nat_eq x z ≡ true → nat_eq y z ≡ true
same_then x y z e f = eq-eqb y z (sym (eqb-true x y e) ∙ eqb-true x z f)

other_by : (x y z : ℕ) (t : Bool) → nat_eq y z ≡ t → nat_eq x y ≡ false → nat_eq x z ≡ true → t ≡ false
other_by x y z true q e f = absurd (eqb-false x y e (eqb-true x z f ∙ sym (eqb-true y z q)))
other_by x y z false q e f = refl

-- what is noted where the equation is lower than what was, and where it is not
abbrev as_before : Weight → Reach → Reach
as_before w r = record { outside = r.outside; control = r.control; is_lower = r.is_lower && (nat_eq r.control w.control || not (nat_eq (w.level + 1) r.outside)); height = max r.height (w.height + 1) }

abbrev as_now : Weight → Reach → Reach
as_now w r = record { outside = w.level + 1; control = w.control; is_lower = true; height = max r.height (w.height + 1) }

module _ (c : ℕ) (w : Weight) (r : Reach) where
  seen_by : (d : Bool) → nat_lt w.level r.outside ≡ d → seen_from c (if d then as_before w r else as_now w r) ≡ max (seen_from c r) (w.level + step (nat_eq w.control c))
  seen_by true e =
      stays r.is_lower (nat_eq r.control w.control) (nat_eq (w.level + 1) r.outside) (nat_eq r.control c) (nat_eq w.control c) w.level r.outside (ltb-true w.level r.outside e)
      (same_then r.control w.control c) (other_by r.control w.control c (nat_eq w.control c) refl) (eqb-true (w.level + 1) r.outside) (eqb-false (w.level + 1) r.outside)
  seen_by false e = rises (r.is_lower && nat_eq r.control c) (nat_eq w.control c) w.level r.outside (ltb-false w.level r.outside e)

  seen_met : seen_from c (met w r) ≡ max (seen_from c r) (w.level + step (nat_eq w.control c))
  seen_met = seen_by (nat_lt w.level r.outside) refl

height_chosen : (w : Weight) (r : Reach) (d : Bool) → (if d then as_before w r else as_now w r).height ≡ max r.height (w.height + 1)
height_chosen w r true = refl
height_chosen w r false = refl

height_met : (w : Weight) (r : Reach) → (met w r).height ≡ max r.height (w.height + 1)
height_met w r = height_chosen w r (nat_lt w.level r.outside)

-- ---- what is read

control_kept : (table : List Reach) (xs : List ℕ) (w : Weight) → (raised_all table xs w).control ≡ w.control
control_kept table [] w = refl
control_kept table (x ∷ xs) w = control_kept table xs (raised table x w)

level_down : (table : List Reach) (xs : List ℕ) (w : Weight) (n : ℕ) → (raised_all table xs w).level ≤ n → (w.level ≤ n) × AllByRecursion (λ x. seen_from w.control (reach_of table x) ≤ n) xs
level_down table [] w n h = (h, tt)
level_down table (x ∷ xs) w n h =
    let rest = level_down table xs (raised table x w) n h in
    let most : max w.level (seen_from w.control (reach_of table x)) ≤ n = rest.0 in
    (omega (arith, most), (omega (arith, most), rest.1))

level_up : (table : List Reach) (xs : List ℕ) (w : Weight) (n : ℕ) → w.level ≤ n → AllByRecursion (λ x. seen_from w.control (reach_of table x) ≤ n) xs → (raised_all table xs w).level ≤ n
level_up table [] w n h all = h
level_up table (x ∷ xs) w n h all = let one : seen_from w.control (reach_of table x) ≤ n = all.0 in level_up table xs (raised table x w) n (omega (arith, h, one)) all.1

height_down : (table : List Reach) (xs : List ℕ) (w : Weight) (n : ℕ) → (raised_all table xs w).height ≤ n → (w.height ≤ n) × AllByRecursion (λ x. (reach_of table x).height ≤ n) xs
height_down table [] w n h = (h, tt)
height_down table (x ∷ xs) w n h =
    let rest = height_down table xs (raised table x w) n h in
    let most : max w.height (reach_of table x).height ≤ n = rest.0 in
    (omega (arith, most), (omega (arith, most), rest.1))

height_up : (table : List Reach) (xs : List ℕ) (w : Weight) (n : ℕ) → w.height ≤ n → AllByRecursion (λ x. (reach_of table x).height ≤ n) xs → (raised_all table xs w).height ≤ n
height_up table [] w n h all = h
height_up table (x ∷ xs) w n h all = let one : (reach_of table x).height ≤ n = all.0 in height_up table xs (raised table x w) n (omega (arith, h, one)) all.1

-- where the same is noted of all that is read, the weight is the same
same_raised : (t u : List Reach) (xs : List ℕ) (w : Weight) → AllByRecursion (λ x. reach_of t x ≡ reach_of u x) xs → raised_all t xs w ≡ raised_all u xs w
same_raised t u [] w h = refl
same_raised t u (x ∷ xs) w h =
    let same : raised t x w ≡ raised u x w = λ i. record { level = max w.level (seen_from w.control (h.0 i)); control = w.control; height = max w.height (h.0 i).height } in
    ap (raised_all t xs) same ∙ same_raised t u xs (raised u x w) h.1

-- ---- what is noted

or_first : (a b : Bool) → (a || b) ≡ false → a ≡ false
or_first true b h = absurd (cc)
or_first false b h = refl

or_second : (a b : Bool) → (a || b) ≡ false → b ≡ false
or_second true b h = absurd (cc)
or_second false b h = h

not_turned : (y x : ℕ) → nat_eq y x ≡ false → x ≢ y
not_turned y x e q = absurd (cc (eq-eqb y x (sym q)))

unnoted : (w : Weight) (xs : List ℕ) (table : List Reach) (x : ℕ) → has xs x ≡ false → reach_of (noted_all w xs table) x ≡ reach_of table x
unnoted w [] table x h = refl
unnoted w (y ∷ xs) table x h =
    unnoted w xs (noted_one w y table) x (or_second (nat_eq y x) (has xs x) h)
    ∙ get_or-set_other table y x (met w (reach_of table y)) unmet (not_turned y x (or_first (nat_eq y x) (has xs x) h))

unnoted_eqns : (depth base : ℕ) (es : List FlatEqn) (table : List Reach) (x : ℕ) → IsUnread es x → reach_of (noted_eqns depth base es table) x ≡ reach_of table x
unnoted_eqns depth base [] table x h = refl
unnoted_eqns depth base (e ∷ es) table x h = unnoted_eqns depth base es (noted depth base e table) x h.1 ∙ unnoted (weight_of depth base table e) (reads e) table x h.0

length_noted : (w : Weight) (xs : List ℕ) (table : List Reach) → length (noted_all w xs table) ≡ length table
length_noted w [] table = refl
length_noted w (x ∷ xs) table = length_noted w xs (noted_one w x table) ∙ length-set table x (met w (reach_of table x))

below_same : (n m : ℕ) (xs : List ℕ) → m ≡ n → AreBelow n xs → AreBelow m xs
below_same n m xs e h = subst (λ k. AreBelow k xs) (sym e) h

-- a number of what is noted of a variable, which grows to what an equation gives
module _ (value : Reach → ℕ) (gain : Weight → ℕ) (law : (w : Weight) (r : Reach) → value (met w r) ≡ max (value r) (gain w)) (x n : ℕ) where
  at_same : (w : Weight) (y : ℕ) (table : List Reach) → nat_eq y x ≡ true → y < length table → reach_of (noted_one w y table) x ≡ met w (reach_of table x)
  at_same w y table e lt =
      let is : y ≡ x = eqb-true y x e in
      ap (λ z. reach_of (noted_one w y table) z) (sym is) ∙ get_or-set_same table y (met w (reach_of table y)) unmet lt ∙ ap (λ z. met w (reach_of table z)) is

  at_other : (w : Weight) (y : ℕ) (table : List Reach) → nat_eq y x ≡ false → reach_of (noted_one w y table) x ≡ reach_of table x
  at_other w y table e = get_or-set_other table y x (met w (reach_of table y)) unmet (not_turned y x e)

  one_down : (d : Bool) (w : Weight) (y : ℕ) (table : List Reach) → nat_eq y x ≡ d → y < length table → value (reach_of (noted_one w y table) x) ≤ n → (value (reach_of table x) ≤ n) × (d ≡ true → gain w ≤ n)
  one_down true w y table e lt h =
      let both : max (value (reach_of table x)) (gain w) ≤ n = subst (λ k. k ≤ n) (ap value (at_same w y table e lt) ∙ law w (reach_of table x)) h in
      (omega (arith, both), λ q. omega (arith, both))
  one_down false w y table e lt h = (subst (λ r. value r ≤ n) (at_other w y table e) h, λ q. absurd (cc))

  one_up : (d : Bool) (w : Weight) (y : ℕ) (table : List Reach) → nat_eq y x ≡ d → y < length table → value (reach_of table x) ≤ n → (d ≡ true → gain w ≤ n) → value (reach_of (noted_one w y table) x) ≤ n
  one_up true w y table e lt h g =
      let more : gain w ≤ n = g refl in
      let both : max (value (reach_of table x)) (gain w) ≤ n = omega arith in
      subst (λ k. k ≤ n) (sym (ap value (at_same w y table e lt) ∙ law w (reach_of table x))) both
  one_up false w y table e lt h g = subst (λ r. value r ≤ n) (sym (at_other w y table e)) h

  or_by : (a b : Bool) (m : ℕ) → (a ≡ true → m ≤ n) → (b ≡ true → m ≤ n) → (a || b) ≡ true → m ≤ n
  or_by true b m f g h = f refl
  or_by false b m f g h = g h

  or_left : (a b : Bool) → a ≡ true → (a || b) ≡ true
  or_left true b h = refl
  or_left false b h = absurd (cc)

  or_right : (a b : Bool) → b ≡ true → (a || b) ≡ true
  or_right true b h = refl
  or_right false b h = h

  all_down : (w : Weight) (xs : List ℕ) (table : List Reach) → AreBelow (length table) xs → value (reach_of (noted_all w xs table) x) ≤ n → (value (reach_of table x) ≤ n) × (has xs x ≡ true → gain w ≤ n)
  all_down w [] table b h = (h, λ q. absurd (cc))
  all_down w (y ∷ xs) table b h =
      let rest = all_down w xs (noted_one w y table) (below_same (length table) (length (noted_one w y table)) xs (length-set table y (met w (reach_of table y))) b.1) h in
      let first = one_down (nat_eq y x) w y table refl b.0 rest.0 in
      (first.0, or_by (nat_eq y x) (has xs x) (gain w) first.1 rest.1)

  all_up : (w : Weight) (xs : List ℕ) (table : List Reach) → AreBelow (length table) xs → value (reach_of table x) ≤ n → (has xs x ≡ true → gain w ≤ n) → value (reach_of (noted_all w xs table) x) ≤ n
  all_up w [] table b h g = h
  all_up w (y ∷ xs) table b h g =
      all_up w xs (noted_one w y table) (below_same (length table) (length (noted_one w y table)) xs (length-set table y (met w (reach_of table y))) b.1)
      (one_up (nat_eq y x) w y table refl b.0 h (λ q. g (or_left (nat_eq y x) (has xs x) q))) (λ q. g (or_right (nat_eq y x) (has xs x) q))

  module _ (depth base : ℕ) (final : List Reach) where
    -- the weight of an equation is that by all that is noted in the end
    at_end : (e : FlatEqn) (es : List FlatEqn) (table : List Reach) → noted_eqns depth base (e ∷ es) table ≡ final → AllByRecursion (IsUnread (e ∷ es)) e.targets → weight_of depth base table e ≡ weight_of depth base final e
    at_end e es table is h =
        same_raised table final e.targets (record { level = 0; control = control depth base e; height = 0 })
        (each_map (IsUnread (e ∷ es)) (λ y. reach_of table y ≡ reach_of final y) (λ y u. sym (unnoted_eqns depth base (e ∷ es) table y u) ∙ ap (λ t. reach_of t y) is) e.targets h)

    abbrev Gives : FlatEqn → Type 0
    Gives d = has (reads d) x ≡ true → gain (weight_of depth base final d) ≤ n

    eqns_down : (es : List FlatEqn) (table : List Reach) → noted_eqns depth base es table ≡ final → IsAwaited es → AllByRecursion (λ (d : FlatEqn). AreBelow (length table) (reads d)) es
        → value (reach_of final x) ≤ n → (value (reach_of table x) ≤ n) × AllByRecursion Gives es
    eqns_down [] table is s b h = (subst (λ t. value (reach_of t x) ≤ n) (sym is) h, tt)
    eqns_down (e ∷ es) table is s b h =
        let w = weight_of depth base table e in
        let rest = eqns_down es (noted depth base e table) is s.1
        (each_map (λ (d : FlatEqn). AreBelow (length table) (reads d)) (λ (d : FlatEqn). AreBelow (length (noted depth base e table)) (reads d)) (λ d q. below_same (length table) (length (noted depth base e table)) (reads d) (length_noted w (reads e) table) q) es b.1) h in
        let first = all_down w (reads e) table b.0 rest.0 in
        (first.0, (λ q. subst (λ v. gain v ≤ n) (at_end e es table is s.0) (first.1 q), rest.1))

    eqns_up : (es : List FlatEqn) (table : List Reach) → noted_eqns depth base es table ≡ final → IsAwaited es → AllByRecursion (λ (d : FlatEqn). AreBelow (length table) (reads d)) es
        → value (reach_of table x) ≤ n → AllByRecursion Gives es → value (reach_of final x) ≤ n
    eqns_up [] table is s b h g = subst (λ t. value (reach_of t x) ≤ n) is h
    eqns_up (e ∷ es) table is s b h g =
        let w = weight_of depth base table e in
        eqns_up es (noted depth base e table) is s.1
        (each_map (λ (d : FlatEqn). AreBelow (length table) (reads d)) (λ (d : FlatEqn). AreBelow (length (noted depth base e table)) (reads d)) (λ d q. below_same (length table) (length (noted depth base e table)) (reads d) (length_noted w (reads e) table) q) es b.1)
        (all_up w (reads e) table b.0 h (λ q. subst (λ v. gain v ≤ n) (sym (at_end e es table is s.0)) (g.0 q))) g.1

pub control_of_weight : (depth base : ℕ) (table : List Reach) (e : FlatEqn) → (weight_of depth base table e).control ≡ control depth base e
control_of_weight depth base table e = control_kept table e.targets (record { level = 0; control = control depth base e; height = 0 })

-- ---- the longest paths

unmet_at : (value : Reach → ℕ) → value unmet ≡ 0 → (n x m : ℕ) → value (reach_of (replicate n unmet) x) ≤ m
unmet_at value e n x m = subst (λ r. value r ≤ m) (sym (is n x)) (omega (arith, e))
  where
    is : (n x : ℕ) → reach_of (replicate n unmet) x ≡ unmet
    is zero x = refl
    is (suc n) zero = refl
    is (suc n) (suc x) = is n x

module _ (depth base : ℕ) (es : List FlatEqn) (final : List Reach) (is : noted_eqns depth base es (replicate base unmet) ≡ final) (s : IsAwaited es)
    (b : AllByRecursion (λ (d : FlatEqn). AreBelow (length (replicate base unmet)) (reads d)) es) where
  abbrev pub level_by : FlatEqn → ℕ
  level_by e = (weight_of depth base final e).level

  abbrev pub height_by : FlatEqn → ℕ
  height_by e = (weight_of depth base final e).height

  abbrev start : FlatEqn → Weight
  start e = record { level = 0; control = control depth base e; height = 0 }

  abbrev cost_by : FlatEqn → FlatEqn → ℕ
  cost_by d e = step (nat_eq (weight_of depth base final d).control (control depth base e))

  same_cost : (d e : FlatEqn) → cost_by d e ≡ change depth base d e
  same_cost d e = ap (λ c. step (nat_eq c (control depth base e))) (control_of_weight depth base final d)

  pub levels_by : IsLongest (change depth base) level_by es
  levels_by = record {
    above = λ e. each_map (λ x. seen_from (control depth base e) (reach_of final x) ≤ level_by e) (λ x. AllByRecursion (λ (d : FlatEqn). has (reads d) x ≡ true → level_by d + change depth base d e ≤ level_by e) es)
        (λ x h. each_map (λ (d : FlatEqn). has (reads d) x ≡ true → level_by d + cost_by d e ≤ level_by e) (λ (d : FlatEqn). has (reads d) x ≡ true → level_by d + change depth base d e ≤ level_by e)
        (λ d g q. subst (λ k. level_by d + k ≤ level_by e) (same_cost d e) (g q)) es
        (eqns_down (seen_from (control depth base e)) (λ w. w.level + step (nat_eq w.control (control depth base e))) (λ w r. seen_met (control depth base e) w r) x (level_by e) depth base final es (replicate base unmet) is s b h).1)
        e.targets (level_down final e.targets (start e) (level_by e) (omega arith)).1;
    least = λ e n h. level_up final e.targets (start e) n (omega arith)
        (each_map (λ x. AllByRecursion (λ (d : FlatEqn). has (reads d) x ≡ true → level_by d + change depth base d e ≤ n) es) (λ x. seen_from (control depth base e) (reach_of final x) ≤ n)
        (λ x g. eqns_up (seen_from (control depth base e)) (λ w. w.level + step (nat_eq w.control (control depth base e))) (λ w r. seen_met (control depth base e) w r) x n depth base final es (replicate base unmet) is s b
        (unmet_at (seen_from (control depth base e)) refl base x n)
        (each_map (λ (d : FlatEqn). has (reads d) x ≡ true → level_by d + change depth base d e ≤ n) (λ (d : FlatEqn). has (reads d) x ≡ true → level_by d + cost_by d e ≤ n)
        (λ d f q. subst (λ k. level_by d + k ≤ n) (sym (same_cost d e)) (f q)) es g)) e.targets h);
  }

  pub heights_by : IsLongest one height_by es
  heights_by = record {
    above = λ e. each_map (λ x. (reach_of final x).height ≤ height_by e) (λ x. AllByRecursion (λ (d : FlatEqn). has (reads d) x ≡ true → height_by d + 1 ≤ height_by e) es)
        (λ x h. (eqns_down (λ r. r.height) (λ w. w.height + 1) (λ w r. height_met w r) x (height_by e) depth base final es (replicate base unmet) is s b h).1)
        e.targets (height_down final e.targets (start e) (height_by e) (omega arith)).1;
    least = λ e n h. height_up final e.targets (start e) n (omega arith)
        (each_map (λ x. AllByRecursion (λ (d : FlatEqn). has (reads d) x ≡ true → height_by d + 1 ≤ n) es) (λ x. (reach_of final x).height ≤ n)
        (λ x g. eqns_up (λ r. r.height) (λ w. w.height + 1) (λ w r. height_met w r) x n depth base final es (replicate base unmet) is s b (unmet_at (λ r. r.height) refl base x n) g) e.targets h);
  }
