-- What the code makes is the order by clock.
use Rattle.std.proofs.Common.{◌≡◌, ℕ, zero, suc, ◌+◌, ◌-◌, ◌<◌, ◌≤◌, nat_lt, get_or, length, Bool, true, false, not, ◌&&◌, cond, if◌then◌else◌, List, [], ◌∷◌, ◌++◌, map, refl, sym, ap, subst, ◌∙◌, arith}
use Rattle.std.specs.List.{AllByRecursion, filter}
use Rattle.std.specs.List.Sorted.{IsPermutation, IsSortedBy, IsStableBy, ties}
use Rattle.std.specs.Ordering.{is_lt, nat_cmp, ordering_then}
use Rattle.std.specs.Cmp.{nat_cmp_is, IsStrictWeakOrder}
use Rattle.std.specs.declared.cmp.Ordering.TheVariants.{Less}
use Rattle.std.proofs.lemmas.Bool.{lt-ltb, ltb-false, ltb-true}
use Rattle.std.proofs.lemmas.Cmp.{back_total, nat_cmp_total}
use Rattle.std.proofs.lemmas.List.{append_assoc, length-append, length-map, length-replicate}
use Rattle.std.proofs.lemmas.List.Elements.{All-from_recursion, recursion_from_All}
use Rattle.std.proofs.lemmas.List.Sorted.{All-permutation, IsPermutation-map, IsPermutation-sym, ranks_by}
use Rattle.std.proofs.Math.ListN.{get_or-map as get_or-mapped, replicate}
use Rattle.hp_flat.specs.Equations.{FlatEqn}
use Rattle.law_equations.specs.Meaning.Reactions.{has}
use Rattle.law_equations.specs.Meaning.Scheduling.{IsInOrder, AreBelow, reads, IsDefinedBelow, IsRanked}
use Rattle.law_equations.specs.Made.Laws.{unplaced}
use Rattle.law_equations.proofs.FewerLemmas.Members.{each_map}
use Rattle.law_equations.proofs.FewerLemmas.OrderLaws.{each_moved}
use Rattle.hp_schedule.specs.declared.order.Turn.{Turn}
use Rattle.hp_schedule.specs.declared.order.Weighed.{Weighed}
use Rattle.hp_schedule.specs.declared.reach.Reach.{Reach}
use Rattle.hp_schedule.specs.ByClock.{change, one, Keys, IsLongest, comes_before, numbered, IsByClock}
use Rattle.hp_schedule.specs.Reaching.{unmet, weight_of, noted, noted_eqns}
use Rattle.hp_schedule.specs.Turning.{IsNoted, turns_from, blank, eqn_at, noted_turns, turns_before, weighed_by, weighed_before}
use Rattle.hp_schedule.proofs.PathLaws.{awaited, control_of_weight, heights_by, levels_by, Falls, IsAwaited}
use Rattle.hp_schedule.proofs.TurnLaws.{length-turns}
use Rattle.hp_schedule.proofs.UniqueLaws.{longest-moved, sorted-rises, Rises}

moved : {A : Type 0} (P : A → Type 0) (xs ys : List A) → IsPermutation xs ys → AllByRecursion P xs → AllByRecursion P ys
moved P xs ys p h = recursion_from_All P ys (All-permutation P xs ys p (All-from_recursion P xs h))

each : {A : Type 0} (P Q : A → Type 0) → ((a : A) → P a → Q a) → (xs : List A) → AllByRecursion P xs → AllByRecursion Q xs
each P Q f [] h = tt
each P Q f (x ∷ xs) h = (f x h.0, each P Q f xs h.1)

-- ---- turns

-- a turn is that of the equation at its number
record IsTurn (es : List FlatEqn) (t : Turn) : Type 0 where
  inside : t.index < length es
  place : (eqn_at es t).at ≡ t.at

-- of the equations from a number on
record IsTurnFrom (k : ℕ) (es : List FlatEqn) (t : Turn) : Type 0 where
  later : k ≤ t.index
  inside : t.index < k + length es
  place : (get_or es (t.index - k) blank).at ≡ t.at

turns_are : (k : ℕ) (es : List FlatEqn) → AllByRecursion (IsTurnFrom k es) (turns_from k es)
turns_are k [] = tt
turns_are k (e ∷ es) = (
  record { later = omega arith; inside = omega arith; place = ap (λ n. (get_or (e ∷ es) n blank).at) (let zero_is : k - k ≡ 0 = omega arith in zero_is) },
  each (IsTurnFrom (suc k) es) (IsTurnFrom k (e ∷ es)) (λ t h. let m = h.later in let q = h.inside in record {
    later = omega arith;
    inside = omega arith;
    place = ap (λ n. (get_or (e ∷ es) n blank).at) (let next : t.index - k ≡ suc (t.index - suc k) = omega arith in next) ∙ h.place;
  }) (turns_from (suc k) es) (turns_are (suc k) es),
)

middle : (ds es : List FlatEqn) (e : FlatEqn) → get_or (ds ++ e ∷ es) (length ds) blank ≡ e
middle [] es e = refl
middle (d ∷ ds) es e = middle ds es e

eqns_back : (es before : List FlatEqn) (k : ℕ) → k ≡ length before → map (λ (t : Turn). get_or (before ++ es) t.index blank) (turns_from k es) ≡ es
eqns_back [] before k h = refl
eqns_back (e ∷ es) before k h =
    let here : get_or (before ++ e ∷ es) k blank ≡ e = ap (λ n. get_or (before ++ e ∷ es) n blank) h ∙ middle before es e in
    let next : map (λ (t : Turn). get_or (before ++ e ∷ es) t.index blank) (turns_from (suc k) es) ≡ es =
    ap (λ (ds : List FlatEqn). map (λ (t : Turn). get_or ds t.index blank) (turns_from (suc k) es)) (sym (append_assoc before (e ∷ []) es))
    ∙ eqns_back es (before ++ e ∷ []) (suc k) (omega (arith, length-append before (e ∷ []))) in
    (λ i. here i ∷ next i)

turns_noted : (depth base : ℕ) (es : List FlatEqn) (ts : List Turn) (table : List Reach) → AllByRecursion (IsTurn es) ts → noted_turns depth base es ts table ≡ noted_eqns depth base (map (eqn_at es) ts) table
turns_noted depth base es [] table h = refl
turns_noted depth base es (t ∷ ts) table h =
    ap (λ b. noted_turns depth base es ts (if b then noted depth base (eqn_at es t) table else table)) (lt-ltb t.index (length es) (h.0).inside) ∙ turns_noted depth base es ts (noted depth base (eqn_at es t) table) h.1

-- ---- turns from the greatest place to the least

turns_weak : IsStrictWeakOrder turns_before
turns_weak = ranks_by (back_total nat_cmp_total) (λ (t : Turn). t.at)

not_greater : (m n : ℕ) (b : Bool) → nat_lt m n ≡ b → is_lt (nat_cmp m n) ≡ false → n ≤ m
not_greater m n true e h = let yes : nat_cmp m n ≡ Less = sym (nat_cmp_is m n Less (ltb-true m n e)) in let no : is_lt (nat_cmp m n) ≡ true = ap is_lt yes in absurd (cc)
not_greater m n false e h = ltb-false m n e

module _ (es : List FlatEqn) where
  lower : (t : Turn) → IsTurn es t → (ts : List Turn) → AllByRecursion (IsTurn es) ts → AllByRecursion (λ s. turns_before s t ≡ false) ts → AllByRecursion (λ (d : FlatEqn). d.at ≤ (eqn_at es t).at) (map (eqn_at es) ts)
  lower t is [] h u = tt
  lower t is (s ∷ ts) h u =
      let low : s.at ≤ t.at = not_greater t.at s.at (nat_lt t.at s.at) refl u.0 in
      (omega (arith, is.place, (h.0).place), lower t is ts h.1 u.1)

  turns_fall : (ts : List Turn) → AllByRecursion (IsTurn es) ts → Rises turns_before ts → Falls (map (eqn_at es) ts)
  turns_fall [] h u = tt
  turns_fall (t ∷ ts) h u = (lower t h.0 ts h.1 u.0, turns_fall ts h.1 u.1)

module _ (depth base : ℕ) (es : List FlatEqn) (table : List Reach) (h : IsNoted depth base es table) (ranked : IsRanked es) (within : AllByRecursion (λ (d : FlatEqn). AreBelow base (reads d)) es) where
  abbrev turned : List FlatEqn
  turned = map (eqn_at es) h.turns

  are_turns : AllByRecursion (IsTurn es) h.turns
  are_turns = moved (IsTurn es) (turns_from 0 es) h.turns h.all
      (each (IsTurnFrom 0 es) (IsTurn es) (λ t q. let inside : t.index < 0 + length es = q.inside in record { inside = omega arith; place = ap (λ n. (get_or es n blank).at) (let same : t.index ≡ t.index - 0 = omega arith in same) ∙ q.place }) (turns_from 0 es) (turns_are 0 es))

  same_turned : IsPermutation es turned
  same_turned = subst (λ ds. IsPermutation ds turned) (eqns_back es [] 0 refl) (IsPermutation-map (eqn_at es) (turns_from 0 es) h.turns h.all)

  ranked_turned : IsRanked turned
  ranked_turned =
      each_moved (λ (e : FlatEqn). AllByRecursion (IsDefinedBelow turned e) (reads e)) es turned same_turned
      (each_map (λ (e : FlatEqn). AllByRecursion (IsDefinedBelow es e) (reads e)) (λ (e : FlatEqn). AllByRecursion (IsDefinedBelow turned e) (reads e))
      (λ e r. each_map (IsDefinedBelow es e) (IsDefinedBelow turned e) (λ x q. each_moved (λ (d : FlatEqn). has d.targets x ≡ true → d.at < e.at) es turned same_turned q) (reads e) r) es ranked)

  in_turn : IsAwaited turned
  in_turn = awaited turned ranked_turned (turns_fall es h.turns are_turns (sorted-rises turns_before turns_weak h.turns h.order))

  noted_is : noted_eqns depth base turned (replicate base unmet) ≡ table
  noted_is = sym (turns_noted depth base es h.turns (replicate base unmet) are_turns) ∙ sym h.noted_are

  read_within : AllByRecursion (λ (d : FlatEqn). AreBelow (length (replicate base unmet)) (reads d)) turned
  read_within = each_map (λ (d : FlatEqn). AreBelow base (reads d)) (λ (d : FlatEqn). AreBelow (length (replicate base unmet)) (reads d))
      (λ d q. subst (λ n. AreBelow n (reads d)) (sym (length-replicate base unmet)) q) turned (each_moved (λ (d : FlatEqn). AreBelow base (reads d)) es turned same_turned within)

  pub levels_are : IsLongest (change depth base) (λ e. (weight_of depth base table e).level) es
  levels_are = longest-moved (change depth base) (λ e. (weight_of depth base table e).level) turned es (IsPermutation-sym es turned same_turned) (levels_by depth base turned table noted_is in_turn read_within)

  pub heights_are : IsLongest one (λ e. (weight_of depth base table e).height) es
  heights_are = longest-moved one (λ e. (weight_of depth base table e).height) turned es (IsPermutation-sym es turned same_turned) (heights_by depth base turned table noted_is in_turn read_within)

-- ---- weights

-- a table has an entry for each variable
pub noted-count : (depth base : ℕ) (es : List FlatEqn) (table : List Reach) → IsNoted depth base es table → length table ≡ base
noted-count depth base es table h = ap length h.noted_are ∙ length-turns depth base es h.turns (replicate base unmet) ∙ length-replicate base unmet

module _ (base : ℕ) (outers middles inners : List Reach) where
  abbrev weigh : FlatEqn → Weighed
  weigh e = weighed_by base outers middles inners e

  abbrev plain : Weighed → FlatEqn
  plain w = w.eqn

  abbrev pub keys_by : Keys
  keys_by = record {
    outer = λ e. (weight_of 0 base outers e).level;
    middle = λ e. (weight_of 1 base middles e).level;
    inner = λ e. (weight_of 2 base inners e).level;
    height = λ e. (weight_of 0 base outers e).height;
  }

  back : (es : List FlatEqn) → map plain (map weigh es) ≡ es
  back [] = refl
  back (e ∷ es) = ap (λ ds. e ∷ ds) (back es)

  before_same : (d e : FlatEqn) → weighed_before (weigh d) (weigh e) ≡ comes_before base keys_by d e
  before_same d e = λ i. is_lt
      (ordering_then (ordering_then (nat_cmp (keys_by.outer e) (keys_by.outer d)) (nat_cmp (control_of_weight 0 base outers d i) (control_of_weight 0 base outers e i)))
      (ordering_then (ordering_then (nat_cmp (keys_by.middle e) (keys_by.middle d)) (nat_cmp (control_of_weight 1 base middles d i) (control_of_weight 1 base middles e i)))
      (ordering_then (ordering_then (nat_cmp (keys_by.inner e) (keys_by.inner d)) (nat_cmp (control_of_weight 2 base inners d i) (control_of_weight 2 base inners e i)))
      (nat_cmp (keys_by.height e) (keys_by.height d)))))

  ties_same : (x e : FlatEqn) → ties weighed_before (weigh x) (weigh e) ≡ ties (comes_before base keys_by) x e
  ties_same x e = λ i. not (before_same x e i) && not (before_same e x i)

  filtered : (p : Weighed → Bool) (q : FlatEqn → Bool) → ((e : FlatEqn) → p (weigh e) ≡ q e) → (es : List FlatEqn) → filter p (map weigh es) ≡ map weigh (filter q es)
  filtered p q h [] = refl
  filtered p q h (e ∷ es) = by (q e) (h e) (filtered p q h es)
    where
      by : (b : Bool) → p (weigh e) ≡ b → filter p (map weigh es) ≡ map weigh (filter q es) → cond (p (weigh e)) (weigh e ∷ filter p (map weigh es)) (filter p (map weigh es)) ≡ map weigh (cond b (e ∷ filter q es) (filter q es))
      by true g r = λ i. cond (g i) (weigh e ∷ r i) (r i)
      by false g r = λ i. cond (g i) (weigh e ∷ r i) (r i)

  are_weighed : (es : List FlatEqn) → AllByRecursion (λ (w : Weighed). weigh w.eqn ≡ w) (map weigh es)
  are_weighed [] = tt
  are_weighed (e ∷ es) = (refl, are_weighed es)

  weighed_again : (ws : List Weighed) → AllByRecursion (λ (w : Weighed). weigh w.eqn ≡ w) ws → map weigh (map plain ws) ≡ ws
  weighed_again [] h = refl
  weighed_again (w ∷ ws) h = λ i. h.0 i ∷ weighed_again ws h.1 i

  module _ (es : List FlatEqn) (ordered : List Weighed) (same : IsPermutation (map weigh es) ordered) where
    abbrev eqns : List FlatEqn
    eqns = map plain ordered

    again : map weigh eqns ≡ ordered
    again = weighed_again ordered (moved (λ (w : Weighed). weigh w.eqn ≡ w) (map weigh es) ordered same (are_weighed es))

    pub eqns_same : IsPermutation es eqns
    eqns_same = subst (λ ds. IsPermutation ds eqns) (back es) (IsPermutation-map plain (map weigh es) ordered same)

    pub eqns_sorted : IsSortedBy weighed_before ordered → IsSortedBy (comes_before base keys_by) eqns
    eqns_sorted h k d le lt =
        let up : IsSortedBy weighed_before (map weigh eqns) = subst (IsSortedBy weighed_before) (sym again) h in
        let count : length (map weigh eqns) ≡ length eqns = length-map eqns weigh in
        sym (before_same (get_or eqns (k + 1) d) (get_or eqns k d))
        ∙ sym (λ i. weighed_before (get_or-mapped weigh eqns (k + 1) d i) (get_or-mapped weigh eqns k d i))
        ∙ up k (weigh d) le (omega (arith, count))

    pub eqns_stable : IsStableBy weighed_before (map weigh es) ordered → IsStableBy (comes_before base keys_by) es eqns
    eqns_stable h x =
        let t = ties weighed_before (weigh x) in
        let u = ties (comes_before base keys_by) x in
        let there : map weigh (filter u eqns) ≡ map weigh (filter u es) = sym (filtered t u (ties_same x) eqns) ∙ ap (filter t) again ∙ h (weigh x) ∙ filtered t u (ties_same x) es in
        sym (back (filter u eqns)) ∙ ap (map plain) there ∙ back (filter u es)

module _ (base : ℕ) (es : List FlatEqn) (outers middles inners : List Reach) (weighed ordered : List Weighed) (scheduled : List FlatEqn) (is : weighed ≡ map (weighed_by base outers middles inners) es)
    (same : IsPermutation weighed ordered) (placed : scheduled ≡ numbered 0 (map (λ (w : Weighed). w.eqn) ordered)) where
  same_weighed : IsPermutation (map (weighed_by base outers middles inners) es) ordered
  same_weighed = subst (λ ws. IsPermutation ws ordered) is same

  unplaced_numbered : (k : ℕ) (ds : List FlatEqn) → map unplaced (numbered k ds) ≡ map unplaced ds
  unplaced_numbered k [] = refl
  unplaced_numbered k (d ∷ ds) = ap (λ cs. unplaced d ∷ cs) (unplaced_numbered (suc k) ds)

  pub same-eqns : IsPermutation (map unplaced es) (map unplaced scheduled)
  same-eqns = subst (IsPermutation (map unplaced es)) (sym (ap (map unplaced) placed ∙ unplaced_numbered 0 (map (λ (w : Weighed). w.eqn) ordered)))
      (IsPermutation-map unplaced es (map (λ (w : Weighed). w.eqn) ordered) (eqns_same base outers middles inners es ordered same_weighed))

  pub made-by_clock : IsNoted 0 base es outers → IsNoted 1 base es middles → IsNoted 2 base es inners → IsSortedBy weighed_before ordered → IsStableBy weighed_before weighed ordered → IsRanked es
      → AllByRecursion (λ (d : FlatEqn). AreBelow base (reads d)) es → IsByClock base es scheduled
  made-by_clock first second third sorted stable ranked read_within = record {
    keys = keys_by base outers middles inners;
    longest = record {
      outers = levels_are 0 base es outers first ranked read_within;
      middles = levels_are 1 base es middles second ranked read_within;
      inners = levels_are 2 base es inners third ranked read_within;
      heights = heights_are 0 base es outers first ranked read_within;
    };
    ordered = map (λ (w : Weighed). w.eqn) ordered;
    same = eqns_same base outers middles inners es ordered same_weighed;
    sorted = eqns_sorted base outers middles inners es ordered same_weighed sorted;
    stable = eqns_stable base outers middles inners es ordered same_weighed (subst (λ ws. IsStableBy weighed_before ws ordered) is stable);
    places = placed;
  }

-- places in a row rise
row_rises : (k : ℕ) (es : List FlatEqn) (i : ℕ) (d : FlatEqn) → i < length es → (get_or (numbered k es) i d).at ≡ k + i
row_rises k [] i d h = absurd (omega arith)
row_rises k (e ∷ es) zero d h = omega arith
row_rises k (e ∷ es) (suc i) d h = row_rises (suc k) es i d (omega arith) ∙ (let next : suc k + i ≡ k + suc i = omega arith in next)

row_count : (k : ℕ) (es : List FlatEqn) → length (numbered k es) ≡ length es
row_count k [] = refl
row_count k (e ∷ es) = ap suc (row_count (suc k) es)

pub numbered-in_order : (es ds : List FlatEqn) → ds ≡ numbered 0 es → IsInOrder ds
numbered-in_order es ds h = subst IsInOrder (sym h)
    (λ i j d le lt.
    let inside : j < length es = omega (arith, row_count 0 es) in
    omega (arith, row_rises 0 es i d (omega arith), row_rises 0 es j d inside))
