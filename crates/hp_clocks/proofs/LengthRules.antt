-- Lengths as they are counted: what the code of lengths cites.
use Rattle.std.proofs.Common.{leb, ◌≡◌, ◌⊎◌, inl, inr, ℕ, zero, suc, ◌+◌, ◌≤◌, ◌<◌, List, [], ◌∷◌, length, map, drop, slice_index_or, Bor, refl, ap, subst, arith}
use Rattle.std.specs.Prelude.{true, false, max}
use Rattle.std.specs.Ordering.{ord_max, nat_cmp}
use Rattle.std.proofs.lemmas.Grind.{common_steps}
use Rattle.std.proofs.lemmas.Bool.Decides.{leb_tells}
use Rattle.hp_tree.specs.declared.decl.Cons.{Cons}
use Rattle.hp_tree.specs.Expressions.{Expr, exprs_of, parts_of}
use Rattle.hp_tree.specs.Instant.{Clock}
use Rattle.hp_tree.proofs.Lists.{nodes-at, nodes-at_part}
use Rattle.hp_meaning.specs.Clocking.Clocking.{On}
use Rattle.hp_clocks.specs.declared.cell.Cell.{Cell}
use Rattle.hp_clocks.specs.Cells.{AreCells, told_at, unknown, same_as, on_base, step_on}
use Rattle.hp_clocks.specs.Listed.{Right}
use Rattle.hp_clocks.specs.Solved.{clock_read}
use Rattle.hp_clocks.specs.Longest.{counted, longest, longest_of_all, longest_of_parts, longest_local, longest_right}
use Rattle.hp_clocks.proofs.Walks.{turn_same, turn_step, there_same, there_step}
use Rattle.hp_clocks.proofs.ReadLaws.{read_same, read_step, read_open, read_base}
use Rattle.hp_clocks.proofs.LongestLaws.{at_least}

-- ---- numbers

pub counted_max : (m n : ℕ) → max (counted m) (counted n) ≡ counted (max m n)
counted_max m n = omega arith

pub counted_least : (m n : ℕ) → m ≤ 65 → max m (counted n) ≡ counted (max m n)
counted_least m n h = omega (arith, h)

pub counted_itself : (m : ℕ) → m ≤ 65 → m ≡ counted m
counted_itself m h = omega (arith, h)

pub most_on : (e : Expr) (k : ℕ) → counted (longest e (counted k)) ≡ counted (longest e k)
most_on e k = tie (leb_tells k 65)
  where
    tie : ((leb k 65 ≡ true) × (k ≤ 65)) ⊎ ((leb k 65 ≡ false) × (65 < k)) → counted (longest e (counted k)) ≡ counted (longest e k)
    tie (inl h) =
        let a : counted k ≡ k = omega (arith, h.1) in
        ap (λ z. counted (longest e z)) a
    tie (inr h) =
        let a : counted k ≡ 65 = omega (arith, h.1) in
        let b : counted k ≤ longest e (counted k) = at_least e (counted k) in
        let c : k ≤ longest e k = at_least e k in
        let l : 65 < k = h.1 in
        omega (arith, a, b, c, l)

-- a step of a walk that takes the greatest
pub found_more : (most r m front rest whole : ℕ) → front ≡ max m rest → r ≡ counted m → max most (counted front) ≡ whole → max (max most r) (counted rest) ≡ whole
found_more most r m front rest whole e f h = omega (arith, e, f, h)

pub found_all : (most front whole : ℕ) → front ≡ 0 → max most (counted front) ≡ whole → most ≡ whole
found_all most front whole e h = omega (arith, e, h)

pub found_none : (whole : ℕ) → max 0 (counted whole) ≡ counted whole
found_none whole = omega arith

pub greatest : (m n : ℕ) → ord_max nat_cmp m n ≡ max m n
greatest m n = grind (arith, common_steps)

-- ---- lists

after : (i : ℕ) → suc i ≡ i + 1
after i = omega arith

args_step : (es : List Expr) (i k : ℕ) (d : Expr) → i < length es → longest_of_all (exprs_of (drop i es)) k ≡ max (longest (slice_index_or es i d) k) (longest_of_all (exprs_of (drop (suc i) es)) k)
args_step [] i k d h = absurd (omega (arith, h))
args_step (e ∷ es) zero k d h = refl
args_step (e ∷ es) (suc i) k d h = args_step es i k d (omega (arith, h))

pub args_next : (es : List Expr) (i k : ℕ) (d : Expr) → i < length es → longest_of_all (exprs_of (drop i es)) k ≡ max (longest (slice_index_or es i d) k) (longest_of_all (exprs_of (drop (i + 1) es)) k)
args_next es i k d h =
    subst (λ j. longest_of_all (exprs_of (drop i es)) k ≡ max (longest (slice_index_or es i d) k) (longest_of_all (exprs_of (drop j es)) k)) (after i) (args_step es i k d h)

pub args_end : (es : List Expr) (i k : ℕ) → length es ≤ i → longest_of_all (exprs_of (drop i es)) k ≡ 0
args_end [] zero k h = refl
args_end [] (suc i) k h = refl
args_end (e ∷ es) zero k h = absurd (omega (arith, h))
args_end (e ∷ es) (suc i) k h = args_end es i k (omega (arith, h))

parts_step : (ps : List (Cons × Expr)) (i k : ℕ) (d : Cons × Expr) → i < length ps → longest_of_parts (parts_of (drop i ps)) k ≡ max (longest (slice_index_or ps i d).1 k) (longest_of_parts (parts_of (drop (suc i) ps)) k)
parts_step [] i k d h = absurd (omega (arith, h))
parts_step (p ∷ ps) zero k d h = refl
parts_step (p ∷ ps) (suc i) k d h = parts_step ps i k d (omega (arith, h))

pub parts_next : (ps : List (Cons × Expr)) (i k : ℕ) (d : Cons × Expr) → i < length ps → longest_of_parts (parts_of (drop i ps)) k ≡ max (longest (slice_index_or ps i d).1 k) (longest_of_parts (parts_of (drop (i + 1) ps)) k)
parts_next ps i k d h =
    subst (λ j. longest_of_parts (parts_of (drop i ps)) k ≡ max (longest (slice_index_or ps i d).1 k) (longest_of_parts (parts_of (drop j ps)) k)) (after i) (parts_step ps i k d h)

pub parts_end : (ps : List (Cons × Expr)) (i k : ℕ) → length ps ≤ i → longest_of_parts (parts_of (drop i ps)) k ≡ 0
parts_end [] zero k h = refl
parts_end [] (suc i) k h = refl
parts_end (p ∷ ps) zero k h = absurd (omega (arith, h))
parts_end (p ∷ ps) (suc i) k h = parts_end ps i k (omega (arith, h))

module _ (read : ℕ → Clock) where
  locals_step : (ls : List ℕ) (i d : ℕ) → i < length ls → longest_local (map read (drop i ls)) ≡ max (length (read (slice_index_or ls i d))) (longest_local (map read (drop (suc i) ls)))
  locals_step [] i d h = absurd (omega (arith, h))
  locals_step (l ∷ ls) zero d h = refl
  locals_step (l ∷ ls) (suc i) d h = locals_step ls i d (omega (arith, h))

  pub locals_next : (ls : List ℕ) (i d : ℕ) → i < length ls → longest_local (map read (drop i ls)) ≡ max (length (read (slice_index_or ls i d))) (longest_local (map read (drop (i + 1) ls)))
  locals_next ls i d h =
      subst (λ j. longest_local (map read (drop i ls)) ≡ max (length (read (slice_index_or ls i d))) (longest_local (map read (drop j ls)))) (after i) (locals_step ls i d h)

  pub locals_end : (ls : List ℕ) (i : ℕ) → length ls ≤ i → longest_local (map read (drop i ls)) ≡ 0
  locals_end [] zero h = refl
  locals_end [] (suc i) h = refl
  locals_end (l ∷ ls) zero h = absurd (omega (arith, h))
  locals_end (l ∷ ls) (suc i) h = locals_end ls i (omega (arith, h))

  abbrev pub right_read : ℕ × Bor Expr → Right
  right_read r = (read r.0, r.1.now)

  rights_step : (rs : List (ℕ × Bor Expr)) (i : ℕ) (d : ℕ × Bor Expr) → i < length rs → longest_right (map right_read (drop i rs)) ≡ max (longest (slice_index_or rs i d).1.now (length (read (slice_index_or rs i d).0))) (longest_right (map right_read (drop (suc i) rs)))
  rights_step [] i d h = absurd (omega (arith, h))
  rights_step (r ∷ rs) zero d h = refl
  rights_step (r ∷ rs) (suc i) d h = rights_step rs i d (omega (arith, h))

  pub rights_next : (rs : List (ℕ × Bor Expr)) (i : ℕ) (d : ℕ × Bor Expr) → i < length rs → longest_right (map right_read (drop i rs)) ≡ max (longest (slice_index_or rs i d).1.now (length (read (slice_index_or rs i d).0))) (longest_right (map right_read (drop (i + 1) rs)))
  rights_next rs i d h =
      subst (λ j. longest_right (map right_read (drop i rs)) ≡ max (longest (slice_index_or rs i d).1.now (length (read (slice_index_or rs i d).0))) (longest_right (map right_read (drop j rs)))) (after i) (rights_step rs i d h)

  pub rights_end : (rs : List (ℕ × Bor Expr)) (i : ℕ) → length rs ≤ i → longest_right (map right_read (drop i rs)) ≡ 0
  rights_end [] zero h = refl
  rights_end [] (suc i) h = refl
  rights_end (r ∷ rs) zero h = absurd (omega (arith, h))
  rights_end (r ∷ rs) (suc i) h = rights_end rs i (omega (arith, h))

-- ---- a clock that is counted down from its cell

module _ (cs : List Cell) (a : AreCells cs) (start : ℕ) where
  pub count_same : (count i j : ℕ) → told_at cs i ≡ same_as j → count + length (clock_read cs i) ≡ length (clock_read cs start) → count + length (clock_read cs j) ≡ length (clock_read cs start)
  count_same count i j e h =
      let b : length (clock_read cs i) ≡ length (clock_read cs j) = ap length (read_same cs a i j e) in
      omega (arith, b, h)

  pub count_step : (count i u : ℕ) (o : On) → told_at cs i ≡ step_on o u → count + length (clock_read cs i) ≡ length (clock_read cs start) → count + 1 + length (clock_read cs u) ≡ length (clock_read cs start)
  count_step count i u o e h =
      let b : length (clock_read cs i) ≡ suc (length (clock_read cs u)) = ap length (read_step cs a i u o e) in
      omega (arith, b, h)

  pub count_open : (count i : ℕ) → told_at cs i ≡ unknown → count ≤ 65 → count + length (clock_read cs i) ≡ length (clock_read cs start) → count ≡ counted (length (clock_read cs start))
  count_open count i e l h =
      let b : length (clock_read cs i) ≡ 0 = ap length (read_open cs i e) in
      omega (arith, b, l, h)

  pub count_base : (count i : ℕ) → told_at cs i ≡ on_base → count ≤ 65 → count + length (clock_read cs i) ≡ length (clock_read cs start) → count ≡ counted (length (clock_read cs start))
  count_base count i e l h =
      let b : length (clock_read cs i) ≡ 0 = ap length (read_base cs i e) in
      omega (arith, b, l, h)

pub ruleset counting = (counted_max, counted_least)

pub ruleset parts = (nodes-at, nodes-at_part)

pub ruleset walking = (turn_same, turn_step, there_same, there_step, count_same, count_step)
