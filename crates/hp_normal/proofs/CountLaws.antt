-- What is counted, number by number.
use Rattle.std.proofs.Common.{◌≡◌, ℕ, zero, suc, ◌+◌, ◌<◌, ◌≤◌, min, nat_eq, nat_lt, get_or, length, drop, Bool, true, false, ◌&&◌, if◌then◌else◌, List, [], ◌∷◌, ◌++◌, refl, sym, ap, ◌∙◌, arith}
use Rattle.std.specs.List.{flat_map}
use Rattle.std.proofs.Math.ListN.{set, replicate}
use Rattle.std.proofs.lemmas.Bool.{eqb-true, eq-eqb, ltb-true}
use Rattle.std.proofs.lemmas.List.{length-set, length-replicate, get_or-set_same, get_or-set_other}
use Rattle.hp_flat.specs.Equations.{Clock}
use Rattle.hp_flat.specs.Nodes.{FlatNode}
use Rattle.hp_normal.specs.Reading.{count, clock_variables, occurs}
use Rattle.hp_normal.specs.Tables.{counted, counted_one}
use Rattle.hp_normal.proofs.Lists.{drop-next, drop-end, set-past}

pub counted-append : (xs ys counts : List ℕ) → counted (xs ++ ys) counts ≡ counted ys (counted xs counts)
counted-append [] ys counts = refl
counted-append (x ∷ xs) ys counts = counted-append xs ys (counted_one x counts)

pub counted-past : (x : ℕ) (counts : List ℕ) → length counts ≤ x → counts ≡ counted_one x counts
counted-past x counts h = sym (set-past counts x (min 2 (get_or counts x 0 + 1)) h)

module _ (xs : List ℕ) (i : ℕ) (counts after : List ℕ) where
  pub counted-next : (x : ℕ) → i < length xs → x ≡ get_or xs i x → after ≡ counted_one x counts → counted (drop (i + 1) xs) after ≡ counted (drop i xs) counts
  counted-next x h p step = ap (counted (drop (i + 1) xs)) step ∙ sym (ap (λ ys. counted ys counts) (drop-next xs i x h p))

pub counted-end : (xs : List ℕ) (i : ℕ) (counts : List ℕ) → length xs ≤ i → counted (drop i xs) counts ≡ counts
counted-end xs i counts h = ap (λ ys. counted ys counts) (drop-end xs i h)

-- the same of lists that are made of each element
module _ {A : Type 0} (f : A → List ℕ) (xs : List A) (i : ℕ) (counts : List ℕ) where
  pub all-next : (after all : List ℕ) (x : A) → i < length xs → x ≡ get_or xs i x → after ≡ counted (f x) counts → counted (flat_map f (drop i xs)) counts ≡ all
      → counted (flat_map f (drop (i + 1) xs)) after ≡ all
  all-next after all x h p step known =
      ap (counted (flat_map f (drop (i + 1) xs))) step
      ∙ sym (counted-append (f x) (flat_map f (drop (i + 1) xs)) counts)
      ∙ sym (ap (λ ys. counted (flat_map f ys) counts) (drop-next xs i x h p))
      ∙ known

  pub all-end : (all : List ℕ) → length xs ≤ i → counted (flat_map f (drop i xs)) counts ≡ all → counts ≡ all
  all-end all h known = sym (ap (λ ys. counted (flat_map f ys) counts) (drop-end xs i h)) ∙ known

module _ (clock : Clock) (i : ℕ) (counts after : List ℕ) where
  pub clock-next : (on : ℕ × ℕ) → i < length clock → on ≡ get_or clock i on → after ≡ counted_one on.0 counts
      → counted (clock_variables (drop (i + 1) clock)) after ≡ counted (clock_variables (drop i clock)) counts
  clock-next on h p step = ap (counted (clock_variables (drop (i + 1) clock))) step ∙ sym (ap (λ c. counted (clock_variables c) counts) (drop-next clock i on h p))

pub clock-end : (clock : Clock) (i : ℕ) (counts : List ℕ) → length clock ≤ i → counted (clock_variables (drop i clock)) counts ≡ counts
clock-end clock i counts h = ap (λ c. counted (clock_variables c) counts) (drop-end clock i h)

-- ---- how often

pub length-counted : (xs counts : List ℕ) → length (counted xs counts) ≡ length counts
length-counted [] counts = refl
length-counted (x ∷ xs) counts = length-counted xs (counted_one x counts) ∙ length-set counts x (min 2 (get_or counts x 0 + 1))

at_one : (x y : ℕ) (counts : List ℕ) (same : Bool) → nat_eq y x ≡ same → x < length counts
    → get_or (counted_one y counts) x 0 ≡ (if same then min 2 (get_or counts x 0 + 1) else get_or counts x 0)
at_one x y counts true e h =
    let is : y ≡ x = eqb-true y x e in
    ap (λ z. get_or (set counts z (min 2 (get_or counts z 0 + 1))) x 0) is ∙ get_or-set_same counts x (min 2 (get_or counts x 0 + 1)) 0 h
at_one x y counts false e h =
    let other : x ≡ y → ⊥ = λ q. absurd (cc (eq-eqb y x (sym q))) in
    get_or-set_other counts y x (min 2 (get_or counts y 0 + 1)) 0 other

joined : (same : Bool) (a b m r : ℕ) → a ≤ 2 → b ≡ (if same then min 2 (a + 1) else a) → (b ≤ 2 → r ≡ min 2 (b + m)) → r ≡ min 2 (a + ((if same then 1 else 0) + m))
joined true a b m r h e f = f (omega (arith, e)) ∙ omega (arith, e, h)
joined false a b m r h e f = f (omega (arith, e, h)) ∙ omega (arith, e, h)

pub get_or-counted : (xs counts : List ℕ) (x : ℕ) → x < length counts → get_or counts x 0 ≤ 2 → get_or (counted xs counts) x 0 ≡ min 2 (get_or counts x 0 + count x xs)
get_or-counted [] counts x h k = omega (arith, k)
get_or-counted (y ∷ ys) counts x h k =
    joined (nat_eq y x) (get_or counts x 0) (get_or (counted_one y counts) x 0) (count x ys) (get_or (counted ys (counted_one y counts)) x 0) k (at_one x y counts (nat_eq y x) refl h)
    (get_or-counted ys (counted_one y counts) x (rw length-set h))

at_zero : (n x : ℕ) → get_or (replicate {A = ℕ} n 0) x 0 ≡ zero
at_zero zero x = refl
at_zero (suc n) zero = refl
at_zero (suc n) (suc x) = at_zero n x

pub same_test : (a b k : ℕ) (d e : Bool) → nat_eq a k ≡ d → nat_eq b k ≡ e → (a ≡ k → b ≡ k) → (b ≡ k → a ≡ k) → d ≡ e
same_test a b k true true p q f g = refl
same_test a b k false false p q f g = refl
same_test a b k true false p q f g = absurd (cc (eq-eqb b k (f (eqb-true a k p))))
same_test a b k false true p q f g = absurd (cc (eq-eqb a k (g (eqb-true b k q))))

tells : (c k : ℕ) → k ≤ 1 → nat_eq (min 2 c) k ≡ nat_eq c k
tells c k h = same_test (min 2 c) c k (nat_eq (min 2 c) k) (nat_eq c k) refl refl (λ e. omega (arith, e, h)) (λ e. omega (arith, e, h))

and_false : (a : Bool) → (a && false) ≡ false
and_false true = refl
and_false false = refl

where_below : (x n : ℕ) (below : Bool) (a b : Bool) → nat_lt x n ≡ below → (x < n → a ≡ b) → (below && a) ≡ (below && b)
where_below x n true a b e h = h (ltb-true x n e)
where_below x n false a b e h = refl

-- what a table says that was counted from nothing
pub counts-tell : (n : FlatNode) (k : ℕ) (xs counts : List ℕ) (x : ℕ) → k ≤ 1 → counts ≡ counted xs (replicate (length n.variables) 0)
    → (nat_lt x (length counts) && nat_eq (get_or counts x 0) k) ≡ occurs n k xs x
counts-tell n k xs counts x h e =
    let size = length n.variables in
    let none : List ℕ = replicate {A = ℕ} size 0 in
    let long : length counts ≡ size = ap length e ∙ length-counted xs none ∙ length-replicate {A = ℕ} size 0 in
    ap (λ m. nat_lt x m && nat_eq (get_or counts x 0) k) long
    ∙ where_below x size (nat_lt x size) (nat_eq (get_or counts x 0) k) (nat_eq (count x xs) k) refl
    (λ below.
    let zero_there = at_zero size x in
    let there : get_or counts x 0 ≡ min 2 (count x xs) =
    ap (λ c. get_or c x 0) e ∙ get_or-counted xs none x (omega (arith, below, length-replicate {A = ℕ} size 0)) (omega (arith, zero_there)) ∙ ap (λ z. min 2 (z + count x xs)) zero_there ∙ ap (min 2) (omega arith) in
    ap (λ z. nat_eq z k) there ∙ tells (count x xs) k h)

-- ---- tests one after the other

module _ (a b c d : Bool) where
  pub stop-first : a ≡ false → (((a && b) && c) && d) ≡ false
  stop-first e = ap (λ x. ((x && b) && c) && d) e

  pub stop-second : b ≡ false → (((a && b) && c) && d) ≡ false
  stop-second e = ap (λ x. ((a && x) && c) && d) e ∙ ap (λ x. (x && c) && d) (and_false a)

  pub stop-third : c ≡ false → (((a && b) && c) && d) ≡ false
  stop-third e = ap (λ x. ((a && b) && x) && d) e ∙ ap (λ x. x && d) (and_false (a && b))

  pub go-on : a ≡ true → b ≡ true → c ≡ true → (((a && b) && c) && d) ≡ d
  go-on p q r = λ j. ((p j && q j) && r j) && d

module _ (a b c : Bool) where
  pub stop-first_of_three : a ≡ false → ((a && b) && c) ≡ false
  stop-first_of_three e = ap (λ x. (x && b) && c) e

  pub stop-second_of_three : b ≡ false → ((a && b) && c) ≡ false
  stop-second_of_three e = ap (λ x. (a && x) && c) e ∙ ap (λ x. x && c) (and_false a)

  pub go-on_to_third : a ≡ true → b ≡ true → ((a && b) && c) ≡ c
  go-on_to_third p q = λ j. (p j && q j) && c
