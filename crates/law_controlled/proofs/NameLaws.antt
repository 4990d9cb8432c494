-- Names of variables that are added differ.
use Rattle.std.proofs.Common.{◌≡◌, ℕ, ◌+◌, ◌<◌, ◌≤◌, ◌^◌, Bool, true, false, List, [], ◌∷◌, ◌++◌, length, refl, sym, ap, ◌∙◌, subst, arith, inl, inr}
use Rattle.std.specs.Prelude.{codes, decimal}
use Rattle.std.specs.List.{AllByRecursion, IsDistinct}
use Rattle.std.specs.Str.{bytes_eq}
use Rattle.std.proofs.lemmas.Fmt.{decimal_injective}
use Rattle.std.proofs.lemmas.List.{append_cancel_left, length-append}
use Rattle.std.proofs.lemmas.Slice.Eq.{bytes_eq-Decides}
use Rattle.hp_flat.specs.declared.node.Variable.{Variable}
use Rattle.law_equations.specs.Followed.Premises.{IsOwn, names}
use Rattle.law_controlled.specs.Names.{AreAdded, IsAdded, NamesLaw}

pub apart : (x y : List ℕ) → (x ≡ y → ⊥) → bytes_eq x y ≡ false
apart x y h = by (bytes_eq x y) refl
  where
    by : (b : Bool) → bytes_eq x y ≡ b → b ≡ false
    by true e = absurd (h ((bytes_eq-Decides x y).0 e))
    by false e = refl

head_same : (a b : ℕ) (xs ys : List ℕ) → a ∷ xs ≡ b ∷ ys → a ≡ b
head_same a b xs ys e = cc

stems_differ : (i j : ℕ) → codes "w$x" ++ decimal i ≡ codes "b$x" ++ decimal j → ⊥
stems_differ i j e =
    let first = head_same 119 98 (codes "$x" ++ decimal i) (codes "$x" ++ decimal j) e in
    omega (arith, first)

-- an added variable has one number
once : (i j : ℕ) (x : List ℕ) → i < 2 ^ 64 → j < 2 ^ 64 → IsAdded i x → IsAdded j x → i ≡ j
once i j x h k (inl a) (inl b) = decimal_injective i j h k (append_cancel_left (codes "w$x") (decimal i) (decimal j) (sym a ∙ b))
once i j x h k (inr a) (inr b) = decimal_injective i j h k (append_cancel_left (codes "b$x") (decimal i) (decimal j) (sym a ∙ b))
once i j x h k (inl a) (inr b) = absurd (stems_differ i j (sym a ∙ b))
once i j x h k (inr a) (inl b) = absurd (stems_differ j i (sym b ∙ a))

own_name : (k : ℕ) (x : List ℕ) → IsAdded k x → IsOwn x
own_name k x (inl a) = subst IsOwn (sym a) refl
own_name k x (inr a) = subst IsOwn (sym a) refl

own_names : (k : ℕ) (more : List Variable) → AreAdded k more → AllByRecursion IsOwn (names more)
own_names k [] a = tt
own_names k (v ∷ vs) a = (own_name k v.name a.0, own_names (k + 1) vs a.1)

-- a name that is none of those from a number on is apart from them
apart_from : (x : List ℕ) (k : ℕ) (more : List Variable) → ((j : ℕ) → k ≤ j → j < k + length more → IsAdded j x → ⊥) → AreAdded k more → AllByRecursion (λ y. bytes_eq x y ≡ false) (names more)
apart_from x k [] none a = tt
apart_from x k (v ∷ vs) none a = (
  apart x v.name (λ same. none k (omega arith) (omega arith) (subst (IsAdded k) (sym same) a.0)),
  apart_from x (k + 1) vs (λ j l b. none j (omega (arith, l)) (omega (arith, b))) a.1,
)

added_differ : (k : ℕ) (more : List Variable) → k + length more ≤ 2 ^ 64 → AreAdded k more → IsDistinct bytes_eq (names more)
unfolding IsDistinct
added_differ k [] few a = tt
added_differ k (v ∷ vs) few a = (
  apart_from v.name (k + 1) vs
      (λ j l b other.
      let same = once k j v.name (omega (arith, few)) (omega (arith, few, b)) a.0 other in
      absurd (omega (arith, l, same)))
      a.1,
  added_differ (k + 1) vs (omega (arith, few)) a.1,
)

pub all_both : (P : List ℕ → Type 0) (xs ys : List (List ℕ)) → AllByRecursion P xs → AllByRecursion P ys → AllByRecursion P (xs ++ ys)
all_both P [] ys h k = k
all_both P (x ∷ xs) ys h k = (h.0, all_both P xs ys h.1 k)

pub names_both : (vs ws : List Variable) → names (vs ++ ws) ≡ names vs ++ names ws
names_both [] ws = refl
names_both (v ∷ vs) ws = ap (λ xs. v.name ∷ xs) (names_both vs ws)

-- what is so of the first of some names, and of the others
first_free : (xs : List (List ℕ)) (x : List ℕ) (k : ℕ) → ((j : ℕ) → k ≤ j → j < 2 ^ 64 → AllByRecursion (λ (y : List ℕ). IsAdded j y → ⊥) (x ∷ xs)) → (j : ℕ) → k ≤ j → j < 2 ^ 64 → IsAdded j x → ⊥
first_free xs x k free j l b = let all = free j l b in all.0

others_free : (xs : List (List ℕ)) (x : List ℕ) (k : ℕ) → ((j : ℕ) → k ≤ j → j < 2 ^ 64 → AllByRecursion (λ (y : List ℕ). IsAdded j y → ⊥) (x ∷ xs)) → (j : ℕ) → k ≤ j → j < 2 ^ 64 → AllByRecursion (λ (y : List ℕ). IsAdded j y → ⊥) xs
others_free xs x k free j l b = let all = free j l b in all.1

-- some names that differ, and added ones behind them
both_differ : (xs : List (List ℕ)) (k : ℕ) (more : List Variable) → ((j : ℕ) → k ≤ j → j < 2 ^ 64 → AllByRecursion (λ (x : List ℕ). IsAdded j x → ⊥) xs) → IsDistinct bytes_eq xs → k + length more ≤ 2 ^ 64 → AreAdded k more
    → IsDistinct bytes_eq (xs ++ names more)
unfolding IsDistinct
both_differ [] k more free differ few a = added_differ k more few a
both_differ (x ∷ xs) k more free differ few a = (
  all_both (λ y. bytes_eq x y ≡ false) xs (names more) differ.0 (apart_from x k more (λ j l b. first_free xs x k free j l (omega (arith, b, few))) a),
  both_differ xs k more (others_free xs x k free) differ.1 few a,
)

pub names_law : NamesLaw
names_law n other has adds few =
    let longer = length-append n.variables adds.more in
    let count : length other.variables ≡ length (n.variables ++ adds.more) = ap length adds.variables in
    let enough : length n.variables + length adds.more ≤ 2 ^ 64 = omega (arith, longer, count, few) in
    let split : names other.variables ≡ names n.variables ++ names adds.more = ap names adds.variables ∙ names_both n.variables adds.more in
    let before = has.names_free in
    record {
      differ = subst (IsDistinct bytes_eq) (sym split) (both_differ (names n.variables) (length n.variables) adds.more has.free before.differ enough adds.added);
      own = subst (AllByRecursion IsOwn) (sym split) (all_both IsOwn (names n.variables) (names adds.more) before.own (own_names (length n.variables) adds.more adds.added));
    }
