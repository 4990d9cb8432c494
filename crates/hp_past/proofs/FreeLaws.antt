-- New names do not occur, and none is given twice.
use Rattle.std.proofs.Common.{◌≡◌, ℕ, zero, suc, ◌+◌, ◌<◌, ◌≤◌, ◌^◌, Bool, true, false, if◌then◌else◌, List, [], ◌∷◌, length, drop, Some, is_some, refl, sym, ap, subst, ◌∙◌, arith}
use Rattle.std.specs.Str.{bytes_eq}
use Rattle.std.proofs.lemmas.Fmt.{decimal_injective}
use Rattle.std.proofs.lemmas.Slice.Eq.{bytes_eq-Decides}
use Rattle.hp_base.specs.Known.Known.{lookup}
use Rattle.hp_past.specs.Names.{Names, is_taken, past_name, free_within, free}

-- two numbers have two names
pub one-number : (j k : ℕ) → j < 2 ^ 64 → k < 2 ^ 64 → past_name j ≡ past_name k → j ≡ k
one-number j k h g e = decimal_injective j k h g (ap (λ x. drop 5 x) e)

-- ---- a name that is taken away

one_name : (x y : List ℕ) → bytes_eq x y ≡ true → x ≡ y
one_name x y = (bytes_eq-Decides x y).0

same_name : (x y : List ℕ) → x ≡ y → bytes_eq x y ≡ true
same_name x y = (bytes_eq-Decides x y).1

abbrev without : List ℕ → Names → Names
without x [] = []
without x (e ∷ es) = if bytes_eq x e.0 then without x es else e ∷ without x es

fewer : (x : List ℕ) (names : Names) → length (without x names) ≤ length names
fewer x [] = omega arith
fewer x (e ∷ es) = by (bytes_eq x e.0) (fewer x es)
  where
    by : (same : Bool) → length (without x es) ≤ length es → length (if same then without x es else e ∷ without x es) ≤ length (e ∷ es)
    by true h = omega (arith, h)
    by false h = omega (arith, h)

one-fewer : (x : List ℕ) (names : Names) → is_taken names x ≡ true → length (without x names) + 1 ≤ length names
one-fewer x [] t = absurd cc
one-fewer x (e ∷ es) t = by (bytes_eq x e.0) (fewer x es) (one-fewer x es) t
  where
    by : (same : Bool) → length (without x es) ≤ length es → (is_taken es x ≡ true → length (without x es) + 1 ≤ length es) → is_some (if same then Some e.1 else lookup es x) ≡ true
        → length (if same then without x es else e ∷ without x es) + 1 ≤ length (e ∷ es)
    by true h rest t = omega (arith, h)
    by false h rest t = let r = rest t in omega (arith, r)

others-stay : (x y : List ℕ) (names : Names) → (x ≡ y → ⊥) → is_taken names y ≡ true → is_taken (without x names) y ≡ true
others-stay x y [] differ t = t
others-stay x y (e ∷ es) differ t = by (bytes_eq x e.0) (bytes_eq y e.0) refl refl (others-stay x y es differ) t
  where
    by : (a b : Bool) → bytes_eq x e.0 ≡ a → bytes_eq y e.0 ≡ b → (is_taken es y ≡ true → is_taken (without x es) y ≡ true) → is_some (if b then Some e.1 else lookup es y) ≡ true
        → is_taken (if a then without x es else e ∷ without x es) y ≡ true
    by true true p q rest t = absurd (differ (one_name x e.0 p ∙ sym (one_name y e.0 q)))
    by true false p q rest t = rest t
    by false true p q rest t = ap (λ same. is_some (if same then Some e.1 else lookup (without x es) y)) q
    by false false p q rest t = ap (λ same. is_some (if same then Some e.1 else lookup (without x es) y)) q ∙ rest t

-- ---- the number that is found

within-later : (n : ℕ) (names : Names) (k : ℕ) → k ≤ free_within n names k
within-later zero names k = omega arith
within-later (suc n) names k = by (is_taken names (past_name k)) (within-later n names (suc k))
  where
    by : (taken : Bool) → suc k ≤ free_within n names (suc k) → k ≤ (if taken then free_within n names (suc k) else k)
    by true h = omega (arith, h)
    by false h = omega arith

none-taken : (names : Names) (x : List ℕ) → length names ≤ 0 → is_taken names x ≡ false
none-taken [] x h = refl
none-taken (e ∷ es) x h = absurd (omega (arith, h))

-- There are no more numbers to be passed over than names that are left.
within-free : (n : ℕ) (names left : Names) (k : ℕ) → length left ≤ n → ((j : ℕ) → k ≤ j → j < 2 ^ 64 → is_taken names (past_name j) ≡ true → is_taken left (past_name j) ≡ true)
    → free_within n names k < 2 ^ 64 → is_taken names (past_name (free_within n names k)) ≡ false
within-free zero names left k few all small = by (is_taken names (past_name k)) refl
  where
    by : (taken : Bool) → is_taken names (past_name k) ≡ taken → is_taken names (past_name k) ≡ false
    by true e = absurd (differ (sym (none-taken left (past_name k) few) ∙ all k (omega arith) small e))
      where
        differ : false ≡ true → ⊥
        differ z = cc
    by false e = e
within-free (suc n) names left k few all small =
    by (is_taken names (past_name k)) refl (λ others less all' small'. within-free n names others (suc k) less all' small')
  where
    Found : Type 0
    Found = (others : Names) → length others ≤ n → ((j : ℕ) → suc k ≤ j → j < 2 ^ 64 → is_taken names (past_name j) ≡ true → is_taken others (past_name j) ≡ true)
        → free_within n names (suc k) < 2 ^ 64 → is_taken names (past_name (free_within n names (suc k))) ≡ false

    differs : (j : ℕ) → suc k ≤ j → j < 2 ^ 64 → past_name k ≡ past_name j → ⊥
    differs j h g e = let same = one-number k j (omega (arith, h, g)) g e in omega (arith, h, same)

    by : (taken : Bool) → is_taken names (past_name k) ≡ taken → Found → is_taken names (past_name (free_within (suc n) names k)) ≡ false
    by true e found =
        let left' = without (past_name k) left in
        let on : free_within (suc n) names k ≡ free_within n names (suc k) = ap (λ taken. if taken then free_within n names (suc k) else k) e in
        let small' : free_within n names (suc k) < 2 ^ 64 = subst (λ m. m < 2 ^ 64) on small in
        let low = within-later n names (suc k) in
        let here = all k (omega arith) (omega (arith, low, small')) e in
        let one = one-fewer (past_name k) left here in
        ap (λ m. is_taken names (past_name m)) on
        ∙ found left' (omega (arith, one, few)) (λ j h g t. others-stay (past_name k) (past_name j) left (differs j h g) (all j (omega (arith, h)) g t)) small'
    by false e found = ap (λ taken. is_taken names (past_name (if taken then free_within n names (suc k) else k))) e ∙ e

pub free-later : (names : Names) (k : ℕ) → k ≤ free names k
unfolding free
free-later names k = within-later (length names) names k

pub free-is-free : (names : Names) (k : ℕ) → free names k < 2 ^ 64 → is_taken names (past_name (free names k)) ≡ false
unfolding free
free-is-free names k small = within-free (length names) names names k (omega arith) (λ j h g t. t) small
