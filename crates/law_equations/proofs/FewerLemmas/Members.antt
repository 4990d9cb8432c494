-- Equations that are among others, and the variables that they define and read.
use Rattle.std.proofs.Common.{◌≡◌, ◌⊎◌, ◌≤◌, ◌+◌, ℕ, nat_eq, Bool, true, false, ◌||◌, ◌&&◌, if◌then◌else◌, cond, length, map, List, [], ◌∷◌, inl, inr, refl, sym, ap, ◌∙◌, subst, arith}
use Rattle.std.specs.List.{AllByRecursion, filter, flat_map}
use Rattle.std.proofs.lemmas.Bool.{eqb-true, eq-eqb}
use Rattle.hp_flat.specs.Equations.{FlatEqn}
use Rattle.law_equations.specs.Meaning.Instants.{Instant, holds}
use Rattle.law_equations.specs.Meaning.Reactions.{has, is_set}
use Rattle.hp_normal.specs.Reading.{count}
use Rattle.hp_normal.proofs.DefinerLaws.{count-append}

-- ---- elements of a list

-- an element is among some
abbrev pub Among : {A : Type 0} → A → List A → Type 0
Among e [] = ⊥
Among e (d ∷ ds) = (e ≡ d) ⊎ Among e ds

module _ {A : Type 0} where
  pub each_among : (P : A → Type 0) (es : List A) (e : A) → AllByRecursion P es → Among e es → P e
  each_among P [] e h a = absurd a
  each_among P (d ∷ es) e h (inl s) = subst P (sym s) h.0
  each_among P (d ∷ es) e h (inr a) = each_among P es e h.1 a

  pub all_among : (P : A → Type 0) (es : List A) → ((e : A) → Among e es → P e) → AllByRecursion P es
  all_among P [] f = tt
  all_among P (d ∷ es) f = (f d (inl refl), all_among P es (λ e a. f e (inr a)))

  pub each_map : (P Q : A → Type 0) → ((a : A) → P a → Q a) → (xs : List A) → AllByRecursion P xs → AllByRecursion Q xs
  each_map P Q f [] h = tt
  each_map P Q f (a ∷ xs) h = (f a h.0, each_map P Q f xs h.1)

  pub each_both : (P Q R : A → Type 0) → ((a : A) → P a → Q a → R a) → (ws : List A) → AllByRecursion P ws → AllByRecursion Q ws → AllByRecursion R ws
  each_both P Q R f [] h g = tt
  each_both P Q R f (a ∷ ws) h g = (f a h.0 g.0, each_both P Q R f ws h.1 g.1)

-- ---- how often numbers are in lists

has_by : (d e : Bool) (k : ℕ) → (e ≡ true → 1 ≤ k) → (d || e) ≡ true → 1 ≤ (if d then 1 else 0) + k
has_by true e k f h = omega arith
has_by false e k f h = omega (arith, f h)

pub has-count : (xs : List ℕ) (x : ℕ) → has xs x ≡ true → 1 ≤ count x xs
has-count [] x h = absurd (cc)
has-count (y ∷ xs) x h = has_by (nat_eq y x) (has xs x) (count x xs) (has-count xs x) h

count_by : (d e : Bool) (k : ℕ) → (1 ≤ k → e ≡ true) → 1 ≤ (if d then 1 else 0) + k → (d || e) ≡ true
count_by true e k f h = refl
count_by false e k f h = f (omega (arith, h))

pub count-has : (xs : List ℕ) (x : ℕ) → 1 ≤ count x xs → has xs x ≡ true
count-has [] x h = absurd (omega arith)
count-has (y ∷ xs) x h = count_by (nat_eq y x) (has xs x) (count x xs) (count-has xs x) h

each_by : (d : Bool) (P : ℕ → Type 0) (y x : ℕ) (k : ℕ) → nat_eq y x ≡ d → P y → (1 ≤ k → P x) → 1 ≤ (if d then 1 else 0) + k → P x
each_by true P y x k e p f h = subst P (eqb-true y x e) p
each_by false P y x k e p f h = f (omega (arith, h))

-- what holds of all numbers of a list, counted or one by one
pub each_at : (P : ℕ → Type 0) (xs : List ℕ) (x : ℕ) → AllByRecursion P xs → 1 ≤ count x xs → P x
each_at P [] x h c = absurd (omega arith)
each_at P (y ∷ xs) x h c = each_by (nat_eq y x) P y x (count x xs) refl h.0 (each_at P xs x h.1) c

pub each_counted : (P : ℕ → Type 0) (xs : List ℕ) → ((x : ℕ) → 1 ≤ count x xs → P x) → AllByRecursion P xs
each_counted P [] f = tt
each_counted P (y ∷ xs) f = (f y (here y xs), each_counted P xs (λ x c. f x (omega (arith, c, more y x xs))))
  where
    here : (y : ℕ) (xs : List ℕ) → 1 ≤ count y (y ∷ xs)
    here y xs = omega (arith, ap (λ (b : Bool). (if b then 1 else 0) + count y xs) (eq-eqb y y refl))

    more : (y x : ℕ) (xs : List ℕ) → count x xs ≤ count x (y ∷ xs)
    more y x xs = omega arith

-- ---- equations that define or read a variable

module _ (f : FlatEqn → List ℕ) (y : ℕ) where
  pub among-count : (es : List FlatEqn) (e : FlatEqn) → Among e es → count y (f e) ≤ count y (flat_map f es)
  among-count [] e a = absurd a
  among-count (d ∷ es) e (inl s) = omega (arith, ap (λ c. count y (f c)) s, count-append y (f d) (flat_map f es))
  among-count (d ∷ es) e (inr a) = omega (arith, among-count es e a, count-append y (f d) (flat_map f es))

  -- where a number occurs once, one equation has it
  pub one_of : (es : List FlatEqn) → count y (flat_map f es) ≤ 1 → (e d : FlatEqn) → Among e es → Among d es → 1 ≤ count y (f e) → 1 ≤ count y (f d) → e ≡ d
  one_of [] h e d a b p q = absurd a
  one_of (c ∷ es) h e d (inl s) (inl t) p q = s ∙ sym t
  one_of (c ∷ es) h e d (inl s) (inr b) p q = absurd (omega (arith, h, p, q, ap (λ k. count y (f k)) s, among-count es d b, count-append y (f c) (flat_map f es)))
  one_of (c ∷ es) h e d (inr a) (inl t) p q = absurd (omega (arith, h, p, q, ap (λ k. count y (f k)) t, among-count es e a, count-append y (f c) (flat_map f es)))
  one_of (c ∷ es) h e d (inr a) (inr b) p q = one_of es (omega (arith, h, count-append y (f c) (flat_map f es))) e d a b p q

-- ---- equations that are there

both_true : (a c : Bool) → (a && c) ≡ true → (a ≡ true) × (c ≡ true)
both_true true c h = (refl, h)
both_true false c h = absurd (cc)

-- the equation by which a variable is set
pub record SetBy (es : List FlatEqn) (now : Instant) (x : ℕ) : Type 0 where
  pub eqn : FlatEqn
  pub among : Among eqn es
  pub there : holds eqn.clock now ≡ true
  pub target : has eqn.targets x ≡ true

pub set_by : (es : List FlatEqn) (now : Instant) (x : ℕ) → is_set es now x ≡ true → SetBy es now x
set_by [] now x h = absurd (cc)
set_by (e ∷ es) now x h = choose (holds e.clock now && has e.targets x) e es now x refl h (set_by es now x)
  where
    choose : (d : Bool) (e : FlatEqn) (es : List FlatEqn) (now : Instant) (x : ℕ) → (holds e.clock now && has e.targets x) ≡ d → (d || is_set es now x) ≡ true → (is_set es now x ≡ true → SetBy es now x) → SetBy (e ∷ es) now x
    choose true e es now x q h f = let b = both_true (holds e.clock now) (has e.targets x) q in record { eqn = e; among = inl refl; there = b.0; target = b.1 }
    choose false e es now x q h f = let s : SetBy es now x = f h in record { eqn = s.eqn; among = inr s.among; there = s.there; target = s.target }

or_true : (a : Bool) → (a || true) ≡ true
or_true true = refl
or_true false = refl

pub sets : (es : List FlatEqn) (e : FlatEqn) (now : Instant) (x : ℕ) → Among e es → holds e.clock now ≡ true → has e.targets x ≡ true → is_set es now x ≡ true
sets [] e now x a h t = absurd a
sets (d ∷ es) e now x (inl s) h t =
    ap (λ (b : Bool). b || is_set es now x) ((λ i. (ap (λ (c : FlatEqn). holds c.clock now) (sym s) ∙ h) i && (ap (λ (c : FlatEqn). has c.targets x) (sym s) ∙ t) i))
sets (d ∷ es) e now x (inr a) h t = ap (λ (b : Bool). (holds d.clock now && has d.targets x) || b) (sets es e now x a h t) ∙ or_true (holds d.clock now && has d.targets x)

-- ---- equations that are kept, and changed

module _ (w : FlatEqn → FlatEqn) (keep : FlatEqn → Bool) where
  pub kept_among : (es : List FlatEqn) (e : FlatEqn) → Among e es → keep (w e) ≡ true → Among (w e) (filter keep (map w es))
  kept_among [] e a k = absurd a
  kept_among (d ∷ es) e (inl s) k = first_by (keep (w d)) (ap (λ c. keep (w c)) (sym s) ∙ k)
    where
      first_by : (b : Bool) → b ≡ true → Among (w e) (cond b (w d ∷ filter keep (map w es)) (filter keep (map w es)))
      first_by true h = inl (ap w s)
      first_by false h = absurd (cc)
  kept_among (d ∷ es) e (inr a) k = later_by (keep (w d)) (kept_among es e a k)
    where
      later_by : (b : Bool) → Among (w e) (filter keep (map w es)) → Among (w e) (cond b (w d ∷ filter keep (map w es)) (filter keep (map w es)))
      later_by true h = inr h
      later_by false h = h

  -- what holds of all that is kept
  pub all_kept : (P : FlatEqn → Type 0) (es : List FlatEqn) → ((e : FlatEqn) → Among e es → keep (w e) ≡ true → P (w e)) → AllByRecursion P (filter keep (map w es))
  all_kept P [] f = tt
  all_kept P (e ∷ es) f = kept_by (keep (w e)) refl (all_kept P es (λ d a. f d (inr a)))
    where
      kept_by : (b : Bool) → keep (w e) ≡ b → AllByRecursion P (filter keep (map w es)) → AllByRecursion P (cond b (w e ∷ filter keep (map w es)) (filter keep (map w es)))
      kept_by true q h = (f e (inl refl) q, h)
      kept_by false q h = h

-- ---- so there are no more

fewer_by : (b : Bool) (e : FlatEqn) (es : List FlatEqn) (k : ℕ) → length es ≤ k → length (cond b (e ∷ es) es) ≤ k + 1
fewer_by true e es k h = omega (arith, h)
fewer_by false e es k h = omega (arith, h)

pub fewer : (w : FlatEqn → FlatEqn) (keep : FlatEqn → Bool) (es : List FlatEqn) → length (filter keep (map w es)) ≤ length es
fewer w keep [] = omega arith
fewer w keep (e ∷ es) = omega (arith, fewer_by (keep (w e)) (w e) (filter keep (map w es)) (length es) (fewer w keep es))
