-- Files of which each word keeps the rules of form.
use Rattle.std.proofs.Common.{◌≡◌, ℕ, suc, ◌+◌, min, length, Bool, true, false, not, ◌&&◌, if◌then◌else◌, List, [], ◌∷◌, ◌++◌, map, fold, Option, None, Some, is_some, refl, sym, ap, subst, ◌∙◌, arith}
use Rattle.std.specs.List.{IsDistinct, AllByRecursion}
use Rattle.std.specs.Str.{bytes_eq}
use Rattle.std.proofs.lemmas.List.{map-append}
use Rattle.std.proofs.lemmas.Slice.Eq.{bytes_eq-Decides}
use Rattle.hp_obctext.specs.declared.found.Found.{Found}
use Rattle.hp_obctext.specs.Breaches.{found_or, passes, after}
use Rattle.hp_base.specs.Known.Known.{lookup, with_entry}
use Rattle.hp_obctext.specs.Rules.{Table, is_new, AllTrue, IsBreach}
use Rattle.hp_obctext.specs.Shapes.{Each}

pub front_true : (vs us : List Bool) → AllTrue (vs ++ us) → AllTrue vs
front_true [] us h = tt
front_true (v ∷ vs) us h = (h.0, front_true vs us h.1)

pub back_true : (vs us : List Bool) → AllTrue (vs ++ us) → AllTrue us
back_true [] us h = h
back_true (v ∷ vs) us h = back_true vs us h.1

found_stays : (k : ℕ) (f : Found) (vs : List Bool) → f.breach ≡ Some k → (fold passes f vs).breach ≡ Some k
found_stays k f [] h = h
found_stays k f (v ∷ vs) h = found_stays k (passes f v) vs (ap (λ o. found_or o v f.passed) h)

-- what is found from the word of a number on
record FoundFrom (n : ℕ) (vs : List Bool) (number : ℕ) : Type 0 where
  front : List Bool
  rest : List Bool
  split : vs ≡ front ++ false ∷ rest
  kept : AllTrue front
  number_is : number ≡ min 18446744073709551615 (n + length front)

abbrev IsFoundFrom : ℕ → List Bool → Option ℕ → Type 0
IsFoundFrom n vs None = AllTrue vs
IsFoundFrom n vs (Some k) = FoundFrom n vs k

found_next : (n : ℕ) (vs : List Bool) (o : Option ℕ) → IsFoundFrom (suc n) vs o → IsFoundFrom n (true ∷ vs) o
found_next n vs None h = (refl, h)
found_next n vs (Some k) h = record { front = true ∷ h.front; rest = h.rest; split = ap (λ us. true ∷ us) h.split; kept = (refl, h.kept); number_is = let e = h.number_is in omega (arith, e) }

found_from : (n : ℕ) (f : Found) (vs : List Bool) → f.breach ≡ None → f.passed ≡ min 18446744073709551615 n → IsFoundFrom n vs (fold passes f vs).breach
found_from n f [] h p = subst (IsFoundFrom n []) (sym h) tt
found_from n f (true ∷ vs) h p =
    found_next n vs (fold passes (passes f true) vs).breach
    (found_from (suc n) (passes f true) vs (ap (λ o. found_or o true f.passed) h) (omega (arith, p)))
found_from n f (false ∷ vs) h p =
    subst (IsFoundFrom n (false ∷ vs)) (sym (found_stays f.passed (passes f false) vs (ap (λ o. found_or o false f.passed) h)))
    (record { front = []; rest = vs; split = refl; kept = tt; number_is = omega (arith, p) })

breach_by : (vs : List Bool) (o : Option ℕ) → IsFoundFrom 0 vs o → IsBreach vs o
breach_by vs None h = h
breach_by vs (Some k) h = record { front = h.front; rest = h.rest; split = h.split; kept = h.kept; number_is = let e = h.number_is in omega (arith, e) }

pub breach_found : (f : Found) (vs : List Bool) → f.breach ≡ None → f.passed ≡ 0 → IsBreach vs (after f vs).breach
unfolding after
breach_found f vs h p = breach_by vs (fold passes f vs).breach (found_from 0 f vs h (omega (arith, p)))

pub both_true : (a b : Bool) → (a && b) ≡ true → (a ≡ true) × (b ≡ true)
both_true true true h = (refl, refl)
both_true true false h = absurd cc
both_true false b h = absurd cc

pub each_append : {A : Type 0} (P : A → Type 0) (xs ys : List A) → Each P xs → Each P ys → Each P (xs ++ ys)
each_append P [] ys h k = k
each_append P (x ∷ xs) ys h k = (h.0, each_append P xs ys h.1 k)

pub front_each : {A : Type 0} (P : A → Type 0) (xs ys : List A) → Each P (xs ++ ys) → Each P xs
front_each P [] ys h = tt
front_each P (x ∷ xs) ys h = (h.0, front_each P xs ys h.1)

pub back_each : {A : Type 0} (P : A → Type 0) (xs ys : List A) → Each P (xs ++ ys) → Each P ys
back_each P [] ys h = h
back_each P (x ∷ xs) ys h = back_each P xs ys h.1

pub flip : (x y : List ℕ) → bytes_eq x y ≡ bytes_eq y x
flip x y = by (bytes_eq x y) (bytes_eq y x) refl refl
  where
    by : (d e : Bool) → bytes_eq x y ≡ d → bytes_eq y x ≡ e → d ≡ e
    by true true p q = refl
    by false false p q = refl
    by true false p q = let r : bytes_eq y x ≡ true = (bytes_eq-Decides y x).1 (sym ((bytes_eq-Decides x y).0 p)) in cc
    by false true p q = let r : bytes_eq x y ≡ true = (bytes_eq-Decides x y).1 (sym ((bytes_eq-Decides y x).0 q)) in cc

pub same_bytes : (x : List ℕ) → bytes_eq x x ≡ true
same_bytes x = (bytes_eq-Decides x x).1 refl

pub equal_bytes : (x y : List ℕ) → bytes_eq x y ≡ true → x ≡ y
equal_bytes x y h = (bytes_eq-Decides x y).0 h

-- ---- tables

abbrev pub Apart : List ℕ → List (List ℕ) → Type 0
Apart x ys = AllByRecursion (λ y. bytes_eq x y ≡ false) ys

-- a name is none of some
abbrev pub IsFresh : List ℕ → List (List ℕ) → Type 0
IsFresh x [] = Unit {0}
IsFresh x (y ∷ ys) = (bytes_eq y x ≡ false) × IsFresh x ys

apart_push : (x : List ℕ) (ys : List (List ℕ)) (z : List ℕ) → Apart x ys → bytes_eq x z ≡ false → Apart x (ys ++ z ∷ [])
apart_push x [] z h k = (k, tt)
apart_push x (y ∷ ys) z h k = (h.0, apart_push x ys z h.1 k)

-- a fresh name goes behind names that differ
pub distinct_push : (xs : List (List ℕ)) (x : List ℕ) → IsDistinct bytes_eq xs → IsFresh x xs → IsDistinct bytes_eq (xs ++ x ∷ [])
unfolding IsDistinct
distinct_push [] x h k = (tt, tt)
distinct_push (y ∷ ys) x h k = (apart_push y ys x h.0 k.0, distinct_push ys x h.1 k.1)

pub distinct_none : IsDistinct bytes_eq []
unfolding IsDistinct
distinct_none = tt

module _ {A : Type 0} where
  abbrev pub keys : Table A → List (List ℕ)
  keys es = map (λ (e : List ℕ × A). e.0) es

  new_by : (o : Option A) (es : Table A) (x : List ℕ) (a : A) → not (is_some o) ≡ true → (if is_some o then es else es ++ (x, a) ∷ []) ≡ es ++ (x, a) ∷ []
  new_by None es x a h = refl
  new_by (Some b) es x a h = absurd cc

  pub new_entry : (es : Table A) (x : List ℕ) (a : A) → is_new es x ≡ true → with_entry es x a ≡ es ++ (x, a) ∷ []
  new_entry es x a h = new_by (lookup es x) es x a h

  fresh_by : (d : Bool) (e : List ℕ × A) (es : Table A) (x : List ℕ) → bytes_eq x e.0 ≡ d → not (is_some (if d then Some e.1 else lookup es x)) ≡ true → (is_new es x ≡ true → IsFresh x (keys es)) → IsFresh x (keys (e ∷ es))
  fresh_by true e es x p h k = absurd cc
  fresh_by false e es x p h k = (flip e.0 x ∙ p, k h)

  pub fresh : (es : Table A) (x : List ℕ) → is_new es x ≡ true → IsFresh x (keys es)
  fresh [] x h = tt
  fresh (e ∷ es) x h = fresh_by (bytes_eq x e.0) e es x refl h (fresh es x)

  pub keys-push : (es : Table A) (x : List ℕ) (a : A) → keys (es ++ (x, a) ∷ []) ≡ keys es ++ x ∷ []
  keys-push es x a = map-append (λ (e : List ℕ × A). e.0) es ((x, a) ∷ [])

  -- a table with a new name has names that differ
  pub entry_distinct : (es : Table A) (x : List ℕ) (a : A) → is_new es x ≡ true → IsDistinct bytes_eq (keys es) → IsDistinct bytes_eq (keys (with_entry es x a))
  entry_distinct es x a h d =
      subst (IsDistinct bytes_eq) (sym (ap keys (new_entry es x a h) ∙ keys-push es x a)) (distinct_push (keys es) x d (fresh es x h))
