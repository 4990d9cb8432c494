-- What a loop over things keeps that are looked at one behind the other.
use Rattle.std.proofs.Common.{◌≡◌, ℕ, Bool, true, false, ◌||◌, List, [], ◌∷◌, ◌++◌, map, None, Some, Option, is_some, refl, sym, ap, ◌∙◌, subst, append_assoc, append-nil}
use Rattle.std.specs.Prelude.{◌↔◌, not, if◌then◌else◌}
use Rattle.std.specs.Bool.{Decides}
use Rattle.std.specs.List.{IsDistinct, AllByRecursion}
use Rattle.std.specs.Str.{bytes_eq}
use Rattle.std.proofs.lemmas.List.{map-id}
use Rattle.hp_obc.proofs.Positions.{bytes_eq-sym}
use Rattle.hp_obc.specs.Form.{has_name}
use Rattle.hp_base.specs.Known.Known.{lookup, with_entry}
use Rattle.hp_form.specs.Declaring.{AreApart, keys, Each, IsNew}

-- ---- both ways

-- the first of two things holds: the other is left
pub one_done : {P Q R : Type 0} → (P × Q) ↔ R → P → Q ↔ R
one_done h p = ((λ q. h.0 (p, q)), (λ r. (h.1 r).1))

pub one_fails : {P Q R : Type 0} → (P × Q) ↔ R → (P → ⊥) → Decides false R
one_fails h n = ((λ e. absurd cc), (λ r. absurd (n (h.1 r).0)))

pub all_done : {P R : Type 0} → P ↔ R → P → Decides true R
all_done h p = ((λ e. h.0 p), (λ r. refl))

pub refuted : {P : Type 0} {b : Bool} → Decides b P → b ≡ false → P → ⊥
refuted h e p = let f = h.1 p in absurd cc

pub decides_by : {P Q : Type 0} {b : Bool} → P ↔ Q → Decides b P → Decides b Q
decides_by h d = ((λ e. h.0 (d.0 e)), (λ q. d.1 (h.1 q)))

-- ---- lists of things

module _ {B : Type 0} (name : B → List ℕ) (P : List (List ℕ) → B → Type 0) where
  pub each_append : (olds : List (List ℕ)) (xs ys : List B) → Each name P olds (xs ++ ys) ↔ (Each name P olds xs × Each name P (olds ++ map name xs) ys)
  each_append olds [] ys = ((λ h. (tt, subst (λ z. Each name P z ys) (sym (append-nil olds)) h)), (λ h. subst (λ z. Each name P z ys) (append-nil olds) h.1))
  each_append olds (x ∷ xs) ys =
      let rest = each_append (olds ++ name x ∷ []) xs ys in
      let e : (olds ++ name x ∷ []) ++ map name xs ≡ olds ++ (name x ∷ map name xs) = append_assoc olds (name x ∷ []) (map name xs) in
      ((λ h. ((h.0, (rest.0 h.1).0), subst (λ z. Each name P z ys) e (rest.0 h.1).1)), (λ h. (h.0.0, rest.1 (h.0.1, subst (λ z. Each name P z ys) (sym e) h.1))))

-- ---- names that differ

left_false : (a b : Bool) → (a || b) ≡ false → a ≡ false
left_false true b h = absurd cc
left_false false b h = refl

right_false : (a b : Bool) → (a || b) ≡ false → b ≡ false
right_false true b h = absurd cc
right_false false b h = h

both_false : (a b : Bool) → a ≡ false → b ≡ false → (a || b) ≡ false
both_false a b p q = λ i. p i || q i

apart_push : (x : List ℕ) (ys : List (List ℕ)) (z : List ℕ) → AllByRecursion (λ y. bytes_eq x y ≡ false) ys → bytes_eq x z ≡ false → AllByRecursion (λ y. bytes_eq x y ≡ false) (ys ++ z ∷ [])
apart_push x [] z h k = (k, tt)
apart_push x (y ∷ ys) z h k = (h.0, apart_push x ys z h.1 k)

distinct_push : (xs : List (List ℕ)) (x : List ℕ) → IsDistinct bytes_eq xs → has_name xs x ≡ false → IsDistinct bytes_eq (xs ++ x ∷ [])
unfolding IsDistinct
distinct_push [] x h k = (tt, tt)
distinct_push (y ∷ ys) x h k = (apart_push y ys x h.0 (left_false (bytes_eq y x) (has_name ys x) k), distinct_push ys x h.1 (right_false (bytes_eq y x) (has_name ys x) k))

apart_at : (x y : List ℕ) (xs zs : List (List ℕ)) → AllByRecursion (λ z. bytes_eq x z ≡ false) (xs ++ y ∷ zs) → bytes_eq x y ≡ false
apart_at x y [] zs h = h.0
apart_at x y (w ∷ xs) zs h = apart_at x y xs zs h.1

distinct_new : (xs : List (List ℕ)) (y : List ℕ) (zs : List (List ℕ)) → IsDistinct bytes_eq (xs ++ y ∷ zs) → has_name xs y ≡ false
unfolding IsDistinct
distinct_new [] y zs h = refl
distinct_new (x ∷ xs) y zs h = both_false (bytes_eq x y) (has_name xs y) (apart_at x y xs zs h.0) (distinct_new xs y zs h.1)

distinct_none : IsDistinct bytes_eq []
unfolding IsDistinct
distinct_none = tt

-- Things of new names have names that differ, and each is as it should be otherwise.
module _ {B : Type 0} (name : B → List ℕ) (P : List (List ℕ) → B → Type 0) (Q : B → Type 0) (split : (olds : List (List ℕ)) (b : B) → P olds b ↔ ((has_name olds (name b) ≡ false) × Q b)) where
  apart_from : (olds : List (List ℕ)) (bs : List B) → Each name P olds bs → IsDistinct bytes_eq olds → IsDistinct bytes_eq (olds ++ map name bs)
  apart_from olds [] h d = subst (IsDistinct bytes_eq) (sym (append-nil olds)) d
  apart_from olds (b ∷ bs) h d =
      subst (IsDistinct bytes_eq) (append_assoc olds (name b ∷ []) (map name bs)) (apart_from (olds ++ name b ∷ []) bs h.1 (distinct_push olds (name b) d ((split olds b).0 h.0).0))

  others_from : (olds : List (List ℕ)) (bs : List B) → Each name P olds bs → AllByRecursion Q bs
  others_from olds [] h = tt
  others_from olds (b ∷ bs) h = (((split olds b).0 h.0).1, others_from (olds ++ name b ∷ []) bs h.1)

  each_from : (olds : List (List ℕ)) (bs : List B) → IsDistinct bytes_eq (olds ++ map name bs) → AllByRecursion Q bs → Each name P olds bs
  each_from olds [] d q = tt
  each_from olds (b ∷ bs) d q = (
    (split olds b).1 (distinct_new olds (name b) (map name bs) d, q.0),
    each_from (olds ++ name b ∷ []) bs (subst (IsDistinct bytes_eq) (sym (append_assoc olds (name b ∷ []) (map name bs))) d) q.1,
  )

  pub each_split : (bs : List B) → Each name P [] bs ↔ (IsDistinct bytes_eq (map name bs) × AllByRecursion Q bs)
  each_split bs = ((λ h. (apart_from [] bs h distinct_none, others_from [] bs h)), (λ h. each_from [] bs h.0 h.1))

-- ---- entries

module _ {A : Type 0} where
  none_by : (d e : Bool) (a : A) (o : Option A) (r : Bool) → d ≡ e → (o ≡ None ↔ r ≡ false) → ((if d then Some a else o) ≡ None) ↔ ((e || r) ≡ false)
  none_by true true a o r h k = ((λ f. absurd cc), (λ f. absurd cc))
  none_by false false a o r h k = k
  none_by true false a o r h k = absurd cc
  none_by false true a o r h k = absurd cc

  -- an entry is missing where its name is
  pub missing : (es : List (List ℕ × A)) (x : List ℕ) → (lookup es x ≡ None) ↔ (has_name (keys es) x ≡ false)
  missing [] x = ((λ h. refl), (λ h. refl))
  missing (e ∷ es) x = none_by (bytes_eq x e.0) (bytes_eq e.0 x) e.1 (lookup es x) (has_name (keys es) x) (bytes_eq-sym x e.0) (missing es x)

module _ {A : Type 0} where
  known_by : (d e : Bool) (a : A) (o : Option A) (r : Bool) → d ≡ e → is_some o ≡ r → is_some (if d then Some a else o) ≡ (e || r)
  known_by true true a o r h k = refl
  known_by false false a o r h k = k
  known_by true false a o r h k = absurd cc
  known_by false true a o r h k = absurd cc

  -- what is known of a name is known by its name
  pub known_is : (es : List (List ℕ × A)) (x : List ℕ) → is_some (lookup es x) ≡ has_name (keys es) x
  known_is [] x = refl
  known_is (e ∷ es) x = known_by (bytes_eq x e.0) (bytes_eq e.0 x) e.1 (lookup es x) (has_name (keys es) x) (bytes_eq-sym x e.0) (known_is es x)

  pub with_new : (es : List (List ℕ × A)) (x : List ℕ) (a : A) → has_name (keys es) x ≡ false → with_entry es x a ≡ es ++ (x, a) ∷ []
  with_new es x a h = ap (λ d. if d then es else es ++ (x, a) ∷ []) (known_is es x ∙ h)

-- names that differ, one behind the other
pub apart_law : (xs : List (List ℕ)) → AreApart [] xs ↔ IsDistinct bytes_eq xs
apart_law xs =
    let halves = each_split (λ (x : List ℕ). x) (λ olds x. has_name olds x ≡ false) (λ x. Unit {0}) (λ olds x. ((λ h. (h, tt)), (λ h. h.0))) xs in
    ((λ h. subst (IsDistinct bytes_eq) (map-id xs) (halves.0 h).0), (λ d. halves.1 (subst (IsDistinct bytes_eq) (sym (map-id xs)) d, nothing xs)))
  where
    nothing : (xs : List (List ℕ)) → AllByRecursion (λ x. Unit {0}) xs
    nothing [] = tt
    nothing (x ∷ xs) = (tt, nothing xs)

-- names among two lists
has_both : (xs ys : List (List ℕ)) (x : List ℕ) → has_name (xs ++ ys) x ≡ (has_name xs x || has_name ys x)
has_both [] ys x = refl
has_both (y ∷ xs) ys x = ap (λ b. bytes_eq y x || b) (has_both xs ys x) ∙ three (bytes_eq y x) (has_name xs x) (has_name ys x)
  where
    three : (a b c : Bool) → (a || (b || c)) ≡ ((a || b) || c)
    three true b c = refl
    three false b c = refl

pub second_new : (xs ys : List (List ℕ)) (x : List ℕ) → has_name (xs ++ ys) x ≡ false → has_name ys x ≡ false
second_new xs ys x h = right_false (has_name xs x) (has_name ys x) (sym (has_both xs ys x) ∙ h)

first_new : (xs ys : List (List ℕ)) (x : List ℕ) → has_name (xs ++ ys) x ≡ false → has_name xs x ≡ false
first_new xs ys x h = left_false (has_name xs x) (has_name ys x) (sym (has_both xs ys x) ∙ h)

pub old_first : (spelled : List ℕ → Bool) (xs ys : List (List ℕ)) (x : List ℕ) → not (has_name xs x) ≡ false → Decides false (IsNew spelled (xs ++ ys) x)
old_first spelled xs ys x h = ((λ e. absurd cc), (λ n. let f = first_new xs ys x n.1 in by (has_name xs x) h f))
  where
    by : (b : Bool) → not b ≡ false → b ≡ false → false ≡ true
    by true p q = absurd cc
    by false p q = absurd cc

pub new_in_both : (spelled : List ℕ → Bool) (xs ys : List (List ℕ)) (x : List ℕ) (b : Bool) → spelled x ≡ true → not (has_name xs x) ≡ true → b ≡ not (has_name ys x) → Decides b (IsNew spelled (xs ++ ys) x)
new_in_both spelled xs ys x b s h e =
    ((λ t. (s, has_both xs ys x ∙ both_false (has_name xs x) (has_name ys x) (off (has_name xs x) h) (off (has_name ys x) (sym e ∙ t)))), (λ n. e ∙ ap not (second_new xs ys x n.1)))
  where
    off : (b : Bool) → not b ≡ true → b ≡ false
    off true h = absurd cc
    off false h = refl
