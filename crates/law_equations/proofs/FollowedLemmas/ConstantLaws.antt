-- Where types have form, constants tell values.
use Rattle.std.proofs.Common.{◌≡◌, ℕ, zero, suc, ◌+◌, ◌<◌, Bool, true, false, ◌||◌, List, [], ◌∷◌, ◌++◌, length, get_or, Option, Some, None, option_map, if◌then◌else◌, refl, sym, ap, ◌∙◌, arith}
use Rattle.std.specs.List.{AllByRecursion, IsDistinct, position}
use Rattle.std.specs.Str.{bytes_eq}
use Rattle.hp_base.specs.declared.value.Value.{Value}
use Rattle.hp_base.specs.declared.value.Value.TheVariants.{B, E, I}
use Rattle.hp_obc.specs.Machines.{ObcType}
use Rattle.hp_obc.specs.Values.{constructor_from, or_absent}
use Rattle.hp_obc.specs.Form.{has_name, constructors_of}
use Rattle.hp_obc.proofs.Positions.{position-cons}
use Rattle.law_equations.specs.Followed.Following.{ConstantsLaw}
use Rattle.law_equations.proofs.FollowedLemmas.Naming.{same_name, its_name, turned}

abbrev none : ObcType
none = record { name = []; cons = [] }

-- ---- names among names

or_true : (a : Bool) → (a || true) ≡ true
or_true true = refl
or_true false = refl

or_false : (a b : Bool) → a ≡ false → b ≡ false → (a || b) ≡ false
or_false true b h g = absurd (cc)
or_false false b h g = g

pub named-at : (xs : List (List ℕ)) (c : ℕ) → c < length xs → has_name xs (get_or xs c []) ≡ true
named-at [] c lt = absurd (omega arith)
named-at (x ∷ xs) zero lt = ap (λ b. b || has_name xs x) (its_name x)
named-at (x ∷ xs) (suc c) lt = ap (λ b. bytes_eq x (get_or xs c []) || b) (named-at xs c (omega arith)) ∙ or_true (bytes_eq x (get_or xs c []))

named-second : (xs ys : List (List ℕ)) (z : List ℕ) → has_name ys z ≡ true → has_name (xs ++ ys) z ≡ true
named-second [] ys z h = h
named-second (x ∷ xs) ys z h = ap (λ b. bytes_eq x z || b) (named-second xs ys z h) ∙ or_true (bytes_eq x z)

named-first : (xs ys : List (List ℕ)) (z : List ℕ) → has_name xs z ≡ true → has_name (xs ++ ys) z ≡ true
named-first [] ys z h = absurd (cc)
named-first (x ∷ xs) ys z h = first_by (bytes_eq x z) (has_name xs z) (has_name (xs ++ ys) z) h (named-first xs ys z)
  where
    first_by : (a b c : Bool) → (a || b) ≡ true → (b ≡ true → c ≡ true) → (a || c) ≡ true
    first_by true b c h f = refl
    first_by false b c h f = f h

-- a name that is among names of which x is none is not x
differs_by : (d e : Bool) (x y z : List ℕ) → bytes_eq y z ≡ d → bytes_eq x y ≡ false → (e ≡ true → bytes_eq x z ≡ false) → (d || e) ≡ true → bytes_eq x z ≡ false
differs_by true e x y z q h f t = ap (bytes_eq x) (sym (same_name y z q)) ∙ h
differs_by false e x y z q h f t = f t

pub differs : (x : List ℕ) (ys : List (List ℕ)) (z : List ℕ) → AllByRecursion (λ y. bytes_eq x y ≡ false) ys → has_name ys z ≡ true → bytes_eq x z ≡ false
differs x [] z h t = absurd (cc)
differs x (y ∷ ys) z h t = differs_by (bytes_eq y z) (has_name ys z) x y z refl h.0 (differs x ys z h.1) t

-- of names that differ, those of the second part are none of the first
pub not_first : (xs ys : List (List ℕ)) (z : List ℕ) → IsDistinct bytes_eq (xs ++ ys) → has_name ys z ≡ true → has_name xs z ≡ false
unfolding IsDistinct
not_first [] ys z d h = refl
not_first (x ∷ xs) ys z d h = or_false (bytes_eq x z) (has_name xs z) (differs x (xs ++ ys) z d.0 (named-second xs ys z h)) (not_first xs ys z d.1 h)

pub second-distinct : (xs ys : List (List ℕ)) → IsDistinct bytes_eq (xs ++ ys) → IsDistinct bytes_eq ys
unfolding IsDistinct
second-distinct [] ys d = d
second-distinct (x ∷ xs) ys d = second-distinct xs ys d.1

position-at : (xs ys : List (List ℕ)) (c : ℕ) → IsDistinct bytes_eq (xs ++ ys) → c < length xs → position (bytes_eq (get_or xs c [])) xs ≡ Some c
unfolding IsDistinct
position-at [] ys c d lt = absurd (omega arith)
position-at (x ∷ xs) ys zero d lt = position-cons (bytes_eq x) x xs ∙ ap (λ b. if b then Some 0 else option_map suc (position (bytes_eq x) xs)) (its_name x)
position-at (x ∷ xs) ys (suc c) d lt =
    let z : List ℕ = get_or xs c [] in
    position-cons (bytes_eq z) x xs
    ∙ ap (λ b. if b then Some 0 else option_map suc (position (bytes_eq z) xs)) (turned x z (differs x (xs ++ ys) z d.0 (named-first xs ys z (named-at xs c (omega arith)))))
    ∙ ap (option_map suc) (position-at xs ys c d.1 (omega arith))

nowhere : (xs : List (List ℕ)) (z : List ℕ) → has_name xs z ≡ false → position (bytes_eq z) xs ≡ None
nowhere [] z h = refl
nowhere (x ∷ xs) z h =
    position-cons (bytes_eq z) x xs ∙ ap (λ b. if b then Some 0 else option_map suc (position (bytes_eq z) xs)) (turned x z (left (bytes_eq x z) (has_name xs z) h)) ∙ ap (option_map suc) (nowhere xs z (right (bytes_eq x z) (has_name xs z) h))
  where
    left : (a b : Bool) → (a || b) ≡ false → a ≡ false
    left true b h = absurd (cc)
    left false b h = refl

    right : (a b : Bool) → (a || b) ≡ false → b ≡ false
    right true b h = absurd (cc)
    right false b h = h

-- ---- constructors of types in order

pub constructor-named : (ts : List ObcType) (i c : ℕ) → i < length ts → c < length (get_or ts i none).cons → has_name (constructors_of ts) (get_or (get_or ts i none).cons c []) ≡ true
constructor-named [] i c lt l = absurd (omega arith)
constructor-named (t ∷ ts) zero c lt l = named-first t.cons (constructors_of ts) (get_or t.cons c []) (named-at t.cons c l)
constructor-named (t ∷ ts) (suc i) c lt l = named-second t.cons (constructors_of ts) (get_or (get_or ts i none).cons c []) (constructor-named ts i c (omega arith) l)

abbrev found : Option ℕ → ℕ → Option Value → Option Value
found o m later = elim o as (λ z. Option Value) [ Some c ↦ Some (E m c) | None ↦ later ]

value-at : (ts : List ObcType) (m i j c : ℕ) → IsDistinct bytes_eq (constructors_of ts) → i < length ts → c < length (get_or ts i none).cons → j ≡ m + i → constructor_from m ts (get_or (get_or ts i none).cons c []) ≡ Some (E j c)
value-at [] m i j c d lt l e = absurd (omega arith)
value-at (t ∷ ts) m zero j c d lt l e =
    let same : m ≡ j = omega (arith, e) in
    ap (λ o. found o m (constructor_from (suc m) ts (get_or t.cons c []))) (position-at t.cons (constructors_of ts) c d l) ∙ ap (λ k. Some (E k c)) same
value-at (t ∷ ts) m (suc i) j c d lt l e =
    let z : List ℕ = get_or (get_or ts i none).cons c [] in
    ap (λ o. found o m (constructor_from (suc m) ts z)) (nowhere t.cons z (not_first t.cons (constructors_of ts) z d (constructor-named ts i c (omega arith) l)))
    ∙ value-at ts (suc m) i j c (second-distinct t.cons (constructors_of ts) d) (omega arith) l (omega (arith, e))

pub inside : (ts : List ObcType) (i c : ℕ) → c < length (get_or ts i none).cons → i < length ts
inside [] i c l = absurd (omega arith)
inside (t ∷ ts) zero c l = omega arith
inside (t ∷ ts) (suc i) c l = let lt : i < length ts = inside ts i c l in omega arith

pub constants_law : ConstantsLaw
constants_law types form (B b) h = refl
constants_law types form (I n) h = refl
constants_law types form (E t c) h = ap or_absent (value-at types 0 t t c form.distinct (inside types t c h) h (omega arith))
constants_law types form v h = absurd h
