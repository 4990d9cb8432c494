-- Values that are made to be of their kinds: those that are stay, and others become the first ones.
use Rattle.std.proofs.Common.{◌≡◌, ℕ, ◌<◌, Bool, true, false, nat_eq, nat_lt, ◌&&◌, if◌then◌else◌, List, [], ◌∷◌, length, map, refl, ap, ap₂, arith}
use Rattle.std.specs.Prelude.{ℤ, pos, negsuc}
use Rattle.std.specs.Int.{w32}
use Rattle.std.specs.Int.RustNames.{FitsSigned}
use Rattle.std.specs.List.{AllByRecursion}
use Rattle.std.proofs.lemmas.Bool.Decides.{nat_tests, Decides-eqb}
use Rattle.hp_base.specs.Kinds.{KindData, Bools, Ints, Constructors, IsOfKind, AreOfKinds}
use Rattle.hp_base.specs.declared.value.Value.{Value}
use Rattle.hp_base.specs.declared.value.Value.TheVariants.{Absent, Nil, B, E, I, Star}
use Rattle.hp_obc.specs.Form.{is_short}
use Rattle.law_choices.specs.OnClocks.Meaning.{HasSome}

-- ---- integers

below : (n : ℕ) → nat_lt n 2147483648 ≡ true → n < 2147483648
below n h = grind (arith, nat_tests, h)

above : (n : ℕ) → n < 2147483648 → nat_lt n 2147483648 ≡ true
above n h = grind (arith, nat_tests, h)

short_fits : (n : ℤ) → is_short n ≡ true → FitsSigned w32 n
short_fits (pos n) h = record { sfits = below n h }
short_fits (negsuc n) h = record { sfits = below n h }

fits_short : (n : ℤ) → FitsSigned w32 n → is_short n ≡ true
fits_short (pos n) h = above n h.sfits
fits_short (negsuc n) h = above n h.sfits

zero_fits : FitsSigned w32 (pos 0)
zero_fits = short_fits (pos 0) refl

-- ---- one value

abbrev first_value : KindData → Value
first_value Bools = B false
first_value Ints = I (pos 0)
first_value (Constructors t cons) = E t 0

abbrev clamped : KindData → Value → Value
clamped Bools (B b) = B b
clamped Ints (I n) = if is_short n then I n else I (pos 0)
clamped (Constructors t cons) (E u c) = if nat_eq u t && nat_lt c (length cons) then E u c else E t 0
clamped k v = first_value k

first_is : (k : KindData) → HasSome k → IsOfKind k (first_value k)
first_is Bools h = tt
first_is Ints h = zero_fits
first_is (Constructors t cons) h = (refl, h)

int_is : (n : ℤ) (b : Bool) → is_short n ≡ b → IsOfKind Ints (if b then I n else I (pos 0))
int_is n true e = short_fits n e
int_is n false e = zero_fits

both_true : (a b : Bool) → (a && b) ≡ true → (a ≡ true) × (b ≡ true)
both_true true b h = (refl, h)
both_true false b h = absurd cc

enum_is : (t : ℕ) (cons : List (List ℕ)) (u c : ℕ) (b : Bool) → (nat_eq u t && nat_lt c (length cons)) ≡ b → 0 < length cons → IsOfKind (Constructors t cons) (if b then E u c else E t 0)
enum_is t cons u c true e h = let q = both_true (nat_eq u t) (nat_lt c (length cons)) e in ((Decides-eqb u t).0 q.0, let l = q.1 in grind (arith, nat_tests, l))
enum_is t cons u c false e h = (refl, h)

clamped_is : (k : KindData) (v : Value) → HasSome k → IsOfKind k (clamped k v)
clamped_is Bools (B b) h = tt
clamped_is Ints (I n) h = int_is n (is_short n) refl
clamped_is (Constructors t cons) (E u c) h = enum_is t cons u c (nat_eq u t && nat_lt c (length cons)) refl h
clamped_is Bools Absent h = tt
clamped_is Bools Nil h = tt
clamped_is Bools Star h = tt
clamped_is Bools (E u c) h = tt
clamped_is Bools (I n) h = tt
clamped_is Ints Absent h = zero_fits
clamped_is Ints Nil h = zero_fits
clamped_is Ints Star h = zero_fits
clamped_is Ints (E u c) h = zero_fits
clamped_is Ints (B b) h = zero_fits
clamped_is (Constructors t cons) Absent h = (refl, h)
clamped_is (Constructors t cons) Nil h = (refl, h)
clamped_is (Constructors t cons) Star h = (refl, h)
clamped_is (Constructors t cons) (I n) h = (refl, h)
clamped_is (Constructors t cons) (B b) h = (refl, h)

clamped_stays : (k : KindData) (v : Value) → IsOfKind k v → clamped k v ≡ v
clamped_stays Bools (B b) h = refl
clamped_stays Ints (I n) h = ap (λ b. if b then I n else I (pos 0)) (fits_short n h)
clamped_stays (Constructors t cons) (E u c) h =
    let l = h.1 in
    let less : nat_lt c (length cons) ≡ true = grind (arith, nat_tests, l) in
    ap₂ (λ a b. if a && b then E u c else E t 0) ((Decides-eqb u t).1 h.0) less
clamped_stays Bools Absent h = absurd h
clamped_stays Bools Nil h = absurd h
clamped_stays Bools Star h = absurd h
clamped_stays Bools (E u c) h = absurd h
clamped_stays Bools (I n) h = absurd h
clamped_stays Ints Absent h = absurd h
clamped_stays Ints Nil h = absurd h
clamped_stays Ints Star h = absurd h
clamped_stays Ints (E u c) h = absurd h
clamped_stays Ints (B b) h = absurd h
clamped_stays (Constructors t cons) Absent h = absurd h
clamped_stays (Constructors t cons) Nil h = absurd h
clamped_stays (Constructors t cons) Star h = absurd h
clamped_stays (Constructors t cons) (I n) h = absurd h
clamped_stays (Constructors t cons) (B b) h = absurd h

-- ---- one value for each kind

abbrev pub all_clamped : List KindData → List Value → List Value
all_clamped [] vs = []
all_clamped (k ∷ ks) [] = first_value k ∷ all_clamped ks []
all_clamped (k ∷ ks) (v ∷ vs) = clamped k v ∷ all_clamped ks vs

pub all_clamped_are : (ks : List KindData) (vs : List Value) → AllByRecursion HasSome ks → AreOfKinds ks (all_clamped ks vs)
all_clamped_are [] vs h = tt
all_clamped_are (k ∷ ks) [] h = (first_is k h.0, all_clamped_are ks [] h.1)
all_clamped_are (k ∷ ks) (v ∷ vs) h = (clamped_is k v h.0, all_clamped_are ks vs h.1)

pub all_clamped_stay : (ks : List KindData) (vs : List Value) → AreOfKinds ks vs → all_clamped ks vs ≡ vs
all_clamped_stay [] [] h = refl
all_clamped_stay [] (v ∷ vs) h = absurd h
all_clamped_stay (k ∷ ks) [] h = absurd h
all_clamped_stay (k ∷ ks) (v ∷ vs) h = ap₂ (λ w ws. w ∷ ws) (clamped_stays k v h.0) (all_clamped_stay ks vs h.1)

pub each_clamped_are : (ks : List KindData) (rows : List (List Value)) → AllByRecursion HasSome ks → AllByRecursion (AreOfKinds ks) (map (all_clamped ks) rows)
each_clamped_are ks [] h = tt
each_clamped_are ks (vs ∷ rows) h = (all_clamped_are ks vs h, each_clamped_are ks rows h)

pub each_clamped_stay : (ks : List KindData) (rows : List (List Value)) → AllByRecursion (AreOfKinds ks) rows → map (all_clamped ks) rows ≡ rows
each_clamped_stay ks [] h = refl
each_clamped_stay ks (vs ∷ rows) h = ap₂ (λ w ws. w ∷ ws) (all_clamped_stay ks vs h.0) (each_clamped_stay ks rows h.1)
