-- The values that words spell are of their kinds.
use Rattle.std.proofs.Common.{◌≡◌, ℕ, ◌<◌, Bool, true, false, nat_lt, ◌==◌, if◌then◌else◌, ℤ, pos, negsuc, neg_ℤ, List, [], ◌∷◌, length, codes, Option, None, Some, option_map, option_and_then, refl, sym, subst}
use Rattle.std.specs.List.{position}
use Rattle.std.specs.Str.{bytes_eq}
use Rattle.std.specs.Int.{w32}
use Rattle.std.specs.Int.RustNames.{FitsSigned}
use Rattle.std.proofs.lemmas.Bool.{ltb-true}
use Rattle.std.proofs.lemmas.List.Quantifiers.{position-Some}
use Rattle.hp_base.specs.declared.value.Value.{Value}
use Rattle.hp_base.specs.declared.value.Value.TheVariants.{B, E, I}
use Rattle.hp_base.specs.Kinds.{KindData, Bools, Ints, Constructors, IsOfKind, AreOfKinds}
use Rattle.hp_lines.specs.Numbers.{natural_of, in_range, number_of}
use Rattle.hp_lines.specs.Values.{bool_of, value_of, values_of}
use Rattle.hp_lines.proofs.ReadLaws.{spells}

-- a choice that gives something
one_of : {A : Type 0} (P : Type 0) (d : Bool) (a b : Option A) (x : A) → (a ≡ Some x → P) → (b ≡ Some x → P) → (if d then a else b) ≡ Some x → P
one_of P true a b x f g e = f e
one_of P false a b x f g e = g e

bool_of_none : (v : Value) → ◌≡◌ {A = Option Value} None (Some v) → IsOfKind Bools v
bool_of_none v e = absurd (cc)

bool_of_some : (b : Bool) (v : Value) → ◌≡◌ {A = Option Value} (Some (B b)) (Some v) → IsOfKind Bools v
bool_of_some b v e = let same : B b ≡ v = cc in subst (λ u. IsOfKind Bools u) same tt

bool_is_bool : (w : List ℕ) (v : Value) → bool_of w ≡ Some v → IsOfKind Bools v
bool_is_bool w v e =
    let P : Type 0 = IsOfKind Bools v in
    let rest : Option Value = if bytes_eq w (codes "false") then Some (B false) else None in
    one_of P (bytes_eq w (codes "true")) (Some (B true)) rest v (bool_of_some true v) (one_of P (bytes_eq w (codes "false")) (Some (B false)) None v (bool_of_some false v) (bool_of_none v)) e

fits_by : (d : Bool) (z y : ℤ) → (d ≡ true → FitsSigned w32 z) → ◌≡◌ {A = Option ℤ} (if d then Some z else None) (Some y) → FitsSigned w32 y
fits_by true z y h e = let same : z ≡ y = cc in subst (FitsSigned w32) same (h refl)
fits_by false z y h e = absurd (cc)

in_range_fits : (z y : ℤ) → in_range z ≡ Some y → FitsSigned w32 y
in_range_fits (pos n) y e = fits_by (nat_lt n 2147483648) (pos n) y (λ t. record { sfits = ltb-true n 2147483648 t }) e
in_range_fits (negsuc n) y e = fits_by (nat_lt n 2147483648) (negsuc n) y (λ t. record { sfits = ltb-true n 2147483648 t }) e

signed_fits : (f : ℕ → ℤ) (o : Option ℕ) (y : ℤ) → option_and_then (λ n. in_range (f n)) o ≡ Some y → FitsSigned w32 y
signed_fits f None y e = absurd (cc)
signed_fits f (Some n) y e = in_range_fits (f n) y e

number_fits : (w : List ℕ) (y : ℤ) → number_of w ≡ Some y → FitsSigned w32 y
number_fits [] y e = absurd (cc)
number_fits (b ∷ w) y e =
    one_of (FitsSigned w32 y) (b == 45) (option_and_then (λ n. in_range (neg_ℤ (pos n))) (natural_of w)) (option_and_then (λ n. in_range (pos n)) (natural_of (b ∷ w))) y
    (signed_fits (λ n. neg_ℤ (pos n)) (natural_of w) y) (signed_fits pos (natural_of (b ∷ w)) y) e

int_by : (o : Option ℤ) (v : Value) → ((z : ℤ) → o ≡ Some z → FitsSigned w32 z) → option_map I o ≡ Some v → IsOfKind Ints v
int_by None v h e = absurd (cc)
int_by (Some z) v h e = let same : I z ≡ v = cc in subst (λ u. IsOfKind Ints u) same (h z refl)

constructor_by : (o : Option ℕ) (v : Value) (n : ℕ) (names : List (List ℕ)) → ((c : ℕ) → o ≡ Some c → c < length names) → option_map (E n) o ≡ Some v → IsOfKind (Constructors n names) v
constructor_by None v n names h e = absurd (cc)
constructor_by (Some c) v n names h e = let same : E n c ≡ v = cc in subst (λ u. IsOfKind (Constructors n names) u) same (refl, h c refl)

value_is_of_kind : (kind : KindData) (w : List ℕ) (v : Value) → value_of kind w ≡ Some v → IsOfKind kind v
value_is_of_kind Bools w v e = bool_is_bool w v e
value_is_of_kind Ints w v e = int_by (number_of w) v (number_fits w) e
value_is_of_kind (Constructors n names) w v e =
    constructor_by (position (bytes_eq w) names) v n names (λ c h. (position-Some (bytes_eq w) names c [] h).0) e

pub values_are_of_kinds : (kinds : List KindData) (ws : List (List ℕ)) (values : List Value) → values_of kinds ws ≡ Some values → AreOfKinds kinds values
values_are_of_kinds [] [] values e = let same : [] ≡ values = cc in subst (λ vs. AreOfKinds [] vs) same tt
values_are_of_kinds [] (w ∷ ws) values e = absurd (cc)
values_are_of_kinds (kind ∷ kinds) [] values e = absurd (cc)
values_are_of_kinds (kind ∷ kinds) (w ∷ ws) values e =
    let s = spells kind kinds w ws values e in
    subst (λ vs. AreOfKinds (kind ∷ kinds) vs) (sym s.all) (value_is_of_kind kind w s.value s.first_is, values_are_of_kinds kinds ws s.others s.others_are)
