-- Where types have form, types of variables have their kinds, and constants are of the kinds of their values.
use Rattle.std.proofs.Common.{◌≡◌, ℕ, zero, suc, ◌+◌, ◌<◌, true, false, List, [], ◌∷◌, length, map, get_or, Some, None, if◌then◌else◌, refl, sym, ap, subst, ◌∙◌, arith}
use Rattle.std.specs.Prelude.{ℤ, pos, negsuc}
use Rattle.std.specs.Int.{w32}
use Rattle.std.specs.Int.RustNames.{FitsSigned}
use Rattle.std.specs.List.{AllByRecursion, IsDistinct}
use Rattle.std.specs.Str.{bytes_eq}
use Rattle.std.proofs.lemmas.Bool.Decides.{nat_tests}
use Rattle.hp_base.specs.Kinds.{KindData, Bools, Ints, Constructors, IsOfKind}
use Rattle.hp_base.specs.declared.value.Value.{Value}
use Rattle.hp_base.specs.declared.value.Value.TheVariants.{B, E, I}
use Rattle.hp_obc.specs.Machines.{ObcType}
use Rattle.hp_obc.specs.Values.{kind_of, enum_from}
use Rattle.hp_obc.specs.Form.{TypesForm, constructors_of, constructor_kind, constant_kind, is_short}
use Rattle.hp_flat.specs.declared.node.FlatTy.{FlatTy}
use Rattle.hp_flat.specs.declared.node.FlatTy.TheVariants.{Bool as FlatBool, Int as FlatInt, Enum as FlatEnum}
use Rattle.law_equations.specs.Meaning.Kinding.{constructors, kind_of_type, IsTyped, HasValue}
use Rattle.hp_toobc.specs.Tables.{type_of, constant}
use Rattle.law_equations.proofs.FollowedLemmas.Naming.{its_name}
use Rattle.law_equations.proofs.FollowedLemmas.ConstantLaws.{named-at, not_first, second-distinct, constructor-named, inside}

abbrev nothing : ObcType
nothing = record { name = []; cons = [] }

abbrev type_names : List ObcType → List (List ℕ)
type_names types = map (λ (t : ObcType). t.name) types

-- ---- types

at_type : (P : List ℕ → Type 0) (types : List ObcType) (i : ℕ) → AllByRecursion P (type_names types) → i < length types → P (get_or types i nothing).name
at_type P [] i h lt = absurd (omega arith)
at_type P (t ∷ types) zero h lt = h.0
at_type P (t ∷ types) (suc i) h lt = at_type P types i h.1 (omega arith)

enum_at : (types : List ObcType) (m i j : ℕ) → IsDistinct bytes_eq (type_names types) → i < length types → j ≡ m + i → enum_from m types (get_or types i nothing).name ≡ Some (Constructors j (get_or types i nothing).cons)
unfolding IsDistinct
enum_at [] m i j d lt e = absurd (omega arith)
enum_at (t ∷ types) m zero j d lt e =
    let same : m ≡ j = omega (arith, e) in
    ap (λ b. if b then Some (Constructors m t.cons) else enum_from (suc m) types t.name) (its_name t.name) ∙ ap (λ k. Some (Constructors k t.cons)) same
enum_at (t ∷ types) m (suc i) j d lt e =
    let other : bytes_eq t.name (get_or types i nothing).name ≡ false = at_type (λ y. bytes_eq t.name y ≡ false) types i d.0 (omega arith) in
    ap (λ b. if b then Some (Constructors m t.cons) else enum_from (suc m) types (get_or types i nothing).name) other ∙ enum_at types (suc m) i j d.1 (omega arith) (omega (arith, e))

pub kind-of_type : (types : List ObcType) → TypesForm types → (ty : FlatTy) → HasValue types ty → kind_of types (type_of types ty) ≡ Some (kind_of_type types ty)
kind-of_type types form FlatBool h = refl
kind-of_type types form FlatInt h = refl
kind-of_type types form (FlatEnum t) h = enum_at types 0 t t form.names.1 (inside types t 0 h) (omega arith)

-- ---- constants

constructor_at : (types : List ObcType) (m i j c : ℕ) → IsDistinct bytes_eq (constructors_of types) → i < length types → c < length (get_or types i nothing).cons → j ≡ m + i
    → constructor_kind m types (get_or (get_or types i nothing).cons c []) ≡ Some (Constructors j (get_or types i nothing).cons)
constructor_at [] m i j c d lt l e = absurd (omega arith)
constructor_at (t ∷ types) m zero j c d lt l e =
    let same : m ≡ j = omega (arith, e) in
    ap (λ b. if b then Some (Constructors m t.cons) else constructor_kind (suc m) types (get_or t.cons c [])) (named-at t.cons c l) ∙ ap (λ k. Some (Constructors k t.cons)) same
constructor_at (t ∷ types) m (suc i) j c d lt l e =
    let z : List ℕ = get_or (get_or types i nothing).cons c [] in
    ap (λ b. if b then Some (Constructors m t.cons) else constructor_kind (suc m) types z) (not_first t.cons (constructors_of types) z d (constructor-named types i c (omega arith) l))
    ∙ constructor_at types (suc m) i j c (second-distinct t.cons (constructors_of types) d) (omega arith) l (omega (arith, e))

fits_short : (n : ℤ) → FitsSigned w32 n → is_short n ≡ true
fits_short (pos n) h = let k = h.sfits in grind (arith, nat_tests)
fits_short (negsuc n) h = let k = h.sfits in grind (arith, nat_tests)

pub constant-kind : (types : List ObcType) → TypesForm types → (k : KindData) (v : Value) → IsOfKind k v → IsTyped types k → constant_kind types (constant types v) ≡ Some k
constant-kind types form Bools (B b) h t = refl
constant-kind types form Bools v h t = absurd h
constant-kind types form Ints (I n) h t = ap (λ b. if b then Some Ints else None) (fits_short n h)
constant-kind types form Ints v h t = absurd h
constant-kind types form (Constructors u cons) (E w c) h t =
    let size : c < length (get_or types w nothing).cons = subst (λ x. c < length (get_or types x nothing).cons) (sym h.0) (subst (λ xs. c < length xs) t h.1) in
    constructor_at types 0 w w c form.distinct (inside types w c size) size (omega arith)
    ∙ (λ i. Some (Constructors (h.0 i) (constructors types (h.0 i)))) ∙ ap (λ xs. Some (Constructors u xs)) (sym t)
constant-kind types form (Constructors u cons) v h t = absurd h
