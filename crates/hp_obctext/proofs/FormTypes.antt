-- The types of a file, each word of which keeps the rules, and the kinds that types and constants have.
use Rattle.std.proofs.Common.{◌≡◌, ℕ, suc, ◌+◌, ◌<◌, ◌≤◌, Bool, true, false, ◌||◌, if◌then◌else◌, List, [], ◌∷◌, ◌++◌, length, map, nat_lt, Option, None, Some, is_some, refl, sym, ap, ◌∙◌, append_assoc, append-nil, arith}
use Rattle.std.specs.Prelude.{IsSome, option_map}
use Rattle.std.specs.List.{IsDistinct}
use Rattle.std.specs.Str.{bytes_eq}
use Rattle.std.proofs.lemmas.Bool.Decides.{nat_tests}
use Rattle.std.proofs.lemmas.List.{map-append}
use Rattle.hp_base.specs.Kinds.{Ints, Constructors}
use Rattle.hp_base.specs.declared.ty.Ty.{Ty}
use Rattle.hp_base.specs.declared.ty.Ty.TheVariants as ty
use Rattle.hp_base.specs.declared.ty.Const.{Const}
use Rattle.hp_base.specs.declared.ty.Const.TheVariants as constant
use Rattle.hp_obc.specs.Form.{constructors_of, has_name, constructor_kind, constant_kind, is_short}
use Rattle.hp_obc.specs.Machines.{ObcType}
use Rattle.hp_obc.specs.Values.{kind_of, enum_from}
use Rattle.hp_obctext.specs.Found.{type_entries}
use Rattle.hp_base.specs.Known.Known.{lookup, with_entry}
use Rattle.hp_obctext.specs.Rules.{AllTrue, Table, Types, is_new, is_known, const_ty, in_constructors, with_constructors, in_type, with_type, in_types, with_types}
use Rattle.hp_obctext.specs.Shapes.{Each}
use Rattle.hp_obctext.proofs.Truths.{front_true, back_true, both_true, Apart, flip, same_bytes, keys, new_entry, entry_distinct}

below_test : (m n : ℕ) → nat_lt m n ≡ true → m < n
below_test m n h = grind (arith, nat_tests)

-- each constructor with its type
abbrev pub cons_entries : List ObcType → Table ObcType
cons_entries [] = []
cons_entries (t ∷ types) = map (λ (x : List ℕ). (x, t)) t.cons ++ cons_entries types

record AddedConstructors (t : ObcType) (j : ℕ) (old new : Table ObcType) (xs : List (List ℕ)) : Type 0 where
  are : new ≡ old ++ map (λ (x : List ℕ). (x, t)) xs
  distinct : IsDistinct bytes_eq (keys old) → IsDistinct bytes_eq (keys new)
  few : j ≤ 64 → j + length xs ≤ 64

constructors_added : (t : ObcType) (j : ℕ) (old : Table ObcType) (xs : List (List ℕ)) → AllTrue (in_constructors t j old xs) → AddedConstructors t j old (with_constructors t old xs) xs
constructors_added t j old [] h = record { are = sym (append-nil old); distinct = λ d. d; few = λ k. omega arith }
constructors_added t j old (x ∷ xs) h =
    let here = both_true (is_new old x) (nat_lt j 64) h.1.0 in
    let below = below_test j 64 here.1 in
    let rest = constructors_added t (suc j) (with_entry old x t) xs h.1.1 in
    record {
      are = rest.are ∙ ap (λ es. es ++ map (λ (x : List ℕ). (x, t)) xs) (new_entry old x t here.0) ∙ append_assoc old ((x, t) ∷ []) (map (λ (x : List ℕ). (x, t)) xs);
      distinct = λ d. rest.distinct (entry_distinct old x t here.0 d);
      few = λ k. let few = rest.few (omega (arith, below)) in omega (arith, few);
    }

-- types were added behind those that were known
pub record AddedTypes (old new : Types) (types : List ObcType) : Type 0 where
  pub names : new.names ≡ old.names ++ type_entries types
  pub cons : new.cons ≡ old.cons ++ cons_entries types
  pub names_distinct : IsDistinct bytes_eq (keys old.names) → IsDistinct bytes_eq (keys new.names)
  pub cons_distinct : IsDistinct bytes_eq (keys old.cons) → IsDistinct bytes_eq (keys new.cons)
  pub few : Each (λ (t : ObcType). length t.cons ≤ 64) types
  pub number : length old.names ≤ 1000 → length new.names ≤ 1000

longer : (es : Table ObcType) (x : List ℕ) (t : ObcType) → is_new es x ≡ true → length es < 1000 → length (with_entry es x t) ≤ 1000
longer es x t h k = let e = ap length (new_entry es x t h) in let l = one_longer es (x, t) in omega (arith, e, l)
  where
    one_longer : (es : Table ObcType) (e : List ℕ × ObcType) → length (es ++ e ∷ []) ≡ suc (length es)
    one_longer [] e = refl
    one_longer (d ∷ es) e = ap suc (one_longer es e)

pub types_added : (old : Types) (types : List ObcType) → AllTrue (in_types old types) → AddedTypes old (with_types old types) types
types_added old [] h = record { names = sym (append-nil old.names); cons = sym (append-nil old.cons); names_distinct = λ d. d; cons_distinct = λ d. d; few = tt; number = λ k. k }
types_added old (t ∷ types) h =
    let here = front_true (in_type old t) (in_types (with_type old t) types) h in
    let named = both_true (is_new old.names t.name) (nat_lt (length old.names) 1000) here.1.0 in
    let added = constructors_added t 0 old.cons t.cons here.1.1 in
    let rest = types_added (with_type old t) types (back_true (in_type old t) (in_types (with_type old t) types) h) in
    record {
      names = rest.names ∙ ap (λ es. es ++ type_entries types) (new_entry old.names t.name t named.0) ∙ append_assoc old.names ((t.name, t) ∷ []) (type_entries types);
      cons = rest.cons ∙ ap (λ es. es ++ cons_entries types) added.are ∙ append_assoc old.cons (map (λ (x : List ℕ). (x, t)) t.cons) (cons_entries types);
      names_distinct = λ d. rest.names_distinct (entry_distinct old.names t.name t named.0 d);
      cons_distinct = λ d. rest.cons_distinct (added.distinct d);
      few = (let few = added.few (omega arith) in omega (arith, few), rest.few);
      number = λ k. rest.number (longer old.names t.name t named.0 (below_test (length old.names) 1000 named.1));
    }

pub keys-types : (types : List ObcType) → keys (type_entries types) ≡ map (λ (t : ObcType). t.name) types
keys-types [] = refl
keys-types (t ∷ types) = ap (λ xs. t.name ∷ xs) (keys-types types)

keys-same : (t : ObcType) (xs : List (List ℕ)) → keys (map (λ (x : List ℕ). (x, t)) xs) ≡ xs
keys-same t [] = refl
keys-same t (x ∷ xs) = ap (λ ys. x ∷ ys) (keys-same t xs)

pub keys-cons : (types : List ObcType) → keys (cons_entries types) ≡ constructors_of types
keys-cons [] = refl
keys-cons (t ∷ types) =
    map-append (λ (e : List ℕ × ObcType). e.0) (map (λ (x : List ℕ). (x, t)) t.cons) (cons_entries types)
    ∙ ap (λ xs. xs ++ keys (cons_entries types)) (keys-same t t.cons) ∙ ap (λ xs. t.cons ++ xs) (keys-cons types)

-- ---- kinds

pub enum_known : (n : ℕ) (types : List ObcType) (x : List ℕ) → is_some (lookup (type_entries types) x) ≡ is_some (enum_from n types x)
enum_known n [] x = refl
enum_known n (t ∷ types) x = by (bytes_eq x t.name) (bytes_eq t.name x) (flip x t.name) (enum_known (suc n) types x)
  where
    by : (d e : Bool) → d ≡ e → is_some (lookup (type_entries types) x) ≡ is_some (enum_from (suc n) types x) → is_some (if d then Some t else lookup (type_entries types) x) ≡ is_some (if e then Some (Constructors n t.cons) else enum_from (suc n) types x)
    by true true p k = refl
    by false false p k = k
    by true false p k = absurd cc
    by false true p k = absurd cc

-- the type of a constructor
pub cons_found : (t : ObcType) (es : Table ObcType) (xs : List (List ℕ)) (x : List ℕ) → lookup (map (λ (x : List ℕ). (x, t)) xs ++ es) x ≡ (if has_name xs x then Some t else lookup es x)
cons_found t es [] x = refl
cons_found t es (y ∷ xs) x = by (bytes_eq x y) (bytes_eq y x) (flip x y) (cons_found t es xs x)
  where
    by : (d e : Bool) → d ≡ e → lookup (map (λ (x : List ℕ). (x, t)) xs ++ es) x ≡ (if has_name xs x then Some t else lookup es x)
        → (if d then Some t else lookup (map (λ (x : List ℕ). (x, t)) xs ++ es) x) ≡ (if e || has_name xs x then Some t else lookup es x)
    by true true p k = refl
    by false false p k = k
    by true false p k = absurd cc
    by false true p k = absurd cc

apart_by : (b : Bool) (t u d : ObcType) (o : Option ObcType) → (if b then Some u else o) ≡ Some d → bytes_eq t.name u.name ≡ false → (o ≡ Some d → bytes_eq t.name d.name ≡ false) → bytes_eq t.name d.name ≡ false
apart_by true t u d o e h k = let same : u ≡ d = cc in ap (λ (v : ObcType). bytes_eq t.name v.name) (sym same) ∙ h
apart_by false t u d o e h k = k e

-- a type that has a constructor is one of the types
apart_from : (t : ObcType) (types : List ObcType) (x : List ℕ) (d : ObcType) → Apart t.name (map (λ (u : ObcType). u.name) types) → lookup (cons_entries types) x ≡ Some d → bytes_eq t.name d.name ≡ false
apart_from t [] x d h e = absurd cc
apart_from t (u ∷ types) x d h e =
    apart_by (has_name u.cons x) t u d (lookup (cons_entries types) x) (sym (cons_found u (cons_entries types) u.cons x) ∙ e) h.0 (apart_from t types x d h.1)

pub cons_kind : (n : ℕ) (types : List ObcType) (x : List ℕ) (d : ObcType) → IsDistinct bytes_eq (map (λ (u : ObcType). u.name) types) → lookup (cons_entries types) x ≡ Some d →
    (constructor_kind n types x ≡ enum_from n types d.name) × IsSome (enum_from n types d.name)
unfolding IsDistinct
cons_kind n [] x d h e = absurd cc
cons_kind n (t ∷ types) x d h e = by (has_name t.cons x) refl (sym (cons_found t (cons_entries types) t.cons x) ∙ e) (apart_from t types x d h.0) (cons_kind (suc n) types x d h.1)
  where
    by : (b : Bool) → has_name t.cons x ≡ b → (if has_name t.cons x then Some t else lookup (cons_entries types) x) ≡ Some d → (lookup (cons_entries types) x ≡ Some d → bytes_eq t.name d.name ≡ false)
        → (lookup (cons_entries types) x ≡ Some d → (constructor_kind (suc n) types x ≡ enum_from (suc n) types d.name) × IsSome (enum_from (suc n) types d.name))
        → (constructor_kind n (t ∷ types) x ≡ enum_from n (t ∷ types) d.name) × IsSome (enum_from n (t ∷ types) d.name)
    by true p e k r =
        let same : t ≡ d = some_same (sym (ap (λ b. if b then Some t else lookup (cons_entries types) x) p) ∙ e) in
        let here : bytes_eq t.name d.name ≡ true = ap (λ (u : ObcType). bytes_eq t.name u.name) (sym same) ∙ same_bytes t.name in
        let found : enum_from n (t ∷ types) d.name ≡ Some (Constructors n t.cons) = ap (λ b. if b then Some (Constructors n t.cons) else enum_from (suc n) types d.name) here in
        (ap (λ b. if b then Some (Constructors n t.cons) else constructor_kind (suc n) types x) p ∙ sym found, ap is_some found)
      where
        some_same : {A : Type 0} {a b : A} → Some a ≡ Some b → a ≡ b
        some_same e = cc
    by false p e k r =
        let later : lookup (cons_entries types) x ≡ Some d = sym (ap (λ b. if b then Some t else lookup (cons_entries types) x) p) ∙ e in
        let there : enum_from n (t ∷ types) d.name ≡ enum_from (suc n) types d.name = ap (λ b. if b then Some (Constructors n t.cons) else enum_from (suc n) types d.name) (k later) in
        let found = r later in
        (ap (λ b. if b then Some (Constructors n t.cons) else constructor_kind (suc n) types x) p ∙ found.0 ∙ sym there, ap is_some there ∙ found.1)

-- the types of a file are known
pub record Knows (types : List ObcType) (ts : Types) : Type 0 where
  pub names : ts.names ≡ type_entries types
  pub cons : ts.cons ≡ cons_entries types
  pub distinct : IsDistinct bytes_eq (map (λ (u : ObcType). u.name) types)

module _ (types : List ObcType) (ts : Types) (knows : Knows types ts) where
  -- a type that is known has a kind
  pub known_kind : (t : Ty) → is_known ts t ≡ true → IsSome (kind_of types t)
  known_kind ty.Bool h = refl
  known_kind ty.Int h = refl
  known_kind (ty.Enum x) h = sym (enum_known 0 types x) ∙ ap (λ es. is_some (lookup es x)) (sym knows.names) ∙ h

  const_by : (x : List ℕ) (t : Ty) (o : Option ObcType) → lookup (cons_entries types) x ≡ o → option_map (λ (d : ObcType). ty.Enum d.name) o ≡ Some t →
      (constructor_kind 0 types x ≡ kind_of types t) × IsSome (kind_of types t)
  const_by x t None e h = absurd cc
  const_by x t (Some d) e h =
      let same : ty.Enum d.name ≡ t = cc in
      let found = cons_kind 0 types x d knows.distinct e in
      (found.0 ∙ ap (kind_of types) same, ap (λ u. is_some (kind_of types u)) (sym same) ∙ found.1)

  -- a constant of a type has its kind
  pub const_found : (c : Const) (t : Ty) → const_ty ts c ≡ Some t → (constant_kind types c ≡ kind_of types t) × IsSome (kind_of types t)
  const_found (constant.B b) t h = let same : ty.Bool ≡ t = cc in (ap (kind_of types) same, ap (λ u. is_some (kind_of types u)) (sym same))
  const_found (constant.I n) t h = by (is_short n) h
    where
      by : (d : Bool) → (if d then Some ty.Int else None) ≡ Some t → ((if d then Some Ints else None) ≡ kind_of types t) × IsSome (kind_of types t)
      by true e = let same : ty.Int ≡ t = cc in (ap (kind_of types) same, ap (λ u. is_some (kind_of types u)) (sym same))
      by false e = absurd cc
  const_found (constant.E x) t h = const_by x t (lookup (cons_entries types) x) refl (ap (λ es. option_map (λ (d : ObcType). ty.Enum d.name) (lookup es x)) (sym knows.cons) ∙ h)
