-- The words of the types of a file of form keep the rules, and kinds tell types.
use Rattle.std.proofs.Common.{◌≡◌, ◌<◌, ◌≤◌, ℕ, suc, ◌+◌, Bool, true, false, not, ◌&&◌, ◌==◌, if◌then◌else◌, List, [], ◌∷◌, ◌++◌, length, map, nat_lt, Option, None, Some, is_some, refl, sym, ap, subst, ◌∙◌, append_assoc, arith}
use Rattle.std.specs.Prelude.{IsSome, IsTrue, option_map}
use Rattle.std.specs.List.{IsDistinct, All}
use Rattle.std.specs.Str.{bytes_eq}
use Rattle.std.proofs.lemmas.Bool.Decides.{nat_tests}
use Rattle.std.proofs.lemmas.List.Elements.{All-head, All-tail}
use Rattle.hp_base.specs.Kinds.{KindData, Bools, Ints, Constructors}
use Rattle.hp_base.specs.declared.ty.Ty.{Ty}
use Rattle.hp_base.specs.declared.ty.Ty.TheVariants as ty
use Rattle.hp_base.specs.declared.ty.Const.{Const}
use Rattle.hp_base.specs.declared.ty.Const.TheVariants as constant
use Rattle.hp_obc.specs.Form.{TypesForm, HasConstructors, is_name, is_constructor, is_short, constructors_of, has_name, constructor_kind, constant_kind, same_kind}
use Rattle.hp_obc.specs.Machines.{ObcType}
use Rattle.hp_obc.specs.Values.{kind_of, enum_from}
use Rattle.hp_base.specs.Known.Known.{lookup, with_entry}
use Rattle.hp_obctext.specs.Rules.{AllTrue, Table, Types, is_new, is_known, same_ty, agree, const_ty, in_constructors, with_constructors, in_type, with_type, in_types, with_types, no_types}
use Rattle.hp_obctext.specs.Shapes.{Each, IsTypeText}
use Rattle.hp_obctext.proofs.FormTypes.{Knows, cons_entries, types_added, enum_known, cons_found, cons_kind}
use Rattle.hp_obctext.proofs.FormSteps.{some_value, some_same}
use Rattle.hp_obctext.proofs.Truths.{front_each, back_each, Apart, flip, same_bytes, equal_bytes, keys, new_entry, keys-push}

-- ---- lists

pub true_append : (vs us : List Bool) → AllTrue vs → AllTrue us → AllTrue (vs ++ us)
true_append [] us h k = k
true_append (v ∷ vs) us h k = (h.0, true_append vs us h.1 k)

pub from_all : {A : Type 0} (P : A → Type 0) (xs : List A) → All P xs → Each P xs
from_all P [] h = tt
from_all P (x ∷ xs) h = (All-head P x xs h, from_all P xs (All-tail P x xs h))

pub true_both : (a b : Bool) → a ≡ true → b ≡ true → (a && b) ≡ true
true_both true true h k = refl
true_both true false h k = absurd cc
true_both false b h k = absurd cc

-- ---- names that differ are new

apart_at : (k : List ℕ) (ys : List (List ℕ)) (x : List ℕ) (xs : List (List ℕ)) → Apart k (ys ++ x ∷ xs) → bytes_eq k x ≡ false
apart_at k [] x xs h = h.0
apart_at k (y ∷ ys) x xs h = apart_at k ys x xs h.1

module _ {A : Type 0} where
  new_by : (d : Bool) (e : List ℕ × A) (o : Option A) → d ≡ false → not (is_some o) ≡ true → not (is_some (if d then Some e.1 else o)) ≡ true
  new_by true e o h k = absurd cc
  new_by false e o h k = k

  pub distinct_new : (es : Table A) (x : List ℕ) (xs : List (List ℕ)) → IsDistinct bytes_eq (keys es ++ x ∷ xs) → is_new es x ≡ true
  unfolding IsDistinct
  distinct_new [] x xs h = refl
  distinct_new (e ∷ es) x xs h = new_by (bytes_eq x e.0) e (lookup es x) (flip x e.0 ∙ apart_at e.0 (keys es) x xs h.0) (distinct_new es x xs h.1)

  pub distinct_next : (es : Table A) (x : List ℕ) (a : A) (xs : List (List ℕ)) → IsDistinct bytes_eq (keys es ++ x ∷ xs) → IsDistinct bytes_eq (keys (with_entry es x a) ++ xs)
  distinct_next es x a xs h =
      subst (IsDistinct bytes_eq) (sym (ap (λ fs. keys fs ++ xs) (new_entry es x a (distinct_new es x xs h)) ∙ ap (λ ys. ys ++ xs) (keys-push es x a) ∙ append_assoc (keys es) (x ∷ []) xs)) h

  longer_by : (es : Table A) (x : List ℕ) (a : A) → is_new es x ≡ true → length (with_entry es x a) ≡ suc (length es)
  longer_by es x a h = ap length (new_entry es x a h) ∙ one_more es (x, a)
    where
      one_more : (es : Table A) (e : List ℕ × A) → length (es ++ e ∷ []) ≡ suc (length es)
      one_more [] e = refl
      one_more (d ∷ es) e = ap suc (one_more es e)

-- ---- types

test_below : (m n : ℕ) → m < n → nat_lt m n ≡ true
test_below m n h = grind (arith, nat_tests)

record KeptConstructors (t : ObcType) (j : ℕ) (cons : Table ObcType) (xs rest : List (List ℕ)) : Type 0 where
  kept : AllTrue (in_constructors t j cons xs)
  distinct : IsDistinct bytes_eq (keys (with_constructors t cons xs) ++ rest)

constructors_keep : (t : ObcType) (j : ℕ) (cons : Table ObcType) (xs rest : List (List ℕ)) → IsDistinct bytes_eq (keys cons ++ (xs ++ rest)) → j + length xs ≤ 64 → KeptConstructors t j cons xs rest
constructors_keep t j cons [] rest h k = record { kept = tt; distinct = h }
constructors_keep t j cons (x ∷ xs) rest h k =
    let more = constructors_keep t (suc j) (with_entry cons x t) xs rest (distinct_next cons x t (xs ++ rest) h) (omega (arith, k)) in
    record {
      kept = (refl, (true_both (is_new cons x) (nat_lt j 64) (distinct_new cons x (xs ++ rest) h) (test_below j 64 (omega (arith, k))), more.kept));
      distinct = more.distinct;
    }

types_keep : (ts : Types) (types : List ObcType) → IsDistinct bytes_eq (keys ts.names ++ map (λ (t : ObcType). t.name) types) → IsDistinct bytes_eq (keys ts.cons ++ constructors_of types) →
    length ts.names + length types ≤ 1000 → Each HasConstructors types → AllTrue (in_types ts types)
types_keep ts [] h k l c = tt
types_keep ts (t ∷ types) h k l c =
    let new = distinct_new ts.names t.name (map (λ (t : ObcType). t.name) types) h in
    let cons = constructors_keep t 0 ts.cons t.cons (constructors_of types) k (let few = c.0.1 in omega (arith, few)) in
    true_append (in_type ts t) (in_types (with_type ts t) types)
    (refl, (true_both (is_new ts.names t.name) (nat_lt (length ts.names) 1000) new (test_below (length ts.names) 1000 (omega (arith, l))), cons.kept))
    (types_keep (with_type ts t) types (distinct_next ts.names t.name t (map (λ (t : ObcType). t.name) types) h) cons.distinct (let e = longer_by ts.names t.name t new in omega (arith, e, l)) c.1)

pub all_types_keep : (types : List ObcType) → TypesForm types → AllTrue (in_types no_types types)
all_types_keep types form = types_keep no_types types form.names.1 form.distinct (let l = form.number in omega (arith, l)) (from_all HasConstructors types form.counts)

-- what is known of the types of a file of form
pub types_known : (types : List ObcType) → TypesForm types → Knows types (with_types no_types types)
types_known types form = let added = types_added no_types types (all_types_keep types form) in record { names = added.names; cons = added.cons; distinct = form.names.1 }

type_texts : (types : List ObcType) → Each (λ (x : List ℕ). is_name x ≡ true) (map (λ (t : ObcType). t.name) types) → Each (λ (x : List ℕ). is_constructor x ≡ true) (constructors_of types) → Each HasConstructors types → Each IsTypeText types
type_texts [] n c s = tt
type_texts (t ∷ types) n c s = (
  record { name = n.0; cons = front_each (λ (x : List ℕ). is_constructor x ≡ true) t.cons (constructors_of types) c; some = s.0.0 },
  type_texts types n.1 (back_each (λ (x : List ℕ). is_constructor x ≡ true) t.cons (constructors_of types) c) s.1,
)

pub all_type_texts : (types : List ObcType) → TypesForm types → Each IsTypeText types
all_type_texts types form =
    type_texts types (from_all (λ (x : List ℕ). IsTrue (is_name x)) (map (λ (t : ObcType). t.name) types) form.names.0)
    (from_all (λ (x : List ℕ). IsTrue (is_constructor x)) (constructors_of types) form.constructors) (from_all HasConstructors types form.counts)

-- ---- kinds tell types

-- the kind of an enumeration is that of the type of its number
record EnumOf (n : ℕ) (types : List ObcType) (x : List ℕ) (k : KindData) : Type 0 where
  place : ℕ
  not_before : n ≤ place
  names : List (List ℕ)
  is : k ≡ Constructors place names

enum_place : (n : ℕ) (types : List ObcType) (x : List ℕ) (k : KindData) → enum_from n types x ≡ Some k → EnumOf n types x k
enum_place n [] x k h = absurd cc
enum_place n (t ∷ types) x k h = by (bytes_eq t.name x) h (enum_place (suc n) types x k)
  where
    by : (d : Bool) → (if d then Some (Constructors n t.cons) else enum_from (suc n) types x) ≡ Some k → (enum_from (suc n) types x ≡ Some k → EnumOf (suc n) types x k) → EnumOf n (t ∷ types) x k
    by true h r = record { place = n; not_before = omega arith; names = t.cons; is = sym (some_same h) }
    by false h r = let e = r h in record { place = e.place; not_before = (let l = e.not_before in omega (arith, l)); names = e.names; is = e.is }

-- two kinds have one number
abbrev pub Alike : KindData → KindData → Type 0
Alike k l = same_kind k l ≡ true

later : (n : ℕ) (types : List ObcType) (x : List ℕ) (names : List (List ℕ)) (l : KindData) → enum_from (suc n) types x ≡ Some l → Alike (Constructors n names) l → ⊥
later n types x names l h a =
    let e = enum_place (suc n) types x l h in
    let less = e.not_before in
    apart n e.place less (ap (same_kind (Constructors n names)) (sym e.is) ∙ a)
  where
    apart : (n m : ℕ) → suc n ≤ m → (n == m) ≡ true → ⊥
    apart n m p q = grind (arith, nat_tests)

later_still : (n : ℕ) (types : List ObcType) (x : List ℕ) (names : List (List ℕ)) (l : KindData) → enum_from (suc n) types x ≡ Some l → Alike l (Constructors n names) → ⊥
later_still n types x names l h a =
    let e = enum_place (suc n) types x l h in
    let less = e.not_before in
    apart n e.place less (ap (λ k. same_kind k (Constructors n names)) (sym e.is) ∙ a)
  where
    apart : (n m : ℕ) → suc n ≤ m → (m == n) ≡ true → ⊥
    apart n m p q = grind (arith, nat_tests)

same_enum : (n : ℕ) (types : List ObcType) (x y : List ℕ) (k l : KindData) → enum_from n types x ≡ Some k → enum_from n types y ≡ Some l → Alike k l → x ≡ y
same_enum n [] x y k l h g a = absurd cc
same_enum n (t ∷ types) x y k l h g a = by (bytes_eq t.name x) (bytes_eq t.name y) refl refl h g (same_enum (suc n) types x y k l)
  where
    by : (d e : Bool) → bytes_eq t.name x ≡ d → bytes_eq t.name y ≡ e → (if d then Some (Constructors n t.cons) else enum_from (suc n) types x) ≡ Some k → (if e then Some (Constructors n t.cons) else enum_from (suc n) types y) ≡ Some l →
        (enum_from (suc n) types x ≡ Some k → enum_from (suc n) types y ≡ Some l → Alike k l → x ≡ y) → x ≡ y
    by true true p q h g r = sym (equal_bytes t.name x p) ∙ equal_bytes t.name y q
    by true false p q h g r = absurd (later n types y t.cons l g (ap (λ z. same_kind z l) (some_same h) ∙ a))
    by false true p q h g r = absurd (later_still n types x t.cons k h (ap (same_kind k) (some_same g) ∙ a))
    by false false p q h g r = r h g a

-- types of one kind are the same
pub same_types : (types : List ObcType) (t u : Ty) (k l : KindData) → kind_of types t ≡ Some k → kind_of types u ≡ Some l → Alike k l → t ≡ u
same_types types ty.Bool ty.Bool k l h g a = refl
same_types types ty.Int ty.Int k l h g a = refl
same_types types (ty.Enum x) (ty.Enum y) k l h g a = ap ty.Enum (same_enum 0 types x y k l h g a)
same_types types ty.Bool ty.Int k l h g a = absurd (let clash = ap (λ z. same_kind z l) (some_same h) ∙ a in let clash2 = ap (same_kind Bools) (some_same g) ∙ clash in cc)
same_types types ty.Int ty.Bool k l h g a = absurd (let clash = ap (λ z. same_kind z l) (some_same h) ∙ a in let clash2 = ap (same_kind Ints) (some_same g) ∙ clash in cc)
same_types types ty.Bool (ty.Enum y) k l h g a =
    let e = enum_place 0 types y l g in
    absurd (let clash = ap (λ z. same_kind z (Constructors e.place e.names)) (some_same h) ∙ ap (same_kind k) (sym e.is) ∙ a in cc)
same_types types ty.Int (ty.Enum y) k l h g a =
    let e = enum_place 0 types y l g in
    absurd (let clash = ap (λ z. same_kind z (Constructors e.place e.names)) (some_same h) ∙ ap (same_kind k) (sym e.is) ∙ a in cc)
same_types types (ty.Enum x) ty.Bool k l h g a =
    let e = enum_place 0 types x k h in
    absurd (let clash = ap (same_kind (Constructors e.place e.names)) (some_same g) ∙ ap (λ z. same_kind z l) (sym e.is) ∙ a in cc)
same_types types (ty.Enum x) ty.Int k l h g a =
    let e = enum_place 0 types x k h in
    absurd (let clash = ap (same_kind (Constructors e.place e.names)) (some_same g) ∙ ap (λ z. same_kind z l) (sym e.is) ∙ a in cc)

pub same_ty_true : (t : Ty) → same_ty t t ≡ true
same_ty_true ty.Bool = refl
same_ty_true ty.Int = refl
same_ty_true (ty.Enum x) = same_bytes x

-- types that are there, of one kind, agree
pub kinds_agree : (types : List ObcType) (o p : Option Ty) (t u : Ty) (k l : KindData) → o ≡ Some t → p ≡ Some u → kind_of types t ≡ Some k → kind_of types u ≡ Some l → Alike k l → agree o p ≡ true
kinds_agree types o p t u k l a b h g s =
    ap (λ z. agree z p) a ∙ ap (agree (Some t)) (b ∙ ap Some (sym (same_types types t u k l h g s))) ∙ same_ty_true t

-- ---- what has a kind is known

-- the type of what has a kind
pub record Typed (types : List ObcType) (o : Option Ty) (k : Option KindData) : Type 0 where
  pub type : Ty
  pub is : o ≡ Some type
  pub kind_is : kind_of types type ≡ k

module _ (types : List ObcType) (ts : Types) (knows : Knows types ts) where
  pub kind_known : (t : Ty) → IsSome (kind_of types t) → is_known ts t ≡ true
  kind_known ty.Bool h = refl
  kind_known ty.Int h = refl
  kind_known (ty.Enum x) h = ap (λ es. is_some (lookup es x)) knows.names ∙ enum_known 0 types x ∙ h

  cons_known : (n : ℕ) (us : List ObcType) (x : List ℕ) → is_some (lookup (cons_entries us) x) ≡ is_some (constructor_kind n us x)
  cons_known n [] x = refl
  cons_known n (t ∷ us) x = ap is_some (cons_found t (cons_entries us) t.cons x) ∙ by (has_name t.cons x) (cons_known (suc n) us x)
    where
      by : (d : Bool) → is_some (lookup (cons_entries us) x) ≡ is_some (constructor_kind (suc n) us x) →
          is_some (if d then Some t else lookup (cons_entries us) x) ≡ is_some (if d then Some (Constructors n t.cons) else constructor_kind (suc n) us x)
      by true h = refl
      by false h = h

  pub const_typed : (c : Const) → IsSome (constant_kind types c) → Typed types (const_ty ts c) (constant_kind types c)
  const_typed (constant.B b) h = record { type = ty.Bool; is = refl; kind_is = refl }
  const_typed (constant.I n) h = by (is_short n) h
    where
      by : (d : Bool) → is_some (if d then Some Ints else None) ≡ true → Typed types (if d then Some ty.Int else None) (if d then Some Ints else None)
      by true h = record { type = ty.Int; is = refl; kind_is = refl }
      by false h = absurd cc
  const_typed (constant.E x) h =
      let found = some_value (lookup (cons_entries types) x) (cons_known 0 types x ∙ h) in
      let kind = cons_kind 0 types x found.0 knows.distinct found.1 in
      record {
        type = ty.Enum found.0.name;
        is = ap (λ es. option_map (λ (d : ObcType). ty.Enum d.name) (lookup es x)) knows.cons ∙ ap (option_map (λ (d : ObcType). ty.Enum d.name)) found.1;
        kind_is = sym kind.0;
      }
