-- A value of the kind of a type is of the type, where no two constructors of a program have one name.
use Rattle.std.proofs.Common.{◌≡◌, ℕ, zero, suc, ◌+◌, ◌<◌, Bool, true, false, if◌then◌else◌, List, [], ◌∷◌, ◌++◌, length, refl, sym, ap, subst, ◌∙◌, arith}
use Rattle.std.specs.Prelude.{None, Some}
use Rattle.std.specs.List.{AllByRecursion, Contains, IsDistinct}
use Rattle.std.specs.Str.{bytes_eq}
use Rattle.std.proofs.lemmas.Map.Keys.{IsDistinct-head, IsDistinct-tail}
use Rattle.std.proofs.lemmas.Slice.Eq.{bytes_eq-Decides}
use Rattle.hp_base.specs.Kinds.{KindData, Bools, Ints, Constructors, IsOfKind, AreOfKinds}
use Rattle.hp_base.specs.declared.ty.Ty.{Ty}
use Rattle.hp_base.specs.declared.ty.Ty.TheVariants as ty
use Rattle.hp_base.specs.declared.value.Value.{Value}
use Rattle.hp_base.specs.declared.value.Value.TheVariants.{Absent, Nil, B, E, I, Star}
use Rattle.hp_tree.specs.Blocks.{Decl}
use Rattle.hp_tree.specs.Programs.{TypeDecl}
use Rattle.hp_tree.specs.Operators.{place_in, or_later, constructor_from}
use Rattle.hp_tree.specs.Reaction.{Each}
use Rattle.hp_tree.specs.Values.{constructors_of, IsOf, AreOf}
use Rattle.law_wellmade.specs.Timely.Kinds.{declared_kind, kind_of, kinds_of_decls}

-- ---- names by their places in a list

abbrev At : List (List ℕ) → ℕ → List ℕ → Type 0
At [] k y = ⊥
At (x ∷ xs) zero y = x ≡ y
At (x ∷ xs) (suc k) y = At xs k y

there_is : (xs : List (List ℕ)) (k : ℕ) → k < length xs → (y : List ℕ) × At xs k y
there_is [] k h = absurd (omega (arith, h))
there_is (x ∷ xs) zero h = (x, refl)
there_is (x ∷ xs) (suc k) h = there_is xs k (omega (arith, h))

at_contains : (xs : List (List ℕ)) (k : ℕ) (y : List ℕ) → At xs k y → Contains xs y
at_contains [] k y h = absurd h
at_contains (x ∷ xs) zero y h = (zero, omega arith, h)
at_contains (x ∷ xs) (suc k) y h = let c = at_contains xs k y h in let l = c.1 in (suc c.0, omega (arith, l), c.2)

at_behind : (xs ys : List (List ℕ)) (k : ℕ) (y : List ℕ) → At ys k y → (j : ℕ) × At (xs ++ ys) j y
at_behind [] ys k y h = (k, h)
at_behind (x ∷ xs) ys k y h = let b = at_behind xs ys k y h in (suc b.0, b.1)

at_before : (xs ys : List (List ℕ)) (k : ℕ) (y : List ℕ) → At xs k y → At (xs ++ ys) k y
at_before [] ys k y h = absurd h
at_before (x ∷ xs) ys zero y h = h
at_before (x ∷ xs) ys (suc k) y h = at_before xs ys k y h

-- a name that differs from all is none of them
at_differs : (x : List ℕ) (xs : List (List ℕ)) (k : ℕ) (y : List ℕ) → AllByRecursion (λ z. bytes_eq x z ≡ false) xs → At xs k y → bytes_eq x y ≡ false
at_differs x [] k y a h = absurd h
at_differs x (z ∷ xs) zero y a h = ap (bytes_eq x) (sym h) ∙ a.0
at_differs x (z ∷ xs) (suc k) y a h = at_differs x xs k y a.1 h

place_at : (xs : List (List ℕ)) (j k : ℕ) (y : List ℕ) → IsDistinct bytes_eq xs → At xs k y → place_in j xs y ≡ Some (k + j)
place_at [] j k y d h = absurd h
place_at (x ∷ xs) j zero y d h = ap (λ b. if b then Some j else place_in (suc j) xs y) ((bytes_eq-Decides x y).1 h) ∙ ap Some (let e : j ≡ zero + j = omega arith in e)
place_at (x ∷ xs) j (suc k) y d h =
    ap (λ b. if b then Some j else place_in (suc j) xs y) (at_differs x xs k y (IsDistinct-head bytes_eq x xs d) h)
    ∙ place_at xs (suc j) k y (IsDistinct-tail bytes_eq x xs d) h
    ∙ ap Some (let e : k + suc j ≡ suc k + j = omega arith in e)

no_place : (xs ys : List (List ℕ)) (j k : ℕ) (y : List ℕ) → IsDistinct bytes_eq (xs ++ ys) → At ys k y → place_in j xs y ≡ None
no_place [] ys j k y d h = refl
no_place (x ∷ xs) ys j k y d h =
    let b = at_behind xs ys k y h in
    ap (λ c. if c then Some j else place_in (suc j) xs y) (at_differs x (xs ++ ys) b.0 y (IsDistinct-head bytes_eq x (xs ++ ys) d) b.1)
    ∙ no_place xs ys (suc j) k y (IsDistinct-tail bytes_eq x (xs ++ ys) d) h

distinct_first : (xs ys : List (List ℕ)) → IsDistinct bytes_eq (xs ++ ys) → IsDistinct bytes_eq xs
unfolding IsDistinct
distinct_first [] ys d = tt
distinct_first (x ∷ xs) ys d = (first xs d.0, distinct_first xs ys d.1)
  where
    first : (zs : List (List ℕ)) → AllByRecursion (λ y. bytes_eq x y ≡ false) (zs ++ ys) → AllByRecursion (λ y. bytes_eq x y ≡ false) zs
    first [] a = tt
    first (z ∷ zs) a = (a.0, first zs a.1)

pub distinct_last : (xs ys : List (List ℕ)) → IsDistinct bytes_eq (xs ++ ys) → IsDistinct bytes_eq ys
distinct_last [] ys d = d
distinct_last (x ∷ xs) ys d = distinct_last xs ys (IsDistinct-tail bytes_eq x (xs ++ ys) d)

-- ---- constructors

-- all constructors of some types
abbrev pub all_constructors : List TypeDecl → List (List ℕ)
all_constructors [] = []
all_constructors (d ∷ types) = d.cons ++ all_constructors types

-- a constructor of the type of a name
record IsConstructor (types : List TypeDecl) (t : ℕ) (x : List ℕ) (v : Value) : Type 0 where
  name : List ℕ
  place : ℕ
  among : Contains (constructors_of types x) name
  there : At (all_constructors types) place name
  is : constructor_from t types name ≡ v

constructor_is : (t : ℕ) (types : List TypeDecl) (x : List ℕ) (u c : ℕ) → IsDistinct bytes_eq (all_constructors types) → IsOfKind (declared_kind t types x) (E u c) → IsConstructor types t x (E u c)
constructor_is t [] x u c d h = absurd (let l = h.1 in omega (arith, l))
constructor_is t (e ∷ types) x u c d h = by (bytes_eq e.name x) refl h (λ k. constructor_is (suc t) types x u c (distinct_last e.cons (all_constructors types) d) k)
  where
    found : bytes_eq e.name x ≡ true → (u ≡ t) × (c < length e.cons) → IsConstructor (e ∷ types) t x (E u c)
    found same k =
        let y = there_is e.cons c k.1 in
        let place : place_in 0 e.cons y.0 ≡ Some c = place_at e.cons 0 c y.0 (distinct_first e.cons (all_constructors types) d) y.1 ∙ ap Some (let z : c + 0 ≡ c = omega arith in z) in
        record {
          name = y.0;
          place = c;
          among = subst (λ b. Contains (if b then e.cons else constructors_of types x) y.0) (sym same) (at_contains e.cons c y.0 y.1);
          there = at_before e.cons (all_constructors types) c y.0 y.1;
          is = ap (λ o. or_later t o (constructor_from (suc t) types y.0)) place ∙ ap (λ w. E w c) (sym k.0);
        }

    further : bytes_eq e.name x ≡ false → IsConstructor types (suc t) x (E u c) → IsConstructor (e ∷ types) t x (E u c)
    further other r =
        let behind = at_behind e.cons (all_constructors types) r.place r.name r.there in
        record {
          name = r.name;
          place = behind.0;
          among = subst (λ b. Contains (if b then e.cons else constructors_of types x) r.name) (sym other) r.among;
          there = behind.1;
          is = ap (λ o. or_later t o (constructor_from (suc t) types r.name)) (no_place e.cons (all_constructors types) 0 r.place r.name d r.there) ∙ r.is;
        }

    by : (b : Bool) → bytes_eq e.name x ≡ b → IsOfKind (if b then Constructors t e.cons else declared_kind (suc t) types x) (E u c) → (IsOfKind (declared_kind (suc t) types x) (E u c) → IsConstructor types (suc t) x (E u c)) → IsConstructor (e ∷ types) t x (E u c)
    by true same k r = found same k
    by false other k r = further other (r k)

-- no other value is of the kind of a declared type
only_constructors : (t : ℕ) (types : List TypeDecl) (x : List ℕ) → (number : ℕ) × (cons : List (List ℕ)) × (declared_kind t types x ≡ Constructors number cons)
only_constructors t [] x = (t, [], refl)
only_constructors t (e ∷ types) x = by (bytes_eq e.name x) (only_constructors (suc t) types x)
  where
    by : (b : Bool) → ((number : ℕ) × (cons : List (List ℕ)) × (declared_kind (suc t) types x ≡ Constructors number cons)) → (number : ℕ) × (cons : List (List ℕ)) × ((if b then Constructors t e.cons else declared_kind (suc t) types x) ≡ Constructors number cons)
    by true r = (t, e.cons, refl)
    by false r = r

module _ (types : List TypeDecl) (distinct : IsDistinct bytes_eq (all_constructors types)) where
  as_constructor : (x : List ℕ) (v : Value) (kind : KindData) → declared_kind 0 types x ≡ kind → IsOfKind kind v → IsOf types (ty.Enum x) v
  as_constructor x (E u c) kind e h =
      let r = constructor_is 0 types x u c distinct (subst (λ k. IsOfKind k (E u c)) (sym e) h) in
      (r.name, r.among, sym r.is)
  as_constructor x Absent (Constructors number cons) e h = absurd h
  as_constructor x Nil (Constructors number cons) e h = absurd h
  as_constructor x (B b) (Constructors number cons) e h = absurd h
  as_constructor x (I n) (Constructors number cons) e h = absurd h
  as_constructor x Star (Constructors number cons) e h = absurd h
  as_constructor x v Bools e h = absurd (let o = only_constructors 0 types x in let f = sym e ∙ o.2 in cc)
  as_constructor x v Ints e h = absurd (let o = only_constructors 0 types x in let f = sym e ∙ o.2 in cc)

  as_type : (t : Ty) (v : Value) → IsOfKind (kind_of types t) v → IsOf types t v
  as_type ty.Bool (B b) h = tt
  as_type ty.Bool Absent h = absurd h
  as_type ty.Bool Nil h = absurd h
  as_type ty.Bool (E u c) h = absurd h
  as_type ty.Bool (I n) h = absurd h
  as_type ty.Bool Star h = absurd h
  as_type ty.Int (I n) h = tt
  as_type ty.Int Absent h = absurd h
  as_type ty.Int Nil h = absurd h
  as_type ty.Int (E u c) h = absurd h
  as_type ty.Int (B b) h = absurd h
  as_type ty.Int Star h = absurd h
  as_type (ty.Enum x) v h = as_constructor x v (declared_kind 0 types x) refl h

  as_types : (ds : List Decl) (vs : List Value) → AreOfKinds (kinds_of_decls types ds) vs → AreOf types ds vs
  as_types [] [] h = tt
  as_types [] (v ∷ vs) h = absurd h
  as_types (d ∷ ds) [] h = absurd h
  as_types (d ∷ ds) (v ∷ vs) h = (as_type d.ty v h.0, as_types ds vs h.1)

  -- Inputs of the kinds of declared types are of these types.
  pub kinds_are_types : (ds : List Decl) (inputs : List (List Value)) → AllByRecursion (AreOfKinds (kinds_of_decls types ds)) inputs → Each (AreOf types ds) inputs
  kinds_are_types ds [] h = tt
  kinds_are_types ds (vs ∷ inputs) h = (as_types ds vs h.0, kinds_are_types ds inputs h.1)
