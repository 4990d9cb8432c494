-- Values of types are of their kinds, and constructors of one type are told apart, where no constructor stands twice.
use Rattle.std.proofs.Common.{◌≡◌, ◌⊎◌, inl, inr, ⊎_elim, ℕ, zero, suc, ◌+◌, ◌<◌, ◌≤◌, arith, List, [], ◌∷◌, ◌++◌, length, refl, sym, ap, subst, ◌∙◌}
use Rattle.std.specs.Prelude.{Bool, true, false, ◌&&◌, nat_eq, IsTrue, IsFalse, if◌then◌else◌, Option, None, Some}
use Rattle.std.specs.List.{AllByRecursion, Contains, IsDistinct}
use Rattle.std.specs.Str.{bytes_eq}
use Rattle.std.proofs.lemmas.Slice.Eq.{bytes_eq-Decides}
use Rattle.std.proofs.lemmas.Bool.Decides.{nat_tests}
use Rattle.hp_base.specs.Kinds.{Constructors, IsOfKind, AreOfKinds}
use Rattle.hp_base.specs.declared.ty.Ty.{Ty}
use Rattle.hp_base.specs.declared.ty.Ty.TheVariants as ty
use Rattle.hp_base.specs.declared.value.Value.{Value}
use Rattle.hp_base.specs.declared.value.Value.TheVariants.{Absent, Nil, B, E, I, Star}
use Rattle.hp_tree.specs.declared.decl.Cons.{Cons}
use Rattle.hp_tree.specs.declared.decl.Cons.TheVariants as cons
use Rattle.hp_tree.specs.Blocks.{Decl}
use Rattle.hp_tree.specs.Programs.{TypeDecl}
use Rattle.hp_tree.specs.Operators.{place_in, or_later, constructor_from, cons_of, same_value}
use Rattle.hp_tree.specs.Values.{constructors_of, IsOf, AreOf}
use Rattle.hp_typing.specs.Definitions.{same_cons}
use Rattle.law_equations.specs.Meaning.Fitting.{is_choice, is_flag}
use Rattle.law_equations.specs.Flattened.Numbered.{IsTold}
use Rattle.law_wellmade.specs.Timely.Kinds.{declared_kind, kind_of, kinds_of_decls}
use Rattle.law_equations.specs.Answered.Short.{IsShort}
use Rattle.law_wellmade.specs.Timely.Tested.{all_constructors, ConstructorsDiffer}

-- ---- names in lists

abbrev pub In : List (List ℕ) → List ℕ → Type 0
In [] x = ⊥
In (y ∷ ys) x = (y ≡ x) ⊎ In ys x

pub from_contains : (xs : List (List ℕ)) (x : List ℕ) → Contains xs x → In xs x
from_contains [] x (k, l, e) = absurd (omega (arith, l))
from_contains (y ∷ ys) x (zero, l, e) = inl e
from_contains (y ∷ ys) x (suc k, l, e) = inr (from_contains ys x (k, omega (arith, l), e))

pub to_contains : (xs : List (List ℕ)) (x : List ℕ) → In xs x → Contains xs x
to_contains [] x h = absurd h
to_contains (y ∷ ys) x (inl e) = (0, omega arith, e)
to_contains (y ∷ ys) x (inr h) = let q = to_contains ys x h in let l = q.1 in (suc q.0, omega (arith, l), q.2)

pub in_left : (xs ys : List (List ℕ)) (x : List ℕ) → In xs x → In (xs ++ ys) x
in_left [] ys x h = absurd h
in_left (z ∷ xs) ys x (inl e) = inl e
in_left (z ∷ xs) ys x (inr h) = inr (in_left xs ys x h)

pub in_right : (xs ys : List (List ℕ)) (x : List ℕ) → In ys x → In (xs ++ ys) x
in_right [] ys x h = h
in_right (z ∷ xs) ys x h = inr (in_right xs ys x h)

all_in : (P : List ℕ → Type 0) (xs : List (List ℕ)) (x : List ℕ) → AllByRecursion P xs → In xs x → P x
all_in P [] x a h = absurd h
all_in P (y ∷ ys) x a (inl e) = subst P e a.0
all_in P (y ∷ ys) x a (inr h) = all_in P ys x a.1 h

-- a name of a list is none of a list behind it
apart : (xs ys : List (List ℕ)) (x : List ℕ) → IsDistinct bytes_eq (xs ++ ys) → In xs x → In ys x → ⊥
unfolding IsDistinct
apart [] ys x d h k = h
apart (z ∷ xs) ys x d (inl e) k =
    let same : bytes_eq z x ≡ true = (bytes_eq-Decides z x).1 e in
    let other : bytes_eq z x ≡ false = all_in (λ y. bytes_eq z y ≡ false) (xs ++ ys) x d.0 (in_right xs ys x k) in
    absurd (cc)
apart (z ∷ xs) ys x d (inr h) k = apart xs ys x d.1 h k

all_front : (P : List ℕ → Type 0) (xs ys : List (List ℕ)) → AllByRecursion P (xs ++ ys) → AllByRecursion P xs
all_front P [] ys h = tt
all_front P (x ∷ xs) ys h = (h.0, all_front P xs ys h.1)

distinct_front : (xs ys : List (List ℕ)) → IsDistinct bytes_eq (xs ++ ys) → IsDistinct bytes_eq xs
unfolding IsDistinct
distinct_front [] ys d = tt
distinct_front (x ∷ xs) ys d = (all_front (λ y. bytes_eq x y ≡ false) xs ys d.0, distinct_front xs ys d.1)

distinct_back : (xs ys : List (List ℕ)) → IsDistinct bytes_eq (xs ++ ys) → IsDistinct bytes_eq ys
unfolding IsDistinct
distinct_back [] ys d = d
distinct_back (x ∷ xs) ys d = distinct_back xs ys d.1

-- ---- places

no_place : (k : ℕ) (xs : List (List ℕ)) (x : List ℕ) → (In xs x → ⊥) → place_in k xs x ≡ None
no_place k [] x f = refl
no_place k (y ∷ ys) x f = by (bytes_eq y x) refl (no_place (suc k) ys x (λ h. f (inr h)))
  where
    by : (b : Bool) → bytes_eq y x ≡ b → place_in (suc k) ys x ≡ None → (if b then Some k else place_in (suc k) ys x) ≡ None
    by true e g = absurd (f (inl ((bytes_eq-Decides y x).0 e)))
    by false e g = g

pub some_place : (k : ℕ) (xs : List (List ℕ)) (x : List ℕ) → In xs x → (i : ℕ) × (place_in k xs x ≡ Some i) × (i < k + length xs)
some_place k [] x h = absurd h
some_place k (y ∷ ys) x h = by (λ z. some_place (suc k) ys x z) (bytes_eq y x) refl
  where
    later : (In ys x → (i : ℕ) × (place_in (suc k) ys x ≡ Some i) × (i < suc k + length ys)) → bytes_eq y x ≡ false → (i : ℕ) × (place_in (suc k) ys x ≡ Some i) × (i < k + length (y ∷ ys))
    later f e =
        ⊎_elim (λ same. let there : bytes_eq y x ≡ true = (bytes_eq-Decides y x).1 same in absurd (cc))
        (λ z. let q = f z in let l = q.2 in (q.0, q.1, omega (arith, l))) h

    by : (In ys x → (i : ℕ) × (place_in (suc k) ys x ≡ Some i) × (i < suc k + length ys)) → (b : Bool) → bytes_eq y x ≡ b → (i : ℕ) × ((if b then Some k else place_in (suc k) ys x) ≡ Some i) × (i < k + length (y ∷ ys))
    by f true e = (k, refl, omega arith)
    by f false e = later f e

nth_place : (k : ℕ) (xs : List (List ℕ)) (c : ℕ) → c < length xs → IsDistinct bytes_eq xs → (x : List ℕ) × In xs x × ((i : ℕ) × (place_in k xs x ≡ Some i) × (i ≡ k + c))
unfolding IsDistinct
nth_place k [] c l d = absurd (omega (arith, l))
nth_place k (y ∷ ys) zero l d = (y, inl refl, (k, ap (λ b. if b then Some k else place_in (suc k) ys y) ((bytes_eq-Decides y y).1 refl), omega arith))
nth_place k (y ∷ ys) (suc c) l d =
    let q = nth_place (suc k) ys c (omega (arith, l)) d.1 in
    let i = q.2 in
    let e = i.2 in
    (q.0, inr q.1, (i.0, ap (λ b. if b then Some k else place_in (suc k) ys q.0) (all_in (λ z. bytes_eq y z ≡ false) ys q.0 d.0 q.1) ∙ i.1, omega (arith, e)))

least_place : (k : ℕ) (xs : List (List ℕ)) (x : List ℕ) (i : ℕ) → place_in k xs x ≡ Some i → k ≤ i
least_place k [] x i e = absurd (cc)
least_place k (y ∷ ys) x i e = by (bytes_eq y x) e (λ f. least_place (suc k) ys x i f)
  where
    by : (b : Bool) → (if b then Some k else place_in (suc k) ys x) ≡ Some i → (place_in (suc k) ys x ≡ Some i → suc k ≤ i) → k ≤ i
    by true e f = let same : k ≡ i = cc in omega (arith, same)
    by false e f = let l = f e in omega (arith, l)

one_place : (k : ℕ) (xs : List (List ℕ)) (a b : List ℕ) (i : ℕ) → place_in k xs a ≡ Some i → place_in k xs b ≡ Some i → a ≡ b
one_place k [] a b i e f = absurd (cc)
one_place k (y ∷ ys) a b i e f = by (λ u v. one_place (suc k) ys a b i u v) (bytes_eq y a) (bytes_eq y b) refl refl e f
  where
    by : (place_in (suc k) ys a ≡ Some i → place_in (suc k) ys b ≡ Some i → a ≡ b) → (c d : Bool) → bytes_eq y a ≡ c → bytes_eq y b ≡ d → (if c then Some k else place_in (suc k) ys a) ≡ Some i → (if d then Some k else place_in (suc k) ys b) ≡ Some i → a ≡ b
    by r true true p q e f = sym ((bytes_eq-Decides y a).0 p) ∙ (bytes_eq-Decides y b).0 q
    by r true false p q e f = let l = least_place (suc k) ys b i f in let same : k ≡ i = cc in absurd (omega (arith, l, same))
    by r false true p q e f = let l = least_place (suc k) ys a i e in let same : k ≡ i = cc in absurd (omega (arith, l, same))
    by r false false p q e f = r e f

-- ---- constructors

pub in_all : (ds : List TypeDecl) (x c : List ℕ) → In (constructors_of ds x) c → In (all_constructors ds) c
in_all [] x c h = absurd h
in_all (d ∷ ds) x c h = by (bytes_eq d.name x) h (in_all ds x c)
  where
    by : (b : Bool) → In (if b then d.cons else constructors_of ds x) c → (In (constructors_of ds x) c → In (all_constructors ds) c) → In (d.cons ++ all_constructors ds) c
    by true h f = in_left d.cons (all_constructors ds) c h
    by false h f = in_right d.cons (all_constructors ds) c (f h)

enum_kind : (t : ℕ) (ds : List TypeDecl) (x c : List ℕ) (v : Value) → IsDistinct bytes_eq (all_constructors ds) → In (constructors_of ds x) c → v ≡ constructor_from t ds c → IsOfKind (declared_kind t ds x) v
enum_kind t [] x c v d h e = absurd h
enum_kind t (w ∷ ds) x c v d h e = by (bytes_eq w.name x) h (λ k m. enum_kind (suc t) ds x c v (distinct_back w.cons (all_constructors ds) d) k m)
  where
    here : In w.cons c → IsOfKind (Constructors t w.cons) v
    here k =
        let q = some_place 0 w.cons c k in
        let l = q.2 in
        subst (λ z. IsOfKind (Constructors t w.cons) z) (sym (e ∙ ap (λ o. or_later t o (constructor_from (suc t) ds c)) q.1)) (refl, omega (arith, l))

    later : In (constructors_of ds x) c → (In (constructors_of ds x) c → v ≡ constructor_from (suc t) ds c → IsOfKind (declared_kind (suc t) ds x) v) → IsOfKind (declared_kind (suc t) ds x) v
    later k f =
        f k
        (e ∙ ap (λ o. or_later t o (constructor_from (suc t) ds c)) (no_place 0 w.cons c (λ z. apart w.cons (all_constructors ds) c d z (in_all ds x c k))))

    by : (b : Bool) → In (if b then w.cons else constructors_of ds x) c → (In (constructors_of ds x) c → v ≡ constructor_from (suc t) ds c → IsOfKind (declared_kind (suc t) ds x) v) → IsOfKind (if b then Constructors t w.cons else declared_kind (suc t) ds x) v
    by true k f = here k
    by false k f = later k f

kind_enum : (t : ℕ) (ds : List TypeDecl) (x : List ℕ) (u k : ℕ) → IsDistinct bytes_eq (all_constructors ds) → IsOfKind (declared_kind t ds x) (E u k) → (c : List ℕ) × In (constructors_of ds x) c × (E u k ≡ constructor_from t ds c)
kind_enum t [] x u k d h = absurd (let l = h.1 in omega (arith, l))
kind_enum t (w ∷ ds) x u k d h = by (bytes_eq w.name x) h (λ g. kind_enum (suc t) ds x u k (distinct_back w.cons (all_constructors ds) d) g)
  where
    here : (u ≡ t) × (k < length w.cons) → (c : List ℕ) × In w.cons c × (E u k ≡ constructor_from t (w ∷ ds) c)
    here g =
        let q = nth_place 0 w.cons k g.1 (distinct_front w.cons (all_constructors ds) d) in
        let e = q.2.2 in
        let same : q.2.0 ≡ k = omega (arith, e) in
        (q.0, q.1, sym (ap (λ o. or_later t o (constructor_from (suc t) ds q.0)) q.2.1 ∙ ap (λ i. E t i) same ∙ ap (λ i. E i k) (sym g.0)))

    later : IsOfKind (declared_kind (suc t) ds x) (E u k) → (IsOfKind (declared_kind (suc t) ds x) (E u k) → (c : List ℕ) × In (constructors_of ds x) c × (E u k ≡ constructor_from (suc t) ds c)) → (c : List ℕ) × In (constructors_of ds x) c × (E u k ≡ constructor_from t (w ∷ ds) c)
    later g f =
        let q = f g in
        (q.0, q.1, q.2 ∙ sym (ap (λ o. or_later t o (constructor_from (suc t) ds q.0)) (no_place 0 w.cons q.0 (λ z. apart w.cons (all_constructors ds) q.0 d z (in_all ds x q.0 q.1)))))

    by : (b : Bool) → IsOfKind (if b then Constructors t w.cons else declared_kind (suc t) ds x) (E u k) → (IsOfKind (declared_kind (suc t) ds x) (E u k) → (c : List ℕ) × In (constructors_of ds x) c × (E u k ≡ constructor_from (suc t) ds c)) → (c : List ℕ) × In (if b then w.cons else constructors_of ds x) c × (E u k ≡ constructor_from t (w ∷ ds) c)
    by true g f = here g
    by false g f = later g f

least_number : (t : ℕ) (ds : List TypeDecl) (c : List ℕ) (u k : ℕ) → constructor_from t ds c ≡ E u k → t ≤ u
least_number t [] c u k e = absurd (cc)
least_number t (d ∷ ds) c u k e = by (place_in 0 d.cons c) e (λ f. least_number (suc t) ds c u k f)
  where
    by : (o : Option ℕ) → or_later t o (constructor_from (suc t) ds c) ≡ E u k → (constructor_from (suc t) ds c ≡ E u k → suc t ≤ u) → t ≤ u
    by (Some i) e f = let same : t ≡ u = cc in omega (arith, same)
    by None e f = let l = f e in omega (arith, l)

one_name : (t : ℕ) (ds : List TypeDecl) (a b : List ℕ) (u k : ℕ) → constructor_from t ds a ≡ E u k → constructor_from t ds b ≡ E u k → a ≡ b
one_name t [] a b u k e f = absurd (cc)
one_name t (d ∷ ds) a b u k e f = by (λ x y. one_name (suc t) ds a b u k x y) (place_in 0 d.cons a) (place_in 0 d.cons b) refl refl e f
  where
    by : (constructor_from (suc t) ds a ≡ E u k → constructor_from (suc t) ds b ≡ E u k → a ≡ b) → (o p : Option ℕ) → place_in 0 d.cons a ≡ o → place_in 0 d.cons b ≡ p → or_later t o (constructor_from (suc t) ds a) ≡ E u k → or_later t p (constructor_from (suc t) ds b) ≡ E u k → a ≡ b
    by r (Some i) (Some j) p q e f = let same : i ≡ j = cc in one_place 0 d.cons a b j (p ∙ ap Some same) q
    by r (Some i) None p q e f = let l = least_number (suc t) ds b u k f in let same : t ≡ u = cc in absurd (omega (arith, l, same))
    by r None (Some j) p q e f = let l = least_number (suc t) ds a u k e in let same : t ≡ u = cc in absurd (omega (arith, l, same))
    by r None None p q e f = r e f

-- ---- values of types

pub kind_is : (types : List TypeDecl) (t : Ty) (v : Value) → ConstructorsDiffer types → IsShort v → IsOf types t v → IsOfKind (kind_of types t) v
kind_is types ty.Bool (B b) d s h = tt
kind_is types ty.Int (I n) d s h = s
kind_is types (ty.Enum x) (E u k) d s h = enum_kind 0 types x h.0 (E u k) d (from_contains (constructors_of types x) h.0 h.1) h.2
kind_is types ty.Bool Absent d s h = absurd h
kind_is types ty.Bool Nil d s h = absurd h
kind_is types ty.Bool (E u k) d s h = absurd h
kind_is types ty.Bool (I n) d s h = absurd h
kind_is types ty.Bool Star d s h = absurd h
kind_is types ty.Int Absent d s h = absurd h
kind_is types ty.Int Nil d s h = absurd h
kind_is types ty.Int (E u k) d s h = absurd h
kind_is types ty.Int (B n) d s h = absurd h
kind_is types ty.Int Star d s h = absurd h
kind_is types (ty.Enum x) Absent d s h = absurd h
kind_is types (ty.Enum x) Nil d s h = absurd h
kind_is types (ty.Enum x) (B b) d s h = absurd h
kind_is types (ty.Enum x) (I n) d s h = absurd h
kind_is types (ty.Enum x) Star d s h = absurd h

no_enum : (X : Type 0) (t : ℕ) (ds : List TypeDecl) (x : List ℕ) (v : Value) → ((u k : ℕ) → v ≡ E u k → X) → IsOfKind (declared_kind t ds x) v → X
no_enum X t ds x (E u k) f h = f u k refl
no_enum X t [] x Absent f h = absurd h
no_enum X t [] x Nil f h = absurd h
no_enum X t [] x (B b) f h = absurd h
no_enum X t [] x (I n) f h = absurd h
no_enum X t [] x Star f h = absurd h
no_enum X t (d ∷ ds) x v f h = by (bytes_eq d.name x) h (λ g. no_enum X (suc t) ds x v f g)
  where
    here : (w : Value) → IsOfKind (Constructors t d.cons) w → (u : ℕ) × (k : ℕ) × (w ≡ E u k)
    here (E u k) h = (u, k, refl)
    here Absent h = absurd h
    here Nil h = absurd h
    here (B b) h = absurd h
    here (I n) h = absurd h
    here Star h = absurd h

    by : (b : Bool) → IsOfKind (if b then Constructors t d.cons else declared_kind (suc t) ds x) v → (IsOfKind (declared_kind (suc t) ds x) v → X) → X
    by true h r = let q = here v h in f q.0 q.1 q.2
    by false h r = r h

pub of_kind : (types : List TypeDecl) (t : Ty) (v : Value) → ConstructorsDiffer types → IsOfKind (kind_of types t) v → IsOf types t v
of_kind types ty.Bool (B b) d h = tt
of_kind types ty.Int (I n) d h = tt
of_kind types (ty.Enum x) v d h =
    no_enum (IsOf types (ty.Enum x) v) 0 types x v
    (λ u k e.
    subst (λ w. IsOf types (ty.Enum x) w) (sym e)
    (let q = kind_enum 0 types x u k d (subst (λ w. IsOfKind (declared_kind 0 types x) w) e h) in (q.0, to_contains (constructors_of types x) q.0 q.1, q.2))) h
of_kind types ty.Bool Absent d h = absurd h
of_kind types ty.Bool Nil d h = absurd h
of_kind types ty.Bool (E u k) d h = absurd h
of_kind types ty.Bool (I n) d h = absurd h
of_kind types ty.Bool Star d h = absurd h
of_kind types ty.Int Absent d h = absurd h
of_kind types ty.Int Nil d h = absurd h
of_kind types ty.Int (E u k) d h = absurd h
of_kind types ty.Int (B n) d h = absurd h
of_kind types ty.Int Star d h = absurd h

pub are_of : (types : List TypeDecl) (ds : List Decl) (vs : List Value) → ConstructorsDiffer types → AreOfKinds (kinds_of_decls types ds) vs → AreOf types ds vs
are_of types [] [] d h = tt
are_of types [] (v ∷ vs) d h = absurd h
are_of types (x ∷ ds) [] d h = absurd h
are_of types (x ∷ ds) (v ∷ vs) d h = (of_kind types x.ty v d h.0, are_of types ds vs d h.1)

-- ---- tests

same_number : (t m : ℕ) (ds : List TypeDecl) (x : List ℕ) (u k v l : ℕ) → IsOfKind (declared_kind t ds x) (E u k) → IsOfKind (declared_kind t ds x) (E v l) → u ≡ v
same_number t m [] x u k v l h g = h.0 ∙ sym g.0
same_number t m (d ∷ ds) x u k v l h g = by (bytes_eq d.name x) h g (λ a b. same_number (suc t) m ds x u k v l a b)
  where
    by : (b : Bool) → IsOfKind (if b then Constructors t d.cons else declared_kind (suc t) ds x) (E u k) → IsOfKind (if b then Constructors t d.cons else declared_kind (suc t) ds x) (E v l) → (IsOfKind (declared_kind (suc t) ds x) (E u k) → IsOfKind (declared_kind (suc t) ds x) (E v l) → u ≡ v) → u ≡ v
    by true h g r = h.0 ∙ sym g.0
    by false h g r = r h g

-- a value is absent, or of a type
abbrev pub AbsentOr : List TypeDecl → Ty → Value → Type 0
AbsentOr types t v = (v ≡ Absent) ⊎ IsOf types t v

no_int : (types : List TypeDecl) (t : ℕ) (ds : List TypeDecl) (x : List ℕ) → IsOf types ty.Int (constructor_from t ds x) → ⊥
no_int types t [] x h = h
no_int types t (d ∷ ds) x h = by (place_in 0 d.cons x) h (λ g. no_int types (suc t) ds x g)
  where
    by : (o : Option ℕ) → IsOf types ty.Int (or_later t o (constructor_from (suc t) ds x)) → (IsOf types ty.Int (constructor_from (suc t) ds x) → ⊥) → ⊥
    by (Some i) h f = h
    by None h f = f h

pub cons_no_int : (types : List TypeDecl) (c : Cons) → IsOf types ty.Int (cons_of types c) → ⊥
cons_no_int types cons.False h = h
cons_no_int types cons.True h = h
cons_no_int types (cons.Named x) h = no_int types 0 types x h

-- a value of the type of a constructor can be tested for it
value_told : (types : List TypeDecl) (t : Ty) (w v : Value) → ConstructorsDiffer types → (t ≡ ty.Int → ⊥) → IsOf types t w → IsOf types t v → IsTold w v
value_told types ty.Bool (B a) (B b) d n h g = tt
value_told types (ty.Enum x) (E u k) (E v l) d n h g = same_number 0 0 types x u k v l (kind_is types (ty.Enum x) (E u k) d tt h) (kind_is types (ty.Enum x) (E v l) d tt g)
value_told types ty.Int w v d n h g = absurd (n refl)
value_told types ty.Bool Absent v d n h g = absurd h
value_told types ty.Bool Nil v d n h g = absurd h
value_told types ty.Bool (E u k) v d n h g = absurd h
value_told types ty.Bool (I i) v d n h g = absurd h
value_told types ty.Bool Star v d n h g = absurd h
value_told types ty.Bool (B a) Absent d n h g = absurd g
value_told types ty.Bool (B a) Nil d n h g = absurd g
value_told types ty.Bool (B a) (E u k) d n h g = absurd g
value_told types ty.Bool (B a) (I i) d n h g = absurd g
value_told types ty.Bool (B a) Star d n h g = absurd g
value_told types (ty.Enum x) Absent v d n h g = absurd h
value_told types (ty.Enum x) Nil v d n h g = absurd h
value_told types (ty.Enum x) (B u) v d n h g = absurd h
value_told types (ty.Enum x) (I i) v d n h g = absurd h
value_told types (ty.Enum x) Star v d n h g = absurd h
value_told types (ty.Enum x) (E u k) Absent d n h g = absurd g
value_told types (ty.Enum x) (E u k) Nil d n h g = absurd g
value_told types (ty.Enum x) (E u k) (B b) d n h g = absurd g
value_told types (ty.Enum x) (E u k) (I i) d n h g = absurd g
value_told types (ty.Enum x) (E u k) Star d n h g = absurd g

absent_told : (types : List TypeDecl) (t : Ty) (w : Value) → (t ≡ ty.Int → ⊥) → IsOf types t w → IsTold w Absent
absent_told types ty.Bool (B a) n h = tt
absent_told types (ty.Enum x) (E u k) n h = tt
absent_told types ty.Int w n h = absurd (n refl)
absent_told types ty.Bool Absent n h = absurd h
absent_told types ty.Bool Nil n h = absurd h
absent_told types ty.Bool (E u k) n h = absurd h
absent_told types ty.Bool (I i) n h = absurd h
absent_told types ty.Bool Star n h = absurd h
absent_told types (ty.Enum x) Absent n h = absurd h
absent_told types (ty.Enum x) Nil n h = absurd h
absent_told types (ty.Enum x) (B u) n h = absurd h
absent_told types (ty.Enum x) (I i) n h = absurd h
absent_told types (ty.Enum x) Star n h = absurd h

no_int_type : (types : List TypeDecl) (t : Ty) (c : Cons) → IsOf types t (cons_of types c) → t ≡ ty.Int → ⊥
no_int_type types t c h e = cons_no_int types c (subst (λ z. IsOf types z (cons_of types c)) e h)

pub cons_told : (types : List TypeDecl) (t : Ty) (c : Cons) (v : Value) → ConstructorsDiffer types → IsOf types t (cons_of types c) → AbsentOr types t v → IsTold (cons_of types c) v
cons_told types t c v d h (inl e) = subst (λ z. IsTold (cons_of types c) z) (sym e) (absent_told types t (cons_of types c) (no_int_type types t c h) h)
cons_told types t c v d h (inr g) = value_told types t (cons_of types c) v d (no_int_type types t c h) h g

choice_of : (types : List TypeDecl) (t : Ty) (v : Value) → (t ≡ ty.Int → ⊥) → IsOf types t v → IsTrue (is_choice v)
choice_of types ty.Bool (B b) n h = refl
choice_of types (ty.Enum x) (E u k) n h = refl
choice_of types ty.Int v n h = absurd (n refl)
choice_of types ty.Bool Absent n h = absurd h
choice_of types ty.Bool Nil n h = absurd h
choice_of types ty.Bool (E u k) n h = absurd h
choice_of types ty.Bool (I i) n h = absurd h
choice_of types ty.Bool Star n h = absurd h
choice_of types (ty.Enum x) Absent n h = absurd h
choice_of types (ty.Enum x) Nil n h = absurd h
choice_of types (ty.Enum x) (B u) n h = absurd h
choice_of types (ty.Enum x) (I i) n h = absurd h
choice_of types (ty.Enum x) Star n h = absurd h

pub cons_choice : (types : List TypeDecl) (t : Ty) (c : Cons) (v : Value) → IsOf types t (cons_of types c) → IsOf types t v → IsTrue (is_choice v)
cons_choice types t c v h g = choice_of types t v (no_int_type types t c h) g

pub flag_of : (types : List TypeDecl) (v : Value) → IsOf types ty.Bool v → IsTrue (is_flag v)
flag_of types (B b) h = refl
flag_of types Absent h = absurd h
flag_of types Nil h = absurd h
flag_of types (E u k) h = absurd h
flag_of types (I i) h = absurd h
flag_of types Star h = absurd h

-- ---- no value is of two constructors

value_as : (v : Value) (u k : ℕ) → IsTrue (same_value v (E u k)) → v ≡ E u k
value_as (E s a) u k h = by (nat_eq s u) (nat_eq a k) refl refl h
  where
    by : (c d : Bool) → nat_eq s u ≡ c → nat_eq a k ≡ d → IsTrue (c && d) → E s a ≡ E u k
    by true true p q h = let x : s ≡ u = grind (arith, nat_tests, p) in let y : a ≡ k = grind (arith, nat_tests, q) in cc
    by true false p q h = absurd (cc)
    by false d p q h = absurd (cc)
value_as Absent u k h = absurd (cc)
value_as Nil u k h = absurd (cc)
value_as (B b) u k h = absurd (cc)
value_as (I n) u k h = absurd (cc)
value_as Star u k h = absurd (cc)

false_or : (b : Bool) → (IsTrue b → ⊥) → IsFalse b
false_or true f = absurd (f refl)
false_or false f = refl

named_apart : (types : List TypeDecl) (a b : List ℕ) (u k v l : ℕ) (w : Value) → constructor_from 0 types a ≡ E u k → constructor_from 0 types b ≡ E v l → bytes_eq a b ≡ false → IsTrue (same_value w (E u k)) → IsFalse (same_value w (E v l))
named_apart types a b u k v l w e f n h =
    false_or (same_value w (E v l))
    (λ g.
    let p = sym (value_as w u k h) ∙ value_as w v l g in
    let same : bytes_eq a b ≡ true = (bytes_eq-Decides a b).1 (one_name 0 types a b v l (e ∙ p) f) in
    absurd (cc))

enum_of : (types : List TypeDecl) (x : List ℕ) (v : Value) → IsOf types (ty.Enum x) v → (u : ℕ) × (k : ℕ) × (v ≡ E u k)
enum_of types x (E u k) h = (u, k, refl)
enum_of types x Absent h = absurd h
enum_of types x Nil h = absurd h
enum_of types x (B b) h = absurd h
enum_of types x (I n) h = absurd h
enum_of types x Star h = absurd h

no_bool : (types : List TypeDecl) (t : ℕ) (ds : List TypeDecl) (x : List ℕ) → IsOf types ty.Bool (constructor_from t ds x) → ⊥
no_bool types t [] x h = h
no_bool types t (d ∷ ds) x h = by (place_in 0 d.cons x) h (λ g. no_bool types (suc t) ds x g)
  where
    by : (o : Option ℕ) → IsOf types ty.Bool (or_later t o (constructor_from (suc t) ds x)) → (IsOf types ty.Bool (constructor_from (suc t) ds x) → ⊥) → ⊥
    by (Some i) h f = h
    by None h f = f h

constructors_apart : (types : List TypeDecl) (t : Ty) (a b : List ℕ) (w : Value) → IsOf types t (constructor_from 0 types a) → IsOf types t (constructor_from 0 types b) → bytes_eq a b ≡ false → IsTrue (same_value w (constructor_from 0 types a)) → IsFalse (same_value w (constructor_from 0 types b))
constructors_apart types (ty.Enum x) a b w h g n s =
    let p = enum_of types x (constructor_from 0 types a) h in
    let q = enum_of types x (constructor_from 0 types b) g in
    subst (λ z. IsFalse (same_value w z)) (sym q.2) (named_apart types a b p.0 p.1 q.0 q.1 w p.2 q.2 n (subst (λ z. IsTrue (same_value w z)) p.2 s))
constructors_apart types ty.Int a b w h g n s = absurd (no_int types 0 types a h)
constructors_apart types ty.Bool a b w h g n s = absurd (no_bool types 0 types a h)

bool_never : (types : List TypeDecl) (b : Bool) (x : List ℕ) (t : Ty) → IsOf types t (B b) → IsOf types t (constructor_from 0 types x) → ⊥
bool_never types b x ty.Bool h g = no_bool types 0 types x g
bool_never types b x ty.Int h g = h
bool_never types b x (ty.Enum t) h g = h

pub cons_apart : (types : List TypeDecl) (t : Ty) (c e : Cons) (v : Value) → IsOf types t (cons_of types c) → IsOf types t (cons_of types e) → IsFalse (same_cons c e) → IsTrue (same_value v (cons_of types c)) → IsFalse (same_value v (cons_of types e))
cons_apart types t cons.False cons.False v h g n s = absurd (cc)
cons_apart types t cons.True cons.True v h g n s = absurd (cc)
cons_apart types t cons.False cons.True v h g n s = bools v s
  where
    bools : (v : Value) → IsTrue (same_value v (B false)) → IsFalse (same_value v (B true))
    bools (B true) s = absurd (cc)
    bools (B false) s = refl
    bools Absent s = refl
    bools Nil s = refl
    bools (E u k) s = refl
    bools (I i) s = refl
    bools Star s = refl
cons_apart types t cons.True cons.False v h g n s = bools v s
  where
    bools : (v : Value) → IsTrue (same_value v (B true)) → IsFalse (same_value v (B false))
    bools (B true) s = refl
    bools (B false) s = absurd (cc)
    bools Absent s = refl
    bools Nil s = refl
    bools (E u k) s = refl
    bools (I i) s = refl
    bools Star s = refl
cons_apart types t cons.False (cons.Named x) v h g n s = absurd (bool_never types false x t h g)
cons_apart types t cons.True (cons.Named x) v h g n s = absurd (bool_never types true x t h g)
cons_apart types t (cons.Named x) cons.False v h g n s = absurd (bool_never types false x t g h)
cons_apart types t (cons.Named x) cons.True v h g n s = absurd (bool_never types true x t g h)
cons_apart types t (cons.Named a) (cons.Named b) v h g n s = constructors_apart types t a b v h g n s
