-- Constructors have the numbers of their types, and their own are within their types.
use Rattle.std.proofs.Common.{◌≡◌, ◌⊎◌, inl, inr, ℕ, zero, suc, ◌+◌, ◌<◌, ◌≤◌, Bool, true, false, if◌then◌else◌, List, [], ◌∷◌, length, add-one, Option, None, Some, refl, sym, ap, subst, ◌∙◌, arith}
use Rattle.std.specs.Prelude.{⊤, min, Contains}
use Rattle.std.specs.List.{AllByRecursion}
use Rattle.std.specs.Str.{bytes_eq}
use Rattle.std.proofs.lemmas.Slice.Eq.{bytes_eq-Decides}
use Rattle.hp_base.specs.declared.span.Span.{Span}
use Rattle.hp_base.specs.declared.ty.Ty.{Ty}
use Rattle.hp_base.specs.declared.ty.Ty.TheVariants as ty
use Rattle.hp_base.specs.declared.ty.Const.{Const}
use Rattle.hp_base.specs.declared.ty.Const.TheVariants as const
use Rattle.hp_base.specs.declared.value.Value.TheVariants.{Absent, E}
use Rattle.hp_tree.specs.declared.decl.Cons.{Cons}
use Rattle.hp_tree.specs.declared.decl.Cons.TheVariants as cons
use Rattle.hp_tree.specs.declared.program.Item.{Item}
use Rattle.hp_tree.specs.declared.program.Item.TheVariants.{TypeItem, NodeItem}
use Rattle.hp_tree.specs.Programs.{TypeDecl}
use Rattle.hp_tree.specs.Operators.{place_in, or_later, constructor_from, constant_of, cons_of}
use Rattle.hp_tree.specs.Values.{constructors_of, IsOf}
use Rattle.hp_tree.specs.Meaning.{types_of}
use Rattle.hp_names.specs.Names.{Placed, with_name, with_names, names_at}
use Rattle.hp_names.specs.Scopes.{behind}
use Rattle.hp_names.specs.Rules.{AreNew, ItemsAreNamed}
use Rattle.law_judged.specs.Typed.Scopes.{NameScope}
use Rattle.law_judged.proofs.NamedLemmas.Sets.{same_name, kept_name, new_name}
use Rattle.hp_flat.specs.declared.node.FlatTy.TheVariants as flat
use Rattle.hp_toobc.specs.Tables.{type_at, width_of}
use Rattle.law_values.specs.Filled.Firsts.{HasFirst}
use Rattle.law_equations.specs.Made.Making.{type_number, flat_type, first_value, constructor_value, constant_value, own_number, cons_number}
use Rattle.hp_complete.specs.Declaring as declaring
use Rattle.hp_complete.specs.Declaring.{Constructors, with_constructors, known_of}
use Rattle.hp_complete.specs.Signatures.{numbered, type_names, places_of}
use Rattle.law_equations.specs.Made.Types.{obc_types}
use Rattle.law_wellmade.proofs.RegularLemmas.Good.{IsValue}
use Rattle.law_wellmade.proofs.RegularLemmas.Expressions.{TypeFacts}

-- ---- numbers of types

abbrev pub AreNumbered : (List ℕ → Option ℕ) → ℕ → List (List ℕ) → Type 0
AreNumbered f t [] = ⊤
AreNumbered f t (x ∷ xs) = (f x ≡ Some t) × AreNumbered f (t + 1) xs

some_same : {A : Type 0} (a b : A) → Some a ≡ Some b → a ≡ b
some_same {A} a b h = cc

module _ (x : List ℕ) where
  placed_known : (t k : ℕ) (cs : List (List ℕ)) (others : Constructors) (n : ℕ) → place_in k cs x ≡ Some n → with_constructors t k cs others x ≡ Some (t, min n 255)
  placed_known t k [] others n h = absurd (cc)
  placed_known t k (c ∷ cs) others n h = by (bytes_eq c x) h (λ e. placed_known t (k + 1) cs others n (ap (λ m. place_in m cs x) (add-one k) ∙ e))
    where
      by : (b : Bool) → (if b then Some k else place_in (suc k) cs x) ≡ Some n → (place_in (suc k) cs x ≡ Some n → with_constructors t (k + 1) cs others x ≡ Some (t, min n 255))
          → (if b then Some (t, min k 255) else with_constructors t (k + 1) cs others x) ≡ Some (t, min n 255)
      by true e g = ap (λ m. Some (t, min m 255)) (some_same k n e)
      by false e g = g e

  none_known : (t k : ℕ) (cs : List (List ℕ)) (others : Constructors) → place_in k cs x ≡ None → with_constructors t k cs others x ≡ others x
  none_known t k [] others h = refl
  none_known t k (c ∷ cs) others h = by (bytes_eq c x) h (λ e. none_known t (k + 1) cs others (ap (λ m. place_in m cs x) (add-one k) ∙ e))
    where
      by : (b : Bool) → (if b then Some k else place_in (suc k) cs x) ≡ None → (place_in (suc k) cs x ≡ None → with_constructors t (k + 1) cs others x ≡ others x)
          → (if b then Some (t, min k 255) else with_constructors t (k + 1) cs others x) ≡ others x
      by true e g = absurd (cc)
      by false e g = g e

  pub constructor_known : (places : List ℕ → Option ℕ) (t : ℕ) (items : List Item) (u n : ℕ) → AreNumbered places t (type_names items) → t + length (types_of items) ≤ 65535 → constructor_from t (types_of items) x ≡ E u n
      → declaring.constructors_of places items x ≡ Some (u, min n 255)
  constructor_known places t [] u n numbers many h = absurd (cc)
  constructor_known places t (NodeItem m ∷ items) u n numbers many h = constructor_known places t items u n numbers many h
  constructor_known places t (TypeItem d ∷ items) u n numbers many h =
      let number : type_number (places d.name) ≡ t = ap type_number numbers.0 ∙ (let e : min t 65535 ≡ t = omega (arith, many) in e) in
      let fewer : t + 1 + length (types_of items) ≤ 65535 = omega (arith, many) in
      by (place_in 0 d.cons x) refl h number (λ e. constructor_known places (t + 1) items u n numbers.1 fewer (ap (λ m. constructor_from m (types_of items) x) (add-one t) ∙ e))
    where
      by : (o : Option ℕ) → place_in 0 d.cons x ≡ o → or_later t o (constructor_from (suc t) (types_of items) x) ≡ E u n → type_number (places d.name) ≡ t
          → (constructor_from (suc t) (types_of items) x ≡ E u n → declaring.constructors_of places items x ≡ Some (u, min n 255))
          → with_constructors (type_number (places d.name)) 0 d.cons (declaring.constructors_of places items) x ≡ Some (u, min n 255)
      by None p e number g = none_known (type_number (places d.name)) 0 d.cons (declaring.constructors_of places items) p ∙ g e
      by (Some m) p e number g =
          let ut : t ≡ u = cc in
          let nm : m ≡ n = cc in
          placed_known (type_number (places d.name)) 0 d.cons (declaring.constructors_of places items) m p ∙ ap (λ z. Some (z, min m 255)) (number ∙ ut) ∙ ap (λ z. Some (u, min z 255)) nm

-- ---- constructors are within their types

placed : (k : ℕ) (xs : List (List ℕ)) (x : List ℕ) (p : ℕ) → place_in k xs x ≡ Some p → p < k + length xs
placed k [] x p h = absurd (cc)
placed k (y ∷ ys) x p h = by (bytes_eq y x) h (placed (suc k) ys x p)
  where
    by : (b : Bool) → (if b then Some k else place_in (suc k) ys x) ≡ Some p → (place_in (suc k) ys x ≡ Some p → p < suc k + length ys) → p < k + length (y ∷ ys)
    by true e g = let same = some_same k p e in omega (arith, same)
    by false e g = let l = g e in omega (arith, l)

in_range : (t : ℕ) (types : List TypeDecl) (x : List ℕ) (u n : ℕ) → constructor_from t types x ≡ E u n → (i : ℕ) × (u ≡ t + i) × (n < length (type_at (obc_types types) i).cons)
in_range t [] x u n h = absurd (cc)
in_range t (d ∷ types) x u n h = by (place_in 0 d.cons x) refl h (in_range (suc t) types x u n)
  where
    by : (o : Option ℕ) → place_in 0 d.cons x ≡ o → or_later t o (constructor_from (suc t) types x) ≡ E u n → (constructor_from (suc t) types x ≡ E u n → (i : ℕ) × (u ≡ suc t + i) × (n < length (type_at (obc_types types) i).cons))
        → (i : ℕ) × (u ≡ t + i) × (n < length (type_at (obc_types (d ∷ types)) i).cons)
    by None p e g = let q = g e in let w = q.1 in let same : u ≡ t + suc q.0 = omega (arith, w) in (suc q.0, same, q.2)
    by (Some m) p e g =
        let ut : t ≡ u = cc in
        let nm : m ≡ n = cc in
        let l = placed 0 d.cons x m p in
        let same : u ≡ t + 0 = omega (arith, ut) in
        let low : n < length d.cons = omega (arith, l, nm) in
        (0, same, low)

-- a constructor of a program is within its type
pub within : (types : List TypeDecl) (x : List ℕ) (u n : ℕ) → constructor_from 0 types x ≡ E u n → n < length (type_at (obc_types types) u).cons
within types x u n h = let q = in_range 0 types x u n h in let w = q.1 in let same : q.0 ≡ u = omega (arith, w) in subst (λ i. n < length (type_at (obc_types types) i).cons) same q.2

from_cases : (t : ℕ) (types : List TypeDecl) (x : List ℕ) → (constructor_from t types x ≡ Absent) ⊎ ((u : ℕ) × ((n : ℕ) × (constructor_from t types x ≡ E u n)))
from_cases t [] x = inl refl
from_cases t (d ∷ types) x = by (place_in 0 d.cons x) (from_cases (suc t) types x)
  where
    by : (o : Option ℕ) → (constructor_from (suc t) types x ≡ Absent) ⊎ ((u : ℕ) × ((n : ℕ) × (constructor_from (suc t) types x ≡ E u n)))
        → (or_later t o (constructor_from (suc t) types x) ≡ Absent) ⊎ ((u : ℕ) × ((n : ℕ) × (or_later t o (constructor_from (suc t) types x) ≡ E u n)))
    by None g = g
    by (Some m) g = inr (t, (m, refl))

-- ---- the number of a type is that of its constructors

kept_names : (xs : List Placed) (names : List (List ℕ)) (x : List ℕ) → Contains names x → Contains (with_names names xs) x
kept_names [] names x h = h
kept_names (y ∷ xs) names x h = kept_names xs (with_name names y.0) x (kept_name names y.0 x h)

new_names : (cs : List (List ℕ)) (at : Span) (names : List (List ℕ)) (x : List ℕ) → Contains cs x → Contains (with_names names (names_at at cs)) x
new_names [] at names x (i, l, e) = absurd (omega (arith, l))
new_names (c ∷ cs) at names x (zero, l, e) = kept_names (names_at at cs) (with_name names c) x (subst (λ z. Contains (with_name names c) z) e (new_name names c))
new_names (c ∷ cs) at names x (suc i, l, e) = let m : i < length cs = omega (arith, l) in new_names cs at (with_name names c) x (i, m, e)

-- a new name was not known
clash : (cs : List (List ℕ)) (at : Span) (names : List (List ℕ)) (x : List ℕ) → AreNew names (names_at at cs) → Contains names x → Contains cs x → ⊥
clash [] at names x a h (i, l, e) = absurd (omega (arith, l))
clash (c ∷ cs) at names x a h (zero, l, e) = a.0 (subst (λ z. Contains names z) (sym e) h)
clash (c ∷ cs) at names x a h (suc i, l, e) = let m : i < length cs = omega (arith, l) in clash cs at (with_name names c) x a.1 (kept_name names c x h) (i, m, e)

not_placed : (cs : List (List ℕ)) (k : ℕ) (x : List ℕ) → (Contains cs x → ⊥) → place_in k cs x ≡ None
not_placed [] k x f = refl
not_placed (c ∷ cs) k x f = by (bytes_eq c x) refl (not_placed cs (suc k) x (λ h. let l : suc h.0 < length (c ∷ cs) = (let m = h.1 in omega (arith, m)) in f (suc h.0, l, h.2)))
  where
    by : (b : Bool) → bytes_eq c x ≡ b → place_in (suc k) cs x ≡ None → (if b then Some k else place_in (suc k) cs x) ≡ None
    by true e g = absurd (f (let l : 0 < length (c ∷ cs) = omega arith in (0, l, same_name c x e)))
    by false e g = g

has_place : (k : ℕ) (cs : List (List ℕ)) (x : List ℕ) → Contains cs x → (p : ℕ) × (place_in k cs x ≡ Some p)
has_place k [] x (i, l, e) = absurd (omega (arith, l))
has_place k (c ∷ cs) x h = by (bytes_eq c x) refl (has_place (suc k) cs x) h
  where
    by : (b : Bool) → bytes_eq c x ≡ b → (Contains cs x → (p : ℕ) × (place_in (suc k) cs x ≡ Some p)) → Contains (c ∷ cs) x → (p : ℕ) × ((if b then Some k else place_in (suc k) cs x) ≡ Some p)
    by true q g h = (k, refl)
    by false q g (zero, l, e) = absurd (let r = sym q ∙ (bytes_eq-Decides c x).1 e in cc)
    by false q g (suc i, l, e) = let m : i < length cs = omega (arith, l) in g (i, m, e)

-- the constructors of types that come are not known yet
later : (items : List Item) (s : NameScope) (u c : List ℕ) → ItemsAreNamed s items → Contains (constructors_of (types_of items) u) c → Contains s.constructors c → ⊥
later [] s u c h (i, l, e) k = absurd (omega (arith, l))
later (NodeItem n ∷ items) s u c h i k = later items (behind s (NodeItem n)) u c h.1 i k
later (TypeItem t ∷ items) s u c h i k = by (bytes_eq t.name u) i (λ w. later items (behind s (TypeItem t)) u c h.1 w (kept_names (names_at t.span t.cons) s.constructors c k))
  where
    by : (b : Bool) → Contains (if b then t.cons else constructors_of (types_of items) u) c → (Contains (constructors_of (types_of items) u) c → ⊥) → ⊥
    by true i g = clash t.cons t.span s.constructors c h.0.1 k i
    by false i g = g i

own_numbered : (items : List Item) (s : NameScope) (k : ℕ) (u c : List ℕ) → ItemsAreNamed s items → Contains (constructors_of (types_of items) u) c
    → (m : ℕ) × (numbered k (type_names items) u ≡ Some m) × ((n : ℕ) × (constructor_from k (types_of items) c ≡ E m n)) × (m < k + length (types_of items))
own_numbered [] s k u c h (i, l, e) = absurd (omega (arith, l))
own_numbered (NodeItem n ∷ items) s k u c h i = own_numbered items (behind s (NodeItem n)) k u c h.1 i
own_numbered (TypeItem t ∷ items) s k u c h i = by (bytes_eq t.name u) i (own_numbered items (behind s (TypeItem t)) (k + 1) u c h.1)
  where
    by : (b : Bool) → Contains (if b then t.cons else constructors_of (types_of items) u) c
        → (Contains (constructors_of (types_of items) u) c → (m : ℕ) × (numbered (k + 1) (type_names items) u ≡ Some m) × ((n : ℕ) × (constructor_from (k + 1) (types_of items) c ≡ E m n)) × (m < k + 1 + length (types_of items)))
        → (m : ℕ) × ((if b then Some k else numbered (k + 1) (type_names items) u) ≡ Some m) × ((n : ℕ) × (or_later k (place_in 0 t.cons c) (constructor_from (suc k) (types_of items) c) ≡ E m n)) × (m < k + suc (length (types_of items)))
    by true i g =
        let l : k < k + suc (length (types_of items)) = omega arith in
        let q = has_place 0 t.cons c i in
        (k, refl, (q.0, ap (λ o. or_later k o (constructor_from (suc k) (types_of items) c)) q.1), l)
    by false i g =
        let q = g i in
        let none : place_in 0 t.cons c ≡ None = not_placed t.cons 0 c (λ w. later items (behind s (TypeItem t)) u c h.1 i (new_names t.cons t.span s.constructors c w)) in
        let m = q.3 in
        let l : q.0 < k + suc (length (types_of items)) = omega (arith, m) in
        (q.0, q.1, (q.2.0, ap (λ o. or_later k o (constructor_from (suc k) (types_of items) c)) none ∙ ap (λ n. constructor_from n (types_of items) c) (sym (add-one k)) ∙ q.2.1), l)

-- the number of a type is that of the values of the type
abbrev pub OwnNumbers : List TypeDecl → List (List ℕ) → Type 0
OwnNumbers types names = (y : List ℕ) (u n : ℕ) → IsOf types (ty.Enum y) (E u n) → u ≡ type_number (numbered 0 names y)

pub own_numbers : (items : List Item) (s : NameScope) → ItemsAreNamed s items → length (types_of items) ≤ 65535 → OwnNumbers (types_of items) (type_names items)
own_numbers items s h few y u n i =
    let q = own_numbered items s 0 y i.0 h i.1 in
    let m = q.3 in
    let least : q.0 ≡ min q.0 65535 = omega (arith, m, few) in
    let value : E u n ≡ E q.0 q.2.0 = i.2 ∙ q.2.1 in
    let same : u ≡ q.0 = cc in
    same ∙ least ∙ sym (ap type_number q.1)

-- ---- names of types differ, so that each has its number

type_known : (items : List Item) (s : NameScope) (y : List ℕ) → ItemsAreNamed s items → Contains s.types y → AllByRecursion (λ x. bytes_eq y x ≡ false) (type_names items)
type_known [] s y h k = tt
type_known (NodeItem n ∷ items) s y h k = type_known items (behind s (NodeItem n)) y h.1 k
type_known (TypeItem t ∷ items) s y h k = (by (bytes_eq y t.name) refl, type_known items (behind s (TypeItem t)) y h.1 (kept_name s.types t.name y k))
  where
    by : (b : Bool) → bytes_eq y t.name ≡ b → b ≡ false
    by true e = absurd (h.0.0 (subst (λ z. Contains s.types z) (same_name y t.name e) k))
    by false e = refl

numbers_alike : (f g : List ℕ → Option ℕ) (t : ℕ) (xs : List (List ℕ)) → AllByRecursion (λ x. f x ≡ g x) xs → AreNumbered g t xs → AreNumbered f t xs
numbers_alike f g t [] same h = tt
numbers_alike f g t (x ∷ xs) same h = (same.0 ∙ h.0, numbers_alike f g (t + 1) xs same.1 h.1)

further : (t : ℕ) (x : List ℕ) (xs ys : List (List ℕ)) → AllByRecursion (λ y. bytes_eq x y ≡ false) ys → AllByRecursion (λ y. numbered t (x ∷ xs) y ≡ numbered (t + 1) xs y) ys
further t x xs [] h = tt
further t x xs (y ∷ ys) h = (ap (λ d. if d then Some t else numbered (t + 1) xs y) h.0, further t x xs ys h.1)

pub are_numbered : (items : List Item) (s : NameScope) (t : ℕ) → ItemsAreNamed s items → AreNumbered (numbered t (type_names items)) t (type_names items)
are_numbered [] s t h = tt
are_numbered (NodeItem n ∷ items) s t h = are_numbered items (behind s (NodeItem n)) t h.1
are_numbered (TypeItem d ∷ items) s t h =
    let xs = type_names items in (
      ap (λ b. if b then Some t else numbered (t + 1) xs d.name) ((bytes_eq-Decides d.name d.name).1 refl),
      numbers_alike (numbered t (d.name ∷ xs)) (numbered (t + 1) xs) (t + 1) xs (further t d.name xs xs (type_known items (behind s (TypeItem d)) d.name h.1 (new_name s.types d.name))) (are_numbered items (behind s (TypeItem d)) (t + 1) h.1),
    )

-- ---- what is known of types

module _ (items : List Item) (numbers : AreNumbered (places_of items) 0 (type_names items)) (many : length (types_of items) ≤ 65535) (own : OwnNumbers (types_of items) (type_names items))
    (firsts : (t : Ty) → HasFirst (types_of items) t → IsOf (types_of items) t (first_value (flat_type (places_of items) t))) where
  known : (x : List ℕ) (u n : ℕ) → constructor_from 0 (types_of items) x ≡ E u n → (known_of items).constructors x ≡ Some (u, min n 255)
  known x u n h = constructor_known x (places_of items) 0 items u n numbers (let l : 0 + length (types_of items) ≤ 65535 = omega (arith, many) in l) h

  low : (x : List ℕ) (u n : ℕ) → constructor_from 0 (types_of items) x ≡ E u n → min n 255 < length (type_at (obc_types (types_of items)) u).cons
  low x u n h = let l = within (types_of items) x u n h in omega (arith, l)

  no_absent : {X : Type 0} (t : Ty) → IsOf (types_of items) t Absent → X
  no_absent ty.Bool h = absurd h
  no_absent ty.Int h = absurd h
  no_absent (ty.Enum y) h = absurd h

  named_value : (t : Ty) (x : List ℕ) (u n : ℕ) → constructor_from 0 (types_of items) x ≡ E u n → IsOf (types_of items) t (E u n)
      → IsValue (obc_types (types_of items)) (flat_type (places_of items) t) (constructor_value ((known_of items).constructors x))
  named_value ty.Bool x u n e h = absurd h
  named_value ty.Int x u n e h = absurd h
  named_value (ty.Enum y) x u n e h =
      let t = type_number (places_of items y) in
      let there : min n 255 < length (type_at (obc_types (types_of items)) t).cons = subst (λ z. min n 255 < length (type_at (obc_types (types_of items)) z).cons) (own y u n h) (low x u n e) in
      subst (λ o. IsValue (obc_types (types_of items)) (flat.Enum t) (constructor_value o)) (sym (known x u n e)) (own y u n h, there)

  constant_some : (t : Ty) (c : Const) → IsOf (types_of items) t (constant_of (types_of items) c) → IsValue (obc_types (types_of items)) (flat_type (places_of items) t) (constant_value (known_of items) c)
  constant_some ty.Bool (const.B b) h = tt
  constant_some ty.Int (const.B b) h = absurd h
  constant_some (ty.Enum y) (const.B b) h = absurd h
  constant_some ty.Bool (const.I n) h = absurd h
  constant_some ty.Int (const.I n) h = tt
  constant_some (ty.Enum y) (const.I n) h = absurd h
  constant_some t (const.E x) h = by (from_cases 0 (types_of items) x)
    where
      by : (constructor_from 0 (types_of items) x ≡ Absent) ⊎ ((u : ℕ) × ((n : ℕ) × (constructor_from 0 (types_of items) x ≡ E u n)))
          → IsValue (obc_types (types_of items)) (flat_type (places_of items) t) (constant_value (known_of items) (const.E x))
      by (inl e) = no_absent t (subst (λ v. IsOf (types_of items) t v) e h)
      by (inr q) = named_value t x q.0 q.1.0 q.1.1 (subst (λ v. IsOf (types_of items) t v) q.1.1 h)

  named_wide : (t : Ty) (x : List ℕ) (u n : ℕ) → constructor_from 0 (types_of items) x ≡ E u n → IsOf (types_of items) t (E u n) → own_number ((known_of items).constructors x) < width_of (obc_types (types_of items)) (flat_type (places_of items) t)
  named_wide ty.Bool x u n e h = absurd h
  named_wide ty.Int x u n e h = absurd h
  named_wide (ty.Enum y) x u n e h =
      subst (λ o. own_number o < length (type_at (obc_types (types_of items)) (type_number (places_of items y))).cons) (sym (known x u n e))
      (subst (λ z. min n 255 < length (type_at (obc_types (types_of items)) z).cons) (own y u n h) (low x u n e))

  cons_wide : (t : Ty) (c : Cons) → IsOf (types_of items) t (cons_of (types_of items) c) → cons_number (known_of items) c < width_of (obc_types (types_of items)) (flat_type (places_of items) t)
  cons_wide ty.Bool cons.False h = omega arith
  cons_wide ty.Int cons.False h = absurd h
  cons_wide (ty.Enum y) cons.False h = absurd h
  cons_wide ty.Bool cons.True h = omega arith
  cons_wide ty.Int cons.True h = absurd h
  cons_wide (ty.Enum y) cons.True h = absurd h
  cons_wide t (cons.Named x) h = by (from_cases 0 (types_of items) x)
    where
      by : (constructor_from 0 (types_of items) x ≡ Absent) ⊎ ((u : ℕ) × ((n : ℕ) × (constructor_from 0 (types_of items) x ≡ E u n))) → own_number ((known_of items).constructors x) < width_of (obc_types (types_of items)) (flat_type (places_of items) t)
      by (inl e) = no_absent t (subst (λ v. IsOf (types_of items) t v) e h)
      by (inr q) = named_wide t x q.0 q.1.0 q.1.1 (subst (λ v. IsOf (types_of items) t v) q.1.1 h)

  first_some : (t : Ty) → HasFirst (types_of items) t → IsValue (obc_types (types_of items)) (flat_type (places_of items) t) (first_value (flat_type (places_of items) t))
  first_some ty.Bool h = tt
  first_some ty.Int h = tt
  first_some (ty.Enum y) h = let i = firsts (ty.Enum y) h in (refl, within (types_of items) i.0 (type_number (places_of items y)) 0 (sym i.2))

  pub type_facts : TypeFacts (obc_types (types_of items)) (known_of items) (types_of items)
  type_facts = record { constants = constant_some; wide = cons_wide; firsts = first_some }
