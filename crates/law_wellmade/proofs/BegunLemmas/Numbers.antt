-- The first constructor of a type of a well named program has the number of the type, so that the first value by numbers is of the type.
use Rattle.std.proofs.Common.{◌≡◌, ℕ, zero, suc, ◌+◌, ◌<◌, ◌≤◌, Bool, true, false, if◌then◌else◌, List, [], ◌∷◌, length, add-one, None, Some, refl, sym, ap, subst, ◌∙◌, arith}
use Rattle.std.specs.Prelude.{min, Contains}
use Rattle.std.specs.Str.{bytes_eq}
use Rattle.std.proofs.lemmas.Slice.Eq.{bytes_eq-Decides}
use Rattle.hp_base.specs.declared.span.Span.{Span}
use Rattle.hp_base.specs.declared.ty.Ty.{Ty}
use Rattle.hp_base.specs.declared.ty.Ty.TheVariants as ty
use Rattle.hp_base.specs.declared.value.Value.{Value}
use Rattle.hp_base.specs.declared.value.Value.TheVariants.{Absent, E}
use Rattle.hp_tree.specs.declared.program.Item.{Item}
use Rattle.hp_tree.specs.declared.program.Item.TheVariants.{TypeItem, NodeItem}
use Rattle.hp_tree.specs.Programs.{TypeDecl}
use Rattle.hp_tree.specs.Operators.{place_in, or_later, constructor_from}
use Rattle.hp_tree.specs.Values.{constructors_of, IsOf}
use Rattle.hp_tree.specs.Meaning.{types_of}
use Rattle.hp_names.specs.Names.{Placed, with_name, with_names, names_at}
use Rattle.hp_names.specs.Scopes.{behind}
use Rattle.law_judged.specs.Typed.Scopes.{NameScope}
use Rattle.hp_names.specs.Rules.{AreNew, ItemsAreNamed}
use Rattle.law_judged.proofs.NamedLemmas.Sets.{same_name, kept_name, new_name}
use Rattle.law_equations.specs.Made.Making.{type_number, flat_type, first_value}
use Rattle.hp_complete.specs.Signatures.{numbered, type_names, places_of}
use Rattle.law_values.specs.Filled.Firsts.{HasFirst}

-- ---- names that are known

kept_names : (xs : List Placed) (names : List (List ℕ)) (x : List ℕ) → Contains names x → Contains (with_names names xs) x
kept_names [] names x h = h
kept_names (y ∷ xs) names x h = kept_names xs (with_name names y.0) x (kept_name names y.0 x h)

new_names : (cs : List (List ℕ)) (at : Span) (names : List (List ℕ)) (x : List ℕ) → Contains cs x → Contains (with_names names (names_at at cs)) x
new_names [] at names x (i, l, e) = absurd (omega (arith, l))
new_names (c ∷ cs) at names x (zero, l, e) = kept_names (names_at at cs) (with_name names c) x (subst (λ z. Contains (with_name names c) z) e (new_name names c))
new_names (c ∷ cs) at names x (suc i, l, e) = let m : i < length cs = omega (arith, l) in new_names cs at (with_name names c) x (i, m, e)

-- a new name was not known
clash : (cs : List (List ℕ)) (at : Span) (names : List (List ℕ)) (x : List ℕ) → AreNew names (names_at at cs) → Contains names x → Contains cs x → ⊥
clash [] at names x a h (i, l, e) = absurd (omega (arith, l))
clash (c ∷ cs) at names x a h (zero, l, e) = a.0 (subst (λ z. Contains names z) (sym e) h)
clash (c ∷ cs) at names x a h (suc i, l, e) = let m : i < length cs = omega (arith, l) in clash cs at (with_name names c) x a.1 (kept_name names c x h) (i, m, e)

the_first : (c : List ℕ) (cs : List (List ℕ)) → Contains (c ∷ cs) c
the_first c cs = let l : 0 < length (c ∷ cs) = omega arith in (0, l, refl)

not_placed : (cs : List (List ℕ)) (k : ℕ) (x : List ℕ) → (Contains cs x → ⊥) → place_in k cs x ≡ None
not_placed [] k x f = refl
not_placed (c ∷ cs) k x f = by (bytes_eq c x) refl (not_placed cs (suc k) x (λ h. let l : suc h.0 < length (c ∷ cs) = (let m = h.1 in omega (arith, m)) in f (suc h.0, l, h.2)))
  where
    by : (b : Bool) → bytes_eq c x ≡ b → place_in (suc k) cs x ≡ None → (if b then Some k else place_in (suc k) cs x) ≡ None
    by true e g = absurd (f (let l : 0 < length (c ∷ cs) = omega arith in (0, l, same_name c x e)))
    by false e g = g

-- ---- types

-- the constructors of types that come are not known yet
later : (items : List Item) (s : NameScope) (u c : List ℕ) (cs : List (List ℕ)) → ItemsAreNamed s items → constructors_of (types_of items) u ≡ c ∷ cs → Contains s.constructors c → ⊥
later [] s u c cs h e k = absurd (cc)
later (NodeItem n ∷ items) s u c cs h e k = later items (behind s (NodeItem n)) u c cs h.1 e k
later (TypeItem t ∷ items) s u c cs h e k = by (bytes_eq t.name u) e (λ w. later items (behind s (TypeItem t)) u c cs h.1 w (kept_names (names_at t.span t.cons) s.constructors c k))
  where
    by : (b : Bool) → (if b then t.cons else constructors_of (types_of items) u) ≡ c ∷ cs → (constructors_of (types_of items) u ≡ c ∷ cs → ⊥) → ⊥
    by true e g = clash t.cons t.span s.constructors c h.0.1 k (subst (λ z. Contains z c) (sym e) (the_first c cs))
    by false e g = g e

first_numbered : (items : List Item) (s : NameScope) (k : ℕ) (u c : List ℕ) (cs : List (List ℕ)) → ItemsAreNamed s items → constructors_of (types_of items) u ≡ c ∷ cs
    → (m : ℕ) × (numbered k (type_names items) u ≡ Some m) × (constructor_from k (types_of items) c ≡ E m 0) × (m < k + length (types_of items))
first_numbered [] s k u c cs h e = absurd (cc)
first_numbered (NodeItem n ∷ items) s k u c cs h e = first_numbered items (behind s (NodeItem n)) k u c cs h.1 e
first_numbered (TypeItem t ∷ items) s k u c cs h e = by (bytes_eq t.name u) e (first_numbered items (behind s (TypeItem t)) (k + 1) u c cs h.1)
  where
    by : (b : Bool) → (if b then t.cons else constructors_of (types_of items) u) ≡ c ∷ cs
        → (constructors_of (types_of items) u ≡ c ∷ cs → (m : ℕ) × (numbered (k + 1) (type_names items) u ≡ Some m) × (constructor_from (k + 1) (types_of items) c ≡ E m 0) × (m < k + 1 + length (types_of items)))
        → (m : ℕ) × ((if b then Some k else numbered (k + 1) (type_names items) u) ≡ Some m) × (or_later k (place_in 0 t.cons c) (constructor_from (suc k) (types_of items) c) ≡ E m 0) × (m < k + suc (length (types_of items)))
    by true e g =
        let l : k < k + suc (length (types_of items)) = omega arith in
        let own : place_in 0 t.cons c ≡ Some 0 = ap (λ xs. place_in 0 xs c) e ∙ ap (λ b. if b then Some 0 else place_in 1 cs c) ((bytes_eq-Decides c c).1 refl) in
        (k, refl, ap (λ o. or_later k o (constructor_from (suc k) (types_of items) c)) own, l)
    by false e g =
        let q = g e in
        let none : place_in 0 t.cons c ≡ None = not_placed t.cons 0 c (λ w. later items (behind s (TypeItem t)) u c cs h.1 e (new_names t.cons t.span s.constructors c w)) in
        let m = q.3 in
        let l : q.0 < k + suc (length (types_of items)) = omega (arith, m) in
        (q.0, q.1, ap (λ o. or_later k o (constructor_from (suc k) (types_of items) c)) none ∙ ap (λ n. constructor_from n (types_of items) c) (sym (add-one k)) ∙ q.2, l)

abbrev first_of : List TypeDecl → List (List ℕ) → Value
first_of types [] = Absent
first_of types (c ∷ cs) = constructor_from 0 types c

-- A type that has a first value has that of its number.
pub first_good : (items : List Item) (s : NameScope) → ItemsAreNamed s items → length (types_of items) ≤ 65535 → (t : Ty) → HasFirst (types_of items) t → IsOf (types_of items) t (first_value (flat_type (places_of items) t))
first_good items s h few ty.Bool f = tt
first_good items s h few ty.Int f = tt
first_good items s h few (ty.Enum u) f = by (constructors_of (types_of items) u) refl f
  where
    by : (cs : List (List ℕ)) → constructors_of (types_of items) u ≡ cs → IsOf (types_of items) (ty.Enum u) (first_of (types_of items) cs) → IsOf (types_of items) (ty.Enum u) (E (type_number (places_of items u)) 0)
    by [] e f = absurd f
    by (c ∷ cs) e f =
        let q = first_numbered items s 0 u c cs h e in
        let m = q.3 in
        let least : min q.0 65535 ≡ q.0 = omega (arith, m, few) in
        let number : type_number (places_of items u) ≡ q.0 = ap type_number q.1 ∙ least in
        (c, subst (λ xs. Contains xs c) (sym e) (the_first c cs), ap (λ n. E n 0) number ∙ sym q.2)
