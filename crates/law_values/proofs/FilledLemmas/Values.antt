-- The first value of a type, and what is given in front of something else.
use Rattle.std.proofs.Common.{◌≡◌, ℕ, suc, List, [], ◌∷◌, refl, sym, ap, subst, ◌∙◌, arith}
use Rattle.std.specs.Prelude.{Bool, true, false, if◌then◌else◌, Option, None, Some}
use Rattle.std.specs.List.{Contains}
use Rattle.std.specs.Str.{bytes_eq}
use Rattle.std.proofs.lemmas.Slice.Eq.{bytes_eq-Decides}
use Rattle.hp_base.specs.declared.ty.Ty.{Ty}
use Rattle.hp_base.specs.declared.ty.Ty.TheVariants as ty
use Rattle.hp_base.specs.declared.value.Value.{Value}
use Rattle.hp_base.specs.declared.value.Value.TheVariants.{Absent, Nil, B, E, I, Star}
use Rattle.hp_tree.specs.Programs.{TypeDecl}
use Rattle.hp_tree.specs.Operators.{place_in, or_later, constructor_from}
use Rattle.hp_tree.specs.Values.{constructors_of, IsOf}
use Rattle.hp_tree.specs.Instant.{Instant, or_else}
use Rattle.law_values.specs.Filled.Firsts.{HasFirst}

-- the value of the first of some constructors
abbrev first_of : List TypeDecl → List (List ℕ) → Value
first_of types [] = Absent
first_of types (c ∷ cs) = constructor_from 0 types c

self : (c : List ℕ) → bytes_eq c c ≡ true
self c = (bytes_eq-Decides c c).1 refl

-- the first constructor of a type has a value
placed : (types : List TypeDecl) (k : ℕ) (u c : List ℕ) (cs : List (List ℕ)) → constructors_of types u ≡ c ∷ cs → (m : ℕ) × ((j : ℕ) × (constructor_from k types c ≡ E m j))
placed [] k u c cs e = absurd (cc)
placed (d ∷ ds) k u c cs e = by (bytes_eq d.name u) e (placed ds (suc k) u c cs)
  where
    found : (o : Option ℕ) → ((m : ℕ) × ((j : ℕ) × (constructor_from (suc k) ds c ≡ E m j))) → (m : ℕ) × ((j : ℕ) × (or_later k o (constructor_from (suc k) ds c) ≡ E m j))
    found None h = h
    found (Some j) h = (k, (j, refl))

    here : d.cons ≡ c ∷ cs → place_in 0 d.cons c ≡ Some 0
    here h = ap (λ xs. place_in 0 xs c) h ∙ ap (λ b. if b then Some 0 else place_in 1 cs c) (self c)

    by : (b : Bool) → (if b then d.cons else constructors_of ds u) ≡ c ∷ cs → (constructors_of ds u ≡ c ∷ cs → (m : ℕ) × ((j : ℕ) × (constructor_from (suc k) ds c ≡ E m j))) → (m : ℕ) × ((j : ℕ) × (or_later k (place_in 0 d.cons c) (constructor_from (suc k) ds c) ≡ E m j))
    by true h f = (k, (0, ap (λ o. or_later k o (constructor_from (suc k) ds c)) (here h)))
    by false h f = found (place_in 0 d.cons c) (f h)

-- An enumeration with a constructor has a first value.
pub first_is : (types : List TypeDecl) (u : List ℕ) → (constructors_of types u ≡ [] → ⊥) → HasFirst types (ty.Enum u)
first_is types u h = by (constructors_of types u) refl
  where
    by : (cs : List (List ℕ)) → constructors_of types u ≡ cs → HasFirst types (ty.Enum u)
    by [] e = absurd (h e)
    by (c ∷ cs) e =
        let q = placed types 0 u c cs e in
        let same : first_of types (constructors_of types u) ≡ E q.0 q.1.0 = ap (first_of types) e ∙ q.1.1 in
        subst (λ v. IsOf types (ty.Enum u) v) (sym same) (c, subst (λ xs. Contains xs c) (sym e) (0, omega arith, refl), sym q.1.1)

none_in : (cs : List (List ℕ)) (c : List ℕ) → cs ≡ [] → Contains cs c → ⊥
none_in [] c e h = let l = h.1 in absurd (omega arith)
none_in (d ∷ cs) c e h = absurd (cc)

-- An enumeration with a value has one.
pub first_from : (types : List TypeDecl) (u : List ℕ) (v : Value) → IsOf types (ty.Enum u) v → HasFirst types (ty.Enum u)
first_from types u (E m j) h = first_is types u (λ e. none_in (constructors_of types u) h.0 e h.1)
first_from types u Absent h = absurd h
first_from types u Nil h = absurd h
first_from types u (B b) h = absurd h
first_from types u (I n) h = absurd h
first_from types u Star h = absurd h

-- a value of a type is not Absent
pub kept_over : (types : List TypeDecl) (t : Ty) (v w : Value) → IsOf types t v → or_else v w ≡ v
kept_over types ty.Bool Absent w h = absurd h
kept_over types ty.Int Absent w h = absurd h
kept_over types (ty.Enum u) Absent w h = absurd h
kept_over types t Nil w h = refl
kept_over types t (B b) w h = refl
kept_over types t (E m j) w h = refl
kept_over types t (I n) w h = refl
kept_over types t Star w h = refl

-- one instant in front of another
abbrev pub over : Instant → Instant → Instant
over i free p = or_else (i p) (free p)
