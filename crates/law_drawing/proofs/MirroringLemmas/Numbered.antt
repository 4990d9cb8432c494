-- In a program whose names are well used the constructors of each type are numbered from 0 on.
use Rattle.std.proofs.Common.{◌≡◌, ℕ, zero, suc, ◌+◌, ◌<◌, List, [], ◌∷◌, length, slice_index_or, refl, sym, ap, subst, ◌∙◌, arith}
use Rattle.std.specs.Prelude.{⊤, Bool, true, false, if◌then◌else◌, Option, None, Some, Contains}
use Rattle.std.specs.Str.{bytes_eq}
use Rattle.hp_base.specs.declared.span.Span.{Span}
use Rattle.hp_base.specs.declared.ty.Ty.TheVariants as ty
use Rattle.hp_base.specs.declared.value.Value.{Value}
use Rattle.hp_base.specs.declared.value.Value.TheVariants.{Absent, Nil, B, E, I, Star}
use Rattle.hp_tree.specs.declared.program.Item.{Item}
use Rattle.hp_tree.specs.declared.program.Item.TheVariants.{TypeItem, NodeItem}
use Rattle.hp_tree.specs.Programs.{TypeDecl}
use Rattle.hp_tree.specs.Operators.{place_in, or_later, constructor_from}
use Rattle.hp_tree.specs.Meaning.{types_of}
use Rattle.hp_tree.specs.Values.{constructors_of, IsOf}
use Rattle.hp_tree.specs.ExpressionTypes.{some_place}
use Rattle.hp_names.specs.Names.{with_name, names_at}
use Rattle.hp_names.specs.Scopes.{nothing, behind}
use Rattle.hp_names.specs.Rules.{AreNew, ItemsAreNamed}
use Rattle.law_judged.specs.Typed.Scopes.{NameScope}
use Rattle.law_judged.proofs.NamedLemmas.Sets.{same_name, name_same, new_name}
use Rattle.law_games.proofs.ReadyGamesLemmas.Constructors.{HaveOwn, have_own, not_known, there, had}
use Rattle.law_drawing.specs.Mirroring.Codes.{IsBelow}
use Rattle.law_drawing.specs.Mirroring.Carried.{NumberedLaw}

abbrev nth : List (List ℕ) → ℕ → List ℕ
nth cs k = slice_index_or cs k []

nth_there : (cs : List (List ℕ)) (k : ℕ) → k < length cs → Contains cs (nth cs k)
nth_there [] k h = absurd (omega (arith, h))
nth_there (c ∷ cs) zero h = (0, omega arith, refl)
nth_there (c ∷ cs) (suc k) h = let g = nth_there cs k (omega (arith, h)) in (suc g.0, (let l = g.1 in omega (arith, l)), g.2)

nth_of : (cs : List (List ℕ)) (k : ℕ) (c : List ℕ) → k < length cs → nth cs k ≡ slice_index_or cs k c
nth_of [] k c h = absurd (omega (arith, h))
nth_of (d ∷ cs) zero c h = refl
nth_of (d ∷ cs) (suc k) c h = nth_of cs k c (omega (arith, h))

-- constructors of which each has its own place
abbrev HavePlaces : List TypeDecl → Type 0
HavePlaces [] = ⊤
HavePlaces (d ∷ ds) = ((k : ℕ) → k < length d.cons → place_in 0 d.cons (nth d.cons k) ≡ Some k) × HavePlaces ds

place_of : (names : List (List ℕ)) (at : Span) (cs : List (List ℕ)) → AreNew names (names_at at cs) → (j k : ℕ) → k < length cs → place_in j cs (nth cs k) ≡ Some (j + k)
place_of names at [] n j k h = absurd (omega (arith, h))
place_of names at (c ∷ cs) n j zero h = ap (λ (b : Bool). if b then Some j else place_in (suc j) cs c) (name_same c c refl) ∙ ap Some (omega arith)
place_of names at (c ∷ cs) n j (suc k) h =
    by (bytes_eq c (nth cs k)) refl (place_of (with_name names c) at cs n.1 (suc j) k (omega (arith, h)))
  where
    known : c ≡ nth cs k → Contains (with_name names c) (nth cs k)
    known e = subst (λ x. Contains (with_name names c) x) e (new_name names c)

    by : (b : Bool) → bytes_eq c (nth cs k) ≡ b → place_in (suc j) cs (nth cs k) ≡ Some (suc j + k) → (if b then Some j else place_in (suc j) cs (nth cs k)) ≡ Some (j + suc k)
    by true e f = absurd (not_known (with_name names c) at cs (nth cs k) n.1 (known (same_name c (nth cs k) e)) (nth_there cs k (omega (arith, h))))
    by false e f = f ∙ ap Some (omega arith)

pub have_places : (items : List Item) (s : NameScope) → ItemsAreNamed s items → HavePlaces (types_of items)
have_places [] s h = tt
have_places (TypeItem t ∷ items) s h = (
  (λ k l. place_of s.constructors t.span t.cons h.0.1 0 k l ∙ ap Some (omega arith)),
  have_places items (behind s (TypeItem t)) h.1,
)
have_places (NodeItem n ∷ items) s h = have_places items (behind s (NodeItem n)) h.1

-- ---- values

no_place : (p : Option ℕ) → some_place p ≡ false → p ≡ None
no_place None h = refl
no_place (Some k) h = absurd (cc)

pub numbered_from :
    (ds : List TypeDecl) → HaveOwn ds → HavePlaces ds → (t : List ℕ) (n k : ℕ) → k < length (constructors_of ds t)
    → (u : ℕ) × (constructor_from n ds (nth (constructors_of ds t) k) ≡ E u k)
numbered_from [] o p t n k h = absurd (omega (arith, h))
numbered_from (d ∷ ds) o p t n k h = by (bytes_eq d.name t) h (λ l. numbered_from ds o.1 p.1 t (suc n) k l)
  where
    other : (c : List ℕ) → Contains (constructors_of ds t) c → (b : Bool) → some_place (place_in 0 d.cons c) ≡ b → place_in 0 d.cons c ≡ None
    other c g true e = absurd (had ds t c g (o.0 c (there 0 d.cons c e)))
    other c g false e = no_place (place_in 0 d.cons c) e

    by :
        (b : Bool) → k < length (if b then d.cons else constructors_of ds t)
        → ((k < length (constructors_of ds t)) → (u : ℕ) × (constructor_from (suc n) ds (nth (constructors_of ds t) k) ≡ E u k))
        → (u : ℕ) × (constructor_from n (d ∷ ds) (nth (if b then d.cons else constructors_of ds t) k) ≡ E u k)
    by true l f = (n, ap (λ q. or_later n q (constructor_from (suc n) ds (nth d.cons k))) (p.0 k l))
    by false l f =
        let c = nth (constructors_of ds t) k in
        let rest = f l in
        (rest.0, ap (λ q. or_later n q (constructor_from (suc n) ds c)) (other c (nth_there (constructors_of ds t) k l) (some_place (place_in 0 d.cons c)) refl) ∙ rest.1)

number_of : Value → ℕ
number_of (E u k) = k
number_of v = 0

below_from : (types : List TypeDecl) → HaveOwn types → HavePlaces types → (t : List ℕ) (v : Value) → IsOf types (ty.Enum t) v → IsBelow (length (constructors_of types t)) v
unfolding number_of
below_from types o p t (E u k) (c, g, e) =
    let found = numbered_from types o p t 0 g.0 g.1 in
    let same : k ≡ g.0 = ap number_of (e ∙ sym (ap (constructor_from 0 types) (nth_of (constructors_of types t) g.0 c g.1 ∙ g.2)) ∙ found.1) in
    let l = g.1 in
    omega (arith, same, l)
below_from types o p t (B b) h = absurd h
below_from types o p t (I n) h = absurd h
below_from types o p t Absent h = absurd h
below_from types o p t Nil h = absurd h
below_from types o p t Star h = absurd h

pub numbered : NumberedLaw
numbered program h =
    let types = types_of program in
    let own = have_own program nothing h in
    let places = have_places program nothing h in
    record {
      each = λ t k l. let found = numbered_from types own places t 0 k l in (found.0, (nth (constructors_of types t) k, nth_there (constructors_of types t) k l, sym found.1));
      below = λ t v. below_from types own places t v;
    }
