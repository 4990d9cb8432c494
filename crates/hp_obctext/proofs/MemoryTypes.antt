-- The constructors of the types of a file.
use Rattle.std.proofs.Common.{◌≡◌, ◌≤◌, ℕ, zero, suc, Bool, true, false, List, [], ◌∷◌, ◌++◌, length, Option, None, Some, refl, sym, ap, subst, ◌∙◌, arith}
use Rattle.std.specs.List.{All, IsDistinct, AllByRecursion, slice_get}
use Rattle.std.specs.Str.{bytes_eq}
use Rattle.std.proofs.lemmas.List.Elements.{All-head, All-tail}
use Rattle.hp_obc.specs.Form.{TypesForm, HasConstructors, is_constructor, constructors_of}
use Rattle.hp_obc.specs.Machines.{ObcType}
use Rattle.hp_obctext.specs.MemoryKinds.{constructors_at}
use Rattle.hp_obctext.specs.Shapes.{Each}
use Rattle.hp_obctext.proofs.Truths.{front_each, back_each}
use Rattle.hp_obctext.proofs.KeptTypes.{from_all}

-- what the constructors of one type are
pub record Constructed (names : List (List ℕ)) : Type 0 where
  pub few : length names ≤ 64
  pub capital : Each (λ x. is_constructor x ≡ true) names
  pub differ : IsDistinct bytes_eq names

front_apart : (x : List ℕ) (xs ys : List (List ℕ)) → AllByRecursion (λ z. bytes_eq x z ≡ false) (xs ++ ys) → AllByRecursion (λ z. bytes_eq x z ≡ false) xs
front_apart x [] ys h = tt
front_apart x (y ∷ xs) ys h = (h.0, front_apart x xs ys h.1)

front_distinct : (xs ys : List (List ℕ)) → IsDistinct bytes_eq (xs ++ ys) → IsDistinct bytes_eq xs
unfolding IsDistinct
front_distinct [] ys h = tt
front_distinct (x ∷ xs) ys h = (front_apart x xs ys h.0, front_distinct xs ys h.1)

back_distinct : (xs ys : List (List ℕ)) → IsDistinct bytes_eq (xs ++ ys) → IsDistinct bytes_eq ys
unfolding IsDistinct
back_distinct [] ys h = h
back_distinct (x ∷ xs) ys h = back_distinct xs ys h.1

pub none_constructed : Constructed []
unfolding IsDistinct
none_constructed = record { few = omega arith; capital = tt; differ = tt }

at_by : (types : List ObcType) (n : ℕ) → Each HasConstructors types → Each (λ x. is_constructor x ≡ true) (constructors_of types) → IsDistinct bytes_eq (constructors_of types) → Constructed (constructors_at types n)
at_by [] n h k d = none_constructed
at_by (t ∷ types) zero h k d = record {
  few = h.0.1;
  capital = front_each (λ x. is_constructor x ≡ true) t.cons (constructors_of types) k;
  differ = front_distinct t.cons (constructors_of types) d;
}
at_by (t ∷ types) (suc n) h k d = at_by types n h.1 (back_each (λ x. is_constructor x ≡ true) t.cons (constructors_of types) k) (back_distinct t.cons (constructors_of types) d)

pub constructed : (types : List ObcType) → TypesForm types → (n : ℕ) → Constructed (constructors_at types n)
constructed types f n =
    at_by types n (from_all HasConstructors types f.counts) (from_all (λ x. is_constructor x ≡ true) (constructors_of types) f.constructors) f.distinct

pub few_constructors : (types : List ObcType) (n : ℕ) → TypesForm types → length (constructors_at types n) ≤ 64
few_constructors types n f = (constructed types f n).few
