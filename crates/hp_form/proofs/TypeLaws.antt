-- When types have form.
use Rattle.std.proofs.Common.{◌≡◌, ℕ, zero, suc, ◌+◌, ◌<◌, ◌≤◌, Bool, true, false, ◌&&◌, List, [], ◌∷◌, ◌++◌, length, map, get_or, drop, refl, sym, ap, ◌∙◌, subst, append_assoc, arith}
use Rattle.std.specs.Prelude.{◌↔◌, IsTrue, nat_le}
use Rattle.std.specs.Bool.{Decides}
use Rattle.std.specs.List.{All, IsDistinct, AllByRecursion, list_all}
use Rattle.std.specs.Str.{bytes_eq}
use Rattle.std.proofs.lemmas.List.{drop_more, map-append, map-id}
use Rattle.std.proofs.lemmas.List.Elements.{recursion_from_All, All-from_recursion}
use Rattle.std.proofs.lemmas.Bool.Decides.{nat_tests}
use Rattle.hp_obc.specs.Machines.{ObcType}
use Rattle.hp_obc.specs.Form.{is_name, is_constructor, TypesForm, HasConstructors, constructors_of}
use Rattle.hp_form.specs.Kinds.{cons_at, all_at, held, has_few_constructors}
use Rattle.hp_form.specs.Declaring.{keys, Each, IsNew, TypesAreNew, ConstructorsAreNew}
use Rattle.hp_form.proofs.EachLaws.{each_split, each_append}

pub to_true : (b : Bool) → b ≡ true → IsTrue b
to_true true h = refl
to_true false h = absurd cc

pub from_true : (b : Bool) → IsTrue b → b ≡ true
from_true true h = refl
from_true false h = absurd cc

pub both-left : (a b : Bool) → (a && b) ≡ true → a ≡ true
both-left true b h = refl
both-left false b h = absurd cc

pub both-right : (a b : Bool) → (a && b) ≡ true → b ≡ true
both-right true b h = h
both-right false b h = absurd cc

module _ {B : Type 0} (name : B → List ℕ) (p : List ℕ → Bool) where
  spelled_to : (bs : List B) → AllByRecursion (λ b. p (name b) ≡ true) bs → AllByRecursion (λ x. IsTrue (p x)) (map name bs)
  spelled_to [] h = tt
  spelled_to (b ∷ bs) h = (to_true (p (name b)) h.0, spelled_to bs h.1)

  spelled_from : (bs : List B) → AllByRecursion (λ x. IsTrue (p x)) (map name bs) → AllByRecursion (λ b. p (name b) ≡ true) bs
  spelled_from [] h = tt
  spelled_from (b ∷ bs) h = (from_true (p (name b)) h.0, spelled_from bs h.1)

  -- each of the names is spelled so
  pub spelled : (bs : List B) → AllByRecursion (λ b. p (name b) ≡ true) bs ↔ All (λ x. IsTrue (p x)) (map name bs)
  spelled bs = (
    (λ h. All-from_recursion (λ x. IsTrue (p x)) (map name bs) (spelled_to bs h)),
    (λ h. spelled_from bs (recursion_from_All (λ x. IsTrue (p x)) (map name bs) h)),
  )

  -- Things of new names have names that differ.
  pub new_names : (bs : List B) → Each name (λ olds b. IsNew p olds (name b)) [] bs ↔ (IsDistinct bytes_eq (map name bs) × All (λ x. IsTrue (p x)) (map name bs))
  new_names bs =
      let halves = each_split name (λ olds b. IsNew p olds (name b)) (λ b. p (name b) ≡ true) (λ olds b. ((λ h. (h.1, h.0)), (λ h. (h.1, h.0)))) bs in
      ((λ h. ((halves.0 h).0, (spelled bs).0 (halves.0 h).1)), (λ h. halves.1 (h.0, (spelled bs).1 h.1)))

-- ---- counts

few_to : (t : ObcType) → has_few_constructors t ≡ true → HasConstructors t
few_to t h =
    let a : nat_le 1 (length t.cons) ≡ true = both-left (nat_le 1 (length t.cons)) (nat_le (length t.cons) 64) h in
    let b : nat_le (length t.cons) 64 ≡ true = both-right (nat_le 1 (length t.cons)) (nat_le (length t.cons) 64) h in
    (grind (arith, nat_tests), grind (arith, nat_tests))

few_from : (t : ObcType) → HasConstructors t → has_few_constructors t ≡ true
few_from t h =
    let a : nat_le 1 (length t.cons) ≡ true = grind (arith, nat_tests) in
    let b : nat_le (length t.cons) 64 ≡ true = grind (arith, nat_tests) in
    λ i. a i && b i

counts_to : (types : List ObcType) → list_all has_few_constructors types ≡ true → AllByRecursion HasConstructors types
counts_to [] h = tt
counts_to (t ∷ types) h = (few_to t (both-left (has_few_constructors t) (list_all has_few_constructors types) h), counts_to types (both-right (has_few_constructors t) (list_all has_few_constructors types) h))

counts_from : (types : List ObcType) → AllByRecursion HasConstructors types → list_all has_few_constructors types ≡ true
counts_from [] h = refl
counts_from (t ∷ types) h = λ i. few_from t h.0 i && counts_from types h.1 i

-- ---- the whole

pub record TypesParts (types : List ObcType) : Type 0 where
  pub number : length types ≤ 1000
  pub counts : list_all has_few_constructors types ≡ true
  pub names : TypesAreNew [] types
  pub constructors : ConstructorsAreNew [] (constructors_of types)

pub types_form : (types : List ObcType) → TypesParts types → TypesForm types
types_form types h =
    let names = (new_names (λ (t : ObcType). t.name) is_name types).0 h.names in
    let cons = (new_names (λ (x : List ℕ). x) is_constructor (constructors_of types)).0 h.constructors in
    record {
      number = h.number;
      names = (names.1, names.0);
      counts = All-from_recursion HasConstructors types (counts_to types h.counts);
      constructors = subst (All (λ x. IsTrue (is_constructor x))) (map-id (constructors_of types)) cons.1;
      distinct = subst (IsDistinct bytes_eq) (map-id (constructors_of types)) cons.0;
    }

pub types_parts : (types : List ObcType) → TypesForm types → TypesParts types
types_parts types f = record {
  number = f.number;
  counts = counts_from types (recursion_from_All HasConstructors types f.counts);
  names = (new_names (λ (t : ObcType). t.name) is_name types).1 (f.names.1, f.names.0);
  constructors = (new_names (λ (x : List ℕ). x) is_constructor (constructors_of types)).1
      (subst (IsDistinct bytes_eq) (sym (map-id (constructors_of types))) f.distinct, subst (All (λ x. IsTrue (is_constructor x))) (sym (map-id (constructors_of types))) f.constructors);
}

-- ---- the constructors of one more type

pub more_constructors : (olds new : List (List ℕ)) (types : List ObcType) (i : ℕ) (d : ObcType) (R : Type 0) → ConstructorsAreNew olds (constructors_of (drop i types)) ↔ R → i < length types
    → ConstructorsAreNew olds (get_or types i d).cons → new ≡ olds ++ (get_or types i d).cons → ConstructorsAreNew new (constructors_of (drop (i + 1) types)) ↔ R
more_constructors olds new types i d R h l p e =
    let t = get_or types i d in
    let whole : ConstructorsAreNew olds ((get_or types i d).cons ++ constructors_of (drop (i + 1) types)) ↔ R = subst (λ z. ConstructorsAreNew olds (constructors_of z) ↔ R) (drop_more types i d l) h in
    let both = each_append (λ (x : List ℕ). x) (IsNew is_constructor) olds (get_or types i d).cons (constructors_of (drop (i + 1) types)) in
    let here : olds ++ map (λ (x : List ℕ). x) (get_or types i d).cons ≡ new = ap (λ z. olds ++ z) (map-id (get_or types i d).cons) ∙ sym e in
    ((λ q. whole.0 (both.1 (p, subst (λ z. ConstructorsAreNew z (constructors_of (drop (i + 1) types))) (sym here) q))), (λ r. subst (λ z. ConstructorsAreNew z (constructors_of (drop (i + 1) types))) here (both.0 (whole.1 r)).1))

pub no_constructors : (olds : List (List ℕ)) (types : List ObcType) (i : ℕ) (d : ObcType) (R : Type 0) → ConstructorsAreNew olds (constructors_of (drop i types)) ↔ R → i < length types → (ConstructorsAreNew olds (get_or types i d).cons → ⊥) → Decides false R
no_constructors olds types i d R h l n =
    let whole : ConstructorsAreNew olds ((get_or types i d).cons ++ constructors_of (drop (i + 1) types)) ↔ R = subst (λ z. ConstructorsAreNew olds (constructors_of z) ↔ R) (drop_more types i d l) h in
    let both = each_append (λ (x : List ℕ). x) (IsNew is_constructor) olds (get_or types i d).cons (constructors_of (drop (i + 1) types)) in
    ((λ e. absurd cc), (λ r. absurd (n (both.0 (whole.1 r)).0)))

pub keys-more : (es fs : List (List ℕ × ℕ)) (n : ℕ) (xs : List (List ℕ)) → fs ≡ es ++ all_at n xs → keys fs ≡ keys es ++ xs
keys-more es fs n xs h = ap keys h ∙ map-append (λ (e : List ℕ × ℕ). e.0) es (all_at n xs) ∙ ap (λ z. keys es ++ z) (same xs)
  where
    same : (xs : List (List ℕ)) → keys (all_at n xs) ≡ xs
    same [] = refl
    same (x ∷ xs) = ap (λ z. x ∷ z) (same xs)

pub held_next : (es fs whole : List (List ℕ × ℕ)) (types : List ObcType) (i : ℕ) (d : ObcType) → es ++ held i (drop i types) ≡ whole → i < length types → fs ≡ es ++ all_at i (get_or types i d).cons → fs ++ held (i + 1) (drop (i + 1) types) ≡ whole
held_next es fs whole types i d h l e =
    ap (λ z. z ++ held (i + 1) (drop (i + 1) types)) e
    ∙ append_assoc es (all_at i (get_or types i d).cons) (held (i + 1) (drop (i + 1) types))
    ∙ ap (λ n. es ++ (all_at i (get_or types i d).cons ++ held n (drop (i + 1) types))) (one_more i)
    ∙ ap (λ z. es ++ held i z) (sym (drop_more types i d l)) ∙ h
  where
    one_more : (i : ℕ) → i + 1 ≡ suc i
    one_more i = omega arith

-- ---- how many constructors there are

pub count_past : (types : List ObcType) (n : ℕ) → length types ≤ n → 0 ≡ length (cons_at types n)
count_past [] n h = refl
count_past (t ∷ types) zero h = absurd (omega (arith, h))
count_past (t ∷ types) (suc n) h = count_past types n (omega (arith, h))

pub count_within : (types : List ObcType) (n : ℕ) (d : ObcType) → n < length types → length (get_or types n d).cons ≡ length (cons_at types n)
count_within [] n d h = absurd (omega (arith, h))
count_within (t ∷ types) zero d h = refl
count_within (t ∷ types) (suc n) d h = count_within types n d (omega (arith, h))
