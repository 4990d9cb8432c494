-- Sets of names.
use Rattle.std.proofs.Common.{◌≡◌, ℕ, zero, suc, ◌<◌, ◌⊎◌, inl, inr, ⊎_elim, Bool, true, false, ◌||◌, List, [], ◌∷◌, ◌++◌, Contains, refl, sym, subst, arith}
use Rattle.std.specs.Prelude.{IsTrue, ◌&&◌, not, if◌then◌else◌, Option, None, Some}
use Rattle.std.specs.Str.{bytes_eq}
use Rattle.std.proofs.lemmas.Slice.Eq.{bytes_eq-Decides}
use Rattle.std.proofs.lemmas.List.Elements.{Contains-append_cases, Contains-append_left, Contains-append_right}
use Rattle.hp_base.specs.declared.ty.Const.{Const}
use Rattle.hp_tree.specs.Blocks.{Decl}
use Rattle.hp_tree.specs.Meaning.{declares}
use Rattle.hp_names.specs.Names.{has, with_name, declared_names}
use Rattle.hp_names.specs.Scopes.{with_variable, with_variables}
use Rattle.law_judged.specs.Named.Scopes.{NameScope}
use Rattle.hp_names.specs.Rules.{AreNew}
use Rattle.hp_names.proofs.RuleLaws.{Contains-has}
use Rattle.hp_meaning.specs.Clocking.Clocking.{AreOnce}
use Rattle.law_judged.specs.Named.Scoped.{Names, also, AreFresh}

-- ---- Booleans

pub or_cases : (a b : Bool) → IsTrue (a || b) → IsTrue a ⊎ IsTrue b
or_cases true b h = inl refl
or_cases false b h = inr h

pub or_left : (a b : Bool) → IsTrue a → IsTrue (a || b)
or_left true b h = refl
or_left false b h = absurd (cc h)

pub or_right : (a b : Bool) → IsTrue b → IsTrue (a || b)
or_right true b h = refl
or_right false b h = h

pub false_if : (a : Bool) → (IsTrue a → ⊥) → a ≡ false
false_if true h = absurd (h refl)
false_if false h = refl

pub both_true : (a b : Bool) → IsTrue a → (IsTrue b → ⊥) → IsTrue (a && not b)
both_true a true h k = absurd (k refl)
both_true true false h k = refl
both_true false false h k = absurd (cc h)

pub first_true : (a b : Bool) → IsTrue (a && not b) → IsTrue a
first_true true b h = refl
first_true false b h = absurd (cc h)

pub second_false : (a b : Bool) → IsTrue (a && not b) → IsTrue b → ⊥
second_false true true h k = absurd (cc h)
second_false true false h k = absurd (cc k)
second_false false b h k = absurd (cc h)

pub same_name : (x y : List ℕ) → IsTrue (bytes_eq x y) → x ≡ y
same_name x y h = (bytes_eq-Decides x y).0 h

pub name_same : (x y : List ℕ) → x ≡ y → IsTrue (bytes_eq x y)
name_same x y h = (bytes_eq-Decides x y).1 h

-- ---- names that are known, and one more

one_name : (y x : List ℕ) → Contains (y ∷ []) x → y ≡ x
one_name y x (zero, h, e) = e
one_name y x (suc k, h, e) = absurd (omega (arith, h))

the_one : (y : List ℕ) → Contains (y ∷ []) y
the_one y = let h : 0 < 1 = omega arith in (0, h, refl)

pub kept_name : (names : List (List ℕ)) (y x : List ℕ) → Contains names x → Contains (with_name names y) x
kept_name names y x h = by (has names y)
  where
    by : (known : Bool) → Contains (if known then names else names ++ y ∷ []) x
    by true = h
    by false = Contains-append_left names (y ∷ []) x h

pub new_name : (names : List (List ℕ)) (y : List ℕ) → Contains (with_name names y) y
new_name names y = by (has names y) (Contains-has names y)
  where
    by : (known : Bool) → (known ≡ true → Contains names y) → Contains (if known then names else names ++ y ∷ []) y
    by true h = h refl
    by false h = Contains-append_right names (y ∷ []) y (the_one y)

name_cases : (names : List (List ℕ)) (y x : List ℕ) → Contains (with_name names y) x → (y ≡ x) ⊎ Contains names x
name_cases names y x h = by (has names y) h
  where
    last : Contains names x ⊎ Contains (y ∷ []) x → (y ≡ x) ⊎ Contains names x
    last (inl k) = inr k
    last (inr k) = inl (one_name y x k)

    by : (known : Bool) → Contains (if known then names else names ++ y ∷ []) x → (y ≡ x) ⊎ Contains names x
    by true k = inr k
    by false k = last (Contains-append_cases names (y ∷ []) x k)

-- ---- variables in scope

one_more : (s : NameScope) (d : Decl) (first : Option Const) → (with_variable s d first).variables ≡ with_name s.variables d.name
one_more s d None = refl
one_more s d (Some first) = refl

pub kept_variable : (s : NameScope) (ds : List Decl) (x : List ℕ) → Contains s.variables x → Contains (with_variables s ds).variables x
kept_variable s [] x h = h
kept_variable s (d ∷ ds) x h =
    kept_variable (with_variable s d d.last) ds x (subst (λ z. Contains z x) (sym (one_more s d d.last)) (kept_name s.variables d.name x h))

pub new_variable : (s : NameScope) (ds : List Decl) (x : List ℕ) → IsTrue (declares ds x) → Contains (with_variables s ds).variables x
new_variable s [] x h = absurd (cc h)
new_variable s (d ∷ ds) x h =
    ⊎_elim (λ k. kept_variable (with_variable s d d.last) ds x (here (same_name d.name x k))) (λ k. new_variable (with_variable s d d.last) ds x k)
    (or_cases (bytes_eq d.name x) (declares ds x) h)
  where
    here : d.name ≡ x → Contains (with_variable s d d.last).variables x
    here e = subst (λ z. Contains z x) (sym (one_more s d d.last)) (subst (λ z. Contains (with_name s.variables d.name) z) e (new_name s.variables d.name))

pub variable_cases : (s : NameScope) (ds : List Decl) (x : List ℕ) → Contains (with_variables s ds).variables x → IsTrue (declares ds x) ⊎ Contains s.variables x
variable_cases s [] x h = inr h
variable_cases s (d ∷ ds) x h = by (variable_cases (with_variable s d d.last) ds x h)
  where
    before : (d.name ≡ x) ⊎ Contains s.variables x → IsTrue (declares (d ∷ ds) x) ⊎ Contains s.variables x
    before (inl e) = inl (or_left (bytes_eq d.name x) (declares ds x) (name_same d.name x e))
    before (inr k) = inr k

    by : IsTrue (declares ds x) ⊎ Contains (with_variable s d d.last).variables x → IsTrue (declares (d ∷ ds) x) ⊎ Contains s.variables x
    by (inl k) = inl (or_right (bytes_eq d.name x) (declares ds x) k)
    by (inr k) = before (name_cases s.variables d.name x (subst (λ z. Contains z x) (one_more s d d.last) k))

-- The names that are seen are the variables in scope.
abbrev pub Sees : NameScope → Names → Type 0
Sees s seen = ((x : List ℕ) → Contains s.variables x → IsTrue (seen x)) × ((x : List ℕ) → IsTrue (seen x) → Contains s.variables x)

pub sees_more : (s : NameScope) (seen : Names) (ds : List Decl) → Sees s seen → Sees (with_variables s ds) (also seen ds)
sees_more s seen ds k = (λ x h. in_scope x (variable_cases s ds x h), λ x h. seen_there x (or_cases (declares ds x) (seen x) h))
  where
    in_scope : (x : List ℕ) → IsTrue (declares ds x) ⊎ Contains s.variables x → IsTrue (also seen ds x)
    in_scope x (inl h) = or_left (declares ds x) (seen x) h
    in_scope x (inr h) = or_right (declares ds x) (seen x) (k.0 x h)

    seen_there : (x : List ℕ) → IsTrue (declares ds x) ⊎ IsTrue (seen x) → Contains (with_variables s ds).variables x
    seen_there x (inl h) = new_variable s ds x h
    seen_there x (inr h) = kept_variable s ds x (k.1 x h)

-- ---- new names

new_apart : (names : List (List ℕ)) (ds : List Decl) → AreNew names (declared_names ds) → (x : List ℕ) → IsTrue (declares ds x) → Contains names x → ⊥
new_apart names [] n x h k = absurd (cc h)
new_apart names (d ∷ ds) n x h k =
    ⊎_elim (λ e. n.0 (subst (λ z. Contains names z) (sym (same_name d.name x e)) k)) (λ l. new_apart (with_name names d.name) ds n.1 x l (kept_name names d.name x k))
    (or_cases (bytes_eq d.name x) (declares ds x) h)

pub new_once : (names : List (List ℕ)) (ds : List Decl) → AreNew names (declared_names ds) → AreOnce ds
new_once names [] n = tt
new_once names (d ∷ ds) n = (
  false_if (declares ds d.name) (λ h. new_apart (with_name names d.name) ds n.1 d.name h (new_name names d.name)),
  new_once (with_name names d.name) ds n.1,
)

pub new_fresh : (s : NameScope) (seen : Names) (ds : List Decl) → Sees s seen → AreNew s.variables (declared_names ds) → AreFresh seen ds
new_fresh s seen ds k n x h l = new_apart s.variables ds n x h (k.1 x l)

pub declares_append : (ds es : List Decl) (x : List ℕ) → declares (ds ++ es) x ≡ (declares ds x || declares es x)
declares_append [] es x = refl
declares_append (d ∷ ds) es x = tie (bytes_eq d.name x) (declares_append ds es x)
  where
    tie : (b : Bool) → declares (ds ++ es) x ≡ (declares ds x || declares es x) → (b || declares (ds ++ es) x) ≡ ((b || declares ds x) || declares es x)
    tie true h = refl
    tie false h = h

-- Names that are new behind others.
pub once_append : (ds es : List Decl) → AreOnce ds → AreOnce es → AreFresh (declares ds) es → AreOnce (ds ++ es)
once_append [] es o p f = p
once_append (d ∷ ds) es o p f = (
  false_if (declares (ds ++ es) d.name) (λ h. by (or_cases (declares ds d.name) (declares es d.name) (subst IsTrue (declares_append ds es d.name) h))),
  once_append ds es o.1 p (λ x h k. f x h (or_right (bytes_eq d.name x) (declares ds x) k)),
)
  where
    by : IsTrue (declares ds d.name) ⊎ IsTrue (declares es d.name) → ⊥
    by (inl h) = absurd (cc (sym o.0, h))
    by (inr h) = f d.name h (or_left (bytes_eq d.name d.name) (declares ds d.name) (name_same d.name d.name refl))
