-- The types of a program that may be read and whose names are well used have form.
use Rattle.std.proofs.Common.{◌≡◌, ℕ, suc, ◌≤◌, false, List, [], ◌∷◌, ◌++◌, length, map, Option, Some, Contains, refl, sym, ap, subst, arith}
use Rattle.std.specs.Prelude.{IsTrue}
use Rattle.std.specs.List.{All, AllByRecursion, IsDistinct}
use Rattle.std.specs.Str.{bytes_eq}
use Rattle.std.proofs.lemmas.List.Elements.{All-nil, All-cons, All-append}
use Rattle.std.proofs.lemmas.Map.Keys.{IsDistinct-head, IsDistinct-tail, IsDistinct-cons}
use Rattle.hp_base.specs.declared.span.Span.{Span}
use Rattle.hp_lexer.specs.Written.{Written}
use Rattle.hp_lexer.specs.declared.token.Sign.TheVariants as mark
use Rattle.hp_tree.specs.declared.program.Item.{Item}
use Rattle.hp_tree.specs.declared.program.Item.TheVariants.{TypeItem, NodeItem}
use Rattle.hp_print.specs.Tokens.{sign, led_by, joined_by}
use Rattle.hp_print.specs.ProgramTokens.{constructor_tokens, item_tokens, program_tokens}
use Rattle.hp_print.proofs.Writable.{Writable}
use Rattle.hp_print.proofs.Readable.{Each, GoodConstructors, GoodItem, count_types, GoodProgram}
use Rattle.hp_names.specs.Names.{with_name, with_names, names_at}
use Rattle.hp_names.specs.Scopes.{behind}
use Rattle.hp_names.specs.Rules.{AreNew, ItemsAreNamed}
use Rattle.law_judged.specs.Named.Scopes.{NameScope}
use Rattle.law_judged.proofs.NamedLemmas.Sets.{kept_name, new_name}
use Rattle.hp_obc.specs.Machines.{ObcType}
use Rattle.hp_obc.specs.Form.{is_name, is_constructor, constructors_of, HasConstructors, TypesForm}
use Rattle.law_equations.specs.Made.Types.{obc_type_of, obc_types_of}
use Rattle.law_wellmade.proofs.SpelledLemmas.Letters.{differ, small_named, capital_named}

-- ---- names that are new, one after the other, differ

abbrev AreFresh : List (List ℕ) → List (List ℕ) → Type 0
AreFresh names ys = AllByRecursion (λ y. Contains names y → ⊥) ys

abbrev AreApart : List (List ℕ) → List (List ℕ) → Type 0
AreApart xs ys = AllByRecursion (λ x. AllByRecursion (λ y. bytes_eq x y ≡ false) ys) xs

fresh_before : (names : List (List ℕ)) (x : List ℕ) (ys : List (List ℕ)) → AreFresh (with_name names x) ys → AreFresh names ys
fresh_before names x [] h = tt
fresh_before names x (y ∷ ys) h = ((λ c. h.0 (kept_name names x y c)), fresh_before names x ys h.1)

fresh_both : (names : List (List ℕ)) (xs ys : List (List ℕ)) → AreFresh names xs → AreFresh names ys → AreFresh names (xs ++ ys)
fresh_both names [] ys h k = k
fresh_both names (x ∷ xs) ys h k = (h.0, fresh_both names xs ys h.1 k)

-- a name that is known is none of those that are fresh
known_apart : (names : List (List ℕ)) (x : List ℕ) (ys : List (List ℕ)) → Contains names x → AreFresh names ys → AllByRecursion (λ y. bytes_eq x y ≡ false) ys
known_apart names x [] c h = tt
known_apart names x (y ∷ ys) c h = (differ x y (λ e. h.0 (subst (Contains names) e c)), known_apart names x ys c h.1)

distinct_both : (xs ys : List (List ℕ)) → IsDistinct bytes_eq xs → IsDistinct bytes_eq ys → AreApart xs ys → IsDistinct bytes_eq (xs ++ ys)
distinct_both [] ys h k a = k
distinct_both (x ∷ xs) ys h k a =
    IsDistinct-cons bytes_eq x (xs ++ ys) (both xs ys (IsDistinct-head bytes_eq x xs h) a.0) (distinct_both xs ys (IsDistinct-tail bytes_eq x xs h) k a.1)
  where
    both : (zs ws : List (List ℕ)) → AllByRecursion (λ y. bytes_eq x y ≡ false) zs → AllByRecursion (λ y. bytes_eq x y ≡ false) ws → AllByRecursion (λ y. bytes_eq x y ≡ false) (zs ++ ws)
    both [] ws p q = q
    both (z ∷ zs) ws p q = (p.0, both zs ws p.1 q)

none_differ : IsDistinct bytes_eq []
unfolding IsDistinct
none_differ = tt

module _ (at : Span) where
  kept_names : (names xs : List (List ℕ)) (y : List ℕ) → Contains names y → Contains (with_names names (names_at at xs)) y
  kept_names names [] y c = c
  kept_names names (x ∷ xs) y c = kept_names (with_name names x) xs y (kept_name names x y c)

  new_fresh : (names xs : List (List ℕ)) → AreNew names (names_at at xs) → AreFresh names xs
  new_fresh names [] h = tt
  new_fresh names (x ∷ xs) h = (h.0, fresh_before names x xs (new_fresh (with_name names x) xs h.1))

  new_distinct : (names xs : List (List ℕ)) → AreNew names (names_at at xs) → IsDistinct bytes_eq xs
  new_distinct names [] h = none_differ
  new_distinct names (x ∷ xs) h =
      IsDistinct-cons bytes_eq x xs (known_apart (with_name names x) x xs (new_name names x) (new_fresh (with_name names x) xs h.1)) (new_distinct (with_name names x) xs h.1)

  fresh_behind : (names xs ys : List (List ℕ)) → AreFresh (with_names names (names_at at xs)) ys → AreFresh names ys
  fresh_behind names [] ys h = h
  fresh_behind names (x ∷ xs) ys h = fresh_before names x ys (fresh_behind (with_name names x) xs ys h)

  behind_apart : (names xs ys : List (List ℕ)) → AreFresh (with_names names (names_at at xs)) ys → AreApart xs ys
  behind_apart names [] ys h = tt
  behind_apart names (x ∷ xs) ys h =
      (known_apart (with_names (with_name names x) (names_at at xs)) x ys (kept_names (with_name names x) xs x (new_name names x)) h, behind_apart (with_name names x) xs ys h)

-- ---- the names of types and constructors of a program differ

abbrev type_names : List Item → List (List ℕ)
type_names items = map (λ (t : ObcType). t.name) (obc_types_of items)

abbrev constructors : List Item → List (List ℕ)
constructors items = constructors_of (obc_types_of items)

types_fresh : (s : NameScope) (items : List Item) → ItemsAreNamed s items → AreFresh s.types (type_names items)
types_fresh s [] h = tt
types_fresh s (TypeItem t ∷ items) h = (h.0.0, fresh_before s.types t.name (type_names items) (types_fresh (behind s (TypeItem t)) items h.1))
types_fresh s (NodeItem n ∷ items) h = types_fresh (behind s (NodeItem n)) items h.1

types_differ : (s : NameScope) (items : List Item) → ItemsAreNamed s items → IsDistinct bytes_eq (type_names items)
types_differ s [] h = none_differ
types_differ s (TypeItem t ∷ items) h =
    IsDistinct-cons bytes_eq t.name (type_names items) (known_apart (with_name s.types t.name) t.name (type_names items) (new_name s.types t.name) (types_fresh (behind s (TypeItem t)) items h.1))
    (types_differ (behind s (TypeItem t)) items h.1)
types_differ s (NodeItem n ∷ items) h = types_differ (behind s (NodeItem n)) items h.1

constructors_fresh : (s : NameScope) (items : List Item) → ItemsAreNamed s items → AreFresh s.constructors (constructors items)
constructors_fresh s [] h = tt
constructors_fresh s (TypeItem t ∷ items) h =
    fresh_both s.constructors t.cons (constructors items) (new_fresh t.span s.constructors t.cons h.0.1)
    (fresh_behind t.span s.constructors t.cons (constructors items) (constructors_fresh (behind s (TypeItem t)) items h.1))
constructors_fresh s (NodeItem n ∷ items) h = constructors_fresh (behind s (NodeItem n)) items h.1

constructors_differ : (s : NameScope) (items : List Item) → ItemsAreNamed s items → IsDistinct bytes_eq (constructors items)
constructors_differ s [] h = none_differ
constructors_differ s (TypeItem t ∷ items) h =
    distinct_both t.cons (constructors items) (new_distinct t.span s.constructors t.cons h.0.1) (constructors_differ (behind s (TypeItem t)) items h.1)
    (behind_apart t.span s.constructors t.cons (constructors items) (constructors_fresh (behind s (TypeItem t)) items h.1))
constructors_differ s (NodeItem n ∷ items) h = constructors_differ (behind s (NodeItem n)) items h.1

-- ---- they are spelled as names and constructors

behind_tokens : (a b : List Written) → Writable (a ++ b) → Writable b
behind_tokens [] b h = h
behind_tokens (w ∷ a) b h = behind_tokens a b h.1

before_tokens : (a b : List Written) → Writable (a ++ b) → Writable a
before_tokens [] b h = tt
before_tokens (w ∷ a) b h = (h.0, before_tokens a b h.1)

abbrev AreConstructors : List (List ℕ) → Type 0
AreConstructors xs = All (λ x. IsTrue (is_constructor x)) xs

led_spelled : (w : Written) (xs : List (List ℕ)) → Writable (led_by w (map constructor_tokens xs)) → AreConstructors xs
led_spelled w [] h = All-nil (λ x. IsTrue (is_constructor x))
led_spelled w (x ∷ xs) h = All-cons (λ x. IsTrue (is_constructor x)) x xs (capital_named x h.1.0) (led_spelled w xs h.1.1)

joined_spelled : (w : Written) (xs : List (List ℕ)) → Writable (joined_by w (map constructor_tokens xs)) → AreConstructors xs
joined_spelled w [] h = All-nil (λ x. IsTrue (is_constructor x))
joined_spelled w (x ∷ xs) h = All-cons (λ x. IsTrue (is_constructor x)) x xs (capital_named x h.0) (led_spelled w xs h.1)

names_spelled : (items : List Item) → Writable (program_tokens items) → All (λ x. IsTrue (is_name x)) (type_names items)
names_spelled [] h = All-nil (λ x. IsTrue (is_name x))
names_spelled (TypeItem t ∷ items) h =
    All-cons (λ x. IsTrue (is_name x)) t.name (type_names items) (small_named t.name h.1.0) (names_spelled items (behind_tokens (item_tokens (TypeItem t)) (program_tokens items) h))
names_spelled (NodeItem n ∷ items) h = names_spelled items (behind_tokens (item_tokens (NodeItem n)) (program_tokens items) h)

constructors_spelled : (items : List Item) → Writable (program_tokens items) → AreConstructors (constructors items)
constructors_spelled [] h = All-nil (λ x. IsTrue (is_constructor x))
constructors_spelled (TypeItem t ∷ items) h =
    All-append (λ x. IsTrue (is_constructor x)) t.cons (constructors items)
    (joined_spelled (sign mark.Bar) t.cons (before_tokens (joined_by (sign mark.Bar) (map constructor_tokens t.cons)) (program_tokens items) h.1.1.1))
    (constructors_spelled items (behind_tokens (item_tokens (TypeItem t)) (program_tokens items) h))
constructors_spelled (NodeItem n ∷ items) h = constructors_spelled items (behind_tokens (item_tokens (NodeItem n)) (program_tokens items) h)

-- ---- how many there are

counted : (items : List Item) → length (obc_types_of items) ≡ count_types items
counted [] = refl
counted (TypeItem t ∷ items) = ap suc (counted items)
counted (NodeItem n ∷ items) = counted items

few : (xs : List (List ℕ)) → GoodConstructors (Some 63) xs → (1 ≤ length xs) × (length xs ≤ 64)
few [] h = absurd h
few (x ∷ xs) h = (omega arith, omega (arith, h))

all_few : (d nested : ℕ) (inputs outputs : Option ℕ) (items : List Item) → Each (GoodItem d nested inputs outputs (Some 63)) items → All HasConstructors (obc_types_of items)
all_few d nested inputs outputs [] h = All-nil HasConstructors
all_few d nested inputs outputs (TypeItem t ∷ items) h =
    All-cons HasConstructors (obc_type_of t) (obc_types_of items) (few t.cons h.0) (all_few d nested inputs outputs items h.1)
all_few d nested inputs outputs (NodeItem n ∷ items) h = all_few d nested inputs outputs items h.1

pub types_form : (d nested : ℕ) (inputs outputs : Option ℕ) (scope : NameScope) (items : List Item) → GoodProgram d nested (Some 1000) inputs outputs (Some 63) items
    → Writable (program_tokens items) → ItemsAreNamed scope items → TypesForm (obc_types_of items)
types_form d nested inputs outputs scope items g w n = record {
  number = subst (λ k. k ≤ 1000) (sym (counted items)) g.1;
  names = (names_spelled items w, types_differ scope items n);
  counts = all_few d nested inputs outputs items g.0;
  constructors = constructors_spelled items w;
  distinct = constructors_differ scope items n;
}
