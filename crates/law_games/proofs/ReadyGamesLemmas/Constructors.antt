-- In a program whose names are well used each constructor is of one type.
use Rattle.std.proofs.Common.{◌≡◌, ℕ, zero, suc, List, [], ◌∷◌, refl, sym, ap, subst, ◌∙◌, arith}
use Rattle.std.specs.Prelude.{⊤, Bool, true, false, if◌then◌else◌, Some, Contains}
use Rattle.std.specs.Str.{bytes_eq}
use Rattle.hp_base.specs.declared.span.Span.{Span}
use Rattle.hp_base.specs.declared.ty.Ty.TheVariants as ty
use Rattle.hp_tree.specs.declared.program.Item.{Item}
use Rattle.hp_tree.specs.declared.program.Item.TheVariants.{TypeItem, NodeItem}
use Rattle.hp_tree.specs.Programs.{TypeDecl}
use Rattle.hp_tree.specs.Operators.{place_in}
use Rattle.hp_tree.specs.Meaning.{types_of}
use Rattle.hp_tree.specs.Values.{constructors_of}
use Rattle.hp_tree.specs.ExpressionTypes.{type_with, some_place}
use Rattle.hp_names.specs.Names.{with_name, with_names, names_at}
use Rattle.hp_names.specs.Scopes.{nothing, behind}
use Rattle.hp_names.specs.Rules.{AreNew, ItemsAreNamed, WellNamed}
use Rattle.law_judged.specs.Typed.Scopes.{NameScope}
use Rattle.law_judged.proofs.NamedLemmas.Sets.{same_name, name_same, kept_name, new_name}
use Rattle.law_games.specs.Settled.Laws.{OwnsConstructors}

-- ---- names that are new

none_there : (c : List ℕ) → Contains [] c → ⊥
none_there c h = let l = h.1 in absurd (omega arith)

kept_names : (names : List (List ℕ)) (at : Span) (cs : List (List ℕ)) (c : List ℕ) → Contains names c → Contains (with_names names (names_at at cs)) c
kept_names names at [] c h = h
kept_names names at (d ∷ cs) c h = kept_names (with_name names d) at cs c (kept_name names d c h)

new_names : (names : List (List ℕ)) (at : Span) (cs : List (List ℕ)) (c : List ℕ) → Contains cs c → Contains (with_names names (names_at at cs)) c
new_names names at [] c h = absurd (none_there c h)
new_names names at (d ∷ cs) c (zero, l, e) = subst (λ z. Contains (with_names (with_name names d) (names_at at cs)) z) e (kept_names (with_name names d) at cs d (new_name names d))
new_names names at (d ∷ cs) c (suc k, l, e) = new_names (with_name names d) at cs c (k, omega arith, e)

pub not_known : (names : List (List ℕ)) (at : Span) (cs : List (List ℕ)) (c : List ℕ) → AreNew names (names_at at cs) → Contains names c → Contains cs c → ⊥
not_known names at [] c n h k = none_there c k
not_known names at (d ∷ cs) c n h (zero, l, e) = n.0 (subst (λ z. Contains names z) (sym e) h)
not_known names at (d ∷ cs) c n h (suc k, l, e) = not_known (with_name names d) at cs c n.1 (kept_name names d c h) (k, omega arith, e)

-- ---- a constructor that none of some types has, and types with constructors of their own

abbrev pub NoneHas : List ℕ → List TypeDecl → Type 0
NoneHas c [] = ⊤
NoneHas c (d ∷ ds) = (Contains d.cons c → ⊥) × NoneHas c ds

abbrev pub HaveOwn : List TypeDecl → Type 0
HaveOwn [] = ⊤
HaveOwn (d ∷ ds) = ((c : List ℕ) → Contains d.cons c → NoneHas c ds) × HaveOwn ds

none_later : (items : List Item) (s : NameScope) (c : List ℕ) → ItemsAreNamed s items → Contains s.constructors c → NoneHas c (types_of items)
none_later [] s c h k = tt
none_later (TypeItem t ∷ items) s c h k = (
  (λ g. not_known s.constructors t.span t.cons c h.0.1 k g),
  none_later items (behind s (TypeItem t)) c h.1 (kept_names s.constructors t.span t.cons c k),
)
none_later (NodeItem n ∷ items) s c h k = none_later items (behind s (NodeItem n)) c h.1 k

pub have_own : (items : List Item) (s : NameScope) → ItemsAreNamed s items → HaveOwn (types_of items)
have_own [] s h = tt
have_own (TypeItem t ∷ items) s h = (
  (λ c k. none_later items (behind s (TypeItem t)) c h.1 (new_names s.constructors t.span t.cons c k)),
  have_own items (behind s (TypeItem t)) h.1,
)
have_own (NodeItem n ∷ items) s h = have_own items (behind s (NodeItem n)) h.1

-- ---- so each has its type

placed : (k : ℕ) (cs : List (List ℕ)) (c : List ℕ) → Contains cs c → some_place (place_in k cs c) ≡ true
placed k [] c h = absurd (none_there c h)
placed k (d ∷ cs) c (zero, l, e) = ap (λ (b : Bool). some_place (if b then Some k else place_in (suc k) cs c)) (name_same d c e)
placed k (d ∷ cs) c (suc j, l, e) = by (bytes_eq d c) (placed (suc k) cs c (j, omega arith, e))
  where
    by : (b : Bool) → some_place (place_in (suc k) cs c) ≡ true → some_place (if b then Some k else place_in (suc k) cs c) ≡ true
    by true h = refl
    by false h = h

pub there : (k : ℕ) (cs : List (List ℕ)) (c : List ℕ) → some_place (place_in k cs c) ≡ true → Contains cs c
there k [] c h = absurd (cc)
there k (d ∷ cs) c h = by (bytes_eq d c) refl h (there (suc k) cs c)
  where
    by : (b : Bool) → bytes_eq d c ≡ b → some_place (if b then Some k else place_in (suc k) cs c) ≡ true → (some_place (place_in (suc k) cs c) ≡ true → Contains cs c) → Contains (d ∷ cs) c
    by true e h f = (0, omega arith, same_name d c e)
    by false e h f = let g = f h in (suc g.0, (let l = g.1 in omega arith), g.2)

-- a constructor of a type among some is had by one of them
pub had : (ds : List TypeDecl) (t c : List ℕ) → Contains (constructors_of ds t) c → NoneHas c ds → ⊥
had [] t c h n = none_there c h
had (d ∷ ds) t c h n = by (bytes_eq d.name t) h (λ k. had ds t c k n.1)
  where
    by : (b : Bool) → Contains (if b then d.cons else constructors_of ds t) c → (Contains (constructors_of ds t) c → ⊥) → ⊥
    by true k f = n.0 k
    by false k f = f k

owned : (ds : List TypeDecl) → HaveOwn ds → (t c : List ℕ) → Contains (constructors_of ds t) c → type_with ds c ≡ ty.Enum t
owned [] o t c h = absurd (none_there c h)
owned (d ∷ ds) o t c h = by (bytes_eq d.name t) refl h (some_place (place_in 0 d.cons c)) refl (owned ds o.1 t c)
  where
    by : (b : Bool) → bytes_eq d.name t ≡ b → Contains (if b then d.cons else constructors_of ds t) c → (p : Bool) → some_place (place_in 0 d.cons c) ≡ p → (Contains (constructors_of ds t) c → type_with ds c ≡ ty.Enum t)
        → (if some_place (place_in 0 d.cons c) then ty.Enum d.name else type_with ds c) ≡ ty.Enum t
    by true e k true p f = ap (λ (b : Bool). if b then ty.Enum d.name else type_with ds c) p ∙ ap ty.Enum (same_name d.name t e)
    by true e k false p f = let q = placed 0 d.cons c k in absurd (let r : true ≡ false = sym q ∙ p in cc)
    by false e k true p f = absurd (had ds t c k (o.0 c (there 0 d.cons c p)))
    by false e k false p f = ap (λ (b : Bool). if b then ty.Enum d.name else type_with ds c) p ∙ f k

pub owns_constructors : (program : List Item) → WellNamed program → (t : List ℕ) → OwnsConstructors (types_of program) (ty.Enum t)
owns_constructors program h t c k = owned (types_of program) (have_own program nothing h) t c k
