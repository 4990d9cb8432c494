-- In a program whose names are well used no constructor stands twice, and constructors are known by their types.
use Rattle.std.proofs.Common.{◌≡◌, ◌⊎◌, inl, inr, ℕ, suc, List, [], ◌∷◌, ◌++◌, refl, sym, ap, subst, ◌∙◌}
use Rattle.std.specs.Prelude.{Bool, true, false, ◌||◌, is_some, if◌then◌else◌, IsTrue, Option, None, Some}
use Rattle.std.specs.List.{AllByRecursion, Contains, IsDistinct, list_any}
use Rattle.std.specs.Str.{bytes_eq}
use Rattle.std.proofs.lemmas.Slice.Eq.{bytes_eq-Decides}
use Rattle.hp_base.specs.declared.span.Span.{Span}
use Rattle.hp_base.specs.declared.ty.Ty.{Ty}
use Rattle.hp_base.specs.declared.ty.Ty.TheVariants as ty
use Rattle.hp_base.specs.declared.value.Value.TheVariants.{E}
use Rattle.hp_tree.specs.declared.decl.Cons.{Cons}
use Rattle.hp_tree.specs.declared.decl.Cons.TheVariants as cons
use Rattle.hp_tree.specs.declared.program.Item.{Item}
use Rattle.hp_tree.specs.declared.program.Item.TheVariants.{TypeItem, NodeItem}
use Rattle.hp_tree.specs.Blocks.{Decl}
use Rattle.hp_tree.specs.Programs.{TypeDecl, Node}
use Rattle.hp_tree.specs.Operators.{place_in, or_later, constructor_from, cons_of}
use Rattle.hp_tree.specs.Values.{constructors_of, IsOf}
use Rattle.hp_tree.specs.Meaning.{types_of}
use Rattle.hp_base.specs.Known.Known.{lookup, with_entry}
use Rattle.hp_names.specs.Names.{has, with_name, with_names, names_at}
use Rattle.hp_names.specs.Scopes as names
use Rattle.hp_names.specs.Rules.{AreNew, ItemsAreNamed, WellNamed}
use Rattle.hp_typing.specs.Scopes.{nothing, with_variables, with_constructors, behind}
use Rattle.hp_typing.specs.Types.{cons_type, enum_of}
use Rattle.law_judged.specs.Typed.Scopes.{Scope, NameScope}
use Rattle.law_wellmade.specs.Timely.Tested.{all_constructors, ConstructorsDiffer}
use Rattle.law_wellmade.proofs.TimelyLemmas.KindLaws.{In, to_contains, in_left, in_right, in_all, some_place}

-- ---- names that are known

any_in : (xs : List (List ℕ)) (y : List ℕ) → IsTrue (list_any (bytes_eq y) xs) → In xs y
any_in [] y h = absurd (cc)
any_in (x ∷ xs) y h = by (bytes_eq y x) refl h (any_in xs y)
  where
    by : (b : Bool) → bytes_eq y x ≡ b → IsTrue (b || list_any (bytes_eq y) xs) → (IsTrue (list_any (bytes_eq y) xs) → In xs y) → (x ≡ y) ⊎ In xs y
    by true e h f = inl (sym ((bytes_eq-Decides y x).0 e))
    by false e h f = inr (f h)

name_kept : (xs : List (List ℕ)) (y x : List ℕ) → In xs x → In (with_name xs y) x
name_kept xs y x h = by (has xs y)
  where
    by : (b : Bool) → In (if b then xs else xs ++ y ∷ []) x
    by true = h
    by false = in_left xs (y ∷ []) x h

name_new : (xs : List (List ℕ)) (y : List ℕ) → In (with_name xs y) y
name_new xs y = by (has xs y) refl
  where
    by : (b : Bool) → has xs y ≡ b → In (if b then xs else xs ++ y ∷ []) y
    by true e = any_in xs y e
    by false e = in_right xs (y ∷ []) y (inl refl)

names_kept : (xs cs : List (List ℕ)) (at : Span) (x : List ℕ) → In xs x → In (with_names xs (names_at at cs)) x
names_kept xs [] at x h = h
names_kept xs (c ∷ cs) at x h = names_kept (with_name xs c) cs at x (name_kept xs c x h)

names_new : (xs cs : List (List ℕ)) (at : Span) (x : List ℕ) → In cs x → In (with_names xs (names_at at cs)) x
names_new xs [] at x h = absurd h
names_new xs (c ∷ cs) at x (inl e) = names_kept (with_name xs c) cs at x (subst (λ y. In (with_name xs c) y) e (name_new xs c))
names_new xs (c ∷ cs) at x (inr h) = names_new (with_name xs c) cs at x h

-- ---- no constructor stands twice

all_from : (P : List ℕ → Type 0) (xs : List (List ℕ)) → ((x : List ℕ) → In xs x → P x) → AllByRecursion P xs
all_from P [] f = tt
all_from P (x ∷ xs) f = (f x (inl refl), all_from P xs (λ y h. f y (inr h)))

not_equal : (x y : List ℕ) → (x ≡ y → ⊥) → bytes_eq x y ≡ false
not_equal x y f = by (bytes_eq x y) refl
  where
    by : (b : Bool) → bytes_eq x y ≡ b → b ≡ false
    by true e = absurd (f ((bytes_eq-Decides x y).0 e))
    by false e = refl

distinct_more : (x : List ℕ) (xs : List (List ℕ)) → (In xs x → ⊥) → IsDistinct bytes_eq xs → IsDistinct bytes_eq (x ∷ xs)
unfolding IsDistinct
distinct_more x xs f d = (all_from (λ y. bytes_eq x y ≡ false) xs (λ y h. not_equal x y (λ e. f (subst (λ z. In xs z) (sym e) h))), d)

distinct_none : IsDistinct bytes_eq []
unfolding IsDistinct
distinct_none = tt

in_either : {X : Type 0} (xs ys : List (List ℕ)) (x : List ℕ) → In (xs ++ ys) x → (In xs x → X) → (In ys x → X) → X
in_either {X} [] ys x h f g = g h
in_either {X} (z ∷ xs) ys x (inl e) f g = f (inl e)
in_either {X} (z ∷ xs) ys x (inr h) f g = in_either xs ys x h (λ k. f (inr k)) g

new_names : (known cs : List (List ℕ)) (at : Span) → AreNew known (names_at at cs) → (x : List ℕ) → In cs x → In known x → ⊥
new_names known [] at n x h k = h
new_names known (c ∷ cs) at n x (inl e) k = n.0 (to_contains known c (subst (λ y. In known y) (sym e) k))
new_names known (c ∷ cs) at n x (inr h) k = new_names (with_name known c) cs at n.1 x h (name_kept known c x k)

new_distinct : (known cs ys : List (List ℕ)) (at : Span) → AreNew known (names_at at cs) → IsDistinct bytes_eq ys → ((x : List ℕ) → In ys x → In (with_names known (names_at at cs)) x → ⊥) → IsDistinct bytes_eq (cs ++ ys)
new_distinct known [] ys at n d f = d
new_distinct known (c ∷ cs) ys at n d f =
    distinct_more c (cs ++ ys)
    (λ h. in_either cs ys c h (λ k. new_names (with_name known c) cs at n.1 c k (name_new known c)) (λ k. f c k (names_kept (with_name known c) cs at c (name_new known c))))
    (new_distinct (with_name known c) cs ys at n.1 d f)

items_differ : (n : NameScope) (items : List Item) → ItemsAreNamed n items → IsDistinct bytes_eq (all_constructors (types_of items)) × ((x : List ℕ) → In (all_constructors (types_of items)) x → In n.constructors x → ⊥)
items_differ n [] h = (distinct_none, λ x k l. k)
items_differ n (TypeItem t ∷ items) h =
    let rest = items_differ (names.behind n (TypeItem t)) items h.1 in (
      new_distinct n.constructors t.cons (all_constructors (types_of items)) t.span h.0.1 rest.0 rest.1,
      λ x k l. in_either t.cons (all_constructors (types_of items)) x k (λ z. new_names n.constructors t.cons t.span h.0.1 x z l) (λ z. rest.1 x z (names_kept n.constructors t.cons t.span x l)),
    )
items_differ n (NodeItem m ∷ items) h = items_differ (names.behind n (NodeItem m)) items h.1

pub differ : (program : List Item) → WellNamed program → ConstructorsDiffer (types_of program)
differ program h = (items_differ names.nothing program h).0

-- ---- entries

some_same : {A : Type 0} (a b : A) → Some a ≡ Some b → a ≡ b
some_same {A} a b h = cc

same_name : (x y : List ℕ) → bytes_eq x y ≡ true → x ≡ y
same_name x y h = (bytes_eq-Decides x y).0 h

name_same : (x y : List ℕ) → x ≡ y → bytes_eq x y ≡ true
name_same x y h = (bytes_eq-Decides x y).1 h

module _ {A : Type 0} where
  append_new : (es : List (List ℕ × A)) (y : List ℕ) (u : A) → lookup es y ≡ None → lookup (es ++ (y, u) ∷ []) y ≡ Some u
  append_new [] y u h = ap (λ b. if b then Some u else None) (name_same y y refl)
  append_new (e ∷ es) y u h = by (bytes_eq y e.0) h (append_new es y u)
    where
      by : (b : Bool) → (if b then Some e.1 else lookup es y) ≡ None → (lookup es y ≡ None → lookup (es ++ (y, u) ∷ []) y ≡ Some u) → (if b then Some e.1 else lookup (es ++ (y, u) ∷ []) y) ≡ Some u
      by true h f = absurd (cc)
      by false h f = f h

  entry_new : (es : List (List ℕ × A)) (y : List ℕ) (u : A) → lookup es y ≡ None → lookup (with_entry es y u) y ≡ Some u
  entry_new es y u h = ap (λ o. lookup (if is_some o then es else es ++ (y, u) ∷ []) y) h ∙ append_new es y u h

  append_cases : {X : Type 0} (es : List (List ℕ × A)) (y : List ℕ) (u : A) (x : List ℕ) (v : A) → lookup (es ++ (y, u) ∷ []) x ≡ Some v → (lookup es x ≡ Some v → X) → ((x ≡ y) → (u ≡ v) → lookup es x ≡ None → X) → X
  append_cases {X} [] y u x v h f g = by (bytes_eq x y) refl h
    where
      by : (b : Bool) → bytes_eq x y ≡ b → (if b then Some u else None) ≡ Some v → X
      by true e k = g (same_name x y e) (some_same u v k) refl
      by false e k = absurd (cc)
  append_cases {X} (e ∷ es) y u x v h f g = by (bytes_eq x e.0) h f g (λ k p q. append_cases es y u x v k p q)
    where
      by : (b : Bool) → (if b then Some e.1 else lookup (es ++ (y, u) ∷ []) x) ≡ Some v → ((if b then Some e.1 else lookup es x) ≡ Some v → X) → ((x ≡ y) → (u ≡ v) → (if b then Some e.1 else lookup es x) ≡ None → X)
          → (lookup (es ++ (y, u) ∷ []) x ≡ Some v → (lookup es x ≡ Some v → X) → ((x ≡ y) → (u ≡ v) → lookup es x ≡ None → X) → X) → X
      by true k f g r = f k
      by false k f g r = r k f g

  entry_cases : {X : Type 0} (es : List (List ℕ × A)) (y : List ℕ) (u : A) (x : List ℕ) (v : A) → lookup (with_entry es y u) x ≡ Some v → (lookup es x ≡ Some v → X) → ((x ≡ y) → (u ≡ v) → lookup es x ≡ None → X) → X
  entry_cases {X} es y u x v h f g = by (is_some (lookup es y)) h
    where
      by : (b : Bool) → lookup (if b then es else es ++ (y, u) ∷ []) x ≡ Some v → X
      by true k = f k
      by false k = append_cases es y u x v k f g

  append_kept : (es fs : List (List ℕ × A)) (x : List ℕ) (v : A) → lookup es x ≡ Some v → lookup (es ++ fs) x ≡ Some v
  append_kept [] fs x v h = absurd (cc)
  append_kept (e ∷ es) fs x v h = by (bytes_eq x e.0) h (append_kept es fs x v)
    where
      by : (b : Bool) → (if b then Some e.1 else lookup es x) ≡ Some v → (lookup es x ≡ Some v → lookup (es ++ fs) x ≡ Some v) → (if b then Some e.1 else lookup (es ++ fs) x) ≡ Some v
      by true h f = h
      by false h f = f h

  entry_kept : (es : List (List ℕ × A)) (y : List ℕ) (u : A) (x : List ℕ) (v : A) → lookup es x ≡ Some v → lookup (with_entry es y u) x ≡ Some v
  entry_kept es y u x v h = by (is_some (lookup es y))
    where
      by : (b : Bool) → lookup (if b then es else es ++ (y, u) ∷ []) x ≡ Some v
      by true = h
      by false = append_kept es ((y, u) ∷ []) x v h

  none_kept : (es : List (List ℕ × A)) (y : List ℕ) (u : A) (x : List ℕ) → lookup (with_entry es y u) x ≡ None → lookup es x ≡ None
  none_kept es y u x z = by (lookup es x) refl
    where
      by : (o : Option A) → lookup es x ≡ o → lookup es x ≡ None
      by None e = e
      by (Some v) e = absurd (let r = sym (entry_kept es y u x v e) ∙ z in cc)

-- the constructor of a name among those of a type: an entry that was there, or one of the new ones
constructor_cases : {X : Type 0} (cs : List (List ℕ)) (known : List (List ℕ × List ℕ)) (t x u : List ℕ) → lookup (with_constructors known t cs) x ≡ Some u → (lookup known x ≡ Some u → X) → (In cs x → (t ≡ u) → X) → X
constructor_cases {X} [] known t x u h f g = f h
constructor_cases {X} (c ∷ cs) known t x u h f g =
    constructor_cases cs (with_entry known c t) t x u h
    (λ k. entry_cases known c t x u k f (λ e w z. g (inl (sym e)) w))
    (λ i w. g (inr i) w)

-- ---- what is known of constructors

-- A constructor that is known is one of its type.
pub record Grounds (types : List TypeDecl) (s : Scope) : Type 0 where
  pub known : (c u : List ℕ) → lookup s.constructors c ≡ Some u → (d : TypeDecl) × (lookup s.types u ≡ Some d) × In d.cons c × (constructors_of types u ≡ d.cons)

pub grounds_more : (types : List TypeDecl) (ds : List Decl) (s : Scope) → Grounds types s → Grounds types (with_variables s ds)
grounds_more types [] s g = g
grounds_more types (d ∷ ds) s g = grounds_more types ds (record s { variables = with_entry s.variables d.name d.ty }) (record { known = g.known })

pub record SoFar (before : List TypeDecl) (n : NameScope) (s : Scope) : Type 0 where
  pub hidden : (x : List ℕ) → lookup s.types x ≡ None → (more : List TypeDecl) → constructors_of (before ++ more) x ≡ constructors_of more x
  pub found : (x : List ℕ) (d : TypeDecl) → lookup s.types x ≡ Some d → (more : List TypeDecl) → constructors_of (before ++ more) x ≡ d.cons
  pub placed : (c t : List ℕ) → lookup s.constructors c ≡ Some t → (d : TypeDecl) × (lookup s.types t ≡ Some d) × In d.cons c
  pub listed : (x : List ℕ) (d : TypeDecl) → lookup s.types x ≡ Some d → In n.types x

pub append_more : {A : Type 0} (xs : List A) (y : A) (zs : List A) → (xs ++ y ∷ []) ++ zs ≡ xs ++ y ∷ zs
append_more {A} [] y zs = refl
append_more {A} (x ∷ xs) y zs = ap (λ r. x ∷ r) (append_more xs y zs)

not_known : (n : NameScope) (s : Scope) (before : List TypeDecl) (x : List ℕ) → SoFar before n s → (Contains n.types x → ⊥) → lookup s.types x ≡ None
not_known n s before x p f = by (lookup s.types x) refl
  where
    by : (o : Option TypeDecl) → lookup s.types x ≡ o → lookup s.types x ≡ None
    by None e = e
    by (Some d) e = absurd (f (to_contains n.types x (p.listed x d e)))

pub so_far_none : SoFar [] names.nothing nothing
so_far_none = record { hidden = λ x h more. refl; found = λ x d h more. absurd (cc); placed = λ c t h. absurd (cc); listed = λ x d h. absurd (cc) }

pub so_far_node : (before : List TypeDecl) (n : NameScope) (s : Scope) (m : Node) → SoFar before n s → SoFar before (names.behind n (NodeItem m)) (behind s (NodeItem m))
so_far_node before n s m p = record { hidden = p.hidden; found = p.found; placed = p.placed; listed = p.listed }

pub so_far_type : (before : List TypeDecl) (n : NameScope) (s : Scope) (t : TypeDecl) → SoFar before n s → (Contains n.types t.name → ⊥) → SoFar (before ++ t ∷ []) (names.behind n (TypeItem t)) (behind s (TypeItem t))
so_far_type before n s t p new =
    let fresh = not_known n s before t.name p new in
    record {
      hidden = λ x h more.
          ap (λ r. constructors_of r x) (append_more before t more) ∙ p.hidden x (none_kept s.types t.name t x h) (t ∷ more)
          ∙ ap (λ b. if b then t.cons else constructors_of more x) (other fresh x h);
      found = λ x d h more.
          ap (λ r. constructors_of r x) (append_more before t more)
          ∙ entry_cases s.types t.name t x d h (λ k. p.found x d k (t ∷ more))
          (λ e w z. p.hidden x z (t ∷ more) ∙ ap (λ b. if b then t.cons else constructors_of more x) (name_same t.name x (sym e)) ∙ ap (λ (r : TypeDecl). r.cons) w);
      placed = λ c u h.
          constructor_cases t.cons s.constructors t.name c u h
          (λ k. let q = p.placed c u k in (q.0, entry_kept s.types t.name t u q.0 q.1, q.2))
          (λ i w. (t, subst (λ q. lookup (with_entry s.types t.name t) q ≡ Some t) w (entry_new s.types t.name t fresh), i));
      listed = λ x d h.
          entry_cases s.types t.name t x d h (λ k. name_kept n.types t.name x (p.listed x d k)) (λ e w z. subst (λ y. In (with_name n.types t.name) y) (sym e) (name_new n.types t.name));
    }
  where
    other : lookup s.types t.name ≡ None → (x : List ℕ) → lookup (with_entry s.types t.name t) x ≡ None → bytes_eq t.name x ≡ false
    other fresh x h = by (bytes_eq t.name x) refl
      where
        by : (b : Bool) → bytes_eq t.name x ≡ b → b ≡ false
        by true e =
            let k = subst (λ q. lookup (with_entry s.types t.name t) q ≡ Some t) (same_name t.name x e) (entry_new s.types t.name t fresh) in
            let r = sym k ∙ h in
            absurd (cc)
        by false e = refl

pub grounds_of : (before more : List TypeDecl) (n : NameScope) (s : Scope) → SoFar before n s → Grounds (before ++ more) s
grounds_of before more n s p = record { known = λ c u h. let q = p.placed c u h in (q.0, q.1, q.2, p.found u q.0 q.1 more) }

-- ---- constructors of a type

enum_value : (t : ℕ) (ds : List TypeDecl) (c : List ℕ) → In (all_constructors ds) c → (u : ℕ) × (k : ℕ) × (constructor_from t ds c ≡ E u k)
enum_value t [] c h = absurd h
enum_value t (d ∷ ds) c h = by (place_in 0 d.cons c) refl (λ z. enum_value (suc t) ds c z)
  where
    later : place_in 0 d.cons c ≡ None → In (all_constructors ds) c
    later e = in_either d.cons (all_constructors ds) c h (λ k. let q = some_place 0 d.cons c k in let r = sym q.1 ∙ e in absurd (cc)) (λ k. k)

    by : (o : Option ℕ) → place_in 0 d.cons c ≡ o → (In (all_constructors ds) c → (u : ℕ) × (k : ℕ) × (constructor_from (suc t) ds c ≡ E u k)) → (u : ℕ) × (k : ℕ) × (or_later t o (constructor_from (suc t) ds c) ≡ E u k)
    by (Some i) e f = (t, i, refl)
    by None e f = f (later e)

pub cons_is : (types : List TypeDecl) (s : Scope) → Grounds types s → (c : Cons) (t : Ty) → cons_type s c ≡ Some t → IsOf types t (cons_of types c)
cons_is types s g cons.False t h = subst (λ z. IsOf types z (cons_of types cons.False)) (some_same ty.Bool t h) tt
cons_is types s g cons.True t h = subst (λ z. IsOf types z (cons_of types cons.True)) (some_same ty.Bool t h) tt
cons_is types s g (cons.Named c) t h = by (lookup s.constructors c) refl h
  where
    by : (o : Option (List ℕ)) → lookup s.constructors c ≡ o → enum_of o ≡ Some t → IsOf types t (constructor_from 0 types c)
    by None e h = absurd (cc)
    by (Some u) e h =
        let q = g.known c u e in
        let there : In (constructors_of types u) c = subst (λ cs. In cs c) (sym q.3) q.2 in
        let v = enum_value 0 types c (in_all types u c there) in
        subst (λ z. IsOf types z (constructor_from 0 types c)) (some_same (ty.Enum u) t h)
        (subst (λ w. IsOf types (ty.Enum u) w) (sym v.2) (c, to_contains (constructors_of types u) c there, sym v.2))
