-- What is known at a place of a judged program: declared types, constructors and nodes, and the names in scope.
use Rattle.std.proofs.Common.{◌≡◌, ℕ, zero, suc, ◌<◌, ◌≤◌, length, get_or, map, cond, List, [], ◌∷◌, ◌++◌, refl, sym, ap, subst, ◌∙◌, ◌⊎◌, inl, inr, ⊎_elim, arith}
use Rattle.std.specs.Prelude.{⊤, Bool, true, false, ◌&&◌, ◌||◌, is_some, IsTrue, IsFalse, if◌then◌else◌, Option, None, Some, IsSome}
use Rattle.std.specs.List.{Contains, filter, count_by}
use Rattle.std.specs.Str.{bytes_eq}
use Rattle.std.proofs.lemmas.Slice.Eq.{bytes_eq-Decides}
use Rattle.std.proofs.lemmas.List.Sums.{length-filter}
use Rattle.hp_base.specs.declared.ty.Ty.{Ty}
use Rattle.hp_base.specs.declared.ty.Ty.TheVariants as ty
use Rattle.hp_base.specs.declared.ty.Const.{Const}
use Rattle.hp_base.specs.declared.ty.Const.TheVariants as const
use Rattle.hp_tree.specs.declared.decl.Cons.{Cons}
use Rattle.hp_tree.specs.declared.decl.Cons.TheVariants as cons
use Rattle.hp_tree.specs.Blocks.{Decl}
use Rattle.hp_tree.specs.Programs.{TypeDecl, Node}
use Rattle.hp_tree.specs.Operators.{constant_of, constructor_from}
use Rattle.hp_tree.specs.Values.{constructors_of, IsOf}
use Rattle.hp_tree.specs.Meaning.{declares}
use Rattle.hp_base.specs.Known.Known.{lookup, with_entry}
use Rattle.hp_names.specs.Names.{with_name, has}
use Rattle.hp_names.specs.Scopes as names
use Rattle.hp_typing.specs.Scopes.{with_variables}
use Rattle.hp_typing.specs.Types.{constant_type, cons_type, enum_of, named, constructors_of as all_constructors}
use Rattle.hp_typing.specs.Rules.{Chooses}
use Rattle.hp_typing.specs.Definitions.{same_cons, StandsOnce, EachStandsOnce}
use Rattle.law_judged.specs.Named.Scopes.{Scope, NameScope}
use Rattle.law_judged.specs.Named.Scoped.{Names, also, AreFresh}
use Rattle.law_judged.proofs.NamedLemmas.Sets.{or_cases, or_left, or_right, same_name, name_same, Sees, sees_more}
use Rattle.hp_meaning.specs.Clocking.Clocking.{AreOnce}
use Rattle.law_values.specs.Valued.Judged.{Lasts, lasts_in, is_named, Covers, CoversType, ConstantIs, HaveOwnTypes}
use Rattle.law_values.proofs.ValuedLemmas.Scoped.{still_known, not_declared}

pub some_same : {A : Type 0} (a b : A) → Some a ≡ Some b → a ≡ b
some_same {A} a b h = cc

pub true_false : {X : Type 0} (b : Bool) → IsTrue b → IsFalse b → X
true_false {X} true h k = absurd (cc)
true_false {X} false h k = absurd (cc)

pub cases : {X : Type 0} (b : Bool) → (IsTrue b → X) → (IsFalse b → X) → X
cases {X} true f g = f refl
cases {X} false f g = g refl

pub taken : {A : Type 0} (o : Option A) → IsSome o → (a : A) × (o ≡ Some a)
taken {A} None h = absurd (cc)
taken {A} (Some a) h = (a, refl)

-- ---- entries

module _ {A : Type 0} where
  append_new : (es : List (List ℕ × A)) (y : List ℕ) (u : A) → lookup es y ≡ None → lookup (es ++ (y, u) ∷ []) y ≡ Some u
  append_new [] y u h = ap (λ b. if b then Some u else None) (name_same y y refl)
  append_new (e ∷ es) y u h = by (bytes_eq y e.0) h (append_new es y u)
    where
      by : (b : Bool) → (if b then Some e.1 else lookup es y) ≡ None → (lookup es y ≡ None → lookup (es ++ (y, u) ∷ []) y ≡ Some u) → (if b then Some e.1 else lookup (es ++ (y, u) ∷ []) y) ≡ Some u
      by true h f = absurd (cc)
      by false h f = f h

  pub entry_new : (es : List (List ℕ × A)) (y : List ℕ) (u : A) → lookup es y ≡ None → lookup (with_entry es y u) y ≡ Some u
  entry_new es y u h = ap (λ o. lookup (if is_some o then es else es ++ (y, u) ∷ []) y) h ∙ append_new es y u h

  append_cases : {X : Type 0} (es : List (List ℕ × A)) (y : List ℕ) (u : A) (x : List ℕ) (v : A) → lookup (es ++ (y, u) ∷ []) x ≡ Some v → (lookup es x ≡ Some v → X) → ((x ≡ y) → (u ≡ v) → lookup es x ≡ None → X) → X
  append_cases {X} [] y u x v h f g = by (bytes_eq x y) refl h
    where
      by : (b : Bool) → bytes_eq x y ≡ b → (if b then Some u else None) ≡ Some v → X
      by true e k = g (same_name x y e) (some_same u v k) refl
      by false e k = absurd (cc)
  append_cases {X} (e ∷ es) y u x v h f g = by (bytes_eq x e.0) h f g (λ k p q. append_cases es y u x v k p q)
    where
      by : (b : Bool) → (if b then Some e.1 else lookup (es ++ (y, u) ∷ []) x) ≡ Some v → ((if b then Some e.1 else lookup es x) ≡ Some v → X) → ((x ≡ y) → (u ≡ v) → (if b then Some e.1 else lookup es x) ≡ None → X)
          → (lookup (es ++ (y, u) ∷ []) x ≡ Some v → (lookup es x ≡ Some v → X) → ((x ≡ y) → (u ≡ v) → lookup es x ≡ None → X) → X) → X
      by true k f g r = f k
      by false k f g r = r k f g

  -- what an entry is: one that was there, or the new one
  pub entry_cases : {X : Type 0} (es : List (List ℕ × A)) (y : List ℕ) (u : A) (x : List ℕ) (v : A) → lookup (with_entry es y u) x ≡ Some v → (lookup es x ≡ Some v → X) → ((x ≡ y) → (u ≡ v) → lookup es x ≡ None → X) → X
  entry_cases {X} es y u x v h f g = by (is_some (lookup es y)) h
    where
      by : (b : Bool) → lookup (if b then es else es ++ (y, u) ∷ []) x ≡ Some v → X
      by true k = f k
      by false k = append_cases es y u x v k f g

  append_kept : (es fs : List (List ℕ × A)) (x : List ℕ) (v : A) → lookup es x ≡ Some v → lookup (es ++ fs) x ≡ Some v
  append_kept [] fs x v h = absurd (cc)
  append_kept (e ∷ es) fs x v h = by (bytes_eq x e.0) h (append_kept es fs x v)
    where
      by : (b : Bool) → (if b then Some e.1 else lookup es x) ≡ Some v → (lookup es x ≡ Some v → lookup (es ++ fs) x ≡ Some v) → (if b then Some e.1 else lookup (es ++ fs) x) ≡ Some v
      by true h f = h
      by false h f = f h

  pub entry_kept : (es : List (List ℕ × A)) (y : List ℕ) (u : A) (x : List ℕ) (v : A) → lookup es x ≡ Some v → lookup (with_entry es y u) x ≡ Some v
  entry_kept es y u x v h = by (is_some (lookup es y))
    where
      by : (b : Bool) → lookup (if b then es else es ++ (y, u) ∷ []) x ≡ Some v
      by true = h
      by false = append_kept es ((y, u) ∷ []) x v h

-- ---- declared names have their types

one_declared : (d : Decl) (x : List ℕ) → IsFalse (bytes_eq d.name x) → IsFalse (declares (d ∷ []) x)
one_declared d x h = ap (λ b. b || false) h

pub own_types : (types : List TypeDecl) (among : List ℕ → Option Node) (ds : List Decl) (s : Scope) → AreOnce ds → ((x : List ℕ) → IsTrue (declares ds x) → lookup s.variables x ≡ None) → HaveOwnTypes types among (with_variables s ds) ds
own_types types among [] s once fresh = tt
own_types types among (d ∷ ds) s once fresh =
    let t = record s { variables = with_entry s.variables d.name d.ty } in (
      still_known d.name ds t d.ty (entry_new s.variables d.name d.ty (fresh d.name (or_left (bytes_eq d.name d.name) (declares ds d.name) (name_same d.name d.name refl)))),
      own_types types among ds t once.1
          (λ x h. not_declared x (d ∷ []) s (one_declared d x (other x h)) ∙ fresh x (or_right (bytes_eq d.name x) (declares ds x) h)),
    )
  where
    other : (x : List ℕ) → IsTrue (declares ds x) → IsFalse (bytes_eq d.name x)
    other x h = cases (bytes_eq d.name x) (λ e. true_false (declares ds d.name) (subst (λ z. IsTrue (declares ds z)) (sym (same_name d.name x e)) h) once.0) (λ f. f)

pub declared_type : (types : List TypeDecl) (among : List ℕ → Option Node) (s : Scope) (ds : List Decl) (x : List ℕ) → HaveOwnTypes types among s ds → IsTrue (declares ds x) → (t : Ty) × (lookup s.variables x ≡ Some t)
declared_type types among s [] x o h = absurd (cc)
declared_type types among s (d ∷ ds) x o h =
    ⊎_elim (λ e. (d.ty, subst (λ z. lookup s.variables z ≡ Some d.ty) (same_name d.name x e) o.0)) (λ k. declared_type types among s ds x o.1 k) (or_cases (bytes_eq d.name x) (declares ds x) h)

-- ---- what is declared outside of nodes

-- The types and constructors that are known are those of the program, and the nodes are those declared before.
pub record Grounds (types : List TypeDecl) (among : List ℕ → Option Node) (s : Scope) : Type 0 where
  pub known_types : (t : List ℕ) (d : TypeDecl) → lookup s.types t ≡ Some d → constructors_of types t ≡ d.cons
  pub known_constructors : (c t : List ℕ) → lookup s.constructors c ≡ Some t → IsOf types (ty.Enum t) (constructor_from 0 types c) × IsSome (lookup s.types t)
  pub known_nodes : (f : List ℕ) → lookup s.nodes f ≡ among f

module _ (types : List TypeDecl) (among : List ℕ → Option Node) where
  pub grounds_more : (ds : List Decl) (s : Scope) → Grounds types among s → Grounds types among (with_variables s ds)
  grounds_more [] s g = g
  grounds_more (d ∷ ds) s g =
      grounds_more ds (record s { variables = with_entry s.variables d.name d.ty }) (record { known_types = g.known_types; known_constructors = g.known_constructors; known_nodes = g.known_nodes })

  enum_is : (s : Scope) → Grounds types among s → (c : List ℕ) (o : Option (List ℕ)) (t : Ty) → lookup s.constructors c ≡ o → enum_of o ≡ Some t → IsOf types t (constructor_from 0 types c)
  enum_is s g c None t e h = absurd (cc)
  enum_is s g c (Some u) t e h = subst (λ z. IsOf types z (constructor_from 0 types c)) (some_same (ty.Enum u) t h) (g.known_constructors c u e).0

  pub constant_is : (s : Scope) → Grounds types among s → (c : Const) → ConstantIs types s c
  constant_is s g (const.B b) t h = subst (λ z. IsOf types z (constant_of types (const.B b))) (some_same ty.Bool t h) tt
  constant_is s g (const.I n) t h = subst (λ z. IsOf types z (constant_of types (const.I n))) (some_same ty.Int t h) tt
  constant_is s g (const.E c) t h = enum_is s g c (lookup s.constructors c) t refl h

  -- ---- constructors that are named

  some_counted : (c : Cons) (given : List Cons) → 1 ≤ length (filter (same_cons c) given) → IsTrue (is_named given c)
  some_counted c [] h = absurd (omega arith)
  some_counted c (d ∷ given) h = by (same_cons c d) refl h (some_counted c given)
    where
      by : (b : Bool) → same_cons c d ≡ b → 1 ≤ length (cond b (d ∷ filter (same_cons c) given) (filter (same_cons c) given)) → (1 ≤ length (filter (same_cons c) given) → IsTrue (is_named given c)) → IsTrue (is_named (d ∷ given) c)
      by true e k f = or_left (same_cons c d) (is_named given c) e
      by false e k f = or_right (same_cons c d) (is_named given c) (f k)

  pub stands_named : (c : Cons) (given : List Cons) → StandsOnce c given → IsTrue (is_named given c)
  stands_named c given h = some_counted c given (let e : length (filter (same_cons c) given) ≡ 1 = length-filter (same_cons c) given ∙ h in omega arith)

  each_named : (xs : List (List ℕ)) (given : List Cons) (c : List ℕ) (k : ℕ) → EachStandsOnce (map cons.Named xs) given → k < length xs → get_or xs k c ≡ c → IsTrue (is_named given (cons.Named c))
  each_named [] given c k h l e = absurd (omega arith)
  each_named (x ∷ xs) given c zero h l e = subst (λ z. IsTrue (is_named given (cons.Named z))) e (stands_named (cons.Named x) given h.0)
  each_named (x ∷ xs) given c (suc k) h l e = each_named xs given c k h.1 (omega arith) e

  pub covers : (s : Scope) → Grounds types among s → (o : Option Ty) (given : List Cons) → IsSome o → Chooses o → ((t : List ℕ) → o ≡ Some (ty.Enum t) → IsSome (lookup s.types t)) → EachStandsOnce (all_constructors s o) given → CoversType types o given
  covers s g None given h c k e = absurd (cc)
  covers s g (Some ty.Bool) given h c k e = (stands_named cons.False given e.0, stands_named cons.True given e.1.0)
  covers s g (Some ty.Int) given h c k e = absurd c
  covers s g (Some (ty.Enum t)) given h c k e = λ x m.
      let d = taken (lookup s.types t) (k t refl) in
      let n : Contains d.0.cons x = subst (λ z. Contains z x) (g.known_types t d.0 d.1) m in
      each_named d.0.cons given x n.0 (subst (λ z. EachStandsOnce (named z) given) d.1 e) n.1 n.2

-- ---- names in scope

-- names with a last value, as declarations give them
abbrev pub last_among : List Decl → List ℕ → Bool
last_among [] x = false
last_among (d ∷ ds) x = (bytes_eq d.name x && is_some d.last) || last_among ds x

and_first : (a b : Bool) → IsTrue (a && b) → IsTrue a
and_first true b h = refl
and_first false b h = absurd (cc)

and_second : (a b : Bool) → IsTrue (a && b) → IsTrue b
and_second true b h = h
and_second false b h = absurd (cc)

pub last_declared : (ds : List Decl) (x : List ℕ) → IsTrue (last_among ds x) → IsTrue (declares ds x)
last_declared [] x h = h
last_declared (d ∷ ds) x h =
    ⊎_elim (λ l. or_left (bytes_eq d.name x) (declares ds x) (and_first (bytes_eq d.name x) (is_some d.last) l)) (λ l. or_right (bytes_eq d.name x) (declares ds x) (last_declared ds x l))
    (or_cases (bytes_eq d.name x && is_some d.last) (last_among ds x) h)

pub lasts_own : (ds : List Decl) (out : Lasts) (x : List ℕ) → AreOnce ds → IsTrue (last_among ds x) → IsTrue (lasts_in ds out x)
lasts_own [] out x once h = absurd (cc)
lasts_own (d ∷ ds) out x once h = by (bytes_eq d.name x) refl d.last h (lasts_own ds out x once.1)
  where
    by : (b : Bool) → bytes_eq d.name x ≡ b → (o : Option Const) → IsTrue ((b && is_some o) || last_among ds x) → (IsTrue (last_among ds x) → IsTrue (lasts_in ds out x)) → IsTrue (if b then (elim o [ None ↦ out x | Some c ↦ true ]) else lasts_in ds out x)
    by true e (Some c) h f = refl
    by true e None h f = true_false (declares ds d.name) (subst (λ z. IsTrue (declares ds z)) (sym (same_name d.name x e)) (last_declared ds x h)) once.0
    by false e o h f = f h

pub lasts_kept : (ds : List Decl) (out : Lasts) (x : List ℕ) → IsTrue (out x) → IsTrue (lasts_in ds out x)
lasts_kept [] out x h = h
lasts_kept (d ∷ ds) out x h = by (bytes_eq d.name x) d.last (lasts_kept ds out x h)
  where
    by : (b : Bool) (o : Option Const) → IsTrue (lasts_in ds out x) → IsTrue (if b then (elim o [ None ↦ out x | Some c ↦ true ]) else lasts_in ds out x)
    by true (Some c) f = refl
    by true None f = h
    by false o f = f

name_cases : (xs : List (List ℕ)) (y x : List ℕ) → Contains (with_name xs y) x → (y ≡ x) ⊎ Contains xs x
name_cases xs y x h = by (has xs y) h
  where
    last : (ys : List (List ℕ)) (k : ℕ) → k < length (ys ++ y ∷ []) → get_or (ys ++ y ∷ []) k x ≡ x → (y ≡ x) ⊎ Contains ys x
    last [] zero l e = inl e
    last [] (suc k) l e = absurd (omega arith)
    last (z ∷ ys) zero l e = inr (0, omega arith, e)
    last (z ∷ ys) (suc k) l e = ⊎_elim (λ q. inl q) (λ q. inr (suc q.0, (let r = q.1 in omega arith), q.2)) (last ys k (omega arith) e)

    by : (b : Bool) → Contains (if b then xs else xs ++ y ∷ []) x → (y ≡ x) ⊎ Contains xs x
    by true k = inr k
    by false k = last xs k.0 k.1 k.2

pub last_cases : (ds : List Decl) (n : NameScope) (x : List ℕ) → Contains (names.with_variables n ds).lasts x → IsTrue (last_among ds x) ⊎ Contains n.lasts x
last_cases [] n x h = inr h
last_cases (d ∷ ds) n x h = ⊎_elim (λ l. inl (or_right (bytes_eq d.name x && is_some d.last) (last_among ds x) l)) (λ k. by d.last k) (last_cases ds (names.with_variable n d d.last) x h)
  where
    by : (o : Option Const) → Contains (names.with_variable n d o).lasts x → IsTrue ((bytes_eq d.name x && is_some o) || last_among ds x) ⊎ Contains n.lasts x
    by None k = inr k
    by (Some c) k = ⊎_elim (λ e. inl (or_left (bytes_eq d.name x && true) (last_among ds x) (subst (λ b. IsTrue (b && true)) (sym (name_same d.name x e)) refl))) (λ q. inr q) (name_cases n.lasts d.name x k)

pub record Views (types : List TypeDecl) (among : List ℕ → Option Node) (n : NameScope) (s : Scope) (seen own : Names) (lasts : Lasts) : Type 0 where
  pub grounds : Grounds types among s
  pub sees : Sees n seen
  pub known : (x : List ℕ) → IsTrue (seen x) → (t : Ty) × (lookup s.variables x ≡ Some t)
  pub unknown : (x : List ℕ) → IsFalse (seen x) → lookup s.variables x ≡ None
  pub owned : (x : List ℕ) → IsTrue (own x) → IsTrue (seen x)
  pub lasting : (x : List ℕ) → Contains n.lasts x → IsTrue (lasts x)

nor_left : (a b : Bool) → IsFalse (a || b) → IsFalse a
nor_left true b h = absurd (cc)
nor_left false b h = refl

nor_right : (a b : Bool) → IsFalse (a || b) → IsFalse b
nor_right true b h = absurd (cc)
nor_right false b h = h

pub fresh_unknown : {types : List TypeDecl} {among : List ℕ → Option Node} {n : NameScope} {s : Scope} {seen own : Names} {lasts : Lasts} → Views types among n s seen own lasts → (ds : List Decl) → AreFresh seen ds → (x : List ℕ) → IsTrue (declares ds x) → lookup s.variables x ≡ None
fresh_unknown {types} {among} {n} {s} {seen} {own} {lasts} v ds fresh x h = v.unknown x (cases (seen x) (λ k. absurd (fresh x h k)) (λ f. f))

pub views_more : {types : List TypeDecl} {among : List ℕ → Option Node} {n : NameScope} {s : Scope} {seen own : Names} {lasts : Lasts} → Views types among n s seen own lasts → (ds : List Decl) → AreOnce ds → AreFresh seen ds → Views types among (names.with_variables n ds) (with_variables s ds) (also seen ds) (also own ds) (lasts_in ds lasts)
views_more {types} {among} {n} {s} {seen} {own} {lasts} v ds once fresh = record {
  grounds = grounds_more types among ds s v.grounds;
  sees = sees_more n seen ds v.sees;
  known = λ x h. ⊎_elim (λ d. declared_type types among (with_variables s ds) ds x (own_types types among ds s once (fresh_unknown v ds fresh)) d) (λ k. let q = v.known x k in (q.0, still_known x ds s q.0 q.1)) (or_cases (declares ds x) (seen x) h);
  unknown = λ x h. not_declared x ds s (nor_left (declares ds x) (seen x) h) ∙ v.unknown x (nor_right (declares ds x) (seen x) h);
  owned = λ x h. ⊎_elim (λ d. or_left (declares ds x) (seen x) d) (λ k. or_right (declares ds x) (seen x) (v.owned x k)) (or_cases (declares ds x) (own x) h);
  lasting = λ x h. ⊎_elim (λ l. lasts_own ds lasts x once l) (λ k. lasts_kept ds lasts x (v.lasting x k)) (last_cases ds n x h);
}

pub and_left : (a b : Bool) → IsTrue (a && b) → IsTrue a
and_left true b h = refl
and_left false b h = absurd (cc)

pub and_right : (a b : Bool) → IsTrue (a && b) → IsTrue b
and_right true b h = h
and_right false b h = absurd (cc)

pub and_both : (a b : Bool) → IsTrue a → IsTrue b → IsTrue (a && b)
and_both true b h k = k
and_both false b h k = absurd (cc)
