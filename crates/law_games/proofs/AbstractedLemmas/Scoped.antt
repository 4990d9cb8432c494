-- Scopes, declarations and the past of a block.
use Rattle.std.proofs.Common.{◌≡◌, ℕ, List, [], ◌∷◌, ◌++◌, refl, sym, ap, subst, ◌∙◌}
use Rattle.std.specs.Prelude.{⊤, Bool, true, false, ◌&&◌, ◌||◌, not, is_some, IsTrue, IsFalse, if◌then◌else◌, Option, None, Some}
use Rattle.std.specs.Str.{bytes_eq}
use Rattle.std.proofs.lemmas.Slice.Eq.{bytes_eq-Decides}
use Rattle.hp_base.specs.declared.ty.Ty.{Ty}
use Rattle.hp_base.specs.declared.ty.Const.{Const}
use Rattle.hp_base.specs.declared.value.Value.{Value}
use Rattle.hp_base.specs.declared.value.Value.TheVariants.{Absent, Nil, B, E, I, Star}
use Rattle.hp_tree.specs.Blocks.{Decl, Eqns}
use Rattle.hp_tree.specs.Programs.{TypeDecl, Node}
use Rattle.hp_tree.specs.Operators.{constant_of, marked}
use Rattle.hp_tree.specs.Instant.{Named, Instant, Past, Clock}
use Rattle.hp_tree.specs.Meaning.{Names, declares, some_defines, previous, lasts as lasts_of, clock_in, written}
use Rattle.hp_typing.specs.Scopes.{with_variables}
use Rattle.law_games.specs.Wiretyped.Typed.{IsWire}
use Rattle.hp_init.specs.Classes.{Classes}
use Rattle.law_values.specs.Valued.Judged.{Lasts, lasts_in}
use Rattle.law_values.proofs.ValuedLemmas.Both.{FirstOk, DeclsOk}
use Rattle.law_games.specs.Abstracted.Fitting.{HasValue, Fits, Presence, IsPresence}
use Rattle.law_games.proofs.AbstractedLemmas.Laws.{marked_wire, true_or_false, and_left, or_either, not_both, not_absent, Along, none_held, EachPresence}
use Rattle.hp_tree.specs.Reaction.{Each}
use Rattle.hp_base.specs.Known.Known.{lookup, with_entry}
use Rattle.law_judged.specs.Typed.Scopes.{Scope}
use Rattle.hp_meaning.specs.Causal.Clocked.{Standing, DeclarationsRight}

-- ---- what is known of a name

not_equal : (x y : List ℕ) → IsFalse (bytes_eq y x) → IsFalse (bytes_eq x y)
not_equal x y f = true_or_false (bytes_eq x y) (λ t. not_both (bytes_eq y x) ((bytes_eq-Decides y x).1 (sym ((bytes_eq-Decides x y).0 t))) f) (λ h. h)

module _ (x : List ℕ) where
  append_known : (es fs : List (List ℕ × Ty)) (t : Ty) → lookup es x ≡ Some t → lookup (es ++ fs) x ≡ Some t
  append_known [] fs t h = absurd (cc)
  append_known (e ∷ es) fs t h = by (bytes_eq x e.0) h (append_known es fs t)
    where
      by : (d : Bool) → (if d then Some e.1 else lookup es x) ≡ Some t → (lookup es x ≡ Some t → lookup (es ++ fs) x ≡ Some t) → (if d then Some e.1 else lookup (es ++ fs) x) ≡ Some t
      by true h f = h
      by false h f = f h

  entry_known : (es : List (List ℕ × Ty)) (y : List ℕ) (u t : Ty) → lookup es x ≡ Some t → lookup (with_entry es y u) x ≡ Some t
  entry_known es y u t h = by (is_some (lookup es y))
    where
      by : (d : Bool) → lookup (if d then es else es ++ (y, u) ∷ []) x ≡ Some t
      by true = h
      by false = append_known es ((y, u) ∷ []) t h

  -- a name that is known further out is known so inside
  pub still_known : (ds : List Decl) (s : Scope) (t : Ty) → lookup s.variables x ≡ Some t → lookup (with_variables s ds).variables x ≡ Some t
  still_known [] s t h = h
  still_known (d ∷ ds) s t h = still_known ds (record s { variables = with_entry s.variables d.name d.ty }) t (entry_known s.variables d.name d.ty t h)

  append_other : (es : List (List ℕ × Ty)) (y : List ℕ) (u : Ty) → IsFalse (bytes_eq x y) → lookup (es ++ (y, u) ∷ []) x ≡ lookup es x
  append_other [] y u f = ap (λ d. if d then Some u else None) f
  append_other (e ∷ es) y u f = ap (λ o. if bytes_eq x e.0 then Some e.1 else o) (append_other es y u f)

  entry_other : (es : List (List ℕ × Ty)) (y : List ℕ) (u : Ty) → IsFalse (bytes_eq x y) → lookup (with_entry es y u) x ≡ lookup es x
  entry_other es y u f = by (is_some (lookup es y))
    where
      by : (d : Bool) → lookup (if d then es else es ++ (y, u) ∷ []) x ≡ lookup es x
      by true = refl
      by false = append_other es y u f

  neither_left : (a b : Bool) → IsFalse (a || b) → IsFalse a
  neither_left true b h = absurd (cc)
  neither_left false b h = refl

  neither_right : (a b : Bool) → IsFalse (a || b) → IsFalse b
  neither_right true b h = absurd (cc)
  neither_right false b h = h

  -- one that is not declared here is known as further out
  pub not_declared : (ds : List Decl) (s : Scope) → IsFalse (declares ds x) → lookup (with_variables s ds).variables x ≡ lookup s.variables x
  not_declared [] s f = refl
  not_declared (d ∷ ds) s f =
      not_declared ds (record s { variables = with_entry s.variables d.name d.ty }) (neither_right (bytes_eq d.name x) (declares ds x) f)
      ∙ entry_other s.variables d.name d.ty (not_equal x d.name (neither_left (bytes_eq d.name x) (declares ds x) f))

  pub not_declared_clock : (ds : List Decl) → IsFalse (declares ds x) → clock_in ds x ≡ []
  not_declared_clock [] f = refl
  not_declared_clock (d ∷ ds) f = by (bytes_eq d.name x) (neither_left (bytes_eq d.name x) (declares ds x) f) (not_declared_clock ds (neither_right (bytes_eq d.name x) (declares ds x) f))
    where
      by : (b : Bool) → IsFalse b → clock_in ds x ≡ [] → (if b then written d.clock else clock_in ds x) ≡ []
      by true f h = absurd (cc)
      by false f h = h

module _ (types : List TypeDecl) (among : List ℕ → Option Node) (s : Scope) (second : Classes) where
  -- what is declared has an equation, and a type
  pub declared_is : (es : Eqns) (x : List ℕ) (ds : List Decl) → DeclsOk types among s second es ds → IsTrue (declares ds x) → IsTrue (some_defines es x) × ((t : Ty) × (lookup s.variables x ≡ Some t))
  declared_is es x [] ok h = absurd (cc)
  declared_is es x (d ∷ ds) ok h =
      or_either (bytes_eq d.name x) (declares ds x) h
      (λ e. subst (λ z. IsTrue (some_defines es z) × ((t : Ty) × (lookup s.variables z ≡ Some t))) ((bytes_eq-Decides d.name x).0 e) (ok.0.1.0, (d.ty, ok.0.0)))
      (λ e. declared_is es x ds ok.1 e)

-- ---- the past of a block

-- the clocks that were there
pub presences : (Q : Presence → Instant → Type 0) (past : Past) → Each (λ i. (w : Presence) × (IsPresence w × Q w i)) past → (ws : List Presence) × (EachPresence ws × Along Q ws past)
presences Q [] a = ([], (tt, tt))
presences Q (i ∷ past) a =
    let r = presences Q past a.1 in
    (a.0.0 ∷ r.0, ((a.0.1.0, r.1.0), (a.0.1.1, r.1.1)))

abbrev pub is_empty : Past → Bool
is_empty [] = true
is_empty (i ∷ past) = false

pub none_at_first : (Q : Presence → Instant → Type 0) (ws : List Presence) (past : Past) (clock : Clock) → Along Q ws past → IsTrue (is_empty past) → IsTrue (none_held ws clock)
none_at_first Q [] [] clock a h = refl
none_at_first Q (w ∷ ws) (i ∷ past) clock a h = absurd (cc)
none_at_first Q [] (i ∷ past) clock a h = absurd a
none_at_first Q (w ∷ ws) [] clock a h = absurd a

pub none_base : (Q : Presence → Instant → Type 0) (ws : List Presence) (past : Past) → EachPresence ws → Along Q ws past → IsTrue (none_held ws []) → IsTrue (is_empty past)
none_base Q [] [] p a h = refl
none_base Q (w ∷ ws) (i ∷ past) p a h = let e = p.0.base in let k = and_left (not (w [])) (none_held ws []) h in let z : not true ≡ true = subst (λ b. not b ≡ true) e k in absurd (cc)
none_base Q [] (i ∷ past) p a h = absurd a
none_base Q (w ∷ ws) [] p a h = absurd a

abbrev pub is_absent : Value → Bool
is_absent Absent = true
is_absent v = false

-- a name had no value in a past
abbrev pub never : List ℕ → Past → Bool
never x [] = true
never x (i ∷ past) = is_absent (i (Named x ∷ [])) && never x past

there_is : (types : List TypeDecl) (t : Ty) (d : Bool) (v : Value) → HasValue types t d v → is_absent v ≡ false
there_is types t d Absent h = absurd (not_absent types t Absent h refl)
there_is types t d Nil h = refl
there_is types t d (B b) h = refl
there_is types t d (E u k) h = refl
there_is types t d (I n) h = refl
there_is types t d Star h = refl

module _ (types : List TypeDecl) (x : List ℕ) (t : Ty) (clock : Clock) (e : Bool) where
  never_step : (w : Bool) (v : Value) → Fits types w (Some t) e v → is_absent v ≡ not w
  never_step true v h = there_is types t e v h
  never_step false v h = ap is_absent h

  -- so its clock was not there
  pub never_is : (ws : List Presence) (past : Past) → Along (λ w i. Fits types (w clock) (Some t) e (i (Named x ∷ []))) ws past → never x past ≡ none_held ws clock
  never_is [] [] a = refl
  never_is (w ∷ ws) (i ∷ past) a = λ z. never_step (w clock) (i (Named x ∷ [])) a.0 z && never_is ws past a.1 z
  never_is [] (i ∷ past) a = absurd a
  never_is (w ∷ ws) [] a = absurd a

-- ---- last values

abbrev LastWhere : Option Const → Decl → Type 0
LastWhere o d = elim o [ None ↦ ⊤ | Some c ↦ written d.clock ≡ [] ]

abbrev pub declared_last : Option Const → Bool → Bool
declared_last o b = elim o [ None ↦ b | Some c ↦ true ]

abbrev pub last_of : Option Const → Value → (Const → Value) → Value
last_of o v f = elim o [ None ↦ v | Some c ↦ f c ]

module _ (types : List TypeDecl) (among : List ℕ → Option Node) (s : Scope) (second : Classes) (st : Standing) (es : Eqns) (lasts : Lasts) (last : Names) (past : Past) (x : List ℕ) where
  abbrev pub IsLast : Value → Type 0
  IsLast v = (t : Ty) × ((lookup s.variables x ≡ Some t) × IsWire types t v)

  abbrev Before : Clock → Type 0
  Before clock = (t : Ty) → clock ≡ [] → IsTrue (some_defines es x) → IsFalse (second x) → lookup s.variables x ≡ Some t → (v : Value) → IsWire types t v → IsWire types t (previous past x v)

  last_here : (d : Decl) (o : Option Const) → bytes_eq d.name x ≡ true → (lookup s.variables d.name ≡ Some d.ty) → IsTrue (some_defines es d.name) → FirstOk types among d.ty o (second d.name) → LastWhere o d → Before (written d.clock) → (IsTrue (lasts x) → IsLast (last x)) → IsTrue (declared_last o (lasts x)) → IsLast (last_of o (last x) (λ (c : Const). previous past x (marked (constant_of types c))))
  last_here d None e k h f c before outer g = outer g
  last_here d (Some v) e k h f c before outer g =
      let same = (bytes_eq-Decides d.name x).0 e in
      let l : lookup s.variables x ≡ Some d.ty = subst (λ z. lookup s.variables z ≡ Some d.ty) same k in
      (d.ty, (l, before d.ty c (subst (λ z. IsTrue (some_defines es z)) same h) (subst (λ z. IsFalse (second z)) same f.1) l (marked (constant_of types v)) (marked_wire types d.ty (constant_of types v) f.0)))

  pub last_inside : (ds : List Decl) → DeclsOk types among s second es ds → DeclarationsRight st ds → Before (clock_in ds x) → (IsTrue (lasts x) → IsLast (last x)) → IsTrue (lasts_in ds lasts x) → IsLast (lasts_of (λ (k : Const). marked (constant_of types k)) ds past last x)
  last_inside [] ok right before outer g = outer g
  last_inside (d ∷ ds) ok right before outer g = by (bytes_eq d.name x) refl before g (λ b. last_inside ds ok.1 right.2 b outer)
    where
      by : (b : Bool) → bytes_eq d.name x ≡ b → Before (if b then written d.clock else clock_in ds x) → IsTrue (if b then declared_last d.last (lasts x) else lasts_in ds lasts x)
          → (Before (clock_in ds x) → IsTrue (lasts_in ds lasts x) → IsLast (lasts_of (λ (k : Const). marked (constant_of types k)) ds past last x))
          → IsLast (if b then last_of d.last (last x) (λ c. previous past x (marked (constant_of types c))) else lasts_of (λ (k : Const). marked (constant_of types k)) ds past last x)
      by true e before g f = last_here d d.last e ok.0.0 ok.0.1.0 ok.0.1.1 right.1 before outer g
      by false e before g f = f before g
