-- Where a block is entered exactly its integers are carried as marks, by their types.
use Rattle.std.proofs.Common.{◌≡◌, ◌⊎◌, ℕ, ◌+◌, Bool, true, false, ◌||◌, List, [], ◌∷◌, Option, None, Some, refl, sym, ap, subst, ◌∙◌, inl, inr}
use Rattle.std.specs.Prelude.{is_some, if◌then◌else◌}
use Rattle.std.specs.Str.{bytes_eq}
use Rattle.std.proofs.lemmas.Option.{same_Some, none-some}
use Rattle.hp_base.specs.declared.ty.Ty.{Ty}
use Rattle.hp_base.specs.declared.ty.Const.{Const}
use Rattle.hp_tree.specs.Blocks.{Decl, block, Eqns}
use Rattle.hp_tree.specs.Meaning.{declares, some_defines}
use Rattle.hp_tree.specs.Programs.{TypeDecl, Node}
use Rattle.hp_base.specs.Known.Known.{lookup}
use Rattle.hp_typing.specs.Scopes.{with_variables}
use Rattle.law_judged.specs.Typed.Scopes.{Scope as TypeScope}
use Rattle.law_values.specs.Valued.Judged.{Lasts, lasts_in, DeclsSound, OthersKnown, HaveOwnTypes}
use Rattle.law_values.proofs.ValuedLemmas.Scoped.{still_known, not_declared}
use Rattle.hp_meaning.specs.Contract.Slots.{is_int}
use Rattle.hp_circuit.specs.declared.circuit.Shape.{Shape}
use Rattle.hp_drawing.specs.declared.parts.Entry.{Entry}
use Rattle.hp_drawing.specs.declared.parts.Place.{Place}
use Rattle.hp_drawing.specs.Kept.{is_mark}
use Rattle.hp_drawing.specs.Told.{Told, type_shape, constant_number, or_none}
use Rattle.hp_drawing.specs.Sketch.{Sketch, hole}
use Rattle.hp_drawing.specs.Scopes.{Scope, Layer, entry_at, local_entry, entry_if, entry_in, put, add_if, add, wire_in, or_found, found, value_by, value_in, last_in, innermost, shapes_in, names_of_eqns, put_locals, put_name_if, put_names, last_entry_if, last_entry, add_last, add_lasts, own_layer, enter, top_layer, push_values, push_lasts}
use Rattle.law_drawing.proofs.CarryingLemmas.Layers.{Each, same-name, put-found, Knows, knows-put, knows-own, eqns-names}
use Rattle.law_drawing.proofs.CarryingLemmas.Own.{entered-own, own-top, top-value}
use Rattle.law_drawing.specs.NoCircle.Typed.{AreTyped}
use Rattle.law_drawing.specs.NoCircle.Asked.{AreFirst}
use Rattle.law_drawing.proofs.NoCircleLemmas.Carried.{type-whole, shape-of-name}

module _ (P : List ℕ → Entry → Type 0) where
  -- all that a layer says has a property
  abbrev pub Says : Layer → Type 0
  Says l = (x : List ℕ) (e : Entry) → entry_in l x ≡ Some e → P x e

  pub says-put : (l : Layer) (y : List ℕ) (n : Entry) → Says l → P y n → Says (put l y n)
  says-put l y n h k x e q = by (bytes_eq x y) refl (sym (put-found l y n x) ∙ q)
    where
      by : (b : Bool) → bytes_eq x y ≡ b → entry_if b n (entry_in l x) ≡ Some e → P x e
      by true r p = subst (λ i. P i e) (sym (same-name x y r)) (subst (P y) (same_Some n e p) k)
      by false r p = h x e p

  pub says-add : (l : Layer) (y : List ℕ) (n : Entry) → Says l → P y n → Says (add l y n)
  says-add l y n h k = by (entry_in l y)
    where
      by : (o : Option Entry) → Says (add_if o l y n)
      by None = says-put l y n h k
      by (Some old) = h

pub not-known : (l : Layer) (x : List ℕ) → entry_in l x ≡ None → Knows l x → ⊥
not-known l x q k = let c : false ≡ true = ap is_some (sym q) ∙ k in cc

-- ---- last values: each that is declared is known in its layer

last-keeps : (t : Told) (spot : Place) (d : Decl) (o : Option Const) (values l : Layer) (s : Sketch) (x : List ℕ) → Knows l x → Knows (add_last t spot d o values l s).0 x
last-keeps t spot d None values l s x h = h
last-keeps t spot d (Some c) values l s x h = knows-put l d.name (last_entry spot (constant_number t c) (type_shape t d.ty) (wire_in values d.name) s).0 x h

lasts-keep : (t : Told) (spot : Place) (ds : List Decl) (values l : Layer) (s : Sketch) (x : List ℕ) → Knows l x → Knows (add_lasts t spot ds values l s).0 x
lasts-keep t spot [] values l s x h = h
lasts-keep t spot (d ∷ ds) values l s x h = let a = add_last t spot d d.last values l s in lasts-keep t spot ds values a.0 a.1 x (last-keeps t spot d d.last values l s x h)

pub lasts-known : (t : Told) (spot : Place) (ds : List Decl) (out : Lasts) (values l : Layer) (s : Sketch) (x : List ℕ) → lasts_in ds out x ≡ true → Knows (add_lasts t spot ds values l s).0 x ⊎ (out x ≡ true)
lasts-known t spot [] out values l s x h = inr h
lasts-known t spot (d ∷ ds) out values l s x h = by (bytes_eq d.name x) refl h (λ q. let a = add_last t spot d d.last values l s in lasts-known t spot ds out values a.0 a.1 x q)
  where
    here : (o : Option Const) → d.last ≡ o → bytes_eq d.name x ≡ true → (elim o [ None ↦ out x | Some c ↦ true ]) ≡ true → Knows (add_lasts t spot (d ∷ ds) values l s).0 x ⊎ (out x ≡ true)
    here None e q k = inr k
    here (Some c) e q k =
        let n = (last_entry spot (constant_number t c) (type_shape t d.ty) (wire_in values d.name) s).0 in
        let a = add_last t spot d d.last values l s in
        inl (lasts-keep t spot ds values a.0 a.1 x (subst (λ o. Knows (add_last t spot d o values l s).0 x) (sym e) (subst (Knows (put l d.name n)) (same-name d.name x q) (knows-own l d.name n))))

    by : (b : Bool) → bytes_eq d.name x ≡ b → (if b then (elim d.last [ None ↦ out x | Some c ↦ true ]) else lasts_in ds out x) ≡ true
        → (lasts_in ds out x ≡ true → (let a = add_last t spot d d.last values l s in Knows (add_lasts t spot ds values a.0 a.1).0 x) ⊎ (out x ≡ true)) → Knows (add_lasts t spot (d ∷ ds) values l s).0 x ⊎ (out x ≡ true)
    by true q k more = here d.last refl q k
    by false q k more = more k

last-shape : (spot : Place) (first : ℕ) (p : Shape) (w : ℕ) (s : Sketch) → (last_entry spot first p w s).0.shape ≡ p
unfolding last_entry
last-shape spot first p w s = by (is_mark p)
  where
    by : (b : Bool) → (last_entry_if b spot first p w s).0.shape ≡ p
    by true = refl
    by false = refl

names-keep : (z : Scope) (xs : List (List ℕ)) (l : Layer) (s : Sketch) (x : List ℕ) → Knows l x → Knows (put_names z xs l s).0 x
names-keep z [] l s x h = h
names-keep z (y ∷ xs) l s x h = by (entry_in l y) (λ l s h. names-keep z xs l s x h)
  where
    by : (o : Option Entry) → ((l : Layer) (s : Sketch) → Knows l x → Knows (put_names z xs l s).0 x) → Knows (let a = put_name_if o (shapes_in z y) y l s in put_names z xs a.0 a.1).0 x
    by (Some e) more = more l s h
    by None more = let w = hole (shapes_in z y) s in more (put l y (entry_at w.0 (shapes_in z y))) w.1 (knows-put l y (entry_at w.0 (shapes_in z y)) x h)

module _ (types : List TypeDecl) (among : List ℕ → Option Node) (t : Told) (g : TypeScope) (has_last : Lasts) where
  -- an entry carries what its type in a scope is carried as
  abbrev pub IsOf : TypeScope → List ℕ → Entry → Type 0
  IsOf inner x e = (u : Ty) → lookup inner.variables x ≡ Some u → is_mark e.shape ≡ is_int u

  pub of-type : (inner : TypeScope) (x : List ℕ) (v : Ty) (e : Entry) → lookup inner.variables x ≡ Some v → is_mark e.shape ≡ is_int v → IsOf inner x e
  of-type inner x v e h k u q = k ∙ ap is_int (same_Some v u (sym h ∙ q))

  -- ---- last values

  pub lasts-typed : (inner : TypeScope) (spot : Place) (ds : List Decl) (values l : Layer) (s : Sketch) → HaveOwnTypes types among inner ds → Says (IsOf inner) l → Says (IsOf inner) (add_lasts t spot ds values l s).0
  lasts-typed inner spot [] values l s ok h = h
  lasts-typed inner spot (d ∷ ds) values l s ok h =
      let a = add_last t spot d d.last values l s in
      lasts-typed inner spot ds values a.0 a.1 ok.1 (by d.last)
    where
      by : (o : Option Const) → Says (IsOf inner) (add_last t spot d o values l s).0
      by None = h
      by (Some c) =
          let n = (last_entry spot (constant_number t c) (type_shape t d.ty) (wire_in values d.name) s).0 in
          says-put (IsOf inner) l d.name n h (of-type inner d.name d.ty n ok.0 (ap is_mark (last-shape spot (constant_number t c) (type_shape t d.ty) (wire_in values d.name) s) ∙ type-whole t d.ty))

  own-types : (inner : TypeScope) (es : Eqns) (ds : List Decl) → DeclsSound types among inner es ds → HaveOwnTypes types among inner ds
  own-types inner es [] h = tt
  own-types inner es (d ∷ ds) h = (h.0.0, own-types inner es ds h.1)

  -- a name that has a last value has a type
  pub lasts-have : (inner : TypeScope) (os : List Decl) → HaveOwnTypes types among inner os → (x : List ℕ) → lasts_in os has_last x ≡ true → ((u : Ty) × (lookup inner.variables x ≡ Some u)) ⊎ (has_last x ≡ true)
  lasts-have inner [] ok x h = inr h
  lasts-have inner (d ∷ os) ok x h = by (bytes_eq d.name x) refl h (λ q. lasts-have inner os ok.1 x q)
    where
      by : (b : Bool) → bytes_eq d.name x ≡ b → (if b then (elim d.last [ None ↦ has_last x | Some c ↦ true ]) else lasts_in os has_last x) ≡ true
          → (lasts_in os has_last x ≡ true → ((u : Ty) × (lookup inner.variables x ≡ Some u)) ⊎ (has_last x ≡ true)) → ((u : Ty) × (lookup inner.variables x ≡ Some u)) ⊎ (has_last x ≡ true)
      by true q k more = inl (d.ty, subst (λ n. lookup inner.variables n ≡ Some d.ty) (same-name d.name x q) ok.0)
      by false q k more = more k

  module _ (z : Scope) (S : AreTyped g has_last z) (ds : List Decl) (es : Eqns) where
    -- ---- names

    locals-typed : (k : ℕ) (os : List Decl) (l : Layer) (s : Sketch) → DeclsSound types among (with_variables g ds) es os → Says (IsOf (with_variables g ds)) l → Says (IsOf (with_variables g ds)) (put_locals t k os l s).0
    locals-typed k [] l s ok h = h
    locals-typed k (d ∷ os) l s ok h =
        let p = type_shape t d.ty in
        let e = local_entry k (hole p s).0 p in
        locals-typed (k + 1) os (add l d.name e) (hole p s).1 ok.1 (says-add (IsOf (with_variables g ds)) l d.name e h (of-type (with_variables g ds) d.name d.ty e ok.0.0 (type-whole t d.ty)))

    locals-known : (k : ℕ) (os : List Decl) (l : Layer) (s : Sketch) (x : List ℕ) → Knows l x → Knows (put_locals t k os l s).0 x
    locals-known k [] l s x h = h
    locals-known k (d ∷ os) l s x h =
        let p = type_shape t d.ty in
        let e = local_entry k (hole p s).0 p in
        locals-known (k + 1) os (add l d.name e) (hole p s).1 x (by (entry_in l d.name) e)
      where
        by : (o : Option Entry) (e : Entry) → Knows (add_if o l d.name e) x
        by None e = knows-put l d.name e x h
        by (Some old) e = h

    declared-known : (k : ℕ) (os : List Decl) (l : Layer) (s : Sketch) (x : List ℕ) → declares os x ≡ true → Knows (put_locals t k os l s).0 x
    declared-known k [] l s x h = absurd cc
    declared-known k (d ∷ os) l s x h =
        let e = local_entry k (hole (type_shape t d.ty) s).0 (type_shape t d.ty) in
        by (bytes_eq d.name x) refl h (λ r. declared-known (k + 1) os (add l d.name e) (hole (type_shape t d.ty) s).1 x r)
      where
        own : (e : Entry) (o : Option Entry) → entry_in l d.name ≡ o → Knows (add_if o l d.name e) d.name
        own e None q = knows-own l d.name e
        own e (Some old) q = ap is_some q

        by : (b : Bool) → bytes_eq d.name x ≡ b → b || declares os x ≡ true
            → (declares os x ≡ true → (let e = local_entry k (hole (type_shape t d.ty) s).0 (type_shape t d.ty) in Knows (put_locals t (k + 1) os (add l d.name e) (hole (type_shape t d.ty) s).1).0 x)) → Knows (put_locals t k (d ∷ os) l s).0 x
        by true q r more =
            let e = local_entry k (hole (type_shape t d.ty) s).0 (type_shape t d.ty) in
            locals-known (k + 1) os (add l d.name e) (hole (type_shape t d.ty) s).1 x (subst (Knows (add l d.name e)) (same-name d.name x q) (own e (entry_in l d.name) refl))
        by false q r more = more r

    other-typed : (y : List ℕ) (w : ℕ) → OthersKnown types among (block ds es) g → some_defines es y ≡ true → declares ds y ≡ false → IsOf (with_variables g ds) y (entry_at w (shapes_in z y))
    other-typed y w others d n =
        let v = others y d n in
        of-type (with_variables g ds) y v.0 (entry_at w (shapes_in z y)) (still_known y ds g v.0 v.1) (ap is_mark (sym (shape-of-name z y)) ∙ S.values y v.0 v.1)

    names-typed : (xs : List (List ℕ)) (l : Layer) (s : Sketch) → OthersKnown types among (block ds es) g → Each (λ x. some_defines es x ≡ true) xs → ((x : List ℕ) → declares ds x ≡ true → Knows l x) → Says (IsOf (with_variables g ds)) l → Says (IsOf (with_variables g ds)) (put_names z xs l s).0
    names-typed [] l s others d k h = h
    names-typed (y ∷ xs) l s others d k h = by (entry_in l y) refl (λ l s k h. names-typed xs l s others d.1 k h)
      where
        undeclared : (b : Bool) → entry_in l y ≡ None → declares ds y ≡ b → b ≡ false
        undeclared true q r = absurd (not-known l y q (k y r))
        undeclared false q r = refl

        by : (o : Option Entry) → entry_in l y ≡ o → ((l : Layer) (s : Sketch) → ((x : List ℕ) → declares ds x ≡ true → Knows l x) → Says (IsOf (with_variables g ds)) l → Says (IsOf (with_variables g ds)) (put_names z xs l s).0)
            → Says (IsOf (with_variables g ds)) (let a = put_name_if o (shapes_in z y) y l s in put_names z xs a.0 a.1).0
        by (Some e) q more = more l s k h
        by None q more =
            let w = hole (shapes_in z y) s in
            let e = entry_at w.0 (shapes_in z y) in
            more (put l y e) w.1 (λ x r. knows-put l y e x (k x r)) (says-put (IsOf (with_variables g ds)) l y e h (other-typed y w.0 others d.0 (undeclared (declares ds y) q refl)))

    own-typed : (s : Sketch) → DeclsSound types among (with_variables g ds) es ds → OthersKnown types among (block ds es) g → Says (IsOf (with_variables g ds)) (own_layer t z ds es s).0
    unfolding own_layer
    own-typed s ok others =
        let a = put_locals t 0 ds [] s in
        names-typed (names_of_eqns es) a.0 a.1 others (eqns-names es) (λ x r. declared-known 0 ds [] s x r) (locals-typed 0 ds [] s ok (λ x e q. absurd (none-some e q)))

    -- ---- the scope inside

    pub enter-typed : (spot : Place) (s : Sketch) → DeclsSound types among (with_variables g ds) es ds → OthersKnown types among (block ds es) g → AreTyped (with_variables g ds) (lasts_in ds has_last) (enter t z spot ds es s).0
    unfolding enter own_layer push_values push_lasts value_in last_in
    enter-typed spot s ok others =
        let own = own_layer t z ds es s in
        let lasts = add_lasts t spot ds own.0 [] own.1 in
        let typed = own-typed s ok others in
        let last_typed = lasts-typed (with_variables g ds) spot ds own.0 [] own.1 (own-types (with_variables g ds) es ds ok) (λ x e q. absurd (none-some e q)) in
        record {
          values = λ x u h. value-of own.0 x u h typed (λ r. names-kept x r);
          lasts = λ x u k h. last-of lasts.0 x u h last_typed (λ q. elim (lasts-known t spot ds has_last own.0 [] own.1 x k) [ inl a ↦ absurd (not-known lasts.0 x q a) | inr a ↦ a ]);
          known = λ x k. elim (lasts-have (with_variables g ds) ds (own-types (with_variables g ds) es ds ok) x k) [ inl a ↦ a | inr a ↦ let v = S.known x a in (v.0, still_known x ds g v.0 v.1) ];
        }
      where
        names-kept : (x : List ℕ) → declares ds x ≡ true → Knows (own_layer t z ds es s).0 x
        names-kept x r = let a = put_locals t 0 ds [] s in names-keep z (names_of_eqns es) a.0 a.1 x (declared-known 0 ds [] s x r)

        value-of : (l : Layer) (x : List ℕ) (u : Ty) → lookup (with_variables g ds).variables x ≡ Some u → Says (IsOf (with_variables g ds)) l → (declares ds x ≡ true → Knows l x) → is_mark (value_by (or_found (entry_in l x) (found z.values x))).shape ≡ is_int u
        value-of l x u h typed declared = by (entry_in l x) refl
          where
            undeclared : (b : Bool) → entry_in l x ≡ None → declares ds x ≡ b → b ≡ false
            undeclared true q r = absurd (not-known l x q (declared r))
            undeclared false q r = refl

            by : (o : Option Entry) → entry_in l x ≡ o → is_mark (value_by (or_found o (found z.values x))).shape ≡ is_int u
            by None q = S.values x u (sym (not_declared x ds g (undeclared (declares ds x) q refl)) ∙ h)
            by (Some e) q = typed x e q u h

        last-of : (l : Layer) (x : List ℕ) (u : Ty) → lookup (with_variables g ds).variables x ≡ Some u → Says (IsOf (with_variables g ds)) l → (entry_in l x ≡ None → has_last x ≡ true) → is_mark (value_by (or_found (entry_in l x) (found z.lasts x))).shape ≡ is_int u
        last-of l x u h typed outside = by (entry_in l x) refl
          where
            by : (o : Option Entry) → entry_in l x ≡ o → is_mark (value_by (or_found o (found z.lasts x))).shape ≡ is_int u
            by None q = let v = S.known x (outside q) in S.lasts x v.0 (outside q) v.1 ∙ ap is_int (same_Some v.0 u (sym (still_known x ds g v.0 v.1) ∙ h))
            by (Some e) q = typed x e q u h

top-shape : (z : Scope) (x : List ℕ) (e : Entry) → entry_in (top_layer z) x ≡ Some e → (value_in z x).shape ≡ e.shape
unfolding top_layer value_in
top-shape z x e q = by z.values q
  where
    by : (ls : List Layer) → entry_in (innermost ls) x ≡ Some e → (value_by (found ls x)).shape ≡ e.shape
    by [] q = absurd (none-some e q)
    by (l ∷ ls) q = ap (λ o. (value_by (or_found o (found ls x))).shape) q

-- a name of the innermost layer has the wire that is to be said, and what it is carried as
pub enter-first : (t : Told) (z : Scope) (spot : Place) (ds : List Decl) (es : Eqns) (s : Sketch) → AreFirst (enter t z spot ds es s).0
enter-first t z spot ds es s x e q =
    let o = entered-own t z spot ds es s in
    let inside = (enter t z spot ds es s).0 in
    let there : entry_in (top_layer inside) x ≡ Some e = sym (own-top inside x) ∙ q in
    (top-value inside x e there ∙ ap or_none (o.owned x e there).hole_is, top-shape inside x e there)
