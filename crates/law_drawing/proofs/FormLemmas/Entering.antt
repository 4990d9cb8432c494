-- Entering a block: each name that it declares or defines has a wire that carries its type, and so have last values.
use Rattle.std.proofs.Common.{◌≡◌, ◌⊎◌, ℕ, ◌+◌, Bool, true, false, not, ◌&&◌, if◌then◌else◌, List, [], ◌∷◌, Option, None, Some, refl, sym, ap, subst, ◌∙◌, inl, inr}
use Rattle.std.specs.Prelude.{⊤, is_some}
use Rattle.std.specs.Str.{bytes_eq}
use Rattle.std.proofs.lemmas.Option.{same_Some, none-some}
use Rattle.hp_base.specs.declared.ty.Const.{Const}
use Rattle.hp_base.specs.declared.ty.Ty.{Ty}
use Rattle.hp_tree.specs.Blocks.{Decl, block, Eqns}
use Rattle.hp_tree.specs.Meaning.{declares, some_defines, block_defines}
use Rattle.hp_tree.specs.Programs.{TypeDecl, Node}
use Rattle.hp_base.specs.Known.Known.{lookup}
use Rattle.hp_typing.specs.Scopes.{with_variables}
use Rattle.law_judged.specs.Typed.Scopes.{Scope as TypeScope}
use Rattle.law_values.specs.Valued.Judged.{Lasts, lasts_in, FirstSound, DeclsSound, OthersKnown, HaveOwnTypes}
use Rattle.law_values.proofs.ValuedLemmas.Scoped.{still_known, not_declared}
use Rattle.hp_circuit.specs.declared.circuit.Shape.{Shape}
use Rattle.hp_circuit.specs.declared.circuit.Shape.TheVariants.{Truth, Cons, Mark}
use Rattle.hp_circuit.specs.Forms.{IsShape, IsValue}
use Rattle.hp_drawing.specs.declared.parts.Entry.{Entry}
use Rattle.hp_drawing.specs.declared.parts.Place.{Place}
use Rattle.hp_drawing.specs.declared.parts.Value.{Value}
use Rattle.hp_drawing.specs.Kept.{is_mark}
use Rattle.hp_drawing.specs.Told.{Told, type_shape, constant_number, or_none}
use Rattle.hp_drawing.specs.Sketch.{Sketch, hole}
use Rattle.hp_drawing.specs.Places.{new_register, takes}
use Rattle.hp_drawing.specs.Scopes.{Scope, Layer, entry_at, local_entry, entry_if, entry_in, put, add_if, add, value_by, wire_by, shape_by, wire_in, or_found, found, value_in, last_in, shapes_in, top_layer, names_of_eqns, put_locals, put_name_if, put_name, put_names, last_entry_if, last_entry, add_last, add_lasts, own_layer, enter, push_values, push_lasts}
use Rattle.law_drawing.proofs.CarryingLemmas.Layers.{same-name, self-name, put-found, Knows, knows-put, knows-own, knows-add, knows-added, Each, all-map, eqns-names, or-cases}
use Rattle.law_drawing.proofs.CarryingLemmas.Own.{AllEntries, entered-own}
use Rattle.law_drawing.proofs.SteeredLemmas.Hiding.{none-unknown}
use Rattle.law_drawing.proofs.FormLemmas.Views.{Has, IsFormed, IsHole, Step, still, onward, has-on, hole-on}
use Rattle.law_drawing.proofs.FormLemmas.Steps.{mark-step, hole-step}
use Rattle.law_drawing.proofs.FormLemmas.Parts.{IsPlaced, placed-on, register-step, takes-step}
use Rattle.law_drawing.proofs.FormLemmas.Values.{Carried, carried-on, AreCounted, none_lacks, AreSeen, IsAt}
use Rattle.law_drawing.proofs.FormLemmas.Calls.{AreShapes}
use Rattle.law_drawing.proofs.FormLemmas.Definitions.{or-first, or-further, AreOwned}

-- ---- what holds of all entries

entries-put : (P : List ℕ → Entry → Type 0) (l : Layer) (y : List ℕ) (n : Entry) → AllEntries P l → P y n → AllEntries P (put l y n)
entries-put P l y n h k x e q = by (bytes_eq x y) refl (sym (put-found l y n x) ∙ q)
  where
    by : (b : Bool) → bytes_eq x y ≡ b → entry_if b n (entry_in l x) ≡ Some e → P x e
    by true r p = subst (λ i. P i e) (sym (same-name x y r)) (subst (P y) (same_Some n e p) k)
    by false r p = h x e p

pub entries-add : (P : List ℕ → Entry → Type 0) (l : Layer) (y : List ℕ) (n : Entry) → AllEntries P l → P y n → AllEntries P (add l y n)
entries-add P l y n h k = by (entry_in l y)
  where
    by : (o : Option Entry) → AllEntries P (add_if o l y n)
    by None = entries-put P l y n h k
    by (Some old) = h

entries-none : (P : List ℕ → Entry → Type 0) → AllEntries P []
entries-none P x e q = absurd (none-some e q)

-- the type that a declared name has is one with values
pub declared-shape : (t : Told) (types : List TypeDecl) (among : List ℕ → Option Node) (s : TypeScope) (ds : List Decl) (x : List ℕ) (u : Ty) → HaveOwnTypes types among s ds → AreShapes t ds → declares ds x ≡ true → lookup s.variables x ≡ Some u → IsShape (type_shape t u)
declared-shape t types among s [] x u o i d h = absurd cc
declared-shape t types among s (y ∷ ds) x u o i d h =
    or-cases (bytes_eq y.name x) (declares ds x) d
    (λ b. subst (λ w. IsShape (type_shape t w)) (same_Some y.ty u (sym o.0 ∙ ap (λ n. lookup s.variables n) (same-name y.name x b) ∙ h)) i.0)
    (λ b. declared-shape t types among s ds x u o.1 i.1 b h)

pub own-types : (types : List TypeDecl) (among : List ℕ → Option Node) (s : TypeScope) (es : Eqns) (ds : List Decl) → DeclsSound types among s es ds → HaveOwnTypes types among s ds
own-types types among s es [] ok = tt
own-types types among s es (d ∷ ds) ok = (ok.0.0, own-types types among s es ds ok.1)

module _ (types : List TypeDecl) (among : List ℕ → Option Node) (t : Told) (inner : TypeScope) where
  -- ---- last values

  -- a last value has a wire of the type of its name
  abbrev pub IsLast : Sketch → List ℕ → Entry → Type 0
  IsLast s x e = Has s.shapes (or_none e.wire) e.shape × (u : Ty) × (lookup inner.variables x ≡ Some u) × (e.shape ≡ type_shape t u)

  lasts-on : (P : List ℕ) (s s' : Sketch) (l : Layer) → Step P s s' → AllEntries (IsLast s) l → AllEntries (IsLast s') l
  lasts-on P s s' l st h x e q = let k = h x e q in (has-on P s s' (or_none e.wire) e.shape st k.0, k.1, k.2, k.3)

  abbrev Lasted : List ℕ → Sketch → Shape → Entry × Sketch → Type 0
  Lasted P s p d = Step P s d.1 × Has d.1.shapes (or_none d.0.wire) p × (d.0.shape ≡ p)

  last-step : (P : List ℕ) (place : Place) (first : ℕ) (p : Shape) (w : ℕ) (s : Sketch) → IsFormed P s → IsPlaced s place → IsShape p → IsValue p first → Has s.shapes w p → Lasted P s p (last_entry place first p w s)
  unfolding last_entry
  last-step P place first p w s a h i k l = by p i k l
    where
      register : (p : Shape) → IsShape p → IsValue p first → Has s.shapes w p → Lasted P s p (last_entry_if false place first p w s)
      register p i k l =
          let r = new_register place first p s in
          let d = register-step P place first p s a h i k in
          let Q = r.0.slot ∷ P in
          let b = takes-step P r.0 place w p r.1 d.0.formed (placed-on Q s r.1 place d.0 h) d.1 (has-on Q s r.1 w p d.0 l) in
          (onward Q P s r.1 (takes r.0 place w r.1) d.0 b, has-on P r.1 (takes r.0 place w r.1) r.0.read p b d.1.read, refl)

      by : (p : Shape) → IsShape p → IsValue p first → Has s.shapes w p → Lasted P s p (last_entry_if (is_mark p) place first p w s)
      by Mark i k l = let m = mark-step P s a in (m.0, m.1.0, refl)
      by Truth i k l = register Truth i k l
      by (Cons n) i k l = register (Cons n) i k l

  -- the wires of declared names in a layer
  abbrev pub AreWires : Sketch → Layer → List Decl → Type 0
  AreWires s l [] = ⊤
  AreWires s l (d ∷ ds) = Has s.shapes (wire_in l d.name) (type_shape t d.ty) × AreWires s l ds

  wires-on : (P : List ℕ) (s s' : Sketch) (l : Layer) (ds : List Decl) → Step P s s' → AreWires s l ds → AreWires s' l ds
  wires-on P s s' l [] st h = tt
  wires-on P s s' l (d ∷ ds) st h = (has-on P s s' (wire_in l d.name) (type_shape t d.ty) st h.0, wires-on P s s' l ds st h.1)

  abbrev pub AreFirst : List Decl → Type 0
  AreFirst [] = ⊤
  AreFirst (d ∷ ds) = FirstSound types among d.ty d.last × AreFirst ds

  module _ (counted : AreCounted types t inner) where
    abbrev LastLayered : List ℕ → Sketch → Layer × Sketch → Type 0
    LastLayered P s d = Step P s d.1 × AllEntries (IsLast d.1) d.0

    one-last : (P : List ℕ) (place : Place) (d : Decl) (o : Option Const) (values l : Layer) (s : Sketch) → IsFormed P s → IsPlaced s place → IsShape (type_shape t d.ty) → FirstSound types among d.ty o → lookup inner.variables d.name ≡ Some d.ty → Has s.shapes (wire_in values d.name) (type_shape t d.ty)
        → AllEntries (IsLast s) l → LastLayered P s (add_last t place d o values l s)
    one-last P place d None values l s a h i k e w q = (still P s a, q)
    one-last P place d (Some c) values l s a h i k e w q =
        let p = type_shape t d.ty in
        let r = last_entry place (constant_number t c) p (wire_in values d.name) s in
        let x = last-step P place (constant_number t c) p (wire_in values d.name) s a h i (counted.constants c d.ty k) w in
        (x.0, entries-put (IsLast r.1) l d.name r.0 (lasts-on P s r.1 l x.0 q) (subst (λ y. Has r.1.shapes (or_none r.0.wire) y) (sym x.2) x.1, d.ty, e, x.2))

    pub lasts-step : (P : List ℕ) (place : Place) (ds : List Decl) (values l : Layer) (s : Sketch) → IsFormed P s → IsPlaced s place → AreShapes t ds → AreFirst ds → HaveOwnTypes types among inner ds → AreWires s values ds → AllEntries (IsLast s) l → LastLayered P s (add_lasts t place ds values l s)
    lasts-step P place [] values l s a h i k e w q = (still P s a, q)
    lasts-step P place (d ∷ ds) values l s a h i k e w q =
        let r = add_last t place d d.last values l s in
        let x = one-last P place d d.last values l s a h i.0 k.0 e.0 w.0 q in
        let y = lasts-step P place ds values r.0 r.1 x.0.formed (placed-on P s r.1 place x.0 h) i.1 k.1 e.1 (wires-on P s r.1 values ds x.0 w.1) x.1 in
        (onward P P s r.1 (add_lasts t place ds values r.0 r.1).1 x.0 y.0, y.1)

  last-known : (place : Place) (d : Decl) (o : Option Const) (values l : Layer) (s : Sketch) (x : List ℕ) → Knows l x → Knows (add_last t place d o values l s).0 x
  last-known place d None values l s x h = h
  last-known place d (Some c) values l s x h = knows-put l d.name (last_entry place (constant_number t c) (type_shape t d.ty) (wire_in values d.name) s).0 x h

  own-last : (place : Place) (d : Decl) (o : Option Const) (values l : Layer) (s : Sketch) (out : Bool) → (elim o [ None ↦ out | Some c ↦ true ]) ≡ true → Knows (add_last t place d o values l s).0 d.name ⊎ (out ≡ true)
  own-last place d None values l s out h = inr h
  own-last place d (Some c) values l s out h = inl (knows-own l d.name (last_entry place (constant_number t c) (type_shape t d.ty) (wire_in values d.name) s).0)

  -- a name with a last value has one here, or further out
  pub lasts-known : (out : Lasts) (place : Place) (ds : List Decl) (values l : Layer) (s : Sketch) (x : List ℕ) → Knows l x ⊎ (lasts_in ds out x ≡ true) → Knows (add_lasts t place ds values l s).0 x ⊎ (out x ≡ true)
  lasts-known out place [] values l s x h = h
  lasts-known out place (d ∷ ds) values l s x (inl h) = let r = add_last t place d d.last values l s in lasts-known out place ds values r.0 r.1 x (inl (last-known place d d.last values l s x h))
  lasts-known out place (d ∷ ds) values l s x (inr h) = let r = add_last t place d d.last values l s in by (bytes_eq d.name x) refl h (λ k. lasts-known out place ds values r.0 r.1 x k)
    where
      r : Layer × Sketch
      r = add_last t place d d.last values l s

      Later : Type 0
      Later = Knows (add_lasts t place ds values r.0 r.1).0 x ⊎ (out x ≡ true)

      by : (b : Bool) → bytes_eq d.name x ≡ b → (if b then (elim d.last [ None ↦ out x | Some c ↦ true ]) else lasts_in ds out x) ≡ true → (Knows r.0 x ⊎ (lasts_in ds out x ≡ true) → Later) → Later
      by true q k more = elim (own-last place d d.last values l s (out x) k) [ inl i ↦ more (inl (subst (Knows r.0) (same-name d.name x q) i)) | inr i ↦ inr i ]
      by false q k more = more (inr k)

-- ---- the names of a block

module _ (types : List TypeDecl) (among : List ℕ → Option Node) (t : Told) (ts : TypeScope) (has_last : Lasts) (lacks : List ℕ → Bool) (z : Scope) (ds : List Decl) (es : Eqns) where
  abbrev inner : TypeScope
  inner = with_variables ts ds

  -- a wire whose value is said later, which carries the type of the name
  abbrev IsEntry : Sketch → List ℕ → Entry → Type 0
  IsEntry s x e = (e.wire ≡ Some e.hole) × IsHole s e.hole e.shape × ((u : Ty) → lookup inner.variables x ≡ Some u → e.shape ≡ type_shape t u)

  abbrev IsLayer : Sketch → Layer → Type 0
  IsLayer s l = AllEntries (IsEntry s) l

  layer-on : (P : List ℕ) (s s' : Sketch) (l : Layer) → Step P s s' → IsLayer s l → IsLayer s' l
  layer-on P s s' l st h x e q = let k = h x e q in (k.0, hole-on P s s' e.hole e.shape st k.1, k.2)

  abbrev Layered : List ℕ → Sketch → Layer × Sketch → Type 0
  Layered P s d = Step P s d.1 × IsLayer d.1 d.0

  locals-step : (P : List ℕ) (k : ℕ) (os : List Decl) (l : Layer) (s : Sketch) → IsFormed P s → AreShapes t os → HaveOwnTypes types among inner os → IsLayer s l → Layered P s (put_locals t k os l s)
  locals-step P k [] l s a i o h = (still P s a, h)
  locals-step P k (d ∷ os) l s a i o h =
      let p = type_shape t d.ty in
      let w = hole p s in
      let b = hole-step P p s a i.0 in
      let e = local_entry k w.0 p in
      let h1 = entries-add (IsEntry w.1) l d.name e (layer-on P s w.1 l b.0 h) (refl, b.1, λ u q. ap (type_shape t) (same_Some d.ty u (sym o.0 ∙ q))) in
      let more = locals-step P (k + 1) os (add l d.name e) w.1 b.0.formed i.1 o.1 h1 in
      (onward P P s w.1 (put_locals t (k + 1) os (add l d.name e) w.1).1 b.0 more.0, more.1)

  -- a name that is put is known already, or has a type further out
  abbrev NameFits : Layer → List ℕ → Type 0
  NameFits l x = Knows l x ⊎ ((u : Ty) × (lookup ts.variables x ≡ Some u))

  name-step : (P : List ℕ) (x : List ℕ) (l : Layer) (s : Sketch) → IsFormed P s → AreSeen t ts has_last lacks z s → NameFits l x → IsLayer s l → Layered P s (put_name z x l s)
  name-step P x l s a seen f h = by (entry_in l x) refl
    where
      typed : entry_in l x ≡ None → (u : Ty) × (lookup ts.variables x ≡ Some u)
      typed q = elim f [ inl k ↦ absurd (let c : false ≡ true = ap is_some (sym q) ∙ k in cc) | inr k ↦ k ]

      by : (o : Option Entry) → entry_in l x ≡ o → Layered P s (put_name_if o (shapes_in z x) x l s)
      by (Some e) q = (still P s a, h)
      by None q =
          let v = typed q in
          let p = shapes_in z x in
          let is = seen.shapes x v.0 v.1 in
          let w = hole p s in
          let b = hole-step P p s a (subst IsShape (sym is) (seen.known x v.0 v.1)) in
          (b.0, entries-put (IsEntry w.1) l x (entry_at w.0 p) (layer-on P s w.1 l b.0 h) (refl, b.1, λ u k. is ∙ ap (type_shape t) (same_Some v.0 u (sym (still_known x ds ts v.0 v.1) ∙ k))))

  name-known : (x : List ℕ) (l : Layer) (s : Sketch) (y : List ℕ) → Knows l y → Knows (put_name z x l s).0 y
  name-known x l s y h = by (entry_in l x)
    where
      by : (o : Option Entry) → Knows (put_name_if o (shapes_in z x) x l s).0 y
      by (Some e) = h
      by None = knows-put l x (entry_at (hole (shapes_in z x) s).0 (shapes_in z x)) y h

  fits-more : (x : List ℕ) (l : Layer) (s : Sketch) (y : List ℕ) → NameFits l y → NameFits (put_name z x l s).0 y
  fits-more x l s y (inl k) = inl (name-known x l s y k)
  fits-more x l s y (inr k) = inr k

  seen-more : (P : List ℕ) (s s' : Sketch) → Step P s s' → AreSeen t ts has_last lacks z s → AreSeen t ts has_last lacks z s'
  seen-more P s s' st h = record {
    known = h.known;
    shapes = h.shapes;
    values = λ x u e l. carried-on P s s' (value_in z x) (type_shape t u) st (h.values x u e l);
    lasts = λ x l. let k = h.lasts x l in (k.0, k.1, carried-on P s s' (last_in z x) (type_shape t k.0) st k.2);
  }

  names-step : (P : List ℕ) (xs : List (List ℕ)) (l : Layer) (s : Sketch) → IsFormed P s → AreSeen t ts has_last lacks z s → Each (NameFits l) xs → IsLayer s l → Layered P s (put_names z xs l s)
  names-step P [] l s a seen f h = (still P s a, h)
  names-step P (x ∷ xs) l s a seen f h =
      let d = put_name z x l s in
      let b = name-step P x l s a seen f.0 h in
      let more = names-step P xs d.0 d.1 b.0.formed (seen-more P s d.1 b.0 seen) (all-map (NameFits l) (NameFits d.0) (λ y k. fits-more x l s y k) xs f.1) b.1 in
      (onward P P s d.1 (put_names z xs d.0 d.1).1 b.0 more.0, more.1)

  -- all declared names are known
  locals-known : (k : ℕ) (os : List Decl) (l : Layer) (s : Sketch) (x : List ℕ) → Knows l x ⊎ (declares os x ≡ true) → Knows (put_locals t k os l s).0 x
  locals-known k [] l s x (inl h) = h
  locals-known k [] l s x (inr h) = absurd cc
  locals-known k (d ∷ os) l s x (inl h) =
      let w = hole (type_shape t d.ty) s in
      let e = local_entry k w.0 (type_shape t d.ty) in
      locals-known (k + 1) os (add l d.name e) w.1 x (inl (knows-add l d.name e x h))
  locals-known k (d ∷ os) l s x (inr h) =
      let w = hole (type_shape t d.ty) s in
      let e = local_entry k w.0 (type_shape t d.ty) in
      locals-known (k + 1) os (add l d.name e) w.1 x
      (or-cases (bytes_eq d.name x) (declares os x) h (λ b. inl (subst (Knows (add l d.name e)) (same-name d.name x b) (knows-added l d.name e))) (λ b. inr b))

  names-known : (xs : List (List ℕ)) (l : Layer) (s : Sketch) (y : List ℕ) → Knows l y → Knows (put_names z xs l s).0 y
  names-known [] l s y h = h
  names-known (x ∷ xs) l s y h = let d = put_name z x l s in names-known xs d.0 d.1 y (name-known x l s y h)

  names-fit : OthersKnown types among (block ds es) ts → (l : Layer) → ((x : List ℕ) → declares ds x ≡ true → Knows l x) → Each (NameFits l) (names_of_eqns es)
  names-fit others l k = all-map (λ x. some_defines es x ≡ true) (NameFits l) (λ x d. one x d (declares ds x) refl) (names_of_eqns es) (eqns-names es)
    where
      one : (x : List ℕ) → some_defines es x ≡ true → (b : Bool) → declares ds x ≡ b → NameFits l x
      one x d true q = inl (k x q)
      one x d false q = inr (others x d q)

  own-step : (P : List ℕ) (s : Sketch) → IsFormed P s → AreSeen t ts has_last lacks z s → AreShapes t ds → HaveOwnTypes types among inner ds → OthersKnown types among (block ds es) ts → Layered P s (own_layer t z ds es s) × ((x : List ℕ) → declares ds x ≡ true → Knows (own_layer t z ds es s).0 x)
  unfolding own_layer
  own-step P s a seen i o others =
      let d = put_locals t 0 ds [] s in
      let b = locals-step P 0 ds [] s a i o (entries-none (IsEntry s)) in
      let k : (x : List ℕ) → declares ds x ≡ true → Knows d.0 x = λ x q. locals-known 0 ds [] s x (inr q) in
      let c = names-step P (names_of_eqns es) d.0 d.1 b.0.formed (seen-more P s d.1 b.0 seen) (names-fit others d.0 k) b.1 in
      ((onward P P s d.1 (put_names z (names_of_eqns es) d.0 d.1).1 b.0 c.0, c.1), λ x q. names-known (names_of_eqns es) d.0 d.1 x (k x q))

  -- declared names have wires
  own-wires : (s : Sketch) (own : Layer) (os : List Decl) → IsLayer s own → ((x : List ℕ) → declares os x ≡ true → Knows own x) → HaveOwnTypes types among inner os → AreWires types among t inner s own os
  own-wires s own [] h k o = tt
  own-wires s own (d ∷ os) h k o = (by (entry_in own d.name) refl (k d.name (or-first (bytes_eq d.name d.name) (declares os d.name) (self-name d.name))), own-wires s own os h (λ x q. k x (or-further (bytes_eq d.name x) (declares os x) q)) o.1)
    where
      by : (e : Option Entry) → entry_in own d.name ≡ e → is_some e ≡ true → Has s.shapes (or_none (wire_by e)) (type_shape t d.ty)
      by None q n = absurd cc
      by (Some e) q n = let i = h d.name e q in subst (λ p. Has s.shapes (or_none e.wire) p) (i.2 d.ty o.0) (subst (λ w. Has s.shapes (or_none w) e.shape) (sym i.0) i.1.0)

  -- ---- what is seen inside

  value-seen : (s : Sketch) (own : Layer) (x : List ℕ) (u : Ty) → IsLayer s own → lookup inner.variables x ≡ Some u → (entry_in own x ≡ None → Carried s (value_by (found z.values x)) (type_shape t u)) → Carried s (value_by (or_found (entry_in own x) (found z.values x))) (type_shape t u)
  value-seen s own x u h e out = by (entry_in own x) refl
    where
      by : (o : Option Entry) → entry_in own x ≡ o → Carried s (value_by (or_found o (found z.values x))) (type_shape t u)
      by None q = out q
      by (Some i) q = let k = h x i q in (k.2 u e, subst (λ p. Has s.shapes (or_none i.wire) p) (k.2 u e) (subst (λ w. Has s.shapes (or_none w) i.shape) (sym k.0) k.1.0))

  shape-seen : (s : Sketch) (own : Layer) (x : List ℕ) (u : Ty) → IsLayer s own → lookup inner.variables x ≡ Some u → (entry_in own x ≡ None → shape_by (found z.values x) ≡ type_shape t u) → shape_by (or_found (entry_in own x) (found z.values x)) ≡ type_shape t u
  shape-seen s own x u h e out = by (entry_in own x) refl
    where
      by : (o : Option Entry) → entry_in own x ≡ o → shape_by (or_found o (found z.values x)) ≡ type_shape t u
      by None q = out q
      by (Some i) q = (h x i q).2 u e

  abbrev LastSeen : Sketch → List ℕ → Value → Type 0
  LastSeen s x v = (u : Ty) × (lookup inner.variables x ≡ Some u) × Carried s v (type_shape t u)

  last-seen : (s : Sketch) (l : Layer) (x : List ℕ) → AllEntries (IsLast types among t inner s) l → (entry_in l x ≡ None → LastSeen s x (value_by (found z.lasts x))) → LastSeen s x (value_by (or_found (entry_in l x) (found z.lasts x)))
  last-seen s l x h out = by (entry_in l x) refl
    where
      by : (o : Option Entry) → entry_in l x ≡ o → LastSeen s x (value_by (or_found o (found z.lasts x)))
      by None q = out q
      by (Some i) q = let k = h x i q in (k.1, k.2, (k.3, subst (λ p. Has s.shapes (or_none i.wire) p) k.3 k.0))

  undeclared : (own : Layer) → ((x : List ℕ) → declares ds x ≡ true → Knows own x) → (x : List ℕ) → entry_in own x ≡ None → declares ds x ≡ false
  undeclared own k x q = by (declares ds x) refl
    where
      by : (b : Bool) → declares ds x ≡ b → b ≡ false
      by true i = absurd (none-unknown own x q (k x i))
      by false i = refl

  some-first : (a b : Bool) → a && b ≡ true → a ≡ true
  some-first true b h = refl
  some-first false b h = h

  has-value : (own : Layer) → ((x : List ℕ) → lacks x ≡ true → block_defines (block ds es) x ≡ true) → ((x : List ℕ) → some_defines es x ≡ true → Knows own x) → (x : List ℕ) → entry_in own x ≡ None → lacks x ≡ false
  has-value own given k x q = by (lacks x) refl
    where
      by : (b : Bool) → lacks x ≡ b → b ≡ false
      by true i = absurd (none-unknown own x q (k x (some-first (some_defines es x) (not (declares ds x)) (given x i))))
      by false i = refl

  firsts : (os : List Decl) → DeclsSound types among inner es os → AreFirst types among t inner os
  firsts [] ok = tt
  firsts (d ∷ os) ok = (ok.0.1.1, firsts os ok.1)

  abbrev pub Entered : List ℕ → Sketch → Scope × Sketch → Type 0
  Entered P s d = Step P s d.1 × AreSeen t inner (lasts_in ds has_last) none_lacks d.0 d.1 × AreOwned d.0 d.1 (λ x. some_defines es x)

  pub enter-step : (P : List ℕ) (place : Place) (s : Sketch) → IsAt t ts has_last lacks z P s place → ((x : List ℕ) → lacks x ≡ true → block_defines (block ds es) x ≡ true) → AreCounted types t inner → AreShapes t ds → DeclsSound types among inner es ds → OthersKnown types among (block ds es) ts
      → Entered P s (enter t z place ds es s)
  unfolding enter push_values push_lasts value_in last_in shapes_in top_layer
  enter-step P place s at given counted i ok others =
      let o = own-types types among inner es ds ok in
      let own = own_layer t z ds es s in
      let b = own-step P s at.formed at.seen i o others in
      let h = b.0.1 in
      let c = lasts-step types among t inner counted P place ds own.0 [] own.1 b.0.0.formed (placed-on P s own.1 place b.0.0 at.placed) i (firsts ds ok) o (own-wires own.1 own.0 ds h b.1 o) (entries-none (IsLast types among t inner own.1)) in
      let lasts = add_lasts t place ds own.0 [] own.1 in
      let h1 = layer-on P own.1 lasts.1 own.0 c.0 h in
      let st = onward P P s own.1 lasts.1 b.0.0 c.0 in
      let O = entered-own t z place ds es s in
      let outer : (x : List ℕ) (u : Ty) → lookup inner.variables x ≡ Some u → entry_in own.0 x ≡ None → lookup ts.variables x ≡ Some u = λ x u e q. sym (not_declared x ds ts (undeclared own.0 b.1 x q)) ∙ e in
      let owned : AreOwned (enter t z place ds es s).0 lasts.1 (λ x. some_defines es x) = record { known = O.known; holes = λ x e q. let k = h1 x e q in (k.0, k.1) } in (
        st,
        record {
          known = λ x u e. inside x u e (declares ds x) refl o i at.seen.known;
          shapes = λ x u e. shape-seen lasts.1 own.0 x u h1 e (λ q. at.seen.shapes x u (outer x u e q));
          values = λ x u e l. value-seen lasts.1 own.0 x u h1 e (λ q. carried-on P s lasts.1 (value_by (found z.values x)) (type_shape t u) st (at.seen.values x u (outer x u e q) (has-value own.0 given O.known x q)));
          lasts = λ x l. last-seen lasts.1 lasts.0 x c.1 (λ q. out-last lasts.0 lasts.1 x (lasts-known types among t inner has_last place ds own.0 [] own.1 x (inr l)) q at.seen.lasts st);
        },
        owned,
      )
    where
      inside : (x : List ℕ) (u : Ty) → lookup inner.variables x ≡ Some u → (b : Bool) → declares ds x ≡ b → HaveOwnTypes types among inner ds → AreShapes t ds → ((x : List ℕ) (u : Ty) → lookup ts.variables x ≡ Some u → IsShape (type_shape t u)) → IsShape (type_shape t u)
      inside x u e true q o i out = declared-shape t types among inner ds x u o i q e
      inside x u e false q o i out = out x u (sym (not_declared x ds ts q) ∙ e)

      out-last : (l : Layer) (s' : Sketch) (x : List ℕ) → Knows l x ⊎ (has_last x ≡ true) → entry_in l x ≡ None
          → ((x : List ℕ) → has_last x ≡ true → (u : Ty) × (lookup ts.variables x ≡ Some u) × Carried s (value_by (found z.lasts x)) (type_shape t u)) → Step P s s' → LastSeen s' x (value_by (found z.lasts x))
      out-last l s' x (inl k) q out st = absurd (none-unknown l x q k)
      out-last l s' x (inr k) q out st = let r = out x k in (r.0, still_known x ds ts r.0 r.1, carried-on P s s' (value_by (found z.lasts x)) (type_shape t r.0) st r.2)
