-- Entering a block, with marks: each name that it declares or defines has a wire with the mark of that name, and last values read what cuts the block.
use Rattle.std.proofs.Common.{◌≡◌, ◌⊎◌, ℕ, ◌+◌, Bool, true, false, List, [], ◌∷◌, Option, None, Some, refl, sym, ap, subst, ◌∙◌, inl, inr}
use Rattle.std.specs.Prelude.{is_some}
use Rattle.std.specs.Str.{bytes_eq}
use Rattle.std.proofs.lemmas.Option.{same_Some, none-some}
use Rattle.hp_base.specs.declared.ty.Const.{Const}
use Rattle.hp_tree.specs.Blocks.{Decl, Eqns}
use Rattle.hp_tree.specs.Meaning.{some_defines}
use Rattle.hp_meaning.specs.Causal.Sources.{Sources, none, both, NameSources}
use Rattle.hp_circuit.specs.declared.circuit.Shape.{Shape}
use Rattle.hp_drawing.specs.declared.parts.Entry.{Entry}
use Rattle.hp_drawing.specs.declared.parts.Place.{Place}
use Rattle.hp_drawing.specs.Kept.{is_mark}
use Rattle.hp_drawing.specs.Told.{Told, type_shape, constant_number, or_none}
use Rattle.hp_drawing.specs.Sketch.{Sketch, low, hole, mark}
use Rattle.hp_drawing.specs.Places.{new_register}
use Rattle.hp_drawing.specs.Scopes.{Scope, Layer, entry_at, local_entry, entry_if, entry_in, put, add_if, add, value_by, wire_by, wire_in, or_found, found, value_in, last_in, own_entry, shapes_in, names_of_eqns, put_locals, put_name_if, put_name, put_names, last_entry_if, last_entry, add_last, add_lasts, own_layer, enter, push_values, push_lasts}
use Rattle.law_drawing.proofs.CarryingLemmas.Layers.{same-name, put-found, Knows, knows-put, knows-own, Occurs, eqns-occur}
use Rattle.law_drawing.specs.Steered.Marks.{Steering, Marks, Grows, Has, Low, There, AreMarked}
use Rattle.law_drawing.specs.Steered.Asked.{AreSeen, IsOwned}
use Rattle.law_drawing.proofs.SteeredLemmas.Steps.{grows-none, grows-both, has-grows, low-grows, there-grows, low-there, low-own, low-up, Step}
use Rattle.law_drawing.proofs.SteeredLemmas.Steps as steps
use Rattle.law_drawing.proofs.SteeredLemmas.Parts.{placed-grows, new_register-marked, takes-marked}
use Rattle.law_drawing.proofs.SteeredLemmas.Values.{IsAt, at-behind}

module _ (steers : Steering) (t : Told) (z : Scope) (context : Sources) (names inner : NameSources) where
  abbrev At : Marks → Sketch → Place → Type 0
  At ms s spot = IsAt steers z context names ms s spot

  behind : (ms ms' : Marks) (s s' : Sketch) (spot : Place) → At ms s spot → Grows ms ms' → AreMarked steers s' ms' → At ms' s' spot
  behind ms ms' s s' spot h g a = at-behind steers z context names ms ms' s s' spot h g a

  -- ---- layers of names

  -- each name has a wire with its mark, which is said later
  abbrev pub IsEntry : Marks → List ℕ → Entry → Type 0
  IsEntry ms x e = Has ms (or_none e.wire) (both context (inner x)) × Has ms e.hole (both context (inner x))

  abbrev pub IsLayer : Marks → Layer → Type 0
  IsLayer ms l = (x : List ℕ) (e : Entry) → entry_in l x ≡ Some e → IsEntry ms x e

  layer-grows : (ms ms' : Marks) → Grows ms ms' → (l : Layer) → IsLayer ms l → IsLayer ms' l
  layer-grows ms ms' g l h x e q =
      let k = h x e q in
      (has-grows ms ms' g (or_none e.wire) (both context (inner x)) k.0, has-grows ms ms' g e.hole (both context (inner x)) k.1)

  layer-put : (ms : Marks) (l : Layer) (y : List ℕ) (n : Entry) → IsLayer ms l → IsEntry ms y n → IsLayer ms (put l y n)
  layer-put ms l y n h k x e q = by (bytes_eq x y) refl (sym (put-found l y n x) ∙ q)
    where
      by : (b : Bool) → bytes_eq x y ≡ b → entry_if b n (entry_in l x) ≡ Some e → IsEntry ms x e
      by true r p = subst (λ i. IsEntry ms i e) (sym (same-name x y r)) (subst (IsEntry ms y) (same_Some n e p) k)
      by false r p = h x e p

  layer-add : (ms : Marks) (l : Layer) (y : List ℕ) (n : Entry) → IsLayer ms l → IsEntry ms y n → IsLayer ms (add l y n)
  layer-add ms l y n h k = by (entry_in l y)
    where
      by : (o : Option Entry) → IsLayer ms (add_if o l y n)
      by None = layer-put ms l y n h k
      by (Some old) = h

  abbrev Layered : Marks → Layer × Sketch → Type 0
  Layered ms d = (ms' : Marks) × Grows ms ms' × AreMarked steers d.1 ms' × IsLayer ms' d.0

  locals-marked : (k : ℕ) (ds : List Decl) (l : Layer) (s : Sketch) (ms : Marks) → AreMarked steers s ms → IsLayer ms l → Layered ms (put_locals t k ds l s)
  locals-marked k [] l s ms a h = (ms, grows-none ms, a, h)
  locals-marked k (d ∷ ds) l s ms a h =
      let p = type_shape t d.ty in
      let u = steps.hole-marked steers p s ms (both context (inner d.name)) a in
      let v = locals-marked (k + 1) ds (add l d.name (local_entry k (hole p s).0 p)) (hole p s).1 u.0 u.2 (layer-add u.0 l d.name (local_entry k (hole p s).0 p) (layer-grows ms u.0 u.1 l h) (u.3, u.3)) in
      (v.0, grows-both ms u.0 v.0 u.1 v.1, v.2, v.3)

  name-marked : (x : List ℕ) (l : Layer) (s : Sketch) (ms : Marks) → AreMarked steers s ms → IsLayer ms l → Layered ms (put_name z x l s)
  name-marked x l s ms a h = by (entry_in l x)
    where
      by : (o : Option Entry) → Layered ms (put_name_if o (shapes_in z x) x l s)
      by (Some e) = (ms, grows-none ms, a, h)
      by None =
          let p = shapes_in z x in
          let u = steps.hole-marked steers p s ms (both context (inner x)) a in
          (u.0, u.1, u.2, layer-put u.0 l x (entry_at (hole p s).0 p) (layer-grows ms u.0 u.1 l h) (u.3, u.3))

  names-marked : (xs : List (List ℕ)) (l : Layer) (s : Sketch) (ms : Marks) → AreMarked steers s ms → IsLayer ms l → Layered ms (put_names z xs l s)
  names-marked [] l s ms a h = (ms, grows-none ms, a, h)
  names-marked (x ∷ xs) l s ms a h =
      let u = name-marked x l s ms a h in
      let d = put_name z x l s in
      let v = names-marked xs d.0 d.1 u.0 u.2 u.3 in
      (v.0, grows-both ms u.0 v.0 u.1 v.1, v.2, v.3)

  -- names that are put are known
  name-known : (x : List ℕ) (l : Layer) (s : Sketch) (y : List ℕ) → Knows l y → Knows (put_name z x l s).0 y
  name-known x l s y h = by (entry_in l x)
    where
      by : (o : Option Entry) → Knows (put_name_if o (shapes_in z x) x l s).0 y
      by (Some e) = h
      by None = knows-put l x (entry_at (hole (shapes_in z x) s).0 (shapes_in z x)) y h

  own-known : (x : List ℕ) (l : Layer) (s : Sketch) → Knows (put_name z x l s).0 x
  own-known x l s = by (entry_in l x) refl
    where
      by : (o : Option Entry) → entry_in l x ≡ o → Knows (put_name_if o (shapes_in z x) x l s).0 x
      by (Some e) q = ap is_some q
      by None q = knows-own l x (entry_at (hole (shapes_in z x) s).0 (shapes_in z x))

  names-known : (xs : List (List ℕ)) (l : Layer) (s : Sketch) (y : List ℕ) → Knows l y ⊎ Occurs xs y → Knows (put_names z xs l s).0 y
  names-known [] l s y (inl h) = h
  names-known [] l s y (inr h) = absurd h
  names-known (x ∷ xs) l s y (inl h) = let d = put_name z x l s in names-known xs d.0 d.1 y (inl (name-known x l s y h))
  names-known (x ∷ xs) l s y (inr (inl e)) = let d = put_name z x l s in names-known xs d.0 d.1 y (inl (subst (Knows d.0) e (own-known x l s)))
  names-known (x ∷ xs) l s y (inr (inr h)) = let d = put_name z x l s in names-known xs d.0 d.1 y (inr h)

  own-marked : (ds : List Decl) (es : Eqns) (s : Sketch) (ms : Marks) → AreMarked steers s ms → Layered ms (own_layer t z ds es s)
  unfolding own_layer
  own-marked ds es s ms a =
      let u = locals-marked 0 ds [] s ms a (λ x e q. absurd (none-some e q)) in
      let d = put_locals t 0 ds [] s in
      let v = names-marked (names_of_eqns es) d.0 d.1 u.0 u.2 u.3 in
      (v.0, grows-both ms u.0 v.0 u.1 v.1, v.2, v.3)

  own-has : (ds : List Decl) (es : Eqns) (s : Sketch) (x : List ℕ) → some_defines es x ≡ true → Knows (own_layer t z ds es s).0 x
  unfolding own_layer
  own-has ds es s x h = let d = put_locals t 0 ds [] s in names-known (names_of_eqns es) d.0 d.1 x (inr (eqns-occur es x h))

  -- ---- last values

  abbrev pub IsLastLayer : Marks → Layer → Type 0
  IsLastLayer ms l = (x : List ℕ) (e : Entry) → entry_in l x ≡ Some e → Low steers ms (or_none e.wire) context

  lasts-grow : (ms ms' : Marks) → Grows ms ms' → (l : Layer) → IsLastLayer ms l → IsLastLayer ms' l
  lasts-grow ms ms' g l h x e q = low-grows steers ms ms' g (or_none e.wire) context (h x e q)

  lasts-put : (ms : Marks) (l : Layer) (y : List ℕ) (n : Entry) → IsLastLayer ms l → Low steers ms (or_none n.wire) context → IsLastLayer ms (put l y n)
  lasts-put ms l y n h k x e q = by (bytes_eq x y) (sym (put-found l y n x) ∙ q)
    where
      by : (b : Bool) → entry_if b n (entry_in l x) ≡ Some e → Low steers ms (or_none e.wire) context
      by true p = subst (λ i. Low steers ms (or_none i.wire) context) (same_Some n e p) k
      by false p = h x e p

  abbrev Lasted : Marks → Entry × Sketch → Type 0
  Lasted ms d = (ms' : Marks) × Grows ms ms' × AreMarked steers d.1 ms' × Low steers ms' (or_none d.0.wire) context

  last-marked : (spot : Place) (first : ℕ) (p : Shape) (w : ℕ) (s : Sketch) (ms : Marks) → At ms s spot → There steers ms w → Lasted ms (last_entry spot first p w s)
  unfolding last_entry
  last-marked spot first p w s ms at there = by (is_mark p)
    where
      by : (b : Bool) → Lasted ms (last_entry_if b spot first p w s)
      by true = let u = steps.mark-marked steers s ms none at.marks in (u.0, u.1, u.2, low-up steers u.0 (mark s).0 none context (λ h. absurd h) (low-own steers u.0 (mark s).0 none u.3))
      by false =
          let r = new_register spot first p s in
          let u = new_register-marked steers spot first p s ms context at.marks at.placed in
          let v = takes-marked steers r.0 spot w r.1 u.0 context u.2 (placed-grows steers ms u.0 u.1 spot context at.placed) u.3 (there-grows steers ms u.0 u.1 w there) in
          (v.0, grows-both ms u.0 v.0 u.1 v.1, v.2, low-grows steers u.0 v.0 v.1 r.0.read context u.3.reads)

  -- the wire of a name in a layer, or the one that is always there
  wire-there : (ms : Marks) (s : Sketch) (l : Layer) (x : List ℕ) → AreMarked steers s ms → IsLayer ms l → There steers ms (wire_in l x)
  wire-there ms s l x a h = by (entry_in l x) refl
    where
      by : (o : Option Entry) → entry_in l x ≡ o → There steers ms (or_none (wire_by o))
      by None q = low-there steers ms low none a.low_is
      by (Some e) q = record { mark = both context (inner x); has = (h x e q).0 }

  -- each name has a wire, which may be the one that is always there
  abbrev pub AllThere : Marks → Layer → Type 0
  AllThere ms l = (x : List ℕ) → There steers ms (wire_in l x)

  abbrev pub LastLayered : Marks → Layer × Sketch → Type 0
  LastLayered ms d = (ms' : Marks) × Grows ms ms' × AreMarked steers d.1 ms' × IsLastLayer ms' d.0

  one-last : (spot : Place) (d : Decl) (o : Option Const) (values l : Layer) (s : Sketch) (ms : Marks) → At ms s spot → AllThere ms values → IsLastLayer ms l → LastLayered ms (add_last t spot d o values l s)
  one-last spot d None values l s ms at v h = (ms, grows-none ms, at.marks, h)
  one-last spot d (Some c) values l s ms at v h =
      let e = last_entry spot (constant_number t c) (type_shape t d.ty) (wire_in values d.name) s in
      let u = last-marked spot (constant_number t c) (type_shape t d.ty) (wire_in values d.name) s ms at (v d.name) in
      (u.0, u.1, u.2, lasts-put u.0 l d.name e.0 (lasts-grow ms u.0 u.1 l h) u.3)

  pub all-lasts : (spot : Place) (ds : List Decl) (values l : Layer) (s : Sketch) (ms : Marks) → At ms s spot → AllThere ms values → IsLastLayer ms l → LastLayered ms (add_lasts t spot ds values l s)
  all-lasts spot [] values l s ms at v h = (ms, grows-none ms, at.marks, h)
  all-lasts spot (d ∷ ds) values l s ms at v h =
      let a = add_last t spot d d.last values l s in
      let u = one-last spot d d.last values l s ms at v h in
      let w = all-lasts spot ds values a.0 a.1 u.0 (behind ms u.0 s a.1 spot at u.1 u.2) (λ x. there-grows steers ms u.0 u.1 (wire_in values x) (v x)) u.3 in
      (w.0, grows-both ms u.0 w.0 u.1 w.1, w.2, w.3)

  -- ---- the block

  value-seen : (ms : Marks) (own : Layer) (x : List ℕ) → IsLayer ms own → (entry_in own x ≡ None → inner x ≡ names x) → Low steers ms (value_by (found z.values x)).wire (both context (names x))
      → Low steers ms (value_by (or_found (entry_in own x) (found z.values x))).wire (both context (inner x))
  value-seen ms own x h out low = by (entry_in own x) refl
    where
      by : (o : Option Entry) → entry_in own x ≡ o → Low steers ms (value_by (or_found o (found z.values x))).wire (both context (inner x))
      by None q = subst (λ m. Low steers ms (value_by (found z.values x)).wire (both context m)) (sym (out q)) low
      by (Some e) q = low-own steers ms (or_none e.wire) (both context (inner x)) (h x e q).0

  last-seen : (ms : Marks) (own : Layer) (x : List ℕ) → IsLastLayer ms own → Low steers ms (value_by (found z.lasts x)).wire context → Low steers ms (value_by (or_found (entry_in own x) (found z.lasts x))).wire context
  last-seen ms own x h low = by (entry_in own x) refl
    where
      by : (o : Option Entry) → entry_in own x ≡ o → Low steers ms (value_by (or_found o (found z.lasts x))).wire context
      by None q = low
      by (Some e) q = h x e q

  abbrev pub Entered : Marks → Eqns → Scope × Sketch → Type 0
  Entered ms es d = (ms' : Marks) × Grows ms ms' × AreMarked steers d.1 ms' × AreSeen steers ms' d.0 context inner × IsOwned ms' d.0 context inner (some_defines es)

  pub enter-marked : (ds : List Decl) (es : Eqns) (spot : Place) (s : Sketch) (ms : Marks) → ((x : List ℕ) → some_defines es x ≡ false → inner x ≡ names x) → At ms s spot → Entered ms es (enter t z spot ds es s)
  unfolding enter push_values push_lasts value_in last_in own_entry
  enter-marked ds es spot s ms outside at =
      let own = own_layer t z ds es s in
      let u = own-marked ds es s ms at.marks in
      let lasts = add_lasts t spot ds own.0 [] own.1 in
      let v = all-lasts spot ds own.0 [] own.1 u.0 (behind ms u.0 s own.1 spot at u.1 u.2) (λ x. wire-there u.0 own.1 own.0 x u.2 u.3) (λ x e q. absurd (none-some e q)) in
      let g = grows-both ms u.0 v.0 u.1 v.1 in
      let layer = layer-grows u.0 v.0 v.1 own.0 u.3 in (
        v.0,
        g,
        v.2,
        record {
          values = λ x. value-seen v.0 own.0 x layer (λ q. unknown x q) (low-grows steers ms v.0 g (value_by (found z.values x)).wire (both context (names x)) (at.seen.values x));
          lasts = λ x. last-seen v.0 lasts.0 x v.3 (low-grows steers ms v.0 g (value_by (found z.lasts x)).wire context (at.seen.lasts x));
        },
        record {
          known = λ x d. own-has ds es s x d;
          wires = λ x d. own-wire v.0 own.0 x layer (own-has ds es s x d);
          holes = λ x e q. (layer x e q).1;
        },
      )
    where
      unknown : (x : List ℕ) → entry_in (own_layer t z ds es s).0 x ≡ None → inner x ≡ names x
      unknown x q = by (some_defines es x) refl
        where
          by : (b : Bool) → some_defines es x ≡ b → inner x ≡ names x
          by true d = absurd (let k = own-has ds es s x d in let c : false ≡ true = ap is_some (sym q) ∙ k in cc)
          by false d = outside x d

      own-wire : (ms : Marks) (own : Layer) (x : List ℕ) → IsLayer ms own → Knows own x → Has ms (value_by (or_found (entry_in own x) (found z.values x))).wire (both context (inner x))
      own-wire ms own x h k = by (entry_in own x) refl k
        where
          by : (o : Option Entry) → entry_in own x ≡ o → is_some o ≡ true → Has ms (value_by (or_found o (found z.values x))).wire (both context (inner x))
          by None q k = absurd (cc)
          by (Some e) q k = (h x e q).0
