-- Entering a block, with marks: each name that it declares or defines has a wire with the mark of that name, and last values read what cuts the block.
use Rattle.std.proofs.Common.{◌≡◌, ◌⊎◌, ℕ, ◌+◌, Bool, true, false, ◌||◌, List, [], ◌∷◌, Option, None, Some, refl, sym, ap, subst, ◌∙◌, inl, inr}
use Rattle.std.specs.Prelude.{is_some}
use Rattle.std.specs.Str.{bytes_eq}
use Rattle.std.proofs.lemmas.Option.{same_Some, none-some}
use Rattle.hp_base.specs.declared.ty.Const.{Const}
use Rattle.hp_tree.specs.Blocks.{Decl, Eqns}
use Rattle.hp_tree.specs.Meaning.{declares, some_defines}
use Rattle.hp_tree.specs.Instant.{Place as TreePlace}
use Rattle.hp_meaning.specs.Causal.Sources.{NameSources}
use Rattle.hp_circuit.specs.declared.circuit.Shape.{Shape}
use Rattle.hp_drawing.specs.declared.parts.Entry.{Entry}
use Rattle.hp_drawing.specs.declared.parts.Place.{Place}
use Rattle.hp_drawing.specs.Kept.{is_mark}
use Rattle.hp_drawing.specs.Told.{Told, type_shape, constant_number, or_none}
use Rattle.hp_drawing.specs.Sketch.{Sketch, low, hole, mark}
use Rattle.hp_drawing.specs.Places.{new_register}
use Rattle.hp_drawing.specs.Scopes.{Scope, Layer, entry_at, local_entry, entry_if, entry_in, put, add_if, add, value_by, wire_by, wire_in, or_found, found, value_in, last_in, own_entry, shapes_in, names_of_eqns, put_locals, put_name_if, put_name, put_names, last_entry_if, last_entry, add_last, add_lasts, own_layer, enter, top_layer, push_values, push_lasts}
use Rattle.law_drawing.proofs.CarryingLemmas.Layers.{same-name, self-name, put-found, Knows, knows-put, knows-own, Occurs, eqns-occur}
use Rattle.law_games.specs.Mirror.Memories.{AreApart}
use Rattle.law_drawing.specs.NoCircle.Marks.{Mark, Marks, ground, Grows, Has, Low, There, Frame, later, AreMarked, around}
use Rattle.law_drawing.specs.NoCircle.Asked.{AreSeen, IsOwned, Owed}
use Rattle.law_drawing.proofs.NoCircleLemmas.Steps.{grows-none, grows-both, has-grows, low-grows, there-grows, low-there, low-own, low-up, Step}
use Rattle.law_drawing.proofs.CarryingLemmas.Own.{entered-own}
use Rattle.law_drawing.proofs.NoCircleLemmas.Steps as steps
use Rattle.law_drawing.proofs.NoCircleLemmas.Parts.{placed-grows, new_register-marked, takes-marked}
use Rattle.law_drawing.proofs.NoCircleLemmas.Values.{IsAt, at-behind}

-- ---- the holes of a layer that are to be said

abbrev pub LayerLate : Layer → ℕ → Type 0
LayerLate l k = (x : List ℕ) × (e : Entry) × (entry_in l x ≡ Some e) × (is_mark e.shape ≡ false) × (k ≡ e.hole)

put-own : (l : Layer) (y : List ℕ) (n : Entry) → is_mark n.shape ≡ false → LayerLate (put l y n) n.hole
put-own l y n q = (y, n, put-found l y n y ∙ ap (λ b. entry_if b n (entry_in l y)) (self-name y), q, refl)

put-late : (l : Layer) (y : List ℕ) (n : Entry) → entry_in l y ≡ None → (k : ℕ) → LayerLate l k → LayerLate (put l y n) k
put-late l y n missing k (x, e, q, part, same) = (x, e, put-found l y n x ∙ by (bytes_eq x y) refl, part, same)
  where
    by : (b : Bool) → bytes_eq x y ≡ b → entry_if b n (entry_in l x) ≡ Some e
    by true r = absurd (none-some e (sym missing ∙ ap (entry_in l) (sym (same-name x y r)) ∙ q))
    by false r = q

add-is : (l : Layer) (y : List ℕ) (n : Entry) → entry_in l y ≡ None → add l y n ≡ put l y n
add-is l y n missing = ap (λ o. add_if o l y n) missing

add-found : (l : Layer) (y : List ℕ) (n : Entry) → entry_in l y ≡ None → (x : List ℕ) → entry_in (add l y n) x ≡ entry_if (bytes_eq x y) n (entry_in l x)
add-found l y n missing x = ap (λ i. entry_in i x) (add-is l y n missing) ∙ put-found l y n x

late-own : (l : Layer) (y : List ℕ) (n : Entry) → entry_in l y ≡ None → is_mark n.shape ≡ false → LayerLate (add l y n) n.hole
late-own l y n missing q = subst (λ i. LayerLate i n.hole) (sym (add-is l y n missing)) (put-own l y n q)

late-add : (l : Layer) (y : List ℕ) (n : Entry) → entry_in l y ≡ None → (k : ℕ) → LayerLate l k → LayerLate (add l y n) k
late-add l y n missing k q = subst (λ i. LayerLate i k) (sym (add-is l y n missing)) (put-late l y n missing k q)

right-or : (a b : Bool) → b ≡ true → a || b ≡ true
right-or true b h = refl
right-or false b h = h

-- They are owed where the block defines its names.
late-owed : (t : Told) (z : Scope) (spot : Place) (ds : List Decl) (es : Eqns) (s : Sketch) → ((x : List ℕ) → declares ds x ≡ true → some_defines es x ≡ true) → (k : ℕ) → LayerLate (own_layer t z ds es s).0 k → Owed (enter t z spot ds es s).0 (some_defines es) k
unfolding enter push_values push_lasts own_entry top_layer
late-owed t z spot ds es s filled k (x, e, q, part, same) = (x, e, q, part, same, by (declares ds x) refl)
  where
    by : (b : Bool) → declares ds x ≡ b → some_defines es x ≡ true
    by true r = filled x r
    by false r = ((entered-own t z spot ds es s).owned x e q).defined r

module _ (rank : TreePlace → ℕ) (t : Told) (z : Scope) (context : Mark) (names inner : NameSources) where
  abbrev At : Frame → Marks → Sketch → Place → Type 0
  At F ms s spot = IsAt rank z context names F ms s spot

  behind : {F G : Frame} (ms ms' : Marks) (s s' : Sketch) (spot : Place) → At F ms s spot → Grows ms ms' → AreMarked G s' ms' → At G ms' s' spot
  behind ms ms' s s' spot h g a = at-behind rank z context names ms ms' s s' spot h g a

  -- ---- layers of names

  -- each name has a wire with its mark, which is said later
  abbrev pub IsEntry : Marks → List ℕ → Entry → Type 0
  IsEntry ms x e = Has ms (or_none e.wire) (around rank context (inner x)) × Has ms e.hole (around rank context (inner x))

  abbrev pub IsLayer : Marks → Layer → Type 0
  IsLayer ms l = (x : List ℕ) (e : Entry) → entry_in l x ≡ Some e → IsEntry ms x e

  layer-grows : (ms ms' : Marks) → Grows ms ms' → (l : Layer) → IsLayer ms l → IsLayer ms' l
  layer-grows ms ms' g l h x e q =
      let k = h x e q in
      (has-grows ms ms' g (or_none e.wire) (around rank context (inner x)) k.0, has-grows ms ms' g e.hole (around rank context (inner x)) k.1)

  layer-put : (ms : Marks) (l : Layer) (y : List ℕ) (n : Entry) → IsLayer ms l → IsEntry ms y n → IsLayer ms (put l y n)
  layer-put ms l y n h k x e q = by (bytes_eq x y) refl (sym (put-found l y n x) ∙ q)
    where
      by : (b : Bool) → bytes_eq x y ≡ b → entry_if b n (entry_in l x) ≡ Some e → IsEntry ms x e
      by true r p = subst (λ i. IsEntry ms i e) (sym (same-name x y r)) (subst (IsEntry ms y) (same_Some n e p) k)
      by false r p = h x e p

  layer-add : (ms : Marks) (l : Layer) (y : List ℕ) (n : Entry) → IsLayer ms l → IsEntry ms y n → IsLayer ms (add l y n)
  layer-add ms l y n h k = by (entry_in l y)
    where
      by : (o : Option Entry) → IsLayer ms (add_if o l y n)
      by None = layer-put ms l y n h k
      by (Some old) = h

  abbrev Layered : Frame → Marks → Layer × Sketch → Type 0
  Layered F ms d = (ms' : Marks) × Grows ms ms' × AreMarked (later F (LayerLate d.0)) d.1 ms' × IsLayer ms' d.0

  apart-behind : (d : Decl) (ds : List Decl) (l : Layer) (e : Entry) → declares ds d.name ≡ false → entry_in l d.name ≡ None → ((x : List ℕ) → declares ds x ≡ true → entry_in l x ≡ None) → (x : List ℕ) → declares ds x ≡ true → entry_in (add l d.name e) x ≡ None
  apart-behind d ds l e apart missing f x h = add-found l d.name e missing x ∙ by (bytes_eq x d.name) refl
    where
      by : (b : Bool) → bytes_eq x d.name ≡ b → entry_if b e (entry_in l x) ≡ None
      by true q = absurd (let c : true ≡ false = sym h ∙ ap (declares ds) (same-name x d.name q) ∙ apart in cc)
      by false q = f x h

  locals-marked : (F : Frame) (k : ℕ) (ds : List Decl) (l : Layer) (s : Sketch) (ms : Marks) → AreApart ds → ((x : List ℕ) → declares ds x ≡ true → entry_in l x ≡ None) → AreMarked (later F (LayerLate l)) s ms → IsLayer ms l → Layered F ms (put_locals t k ds l s)
  locals-marked F k [] l s ms apart f a h = (ms, grows-none ms, a, h)
  locals-marked F k (d ∷ ds) l s ms apart f a h =
      let p = type_shape t d.ty in
      let e = local_entry k (hole p s).0 p in
      let missing = f d.name (ap (λ b. b || declares ds d.name) (self-name d.name)) in
      let l1 = add l d.name e in
      let u = steps.hole-marked p s ms (around rank context (inner d.name)) (λ q. inr (late-own l d.name e missing q)) (steps.weaken (later F (LayerLate l1)).late s ms (λ i q. elim q [ inl o ↦ inl o | inr o ↦ inr (late-add l d.name e missing i o) ]) a) in
      let v = locals-marked F (k + 1) ds l1 (hole p s).1 u.0 apart.1 (apart-behind d ds l e apart.0 missing (λ x q. f x (right-or (bytes_eq d.name x) (declares ds x) q))) u.2 (layer-add u.0 l d.name e (layer-grows ms u.0 u.1 l h) (u.3, u.3)) in
      (v.0, grows-both ms u.0 v.0 u.1 v.1, v.2, v.3)

  name-marked : (F : Frame) (x : List ℕ) (l : Layer) (s : Sketch) (ms : Marks) → AreMarked (later F (LayerLate l)) s ms → IsLayer ms l → Layered F ms (put_name z x l s)
  name-marked F x l s ms a h = by (entry_in l x) refl
    where
      by : (o : Option Entry) → entry_in l x ≡ o → Layered F ms (put_name_if o (shapes_in z x) x l s)
      by (Some e) q = (ms, grows-none ms, a, h)
      by None q =
          let p = shapes_in z x in
          let e = entry_at (hole p s).0 p in
          let l1 = put l x e in
          let u = steps.hole-marked p s ms (around rank context (inner x)) (λ r. inr (put-own l x e r)) (steps.weaken (later F (LayerLate l1)).late s ms (λ i r. elim r [ inl o ↦ inl o | inr o ↦ inr (put-late l x e q i o) ]) a) in
          (u.0, u.1, u.2, layer-put u.0 l x e (layer-grows ms u.0 u.1 l h) (u.3, u.3))

  names-marked : (F : Frame) (xs : List (List ℕ)) (l : Layer) (s : Sketch) (ms : Marks) → AreMarked (later F (LayerLate l)) s ms → IsLayer ms l → Layered F ms (put_names z xs l s)
  names-marked F [] l s ms a h = (ms, grows-none ms, a, h)
  names-marked F (x ∷ xs) l s ms a h =
      let u = name-marked F x l s ms a h in
      let d = put_name z x l s in
      let v = names-marked F xs d.0 d.1 u.0 u.2 u.3 in
      (v.0, grows-both ms u.0 v.0 u.1 v.1, v.2, v.3)

  -- names that are put are known
  name-known : (x : List ℕ) (l : Layer) (s : Sketch) (y : List ℕ) → Knows l y → Knows (put_name z x l s).0 y
  name-known x l s y h = by (entry_in l x)
    where
      by : (o : Option Entry) → Knows (put_name_if o (shapes_in z x) x l s).0 y
      by (Some e) = h
      by None = knows-put l x (entry_at (hole (shapes_in z x) s).0 (shapes_in z x)) y h

  own-known : (x : List ℕ) (l : Layer) (s : Sketch) → Knows (put_name z x l s).0 x
  own-known x l s = by (entry_in l x) refl
    where
      by : (o : Option Entry) → entry_in l x ≡ o → Knows (put_name_if o (shapes_in z x) x l s).0 x
      by (Some e) q = ap is_some q
      by None q = knows-own l x (entry_at (hole (shapes_in z x) s).0 (shapes_in z x))

  names-known : (xs : List (List ℕ)) (l : Layer) (s : Sketch) (y : List ℕ) → Knows l y ⊎ Occurs xs y → Knows (put_names z xs l s).0 y
  names-known [] l s y (inl h) = h
  names-known [] l s y (inr h) = absurd h
  names-known (x ∷ xs) l s y (inl h) = let d = put_name z x l s in names-known xs d.0 d.1 y (inl (name-known x l s y h))
  names-known (x ∷ xs) l s y (inr (inl e)) = let d = put_name z x l s in names-known xs d.0 d.1 y (inl (subst (Knows d.0) e (own-known x l s)))
  names-known (x ∷ xs) l s y (inr (inr h)) = let d = put_name z x l s in names-known xs d.0 d.1 y (inr h)

  own-marked : (F : Frame) (ds : List Decl) (es : Eqns) (s : Sketch) (ms : Marks) → AreApart ds → AreMarked F s ms → Layered F ms (own_layer t z ds es s)
  unfolding own_layer
  own-marked F ds es s ms apart a =
      let u = locals-marked F 0 ds [] s ms apart (λ x q. refl) (steps.weaken (later F (LayerLate [])).late s ms (λ i q. inl q) a) (λ x e q. absurd (none-some e q)) in
      let d = put_locals t 0 ds [] s in
      let v = names-marked F (names_of_eqns es) d.0 d.1 u.0 u.2 u.3 in
      (v.0, grows-both ms u.0 v.0 u.1 v.1, v.2, v.3)

  own-has : (ds : List Decl) (es : Eqns) (s : Sketch) (x : List ℕ) → some_defines es x ≡ true → Knows (own_layer t z ds es s).0 x
  unfolding own_layer
  own-has ds es s x h = let d = put_locals t 0 ds [] s in names-known (names_of_eqns es) d.0 d.1 x (inr (eqns-occur es x h))

  -- ---- last values

  abbrev pub IsLastLayer : Marks → Layer → Type 0
  IsLastLayer ms l = (x : List ℕ) (e : Entry) → entry_in l x ≡ Some e → Low ms (or_none e.wire) context

  lasts-grow : (ms ms' : Marks) → Grows ms ms' → (l : Layer) → IsLastLayer ms l → IsLastLayer ms' l
  lasts-grow ms ms' g l h x e q = low-grows ms ms' g (or_none e.wire) context (h x e q)

  lasts-put : (ms : Marks) (l : Layer) (y : List ℕ) (n : Entry) → IsLastLayer ms l → Low ms (or_none n.wire) context → IsLastLayer ms (put l y n)
  lasts-put ms l y n h k x e q = by (bytes_eq x y) (sym (put-found l y n x) ∙ q)
    where
      by : (b : Bool) → entry_if b n (entry_in l x) ≡ Some e → Low ms (or_none e.wire) context
      by true p = subst (λ i. Low ms (or_none i.wire) context) (same_Some n e p) k
      by false p = h x e p

  abbrev Lasted : Frame → Marks → Entry × Sketch → Type 0
  Lasted F ms d = (ms' : Marks) × Grows ms ms' × AreMarked F d.1 ms' × Low ms' (or_none d.0.wire) context

  last-marked : {F : Frame} (spot : Place) (first : ℕ) (p : Shape) (w : ℕ) (s : Sketch) (ms : Marks) → At F ms s spot → There ms w → Lasted F ms (last_entry spot first p w s)
  unfolding last_entry
  last-marked {F} spot first p w s ms at there = by (is_mark p)
    where
      by : (b : Bool) → Lasted F ms (last_entry_if b spot first p w s)
      by true = let u = steps.mark-marked s ms context at.marks in (u.0, u.1, u.2, low-own u.0 (mark s).0 context u.3)
      by false =
          let r = new_register spot first p s in
          let u = new_register-marked spot first p s ms context at.marks at.placed in
          let v = takes-marked r.0 spot w r.1 u.0 context u.2 (placed-grows ms u.0 u.1 spot context at.placed) u.3 (there-grows ms u.0 u.1 w there) in
          (v.0, grows-both ms u.0 v.0 u.1 v.1, v.2, low-grows u.0 v.0 v.1 r.0.read context u.3.reads)

  -- the wire of a name in a layer, or the one that is always there
  wire-there : {F : Frame} (ms : Marks) (s : Sketch) (l : Layer) (x : List ℕ) → AreMarked F s ms → IsLayer ms l → There ms (wire_in l x)
  wire-there ms s l x a h = by (entry_in l x) refl
    where
      by : (o : Option Entry) → entry_in l x ≡ o → There ms (or_none (wire_by o))
      by None q = low-there ms low ground a.low_is
      by (Some e) q = record { mark = around rank context (inner x); has = (h x e q).0 }

  -- each name has a wire, which may be the one that is always there
  abbrev pub AllThere : Marks → Layer → Type 0
  AllThere ms l = (x : List ℕ) → There ms (wire_in l x)

  abbrev pub LastLayered : Frame → Marks → Layer × Sketch → Type 0
  LastLayered F ms d = (ms' : Marks) × Grows ms ms' × AreMarked F d.1 ms' × IsLastLayer ms' d.0

  one-last : {F : Frame} (spot : Place) (d : Decl) (o : Option Const) (values l : Layer) (s : Sketch) (ms : Marks) → At F ms s spot → AllThere ms values → IsLastLayer ms l → LastLayered F ms (add_last t spot d o values l s)
  one-last spot d None values l s ms at v h = (ms, grows-none ms, at.marks, h)
  one-last spot d (Some c) values l s ms at v h =
      let e = last_entry spot (constant_number t c) (type_shape t d.ty) (wire_in values d.name) s in
      let u = last-marked spot (constant_number t c) (type_shape t d.ty) (wire_in values d.name) s ms at (v d.name) in
      (u.0, u.1, u.2, lasts-put u.0 l d.name e.0 (lasts-grow ms u.0 u.1 l h) u.3)

  pub all-lasts : {F : Frame} (spot : Place) (ds : List Decl) (values l : Layer) (s : Sketch) (ms : Marks) → At F ms s spot → AllThere ms values → IsLastLayer ms l → LastLayered F ms (add_lasts t spot ds values l s)
  all-lasts spot [] values l s ms at v h = (ms, grows-none ms, at.marks, h)
  all-lasts spot (d ∷ ds) values l s ms at v h =
      let a = add_last t spot d d.last values l s in
      let u = one-last spot d d.last values l s ms at v h in
      let w = all-lasts spot ds values a.0 a.1 u.0 (behind ms u.0 s a.1 spot at u.1 u.2) (λ x. there-grows ms u.0 u.1 (wire_in values x) (v x)) u.3 in
      (w.0, grows-both ms u.0 w.0 u.1 w.1, w.2, w.3)

  -- ---- the block

  value-seen : (ms : Marks) (own : Layer) (x : List ℕ) → IsLayer ms own → (entry_in own x ≡ None → inner x ≡ names x) → Low ms (value_by (found z.values x)).wire (around rank context (names x))
      → Low ms (value_by (or_found (entry_in own x) (found z.values x))).wire (around rank context (inner x))
  value-seen ms own x h out low = by (entry_in own x) refl
    where
      by : (o : Option Entry) → entry_in own x ≡ o → Low ms (value_by (or_found o (found z.values x))).wire (around rank context (inner x))
      by None q = subst (λ m. Low ms (value_by (found z.values x)).wire (around rank context m)) (sym (out q)) low
      by (Some e) q = low-own ms (or_none e.wire) (around rank context (inner x)) (h x e q).0

  last-seen : (ms : Marks) (own : Layer) (x : List ℕ) → IsLastLayer ms own → Low ms (value_by (found z.lasts x)).wire context → Low ms (value_by (or_found (entry_in own x) (found z.lasts x))).wire context
  last-seen ms own x h low = by (entry_in own x) refl
    where
      by : (o : Option Entry) → entry_in own x ≡ o → Low ms (value_by (or_found o (found z.lasts x))).wire context
      by None q = low
      by (Some e) q = h x e q

  abbrev pub Entered : Frame → Marks → Eqns → Scope × Sketch → Type 0
  Entered F ms es d = (ms' : Marks) × Grows ms ms' × AreMarked (later F (Owed d.0 (some_defines es))) d.1 ms' × AreSeen rank ms' d.0 context inner × IsOwned rank ms' d.0 context inner (some_defines es)

  pub enter-marked : (F : Frame) (ds : List Decl) (es : Eqns) (spot : Place) (s : Sketch) (ms : Marks) → AreApart ds → ((x : List ℕ) → declares ds x ≡ true → some_defines es x ≡ true) → ((x : List ℕ) → some_defines es x ≡ false → inner x ≡ names x) → At F ms s spot → Entered F ms es (enter t z spot ds es s)
  unfolding enter push_values push_lasts value_in last_in own_entry
  enter-marked F ds es spot s ms apart filled outside at =
      let own = own_layer t z ds es s in
      let u = own-marked F ds es s ms apart at.marks in
      let lasts = add_lasts t spot ds own.0 [] own.1 in
      let v = all-lasts spot ds own.0 [] own.1 u.0 (behind ms u.0 s own.1 spot at u.1 u.2) (λ x. wire-there u.0 own.1 own.0 x u.2 u.3) (λ x e q. absurd (none-some e q)) in
      let g = grows-both ms u.0 v.0 u.1 v.1 in
      let layer = layer-grows u.0 v.0 v.1 own.0 u.3 in (
        v.0,
        g,
        steps.weaken (λ k. F.late k ⊎ Owed (enter t z spot ds es s).0 (some_defines es) k) lasts.1 v.0 (λ k q. elim q [ inl o ↦ inl o | inr o ↦ inr (late-owed t z spot ds es s filled k o) ]) v.2,
        record {
          values = λ x. value-seen v.0 own.0 x layer (λ q. unknown x q) (low-grows ms v.0 g (value_by (found z.values x)).wire (around rank context (names x)) (at.seen.values x));
          lasts = λ x. last-seen v.0 lasts.0 x v.3 (low-grows ms v.0 g (value_by (found z.lasts x)).wire context (at.seen.lasts x));
        },
        record {
          known = λ x d. own-has ds es s x d;
          wires = λ x d. own-wire v.0 own.0 x layer (own-has ds es s x d);
          holes = λ x e q. (layer x e q).1;
        },
      )
    where
      unknown : (x : List ℕ) → entry_in (own_layer t z ds es s).0 x ≡ None → inner x ≡ names x
      unknown x q = by (some_defines es x) refl
        where
          by : (b : Bool) → some_defines es x ≡ b → inner x ≡ names x
          by true d = absurd (let k = own-has ds es s x d in let c : false ≡ true = ap is_some (sym q) ∙ k in cc)
          by false d = outside x d

      own-wire : (ms : Marks) (own : Layer) (x : List ℕ) → IsLayer ms own → Knows own x → Has ms (value_by (or_found (entry_in own x) (found z.values x))).wire (around rank context (inner x))
      own-wire ms own x h k = by (entry_in own x) refl k
        where
          by : (o : Option Entry) → entry_in own x ≡ o → is_some o ≡ true → Has ms (value_by (or_found o (found z.values x))).wire (around rank context (inner x))
          by None q k = absurd (cc)
          by (Some e) q k = (h x e q).0
