-- What the innermost layer of a block knows and no declaration of it names is what the block defines for those around it.
use Rattle.std.proofs.Common.{◌≡◌, ◌⊎◌, ℕ, ◌+◌, Bool, true, false, not, ◌&&◌, ◌||◌, List, [], ◌∷◌, Option, None, Some, refl, sym, ap, subst, ◌∙◌, inl, inr}
use Rattle.std.specs.Prelude.{is_some}
use Rattle.std.specs.Str.{bytes_eq}
use Rattle.std.proofs.lemmas.Option.{same_Some, none-some}
use Rattle.hp_tree.specs.Blocks.{Decl, Block, block, Eqns}
use Rattle.hp_tree.specs.Meaning.{declares, some_defines, block_defines}
use Rattle.hp_drawing.specs.declared.parts.Entry.{Entry}
use Rattle.hp_drawing.specs.declared.parts.Place.{Place}
use Rattle.hp_drawing.specs.Told.{Told, type_shape}
use Rattle.hp_drawing.specs.Sketch.{Sketch, hole}
use Rattle.hp_drawing.specs.Scopes.{Scope, Layer, entry_at, local_entry, entry_if, entry_in, put, add_if, add, outer_layers, top_layer, shapes_in, names_of_eqns, put_locals, put_name_if, put_names, own_layer, enter, push_values, push_lasts}
use Rattle.hp_drawing.specs.DrawnExpressions.{Brings}
use Rattle.hp_drawing.specs.DrawnBlocks.{drawn_block}
use Rattle.law_drawing.proofs.CarryingLemmas.Layers.{Each, same-name, put-found, Knows, knows-put, knows-add, knows-added, eqns-names}

module _ (P : List ℕ → Type 0) where
  -- names that no declaration names have a property
  abbrev pub IsOuter : Layer → Type 0
  IsOuter l = (x : List ℕ) (e : Entry) → entry_in l x ≡ Some e → e.decl ≡ None → P x

  outer-put : (l : Layer) (y : List ℕ) (n : Entry) → IsOuter l → (n.decl ≡ None → P y) → IsOuter (put l y n)
  outer-put l y n h k x e q d = by (bytes_eq x y) refl (sym (put-found l y n x) ∙ q)
    where
      by : (b : Bool) → bytes_eq x y ≡ b → entry_if b n (entry_in l x) ≡ Some e → P x
      by true r p = subst P (sym (same-name x y r)) (k (ap (λ o. o.decl) (same_Some n e p) ∙ d))
      by false r p = h x e p d

  outer-add : (l : Layer) (y : List ℕ) (n : Entry) → IsOuter l → (n.decl ≡ None → P y) → IsOuter (add l y n)
  outer-add l y n h k = by (entry_in l y)
    where
      by : (o : Option Entry) → IsOuter (add_if o l y n)
      by None = outer-put l y n h k
      by (Some old) = h

  locals-outer : (t : Told) (k : ℕ) (ds : List Decl) (l : Layer) (s : Sketch) → IsOuter l → IsOuter (put_locals t k ds l s).0
  locals-outer t k [] l s h = h
  locals-outer t k (d ∷ ds) l s h =
      let w = hole (type_shape t d.ty) s in
      let e = local_entry k w.0 (type_shape t d.ty) in
      locals-outer t (k + 1) ds (add l d.name e) w.1 (outer-add l d.name e h (λ q. absurd (none-some k (sym q))))

or-by : {X : Type 0} (a b : Bool) → a || b ≡ true → (a ≡ true → X) → (b ≡ true → X) → X
or-by true b h f g = f refl
or-by false b h f g = g h

-- all declared names are known
locals-know : (t : Told) (k : ℕ) (ds : List Decl) (l : Layer) (s : Sketch) (x : List ℕ) → Knows l x ⊎ (declares ds x ≡ true) → Knows (put_locals t k ds l s).0 x
locals-know t k [] l s x (inl h) = h
locals-know t k [] l s x (inr h) = absurd cc
locals-know t k (d ∷ ds) l s x (inl h) =
    let w = hole (type_shape t d.ty) s in
    let e = local_entry k w.0 (type_shape t d.ty) in
    locals-know t (k + 1) ds (add l d.name e) w.1 x (inl (knows-add l d.name e x h))
locals-know t k (d ∷ ds) l s x (inr h) =
    let w = hole (type_shape t d.ty) s in
    let e = local_entry k w.0 (type_shape t d.ty) in
    locals-know t (k + 1) ds (add l d.name e) w.1 x
    (or-by (bytes_eq d.name x) (declares ds x) h (λ i. inl (subst (Knows (add l d.name e)) (same-name d.name x i) (knows-added l d.name e))) (λ r. inr r))

known-not : (o : Option Entry) → o ≡ None → is_some o ≡ true → ⊥
known-not o q k = let c : false ≡ true = sym (ap is_some q) ∙ k in cc

block-of : (ds : List Decl) (es : Eqns) (x : List ℕ) → some_defines es x ≡ true → declares ds x ≡ false → block_defines (block ds es) x ≡ true
block-of ds es x h d = ap (λ b. b && not (declares ds x)) h ∙ ap not d

names-outer : (z : Scope) (ds : List Decl) (es : Eqns) (xs : List (List ℕ)) (l : Layer) (s : Sketch) → Each (λ x. some_defines es x ≡ true) xs → ((x : List ℕ) → declares ds x ≡ true → Knows l x) → IsOuter (λ x. block_defines (block ds es) x ≡ true) l
    → IsOuter (λ x. block_defines (block ds es) x ≡ true) (put_names z xs l s).0
names-outer z ds es [] l s d k h = h
names-outer z ds es (x ∷ xs) l s d k h = by (entry_in l x) refl (λ l s k h. names-outer z ds es xs l s d.1 k h)
  where
    Outer : Layer → Type 0
    Outer l = IsOuter (λ x. block_defines (block ds es) x ≡ true) l

    undeclared : entry_in l x ≡ None → (b : Bool) → declares ds x ≡ b → declares ds x ≡ false
    undeclared q true i = absurd (known-not (entry_in l x) q (k x i))
    undeclared q false i = i

    by : (o : Option Entry) → entry_in l x ≡ o → ((l : Layer) (s : Sketch) → ((x : List ℕ) → declares ds x ≡ true → Knows l x) → Outer l → Outer (put_names z xs l s).0)
        → Outer (let a = put_name_if o (shapes_in z x) x l s in put_names z xs a.0 a.1).0
    by (Some e) q more = more l s k h
    by None q more =
        let w = hole (shapes_in z x) s in
        let e = entry_at w.0 (shapes_in z x) in
        more (put l x e) w.1 (λ y i. knows-put l x e y (k y i)) (outer-put (λ x. block_defines (block ds es) x ≡ true) l x e h (λ i. block-of ds es x d.0 (undeclared q (declares ds x) refl)))

own-outer : (t : Told) (z : Scope) (ds : List Decl) (es : Eqns) (s : Sketch) → IsOuter (λ x. block_defines (block ds es) x ≡ true) (own_layer t z ds es s).0
unfolding own_layer
own-outer t z ds es s =
    let a = put_locals t 0 ds [] s in
    names-outer z ds es (names_of_eqns es) a.0 a.1 (eqns-names es) (λ x i. locals-know t 0 ds [] s x (inr i)) (locals-outer (λ x. block_defines (block ds es) x ≡ true) t 0 ds [] s (λ x e q. absurd (none-some e q)))

-- the scope in a block: one layer more, and of it what no declaration names is defined by the block
pub record IsWithin (b : Block) (outside inside : Scope) : Type 0 where
  pub values : outer_layers inside.values ≡ outside.values
  pub lasts : outer_layers inside.lasts ≡ outside.lasts
  pub outer : IsOuter (λ x. block_defines b x ≡ true) (top_layer inside)

pub block-within : (t : Told) (brings : Brings) (z : Scope) (spot : Place) (b : Block) (s : Sketch) → IsWithin b z (drawn_block t brings z spot b s).0
unfolding enter push_values push_lasts top_layer
block-within t brings z spot (block ds es) s = record { values = refl; lasts = refl; outer = own-outer t z ds es s }
