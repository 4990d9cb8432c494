-- What names are carried as in the scopes of a drawing.
use Rattle.std.proofs.Common.{◌≡◌, ℕ, ◌+◌, Bool, true, false, if◌then◌else◌, List, [], ◌∷◌, Option, None, Some, refl, sym, ap, ◌∙◌}
use Rattle.std.specs.Str.{bytes_eq}
use Rattle.std.proofs.lemmas.Slice.Eq.{bytes_eq-Decides}
use Rattle.hp_circuit.specs.declared.circuit.Shape.{Shape}
use Rattle.hp_tree.specs.Blocks.{Decl, Eqn, Eqns}
use Rattle.hp_drawing.specs.declared.parts.Entry.{Entry}
use Rattle.hp_drawing.specs.declared.parts.Place.{Place}
use Rattle.hp_drawing.specs.Told.{Told, type_shape}
use Rattle.hp_drawing.specs.Planned as planned
use Rattle.hp_drawing.specs.Planned.{Names, or_shape, or_later, add_at, over, declaring, with_declared}
use Rattle.hp_drawing.specs.Sketch.{Sketch, hole}
use Rattle.hp_drawing.specs.Scopes.{Layer, Scope, entry_at, local_entry, entry_if, entry_in, put_if, put, add_if, add, or_found, found, shape_by, innermost, outer_layers, push_values, push_lasts, pop_values, pop_lasts, top_layer, shapes_in, own_entry, last_wire, names_of_eqns, names_of_eqn, put_locals, put_name_if, put_name, put_names, own_layer, add_lasts, enter, leave, hidden_entry, hide_name_by, hide_name, hide_names, hide, with_hole, join_name, join_names, join_layers, join}

abbrev pub shape_if : Option Entry → Option Shape
shape_if None = None
shape_if (Some e) = Some e.shape

abbrev pub says : Layer → planned.Layer
says l x = shape_if (entry_in l x)

-- ---- one name more

bytes-turned : (x y : List ℕ) → bytes_eq x y ≡ bytes_eq y x
bytes-turned x y = one (bytes_eq x y) (bytes_eq y x) (λ h. (bytes_eq-Decides y x).1 (sym ((bytes_eq-Decides x y).0 h))) (λ h. (bytes_eq-Decides x y).1 (sym ((bytes_eq-Decides y x).0 h)))
  where
    one : (a b : Bool) → (a ≡ true → b ≡ true) → (b ≡ true → a ≡ true) → a ≡ b
    one true true h g = refl
    one true false h g = sym (h refl)
    one false true h g = g refl
    one false false h g = refl

chosen-there : (a b : Bool) (e f : Entry) (o : Option Entry) → a ≡ b → shape_if (entry_if a e o) ≡ (if b then Some e.shape else shape_if (entry_if a f o))
chosen-there true true e f o h = refl
chosen-there true false e f o h = absurd (let q : ⊥ = cc in q)
chosen-there false true e f o h = absurd (let q : ⊥ = cc in q)
chosen-there false false e f o h = refl

chosen-behind : (a b : Bool) (e f : Entry) (o more : Option Entry) → (a ≡ true → b ≡ false) → shape_if more ≡ (if b then Some e.shape else shape_if o)
    → shape_if (entry_if a f more) ≡ (if b then Some e.shape else shape_if (entry_if a f o))
chosen-behind true true e f o more h k = absurd (let g : true ≡ false = h refl in let q : ⊥ = cc in q)
chosen-behind true false e f o more h k = refl
chosen-behind false b e f o more h k = k

put-said : (d : Bool) (p : List ℕ × Entry) (y x : List ℕ) (e : Entry) (l more : Layer) → bytes_eq y p.0 ≡ d → says more x ≡ (if bytes_eq y x then Some e.shape else says l x)
    → says (put_if d p e l more) x ≡ (if bytes_eq y x then Some e.shape else says (p ∷ l) x)
put-said true p y x e l more h k =
    let same : y ≡ p.0 = (bytes_eq-Decides y p.0).0 h in
    chosen-there (bytes_eq x p.0) (bytes_eq y x) e p.1 (entry_in l x) (ap (λ z. bytes_eq x z) (sym same) ∙ bytes-turned x y)
put-said false p y x e l more h k =
    chosen-behind (bytes_eq x p.0) (bytes_eq y x) e p.1 (entry_in l x) (entry_in more x) (λ q. ap (λ z. bytes_eq y z) ((bytes_eq-Decides x p.0).0 q) ∙ h) k

pub said-put : (l : Layer) (y x : List ℕ) (e : Entry) → says (put l y e) x ≡ (if bytes_eq y x then Some e.shape else says l x)
said-put [] y x e = alone (bytes_eq x y) (bytes_eq y x) e (bytes-turned x y)
  where
    alone : (a b : Bool) (e : Entry) → a ≡ b → shape_if (entry_if a e None) ≡ (if b then Some e.shape else None)
    alone true true e h = refl
    alone true false e h = absurd (let q : ⊥ = cc in q)
    alone false true e h = absurd (let q : ⊥ = cc in q)
    alone false false e h = refl
said-put (p ∷ l) y x e = put-said (bytes_eq y p.0) p y x e l (put l y e) refl (said-put l y x e)

later-none : (o : Option Shape) → o ≡ or_later o None
later-none None = refl
later-none (Some s) = refl

add-said : (o : Option Entry) (l : Layer) (y x : List ℕ) (e : Entry) (b : Bool) → entry_in l y ≡ o → bytes_eq y x ≡ b → says (add_if o l y e) x ≡ or_later (says l x) (if b then Some e.shape else None)
add-said None l y x e true h k =
    let same : y ≡ x = (bytes_eq-Decides y x).0 k in
    let missing : says l x ≡ None = ap shape_if (ap (λ z. entry_in l z) (sym same) ∙ h) in
    said-put l y x e ∙ ap (λ b. if b then Some e.shape else says l x) k ∙ sym (ap (λ o. or_later o (Some e.shape)) missing)
add-said None l y x e false h k = said-put l y x e ∙ ap (λ b. if b then Some e.shape else says l x) k ∙ later-none (says l x)
add-said (Some old) l y x e true h k =
    let same : y ≡ x = (bytes_eq-Decides y x).0 k in
    let there : says l x ≡ Some old.shape = ap shape_if (ap (λ z. entry_in l z) (sym same) ∙ h) in
    there ∙ sym (ap (λ o. or_later o (Some e.shape)) there)
add-said (Some old) l y x e false h k = later-none (says l x)

pub said-add : (l : Layer) (y : List ℕ) (e : Entry) → says (add l y e) ≡ add_at (says l) y e.shape
said-add l y e = λ j x. add-said (entry_in l y) l y x e (bytes_eq y x) refl refl j

-- ---- names that are declared

over-added : (l : planned.Layer) (y : List ℕ) (s : Shape) (out : Names) → over (add_at l y s) out ≡ over l (λ x. if bytes_eq y x then s else out x)
over-added l y s out = λ j x. one (l x) (bytes_eq y x) s (out x) j
  where
    one : (o : Option Shape) (d : Bool) (s t : Shape) → or_shape (or_later o (if d then Some s else None)) t ≡ or_shape o (if d then s else t)
    one None true s t = refl
    one None false s t = refl
    one (Some u) d s t = refl

pub over-declared : (t : Told) (ds : List Decl) (l : planned.Layer) (out : Names) → over (with_declared t ds l) out ≡ over l (declaring t ds out)
over-declared t [] l out = refl
over-declared t (d ∷ ds) l out = over-declared t ds (add_at l d.name (type_shape t d.ty)) out ∙ over-added l d.name (type_shape t d.ty) (declaring t ds out)

-- a name that is said to be what it is
same-name : (d : Bool) (s t : Shape) → (d ≡ true → s ≡ t) → (if d then s else t) ≡ t
same-name true s t h = h refl
same-name false s t h = refl

over-own : (l : planned.Layer) (y : List ℕ) (s : Shape) (out : Names) → s ≡ out y → over (add_at l y s) out ≡ over l out
over-own l y s out e = over-added l y s out ∙ (λ j x. or_shape (l x) (same-name (bytes_eq y x) s (out x) (λ h. e ∙ ap out ((bytes_eq-Decides y x).0 h)) j))

pub own-said : (l : Layer) (y : List ℕ) (e : Entry) (out : Names) → e.shape ≡ out y → over (says (add l y e)) out ≡ over (says l) out
own-said l y e out h = ap (λ m. over m out) (said-add l y e) ∙ over-own (says l) y e.shape out h

pub locals-said : (t : Told) (k : ℕ) (ds : List Decl) (l : Layer) (s : Sketch) → says (put_locals t k ds l s).0 ≡ with_declared t ds (says l)
locals-said t k [] l s = refl
locals-said t k (d ∷ ds) l s =
    let w = hole (type_shape t d.ty) s in
    let e = local_entry k w.0 (type_shape t d.ty) in
    locals-said t (k + 1) ds (add l d.name e) w.1 ∙ ap (λ m. with_declared t ds m) (said-add l d.name e)

name-said : (o : Option Entry) (z : Scope) (x : List ℕ) (l : Layer) (s : Sketch) → entry_in l x ≡ o → over (says (put_name_if o (shapes_in z x) x l s).0) (shapes_in z) ≡ over (says l) (shapes_in z)
name-said None z x l s h =
    let w = hole (shapes_in z x) s in
    let e = entry_at w.0 (shapes_in z x) in
    let as_added : put l x e ≡ add l x e = ap (λ o. add_if o l x e) (sym h) in
    ap (λ m. over (says m) (shapes_in z)) as_added ∙ own-said l x e (shapes_in z) refl
name-said (Some old) z x l s h = refl

pub names-said : (z : Scope) (xs : List (List ℕ)) (l : Layer) (s : Sketch) → over (says (put_names z xs l s).0) (shapes_in z) ≡ over (says l) (shapes_in z)
names-said z [] l s = refl
names-said z (x ∷ xs) l s = let a = put_name z x l s in names-said z xs a.0 a.1 ∙ name-said (entry_in l x) z x l s refl

-- ---- scopes

pushed-one : (o r : Option Entry) → shape_by (or_found o r) ≡ or_shape (shape_if o) (shape_by r)
pushed-one None r = refl
pushed-one (Some e) r = refl

pub shapes-pushed : (l : Layer) (z : Scope) → shapes_in (push_values l z) ≡ over (says l) (shapes_in z)
unfolding shapes_in push_values
shapes-pushed l z = λ j x. pushed-one (entry_in l x) (found z.values x) j

pub shapes-lasts : (l : Layer) (z : Scope) → shapes_in (push_lasts l z) ≡ shapes_in z
unfolding shapes_in push_lasts
shapes-lasts l z = refl

pub own-shapes : (t : Told) (z : Scope) (ds : List Decl) (es : Eqns) (s : Sketch) → over (says (own_layer t z ds es s).0) (shapes_in z) ≡ declaring t ds (shapes_in z)
unfolding own_layer
own-shapes t z ds es s =
    let a = put_locals t 0 ds [] s in
    names-said z (names_of_eqns es) a.0 a.1 ∙ ap (λ m. over m (shapes_in z)) (locals-said t 0 ds [] s) ∙ over-declared t ds (says []) (shapes_in z)

pub entered-shapes : (t : Told) (z : Scope) (place : Place) (ds : List Decl) (es : Eqns) (s : Sketch) → shapes_in (enter t z place ds es s).0 ≡ declaring t ds (shapes_in z)
unfolding enter
entered-shapes t z place ds es s =
    let own = own_layer t z ds es s in
    let lasts = add_lasts t place ds own.0 [] own.1 in
    shapes-lasts lasts.0 (push_values own.0 z) ∙ shapes-pushed own.0 z ∙ own-shapes t z ds es s

pub entered-left : (t : Told) (z : Scope) (place : Place) (ds : List Decl) (es : Eqns) (s : Sketch) → leave (enter t z place ds es s).0 ≡ z
unfolding enter push_values push_lasts pop_values pop_lasts
entered-left t z place ds es s = refl

-- ---- control equations

own-found : (ls : List Layer) (x : List ℕ) (e : Entry) → entry_in (innermost ls) x ≡ Some e → e.shape ≡ shape_by (found ls x)
own-found [] x e h = absurd (let q : ⊥ = cc in q)
own-found (l ∷ ls) x e h = sym (ap (λ o. shape_by (or_found o (found ls x))) h)

own-shape : (z : Scope) (x : List ℕ) (e : Entry) → own_entry z x ≡ Some e → e.shape ≡ shapes_in z x
unfolding own_entry shapes_in
own-shape z x e h = own-found z.values x e h

hidden-said : (o : Option Entry) (z : Scope) (x : List ℕ) (l : Layer) → own_entry z x ≡ o → over (says (hide_name_by o (last_wire z x) x l)) (shapes_in z) ≡ over (says l) (shapes_in z)
hidden-said None z x l h = refl
hidden-said (Some e) z x l h = own-said l x (hidden_entry e (last_wire z x)) (shapes_in z) (own-shape z x e h)

hide-said : (z : Scope) (xs : List (List ℕ)) (l : Layer) → over (says (hide_names z xs l)) (shapes_in z) ≡ over (says l) (shapes_in z)
hide-said z [] l = refl
hide-said z (x ∷ xs) l = hide-said z xs (hide_name z x l) ∙ hidden-said (own_entry z x) z x l refl

pub hidden-shapes : (z : Scope) (e : Eqn) → shapes_in (hide z e) ≡ shapes_in z
unfolding hide
hidden-shapes z e = shapes-pushed (hide_names z (names_of_eqn e) []) z ∙ hide-said z (names_of_eqn e) []

pub hidden-left : (z : Scope) (e : Eqn) → pop_values (hide z e) ≡ z
unfolding hide push_values pop_values
hidden-left z e = refl

with-hole_chosen : (d : Bool) (e : Entry) (w : ℕ) (o r : Option Entry) → shape_if o ≡ shape_if r → shape_if (entry_if d (with_hole e w) o) ≡ shape_if (entry_if d e r)
with-hole_chosen true e w o r h = refl
with-hole_chosen false e w o r h = h

joined-said : (own : Layer) (c : ℕ) (l : Layer) (s : Sketch) (x : List ℕ) → says (join_names own c l s).0 x ≡ says l x
joined-said own c [] s x = refl
joined-said own c (p ∷ l) s x =
    let rest = join_name own c p.0 p.1 s in
    with-hole_chosen (bytes_eq x p.0) p.1 rest.0 (entry_in (join_names own c l rest.1).0 x) (entry_in l x) (joined-said own c l rest.1 x)

joined-found : (own : Layer) (c : ℕ) (ls : List Layer) (s : Sketch) (x : List ℕ) → shape_by (found (join_layers own c ls s).0 x) ≡ shape_by (found ls x)
joined-found own c [] s x = refl
joined-found own c (l ∷ ls) s x =
    pushed-one (entry_in (join_names own c l s).0 x) (found ls x) ∙ ap (λ o. or_shape o (shape_by (found ls x))) (joined-said own c l s x) ∙ sym (pushed-one (entry_in l x) (found ls x))

pub joined-shapes : (c : ℕ) (z : Scope) (s : Sketch) → shapes_in (join c z s).0 ≡ shapes_in (leave z)
unfolding join shapes_in pop_values pop_lasts top_layer
joined-shapes c z s = λ j x. joined-found (innermost z.values) c (outer_layers z.values) s x j

joined-others : (own : Layer) (c : ℕ) (ls : List Layer) (s : Sketch) → outer_layers (join_layers own c ls s).0 ≡ outer_layers ls
joined-others own c [] s = refl
joined-others own c (l ∷ ls) s = refl

pub joined-left : (c : ℕ) (z : Scope) (s : Sketch) → pop_values (join c z s).0 ≡ pop_values (leave z)
unfolding join pop_values pop_lasts top_layer
joined-left c z s = λ j. record { values = joined-others (innermost z.values) c (outer_layers z.values) s j; lasts = outer_layers z.lasts }
