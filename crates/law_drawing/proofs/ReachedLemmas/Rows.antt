-- The rows of a node: its inputs, outputs and controllable variables, by their wires and slots.
use Rattle.std.proofs.Common.{◌≡◌, ℕ, suc, ◌+◌, Bool, true, false, ◌||◌, List, [], ◌∷◌, ◌++◌, length, Option, None, Some, refl, sym, ap, subst, ◌∙◌, arith}
use Rattle.std.specs.Str.{bytes_eq}
use Rattle.std.specs.List.{slice_get}
use Rattle.std.proofs.lemmas.Option.{none-some}
use Rattle.hp_base.specs.declared.ty.Ty.{Ty}
use Rattle.hp_base.specs.declared.ty.Ty.TheVariants as ty
use Rattle.hp_tree.specs.Blocks.{Decl}
use Rattle.hp_tree.specs.Meaning.{declares}
use Rattle.hp_circuit.specs.declared.circuit.Role.{Role}
use Rattle.hp_circuit.specs.declared.circuit.Role.TheVariants as role
use Rattle.hp_circuit.specs.declared.circuit.Shape.{Shape}
use Rattle.hp_circuit.specs.declared.circuit.Shape.TheVariants.{Truth, Cons, Mark}
use Rattle.hp_circuit.specs.declared.circuit.Slot.{Slot}
use Rattle.hp_meaning.specs.Contract.Slots.{is_int}
use Rattle.hp_drawing.specs.declared.parts.Entry.{Entry}
use Rattle.hp_drawing.specs.Told.{Told, type_shape}
use Rattle.hp_drawing.specs.Sketch as sketch
use Rattle.hp_drawing.specs.Sketch.{Sketch, push, slot, given, mark, next_wire, next_slot}
use Rattle.hp_drawing.specs.Scopes.{Scope, Layer, entry_if, entry_in, add, add_if, entry_at, unseen_entry, value_in}
use Rattle.hp_drawing.specs.DrawnNodes.{put_from, put_outputs, add_one_given, add_given, define_from}
use Rattle.law_drawing.proofs.CarryingLemmas.Layers.{put-found, same-name, self-name}
use Rattle.law_drawing.proofs.SteeredLemmas.Rows.{given-next-number}
use Rattle.law_drawing.proofs.EarlyLemmas.Running.{from-runs}
use Rattle.law_drawing.proofs.EarlyLemmas.Flags.{IsControlAt, control-front}
use Rattle.law_drawing.specs.Reached.Reached.{NoIntegers}
use Rattle.law_drawing.proofs.ReachedLemmas.Closed.{Closed, Runs as RunsOf, running}
use Rattle.law_drawing.proofs.ReachedLemmas.Steps.{define-gives}

-- ---- layers to which a name is added

other-way : (x y : List ℕ) → bytes_eq y x ≡ false → bytes_eq x y ≡ false
other-way x y h = by (bytes_eq x y) refl
  where
    by : (b : Bool) → bytes_eq x y ≡ b → b ≡ false
    by true q = absurd (let e : x ≡ y = same-name x y q in let c : true ≡ false = sym (self-name x) ∙ subst (λ i. bytes_eq i x ≡ false) (sym e) h in cc)
    by false q = refl

add-keeps : (l : Layer) (y : List ℕ) (i : Entry) (x : List ℕ) (e : Entry) → entry_in l x ≡ Some e → entry_in (add l y i) x ≡ Some e
add-keeps l y i x e h = by (entry_in l y) refl
  where
    found : (b : Bool) → bytes_eq x y ≡ b → entry_in l y ≡ None → entry_if b i (entry_in l x) ≡ Some e
    found true q n = absurd (none-some e (sym n ∙ subst (λ z. entry_in l z ≡ Some e) (same-name x y q) h))
    found false q n = h

    by : (o : Option Entry) → entry_in l y ≡ o → entry_in (add_if o l y i) x ≡ Some e
    by None q = put-found l y i x ∙ found (bytes_eq x y) refl q
    by (Some old) q = h

add-lacks : (l : Layer) (y : List ℕ) (i : Entry) (x : List ℕ) → entry_in l x ≡ None → bytes_eq y x ≡ false → entry_in (add l y i) x ≡ None
add-lacks l y i x h f = by (entry_in l y)
  where
    by : (o : Option Entry) → entry_in (add_if o l y i) x ≡ None
    by None = put-found l y i x ∙ ap (λ b. entry_if b i (entry_in l x)) (other-way x y f) ∙ h
    by (Some old) = h

add-new : (l : Layer) (y : List ℕ) (i : Entry) → entry_in l y ≡ None → entry_in (add l y i) y ≡ Some i
add-new l y i h = ap (λ o. entry_in (add_if o l y i) y) h ∙ put-found l y i y ∙ ap (λ b. entry_if b i (entry_in l y)) (self-name y)

pub row-keeps : (t : Told) (first k : ℕ) (ds : List Decl) (l : Layer) (x : List ℕ) (e : Entry) → entry_in l x ≡ Some e → entry_in (put_from t first k ds l) x ≡ Some e
row-keeps t first k [] l x e h = h
row-keeps t first k (d ∷ ds) l x e h = row-keeps t first (k + 1) ds (add l d.name (entry_at (first + k) (type_shape t d.ty))) x e (add-keeps l d.name (entry_at (first + k) (type_shape t d.ty)) x e h)

pub outputs-keep : (t : Told) (ds : List Decl) (l : Layer) (x : List ℕ) (e : Entry) → entry_in l x ≡ Some e → entry_in (put_outputs t ds l) x ≡ Some e
outputs-keep t [] l x e h = h
outputs-keep t (d ∷ ds) l x e h = outputs-keep t ds (add l d.name (unseen_entry (type_shape t d.ty))) x e (add-keeps l d.name (unseen_entry (type_shape t d.ty)) x e h)

not-first : (a b : Bool) → a || b ≡ false → (a ≡ false) × (b ≡ false)
not-first true b h = absurd cc
not-first false b h = (refl, h)

pub row-lacks : (t : Told) (first k : ℕ) (ds : List Decl) (l : Layer) (x : List ℕ) → entry_in l x ≡ None → declares ds x ≡ false → entry_in (put_from t first k ds l) x ≡ None
row-lacks t first k [] l x h f = h
row-lacks t first k (d ∷ ds) l x h f =
    let g = not-first (bytes_eq d.name x) (declares ds x) f in
    let e = entry_at (first + k) (type_shape t d.ty) in
    row-lacks t first (k + 1) ds (add l d.name e) x (add-lacks l d.name e x h g.0) g.1

-- ---- outputs, whose wires have what the body says of them

module _ (S : ℕ → Type 0) (P : ℕ → ℕ → Type 0) where
  pub output-at : (t : Told) (z : Scope) (first k : ℕ) (ds : List Decl) (l : Layer) (s : Sketch) (x : List ℕ) → entry_in l x ≡ None → declares ds x ≡ true → Closed S (define_from z first k ds s)
      → (j : ℕ) × (p : Shape) × (entry_in (put_from t first k ds l) x ≡ Some (entry_at j p)) × (S (value_in z x).wire → S j)
  output-at t z first k [] l s x h d c = absurd cc
  output-at t z first k (o ∷ ds) l s x h d c = by (bytes_eq o.name x) refl d (λ m. output-at t z first (k + 1) ds (add l o.name e) s1 x m)
    where
      e : Entry
      e = entry_at (first + k) (type_shape t o.ty)

      s1 : Sketch
      s1 = sketch.define (first + k) (value_in z o.name) s

      Found : Type 0
      Found = (j : ℕ) × (p : Shape) × (entry_in (put_from t first (k + 1) ds (add l o.name e)) x ≡ Some (entry_at j p)) × (S (value_in z x).wire → S j)

      by : (b : Bool) → bytes_eq o.name x ≡ b → b || declares ds x ≡ true → (entry_in (add l o.name e) x ≡ None → declares ds x ≡ true → Closed S (define_from z first (k + 1) ds s1) → Found) → Found
      by true q d more =
          let m = same-name o.name x q in (
            first + k,
            type_shape t o.ty,
            row-keeps t first (k + 1) ds (add l o.name e) x e (subst (λ y. entry_in (add l o.name e) y ≡ Some e) m (add-new l o.name e (subst (λ y. entry_in l y ≡ None) (sym m) h))),
            λ v. define-gives S (first + k) (value_in z o.name) s ((from-runs (RunsOf S P) (running S P) z first (k + 1) ds s1).closed c) (subst (λ y. S (value_in z y).wire) (sym m) v),
          )
      by false q d more = more (add-lacks l o.name e x h q) d c

-- ---- controllable variables, which have slots

no-mark : (t : Told) (u : Ty) → is_int u ≡ false → type_shape t u ≡ Mark → ⊥
no-mark t ty.Bool h q = absurd (let c : Truth ≡ Mark = q in cc)
no-mark t ty.Int h q = absurd cc
no-mark t (ty.Enum x) h q = absurd cc

get-last : (xs : List Slot) (v : Slot) → slice_get (xs ++ v ∷ []) (length xs) ≡ Some v
get-last [] v = refl
get-last (x ∷ xs) v = get-last xs v

given-control : (p : Shape) (s : Sketch) → (p ≡ Mark → ⊥) → IsControlAt (given role.Control p s).1.slots (length s.slots) (next_wire s)
unfolding given slot push next_wire next_slot
given-control Truth s h = (record { role = role.Control; shape = Truth; wire = length s.wires }, get-last s.slots (record { role = role.Control; shape = Truth; wire = length s.wires }), refl, refl)
given-control (Cons n) s h = (record { role = role.Control; shape = Cons n; wire = length s.wires }, get-last s.slots (record { role = role.Control; shape = Cons n; wire = length s.wires }), refl, refl)
given-control Mark s h = absurd (h refl)

given-keeps : (r : Role) (p : Shape) (s : Sketch) (i w : ℕ) → IsControlAt s.slots i w → IsControlAt (given r p s).1.slots i w
unfolding given slot push mark next_slot
given-keeps r Truth s i w h = control-front s.slots (record { role = r; shape = Truth; wire = length s.wires } ∷ []) i w h
given-keeps r (Cons n) s i w h = control-front s.slots (record { role = r; shape = Cons n; wire = length s.wires } ∷ []) i w h
given-keeps r Mark s i w h = h

row-given : (t : Told) (r : Role) (ds : List Decl) (s : Sketch) (i w : ℕ) → IsControlAt s.slots i w → IsControlAt (add_given t r ds s).slots i w
row-given t r [] s i w h = h
row-given t r (d ∷ ds) s i w h = row-given t r ds (add_one_given r (type_shape t d.ty) s) i w (given-keeps r (type_shape t d.ty) s i w h)

pub control-at : (t : Told) (first k : ℕ) (ds : List Decl) (l : Layer) (s : Sketch) (x : List ℕ) → NoIntegers ds → first + k ≡ next_wire s → entry_in l x ≡ None → declares ds x ≡ true
    → (j : ℕ) × (p : Shape) × (entry_in (put_from t first k ds l) x ≡ Some (entry_at j p)) × ((i : ℕ) × IsControlAt (add_given t role.Control ds s).slots i j)
control-at t first k [] l s x n q h d = absurd cc
control-at t first k (o ∷ ds) l s x n q h d = by (bytes_eq o.name x) refl d (λ m. control-at t first (k + 1) ds (add l o.name e) s1 x n.1 further m)
  where
    p : Shape
    p = type_shape t o.ty

    e : Entry
    e = entry_at (first + k) p

    s1 : Sketch
    s1 = add_one_given role.Control p s

    further : first + (k + 1) ≡ next_wire s1
    further = (let z : first + (k + 1) ≡ suc (first + k) = omega arith in z) ∙ ap suc q ∙ sym (given-next-number role.Control p s)

    Found : Type 0
    Found = (j : ℕ) × (r : Shape) × (entry_in (put_from t first (k + 1) ds (add l o.name e)) x ≡ Some (entry_at j r)) × ((i : ℕ) × IsControlAt (add_given t role.Control ds s1).slots i j)

    by : (b : Bool) → bytes_eq o.name x ≡ b → b || declares ds x ≡ true → (entry_in (add l o.name e) x ≡ None → declares ds x ≡ true → Found) → Found
    by true m d more =
        let same = same-name o.name x m in (
          first + k,
          p,
          row-keeps t first (k + 1) ds (add l o.name e) x e (subst (λ y. entry_in (add l o.name e) y ≡ Some e) same (add-new l o.name e (subst (λ y. entry_in l y ≡ None) (sym same) h))),
          (length s.slots, subst (IsControlAt (add_given t role.Control ds s1).slots (length s.slots)) (sym q) (row-given t role.Control ds s1 (length s.slots) (next_wire s) (given-control p s (no-mark t o.ty n.0)))),
        )
    by false m d more = more (add-lacks l o.name e x h m) d
