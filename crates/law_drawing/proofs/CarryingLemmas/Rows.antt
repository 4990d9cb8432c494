-- Rows of wires: outputs, inputs and controllable variables, one behind the other, and the layers that name them.
use Rattle.std.proofs.Common.{◌≡◌, ℕ, suc, ◌+◌, Bool, true, false, ◌||◌, if◌then◌else◌, List, [], ◌∷◌, ◌++◌, length, Option, None, Some, refl, sym, ap, subst, ◌∙◌, arith}
use Rattle.std.specs.Prelude.{⊤}
use Rattle.std.specs.Str.{bytes_eq}
use Rattle.std.proofs.lemmas.Option.{same_Some}
use Rattle.hp_base.specs.declared.ty.Ty.{Ty}
use Rattle.hp_base.specs.declared.ty.Ty.TheVariants as ty
use Rattle.hp_base.specs.declared.value.Value.{Value}
use Rattle.hp_tree.specs.Blocks.{Decl}
use Rattle.hp_tree.specs.ExpressionTypes as types_shown
use Rattle.hp_tree.specs.ExpressionTypes.{typed_in}
use Rattle.hp_tree.specs.Instant.{Head, Tail, Instant, Place as TreePlace}
use Rattle.hp_tree.specs.Meaning.{Names, declares, input_of}
use Rattle.hp_tree.specs.Programs.{TypeDecl}
use Rattle.hp_base.specs.Known.Known.{lookup}
use Rattle.law_judged.specs.Typed.Scopes.{Scope as TypeScope}
use Rattle.hp_meaning.specs.Causal.Points.{Placed}
use Rattle.hp_meaning.specs.Causal.Sources.{below}
use Rattle.law_values.specs.Valued.Judged.{HaveOwnTypes}
use Rattle.hp_meaning.specs.Contract.Memory.{number_in}
use Rattle.hp_meaning.specs.Contract.Slots as slots
use Rattle.hp_meaning.specs.Contract.Slots.{free, input, control, is_int}
use Rattle.hp_circuit.specs.declared.circuit.Role.{Role}
use Rattle.hp_circuit.specs.declared.circuit.Slot.{Slot}
use Rattle.hp_circuit.specs.declared.circuit.Shape.{Shape}
use Rattle.hp_circuit.specs.declared.circuit.Shape.TheVariants.{Truth, Cons, Mark}
use Rattle.law_games.specs.Wiretyped.Typed.{IsWire, AreWires}
use Rattle.hp_drawing.specs.declared.parts.Entry.{Entry}
use Rattle.hp_drawing.specs.Kept.{is_mark}
use Rattle.hp_drawing.specs.Told.{Told, type_shape}
use Rattle.hp_drawing.specs.Scopes.{Layer, entry_at, unseen_entry, entry_if, entry_in, add, add_if, or_found, value_by, shape_by}
use Rattle.hp_drawing.specs.Sketch.{Sketch, next_wire, given, hole, mark, slot as slot_step, push}
use Rattle.hp_drawing.specs.DrawnExpressions.{add_holes}
use Rattle.hp_drawing.specs.DrawnNodes.{put_from, put_outputs, add_given}
use Rattle.law_drawing.specs.Carrying.Solving.{Has}
use Rattle.law_drawing.specs.Carrying.Nodes.{free_of, row_slots}
use Rattle.law_drawing.specs.Carrying.Drawing.{AreHeld, AreLaid, IsSolved, IsDrawn}
use Rattle.law_drawing.proofs.CarryingLemmas.Numbers.{solved-length}
use Rattle.law_drawing.proofs.CarryingLemmas.Slots.{held-first}
use Rattle.law_drawing.proofs.CarryingLemmas.Steps.{stays, both, nothing-drawn, hole-drawn, mark-drawn}
use Rattle.law_drawing.proofs.CarryingLemmas.Registers.{begins, closed, slot-opened}
use Rattle.law_drawing.proofs.CarryingLemmas.Parts.{held-behind}
use Rattle.law_drawing.proofs.CarryingLemmas.Values.{int-zero}
use Rattle.law_drawing.proofs.CarryingLemmas.Layers.{put-found, same-name}
use Rattle.law_drawing.proofs.CarryingLemmas.Marks.{type-mark}
use Rattle.law_drawing.proofs.CarryingLemmas.Enter.{true_or_not}

-- ---- what a layer says of a row

abbrev pub row_entry : Told → ℕ → ℕ → List Decl → List ℕ → Option Entry
row_entry t first k [] x = None
row_entry t first k (d ∷ ds) x = if bytes_eq d.name x then Some (entry_at (first + k) (type_shape t d.ty)) else row_entry t first (k + 1) ds x

abbrev pub outputs_entry : Told → List Decl → List ℕ → Option Entry
outputs_entry t [] x = None
outputs_entry t (d ∷ ds) x = if bytes_eq d.name x then Some (unseen_entry (type_shape t d.ty)) else outputs_entry t ds x

name-turned : (x y : List ℕ) → bytes_eq x y ≡ bytes_eq y x
name-turned x y = true_or_not (bytes_eq x y) (λ p. one x y (same-name x y p)) (λ p. true_or_not (bytes_eq y x) (λ q. sym (one y x (same-name y x q))) (λ q. p ∙ sym q))
  where
    one : (a b : List ℕ) → a ≡ b → bytes_eq a b ≡ bytes_eq b a
    one a b e = ap (λ x. bytes_eq x b) e ∙ ap (bytes_eq b) (sym e)

add-found : (l : Layer) (y : List ℕ) (e : Entry) (x : List ℕ) → entry_in (add l y e) x ≡ or_found (entry_in l x) (if bytes_eq y x then Some e else None)
add-found l y e x = by (entry_in l y) refl
  where
    new : (b : Bool) → bytes_eq x y ≡ b → entry_in l y ≡ None → entry_if b e (entry_in l x) ≡ or_found (entry_in l x) (if b then Some e else None)
    new true p q = sym (ap (λ o. or_found o (Some e)) (ap (entry_in l) (same-name x y p) ∙ q))
    new false p q = known (entry_in l x)
      where
        known : (o : Option Entry) → o ≡ or_found o None
        known None = refl
        known (Some n) = refl

    old : (n : Entry) (b : Bool) → bytes_eq y x ≡ b → entry_in l y ≡ Some n → entry_in l x ≡ or_found (entry_in l x) (if b then Some e else None)
    old n true p q = let r : entry_in l x ≡ Some n = ap (entry_in l) (sym (same-name y x p)) ∙ q in r ∙ sym (ap (λ o. or_found o (Some e)) r)
    old n false p q = known (entry_in l x)
      where
        known : (o : Option Entry) → o ≡ or_found o None
        known None = refl
        known (Some m) = refl

    by : (o : Option Entry) → entry_in l y ≡ o → entry_in (add_if o l y e) x ≡ or_found (entry_in l x) (if bytes_eq y x then Some e else None)
    by None q = put-found l y e x ∙ new (bytes_eq x y) refl q ∙ ap (λ b. or_found (entry_in l x) (if b then Some e else None)) (name-turned x y)
    by (Some n) q = old n (bytes_eq y x) refl q

or-assoc : (o p q : Option Entry) → or_found (or_found o p) q ≡ or_found o (or_found p q)
or-assoc None p q = refl
or-assoc (Some e) p q = refl

either-found : (b : Bool) (e : Entry) (q : Option Entry) → or_found (if b then Some e else None) q ≡ (if b then Some e else q)
either-found true e q = refl
either-found false e q = refl

pub row-found : (t : Told) (first k : ℕ) (ds : List Decl) (l : Layer) (x : List ℕ) → entry_in (put_from t first k ds l) x ≡ or_found (entry_in l x) (row_entry t first k ds x)
row-found t first k [] l x = known (entry_in l x)
  where
    known : (o : Option Entry) → o ≡ or_found o None
    known None = refl
    known (Some e) = refl
row-found t first k (d ∷ ds) l x =
    let e = entry_at (first + k) (type_shape t d.ty) in
    row-found t first (k + 1) ds (add l d.name e) x ∙ ap (λ o. or_found o (row_entry t first (k + 1) ds x)) (add-found l d.name e x) ∙ or-assoc (entry_in l x) (if bytes_eq d.name x then Some e else None) (row_entry t first (k + 1) ds x)
    ∙ ap (or_found (entry_in l x)) (either-found (bytes_eq d.name x) e (row_entry t first (k + 1) ds x))

pub outputs-found : (t : Told) (ds : List Decl) (l : Layer) (x : List ℕ) → entry_in (put_outputs t ds l) x ≡ or_found (entry_in l x) (outputs_entry t ds x)
outputs-found t [] l x = known (entry_in l x)
  where
    known : (o : Option Entry) → o ≡ or_found o None
    known None = refl
    known (Some e) = refl
outputs-found t (d ∷ ds) l x =
    let e = unseen_entry (type_shape t d.ty) in
    outputs-found t ds (add l d.name e) x ∙ ap (λ o. or_found o (outputs_entry t ds x)) (add-found l d.name e x) ∙ or-assoc (entry_in l x) (if bytes_eq d.name x then Some e else None) (outputs_entry t ds x)
    ∙ ap (or_found (entry_in l x)) (either-found (bytes_eq d.name x) e (outputs_entry t ds x))

-- ---- the numbers of a row

-- the wires from one on have the numbers of these values
abbrev pub RowHas : List ℕ → ℕ → List Value → Type 0
RowHas ns first [] = ⊤
RowHas ns first (v ∷ vs) = Has ns first (number_in v) × RowHas ns (first + 1) vs

pub row-more : (ns ns' : List ℕ) (first : ℕ) (vs : List Value) → ((w k : ℕ) → Has ns w k → Has ns' w k) → RowHas ns first vs → RowHas ns' first vs
row-more ns ns' first [] f h = tt
row-more ns ns' first (v ∷ vs) f h = (f first (number_in v) h.0, row-more ns ns' (first + 1) vs f h.1)

abbrev pub ValueIs : List ℕ → Option Entry → ℕ → Type 0
ValueIs ns o n = Has ns (value_by o).wire n

-- what a row says, over something else
pub row-over : (types : List TypeDecl) (t : Told) (ns : List ℕ) (first k : ℕ) (ds : List Decl) (vs : List Value) (out : Names) (rest : Option Entry) (x : List ℕ) → AreWires types ds vs → RowHas ns (first + k) vs → ValueIs ns rest (number_in (out x))
    → ValueIs ns (or_found (row_entry t first k ds x) rest) (number_in (input_of ds vs out x))
row-over types t ns first k [] [] out rest x a h r = r
row-over types t ns first k [] (v ∷ vs) out rest x a h r = absurd a
row-over types t ns first k (d ∷ ds) [] out rest x a h r = absurd a
row-over types t ns first k (d ∷ ds) (v ∷ vs) out rest x a h r =
    by (bytes_eq d.name x) (row-over types t ns first (k + 1) ds vs out rest x a.1 (subst (λ i. RowHas ns i vs) (let e : first + k + 1 ≡ first + (k + 1) = omega arith in e) h.1) r)
  where
    by : (b : Bool) → ValueIs ns (or_found (row_entry t first (k + 1) ds x) rest) (number_in (input_of ds vs out x))
        → ValueIs ns (or_found (if b then Some (entry_at (first + k) (type_shape t d.ty)) else row_entry t first (k + 1) ds x) rest) (number_in (if b then v else input_of ds vs out x))
    by true ih = h.0
    by false ih = ih

-- outputs have no value yet
pub outputs-over : (t : Told) (ns : List ℕ) (ds : List Decl) (x : List ℕ) → Has ns 0 0 → ValueIs ns (outputs_entry t ds x) 0
outputs-over t ns [] x h = h
outputs-over t ns (d ∷ ds) x h = by (bytes_eq d.name x) (outputs-over t ns ds x h)
  where
    by : (b : Bool) → ValueIs ns (outputs_entry t ds x) 0 → ValueIs ns (if b then Some (unseen_entry (type_shape t d.ty)) else outputs_entry t ds x) 0
    by true ih = h
    by false ih = ih

-- ---- what is carried

abbrev pub ShapeIs : Option Entry → Bool → Type 0
ShapeIs o b = (is_mark (value_by o).shape ≡ b) × (is_mark (shape_by o) ≡ b)

module _ (types : List TypeDecl) (among : _) (s : TypeScope) (u : Ty) where
  pub row-shape : (t : Told) (first k : ℕ) (ds : List Decl) (rest : Option Entry) (x : List ℕ) → HaveOwnTypes types among s ds → lookup s.variables x ≡ Some u → (declares ds x ≡ false → ShapeIs rest (is_int u)) → ShapeIs (or_found (row_entry t first k ds x) rest) (is_int u)
  row-shape t first k [] rest x h l r = r refl
  row-shape t first k (d ∷ ds) rest x h l r = by (bytes_eq d.name x) refl r (λ r. row-shape t first (k + 1) ds rest x h.1 l r)
    where
      by : (b : Bool) → bytes_eq d.name x ≡ b → (b || declares ds x ≡ false → ShapeIs rest (is_int u)) → ((declares ds x ≡ false → ShapeIs rest (is_int u)) → ShapeIs (or_found (row_entry t first (k + 1) ds x) rest) (is_int u))
          → ShapeIs (or_found (if b then Some (entry_at (first + k) (type_shape t d.ty)) else row_entry t first (k + 1) ds x) rest) (is_int u)
      by true p r ih = let e = type-mark t d.ty ∙ ap is_int (same_Some d.ty u (sym h.0 ∙ ap (lookup s.variables) (same-name d.name x p) ∙ l)) in (e, e)
      by false p r ih = ih r

  pub outputs-shape : (t : Told) (ds : List Decl) (x : List ℕ) → HaveOwnTypes types among s ds → lookup s.variables x ≡ Some u → declares ds x ≡ true → ShapeIs (outputs_entry t ds x) (is_int u)
  outputs-shape t [] x h l q = absurd cc
  outputs-shape t (d ∷ ds) x h l q = by (bytes_eq d.name x) refl q (outputs-shape t ds x h.1 l)
    where
      by : (b : Bool) → bytes_eq d.name x ≡ b → b || declares ds x ≡ true → (declares ds x ≡ true → ShapeIs (outputs_entry t ds x) (is_int u)) → ShapeIs (if b then Some (unseen_entry (type_shape t d.ty)) else outputs_entry t ds x) (is_int u)
      by true p q ih = let e = type-mark t d.ty ∙ ap is_int (same_Some d.ty u (sym h.0 ∙ ap (lookup s.variables) (same-name d.name x p) ∙ l)) in (e, e)
      by false p q ih = ih q

  pub row-type : (ds : List Decl) (out : types_shown.Scope) (x : List ℕ) → HaveOwnTypes types among s ds → lookup s.variables x ≡ Some u → (declares ds x ≡ false → is_int (out x) ≡ is_int u) → is_int (typed_in ds out x) ≡ is_int u
  row-type [] out x h l r = r refl
  row-type (d ∷ ds) out x h l r = by (bytes_eq d.name x) refl r (λ r. row-type ds out x h.1 l r)
    where
      by : (b : Bool) → bytes_eq d.name x ≡ b → (b || declares ds x ≡ false → is_int (out x) ≡ is_int u) → ((declares ds x ≡ false → is_int (out x) ≡ is_int u) → is_int (typed_in ds out x) ≡ is_int u) → is_int (if b then d.ty else typed_in ds out x) ≡ is_int u
      by true p r ih = ap is_int (same_Some d.ty u (sym h.0 ∙ ap (lookup s.variables) (same-name d.name x p) ∙ l))
      by false p r ih = ih r

-- ---- rows are drawn

module _ (slot : ℕ → ℕ) (next : Instant) (supposes owes : Placed → Bool) where
  abbrev Draws : Sketch → List ℕ → List slots.Slot → Sketch → List ℕ → Type 0
  Draws d ns ss d' ns' = IsDrawn slot next supposes owes d ns ss [] d' ns'

  wires-of : (d : Sketch) (ns : List ℕ) → IsSolved slot d ns → next_wire d ≡ length ns
  unfolding next_wire
  wires-of d ns g = solved-length slot ns d.wires ns g.solved

  -- one wire more is the next one
  hole-next : (p : Shape) (d : Sketch) → ((hole p d).0 ≡ next_wire d) × (next_wire (hole p d).1 ≡ next_wire d + 1)
  unfolding hole next_wire mark push
  hole-next Mark d = (refl, length-more d.wires _)
    where
      length-more : {A : Type 0} (xs : List A) (x : A) → length (xs ++ x ∷ []) ≡ length xs + 1
      length-more [] x = refl
      length-more (y ∷ xs) x = ap suc (length-more xs x) ∙ (omega arith)
  hole-next Truth d = (refl, length-more d.wires _)
    where
      length-more : {A : Type 0} (xs : List A) (x : A) → length (xs ++ x ∷ []) ≡ length xs + 1
      length-more [] x = refl
      length-more (y ∷ xs) x = ap suc (length-more xs x) ∙ (omega arith)
  hole-next (Cons m) d = (refl, length-more d.wires _)
    where
      length-more : {A : Type 0} (xs : List A) (x : A) → length (xs ++ x ∷ []) ≡ length xs + 1
      length-more [] x = refl
      length-more (y ∷ xs) x = ap suc (length-more xs x) ∙ (omega arith)

  -- wires that are said later have the numbers of any values of their types
  pub holes-drawn : (types : List TypeDecl) (t : Told) (ds : List Decl) (vs : List Value) (d : Sketch) (ns : List ℕ) → AreWires types ds vs → IsSolved slot d ns → (ns' : List ℕ) × Draws d ns [] (add_holes t ds d) ns' × RowHas ns' (next_wire d) vs
  holes-drawn types t [] [] d ns a g = (ns, nothing-drawn slot next supposes owes d ns g, tt)
  holes-drawn types t [] (v ∷ vs) d ns a g = absurd a
  holes-drawn types t (o ∷ ds) [] d ns a g = absurd a
  holes-drawn types t (o ∷ ds) (v ∷ vs) d ns a g =
      let p = type_shape t o.ty in
      let m = hole-drawn slot next supposes owes p d ns (number_in v) g (λ e. int-zero types o.ty v (sym (type-mark t o.ty) ∙ ap is_mark e) a.0) in
      let s1 = (hole p d).1 in
      let x = holes-drawn types t ds vs s1 m.0 a.1 m.1.solved in
      let n = hole-next p d in (
        x.0,
        both slot next supposes owes d ns [] [] s1 m.0 [] [] (add_holes t ds s1) x.0 m.1 x.1,
        (stays slot next supposes owes s1 m.0 [] [] (add_holes t ds s1) x.0 x.1 (next_wire d) (number_in v) (subst (λ w. Has m.0 w (number_in v)) n.0 m.2), subst (λ i. RowHas x.0 i vs) n.1 x.2),
      )

  -- ---- what is given

  -- a slot of this kind is laid down where nothing is taken, and has the number of what is given
  pub record IsKind (raw given_by : Instant) (kind : TreePlace → Ty → slots.Slot) : Type 0 where
    pub lay : (ns : List ℕ) (p : TreePlace) (t : Ty) (o : Slot) → AreLaid ns next (kind p t ∷ []) (o ∷ [])
    pub hold : (p : TreePlace) (t : Ty) (n : ℕ) → AreHeld slot raw given_by (kind p t ∷ []) n → slot n ≡ number_in (given_by p)

  pub input-kind : (raw given_by : Instant) → IsKind raw given_by input
  input-kind raw given_by = record { lay = λ ns p t o. (tt, refl); hold = λ p t n h. h.0 }

  pub control-kind : (raw given_by : Instant) → IsKind raw given_by control
  control-kind raw given_by = record { lay = λ ns p t o. (tt, refl); hold = λ p t n h. h.0 }

  pub free-kind : (raw given_by : Instant) → IsKind raw given_by free
  free-kind raw given_by = record { lay = λ ns p t o. (tt, refl); hold = λ p t n h. h.0 }

  slot-next : (r : Role) (p : Shape) (d : Sketch) → ((slot_step r p d).0 ≡ next_wire d) × (next_wire (slot_step r p d).1 ≡ next_wire d + 1)
  unfolding slot_step next_wire push
  slot-next r p d = (refl, length-more d.wires _)
    where
      length-more : {A : Type 0} (xs : List A) (x : A) → length (xs ++ x ∷ []) ≡ length xs + 1
      length-more [] x = refl
      length-more (y ∷ xs) x = ap suc (length-more xs x) ∙ (omega arith)

  mark-next : (d : Sketch) → ((mark d).0 ≡ next_wire d) × (next_wire (mark d).1 ≡ next_wire d + 1)
  unfolding mark next_wire push
  mark-next d = (refl, length-more d.wires _)
    where
      length-more : {A : Type 0} (xs : List A) (x : A) → length (xs ++ x ∷ []) ≡ length xs + 1
      length-more [] x = refl
      length-more (y ∷ xs) x = ap suc (length-more xs x) ∙ (omega arith)

  abbrev pub OneGiven : List slots.Slot → ℕ → Sketch → List ℕ → ℕ × Sketch → Type 0
  OneGiven ss k d ns r = (ns' : List ℕ) × Draws d ns ss r.1 ns' × Has ns' r.0 k × (r.0 ≡ next_wire d) × (next_wire r.1 ≡ next_wire d + 1)

  slot-given : (raw given_by : Instant) (kind : TreePlace → Ty → slots.Slot) → IsKind raw given_by kind → (r : Role) (p : TreePlace) (t : Ty) (shape : Shape) (v : Value) (d : Sketch) (ns : List ℕ) → number_in (given_by p) ≡ number_in v → IsSolved slot d ns → AreHeld slot raw given_by (kind p t ∷ []) (length d.slots)
      → OneGiven (kind p t ∷ []) (number_in v) d ns (slot_step r shape d)
  slot-given raw given_by kind K r p t shape v d ns e g h =
      let a = slot-opened slot next supposes owes d ns [] d ns r shape (begins slot next supposes owes d ns g) in
      let n = slot-next r shape d in
      (a.0, closed slot next supposes owes d ns (a.1 ∷ []) (kind p t ∷ []) [] [] (slot_step r shape d).1 a.0 a.3 (K.lay a.0 p t a.1), subst (λ k. Has a.0 (slot_step r shape d).0 k) (K.hold p t (length d.slots) h ∙ e) a.4, n.0, n.1)

  pub one-given : (raw given_by : Instant) (kind : TreePlace → Ty → slots.Slot) → IsKind raw given_by kind → (types : List TypeDecl) (told : Told) (r : Role) (p : TreePlace) (t : Ty) (v : Value) (d : Sketch) (ns : List ℕ) → IsWire types t v → number_in (given_by p) ≡ number_in v → IsSolved slot d ns
      → AreHeld slot raw given_by (free_of kind p t) (length d.slots) → OneGiven (free_of kind p t) (number_in v) d ns (given r (type_shape told t) d)
  unfolding given
  one-given raw given_by kind K types told r p ty.Bool v d ns a e g h = slot-given raw given_by kind K r p ty.Bool Truth v d ns e g h
  one-given raw given_by kind K types told r p (ty.Enum x) v d ns a e g h = slot-given raw given_by kind K r p (ty.Enum x) (type_shape told (ty.Enum x)) v d ns e g h
  one-given raw given_by kind K types told r p ty.Int v d ns a e g h =
      let m = mark-drawn slot next supposes owes d ns g in
      let n = mark-next d in
      (m.0, m.1, subst (λ k. Has m.0 (mark d).0 k) (sym (ap number_in a)) m.2, n.0, n.1)

  -- a row is given, place by place
  abbrev pub RowIsGiven : Instant → (TreePlace → TreePlace) → List Value → Type 0
  RowIsGiven given_by w [] = ⊤
  RowIsGiven given_by w (v ∷ vs) = (number_in (given_by (w (Head ∷ []))) ≡ number_in v) × RowIsGiven given_by (below Tail w) vs

  pub row-given : (raw given_by : Instant) (kind : TreePlace → Ty → slots.Slot) → IsKind raw given_by kind → (types : List TypeDecl) (told : Told) (r : Role) (ds : List Decl) (vs : List Value) (w : TreePlace → TreePlace) (d : Sketch) (ns : List ℕ) → AreWires types ds vs → RowIsGiven given_by w vs → IsSolved slot d ns
      → AreHeld slot raw given_by (row_slots kind ds w) (length d.slots) → (ns' : List ℕ) × Draws d ns (row_slots kind ds w) (add_given told r ds d) ns' × RowHas ns' (next_wire d) vs
  row-given raw given_by kind K types told r [] [] w d ns a e g h = (ns, nothing-drawn slot next supposes owes d ns g, tt)
  row-given raw given_by kind K types told r [] (v ∷ vs) w d ns a e g h = absurd a
  row-given raw given_by kind K types told r (o ∷ ds) [] w d ns a e g h = absurd a
  row-given raw given_by kind K types told r (o ∷ ds) (v ∷ vs) w d ns a e g h =
      let ss = free_of kind (w (Head ∷ [])) o.ty in
      let ts = row_slots kind ds (below Tail w) in
      let m = one-given raw given_by kind K types told r (w (Head ∷ [])) o.ty v d ns a.0 e.0 g (held-first slot raw given_by ss ts (length d.slots) h) in
      let s1 = (given r (type_shape told o.ty) d).1 in
      let x = row-given raw given_by kind K types told r ds vs (below Tail w) s1 m.0 a.1 e.1 m.1.solved (held-behind slot next supposes owes raw given_by d ns ss [] s1 m.0 ts m.1 h) in (
        x.0,
        both slot next supposes owes d ns ss [] s1 m.0 ts [] (add_given told r ds s1) x.0 m.1 x.1,
        (stays slot next supposes owes s1 m.0 ts [] (add_given told r ds s1) x.0 x.1 (next_wire d) (number_in v) (subst (λ i. Has m.0 i (number_in v)) m.3 m.2), subst (λ i. RowHas x.0 i vs) m.4 x.2),
      )
