-- Wires one behind the other that carry the types of declarations, and what stands before the arguments of a call.
use Rattle.std.proofs.Common.{◌≡◌, ℕ, suc, ◌+◌, List, [], ◌∷◌, Option, Some, sym, ap, subst, ◌∙◌}
use Rattle.std.specs.Prelude.{⊤, Bool}
use Rattle.hp_tree.specs.Blocks.{Decl}
use Rattle.hp_tree.specs.Programs.{Node}
use Rattle.hp_circuit.specs.declared.circuit.Role.{Role}
use Rattle.hp_circuit.specs.declared.circuit.Role.TheVariants as role
use Rattle.hp_circuit.specs.declared.circuit.Shape.{Shape}
use Rattle.hp_circuit.specs.declared.circuit.Shape.TheVariants.{Mark}
use Rattle.hp_circuit.specs.Forms.{IsShape}
use Rattle.hp_drawing.specs.declared.parts.Callee.{Callee}
use Rattle.hp_drawing.specs.declared.parts.Place.{Place}
use Rattle.hp_drawing.specs.declared.parts.Value.{Value}
use Rattle.hp_drawing.specs.Told.{Told, type_shape}
use Rattle.hp_drawing.specs.Sketch.{Sketch, mark, hole, given, read, define, next_wire, shape_at}
use Rattle.hp_drawing.specs.Places.{may_be_early}
use Rattle.hp_drawing.specs.DrawnExpressions.{Brings, shape_or, output, takes_input, callee_of, begin_with, begin_call, add_outputs, add_holes}
use Rattle.hp_drawing.specs.DrawnNodes.{add_given}
use Rattle.law_drawing.proofs.SteeredLemmas.Rows.{hole-number, hole-next, given-number, given-next-number, read-next}
use Rattle.law_drawing.proofs.FormLemmas.Views.{Has, view_of, IsThere, IsFormed, IsHole, Step, still, onward, has-on, hole-on}
use Rattle.law_drawing.proofs.FormLemmas.Steps.{read-step, mark-step, hole-step}
use Rattle.law_drawing.proofs.FormLemmas.Parts.{IsGiven, given-step, IsPlaced, placed-on}
use Rattle.law_drawing.proofs.FormLemmas.Values.{Carried}
use Rattle.law_drawing.proofs.FormLemmas.Delays.{said-step}

module _ (t : Told) where
  -- the types of declarations have values
  abbrev pub AreShapes : List Decl → Type 0
  AreShapes [] = ⊤
  AreShapes (d ∷ ds) = IsShape (type_shape t d.ty) × AreShapes ds

  abbrev pub AreRow : Sketch → ℕ → List Decl → Type 0
  AreRow s first [] = ⊤
  AreRow s first (d ∷ ds) = Has s.shapes first (type_shape t d.ty) × AreRow s (suc first) ds

  abbrev pub AreHoles : Sketch → ℕ → List Decl → Type 0
  AreHoles s first [] = ⊤
  AreHoles s first (d ∷ ds) = IsHole s first (type_shape t d.ty) × AreHoles s (suc first) ds

  pub row-on : (P : List ℕ) (s s' : Sketch) (first : ℕ) (ds : List Decl) → Step P s s' → AreRow s first ds → AreRow s' first ds
  row-on P s s' first [] st h = tt
  row-on P s s' first (d ∷ ds) st h = (has-on P s s' first (type_shape t d.ty) st h.0, row-on P s s' (suc first) ds st h.1)

  pub holes-on : (P : List ℕ) (s s' : Sketch) (first : ℕ) (ds : List Decl) → Step P s s' → AreHoles s first ds → AreHoles s' first ds
  holes-on P s s' first [] st h = tt
  holes-on P s s' first (d ∷ ds) st h = (hole-on P s s' first (type_shape t d.ty) st h.0, holes-on P s s' (suc first) ds st h.1)

  pub holes-row : (s : Sketch) (first : ℕ) (ds : List Decl) → AreHoles s first ds → AreRow s first ds
  holes-row s first [] h = tt
  holes-row s first (d ∷ ds) h = (h.0.0, holes-row s (suc first) ds h.1)

  -- ---- rows that are drawn

  pub holes-step : (P : List ℕ) (ds : List Decl) (s : Sketch) → IsFormed P s → AreShapes ds → Step P s (add_holes t ds s) × AreHoles (add_holes t ds s) (next_wire s) ds
  holes-step P [] s a i = (still P s a, tt)
  holes-step P (d ∷ ds) s a i =
      let p = type_shape t d.ty in
      let h = hole p s in
      let k = hole-step P p s a i.0 in
      let more = holes-step P ds h.1 k.0.formed i.1 in
      let s' = add_holes t ds h.1 in
      (onward P P s h.1 s' k.0 more.0, (subst (λ w. IsHole s' w p) (hole-number p s) (hole-on P h.1 s' h.0 p more.0 k.1), subst (λ w. AreHoles s' w ds) (hole-next p s) more.1))

  pub given-row-step : (P : List ℕ) (r : Role) (ds : List Decl) (s : Sketch) → IsFormed P s → IsGiven r → AreShapes ds → Step P s (add_given t r ds s) × AreRow (add_given t r ds s) (next_wire s) ds
  given-row-step P r [] s a g i = (still P s a, tt)
  given-row-step P r (d ∷ ds) s a g i =
      let p = type_shape t d.ty in
      let w = given r p s in
      let k = given-step P r p s a i.0 g in
      let more = given-row-step P r ds w.1 k.0.formed g i.1 in
      let s' = add_given t r ds w.1 in
      (onward P P s w.1 s' k.0 more.0, (subst (λ j. Has s'.shapes j p) (given-number r p s) (has-on P w.1 s' w.0 p more.0 k.1), subst (λ j. AreRow s' j ds) (given-next-number r p s) more.1))

  outputs-step : (P : List ℕ) (early : Bool) (ds : List Decl) (reads : ℕ) (s : Sketch) → IsFormed P s → IsThere (view_of s) reads → AreShapes ds → Step P s (add_outputs t early ds reads s) × AreRow (add_outputs t early ds reads s) (next_wire s) ds
  outputs-step P early [] reads s a l i = (still P s a, tt)
  outputs-step P early (d ∷ ds) reads s a l i =
      let p = type_shape t d.ty in
      let r = role.Free early in
      let w = given r p s in
      let k = given-step P r p s a i.0 tt in
      let l1 : IsThere (view_of w.1) reads = (l.0, has-on P s w.1 reads l.0 k.0 l.1) in
      let s1 = read w.0 reads w.1 in
      let b = read-step P w.0 reads w.1 k.0.formed (p, k.1) l1 in
      let more = outputs-step P early ds reads s1 b.formed (l.0, has-on P w.1 s1 reads l.0 b l1.1) i.1 in
      let s' = add_outputs t early ds reads s1 in
      let from_w = onward P P w.1 s1 s' b more.0 in (
        onward P P s w.1 s' k.0 from_w,
        (subst (λ j. Has s'.shapes j p) (given-number r p s) (has-on P w.1 s' w.0 p from_w k.1), subst (λ j. AreRow s' j ds) (read-next w.0 reads w.1 ∙ given-next-number r p s) more.1),
      )

  -- ---- calls

  -- the wires of a call of a node
  pub record IsCallee (s : Sketch) (n : Node) (c : Callee) : Type 0 where
    pub outputs : AreRow s c.outputs n.outputs
    pub inputs : AreHoles s c.inputs n.inputs
    pub reads : IsThere (view_of s) c.reads

  pub callee-on : (P : List ℕ) (s s' : Sketch) (n : Node) (c : Callee) → Step P s s' → IsCallee s n c → IsCallee s' n c
  callee-on P s s' n c st h = record { outputs = row-on P s s' c.outputs n.outputs st h.outputs; inputs = holes-on P s s' c.inputs n.inputs st h.inputs; reads = (h.reads.0, has-on P s s' c.reads h.reads.0 st h.reads.1) }

  -- Nodes that may be called are told, their types have values, and what their contracts bring fits.
  pub record AreCalled (brings : Brings) (among : List ℕ → Option Node) : Type 0 where
    pub told : (f : List ℕ) (n : Node) → among f ≡ Some n → t.nodes f ≡ Some n
    pub inputs : (f : List ℕ) (n : Node) → among f ≡ Some n → AreShapes n.inputs
    pub outputs : (f : List ℕ) (n : Node) → among f ≡ Some n → AreShapes n.outputs
    pub brought : (f : List ℕ) (n : Node) → among f ≡ Some n → (P : List ℕ) (spot : Place) (c : Callee) (s : Sketch) → IsFormed P s → IsPlaced s spot → IsCallee s n c → Step P s (brings t spot n c s)

  abbrev Called : List ℕ → Sketch → Node → Callee × Sketch → Type 0
  Called P s n d = Step P s d.1 × IsCallee d.1 n d.0

  node-step : (brings : Brings) (among : List ℕ → Option Node) → AreCalled brings among → (P : List ℕ) (spot : Place) (f : List ℕ) (n : Node) (s : Sketch) → among f ≡ Some n → IsFormed P s → IsPlaced s spot → Called P s n (begin_with t brings spot (Some n) s)
  node-step brings among K P spot f n s e a h =
      let reads = mark s in
      let m = mark-step P s a in
      let given = add_outputs t (may_be_early spot) n.outputs reads.0 reads.1 in
      let o = outputs-step P (may_be_early spot) n.outputs reads.0 reads.1 m.0.formed (Mark, m.1.0) (K.outputs f n e) in
      let holes = add_holes t n.inputs given in
      let i = holes-step P n.inputs given o.0.formed (K.inputs f n e) in
      let c = callee_of (next_wire reads.1) (next_wire given) reads.0 in
      let callee : IsCallee holes n c = record {
        outputs = row-on P given holes (next_wire reads.1) n.outputs i.0 o.1;
        inputs = i.1;
        reads = (Mark, has-on P reads.1 holes reads.0 Mark (onward P P reads.1 given holes o.0 i.0) m.1.0);
      } in
      let st = onward P P s reads.1 holes m.0 (onward P P reads.1 given holes o.0 i.0) in
      let b = K.brought f n e P spot c holes i.0.formed (placed-on P s holes spot st h) callee in
      let s' = brings t spot n c holes in
      (onward P P s holes s' st b, callee-on P holes s' n c b callee)

  pub call-step : (brings : Brings) (among : List ℕ → Option Node) → AreCalled brings among → (P : List ℕ) (spot : Place) (f : List ℕ) (n : Node) (s : Sketch) → among f ≡ Some n → IsFormed P s → IsPlaced s spot → Called P s n (begin_call t brings spot f s)
  unfolding begin_call
  call-step brings among K P spot f n s e a h = subst (λ o. Called P s n (begin_with t brings spot o s)) (sym (K.told f n e)) (node-step brings among K P spot f n s e a h)

  pub input-step : (P : List ℕ) (c : Callee) (k : ℕ) (v : Value) (p : Shape) (s : Sketch) → IsFormed P s → IsThere (view_of s) c.reads → IsHole s (c.inputs + k) p → Carried s v p → Step P s (takes_input c k v s)
  unfolding takes_input
  input-step P c k v p s a l h q =
      let s1 = define (c.inputs + k) v s in
      let d = said-step P (c.inputs + k) v p s a h q in
      onward P P s s1 (read c.reads v.wire s1) d (read-step P c.reads v.wire s1 d.formed (l.0, has-on P s s1 c.reads l.0 d l.1) (p, has-on P s s1 v.wire p d q.1))

  pub output-carried : (c : Callee) (k : ℕ) (p : Shape) (s : Sketch) → Has s.shapes (c.outputs + k) p → Carried s (output c k s) p
  unfolding output shape_at
  output-carried c k p s h = (ap shape_or h, h)
