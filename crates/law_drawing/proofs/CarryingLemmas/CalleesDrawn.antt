-- What is drawn of a call but for its arguments, for each node that may be called.
use Rattle.std.proofs.Common.{◌≡◌, ℕ, ◌+◌, Bool, true, false, not, ◌&&◌, ◌||◌, if◌then◌else◌, List, [], ◌∷◌, ◌++◌, length, Some, refl, sym, ap, subst, ◌∙◌, arith}
use Rattle.std.specs.Str.{bytes_eq}
use Rattle.std.proofs.lemmas.List.{append-nil}
use Rattle.std.proofs.lemmas.Option.{same_Some}
use Rattle.hp_base.specs.declared.value.Value.{Value}
use Rattle.hp_base.specs.declared.value.Value.TheVariants.{Absent, Nil, B, E, I, Star}
use Rattle.hp_tree.specs.declared.program.Item.{Item}
use Rattle.hp_tree.specs.declared.program.Item.TheVariants.{TypeItem, NodeItem}
use Rattle.hp_tree.specs.Blocks.{Decl}
use Rattle.hp_tree.specs.Instant.{Named, Fresh, Instant, Clock, holds, Place as TreePlace}
use Rattle.hp_tree.specs.Meaning.{Names, node_among, declares, absent}
use Rattle.hp_tree.specs.Operators.{marked, is_there}
use Rattle.hp_tree.specs.Programs.{TypeDecl, Node}
use Rattle.hp_meaning.specs.Causal.Abstract.{given_outputs}
use Rattle.hp_meaning.specs.Causal.Points.{Placed}
use Rattle.law_values.specs.Valued.Values.{Classing, class_here, class_behind, AreAccepted, NodeAccepted, scope_behind, either_of}
use Rattle.hp_meaning.specs.Contract.Duties.{assumes, enforces}
use Rattle.hp_meaning.specs.Contract.Memory.{number_in, remembers_callee}
use Rattle.hp_meaning.specs.Contract.Slots.{callee_slots}
use Rattle.hp_init.specs.Classes.{Assignment}
use Rattle.law_games.specs.Wires.Wired.{Held}
use Rattle.law_games.specs.Wires.WiredCallees.{outputs_by, shown_by, wired_by, next_by, wired_alone, next_alone}
use Rattle.law_games.specs.Wiretyped.Typed.{AreWires}
use Rattle.law_games.specs.Wiretyped.Callees.{AloneTyped, AloneKept, AloneGiven, CalleeTyped, CalleeKept, CalleeGiven}
use Rattle.law_games.proofs.WiretypedLemmas.Contracts.{given_at, declares_own, declares_more}
use Rattle.hp_drawing.specs.declared.parts.Callee.{Callee}
use Rattle.hp_drawing.specs.declared.parts.Place.{Place}
use Rattle.hp_drawing.specs.Told.{Told}
use Rattle.hp_drawing.specs.Sketch.{Sketch, next_wire, mark}
use Rattle.hp_drawing.specs.Places.{may_be_early}
use Rattle.hp_drawing.specs.DrawnExpressions.{Brings, add_outputs, add_holes, callee_of, begin_with, begin_call}
use Rattle.hp_drawing.specs.DrawnNodes.{contracts}
use Rattle.law_drawing.specs.Carrying.Solving.{Has}
use Rattle.law_drawing.specs.Carrying.Drawing.{AreHeld, IsSolved, IsDrawn, IsClock, IsPlace, IsStored, AreOutputs, AreInputs}
use Rattle.law_drawing.specs.Carrying.Typing.{AreNumbered}
use Rattle.law_drawing.specs.Carrying.Calls.{supposes_on, owes_on, outputs_slots}
use Rattle.law_drawing.specs.Carrying.Drawable.{NodeDrawable}
use Rattle.law_drawing.specs.Carrying.Nodes.{EarlierDrawable, CallsLaw}
use Rattle.law_drawing.proofs.CarryingLemmas.Slots.{held-first}
use Rattle.law_drawing.proofs.CarryingLemmas.Steps.{stays, both, mark-drawn, on-clock-still}
use Rattle.law_drawing.proofs.CarryingLemmas.Registers.{place-more}
use Rattle.law_drawing.proofs.CarryingLemmas.Parts.{held-behind}
use Rattle.law_drawing.proofs.CarryingLemmas.Rows.{RowHas, row-more, holes-drawn}
use Rattle.law_drawing.proofs.CarryingLemmas.ContractScopes.{output_values, outputs-wires}
use Rattle.law_drawing.proofs.CarryingLemmas.NodeParts.{own-known}
use Rattle.law_drawing.proofs.CarryingLemmas.Insides.{numbered-inside}
use Rattle.law_drawing.proofs.CarryingLemmas.CallSteps.{RowShapes, shapes-more, OutputsAre, outputs-given}
use Rattle.law_drawing.proofs.CarryingLemmas.CalleeContracts.{callee-contract}
use Rattle.hp_typing.specs.Scopes.{with_variables}

marked-number : (v : Value) → number_in (marked v) ≡ number_in v
marked-number Absent = refl
marked-number Nil = refl
marked-number (B b) = refl
marked-number (E t k) = refl
marked-number (I n) = refl
marked-number Star = refl

-- what is given for outputs
outputs-are : (all ds : List Decl) (given : Instant) (free now : Instant) (w : TreePlace → TreePlace) → ((x : List ℕ) → declares ds x ≡ true → declares all x ≡ true) → ((p : TreePlace) → free p ≡ given (w p)) → ((x : List ℕ) → now (Named x ∷ []) ≡ given_outputs all free absent x) → OutputsAre given w ds now
outputs-are all [] given free now w inc f n = tt
outputs-are all (d ∷ ds) given free now w inc f n = (
  ap number_in (sym (f (Named d.name ∷ []))) ∙ sym (marked-number (free (Named d.name ∷ []))) ∙ ap number_in (sym (n d.name ∙ given_at all free absent d.name (inc d.name (declares_own d ds)))),
  outputs-are all ds given free now w (λ x q. inc x (declares_more d ds x q)) f n,
)

are-outputs : (s : Sketch) (ns : List ℕ) (c : Callee) (now : Instant) (ds : List Decl) (k : ℕ) → RowHas ns (c.outputs + k) (output_values ds now) → RowShapes s.shapes (c.outputs + k) ds → AreOutputs s ns c now ds k
are-outputs s ns c now [] k h r = tt
are-outputs s ns c now (d ∷ ds) k h r =
    let e : c.outputs + k + 1 ≡ c.outputs + (k + 1) = omega arith in
    (h.0, r.0, are-outputs s ns c now ds (k + 1) (subst (λ i. RowHas ns i (output_values ds now)) e h.1) (subst (λ i. RowShapes s.shapes i ds) e r.1))

are-inputs : (ns : List ℕ) (c : Callee) (vs : List Value) (k : ℕ) → RowHas ns (c.inputs + k) vs → AreInputs ns c vs k
are-inputs ns c [] k h = tt
are-inputs ns c (v ∷ vs) k h = (h.0, are-inputs ns c vs (k + 1) (subst (λ i. RowHas ns i vs) (let e : c.inputs + k + 1 ≡ c.inputs + (k + 1) = omega arith in e) h.1))

plus-none : (i : ℕ) → i ≡ i + 0
plus-none i = omega arith

module _ (slot : ℕ → ℕ) (raw next given : Instant) (supposes owes : Placed → Bool) (types : List TypeDecl) (told : Told) where
  abbrev Begun : Placed → Node → (TreePlace → TreePlace) → Instant → List Value → Sketch → List ℕ → Callee × Sketch → Type 0
  Begun point n w now ins d ns r = (ns' : List ℕ) × IsDrawn slot next supposes owes d ns (outputs_slots n.outputs w ++ callee_slots types (Some n) w) (point ∷ []) r.1 ns' × AreOutputs r.1 ns' r.0 now n.outputs 0 × AreInputs ns' r.0 ins 0

  node-begun : (n : Node) (items : List Item) (class : Assignment) (point : Placed) (ins : List Value) (m : Held) (now stays_as : Instant) (w : TreePlace → TreePlace) (place : Place) (names : Names) (clock : Clock) (here cut kept : Bool) (d : Sketch) (ns : List ℕ)
      → NodeAccepted types (node_among items) (scope_behind items) class n → AreNumbered types told (scope_behind items) → NodeDrawable (scope_behind items) n → AreWires types n.inputs ins → AloneKept types (scope_behind items) n m.start m.memory → AloneGiven types (scope_behind items) n m.free → AloneTyped types (scope_behind items) n now
      → now ≡ wired_alone types n ins m now → ((p : TreePlace) → number_in (m.start p) ≡ 0) → ((p : TreePlace) → m.free p ≡ given (w p)) → ((p : TreePlace) → w [] ++ p ≡ w p)
      → IsStored here cut kept (remembers_callee types (Some n) m.start []) m.memory stays_as (if holds types clock names then next_alone types n ins m now else m.memory) (λ p. raw (w p)) (λ p. next (w p))
      → supposes point ≡ not (here && holds types clock names) || (not (assumes now) || enforces now) → owes point ≡ not (here && holds types clock names) || assumes now → IsSolved slot d ns → IsPlace ns place here cut kept → IsClock types names d.clocks ns place.clock clock
      → AreHeld slot raw given (outputs_slots n.outputs w ++ callee_slots types (Some n) w) (length d.slots) → Begun point n w now ins d ns (begin_with told contracts place (Some n) d)
  node-begun n items class point ins m now stays_as w place names clock here cut kept d ns A N D ai k g y q zs fs is sto es eo gd pl cl h =
      let ok = A.sound in
      let sc = scope_behind items in
      let ss = outputs_slots n.outputs w in
      let ts = callee_slots types (Some n) w in
      let reads = mark d in
      let a = mark-drawn slot next supposes owes d ns gd in
      let s1 = reads.1 in
      let named : (x : List ℕ) → now (Named x ∷ []) ≡ given_outputs n.outputs m.free absent x = λ x. ap (λ i. i (Named x ∷ [])) q in
      let o = outputs-given slot next supposes owes raw given types told (may_be_early place) n.outputs now w reads.0 s1 a.0 (outputs-wires types n.outputs now y.0) (outputs-are n.outputs n.outputs given m.free now w (λ x e. e) fs named) a.1.solved
      (held-first slot raw given ss ts (length s1.slots) (held-behind slot next supposes owes raw given d ns [] [] s1 a.0 (ss ++ ts) a.1 h)) in
      let s2 = add_outputs told (may_be_early place) n.outputs reads.0 s1 in
      let b = holes-drawn slot next supposes owes types told n.inputs ins s2 o.0 ai o.1.solved in
      let s3 = add_holes told n.inputs s2 in
      let callee = callee_of (next_wire s1) (next_wire s2) reads.0 in
      let d2 = both slot next supposes owes d ns [] [] s1 a.0 ss [] s2 o.0 a.1 o.1 in
      let d3 = both slot next supposes owes d ns ss [] s2 o.0 [] [] s3 b.0 d2 b.1 in
      let d3' = subst (λ l. IsDrawn slot next supposes owes d ns l [] s3 b.0) (append-nil ss) d3 in
      let more : (v k : ℕ) → Has ns v k → Has b.0 v k = stays slot next supposes owes d ns ss [] s3 b.0 d3' in
      let more-b : (v k : ℕ) → Has o.0 v k → Has b.0 v k = stays slot next supposes owes s2 o.0 [] [] s3 b.0 b.1 in
      let ro = row-more o.0 b.0 (next_wire s1) (output_values n.outputs now) more-b o.2 in
      let c = callee-contract slot raw next given supposes owes types told n.contract n sc (node_among items) point ins m now stays_as w place names clock here cut kept callee s3 b.0
      (numbered-inside types told (with_variables sc n.inputs) n.outputs (numbered-inside types told sc n.inputs N)) ok.0.0 ok.0.1 ok.1.1.1.1.1 A.clocks.contract D.outputs D.inputs D.contract (own-known items n) ai k g.1 y.0 y.1 q zs fs is sto es eo b.1.solved
      (place-more slot next supposes owes ns b.0 place here cut kept more pl) (on-clock-still slot next supposes owes types names d ns ss [] s3 b.0 d3' place.clock clock cl) b.2 ro (held-behind slot next supposes owes raw given d ns ss [] s3 b.0 ts d3' h) in
      let s4 = contracts told place n callee s3 in
      let more-c : (v k : ℕ) → Has b.0 v k → Has c.0 v k = stays slot next supposes owes s3 b.0 ts (point ∷ []) s4 c.0 c.1 in
      let ro4 = row-more b.0 c.0 (next_wire s1) (output_values n.outputs now) more-c ro in
      let rs3 = subst (λ l. RowShapes l (next_wire s1) n.outputs) (sym b.1.shapes) (shapes-more s2.shapes b.1.more_shapes (next_wire s1) n.outputs o.3) in
      let rs4 = subst (λ l. RowShapes l (next_wire s1) n.outputs) (sym c.1.shapes) (shapes-more s3.shapes c.1.more_shapes (next_wire s1) n.outputs rs3) in (
        c.0,
        both slot next supposes owes d ns ss [] s3 b.0 ts (point ∷ []) s4 c.0 d3' c.1,
        are-outputs s4 c.0 callee now n.outputs 0 (subst (λ i. RowHas c.0 i (output_values n.outputs now)) (plus-none (next_wire s1)) ro4) (subst (λ i. RowShapes s4.shapes i n.outputs) (plus-none (next_wire s1)) rs4),
        are-inputs c.0 callee ins 0 (subst (λ i. RowHas c.0 i ins) (plus-none (next_wire s2)) (row-more b.0 c.0 (next_wire s2) ins more-c b.2)),
      )

-- ---- the nodes among some items

-- a node that is found, with what is known of it behind the items before it
record IsFound (types : List TypeDecl) (told : Told) (items : List Item) (f : List ℕ) (n : Node) : Type 0 where
  pub before : List Item
  pub class : Assignment
  pub accepted : NodeAccepted types (node_among before) (scope_behind before) class n
  pub numbered : AreNumbered types told (scope_behind before)
  pub drawable : NodeDrawable (scope_behind before) n
  pub kept : (start mem : Instant) → CalleeKept types items f start mem → AloneKept types (scope_behind before) n start mem
  pub given : (i : Instant) → CalleeGiven types items f i → AloneGiven types (scope_behind before) n i
  pub typed : (i : Instant) → CalleeTyped types items f i → AloneTyped types (scope_behind before) n i

found : (types : List TypeDecl) (told : Told) (class : Classing) (items : List Item) (f : List ℕ) (n : Node) → AreAccepted types class items → EarlierDrawable types told items → node_among items f ≡ Some n → IsFound types told items f n
found types told class [] f n a d e = absurd cc
found types told class (TypeItem t ∷ items) f n a d e =
    let x = found types told class items f n a d e in
    record { before = x.before; class = x.class; accepted = x.accepted; numbered = x.numbered; drawable = x.drawable; kept = x.kept; given = x.given; typed = x.typed }
found types told class (NodeItem k ∷ items) f n a d e = by (bytes_eq k.name f) refl e (λ e. found types told (class_behind class) items f n a.1 d.1 e)
  where
    here : k ≡ n → bytes_eq k.name f ≡ true → IsFound types told (NodeItem k ∷ items) f k
    here e p = record {
      before = items;
      class = class_here class;
      accepted = a.0;
      numbered = d.0.0;
      drawable = d.0.1;
      kept = λ s m h. subst (λ b. either_of b (AloneKept types (scope_behind items) k s m) (CalleeKept types items f s m)) p h;
      given = λ i h. subst (λ b. either_of b (AloneGiven types (scope_behind items) k i) (CalleeGiven types items f i)) p h;
      typed = λ i h. subst (λ b. either_of b (AloneTyped types (scope_behind items) k i) (CalleeTyped types items f i)) p h;
    }

    by : (b : Bool) → bytes_eq k.name f ≡ b → (if b then Some k else node_among items f) ≡ Some n → (node_among items f ≡ Some n → IsFound types told items f n) → IsFound types told (NodeItem k ∷ items) f n
    by true p e ih = let q = same_Some k n e in subst (λ z. IsFound types told (NodeItem k ∷ items) f z) q (here q p)
    by false p e ih =
        let x = ih e in
        record {
          before = x.before;
          class = x.class;
          accepted = x.accepted;
          numbered = x.numbered;
          drawable = x.drawable;
          kept = λ s m h. x.kept s m (subst (λ b. either_of b (AloneKept types (scope_behind items) k s m) (CalleeKept types items f s m)) p h);
          given = λ i h. x.given i (subst (λ b. either_of b (AloneGiven types (scope_behind items) k i) (CalleeGiven types items f i)) p h);
          typed = λ i h. x.typed i (subst (λ b. either_of b (AloneTyped types (scope_behind items) k i) (CalleeTyped types items f i)) p h);
        }

begin-is : (told : Told) (brings : Brings) (place : Place) (f : List ℕ) (n : Node) (d : Sketch) → told.nodes f ≡ Some n → begin_call told brings place f d ≡ begin_with told brings place (Some n) d
unfolding begin_call
begin-is told brings place f n d e = ap (λ o. begin_with told brings place o d) e

pub calls-drawn : CallsLaw
calls-drawn F class acc R = record {
  known = λ f n e. (R.nodes f n e, R.outs f n e);
  names = λ f n e. ap (λ o. outputs_by F.types o) e;
  there = λ f n ins m now e. ap (λ o. is_there (shown_by F.types o ins m now (Fresh ∷ []))) e;
  begins = λ f n c ins m now stays_as w place names clock here cut kept s ns e ai k g y q zs fs is sto es eo gd pl cl h.
      let x = found F.types F.told class F.earlier f n acc R.drawable e in
      let sl : outputs_slots n.outputs w ++ callee_slots F.types (Some n) w ≡ outputs_slots (F.outs f) w ++ F.callee f w = ap (λ ds. outputs_slots ds w ++ callee_slots F.types (Some n) w) (sym (R.outs f n e)) ∙ ap (λ l. outputs_slots (F.outs f) w ++ l) (sym (R.callee f n e w)) in
      let sto' = subst (λ o. IsStored here cut kept (remembers_callee F.types o m.start []) m.memory stays_as (if holds F.types clock names then next_by F.types o ins m now else m.memory) (λ p. F.raw (w p)) (λ p. F.next (w p))) e sto in
      let q' : now ≡ wired_alone F.types n ins m now = q ∙ ap (λ o. wired_by F.types o ins m now) e in
      let b = node-begun F.slot F.raw F.next F.given (supposes_on F.showing F.wires) (owes_on F.showing F.wires) F.types F.told n x.before x.class c ins m now stays_as w place names clock here cut kept s ns x.accepted x.numbered x.drawable ai
      (x.kept m.start m.memory k) (x.given m.free g) (x.typed now y) q' zs fs is sto' es eo gd pl cl (subst (λ l. AreHeld F.slot F.raw F.given l (length s.slots)) (sym sl) h) in
      subst (λ r. (ns' : List ℕ) × IsDrawn F.slot F.next (supposes_on F.showing F.wires) (owes_on F.showing F.wires) s ns (outputs_slots (F.outs f) w ++ F.callee f w) (c ∷ []) r.1 ns' × AreOutputs r.1 ns' r.0 now n.outputs 0 × AreInputs ns' r.0 ins 0)
      (sym (ap (λ br. begin_call F.told br place f s) R.brings ∙ begin-is F.told contracts place f n s (R.nodes f n e)))
      (b.0, subst (λ l. IsDrawn F.slot F.next (supposes_on F.showing F.wires) (owes_on F.showing F.wires) s ns l (c ∷ []) (begin_with F.told contracts place (Some n) s).1 b.0) sl b.1, b.2, b.3);
}
