-- What is drawn of a node carries its wires: its rows, its contract, its body, and what is told last.
use Rattle.std.proofs.Common.{◌≡◌, ℕ, ◌+◌, Bool, true, false, List, [], ◌∷◌, ◌++◌, Option, None, Some, refl, sym, ap, subst, ◌∙◌, arith}
use Rattle.std.specs.Prelude.{IsTrue}
use Rattle.hp_base.specs.declared.ty.Ty.{Ty}
use Rattle.hp_base.specs.declared.value.Value.{Value}
use Rattle.hp_tree.specs.Blocks.{Decl}
use Rattle.hp_tree.specs.Expressions.{Expr}
use Rattle.hp_tree.specs.ExpressionTypes.{typed_in, untyped}
use Rattle.hp_tree.specs.Instant.{Step, Controls, Tail, Body, Observer, Assume, Enforce, Instant, part, top, Place as TreePlace}
use Rattle.hp_tree.specs.Meaning.{Names, node_among, declares, controls_of, input_of, names_of, absent}
use Rattle.hp_tree.specs.Programs.{Contract, Node}
use Rattle.hp_base.specs.Known.Known.{lookup}
use Rattle.law_judged.specs.Typed.Scopes.{Scope as TypeScope}
use Rattle.hp_meaning.specs.Causal.Clocked.{ContractRight}
use Rattle.hp_meaning.specs.Causal.Points.{Placed, points_of, points_of_contract, controls, calls_told}
use Rattle.hp_meaning.specs.Causal.Sources.{below}
use Rattle.law_values.specs.Valued.Judged.{lasts_in as known_lasts, no_lasts, HaveOwnTypes, ContractSound}
use Rattle.hp_meaning.specs.Contract.Duties.{holds_or_missing, assumes, enforces}
use Rattle.hp_meaning.specs.Contract.FreePlaces.{calls_of}
use Rattle.hp_meaning.specs.Contract.Memory.{number_in, remembers_contract}
use Rattle.hp_meaning.specs.Contract.Slots.{is_int, slots_of_contract}
use Rattle.hp_circuit.specs.Meaning.{truth}
use Rattle.law_games.specs.Wires.Wired.{Held, held_at, Callees}
use Rattle.law_games.specs.Wires.WiredNodes.{wired_observer, shown_observer, next_observer}
use Rattle.law_games.specs.Wires.WiredCallees.{callee_wires}
use Rattle.law_games.specs.Wiretyped.Typed.{AreWires, ContractTyped}
use Rattle.law_games.specs.Wiretyped.Kept.{ContractKept, ContractGiven}
use Rattle.law_games.specs.Wiretyped.Callees.{CalleeTyped, CalleeKept, CalleeGiven}
use Rattle.law_games.proofs.WiretypedLemmas.Exprs.{CalleesTyped, NamesAre, LastsAre}
use Rattle.hp_drawing.specs.declared.parts.Entry.{Entry}
use Rattle.hp_drawing.specs.declared.parts.Place.{Place}
use Rattle.hp_drawing.specs.Told.{Told}
use Rattle.hp_drawing.specs.Scopes.{Scope, entry_in, or_found, push_values, push_lasts, pop_values, value_in, last_in, shapes_in}
use Rattle.hp_drawing.specs.Sketch.{Sketch, high, empty, next_wire, finish}
use Rattle.hp_drawing.specs.Places.{top_place}
use Rattle.hp_drawing.specs.DrawnExpressions.{Brings}
use Rattle.hp_drawing.specs.DrawnBlocks.{drawn_block}
use Rattle.hp_drawing.specs.DrawnNodes as drawing
use Rattle.hp_drawing.specs.DrawnNodes.{contracts, observer, drawn_contract, body_layer, body_scope as drawn_body_scope, contract_scope, put_row, put_outputs, put_from, add_given, define_outputs, drawn_node, with_outputs, with_inputs, with_controls, node_scope}
use Rattle.law_drawing.specs.Carrying.Solving.{Has}
use Rattle.law_drawing.specs.Carrying.Drawing.{IsReady, AreShaped}
use Rattle.law_drawing.specs.Carrying.Typing.{AreNumbered}
use Rattle.law_drawing.specs.Carrying.Calls.{supposes_on, owes_on}
use Rattle.law_drawing.specs.Carrying.Drawable.{ContractDrawable}
use Rattle.law_drawing.specs.Carrying.Laws.{Frame, FrameCalls, Sight}
use Rattle.law_drawing.specs.Carrying.WholeBlocks.{IsPart}
use Rattle.law_drawing.proofs.CarryingLemmas.Steps.{nothing-drawn}
use Rattle.law_drawing.proofs.CarryingLemmas.CallLists.{called, called-join, calls_in_block, block-called, all-called}
use Rattle.law_drawing.proofs.CarryingLemmas.Conditions.{Draws}
use Rattle.law_drawing.proofs.CarryingLemmas.Blocks.{Ready, Holds}
use Rattle.law_drawing.proofs.CarryingLemmas.Contracts.{contract-drawn}
use Rattle.law_drawing.proofs.CarryingLemmas.Rows.{row_entry, outputs_entry, row-found, outputs-found, RowHas, row-over, outputs-over, ValueIs, ShapeIs, row-shape, outputs-shape, row-type}
use Rattle.law_drawing.proofs.CarryingLemmas.ContractScopes.{found-none}

-- ---- what is drawn of a node, with what the nodes bring that it calls

abbrev pub observer_by : Brings → Told → Scope → Option Contract → Sketch → drawing.Observer × Sketch
observer_by brings t z None s = (observer high high, s)
observer_by brings t z (Some c) s = drawn_contract t brings z top_place c s

module _ (brings : Brings) (t : Told) (n : Node) (s : Sketch) where
  abbrev pub rows_behind : Scope × Sketch
  rows_behind = node_scope t n s

  abbrev pub observer_behind : drawing.Observer × Sketch
  observer_behind = observer_by brings t rows_behind.0 n.contract (with_controls t n rows_behind.1)

  abbrev pub body_behind : Scope × Sketch
  body_behind = drawn_block t brings (drawn_body_scope (body_layer t n (next_wire (with_outputs t n s)) (next_wire rows_behind.1)) rows_behind.0) top_place n.body observer_behind.1

  abbrev pub node_by : Sketch
  node_by = finish observer_behind.0.assume observer_behind.0.enforce (define_outputs body_behind.0 n.outputs (next_wire s) body_behind.1)

pub same-node : (t : Told) (n : Node) → node_by contracts t n empty ≡ drawn_node t n
same-node t n = by n.contract refl
  where
    by : (o : Option Contract) → n.contract ≡ o → node_by contracts t n empty ≡ drawn_node t n
    by o e = refl

-- ---- the calls of a node

abbrev pub observer_calls : Option Contract → (TreePlace → TreePlace) → List Placed
observer_calls None w = []
observer_calls (Some c) w = calls_in_block c.body (below Observer w) ++ (calls_told c.assume (below Assume w) ++ calls_told c.enforce (below Enforce w))

told-called : (o : Option Expr) (w : TreePlace → TreePlace) → called (calls_told o w) ≡ calls_told o w
told-called None w = refl
told-called (Some e) w = all-called e w

observer-called : (o : Option Contract) (w : TreePlace → TreePlace) → called (points_of_contract o w) ≡ observer_calls o w
observer-called None w = refl
observer-called (Some c) w =
    called-join (points_of [] c.body (below Observer w)) (calls_told c.assume (below Assume w) ++ calls_told c.enforce (below Enforce w)) (calls_in_block c.body (below Observer w)) (calls_told c.assume (below Assume w) ++ calls_told c.enforce (below Enforce w)) (block-called [] c.body (below Observer w))
    (called-join (calls_told c.assume (below Assume w)) (calls_told c.enforce (below Enforce w)) (calls_told c.assume (below Assume w)) (calls_told c.enforce (below Enforce w)) (told-called c.assume (below Assume w)) (told-called c.enforce (below Enforce w)))

controls-called : (ds : List Decl) (w : TreePlace → TreePlace) → called (controls ds w) ≡ []
controls-called [] w = refl
controls-called (d ∷ ds) w = controls-called ds (below Tail w)

pub node-called : (n : Node) → calls_of n ≡ observer_calls n.contract (λ p. p) ++ calls_in_block n.body (λ p. Body ∷ p)
node-called n =
    called-join (controls (controls_of n.contract) (λ p. Controls ∷ p)) (points_of_contract n.contract (λ p. p) ++ points_of (names_of n.outputs) n.body (λ p. Body ∷ p)) [] (observer_calls n.contract (λ p. p) ++ calls_in_block n.body (λ p. Body ∷ p)) (controls-called (controls_of n.contract) (λ p. Controls ∷ p))
    (called-join (points_of_contract n.contract (λ p. p)) (points_of (names_of n.outputs) n.body (λ p. Body ∷ p)) (observer_calls n.contract (λ p. p)) (calls_in_block n.body (λ p. Body ∷ p)) (observer-called n.contract (λ p. p)) (block-called (names_of n.outputs) n.body (λ p. Body ∷ p)))

-- ---- a contract, if there is one

module _ (F : Frame) (K : FrameCalls F) (T : CalleesTyped F.types (callee_wires F.types F.earlier) (node_among F.earlier) (CalleeTyped F.types F.earlier) (CalleeKept F.types F.earlier) (CalleeGiven F.types F.earlier)) where
  abbrev circuits : Callees
  circuits = callee_wires F.types F.earlier

  abbrev pub PartAt : Step → Option Contract → Names → Names → Held → Instant → Type 0
  PartAt step o names last m now =
      IsPart F (held_at step m) (part step now) (part step m.memory) (below step (λ p. p)) true false false (part step (remembers_contract F.types circuits.remembers o m.start [])) (part step (next_observer F.types circuits o names last m now))
      (part step (shown_observer F.types circuits o names last m now)) (part step (wired_observer F.types circuits o names last m now))

  pub observer-drawn : (o : Option Contract) (V : Sight) (m : Held) (now : Instant) (d : Sketch) (ns : List ℕ) → AreNumbered F.types F.told V.scope → AreShaped V.scope V.has_last V.types V.drawn_scope → NamesAre F.types V.scope V.standing V.names → LastsAre F.types V.scope V.has_last V.last
      → ContractRight V.standing o → ContractSound F.types (node_among F.earlier) V.scope V.has_last o → ContractKept F.types (CalleeKept F.types F.earlier) V.scope o m.start m.memory → ContractGiven F.types (CalleeGiven F.types F.earlier) V.scope o m.free → ContractTyped F.types (CalleeTyped F.types F.earlier) V.scope o now
      → ContractDrawable V.scope o → PartAt Observer o V.names V.last m now → PartAt Assume o V.names V.last m now → PartAt Enforce o V.names V.last m now
      → Ready F K V top_place true false false d ns → Holds F K (slots_of_contract F.types F.outs F.callee o V.types (λ p. p)) d
      → (ns' : List ℕ) × Draws F K d ns (slots_of_contract F.types F.outs F.callee o V.types (λ p. p)) (observer_calls o (λ p. p)) (observer_by F.brings F.told V.drawn_scope o d).1 ns'
      × Has ns' (observer_by F.brings F.told V.drawn_scope o d).0.assume (truth (assumes now)) × Has ns' (observer_by F.brings F.told V.drawn_scope o d).0.enforce (truth (enforces now))
  observer-drawn None V m now d ns N S nk lk r ok k g y dr pg pa pe rd h =
      let high-is : (b : Bool) → b ≡ true → Has ns high (truth b) = λ b e. subst (λ c. Has ns high (truth c)) (sym e) rd.solved.high_is in (
        ns,
        nothing-drawn F.slot F.next (supposes_on F.showing F.wires) (owes_on F.showing F.wires) d ns rd.solved,
        high-is (assumes now) (ap holds (ap top pa.solves)),
        high-is (enforces now) (ap holds (ap top pe.solves)),
      )
    where
      holds : Value → Bool
      holds v = holds_or_missing v
  observer-drawn (Some c) V m now d ns N S nk lk r ok k g y dr pg pa pe rd h = contract-drawn F K T c V m now m.memory (λ p. p) top_place true false false d ns N S nk lk r ok k g y dr pg (λ z. pa) (λ z. pe) rd h

-- ---- what the body sees

or-three : (o p q : Option Entry) → or_found (or_found o p) q ≡ or_found o (or_found p q)
or-three None p q = refl
or-three (Some e) p q = refl

body-found : (t : Told) (n : Node) (iw cw : ℕ) (x : List ℕ) → entry_in (body_layer t n iw cw) x ≡ or_found (row_entry t cw 0 (controls_of n.contract) x) (or_found (row_entry t iw 0 n.inputs x) (outputs_entry t n.outputs x))
body-found t n iw cw x =
    let l1 = put_row t (controls_of n.contract) cw [] in
    let oc = row_entry t cw 0 (controls_of n.contract) x in
    let oi = row_entry t iw 0 n.inputs x in
    let oo = outputs_entry t n.outputs x in
    outputs-found t n.outputs (put_row t n.inputs iw l1) x ∙ ap (λ o. or_found o oo) (row-found t iw 0 n.inputs l1 x ∙ ap (λ o. or_found o oi) (row-found t cw 0 (controls_of n.contract) [] x)) ∙ or-three oc oi oo

pub body-shaped : (F : Frame) (n : Node) (among : _) (s0 s : TypeScope) (cw iw ow : ℕ) (place : Place) (d0 : Sketch) → AreShaped s0 (known_lasts n.outputs no_lasts) (typed_in n.inputs (typed_in n.outputs untyped)) (contract_scope F.told place n iw ow d0).0
    → HaveOwnTypes F.types among s n.inputs → HaveOwnTypes F.types among s n.outputs → HaveOwnTypes F.types among s (controls_of n.contract)
    → ((x : List ℕ) (t : Ty) → lookup s.variables x ≡ Some t → declares (controls_of n.contract) x ≡ false → declares n.inputs x ≡ false → declares n.outputs x ≡ true)
    → ((x : List ℕ) (t : Ty) → IsTrue (known_lasts n.outputs no_lasts x) → lookup s.variables x ≡ Some t → lookup s0.variables x ≡ Some t)
    → AreShaped s (known_lasts n.outputs no_lasts) (typed_in (controls_of n.contract) (typed_in n.inputs (typed_in n.outputs untyped))) (drawn_body_scope (body_layer F.told n iw cw) (contract_scope F.told place n iw ow d0).0)
unfolding contract_scope push_values push_lasts pop_values value_in last_in shapes_in
body-shaped F n among s0 s cw iw ow place d0 S hi ho hc known same =
    let ds = controls_of n.contract in
    let sh : (x : List ℕ) (u : Ty) → lookup s.variables x ≡ Some u → ShapeIs (or_found (entry_in (body_layer F.told n iw cw) x) None) (is_int u) = λ x u l.
    subst (λ o. ShapeIs o (is_int u)) (sym (found-none (entry_in (body_layer F.told n iw cw) x) ∙ body-found F.told n iw cw x))
    (row-shape F.types among s u F.told cw 0 ds (or_found (row_entry F.told iw 0 n.inputs x) (outputs_entry F.told n.outputs x)) x hc l
    (λ c. row-shape F.types among s u F.told iw 0 n.inputs (outputs_entry F.told n.outputs x) x hi l (λ f. outputs-shape F.types among s u F.told n.outputs x ho l (known x u l c f))))
    in
    record {
      values = λ x t l. (sh x t l).0;
      shapes = λ x t l. (sh x t l).1;
      lasts = λ x t hl l. S.lasts x t hl (same x t hl l);
      types = λ x t l. row-type F.types among s t ds (typed_in n.inputs (typed_in n.outputs untyped)) x hc l
          (λ c. row-type F.types among s t n.inputs (typed_in n.outputs untyped) x hi l (λ f. row-type F.types among s t n.outputs untyped x ho l (λ o. absurd (let q : true ≡ false = sym (known x t l c f) ∙ o in cc))));
    }

pub body-seen : (F : Frame) (n : Node) (s0 : TypeScope) (inputs cs : List Value) (N last : Names) (cw iw ow : ℕ) (place : Place) (here cut kept : Bool) (d0 d : Sketch) (ns : List ℕ)
    → IsReady F.slot F.types N last (contract_scope F.told place n iw ow d0).0 place [] here cut kept d ns → AreWires F.types n.inputs inputs → AreWires F.types (controls_of n.contract) cs → RowHas ns iw inputs → RowHas ns cw cs
    → IsReady F.slot F.types (λ x. input_of (controls_of n.contract) cs (input_of n.inputs inputs absent) x) last (drawn_body_scope (body_layer F.told n iw cw) (contract_scope F.told place n iw ow d0).0) place [] here cut kept d ns
unfolding contract_scope push_values push_lasts pop_values value_in last_in
body-seen F n s0 inputs cs N last cw iw ow place here cut kept d0 d ns r ai ac ri rc =
    let ds = controls_of n.contract in
    let oc : List ℕ → Option Entry = λ x. row_entry F.told cw 0 ds x in
    let oi : List ℕ → Option Entry = λ x. row_entry F.told iw 0 n.inputs x in
    let oo : List ℕ → Option Entry = λ x. outputs_entry F.told n.outputs x in
    let ri0 : RowHas ns (iw + 0) inputs = subst (λ i. RowHas ns i inputs) (let e : iw ≡ iw + 0 = omega arith in e) ri in
    let rc0 : RowHas ns (cw + 0) cs = subst (λ i. RowHas ns i cs) (let e : cw ≡ cw + 0 = omega arith in e) rc in
    let v : (x : List ℕ) → ValueIs ns (or_found (oc x) (or_found (oi x) (oo x))) (number_in (input_of ds cs (input_of n.inputs inputs absent) x)) = λ x.
    row-over F.types F.told ns cw 0 ds cs (input_of n.inputs inputs absent) (or_found (oi x) (oo x)) x ac rc0 (row-over F.types F.told ns iw 0 n.inputs inputs absent (oo x) x ai ri0 (outputs-over F.told ns n.outputs x r.solved.low_is))
    in
    record {
      solved = r.solved;
      place_is = r.place_is;
      clock_is = r.clock_is;
      values = λ x. subst (λ o. ValueIs ns o (number_in (input_of ds cs (input_of n.inputs inputs absent) x))) (sym (found-none (entry_in (body_layer F.told n iw cw) x) ∙ body-found F.told n iw cw x)) (v x);
      lasts = r.lasts;
    }
