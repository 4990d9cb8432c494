-- A node that has a Boolean machine is refused none; and where its contract is kept, nothing is forced on any machine of it.
use Rattle.std.proofs.Common.{◌≡◌, ℕ, ◌+◌, ◌<◌, Bool, true, false, List, [], ◌∷◌, length, inl, inr, refl, sym, ap, ap₂, subst, ◌∙◌, arith}
use Rattle.std.specs.Prelude.{All, IsTrue, slice_index_or}
use Rattle.hp_base.specs.Limits.{most}
use Rattle.hp_boolx.specs.Game.{Safe as SafeOn}
use Rattle.hp_boolx.specs.Machine.{Machine, game}
use Rattle.hp_graph.specs.Graphs.{IsCycle}
use Rattle.hp_tree.specs.declared.program.Item.{Item}
use Rattle.hp_tree.specs.Programs.{Node}
use Rattle.hp_circuit.specs.declared.circuit.Circuit.{Circuit}
use Rattle.hp_circuit.specs.declared.circuit.Shape.{Shape}
use Rattle.hp_circuit.specs.declared.circuit.Shape.TheVariants.{Truth}
use Rattle.hp_circuit.specs.declared.circuit.Slot.{Slot}
use Rattle.hp_circuit.specs.declared.circuit.Wire.{Wire}
use Rattle.hp_circuit.specs.declared.error.CircuitErr.{CircuitErr}
use Rattle.hp_circuit.specs.declared.error.CircuitErr.TheVariants as circuit_error
use Rattle.hp_circuit.specs.declared.kind.Kind.{Kind}
use Rattle.hp_circuit.specs.declared.kind.Kind.TheVariants.{Registers, Early, Control, Late}
use Rattle.hp_circuit.specs.Forms.{AreWires, Carries, IsCircuit, SlotFits, slot_at}
use Rattle.hp_circuit.specs.Kinds.{bits_of, kind_of, own, role_kind, what_of}
use Rattle.hp_circuit.specs.Machines as circuit
use Rattle.hp_circuit.specs.Reading.{AreSteered, IsSteered, edges_of}
use Rattle.hp_circuit.specs.Shapes.{shape_width}
use Rattle.hp_drawing.specs.Seen.{IsOf}
use Rattle.hp_drawing.specs.Sketch.{Sketch}
use Rattle.hp_drawing.specs.DrawnNodes.{drawn_node}
use Rattle.hp_drawing.specs.Told.{told_of}
use Rattle.hp_abstract.specs.Machines.{IsMachineOf, IsRefused, LacksMachine}
use Rattle.hp_abstract.specs.declared.error.AbsErr.{AbsErr}
use Rattle.hp_abstract.specs.declared.error.AbsErr.TheVariants as error
use Rattle.law_games.specs.ReadyGames.Laws.{IsInOrder, Stands}
use Rattle.law_drawing.specs.Mirrors.Drawn.{DrawnSafeLaw}

-- ---- what is steered is told in one way

one_truth : (b c : Bool) → (IsTrue b → IsTrue c) → (IsTrue c → IsTrue b) → b ≡ c
one_truth true c h g = sym (h refl)
one_truth false true h g = g refl
one_truth false false h g = refl

module _ (slots : List Slot) (edges : List (ℕ × ℕ)) (xs ys : List Bool) (h : AreSteered slots edges xs) (g : AreSteered slots edges ys) where
  one_kind : (slot : Slot) → kind_of xs slot ≡ kind_of ys slot
  one_kind slot =
      let w = slot.wire in
      ap (λ (b : Bool). role_kind slot.role b) (one_truth (slice_index_or xs w false) (slice_index_or ys w false) (λ t. (g w).1 ((h w).0 t)) (λ t. (h w).1 ((g w).0 t)))

  one_count : (kind : Kind) (ss : List Slot) → bits_of xs kind ss ≡ bits_of ys kind ss
  one_count kind [] = refl
  one_count kind (slot ∷ ss) = ap₂ (λ a b. a + b) (ap (λ k. own kind k (shape_width slot.shape)) (one_kind slot)) (one_count kind ss)

-- ---- two circuits of one drawing

module _ (c d : Circuit) (s : Sketch) (here : IsOf c s) (there : IsOf d s) where
  wires : c.wires.items ≡ d.wires.items
  wires = here.wires ∙ sym there.wires

  shapes : c.shapes.items ≡ d.shapes.items
  shapes = here.shapes ∙ sym there.shapes

  slots : c.slots.items ≡ d.slots.items
  slots = here.slots ∙ sym there.slots

  reads : c.reads.items ≡ d.reads.items
  reads = here.reads ∙ sym there.reads

  assume : c.assume ≡ d.assume
  assume = here.assume ∙ sym there.assume

  edges : edges_of c.wires.items c.reads.items ≡ edges_of d.wires.items d.reads.items
  edges = ap₂ edges_of wires reads

  carried : (x y : ℕ) → x ≡ y → Carries c.shapes.items x Truth → Carries d.shapes.items y Truth
  carried x y e h = subst (λ (ss : List Shape). Carries ss y Truth) shapes (subst (λ z. Carries c.shapes.items z Truth) e h)

  abbrev SlotsFit : List Slot → List Wire → List Shape → Type 0
  SlotsFit ss ws shs = (i : ℕ) → i < length ss → SlotFits ws shs i (slot_at ss i)

  abbrev ReadsFit : List Wire → List (ℕ × ℕ) → Type 0
  ReadsFit ws rs = All (λ (r : ℕ × ℕ). (r.0 < length ws) × (r.1 < length ws)) rs

  is_circuit : IsCircuit c → IsCircuit d
  is_circuit h = record {
    shapes = sym (ap length shapes) ∙ h.shapes ∙ ap length wires;
    wires =
        subst (λ (ss : List Slot). AreWires ss d.wires.items d.shapes.items) slots
        (subst (λ (ws : List Wire). AreWires c.slots.items ws d.shapes.items) wires (subst (λ (shs : List Shape). AreWires c.slots.items c.wires.items shs) shapes h.wires));
    slots =
        subst (λ (ss : List Slot). SlotsFit ss d.wires.items d.shapes.items) slots
        (subst (λ (ws : List Wire). SlotsFit c.slots.items ws d.shapes.items) wires (subst (λ (shs : List Shape). SlotsFit c.slots.items c.wires.items shs) shapes h.slots));
    reads = subst (λ (ws : List Wire). ReadsFit ws d.reads.items) wires (subst (λ (rs : List (ℕ × ℕ)). ReadsFit c.wires.items rs) reads h.reads);
    assume = carried c.assume d.assume assume h.assume;
    hyp = carried c.hyp d.hyp (here.hyp ∙ sym there.hyp) h.hyp;
    duty = carried c.duty d.duty (here.duty ∙ sym there.duty) h.duty;
  }

  steered_here : IsSteered d.slots.items (edges_of d.wires.items d.reads.items) d.assume → IsSteered c.slots.items (edges_of c.wires.items c.reads.items) c.assume
  steered_here h =
      subst (λ (ss : List Slot). IsSteered ss (edges_of c.wires.items c.reads.items) c.assume) (sym slots)
      (subst (λ (es : List (ℕ × ℕ)). IsSteered d.slots.items es c.assume) (sym edges) (subst (λ x. IsSteered d.slots.items (edges_of d.wires.items d.reads.items) x) (sym assume) h))

  marks_here : (marks : List Bool) → AreSteered d.slots.items (edges_of d.wires.items d.reads.items) marks → AreSteered c.slots.items (edges_of c.wires.items c.reads.items) marks
  marks_here marks h = subst (λ (ss : List Slot). AreSteered ss (edges_of c.wires.items c.reads.items) marks) (sym slots) (subst (λ (es : List (ℕ × ℕ)). AreSteered d.slots.items es marks) (sym edges) h)

  -- where the one has a machine, nothing is in the way of one of the other
  module _ (name : List ℕ) (m : Machine) (is : circuit.IsMachineOf name c m) where
    count_here : (marks : List Bool) → AreSteered d.slots.items (edges_of d.wires.items d.reads.items) marks → (kind : Kind) → bits_of marks kind d.slots.items ≡ bits_of is.steered kind c.slots.items
    count_here marks h kind = ap (bits_of marks kind) (sym slots) ∙ one_count c.slots.items (edges_of c.wires.items c.reads.items) marks is.steered (marks_here marks h) is.are_steered kind c.slots.items

    not_over : (kind : Kind) → most (what_of kind) < bits_of is.steered kind c.slots.items → ⊥
    not_over Registers l = let a = is.registers in let b = is.many_registers in absurd (omega (arith, l, a, b))
    not_over Early l = let a = is.early in let b = is.many_early in absurd (omega (arith, l, a, b))
    not_over Control l = let a = is.control in let b = is.many_control in absurd (omega (arith, l, a, b))
    not_over Late l = let a = is.late in let b = is.many_late in absurd (omega (arith, l, a, b))

    has_machine : (e : CircuitErr) → (e ≡ circuit_error.OutOfMemory → ⊥) → circuit.HasNoMachine d e → ⊥
    has_machine (circuit_error.Limit limit) k over =
        let first = over.first in
        let kind = first.kind in
        not_over kind (subst (λ n. most (what_of kind) < n) (count_here over.steered over.are_steered kind) (subst (λ w. most w < bits_of over.steered kind d.slots.items) first.limited first.over))
    has_machine circuit_error.Steered k h = is.assume (steered_here h.1)
    has_machine circuit_error.NoCircuit k (inl none) = none (is_circuit is.form)
    has_machine circuit_error.NoCircuit k (inr circle) = is.acyclic (circle.0, subst (λ (es : List (ℕ × ℕ)). IsCycle es circle.0) (sym edges) circle.1)
    has_machine circuit_error.OutOfMemory k h = k refl

-- ---- nodes

module _ (program : List Item) (n : Node) (m : Machine) (is : IsMachineOf program n m) where
  lacks_none : (e : CircuitErr) → (e ≡ circuit_error.OutOfMemory → ⊥) → LacksMachine program n e → ⊥
  lacks_none e k lacks =
      let own = is.drawn in
      has_machine own.0 lacks.0 (drawn_node (told_of program) n) own.1.0 lacks.1.0 n.name m own.1.1 e k lacks.1.1

  pub not_refused : (e : AbsErr) → (e ≡ error.OutOfMemory → ⊥) → IsRefused program n e → ⊥
  not_refused (error.Assume span) k r = lacks_none circuit_error.Steered (λ e. cc) r.0
  not_refused (error.Limit limit) k r = lacks_none (circuit_error.Limit limit) (λ e. cc) r
  not_refused error.NotBuilt k (inl lacks) = lacks_none circuit_error.NoCircuit (λ e. cc) lacks
  not_refused error.NotBuilt k (inr steered) = lacks_none circuit_error.Steered (λ e. cc) steered.0
  not_refused error.OutOfMemory k r = k refl

-- ---- games

-- what is safe on one machine of a node is safe on each
pub safe_on_each : DrawnSafeLaw → (program after : List Item) (ranks : List (List ℕ)) → IsInOrder program after ranks → (earlier : List Item) (n : Node) → Stands after earlier n → (m other : Machine) → IsMachineOf after n m → IsMachineOf after n other
    → SafeOn (game m) m.init → SafeOn (game other) other.init
safe_on_each law program after ranks order earlier n stands m other is it safe =
    let own = is.drawn in
    let its = it.drawn in
    (law program after ranks order earlier n stands its.0 other its.1.0 its.1.1).0 ((law program after ranks order earlier n stands own.0 m own.1.0 own.1.1).1 safe)
