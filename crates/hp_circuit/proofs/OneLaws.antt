-- A circuit has one machine.
use Rattle.std.proofs.Common.{◌≡◌, ℕ, ◌+◌, Bool, true, false, List, [], ◌∷◌, ◌++◌, length, map, take, refl, sym, ap, ap₂, subst, ◌∙◌}
use Rattle.std.specs.Prelude.{IsTrue, slice_index_or}
use Rattle.std.specs.List.{range_with_len}
use Rattle.hp_boolx.specs.Machine.{Machine}
use Rattle.hp_circuit.specs.declared.circuit.Circuit.{Circuit}
use Rattle.hp_circuit.specs.declared.circuit.Slot.{Slot}
use Rattle.hp_circuit.specs.declared.given.Given.{Given}
use Rattle.hp_circuit.specs.declared.kind.Kind.{Kind}
use Rattle.hp_circuit.specs.declared.kind.Kind.TheVariants.{Registers, Early, Control, Late}
use Rattle.hp_circuit.specs.Building.{IsBuilt, places_of}
use Rattle.hp_circuit.specs.Forms.{slot_at}
use Rattle.hp_circuit.specs.Giving.{given_of, is_early, role_given}
use Rattle.hp_circuit.specs.Kinds.{bits_of, first_of, kind_of, own, place_of, role_kind}
use Rattle.hp_circuit.specs.Levels.{IsByLevel}
use Rattle.hp_circuit.specs.Machines.{IsMachineOf, joined, slot_init, slot_prefer, slot_widths}
use Rattle.hp_circuit.specs.Making.{place_at}
use Rattle.hp_circuit.specs.One.{AreAlike, OneMachineLaw}
use Rattle.hp_circuit.specs.Placing.{slot_gates}
use Rattle.hp_circuit.specs.Reading.{AreSteered, edges_of}
use Rattle.hp_circuit.specs.Shapes.{shape_width}
use Rattle.hp_circuit.specs.Wiring.{Numbered, starts_of, unwired, wired, with_all, with_valid}
use Rattle.hp_circuit.proofs.LevelLaws.{one_by_level}

-- ---- what is steered is told in one way

same_truth : (b c : Bool) → (IsTrue b → IsTrue c) → (IsTrue c → IsTrue b) → b ≡ c
same_truth true c h g = sym (h refl)
same_truth false true h g = g refl
same_truth false false h g = refl

module _ (slots : List Slot) (edges : List (ℕ × ℕ)) (xs ys : List Bool) (h : AreSteered slots edges xs) (g : AreSteered slots edges ys) where
  mark_same : (w : ℕ) → slice_index_or xs w false ≡ slice_index_or ys w false
  mark_same w = same_truth (slice_index_or xs w false) (slice_index_or ys w false) (λ t. (g w).1 ((h w).0 t)) (λ t. (h w).1 ((g w).0 t))

  kind_same : (slot : Slot) → kind_of xs slot ≡ kind_of ys slot
  kind_same slot = ap (λ (b : Bool). role_kind slot.role b) (mark_same slot.wire)

  bits_same : (kind : Kind) (ss : List Slot) → bits_of xs kind ss ≡ bits_of ys kind ss
  bits_same kind [] = refl
  bits_same kind (slot ∷ ss) = ap₂ (λ a b. a + b) (ap (λ k. own kind k (shape_width slot.shape)) (kind_same slot)) (bits_same kind ss)

  first_same : (kind : Kind) → first_of xs slots kind ≡ first_of ys slots kind
  first_same Registers = refl
  first_same Early = bits_same Registers slots
  first_same Control = ap₂ (λ a b. a + b) (bits_same Registers slots) (bits_same Early slots)
  first_same Late = ap₂ (λ a b. a + b) (ap₂ (λ a b. a + b) (bits_same Registers slots) (bits_same Early slots)) (bits_same Control slots)

  place_same : (i : ℕ) → place_of xs slots i ≡ place_of ys slots i
  place_same i =
      ap (λ k. first_of xs slots k + bits_of xs k (take i slots)) (kind_same (slot_at slots i))
      ∙ ap₂ (λ a b. a + b) (first_same (kind_of ys (slot_at slots i))) (bits_same (kind_of ys (slot_at slots i)) (take i slots))

  all_same : (is : List ℕ) → map (place_of xs slots) is ≡ map (place_of ys slots) is
  all_same [] = refl
  all_same (i ∷ is) = ap₂ (λ (p : ℕ) ps. p ∷ ps) (place_same i) (all_same is)

  places_same : places_of xs slots ≡ places_of ys slots
  places_same = all_same (range_with_len 0 (length slots))

  given_same : (ss : List Slot) → given_of xs ss ≡ given_of ys ss
  given_same [] = refl
  given_same (slot ∷ ss) = ap₂ (λ (xs ys : List Given). xs ++ ys) (ap (λ k. role_given slot.role slot.shape (is_early k)) (kind_same slot)) (given_same ss)

-- ---- two machines

module _ (name : List ℕ) (c d : Circuit) (starts others : List ℕ) (m n : Machine) (alike : AreAlike c d) (of_c : IsMachineOf name c m) (of_d : IsMachineOf name d n) (first : IsBuilt c starts m) (second : IsBuilt d others n) where
  edges_same : edges_of c.wires.items c.reads.items ≡ edges_of d.wires.items d.reads.items
  edges_same = ap₂ edges_of alike.wires alike.reads

  -- what is steered in the one is so in the other
  here : (steered : List Bool) → AreSteered d.slots.items (edges_of d.wires.items d.reads.items) steered → AreSteered c.slots.items (edges_of c.wires.items c.reads.items) steered
  here steered h =
      subst (λ (slots : List Slot). AreSteered slots (edges_of c.wires.items c.reads.items) steered) (sym alike.slots)
      (subst (λ (edges : List (ℕ × ℕ)). AreSteered d.slots.items edges steered) (sym edges_same) h)

  order_here : IsByLevel (edges_of c.wires.items c.reads.items) (length c.wires.items) second.order
  order_here =
      subst (λ (edges : List (ℕ × ℕ)). IsByLevel edges (length c.wires.items) second.order) (sym edges_same)
      (subst (λ many. IsByLevel (edges_of d.wires.items d.reads.items) many second.order) (sym (ap length alike.wires)) second.by_level)

  order_same : first.order ≡ second.order
  order_same = one_by_level (edges_of c.wires.items c.reads.items) (length c.wires.items) first.order second.order first.by_level order_here

  places_are_same : places_of first.steered c.slots.items ≡ places_of second.steered d.slots.items
  places_are_same =
      places_same c.slots.items (edges_of c.wires.items c.reads.items) first.steered second.steered first.are_steered (here second.steered second.are_steered) ∙ ap (places_of second.steered) alike.slots

  wired_same : wired c (places_of first.steered c.slots.items) first.order ≡ wired d (places_of second.steered d.slots.items) second.order
  wired_same = λ i. with_all (alike.wires i) (alike.shapes i) (places_are_same i) (unwired (length (alike.wires i))) (order_same i)

  starts_same : starts ≡ others
  starts_same = first.starts_are ∙ ap starts_of wired_same ∙ sym second.starts_are

  gates_same : ◌≡◌ {A = Numbered} (m.gates, m.valid) (n.gates, n.valid)
  gates_same = first.has.made ∙ (λ i. with_valid (starts_same i) ((wired_same i).gates, 1) (alike.slots i)) ∙ sym second.has.made

  many_same : (kind : Kind) → bits_of of_c.steered kind c.slots.items ≡ bits_of of_d.steered kind d.slots.items
  many_same kind =
      bits_same c.slots.items (edges_of c.wires.items c.reads.items) of_c.steered of_d.steered of_c.are_steered (here of_d.steered of_d.are_steered) kind c.slots.items ∙ ap (bits_of of_d.steered kind) alike.slots

  given_is_same : given_of of_c.steered c.slots.items ≡ given_of of_d.steered d.slots.items
  given_is_same =
      given_same c.slots.items (edges_of c.wires.items c.reads.items) of_c.steered of_d.steered of_c.are_steered (here of_d.steered of_d.are_steered) c.slots.items ∙ ap (given_of of_d.steered) alike.slots

  machine_same : m ≡ n
  machine_same =
      let named = of_c.named ∙ sym of_d.named in
      let registers = of_c.many_registers ∙ many_same Registers ∙ sym of_d.many_registers in
      let early = of_c.many_early ∙ many_same Early ∙ sym of_d.many_early in
      let control = of_c.many_control ∙ many_same Control ∙ sym of_d.many_control in
      let late = of_c.many_late ∙ many_same Late ∙ sym of_d.many_late in
      let widths = of_c.widths ∙ ap (joined slot_widths) alike.slots ∙ sym of_d.widths in
      let prefer = of_c.prefer ∙ ap (joined slot_prefer) alike.slots ∙ sym of_d.prefer in
      let init = of_c.init ∙ ap (joined slot_init) alike.slots ∙ sym of_d.init in
      let next = first.has.next ∙ (λ i. joined (slot_gates (starts_same i)) (alike.slots i)) ∙ sym second.has.next in
      let hyp = first.has.hyp ∙ (λ i. place_at (starts_same i) (alike.hyp i)) ∙ sym second.has.hyp in
      let duty = first.has.duty ∙ (λ i. place_at (starts_same i) (alike.duty i)) ∙ sym second.has.duty in
      λ i. record {
        name = named i;
        registers = registers i;
        early = early i;
        control = control i;
        late = late i;
        widths = widths i;
        prefer = prefer i;
        gates = (gates_same i).0;
        init = init i;
        next = next i;
        valid = (gates_same i).1;
        hyp = hyp i;
        duty = duty i;
      }

pub one_machine : OneMachineLaw
one_machine name c d starts others m n alike of_c of_d first second =
    (machine_same name c d starts others m n alike of_c of_d first second, given_is_same name c d starts others m n alike of_c of_d first second, starts_same name c d starts others m n alike of_c of_d first second)
