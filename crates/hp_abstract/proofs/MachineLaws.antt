-- The variables of a machine, from the slots of its circuit.
use Rattle.std.proofs.Common.{◌≡◌, ℕ, ◌+◌, Bool, true, false, List, [], ◌∷◌, ◌++◌, map, refl, sym, ap, ◌∙◌, arith, Option, None, Some, Contains}
use Rattle.std.specs.Prelude.{fold, sum, replicate, slice_index_or}
use Rattle.hp_boolx.specs.Machine.{Machine}
use Rattle.hp_boolx.specs.Search.{Bits}
use Rattle.hp_tree.specs.declared.program.Item.{Item}
use Rattle.hp_tree.specs.Meaning.{types_of}
use Rattle.hp_tree.specs.Programs.{TypeDecl, Node}
use Rattle.hp_meaning.specs.Contract.Forgetting.{ContractsCallNothing}
use Rattle.hp_meaning.specs.Contract.Slots as slots
use Rattle.hp_meaning.specs.Contract.Slots.{width_of, shape_of, slots_of_node, registers_among, free_among}
use Rattle.hp_circuit.specs.declared.circuit.Circuit.{Circuit}
use Rattle.hp_circuit.specs.declared.circuit.Role.{Role}
use Rattle.hp_circuit.specs.declared.circuit.Role.TheVariants as role
use Rattle.hp_circuit.specs.declared.circuit.Shape.{Shape}
use Rattle.hp_circuit.specs.declared.circuit.Slot.{Slot}
use Rattle.hp_circuit.specs.declared.kind.Kind.TheVariants.{Registers, Early, Control, Late}
use Rattle.hp_circuit.specs.Kinds.{role_kind, own, bits_of}
use Rattle.hp_circuit.specs.Machines as circuit
use Rattle.hp_circuit.specs.Machines.{is_truth, joined, slot_widths, slot_prefer, slot_init}
use Rattle.hp_circuit.specs.Shapes.{shape_width}
use Rattle.hp_drawing.specs.Kept.{Kept, register, input, control, free, kept_of, kept_slots}
use Rattle.hp_abstract.specs.Machines.{controls_among, widths_at, preferred_bits, preferred_at, HasSlots, IsMachineOf}
use Rattle.hp_drawing.specs.Slotted.Slotted.{shape_as, slots_as}
use Rattle.hp_drawing.specs.Told.{told_of}
use Rattle.hp_drawing.specs.DrawnNodes.{drawn_node}
use Rattle.hp_drawing.specs.Planned.{planned_node}
use Rattle.hp_drawing.specs.Seen.{IsOf}
use Rattle.hp_drawing.proofs.NodeDrawn.{node-planned}
use Rattle.hp_names.specs.Rules.{WellNamed}
use Rattle.hp_tree.specs.declared.program.Item.TheVariants.{NodeItem}
use Rattle.hp_drawing.proofs.SlottedLemmas.NamedLaws.{all_apart, one_apart}
use Rattle.hp_drawing.proofs.SlottedLemmas.AllDeclare.{Any, any_node, any_nodes}
use Rattle.hp_drawing.proofs.SlottedLemmas.StartLaws.{node_starts}
use Rattle.hp_drawing.proofs.SlottedLemmas.SlotLaws.{Look, LastStarts, AllStart, viewed, all_viewed, remembered}
use Rattle.hp_circuit.specs.Numbers.{to_bits}
use Rattle.hp_base.specs.declared.ty.Const.{Const}
use Rattle.hp_base.specs.declared.value.Value.{Value}
use Rattle.hp_meaning.specs.Contract.Memory.{number_in, memory, bits_in, bits}
use Rattle.hp_tree.specs.Blocks.{Decl}
use Rattle.hp_tree.specs.Instant.{Instant, nothing as no_memory}
use Rattle.hp_drawing.proofs.SlottedLemmas.SlotNodes.{node_brings}

-- numbers are not looked at
abbrev bare_look : Look
bare_look = record { firstly = λ k. 0; number = λ v. 0; at_false = refl; at_state = refl }

abbrev bare : List TypeDecl → List slots.Slot → List Kept
bare types ss = slots_as types (λ p. 0) ss

-- ---- sums

sum-from : (k : ℕ) (xs : List ℕ) → fold (λ (a b : ℕ). a + b) k xs ≡ k + sum xs
sum-from k [] = omega arith
sum-from k (x ∷ xs) = omega (arith, sum-from (k + x) xs, sum-from (0 + x) xs)

sum-first : (x : ℕ) (xs : List ℕ) → sum (x ∷ xs) ≡ x + sum xs
sum-first x xs = omega (arith, sum-from (0 + x) xs)

-- ---- the widths of slots, by what they are

abbrev register_widths : List Kept → List ℕ
register_widths [] = []
register_widths (register k s ∷ ks) = shape_width s ∷ register_widths ks
register_widths (k ∷ ks) = register_widths ks

abbrev control_widths : List Kept → List ℕ
control_widths [] = []
control_widths (control s ∷ ks) = shape_width s ∷ control_widths ks
control_widths (k ∷ ks) = control_widths ks

abbrev given_widths : List Kept → List ℕ
given_widths [] = []
given_widths (input s ∷ ks) = shape_width s ∷ given_widths ks
given_widths (free s ∷ ks) = shape_width s ∷ given_widths ks
given_widths (k ∷ ks) = given_widths ks

abbrev control_prefer : List Kept → Bits
control_prefer [] = []
control_prefer (control s ∷ ks) = replicate (shape_width s) (is_truth s) ++ control_prefer ks
control_prefer (k ∷ ks) = control_prefer ks

-- ---- of a circuit

module _ (steered : List Bool) where
  registers_step : (r : Role) (s : Shape) (w : ℕ) (b : Bool) (ss : List Slot) → bits_of steered Registers ss ≡ sum (register_widths (all_viewed bare_look (kept_slots ss)))
      → own Registers (role_kind r b) (shape_width s) + bits_of steered Registers ss ≡ sum (register_widths (viewed bare_look (kept_of (record { role = r; shape = s; wire = w })) ∷ all_viewed bare_look (kept_slots ss)))
  registers_step (role.Register first next) s w b ss h = ap (λ n. shape_width s + n) h ∙ sym (sum-first (shape_width s) (register_widths (all_viewed bare_look (kept_slots ss))))
  registers_step role.Input s w b ss h = omega (arith, h)
  registers_step role.Control s w b ss h = omega (arith, h)
  registers_step (role.Free false) s w b ss h = omega (arith, h)
  registers_step (role.Free true) s w true ss h = omega (arith, h)
  registers_step (role.Free true) s w false ss h = omega (arith, h)

  registers-are : (ss : List Slot) → bits_of steered Registers ss ≡ sum (register_widths (all_viewed bare_look (kept_slots ss)))
  registers-are [] = refl
  registers-are (s ∷ ss) = registers_step s.role s.shape s.wire (slice_index_or steered s.wire false) ss (registers-are ss)

  control_step : (r : Role) (s : Shape) (w : ℕ) (b : Bool) (ss : List Slot) → bits_of steered Control ss ≡ sum (control_widths (all_viewed bare_look (kept_slots ss)))
      → own Control (role_kind r b) (shape_width s) + bits_of steered Control ss ≡ sum (control_widths (viewed bare_look (kept_of (record { role = r; shape = s; wire = w })) ∷ all_viewed bare_look (kept_slots ss)))
  control_step (role.Register first next) s w b ss h = omega (arith, h)
  control_step role.Input s w b ss h = omega (arith, h)
  control_step role.Control s w b ss h = ap (λ n. shape_width s + n) h ∙ sym (sum-first (shape_width s) (control_widths (all_viewed bare_look (kept_slots ss))))
  control_step (role.Free false) s w b ss h = omega (arith, h)
  control_step (role.Free true) s w true ss h = omega (arith, h)
  control_step (role.Free true) s w false ss h = omega (arith, h)

  control-are : (ss : List Slot) → bits_of steered Control ss ≡ sum (control_widths (all_viewed bare_look (kept_slots ss)))
  control-are [] = refl
  control-are (s ∷ ss) = control_step s.role s.shape s.wire (slice_index_or steered s.wire false) ss (control-are ss)

  early_grows : (w a b c : ℕ) → a + b ≡ c → (w + a) + (0 + b) ≡ w + c
  early_grows w a b c h = omega (arith, h)

  late_grows : (w a b c : ℕ) → a + b ≡ c → (0 + a) + (w + b) ≡ w + c
  late_grows w a b c h = omega (arith, h)

  given_step : (r : Role) (s : Shape) (w : ℕ) (b : Bool) (ss : List Slot) → bits_of steered Early ss + bits_of steered Late ss ≡ sum (given_widths (all_viewed bare_look (kept_slots ss)))
      → (own Early (role_kind r b) (shape_width s) + bits_of steered Early ss) + (own Late (role_kind r b) (shape_width s) + bits_of steered Late ss)
      ≡ sum (given_widths (viewed bare_look (kept_of (record { role = r; shape = s; wire = w })) ∷ all_viewed bare_look (kept_slots ss)))
  given_step (role.Register first next) s w b ss h = omega (arith, h)
  given_step role.Input s w b ss h =
      let e : shape_width s + sum (given_widths (all_viewed bare_look (kept_slots ss))) ≡ sum (given_widths (viewed bare_look (kept_of (record { role = role.Input; shape = s; wire = w })) ∷ all_viewed bare_look (kept_slots ss))) = sym (sum-first (shape_width s) (given_widths (all_viewed bare_look (kept_slots ss)))) in
      early_grows (shape_width s) (bits_of steered Early ss) (bits_of steered Late ss) (sum (given_widths (all_viewed bare_look (kept_slots ss)))) h ∙ e
  given_step role.Control s w b ss h = omega (arith, h)
  given_step (role.Free false) s w b ss h =
      let e : shape_width s + sum (given_widths (all_viewed bare_look (kept_slots ss))) ≡ sum (given_widths (viewed bare_look (kept_of (record { role = role.Free false; shape = s; wire = w })) ∷ all_viewed bare_look (kept_slots ss))) = sym (sum-first (shape_width s) (given_widths (all_viewed bare_look (kept_slots ss)))) in
      late_grows (shape_width s) (bits_of steered Early ss) (bits_of steered Late ss) (sum (given_widths (all_viewed bare_look (kept_slots ss)))) h ∙ e
  given_step (role.Free true) s w true ss h =
      let e : shape_width s + sum (given_widths (all_viewed bare_look (kept_slots ss))) ≡ sum (given_widths (viewed bare_look (kept_of (record { role = role.Free true; shape = s; wire = w })) ∷ all_viewed bare_look (kept_slots ss))) = sym (sum-first (shape_width s) (given_widths (all_viewed bare_look (kept_slots ss)))) in
      late_grows (shape_width s) (bits_of steered Early ss) (bits_of steered Late ss) (sum (given_widths (all_viewed bare_look (kept_slots ss)))) h ∙ e
  given_step (role.Free true) s w false ss h =
      let e : shape_width s + sum (given_widths (all_viewed bare_look (kept_slots ss))) ≡ sum (given_widths (viewed bare_look (kept_of (record { role = role.Free true; shape = s; wire = w })) ∷ all_viewed bare_look (kept_slots ss))) = sym (sum-first (shape_width s) (given_widths (all_viewed bare_look (kept_slots ss)))) in
      early_grows (shape_width s) (bits_of steered Early ss) (bits_of steered Late ss) (sum (given_widths (all_viewed bare_look (kept_slots ss)))) h ∙ e

  given-are : (ss : List Slot) → bits_of steered Early ss + bits_of steered Late ss ≡ sum (given_widths (all_viewed bare_look (kept_slots ss)))
  given-are [] = refl
  given-are (s ∷ ss) = given_step s.role s.shape s.wire (slice_index_or steered s.wire false) ss (given-are ss)

widths_step : (r : Role) (s : Shape) (w : ℕ) (ss : List Slot) → joined slot_widths ss ≡ control_widths (all_viewed bare_look (kept_slots ss))
    → circuit.role_widths r s ++ joined slot_widths ss ≡ control_widths (viewed bare_look (kept_of (record { role = r; shape = s; wire = w })) ∷ all_viewed bare_look (kept_slots ss))
widths_step (role.Register first next) s w ss h = h
widths_step role.Input s w ss h = h
widths_step role.Control s w ss h = ap (λ more. shape_width s ∷ more) h
widths_step (role.Free early) s w ss h = h

widths-are : (ss : List Slot) → joined slot_widths ss ≡ control_widths (all_viewed bare_look (kept_slots ss))
widths-are [] = refl
widths-are (s ∷ ss) = widths_step s.role s.shape s.wire ss (widths-are ss)

prefer_step : (r : Role) (s : Shape) (w : ℕ) (ss : List Slot) → joined slot_prefer ss ≡ control_prefer (all_viewed bare_look (kept_slots ss))
    → circuit.role_prefer r s ++ joined slot_prefer ss ≡ control_prefer (viewed bare_look (kept_of (record { role = r; shape = s; wire = w })) ∷ all_viewed bare_look (kept_slots ss))
prefer_step (role.Register first next) s w ss h = h
prefer_step role.Input s w ss h = h
prefer_step role.Control s w ss h = ap (λ more. replicate (shape_width s) (is_truth s) ++ more) h
prefer_step (role.Free early) s w ss h = h

prefer-are : (ss : List Slot) → joined slot_prefer ss ≡ control_prefer (all_viewed bare_look (kept_slots ss))
prefer-are [] = refl
prefer-are (s ∷ ss) = prefer_step s.role s.shape s.wire ss (prefer-are ss)

-- ---- of a node

width-same : (s : slots.Shape) → shape_width (shape_as s) ≡ width_of s
width-same slots.truth = refl
width-same slots.mark = refl
width-same (slots.cons t m) = refl

prefer-same : (s : slots.Shape) → replicate (shape_width (shape_as s)) (is_truth (shape_as s)) ≡ preferred_bits s
prefer-same slots.truth = refl
prefer-same slots.mark = refl
prefer-same (slots.cons t m) = refl

omega_zero : (n : ℕ) → n ≡ 0 + n
omega_zero n = omega arith

module _ (types : List TypeDecl) where
  node_registers : (ss : List slots.Slot) → sum (register_widths (bare types ss)) ≡ sum (map (λ r. width_of r.1) (registers_among ss))
  node_registers [] = refl
  node_registers (slots.register p slots.truth ∷ ss) =
      sum-first 1 (register_widths (bare types ss)) ∙ ap (λ n. 1 + n) (node_registers ss) ∙ sym (sum-first 1 (map (λ r. width_of r.1) (registers_among ss)))
  node_registers (slots.register p slots.mark ∷ ss) = node_registers ss ∙ omega_zero (sum (map (λ r. width_of r.1) (registers_among ss))) ∙ sym (sum-first 0 (map (λ r. width_of r.1) (registers_among ss)))
  node_registers (slots.register p (slots.cons t m) ∷ ss) =
      sum-first (width_of (slots.cons t m)) (register_widths (bare types ss)) ∙ ap (λ n. width_of (slots.cons t m) + n) (node_registers ss) ∙ sym (sum-first (width_of (slots.cons t m)) (map (λ r. width_of r.1) (registers_among ss)))
  node_registers (slots.free p t ∷ ss) = node_registers ss
  node_registers (slots.input p t ∷ ss) = node_registers ss
  node_registers (slots.control p t ∷ ss) = node_registers ss

  node_controls : (ss : List slots.Slot) → control_widths (bare types ss) ≡ widths_at types (controls_among ss)
  node_controls [] = refl
  node_controls (slots.register p slots.truth ∷ ss) = node_controls ss
  node_controls (slots.register p slots.mark ∷ ss) = node_controls ss
  node_controls (slots.register p (slots.cons t m) ∷ ss) = node_controls ss
  node_controls (slots.free p t ∷ ss) = node_controls ss
  node_controls (slots.input p t ∷ ss) = node_controls ss
  node_controls (slots.control p t ∷ ss) = λ j. width-same (shape_of types t) j ∷ node_controls ss j

  node_given : (ss : List slots.Slot) → given_widths (bare types ss) ≡ widths_at types (free_among ss)
  node_given [] = refl
  node_given (slots.register p slots.truth ∷ ss) = node_given ss
  node_given (slots.register p slots.mark ∷ ss) = node_given ss
  node_given (slots.register p (slots.cons t m) ∷ ss) = node_given ss
  node_given (slots.free p t ∷ ss) = λ j. width-same (shape_of types t) j ∷ node_given ss j
  node_given (slots.input p t ∷ ss) = λ j. width-same (shape_of types t) j ∷ node_given ss j
  node_given (slots.control p t ∷ ss) = node_given ss

  node_prefer : (ss : List slots.Slot) → control_prefer (bare types ss) ≡ preferred_at types (controls_among ss)
  node_prefer [] = refl
  node_prefer (slots.register p slots.truth ∷ ss) = node_prefer ss
  node_prefer (slots.register p slots.mark ∷ ss) = node_prefer ss
  node_prefer (slots.register p (slots.cons t m) ∷ ss) = node_prefer ss
  node_prefer (slots.free p t ∷ ss) = node_prefer ss
  node_prefer (slots.input p t ∷ ss) = node_prefer ss
  node_prefer (slots.control p t ∷ ss) = λ j. prefer-same (shape_of types t) j ++ node_prefer ss j

any_start : (program : List Item) (ds : List Decl) → AllStart bare_look (told_of program) ds (remembered (types_of program) ds)
any_start program ds = each ds (remembered (types_of program) ds)
  where
    one : (o : Option Const) (x : List ℕ) (m : List ℕ → Value) → LastStarts bare_look (told_of program) o x m
    one None x m = tt
    one (Some c) x m = refl

    each : (es : List Decl) (m : List ℕ → Value) → AllStart bare_look (told_of program) es m
    each [] m = tt
    each (d ∷ es) m = (one d.last d.name m, each es m)

-- ---- what registers hold at first

abbrev kept_init : List Kept → Bits
kept_init [] = []
kept_init (register k s ∷ ks) = to_bits (shape_width s) k ++ kept_init ks
kept_init (k ∷ ks) = kept_init ks

init_step : (r : Role) (s : Shape) (w : ℕ) (ss : List Slot) → joined slot_init ss ≡ kept_init (kept_slots ss)
    → circuit.role_init r s ++ joined slot_init ss ≡ kept_init (kept_of (record { role = r; shape = s; wire = w }) ∷ kept_slots ss)
init_step (role.Register first next) s w ss h = ap (λ more. to_bits (shape_width s) first ++ more) h
init_step role.Input s w ss h = h
init_step role.Control s w ss h = h
init_step (role.Free early) s w ss h = h

init-are : (ss : List Slot) → joined slot_init ss ≡ kept_init (kept_slots ss)
init-are [] = refl
init-are (s ∷ ss) = init_step s.role s.shape s.wire ss (init-are ss)

node_init : (types : List TypeDecl) (mem : Instant) (ss : List slots.Slot) → kept_init (slots_as types (λ p. number_in (mem p)) ss) ≡ bits_in (registers_among ss) mem
node_init types mem [] = refl
node_init types mem (slots.register p slots.truth ∷ ss) = ap (λ more. to_bits 1 (number_in (mem p)) ++ more) (node_init types mem ss)
node_init types mem (slots.register p slots.mark ∷ ss) = node_init types mem ss
node_init types mem (slots.register p (slots.cons t m) ∷ ss) = ap (λ more. to_bits (width_of (slots.cons t m)) (number_in (mem p)) ++ more) (node_init types mem ss)
node_init types mem (slots.free p t ∷ ss) = node_init types mem ss
node_init types mem (slots.input p t ∷ ss) = node_init types mem ss
node_init types mem (slots.control p t ∷ ss) = node_init types mem ss

-- ---- joined

module _ (program : List Item) (n : Node) (c : Circuit) (m : Machine) (of : circuit.IsMachineOf n.name c m) (is : IsOf c (drawn_node (told_of program) n)) where
  planned : kept_slots c.slots.items ≡ planned_node (told_of program) n []
  planned = ap kept_slots is.slots ∙ node-planned (told_of program) n

  slots-are : ContractsCallNothing program → all_viewed bare_look (kept_slots c.slots.items) ≡ bare (types_of program) (slots_of_node program n)
  slots-are h = ap (all_viewed bare_look) planned ∙ (node_brings bare_look program (λ p. 0) Any (λ ds g. any_start program ds) n no_memory [] h (any_nodes program) (any_node n) (λ p. refl) (λ p. refl)).is

  has_slots : ContractsCallNothing program → HasSlots program n m
  has_slots h =
      let types = types_of program in
      let ss = slots_of_node program n in
      let same = slots-are h in
      let widths = of.widths ∙ widths-are c.slots.items in
      record {
        many_registers = of.many_registers ∙ registers-are of.steered c.slots.items ∙ ap (λ ks. sum (register_widths ks)) same ∙ node_registers types ss;
        many_given = (λ j. of.many_early j + of.many_late j) ∙ given-are of.steered c.slots.items ∙ ap (λ ks. sum (given_widths ks)) same ∙ ap sum (node_given types ss);
        many_control = of.many_control ∙ control-are of.steered c.slots.items ∙ ap sum (sym widths);
        widths = widths ∙ ap control_widths same ∙ node_controls types ss;
        prefer = of.prefer ∙ prefer-are c.slots.items ∙ ap control_prefer same ∙ node_prefer types ss;
      }

  init : ContractsCallNothing program → WellNamed program → Contains program (NodeItem n) → m.init ≡ bits program n []
  init h named among = of.init ∙ init-are c.slots.items ∙ ap kept_init (planned ∙ node_starts program n h (all_apart program named) (one_apart program n among (all_apart program named))) ∙ node_init (types_of program) (memory program n []) (slots_of_node program n)

  pub is_machine : IsMachineOf program n m
  is_machine = record { named = of.named; registers = of.registers; early = of.early; control = of.control; late = of.late; variables = has_slots; start = init; drawn = (c, (is, of)) }
