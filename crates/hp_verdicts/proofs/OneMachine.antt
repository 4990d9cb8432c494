-- The machines of a node have one game, whichever gates they have.
use Rattle.std.proofs.Common.{◌≡◌, ◌<◌, ◌+◌, ℕ, suc, Bool, false, ◌&&◌, List, [], ◌∷◌, ◌++◌, length, map, take, slice_index_or, Some, None, refl, sym, ap, ap₂, ◌∙◌, subst, arith, if◌then◌else◌}
use Rattle.hp_boolx.specs.Game.{Game}
use Rattle.hp_boolx.specs.Machine.{IsMachine, Machine, game, variables}
use Rattle.hp_boolx.specs.Search.{Bits}
use Rattle.hp_abstract.specs.Machines.{IsMachineOf}
use Rattle.hp_cert.specs.Certmade.Lines.{references}
use Rattle.hp_cert.specs.Certtext.Certificates.{Certificate}
use Rattle.hp_cert.specs.Certtext.Texts.{cert_text}
use Rattle.hp_circuit.specs.declared.circuit.Circuit.{Circuit}
use Rattle.hp_circuit.specs.declared.circuit.Role.{Role}
use Rattle.hp_circuit.specs.declared.circuit.Role.TheVariants as role
use Rattle.hp_circuit.specs.declared.circuit.Shape.{Shape}
use Rattle.hp_circuit.specs.declared.circuit.Slot.{Slot}
use Rattle.hp_circuit.specs.declared.circuit.Wire.{Wire}
use Rattle.hp_circuit.specs.declared.circuit.Wire.TheVariants as wire
use Rattle.hp_circuit.specs.declared.kind.Kind.{Kind}
use Rattle.hp_circuit.specs.declared.kind.Kind.TheVariants.{Registers, Early, Control, Late}
use Rattle.hp_circuit.specs.Adding.{at, row}
use Rattle.hp_circuit.specs.Forms.{SlotFits, WireFits, RoleFits, shape_at, slot_at, wire_at}
use Rattle.hp_circuit.specs.Kinds.{bits_of, kind_of, own, place_of, role_kind, first_of}
use Rattle.hp_circuit.specs.Machines as circuit
use Rattle.hp_circuit.specs.Numbers.{number, to_bits}
use Rattle.hp_circuit.specs.Machines.{all_valid, joined, role_next, role_valid, slot_init, slot_next, slot_prefer, slot_widths}
use Rattle.hp_circuit.specs.Making.{place_at, slot_number}
use Rattle.hp_circuit.specs.Meaning.{Solves, holds, wire_value}
use Rattle.hp_circuit.specs.Reading.{AreSteered, edges_of}
use Rattle.hp_circuit.specs.Shapes.{shape_width}
use Rattle.hp_drawing.specs.DrawnNodes.{drawn_node}
use Rattle.hp_drawing.specs.Seen.{IsOf}
use Rattle.hp_drawing.specs.Sketch.{Sketch}
use Rattle.hp_drawing.specs.Told.{told_of}
use Rattle.hp_tree.specs.declared.program.Item.{Item}
use Rattle.hp_tree.specs.Programs.{Node}
use Rattle.hp_verdicts.specs.Canonical.{AreCanonical}
use Rattle.hp_verdicts.specs.Decided.{is_wide_contract}
use Rattle.hp_verdicts.specs.Laws.{NodeLongLaw, NodeLossLaw, NodeTextLaw}
use Rattle.hp_verdicts.specs.TheCertificate.{IsClaimOf, IsTheCertificate}
use Rattle.hp_verdicts.proofs.OneCertificate.{certificate_one, same_truth}

-- what is known of the machine of a circuit of these lists
module _ (wires : List Wire) (shapes : List Shape) (slots : List Slot) (reads : List (ℕ × ℕ)) (hyp duty : ℕ) where
  pub record Meant (m : Machine) (places : List ℕ) (v : Bits) : Type 0 where
    pub numbers : ℕ → ℕ
    pub solves : Solves wires (slot_number slots places v) numbers
    pub only : (other : ℕ → ℕ) → Solves wires (slot_number slots places v) other → (w : ℕ) → w < length wires → other w ≡ numbers w
    pub next : map (at m.gates v) m.next ≡ joined (slot_next numbers) slots
    pub valid : at m.gates v m.valid ≡ all_valid numbers slots
    pub hyp_is : at m.gates v m.hyp ≡ holds (numbers hyp)
    pub duty_is : at m.gates v m.duty ≡ holds (numbers duty)

  pub record Known (name : List ℕ) (m : Machine) : Type 0 where
    pub named : m.name ≡ name
    pub many : length shapes ≡ length wires
    pub fit : (i : ℕ) → i < length shapes → WireFits slots shapes (shape_at shapes i) (wire_at wires i)
    pub slots_fit : (i : ℕ) → i < length slots → SlotFits wires shapes i (slot_at slots i)
    pub hyp_within : hyp < length shapes
    pub duty_within : duty < length shapes
    pub steered : List Bool
    pub are_steered : AreSteered slots (edges_of wires reads) steered
    pub many_registers : m.registers ≡ bits_of steered Registers slots
    pub many_early : m.early ≡ bits_of steered Early slots
    pub many_control : m.control ≡ bits_of steered Control slots
    pub many_late : m.late ≡ bits_of steered Late slots
    pub widths : m.widths ≡ joined slot_widths slots
    pub prefer : m.prefer ≡ joined slot_prefer slots
    pub init : m.init ≡ joined slot_init slots
    pub places : List ℕ
    pub placed : (i : ℕ) → i < length slots → place_at places i ≡ place_of steered slots i
    pub meant : (v : Bits) → Meant m places v

  module _ (name : List ℕ) (m other : Machine) (of_m : Known name m) (of_other : Known name other) where
    -- ---- kinds

    steered_same : (w : ℕ) → slice_index_or of_m.steered w false ≡ slice_index_or of_other.steered w false
    steered_same w = same_truth (slice_index_or of_m.steered w false) (slice_index_or of_other.steered w false)
        (λ h. (of_other.are_steered w).1 ((of_m.are_steered w).0 h), λ h. (of_m.are_steered w).1 ((of_other.are_steered w).0 h))

    kind_same : (slot : Slot) → kind_of of_m.steered slot ≡ kind_of of_other.steered slot
    kind_same slot = ap (λ (b : Bool). role_kind slot.role b) (steered_same slot.wire)

    bits_same : (kind : Kind) (ss : List Slot) → bits_of of_m.steered kind ss ≡ bits_of of_other.steered kind ss
    bits_same kind [] = refl
    bits_same kind (slot ∷ ss) = ap₂ (λ a b. a + b) (ap (λ k. own kind k (shape_width slot.shape)) (kind_same slot)) (bits_same kind ss)

    first_same : (kind : Kind) → first_of of_m.steered slots kind ≡ first_of of_other.steered slots kind
    first_same Registers = refl
    first_same Early = bits_same Registers slots
    first_same Control = ap₂ (λ a b. a + b) (bits_same Registers slots) (bits_same Early slots)
    first_same Late = ap₂ (λ a b. a + b) (ap₂ (λ a b. a + b) (bits_same Registers slots) (bits_same Early slots)) (bits_same Control slots)

    place_same : (i : ℕ) → i < length slots → place_at of_m.places i ≡ place_at of_other.places i
    place_same i less =
        of_m.placed i less
        ∙ ap (λ k. first_of of_m.steered slots k + bits_of of_m.steered k (take i slots)) (kind_same (slot_at slots i))
        ∙ ap₂ (λ a b. a + b) (first_same (kind_of of_other.steered (slot_at slots i))) (bits_same (kind_of of_other.steered (slot_at slots i)) (take i slots))
        ∙ sym (of_other.placed i less)

    -- ---- numbers of wires

    module _ (v : Bits) where
      number_same : (i : ℕ) → i < length slots → slot_number slots of_m.places v i ≡ slot_number slots of_other.places v i
      number_same i less = ap (λ p. number (row v p (shape_width (slot_at slots i).shape))) (place_same i less)

      -- a wire has the same number, whichever of the two places slots have
      value_same : (numbers : ℕ → ℕ) (shape : Shape) (w : Wire) → WireFits slots shapes shape w → wire_value (slot_number slots of_m.places v) numbers w ≡ wire_value (slot_number slots of_other.places v) numbers w
      value_same numbers shape (wire.Slot i) fits = number_same i fits.0
      value_same numbers shape (wire.Constant k) fits = refl
      value_same numbers shape (wire.Copy a) fits = refl
      value_same numbers shape (wire.Not a) fits = refl
      value_same numbers shape (wire.And a b) fits = refl
      value_same numbers shape (wire.Or a b) fits = refl
      value_same numbers shape (wire.Xor a b) fits = refl
      value_same numbers shape (wire.Equal a b) fits = refl
      value_same numbers shape (wire.Is a k) fits = refl
      value_same numbers shape (wire.If t a b) fits = refl

      within : (w : ℕ) → w < length shapes → w < length wires
      within w less = let many = of_m.many in omega (arith, less, many)

      numbers_same : (w : ℕ) → w < length wires → (of_m.meant v).numbers w ≡ (of_other.meant v).numbers w
      numbers_same w less =
          (of_other.meant v).only (of_m.meant v).numbers
          (λ i i_less. (of_m.meant v).solves i i_less ∙ value_same (of_m.meant v).numbers (shape_at shapes i) (wire_at wires i) (of_m.fit i (let many = of_m.many in omega (arith, i_less, many))))
          w less

      -- ---- gates

      -- slots and the next wires of registers have numbers
      abbrev IsThere : Slot → Type 0
      IsThere slot = (slot.wire < length wires) × RoleFits shapes slot.shape slot.role

      abbrev AreThere : List Slot → Type 0
      AreThere ss = (i : ℕ) → i < length ss → IsThere (slot_at ss i)

      rest : (slot : Slot) (ss : List Slot) → AreThere (slot ∷ ss) → AreThere ss
      rest slot ss there i less = there (suc i) (omega (arith, less))

      next_same : (shape : Shape) (r : Role) → RoleFits shapes shape r → role_next (of_m.meant v).numbers r shape ≡ role_next (of_other.meant v).numbers r shape
      next_same shape (role.Register first next) fits = ap (λ k. to_bits (shape_width shape) k) (numbers_same next (within next (fits.1).0))
      next_same shape role.Input fits = refl
      next_same shape role.Control fits = refl
      next_same shape (role.Free early) fits = refl

      nexts_same : (ss : List Slot) → AreThere ss → joined (slot_next (of_m.meant v).numbers) ss ≡ joined (slot_next (of_other.meant v).numbers) ss
      nexts_same [] there = refl
      nexts_same (slot ∷ ss) there = ap₂ (λ (a b : Bits). a ++ b) (next_same slot.shape slot.role (there 0 (omega arith)).1) (nexts_same ss (rest slot ss there))

      valid_same : (ss : List Slot) → AreThere ss → all_valid (of_m.meant v).numbers ss ≡ all_valid (of_other.meant v).numbers ss
      valid_same [] there = refl
      valid_same (slot ∷ ss) there = ap₂ (λ (a b : Bool). a && b) (ap (λ k. role_valid slot.role slot.shape k) (numbers_same slot.wire (there 0 (omega arith)).0)) (valid_same ss (rest slot ss there))

      slots_there : AreThere slots
      slots_there i less = let fits = of_m.slots_fit i less in (fits.there, fits.role)

      next_is : map (at m.gates v) m.next ≡ map (at other.gates v) other.next
      next_is = (of_m.meant v).next ∙ nexts_same slots slots_there ∙ sym (of_other.meant v).next

      valid_is : at m.gates v m.valid ≡ at other.gates v other.valid
      valid_is = (of_m.meant v).valid ∙ valid_same slots slots_there ∙ sym (of_other.meant v).valid

      hyp_is : at m.gates v m.hyp ≡ at other.gates v other.hyp
      hyp_is = (of_m.meant v).hyp_is ∙ ap holds (numbers_same hyp (within hyp of_m.hyp_within)) ∙ sym (of_other.meant v).hyp_is

      duty_is : at m.gates v m.duty ≡ at other.gates v other.duty
      duty_is = (of_m.meant v).duty_is ∙ ap holds (numbers_same duty (within duty of_m.duty_within)) ∙ sym (of_other.meant v).duty_is

    -- ---- the game

    pub name_one : m.name ≡ other.name
    name_one = of_m.named ∙ sym of_other.named

    pub widths_one : m.widths ≡ other.widths
    widths_one = of_m.widths ∙ sym of_other.widths

    pub game_one : game m ≡ game other
    game_one =
        let registers : m.registers ≡ other.registers = of_m.many_registers ∙ bits_same Registers slots ∙ sym of_other.many_registers in
        let early : m.early ≡ other.early = of_m.many_early ∙ bits_same Early slots ∙ sym of_other.many_early in
        let control : m.control ≡ other.control = of_m.many_control ∙ bits_same Control slots ∙ sym of_other.many_control in
        let late : m.late ≡ other.late = of_m.many_late ∙ bits_same Late slots ∙ sym of_other.many_late in
        let prefer : m.prefer ≡ other.prefer = of_m.prefer ∙ sym of_other.prefer in
        let init : m.init ≡ other.init = of_m.init ∙ sym of_other.init in
        λ i. record {
          registers = registers i;
          early = early i;
          control = control i;
          late = late i;
          prefer = prefer i;
          init = init i;
          next = λ v. next_is v i;
          valid = λ v. valid_is v i;
          hyp = λ v. hyp_is v i;
          duty = λ v. duty_is v i;
        }

-- ---- the machine of a circuit

module _ (name : List ℕ) (c : Circuit) (m : Machine) (is : circuit.IsMachineOf name c m) where
  meant_by : (v : Bits) → Meant c.wires.items c.shapes.items c.slots.items c.reads.items c.hyp c.duty m is.places v
  meant_by v =
      let x = is.meant v in
      record { numbers = x.numbers; solves = x.solves; only = x.only; next = x.next; valid = x.valid; hyp_is = x.hyp; duty_is = x.duty }

  known_of : Known c.wires.items c.shapes.items c.slots.items c.reads.items c.hyp c.duty name m
  known_of = record {
    named = is.named;
    many = (is.form).shapes;
    fit = (is.form).wires.fit;
    slots_fit = (is.form).slots;
    hyp_within = (is.form).hyp.0;
    duty_within = (is.form).duty.0;
    steered = is.steered;
    are_steered = is.are_steered;
    many_registers = is.many_registers;
    many_early = is.many_early;
    many_control = is.many_control;
    many_late = is.many_late;
    widths = is.widths;
    prefer = is.prefer;
    init = is.init;
    places = is.places;
    placed = is.placed;
    meant = meant_by;
  }

  -- of a circuit that has the lists of a sketch
  known : (s : Sketch) → IsOf c s → Known s.wires s.shapes s.slots s.reads s.hyp s.duty name m
  known s of =
      subst (λ x. Known s.wires s.shapes s.slots s.reads s.hyp x name m) of.duty
      (subst (λ x. Known s.wires s.shapes s.slots s.reads x c.duty name m) of.hyp
      (subst (λ x. Known s.wires s.shapes s.slots x c.hyp c.duty name m) of.reads
      (subst (λ x. Known s.wires s.shapes x c.reads.items c.hyp c.duty name m) of.slots
      (subst (λ x. Known s.wires x c.slots.items c.reads.items c.hyp c.duty name m) of.shapes
      (subst (λ x. Known x c.shapes.items c.slots.items c.reads.items c.hyp c.duty name m) of.wires known_of)))))

-- ---- the machines of a node

-- Two machines have one name, their controllable variables the same widths, and the machines have one game.
pub record AreOne (m other : Machine) : Type 0 where
  pub name : m.name ≡ other.name
  pub widths : m.widths ≡ other.widths
  pub one_game : game m ≡ game other

pub node_machine : (program : List Item) (n : Node) (m other : Machine) → IsMachineOf program n m → IsMachineOf program n other → AreOne m other
node_machine program n m other of_m of_other =
    let s = drawn_node (told_of program) n in
    let first = of_m.drawn in
    let second = of_other.drawn in
    let one = known n.name first.0 m first.1.1 s first.1.0 in
    let two = known n.name second.0 other second.1.1 s second.1.0 in
    record {
      name = name_one s.wires s.shapes s.slots s.reads s.hyp s.duty n.name m other one two;
      widths = widths_one s.wires s.shapes s.slots s.reads s.hyp s.duty n.name m other one two;
      one_game = game_one s.wires s.shapes s.slots s.reads s.hyp s.duty n.name m other one two;
    }

-- ---- certificates of a node

-- what is the certificate of a machine is that of another with its name, its widths and its game
moved : (m other : Machine) → IsMachine other → m.name ≡ other.name → m.widths ≡ other.widths → game m ≡ game other → (wide : Bool) (c : Certificate) → IsTheCertificate m wide c → IsTheCertificate other wide c
moved m other form name widths same wide c is =
    let registers : m.registers ≡ other.registers = ap (λ (g : Game). g.registers) same in
    let early : m.early ≡ other.early = ap (λ (g : Game). g.early) same in
    let control : m.control ≡ other.control = ap (λ (g : Game). g.control) same in
    let late : m.late ≡ other.late = ap (λ (g : Game). g.late) same in
    let vars : variables m ≡ variables other = λ i. registers i + early i + control i + late i in
    record {
      form = form;
      head =
          record {
            node = (is.head).node ∙ name;
            registers = (is.head).registers ∙ registers;
            early = (is.head).early ∙ early;
            control = (is.head).control ∙ control;
            late = (is.head).late ∙ late;
            widths = (is.head).widths ∙ ap (λ ws. if wide then Some ws else None) widths;
          };
      claim = subst (λ g. IsClaimOf g c.lines c.claim) same is.claim;
      lines = subst (λ n. AreCanonical n c.lines (references c.claim)) vars is.lines;
    }

node_certificate : (program : List Item) (n : Node) (m other : Machine) → IsMachineOf program n m → IsMachineOf program n other → (wide : Bool) (c d : Certificate) → IsTheCertificate m wide c → IsTheCertificate other wide d → c ≡ d
node_certificate program n m other of_m of_other wide c d is_c is_d =
    let same = node_machine program n m other of_m of_other in
    certificate_one other wide c d (moved m other is_d.form same.name same.widths same.one_game wide c is_c) is_d

pub node_text : NodeTextLaw
node_text program n text other a b =
    let x = a.certified in
    let y = b.certified in
    x.text_is ∙ ap cert_text (node_certificate program n a.machine b.machine a.is_machine b.is_machine (is_wide_contract n.contract) x.certificate y.certificate x.is_the y.is_the) ∙ sym y.text_is

pub node_long : NodeLongLaw
node_long program n text a long =
    let x = a.certified in
    let y = long.1.2 in
    let within = x.within in
    let longer = y.longer in
    let same : length text ≡ length (cert_text y.certificate) =
    ap (λ (t : List ℕ). length t) (x.text_is ∙ ap cert_text (node_certificate program n a.machine long.1.0 a.is_machine long.1.1 (is_wide_contract n.contract) x.certificate y.certificate x.is_the y.is_the)) in
    absurd (omega (arith, within, longer, same))

pub node_loss : NodeLossLaw
node_loss program n text other instants a b =
    let x = a.certified in
    let y = (b.shown).certified in
    x.text_is ∙ ap cert_text (node_certificate program n a.machine (b.forced).machine a.is_machine (b.forced).is_machine (is_wide_contract n.contract) x.certificate y.certificate x.is_the y.is_the) ∙ sym y.text_is
