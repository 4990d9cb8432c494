-- The machine of a circuit that carries a node mirrors it.
use Rattle.std.specs.List.{fold}
use Rattle.std.proofs.Common.{◌≡◌, ℕ, ◌+◌, Bool, true, false, if◌then◌else◌, List, [], ◌∷◌, ◌++◌, map, sum, replicate, slice_index_or, refl, sym, ap, ap₂, ◌∙◌, arith}
use Rattle.hp_base.specs.declared.ty.Ty.{Ty}
use Rattle.hp_base.specs.declared.value.Value.{Value}
use Rattle.hp_tree.specs.declared.program.Item.{Item}
use Rattle.hp_tree.specs.Instant.{Place, Instant}
use Rattle.hp_tree.specs.Meaning.{types_of}
use Rattle.hp_tree.specs.Programs.{TypeDecl, Node}
use Rattle.hp_boolx.specs.Machine.{Machine}
use Rattle.hp_circuit.specs.declared.circuit.Circuit.{Circuit}
use Rattle.hp_circuit.specs.declared.circuit.Role.{Role}
use Rattle.hp_circuit.specs.declared.circuit.Role.TheVariants as role
use Rattle.hp_circuit.specs.declared.circuit.Shape.{Shape}
use Rattle.hp_circuit.specs.declared.circuit.Slot.{Slot}
use Rattle.hp_circuit.specs.declared.kind.Kind.{Kind}
use Rattle.hp_circuit.specs.declared.kind.Kind.TheVariants.{Registers, Early, Control, Late}
use Rattle.hp_circuit.specs.Kinds.{kind_of, role_kind, own, bits_of}
use Rattle.hp_circuit.specs.Machines.{IsMachineOf, joined, role_widths, role_prefer, role_init, slot_widths, slot_prefer, slot_init, is_truth}
use Rattle.hp_circuit.specs.Numbers as circuit
use Rattle.hp_circuit.specs.Shapes.{shape_width}
use Rattle.hp_meaning.specs.Contract.Codes.{width, to_bits}
use Rattle.hp_meaning.specs.Contract.Memory.{number_in, bits_in, memory}
use Rattle.hp_meaning.specs.Contract.Slots as slots
use Rattle.hp_meaning.specs.Contract.Slots.{register, free, input, control, width_of, shape_of, slots_of_node, free_places, registers_among}
use Rattle.hp_meaning.specs.Contract.Game.{Choice}
use Rattle.law_games.specs.Mirror.Mirrored.{given_with, AreWiresOf, widths_at, preferred_bits, preferred_at, early_among, controls_among, late_among}
use Rattle.law_drawing.specs.Mirroring.Codes.{free_kind, AreSlotsOf}
use Rattle.hp_drawing.specs.Slotted.Slotted.{shape_as}
use Rattle.law_drawing.specs.Mirroring.Gates.{IsSaid}
use Rattle.law_drawing.specs.Mirroring.Carried.{IsBegun, AreBegun, supposed_at, owed_at, next_memory, Carries, CarriedLaw}
use Rattle.law_drawing.proofs.MirroringLemmas.Same.{width-same, to_bits-same}
use Rattle.law_drawing.proofs.MirroringLemmas.Gates.{said, valid_at}

-- ---- widths of shapes

width-as : (s : slots.Shape) → shape_width (shape_as s) ≡ width_of s
width-as slots.truth = refl
width-as slots.mark = refl
width-as (slots.cons t m) = width-same m

preferred-as : (s : slots.Shape) → replicate (shape_width (shape_as s)) (is_truth (shape_as s)) ≡ preferred_bits s
preferred-as slots.truth = refl
preferred-as slots.mark = refl
preferred-as (slots.cons t m) = ap (λ w. replicate w false) (width-same m)

-- ---- sums

fold-from : (a : ℕ) (ws : List ℕ) → fold (λ x y. x + y) a ws ≡ a + fold (λ x y. x + y) 0 ws
fold-from a [] = omega arith
fold-from a (w ∷ ws) = let one = fold-from (a + w) ws in let two = fold-from (0 + w) ws in omega (arith, one, two)

sum-more : (w : ℕ) (ws : List ℕ) → w + sum ws ≡ sum (w ∷ ws)
sum-more w ws = let more = fold-from (0 + w) ws in omega (arith, more)

no-more : (k : ℕ) → 0 + k ≡ k
no-more k = omega arith

-- ---- kinds of slots, by their roles

-- what the slots of a kind have no part in
abbrev IsOther : Kind → Kind → Type 0
IsOther this kind = this ≡ kind → ⊥

early-no-control : IsOther Early Control
early-no-control e = cc

registers-no-control : IsOther Registers Control
registers-no-control e = cc

free-no : (kind : Kind) → IsOther Early kind → IsOther Late kind → (d : Bool) → IsOther (if d then Early else Late) kind
free-no kind a b true = a
free-no kind a b false = b

late-no-control : IsOther Late Control
late-no-control e = cc

late-no-registers : IsOther Late Registers
late-no-registers e = cc

early-no-registers : IsOther Early Registers
early-no-registers e = cc

control-no-registers : IsOther Control Registers
control-no-registers e = cc

-- a slot of another kind than a controllable variable has no control bits
no-widths : (r : Role) (d : Bool) (s : Shape) (kind : Kind) → role_kind r d ≡ kind → IsOther kind Control → role_widths r s ≡ []
no-widths (role.Register first next) d s kind e other = refl
no-widths role.Input d s kind e other = refl
no-widths role.Control d s kind e other = absurd (other (sym e))
no-widths (role.Free early) d s kind e other = refl

no-prefer : (r : Role) (d : Bool) (s : Shape) (kind : Kind) → role_kind r d ≡ kind → IsOther kind Control → role_prefer r s ≡ []
no-prefer (role.Register first next) d s kind e other = refl
no-prefer role.Input d s kind e other = refl
no-prefer role.Control d s kind e other = absurd (other (sym e))
no-prefer (role.Free early) d s kind e other = refl

no-init : (r : Role) (d : Bool) (s : Shape) (kind : Kind) → role_kind r d ≡ kind → IsOther kind Registers → role_init r s ≡ []
no-init (role.Register first next) d s kind e other = absurd (other (sym e))
no-init role.Input d s kind e other = refl
no-init role.Control d s kind e other = refl
no-init (role.Free early) d s kind e other = refl

free-kinds : (d e : Bool) → role_kind (role.Free d) e ≡ Control → ⊥
free-kinds false e h = cc
free-kinds true false h = cc
free-kinds true true h = cc

control-widths : (r : Role) (d : Bool) (s : Shape) → role_kind r d ≡ Control → role_widths r s ≡ shape_width s ∷ []
control-widths (role.Register first next) d s e = absurd (cc)
control-widths role.Input d s e = absurd (cc)
control-widths role.Control d s e = refl
control-widths (role.Free early) d s e = absurd (free-kinds early d e)

control-prefer : (r : Role) (d : Bool) (s : Shape) → role_kind r d ≡ Control → role_prefer r s ≡ replicate (shape_width s) (is_truth s)
control-prefer (role.Register first next) d s e = absurd (cc)
control-prefer role.Input d s e = absurd (cc)
control-prefer role.Control d s e = refl
control-prefer (role.Free early) d s e = absurd (free-kinds early d e)

begun-init : (k : ℕ) (r : Role) (s : Shape) → IsBegun k r → role_init r s ≡ circuit.to_bits (shape_width s) k
begun-init k (role.Register first next) s e = ap (circuit.to_bits (shape_width s)) e
begun-init k role.Input s e = absurd e
begun-init k role.Control s e = absurd e
begun-init k (role.Free early) s e = absurd e

module _ (types : List TypeDecl) (early : Place → Bool) (steered : List Bool) where
  abbrev flag : Slot → Bool
  flag c = slice_index_or steered c.wire false

  free-other : (kind : Kind) → IsOther Early kind → IsOther Late kind → (p : Place) → IsOther (free_kind types early p) kind
  free-other kind a b p = free-no kind a b (early p)

  -- ---- the bits of a kind, together

  own-bits : (kind this : Kind) (c : Slot) (w : ℕ) → kind_of steered c ≡ this → shape_width c.shape ≡ w → own kind (kind_of steered c) (shape_width c.shape) ≡ own kind this w
  own-bits kind this c w e h = λ j. own kind (e j) (h j)

  abbrev many : Kind → List slots.Slot → ℕ
  many Registers ss = sum (map (λ r. width_of r.1) (registers_among ss))
  many Early ss = sum (widths_at types (early_among early ss))
  many Control ss = sum (widths_at types (controls_among ss))
  many Late ss = sum (widths_at types (late_among early ss))

  register-counts : (kind : Kind) (p : Place) (s : slots.Shape) (ss : List slots.Slot) → own kind Registers (width_of s) + many kind ss ≡ many kind (register p s ∷ ss)
  register-counts Registers p s ss = sum-more (width_of s) (map (λ r. width_of r.1) (registers_among ss))
  register-counts Early p s ss = no-more (many Early ss)
  register-counts Control p s ss = no-more (many Control ss)
  register-counts Late p s ss = no-more (many Late ss)

  input-counts : (kind : Kind) (p : Place) (t : Ty) (ss : List slots.Slot) → own kind Early (width_of (shape_of types t)) + many kind ss ≡ many kind (input p t ∷ ss)
  input-counts Registers p t ss = no-more (many Registers ss)
  input-counts Early p t ss = sum-more (width_of (shape_of types t)) (widths_at types (early_among early ss))
  input-counts Control p t ss = no-more (many Control ss)
  input-counts Late p t ss = no-more (many Late ss)

  control-counts : (kind : Kind) (p : Place) (t : Ty) (ss : List slots.Slot) → own kind Control (width_of (shape_of types t)) + many kind ss ≡ many kind (control p t ∷ ss)
  control-counts Registers p t ss = no-more (many Registers ss)
  control-counts Early p t ss = no-more (many Early ss)
  control-counts Control p t ss = sum-more (width_of (shape_of types t)) (widths_at types (controls_among ss))
  control-counts Late p t ss = no-more (many Late ss)

  free-by : (kind : Kind) (d : Bool) (p : Place) (t : Ty) (ss : List slots.Slot) → early p ≡ d → own kind (if d then Early else Late) (width_of (shape_of types t)) + many kind ss ≡ many kind (free p t ∷ ss)
  free-by Registers true p t ss e = no-more (many Registers ss)
  free-by Registers false p t ss e = no-more (many Registers ss)
  free-by Early true p t ss e = sum-more (width_of (shape_of types t)) (widths_at types (early_among early ss)) ∙ ap (λ d. sum (widths_at types (if d then (p, t) ∷ early_among early ss else early_among early ss))) (sym e)
  free-by Early false p t ss e = no-more (many Early ss) ∙ ap (λ d. sum (widths_at types (if d then (p, t) ∷ early_among early ss else early_among early ss))) (sym e)
  free-by Control true p t ss e = no-more (many Control ss)
  free-by Control false p t ss e = no-more (many Control ss)
  free-by Late true p t ss e = no-more (many Late ss) ∙ ap (λ d. sum (widths_at types (if d then late_among early ss else (p, t) ∷ late_among early ss))) (sym e)
  free-by Late false p t ss e = sum-more (width_of (shape_of types t)) (widths_at types (late_among early ss)) ∙ ap (λ d. sum (widths_at types (if d then late_among early ss else (p, t) ∷ late_among early ss))) (sym e)

  none : (kind : Kind) → 0 ≡ many kind []
  none Registers = refl
  none Early = refl
  none Control = refl
  none Late = refl

  mark-counts : (kind : Kind) (p : Place) (ss : List slots.Slot) → many kind ss ≡ many kind (register p slots.mark ∷ ss)
  mark-counts Registers p ss = refl
  mark-counts Early p ss = refl
  mark-counts Control p ss = refl
  mark-counts Late p ss = refl

  pub counts : (kind : Kind) (ss : List slots.Slot) (cs : List Slot) → AreSlotsOf types early steered ss cs → bits_of steered kind cs ≡ many kind ss
  counts kind [] [] h = none kind
  counts kind [] (c ∷ cs) h = absurd (cc)
  counts kind (register p slots.truth ∷ ss) [] h = absurd h
  counts kind (register p slots.truth ∷ ss) (c ∷ cs) h =
      ap₂ (λ a b. a + b) (own-bits kind Registers c 1 h.0.0 (ap shape_width h.0.1)) (counts kind ss cs h.1) ∙ register-counts kind p slots.truth ss
  counts kind (register p slots.mark ∷ ss) cs h = counts kind ss cs h ∙ mark-counts kind p ss
  counts kind (register p (slots.cons t m) ∷ ss) [] h = absurd h
  counts kind (register p (slots.cons t m) ∷ ss) (c ∷ cs) h =
      ap₂ (λ a b. a + b) (own-bits kind Registers c (width m) h.0.0 (ap shape_width h.0.1 ∙ width-same m)) (counts kind ss cs h.1) ∙ register-counts kind p (slots.cons t m) ss
  counts kind (free p t ∷ ss) [] h = absurd h
  counts kind (free p t ∷ ss) (c ∷ cs) h =
      ap₂ (λ a b. a + b) (own-bits kind (free_kind types early p) c (width_of (shape_of types t)) h.0.0 (ap shape_width h.0.1 ∙ width-as (shape_of types t))) (counts kind ss cs h.1)
      ∙ free-by kind (early p) p t ss refl
  counts kind (input p t ∷ ss) [] h = absurd h
  counts kind (input p t ∷ ss) (c ∷ cs) h =
      ap₂ (λ a b. a + b) (own-bits kind Early c (width_of (shape_of types t)) h.0.0 (ap shape_width h.0.1 ∙ width-as (shape_of types t))) (counts kind ss cs h.1) ∙ input-counts kind p t ss
  counts kind (control p t ∷ ss) [] h = absurd h
  counts kind (control p t ∷ ss) (c ∷ cs) h =
      ap₂ (λ a b. a + b) (own-bits kind Control c (width_of (shape_of types t)) h.0.0 (ap shape_width h.0.1 ∙ width-as (shape_of types t))) (counts kind ss cs h.1) ∙ control-counts kind p t ss

  -- ---- controllable variables

  pub widths : (ss : List slots.Slot) (cs : List Slot) → AreSlotsOf types early steered ss cs → joined slot_widths cs ≡ widths_at types (controls_among ss)
  widths [] [] h = refl
  widths [] (c ∷ cs) h = absurd (cc)
  widths (register p slots.truth ∷ ss) [] h = absurd h
  widths (register p slots.truth ∷ ss) (c ∷ cs) h = ap₂ (λ a b. a ++ b) (no-widths c.role (flag c) c.shape Registers h.0.0 registers-no-control) (widths ss cs h.1)
  widths (register p slots.mark ∷ ss) cs h = widths ss cs h
  widths (register p (slots.cons t m) ∷ ss) [] h = absurd h
  widths (register p (slots.cons t m) ∷ ss) (c ∷ cs) h = ap₂ (λ a b. a ++ b) (no-widths c.role (flag c) c.shape Registers h.0.0 registers-no-control) (widths ss cs h.1)
  widths (free p t ∷ ss) [] h = absurd h
  widths (free p t ∷ ss) (c ∷ cs) h =
      ap₂ (λ a b. a ++ b) (no-widths c.role (flag c) c.shape (free_kind types early p) h.0.0 (free-other Control early-no-control late-no-control p)) (widths ss cs h.1)
  widths (input p t ∷ ss) [] h = absurd h
  widths (input p t ∷ ss) (c ∷ cs) h = ap₂ (λ a b. a ++ b) (no-widths c.role (flag c) c.shape Early h.0.0 early-no-control) (widths ss cs h.1)
  widths (control p t ∷ ss) [] h = absurd h
  widths (control p t ∷ ss) (c ∷ cs) h =
      ap₂ (λ a b. a ++ b) (control-widths c.role (flag c) c.shape h.0.0 ∙ ap (λ w. w ∷ []) (ap shape_width h.0.1 ∙ width-as (shape_of types t))) (widths ss cs h.1)

  preferred-shape : (c : Slot) (s : slots.Shape) → c.shape ≡ shape_as s → replicate (shape_width c.shape) (is_truth c.shape) ≡ preferred_bits s
  preferred-shape c s e = ap (λ p. replicate (shape_width p) (is_truth p)) e ∙ preferred-as s

  pub prefers : (ss : List slots.Slot) (cs : List Slot) → AreSlotsOf types early steered ss cs → joined slot_prefer cs ≡ preferred_at types (controls_among ss)
  prefers [] [] h = refl
  prefers [] (c ∷ cs) h = absurd (cc)
  prefers (register p slots.truth ∷ ss) [] h = absurd h
  prefers (register p slots.truth ∷ ss) (c ∷ cs) h = ap₂ (λ a b. a ++ b) (no-prefer c.role (flag c) c.shape Registers h.0.0 registers-no-control) (prefers ss cs h.1)
  prefers (register p slots.mark ∷ ss) cs h = prefers ss cs h
  prefers (register p (slots.cons t m) ∷ ss) [] h = absurd h
  prefers (register p (slots.cons t m) ∷ ss) (c ∷ cs) h = ap₂ (λ a b. a ++ b) (no-prefer c.role (flag c) c.shape Registers h.0.0 registers-no-control) (prefers ss cs h.1)
  prefers (free p t ∷ ss) [] h = absurd h
  prefers (free p t ∷ ss) (c ∷ cs) h =
      ap₂ (λ a b. a ++ b) (no-prefer c.role (flag c) c.shape (free_kind types early p) h.0.0 (free-other Control early-no-control late-no-control p)) (prefers ss cs h.1)
  prefers (input p t ∷ ss) [] h = absurd h
  prefers (input p t ∷ ss) (c ∷ cs) h = ap₂ (λ a b. a ++ b) (no-prefer c.role (flag c) c.shape Early h.0.0 early-no-control) (prefers ss cs h.1)
  prefers (control p t ∷ ss) [] h = absurd h
  prefers (control p t ∷ ss) (c ∷ cs) h =
      ap₂ (λ a b. a ++ b) (control-prefer c.role (flag c) c.shape h.0.0 ∙ preferred-shape c (shape_of types t) h.0.1) (prefers ss cs h.1)

  -- ---- what registers hold at first

  begun-bits : (c : Slot) (s : slots.Shape) (k : ℕ) → c.shape ≡ shape_as s → IsBegun k c.role → slot_init c ≡ to_bits (width_of s) k
  begun-bits c s k e begun = begun-init k c.role c.shape begun ∙ ap (λ w. circuit.to_bits w k) (ap shape_width e ∙ width-as s) ∙ to_bits-same (width_of s) k

  pub firsts : (first : Instant) (ss : List slots.Slot) (cs : List Slot) → AreSlotsOf types early steered ss cs → AreBegun first ss cs → joined slot_init cs ≡ bits_in (registers_among ss) first
  firsts first [] [] h begun = refl
  firsts first [] (c ∷ cs) h begun = absurd (cc)
  firsts first (register p slots.truth ∷ ss) [] h begun = absurd h
  firsts first (register p slots.truth ∷ ss) (c ∷ cs) h begun = ap₂ (λ a b. a ++ b) (begun-bits c slots.truth (number_in (first p)) h.0.1 begun.0) (firsts first ss cs h.1 begun.1)
  firsts first (register p slots.mark ∷ ss) cs h begun = firsts first ss cs h begun
  firsts first (register p (slots.cons t m) ∷ ss) [] h begun = absurd h
  firsts first (register p (slots.cons t m) ∷ ss) (c ∷ cs) h begun =
      ap₂ (λ a b. a ++ b) (begun-bits c (slots.cons t m) (number_in (first p)) h.0.1 begun.0) (firsts first ss cs h.1 begun.1)
  firsts first (free p t ∷ ss) [] h begun = absurd h
  firsts first (free p t ∷ ss) (c ∷ cs) h begun =
      ap₂ (λ a b. a ++ b) (no-init c.role (flag c) c.shape (free_kind types early p) h.0.0 (free-other Registers early-no-registers late-no-registers p)) (firsts first ss cs h.1 begun.1)
  firsts first (input p t ∷ ss) [] h begun = absurd h
  firsts first (input p t ∷ ss) (c ∷ cs) h begun = ap₂ (λ a b. a ++ b) (no-init c.role (flag c) c.shape Early h.0.0 early-no-registers) (firsts first ss cs h.1 begun.1)
  firsts first (control p t ∷ ss) [] h begun = absurd h
  firsts first (control p t ∷ ss) (c ∷ cs) h begun = ap₂ (λ a b. a ++ b) (no-init c.role (flag c) c.shape Control h.0.0 control-no-registers) (firsts first ss cs h.1 begun.1)

-- ---- the mirror

module _ (name : List ℕ) (c : Circuit) (m : Machine) (made : IsMachineOf name c m) (program earlier : List Item) (n : Node) (early : Place → Bool) (carries : Carries program earlier n c made.steered early) where
  said_at :
      (mem : Instant) (inputs : List Value) (others : Instant) (choice : Choice) (now : Instant) → AreWiresOf program earlier n mem inputs others choice now
      → IsSaid (types_of program) early (slots_of_node program n) m mem (given_with inputs others choice) (next_memory program earlier n mem inputs others choice now)
      (supposed_at program earlier n mem inputs others choice now) (owed_at program earlier n mem inputs others choice now)
  said_at mem inputs others choice now are =
      said name c m made (types_of program) early (slots_of_node program n) carries.slots mem (given_with inputs others choice) (next_memory program earlier n mem inputs others choice now)
      (supposed_at program earlier n mem inputs others choice now) (owed_at program earlier n mem inputs others choice now) (carries.solved mem inputs others choice now are)

pub carried : CarriedLaw
carried name c m made program earlier n early numbered exact carries =
    let types = types_of program in
    let ss = slots_of_node program n in
    let wide : m.widths ≡ widths_at types (controls_among ss) = made.widths ∙ widths types early made.steered ss c.slots.items carries.slots in
    record {
      is_early = early;
      early_places = exact;
      registers_are = made.many_registers ∙ counts types early made.steered Registers ss c.slots.items carries.slots;
      early_are = made.many_early ∙ counts types early made.steered Early ss c.slots.items carries.slots;
      control_are = made.many_control ∙ counts types early made.steered Control ss c.slots.items carries.slots ∙ ap sum (sym wide);
      late_are = made.many_late ∙ counts types early made.steered Late ss c.slots.items carries.slots;
      widths = wide;
      prefer = made.prefer ∙ prefers types early made.steered ss c.slots.items carries.slots;
      init = made.init ∙ firsts types early made.steered (memory program n []) ss c.slots.items carries.slots carries.begun;
      valid = valid_at name c m made types early ss carries.slots numbered;
      next = λ mem inputs others choice now are. (said_at name c m made program earlier n early carries mem inputs others choice now are).next_is;
      hypothesis = λ mem inputs others choice now are. (said_at name c m made program earlier n early carries mem inputs others choice now are).hyp_is;
      duty = λ mem inputs others choice now are. (said_at name c m made program earlier n early carries mem inputs others choice now are).duty_is;
    }
