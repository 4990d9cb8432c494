-- When a Boolean machine mirrors the contract of a node: its variables are the bits of what the node remembers and is given, and its gates say what the node's wires say.
-- Source: own. It speaks of one instant at each memory in shape, whether some history leaves that memory or not, so gates can be held against wires one by one.
use Rattle.std.specs.Prelude.{ℕ, ◌≡◌, ◌↔◌, Bool, true, false, IsTrue, if◌then◌else◌, List, [], ◌∷◌, ◌++◌, length, map, sum, replicate}
use Rattle.hp_base.specs.declared.value.Value.{Value}
use Rattle.hp_tree.specs.declared.program.Item.{Item}
use Rattle.hp_tree.specs.Programs.{TypeDecl, Node}
use Rattle.hp_tree.specs.Instant.{Inputs, Place, Instant, alone, in_row}
use Rattle.hp_tree.specs.Meaning.{types_of}
use Rattle.hp_tree.specs.Values.{IsOf}
use Rattle.hp_meaning.specs.Causal.Steering.{steered_by}
use Rattle.hp_boolx.specs.Search.{Bits}
use Rattle.hp_boolx.specs.Game.{joined}
use Rattle.hp_boolx.specs.Machine.{Machine, game}
use Rattle.hp_meaning.specs.Contract.Codes.{width, code}
use Rattle.hp_meaning.specs.Contract.FreePlaces.{IsFree, IsEarly}
use Rattle.hp_meaning.specs.Contract.Game.{Choice, IsChoiceOf, at_controls}
use Rattle.hp_meaning.specs.Contract.Memory.{bits, bits_in}
use Rattle.hp_meaning.specs.Contract.Slots.{Shape, truth, mark, cons, Slot, free, input, control, FreePlace, width_of, shape_of, slots_of_node, free_places, registers, zero_at}
use Rattle.law_games.specs.Wires.Wired.{Held, held}
use Rattle.law_games.specs.Wires.WiredNodes.{wired_node}
use Rattle.law_games.specs.Wires.WiredCallees.{callee_wires}
use Rattle.law_games.specs.Wires.Laws.{instant_of, memory_behind, is_called, hypothesis_on, duty_on}
use Rattle.law_games.specs.Wiretyped.Typed.{AreWires}
use Rattle.law_games.specs.Wiretyped.Laws.{WiresTyped, InShape, GivenFits}

-- ---- the variables of a machine, beside registers: places with their types, in the order of slots

-- what is known before the controllable variables are chosen: inputs, and those free places that are early
abbrev pub early_among : (Place → Bool) → List Slot → List FreePlace
early_among early [] = []
early_among early (input p t ∷ slots) = (p, t) ∷ early_among early slots
early_among early (free p t ∷ slots) = if early p then (p, t) ∷ early_among early slots else early_among early slots
early_among early (slot ∷ slots) = early_among early slots

abbrev pub controls_among : List Slot → List FreePlace
controls_among [] = []
controls_among (control p t ∷ slots) = (p, t) ∷ controls_among slots
controls_among (slot ∷ slots) = controls_among slots

-- all other free places
abbrev pub late_among : (Place → Bool) → List Slot → List FreePlace
late_among early [] = []
late_among early (free p t ∷ slots) = if early p then late_among early slots else (p, t) ∷ late_among early slots
late_among early (slot ∷ slots) = late_among early slots

-- ---- bits of values at some places

abbrev pub type_width : List TypeDecl → FreePlace → ℕ
type_width types p = width_of (shape_of types p.1)

abbrev pub widths_at : List TypeDecl → List FreePlace → List ℕ
widths_at types ps = map (type_width types) ps

-- the codes of what is given there
abbrev pub codes_at : List TypeDecl → List FreePlace → Instant → Bits
codes_at types [] given = []
codes_at types (p ∷ ps) given = code types p.1 (given p.0) ++ codes_at types ps given

-- The bits are codes of values, one for each place, of its type.
abbrev pub AreCodes : List TypeDecl → List FreePlace → Bits → Type 0
AreCodes types [] bs = bs ≡ []
AreCodes types (p ∷ ps) bs = (v : Value) × (rest : Bits) × IsOf types p.1 v × (bs ≡ code types p.1 v ++ rest) × AreCodes types ps rest

-- what is preferred of each bit: true of a truth value, and of a constructor the code of the first one
abbrev pub preferred_bits : Shape → Bits
preferred_bits truth = true ∷ []
preferred_bits mark = []
preferred_bits (cons t many) = replicate (width many) false

abbrev pub preferred_at : List TypeDecl → List FreePlace → Bits
preferred_at types [] = []
preferred_at types (p ∷ ps) = preferred_bits (shape_of types p.1) ++ preferred_at types ps

-- ---- one instant of a node

-- all that is given, by places: inputs, free places and controllable variables
abbrev pub given_with : List Value → Instant → Choice → Instant
given_with inputs others c (Inputs ∷ p) = in_row (map alone inputs) p
given_with inputs others c p = steered_by others (at_controls c) p

-- What the wires of a node are read with: registers hold zeros at the start. Items stand with the last one first: those behind the node are the ones that it may call.
abbrev pub read_with : List Item → Node → Instant → Instant → Choice → Held
read_with program n memory others c = held (zero_at (registers program n)) memory (steered_by others (at_controls c))

-- The wires of a node, typed, as those of accepted programs are: they solve its circuits, where its memory is in shape, and inputs, choice and all other given values are of their types.
pub record AreWiresOf (program earlier : List Item) (n : Node) (memory : Instant) (inputs : List Value) (others : Instant) (c : Choice) (now : Instant) : Type 0 where
  pub shape : InShape (types_of program) earlier n (zero_at (registers program n)) memory
  pub values : AreWires (types_of program) n.inputs inputs
  pub choice : IsChoiceOf program n c
  pub given : GivenFits (types_of program) earlier n (steered_by others (at_controls c))
  pub typed : WiresTyped (types_of program) earlier n now
  pub solves : now ≡ wired_node (types_of program) (callee_wires (types_of program) earlier) n inputs (read_with program n memory others c) now

-- the variables of a machine: the bits of a memory, and the codes of what is given
abbrev pub valuation : List Item → Node → (Place → Bool) → Instant → Instant → Bits
valuation program n early memory given =
    joined (bits_in (registers program n) memory)
    (codes_at (types_of program) (early_among early (slots_of_node program n)) given)
    (codes_at (types_of program) (controls_among (slots_of_node program n)) given)
    (codes_at (types_of program) (late_among early (slots_of_node program n)) given)

-- ---- the mirror

-- A machine mirrors a node of a program: it has the bits of the node's registers, of what is given early, of its controllable variables and of what is given late.
-- A valuation is valid exactly where it is made of codes of values; at the codes of a memory and of given values the gates say what the wires say.
pub record Mirrors (program earlier : List Item) (n : Node) (m : Machine) : Type 0 where
  -- which free places come before the choice: exactly those that read no controllable variable; what is told of other places is not looked at
  pub is_early : Place → Bool
  pub early_places : (p : Place) → IsFree (free_places program n) p → IsTrue (is_early p) ↔ IsEarly program n p
  -- variables
  pub registers_are : m.registers ≡ sum (map (λ r. width_of r.1) (registers program n))
  pub early_are : m.early ≡ sum (widths_at (types_of program) (early_among is_early (slots_of_node program n)))
  pub control_are : m.control ≡ sum m.widths
  pub late_are : m.late ≡ sum (widths_at (types_of program) (late_among is_early (slots_of_node program n)))
  pub widths : m.widths ≡ widths_at (types_of program) (controls_among (slots_of_node program n))
  pub prefer : m.prefer ≡ preferred_at (types_of program) (controls_among (slots_of_node program n))
  pub init : m.init ≡ bits program n []
  -- valid valuations; what registers hold is not asked
  pub valid :
      (r u c w : Bits) → length r ≡ m.registers → length u ≡ m.early → length c ≡ m.control → length w ≡ m.late
      → IsTrue ((game m).valid (joined r u c w))
      ↔ (AreCodes (types_of program) (early_among is_early (slots_of_node program n)) u
      × AreCodes (types_of program) (controls_among (slots_of_node program n)) c
      × AreCodes (types_of program) (late_among is_early (slots_of_node program n)) w)
  -- At the codes of a memory and of what is given, whose wires these are, the next registers are the bits of the memory behind them; the hypothesis and the duty are theirs.
  pub next :
      (memory : Instant) (inputs : List Value) (others : Instant) (c : Choice) (now : Instant) → AreWiresOf program earlier n memory inputs others c now
      → (game m).next (valuation program n is_early memory (given_with inputs others c)) ≡ bits_in (registers program n) (memory_behind (types_of program) earlier n inputs (read_with program n memory others c) now)
  pub hypothesis :
      (memory : Instant) (inputs : List Value) (others : Instant) (c : Choice) (now : Instant) → AreWiresOf program earlier n memory inputs others c now
      → (game m).hyp (valuation program n is_early memory (given_with inputs others c)) ≡ hypothesis_on (is_called (instant_of (types_of program) earlier n inputs (read_with program n memory others c) now)) n now
  pub duty :
      (memory : Instant) (inputs : List Value) (others : Instant) (c : Choice) (now : Instant) → AreWiresOf program earlier n memory inputs others c now
      → (game m).duty (valuation program n is_early memory (given_with inputs others c)) ≡ duty_on (is_called (instant_of (types_of program) earlier n inputs (read_with program n memory others c) now)) n now
