-- What may be chosen at a memory of a node, and that it is what a machine that mirrors the node may choose.
-- Source: own, as the choices after a history.
use Rattle.std.specs.Prelude.{◌≡◌, ◌↔◌, IsTrue, List, [], length}
use Rattle.hp_base.specs.declared.value.Value.{Value}
use Rattle.hp_tree.specs.declared.program.Item.{Item}
use Rattle.hp_tree.specs.Programs.{Node}
use Rattle.hp_tree.specs.Instant.{Instant, nothing}
use Rattle.hp_tree.specs.Meaning.{types_of, controls_of}
use Rattle.hp_boolx.specs.Search.{Bits}
use Rattle.hp_boolx.specs.Game.{IsForm, Before, Permitted as PermittedOn}
use Rattle.hp_boolx.specs.Machine.{Machine, game}
use Rattle.hp_boolx.specs.Solved.{IsChoice}
use Rattle.hp_meaning.specs.Contract.Game.{Choice, IsChoiceOf, AtMost, preferred}
use Rattle.hp_meaning.specs.Contract.Memory.{bits_in}
use Rattle.hp_meaning.specs.Contract.Slots.{slots_of_node, registers, zero_at}
use Rattle.law_values.specs.Valued.Values.{Classing}
use Rattle.law_games.specs.Wiretyped.Typed.{AreWires}
use Rattle.law_games.specs.Wiretyped.Laws.{InShape}
use Rattle.law_games.specs.Mirror.Mirrored.{early_among, controls_among, codes_at, given_with, Mirrors}
use Rattle.law_games.specs.Mirror.Memories.{SlotsFit, IsInstant, supposes, owes, leaves, SafeFrom, IsSettled}

-- Whatever the late values are, where the hypothesis holds the duty holds too, and nothing is forced afterwards.
abbrev pub PermittedFrom : List Item → List Item → Node → Instant → List Value → Instant → Choice → Type 0
PermittedFrom program earlier n memory inputs early c =
    (others now : Instant) → IsInstant program earlier n memory inputs early c others now → IsTrue (supposes program earlier n memory inputs c others now)
    → IsTrue (owes program earlier n memory inputs c others now) × SafeFrom program earlier n (leaves program earlier n memory inputs c others now)

-- the greatest permitted choice; where none is permitted, the preferred value of each variable
pub record IsChosenFrom (program earlier : List Item) (n : Node) (memory : Instant) (inputs : List Value) (early : Instant) (c : Choice) : Type 0 where
  pub greatest : (d : Choice) → IsChoiceOf program n d → PermittedFrom program earlier n memory inputs early d → PermittedFrom program earlier n memory inputs early c × AtMost (types_of program) (controls_of n.contract) d c
  pub else_preferred : ((d : Choice) → IsChoiceOf program n d → PermittedFrom program earlier n memory inputs early d → ⊥) → c ≡ preferred program n

-- the bits of a choice, and those of inputs and early values
abbrev pub choice_bits : List Item → Node → Choice → Bits
choice_bits program n c = codes_at (types_of program) (controls_among (slots_of_node program n)) (given_with [] nothing c)

-- What is preferred of bits is what is preferred of choices, each of which has bits of its own.
pub record BitsInOrder (program : List Item) (n : Node) (prefer : Bits) : Type 0 where
  pub first : prefer ≡ choice_bits program n (preferred program n)
  pub own : (c d : Choice) → IsChoiceOf program n c → IsChoiceOf program n d → choice_bits program n c ≡ choice_bits program n d → c ≡ d
  pub order : (c d : Choice) → IsChoiceOf program n c → IsChoiceOf program n d → AtMost (types_of program) (controls_of n.contract) d c ↔ Before prefer (choice_bits program n c) (choice_bits program n d)

-- ---- the laws, where early values are of their types

-- A choice is permitted at a memory exactly where its bits are.
abbrev pub SameMemoryPermittedLaw : Type 0
SameMemoryPermittedLaw =
    (program : List Item) (class : Classing) (earlier : List Item) (n : Node) (m : Machine) → IsSettled program class earlier n → (M : Mirrors program earlier n m)
    → (memory : Instant) (inputs : List Value) (early : Instant) (c : Choice) → InShape (types_of program) earlier n (zero_at (registers program n)) memory → AreWires (types_of program) n.inputs inputs
    → SlotsFit (types_of program) (slots_of_node program n) (given_with inputs early c) → IsChoiceOf program n c
    → PermittedFrom program earlier n memory inputs early c
    ↔ PermittedOn (game m) (bits_in (registers program n) memory) (codes_at (types_of program) (early_among M.is_early (slots_of_node program n)) (given_with inputs early c)) (choice_bits program n c)

-- So the choice of the machine is the greatest permitted one.
abbrev pub SameMemoryChoiceLaw : Type 0
SameMemoryChoiceLaw =
    (program : List Item) (class : Classing) (earlier : List Item) (n : Node) (m : Machine) → IsSettled program class earlier n → (M : Mirrors program earlier n m) → BitsInOrder program n m.prefer → length m.prefer ≡ m.control
    → (memory : Instant) (inputs : List Value) (early : Instant) (c : Choice) → InShape (types_of program) earlier n (zero_at (registers program n)) memory → AreWires (types_of program) n.inputs inputs
    → ((d : Choice) → SlotsFit (types_of program) (slots_of_node program n) (given_with inputs early d)) → IsChoiceOf program n c
    → IsChosenFrom program earlier n memory inputs early c
    ↔ IsChoice (game m) (bits_in (registers program n) memory) (codes_at (types_of program) (early_among M.is_early (slots_of_node program n)) (given_with inputs early c)) (choice_bits program n c)

-- From a memory from which nothing is ever forced some choice is permitted.
abbrev pub SomeMemoryChoiceLaw : Type 0
SomeMemoryChoiceLaw =
    (program : List Item) (class : Classing) (earlier : List Item) (n : Node) (m : Machine) → IsForm (game m) → IsSettled program class earlier n → Mirrors program earlier n m
    → (memory : Instant) (inputs : List Value) (early : Instant) → InShape (types_of program) earlier n (zero_at (registers program n)) memory
    → ((d : Choice) → SlotsFit (types_of program) (slots_of_node program n) (given_with inputs early d)) → SafeFrom program earlier n memory
    → (c : Choice) × IsChoiceOf program n c × PermittedFrom program earlier n memory inputs early c
