-- When a Boolean machine follows the histories of a node's abstraction, and that its game is then the game of the contract.
-- Source: own. Histories are those that are built instant by instant; the registers of the machine are the bits of what a history leaves in memory.
use Rattle.std.specs.Prelude.{ℕ, ◌≡◌, ◌↔◌, ⊤, IsTrue, All, List, [], ◌∷◌, length}
use Rattle.hp_base.specs.declared.value.Value.{Value}
use Rattle.hp_tree.specs.declared.program.Item.{Item}
use Rattle.hp_tree.specs.Programs.{Node}
use Rattle.hp_tree.specs.Instant.{Place, Instant, Past}
use Rattle.hp_tree.specs.Meaning.{types_of, controls_of}
use Rattle.hp_meaning.specs.Causal.Abstract.{abstract_meaning}
use Rattle.hp_meaning.specs.Causal.Causality.{IsRanked}
use Rattle.hp_meaning.specs.Causal.Steering.{steered_by}
use Rattle.hp_boolx.specs.Search.{Bits}
use Rattle.hp_boolx.specs.Game.{Game, joined, Before, Forced as ForcedOn, Safe as SafeOn, Permitted as PermittedOn}
use Rattle.hp_boolx.specs.Solved.{IsChoice}
use Rattle.hp_boolx.specs.Machine.{Machine, game}
use Rattle.hp_meaning.specs.Contract.FreePlaces.{IsEarly, IsAbstractOf, Fits, InputsFit}
use Rattle.hp_meaning.specs.Contract.Duties.{hypothesis, duty}
use Rattle.hp_meaning.specs.Contract.Game.{Choice, IsChoiceOf, at_controls, IsNext, Forced, Safe, Permitted, AtMost, preferred, IsChosen}
use Rattle.hp_meaning.specs.Contract.Memory.{bits}
use Rattle.hp_meaning.specs.Contract.Slots.{free_places}

-- a history of abstract instants, each of which comes after those before it
abbrev pub Built : List Item → Node → Past → Type 0
Built program n [] = ⊤
Built program n (now ∷ history) =
    Built program n history
    × ((inputs : List Value) × (early : Instant) × (c : Choice) × InputsFit (types_of program) n.inputs inputs × IsChoiceOf program n c × IsNext program n history inputs early c now)

-- the instant after a history with these inputs, this choice and all other given values
abbrev pub Comes : List Item → Node → Past → List Value → Instant → Choice → Instant → Type 0
Comes program n history inputs free c now = (p : Place) → now p ≡ abstract_meaning program n.name inputs (record { past = history; free = steered_by free (at_controls c) }) now p

-- The early values of a node are of their types.
abbrev pub EarlyFits : List Item → Node → Instant → Type 0
EarlyFits program n early = All (λ q. IsEarly program n q.0 → IsAbstractOf (types_of program) q.1 (early q.0)) (free_places program n)

-- The bits of what is given: of inputs and early values, of a choice, and of late values. Also what is no value of its type has some bits.
pub record Coding : Type 0 where
  pub early : List Value → Instant → Bits
  pub control : Choice → Bits
  pub late : Instant → Bits

-- a valid valuation of a machine
pub record IsValid (g : Game) (r u c w : Bits) : Type 0 where
  pub early : length u ≡ g.early
  pub control : length c ≡ g.control
  pub late : length w ≡ g.late
  pub codes : IsTrue (g.valid (joined r u c w))

-- A machine follows the histories of a node: valid valuations are the codes of what may be given, and at these codes it goes on as the node does.
pub record Follows (program : List Item) (n : Node) (m : Machine) (code : Coding) : Type 0 where
  pub init : m.init ≡ bits program n []
  -- there is some choice
  pub preferred_is : IsChoiceOf program n (preferred program n)
  pub valid : (history : Past) (inputs : List Value) (free : Instant) (c : Choice) → Built program n history → InputsFit (types_of program) n.inputs inputs → IsChoiceOf program n c → IsValid (game m) (bits program n history) (code.early inputs free) (code.control c) (code.late free)
  -- what the bits of a valid valuation stand for: inputs and early values, a choice, and late values beside these
  pub early_codes : (history : Past) (u c w : Bits) → Built program n history → IsValid (game m) (bits program n history) u c w → (inputs : List Value) × (early : Instant) × InputsFit (types_of program) n.inputs inputs × EarlyFits program n early × (code.early inputs early ≡ u)
  pub control_codes : (history : Past) (u c w : Bits) → Built program n history → IsValid (game m) (bits program n history) u c w → (d : Choice) × IsChoiceOf program n d × (code.control d ≡ c)
  pub late_codes :
      (history : Past) (inputs : List Value) (early : Instant) (c : Choice) (w : Bits) → Built program n history → InputsFit (types_of program) n.inputs inputs → EarlyFits program n early → IsChoiceOf program n c
      → IsValid (game m) (bits program n history) (code.early inputs early) (code.control c) w
      → (free : Instant) × ((now : Instant) → Comes program n history inputs free c now → Fits program n now free) × ((p : Place) → IsEarly program n p → free p ≡ early p) × (code.late free ≡ w)
  -- the early bits look at inputs and early values alone
  pub early_only : (inputs : List Value) (free early : Instant) → ((p : Place) → IsEarly program n p → free p ≡ early p) → code.early inputs free ≡ code.early inputs early
  -- what an instant that comes after a history leaves, supposes and owes
  pub next_is :
      (history : Past) (inputs : List Value) (free : Instant) (c : Choice) (now : Instant) → Built program n history → InputsFit (types_of program) n.inputs inputs → IsChoiceOf program n c → Fits program n now free → Comes program n history inputs free c now
      → (game m).next (joined (bits program n history) (code.early inputs free) (code.control c) (code.late free)) ≡ bits program n (now ∷ history)
  pub hypothesis_is :
      (history : Past) (inputs : List Value) (free : Instant) (c : Choice) (now : Instant) → Built program n history → InputsFit (types_of program) n.inputs inputs → IsChoiceOf program n c → Fits program n now free → Comes program n history inputs free c now
      → (game m).hyp (joined (bits program n history) (code.early inputs free) (code.control c) (code.late free)) ≡ hypothesis n now
  pub duty_is :
      (history : Past) (inputs : List Value) (free : Instant) (c : Choice) (now : Instant) → Built program n history → InputsFit (types_of program) n.inputs inputs → IsChoiceOf program n c → Fits program n now free → Comes program n history inputs free c now
      → (game m).duty (joined (bits program n history) (code.early inputs free) (code.control c) (code.late free)) ≡ duty n now

-- What a machine prefers is what is preferred of choices, each of which has bits of its own.
pub record PrefersAs (program : List Item) (n : Node) (m : Machine) (code : Coding) : Type 0 where
  pub first : m.prefer ≡ code.control (preferred program n)
  pub many : length m.prefer ≡ m.control
  pub own : (c d : Choice) → IsChoiceOf program n c → IsChoiceOf program n d → code.control c ≡ code.control d → c ≡ d
  pub order : (c d : Choice) → IsChoiceOf program n c → IsChoiceOf program n d → AtMost (types_of program) (controls_of n.contract) d c ↔ Before m.prefer (code.control c) (code.control d)

-- ---- the laws

-- What is forced after a history is forced from the registers that it leaves, within as many instants.
abbrev pub SameGameLaw : Type 0
SameGameLaw =
    (program : List Item) (n : Node) (m : Machine) (code : Coding) → IsRanked program → Follows program n m code
    → (k : ℕ) (history : Past) → Built program n history
    → Forced program n k history ↔ ForcedOn (game m) k (bits program n history)

-- So what is safe is safe,
abbrev pub SameSafeLaw : Type 0
SameSafeLaw =
    (program : List Item) (n : Node) (m : Machine) (code : Coding) → IsRanked program → Follows program n m code
    → (history : Past) → Built program n history
    → Safe program n history ↔ SafeOn (game m) (bits program n history)

-- at first too,
abbrev pub SameAtFirstLaw : Type 0
SameAtFirstLaw =
    (program : List Item) (n : Node) (m : Machine) (code : Coding) → IsRanked program → Follows program n m code
    → Safe program n [] ↔ SafeOn (game m) m.init

-- and what is permitted is permitted.
abbrev pub SamePermittedLaw : Type 0
SamePermittedLaw =
    (program : List Item) (n : Node) (m : Machine) (code : Coding) → IsRanked program → Follows program n m code
    → (history : Past) (inputs : List Value) (early : Instant) (c : Choice) → Built program n history → InputsFit (types_of program) n.inputs inputs → EarlyFits program n early → IsChoiceOf program n c
    → Permitted program n history inputs early c ↔ PermittedOn (game m) (bits program n history) (code.early inputs early) (code.control c)

-- So the greatest permitted choice is the machine's.
abbrev pub SameChoiceLaw : Type 0
SameChoiceLaw =
    (program : List Item) (n : Node) (m : Machine) (code : Coding) → IsRanked program → Follows program n m code → PrefersAs program n m code
    → (history : Past) (inputs : List Value) (early : Instant) (c : Choice) → Built program n history → InputsFit (types_of program) n.inputs inputs → EarlyFits program n early → IsChoiceOf program n c
    → IsChosen program n history inputs early c ↔ IsChoice (game m) (bits program n history) (code.early inputs early) (code.control c)
