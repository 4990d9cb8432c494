-- The laws of wires: what is shown of a node's wires is its next abstract instant, and the next memory is what the longer history leaves.
-- The abstraction is read here without Nil: a `pre` without a past gives the value that its register holds at the start.
use Rattle.std.specs.Prelude.{◌≡◌, ◌⊎◌, ⊤, Bool, ◌&&◌, ◌||◌, not, IsTrue, List, [], ◌∷◌, reverse, All}
use Rattle.std.specs.List.{list_all}
use Rattle.hp_base.specs.declared.value.Value.{Value}
use Rattle.hp_base.specs.declared.value.Value.TheVariants.{Absent}
use Rattle.hp_tree.specs.declared.program.Item.{Item}
use Rattle.hp_tree.specs.declared.program.Item.TheVariants.{TypeItem, NodeItem}
use Rattle.hp_tree.specs.Programs.{TypeDecl, Node}
use Rattle.hp_tree.specs.Instant.{Assume, Enforce, Fresh, Place, Instant, Past}
use Rattle.hp_tree.specs.Meaning.{node, types_of}
use Rattle.hp_tree.specs.Operators.{is_there}
use Rattle.hp_meaning.specs.Causal.Causality.{Ranked, IsRanked}
use Rattle.hp_meaning.specs.Causal.Clocked.{ClocksRight}
use Rattle.hp_meaning.specs.Causal.OneReaction.{OneInstant}
use Rattle.hp_meaning.specs.Causal.Points.{Placed}
use Rattle.hp_meaning.specs.Contract.Duties.{assumes, enforces, hypothesis, duty}
use Rattle.hp_meaning.specs.Contract.FreePlaces.{calls_of, instance_at}
use Rattle.hp_meaning.specs.Contract.Memory.{remembers_node}
use Rattle.law_games.specs.Wires.Wired.{filled_abstraction, Held, held}
use Rattle.law_games.specs.Wires.WiredNodes.{remembers_in, wired_node, shown_node, next_node, SoundNode, FillsNode}
use Rattle.law_games.specs.Wires.WiredCallees.{filled_callees, callee_wires}

-- The nodes that are called are looked for among some items, the last one first.

abbrev pub AllClocksRight : List Item → Type 0
AllClocksRight [] = ⊤
AllClocksRight (TypeItem t ∷ items) = AllClocksRight items
AllClocksRight (NodeItem n ∷ items) = ClocksRight n × AllClocksRight items

-- what the wires of a node are read with after a history: `start` has the values of its registers before the first instant
abbrev pub held_after : List TypeDecl → List Item → Node → Instant → Instant → Past → Held
held_after types items n start free history = held start (remembers_in types (callee_wires types items) n start history) free

-- what is shown of the wires of a node, and its next memory
abbrev pub instant_of : List TypeDecl → List Item → Node → List Value → Held → Instant → Instant
instant_of types items n inputs m now = shown_node types (callee_wires types items) n inputs m now

abbrev pub memory_behind : List TypeDecl → List Item → Node → List Value → Held → Instant → Instant
memory_behind types items n inputs m now = next_node types (callee_wires types items) n inputs m now

-- The wires of a node after a history, where clocks are right: they solve its circuits, what is given at each `pre` is what its register holds at the start, and the wires are sound.
pub record IsWiring (types : List TypeDecl) (items : List Item) (n : Node) (inputs : List Value) (start free : Instant) (history : Past) (now : Instant) : Type 0 where
  pub clocks : ClocksRight n
  pub callees : AllClocksRight items
  pub fills : FillsNode types (callee_wires types items) n start free
  pub sound : SoundNode types (callee_wires types items) n inputs (held_after types items n start free history) now
  pub solves : now ≡ wired_node types (callee_wires types items) n inputs (held_after types items n start free history) now

-- What is shown of the wires is an abstract instant after the history.
abbrev pub NextLaw : Type 0
NextLaw =
    (types : List TypeDecl) (items : List Item) (n : Node) (inputs : List Value) (start free : Instant) (history : Past) (now : Instant)
    → IsWiring types items n inputs start free history now
    → instant_of types items n inputs (held_after types items n start free history) now
    ≡ node types filled_abstraction (filled_callees types items) n inputs (record { past = history; free = free }) (instant_of types items n inputs (held_after types items n start free history) now)

-- The memory behind it is what the longer history leaves.
abbrev pub RegisterLaw : Type 0
RegisterLaw =
    (types : List TypeDecl) (items : List Item) (n : Node) (inputs : List Value) (start free : Instant) (history : Past) (now : Instant)
    → IsWiring types items n inputs start free history now
    → remembers_in types (callee_wires types items) n start (instant_of types items n inputs (held_after types items n start free history) now ∷ history)
    ≡ memory_behind types items n inputs (held_after types items n start free history) now

-- What a node assumes and enforces has the value of its wires.
abbrev pub ContractLaw : Type 0
ContractLaw =
    (types : List TypeDecl) (items : List Item) (n : Node) (inputs : List Value) (m : Held) (now : Instant)
    → now ≡ wired_node types (callee_wires types items) n inputs m now
    → (instant_of types items n inputs m now (Assume ∷ []) ≡ now (Assume ∷ [])) × (instant_of types items n inputs m now (Enforce ∷ []) ≡ now (Enforce ∷ []))

-- What is shown of an instance that is there has the values of its wires for what its contract assumes and enforces.
abbrev pub Tops : Instant → Instant → Type 0
Tops i now = IsTrue (is_there (i (Fresh ∷ []))) × ((i (Assume ∷ []) ≡ now (Assume ∷ [])) × (i (Enforce ∷ []) ≡ now (Enforce ∷ [])))

-- Of an instance that is not there nothing is shown.
abbrev pub Seen : Instant → Instant → Type 0
Seen i now = Tops i now ⊎ ((p : Place) → i p ≡ Absent)

-- So it is at each call of a node: the contracts of its callees have the values of wires.
abbrev pub CallsLaw : Type 0
CallsLaw =
    (types : List TypeDecl) (items : List Item) (n : Node) (inputs : List Value) (m : Held) (now : Instant)
    → now ≡ wired_node types (callee_wires types items) n inputs m now
    → All (λ c. Seen (instance_at c (instant_of types items n inputs m now)) (instance_at c now)) (calls_of n)

-- a call is there, as what is shown of its node tells
abbrev pub is_called : Instant → Placed → Bool
is_called i c = is_there (instance_at c i (Fresh ∷ []))

-- What a contract supposes and owes on wires, where it is known which calls are there: a call that is not there asks for nothing.
abbrev pub hypothesis_on : (Placed → Bool) → Node → Instant → Bool
hypothesis_on called n now = assumes now && list_all (λ c. not (called c) || (not (assumes (instance_at c now)) || enforces (instance_at c now))) (calls_of n)

abbrev pub duty_on : (Placed → Bool) → Node → Instant → Bool
duty_on called n now = enforces now && list_all (λ c. not (called c) || assumes (instance_at c now)) (calls_of n)

-- So the hypothesis and the duty of an instant are those of its wires.
abbrev pub DutyLaw : Type 0
DutyLaw =
    (types : List TypeDecl) (items : List Item) (n : Node) (inputs : List Value) (m : Held) (now : Instant)
    → now ≡ wired_node types (callee_wires types items) n inputs m now
    → (hypothesis n (instant_of types items n inputs m now) ≡ hypothesis_on (is_called (instant_of types items n inputs m now)) n now)
    × (duty n (instant_of types items n inputs m now) ≡ duty_on (is_called (instant_of types items n inputs m now)) n now)

-- Among the items of a program what is remembered is the memory of contracts.
abbrev pub MemoryLaw : Type 0
MemoryLaw =
    (program : List Item) (n : Node) (start : Instant) (history : Past)
    → remembers_in (types_of program) (callee_wires (types_of program) (reverse program)) n start history ≡ remembers_node program n start history

-- A ranked node has exactly one wiring, for all that its wires are read with.
abbrev pub OneWiringLaw : Type 0
OneWiringLaw =
    (types : List TypeDecl) (items : List Item) (n : Node) (inputs : List Value) (m : Held)
    → Ranked n → IsRanked items → OneInstant (wired_node types (callee_wires types items) n inputs m)
