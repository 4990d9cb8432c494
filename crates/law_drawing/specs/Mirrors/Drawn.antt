-- The circuit that is drawn of a node carries the node, so its machine mirrors it, and its game is the game of the node's contract.
-- Source: own. It joins what is shown of drawings, of slots and of mirrors.
use Rattle.std.specs.Prelude.{◌↔◌, ℕ, Bool, List, []}
use Rattle.hp_base.specs.declared.value.Value.{Value}
use Rattle.hp_tree.specs.declared.program.Item.{Item}
use Rattle.hp_tree.specs.Programs.{Node}
use Rattle.hp_tree.specs.Instant.{Instant, Past}
use Rattle.hp_tree.specs.Meaning.{types_of}
use Rattle.hp_boolx.specs.Game.{Forced as ForcedOn, Safe as SafeOn}
use Rattle.hp_boolx.specs.Machine.{Machine, game}
use Rattle.hp_circuit.specs.declared.circuit.Circuit.{Circuit}
use Rattle.hp_circuit.specs.Machines.{IsMachineOf}
use Rattle.hp_circuit.specs.Reading.{edges_of, AreSteered}
use Rattle.hp_meaning.specs.Contract.Game.{Choice, Forced, Safe}
use Rattle.hp_meaning.specs.Contract.Memory.{bits}
use Rattle.hp_meaning.specs.Contract.Slots.{slots_of_node}
use Rattle.hp_drawing.specs.DrawnNodes.{drawn_node}
use Rattle.hp_drawing.specs.Seen.{IsOf}
use Rattle.hp_drawing.specs.Told.{told_of}
use Rattle.law_values.specs.Filled.Under.{PastsUnder}
use Rattle.law_games.specs.Mirror.FilledHistories.{AllFilled}
use Rattle.law_games.specs.Mirror.Histories.{Built}
use Rattle.law_games.specs.Mirror.Mirrored.{given_with, AreWiresOf, Mirrors}
use Rattle.law_drawing.specs.Mirroring.Carried.{supposed_at, owed_at, next_memory, Carries, AreEarly}
use Rattle.law_drawing.specs.Mirroring.Gates.{IsSolved}
use Rattle.law_drawing.specs.Carried.Early.{AreRight, early_in}
use Rattle.law_drawing.specs.Early.Right.{IsReached}
use Rattle.law_games.specs.Forced.Laws.{OfReadyNodes}

-- Wherever its wires are typed some numbers solve a circuit, by which registers take the memory behind the instant, and hypothesis and duty are the node's.
abbrev pub AreSolved : List Item → List Item → Node → Circuit → Type 0
AreSolved program earlier n c =
    (memory : Instant) (inputs : List Value) (others : Instant) (choice : Choice) (now : Instant) → AreWiresOf program earlier n memory inputs others choice now
    → IsSolved (types_of program) (slots_of_node program n) c memory (given_with inputs others choice) (next_memory program earlier n memory inputs others choice now)
    (supposed_at program earlier n memory inputs others choice now) (owed_at program earlier n memory inputs others choice now)

-- So it is of the circuit that is drawn of a node of a ready program.
abbrev pub SolvedLaw : Type 0
SolvedLaw = OfReadyNodes (λ after earlier n. (c : Circuit) → IsOf c (drawn_node (told_of after) n) → AreSolved after earlier n c)

-- Each free slot of what is drawn of such a node that may be early, and whose place depends on a controllable variable, has a wire that reads one by some chain.
abbrev pub ReadsLaw : Type 0
ReadsLaw = OfReadyNodes (λ after earlier n. IsReached after n (drawn_node (told_of after) n))

-- A law of the circuit that is drawn of such a node, where it is told of each wire whether it reads a controllable variable.
abbrev pub OfDrawnNodes : (List Item → List Item → Node → Circuit → List Bool → Type 0) → Type 0
OfDrawnNodes law =
    OfReadyNodes
    (λ after earlier n.
    (c : Circuit) → IsOf c (drawn_node (told_of after) n) → (steered : List Bool) → AreSteered c.slots.items (edges_of c.wires.items c.reads.items) steered
    → law after earlier n c steered)

-- Its free slots are early exactly where their places are.
abbrev pub DrawnRightLaw : Type 0
DrawnRightLaw = OfDrawnNodes (λ after earlier n c steered. AreRight after n steered (slots_of_node after n) c.slots.items)

-- So it carries the node, and has early what is early in the node.
abbrev pub DrawnCarriesLaw : Type 0
DrawnCarriesLaw =
    OfDrawnNodes
    (λ after earlier n c steered.
    Carries after earlier n c steered (early_in steered (slots_of_node after n) c.slots.items) × AreEarly after n (early_in steered (slots_of_node after n) c.slots.items))

-- ---- its machine

abbrev pub OfDrawnMachines : (List Item → List Item → Node → Machine → Type 0) → Type 0
OfDrawnMachines law =
    OfReadyNodes
    (λ after earlier n.
    (c : Circuit) (m : Machine) → IsOf c (drawn_node (told_of after) n) → IsMachineOf n.name c m → law after earlier n m)

-- mirrors the node.
abbrev pub DrawnMirrorsLaw : Type 0
DrawnMirrorsLaw = OfDrawnMachines Mirrors

-- What is forced at first in the game of the contract is forced on the machine,
abbrev pub DrawnGameLaw : Type 0
DrawnGameLaw = OfDrawnMachines (λ after earlier n m. (k : ℕ) → Forced after n k [] ↔ ForcedOn (game m) k m.init)

-- and nothing ever is exactly where the machine is safe.
abbrev pub DrawnSafeLaw : Type 0
DrawnSafeLaw = OfDrawnMachines (λ after earlier n m. Safe after n [] ↔ SafeOn (game m) m.init)

-- Later too: to each history of the game there is one without Nil, which has the same value wherever the first one's is not Nil, and what is forced after the first is forced from the bits that the second leaves.
abbrev pub DrawnLaterLaw : Type 0
DrawnLaterLaw =
    OfDrawnMachines
    (λ after earlier n m.
    (history : Past) → Built after n history
    → (other : Past) × (AllFilled after earlier n other × (PastsUnder history other × ((k : ℕ) → Forced after n k history ↔ ForcedOn (game m) k (bits after n other)))))
