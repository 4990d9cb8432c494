-- The game of a contract is the game in which every given value is of its type.
-- Source: own. The definition of the game asks given values to be of their types only where they are looked at; machines know no other values.
use Rattle.std.specs.Prelude.{◌≡◌, ◌↔◌, ℕ, IsTrue, List, [], ◌∷◌, map, length}
use Rattle.hp_base.specs.declared.value.Value.{Value}
use Rattle.hp_tree.specs.declared.program.Item.{Item}
use Rattle.hp_tree.specs.Programs.{Node}
use Rattle.hp_tree.specs.Operators.{marked}
use Rattle.hp_tree.specs.Instant.{Instant, Past}
use Rattle.hp_tree.specs.Meaning.{types_of}
use Rattle.hp_boolx.specs.Game.{IsForm, Forced as ForcedOn, Safe as SafeOn, Permitted as PermittedOn}
use Rattle.hp_boolx.specs.Solved.{IsChoice}
use Rattle.hp_boolx.specs.Machine.{Machine, game}
use Rattle.hp_meaning.specs.Contract.Duties.{hypothesis, duty}
use Rattle.hp_meaning.specs.Contract.FreePlaces.{InputsFit}
use Rattle.hp_meaning.specs.Contract.Game.{Choice, IsChoiceOf, IsNext, Forced, Safe, Permitted, IsChosen}
use Rattle.hp_meaning.specs.Contract.Memory.{memory, bits}
use Rattle.hp_meaning.specs.Contract.Slots.{slots_of_node}
use Rattle.law_values.specs.Filled.Under.{PastsUnder}
use Rattle.law_games.specs.Mirror.Mirrored.{early_among, codes_at, given_with, Mirrors}
use Rattle.law_games.specs.Mirror.Memories.{SlotsFit}
use Rattle.law_games.specs.Mirror.Histories.{Built, EarlyFits}
use Rattle.law_games.specs.Mirror.Choices.{PermittedFrom, IsChosenFrom, choice_bits, BitsInOrder}
use Rattle.law_games.specs.Mirror.FilledHistories.{AllFilled}
use Rattle.law_games.specs.ReadyGames.FittingHistories.{IsFitting, AllFitting, FittingForced, FittingSafe}
use Rattle.law_games.specs.ReadyGames.Laws.{Stands, IsInOrder}

-- A law of each node of a ready program.
abbrev pub OfReadyNodes : (List Item → List Item → Node → Type 0) → Type 0
OfReadyNodes law = (program after : List Item) (ranks : List (List ℕ)) → IsInOrder program after ranks → (earlier : List Item) (n : Node) → Stands after earlier n → law after earlier n

-- Each instant of the game is one for inputs, early and late values that are of their types everywhere. The early ones are told by the given ones alone, whatever is chosen and comes later.
abbrev pub NextLaw : Type 0
NextLaw =
    OfReadyNodes
    (λ after earlier n.
    (inputs : List Value) (early : Instant) → InputsFit (types_of after) n.inputs inputs
    → (others : List Value) × (firsts : Instant)
    × (((c : Choice) → IsChoiceOf after n c → SlotsFit (types_of after) (slots_of_node after n) (given_with others firsts c))
    × ((history : Past) (c : Choice) (now : Instant) → IsChoiceOf after n c → IsNext after n history inputs early c now → IsFitting after earlier n history others firsts c now)))

-- So each history of the game is one of such values.
abbrev pub HistoriesLaw : Type 0
HistoriesLaw = OfReadyNodes (λ after earlier n. (history : Past) → Built after n history → AllFitting after earlier n history)

-- After a history of such values the same is forced,
abbrev pub ForcedLaw : Type 0
ForcedLaw = OfReadyNodes (λ after earlier n. (k : ℕ) (history : Past) → AllFitting after earlier n history → Forced after n k history ↔ FittingForced after earlier n k history)

-- so the same is safe;
abbrev pub SafeLaw : Type 0
SafeLaw = OfReadyNodes (λ after earlier n. (history : Past) → AllFitting after earlier n history → Safe after n history ↔ FittingSafe after earlier n history)

-- and so it is at first.
abbrev pub ForcedAtFirstLaw : Type 0
ForcedAtFirstLaw = OfReadyNodes (λ after earlier n. (k : ℕ) → Forced after n k [] ↔ FittingForced after earlier n k [])

abbrev pub SafeAtFirstLaw : Type 0
SafeAtFirstLaw = OfReadyNodes (λ after earlier n. Safe after n [] ↔ FittingSafe after earlier n [])

-- ---- what may be chosen

-- Whatever the late values are, where the hypothesis holds the duty holds too, and nothing is forced afterwards.
abbrev pub FittingPermitted : List Item → List Item → Node → Past → List Value → Instant → Choice → Type 0
FittingPermitted program earlier n history inputs early c =
    (now : Instant) → IsFitting program earlier n history inputs early c now → IsTrue (hypothesis n now) → IsTrue (duty n now) × FittingSafe program earlier n (now ∷ history)

-- A law of each choice after each history of such values, where inputs and early values are of their types.
abbrev pub OfTypedChoices : (List Item → List Item → Node → Past → List Value → Instant → Choice → Type 0) → Type 0
OfTypedChoices law =
    OfReadyNodes
    (λ after earlier n.
    (history : Past) (inputs : List Value) (early : Instant) (c : Choice) → AllFitting after earlier n history → InputsFit (types_of after) n.inputs inputs → IsChoiceOf after n c → EarlyFits after n early
    → law after earlier n history inputs early c)

-- The instants are the same, where an input that is an integer counts as its mark,
abbrev pub InstantsLaw : Type 0
InstantsLaw = OfTypedChoices (λ after earlier n history inputs early c. (now : Instant) → IsNext after n history inputs early c now ↔ IsFitting after earlier n history (map marked inputs) early c now)

-- so the same is permitted.
abbrev pub PermittedLaw : Type 0
PermittedLaw = OfTypedChoices (λ after earlier n history inputs early c. Permitted after n history inputs early c ↔ FittingPermitted after earlier n history (map marked inputs) early c)

-- Of all other inputs and early values: what is permitted where they are made ones of their types is permitted.
abbrev pub GrantedLaw : Type 0
GrantedLaw =
    OfReadyNodes
    (λ after earlier n.
    (inputs : List Value) (early : Instant) → InputsFit (types_of after) n.inputs inputs
    → (others : List Value) × (firsts : Instant)
    × (((c : Choice) → IsChoiceOf after n c → SlotsFit (types_of after) (slots_of_node after n) (given_with others firsts c))
    × ((history : Past) (c : Choice) → AllFitting after earlier n history → IsChoiceOf after n c → FittingPermitted after earlier n history others firsts c → Permitted after n history inputs early c)))

-- ---- on a machine that mirrors the node

-- What is forced at first in the game of a contract is forced on the machine,
abbrev pub GameLaw : Type 0
GameLaw = OfReadyNodes (λ after earlier n. (m : Machine) → Mirrors after earlier n m → (k : ℕ) → Forced after n k [] ↔ ForcedOn (game m) k m.init)

-- and nothing ever is exactly where the machine is safe.
abbrev pub SafeGameLaw : Type 0
SafeGameLaw = OfReadyNodes (λ after earlier n. (m : Machine) → Mirrors after earlier n m → Safe after n [] ↔ SafeOn (game m) m.init)

-- Later too: to each history of the game there is one without Nil, which has the same value wherever the first one's is not Nil, and what is forced
-- after the first is forced from the bits that the second leaves.
abbrev pub LaterLaw : Type 0
LaterLaw =
    OfReadyNodes
    (λ after earlier n.
    (m : Machine) → Mirrors after earlier n m → (history : Past) → Built after n history
    → (other : Past) × (AllFilled after earlier n other × (PastsUnder history other × ((k : ℕ) → Forced after n k history ↔ ForcedOn (game m) k (bits after n other)))))

-- So what may be chosen, where inputs and early values are of their types, is what may be chosen at the memory that the history without Nil leaves; and the greatest permitted choice is the greatest permitted one there.
abbrev pub ChoicesLaw : Type 0
ChoicesLaw =
    OfReadyNodes
    (λ after earlier n.
    (m : Machine) → Mirrors after earlier n m → (history : Past) → AllFitting after earlier n history
    → (other : Past) × (AllFilled after earlier n other × (PastsUnder history other
    × ((inputs : List Value) (early : Instant) → InputsFit (types_of after) n.inputs inputs → EarlyFits after n early
    → ((c : Choice) → IsChoiceOf after n c → Permitted after n history inputs early c ↔ PermittedFrom after earlier n (memory after n other) (map marked inputs) early c)
    × ((c : Choice) → IsChoiceOf after n c → IsChosen after n history inputs early c ↔ IsChosenFrom after earlier n (memory after n other) (map marked inputs) early c)))))

-- So where nothing is ever forced after a history, some choice is permitted after it, whatever the inputs and early values of their types are.
abbrev pub SomeChoiceLaw : Type 0
SomeChoiceLaw =
    OfReadyNodes
    (λ after earlier n.
    (m : Machine) → IsForm (game m) → Mirrors after earlier n m → (history : Past) → AllFitting after earlier n history → Safe after n history
    → (inputs : List Value) (early : Instant) → InputsFit (types_of after) n.inputs inputs → ((d : Choice) → SlotsFit (types_of after) (slots_of_node after n) (given_with (map marked inputs) early d))
    → (c : Choice) × IsChoiceOf after n c × Permitted after n history inputs early c)

-- So on a machine that mirrors the node, and prefers what is preferred of choices: a choice is permitted after a history exactly where its bits are, and it is the greatest permitted one exactly where they are the machine's choice.
abbrev pub MachineChoicesLaw : Type 0
MachineChoicesLaw =
    OfReadyNodes
    (λ after earlier n.
    (m : Machine) (M : Mirrors after earlier n m) → BitsInOrder after n m.prefer → length m.prefer ≡ m.control → (history : Past) → AllFitting after earlier n history
    → (other : Past) × (AllFilled after earlier n other × (PastsUnder history other
    × ((inputs : List Value) (early : Instant) → InputsFit (types_of after) n.inputs inputs → ((d : Choice) → SlotsFit (types_of after) (slots_of_node after n) (given_with (map marked inputs) early d))
    → (c : Choice) → IsChoiceOf after n c
    → (Permitted after n history inputs early c
    ↔ PermittedOn (game m) (bits after n other) (codes_at (types_of after) (early_among M.is_early (slots_of_node after n)) (given_with (map marked inputs) early c)) (choice_bits after n c))
    × (IsChosen after n history inputs early c
    ↔ IsChoice (game m) (bits after n other) (codes_at (types_of after) (early_among M.is_early (slots_of_node after n)) (given_with (map marked inputs) early c)) (choice_bits after n c))))))
