-- The game of a contract, played along on a Boolean machine: beside a history of the game stands one without Nil, of the same inputs, given values and choices, and the machine's registers hold the bits that this one leaves.
-- Source: own. A machine that is run goes from state to state by what it is given; so the law is one of each such history, and not of some.
use Rattle.std.specs.Prelude.{◌≡◌, ◌↔◌, ⊤, List, [], ◌∷◌, map, length}
use Rattle.hp_base.specs.declared.value.Value.{Value}
use Rattle.hp_tree.specs.declared.program.Item.{Item}
use Rattle.hp_tree.specs.Programs.{Node}
use Rattle.hp_tree.specs.Operators.{marked}
use Rattle.hp_tree.specs.Instant.{Place, Instant, Past}
use Rattle.hp_tree.specs.Meaning.{types_of}
use Rattle.hp_meaning.specs.Causal.Abstract.{abstract_meaning}
use Rattle.hp_meaning.specs.Causal.Steering.{steered_by}
use Rattle.hp_boolx.specs.Game.{Permitted as PermittedOn}
use Rattle.hp_boolx.specs.Machine.{Machine, game}
use Rattle.hp_boolx.specs.Solved.{IsChoice}
use Rattle.hp_meaning.specs.Contract.Duties.{hypothesis, duty}
use Rattle.hp_meaning.specs.Contract.FreePlaces.{InputsFit}
use Rattle.hp_meaning.specs.Contract.Game.{Choice, IsChoiceOf, at_controls, Permitted, IsChosen}
use Rattle.hp_meaning.specs.Contract.Memory.{memory, bits}
use Rattle.hp_meaning.specs.Contract.Slots.{slots_of_node, registers, zero_at}
use Rattle.law_values.specs.Filled.Under.{PastsUnder}
use Rattle.law_games.specs.Wires.WiredNodes.{FillsNode}
use Rattle.law_games.specs.Wires.WiredCallees.{callee_wires}
use Rattle.law_games.specs.Wiretyped.Typed.{AreWires}
use Rattle.law_games.specs.Wiretyped.Laws.{GivenFits}
use Rattle.hp_boolx.specs.Game.{joined}
use Rattle.hp_boolx.specs.Search.{Bits}
use Rattle.law_games.specs.Mirror.Mirrored.{early_among, late_among, codes_at, given_with, valuation, Mirrors}
use Rattle.law_games.specs.Mirror.Memories.{SlotsFit}
use Rattle.law_games.specs.Mirror.Choices.{PermittedFrom, IsChosenFrom, choice_bits, BitsInOrder}
use Rattle.law_games.specs.Mirror.Histories.{EarlyFits}
use Rattle.law_games.specs.Mirror.FilledHistories.{filled_instant, AllFilled}
use Rattle.law_games.specs.ReadyGames.FittingHistories.{IsFitting, AllFitting}
use Rattle.law_games.specs.Forced.Laws.{OfReadyNodes}

-- An instant after a history, and one without Nil after another one: over the same inputs and given values, each of its type, and with the same choice.
pub record IsTwin (program earlier : List Item) (n : Node) (history other : Past) (inputs : List Value) (given : Instant) (c : Choice) (now filled : Instant) : Type 0 where
  pub choice : IsChoiceOf program n c
  pub values : AreWires (types_of program) n.inputs inputs
  pub typed : GivenFits (types_of program) earlier n (steered_by given (at_controls c))
  pub fits : SlotsFit (types_of program) (slots_of_node program n) (given_with inputs given c)
  pub fills : FillsNode (types_of program) (callee_wires (types_of program) earlier) n (zero_at (registers program n)) (steered_by given (at_controls c))
  pub comes : (p : Place) → now p ≡ abstract_meaning program n.name inputs (record { past = history; free = steered_by given (at_controls c) }) now p
  pub fills_it : (p : Place) → filled p ≡ filled_instant program earlier n inputs other (steered_by given (at_controls c)) filled p

-- two histories of such instants
abbrev pub AreTwins : List Item → List Item → Node → Past → Past → Type 0
AreTwins program earlier n [] [] = ⊤
AreTwins program earlier n (now ∷ history) (filled ∷ other) = AreTwins program earlier n history other × ((inputs : List Value) × (given : Instant) × (c : Choice) × IsTwin program earlier n history other inputs given c now filled)
AreTwins program earlier n history other = ⊥

-- What may be chosen after a history, and the greatest of it, is what may be chosen at the memory that the other one leaves.
abbrev pub ChoosesAsMemory : List Item → List Item → Node → Past → Past → Type 0
ChoosesAsMemory program earlier n history other =
    (inputs : List Value) (early : Instant) → InputsFit (types_of program) n.inputs inputs → EarlyFits program n early
    → ((c : Choice) → IsChoiceOf program n c → Permitted program n history inputs early c ↔ PermittedFrom program earlier n (memory program n other) (map marked inputs) early c)
    × ((c : Choice) → IsChoiceOf program n c → IsChosen program n history inputs early c ↔ IsChosenFrom program earlier n (memory program n other) (map marked inputs) early c)

-- And it is what the machine may choose at the bits that the other one leaves.
abbrev pub ChoosesAsMachine : (program earlier : List Item) (n : Node) (m : Machine) → Mirrors program earlier n m → Past → Past → Type 0
ChoosesAsMachine program earlier n m M history other =
    (inputs : List Value) (early : Instant) → InputsFit (types_of program) n.inputs inputs → ((d : Choice) → SlotsFit (types_of program) (slots_of_node program n) (given_with (map marked inputs) early d))
    → (c : Choice) → IsChoiceOf program n c
    → (Permitted program n history inputs early c
    ↔ PermittedOn (game m) (bits program n other) (codes_at (types_of program) (early_among M.is_early (slots_of_node program n)) (given_with (map marked inputs) early c)) (choice_bits program n c))
    × (IsChosen program n history inputs early c
    ↔ IsChoice (game m) (bits program n other) (codes_at (types_of program) (early_among M.is_early (slots_of_node program n)) (given_with (map marked inputs) early c)) (choice_bits program n c))

-- At the bits that the other history leaves, and the codes of what is given, the machine's next registers are the bits of the longer one; and its hypothesis and its duty are those of the instant.
pub record GoesAlong (program earlier : List Item) (n : Node) (m : Machine) (M : Mirrors program earlier n m) (other : Past) (inputs : List Value) (given : Instant) (c : Choice) (now filled : Instant) : Type 0 where
  pub next : (game m).next (valuation program n M.is_early (memory program n other) (given_with inputs given c)) ≡ bits program n (filled ∷ other)
  pub supposes : (game m).hyp (valuation program n M.is_early (memory program n other) (given_with inputs given c)) ≡ hypothesis n now
  pub owes : (game m).duty (valuation program n M.is_early (memory program n other) (given_with inputs given c)) ≡ duty n now

-- A machine plays along with a history of the game: it starts in its first state, and at each instant goes on by the codes of what is given, and by the bits of the choice.
abbrev pub Plays : (program earlier : List Item) (n : Node) (m : Machine) → Mirrors program earlier n m → Past → Bits → Type 0
Plays program earlier n m M [] state = state ≡ m.init
Plays program earlier n m M (now ∷ history) state =
    (before : Bits) × Plays program earlier n m M history before
    × ((inputs : List Value) × (early : Instant) × (c : Choice) × IsChoiceOf program n c
    × ((x : IsFitting program earlier n history inputs early c now)
    × (state
    ≡ (game m).next
    (joined before
    (codes_at (types_of program) (early_among M.is_early (slots_of_node program n)) (given_with inputs x.others c))
    (choice_bits program n c)
    (codes_at (types_of program) (late_among M.is_early (slots_of_node program n)) (given_with inputs x.others c))))))

-- ---- the laws

-- The first of two such histories is one of the game, the second has no Nil, and it has the same value wherever the first one's is not Nil.
abbrev pub TwinsLaw : Type 0
TwinsLaw = OfReadyNodes (λ after earlier n. (history other : Past) → AreTwins after earlier n history other → AllFitting after earlier n history × AllFilled after earlier n other × PastsUnder history other)

-- Each history of the game is the first of two,
abbrev pub SomeTwinLaw : Type 0
SomeTwinLaw = OfReadyNodes (λ after earlier n. (history : Past) → AllFitting after earlier n history → (other : Past) × AreTwins after earlier n history other)

-- and both go on together.
abbrev pub LongerLaw : Type 0
LongerLaw =
    OfReadyNodes
    (λ after earlier n.
    (history other : Past) (inputs : List Value) (early : Instant) (c : Choice) (now : Instant) → AreTwins after earlier n history other → IsChoiceOf after n c
    → (x : IsFitting after earlier n history inputs early c now) → (filled : Instant) × IsTwin after earlier n history other inputs x.others c now filled)

-- So what may be chosen is what a machine that mirrors the node may choose, at the bits that each such second history leaves, where the machine prefers what is preferred of choices.
abbrev pub TwinChoicesLaw : Type 0
TwinChoicesLaw =
    OfReadyNodes
    (λ after earlier n.
    (m : Machine) (M : Mirrors after earlier n m) → BitsInOrder after n m.prefer → length m.prefer ≡ m.control → (history other : Past) → AreTwins after earlier n history other
    → ChoosesAsMachine after earlier n m M history other)

-- And the machine goes along.
abbrev pub AlongLaw : Type 0
AlongLaw =
    OfReadyNodes
    (λ after earlier n.
    (m : Machine) (M : Mirrors after earlier n m) (history other : Past) (inputs : List Value) (given : Instant) (c : Choice) (now filled : Instant) → AreTwins after earlier n history other
    → IsTwin after earlier n history other inputs given c now filled → GoesAlong after earlier n m M other inputs given c now filled)

-- Before any instant there is one history of each kind, and it leaves the machine's first state.
abbrev pub FirstLaw : Type 0
FirstLaw = OfReadyNodes (λ after earlier n. (m : Machine) → Mirrors after earlier n m → AreTwins after earlier n [] [] × (m.init ≡ bits after n []))

-- So a machine that plays along with a history is in the state that such a second history leaves,
abbrev pub PlaysLaw : Type 0
PlaysLaw =
    OfReadyNodes
    (λ after earlier n.
    (m : Machine) (M : Mirrors after earlier n m) (history : Past) (state : Bits) → Plays after earlier n m M history state → (other : Past) × (AreTwins after earlier n history other × (state ≡ bits after n other)))

-- and what it may choose there is what may be chosen after the history: a choice is the greatest permitted one exactly where its bits are the machine's choice.
abbrev pub PlayedChoiceLaw : Type 0
PlayedChoiceLaw =
    OfReadyNodes
    (λ after earlier n.
    (m : Machine) (M : Mirrors after earlier n m) → BitsInOrder after n m.prefer → length m.prefer ≡ m.control → (history : Past) (state : Bits) → Plays after earlier n m M history state
    → (inputs : List Value) (early : Instant) → InputsFit (types_of after) n.inputs inputs → ((d : Choice) → SlotsFit (types_of after) (slots_of_node after n) (given_with (map marked inputs) early d))
    → (c : Choice) → IsChoiceOf after n c
    → IsChosen after n history inputs early c
    ↔ IsChoice (game m) state (codes_at (types_of after) (early_among M.is_early (slots_of_node after n)) (given_with (map marked inputs) early c)) (choice_bits after n c))
