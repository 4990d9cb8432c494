-- What may be chosen where early values are Nil is what may be chosen with ones of their types.
-- Source: own. A comparison of integers is Nil in a run where an operand is, at the first instant; then no instant looks at its early value, which is of no type.
use Rattle.std.specs.Prelude.{◌≡◌, ◌↔◌, Bool, true, false, ◌&&◌, ◌||◌, IsTrue, All, List, [], ◌∷◌, ◌++◌, map}
use Rattle.hp_base.specs.declared.value.Value.{Value}
use Rattle.hp_base.specs.declared.value.Value.TheVariants.{Star}
use Rattle.hp_tree.specs.declared.program.Item.{Item}
use Rattle.hp_tree.specs.Programs.{Node}
use Rattle.hp_tree.specs.Operators.{is_there, marked}
use Rattle.hp_tree.specs.Instant.{Named, Fresh, First, Second, Instance, Place, Instant, Past, part}
use Rattle.hp_tree.specs.Meaning.{types_of}
use Rattle.hp_boolx.specs.Game.{Permitted as PermittedOn}
use Rattle.hp_boolx.specs.Machine.{Machine, game}
use Rattle.hp_boolx.specs.Solved.{IsChoice}
use Rattle.hp_meaning.specs.Contract.FreePlaces.{IsAbstractOf, IsEarly, InputsFit}
use Rattle.hp_meaning.specs.Contract.Game.{Choice, IsChoiceOf, IsNext, Permitted, IsChosen}
use Rattle.hp_meaning.specs.Contract.Memory.{bits}
use Rattle.hp_meaning.specs.Contract.Slots.{free_places, slots_of_node}
use Rattle.law_values.specs.Filled.Under.{PastsUnder}
use Rattle.law_games.specs.Mirror.Choices.{choice_bits}
use Rattle.law_games.specs.Mirror.FilledHistories.{AllFilled}
use Rattle.law_games.specs.Mirror.Histories.{EarlyFits}
use Rattle.law_games.specs.Mirror.Memories.{SlotsFit}
use Rattle.law_games.specs.Mirror.Mirrored.{early_among, codes_at, given_with, Mirrors}
use Rattle.law_games.specs.ReadyGames.FittingHistories.{AllFitting}
use Rattle.law_games.specs.Forced.Laws.{OfReadyNodes}

-- ---- what an instant looks at

abbrev pub is_mark : Value → Bool
is_mark Star = true
is_mark v = false

-- an output of a call that is there
abbrev pub is_output : Instant → Place → Bool
is_output now [] = false
is_output now (Instance ∷ Named x ∷ []) = is_there (now (Instance ∷ Fresh ∷ []))
is_output now (s ∷ p) = is_output (part s now) p

-- An instant looks at what is given for a comparison where both operands are marks, and for an output of a call that is there.
abbrev pub is_seen : Instant → Place → Bool
is_seen now p = (is_mark (now (p ++ (First ∷ []))) && is_mark (now (p ++ (Second ∷ [])))) || is_output now p

-- Early values are of their types wherever an instant looks at them: each instant that comes with other ones.
abbrev pub FitsWhereSeen : List Item → Node → Past → List Value → Instant → Instant → Type 0
FitsWhereSeen program n history inputs others early =
    (c : Choice) (now : Instant) → IsChoiceOf program n c → IsNext program n history inputs others c now
    → All (λ q. IsEarly program n q.0 × IsTrue (is_seen now q.0) → IsAbstractOf (types_of program) q.1 (early q.0)) (free_places program n)

-- The others are the same wherever the early values are of their types already: at all places of any set at which these are.
abbrev pub KeptWhereTyped : List Item → Node → Instant → Instant → Type 0
KeptWhereTyped program n others early =
    (chosen : Place → Bool) → All (λ q. IsEarly program n q.0 × IsTrue (chosen q.0) → IsAbstractOf (types_of program) q.1 (early q.0)) (free_places program n) → (p : Place) → IsEarly program n p → IsTrue (chosen p) → others p ≡ early p

-- Early values of the game: some instant comes with them.
abbrev pub MayCome : List Item → Node → Past → List Value → Instant → Type 0
MayCome program n history inputs early = (c : Choice) × (now : Instant) × IsChoiceOf program n c × IsNext program n history inputs early c now

-- ---- the laws

-- With early values of their types some instant always comes.
abbrev pub ComesLaw : Type 0
ComesLaw =
    OfReadyNodes
    (λ after earlier n.
    (history : Past) (inputs : List Value) (early : Instant) → AllFitting after earlier n history → InputsFit (types_of after) n.inputs inputs → EarlyFits after n early
    → MayCome after n history inputs early)

-- An early place that one instant looks at is looked at by each other instant after the same history, over the same inputs: whatever else is given, and whatever is chosen.
abbrev pub SeenAlikeLaw : Type 0
SeenAlikeLaw =
    OfReadyNodes
    (λ after earlier n.
    (history : Past) (inputs : List Value) (early firsts : Instant) (c d : Choice) (now other : Instant) → AllFitting after earlier n history → InputsFit (types_of after) n.inputs inputs
    → IsChoiceOf after n c → IsChoiceOf after n d → IsNext after n history inputs early c now → IsNext after n history inputs firsts d other
    → (p : Place) → IsEarly after n p → IsTrue (is_seen now p) → IsTrue (is_seen other p))

-- To all early values there are ones of their types, the same wherever they are of them already. Where they are so wherever an instant with these others looks at them, the same is permitted with both, and the same is the greatest permitted choice.
abbrev pub SeenChoicesLaw : Type 0
SeenChoicesLaw =
    OfReadyNodes
    (λ after earlier n.
    (inputs : List Value) (early : Instant) → InputsFit (types_of after) n.inputs inputs
    → (others : Instant)
    × (((c : Choice) → SlotsFit (types_of after) (slots_of_node after n) (given_with (map marked inputs) others c))
    × (KeptWhereTyped after n others early
    × ((history : Past) → AllFitting after earlier n history → FitsWhereSeen after n history inputs others early → (c : Choice) → IsChoiceOf after n c
    → (Permitted after n history inputs early c ↔ Permitted after n history inputs others c) × (IsChosen after n history inputs early c ↔ IsChosen after n history inputs others c)))))

-- So it is with all early values of the game, Nil where they may be: to them there are ones of their types, the same wherever they are of them already, with which the same is permitted, and the same is the greatest permitted choice.
abbrev pub NilChoicesLaw : Type 0
NilChoicesLaw =
    OfReadyNodes
    (λ after earlier n.
    (inputs : List Value) (early : Instant) → InputsFit (types_of after) n.inputs inputs
    → (others : Instant)
    × (((c : Choice) → SlotsFit (types_of after) (slots_of_node after n) (given_with (map marked inputs) others c))
    × (KeptWhereTyped after n others early
    × ((history : Past) → AllFitting after earlier n history → MayCome after n history inputs early → (c : Choice) → IsChoiceOf after n c
    → (Permitted after n history inputs early c ↔ Permitted after n history inputs others c) × (IsChosen after n history inputs early c ↔ IsChosen after n history inputs others c)))))

-- So on a machine that mirrors the node: a choice is permitted exactly where its bits are, and it is the greatest permitted one exactly where they are the machine's choice, at the bits of the early values of their types.
abbrev pub MachineNilLaw : Type 0
MachineNilLaw =
    OfReadyNodes
    (λ after earlier n.
    (m : Machine) (M : Mirrors after earlier n m) (history : Past) → AllFitting after earlier n history
    → (other : Past) × (AllFilled after earlier n other × (PastsUnder history other
    × ((inputs : List Value) (early : Instant) → InputsFit (types_of after) n.inputs inputs
    → (others : Instant)
    × (KeptWhereTyped after n others early
    × (MayCome after n history inputs early → (c : Choice) → IsChoiceOf after n c
    → (Permitted after n history inputs early c
    ↔ PermittedOn (game m) (bits after n other) (codes_at (types_of after) (early_among M.is_early (slots_of_node after n)) (given_with (map marked inputs) others c)) (choice_bits after n c))
    × (IsChosen after n history inputs early c
    ↔ IsChoice (game m) (bits after n other) (codes_at (types_of after) (early_among M.is_early (slots_of_node after n)) (given_with (map marked inputs) others c)) (choice_bits after n c))))))))
