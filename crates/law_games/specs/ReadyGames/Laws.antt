-- The game of a contract in a ready program: one that is judged, with its inlined calls replaced and its clocks written, and ordered.
-- Source: own. Where a Boolean machine mirrors a node of such a program, its game is the game of the node's contract.
use Rattle.std.specs.Prelude.{◌≡◌, ◌↔◌, ℕ, List, [], ◌∷◌, ◌++◌, reverse, Some}
use Rattle.hp_lexer.specs.Lexing.{AreTokensOf}
use Rattle.hp_lexer.specs.declared.token.Token.{Token}
use Rattle.hp_parser.specs.Lexemes.{lexemes}
use Rattle.hp_parser.specs.Programs.{IsProgram}
use Rattle.hp_tree.specs.declared.program.Item.{Item}
use Rattle.hp_tree.specs.declared.program.Item.TheVariants.{NodeItem}
use Rattle.hp_tree.specs.Programs.{Node}
use Rattle.hp_tree.specs.Instant.{Past}
use Rattle.hp_tree.specs.Meaning.{types_of, node_among}
use Rattle.hp_meaning.specs.Causal.RanksOfPoints.{AllFall}
use Rattle.hp_boolx.specs.Game.{Forced as ForcedOn, Safe as SafeOn}
use Rattle.hp_boolx.specs.Machine.{Machine, game}
use Rattle.hp_meaning.specs.Contract.Forgetting.{ContractsCallNothing}
use Rattle.hp_meaning.specs.Contract.Memory.{memory, bits}
use Rattle.hp_meaning.specs.Contract.Slots.{registers, zero_at}
use Rattle.hp_names.specs.Rules.{WellNamed}
use Rattle.hp_typing.specs.Rules.{WellTyped}
use Rattle.hp_typing.specs.DefinitionRules.{WellDefined}
use Rattle.hp_expand.specs.Refusals.{IsFormed}
use Rattle.hp_expand.specs.Numbering.{replaced}
use Rattle.hp_init.specs.Initialised.{IsInitialised}
use Rattle.hp_clocks.specs.Writing.{AreWritten}
use Rattle.hp_clocks.specs.Answers.{IsClocked}
use Rattle.law_judged.specs.Named.Scoped.{EachNode}
use Rattle.law_values.specs.Accepted.Laws.{IsReady}
use Rattle.law_values.specs.Filled.Firsts.{TypesHaveConstructors}
use Rattle.law_values.specs.Filled.Under.{PastsUnder}
use Rattle.law_values.specs.Valued.Values.{Classing}
use Rattle.law_games.specs.Wiretyped.Laws.{InShape}
use Rattle.law_games.specs.Mirror.Mirrored.{Mirrors}
use Rattle.law_games.specs.Mirror.Memories.{IsSettled}
use Rattle.law_games.specs.Mirror.FilledHistories.{AllFilled, FilledForced, FilledSafe}
use Rattle.law_games.specs.ReadyGames.Conditions.{NodeStrongPlain}
use Rattle.law_games.specs.ReadyGames.FittingHistories.{AllFitting, FittingForced, FittingSafe}

-- A node of a program stands behind the items that come before it, which are given the last one first.
abbrev pub Stands : List Item → List Item → Node → Type 0
Stands program earlier n = (later : List Item) × (reverse program ≡ later ++ NodeItem n ∷ earlier)

-- In the program of every text strong conditions are plain.
abbrev pub TextConditionsLaw : Type 0
TextConditionsLaw = (text : List ℕ) (tokens : List Token) (program : List Item) → AreTokensOf text tokens → IsProgram (lexemes text tokens) program → EachNode NodeStrongPlain program

-- Where they are, no contract of a ready program holds a call: an inlined one is replaced, and shapes have no plain one.
abbrev pub ReadyContractsLaw : Type 0
ReadyContractsLaw = (program after : List Item) → IsReady program after → EachNode NodeStrongPlain program → ContractsCallNothing after

-- A ready program with ranks, in which each enumeration has a constructor and strong conditions are plain, as in the program of every text.
pub record IsInOrder (program after : List Item) (ranks : List (List ℕ)) : Type 0 where
  pub ready : IsReady program after
  pub ordered : AllFall after ranks
  pub constructors : TypesHaveConstructors (types_of program)
  pub conditions : EachNode NodeStrongPlain program

-- The program of a text that is judged, arranged and ordered is such, and each of its nodes stands behind the items before it.
abbrev pub TextOrderLaw : Type 0
TextOrderLaw =
    (text : List ℕ) (tokens : List Token) (program after : List Item) (ranks : List (List ℕ)) → AreTokensOf text tokens → IsProgram (lexemes text tokens) program
    → WellNamed program → WellTyped program → WellDefined program → IsFormed program → IsInitialised (replaced program) → AreWritten IsClocked (replaced program) after → AllFall after ranks
    → IsInOrder program after ranks

abbrev pub StandsLaw : Type 0
StandsLaw = (program : List Item) (f : List ℕ) (n : Node) → node_among (reverse program) f ≡ Some n → (earlier : List Item) × Stands program earlier n

-- Each node of it has what the game on its memories asks: it is settled,
abbrev pub ReadySettledLaw : Type 0
ReadySettledLaw = (program after : List Item) (ranks : List (List ℕ)) → IsInOrder program after ranks → (earlier : List Item) (n : Node) → Stands after earlier n → (class : Classing) × IsSettled after class earlier n

-- and what its registers hold at first is in shape.
abbrev pub ReadyShapeLaw : Type 0
ReadyShapeLaw =
    (program after : List Item) (ranks : List (List ℕ)) → IsInOrder program after ranks → (earlier : List Item) (n : Node) → Stands after earlier n
    → InShape (types_of after) earlier n (zero_at (registers after n)) (memory after n [])

-- So where a machine mirrors the node, what is forced at first on histories without Nil is forced on the machine,
abbrev pub ReadyFilledGameLaw : Type 0
ReadyFilledGameLaw =
    (program after : List Item) (ranks : List (List ℕ)) → IsInOrder program after ranks → (earlier : List Item) (n : Node) (m : Machine) → Stands after earlier n → Mirrors after earlier n m
    → (k : ℕ) → FilledForced after earlier n k [] ↔ ForcedOn (game m) k m.init

-- and nothing ever is exactly where the machine is safe.
abbrev pub ReadyFilledSafeLaw : Type 0
ReadyFilledSafeLaw =
    (program after : List Item) (ranks : List (List ℕ)) → IsInOrder program after ranks → (earlier : List Item) (n : Node) (m : Machine) → Stands after earlier n → Mirrors after earlier n m
    → FilledSafe after earlier n [] ↔ SafeOn (game m) m.init

-- Nil does not bear: where each given value is of its type, what is forced at first on the abstraction is forced on histories without Nil,
abbrev pub ReadyNilLaw : Type 0
ReadyNilLaw =
    (program after : List Item) (ranks : List (List ℕ)) → IsInOrder program after ranks → (earlier : List Item) (n : Node) → Stands after earlier n
    → (k : ℕ) → FittingForced after earlier n k [] ↔ FilledForced after earlier n k []

-- so it is forced on the machine,
abbrev pub ReadyFittingGameLaw : Type 0
ReadyFittingGameLaw =
    (program after : List Item) (ranks : List (List ℕ)) → IsInOrder program after ranks → (earlier : List Item) (n : Node) (m : Machine) → Stands after earlier n → Mirrors after earlier n m
    → (k : ℕ) → FittingForced after earlier n k [] ↔ ForcedOn (game m) k m.init

-- and nothing ever is exactly where the machine is safe.
abbrev pub ReadyFittingSafeLaw : Type 0
ReadyFittingSafeLaw =
    (program after : List Item) (ranks : List (List ℕ)) → IsInOrder program after ranks → (earlier : List Item) (n : Node) (m : Machine) → Stands after earlier n → Mirrors after earlier n m
    → FittingSafe after earlier n [] ↔ SafeOn (game m) m.init

-- Later too: to each such history there is one without Nil, which has the same value wherever the first one's is not Nil, and what is forced
-- after the first is forced from the bits that the second leaves.
abbrev pub ReadyHistoryLaw : Type 0
ReadyHistoryLaw =
    (program after : List Item) (ranks : List (List ℕ)) → IsInOrder program after ranks → (earlier : List Item) (n : Node) (m : Machine) → Stands after earlier n → Mirrors after earlier n m
    → (history : Past) → AllFitting after earlier n history
    → (other : Past) × (AllFilled after earlier n other × (PastsUnder history other × ((k : ℕ) → FittingForced after earlier n k history ↔ ForcedOn (game m) k (bits after n other))))
