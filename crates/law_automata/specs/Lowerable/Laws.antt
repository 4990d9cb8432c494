-- Judged and arranged programs meet what removing automata asks of them, so it keeps their runs.
use Rattle.std.specs.Prelude.{◌≡◌, ℕ, true, false, List, map, reverse, Some}
use Rattle.hp_base.specs.declared.value.Value.{Value}
use Rattle.hp_base.specs.declared.value.Value.TheVariants.{Nil}
use Rattle.hp_lexer.specs.Lexing.{AreTokensOf}
use Rattle.hp_lexer.specs.declared.token.Token.{Token}
use Rattle.hp_parser.specs.Lexemes.{lexemes}
use Rattle.hp_parser.specs.Programs.{IsProgram}
use Rattle.hp_tree.specs.declared.program.Item.{Item}
use Rattle.hp_tree.specs.Programs.{Node}
use Rattle.hp_tree.specs.Operators.{filled}
use Rattle.hp_tree.specs.Values.{AreOf}
use Rattle.hp_tree.specs.Instant.{Instant, Past}
use Rattle.hp_tree.specs.Meaning.{meaning, types_of, node_among}
use Rattle.hp_tree.specs.Reaction.{Reaction, Each, outputs_at, IsRun}
use Rattle.hp_meaning.specs.Causal.OneReaction.{ReactionOf}
use Rattle.hp_meaning.specs.Causal.RanksOfPoints.{AllFall}
use Rattle.hp_meaning.specs.Causal.Runs.{NoControls}
use Rattle.hp_names.specs.Rules.{WellNamed}
use Rattle.hp_typing.specs.Rules.{WellTyped}
use Rattle.hp_typing.specs.DefinitionRules.{WellDefined}
use Rattle.hp_init.specs.Initialised.{IsInitialised}
use Rattle.hp_clocks.specs.Writing.{AreWritten}
use Rattle.hp_clocks.specs.Answers.{IsClocked}
use Rattle.hp_expand.specs.Refusals.{IsFormed}
use Rattle.hp_expand.specs.Numbering.{replaced}
use Rattle.law_values.specs.Valued.Values.{GivenFits}
use Rattle.law_values.specs.Accepted.Laws.{IsReady}
use Rattle.hp_automata.specs.Lowering.{lowered_program}
use Rattle.law_automata.specs.Lowered.Deciding.{IsDecided}
use Rattle.law_automata.specs.Lowered.Removable.{IsRemovable}

-- The automata of the program of a text that the judgements accept, and that is arranged, may be removed: its names are told from those
-- that this makes, each name has one equation in its block, conditions of transitions are plain and go to states of their automaton, and
-- there are not too many states, transitions and automata within one another.
abbrev pub RemovableTextLaw : Type 0
RemovableTextLaw =
    (text : List ℕ) (tokens : List Token) (program after : List Item) → AreTokensOf text tokens → IsProgram (lexemes text tokens) program
    → WellNamed program → WellTyped program → WellDefined program → IsFormed program → IsInitialised (replaced program) → AreWritten IsClocked (replaced program) after
    → IsRemovable after

-- In each reaction of a ready program whose points have ranks, over inputs of their types, conditions of transitions have truth values.
abbrev pub DecidedLaw : Type 0
DecidedLaw =
    (program after : List Item) (ranks : List (List ℕ)) → IsReady program after → AllFall after ranks
    → (f : List ℕ) (n : Node) (inputs : List (List Value)) (frees : List Instant) (past : Past)
    → node_among (reverse after) f ≡ Some n → Each (AreOf (types_of after) n.inputs) inputs
    → Each (GivenFits (types_of after) true (λ given. Nil) (reverse after) f) frees → Reaction after f inputs frees past
    → Each (IsDecided after f) past

-- The same of its filled form.
abbrev pub FilledDecidedLaw : Type 0
FilledDecidedLaw =
    (program after : List Item) (ranks : List (List ℕ)) → IsReady program after → AllFall after ranks
    → (f : List ℕ) (n : Node) (inputs : List (List Value)) (frees : List Instant) (past : Past)
    → node_among (reverse after) f ≡ Some n → Each (AreOf (types_of after) n.inputs) inputs
    → Each (GivenFits (types_of after) false (λ given. given) (reverse after) f) frees → ReactionOf (meaning filled after f) inputs frees past
    → Each (IsDecided after f) past

-- So, where there are no controllable variables, each reaction of the program gives one of the program without automata, over the same
-- inputs and with the same outputs, and that program has no reaction with other ones.
abbrev pub KeptLaw : Type 0
KeptLaw =
    (program after : List Item) (ranks : List (List ℕ)) → IsReady program after → IsRemovable after → AllFall after ranks → NoControls after
    → (f : List ℕ) (n : Node) (inputs : List (List Value)) (frees : List Instant) (past : Past)
    → node_among (reverse after) f ≡ Some n → Each (AreOf (types_of after) n.inputs) inputs → Reaction after f inputs frees past
    → ((past' : Past) × (Reaction (lowered_program after) f inputs frees past' × (map (outputs_at (lowered_program after) f) past' ≡ map (outputs_at after f) past)))
    × ((frees' : List Instant) (past' : Past) → Reaction (lowered_program after) f inputs frees' past' → map (outputs_at (lowered_program after) f) past' ≡ map (outputs_at after f) past)

-- So a run of the program is one of the program without automata.
abbrev pub RunLaw : Type 0
RunLaw =
    (program after : List Item) (ranks : List (List ℕ)) → IsReady program after → IsRemovable after → AllFall after ranks → NoControls after
    → (f : List ℕ) (inputs outputs : List (List Value)) → IsRun after f inputs outputs → IsRun (lowered_program after) f inputs outputs
