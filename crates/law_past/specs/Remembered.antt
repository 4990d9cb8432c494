-- In accepted programs the formulas that contracts remember are over Boolean variables, so their values are those of the formulas.
-- Source: own. It joins two laws: values have the types of their places; and what remembers a formula of Boolean variables has the formula's value.
use Rattle.std.specs.Prelude.{ℕ, true, List, [], ◌∷◌, reverse}
use Rattle.hp_base.specs.declared.value.Value.{Value}
use Rattle.hp_base.specs.declared.value.Value.TheVariants.{Nil}
use Rattle.hp_lexer.specs.Lexing.{AreTokensOf}
use Rattle.hp_lexer.specs.declared.token.Token.{Token}
use Rattle.hp_parser.specs.Lexemes.{lexemes}
use Rattle.hp_parser.specs.Programs.{IsProgram}
use Rattle.hp_tree.specs.declared.program.Item.{Item}
use Rattle.hp_tree.specs.Instant.{Instant, Past, Observer, Named}
use Rattle.hp_tree.specs.Meaning.{types_of}
use Rattle.hp_tree.specs.Programs.{Contract}
use Rattle.hp_tree.specs.Reaction.{Each, Reaction}
use Rattle.hp_tree.specs.Values.{AreOf}
use Rattle.hp_meaning.specs.Causal.RanksOfPoints.{AllFall}
use Rattle.hp_names.specs.Rules.{WellNamed}
use Rattle.hp_typing.specs.Rules.{WellTyped}
use Rattle.hp_typing.specs.DefinitionRules.{WellDefined}
use Rattle.hp_expand.specs.Numbering.{replaced}
use Rattle.hp_expand.specs.Refusals.{IsFormed}
use Rattle.hp_init.specs.Initialised.{IsInitialised}
use Rattle.hp_clocks.specs.Writing.{AreWritten}
use Rattle.hp_clocks.specs.Answers.{IsClocked}
use Rattle.hp_past.specs.Remembered.{Remembered, variable_of, Keeps, Says, AreBoolean, instants_of}
use Rattle.hp_past.specs.Remembering.{HasContract, Tells}
use Rattle.law_values.specs.Valued.Values.{GivenFits}

-- A program of a text that the judgements accept, and that is arranged. It may have controllable variables.
pub record IsChecked (text : List ℕ) (tokens : List Token) (program after : List Item) (ranks : List (List ℕ)) : Type 0 where
  pub spelled : AreTokensOf text tokens
  pub read : IsProgram (lexemes text tokens) program
  pub named : WellNamed program
  pub typed : WellTyped program
  pub defined : WellDefined program
  pub formed : IsFormed program
  pub initialised : IsInitialised (replaced program)
  pub clocks : AreWritten IsClocked (replaced program) after
  pub fall : AllFall after ranks

-- Instants of a reaction of a node with a contract, over inputs of their types, with given values of theirs.
pub record Reacts (program : List Item) (f : List ℕ) (c : Contract) (now : Instant) (past : Past) : Type 0 where
  pub contract : HasContract program f c
  pub inputs : List (List Value)
  pub frees : List Instant
  pub inputs_fit : Each (AreOf (types_of program) contract.node.inputs) inputs
  pub frees_fit : Each (GivenFits (types_of program) true (λ given. Nil) (reverse program) f) frees
  pub reaction : Reaction program f inputs frees (now ∷ past)

-- The variables of a formula that the contract remembers are Boolean at each instant,
abbrev pub BooleanLaw : Type 0
BooleanLaw =
    (text : List ℕ) (tokens : List Token) (program after : List Item) (ranks : List (List ℕ)) → IsChecked text tokens program after ranks
    → (f : List ℕ) (c : Contract) (now : Instant) (past : Past) → Reacts after f c now past → (m : Remembered) → Keeps c.body m
    → AreBoolean m (instants_of now past)

-- so the variable that remembers it is true exactly where the formula holds.
abbrev pub FormulaLaw : Type 0
FormulaLaw =
    (text : List ℕ) (tokens : List Token) (program after : List Item) (ranks : List (List ℕ)) → IsChecked text tokens program after ranks
    → (f : List ℕ) (c : Contract) (now : Instant) (past : Past) → Reacts after f c now past → (m : Remembered) → Keeps c.body m
    → Tells (now (Observer ∷ Named (variable_of m) ∷ [])) (Says m (instants_of now past))
