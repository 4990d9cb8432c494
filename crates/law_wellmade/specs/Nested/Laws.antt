-- Clocks of clocked equations are short: an equation has a step for each arm around it, those of the clock that is written for its names, and one more in a part of a `merge`.
use Rattle.std.specs.Prelude.{ℕ, suc, ◌+◌, ◌≤◌, List, length}
use Rattle.std.specs.List.{AllByRecursion}
use Rattle.hp_lexer.specs.Lexing.{AreTokensOf}
use Rattle.hp_lexer.specs.declared.token.Token.{Token}
use Rattle.hp_parser.specs.Lexemes.{lexemes}
use Rattle.hp_parser.specs.Programs.{IsProgram}
use Rattle.hp_tree.specs.declared.program.Item.{Item}
use Rattle.hp_tree.specs.Programs.{Node}
use Rattle.hp_names.specs.Rules.{WellNamed}
use Rattle.hp_typing.specs.Rules.{WellTyped}
use Rattle.hp_typing.specs.DefinitionRules.{WellDefined}
use Rattle.hp_meaning.specs.Causal.Clocked.{ClocksRight}
use Rattle.hp_meaning.specs.Clocking.EveryClock.{IsLong}
use Rattle.hp_init.specs.Initialised.{IsInitialised}
use Rattle.hp_clocks.specs.Writing.{AreWritten}
use Rattle.hp_clocks.specs.Answers.{IsClocked}
use Rattle.hp_expand.specs.Refusals.{IsFormed}
use Rattle.hp_expand.specs.Numbering.{replaced}
use Rattle.hp_automata.specs.Lowering.{Enumerations, lowered_node, lowered_program}
use Rattle.hp_complete.specs.Made.{AreMadeOf}
use Rattle.hp_flat.specs.Equations.{FlatEqn}
use Rattle.hp_flat.specs.Nodes.{FlatNode}
use Rattle.law_equations.specs.Made.Making.{Known, sketch_node}
use Rattle.law_wellmade.specs.Nested.Nested.{arms_of_block, BlockShort}

-- The equations of a node whose clocks are right, and have at most so many steps where they are written.
abbrev pub NodeLaw : Type 0
NodeLaw =
    (k : Known) (limit : ℕ) (n : Node) → ClocksRight n → BlockShort limit n.body
    → AllByRecursion (λ (e : FlatEqn). length e.clock ≤ arms_of_block n.body + suc limit) (sketch_node k n).eqns

-- The clocks of names have at most as many steps as the longest clock of the node.
abbrev pub WrittenLaw : Type 0
WrittenLaw = (limit : ℕ) (n : Node) → (IsLong limit n → ⊥) → BlockShort limit n.body

-- Removing automata makes no more levels of arms, and no longer clocks.
abbrev pub LoweredLaw : Type 0
LoweredLaw =
    (enums : Enumerations) (limit : ℕ) (n : Node)
    → (arms_of_block (lowered_node enums n).body ≤ arms_of_block n.body) × (BlockShort limit n.body → BlockShort limit (lowered_node enums n).body)

-- The clock of an equation that is made of the program of a text has at most 128 steps: 63 for arms, 64 that are written, and one of a `merge`.
abbrev pub TextLaw : Type 0
TextLaw =
    (text : List ℕ) (tokens : List Token) (program after : List Item) (k : Known) (fs : List FlatNode) → AreTokensOf text tokens → IsProgram (lexemes text tokens) program
    → WellNamed program → WellTyped program → WellDefined program → IsFormed program → IsInitialised (replaced program) → AreWritten IsClocked (replaced program) after
    → AreMadeOf k (lowered_program after) fs → AllByRecursion (λ (f : FlatNode). AllByRecursion (λ (e : FlatEqn). length e.clock ≤ 128) f.eqns) fs
