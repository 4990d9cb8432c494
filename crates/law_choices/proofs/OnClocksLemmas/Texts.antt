-- The nodes that are made of the program of a text are well made.
use Rattle.std.proofs.Common.{ℕ, List}
use Rattle.hp_lexer.specs.Lexing.{AreTokensOf}
use Rattle.hp_lexer.specs.declared.token.Token.{Token}
use Rattle.hp_parser.specs.Lexemes.{lexemes}
use Rattle.hp_parser.specs.Programs.{IsProgram}
use Rattle.hp_obc.specs.Form.{TypesForm}
use Rattle.hp_tree.specs.declared.program.Item.{Item}
use Rattle.hp_clocks.specs.Writing.{AreWritten}
use Rattle.hp_clocks.specs.Answers.{IsClocked}
use Rattle.hp_expand.specs.Numbering.{replaced}
use Rattle.hp_names.specs.Rules.{WellNamed}
use Rattle.hp_typing.specs.Rules.{WellTyped}
use Rattle.hp_typing.specs.DefinitionRules.{WellDefined}
use Rattle.hp_init.specs.Initialised.{IsInitialised}
use Rattle.hp_expand.specs.Refusals.{IsFormed}
use Rattle.law_judged.specs.Named.Scoped.{EachNode}
use Rattle.law_values.specs.Accepted.Laws.{IsReady}
use Rattle.law_automata.specs.Lowered.Removable.{IsRemovable}
use Rattle.law_equations.specs.Made.Types.{obc_types_of}
use Rattle.law_wellmade.specs.Spelled.Integers.{NodeShort}
use Rattle.law_values.proofs.AcceptedLemmas.Laws.{ready_text}
use Rattle.law_automata.proofs.LowerableLemmas.Texts.{clocked_of, removable}
use Rattle.law_wellmade.proofs.SpelledLemmas.Joined.{replaced_text_integers, types}
use Rattle.law_wellmade.proofs.RegularLemmas.Clocked.{short_clocked}
use Rattle.law_equations.specs.Fitting.Fitting.{TargetsLaw}
use Rattle.law_choices.specs.OnClocks.WellMade.{TextLaw}
use Rattle.law_choices.proofs.OnClocksLemmas.WellMade.{made_law}

-- What the program of a text has that the judgements accept.
pub record IsArranged (program after : List Item) : Type 0 where
  pub ready : IsReady program after
  pub removable : IsRemovable after
  pub form : TypesForm (obc_types_of program)
  pub short : EachNode NodeShort after

pub when_accepted : (text : List ℕ) (tokens : List Token) (program after : List Item) → AreTokensOf text tokens → IsProgram (lexemes text tokens) program → WellNamed program → WellTyped program → WellDefined program → IsFormed program → IsInitialised (replaced program)
    → AreWritten IsClocked (replaced program) after → IsArranged program after
when_accepted text tokens program after a p n t d f i c =
    let r = ready_text text tokens program after a p n t d f i c in
    record {
      ready = r;
      removable = removable text tokens program after a p r;
      form = types text tokens program a p n;
      short = short_clocked (replaced program) after (clocked_of (replaced program) after c) (replaced_text_integers text tokens program a p);
    }

pub text_law : TargetsLaw → TextLaw
text_law law text tokens program after a p n t d f i c fs made =
    let q = when_accepted text tokens program after a p n t d f i c in
    made_law law program after q.ready q.removable q.form q.short fs made
