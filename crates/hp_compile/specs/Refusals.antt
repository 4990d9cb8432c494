-- Why a text is refused: the first of the rules that it breaks, in the order of tokens, grammar, names, types, definitions, shapes of
-- contracts, counts, clocks, initialisation and causality.
use Rattle.std.specs.Prelude.{◌≡◌, ◌≢◌, ℕ, List, Some}
use Rattle.hp_base.specs.declared.limit.Limit.{Limit}
use Rattle.hp_base.specs.declared.limit.What.{What}
use Rattle.hp_base.specs.declared.limit.What.TheVariants.{Size}
use Rattle.hp_base.specs.declared.span.Span.{Span}
use Rattle.hp_lexer.specs.Lexing.{AreTokensOf, Refuses}
use Rattle.hp_lexer.specs.declared.lexer.LexErr.{LexErr}
use Rattle.hp_lexer.specs.declared.lexer.LexErr.TheVariants as lexing
use Rattle.hp_lexer.specs.declared.token.Token.{Token}
use Rattle.hp_tree.specs.declared.program.Item.{Item}
use Rattle.hp_parser.specs.Lexemes.{lexemes}
use Rattle.hp_parser.specs.Refusals as parser
use Rattle.hp_parser.specs.declared.parsing.ParseErr.{ParseErr}
use Rattle.hp_parser.specs.declared.parsing.ParseErr.TheVariants as parsing
use Rattle.hp_expand.specs.Numbering.{replaced}
use Rattle.hp_clocks.specs.Answers.{Refuses as ClocksRefused}
use Rattle.hp_compile.specs.Arranged.{HasClocks, IsWellFormed, first_breach}
use Rattle.hp_clocks.specs.declared.error.ClockErr.{ClockErr}
use Rattle.hp_clocks.specs.declared.error.ClockErr.TheVariants as clock_error
use Rattle.hp_init.specs.Answers.{NamesLate}
use Rattle.hp_init.specs.Initialised.{IsInitialised}
use Rattle.hp_init.specs.declared.error.InitErr.{InitErr}
use Rattle.hp_init.specs.declared.error.InitErr.TheVariants as init_error
use Rattle.hp_cause.specs.Answers.{NamesCycle}
use Rattle.hp_cause.specs.declared.error.CauseErr.{CauseErr}
use Rattle.hp_cause.specs.declared.error.CauseErr.TheVariants as cause_error
use Rattle.hp_expand.specs.declared.error.ExpandErr.{ExpandErr}
use Rattle.hp_expand.specs.declared.error.ExpandErr.TheVariants as expand_error
use Rattle.hp_names.specs.Breaches as names
use Rattle.hp_names.specs.Claims as naming
use Rattle.hp_names.specs.Rules.{WellNamed}
use Rattle.hp_names.specs.declared.error.NameErr.{NameErr}
use Rattle.hp_names.specs.declared.error.NameErr.TheVariants as name_error
use Rattle.hp_typing.specs.Breaches as types
use Rattle.hp_typing.specs.Claims as typing
use Rattle.hp_typing.specs.Definedness.{definition_claims}
use Rattle.hp_typing.specs.DefinitionRules.{WellDefined}
use Rattle.hp_typing.specs.Rules.{WellTyped}
use Rattle.hp_typing.specs.declared.error.TypeErr.{TypeErr}
use Rattle.hp_typing.specs.declared.error.TypeErr.TheVariants as type_error
use Rattle.hp_compile.specs.Judged.{IsProgramOf, IsJudged}
use Rattle.hp_compile.specs.declared.refusal.Place.{Place}
use Rattle.hp_compile.specs.declared.refusal.Place.TheVariants.{Whole, At}
use Rattle.hp_compile.specs.declared.refusal.Refusal.{Refusal}
use Rattle.hp_compile.specs.declared.refusal.Refusal.TheVariants as refusal

-- the limit of a text is passed by the text as a whole, another at its place
abbrev pub place_of : What → Span → Place
place_of Size span = Whole
place_of what span = At span

-- an error of each step as the refusal of the text
abbrev pub of_lexing : LexErr → Refusal
of_lexing (lexing.Bad span) = refusal.Lex span
of_lexing (lexing.Limit span limit) = refusal.Limit (place_of limit.what span) limit
of_lexing lexing.OutOfMemory = refusal.OutOfMemory

abbrev pub of_parsing : ParseErr → Refusal
of_parsing (parsing.Bad span) = refusal.Parse span
of_parsing (parsing.Limit span limit) = refusal.Limit (At span) limit
of_parsing parsing.OutOfMemory = refusal.OutOfMemory

abbrev pub of_names : NameErr → Refusal
of_names name_error.OutOfMemory = refusal.OutOfMemory
of_names e = refusal.Name e

abbrev pub of_types : TypeErr → Refusal
of_types type_error.OutOfMemory = refusal.OutOfMemory
of_types e = refusal.Types e

abbrev pub of_expanding : ExpandErr → Refusal
of_expanding expand_error.OutOfMemory = refusal.OutOfMemory
of_expanding e = refusal.Expand e

abbrev pub of_clocks : ClockErr → Refusal
of_clocks clock_error.OutOfMemory = refusal.OutOfMemory
of_clocks e = refusal.Clocks e

abbrev pub of_init : InitErr → Refusal
of_init init_error.OutOfMemory = refusal.OutOfMemory
of_init e = refusal.Init e

abbrev pub of_cause : CauseErr → Refusal
of_cause cause_error.OutOfMemory = refusal.OutOfMemory
of_cause e = refusal.Cause e

-- Why the text is refused, if not for want of memory.
pub data Causes (text : List ℕ) : Refusal → Type 0 where
  -- at the place no token begins, or a comment or a number is none
  no_token : {span : Span} → Refuses text (lexing.Bad span) → Causes text (refusal.Lex span)
  -- the text or a name is too long
  too_long : {span : Span} {limit : Limit} → Refuses text (lexing.Limit span limit) → Causes text (refusal.Limit (place_of limit.what span) limit)
  -- its tokens begin no program at the place
  no_program : {span : Span} (tokens : List Token) → AreTokensOf text tokens → parser.IsBad text (lexemes text tokens) span → Causes text (refusal.Parse span)
  -- at the place they begin no program within the limits
  too_much : {span : Span} {limit : Limit} (tokens : List Token) → AreTokensOf text tokens → parser.PassesLimit (lexemes text tokens) span limit →
      Causes text (refusal.Limit (At span) limit)
  -- this is the first breach of the rules on names
  misnamed : {e : NameErr} (program : List Item) → IsProgramOf text program → names.NamesFirst (names.breaches (naming.claims program)) e → e ≢ name_error.OutOfMemory →
      Causes text (refusal.Name e)
  -- its names are well used, and this is the first wrong type, or where there is none the first wrong definition
  mistyped : {e : TypeErr} (program : List Item) → IsProgramOf text program → WellNamed program → types.NamesFirst (types.or_else (types.breaches (typing.claims program)) (types.breaches (definition_claims program))) e →
      e ≢ type_error.OutOfMemory → Causes text (refusal.Types e)
  -- its names and types are right, and this is the first breach of the shapes of contracts, or where there is none the first limit that is passed once its inlined calls are replaced
  misformed : {e : ExpandErr} (program : List Item) → IsProgramOf text program → WellNamed program → WellTyped program → WellDefined program → first_breach program ≡ Some e →
      Causes text (refusal.Expand e)
  -- its names, types and counts are right, and with its inlined calls replaced this is the first unit such that the units up to it allow no clocks, or where there is none the
  -- first clock that is too long
  misclocked : {e : ClockErr} (program : List Item) → IsJudged text program → IsWellFormed program → ClocksRefused (replaced program) e → e ≢ clock_error.OutOfMemory →
      Causes text (refusal.Clocks e)
  -- it has clocks, and this is the first unit that wants a value from the first instant on which is not there
  late : {e : InitErr} (program clocked : List Item) → IsJudged text program → IsWellFormed program → HasClocks (replaced program) clocked → NamesLate (replaced program) e → e ≢ init_error.OutOfMemory →
      Causes text (refusal.Init e)
  -- its values are there from the first instant on, and these are the points of a cycle of reads in the first node that has one
  cyclic : {e : CauseErr} (program clocked : List Item) → IsJudged text program → IsWellFormed program → HasClocks (replaced program) clocked → IsInitialised (replaced program) → NamesCycle clocked e →
      e ≢ cause_error.OutOfMemory → Causes text (refusal.Cause e)

abbrev pub IsRefused : List ℕ → Refusal → Type 0
IsRefused text refusal.OutOfMemory = Unit {0}
IsRefused text r = Causes text r
