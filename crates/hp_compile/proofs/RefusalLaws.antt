-- The errors of the steps are causes of a refusal.
use Rattle.std.proofs.Common.{◌≡◌, ◌≢◌, ℕ, List, None, Some, Result, Ok, Err, refl, ap, sym, subst, ◌∙◌}
use Rattle.std.specs.Prelude.{IfErr, MatchResult, IsErrAnd}
use Rattle.hp_lexer.specs.Lexing.{AreTokensOf, Refuses}
use Rattle.hp_lexer.specs.declared.lexer.LexErr.{LexErr}
use Rattle.hp_lexer.specs.declared.lexer.LexErr.TheVariants as lexing
use Rattle.hp_lexer.specs.declared.token.Token.{Token}
use Rattle.hp_tree.specs.declared.program.Item.{Item}
use Rattle.hp_parser.specs.Lexemes.{lexemes}
use Rattle.hp_parser.specs.Refusals as parser
use Rattle.hp_parser.specs.declared.parsing.ParseErr.{ParseErr}
use Rattle.hp_parser.specs.declared.parsing.ParseErr.TheVariants as parsing
use Rattle.hp_expand.specs.Refusals.{refusal_of, IsFormed, Names}
use Rattle.hp_expand.specs.declared.error.ExpandErr.{ExpandErr}
use Rattle.hp_expand.specs.declared.error.ExpandErr.TheVariants as expand_error
use Rattle.hp_expand.specs.Numbering.{replaced}
use Rattle.hp_clocks.specs.Answers.{Refuses as ClocksRefused}
use Rattle.hp_compile.specs.Arranged.{HasClocks, IsWellFormed}
use Rattle.hp_clocks.specs.declared.error.ClockErr.{ClockErr}
use Rattle.hp_clocks.specs.declared.error.ClockErr.TheVariants as clock_error
use Rattle.hp_init.specs.Answers.{NamesLate}
use Rattle.hp_init.specs.Initialised.{IsInitialised}
use Rattle.hp_init.specs.declared.error.InitErr.{InitErr}
use Rattle.hp_init.specs.declared.error.InitErr.TheVariants as init_error
use Rattle.hp_cause.specs.Answers.{NamesCycle}
use Rattle.hp_cause.specs.declared.error.CauseErr.{CauseErr}
use Rattle.hp_cause.specs.declared.error.CauseErr.TheVariants as cause_error
use Rattle.hp_names.specs.Breaches as names
use Rattle.hp_names.specs.Claims as naming
use Rattle.hp_names.specs.Rules.{WellNamed}
use Rattle.hp_names.specs.declared.error.NameErr.{NameErr}
use Rattle.hp_names.specs.declared.error.NameErr.TheVariants as name_error
use Rattle.hp_typing.specs.Breaches as types
use Rattle.hp_typing.specs.Claims as typing
use Rattle.hp_typing.specs.Definedness.{definition_claims}
use Rattle.hp_typing.specs.declared.error.TypeErr.{TypeErr}
use Rattle.hp_typing.specs.declared.error.TypeErr.TheVariants as type_error
use Rattle.hp_compile.specs.declared.refusal.Refusal.{Refusal}
use Rattle.hp_compile.specs.declared.refusal.Refusal.TheVariants as refusal
use Rattle.hp_compile.specs.Judged.{IsProgramOf, IsJudged}
use Rattle.hp_compile.proofs.FormLaws.{one_breach, well_formed, formed}
use Rattle.hp_compile.specs.Refusals.{Causes, IsRefused, of_lexing, of_parsing, of_names, of_types, of_expanding, of_clocks, of_init, of_cause}

pub lexing_refuses : (text : List ℕ) (e : LexErr) → (e ≢ lexing.OutOfMemory → Refuses text e) → IsRefused text (of_lexing e)
lexing_refuses text (lexing.Bad span) h = Causes.no_token (h (λ p. cc))
lexing_refuses text (lexing.Limit span limit) h = Causes.too_long (h (λ p. cc))
lexing_refuses text lexing.OutOfMemory h = tt

pub parsing_refuses : (text : List ℕ) (tokens : List Token) (e : ParseErr) → AreTokensOf text tokens → parser.IsRefused text (lexemes text tokens) e → IsRefused text (of_parsing e)
parsing_refuses text tokens (parsing.Bad span) spelled h = Causes.no_program tokens spelled h
parsing_refuses text tokens (parsing.Limit span limit) spelled h = Causes.too_much tokens spelled h
parsing_refuses text tokens parsing.OutOfMemory spelled h = tt

pub names_refuse : (text : List ℕ) (program : List Item) (e : NameErr) → IsProgramOf text program → names.NamesFirst (names.breaches (naming.claims program)) e → IsRefused text (of_names e)
names_refuse text program (name_error.Unknown x at) p h = Causes.misnamed program p h (λ q. cc)
names_refuse text program (name_error.Twice x at) p h = Causes.misnamed program p h (λ q. cc)
names_refuse text program name_error.OutOfMemory p h = tt

pub types_refuse : (text : List ℕ) (program : List Item) (e : TypeErr) → IsProgramOf text program → WellNamed program → types.NamesFirst (types.or_else (types.breaches (typing.claims program)) (types.breaches (definition_claims program))) e →
    IsRefused text (of_types e)
types_refuse text program (type_error.Wrong at t u) p n h = Causes.mistyped program p n h (λ q. cc)
types_refuse text program (type_error.Undefined x at) p n h = Causes.mistyped program p n h (λ q. cc)
types_refuse text program (type_error.Twice x at) p n h = Causes.mistyped program p n h (λ q. cc)
types_refuse text program (type_error.Branch x at) p n h = Causes.mistyped program p n h (λ q. cc)
types_refuse text program type_error.OutOfMemory p n h = tt

some_none : (e : ExpandErr) → Some e ≡ None → ⊥
some_none e h = cc

pub form_refuses : (text : List ℕ) (program : List Item) (e : ExpandErr) → IsJudged text program → Names (refusal_of program) e → IsRefused text (of_expanding e)
form_refuses text program (expand_error.Shape node at shape) j h = Causes.misformed program j.program_of j.named j.typed j.defined (sym (one_breach text program j) ∙ h)
form_refuses text program (expand_error.Limit node limit) j h = Causes.misformed program j.program_of j.named j.typed j.defined (sym (one_breach text program j) ∙ h)
form_refuses text program expand_error.OutOfMemory j h = tt

-- of a well-formed program nothing is said but want of memory
pub form_memory : (text : List ℕ) (program : List Item) (e : ExpandErr) → IsJudged text program → IsWellFormed program → Names (refusal_of program) e → e ≡ expand_error.OutOfMemory
form_memory text program (expand_error.Shape node at shape) j w h = absurd (some_none (expand_error.Shape node at shape) (sym h ∙ formed text program j w))
form_memory text program (expand_error.Limit node limit) j w h = absurd (some_none (expand_error.Limit node limit) (sym h ∙ formed text program j w))
form_memory text program expand_error.OutOfMemory j w h = refl

pub clocks_refuse : (text : List ℕ) (program : List Item) (e : ClockErr) → IsJudged text program → IsFormed program → ClocksRefused (replaced program) e → IsRefused text (of_clocks e)
clocks_refuse text program (clock_error.Clash node at) j f h = Causes.misclocked program j (well_formed text program j f) h (λ q. cc)
clocks_refuse text program (clock_error.Limit node limit) j f h = Causes.misclocked program j (well_formed text program j f) h (λ q. cc)
clocks_refuse text program clock_error.OutOfMemory j f h = tt

pub init_refuses : (text : List ℕ) (program clocked : List Item) (e : InitErr) → IsJudged text program → IsFormed program → HasClocks (replaced program) clocked → NamesLate (replaced program) e → IsRefused text (of_init e)
init_refuses text program clocked (init_error.Late node at) j f c h = Causes.late program clocked j (well_formed text program j f) c h (λ q. cc)
init_refuses text program clocked init_error.OutOfMemory j f c h = tt

pub cause_refuses : (text : List ℕ) (program clocked : List Item) (e : CauseErr) → IsJudged text program → IsFormed program → HasClocks (replaced program) clocked → IsInitialised (replaced program) →
    NamesCycle clocked e → IsRefused text (of_cause e)
cause_refuses text program clocked (cause_error.Cycle node points) j f c i h = Causes.cyclic program clocked j (well_formed text program j f) c i h (λ q. cc)
cause_refuses text program clocked cause_error.OutOfMemory j f c i h = tt

-- want of memory is answered as such
pub names_memory : (p : List Item) (r : Result (List Item) Refusal) (e : NameErr) → e ≡ name_error.OutOfMemory → IsErrAnd r (λ f. f ≡ of_names e) → MatchResult r (λ found. found ≡ p) (λ f. f ≡ refusal.OutOfMemory)
names_memory p (Ok q) e m h = absurd h
names_memory p (Err f) e m h = h ∙ ap of_names m

pub types_memory : (p : List Item) (r : Result (List Item) Refusal) (e : TypeErr) → e ≡ type_error.OutOfMemory → IsErrAnd r (λ f. f ≡ of_types e) → MatchResult r (λ found. found ≡ p) (λ f. f ≡ refusal.OutOfMemory)
types_memory p (Ok q) e m h = absurd h
types_memory p (Err f) e m h = h ∙ ap of_types m

-- an error that is handed on
pub handed : {A : Type 0} (P : Refusal → Type 0) (r : Result A Refusal) (e : Refusal) → IsErrAnd r (λ f. f ≡ e) → P e → IfErr r P
handed P (Ok q) e h p = tt
handed P (Err f) e h p = subst P (sym h) p
