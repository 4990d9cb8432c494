-- A text has one end: it is accepted, or refused for one cause. It is shown step by step: two ends at one step are the same, and where one goes on the other does.
use Rattle.std.proofs.Common.{◌≡◌, ◌≢◌, ℕ, List, ◌⊎◌, inl, inr, Option, None, Some, refl, sym, ap, subst, ◌∙◌}
use Rattle.std.specs.Prelude.{MatchResult, IfOk, IfErr, Result, Ok, Err}
use Rattle.hp_lexer.specs.Lexing.{AreTokensOf, Refuses}
use Rattle.hp_lexer.specs.declared.lexer.LexErr.{LexErr}
use Rattle.hp_lexer.specs.declared.lexer.LexErr.TheVariants as lexing
use Rattle.hp_lexer.specs.declared.token.Token.{Token}
use Rattle.hp_lexer.proofs.Unique as lexer
use Rattle.hp_tree.specs.declared.program.Item.{Item}
use Rattle.hp_parser.specs.Lexemes.{lexemes}
use Rattle.hp_parser.specs.Programs.{IsProgram}
use Rattle.hp_parser.specs.Refusals as parser
use Rattle.hp_parser.specs.declared.parsing.ParseErr.{ParseErr}
use Rattle.hp_parser.specs.declared.parsing.ParseErr.TheVariants as parsing
use Rattle.hp_expand.specs.Numbering.{replaced}
use Rattle.hp_expand.specs.declared.error.ExpandErr.{ExpandErr}
use Rattle.hp_clocks.specs.Answers.{AreNamed, Refuses as ClocksRefused}
use Rattle.hp_clocks.specs.declared.error.ClockErr.{ClockErr}
use Rattle.hp_clocks.specs.declared.error.ClockErr.TheVariants as clock_error
use Rattle.hp_init.specs.Answers.{NamesLate}
use Rattle.hp_init.specs.Initialised.{IsInitialised}
use Rattle.hp_init.specs.declared.error.InitErr.{InitErr}
use Rattle.hp_init.specs.declared.error.InitErr.TheVariants as init_error
use Rattle.hp_cause.specs.Answers.{NamesCycle}
use Rattle.hp_cause.specs.Ordering.{AllNodesCausal}
use Rattle.hp_cause.specs.declared.error.CauseErr.{CauseErr}
use Rattle.hp_cause.specs.declared.error.CauseErr.TheVariants as cause_error
use Rattle.hp_names.specs.Breaches as names
use Rattle.hp_names.specs.Claims as naming
use Rattle.hp_names.specs.Rules.{WellNamed}
use Rattle.hp_names.specs.declared.error.NameErr.{NameErr}
use Rattle.hp_names.specs.declared.error.NameErr.TheVariants as name_error
use Rattle.hp_typing.specs.Breaches as types
use Rattle.hp_typing.specs.DefinitionRules.{WellDefined}
use Rattle.hp_typing.specs.Rules.{WellTyped}
use Rattle.hp_typing.specs.declared.error.TypeErr.{TypeErr}
use Rattle.hp_typing.specs.declared.error.TypeErr.TheVariants as type_error
use Rattle.hp_compile.specs.Arranged.{HasClocks, IsArranged, IsWellFormed, first_breach}
use Rattle.hp_compile.specs.Judged.{IsJudged, IsProgramOf}
use Rattle.hp_compile.specs.OneCause.{AreSame, Names, NoCauseLaw, OneCauseLaw}
use Rattle.hp_compile.specs.Refusals.{Causes, IsRefused, of_lexing, of_parsing}
use Rattle.hp_compile.specs.declared.refusal.Refusal.{Refusal}
use Rattle.hp_compile.specs.declared.refusal.Refusal.TheVariants as refusal
use Rattle.hp_compile.proofs.OneFault.{all_breaches, one_clock, one_late, one_name, one_node, one_type, same_clocked, well_clocked, well_initialised, well_named, well_ordered, well_typed}
use Rattle.hp_compile.proofs.OneParse.{none_refused, one_program, one_refusal}
use Rattle.hp_compile.proofs.FormLaws as forms
use Rattle.hp_compile.proofs.ReadyLaws as ready

-- ---- two ends, where one that is accepted has none

abbrev Agree : Option Refusal → Option Refusal → Type 0
Agree (Some cause) (Some other) = AreSame cause other
Agree None None = Unit {0}
Agree a b = ⊥

same_itself : (cause : Refusal) → AreSame cause cause
same_itself (refusal.Limit place limit) = refl
same_itself (refusal.Lex span) = refl
same_itself (refusal.Parse span) = refl
same_itself (refusal.Name e) = refl
same_itself (refusal.Types e) = refl
same_itself (refusal.Expand e) = refl
same_itself (refusal.Clocks e) = refl
same_itself (refusal.Init e) = refl
same_itself (refusal.Cause (cause_error.Cycle name points)) = refl
same_itself (refusal.Cause cause_error.OutOfMemory) = refl
same_itself refusal.OutOfMemory = refl

-- ends that are said of causes
agree_as : (a b : Option Refusal) (cause other : Refusal) → a ≡ Some cause → b ≡ Some other → AreSame cause other → Agree a b
agree_as a b cause other e f h = subst (λ z. Agree z b) (sym e) (subst (Agree (Some cause)) (sym f) h)

agree_by : (a b : Option Refusal) (cause other : Refusal) → a ≡ Some cause → b ≡ Some other → cause ≡ other → Agree a b
agree_by a b cause other e f same = agree_as a b cause other e f (subst (AreSame cause) same (same_itself cause))

agree_none : (a b : Option Refusal) → a ≡ None → b ≡ None → Agree a b
agree_none a b e f = subst (λ z. Agree z b) (sym e) (subst (Agree None) (sym f) tt)

-- a step ends here or goes on
step : (Here On : Option Refusal → Type 0) → ((a b : Option Refusal) → Here a → Here b → Agree a b) → ((a b : Option Refusal) → Here a → On b → ⊥) → ((a b : Option Refusal) → On a → On b → Agree a b) →
    (a b : Option Refusal) → Here a ⊎ On a → Here b ⊎ On b → Agree a b
step Here On here not on a b (inl x) (inl y) = here a b x y
step Here On here not on a b (inl x) (inr y) = absurd (not a b x y)
step Here On here not on a b (inr x) (inl y) = absurd (not b a y x)
step Here On here not on a b (inr x) (inr y) = on a b x y

-- ---- causality

record Cyclic (clocked : List Item) (end : Option Refusal) : Type 0 where
  pub error : CauseErr
  pub some : error ≢ cause_error.OutOfMemory
  pub cycle : NamesCycle clocked error
  pub is : end ≡ Some (refusal.Cause error)

record Ordered (clocked : List Item) (end : Option Refusal) : Type 0 where
  pub causal : AllNodesCausal clocked
  pub is : end ≡ None

abbrev AtCauses : List Item → Option Refusal → Type 0
AtCauses clocked end = Cyclic clocked end ⊎ Ordered clocked end

cycles_same : (clocked : List Item) (e f : CauseErr) → e ≢ cause_error.OutOfMemory → f ≢ cause_error.OutOfMemory → NamesCycle clocked e → NamesCycle clocked f → AreSame (refusal.Cause e) (refusal.Cause f)
cycles_same clocked (cause_error.Cycle name points) (cause_error.Cycle other others) some more h k = one_node clocked name other points.items others.items h k
cycles_same clocked (cause_error.Cycle name points) cause_error.OutOfMemory some more h k = absurd (more refl)
cycles_same clocked cause_error.OutOfMemory f some more h k = absurd (some refl)

causes_agree : (clocked : List Item) (a b : Option Refusal) → AtCauses clocked a → AtCauses clocked b → Agree a b
causes_agree clocked = step (Cyclic clocked) (Ordered clocked)
    (λ a b x y. agree_as a b (refusal.Cause x.error) (refusal.Cause y.error) x.is y.is (cycles_same clocked x.error y.error x.some y.some x.cycle y.cycle))
    (λ a b x y. well_ordered clocked x.error x.some y.causal x.cycle)
    (λ a b x y. agree_none a b x.is y.is)

-- ---- initialisation

record Late (items : List Item) (end : Option Refusal) : Type 0 where
  pub error : InitErr
  pub some : error ≢ init_error.OutOfMemory
  pub late : NamesLate items error
  pub is : end ≡ Some (refusal.Init error)

record Initialised (items clocked : List Item) (end : Option Refusal) : Type 0 where
  pub initialised : IsInitialised items
  pub next : AtCauses clocked end

abbrev AtInit : List Item → List Item → Option Refusal → Type 0
AtInit items clocked end = Late items end ⊎ Initialised items clocked end

init_agrees : (items clocked : List Item) (a b : Option Refusal) → AtInit items clocked a → AtInit items clocked b → Agree a b
init_agrees items clocked = step (Late items) (Initialised items clocked)
    (λ a b x y. agree_by a b (refusal.Init x.error) (refusal.Init y.error) x.is y.is (ap refusal.Init (one_late items x.error y.error x.some y.some x.late y.late)))
    (λ a b x y. well_initialised items x.error x.some y.initialised x.late)
    (λ a b x y. causes_agree clocked a b x.next y.next)

-- ---- clocks

record Misclocked (items : List Item) (end : Option Refusal) : Type 0 where
  pub error : ClockErr
  pub some : error ≢ clock_error.OutOfMemory
  pub refuses : ClocksRefused items error
  pub is : end ≡ Some (refusal.Clocks error)

record Clocked (items : List Item) (end : Option Refusal) : Type 0 where
  pub clocked : List Item
  pub clocks : HasClocks items clocked
  pub next : AtInit items clocked end

abbrev AtClocks : List Item → Option Refusal → Type 0
AtClocks items end = Misclocked items end ⊎ Clocked items end

clocks_agree : (items : List Item) → AreNamed items → (a b : Option Refusal) → AtClocks items a → AtClocks items b → Agree a b
clocks_agree items known = step (Misclocked items) (Clocked items)
    (λ a b x y. agree_by a b (refusal.Clocks x.error) (refusal.Clocks y.error) x.is y.is (ap refusal.Clocks (one_clock items known x.error y.error x.some y.some x.refuses y.refuses)))
    (λ a b x y. well_clocked items known y.clocked x.error x.some y.clocks x.refuses)
    (λ a b x y.
    let same : x.clocked ≡ y.clocked = same_clocked items x.clocked y.clocked x.clocks y.clocks in
    init_agrees items x.clocked a b x.next (subst (λ z. AtInit items z b) (sym same) y.next))

-- ---- shapes and counts

record Misformed (program : List Item) (end : Option Refusal) : Type 0 where
  pub error : ExpandErr
  pub first : first_breach program ≡ Some error
  pub is : end ≡ Some (refusal.Expand error)

record Formed (program : List Item) (end : Option Refusal) : Type 0 where
  pub formed : IsWellFormed program
  pub next : AtClocks (replaced program) end

abbrev AtForms : List Item → Option Refusal → Type 0
AtForms program end = Misformed program end ⊎ Formed program end

same_error : (e f : ExpandErr) → Some e ≡ Some f → e ≡ f
same_error e f h = cc

no_error : (e : ExpandErr) → Some e ≡ None → ⊥
no_error e h = cc

forms_agree : (text : List ℕ) (program : List Item) → IsJudged text program → (a b : Option Refusal) → AtForms program a → AtForms program b → Agree a b
forms_agree text program judged = step (Misformed program) (Formed program)
    (λ a b x y. agree_by a b (refusal.Expand x.error) (refusal.Expand y.error) x.is y.is (ap refusal.Expand (same_error x.error y.error (sym x.first ∙ y.first))))
    (λ a b x y. no_error x.error (sym x.first ∙ sym (forms.one_breach text program judged) ∙ forms.formed text program judged y.formed))
    (λ a b x y. clocks_agree (replaced program) (ready.named text program judged (forms.formed text program judged x.formed)) a b x.next y.next)

-- ---- types and definitions

record Mistyped (program : List Item) (end : Option Refusal) : Type 0 where
  pub error : TypeErr
  pub some : error ≢ type_error.OutOfMemory
  pub first : types.NamesFirst (all_breaches program) error
  pub is : end ≡ Some (refusal.Types error)

record Typed (program : List Item) (end : Option Refusal) : Type 0 where
  pub typed : WellTyped program
  pub defined : WellDefined program
  pub next : AtForms program end

abbrev AtTypes : List Item → Option Refusal → Type 0
AtTypes program end = Mistyped program end ⊎ Typed program end

types_agree : (text : List ℕ) (program : List Item) → IsProgramOf text program → WellNamed program → (a b : Option Refusal) → AtTypes program a → AtTypes program b → Agree a b
types_agree text program of known = step (Mistyped program) (Typed program)
    (λ a b x y. agree_by a b (refusal.Types x.error) (refusal.Types y.error) x.is y.is (ap refusal.Types (one_type (all_breaches program) x.error y.error x.some y.some x.first y.first)))
    (λ a b x y. well_typed program x.error x.some y.typed y.defined x.first)
    (λ a b x y. forms_agree text program (record { program_of = of; named = known; typed = x.typed; defined = x.defined }) a b x.next y.next)

-- ---- names

record Misnamed (program : List Item) (end : Option Refusal) : Type 0 where
  pub error : NameErr
  pub some : error ≢ name_error.OutOfMemory
  pub first : names.NamesFirst (names.breaches (naming.claims program)) error
  pub is : end ≡ Some (refusal.Name error)

record Named (program : List Item) (end : Option Refusal) : Type 0 where
  pub named : WellNamed program
  pub next : AtTypes program end

abbrev AtNames : List Item → Option Refusal → Type 0
AtNames program end = Misnamed program end ⊎ Named program end

names_agree : (text : List ℕ) (program : List Item) → IsProgramOf text program → (a b : Option Refusal) → AtNames program a → AtNames program b → Agree a b
names_agree text program of = step (Misnamed program) (Named program)
    (λ a b x y. agree_by a b (refusal.Name x.error) (refusal.Name y.error) x.is y.is (ap refusal.Name (one_name (names.breaches (naming.claims program)) x.error y.error x.some y.some x.first y.first)))
    (λ a b x y. well_named program x.error x.some y.named x.first)
    (λ a b x y. types_agree text program of x.named a b x.next y.next)

-- ---- grammar

record Misread (text : List ℕ) (tokens : List Token) (end : Option Refusal) : Type 0 where
  pub error : ParseErr
  pub some : error ≢ parsing.OutOfMemory
  pub refused : parser.IsRefused text (lexemes text tokens) error
  pub is : end ≡ Some (of_parsing error)

record Read (text : List ℕ) (tokens : List Token) (end : Option Refusal) : Type 0 where
  pub program : List Item
  pub read : IsProgram (lexemes text tokens) program
  pub next : AtNames program end

abbrev AtGrammar : List ℕ → List Token → Option Refusal → Type 0
AtGrammar text tokens end = Misread text tokens end ⊎ Read text tokens end

grammar_agrees : (text : List ℕ) (tokens : List Token) → AreTokensOf text tokens → (a b : Option Refusal) → AtGrammar text tokens a → AtGrammar text tokens b → Agree a b
grammar_agrees text tokens spelled = step (Misread text tokens) (Read text tokens)
    (λ a b x y. agree_by a b (of_parsing x.error) (of_parsing y.error) x.is y.is (ap of_parsing (one_refusal text (lexemes text tokens) x.error y.error x.some y.some x.refused y.refused)))
    (λ a b x y. none_refused text (lexemes text tokens) y.program x.error x.some y.read x.refused)
    (λ a b x y.
    let same : x.program ≡ y.program = one_program (lexemes text tokens) x.program y.program x.read y.read in
    names_agree text x.program (record { tokens = tokens; spelled = spelled; read = x.read }) a b x.next (subst (λ z. AtNames z b) (sym same) y.next))

-- ---- tokens

record Unspelled (text : List ℕ) (end : Option Refusal) : Type 0 where
  pub error : LexErr
  pub refuses : Refuses text error
  pub is : end ≡ Some (of_lexing error)

record Spelled (text : List ℕ) (end : Option Refusal) : Type 0 where
  pub tokens : List Token
  pub spelled : AreTokensOf text tokens
  pub next : AtGrammar text tokens end

abbrev AtTokens : List ℕ → Option Refusal → Type 0
AtTokens text end = Unspelled text end ⊎ Spelled text end

ends_agree : (text : List ℕ) (a b : Option Refusal) → AtTokens text a → AtTokens text b → Agree a b
ends_agree text = step (Unspelled text) (Spelled text)
    (λ a b x y. agree_by a b (of_lexing x.error) (of_lexing y.error) x.is y.is (ap of_lexing (lexer.one_refusal text x.refuses y.refuses)))
    (λ a b x y. lexer.not_both text y.tokens y.spelled x.refuses)
    (λ a b x y.
    let same : x.tokens ≡ y.tokens = lexer.one_list text x.tokens y.tokens x.spelled y.spelled in
    grammar_agrees text x.tokens x.spelled a b x.next (subst (λ z. AtGrammar text z b) (sym same) y.next))

-- ---- the end that a text has

module _ (text : List ℕ) (end : Option Refusal) where
  named_end : (program : List Item) → IsProgramOf text program → AtNames program end → AtTokens text end
  named_end program of next = inr (record { tokens = of.tokens; spelled = of.spelled; next = inr (record { program = program; read = of.read; next = next }) })

  formed_end : (program : List Item) → IsJudged text program → AtForms program end → AtTokens text end
  formed_end program judged next =
      named_end program judged.program_of (inr (record { named = judged.named; next = inr (record { typed = judged.typed; defined = judged.defined; next = next }) }))

  clocked_end : (program clocked : List Item) → IsJudged text program → IsWellFormed program → HasClocks (replaced program) clocked → AtInit (replaced program) clocked end → AtTokens text end
  clocked_end program clocked judged formed clocks next =
      formed_end program judged (inr (record { formed = formed; next = inr (record { clocked = clocked; clocks = clocks; next = next }) }))

module _ (text : List ℕ) where
  end_of : (cause : Refusal) → Causes text cause → AtTokens text (Some cause)
  end_of cause (Causes.no_token {span = s} h) = inl (record { error = lexing.Bad s; refuses = h; is = refl })
  end_of cause (Causes.too_long {span = s} {limit = l} h) = inl (record { error = lexing.Limit s l; refuses = h; is = refl })
  end_of cause (Causes.no_program {span = s} tokens spelled h) =
      inr (record { tokens = tokens; spelled = spelled; next = inl (record { error = parsing.Bad s; some = λ e. cc; refused = h; is = refl }) })
  end_of cause (Causes.too_much {span = s} {limit = l} tokens spelled h) =
      inr (record { tokens = tokens; spelled = spelled; next = inl (record { error = parsing.Limit s l; some = λ e. cc; refused = h; is = refl }) })
  end_of cause (Causes.misnamed {e = e} program of first some) = named_end text (Some cause) program of (inl (record { error = e; some = some; first = first; is = refl }))
  end_of cause (Causes.mistyped {e = e} program of known first some) =
      named_end text (Some cause) program of (inr (record { named = known; next = inl (record { error = e; some = some; first = first; is = refl }) }))
  end_of cause (Causes.misformed {e = e} program of known typed defined first) =
      formed_end text (Some cause) program (record { program_of = of; named = known; typed = typed; defined = defined }) (inl (record { error = e; first = first; is = refl }))
  end_of cause (Causes.misclocked {e = e} program judged formed refuses some) =
      formed_end text (Some cause) program judged (inr (record { formed = formed; next = inl (record { error = e; some = some; refuses = refuses; is = refl }) }))
  end_of cause (Causes.late {e = e} program clocked judged formed clocks names some) =
      clocked_end text (Some cause) program clocked judged formed clocks (inl (record { error = e; some = some; late = names; is = refl }))
  end_of cause (Causes.cyclic {e = e} program clocked judged formed clocks initialised names some) =
      clocked_end text (Some cause) program clocked judged formed clocks (inr (record { initialised = initialised; next = inl (record { error = e; some = some; cycle = names; is = refl }) }))

  accepted_end : (program clocked : List Item) (ranks : List (List ℕ)) → IsJudged text program → IsArranged program clocked ranks → AtTokens text None
  accepted_end program clocked ranks judged arranged =
      clocked_end text None program clocked judged arranged.well_formed arranged.clocks (inr (record { initialised = arranged.initialised; next = inr (record { causal = arranged.causal; is = refl }) }))

pub one_cause : OneCauseLaw
one_cause text cause other h k = ends_agree text (Some cause) (Some other) (end_of text cause h) (end_of text other k)

pub no_cause : NoCauseLaw
no_cause text program clocked ranks cause judged arranged h = ends_agree text None (Some cause) (accepted_end text program clocked ranks judged arranged) (end_of text cause h)

-- ---- what is answered of a text that has a cause

err_named : (text : List ℕ) (cause named : Refusal) → Causes text cause → IsRefused text named → Names cause named
err_named text cause (refusal.Limit place limit) h k = inr (one_cause text (refusal.Limit place limit) cause k h)
err_named text cause (refusal.Lex span) h k = inr (one_cause text (refusal.Lex span) cause k h)
err_named text cause (refusal.Parse span) h k = inr (one_cause text (refusal.Parse span) cause k h)
err_named text cause (refusal.Name e) h k = inr (one_cause text (refusal.Name e) cause k h)
err_named text cause (refusal.Types e) h k = inr (one_cause text (refusal.Types e) cause k h)
err_named text cause (refusal.Expand e) h k = inr (one_cause text (refusal.Expand e) cause k h)
err_named text cause (refusal.Clocks e) h k = inr (one_cause text (refusal.Clocks e) cause k h)
err_named text cause (refusal.Init e) h k = inr (one_cause text (refusal.Init e) cause k h)
err_named text cause (refusal.Cause e) h k = inr (one_cause text (refusal.Cause e) cause k h)
err_named text cause refusal.OutOfMemory h k = inl refl

pub named_of : {A : Type 0} (text : List ℕ) (cause : Refusal) → Causes text cause → (r : Result A Refusal) (clocked : A → List Item) (ranks : A → List (List ℕ)) →
    IfOk r (λ o. (program : List Item) × IsJudged text program × ((other : List Item) → IsJudged text other → other ≡ program) × IsArranged program (clocked o) (ranks o)) → IfErr r (IsRefused text) → MatchResult r (λ o. ⊥) (Names cause)
named_of text cause h (Ok o) clocked ranks k f = no_cause text k.0 (clocked o) (ranks o) cause k.1 k.3 h
named_of text cause h (Err e) clocked ranks k f = err_named text cause e h f
