-- What judged programs give for their values, and what replacing inlined calls and writing clocks keep of it.
use Rattle.std.specs.Prelude.{◌≡◌, ℕ, ◌<◌, ◌&&◌, Bool, true, false, IsFalse, List, [], reverse, Option, None, Some}
use Rattle.hp_base.specs.declared.ty.Ty.{Ty}
use Rattle.hp_base.specs.declared.value.Value.{Value}
use Rattle.hp_base.specs.declared.value.Value.TheVariants.{Nil, Star}
use Rattle.hp_lexer.specs.Lexing.{AreTokensOf}
use Rattle.hp_lexer.specs.declared.token.Token.{Token}
use Rattle.hp_parser.specs.Lexemes.{lexemes}
use Rattle.hp_parser.specs.Programs.{IsProgram}
use Rattle.hp_tree.specs.declared.program.Item.{Item}
use Rattle.hp_tree.specs.Programs.{TypeDecl, Node}
use Rattle.hp_tree.specs.Operators.{filled}
use Rattle.hp_tree.specs.Values.{AreOf}
use Rattle.hp_tree.specs.Instant.{Instant, Past}
use Rattle.hp_tree.specs.Meaning.{meaning, types_of, node_among}
use Rattle.hp_tree.specs.Reaction.{Reaction, Each}
use Rattle.hp_meaning.specs.Causal.OneReaction.{ReactionOf}
use Rattle.hp_meaning.specs.Causal.RanksOfPoints.{AllFall}
use Rattle.hp_names.specs.Rules.{WellNamed}
use Rattle.hp_typing.specs.Rules.{WellTyped}
use Rattle.hp_typing.specs.DefinitionRules.{WellDefined}
use Rattle.law_judged.specs.Typed.Merges.{MergesHaveParts}
use Rattle.hp_meaning.specs.Clocking.Terms.{IsShortest}
use Rattle.hp_meaning.specs.Clocking.Clocking.{Assignment, IsAllowed, node_with_clocks}
use Rattle.hp_init.specs.Classes as classes
use Rattle.hp_init.specs.Classes.{AreClasses}
use Rattle.hp_init.specs.Wants.{of_node}
use Rattle.hp_init.specs.Initialised.{first_unmet, IsInitialised}
use Rattle.hp_clocks.specs.Writing.{AreWritten}
use Rattle.hp_clocks.specs.Answers.{IsClocked}
use Rattle.law_judged.specs.Named.Scopes.{Scope}
use Rattle.law_judged.specs.Named.Scoped.{NodeScoped, EachNode}
use Rattle.hp_expand.specs.Formed.{HasShapes, KeepsLimits}
use Rattle.hp_expand.specs.Refusals.{IsFormed}
use Rattle.hp_expand.specs.Numbering.{replaced}
use Rattle.law_judged.specs.Replaced.Inlined.{in_node}
use Rattle.law_judged.specs.Replaced.Fitting.{IsPlain, NodeNames}
use Rattle.law_judged.specs.Once.Once.{DefinedOnce}
use Rattle.law_values.specs.Valued.Judged.{NodeSound}
use Rattle.law_values.specs.Valued.Fitting.{Fits}
use Rattle.law_values.specs.Valued.Classed.{HasClasses}
use Rattle.law_values.specs.Valued.Values.{Classing, AreAccepted, InstantFits, GivenFits}
use Rattle.law_values.specs.Accepted.Written.{NodeArmed, NodePlain, AreSound}
use Rattle.law_values.specs.Accepted.ClocksFirst.{NodeFirst}
use Rattle.law_values.specs.Accepted.Outputs.{OutputsHere, AbsentOrOf, Uncontrolled}

-- In a program whose judgements hold each node is sound. Each `merge` has a part, each `switch` an arm, and inputs and controllable
-- variables have no last value, as in the tree of every text.
abbrev pub SoundLaw : Type 0
SoundLaw =
    (program : List Item) → WellNamed program → WellTyped program → WellDefined program → MergesHaveParts program → EachNode NodeArmed program
    → AreSound (types_of program) [] program

-- So is each node of the replaced program, where no node with a contract is inlined.
abbrev pub ReplacedSoundLaw : Type 0
ReplacedSoundLaw =
    (program : List Item) → WellNamed program → WellTyped program → WellDefined program → KeepsLimits program → HasShapes program → MergesHaveParts program → EachNode NodeArmed program
    → EachNode (NodeNames IsPlain) program → EachNode (λ n. in_node n < 1000000) program
    → AreSound (types_of program) [] (replaced program)

-- Writing clocks keeps nodes sound.
abbrev pub ClockedSoundLaw : Type 0
ClockedSoundLaw =
    (types : List TypeDecl) (among : List ℕ → Option Node) (s : Scope) (n : Node) (at : Assignment) → NodeSound types among s n
    → NodeSound types among s (node_with_clocks at n)

-- A node that meets its wishes for its classes has them where its variables are read and defined, and a variable that some arm or state
-- leaves to its last value has a first one.
abbrev pub ClassesLaw : Type 0
ClassesLaw =
    (n : Node) (class : classes.Assignment) → NodeScoped n → DefinedOnce n → AreClasses n class → first_unmet (of_node class n) ≡ None
    → HasClasses class n

-- Each name of the shortest clocks of a node that meets its wishes is First.
abbrev pub ClocksFirstLaw : Type 0
ClocksFirstLaw = (n : Node) (class : classes.Assignment) (at : Assignment) → first_unmet (of_node class n) ≡ None → IsShortest (IsAllowed n) at → NodeFirst at class n

-- So writing them keeps these classes.
abbrev pub ClockedClassesLaw : Type 0
ClockedClassesLaw =
    (n : Node) (class : classes.Assignment) (at : Assignment) → HasClasses class n → IsShortest (IsAllowed n) at
    → HasClasses class (node_with_clocks at n)

-- ---- a program that is judged, arranged, and whose inlined calls are replaced and clocks are written

-- What the rules ask of a program, and what the grammar gives of each. `after` is the program with its inlined calls replaced and the
-- shortest clocks of its nodes written.
pub record IsReady (program after : List Item) : Type 0 where
  pub named : WellNamed program
  pub typed : WellTyped program
  pub defined : WellDefined program
  pub limits : KeepsLimits program
  pub shapes : HasShapes program
  pub merges : MergesHaveParts program
  pub armed : EachNode NodeArmed program
  pub names : EachNode (NodeNames IsPlain) program
  pub calls : EachNode (λ n. in_node n < 1000000) program
  pub plain : EachNode NodePlain program
  pub initialised : IsInitialised (replaced program)
  pub clocks : AreWritten IsClocked (replaced program) after

-- The program of a text that the judgements accept, and that is arranged, is such.
abbrev pub ReadyTextLaw : Type 0
ReadyTextLaw =
    (text : List ℕ) (tokens : List Token) (program after : List Item) → AreTokensOf text tokens → IsProgram (lexemes text tokens) program
    → WellNamed program → WellTyped program → WellDefined program → IsFormed program → IsInitialised (replaced program) → AreWritten IsClocked (replaced program) after
    → IsReady program after

-- Replacing inlined calls keeps nodes plain.
abbrev pub PlainLaw : Type 0
PlainLaw = (program : List Item) → EachNode NodePlain program → EachNode NodePlain (replaced program)

-- Such a program is accepted, with the classes of its nodes.
abbrev pub AcceptedLaw : Type 0
AcceptedLaw = (program after : List Item) → IsReady program after → (class : Classing) × AreAccepted (types_of after) class (reverse after)

-- So each instant of its reactions fits, where the points of its nodes have ranks: each place has a value of its type exactly where its
-- clock is there, and is Nil only at a place of class Second.
abbrev pub ReadyRealLaw : Type 0
ReadyRealLaw =
    (program after : List Item) (ranks : List (List ℕ)) → IsReady program after → AllFall after ranks
    → (class : Classing) × ((f : List ℕ) (n : Node) (inputs : List (List Value)) (frees : List Instant) (past : Past)
    → node_among (reverse after) f ≡ Some n → Each (AreOf (types_of after) n.inputs) inputs
    → Each (GivenFits (types_of after) true (λ given. Nil) (reverse after) f) frees → Reaction after f inputs frees past
    → Each (InstantFits (types_of after) true class (reverse after) f) past)

-- The same of its filled form, in which none is Nil.
abbrev pub ReadyFilledLaw : Type 0
ReadyFilledLaw =
    (program after : List Item) (ranks : List (List ℕ)) → IsReady program after → AllFall after ranks
    → (class : Classing) × ((f : List ℕ) (n : Node) (inputs : List (List Value)) (frees : List Instant) (past : Past)
    → node_among (reverse after) f ≡ Some n → Each (AreOf (types_of after) n.inputs) inputs
    → Each (GivenFits (types_of after) false (λ given. given) (reverse after) f) frees → ReactionOf (meaning filled after f) inputs frees past
    → Each (InstantFits (types_of after) false class (reverse after) f) past)

-- ---- in the words of later passes

-- No output of a reaction whose instants fit is Nil or Absent.
abbrev pub OutputsHereLaw : Type 0
OutputsHereLaw =
    (types : List TypeDecl) (nils : Bool) (class : Classing) (items : List Item) (f : List ℕ) (n : Node) (past : Past)
    → node_among items f ≡ Some n → Each (InstantFits types nils class items f) past → Each (OutputsHere n) past

-- So no output of a ready program without controllable variables is, whatever is given.
abbrev pub ReadyOutputsLaw : Type 0
ReadyOutputsLaw =
    (program after : List Item) (ranks : List (List ℕ)) → IsReady program after → AllFall after ranks → EachNode Uncontrolled after
    → (f : List ℕ) (n : Node) (inputs : List (List Value)) (frees : List Instant) (past : Past)
    → node_among (reverse after) f ≡ Some n → Each (AreOf (types_of after) n.inputs) inputs → Reaction after f inputs frees past
    → Each (OutputsHere n) past

-- A value that fits in the filled form is of its type where its clock is there, and Absent where it is not.
abbrev pub FilledValueLaw : Type 0
FilledValueLaw = (types : List TypeDecl) (there second : Bool) (t : Ty) (v : Value) → Fits types there (Some t) (second && false) v → AbsentOrOf types there t v

-- So is one of class First in the language.
abbrev pub FirstValueLaw : Type 0
FirstValueLaw =
    (types : List TypeDecl) (there second nils : Bool) (t : Ty) (v : Value) → IsFalse second → Fits types there (Some t) (second && nils) v
    → AbsentOrOf types there t v

-- No value that fits is the mark of the abstraction.
abbrev pub NoStarLaw : Type 0
NoStarLaw = (types : List TypeDecl) (there : Bool) (o : Option Ty) (nil : Bool) (v : Value) → Fits types there o nil v → v ≡ Star → ⊥
