-- What is proved of the filled form: what it is given fits, it has one reaction over each list of inputs, and that is the language's wherever the latter is not Nil.
use Rattle.std.specs.Prelude.{◌≡◌, ℕ, true, false, List, [], map, reverse, length, Some}
use Rattle.hp_base.specs.declared.ty.Ty.TheVariants as ty
use Rattle.hp_base.specs.declared.value.Value.{Value}
use Rattle.hp_base.specs.declared.value.Value.TheVariants.{Absent, Nil}
use Rattle.hp_lexer.specs.Lexing.{AreTokensOf}
use Rattle.hp_lexer.specs.declared.token.Token.{Token}
use Rattle.hp_parser.specs.Lexemes.{lexemes}
use Rattle.hp_parser.specs.Programs.{IsProgram}
use Rattle.hp_tree.specs.declared.program.Item.{Item}
use Rattle.hp_tree.specs.Programs.{TypeDecl, Node}
use Rattle.hp_tree.specs.Operators.{filled}
use Rattle.hp_tree.specs.Instant.{Place, Instant, Past}
use Rattle.hp_tree.specs.Meaning.{meaning, types_of, node_among}
use Rattle.hp_tree.specs.Reaction.{Reaction, Each, outputs_at}
use Rattle.hp_tree.specs.Values.{constructors_of, AreOf}
use Rattle.hp_tree.specs.Filled.{firsts_among, with_firsts, filled_meaning}
use Rattle.hp_meaning.specs.Causal.Causality.{IsRanked}
use Rattle.hp_meaning.specs.Causal.OneReaction.{ReactionOf, OneReactionOf}
use Rattle.hp_meaning.specs.Causal.RanksOfPoints.{AllFall}
use Rattle.law_judged.specs.Named.Scoped.{EachNode}
use Rattle.law_values.specs.Valued.Values.{Classing, AreAccepted, InstantFits, GivenFits}
use Rattle.law_values.specs.Accepted.Laws.{IsReady}
use Rattle.law_values.specs.Accepted.Outputs.{Uncontrolled}
use Rattle.law_values.specs.Filled.Firsts.{HasFirst, TypesHaveConstructors, NodeHasFirsts}
use Rattle.law_values.specs.Filled.Under.{PastsUnder, AllSameControls}

-- An enumeration with a constructor has a first value.
abbrev pub FirstValueLaw : Type 0
FirstValueLaw = (types : List TypeDecl) (t : List ℕ) → (constructors_of types t ≡ [] → ⊥) → HasFirst types (ty.Enum t)

-- In an accepted program whose declarations have first values, what the filled form is given fits: each controllable variable has a value
-- of its type where it has one in what is given, and so does each `pre` without a past.
abbrev pub FirstsFitLaw : Type 0
FirstsFitLaw =
    (program : List Item) (class : Classing) (f : List ℕ) (free : Instant) → AreAccepted (types_of program) class (reverse program) → EachNode (NodeHasFirsts (types_of program)) program
    → GivenFits (types_of program) true (λ given. Nil) (reverse program) f free
    → GivenFits (types_of program) false (λ given. given) (reverse program) f (with_firsts program f free)

-- Where nothing else is given, the filled form is given first values alone.
abbrev pub AloneLaw : Type 0
AloneLaw = (program : List Item) (f : List ℕ) (free : Instant) (p : Place) → free p ≡ Absent → with_firsts program f free p ≡ firsts_among (types_of program) (reverse program) f p

-- So each instant of a reaction of the filled form fits: none of its values is Nil.
abbrev pub FilledFitsLaw : Type 0
FilledFitsLaw =
    (program : List Item) (class : Classing) (f : List ℕ) (n : Node) (inputs : List (List Value)) (frees : List Instant) (other : Past)
    → AreAccepted (types_of program) class (reverse program) → EachNode (NodeHasFirsts (types_of program)) program → IsRanked program → node_among (reverse program) f ≡ Some n
    → Each (AreOf (types_of program) n.inputs) inputs → Each (GivenFits (types_of program) true (λ given. Nil) (reverse program) f) frees
    → ReactionOf (filled_meaning program f) inputs frees other
    → Each (InstantFits (types_of program) false class (reverse program) f) other

-- In a ranked program the filled form has exactly one reaction over each list of inputs and as many instants of given values.
abbrev pub OneFilledLaw : Type 0
OneFilledLaw =
    (program : List Item) (f : List ℕ) (inputs : List (List Value)) (frees : List Instant) → IsRanked program → length frees ≡ length inputs
    → OneReactionOf (ReactionOf (filled_meaning program f) inputs frees)

-- A reaction of the language and one with fitting values in place of Nil at each `pre` without a past, over the same inputs and the same
-- values of controllable variables, have the same value at each place where the first one's is not Nil.
abbrev pub AgreeLaw : Type 0
AgreeLaw =
    (program : List Item) (class : Classing) (f : List ℕ) (n : Node) (inputs : List (List Value)) (frees others : List Instant) (past other : Past)
    → AreAccepted (types_of program) class (reverse program) → EachNode (NodeHasFirsts (types_of program)) program → IsRanked program → node_among (reverse program) f ≡ Some n
    → Each (AreOf (types_of program) n.inputs) inputs → Each (GivenFits (types_of program) true (λ given. Nil) (reverse program) f) frees
    → Each (GivenFits (types_of program) false (λ given. given) (reverse program) f) others → AllSameControls frees others
    → Reaction program f inputs frees past → ReactionOf (meaning filled program f) inputs others other
    → PastsUnder past other

-- So it is with the filled form,
abbrev pub FilledAgreesLaw : Type 0
FilledAgreesLaw =
    (program : List Item) (class : Classing) (f : List ℕ) (n : Node) (inputs : List (List Value)) (frees : List Instant) (past other : Past)
    → AreAccepted (types_of program) class (reverse program) → EachNode (NodeHasFirsts (types_of program)) program → IsRanked program → node_among (reverse program) f ≡ Some n
    → Each (AreOf (types_of program) n.inputs) inputs → Each (GivenFits (types_of program) true (λ given. Nil) (reverse program) f) frees
    → Reaction program f inputs frees past → ReactionOf (filled_meaning program f) inputs frees other
    → PastsUnder past other

-- which has the same outputs.
abbrev pub SameOutputsLaw : Type 0
SameOutputsLaw =
    (program : List Item) (class : Classing) (f : List ℕ) (n : Node) (inputs : List (List Value)) (frees : List Instant) (past other : Past)
    → AreAccepted (types_of program) class (reverse program) → EachNode (NodeHasFirsts (types_of program)) program → IsRanked program → node_among (reverse program) f ≡ Some n
    → Each (AreOf (types_of program) n.inputs) inputs → Each (GivenFits (types_of program) true (λ given. Nil) (reverse program) f) frees
    → Reaction program f inputs frees past → ReactionOf (filled_meaning program f) inputs frees other
    → map (outputs_at program f) other ≡ map (outputs_at program f) past

-- ---- programs of texts

-- Each enumeration of the program of a text has a constructor.
abbrev pub TextTypesLaw : Type 0
TextTypesLaw = (text : List ℕ) (tokens : List Token) (program : List Item) → AreTokensOf text tokens → IsProgram (lexemes text tokens) program → TypesHaveConstructors (types_of program)

-- So each declaration of a ready program has a type with a first value: replacing inlined calls and writing clocks bring no other types.
abbrev pub ReadyFirstsLaw : Type 0
ReadyFirstsLaw = (program after : List Item) → IsReady program after → TypesHaveConstructors (types_of program) → EachNode (NodeHasFirsts (types_of after)) after

-- Over inputs of the types, with fitting values of controllable variables, a ready program has a reaction of its filled form. Each of its
-- instants fits, and each reaction of the language over the same has the same value wherever its own is not Nil, and the same outputs.
abbrev pub ReadyFormLaw : Type 0
ReadyFormLaw =
    (program after : List Item) (ranks : List (List ℕ)) → IsReady program after → AllFall after ranks → TypesHaveConstructors (types_of program)
    → (class : Classing) × ((f : List ℕ) (n : Node) (inputs : List (List Value)) (frees : List Instant)
    → node_among (reverse after) f ≡ Some n → Each (AreOf (types_of after) n.inputs) inputs → Each (GivenFits (types_of after) true (λ given. Nil) (reverse after) f) frees → length frees ≡ length inputs
    → (other : Past) × (ReactionOf (filled_meaning after f) inputs frees other × (Each (InstantFits (types_of after) false class (reverse after) f) other
    × ((past : Past) → Reaction after f inputs frees past → PastsUnder past other × (map (outputs_at after f) past ≡ map (outputs_at after f) other)))))

-- Without controllable variables it has one whatever is given, and each reaction of the language, whatever that is given, has its outputs.
abbrev pub ReadyOutputsLaw : Type 0
ReadyOutputsLaw =
    (program after : List Item) (ranks : List (List ℕ)) → IsReady program after → AllFall after ranks → TypesHaveConstructors (types_of program) → EachNode Uncontrolled after
    → (f : List ℕ) (n : Node) (inputs : List (List Value)) (frees : List Instant) → node_among (reverse after) f ≡ Some n → Each (AreOf (types_of after) n.inputs) inputs → length frees ≡ length inputs
    → (other : Past) × (ReactionOf (filled_meaning after f) inputs frees other × ((others : List Instant) (past : Past) → Reaction after f inputs others past → map (outputs_at after f) past ≡ map (outputs_at after f) other))
