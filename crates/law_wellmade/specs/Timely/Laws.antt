-- What is proved of the reactions of an accepted program, read as instants of flat names.
use Rattle.std.specs.Prelude.{ℕ, false, List, reverse}
use Rattle.hp_base.specs.declared.value.Value.{Value}
use Rattle.hp_tree.specs.declared.program.Item.{Item}
use Rattle.hp_tree.specs.Programs.{TypeDecl, Node}
use Rattle.hp_tree.specs.Instant.{Place}
use Rattle.hp_tree.specs.Meaning.{types_of}
use Rattle.hp_meaning.specs.Causal.Causality.{IsRanked}
use Rattle.hp_meaning.specs.Causal.Runs.{NoControls}
use Rattle.law_values.specs.Valued.Values.{Classing, AreAccepted, GivenFits}
use Rattle.hp_flat.specs.Nodes.{FlatNode}
use Rattle.law_equations.specs.Flattened.Flatten.{FlatName}
use Rattle.law_equations.specs.Flattened.Lifted.{in_body}
use Rattle.law_equations.specs.Answered.Answering.{filled_nodes, AreApart}
use Rattle.law_equations.specs.Answered.Laws.{IsFlat, IsMade, AllFitting}
use Rattle.law_wellmade.specs.Timely.Kinds.{takes_among}
use Rattle.law_equations.specs.Made.Blocks.{DeclaredOnce, IsPlain}
use Rattle.law_equations.specs.Made.Keeping.{NodeKeeps, IsKept}
use Rattle.law_equations.specs.Made.Laws.{NodeReady}
use Rattle.law_equations.specs.Made.Making.{Known}
use Rattle.law_equations.specs.Made.Standing.{Knows}
use Rattle.law_wellmade.specs.Timely.Kept.{IsRemembered, BlockBegins}
use Rattle.law_wellmade.specs.Timely.Tested.{ConstructorsDiffer, AreTested}

-- What is given to the node of each name fits.
abbrev pub FillsFit : List Item → (List ℕ → Place → Value) → Type 0
FillsFit program fills = (f : List ℕ) → GivenFits (types_of program) false (λ given. given) (reverse program) f (fills f)

-- In each reaction of a node of an accepted program over inputs of its kinds each value is there exactly as its clock is, what is tested is
-- told, what is read is there, and the arguments of calls are of the kinds that their nodes take: where constructors differ and its tests are
-- typed, the variables for what is remembered stand for what the node remembers, and each `fby` has a first value.
abbrev pub FittingLaw : Type 0
FittingLaw =
    (program : List Item) (class : Classing) (fills : List ℕ → Place → Value) (later earlier : List Item) (n : Node) (means : ℕ → FlatName) (flat : FlatNode)
    → AreAccepted (types_of program) class (reverse program) → IsRanked program → NoControls program → AreApart (reverse program) → FillsFit program fills
    → ConstructorsDiffer (types_of program) → AreTested (types_of program) (reverse program)
    → IsFlat program fills later earlier n means flat → ((x : ℕ) → IsKept (IsRemembered (types_of program) (fills n.name) n) (means x)) → BlockBegins (fills n.name) n.body in_body
    → AllFitting program fills earlier n means (takes_among (types_of program) (reverse program))

-- What a node keeps is what it remembers, where each name is declared once.
abbrev pub KeepsLaw : Type 0
KeepsLaw = (types : List TypeDecl) (fill : Place → Value) (n : Node) → IsPlain n.body → DeclaredOnce n.outputs → NodeKeeps (IsRemembered types fill n) types fill n

-- Each `fby` of a node has a first value, where the first values of its registers are those of their types.
abbrev pub BeginsLaw : Type 0
BeginsLaw = (k : Known) (fill : Place → Value) (n : Node) → NodeReady k fill n → BlockBegins fill n.body in_body

-- So the clocked equations that are made of a node stand for flat names that fit.
abbrev pub MadeFittingLaw : Type 0
MadeFittingLaw =
    (program : List Item) (class : Classing) (fills : List ℕ → Place → Value) (k : Known) → AreAccepted (types_of program) class (reverse program) → IsRanked program → NoControls program → AreApart (reverse program)
    → FillsFit program fills → ConstructorsDiffer (types_of program) → AreTested (types_of program) (reverse program) → Knows (types_of program) (filled_nodes program).outputs k
    → (later earlier : List Item) (n : Node) (flat : FlatNode) → IsMade program fills later earlier k n flat
    → (means : ℕ → FlatName) × IsFlat program fills later earlier n means flat × AllFitting program fills earlier n means (takes_among (types_of program) (reverse program))
