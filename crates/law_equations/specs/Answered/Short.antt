-- Integers of 32 bits.
-- Source: own. The language's arithmetic is that of 32 bits, so no other integer is reached; machines take no other.
use Rattle.std.specs.Prelude.{⊤, ℕ, List, IsTrue}
use Rattle.std.specs.Int.{w32}
use Rattle.std.specs.Int.RustNames.{FitsSigned}
use Rattle.std.specs.List.{AllByRecursion}
use Rattle.hp_base.specs.Kinds.{KindData, AreOfKinds}
use Rattle.hp_base.specs.declared.value.Value.{Value}
use Rattle.hp_base.specs.declared.value.Value.TheVariants.{I}
use Rattle.hp_obc.specs.Form.{has_name}
use Rattle.hp_obc.specs.Steps.{Names}
use Rattle.hp_flat.specs.Equations.{Right, called, FlatEqn}
use Rattle.hp_flat.specs.Nodes.{FlatNode}
use Rattle.law_equations.specs.Meaning.Instants.{Instant, holds, atoms}
use Rattle.law_equations.specs.Meaning.Reactions.{Answers, Reaction}
use Rattle.law_equations.specs.Meaning.Scheduling.{IsRanked}
use Rattle.law_equations.specs.Followed.Premises.{constants_of}
use Rattle.law_equations.specs.Followed.Programs.{CallsOnly}

-- an integer is one of 32 bits
abbrev pub IsShort : Value → Type 0
IsShort (I n) = FitsSigned w32 n
IsShort v = ⊤

abbrev pub AreShort : List Value → Type 0
AreShort vs = AllByRecursion IsShort vs

-- so are the constants of equations
abbrev pub ConstantsShort : List FlatEqn → Type 0
ConstantsShort es = AllByRecursion (λ (e : FlatEqn). AreShort (constants_of e.right)) es

-- what a node answers on arguments of its kinds
abbrev pub AnswersShort : Answers → Names (List KindData) → List ℕ → Type 0
AnswersShort answers takes f = (args : List Value) (earlier : List (List Value)) → AreOfKinds (takes f) args → AllByRecursion (AreOfKinds (takes f)) earlier → AreShort (answers f args earlier)

-- so it is of each node of some names
abbrev pub AllAnswerShort : Answers → Names (List KindData) → List (List ℕ) → Type 0
AllAnswerShort answers takes names = (f : List ℕ) → IsTrue (has_name names f) → AnswersShort answers takes f

-- Arguments of calls are of the kinds that their nodes take, where they are such integers.
abbrev pub TakenIfShort : Names (List KindData) → Instant → Right → Type 0
TakenIfShort takes now (called f args) = AreShort (atoms now args) → AreOfKinds (takes f) (atoms now args)
TakenIfShort takes now right = ⊤

abbrev pub AllTakenIfShort : Names (List KindData) → FlatNode → Instant → Type 0
AllTakenIfShort takes n now = AllByRecursion (λ (e : FlatEqn). IsTrue (holds e.clock now) → TakenIfShort takes now e.right) n.eqns

abbrev pub InstantShort : Instant → Type 0
InstantShort now = (x : ℕ) → IsShort (now x)

-- Then each value of a reaction over such inputs is.
abbrev pub ShortLaw : Type 0
ShortLaw =
    (answers : Answers) (takes : Names (List KindData)) (names : List (List ℕ)) (n : FlatNode) → IsRanked n.eqns → CallsOnly names n.eqns → ConstantsShort n.eqns → AllAnswerShort answers takes names
    → (inputs : List (List Value)) (instants : List Instant) → Reaction answers n inputs instants → AllByRecursion AreShort inputs → AllByRecursion (AllTakenIfShort takes n) instants → AllByRecursion InstantShort instants
