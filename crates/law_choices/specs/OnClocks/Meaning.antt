-- Programs of clocked equations that are well made: what their nodes answer.
-- Source: own; a node as a function of streams as in Caspi and others: LUSTRE, a declarative language for programming synchronous systems (POPL 1987).
use Rattle.std.specs.Prelude.{◌≡◌, ⊤, ℕ, ◌<◌, false, List, [], ◌∷◌, length}
use Rattle.std.specs.List.{AllByRecursion}
use Rattle.hp_base.specs.Kinds.{KindData, Bools, Ints, Constructors, AreOfKinds}
use Rattle.hp_base.specs.declared.value.Value.{Value}
use Rattle.hp_obc.specs.Form.{has_name}
use Rattle.hp_obc.specs.Machines.{ObcType}
use Rattle.hp_obc.specs.Steps.{Names}
use Rattle.hp_flat.specs.Nodes.{FlatNode}
use Rattle.law_equations.specs.Meaning.Instants.{Instant}
use Rattle.law_equations.specs.Meaning.Kinding.{Callees, IsWellMade, AnswersOfKinds}
use Rattle.law_equations.specs.Meaning.Reactions.{Answers, Reaction, outputs_at}
use Rattle.law_equations.specs.Followed.Programs.{CallsOnly, Answered}
use Rattle.law_equations.specs.Shaped.Shaped.{IsHeaded}

-- Nodes in turn: each is well made, what is said of it is what it takes and gives, it has another name than those before it, and calls these alone.
abbrev pub AreInTurn : List ObcType → Callees → List (List ℕ) → List FlatNode → Type 0
AreInTurn types callees earlier [] = ⊤
AreInTurn types callees earlier (n ∷ ns) =
    IsWellMade types callees n × IsHeaded types callees n × (has_name earlier n.name ≡ false) × CallsOnly earlier n.eqns × AreInTurn types callees (n.name ∷ earlier) ns

-- a kind has a value
abbrev pub HasSome : KindData → Type 0
HasSome Bools = ⊤
HasSome Ints = ⊤
HasSome (Constructors t cons) = 0 < length cons

-- What is answered on arguments, after those of earlier instants, are the outputs of a reaction of the node at its newest instant.
pub record GivesAnswer (answers : Answers) (n : FlatNode) (args : List Value) (earlier : List (List Value)) : Type 0 where
  pub now : Instant
  pub past : List Instant
  pub reaction : Reaction answers n (args ∷ earlier) (now ∷ past)
  pub answer : answers n.name args earlier ≡ outputs_at n now

-- so it is on all arguments of the kinds that the node takes
abbrev pub GivesAnswers : Answers → Names (List KindData) → FlatNode → Type 0
GivesAnswers answers takes n = (args : List Value) (earlier : List (List Value)) → AreOfKinds (takes n.name) args → AllByRecursion (AreOfKinds (takes n.name)) earlier → GivesAnswer answers n args earlier

-- two answer alike on arguments of the kinds that a node takes
abbrev pub AnswersAlike : Answers → Answers → Names (List KindData) → List ℕ → Type 0
AnswersAlike answers others takes f = (args : List Value) (earlier : List (List Value)) → AreOfKinds (takes f) args → AllByRecursion (AreOfKinds (takes f)) earlier → others f args earlier ≡ answers f args earlier

-- The nodes of a program answer, in reactions in which clocks fit; and whatever answers so answers alike.
pub record HasOneMeaning (callees : Callees) (ns : List FlatNode) : Type 0 where
  pub answers : Answers
  pub typed : AnswersOfKinds answers callees
  pub answered : AllByRecursion (Answered answers callees.takes) ns
  pub only : (others : Answers) → AnswersOfKinds others callees → AllByRecursion (GivesAnswers others callees.takes) ns → AllByRecursion (λ (n : FlatNode). AnswersAlike answers others callees.takes n.name) ns

-- So it is of nodes in turn, where the kinds of what nodes give have values.
abbrev pub MeaningLaw : Type 0
MeaningLaw = (types : List ObcType) (callees : Callees) (ns : List FlatNode) → AreInTurn types callees [] ns → ((f : List ℕ) → AllByRecursion HasSome (callees.gives f)) → HasOneMeaning callees ns
