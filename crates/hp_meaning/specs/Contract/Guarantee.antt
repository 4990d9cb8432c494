-- The guarantee of a run: as long as the hypothesis holds, the duty does.
-- Source: Delaval, Marchand and Rutten (LCTES 2010).
use Rattle.std.specs.Prelude.{ℕ, ◌≡◌, IsTrue, List, [], ◌∷◌, ◌++◌, map, reverse, All, Some, ⊤}
use Rattle.std.specs.Str.{bytes_eq}
use Rattle.std.specs.Bool.{MatchBool}
use Rattle.hp_base.specs.declared.value.Value.{Value}
use Rattle.hp_tree.specs.declared.program.Item.{Item}
use Rattle.hp_tree.specs.declared.program.Item.TheVariants.{TypeItem, NodeItem}
use Rattle.hp_tree.specs.Programs.{Contract, Node}
use Rattle.hp_tree.specs.Operators.{is_there, real}
use Rattle.hp_tree.specs.Instant.{Inputs, Fresh, Instance, Place, Instant, Past, alone, in_row}
use Rattle.hp_tree.specs.Meaning.{types_of, node_among}
use Rattle.hp_tree.specs.Reaction.{Meets, Reaction, controls_at}
use Rattle.hp_meaning.specs.Causal.Points.{Placed}
use Rattle.hp_meaning.specs.Contract.Forgetting.{erased, erase, WellValued, ContractsCallNothing}
use Rattle.hp_meaning.specs.Contract.FreePlaces.{InputsFit, Fits, calls_of, instance_at}
use Rattle.hp_meaning.specs.Contract.Duties.{assumes, enforces, hypothesis}
use Rattle.hp_meaning.specs.Contract.Game.{Safe, IsAllowed, AllOwed, IsChoiceOf, IsNext}
use Rattle.hp_meaning.specs.Contract.ChosenRuns.{own_past, NamesApart, ControlledThroughout, IsChosenRun}

-- What the instants of a node have in a program of right types: values of their types at comparisons of integers and at outputs of calls.
pub record Typed (program : List Item) (n : Node) (now : Instant) : Type 0 where
  pub values : WellValued now
  pub free : Fits program n (erased now) now

-- the same, and that the hypothesis holds, at each instant
abbrev pub AllTyped : List Item → Node → Past → Type 0
AllTyped program n [] = ⊤
AllTyped program n (now ∷ past) = AllTyped program n past × Typed program n now

abbrev pub AllSupposed : Node → Past → Type 0
AllSupposed n [] = ⊤
AllSupposed n (now ∷ past) = AllSupposed n past × IsTrue (hypothesis n now)

-- What a reaction holds at an instant is, erased, an instant of the game over the same inputs and the values that the controllable variables have there.
abbrev pub ErasedNextLaw : Type 0
ErasedNextLaw =
    (program : List Item) (f : List ℕ) (n : Node) → ContractsCallNothing program → node_among (reverse program) f ≡ Some n
    → (inputs : List Value) (past : Past) (free now : Instant) → Meets real program f inputs (record { past = past; free = free }) now
    → InputsFit (types_of program) n.inputs inputs → Typed program n now → IsChoiceOf program n (controls_at n now)
    → IsNext program n (erase past) inputs now (controls_at n now) (erased now)

-- Where nothing is forced at first, a run keeps the duty of its node as long as the hypothesis holds.
abbrev pub RunKeepsDutyLaw : Type 0
RunKeepsDutyLaw =
    (program : List Item) (f : List ℕ) (inputs outputs : List (List Value)) (run : IsChosenRun program f inputs outputs)
    → ContractsCallNothing program → Safe program run.reaction.node [] → AllTyped program run.reaction.node run.past
    → AllSupposed run.reaction.node (erase run.past) → AllOwed run.reaction.node (erase run.past)

-- ---- at every depth

-- a property of each instant of a past, with the instants before it
abbrev pub Through : (Past → Instant → Type 0) → Past → Type 0
Through P [] = ⊤
Through P (now ∷ past) = Through P past × P past now

abbrev pub AllAssumed : Past → Type 0
AllAssumed past = Through (λ older now. IsTrue (assumes now)) past

-- an instant of a node in a program of right types, which holds inputs of the types of the node's
pub record TypedNode (program : List Item) (n : Node) (now : Instant) : Type 0 where
  pub typed : Typed program n now
  pub inputs : List Value
  pub fit : InputsFit (types_of program) n.inputs inputs
  pub at_inputs : (p : Place) → now (Inputs ∷ p) ≡ in_row (map alone inputs) p

-- so for all that it calls; the nodes are given the last one first
abbrev pub TypedAll : List Item → List Item → List ℕ → Instant → Type 0
TypedAll program [] f now = ⊤
TypedAll program (TypeItem t ∷ earlier) f now = TypedAll program earlier f now
TypedAll program (NodeItem n ∷ earlier) f now =
    MatchBool (bytes_eq n.name f)
    (TypedNode program n now × All (λ (k : Placed). IsTrue (is_there (instance_at k now (Fresh ∷ []))) → TypedAll program earlier k.point.name (instance_at k now)) (calls_of n))
    (TypedAll program earlier f now)

-- The node of this name, and all that it calls: where its assumption holds now and held throughout its own past, what it enforces holds.
abbrev pub Guaranteed : List Item → List ℕ → Past → Instant → Type 0
Guaranteed [] f past now = ⊤
Guaranteed (TypeItem t ∷ earlier) f past now = Guaranteed earlier f past now
Guaranteed (NodeItem n ∷ earlier) f past now =
    MatchBool (bytes_eq n.name f)
    ((AllAssumed (now ∷ past) → IsTrue (enforces now))
    × All (λ (k : Placed). IsTrue (is_there (instance_at k now (Fresh ∷ []))) → Guaranteed earlier k.point.name (own_past (k.place ++ (Instance ∷ [])) past now) (instance_at k now)) (calls_of n))
    (Guaranteed earlier f past now)

-- a node with a contract
abbrev pub HasContract : Node → Type 0
HasContract n = (c : Contract) × (n.contract ≡ Some c)

-- Nothing is forced at first in any node with a contract. One without a contract enforces nothing, so nothing is asked of it.
abbrev pub AllSafe : List Item → List Item → Type 0
AllSafe program [] = ⊤
AllSafe program (TypeItem t ∷ items) = AllSafe program items
AllSafe program (NodeItem n ∷ items) = (HasContract n → Safe program n []) × AllSafe program items

-- Where nothing is forced at first in any node with a contract, each instance keeps its contract, at every depth, in each reaction in which choices are permitted wherever some are.
abbrev pub GuaranteedLaw : Type 0
GuaranteedLaw =
    (program : List Item) (f : List ℕ) (inputs : List (List Value)) (frees : List Instant) (past : Past)
    → Reaction program f inputs frees past → ControlledThroughout (IsAllowed program) (reverse program) f past
    → ContractsCallNothing program → NamesApart (reverse program) → AllSafe program (reverse program)
    → Through (λ older now. TypedAll program (reverse program) f now) past
    → Through (Guaranteed (reverse program) f) past

-- So in a run.
abbrev pub RunGuaranteedLaw : Type 0
RunGuaranteedLaw =
    (program : List Item) (f : List ℕ) (inputs outputs : List (List Value)) (run : IsChosenRun program f inputs outputs)
    → ContractsCallNothing program → NamesApart (reverse program) → AllSafe program (reverse program)
    → Through (λ older now. TypedAll program (reverse program) f now) run.past
    → Through (Guaranteed (reverse program) f) run.past
