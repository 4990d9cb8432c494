-- The run of nodes with controllable variables: a reaction in which at each instant, of the node and of each callee at every depth, they are the greatest permitted choice.
-- Source: the controller of Delaval, Marchand and Rutten (LCTES 2010), over the streams of Colaço, Pagano and Pouzet (EMSOFT 2005).
use Rattle.std.specs.Prelude.{ℕ, ◌≡◌, true, IsTrue, List, [], ◌∷◌, ◌++◌, map, reverse, All, None, Some, ⊤}
use Rattle.std.specs.Str.{bytes_eq}
use Rattle.std.specs.Bool.{MatchBool}
use Rattle.hp_base.specs.declared.value.Value.{Value}
use Rattle.hp_base.specs.declared.value.Value.TheVariants.{Absent, B}
use Rattle.hp_tree.specs.declared.program.Item.{Item}
use Rattle.hp_tree.specs.declared.program.Item.TheVariants.{TypeItem, NodeItem}
use Rattle.hp_tree.specs.Programs.{Node}
use Rattle.hp_tree.specs.Instant.{Inputs, Fresh, Instance, Place, Instant, Past, part, parts, own}
use Rattle.hp_tree.specs.Reaction.{outputs_at, IsRun, row_of, controls_at, NodeReaction}
use Rattle.hp_meaning.specs.Causal.Points.{Placed}
use Rattle.hp_meaning.specs.Causal.Runs.{NoControls}
use Rattle.hp_tree.specs.Operators.{real, is_there}
use Rattle.hp_tree.specs.Meaning.{meaning, node_among, types_of, controls_of}
use Rattle.hp_meaning.specs.Contract.Forgetting.{erase, ContractsCallNothing}
use Rattle.hp_meaning.specs.Contract.FreePlaces.{calls_of, instance_at}
use Rattle.hp_meaning.specs.Contract.Game.{Choice, IsChosen}
use Rattle.hp_tree.specs.Values.{AreOf}

-- ---- own pasts

-- The past with which a part is read: it is cut where the part is a block or an instance, which has the word whether it begins anew.
abbrev pub cut_by : Value → Past → Past
cut_by Absent past = past
cut_by (B true) past = []
cut_by fresh past = own past

-- the own past of the part at a place that is there
abbrev pub own_past : Place → Past → Instant → Past
own_past [] past now = past
own_past (s ∷ p) past now = own_past p (cut_by (now (s ∷ Fresh ∷ [])) (parts s past)) (part s now)

-- ---- the run

-- a rule for the controllable variables of a node, by the abstract history, the inputs, the early values and the choice
abbrev pub ChoiceRule : Type 1
ChoiceRule = Node → Past → List Value → Instant → Choice → Type 0

-- The controllable variables of the node of this name, and those of all that it calls, keep a rule at an instant after a past; the nodes up to it are given the last one first.
abbrev pub Controlled : ChoiceRule → List Item → List ℕ → Past → Instant → Type 0
Controlled rule [] f past now = ⊤
Controlled rule (TypeItem t ∷ earlier) f past now = Controlled rule earlier f past now
Controlled rule (NodeItem n ∷ earlier) f past now =
    MatchBool (bytes_eq n.name f)
    (rule n (erase past) (row_of n.inputs (part Inputs now)) now (controls_at n now)
    × All (λ (k : Placed). IsTrue (is_there (instance_at k now (Fresh ∷ []))) → Controlled rule earlier k.point.name (own_past (k.place ++ (Instance ∷ [])) past now) (instance_at k now)) (calls_of n))
    (Controlled rule earlier f past now)

-- at each instant, the newest first
abbrev pub ControlledThroughout : ChoiceRule → List Item → List ℕ → Past → Type 0
ControlledThroughout rule items f [] = ⊤
ControlledThroughout rule items f (now ∷ past) = ControlledThroughout rule items f past × Controlled rule items f past now

-- They are the choice that is taken.
abbrev pub Chosen : List Item → List Item → List ℕ → Past → Instant → Type 0
Chosen program items f past now = Controlled (IsChosen program) items f past now

abbrev pub ChosenThroughout : List Item → List ℕ → Past → Type 0
ChosenThroughout program f past = ControlledThroughout (IsChosen program) (reverse program) f past

-- a run of the node of this name over some inputs, and the outputs that it gives, the oldest first
pub record IsChosenRun (program : List Item) (f : List ℕ) (inputs outputs : List (List Value)) : Type 0 where
  pub frees : List Instant
  pub past : Past
  pub reaction : NodeReaction program f (reverse inputs) frees past
  pub chosen : ChosenThroughout program f past
  pub gives : reverse (map (outputs_at program f) past) ≡ outputs

-- the rule that controllable variables have values of their types
abbrev pub OfTheirTypes : List Item → ChoiceRule
OfTheirTypes program n history inputs early c = AreOf (types_of program) (controls_of n.contract) c

-- So it is throughout a run, in each instance at every depth.
abbrev pub TypedControlsLaw : Type 0
TypedControlsLaw = (program : List Item) (f : List ℕ) (inputs outputs : List (List Value)) (run : IsChosenRun program f inputs outputs) → ControlledThroughout (OfTheirTypes program) (reverse program) f run.past

-- Without controllable variables each reaction is such a run.
abbrev pub UncontrolledLaw : Type 0
UncontrolledLaw = (program : List Item) (f : List ℕ) (inputs outputs : List (List Value)) → NoControls program → IsRun program f inputs outputs → IsChosenRun program f inputs outputs

-- each node has a name of its own
abbrev pub NamesApart : List Item → Type 0
NamesApart [] = ⊤
NamesApart (TypeItem t ∷ items) = NamesApart items
NamesApart (NodeItem n ∷ items) = (node_among items n.name ≡ None) × NamesApart items

-- The instance of a call that is there holds what the callee does for some inputs, after the own past of the instance.
abbrev pub HoldsCallee : List Item → Past → Instant → Placed → Type 0
HoldsCallee program past now c =
    IsTrue (is_there (instance_at c now (Fresh ∷ [])))
    → (inputs : List Value) × (free : Instant) × ((p : Place) → instance_at c now p ≡ meaning real program c.point.name inputs (record { past = own_past (c.place ++ (Instance ∷ [])) past now; free = free }) (instance_at c now) p)

-- So it is with each call of a node.
abbrev pub InstanceLaw : Type 0
InstanceLaw =
    (program : List Item) (f : List ℕ) (n : Node) (inputs : List Value) (past : Past) (free now : Instant)
    → ContractsCallNothing program → NamesApart (reverse program) → node_among (reverse program) f ≡ Some n
    → ((p : Place) → now p ≡ meaning real program f inputs (record { past = past; free = free }) now p)
    → All (HoldsCallee program past now) (calls_of n)
