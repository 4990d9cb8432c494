-- The law of drawn nodes: numbers solve what is drawn of a node, by which its registers take the next memory, and its hypothesis and its duty are told.
use Rattle.std.specs.Prelude.{ℕ, ⊤, ◌≡◌, List, [], ◌∷◌, ◌++◌, map, Some}
use Rattle.hp_base.specs.declared.ty.Ty.{Ty}
use Rattle.hp_base.specs.declared.ty.Ty.TheVariants as ty
use Rattle.hp_base.specs.declared.value.Value.{Value}
use Rattle.hp_tree.specs.declared.program.Item.{Item}
use Rattle.hp_tree.specs.declared.program.Item.TheVariants.{TypeItem, NodeItem}
use Rattle.hp_tree.specs.Blocks.{Decl}
use Rattle.hp_tree.specs.ExpressionTypes.{typed_in, untyped}
use Rattle.hp_tree.specs.Instant.{Inputs, Controls, Body, Head, Tail, Instant, alone, in_row, Place}
use Rattle.hp_tree.specs.Meaning.{controls_of, node_among}
use Rattle.hp_tree.specs.Programs.{TypeDecl, Node}
use Rattle.hp_meaning.specs.Causal.Sources.{below}
use Rattle.law_values.specs.Valued.Values.{Classing, AreAccepted, scope_behind}
use Rattle.hp_meaning.specs.Contract.Memory.{number_in}
use Rattle.hp_meaning.specs.Contract.Slots as slots
use Rattle.hp_meaning.specs.Contract.Slots.{input, control, slots_of_contract, slots_of_block, callee_slots}
use Rattle.hp_circuit.specs.Meaning.{truth}
use Rattle.law_games.specs.Wires.Wired.{Held}
use Rattle.law_games.specs.Wires.WiredNodes.{wired_node}
use Rattle.law_games.specs.Wires.WiredCallees.{callee_wires}
use Rattle.law_games.specs.Wires.Laws.{instant_of, memory_behind, is_called, hypothesis_on, duty_on}
use Rattle.law_games.specs.Wiretyped.Typed.{AreWires}
use Rattle.law_games.specs.Wiretyped.Laws.{WiresTyped, InShape, GivenFits}
use Rattle.hp_drawing.specs.Told.{Told}
use Rattle.hp_drawing.specs.DrawnNodes.{contracts, drawn_node}
use Rattle.law_drawing.specs.Carrying.Solving.{Has, Solved}
use Rattle.law_drawing.specs.Carrying.Drawing.{AreHeld, AreLaid}
use Rattle.law_drawing.specs.Carrying.Typing.{AreNumbered}
use Rattle.law_drawing.specs.Carrying.Calls.{lasts_slots}
use Rattle.law_drawing.specs.Carrying.Drawable.{NodeDrawable}
use Rattle.law_drawing.specs.Carrying.Laws.{Frame, FrameCalls}

-- ---- the slots of a node

abbrev pub free_of : (Place → Ty → slots.Slot) → Place → Ty → List slots.Slot
free_of kind p ty.Int = []
free_of kind p t = kind p t ∷ []

abbrev pub row_slots : (Place → Ty → slots.Slot) → List Decl → (Place → Place) → List slots.Slot
row_slots kind [] w = []
row_slots kind (d ∷ ds) w = free_of kind (w (Head ∷ [])) d.ty ++ row_slots kind ds (below Tail w)

abbrev pub node_slots : Frame → Node → List slots.Slot
node_slots F n =
    let here : Place → Place = λ p. p in
    let seen = typed_in n.inputs (typed_in n.outputs untyped) in
    row_slots input n.inputs (below Inputs here)
    ++ (lasts_slots F.types n.outputs here
    ++ (row_slots control (controls_of n.contract) (below Controls here)
    ++ (slots_of_contract F.types F.outs F.callee n.contract seen here ++ slots_of_block F.types F.outs F.callee n.body (typed_in (controls_of n.contract) seen) (below Body here))))

-- all that is given, by places: inputs, and the others
abbrev pub given_over : List Value → Instant → Instant
given_over inputs free (Inputs ∷ p) = in_row (map alone inputs) p
given_over inputs free p = free p

-- A node that is accepted, as those behind it are, with its typed wires, registers in shape and values that fit; slots have their numbers.
pub record IsNodeIn (F : Frame) (class : Classing) (n : Node) (inputs : List Value) (m : Held) (now : Instant) : Type 0 where
  pub accepted : AreAccepted F.types class (NodeItem n ∷ F.earlier)
  pub numbered : AreNumbered F.types F.told (scope_behind F.earlier)
  pub drawable : NodeDrawable (scope_behind F.earlier) n
  pub brings : F.brings ≡ contracts
  pub values : AreWires F.types n.inputs inputs
  pub shape : InShape F.types F.earlier n m.start m.memory
  pub fits : GivenFits F.types F.earlier n m.free
  pub typed : WiresTyped F.types F.earlier n now
  pub solves : now ≡ wired_node F.types (callee_wires F.types F.earlier) n inputs m now
  pub zeros : (p : Place) → number_in (m.start p) ≡ 0
  pub raw : (p : Place) → F.raw p ≡ m.memory p
  pub next : (p : Place) → F.next p ≡ memory_behind F.types F.earlier n inputs m now p
  pub given : (p : Place) → F.given p ≡ given_over inputs m.free p
  pub wires : F.wires ≡ now
  pub showing : F.showing ≡ instant_of F.types F.earlier n inputs m now
  pub held : AreHeld F.slot F.raw F.given (node_slots F n) 0

pub record IsNodeDrawn (F : Frame) (n : Node) (inputs : List Value) (m : Held) (now : Instant) : Type 0 where
  pub numbers : List ℕ
  pub solved : Solved F.slot numbers (drawn_node F.told n).wires numbers
  pub laid : AreLaid numbers F.next (node_slots F n) (drawn_node F.told n).slots
  pub hyp : Has numbers (drawn_node F.told n).hyp (truth (hypothesis_on (is_called (instant_of F.types F.earlier n inputs m now)) n now))
  pub duty : Has numbers (drawn_node F.told n).duty (truth (duty_on (is_called (instant_of F.types F.earlier n inputs m now)) n now))

abbrev pub NodeLaw : Type 0
NodeLaw = (F : Frame) (class : Classing) (n : Node) (inputs : List Value) (m : Held) (now : Instant) → FrameCalls F → IsNodeIn F class n inputs m now → IsNodeDrawn F n inputs m now

-- ---- the nodes that may be called: they can be drawn, and a program tells them by their names

abbrev pub EarlierDrawable : List TypeDecl → Told → List Item → Type 0
EarlierDrawable types told [] = ⊤
EarlierDrawable types told (TypeItem t ∷ items) = EarlierDrawable types told items
EarlierDrawable types told (NodeItem n ∷ items) = (AreNumbered types told (scope_behind items) × NodeDrawable (scope_behind items) n) × EarlierDrawable types told items

pub record IsCallable (F : Frame) : Type 0 where
  pub drawable : EarlierDrawable F.types F.told F.earlier
  pub brings : F.brings ≡ contracts
  pub nodes : (f : List ℕ) (n : Node) → node_among F.earlier f ≡ Some n → F.told.nodes f ≡ Some n
  pub outs : (f : List ℕ) (n : Node) → node_among F.earlier f ≡ Some n → F.outs f ≡ n.outputs
  pub callee : (f : List ℕ) (n : Node) → node_among F.earlier f ≡ Some n → (w : Place → Place) → F.callee f w ≡ callee_slots F.types (Some n) w

-- So what is drawn of a call is what is asked of calls.
abbrev pub CallsLaw : Type 0
CallsLaw = (F : Frame) (class : Classing) → AreAccepted F.types class F.earlier → IsCallable F → FrameCalls F
