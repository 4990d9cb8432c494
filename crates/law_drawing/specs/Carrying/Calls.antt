-- The calls of a part that is drawn: what they suppose and owe, and what is asked of them.
-- Source: own.
use Rattle.std.specs.Prelude.{ℕ, ◌≡◌, Bool, true, not, ◌&&◌, ◌||◌, if◌then◌else◌, List, [], ◌∷◌, ◌++◌, length, Option, None, Some}
use Rattle.hp_base.specs.declared.ty.Ty.{Ty}
use Rattle.hp_base.specs.declared.ty.Ty.TheVariants as ty
use Rattle.hp_base.specs.declared.value.Value.{Value}
use Rattle.hp_tree.specs.Blocks.{Decl}
use Rattle.hp_tree.specs.Instant.{Fresh, Named, Instant, Clock, holds, Place as TreePlace}
use Rattle.hp_tree.specs.Meaning.{Names, names_of}
use Rattle.hp_tree.specs.Operators.{is_there}
use Rattle.hp_tree.specs.Programs.{TypeDecl, Node}
use Rattle.hp_meaning.specs.Causal.Points.{Placed}
use Rattle.hp_meaning.specs.Contract.Duties.{assumes, enforces}
use Rattle.hp_meaning.specs.Contract.FreePlaces.{instance_at}
use Rattle.hp_meaning.specs.Contract.Memory.{number_in}
use Rattle.hp_meaning.specs.Contract.Slots as slots
use Rattle.hp_meaning.specs.Contract.Slots.{free, register, shape_of}
use Rattle.law_games.specs.Wires.Laws.{is_called}
use Rattle.law_games.specs.Wires.Wired.{Held, Callees}
use Rattle.law_games.specs.Wiretyped.Typed.{AreWires}
use Rattle.hp_drawing.specs.declared.parts.Place.{Place}
use Rattle.hp_drawing.specs.Told.{Told}
use Rattle.hp_drawing.specs.DrawnExpressions.{Brings, begin_call}
use Rattle.hp_drawing.specs.Sketch.{Sketch}
use Rattle.law_drawing.specs.Carrying.Drawing.{AreHeld, IsSolved, IsDrawn, IsClock, IsPlace, IsStored, AreOutputs, AreInputs}

-- what a call supposes and owes, by what is shown of the node and by its wires
abbrev pub supposes_on : Instant → Instant → Placed → Bool
supposes_on shown_all wires c = not (is_called shown_all c) || (not (assumes (instance_at c wires)) || enforces (instance_at c wires))

abbrev pub owes_on : Instant → Instant → Placed → Bool
owes_on shown_all wires c = not (is_called shown_all c) || assumes (instance_at c wires)

-- the slots of the `last` variables of a block
abbrev pub lasts_slots : List TypeDecl → List Decl → (TreePlace → TreePlace) → List slots.Slot
lasts_slots types [] w = []
lasts_slots types (d ∷ ds) w = (elim d.last [ None ↦ [] | Some c ↦ register (w (Named d.name ∷ [])) (shape_of types d.ty) ∷ [] ]) ++ lasts_slots types ds w

-- the slots of the outputs of a call
abbrev free_of : TreePlace → Ty → List slots.Slot
free_of p ty.Int = []
free_of p t = free p t ∷ []

abbrev pub outputs_slots : List Decl → (TreePlace → TreePlace) → List slots.Slot
outputs_slots [] w = []
outputs_slots (d ∷ ds) w = free_of (w (Named d.name ∷ [])) d.ty ++ outputs_slots ds w

-- What is known of the calls of some nodes: before its arguments the slots of a call are laid down, and what it supposes and owes is told; its outputs and inputs have their values.
pub record CallsAre (types : List TypeDecl) (C : Callees) (among : List ℕ → Option Node) (typed : List ℕ → Instant → Type 0) (kept_by : List ℕ → Instant → Instant → Type 0) (given_by : List ℕ → Instant → Type 0) (told : Told) (brings : Brings) (outs : List ℕ → List Decl)
    (callee : List ℕ → (TreePlace → TreePlace) → List slots.Slot) (slot : ℕ → ℕ) (raw next given wires shown_all : Instant) : Type 0 where
  pub known : (f : List ℕ) (n : Node) → among f ≡ Some n → (told.nodes f ≡ Some n) × (outs f ≡ n.outputs)
  pub names : (f : List ℕ) (n : Node) → among f ≡ Some n → C.outputs f ≡ names_of n.outputs
  pub there : (f : List ℕ) (n : Node) (ins : List Value) (m : Held) (now : Instant) → among f ≡ Some n → is_there (C.shown f ins m now (Fresh ∷ [])) ≡ true
  pub begins :
      (f : List ℕ) (n : Node) (c : Placed) (ins : List Value) (m : Held) (now stays : Instant) (w : TreePlace → TreePlace) (place : Place) (names : Names) (clock : Clock) (here cut kept : Bool) (s : Sketch) (ns : List ℕ)
      → among f ≡ Some n → AreWires types n.inputs ins → kept_by f m.start m.memory → given_by f m.free → typed f now → now ≡ C.wired f ins m now
      → ((p : TreePlace) → number_in (m.start p) ≡ 0) → ((p : TreePlace) → m.free p ≡ given (w p)) → ((p : TreePlace) → w [] ++ p ≡ w p)
      → IsStored here cut kept (C.remembers f m.start []) m.memory stays (if holds types clock names then C.next f ins m now else m.memory) (λ p. raw (w p)) (λ p. next (w p))
      → (supposes_on shown_all wires c ≡ not (here && holds types clock names) || (not (assumes now) || enforces now)) → (owes_on shown_all wires c ≡ not (here && holds types clock names) || assumes now)
      → IsSolved slot s ns → IsPlace ns place here cut kept → IsClock types names s.clocks ns place.clock clock
      → AreHeld slot raw given (outputs_slots (outs f) w ++ callee f w) (length s.slots)
      → (ns' : List ℕ) × IsDrawn slot next (supposes_on shown_all wires) (owes_on shown_all wires) s ns (outputs_slots (outs f) w ++ callee f w) (c ∷ []) (begin_call told brings place f s).1 ns'
      × AreOutputs (begin_call told brings place f s).1 ns' (begin_call told brings place f s).0 now n.outputs 0 × AreInputs ns' (begin_call told brings place f s).0 ins 0
