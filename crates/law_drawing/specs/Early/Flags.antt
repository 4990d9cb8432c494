-- Which free slots of what is drawn of a node may be early by their roles: those whose places stand in the node itself, outside of inner blocks and of what is called, on the base clock.
-- Source: own.
use Rattle.std.specs.Prelude.{ℕ, suc, ◌≡◌, ◌↔◌, ◌<◌, ⊤, Bool, true, List, [], ◌∷◌, length, reverse, Some}
use Rattle.hp_tree.specs.declared.program.Item.{Item}
use Rattle.hp_tree.specs.Instant.{Place}
use Rattle.hp_tree.specs.Meaning.{node_among}
use Rattle.hp_tree.specs.Programs.{Node}
use Rattle.hp_circuit.specs.declared.circuit.Role.{Role}
use Rattle.hp_circuit.specs.declared.circuit.Role.TheVariants as role
use Rattle.hp_circuit.specs.declared.circuit.Slot.{Slot}
use Rattle.hp_circuit.specs.Forms.{slot_at}
use Rattle.hp_meaning.specs.Contract.Forgetting.{ContractsCallNothing}
use Rattle.hp_meaning.specs.Contract.FreePlaces.{FreeClocks, own_free}
use Rattle.hp_drawing.specs.Told.{Told}
use Rattle.hp_drawing.specs.DrawnNodes.{drawn_node}
use Rattle.law_drawing.specs.Steered.Laid.{slot_place}

-- a free slot may be early exactly where its place is free on the base clock
abbrev pub IsFlagged : FreeClocks → Place → Role → Type 0
IsFlagged clocks p (role.Register first next) = ⊤
IsFlagged clocks p role.Input = ⊤
IsFlagged clocks p role.Control = ⊤
IsFlagged clocks p (role.Free early) = early ≡ true ↔ clocks p ≡ Some []

-- slots that are numbered from one on, where each number has a place
abbrev pub AreFlagged : (ℕ → Place) → FreeClocks → ℕ → List Slot → Type 0
AreFlagged place clocks i [] = ⊤
AreFlagged place clocks i (c ∷ cs) = IsFlagged clocks (place i) c.role × AreFlagged place clocks (suc i) cs

-- Where the tables have the nodes of a program, whose contracts call nothing, a free slot of what is drawn of a node may be early by its role exactly where its place stands in the node itself on the base clock.
abbrev pub FlagsLaw : Type 0
FlagsLaw =
    (program : List Item) (t : Told) (n : Node) → ((f : List ℕ) → t.nodes f ≡ node_among (reverse program) f) → ContractsCallNothing program
    → let s = drawn_node t n in
    (i : ℕ) → i < length s.slots → (early : Bool) → (slot_at s.slots i).role ≡ role.Free early → early ≡ true ↔ own_free n (slot_place program n i) ≡ Some []
