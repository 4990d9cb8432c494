-- Where a place depends on a controllable variable, the wire that is drawn of it reads one (that a wire reads one only there is said in `law_drawing::steered`).
-- Source: own. Where an operator, a definition, a block or an automaton reads a place, what is drawn of it reads the wire of that place, and no later step of drawing takes this back.
use Rattle.std.specs.Prelude.{ℕ, ◌≡◌, ◌<◌, ⊤, true, false, List, [], ◌∷◌, length, reverse, Some}
use Rattle.hp_tree.specs.declared.program.Item.{Item}
use Rattle.hp_tree.specs.Blocks.{Decl}
use Rattle.hp_tree.specs.Instant.{Assume}
use Rattle.hp_tree.specs.Meaning.{declares, controls_of, node_among}
use Rattle.hp_tree.specs.Programs.{Node}
use Rattle.hp_circuit.specs.declared.circuit.Role.TheVariants as role
use Rattle.hp_circuit.specs.Forms.{slot_at}
use Rattle.hp_circuit.specs.Reading.{edges_of, IsSteered}
use Rattle.hp_meaning.specs.Contract.Forgetting.{ContractsCallNothing}
use Rattle.hp_meaning.specs.Contract.Slots.{is_int}
use Rattle.hp_drawing.specs.Told.{Told}
use Rattle.hp_drawing.specs.DrawnNodes.{drawn_node}
use Rattle.law_drawing.specs.Steered.Laid.{slot_place}
use Rattle.law_drawing.specs.Steered.Nodes.{Depends, NodeFits}
use Rattle.law_drawing.specs.Reached.Filled.{IsFilled, ContractFilled}

-- none of these variables is an integer
abbrev pub NoIntegers : List Decl → Type 0
NoIntegers [] = ⊤
NoIntegers (d ∷ ds) = (is_int d.ty ≡ false) × NoIntegers ds

-- In a node, and in the contracts of those that it calls, each name that a block declares has an equation in it; no output is an input; and no controllable variable is an integer, which no slot holds.
pub record NodeReads (t : Told) (n : Node) : Type 0 where
  pub body : IsFilled n.body
  pub contract : ContractFilled n.contract
  pub callees : (f : List ℕ) (m : Node) → t.nodes f ≡ Some m → ContractFilled m.contract
  pub outputs : (x : List ℕ) → declares n.outputs x ≡ true → declares n.inputs x ≡ false
  pub controls : NoIntegers (controls_of n.contract)

-- Where the tables have the nodes of a program, whose contracts call nothing, a free slot of what is drawn of a node that may be early by its role has a wire that reads a controllable variable by some chain where the place of the slot depends on one.
abbrev pub ReachedLaw : Type 0
ReachedLaw =
    (program : List Item) (t : Told) (n : Node) → ((f : List ℕ) → t.nodes f ≡ node_among (reverse program) f) → ContractsCallNothing program → NodeFits t n → NodeReads t n
    → let s = drawn_node t n in
    (i : ℕ) → i < length s.slots → (slot_at s.slots i).role ≡ role.Free true → Depends n (slot_place program n i) → IsSteered s.slots (edges_of s.wires s.reads) (slot_at s.slots i).wire

-- And so the wire of the assumption reads one where the place of the assumption depends on one.
abbrev pub AssumptionReachedLaw : Type 0
AssumptionReachedLaw =
    (program : List Item) (t : Told) (n : Node) → ((f : List ℕ) → t.nodes f ≡ node_among (reverse program) f) → ContractsCallNothing program → NodeFits t n → NodeReads t n
    → let s = drawn_node t n in
    Depends n (Assume ∷ []) → IsSteered s.slots (edges_of s.wires s.reads) s.assume
