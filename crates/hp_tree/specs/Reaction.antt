-- Reactions of a node over a list of inputs, and its run.
use Rattle.std.specs.Prelude.{◌≡◌, ⊤, List, [], ◌∷◌, map, reverse, ℕ, Some}
use Rattle.hp_base.specs.declared.value.Value.{Value}
use Rattle.hp_tree.specs.declared.program.Item.{Item}
use Rattle.hp_tree.specs.Operators.{Reading, real}
use Rattle.hp_tree.specs.Instant.{Named, Place, Instant, Past, Given, Controls, Head, Tail, part}
use Rattle.hp_tree.specs.Meaning.{meaning, nodes, types_of, controls_of, node_among}
use Rattle.hp_tree.specs.Programs.{Node}
use Rattle.hp_tree.specs.Blocks.{Decl}
use Rattle.hp_tree.specs.Values.{AreOf}

-- An instant meets the equations of a node: each place holds what they say.
abbrev pub Meets : Reading → List Item → List ℕ → List Value → Given → Instant → Type 0
Meets R program f inputs g now = (p : Place) → now p ≡ meaning R program f inputs g now p

-- A reaction over a list of inputs, with what is given at each instant: one instant for each, the newest first, and each with the earlier ones as its past.
abbrev pub Reaction : List Item → List ℕ → List (List Value) → List Instant → Past → Type 0
Reaction program f [] [] [] = ⊤
Reaction program f (inputs ∷ earlier) (free ∷ frees) (now ∷ past) =
    Reaction program f earlier frees past × Meets real program f inputs (record { past = past; free = free }) now
Reaction program f inputs frees past = ⊥

-- the outputs of the node of this name at an instant, in declared order
abbrev pub outputs_at : List Item → List ℕ → Instant → List Value
outputs_at program f now = map (λ x. now (Named x ∷ [])) ((nodes (types_of program) real (reverse program)).outputs f)

-- ---- a node that is there, and values of types

-- the values of some declarations, in a row
abbrev pub row_of : List Decl → Instant → List Value
row_of [] i = []
row_of (d ∷ ds) i = i (Head ∷ []) ∷ row_of ds (part Tail i)

-- the values that an instant of a node gives to its controllable variables
abbrev pub controls_at : Node → Instant → List Value
controls_at n now = row_of (controls_of n.contract) (part Controls now)

abbrev pub Each : {A : Type 0} → (A → Type 0) → List A → Type 0
Each P [] = ⊤
Each P (x ∷ xs) = P x × Each P xs

-- A reaction of a node that is there: the inputs are of its types, and its controllable variables have values of theirs.
pub record NodeReaction (program : List Item) (f : List ℕ) (inputs : List (List Value)) (frees : List Instant) (past : Past) : Type 0 where
  pub node : Node
  pub is_node : node_among (reverse program) f ≡ Some node
  pub inputs_fit : Each (AreOf (types_of program) node.inputs) inputs
  pub controls_fit : Each (λ now. AreOf (types_of program) (controls_of node.contract) (controls_at node now)) past
  pub reaction : Reaction program f inputs frees past

-- The node has such a reaction over these inputs, and in each one it gives these outputs, whatever its controllable variables are; the oldest first. A node with controllable variables can have such a run, where they change no output. Where they do, its run chooses their values.
pub record IsRun (program : List Item) (f : List ℕ) (inputs outputs : List (List Value)) : Type 0 where
  pub some : (frees : List Instant) × (past : Past) × NodeReaction program f (reverse inputs) frees past
  pub every : (frees : List Instant) (past : Past) → NodeReaction program f (reverse inputs) frees past → reverse (map (outputs_at program f) past) ≡ outputs
