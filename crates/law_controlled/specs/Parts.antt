-- The part of a node that the compiler makes is a part of it, so it answers as the node does.
-- Source: own.
use Rattle.std.specs.Prelude.{ℕ, List}
use Rattle.hp_flat.specs.Nodes.{FlatNode}
use Rattle.law_equations.specs.Meaning.Scheduling.{IsWithin}
use Rattle.hp_controlled.specs.Parts as compiled
use Rattle.law_choices.specs.Part.Part.{Renumbering, IsPart}

-- a node under another name, with other outputs
abbrev pub with_outputs : List ℕ → List ℕ → FlatNode → FlatNode
with_outputs name outputs n = record { name = name; variables = n.variables; inputs = n.inputs; outputs = outputs; eqns = n.eqns }

-- Where the numbers in a node are those of its variables, it is a part of the node with the outputs that it has.
abbrev pub MadePartLaw : Type 0
MadePartLaw =
    (n : FlatNode) (name outputs : List ℕ) (other : FlatNode) → IsWithin (with_outputs name outputs n) → compiled.IsPart n name outputs other → (r : Renumbering) × IsPart r (with_outputs name outputs n) other
