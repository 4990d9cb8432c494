-- What is supposed and owed in the circuit of a node that calls nothing.
-- Source: own.
use Rattle.std.specs.Prelude.{◌≡◌, []}
use Rattle.hp_tree.specs.Programs.{Node}
use Rattle.hp_meaning.specs.Contract.FreePlaces.{calls_of}
use Rattle.hp_drawing.specs.DrawnNodes.{Observer, drawn_node, drawn_observer, node_scope, with_controls}
use Rattle.hp_drawing.specs.Sketch.{empty}
use Rattle.hp_drawing.specs.Told.{Told}

-- the wires of what a node assumes and enforces, in the sketch of the node
abbrev pub observer_of : Told → Node → Observer
observer_of t n =
    let z = node_scope t n empty in
    (drawn_observer t z.0 n.contract (with_controls t n z.1)).0

-- It supposes what the node assumes, and owes what the node enforces: they are the same wires.
pub record OwesItsOwn (t : Told) (n : Node) : Type 0 where
  pub assume : (drawn_node t n).assume ≡ (observer_of t n).assume
  pub hyp : (drawn_node t n).hyp ≡ (observer_of t n).assume
  pub duty : (drawn_node t n).duty ≡ (observer_of t n).enforce

abbrev pub UncalledLaw : Type 0
UncalledLaw = (t : Told) (n : Node) → calls_of n ≡ [] → OwesItsOwn t n
