-- What the nodes of a program without controllable variables answer: in the filled form, where each `pre` without a past gives a fixed value for its place.
-- Source: a node as a function of streams, Caspi and others (POPL 1987), here of all inputs so far.
use Rattle.std.specs.Prelude.{◌≡◌, ⊤, ℕ, Bool, false, ◌||◌, IsTrue, IsFalse, List, [], ◌∷◌, reverse}
use Rattle.std.specs.Str.{bytes_eq}
use Rattle.hp_base.specs.declared.value.Value.{Value}
use Rattle.hp_tree.specs.declared.program.Item.{Item}
use Rattle.hp_tree.specs.declared.program.Item.TheVariants.{TypeItem, NodeItem}
use Rattle.hp_tree.specs.Operators.{filled}
use Rattle.hp_tree.specs.Instant.{Instant, Place, Past}
use Rattle.hp_tree.specs.Meaning.{Nodes, types_of, nodes, meaning}
use Rattle.hp_tree.specs.Filled.{firsts_among}
use Rattle.hp_meaning.specs.Causal.OneReaction.{ReactionOf}
use Rattle.law_equations.specs.Meaning.Reactions.{Answers}
use Rattle.law_equations.specs.Flattened.Flatten.{Prefix}
use Rattle.law_equations.specs.Flattened.Lifted.{uncontrolled}
use Rattle.law_equations.specs.Flattened.Behaves.{OutputsAre}

-- as many instants of what is given as there are inputs
abbrev pub given_each : Instant → List (List Value) → List Instant
given_each fill [] = []
given_each fill (vs ∷ earlier) = fill ∷ given_each fill earlier

abbrev pub filled_nodes : List Item → Nodes
filled_nodes program = nodes (types_of program) filled (reverse program)

-- A node has a reaction over inputs, the newest first, with these outputs at its newest instant.
pub record IsAnswer (program : List Item) (f : List ℕ) (fill : Instant) (inputs : List (List Value)) (outputs : List Value) : Type 0 where
  pub past : Past
  pub reaction : ReactionOf (meaning filled program f) inputs (given_each fill inputs) past
  pub outputs_are : OutputsAre ((filled_nodes program).outputs f) past outputs

-- So each node answers on all arguments, behind the earlier ones.
abbrev pub Answering : List Item → (List ℕ → Place → Value) → Answers → Type 0
Answering program fills answers = (f : List ℕ) (args : List Value) (earlier : List (List Value)) → IsAnswer program f (fills f) (args ∷ earlier) (answers f args earlier)

-- whether some items have a node of this name
abbrev pub has_node : List Item → List ℕ → Bool
has_node [] f = false
has_node (TypeItem t ∷ items) f = has_node items f
has_node (NodeItem n ∷ items) f = bytes_eq n.name f || has_node items f

-- no two nodes of some items have one name
abbrev pub AreApart : List Item → Type 0
AreApart [] = ⊤
AreApart (TypeItem t ∷ items) = AreApart items
AreApart (NodeItem n ∷ items) = IsFalse (has_node items n.name) × AreApart items

-- A call at a place of a node: its node is among those before, and what is given there is what is given to this node.
pub record IsCalled (earlier : List Item) (fills : List ℕ → Place → Value) (fill : Place → Value) (f : List ℕ) (here : Prefix) : Type 0 where
  pub declared : IsTrue (has_node earlier f)
  pub given_there : (p : Place) → IsTrue (uncontrolled p) → IsTrue (uncontrolled (here p)) × (fill (here p) ≡ fills f p)

-- the first values that the filled form gives to a node of a name, by their places
abbrev pub first_values : List Item → List ℕ → Place → Value
first_values program f p = firsts_among (types_of program) (reverse program) f p
