-- The observers of the contracts of a program suit its nodes, and call nothing, where they can be compiled.
-- Source: own.
use Rattle.std.specs.Prelude.{◌≡◌, ⊤, false, IsTrue, List, [], ◌∷◌, ◌++◌, Option, None, Some}
use Rattle.hp_obc.specs.Form.{TypesForm, has_name}
use Rattle.hp_tree.specs.declared.program.Item.{Item}
use Rattle.hp_tree.specs.declared.program.Item.TheVariants.{TypeItem, NodeItem}
use Rattle.hp_tree.specs.Meaning.{types_of}
use Rattle.hp_tree.specs.Programs.{Contract, Node}
use Rattle.law_judged.specs.Named.Scoped.{EachNode}
use Rattle.law_values.specs.Accepted.Laws.{IsReady}
use Rattle.hp_automata.specs.Lowering.{lowered_program}
use Rattle.hp_automata.specs.NewNames.{is_new}
use Rattle.hp_flat.specs.Nodes.{FlatNode}
use Rattle.law_equations.specs.Flattened.Behaves.{EachCallIn}
use Rattle.law_equations.specs.Flattened.Lifted.{in_body}
use Rattle.law_equations.specs.Followed.Programs.{CallsOnly}
use Rattle.law_equations.specs.Made.Types.{obc_types, obc_types_of}
use Rattle.hp_complete.specs.Declaring.{known_of}
use Rattle.hp_complete.specs.Made.{AreMadeOf}
use Rattle.law_wellmade.specs.Spelled.Integers.{NodeShort}
use Rattle.hp_watch.specs.Observing.{observers}
use Rattle.hp_watch.specs.Watching.{Observing}
use Rattle.law_choices.specs.Closed.Compilable.{IsCompilable}
use Rattle.law_choices.specs.InTurn.Laws.{said_of}
use Rattle.law_choices.specs.InTurn.Nodes.{Made, AreAllMade}
use Rattle.law_choices.specs.InTurn.Observers.{IsObserver}

-- the nodes that have contracts, with these, in order
abbrev pub with_contract : Node → Option Contract → List (Node × Contract)
with_contract n None = []
with_contract n (Some c) = (n, c) ∷ []

abbrev pub contracted_nodes : List Item → List (Node × Contract)
contracted_nodes [] = []
contracted_nodes (TypeItem t ∷ items) = contracted_nodes items
contracted_nodes (NodeItem n ∷ items) = with_contract n n.contract ++ contracted_nodes items

-- something is so of each of them and the clocked equations of its observer, in order
abbrev pub EachObserved : (Node → FlatNode → Type 0) → List (Node × Contract) → List FlatNode → Type 0
EachObserved P [] [] = ⊤
EachObserved P [] (f ∷ fs) = ⊥
EachObserved P (x ∷ xs) [] = ⊥
EachObserved P (x ∷ xs) (f ∷ fs) = P x.0 f × EachObserved P xs fs

-- the body of a node calls none
abbrev pub CallsNone : Node → Type 0
CallsNone n = EachCallIn (λ f here. IsTrue (has_name [] f)) n.body in_body

-- What is asked of the observers of a program: without automata they can be compiled, write integers of 32 bits alone, and call no node.
pub record CanBeObserved (after : List Item) : Type 0 where
  pub compilable : IsCompilable (lowered_program (observers after))
  pub short : EachNode NodeShort (lowered_program (observers after))
  pub alone : EachNode CallsNone (lowered_program (observers after))

-- Then their clocked equations take what the nodes take and give, and call nothing.
abbrev pub ObservedLaw : Type 0
ObservedLaw =
    (program after : List Item) (observing : Observing) (ms : List Made) (fs : List FlatNode) → IsReady program after → TypesForm (obc_types_of program) → EachNode (λ (n : Node). is_new n.name ≡ false) after → CanBeObserved after
    → AreAllMade (obc_types (types_of after)) observing after ms → AreMadeOf (known_of (lowered_program (observers after))) (lowered_program (observers after)) fs
    → EachObserved (λ n f. IsObserver (obc_types (types_of after)) (said_of after ms) n.name f × CallsOnly [] f.eqns) (contracted_nodes after) fs
