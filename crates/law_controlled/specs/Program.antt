-- What is made of the nodes of a program whose nodes choose the values of their controllable variables.
-- Source: own.
use Rattle.std.specs.Prelude.{◌≡◌, ◌+◌, ⊤, List, [], ◌∷◌, map}
use Rattle.std.specs.List.{AllByRecursion}
use Rattle.hp_obc.specs.Machines.{ObcType}
use Rattle.hp_tree.specs.declared.program.Item.{Item}
use Rattle.hp_tree.specs.declared.program.Item.TheVariants.{TypeItem, NodeItem}
use Rattle.law_values.specs.Accepted.Laws.{IsReady}
use Rattle.hp_automata.specs.Lowering.{Enumerations, lowered_item, lowered_program}
use Rattle.hp_flat.specs.Nodes.{FlatNode}
use Rattle.law_equations.specs.Made.Making.{Known}
use Rattle.hp_complete.specs.Declaring.{known_of}
use Rattle.hp_complete.specs.Made.{AreMadeOf}
use Rattle.law_wellmade.specs.Suited.Suited.{HasFew}
use Rattle.hp_watch.specs.Watching.{Observing}
use Rattle.hp_abstract.specs.declared.abstracted.Abstraction.{Abstraction}
use Rattle.hp_abstract.specs.Abstractions.{IsAbstractionOf}
use Rattle.hp_controller.specs.declared.decoding.Control.{Control}
use Rattle.hp_tree.specs.Programs.{Node}
use Rattle.hp_controlled.specs.Choosing.{IsChoosing, Telling}
use Rattle.hp_controlled.specs.Compiled.{AreNodes}
use Rattle.law_controlled.specs.Names.{Adds, HasFreeNames}
use Rattle.law_choices.specs.Answered.Loops as loop
use Rattle.law_choices.specs.InTurn.Nodes.{Contracted, IsContracted, Made, plain, contracted, AreAllMade, all_nodes, loops}
use Rattle.law_choices.specs.Playing.Mirrored.{first_gate}
use Rattle.law_controlled.specs.Machines.{AreMadeFrom}

-- what is added to the node of a contract so that it chooses are variables with names of their own
abbrev pub HasAdded : Made → Type 0
HasAdded (plain f) = ⊤
HasAdded (contracted c) = Adds c.plant c.chosen.node

-- What is made of a node asks the controller of the Boolean machine of its contract. It is told which inputs and free places are early as the circuit of the machine has it, and each control variable has as many bits as in the machine. What it tells are copies of the gates of what is assumed and enforced.
pub record AsksItsMachine (program : List Item) (types : List ObcType) (observers : Observing) (n : Node) (c : Contracted) : Type 0 where
  pub is : IsContracted types observers n c
  pub abstraction : Abstraction
  pub is_abstraction : IsAbstractionOf program n abstraction
  pub machine : is.machine ≡ abstraction.machine
  pub flags : is.is_early ≡ map (λ g. g.is_early) abstraction.given.items
  pub widths : map (λ (k : Control). k.width) is.controls ≡ (is.machine).widths
  pub assume : is.whole.assume ≡ first_gate types observers n c is + abstraction.assume
  pub enforce : is.whole.enforce ≡ first_gate types observers n c is + abstraction.enforce

abbrev pub AsksIfContracted : List Item → List ObcType → Observing → Node → Made → Type 0
AsksIfContracted program types observers n (plain f) = ⊤
AsksIfContracted program types observers n (contracted c) = AsksItsMachine program types observers n c

-- so it is of each node of some items, in order
abbrev pub AllAskTheirMachines : List Item → List ObcType → Observing → List Item → List Made → Type 0
AllAskTheirMachines program types observers [] ms = ⊤
AllAskTheirMachines program types observers (TypeItem t ∷ items) ms = AllAskTheirMachines program types observers items ms
AllAskTheirMachines program types observers (NodeItem n ∷ items) [] = ⊤
AllAskTheirMachines program types observers (NodeItem n ∷ items) (m ∷ ms) = AsksIfContracted program types observers n m × AllAskTheirMachines program types observers items ms

-- It is known of each node what is made of it, and its machines are made of that: of controllers and of the nodes that choose, or of parts of these.
pub record HaveMade (program : List Item) (types : List ObcType) (observers : Observing) (items : List Item) (plants nodes : List FlatNode) : Type 0 where
  pub all : List Made
  pub made : AreAllMade types observers items all
  pub ask : AllAskTheirMachines program types observers items all
  pub are_plants : loop.plants (loops all) ≡ plants
  pub from : AreMadeFrom (all_nodes all) nodes
  pub added : AllByRecursion HasAdded all
  -- where what machines are made of has no more variables than a machine's words tell apart, so it is of all
  pub few : AllByRecursion HasFew nodes → AllByRecursion HasFew (all_nodes all)

-- So it is of what the compiler makes, of the clocked equations of the nodes without their automata.
abbrev pub MadeNodesLaw : Type 0
MadeNodesLaw =
    (program : List Item) (types : List ObcType) (observers : Observing) (k : Known) (enums : Enumerations) (items : List Item) (plants nodes : List FlatNode) → AreMadeOf k (map (lowered_item enums) items) plants
    → AreNodes program types observers items plants nodes → HaveMade program types observers items plants nodes

-- The node that chooses has the variables of its clocked equations, and more with names of their own.
abbrev pub ChoosingNamesLaw : Type 0
ChoosingNamesLaw = (types : List ObcType) (observers : Observing) (node : Node) (n : FlatNode) (a : Abstraction) (c : Telling) → IsChoosing types observers node n a c → Adds n c.node

-- So names of variables differ in whatever is made of a ready program, and are no names of memories or instances.
abbrev pub MadeNamesLaw : Type 0
MadeNamesLaw =
    (program after : List Item) (types : List ObcType) (observers : Observing) (plants nodes : List FlatNode) → IsReady program after → AreMadeOf (known_of (lowered_program after)) (lowered_program after) plants
    → (made : HaveMade after types observers after plants nodes) → AllByRecursion HasFew nodes → AllByRecursion HasFreeNames (all_nodes made.all)
