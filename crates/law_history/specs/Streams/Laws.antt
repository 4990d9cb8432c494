-- That machines give the stream history of their program.
use Rattle.std.specs.Prelude.{◌≡◌, ℕ, List, reverse, Some}
use Rattle.std.specs.List.{AllByRecursion}
use Rattle.hp_base.specs.Kinds.{AreOfKinds}
use Rattle.hp_base.specs.declared.value.Value.{Value}
use Rattle.hp_tree.specs.declared.program.Item.{Item}
use Rattle.hp_tree.specs.Programs.{Node}
use Rattle.hp_tree.specs.Meaning.{types_of, node_among}
use Rattle.hp_tree.specs.Reaction.{IsRun}
use Rattle.hp_meaning.specs.Causal.RanksOfPoints.{AllFall}
use Rattle.hp_meaning.specs.Causal.Runs.{NoControls}
use Rattle.hp_obc.specs.Machines.{Obc}
use Rattle.hp_obc.specs.Steps.{machine_behaviour, run}
use Rattle.law_values.specs.Accepted.Laws.{IsReady}
use Rattle.law_automata.specs.Lowered.Removable.{IsRemovable}
use Rattle.law_values.specs.Filled.Firsts.{TypesHaveConstructors}
use Rattle.law_wellmade.specs.Begun.Laws.{HasFewTypes}
use Rattle.law_wellmade.specs.Timely.Kinds.{kinds_of_decls}
use Rattle.hp_machines.specs.Machined.{AreMachinesOf}

-- Over each list of inputs of its kinds, oldest first, the machine of a node gives the outputs of the node's one run. An integer of such a
-- kind has 32 bits, as each has that a trace gives.
abbrev pub GivesHistory : List Item → Obc → Type 0
GivesHistory program o =
    (f : List ℕ) (n : Node) (inputs : List (List Value)) → node_among (reverse program) f ≡ Some n → AllByRecursion (AreOfKinds (kinds_of_decls (types_of program) n.inputs)) inputs
    → IsRun program f inputs (run (machine_behaviour o f) inputs)

-- So do the machines of a ready program whose points have ranks, which has no controllable variables and few types.
abbrev pub HistoryLaw : Type 0
HistoryLaw =
    (program after : List Item) (ranks : List (List ℕ)) (o : Obc) → IsReady program after → IsRemovable after → AllFall after ranks → NoControls after
    → TypesHaveConstructors (types_of program) → HasFewTypes program → AreMachinesOf after o → GivesHistory after o
