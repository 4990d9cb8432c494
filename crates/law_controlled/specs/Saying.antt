-- Machines that say what a program allows.
-- Source: own; what a controlled program does is among what the program without its controller can do, after Ramadge and Wonham (The control of discrete event systems, Proceedings of the IEEE, 1989).
use Rattle.std.specs.Prelude.{◌≡◌, ℕ, List, reverse, Some}
use Rattle.std.specs.List.{AllByRecursion}
use Rattle.hp_base.specs.Kinds.{AreOfKinds}
use Rattle.hp_base.specs.declared.value.Value.{Value}
use Rattle.hp_obc.specs.Machines.{Obc}
use Rattle.hp_obc.specs.Steps.{machine_behaviour, run}
use Rattle.hp_tree.specs.declared.program.Item.{Item}
use Rattle.hp_tree.specs.Meaning.{types_of, node_among}
use Rattle.hp_tree.specs.Programs.{Node}
use Rattle.law_wellmade.specs.Timely.Kinds.{kinds_of_decls}
use Rattle.law_choices.specs.InTurn.AllowedRuns.{IsAllowedRun}

-- Over inputs of its kinds, newest first, the machine of a node says the outputs of a reaction of the program in which the controllable variables of each instance, at every depth and at each instant, have values of their types.
abbrev pub SaysAllowed : List Item → Obc → List ℕ → Node → Type 0
SaysAllowed program o f n =
    (inputs : List (List Value)) → AllByRecursion (AreOfKinds (kinds_of_decls (types_of program) n.inputs)) inputs → IsAllowedRun program f inputs (reverse (run (machine_behaviour o f) (reverse inputs)))

-- so does that of each node
abbrev pub AllSayAllowed : List Item → Obc → Type 0
AllSayAllowed program o = (f : List ℕ) (n : Node) → node_among program f ≡ Some n → SaysAllowed program o f n
