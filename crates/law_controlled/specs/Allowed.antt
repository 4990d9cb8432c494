-- Each line that the machines of a program say whose nodes choose the values of their controllable variables is one that the program allows.
-- Source: own; a controlled program does nothing that the program without its controller could not do, after Ramadge and Wonham (The control of discrete event systems, Proceedings of the IEEE, 1989).
use Rattle.std.specs.Prelude.{◌≡◌, ℕ, false, List, [], reverse, Some}
use Rattle.hp_obc.specs.Form.{TypesForm}
use Rattle.hp_obc.specs.Machines.{Obc}
use Rattle.hp_tree.specs.declared.program.Item.{Item}
use Rattle.hp_tree.specs.Meaning.{types_of, node_among}
use Rattle.hp_tree.specs.Programs.{Node}
use Rattle.law_judged.specs.Named.Scoped.{EachNode}
use Rattle.law_games.specs.ReadyGames.Laws.{IsInOrder}
use Rattle.hp_automata.specs.NewNames.{is_new}
use Rattle.law_automata.specs.Lowered.Removable.{IsRemovable}
use Rattle.law_equations.specs.Made.Types.{obc_types, obc_types_of}
use Rattle.law_wellmade.specs.Spelled.Integers.{NodeShort}
use Rattle.hp_meaning.specs.Contract.Forgetting.{ContractsCallNothing}
use Rattle.hp_watch.specs.Watching.{Observing}
use Rattle.law_choices.specs.Embedded.Observers.{AreObserversOf}
use Rattle.law_choices.specs.InTurn.Laws.{IsAllowed, IsChoosing, said_of}
use Rattle.law_choices.specs.InTurn.Nodes.{Made, all_nodes}
use Rattle.law_choices.specs.InTurn.Standing.{StandsFor}
use Rattle.law_choices.specs.Observed.Contracts.{IsObservable}
use Rattle.law_choices.specs.Playing.Greatest.{AreMirrored}
use Rattle.hp_controlled.specs.Chosen.{AreControlledMachines}
use Rattle.law_controlled.specs.Machines.{AnswerAsWhole}

-- Some nodes are made of the program that have one meaning, which the program allows, and the machine of each name gives on inputs of the kinds, oldest first, what its node answers. One of them stands for each node of the program, and each that has a contract asks a machine that mirrors it. The observers are those of the contracts, which call nothing.
pub record RunsAllowed (program after : List Item) (o : Obc) : Type 0 where
  pub observers : Observing
  pub all : List Made
  pub chooses : IsChoosing program after observers all
  pub silent : ContractsCallNothing after
  pub observable : EachNode IsObservable after
  pub own : AreObserversOf after observers
  pub mirrored : AreMirrored (obc_types (types_of after)) observers after [] after all
  pub allowed : IsAllowed after all
  pub runs : AnswerAsWhole o.types o.machines allowed.one.answers (said_of after all).takes (all_nodes all)
  pub stands : (f : List ℕ) (n : Node) → node_among (reverse after) f ≡ Some n → StandsFor after all f n

-- So it is of the machines that are compiled of a ready program in order, whose contracts can be observed.
abbrev pub AllowedLaw : Type 0
AllowedLaw =
    (program after : List Item) (ranks : List (List ℕ)) (o : Obc) → IsInOrder program after ranks → IsRemovable after → TypesForm (obc_types_of program) → EachNode NodeShort after → EachNode (λ (n : Node). is_new n.name ≡ false) after
    → EachNode IsObservable after → AreControlledMachines after o → RunsAllowed program after o
