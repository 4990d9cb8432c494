-- What nodes that choose answer, line by line, is what the program allows.
-- Source: own; a controlled program does nothing that the program without its controller could not do, after Ramadge and Wonham (The control of discrete event systems, Proceedings of the IEEE, 1989).
use Rattle.std.specs.Prelude.{◌≡◌, ℕ, List, reverse, Some}
use Rattle.std.specs.List.{AllByRecursion}
use Rattle.hp_base.specs.Kinds.{AreOfKinds}
use Rattle.hp_base.specs.declared.value.Value.{Value}
use Rattle.hp_tree.specs.declared.program.Item.{Item}
use Rattle.hp_tree.specs.Meaning.{types_of, node_among}
use Rattle.hp_tree.specs.Programs.{Node}
use Rattle.law_equations.specs.Followed.Programs.{all_answers}
use Rattle.law_wellmade.specs.Timely.Kinds.{kinds_of_decls}
use Rattle.law_choices.specs.InTurn.AllowedRuns.{IsAllowedRun}
use Rattle.law_choices.specs.InTurn.Laws.{IsAllowed}
use Rattle.law_choices.specs.InTurn.Nodes.{Made}

-- So it is of what each node of the program answers on inputs of its kinds.
abbrev pub AllowedRunLaw : Type 0
AllowedRunLaw =
    (after : List Item) (ms : List Made) (allowed : IsAllowed after ms) (f : List ℕ) (n : Node) (inputs : List (List Value)) → node_among (reverse after) f ≡ Some n → AllByRecursion (AreOfKinds (kinds_of_decls (types_of after) n.inputs)) inputs
    → IsAllowedRun after f inputs (all_answers (allowed.one.answers f) inputs)
