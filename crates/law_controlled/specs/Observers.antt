-- The observers of a program suit its nodes, and call nothing.
-- Source: own.
use Rattle.std.specs.Prelude.{◌≡◌, false, List}
use Rattle.hp_obc.specs.Form.{TypesForm}
use Rattle.hp_tree.specs.declared.program.Item.{Item}
use Rattle.hp_tree.specs.Meaning.{types_of}
use Rattle.hp_tree.specs.Programs.{Node}
use Rattle.law_judged.specs.Named.Scoped.{EachNode}
use Rattle.law_values.specs.Accepted.Laws.{IsReady}
use Rattle.hp_automata.specs.NewNames.{is_new}
use Rattle.law_equations.specs.Made.Types.{obc_types, obc_types_of}
use Rattle.hp_watch.specs.Watching.{Observing}
use Rattle.law_choices.specs.Adding.Surveyed.{AllSuit}
use Rattle.law_choices.specs.InTurn.Calling.{CallNothing}
use Rattle.law_choices.specs.InTurn.Laws.{said_of}
use Rattle.law_choices.specs.InTurn.Nodes.{Made, AreAllMade}
use Rattle.law_choices.specs.InTurn.Observed.{CanBeObserved}
use Rattle.hp_controlled.specs.Compiled.{AreObserved}

-- So it is of those that the compiler makes of the contracts of a ready program.
abbrev pub ObserversSuitLaw : Type 0
ObserversSuitLaw =
    (program after : List Item) (observers : Observing) (ms : List Made) → IsReady program after → TypesForm (obc_types_of program) → EachNode (λ (n : Node). is_new n.name ≡ false) after → CanBeObserved after
    → AreAllMade (obc_types (types_of after)) observers after ms → AreObserved after observers → AllSuit (obc_types (types_of after)) (said_of after ms) observers × CallNothing observers
