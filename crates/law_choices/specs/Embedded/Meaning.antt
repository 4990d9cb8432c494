-- The places of observers have their values in the clocked equations that are made of observers.
-- Source: own; what is so of the nodes of a program (`specs/Streams/Places`) is so of the observers of their contracts.
use Rattle.std.specs.Prelude.{ℕ, List}
use Rattle.hp_obc.specs.Form.{TypesForm}
use Rattle.hp_tree.specs.declared.program.Item.{Item}
use Rattle.hp_meaning.specs.Contract.Forgetting.{ContractsCallNothing}
use Rattle.law_games.specs.ReadyGames.Laws.{IsInOrder}
use Rattle.law_judged.specs.Named.Scoped.{EachNode}
use Rattle.hp_automata.specs.Lowering.{lowered_program}
use Rattle.law_automata.specs.Lowered.Removable.{IsRemovable}
use Rattle.hp_flat.specs.Nodes.{FlatNode}
use Rattle.law_equations.specs.Made.Types.{obc_types_of}
use Rattle.hp_complete.specs.Declaring.{known_of}
use Rattle.hp_complete.specs.Made.{AreMadeOf}
use Rattle.law_wellmade.specs.Spelled.Integers.{NodeShort}
use Rattle.hp_watch.specs.Observing.{observers}
use Rattle.law_choices.specs.Choosing.Meaning.{HasOneMeaningUnder}
use Rattle.law_choices.specs.Observed.Contracts.{IsObservable}
use Rattle.law_choices.specs.OnClocks.WellMade.{callees_of}
use Rattle.law_choices.specs.Places.Laws.{KnowsOutputs}
use Rattle.law_choices.specs.Streams.Places.{AllKeepPlaces, outputs_low}
use Rattle.law_choices.specs.Streams.Uncontrolled.{no_choice}

-- The clocked equations of the observers of a program in order have one meaning, in which the places of comparisons have their values.
abbrev pub ObserversKeepLaw : Type 0
ObserversKeepLaw =
    (program after : List Item) (ranks : List (List ℕ)) → IsInOrder program after ranks → IsRemovable after → TypesForm (obc_types_of program) → EachNode NodeShort after → ContractsCallNothing after → EachNode IsObservable after
    → (fs : List FlatNode) → AreMadeOf (known_of (lowered_program (observers after))) (lowered_program (observers after)) fs
    → (one : HasOneMeaningUnder no_choice (callees_of (observers after)) fs) × AllKeepPlaces no_choice (observers after) one.answers fs

-- What is known of observers are the names of their outputs.
abbrev pub ObserversKnownLaw : Type 0
ObserversKnownLaw =
    (program after : List Item) (ranks : List (List ℕ)) → IsInOrder program after ranks → IsRemovable after → TypesForm (obc_types_of program) → EachNode NodeShort after → ContractsCallNothing after → EachNode IsObservable after
    → KnowsOutputs (outputs_low (observers after)) (known_of (lowered_program (observers after)))
