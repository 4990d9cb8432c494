-- The observers of a ready program can be compiled.
-- Source: own.
use Rattle.std.specs.Prelude.{ℕ, List, reverse}
use Rattle.hp_obc.specs.Form.{TypesForm}
use Rattle.hp_tree.specs.declared.program.Item.{Item}
use Rattle.hp_tree.specs.Meaning.{types_of}
use Rattle.hp_meaning.specs.Contract.Forgetting.{ContractsCallNothing}
use Rattle.law_judged.specs.Named.Scoped.{EachNode}
use Rattle.law_values.specs.Accepted.Laws.{IsReady}
use Rattle.hp_automata.specs.Lowering.{lowered_program}
use Rattle.law_automata.specs.Lowered.Removable.{IsRemovable}
use Rattle.law_equations.specs.Made.Types.{obc_types_of}
use Rattle.law_wellmade.specs.Spelled.Integers.{NodeShort}
use Rattle.law_wellmade.specs.Timely.Tested.{AreTested}
use Rattle.law_games.specs.ReadyGames.Laws.{IsInOrder}
use Rattle.hp_watch.specs.Observing.{observers}
use Rattle.law_choices.specs.InTurn.Observed.{CanBeObserved}
use Rattle.law_choices.specs.Observed.Contracts.{IsObservable}

-- Without automata the tests of observers are typed.
abbrev pub AreTestedObservers : List Item → Type 0
AreTestedObservers after = AreTested (types_of (lowered_program (observers after))) (reverse (lowered_program (observers after)))

-- So they can be compiled, where no contract holds a call and the names and integers of all are such as those of a text.
abbrev pub CanBeObservedLaw : Type 0
CanBeObservedLaw =
    (program after : List Item) → IsReady program after → IsRemovable after → TypesForm (obc_types_of program) → EachNode NodeShort after → ContractsCallNothing after → EachNode IsObservable after → AreTestedObservers after → CanBeObserved after

-- Their tests are typed in a ready program in order: the rules ask of a contract what they ask of a body.
abbrev pub TestedObserversLaw : Type 0
TestedObserversLaw =
    (program after : List Item) (ranks : List (List ℕ)) → IsInOrder program after ranks → IsRemovable after → TypesForm (obc_types_of program) → EachNode NodeShort after → ContractsCallNothing after → EachNode IsObservable after → AreTestedObservers after
