-- Tests are typed in a program without automata.
use Rattle.std.specs.Prelude.{List, reverse}
use Rattle.hp_tree.specs.declared.program.Item.{Item}
use Rattle.hp_tree.specs.Meaning.{types_of}
use Rattle.hp_tree.specs.Programs.{Node}
use Rattle.law_judged.specs.Named.Scoped.{EachNode}
use Rattle.law_values.specs.Accepted.Laws.{IsReady}
use Rattle.hp_automata.specs.Lowering.{lowered_program}
use Rattle.law_automata.specs.Lowered.Removable.{IsRemovable}
use Rattle.law_automata.specs.Readied.Sound.{HaveConstructors}
use Rattle.law_wellmade.specs.Timely.Tested.{ConstructorsDiffer, AreTested}
use Rattle.law_wellmade.specs.Tested.Apart.{ContractApart}
use Rattle.law_wellmade.specs.Tested.Fits.{FitBehind}

-- No constructor of a ready program without its automata stands twice.
abbrev pub DifferLaw : Type 0
DifferLaw = (program after : List Item) → IsReady program after → ConstructorsDiffer (types_of (lowered_program after))

-- Where tests fit in a ready program, they are typed in the program without its automata.
abbrev pub FittedLaw : Type 0
FittedLaw =
    (program after : List Item) → IsReady program after → IsRemovable after → HaveConstructors program → FitBehind (types_of after) (reverse after)
    → AreTested (types_of after) (reverse (lowered_program after))

-- In every ready program tests fit.
abbrev pub FitLaw : Type 0
FitLaw = (program after : List Item) → IsReady program after → HaveConstructors program → FitBehind (types_of after) (reverse after)

-- So tests are typed in a ready program without its automata.
abbrev pub TestedLaw : Type 0
TestedLaw = (program after : List Item) → IsReady program after → IsRemovable after → HaveConstructors program → AreTested (types_of after) (reverse (lowered_program after))

-- In the contracts of a ready program no constructor stands twice in a `merge` or a `switch`.
abbrev pub ContractsApartLaw : Type 0
ContractsApartLaw = (program after : List Item) → IsReady program after → EachNode (λ (n : Node). ContractApart n.contract) after
