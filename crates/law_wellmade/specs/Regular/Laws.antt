-- What is proved of the clocked equations that are made of a program.
use Rattle.std.specs.Prelude.{List, reverse}
use Rattle.std.specs.List.{AllByRecursion}
use Rattle.hp_obc.specs.Machines.{ObcType}
use Rattle.hp_tree.specs.Meaning.{types_of}
use Rattle.hp_tree.specs.declared.program.Item.{Item}
use Rattle.law_values.specs.Accepted.Laws.{IsReady}
use Rattle.law_values.specs.Accepted.Written.{AreClocked}
use Rattle.law_values.specs.Filled.Firsts.{TypesHaveConstructors}
use Rattle.hp_automata.specs.Lowering.{lowered_program}
use Rattle.law_automata.specs.Lowered.Removable.{IsRemovable}
use Rattle.hp_flat.specs.Nodes.{FlatNode}
use Rattle.hp_complete.specs.Declaring.{known_of}
use Rattle.hp_complete.specs.Made.{AreMadeOf}
use Rattle.law_equations.specs.Answered.Short.{ConstantsShort}
use Rattle.law_wellmade.specs.Timely.Tested.{AreTested}
use Rattle.hp_form.specs.Regular.Regular.{EqnIsRegular}
use Rattle.law_wellmade.specs.Begun.Laws.{HasFewTypes}
use Rattle.law_judged.specs.Named.Scoped.{EachNode}
use Rattle.law_equations.specs.Made.Making.{Known}
use Rattle.law_equations.specs.Made.Types.{obc_types}
use Rattle.law_wellmade.specs.Spelled.Integers.{NodeShort}

-- each equation of these nodes is regular
abbrev pub AreRegular : List ObcType → List FlatNode → Type 0
AreRegular types fs = AllByRecursion (λ (f : FlatNode). AllByRecursion (EqnIsRegular types f.variables) f.eqns) fs

-- The equations that are made of a ready program without its automata are regular, where the integers that it writes are of 32 bits.
abbrev pub RegularLaw : Type 0
RegularLaw =
    (program after : List Item) → IsReady program after → IsRemovable after → TypesHaveConstructors (types_of program) → HasFewTypes program
    → AreTested (types_of after) (reverse (lowered_program after)) → EachNode NodeShort after
    → (fs : List FlatNode) → AreMadeOf (known_of (lowered_program after)) (lowered_program after) fs → AreRegular (obc_types (types_of after)) fs

-- The constants of equations that are made of nodes are of 32 bits, where the integers that the nodes write are.
abbrev pub ConstantsLaw : Type 0
ConstantsLaw = (k : Known) (items : List Item) (fs : List FlatNode) → AreMadeOf k items fs → EachNode NodeShort items → AllByRecursion (λ (f : FlatNode). ConstantsShort f.eqns) fs

-- So are integers where clocks are written,
abbrev pub ClocksLaw : Type 0
ClocksLaw = (before after : List Item) → AreClocked before after → EachNode NodeShort before → EachNode NodeShort after

-- and where automata are removed.
abbrev pub LoweredLaw : Type 0
LoweredLaw = (after : List Item) → IsRemovable after → EachNode NodeShort after → EachNode NodeShort (lowered_program after)
