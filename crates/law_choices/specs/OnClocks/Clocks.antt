-- The variables of the clocked equations that are made of a program have clocks.
-- Source: own; that a variable has a clock, a path of tested variables, is as in Biernacki and others: Clock-directed modular code generation (LCTES 2008).
use Rattle.std.specs.Prelude.{List}
use Rattle.std.specs.List.{AllByRecursion}
use Rattle.hp_obc.specs.Form.{TypesForm}
use Rattle.hp_tree.specs.declared.program.Item.{Item}
use Rattle.hp_tree.specs.Meaning.{types_of}
use Rattle.law_values.specs.Accepted.Laws.{IsReady}
use Rattle.hp_automata.specs.Lowering.{lowered_program}
use Rattle.law_automata.specs.Lowered.Removable.{IsRemovable}
use Rattle.hp_flat.specs.Nodes.{FlatNode}
use Rattle.law_equations.specs.Made.Types.{obc_types, obc_types_of}
use Rattle.hp_complete.specs.Declaring.{known_of}
use Rattle.hp_complete.specs.Made.{AreMadeOf}
use Rattle.law_choices.specs.Closed.Clocking.{HasClocks, HasOwnClocks}

-- So it is of each node that is made of a ready program without its automata, whose types have form.
abbrev pub ClocksLaw : Type 0
ClocksLaw =
    (program after : List Item) → IsReady program after → IsRemovable after → TypesForm (obc_types_of program)
    → (fs : List FlatNode) → AreMadeOf (known_of (lowered_program after)) (lowered_program after) fs → AllByRecursion (HasClocks (obc_types (types_of after))) fs

-- Each equation that is no copy, as a comparison or a call, defines variables of its own clock.
abbrev pub OwnClocksLaw : Type 0
OwnClocksLaw =
    (program after : List Item) → IsReady program after → IsRemovable after → TypesForm (obc_types_of program)
    → (fs : List FlatNode) → AreMadeOf (known_of (lowered_program after)) (lowered_program after) fs → AllByRecursion (HasOwnClocks (obc_types (types_of after))) fs
