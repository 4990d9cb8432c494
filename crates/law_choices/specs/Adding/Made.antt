-- The clocked equations of a program are such as equations may be added to.
-- Source: own.
use Rattle.std.specs.Prelude.{ℕ, List}
use Rattle.std.specs.List.{AllByRecursion}
use Rattle.hp_obc.specs.Form.{TypesForm}
use Rattle.hp_obc.specs.Machines.{ObcType}
use Rattle.hp_tree.specs.Meaning.{types_of}
use Rattle.hp_tree.specs.declared.program.Item.{Item}
use Rattle.law_judged.specs.Named.Scoped.{EachNode}
use Rattle.law_values.specs.Accepted.Laws.{IsReady}
use Rattle.hp_automata.specs.Lowering.{lowered_program}
use Rattle.law_automata.specs.Lowered.Removable.{IsRemovable}
use Rattle.hp_flat.specs.Equations.{Clock}
use Rattle.hp_flat.specs.Nodes.{FlatNode}
use Rattle.law_equations.specs.Made.Types.{obc_types, obc_types_of}
use Rattle.law_equations.specs.Meaning.Kinding.{Callees}
use Rattle.hp_complete.specs.Declaring.{known_of}
use Rattle.hp_complete.specs.Made.{AreMadeOf}
use Rattle.law_wellmade.specs.Spelled.Integers.{NodeShort}
use Rattle.law_choices.specs.Closed.Clocking.{DefinesOwn}
use Rattle.law_choices.specs.Closed.Compilable.{HasTypesOf, IsCompilable}
use Rattle.law_choices.specs.OnClocks.WellMade.{calls_of, callees_of}
use Rattle.law_choices.specs.Adding.Keeping.{IsBased}
use Rattle.law_choices.specs.Adding.Lifts.{HaveBytes}

-- A node is well built, with its inputs on the base clock, and each of its equations that is no copy defines variables of its own clock.
pub record IsReadyMade (types : List ObcType) (callees : Callees) (n : FlatNode) : Type 0 where
  pub clock : ℕ → Clock
  pub based : IsBased types callees clock n
  pub own : AllByRecursion (DefinesOwn clock) n.eqns

-- So is each node that is made of a program without automata that can be compiled, where the integers that it writes are of 32 bits.
abbrev pub CompiledMadeLaw : Type 0
CompiledMadeLaw =
    (program low : List Item) → HasTypesOf program low → IsCompilable low → EachNode NodeShort low → (fs : List FlatNode) → AreMadeOf (known_of low) low fs
    → AllByRecursion (IsReadyMade (obc_types (types_of low)) (calls_of (obc_types (types_of low)) (known_of low))) fs

-- So is each node that is made of a ready program without its automata.
abbrev pub ReadyMadeLaw : Type 0
ReadyMadeLaw =
    (program after : List Item) → IsReady program after → IsRemovable after → TypesForm (obc_types_of program) → EachNode NodeShort after
    → (fs : List FlatNode) → AreMadeOf (known_of (lowered_program after)) (lowered_program after) fs → AllByRecursion (IsReadyMade (obc_types (types_of after)) (callees_of after)) fs

-- Where types have form, each constructor has a number of one byte.
abbrev pub BytesLaw : Type 0
BytesLaw = (types : List ObcType) → TypesForm types → HaveBytes types
