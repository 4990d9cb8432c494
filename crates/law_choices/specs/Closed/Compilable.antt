-- Programs without automata whose nodes can be made clocked equations.
-- Source: own.
use Rattle.std.specs.Prelude.{◌≡◌, List, reverse}
use Rattle.hp_obc.specs.Form.{TypesForm}
use Rattle.hp_tree.specs.declared.program.Item.{Item}
use Rattle.hp_tree.specs.Meaning.{types_of}
use Rattle.hp_meaning.specs.Causal.Clocked.{ClocksRight}
use Rattle.hp_names.specs.Rules.{WellNamed}
use Rattle.law_judged.specs.Named.Scoped.{EachNode}
use Rattle.law_values.specs.Accepted.Laws.{IsReady}
use Rattle.law_values.specs.Filled.Firsts.{NodeHasFirsts}
use Rattle.hp_automata.specs.Lowering.{lowered_program}
use Rattle.law_automata.specs.Lowered.Removable.{IsRemovable}
use Rattle.law_automata.specs.Readied.Laws.{IsWhole}
use Rattle.law_automata.specs.Readied.Sound.{SoundBehind}
use Rattle.law_equations.specs.Answered.Answering.{AreApart}
use Rattle.law_equations.specs.Made.Types.{obc_types_of}
use Rattle.law_wellmade.specs.Timely.Tested.{AreTested}

-- The types of one program are those of another, whose names are right, and have form.
pub record HasTypesOf (program low : List Item) : Type 0 where
  pub same : types_of low ≡ types_of program
  pub named : WellNamed program
  pub form : TypesForm (obc_types_of program)

-- The nodes of a program are sound where they stand, and whole; their tests and clocks are right, each declaration has a first value, and no two have one name.
pub record IsCompilable (low : List Item) : Type 0 where
  pub sound : SoundBehind (types_of low) (reverse low)
  pub whole : EachNode IsWhole low
  pub tested : AreTested (types_of low) (reverse low)
  pub firsts : EachNode (NodeHasFirsts (types_of low)) low
  pub clocks : EachNode ClocksRight low
  pub apart : AreApart (reverse low)

-- So is a ready program without its automata.
abbrev pub CompilableLaw : Type 0
CompilableLaw =
    (program after : List Item) → IsReady program after → IsRemovable after → TypesForm (obc_types_of program) → HasTypesOf program (lowered_program after) × IsCompilable (lowered_program after)
