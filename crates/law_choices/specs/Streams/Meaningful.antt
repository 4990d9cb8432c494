-- Programs whose clocked equations mean what they do: the nodes of a ready program, and the observers of its contracts.
-- Source: own.
use Rattle.std.specs.Prelude.{List}
use Rattle.hp_tree.specs.declared.program.Item.{Item}
use Rattle.law_judged.specs.Named.Scoped.{EachNode}
use Rattle.hp_automata.specs.Lowering.{lowered_program}
use Rattle.law_wellmade.specs.Spelled.Integers.{NodeShort}
use Rattle.law_choices.specs.Closed.Compilable.{HasTypesOf, IsCompilable}
use Rattle.law_choices.specs.Filled.Valued.{HasValues}
use Rattle.law_choices.specs.Flat.Answering.{ControlsDiffer}

-- The places of a program have values. Without automata it can be compiled, its types are those of a program whose names are right, its integers have 32 bits, and no input has the name of a controllable variable.
pub record IsMeaningful (program after : List Item) : Type 0 where
  pub values : HasValues after
  pub types : HasTypesOf program (lowered_program after)
  pub compilable : IsCompilable (lowered_program after)
  pub short : EachNode NodeShort (lowered_program after)
  pub differ : EachNode ControlsDiffer (lowered_program after)
