-- The parts of a block.
use Rattle.std.specs.Prelude.{List}
use Rattle.hp_tree.specs.Blocks.{Decl, Block, block, Eqns}

abbrev pub locals_of : Block → List Decl
locals_of (block ds es) = ds

abbrev pub equations_of : Block → Eqns
equations_of (block ds es) = es
