-- What the declaration of a type is seen as.
use Rattle.hp_tree.specs.declared.program.TypeDecl.TheInside.{Inside}
use Rattle.hp_tree.specs.Programs.{TypeDecl}

abbrev pub type_seen : Inside → TypeDecl
type_seen t = record { name = t.name; cons = t.cons.items; span = t.span }
