-- The types of a program, as machines have them.
use Rattle.std.specs.Prelude.{List, map}
use Rattle.hp_obc.specs.Machines.{ObcType}
use Rattle.hp_tree.specs.Meaning.{types_of}
use Rattle.hp_tree.specs.Programs.{TypeDecl}
use Rattle.hp_tree.specs.declared.program.Item.{Item}

abbrev pub obc_type_of : TypeDecl → ObcType
obc_type_of t = record { name = t.name; cons = t.cons }

abbrev pub obc_types : List TypeDecl → List ObcType
obc_types types = map obc_type_of types

-- those that items declare, in order
abbrev pub obc_types_of : List Item → List ObcType
obc_types_of items = obc_types (types_of items)
