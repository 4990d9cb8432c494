-- The limits of the language and their words.
use Rattle.std.specs.Prelude.{ℕ, List, codes}
use Rattle.hp_base.specs.declared.limit.What.{What}
use Rattle.hp_base.specs.declared.limit.What.TheVariants.{Size, Name, Nest, Depth, Inputs, Outputs, Constructors, Types, Places, Total, Instances, Cells, Calls, Clock, Registers, Early, Control, Late, Text}

-- The most that there may be of what is counted.
abbrev pub most : What → ℕ
most Size = 1048576
most Name = 255
most Nest = 64
most Depth = 200
most Inputs = 64
most Outputs = 64
most Constructors = 64
most Types = 1000
most Places = 60000
most Total = 1000000
most Instances = 100000
most Cells = 20000000
most Calls = 64
most Clock = 64
most Registers = 64
most Early = 64
most Control = 16
most Late = 64
most Text = 67108864

-- The word for it in a diagnostic.
abbrev pub word : What → List ℕ
word Size = codes "size"
word Name = codes "name"
word Nest = codes "nest"
word Depth = codes "depth"
word Inputs = codes "inputs"
word Outputs = codes "outputs"
word Constructors = codes "constructors"
word Types = codes "types"
word Places = codes "places"
word Total = codes "total"
word Instances = codes "instances"
word Cells = codes "cells"
word Calls = codes "calls"
word Clock = codes "clock"
word Registers = codes "registers"
word Early = codes "early"
word Control = codes "control"
word Late = codes "late"
word Text = codes "text"
