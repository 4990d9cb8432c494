-- The kinds of a node's inputs and outputs.
use Rattle.std.specs.Prelude.{ℕ, List, [], reverse, None, Some}
use Rattle.hp_base.specs.Kinds.{KindData}
use Rattle.hp_tree.specs.declared.program.Item.{Item}
use Rattle.hp_tree.specs.Meaning.{types_of, node_among}
use Rattle.law_wellmade.specs.Timely.Kinds.{kinds_of_decls}

-- the kinds of the inputs and of the outputs of the node of a name, in declared order
abbrev pub input_kinds : List Item → List ℕ → List KindData
input_kinds program f = elim (node_among (reverse program) f) [ None ↦ [] | Some n ↦ kinds_of_decls (types_of program) n.inputs ]

abbrev pub output_kinds : List Item → List ℕ → List KindData
output_kinds program f = elim (node_among (reverse program) f) [ None ↦ [] | Some n ↦ kinds_of_decls (types_of program) n.outputs ]
