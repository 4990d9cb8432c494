-- A ready program has the types of the program that it was made of.
use Rattle.std.proofs.Common.{◌≡◌, List, ◌∙◌}
use Rattle.hp_tree.specs.declared.program.Item.{Item}
use Rattle.hp_tree.specs.Meaning.{types_of}
use Rattle.hp_expand.specs.Numbering.{no_node, replaced}
use Rattle.law_values.specs.Accepted.Laws.{IsReady}
use Rattle.law_values.proofs.AcceptedLemmas.Assembled.{types_replaced, types_clocked}
use Rattle.law_automata.proofs.LowerableLemmas.Texts.{clocked_of}

pub types_same : (program after : List Item) → IsReady program after → types_of after ≡ types_of program
types_same program after r = types_clocked (replaced program) after (clocked_of (replaced program) after r.clocks) ∙ types_replaced no_node program
