-- Laws of tests in a program without automata.
use Rattle.std.proofs.Common.{◌≡◌, List, sym, subst, ◌∙◌, map, refl, ap, ◌∷◌, []}
use Rattle.hp_tree.specs.declared.program.Item.{Item}
use Rattle.hp_tree.specs.declared.program.Item.TheVariants.{TypeItem, NodeItem}
use Rattle.hp_tree.specs.Meaning.{types_of}
use Rattle.hp_expand.specs.Numbering.{no_node, replaced}
use Rattle.law_values.proofs.AcceptedLemmas.Assembled.{types_replaced, types_clocked}
use Rattle.law_values.specs.Accepted.Laws.{IsReady}
use Rattle.hp_automata.specs.Lowering.{Enumerations, enumerations, lowered_item}
use Rattle.law_automata.proofs.LowerableLemmas.Texts.{clocked_of}
use Rattle.law_wellmade.specs.Timely.Tested.{ConstructorsDiffer}
use Rattle.law_wellmade.proofs.TimelyLemmas.DifferLaws.{differ}
use Rattle.law_wellmade.specs.Tested.Laws.{DifferLaw}

pub types_lowered : (enums : Enumerations) (items : List Item) → types_of (map (lowered_item enums) items) ≡ types_of items
types_lowered enums [] = refl
types_lowered enums (TypeItem t ∷ items) = ap (λ ts. t ∷ ts) (types_lowered enums items)
types_lowered enums (NodeItem n ∷ items) = types_lowered enums items

pub types_after : (program after : List Item) → IsReady program after → types_of after ≡ types_of program
types_after program after r = types_clocked (replaced program) after (clocked_of (replaced program) after r.clocks) ∙ types_replaced no_node program

pub differ_law : DifferLaw
differ_law program after r = subst ConstructorsDiffer (sym (types_lowered (enumerations [] after) after ∙ types_after program after r)) (differ program r.named)
