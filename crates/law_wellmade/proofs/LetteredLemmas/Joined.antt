-- From the names and types of a text to those of its machines.
use Rattle.std.proofs.Common.{◌≡◌, ℕ, List, [], ◌∷◌, map, refl, sym, ap, subst, ◌∙◌}
use Rattle.hp_tree.specs.declared.program.Item.{Item}
use Rattle.hp_tree.specs.declared.program.Item.TheVariants.{TypeItem, NodeItem}
use Rattle.hp_tree.specs.Programs.{Node}
use Rattle.hp_tree.specs.Meaning.{types_of}
use Rattle.law_judged.specs.Named.Scoped.{EachNode}
use Rattle.hp_expand.specs.Numbering.{with_node, replaced_node, replaced_items, no_node, replaced}
use Rattle.hp_clocks.specs.Answers.{IsClocked}
use Rattle.hp_automata.specs.Lowering.{Enumerations, enumerations, lowered_item, lowered_program}
use Rattle.hp_obc.specs.Form.{TypesForm}
use Rattle.law_equations.specs.Made.Making.{Known}
use Rattle.law_equations.specs.Made.Types.{obc_types}
use Rattle.hp_complete.specs.Declaring.{known_of}
use Rattle.law_judged.proofs.PlainLemmas.Spelled.{found_of}
use Rattle.law_wellmade.proofs.SpelledLemmas.Joined.{types}
use Rattle.law_wellmade.specs.Lettered.Names.{NodeSpelled, IsName, IsSourceName}
use Rattle.law_wellmade.specs.Lettered.Laws.{TextNamesLaw, ReplacedNamesLaw, ClockedNamesLaw, LoweredNamesLaw, KnownSpelled, MadeNamesLaw, NodeLettered, MachineNamesLaw, MachineTypesLaw}
use Rattle.law_wellmade.proofs.LetteredLemmas.NewLetters.{renames, words}
use Rattle.law_wellmade.proofs.LetteredLemmas.TextNames.{program_source, program_so}
use Rattle.law_wellmade.proofs.LetteredLemmas.ReplacedNames.{program_spelled}
use Rattle.law_wellmade.proofs.LetteredLemmas.ClockedNames.{program_clocked, types_clocked}
use Rattle.law_wellmade.proofs.LetteredLemmas.LoweredNames.{program_low}
use Rattle.law_wellmade.proofs.LetteredLemmas.SketchedNodes.{node_lettered, program_known}

pub text_names : TextNamesLaw
text_names text tokens program a p = program_source program (found_of text tokens program a.read p).1

pub replaced_names : ReplacedNamesLaw
replaced_names program h = program_spelled IsName renames program h

pub clocked_names : ClockedNamesLaw
clocked_names before after c h = program_clocked IsName IsClocked before after c h

pub lowered_names : LoweredNamesLaw
lowered_names after h = program_low IsName words (enumerations [] after) after h

pub made_names : MadeNamesLaw
made_names k known n h = node_lettered k known n h

each_lettered : (k : Known) (items : List Item) → KnownSpelled k → EachNode (NodeSpelled IsName) items → EachNode (NodeLettered k) items
each_lettered k [] known h = tt
each_lettered k (TypeItem t ∷ items) known h = each_lettered k items known h
each_lettered k (NodeItem n ∷ items) known h = ((h.0.0, node_lettered k known n h.0), each_lettered k items known h.1)

pub machine_names : MachineNamesLaw
machine_names text tokens program after a p c =
    let named : EachNode (NodeSpelled IsName) program = program_so IsSourceName IsName (λ x s. s.0) program (text_names text tokens program a p) in
    let low : EachNode (NodeSpelled IsName) (lowered_program after) = lowered_names after (clocked_names (replaced program) after c (replaced_names program named)) in
    each_lettered (known_of (lowered_program after)) (lowered_program after) (program_known (lowered_program after) low) low

-- ---- types stay

types_replaced : (nodes : List ℕ → Node) (items : List Item) → types_of (replaced_items nodes items) ≡ types_of items
types_replaced nodes [] = refl
types_replaced nodes (TypeItem t ∷ items) = ap (λ ts. t ∷ ts) (types_replaced nodes items)
types_replaced nodes (NodeItem n ∷ items) = types_replaced (with_node nodes (replaced_node nodes n)) items

types_lowered : (enums : Enumerations) (items : List Item) → types_of (map (lowered_item enums) items) ≡ types_of items
types_lowered enums [] = refl
types_lowered enums (TypeItem t ∷ items) = ap (λ ts. t ∷ ts) (types_lowered enums items)
types_lowered enums (NodeItem n ∷ items) = types_lowered enums items

pub machine_types : MachineTypesLaw
machine_types text tokens program after a p n c =
    let same : types_of (lowered_program after) ≡ types_of program =
    types_lowered (enumerations [] after) after ∙ types_clocked IsClocked (replaced program) after c ∙ types_replaced no_node program in
    subst (λ ts. TypesForm (obc_types ts)) (sym same) (types text tokens program a p n)
