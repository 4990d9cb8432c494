-- The clocked equations of a prepared program read each other in no circle.
use Rattle.std.proofs.Common.{ℕ, List, [], ◌∷◌, reverse, subst}
use Rattle.std.proofs.lemmas.List.{reverse-reverse}
use Rattle.hp_base.specs.declared.value.Value.{Value}
use Rattle.hp_obc.specs.Form.{TypesForm}
use Rattle.hp_tree.specs.Instant.{Place}
use Rattle.hp_tree.specs.Meaning.{types_of, nodes}
use Rattle.hp_tree.specs.Operators.{filled}
use Rattle.hp_tree.specs.Programs.{TypeDecl, Node}
use Rattle.hp_tree.specs.declared.program.Item.{Item}
use Rattle.hp_tree.specs.declared.program.Item.TheVariants.{TypeItem, NodeItem}
use Rattle.hp_meaning.specs.Causal.Clocked.{ClocksRight}
use Rattle.law_judged.specs.Named.Scoped.{EachNode}
use Rattle.law_values.proofs.FilledLemmas.Programs.{each_reverse}
use Rattle.law_values.specs.Valued.Values.{Classing, AreAccepted, class_behind}
use Rattle.law_equations.specs.Made.Making.{Known}
use Rattle.law_equations.specs.Made.Laws.{NodeReady}
use Rattle.hp_complete.specs.Declaring.{known_of}
use Rattle.hp_complete.specs.KnownLaw.{KnownLaw}
use Rattle.hp_complete.specs.Made.{HasCircle}
use Rattle.law_wellmade.specs.Suited.Suited.{AreAsked}
use Rattle.law_equations.specs.Made.Types.{obc_types_of}
use Rattle.law_wellmade.specs.Acyclic.Laws.{NoCircleLaw}
use Rattle.law_history.proofs.StreamsLemmas.Asked.{are_asked, split_first}
use Rattle.law_history.proofs.StreamsLemmas.ProgramTypes.{program_known}
use Rattle.law_history.proofs.StreamsLemmas.NodeRuns.{Prepared}

clocks_right : (types : List TypeDecl) (class : Classing) (items : List Item) → AreAccepted types class items → EachNode ClocksRight items
clocks_right types class [] h = tt
clocks_right types class (TypeItem t ∷ items) h = clocks_right types class items h
clocks_right types class (NodeItem n ∷ items) h = let node = h.0 in (node.clocks, clocks_right types (class_behind class) items h.1)

nodes_ready : (k : Known) (fills : List ℕ → Place → Value) (before : List (List ℕ)) (items : List Item) → AreAsked k fills before items → EachNode (λ (n : Node). NodeReady k (fills n.name) n) items
nodes_ready k fills before [] h = tt
nodes_ready k fills before (TypeItem t ∷ items) h = nodes_ready k fills before items h
nodes_ready k fills before (NodeItem n ∷ items) h = let node = h.0 in (node.ready, nodes_ready k fills (n.name ∷ before) items h.1)

pub prepared_no_circle : NoCircleLaw → KnownLaw → (program : List Item) → Prepared program → TypesForm (obc_types_of program) → HasCircle (known_of program) program → ⊥
prepared_no_circle law known program p form circle =
    let types = types_of program in
    let k = known_of program in
    let begins = p.begins in
    let right = subst (EachNode ClocksRight) (reverse-reverse program) (each_reverse ClocksRight (reverse program) (clocks_right types p.class (reverse program) p.accepted)) in
    let ready = nodes_ready k p.fills [] program (are_asked types k p.fills (reverse program) p.sound begins.ready [] program (split_first program) p.whole p.named) in
    law types (nodes types filled (reverse program)).outputs k p.fills program (program_known program form known p.named) ready p.ranked right circle
