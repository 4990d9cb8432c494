-- The nodes of a ready program without its automata have classes.
use Rattle.std.proofs.Common.{◌≡◌, List, [], ◌∷◌, map, reverse, subst}
use Rattle.hp_tree.specs.declared.program.Item.{Item}
use Rattle.hp_tree.specs.declared.program.Item.TheVariants.{TypeItem, NodeItem}
use Rattle.hp_tree.specs.Programs.{TypeDecl}
use Rattle.hp_tree.specs.Meaning.{types_of}
use Rattle.hp_init.specs.Classes.{Assignment}
use Rattle.law_judged.specs.Named.Scoped.{EachNode}
use Rattle.law_values.specs.Valued.Classed.{HasClasses}
use Rattle.law_values.specs.Valued.Values.{Classing, class_here, class_behind, AreAccepted}
use Rattle.law_values.proofs.AcceptedLemmas.Laws.{accepted}
use Rattle.hp_automata.specs.Lowering.{Enumerations, enumerations, lowered_node, lowered_item}
use Rattle.law_automata.specs.Lowered.Removable.{NodeOk}
use Rattle.law_automata.proofs.LowerableLemmas.Texts.{each_reverse}
use Rattle.law_automata.specs.Readied.Accepted.{ClassesBehind}
use Rattle.law_automata.proofs.ReadiedLemmas.SoundPrograms.{low_onto, each_ok}
use Rattle.law_automata.specs.Classed.Laws.{ClassesLaw}
use Rattle.law_automata.proofs.ClassedLemmas.Nodes.{node_classes}

here_is : (class : Assignment) (others : Classing) → class ≡ class_here (class ∷ others)
here_is class others = λ i p. class p

items_classes : (enums : Enumerations) (types : List TypeDecl) (class : Classing) (items : List Item) → AreAccepted types class items → EachNode NodeOk items → (others : Classing) × ClassesBehind others (map (lowered_item enums) items)
items_classes enums types class [] a ok = ([], tt)
items_classes enums types class (TypeItem t ∷ items) a ok = items_classes enums types class items a ok
items_classes enums types class (NodeItem n ∷ items) a ok =
    let own = node_classes enums n ok.0 (class_here class) a.0.classes in
    let earlier = items_classes enums types (class_behind class) items a.1 ok.1 in
    (own.0 ∷ earlier.0, (subst (λ z. HasClasses z (lowered_node enums n)) (here_is own.0 earlier.0) own.1, earlier.1))

pub classes_law : ClassesLaw
classes_law program after r ok =
    let enums = enumerations [] after in
    let a = accepted program after r in
    let low = items_classes enums (types_of after) a.0 (reverse after) a.1 (each_reverse NodeOk after (each_ok after ok)) in
    (low.0, subst (ClassesBehind low.0) (low_onto (types_of after) enums after []) low.1)
