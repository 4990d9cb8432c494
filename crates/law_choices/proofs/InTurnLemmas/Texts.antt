-- The nodes of a text have names without the sign.
use Rattle.std.proofs.Common.{◌≡◌, ℕ, false, true, nat_eq, if◌then◌else◌, List, [], ◌∷◌, refl, sym, ap, subst, ◌∙◌}
use Rattle.hp_tree.specs.declared.program.Item.{Item}
use Rattle.hp_tree.specs.declared.program.Item.TheVariants.{TypeItem, NodeItem}
use Rattle.hp_tree.specs.Programs.{Node}
use Rattle.hp_clocks.specs.Answers.{IsClocked}
use Rattle.hp_clocks.specs.Writing.{AreWritten}
use Rattle.hp_expand.specs.NewNames as expanded
use Rattle.hp_expand.specs.Numbering.{no_node, with_node, replaced_node, replaced_items, replaced}
use Rattle.law_judged.specs.Named.Scoped.{EachNode}
use Rattle.hp_automata.specs.NewNames.{is_new}
use Rattle.law_wellmade.specs.Lettered.Laws.{TextNamesLaw}
use Rattle.law_wellmade.specs.Lettered.Names.{NodeSpelled, IsSourceName}
use Rattle.law_choices.proofs.OnClocksLemmas.Texts.{when_accepted}
use Rattle.law_choices.specs.InTurn.Texts.{SignLaw, TextLaw}

-- the sign is one and the same
one_sign : (x : List ℕ) → is_new x ≡ expanded.is_new x
one_sign [] = refl
one_sign (b ∷ bs) = ap (λ t. if nat_eq b 36 then true else t) (one_sign bs)

abbrev Unsigned : Node → Type 0
Unsigned n = is_new n.name ≡ false

source_names : (items : List Item) → EachNode (NodeSpelled IsSourceName) items → EachNode Unsigned items
source_names [] h = tt
source_names (TypeItem t ∷ items) h = source_names items h
source_names (NodeItem n ∷ items) h = (one_sign n.name ∙ h.0.0.1.0, source_names items h.1)

names_replaced : (nodes : List ℕ → Node) (items : List Item) → EachNode Unsigned items → EachNode Unsigned (replaced_items nodes items)
names_replaced nodes [] h = tt
names_replaced nodes (TypeItem t ∷ items) h = names_replaced nodes items h
names_replaced nodes (NodeItem n ∷ items) h = (h.0, names_replaced (with_node nodes (replaced_node nodes n)) items h.1)

names_written : (xs ys : List Item) → AreWritten IsClocked xs ys → EachNode Unsigned xs → EachNode Unsigned ys
names_written [] [] w h = tt
names_written [] (y ∷ ys) w h = absurd w
names_written (TypeItem t ∷ xs) [] w h = absurd w
names_written (NodeItem n ∷ xs) [] w h = absurd w
names_written (TypeItem t ∷ xs) (y ∷ ys) w h = subst (λ z. EachNode Unsigned (z ∷ ys)) (sym w.0) (names_written xs ys w.1 h)
names_written (NodeItem n ∷ xs) (y ∷ ys) w h = let it = w.0 in subst (λ z. EachNode Unsigned (z ∷ ys)) (sym it.2) (h.0, names_written xs ys w.1 h.1)

pub sign_law : TextNamesLaw → SignLaw
sign_law names text tokens program after a p c = names_written (replaced program) after c (names_replaced no_node program (source_names program (names text tokens program a p)))

pub text_law : TextNamesLaw → TextLaw
text_law names text tokens program after observers ms a p n t d f i c equations suit alone made =
    let q = when_accepted text tokens program after a p n t d f i c in
    record {
      ready = q.ready;
      removable = q.removable;
      form = q.form;
      short = q.short;
      names = sign_law names text tokens program after a p c;
      equations = equations;
      suit = suit;
      alone = alone;
      made = made;
    }
