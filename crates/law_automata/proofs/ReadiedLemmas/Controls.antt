-- Controllable variables are declared once.
use Rattle.std.proofs.Common.{◌≡◌, ℕ, ◌||◌, List, [], ◌∷◌, map, refl, sym, ap, ◌∙◌, subst}
use Rattle.std.specs.Prelude.{Option, None, Some, option_map}
use Rattle.std.specs.Str.{bytes_eq}
use Rattle.hp_tree.specs.declared.program.Item.{Item}
use Rattle.hp_tree.specs.declared.program.Item.TheVariants.{TypeItem, NodeItem}
use Rattle.hp_tree.specs.Blocks.{Decl}
use Rattle.hp_tree.specs.Programs.{Contract, Node}
use Rattle.hp_tree.specs.Meaning.{declares, controls_of}
use Rattle.hp_names.specs.Scopes as names
use Rattle.hp_names.specs.Rules.{ItemsAreNamed, WellNamed}
use Rattle.hp_meaning.specs.Clocking.Clocking.{AreOnce, Assignment, base_written, contract_with_clocks}
use Rattle.law_judged.specs.Named.Scopes.{NameScope}
use Rattle.law_judged.specs.Named.Scoped.{EachNode}
use Rattle.law_judged.proofs.NamedLemmas.Sets.{new_once}
use Rattle.hp_expand.specs.Replacing.{in_contract}
use Rattle.hp_expand.specs.Numbering as number
use Rattle.hp_expand.specs.Numbering.{no_node, with_node, replaced_node, replaced_items, replaced}
use Rattle.law_values.specs.Accepted.Written.{AreClocked}

abbrev pub ControlsOnce : Node → Type 0
ControlsOnce n = AreOnce (controls_of n.contract)

controls_named : (s : NameScope) (items : List Item) → ItemsAreNamed s items → EachNode ControlsOnce items
controls_named s [] h = tt
controls_named s (TypeItem t ∷ items) h = controls_named (names.behind s (TypeItem t)) items h.1
controls_named s (NodeItem n ∷ items) h = (new_once (names.inside_node s n).variables (controls_of n.contract) h.0.1.1.1.1.1.1.0.0, controls_named (names.behind s (NodeItem n)) items h.1)

controls_in : (nodes : List ℕ → Node) (o : Option Contract) → controls_of (in_contract nodes 1 o).part ≡ controls_of o
controls_in nodes None = refl
controls_in nodes (Some c) = refl

controls_numbered : (o : Option Contract) → controls_of (option_map number.in_contract o) ≡ controls_of o
controls_numbered None = refl
controls_numbered (Some c) = refl

controls_replaced : (nodes : List ℕ → Node) (items : List Item) → EachNode ControlsOnce items → EachNode ControlsOnce (replaced_items nodes items)
controls_replaced nodes [] h = tt
controls_replaced nodes (TypeItem t ∷ items) h = controls_replaced nodes items h
controls_replaced nodes (NodeItem n ∷ items) h =
    (subst AreOnce (sym (controls_numbered (in_contract nodes 1 n.contract).part ∙ controls_in nodes n.contract)) h.0, controls_replaced (with_node nodes (replaced_node nodes n)) items h.1)

written_declares : (ds : List Decl) (x : List ℕ) → declares (map base_written ds) x ≡ declares ds x
written_declares [] x = refl
written_declares (d ∷ ds) x = ap (λ b. bytes_eq d.name x || b) (written_declares ds x)

written_once : (ds : List Decl) → AreOnce ds → AreOnce (map base_written ds)
written_once [] h = tt
written_once (d ∷ ds) h = (written_declares ds d.name ∙ h.0, written_once ds h.1)

contract_once : (at : Assignment) (o : Option Contract) → AreOnce (controls_of o) → AreOnce (controls_of (contract_with_clocks at o))
contract_once at None h = tt
contract_once at (Some c) h = written_once c.controls h

controls_clocked : (xs ys : List Item) → AreClocked xs ys → EachNode ControlsOnce xs → EachNode ControlsOnce ys
controls_clocked [] [] c p = tt
controls_clocked (TypeItem t ∷ xs) (y ∷ ys) c p = subst (λ z. EachNode ControlsOnce (z ∷ ys)) (sym c.0) (controls_clocked xs ys c.1 p)
controls_clocked (NodeItem n ∷ xs) (y ∷ ys) c p = subst (λ z. EachNode ControlsOnce (z ∷ ys)) (sym c.0.1.1) (contract_once c.0.0 n.contract p.0, controls_clocked xs ys c.1 p.1)
controls_clocked [] (y ∷ ys) c p = absurd c
controls_clocked (TypeItem t ∷ xs) [] c p = absurd c
controls_clocked (NodeItem n ∷ xs) [] c p = absurd c

pub controls_once : (program after : List Item) → WellNamed program → AreClocked (replaced program) after → EachNode ControlsOnce after
controls_once program after n c = controls_clocked (replaced program) after c (controls_replaced no_node program (controls_named names.nothing program n))
