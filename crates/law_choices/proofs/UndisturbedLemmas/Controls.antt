-- Controllable variables are neither inputs nor outputs, in a judged program and where inlined calls are replaced and clocks written.
use Rattle.std.proofs.Common.{◌≡◌, ℕ, ◌||◌, List, [], ◌∷◌, map, refl, sym, ap, ◌∙◌, subst, Contains, arith}
use Rattle.std.specs.Prelude.{IsTrue, Option, None, Some, option_map}
use Rattle.std.specs.Str.{bytes_eq}
use Rattle.hp_tree.specs.declared.program.Item.{Item}
use Rattle.hp_tree.specs.declared.program.Item.TheVariants.{TypeItem, NodeItem}
use Rattle.hp_tree.specs.Blocks.{Decl}
use Rattle.hp_tree.specs.Programs.{Contract, Node}
use Rattle.hp_tree.specs.Meaning.{declares, controls_of}
use Rattle.hp_names.specs.Scopes as names
use Rattle.hp_names.specs.Rules.{ItemsAreNamed, WellNamed}
use Rattle.hp_meaning.specs.Clocking.Clocking.{Assignment, base_written, contract_with_clocks, node_with_clocks}
use Rattle.law_judged.specs.Named.Scopes.{NameScope}
use Rattle.law_judged.specs.Named.Scoped.{no_names, also, interface, AreFresh, EachNode}
use Rattle.law_judged.proofs.NamedLemmas.Sets.{Sees, sees_more, new_fresh}
use Rattle.hp_expand.specs.Replacing.{in_contract}
use Rattle.hp_expand.specs.Numbering as number
use Rattle.hp_expand.specs.Numbering.{no_node, with_node, replaced_node, replaced_items, replaced}
use Rattle.law_values.specs.Accepted.Written.{AreClocked}
use Rattle.law_choices.specs.Undisturbed.Laws.{ControlsApart}

-- ---- a judged program

controls_named : (s : NameScope) → Sees s no_names → (items : List Item) → ItemsAreNamed s items → EachNode ControlsApart items
controls_named s k [] h = tt
controls_named s k (TypeItem t ∷ items) h = controls_named (names.behind s (TypeItem t)) k items h.1
controls_named s k (NodeItem n ∷ items) h =
    let inside = sees_more (names.with_variables s n.inputs) (also no_names n.inputs) n.outputs (sees_more s no_names n.inputs k) in
    (new_fresh (names.inside_node s n) (interface n) (controls_of n.contract) inside h.0.1.1.1.1.1.1.0.0, controls_named (names.behind s (NodeItem n)) k items h.1)

none_contained : (x : List ℕ) → Contains [] x → IsTrue (no_names x)
none_contained x h = absurd (omega (arith, h.1))

nothing_seen : Sees names.nothing no_names
nothing_seen = (none_contained, λ x h. absurd cc)

-- ---- inlined calls are replaced

controls_in : (nodes : List ℕ → Node) (o : Option Contract) → controls_of (in_contract nodes 1 o).part ≡ controls_of o
controls_in nodes None = refl
controls_in nodes (Some c) = refl

controls_numbered : (o : Option Contract) → controls_of (option_map number.in_contract o) ≡ controls_of o
controls_numbered None = refl
controls_numbered (Some c) = refl

controls_replaced : (nodes : List ℕ → Node) (items : List Item) → EachNode ControlsApart items → EachNode ControlsApart (replaced_items nodes items)
controls_replaced nodes [] h = tt
controls_replaced nodes (TypeItem t ∷ items) h = controls_replaced nodes items h
controls_replaced nodes (NodeItem n ∷ items) h =
    (subst (AreFresh (interface n)) (sym (controls_numbered (in_contract nodes 1 n.contract).part ∙ controls_in nodes n.contract)) h.0, controls_replaced (with_node nodes (replaced_node nodes n)) items h.1)

-- ---- clocks are written

based : (ds : List Decl) (x : List ℕ) → declares (map base_written ds) x ≡ declares ds x
based [] x = refl
based (d ∷ ds) x = ap (λ z. bytes_eq d.name x || z) (based ds x)

controls_based : (at : Assignment) (o : Option Contract) (x : List ℕ) → declares (controls_of (contract_with_clocks at o)) x ≡ declares (controls_of o) x
controls_based at None x = refl
controls_based at (Some c) x = based c.controls x

interface_based : (at : Assignment) (n : Node) (x : List ℕ) → interface (node_with_clocks at n) x ≡ interface n x
interface_based at n x =
    ap (λ d. d || (declares (map base_written n.inputs) x || no_names x)) (based n.outputs x) ∙ ap (λ d. declares n.outputs x || (d || no_names x)) (based n.inputs x)

clocked_apart : (at : Assignment) (n : Node) → ControlsApart n → ControlsApart (node_with_clocks at n)
clocked_apart at n h x c i = h x (subst IsTrue (controls_based at n.contract x) c) (subst IsTrue (interface_based at n x) i)

controls_clocked : (xs ys : List Item) → AreClocked xs ys → EachNode ControlsApart xs → EachNode ControlsApart ys
controls_clocked [] [] c p = tt
controls_clocked (TypeItem t ∷ xs) (y ∷ ys) c p = subst (λ z. EachNode ControlsApart (z ∷ ys)) (sym c.0) (controls_clocked xs ys c.1 p)
controls_clocked (NodeItem n ∷ xs) (y ∷ ys) c p = subst (λ z. EachNode ControlsApart (z ∷ ys)) (sym c.0.1.1) (clocked_apart c.0.0 n p.0, controls_clocked xs ys c.1 p.1)
controls_clocked [] (y ∷ ys) c p = absurd c
controls_clocked (TypeItem t ∷ xs) [] c p = absurd c
controls_clocked (NodeItem n ∷ xs) [] c p = absurd c

pub controls_apart : (program after : List Item) → WellNamed program → AreClocked (replaced program) after → EachNode ControlsApart after
controls_apart program after n c = controls_clocked (replaced program) after c (controls_replaced no_node program (controls_named names.nothing nothing_seen program n))
