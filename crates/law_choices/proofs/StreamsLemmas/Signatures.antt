-- In a ready program, also without its automata, no input has the name of a controllable variable.
use Rattle.std.proofs.Common.{◌≡◌, ℕ, ◌<◌, ◌||◌, false, List, [], ◌∷◌, map, refl, sym, ap, ◌∙◌, subst, arith}
use Rattle.std.specs.Prelude.{Bool, true, Option, None, Some, option_map, IsTrue}
use Rattle.std.specs.List.{AllByRecursion}
use Rattle.std.specs.Str.{bytes_eq}
use Rattle.hp_tree.specs.declared.program.Item.{Item}
use Rattle.hp_tree.specs.declared.program.Item.TheVariants.{TypeItem, NodeItem}
use Rattle.hp_tree.specs.Blocks.{Decl}
use Rattle.hp_tree.specs.Programs.{Contract, Node}
use Rattle.hp_tree.specs.Meaning.{declares, controls_of}
use Rattle.hp_names.specs.Scopes as names
use Rattle.hp_names.specs.Rules.{ItemsAreNamed}
use Rattle.hp_meaning.specs.Clocking.Clocking.{Assignment, base_written, contract_with_clocks}
use Rattle.law_judged.specs.Named.Scopes.{NameScope}
use Rattle.law_judged.specs.Named.Scoped.{EachNode, also, interface, no_names}
use Rattle.law_judged.proofs.NamedLemmas.Sets.{Sees, sees_more, new_fresh, name_same, or_left, or_right}
use Rattle.hp_expand.specs.Replacing.{in_contract}
use Rattle.hp_expand.specs.Numbering as number
use Rattle.hp_expand.specs.Numbering.{no_node, with_node, replaced_node, replaced_items, replaced}
use Rattle.law_values.specs.Accepted.Laws.{IsReady}
use Rattle.law_values.specs.Accepted.Written.{AreClocked}
use Rattle.hp_automata.specs.Lowering as lowering
use Rattle.hp_automata.specs.Lowering.{Types, Enumerations, enumerations, lowered_contract, lowered_item, lowered_program}
use Rattle.law_automata.proofs.LowerableLemmas.Texts.{clocked_of}
use Rattle.law_choices.specs.Flat.Answering.{ControlsDiffer}

-- no name of an input is one of a controllable variable
abbrev Apart : Node → Type 0
Apart n = (x : List ℕ) → IsTrue (declares (controls_of n.contract) x) → IsTrue (declares n.inputs x) → ⊥

-- ---- as it is written

sees_behind : (s : NameScope) (item : Item) → Sees s no_names → Sees (names.behind s item) no_names
sees_behind s (TypeItem t) k = k
sees_behind s (NodeItem n) k = k

apart_named : (s : NameScope) → Sees s no_names → (items : List Item) → ItemsAreNamed s items → EachNode Apart items
apart_named s k [] h = tt
apart_named s k (TypeItem t ∷ items) h = apart_named (names.behind s (TypeItem t)) (sees_behind s (TypeItem t) k) items h.1
apart_named s k (NodeItem n ∷ items) h =
    let inner = sees_more (names.with_variables s n.inputs) (also no_names n.inputs) n.outputs (sees_more s no_names n.inputs k) in
    let fresh = new_fresh (names.inside_node s n) (interface n) (controls_of n.contract) inner h.0.1.1.1.1.1.1.0.0 in (
      λ x c i. fresh x c (or_right (declares n.outputs x) (declares n.inputs x || false) (or_left (declares n.inputs x) false i)),
      apart_named (names.behind s (NodeItem n)) (sees_behind s (NodeItem n) k) items h.1,
    )

-- ---- with inlined calls replaced, clocks written and automata removed

controls_in : (nodes : List ℕ → Node) (o : Option Contract) → controls_of (in_contract nodes 1 o).part ≡ controls_of o
controls_in nodes None = refl
controls_in nodes (Some c) = refl

controls_numbered : (o : Option Contract) → controls_of (option_map number.in_contract o) ≡ controls_of o
controls_numbered None = refl
controls_numbered (Some c) = refl

apart_replaced : (nodes : List ℕ → Node) (items : List Item) → EachNode Apart items → EachNode Apart (replaced_items nodes items)
apart_replaced nodes [] h = tt
apart_replaced nodes (TypeItem t ∷ items) h = apart_replaced nodes items h
apart_replaced nodes (NodeItem n ∷ items) h = (
  λ x c i. h.0 x (subst (λ ds. IsTrue (declares ds x)) (controls_numbered (in_contract nodes 1 n.contract).part ∙ controls_in nodes n.contract) c) i,
  apart_replaced (with_node nodes (replaced_node nodes n)) items h.1,
)

written_declares : (ds : List Decl) (x : List ℕ) → declares (map base_written ds) x ≡ declares ds x
written_declares [] x = refl
written_declares (d ∷ ds) x = ap (λ b. bytes_eq d.name x || b) (written_declares ds x)

contract_declares : (at : Assignment) (o : Option Contract) (x : List ℕ) → declares (controls_of (contract_with_clocks at o)) x ≡ declares (controls_of o) x
contract_declares at None x = refl
contract_declares at (Some c) x = written_declares c.controls x

apart_clocked : (xs ys : List Item) → AreClocked xs ys → EachNode Apart xs → EachNode Apart ys
apart_clocked [] [] c p = tt
apart_clocked (TypeItem t ∷ xs) (y ∷ ys) c p = subst (λ z. EachNode Apart (z ∷ ys)) (sym c.0) (apart_clocked xs ys c.1 p)
apart_clocked (NodeItem n ∷ xs) (y ∷ ys) c p =
    subst (λ z. EachNode Apart (z ∷ ys)) (sym c.0.1.1)
    (λ x d i. p.0 x (subst IsTrue (contract_declares c.0.0 n.contract x) d) (subst IsTrue (written_declares n.inputs x) i), apart_clocked xs ys c.1 p.1)
apart_clocked [] (y ∷ ys) c p = absurd c
apart_clocked (TypeItem t ∷ xs) [] c p = absurd c
apart_clocked (NodeItem n ∷ xs) [] c p = absurd c

pub controls_lowered : (enums : Enumerations) (types : Types) (o : Option Contract) → controls_of (option_map (lowered_contract enums types) o) ≡ controls_of o
controls_lowered enums types None = refl
controls_lowered enums types (Some c) = refl

apart_lowered : (enums : Enumerations) (items : List Item) → EachNode Apart items → EachNode Apart (map (lowered_item enums) items)
apart_lowered enums [] h = tt
apart_lowered enums (TypeItem t ∷ items) h = apart_lowered enums items h
apart_lowered enums (NodeItem n ∷ items) h = (λ x c i. h.0 x (subst (λ ds. IsTrue (declares ds x)) (controls_lowered enums (lowering.types_of n) n.contract) c) i, apart_lowered enums items h.1)

-- ---- of each input

is_none : (b : Bool) → (IsTrue b → ⊥) → b ≡ false
is_none true h = absurd (h refl)
is_none false h = refl

inputs_differ : (cs ds : List Decl) → ((x : List ℕ) → IsTrue (declares cs x) → IsTrue (declares ds x) → ⊥) → AllByRecursion (λ (d : Decl). declares cs d.name ≡ false) ds
inputs_differ cs [] h = tt
inputs_differ cs (d ∷ ds) h = (
  is_none (declares cs d.name) (λ c. h d.name c (or_left (bytes_eq d.name d.name) (declares ds d.name) (name_same d.name d.name refl))),
  inputs_differ cs ds (λ x c i. h x c (or_right (bytes_eq d.name x) (declares ds x) i)),
)

each_differs : (items : List Item) → EachNode Apart items → EachNode ControlsDiffer items
each_differs [] h = tt
each_differs (TypeItem t ∷ items) h = each_differs items h
each_differs (NodeItem n ∷ items) h = (inputs_differ (controls_of n.contract) n.inputs h.0, each_differs items h.1)

sees_nothing : Sees names.nothing no_names
sees_nothing = ((λ x h. absurd (empty x h.0 h.1)), λ x h. absurd (cc h))
  where
    empty : (x : List ℕ) (k : ℕ) → k < 0 → ⊥
    empty x k h = absurd (omega (arith, h))

pub controls_differ : (program after : List Item) → IsReady program after → EachNode ControlsDiffer (lowered_program after)
controls_differ program after r =
    each_differs (lowered_program after)
    (apart_lowered (enumerations [] after) after (apart_clocked (replaced program) after (clocked_of (replaced program) after r.clocks) (apart_replaced no_node program (apart_named names.nothing sees_nothing program r.named))))
