-- No two nodes of a ready program without its automata have one name.
use Rattle.std.proofs.Common.{◌≡◌, ℕ, Bool, true, false, ◌||◌, if◌then◌else◌, List, [], ◌∷◌, ◌++◌, map, reverse, refl, sym, ap, subst, ◌∙◌}
use Rattle.std.specs.Prelude.{IsTrue, IsFalse, Some, ⊤}
use Rattle.std.specs.List.{Contains}
use Rattle.std.specs.Str.{bytes_eq}
use Rattle.hp_tree.specs.Meaning.{node_among}
use Rattle.hp_tree.specs.Programs.{Node}
use Rattle.hp_tree.specs.declared.program.Item.{Item}
use Rattle.hp_tree.specs.declared.program.Item.TheVariants.{TypeItem, NodeItem}
use Rattle.hp_names.specs.Names.{with_name}
use Rattle.hp_names.specs.Scopes.{nothing, behind}
use Rattle.hp_names.specs.Rules.{ItemsAreNamed}
use Rattle.law_judged.specs.Named.Scopes.{NameScope}
use Rattle.law_judged.specs.Named.Scoped.{EachNode}
use Rattle.law_judged.proofs.NamedLemmas.Sets.{same_name, name_same, kept_name, new_name}
use Rattle.hp_clocks.specs.Writing.{AreWritten}
use Rattle.hp_clocks.specs.Answers.{IsClocked}
use Rattle.hp_expand.specs.Numbering.{no_node, with_node, replaced_node, replaced_items, replaced}
use Rattle.hp_automata.specs.Lowering.{Enumerations, enumerations, lowered_item, lowered_program}
use Rattle.law_values.specs.Accepted.Laws.{IsReady}
use Rattle.law_equations.specs.Answered.Answering.{has_node, AreApart}

-- ---- the names of nodes

abbrev node_names : List Item → List (List ℕ)
node_names [] = []
node_names (TypeItem t ∷ items) = node_names items
node_names (NodeItem n ∷ items) = n.name ∷ node_names items

names_replaced : (nodes : List ℕ → Node) (items : List Item) → node_names (replaced_items nodes items) ≡ node_names items
names_replaced nodes [] = refl
names_replaced nodes (TypeItem t ∷ items) = names_replaced nodes items
names_replaced nodes (NodeItem n ∷ items) = ap (λ xs. n.name ∷ xs) (names_replaced (with_node nodes (replaced_node nodes n)) items)

names_written : (xs ys : List Item) → AreWritten IsClocked xs ys → node_names ys ≡ node_names xs
names_written [] [] w = refl
names_written (TypeItem t ∷ xs) (y ∷ ys) w = ap (λ z. node_names (z ∷ ys)) w.0 ∙ names_written xs ys w.1
names_written (NodeItem n ∷ xs) (y ∷ ys) w = ap (λ z. node_names (z ∷ ys)) w.0.2 ∙ ap (λ zs. n.name ∷ zs) (names_written xs ys w.1)
names_written [] (y ∷ ys) w = absurd w
names_written (TypeItem t ∷ xs) [] w = absurd w
names_written (NodeItem n ∷ xs) [] w = absurd w

names_lowered : (enums : Enumerations) (items : List Item) → node_names (map (lowered_item enums) items) ≡ node_names items
names_lowered enums [] = refl
names_lowered enums (TypeItem t ∷ items) = names_lowered enums items
names_lowered enums (NodeItem n ∷ items) = ap (λ xs. n.name ∷ xs) (names_lowered enums items)

-- ---- each is new

abbrev AreNew : List (List ℕ) → List (List ℕ) → Type 0
AreNew known [] = ⊤
AreNew known (x ∷ xs) = (Contains known x → ⊥) × AreNew (with_name known x) xs

named_new : (s : NameScope) (items : List Item) → ItemsAreNamed s items → AreNew s.nodes (node_names items)
named_new s [] h = tt
named_new s (TypeItem t ∷ items) h = named_new (behind s (TypeItem t)) items h.1
named_new s (NodeItem n ∷ items) h = (h.0.0, named_new (behind s (NodeItem n)) items h.1)

abbrev onto : List Item → List Item → List Item
onto [] ys = ys
onto (x ∷ xs) ys = onto xs (x ∷ ys)

no_node_of : (b : Bool) → (IsTrue b → ⊥) → IsFalse b
no_node_of true h = absurd (h refl)
no_node_of false h = refl

apart_onto : (known : List (List ℕ)) (items done : List Item) → ((x : List ℕ) → IsTrue (has_node done x) → Contains known x) → AreNew known (node_names items) → AreApart done → AreApart (onto items done)
apart_onto known [] done k new a = a
apart_onto known (TypeItem t ∷ items) done k new a = apart_onto known items (TypeItem t ∷ done) k new a
apart_onto known (NodeItem n ∷ items) done k new a =
    apart_onto (with_name known n.name) items (NodeItem n ∷ done) more new.1 (no_node_of (has_node done n.name) (λ h. new.0 (k n.name h)), a)
  where
    more : (x : List ℕ) → IsTrue (bytes_eq n.name x || has_node done x) → Contains (with_name known n.name) x
    more x h = by (bytes_eq n.name x) refl h
      where
        by : (b : Bool) → bytes_eq n.name x ≡ b → IsTrue (b || has_node done x) → Contains (with_name known n.name) x
        by true e g = subst (λ z. Contains (with_name known n.name) z) (same_name n.name x e) (new_name known n.name)
        by false e g = kept_name known n.name x (k x g)

pub ready_apart : (program after : List Item) → IsReady program after → AreApart (reverse (lowered_program after))
ready_apart program after r =
    let names : node_names (lowered_program after) ≡ node_names program = names_lowered (enumerations [] after) after ∙ names_written (replaced program) after r.clocks ∙ names_replaced no_node program in
    apart_onto [] (lowered_program after) [] (λ x h. absurd cc) (subst (AreNew []) (sym names) (named_new nothing program r.named)) tt

pub ready_apart_after : (program after : List Item) → IsReady program after → AreApart (reverse after)
ready_apart_after program after r =
    let names : node_names after ≡ node_names program = names_written (replaced program) after r.clocks ∙ names_replaced no_node program in
    apart_onto [] after [] (λ x h. absurd cc) (subst (AreNew []) (sym names) (named_new nothing program r.named)) tt

-- ---- the node of a name

pub name_found : (items : List Item) (f : List ℕ) (n : Node) → node_among items f ≡ Some n → n.name ≡ f
name_found [] f n e = absurd cc
name_found (TypeItem t ∷ items) f n e = name_found items f n e
name_found (NodeItem m ∷ items) f n e = by (bytes_eq m.name f) refl e (name_found items f n)
  where
    by : (b : Bool) → bytes_eq m.name f ≡ b → (if b then Some m else node_among items f) ≡ Some n → (node_among items f ≡ Some n → n.name ≡ f) → n.name ≡ f
    by true same k r = let z : m ≡ n = cc in ap (λ (x : Node). x.name) (sym z) ∙ same_name m.name f same
    by false other k r = r k

pub each_found : (P : Node → Type 0) (items : List Item) (f : List ℕ) (n : Node) → EachNode P items → node_among items f ≡ Some n → P n
each_found P [] f n h e = absurd cc
each_found P (TypeItem t ∷ items) f n h e = each_found P items f n h e
each_found P (NodeItem m ∷ items) f n h e = by (bytes_eq m.name f) e (each_found P items f n h.1)
  where
    by : (b : Bool) → (if b then Some m else node_among items f) ≡ Some n → (node_among items f ≡ Some n → P n) → P n
    by true k r = let z : m ≡ n = cc in subst P z h.0
    by false k r = r k

has_later : (later earlier : List Item) (n : Node) → IsTrue (has_node (later ++ NodeItem n ∷ earlier) n.name)
has_later [] earlier n = ap (λ b. b || has_node earlier n.name) (name_same n.name n.name refl)
has_later (TypeItem t ∷ later) earlier n = has_later later earlier n
has_later (NodeItem m ∷ later) earlier n = right (bytes_eq m.name n.name) (has_node (later ++ NodeItem n ∷ earlier) n.name) (has_later later earlier n)
  where
    right : (b c : Bool) → IsTrue c → IsTrue (b || c)
    right true c h = refl
    right false c h = h

-- Where no two nodes have one name, each is found by its own.
pub own_found : (later earlier : List Item) (n : Node) → AreApart (later ++ NodeItem n ∷ earlier) → node_among (later ++ NodeItem n ∷ earlier) n.name ≡ Some n
own_found [] earlier n a = ap (λ b. if b then Some n else node_among earlier n.name) (name_same n.name n.name refl)
own_found (TypeItem t ∷ later) earlier n a = own_found later earlier n a
own_found (NodeItem m ∷ later) earlier n a = by (bytes_eq m.name n.name) refl (own_found later earlier n a.1)
  where
    clash : m.name ≡ n.name → ⊥
    clash e =
        let there : has_node (later ++ NodeItem n ∷ earlier) m.name ≡ true = ap (has_node (later ++ NodeItem n ∷ earlier)) e ∙ has_later later earlier n in
        absurd (let same : false ≡ true = sym a.0 ∙ there in cc)

    by : (b : Bool) → bytes_eq m.name n.name ≡ b → node_among (later ++ NodeItem n ∷ earlier) n.name ≡ Some n → (if b then Some m else node_among (later ++ NodeItem n ∷ earlier) n.name) ≡ Some n
    by true e r = absurd (clash (same_name m.name n.name e))
    by false e r = r
