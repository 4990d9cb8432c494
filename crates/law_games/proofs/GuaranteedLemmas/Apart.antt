-- No two nodes of a ready program have one name, so a node that is found among some items is found among all.
use Rattle.std.proofs.Common.{◌≡◌, ℕ, List, [], ◌∷◌, ◌++◌, refl, sym, ap, subst, ◌∙◌}
use Rattle.std.specs.Prelude.{⊤, Bool, true, false, if◌then◌else◌, Option, None, Some}
use Rattle.std.specs.List.{Contains}
use Rattle.std.specs.Str.{bytes_eq}
use Rattle.hp_tree.specs.declared.program.Item.{Item}
use Rattle.hp_tree.specs.declared.program.Item.TheVariants.{TypeItem, NodeItem}
use Rattle.hp_tree.specs.Programs.{Node}
use Rattle.hp_tree.specs.Meaning.{node_among}
use Rattle.hp_names.specs.Names.{with_name}
use Rattle.hp_names.specs.Scopes.{nothing, behind}
use Rattle.hp_names.specs.Rules.{ItemsAreNamed}
use Rattle.law_judged.specs.Named.Scopes.{NameScope}
use Rattle.law_judged.proofs.NamedLemmas.Sets.{same_name, kept_name, new_name}
use Rattle.hp_clocks.specs.Writing.{AreWritten}
use Rattle.hp_clocks.specs.Answers.{IsClocked}
use Rattle.hp_meaning.specs.Contract.ChosenRuns.{NamesApart}
use Rattle.hp_expand.specs.Numbering.{no_node, with_node, replaced_node, replaced_items, replaced}
use Rattle.law_games.specs.Guaranteed.Laws.{ApartLaw}

-- ---- the names of nodes

abbrev node_names : List Item → List (List ℕ)
node_names [] = []
node_names (TypeItem t ∷ items) = node_names items
node_names (NodeItem n ∷ items) = n.name ∷ node_names items

names_replaced : (nodes : List ℕ → Node) (items : List Item) → node_names (replaced_items nodes items) ≡ node_names items
names_replaced nodes [] = refl
names_replaced nodes (TypeItem t ∷ items) = names_replaced nodes items
names_replaced nodes (NodeItem n ∷ items) = ap (λ xs. n.name ∷ xs) (names_replaced (with_node nodes (replaced_node nodes n)) items)

names_written : (xs ys : List Item) → AreWritten IsClocked xs ys → node_names ys ≡ node_names xs
names_written [] [] w = refl
names_written (TypeItem t ∷ xs) (y ∷ ys) w = ap (λ z. node_names (z ∷ ys)) w.0 ∙ names_written xs ys w.1
names_written (NodeItem n ∷ xs) (y ∷ ys) w = ap (λ z. node_names (z ∷ ys)) w.0.2 ∙ ap (λ zs. n.name ∷ zs) (names_written xs ys w.1)
names_written [] (y ∷ ys) w = absurd w
names_written (TypeItem t ∷ xs) [] w = absurd w
names_written (NodeItem n ∷ xs) [] w = absurd w

abbrev AreNew : List (List ℕ) → List (List ℕ) → Type 0
AreNew known [] = ⊤
AreNew known (x ∷ xs) = (Contains known x → ⊥) × AreNew (with_name known x) xs

named_new : (s : NameScope) (items : List Item) → ItemsAreNamed s items → AreNew s.nodes (node_names items)
named_new s [] h = tt
named_new s (TypeItem t ∷ items) h = named_new (behind s (TypeItem t)) items h.1
named_new s (NodeItem n ∷ items) h = (h.0.0, named_new (behind s (NodeItem n)) items h.1)

-- ---- apart

abbrev onto : List Item → List Item → List Item
onto [] ys = ys
onto (x ∷ xs) ys = onto xs (x ∷ ys)

none_of : (o : Option Node) → ((m : Node) → o ≡ Some m → ⊥) → o ≡ None
none_of None h = refl
none_of (Some m) h = absurd (h m refl)

apart_onto : (known : List (List ℕ)) (items done : List Item) → ((x : List ℕ) (m : Node) → node_among done x ≡ Some m → Contains known x) → AreNew known (node_names items) → NamesApart done → NamesApart (onto items done)
apart_onto known [] done k new a = a
apart_onto known (TypeItem t ∷ items) done k new a = apart_onto known items (TypeItem t ∷ done) k new a
apart_onto known (NodeItem n ∷ items) done k new a =
    apart_onto (with_name known n.name) items (NodeItem n ∷ done) more new.1 (none_of (node_among done n.name) (λ m h. new.0 (k n.name m h)), a)
  where
    more : (x : List ℕ) (m : Node) → (if bytes_eq n.name x then Some n else node_among done x) ≡ Some m → Contains (with_name known n.name) x
    more x m h = by (bytes_eq n.name x) refl h
      where
        by : (b : Bool) → bytes_eq n.name x ≡ b → (if b then Some n else node_among done x) ≡ Some m → Contains (with_name known n.name) x
        by true e g = subst (λ z. Contains (with_name known n.name) z) (same_name n.name x e) (new_name known n.name)
        by false e g = kept_name known n.name x (k x m g)

pub ready_apart : ApartLaw
ready_apart program after r =
    let names : node_names after ≡ node_names program = names_written (replaced program) after r.clocks ∙ names_replaced no_node program in
    apart_onto [] after [] (λ x m h. absurd cc) (subst (AreNew []) (sym names) (named_new nothing program r.named)) tt

-- ---- found among all

pub found_among : (later items : List Item) (f : List ℕ) (m : Node) → NamesApart (later ++ items) → node_among items f ≡ Some m → node_among (later ++ items) f ≡ Some m
found_among [] items f m a e = e
found_among (TypeItem t ∷ later) items f m a e = found_among later items f m a e
found_among (NodeItem n ∷ later) items f m a e = by (bytes_eq n.name f) refl (found_among later items f m a.1 e)
  where
    by : (b : Bool) → bytes_eq n.name f ≡ b → node_among (later ++ items) f ≡ Some m → (if b then Some n else node_among (later ++ items) f) ≡ Some m
    by true q k = absurd (let z : None ≡ Some m = sym a.0 ∙ ap (node_among (later ++ items)) (same_name n.name f q) ∙ k in cc)
    by false q k = k
