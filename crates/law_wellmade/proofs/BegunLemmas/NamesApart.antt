-- No two nodes of a ready program without its automata have one name.
use Rattle.std.proofs.Common.{◌≡◌, ℕ, Bool, true, false, ◌⊎◌, inl, inr, List, [], ◌∷◌, map, reverse, refl, sym, subst, ◌∙◌}
use Rattle.std.specs.Prelude.{⊤, IsTrue, IsFalse, Contains}
use Rattle.std.specs.Str.{bytes_eq}
use Rattle.hp_tree.specs.declared.program.Item.{Item}
use Rattle.hp_tree.specs.declared.program.Item.TheVariants.{TypeItem, NodeItem}
use Rattle.hp_tree.specs.Programs.{Node}
use Rattle.hp_names.specs.Names.{with_name}
use Rattle.hp_names.specs.Scopes.{nothing, behind}
use Rattle.hp_names.specs.Rules.{ItemsAreNamed, WellNamed}
use Rattle.law_judged.specs.Typed.Scopes.{NameScope}
use Rattle.law_judged.proofs.NamedLemmas.Sets.{or_cases, same_name, kept_name, new_name}
use Rattle.hp_expand.specs.Numbering.{replaced_node, with_node, replaced_items, no_node, replaced}
use Rattle.law_values.specs.Accepted.Written.{AreClocked}
use Rattle.hp_automata.specs.Lowering.{Enumerations, enumerations, lowered_item, lowered_program}
use Rattle.law_automata.proofs.LowerableLemmas.Texts.{onto}
use Rattle.law_equations.specs.Answered.Answering.{has_node, AreApart}

-- items of one shape, whose nodes have the same names
abbrev SameNames : List Item → List Item → Type 0
SameNames [] [] = ⊤
SameNames (TypeItem t ∷ xs) (TypeItem u ∷ ys) = SameNames xs ys
SameNames (NodeItem n ∷ xs) (NodeItem m ∷ ys) = (m.name ≡ n.name) × SameNames xs ys
SameNames xs ys = ⊥

names_replaced : (nodes : List ℕ → Node) (items : List Item) → SameNames items (replaced_items nodes items)
names_replaced nodes [] = tt
names_replaced nodes (TypeItem t ∷ items) = names_replaced nodes items
names_replaced nodes (NodeItem n ∷ items) = (refl, names_replaced (with_node nodes (replaced_node nodes n)) items)

names_clocked : (xs ys zs : List Item) → SameNames xs ys → AreClocked ys zs → SameNames xs zs
names_clocked [] [] [] s c = tt
names_clocked (TypeItem t ∷ xs) (TypeItem u ∷ ys) (z ∷ zs) s c = subst (λ w. SameNames (TypeItem t ∷ xs) (w ∷ zs)) (sym c.0) (names_clocked xs ys zs s c.1)
names_clocked (NodeItem n ∷ xs) (NodeItem m ∷ ys) (z ∷ zs) s c = subst (λ w. SameNames (NodeItem n ∷ xs) (w ∷ zs)) (sym c.0.1.1) (s.0, names_clocked xs ys zs s.1 c.1)
names_clocked [] [] (z ∷ zs) s c = absurd c
names_clocked [] (y ∷ ys) zs s c = absurd s
names_clocked (TypeItem t ∷ xs) [] zs s c = absurd s
names_clocked (NodeItem n ∷ xs) [] zs s c = absurd s
names_clocked (TypeItem t ∷ xs) (NodeItem m ∷ ys) zs s c = absurd s
names_clocked (NodeItem n ∷ xs) (TypeItem u ∷ ys) zs s c = absurd s
names_clocked (TypeItem t ∷ xs) (TypeItem u ∷ ys) [] s c = absurd c
names_clocked (NodeItem n ∷ xs) (NodeItem m ∷ ys) [] s c = absurd c

names_lowered : (enums : Enumerations) (xs ys : List Item) → SameNames xs ys → SameNames xs (map (lowered_item enums) ys)
names_lowered enums [] [] s = tt
names_lowered enums (TypeItem t ∷ xs) (TypeItem u ∷ ys) s = names_lowered enums xs ys s
names_lowered enums (NodeItem n ∷ xs) (NodeItem m ∷ ys) s = (s.0, names_lowered enums xs ys s.1)
names_lowered enums [] (y ∷ ys) s = absurd s
names_lowered enums (TypeItem t ∷ xs) [] s = absurd s
names_lowered enums (NodeItem n ∷ xs) [] s = absurd s
names_lowered enums (TypeItem t ∷ xs) (NodeItem m ∷ ys) s = absurd s
names_lowered enums (NodeItem n ∷ xs) (TypeItem u ∷ ys) s = absurd s

-- the names of the nodes so far are known
abbrev AreKnown : NameScope → List Item → Type 0
AreKnown s done = (f : List ℕ) → IsTrue (has_node done f) → Contains s.nodes f

known_more : (s : NameScope) (done : List Item) (n m : Node) → m.name ≡ n.name → AreKnown s done → AreKnown (behind s (NodeItem n)) (NodeItem m ∷ done)
known_more s done n m e known f h = by (or_cases (bytes_eq m.name f) (has_node done f) h)
  where
    by : IsTrue (bytes_eq m.name f) ⊎ IsTrue (has_node done f) → Contains (with_name s.nodes n.name) f
    by (inl k) = subst (λ z. Contains (with_name s.nodes n.name) z) (sym e ∙ same_name m.name f k) (new_name s.nodes n.name)
    by (inr k) = kept_name s.nodes n.name f (known f k)

fresh : (s : NameScope) (done : List Item) (n m : Node) → m.name ≡ n.name → (Contains s.nodes n.name → ⊥) → AreKnown s done → IsFalse (has_node done m.name)
fresh s done n m e new known = by (has_node done m.name) refl
  where
    by : (b : Bool) → has_node done m.name ≡ b → IsFalse (has_node done m.name)
    by true q = absurd (new (subst (λ z. Contains s.nodes z) e (known m.name q)))
    by false q = q

apart_onto : (s : NameScope) (xs ys done : List Item) → ItemsAreNamed s xs → SameNames xs ys → AreKnown s done → AreApart done → AreApart (onto ys done)
apart_onto s [] [] done h e known a = a
apart_onto s (TypeItem t ∷ xs) (TypeItem u ∷ ys) done h e known a = apart_onto (behind s (TypeItem t)) xs ys (TypeItem u ∷ done) h.1 e known a
apart_onto s (NodeItem n ∷ xs) (NodeItem m ∷ ys) done h e known a =
    apart_onto (behind s (NodeItem n)) xs ys (NodeItem m ∷ done) h.1 e.1 (known_more s done n m e.0 known) (fresh s done n m e.0 h.0.0 known, a)
apart_onto s [] (y ∷ ys) done h e known a = absurd e
apart_onto s (TypeItem t ∷ xs) [] done h e known a = absurd e
apart_onto s (NodeItem n ∷ xs) [] done h e known a = absurd e
apart_onto s (TypeItem t ∷ xs) (NodeItem m ∷ ys) done h e known a = absurd e
apart_onto s (NodeItem n ∷ xs) (TypeItem u ∷ ys) done h e known a = absurd e

pub lowered_apart : (program after : List Item) → WellNamed program → AreClocked (replaced program) after → AreApart (reverse (lowered_program after))
lowered_apart program after named clocked =
    apart_onto nothing program (lowered_program after) [] named (names_lowered (enumerations [] after) program after (names_clocked program (replaced program) after (names_replaced no_node program) clocked))
    (λ f h. absurd (cc)) tt
