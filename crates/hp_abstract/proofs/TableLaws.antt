-- Tables that are filled, and what is told of a program by them.
use Rattle.std.proofs.Common.{◌≡◌, ℕ, ◌+◌, ◌<◌, ◌≤◌, get_or, length, drop, Bool, true, false, if◌then◌else◌, List, [], ◌∷◌, Option, None, Some, option_map, refl, sym, ap, ◌∙◌}
use Rattle.std.specs.Str.{bytes_eq}
use Rattle.hp_tree.specs.declared.program.Item.{Item}
use Rattle.hp_tree.specs.declared.program.Item.TheVariants.{TypeItem, NodeItem}
use Rattle.hp_tree.specs.Programs.{Node}
use Rattle.hp_tables.specs.Declarations.Items as declared
use Rattle.hp_drawing.specs.declared.parts.Constructor.{Constructor}
use Rattle.hp_drawing.specs.Told.{none_of, or_none, with_type, counts_of, with_constructors, with_type_constructors, constructors_of, with_node, with_nodes}
use Rattle.hp_drawing.proofs.ListLaws.{drop-next, drop-end}
use Rattle.hp_abstract.specs.Seen.{constructor_seen, constructors_seen}

-- ---- types

module _ (items : List Item) where
  pub counts-end : (i : ℕ) → length items ≤ i → none_of ≡ counts_of (drop i items)
  counts-end i h = sym (ap counts_of (drop-end items i h))

  pub counts-next : (i k : ℕ) (item : Item) → k ≡ i + 1 → i < length items → item ≡ get_or items i item → with_type item (counts_of (drop k items)) ≡ counts_of (drop i items)
  counts-next i k item next h p = ap (λ n. with_type item (counts_of (drop n items))) next ∙ sym (ap counts_of (drop-next items i item h p))

-- ---- constructors

seen-chosen : (d : Bool) (p : ℕ × ℕ) (o : Option (ℕ × ℕ)) → option_map constructor_seen (if d then Some p else o) ≡ (if d then Some (constructor_seen p) else option_map constructor_seen o)
seen-chosen true p o = refl
seen-chosen false p o = refl

seen-of_type : (t k : ℕ) (cs : List (List ℕ)) (others : declared.Constructors) (x : List ℕ) → constructors_seen (declared.with_constructors t k cs others) x ≡ with_constructors t k cs (constructors_seen others) x
seen-of_type t k [] others x = refl
seen-of_type t k (c ∷ cs) others x =
    seen-chosen (bytes_eq c x) (t, k) (declared.with_constructors t (k + 1) cs others x)
    ∙ ap (λ (o : Option Constructor). if bytes_eq c x then Some (constructor_seen (t, k)) else o) (seen-of_type t (k + 1) cs others x)

number-same : (o : Option ℕ) → declared.number_or 0 o ≡ or_none o
number-same None = refl
number-same (Some n) = refl

module _ (counts : List ℕ → Option ℕ) where
  seen-of_item : (item : Item) (others : declared.Constructors) (x : List ℕ) → constructors_seen (declared.with_item counts 0 item others) x ≡ with_type_constructors counts item (constructors_seen others) x
  seen-of_item (TypeItem t) others x =
      seen-of_type (declared.number_or 0 (counts t.name)) 0 t.cons others x ∙ ap (λ n. with_constructors n 0 t.cons (constructors_seen others) x) (number-same (counts t.name))
  seen-of_item (NodeItem n) others x = refl

  -- what a program declares of constructors is what is told of them
  pub constructors-told : (items : List Item) → constructors_seen (declared.constructors_of counts 0 items) ≡ constructors_of counts items
  constructors-told [] = refl
  constructors-told (item ∷ items) =
      (λ j x. seen-of_item item (declared.constructors_of counts 0 items) x j) ∙ ap (λ (f : List ℕ → Option Constructor). with_type_constructors counts item f) (constructors-told items)

-- ---- nodes

node-told : (before : List ℕ → Option Node) (item : Item) → declared.with_node before item ≡ with_node before item
node-told before (TypeItem t) = refl
node-told before (NodeItem n) = refl

pub nodes-told : (before : List ℕ → Option Node) (items : List Item) → declared.with_nodes before items ≡ with_nodes before items
nodes-told before [] = refl
nodes-told before (item ∷ items) = nodes-told (declared.with_node before item) items ∙ ap (λ (f : List ℕ → Option Node). with_nodes f items) (node-told before item)
