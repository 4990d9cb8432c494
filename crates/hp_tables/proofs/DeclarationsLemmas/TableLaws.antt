-- Tables that are filled, one name after the other.
use Rattle.std.proofs.Common.{◌≡◌, ℕ, ◌+◌, ◌<◌, ◌≤◌, get_or, length, drop, drop-cons, add-one, map, Bool, true, false, cond, if◌then◌else◌, List, [], ◌∷◌, Option, Some, Bor, refl, sym, ap, ◌∙◌}
use Rattle.std.proofs.lemmas.List.{drop_all}
use Rattle.hp_tree.specs.declared.program.Item.{Item}
use Rattle.hp_tree.specs.Programs.{Node}
use Rattle.hp_tables.specs.Declarations.Items.{Constructors, with_constructors, with_item, constructors_of, with_node, with_nodes}
use Rattle.hp_tables.specs.Declarations.Seen.{node_seen}
use Rattle.hp_tables.specs.Declarations.Tables.{put_at, nothing, numbered}

drop-next : {A : Type 0} (xs : List A) (i : ℕ) (x : A) → i < length xs → x ≡ get_or xs i x → drop i xs ≡ x ∷ drop (i + 1) xs
drop-next xs i x h p = drop-cons xs i x h ∙ rw (add-one, ← p)

pub drop-end : {A : Type 0} (xs : List A) (i : ℕ) → length xs ≤ i → drop i xs ≡ []
drop-end xs i h = drop_all i xs h

pub chosen : {A : Type 0} (d : Bool) (v : A) (o : Option A) → cond d (Some v) o ≡ (if d then Some v else o)
chosen true v o = refl
chosen false v o = refl

pub node-chosen : (d : Bool) (n : Node) (o : Option (Bor Node)) (b : Bor Node) → b.now ≡ n → node_seen (if d then Some b else o) ≡ (if d then Some n else node_seen o)
node-chosen true n o b e = ap Some e
node-chosen false n o b e = refl

-- ---- numbers

pub numbers-end : (names : List (Bor (List ℕ))) (i : ℕ) → length names ≤ i → nothing ≡ numbered i (map (λ x. x.now) (drop i names))
numbers-end names i h = sym (ap (λ more. numbered i (map (λ x. x.now) more)) (drop-end names i h))

pub numbers-next : (names : List (Bor (List ℕ))) (i k : ℕ) (y : Bor (List ℕ)) → k ≡ i + 1 → i < length names → y ≡ get_or names i y
    → put_at (numbered k (map (λ x. x.now) (drop k names))) y.now i ≡ numbered i (map (λ x. x.now) (drop i names))
numbers-next names i k y next h p =
    (λ j. put_at (numbered (next j) (map (λ x. x.now) (drop (next j) names))) y.now i)
    ∙ sym (ap (λ more. numbered i (map (λ x. x.now) more)) (drop-next names i y h p))

-- ---- constructors

module _ (t : ℕ) (cs : List (List ℕ)) (others : Constructors) where
  pub constructors-end : (i : ℕ) → length cs ≤ i → others ≡ with_constructors t i (drop i cs) others
  constructors-end i h = sym (ap (λ more. with_constructors t i more others) (drop-end cs i h))

  pub constructors-next : (i k : ℕ) (c : List ℕ) → k ≡ i + 1 → i < length cs → c ≡ get_or cs i c
      → put_at (with_constructors t k (drop k cs) others) c (t, i) ≡ with_constructors t i (drop i cs) others
  constructors-next i k c next h p =
      (λ j. put_at (with_constructors t (next j) (drop (next j) cs) others) c (t, i)) ∙ sym (ap (λ more. with_constructors t i more others) (drop-next cs i c h p))

module _ (types : List ℕ → Option ℕ) (other : ℕ) (items : List Item) where
  pub items-end : (i : ℕ) → length items ≤ i → nothing ≡ constructors_of types other (drop i items)
  items-end i h = sym (ap (constructors_of types other) (drop-end items i h))

  pub items-next : (i k : ℕ) (item : Item) → k ≡ i + 1 → i < length items → item ≡ get_or items i item → with_item types other item (constructors_of types other (drop k items)) ≡ constructors_of types other (drop i items)
  items-next i k item next h p = ap (λ n. with_item types other item (constructors_of types other (drop n items))) next ∙ sym (ap (constructors_of types other) (drop-next items i item h p))

-- ---- nodes

pub nodes-next : (before after : List ℕ → Option Node) (items : List Item) (i : ℕ) (item : Item) → i < length items → item ≡ get_or items i item → after ≡ with_node before item → with_nodes after (drop (i + 1) items) ≡ with_nodes before (drop i items)
nodes-next before after items i item h p step = ap (λ f. with_nodes f (drop (i + 1) items)) step ∙ sym (ap (with_nodes before) (drop-next items i item h p))
