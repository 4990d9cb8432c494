-- One node more among the items.
use Rattle.std.proofs.Common.{◌≡◌, ℕ, zero, suc, ◌+◌, ◌<◌, nat_lt, length, Bool, true, false, if◌then◌else◌, List, [], ◌∷◌, ◌++◌, Option, None, Some, refl, ap, arith}
use Rattle.std.proofs.lemmas.Bool.Decides.{nat_tests}
use Rattle.std.specs.Prelude.{slice_get}
use Rattle.std.specs.Str.{bytes_eq}
use Rattle.hp_tree.specs.declared.program.Item.{Item}
use Rattle.hp_tree.specs.declared.program.Item.TheVariants.{NodeItem}
use Rattle.hp_tree.specs.Programs.{Node}
use Rattle.hp_expand.specs.Numbering.{with_node}
use Rattle.hp_expand.specs.Places.{is_below, node_of, node_at}

one_more : (i n : ℕ) → nat_lt i n ≡ true → nat_lt i (n + 1) ≡ true
one_more i n h = grind (arith, nat_tests)

itself : (n : ℕ) → nat_lt n (n + 1) ≡ true
itself n = grind (arith, nat_tests)

pub below-grown : (n : ℕ) (b : Bool) (o : Option ℕ) → is_below n o ≡ true → is_below (n + 1) (if b then Some n else o) ≡ true
below-grown n true o h = itself n
below-grown n false None h = refl
below-grown n false (Some i) h = one_more i n h

slice-end : (xs : List Item) (y : Item) → slice_get (xs ++ y ∷ []) (length xs) ≡ Some y
slice-end [] y = refl
slice-end (x ∷ xs) y = slice-end xs y

slice-front : (xs : List Item) (y : Item) (i : ℕ) → i < length xs → slice_get (xs ++ y ∷ []) i ≡ slice_get xs i
slice-front [] y i h = absurd (omega arith)
slice-front (x ∷ xs) y zero h = refl
slice-front (x ∷ xs) y (suc i) h = slice-front xs y i (omega arith)

within : (i n : ℕ) → nat_lt i n ≡ true → i < n
within i n h = grind (arith, nat_tests)

put_by : (items : List Item) (n : Node) (x : List ℕ) (b : Bool) (o : Option ℕ) → is_below (length items) o ≡ true
    → node_at (items ++ NodeItem n ∷ []) x (if b then Some (length items) else o) ≡ (if b then n else node_at items x o)
put_by items n x true o h = ap (node_of x) (slice-end items (NodeItem n))
put_by items n x false None h = refl
put_by items n x false (Some i) h = ap (node_of x) (slice-front items (NodeItem n) i (within i (length items) h))

-- a node of the name at the end
pub node-put : (items : List Item) (n : Node) (place : List ℕ → Option ℕ) → ((x : List ℕ) → is_below (length items) (place x) ≡ true) → (x : List ℕ)
    → node_at (items ++ NodeItem n ∷ []) x (if bytes_eq n.name x then Some (length items) else place x) ≡ with_node (λ y. node_at items y (place y)) n x
node-put items n place h x = put_by items n x (bytes_eq n.name x) (place x) (h x)
