-- Limits, and what is capped.
use Rattle.std.proofs.Common.{◌≡◌, ℕ, suc, ◌+◌, ◌≤◌, ◌<◌, min, get_or, length, drop, List, ◌∷◌, if◌then◌else◌, nat_lt, None, Some, sym, ap, ◌∙◌, arith}
use Rattle.std.proofs.lemmas.Bool.Decides.{nat_tests}
use Rattle.hp_base.specs.Limits.{most}
use Rattle.hp_base.specs.declared.limit.Limit.{Limit}
use Rattle.hp_base.specs.declared.limit.What.{What}
use Rattle.hp_base.specs.declared.limit.What.TheVariants.{Size as SizeWord, Name, Nest, Depth, Inputs, Outputs, Constructors, Types, Places, Total, Instances, Cells, Calls, Clock, Registers, Early, Control, Late, Text}
use Rattle.hp_expand.specs.Sizes.{Size, in_node, with_node}
use Rattle.hp_expand.specs.Capped.{cap, most_held}
use Rattle.hp_tree.specs.declared.program.Item.{Item}
use Rattle.hp_tree.specs.declared.program.Item.TheVariants.{TypeItem, NodeItem}
use Rattle.hp_tree.specs.Programs.{TypeDecl, Node}
use Rattle.hp_expand.specs.Counts.{passed, or_passed, passed_by, at_node, in_items}
use Rattle.hp_expand.specs.Passing.{Keeps, Passes}
use Rattle.hp_expand.specs.Formed.{IsWithin}
use Rattle.hp_expand.proofs.FormedLaws.{within-node}
use Rattle.hp_expand.proofs.SizeLaws.{drop-next}

-- no limit is more than 64 bits hold
pub most-small : (what : What) → most what ≤ 67108864
most-small SizeWord = omega arith
most-small Name = omega arith
most-small Nest = omega arith
most-small Depth = omega arith
most-small Inputs = omega arith
most-small Outputs = omega arith
most-small Constructors = omega arith
most-small Types = omega arith
most-small Places = omega arith
most-small Total = omega arith
most-small Instances = omega arith
most-small Cells = omega arith
most-small Calls = omega arith
most-small Clock = omega arith
most-small Registers = omega arith
most-small Early = omega arith
most-small Control = omega arith
most-small Late = omega arith
most-small Text = omega arith

test-min : (m k n : ℕ) → k < m → nat_lt k (min m n) ≡ nat_lt k n
test-min m k n h = grind (arith, nat_tests)

-- so a count that is capped passes it where the count does
pub passed-min : (what : What) (n : ℕ) → passed what (min most_held n) ≡ passed what n
unfolding passed
passed-min what n =
    ap (λ b. if b then Some (record { what = what; found = suc (most what) }) else None) (test-min most_held (most what) n (omega (arith, most-small what)))

pub passed-held : (what : What) (m n : ℕ) → m ≡ min n most_held → passed what m ≡ passed what n
unfolding passed
passed-held what m n h =
    ap (λ k. if nat_lt (most what) k then Some (record { what = what; found = suc (most what) }) else None) h
    ∙ ap (λ b. if b then Some (record { what = what; found = suc (most what) }) else None) (test-held most_held (most what) n (omega (arith, most-small what)))
  where
    test-held : (m k n : ℕ) → k < m → nat_lt k (min n m) ≡ nat_lt k n
    test-held m k n h = grind (arith, nat_tests)

small : (n : ℕ) → n ≤ 100000000 → min most_held n ≡ n
small n h = omega arith

-- what is within the limits was not capped
cap-within : (total : ℕ) (s : Size) → IsWithin total s → cap s ≡ s
unfolding cap
cap-within total s w = λ i. record {
  places = small s.places (omega (arith, w.places)) i;
  nest = small s.nest (omega (arith, w.nest)) i;
  instances = small s.instances (omega (arith, w.instances)) i;
  cells = small s.cells (omega (arith, w.cells)) i;
  calls = small s.calls (omega (arith, w.calls)) i;
}

-- and what is capped passes the limits that the size does
passed_by-cap : (total : ℕ) (s : Size) → passed_by total (cap s) ≡ passed_by total s
unfolding passed_by cap
passed_by-cap total s = λ i. or_passed
    (passed-as Nest (suc (min most_held s.nest)) (suc s.nest) (omega arith) i)
    (or_passed (passed-min Places s.places i)
    (or_passed (passed-as Total (total + min most_held s.places) (total + s.places) (omega arith) i)
    (or_passed (passed-as Instances (suc (min most_held s.instances)) (suc s.instances) (omega arith) i)
    (or_passed (passed-as Cells (min most_held s.places + min most_held s.cells) (s.places + s.cells) (omega arith) i)
    (passed-as Calls (suc (min most_held s.calls)) (suc s.calls) (omega arith) i)))))
  where
    passed-as : (what : What) (m n : ℕ) → min most_held m ≡ min most_held n → passed what m ≡ passed what n
    passed-as what m n h = sym (passed-min what m) ∙ ap (passed what) h ∙ passed-min what n

module _ (total : ℕ) (s held : Size) (h : held ≡ cap s) where
  pub keeps : None ≡ passed_by total held → Keeps total s held
  keeps p =
      let none : passed_by total s ≡ None = sym (passed_by-cap total s) ∙ ap (passed_by total) (sym h) ∙ sym p in
      let w = within-node total s none in
      record { same = h ∙ cap-within total s w; none_passed = none; within = w.all }

  pub passes : (l : Limit) → Some l ≡ passed_by total held → Passes total s l
  passes l p = record { is_first = sym (passed_by-cap total s) ∙ ap (passed_by total) (sym h) ∙ sym p }

-- ---- item by item

module _ (items : List Item) (i : ℕ) (item : Item) (h : i < length items) (p : item ≡ get_or items i item) (known : List ℕ → Size) (total : ℕ) where
  pub items-type : (t : TypeDecl) → item ≡ TypeItem t → in_items known total (drop i items) ≡ in_items known total (drop (i + 1) items)
  items-type t q = ap (in_items known total) (drop-next items i item h p) ∙ ap (λ x. in_items known total (x ∷ drop (i + 1) items)) q

  module _ (n : Node) (q : item ≡ NodeItem n) where
    here : in_items known total (drop i items) ≡ at_node n.name (passed_by total (in_node known n)) (in_items (with_node known n.name (in_node known n)) (total + (in_node known n).places) (drop (i + 1) items))
    here = ap (in_items known total) (drop-next items i item h p) ∙ ap (λ x. in_items known total (x ∷ drop (i + 1) items)) q

    pub items-passed : (l : Limit) → Passes total (in_node known n) l → in_items known total (drop i items) ≡ Some (n.name, l)
    items-passed l k = here ∙ ap (λ o. at_node n.name o (in_items (with_node known n.name (in_node known n)) (total + (in_node known n).places) (drop (i + 1) items))) k.is_first

    pub items-kept : (held : Size) → Keeps total (in_node known n) held
        → in_items known total (drop i items) ≡ in_items (with_node known n.name held) (total + held.places) (drop (i + 1) items)
    items-kept held k =
        here ∙ ap (λ o. at_node n.name o (in_items (with_node known n.name (in_node known n)) (total + (in_node known n).places) (drop (i + 1) items))) k.none_passed
        ∙ ap (λ (s : Size). in_items (with_node known n.name s) (total + s.places) (drop (i + 1) items)) (sym k.same)
