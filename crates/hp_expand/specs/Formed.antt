-- When contracts have their shapes and counts are within the limits.
use Rattle.std.specs.Prelude.{ℕ, suc, ◌+◌, ◌≤◌, List, [], ◌∷◌}
use Rattle.hp_base.specs.Limits.{most}
use Rattle.hp_base.specs.declared.limit.What.TheVariants.{Nest, Places, Total, Instances, Cells, Calls}
use Rattle.hp_tree.specs.declared.program.Item.{Item}
use Rattle.hp_tree.specs.declared.program.Item.TheVariants.{TypeItem, NodeItem}
use Rattle.hp_tree.specs.Programs.{Node}
use Rattle.hp_expand.specs.Sizes as sizes
use Rattle.hp_expand.specs.Sizes.{Size}
use Rattle.hp_expand.specs.Shapes as shapes
use Rattle.hp_expand.specs.Shapes.{Form, Mark, plain_at, bound_at, integer_at}

-- no plain call, no inlined call of a node with a contract, and no controllable variable that is an integer, among some marks
abbrev pub MakeNoPlainCall : List Mark → Type 0
MakeNoPlainCall [] = Unit {0}
MakeNoPlainCall (plain_at at ∷ ms) = ⊥
MakeNoPlainCall (bound_at at ∷ ms) = MakeNoPlainCall ms
MakeNoPlainCall (integer_at at ∷ ms) = MakeNoPlainCall ms

abbrev pub InlineNoContract : List Mark → Type 0
InlineNoContract [] = Unit {0}
InlineNoContract (plain_at at ∷ ms) = InlineNoContract ms
InlineNoContract (bound_at at ∷ ms) = ⊥
InlineNoContract (integer_at at ∷ ms) = InlineNoContract ms

abbrev pub HaveNoInteger : List Mark → Type 0
HaveNoInteger [] = Unit {0}
HaveNoInteger (plain_at at ∷ ms) = HaveNoInteger ms
HaveNoInteger (bound_at at ∷ ms) = HaveNoInteger ms
HaveNoInteger (integer_at at ∷ ms) = ⊥

-- a node, where the forms of the nodes before it are known
pub record IsShaped (forms : List ℕ → Form) (n : Node) : Type 0 where
  pub contract_calls_nothing : MakeNoPlainCall (shapes.in_contract forms n.contract)
  pub contract_inlines_no_contract : InlineNoContract (shapes.in_contract forms n.contract)
  pub body_inlines_no_contract : InlineNoContract (shapes.in_block forms n.body)
  pub controls_are_no_integers : HaveNoInteger (shapes.in_contract forms n.contract)

abbrev pub AreShaped : (List ℕ → Form) → List Item → Type 0
AreShaped forms [] = Unit {0}
AreShaped forms (TypeItem t ∷ items) = AreShaped forms items
AreShaped forms (NodeItem n ∷ items) = IsShaped forms n × AreShaped (shapes.with_form forms n.name (shapes.form_of forms n)) items

-- a node with this in it, behind nodes with so many places
pub record IsWithin (total : ℕ) (s : Size) : Type 0 where
  pub nest : suc s.nest ≤ most Nest
  pub places : s.places ≤ most Places
  pub all : total + s.places ≤ most Total
  pub instances : suc s.instances ≤ most Instances
  pub cells : s.places + s.cells ≤ most Cells
  pub calls : suc s.calls ≤ most Calls

abbrev pub AreWithin : (List ℕ → Size) → ℕ → List Item → Type 0
AreWithin known total [] = Unit {0}
AreWithin known total (TypeItem t ∷ items) = AreWithin known total items
AreWithin known total (NodeItem n ∷ items) =
    IsWithin total (sizes.in_node known n) × AreWithin (sizes.with_node known n.name (sizes.in_node known n)) (total + (sizes.in_node known n).places) items

-- the contracts of a program have their shapes, and its counts are within the limits
abbrev pub HasShapes : List Item → Type 0
HasShapes program = AreShaped shapes.nothing_known program

abbrev pub KeepsLimits : List Item → Type 0
KeepsLimits program = AreWithin sizes.nothing_known 0 program
