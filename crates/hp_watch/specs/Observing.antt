-- Observers: nodes that hold the block of a contract, beside the nodes that have it.
-- Source: own.
use Rattle.std.specs.Prelude.{ℕ, ◌+◌, true, List, [], ◌∷◌, ◌++◌, Option, None, Some, codes, decimal}
use Rattle.std.specs.List.{flat_map}
use Rattle.hp_base.specs.declared.span.Span.{Span}
use Rattle.hp_base.specs.declared.ty.Ty.{Ty}
use Rattle.hp_base.specs.declared.ty.Ty.TheVariants.{Bool}
use Rattle.hp_base.specs.declared.ty.Const.TheVariants.{B}
use Rattle.hp_tree.specs.declared.program.Item.{Item}
use Rattle.hp_tree.specs.declared.program.Item.TheVariants.{TypeItem, NodeItem}
use Rattle.hp_tree.specs.Expressions.{Expr, constant, variable}
use Rattle.hp_tree.specs.Blocks.{Decl, Block, block, Eqn, define, eqns_of, list_of_eqns}
use Rattle.hp_tree.specs.Programs.{Contract, Node}

-- a declaration on the base clock
abbrev pub declared : List ℕ → Ty → Span → Decl
declared name ty span = record { name = name; ty = ty; last = None; clock = Some []; span = span }

-- the outputs of an observer: what is assumed and what is enforced; no source name holds the sign
abbrev pub assumed : List ℕ
assumed = codes "assume$0"

abbrev pub enforced : List ℕ
enforced = codes "enforce$0"

abbrev pub outputs_at : Span → List Decl
outputs_at span = declared assumed Bool span ∷ declared enforced Bool span ∷ []

-- the name of the input that stands for an output of the node, by the output's number; it is none of these words
abbrev pub input_name : ℕ → List ℕ
input_name i = codes "in$" ++ decimal i

-- an input for each output of the node, which are numbered from one on
abbrev pub inputs_for : ℕ → List Decl → List Decl
inputs_for i [] = []
inputs_for i (d ∷ ds) = declared (input_name i) d.ty d.span ∷ inputs_for (i + 1) ds

-- the equation of one name
abbrev pub equation : List ℕ → Span → Expr → Eqn
equation name span e = define span ((name, span) ∷ []) e

-- each output of the node has the value of the input that stands for it
abbrev pub handed_on : ℕ → Decl → Eqn
handed_on i d = equation d.name d.span (variable d.span (input_name i))

abbrev pub all_handed_on : ℕ → List Decl → List Eqn
all_handed_on i [] = []
all_handed_on i (d ∷ ds) = handed_on i d ∷ all_handed_on (i + 1) ds

-- what is assumed or enforced, which is true where it is not said
abbrev pub condition_of : Option Expr → Span → Expr
condition_of None span = constant span (B true)
condition_of (Some e) span = e

-- a block with more variables and equations
abbrev pub with_lines : Block → List Decl → List Eqn → Block
with_lines (block ds es) more lines = block (ds ++ more) (eqns_of (list_of_eqns es ++ lines))

-- what is added to the block of a contract: what is assumed and enforced, and the outputs of the node
abbrev pub lines_of : Node → Contract → List Eqn
lines_of n c = equation assumed c.span (condition_of c.assume c.span) ∷ equation enforced c.span (condition_of c.enforce c.span) ∷ all_handed_on 0 n.outputs

-- The observer of a contract has the name of the node. Over the inputs and the outputs of the node it gives what the contract assumes and enforces.
abbrev pub observer_of : Node → Contract → Node
observer_of n c = record {
  name = n.name;
  span = n.span;
  inputs = n.inputs ++ inputs_for 0 n.outputs;
  outputs = outputs_at c.span;
  contract = None;
  body = with_lines c.body n.outputs (lines_of n c);
}

-- what stands for a node: its observer, if it has a contract
abbrev pub observer_if : Node → Option Contract → List Item
observer_if n None = []
observer_if n (Some c) = NodeItem (observer_of n c) ∷ []

-- what stands for an item; a type stands for itself
abbrev pub item_of : Item → List Item
item_of (TypeItem t) = TypeItem t ∷ []
item_of (NodeItem n) = observer_if n n.contract

-- the types of a program, and the observers of its contracts, in order
abbrev pub observers : List Item → List Item
observers items = flat_map item_of items
