-- What is drawn of contracts, of nodes that are called, and of a node.
use Rattle.std.specs.Prelude.{ℕ, ◌+◌, List, [], ◌∷◌, Option, None, Some}
use Rattle.hp_circuit.specs.declared.circuit.Role.{Role}
use Rattle.hp_circuit.specs.declared.circuit.Role.TheVariants as role
use Rattle.hp_circuit.specs.declared.circuit.Shape.{Shape}
use Rattle.hp_tree.specs.Blocks.{Decl}
use Rattle.hp_tree.specs.Expressions.{Expr}
use Rattle.hp_tree.specs.Meaning.{controls_of}
use Rattle.hp_tree.specs.Programs.{Contract, Node}
use Rattle.hp_drawing.specs.declared.parts.Callee.{Callee}
use Rattle.hp_drawing.specs.declared.parts.Place.{Place}
use Rattle.hp_drawing.specs.declared.parts.Value.{Value}
use Rattle.hp_drawing.specs.Told.{Told, type_shape}
use Rattle.hp_drawing.specs.Sketch as sketch
use Rattle.hp_drawing.specs.Sketch.{Sketch, high, next_wire, given, add_call, finish, empty}
use Rattle.hp_drawing.specs.Places.{top_place, called_at}
use Rattle.hp_drawing.specs.Scopes.{Scope, Layer, no_scope, add, entry_at, unseen_entry, add_lasts, push_values, push_lasts, pop_values, value_in}
use Rattle.hp_drawing.specs.DrawnExpressions.{Brings, drawn, add_holes}
use Rattle.hp_drawing.specs.DrawnBlocks.{drawn_block}

-- ---- what contracts and bodies see

-- declared variables, numbered from k on, have the wires from the first one on
abbrev pub put_from : Told → ℕ → ℕ → List Decl → Layer → Layer
put_from t first k [] l = l
put_from t first k (d ∷ ds) l = put_from t first (k + 1) ds (add l d.name (entry_at (first + k) (type_shape t d.ty)))

abbrev pub put_row : Told → List Decl → ℕ → Layer → Layer
put_row t ds first l = put_from t first 0 ds l

-- outputs have no value but where they are defined
abbrev pub put_outputs : Told → List Decl → Layer → Layer
put_outputs t [] l = l
put_outputs t (d ∷ ds) l = put_outputs t ds (add l d.name (unseen_entry (type_shape t d.ty)))

-- a contract sees inputs and outputs
abbrev pub contract_layer : Told → Node → ℕ → ℕ → Layer
contract_layer t n inputs outputs = put_row t n.outputs outputs (put_row t n.inputs inputs [])

abbrev pub scope_over : Layer → Layer → Scope
scope_over values lasts = push_lasts lasts (push_values values no_scope)

-- and the last values of outputs
unfoldable pub contract_scope : Told → Place → Node → ℕ → ℕ → Sketch → Scope × Sketch
contract_scope t place n inputs outputs s =
    let lasts = add_lasts t place n.outputs (contract_layer t n inputs outputs) [] s in
    (scope_over (contract_layer t n inputs outputs) lasts.0, lasts.1)

-- a body sees inputs and controllable variables
abbrev pub body_layer : Told → Node → ℕ → ℕ → Layer
body_layer t n inputs controls = put_outputs t n.outputs (put_row t n.inputs inputs (put_row t (controls_of n.contract) controls []))

-- ---- contracts

-- the wires of what a contract assumes and enforces
pub record Observer : Type 0 where
  pub assume : ℕ
  pub enforce : ℕ

abbrev pub observer : ℕ → ℕ → Observer
observer assume enforce = record { assume = assume; enforce = enforce }

abbrev pub wire_of : Value × Sketch → ℕ × Sketch
wire_of d = (d.0.wire, d.1)

-- what is assumed or enforced, which holds where it is missing
abbrev pub drawn_told : Told → Brings → Scope → Place → Option Expr → Sketch → ℕ × Sketch
drawn_told t brings z place None s = (high, s)
drawn_told t brings z place (Some e) s = wire_of (drawn t brings z place e s)

abbrev pub drawn_contract : Told → Brings → Scope → Place → Contract → Sketch → Observer × Sketch
drawn_contract t brings z place c s =
    let inside = drawn_block t brings z place c.body s in
    let assume = drawn_told t brings inside.0 place c.assume inside.1 in
    let enforce = drawn_told t brings inside.0 place c.enforce assume.1 in
    (observer assume.0 enforce.0, enforce.1)

-- where nothing is called
abbrev pub no_brings : Brings
no_brings t place n callee s = s

-- the contract of a node that is called, in which nothing is called
abbrev pub drawn_called : Told → Place → Node → Contract → Callee → Sketch → Sketch
drawn_called t place n c callee s =
    let inside = called_at place s in
    let z = contract_scope t inside.0 n callee.inputs callee.outputs inside.1 in
    let g = drawn_contract t no_brings z.0 inside.0 c z.1 in
    add_call inside.0.here g.0.assume g.0.enforce g.1

abbrev pub drawn_called_if : Told → Place → Node → Option Contract → Callee → Sketch → Sketch
drawn_called_if t place n None callee s = s
drawn_called_if t place n (Some c) callee s = drawn_called t place n c callee s

abbrev pub contracts : Brings
contracts t place n callee s = drawn_called_if t place n n.contract callee s

-- ---- nodes

abbrev pub add_one_given : Role → Shape → Sketch → Sketch
add_one_given r p s = let w = given r p s in w.1

-- variables that are given, in order
abbrev pub add_given : Told → Role → List Decl → Sketch → Sketch
add_given t r [] s = s
add_given t r (d ∷ ds) s = add_given t r ds (add_one_given r (type_shape t d.ty) s)

-- the outputs, numbered from k on, are what the body defines
abbrev pub define_from : Scope → ℕ → ℕ → List Decl → Sketch → Sketch
define_from z first k [] s = s
define_from z first k (d ∷ ds) s = define_from z first (k + 1) ds (sketch.define (first + k) (value_in z d.name) s)

abbrev pub define_outputs : Scope → List Decl → ℕ → Sketch → Sketch
define_outputs z ds first s = define_from z first 0 ds s

abbrev pub drawn_observer : Told → Scope → Option Contract → Sketch → Observer × Sketch
drawn_observer t z None s = (observer high high, s)
drawn_observer t z (Some c) s = drawn_contract t contracts z top_place c s

-- the scope of the body, in place of what the contract sees
abbrev pub body_scope : Layer → Scope → Scope
body_scope l z = push_values l (pop_values z)

abbrev pub drawn_body : Told → Scope → Layer → Node → ℕ → Sketch → Sketch
drawn_body t z l n outputs s =
    let inside = drawn_block t contracts (body_scope l z) top_place n.body s in
    define_outputs inside.0 n.outputs outputs inside.1

-- what stands before the contract: the wires of outputs, inputs and controllable variables
pub record Rows : Type 0 where
  pub outputs : ℕ
  pub inputs : ℕ
  pub controls : ℕ

abbrev pub rows_of : ℕ → ℕ → ℕ → Rows
rows_of outputs inputs controls = record { outputs = outputs; inputs = inputs; controls = controls }

-- the outputs and the inputs, in front of which the sketch has so many wires each
abbrev pub with_outputs : Told → Node → Sketch → Sketch
with_outputs t n s = add_holes t n.outputs s

abbrev pub with_inputs : Told → Node → Sketch → Sketch
with_inputs t n s = add_given t role.Input n.inputs (with_outputs t n s)

abbrev pub with_controls : Told → Node → Sketch → Sketch
with_controls t n s = add_given t role.Control (controls_of n.contract) s

-- what is drawn of a node, behind what is there
abbrev pub node_scope : Told → Node → Sketch → Scope × Sketch
node_scope t n s = contract_scope t top_place n (next_wire (with_outputs t n s)) (next_wire s) (with_inputs t n s)

abbrev pub node_rest : Told → Node → Rows → Scope → Observer × Sketch → Sketch
node_rest t n rows z g =
    finish g.0.assume g.0.enforce
    (drawn_body t z (body_layer t n rows.inputs rows.controls) n rows.outputs g.1)

abbrev pub node_rows : Told → Node → Sketch → Sketch → Rows
node_rows t n before s = rows_of (next_wire before) (next_wire (with_outputs t n before)) (next_wire s)

abbrev pub drawn_node_from : Told → Node → Sketch → Sketch
drawn_node_from t n s =
    let z = node_scope t n s in
    node_rest t n (node_rows t n s z.1) z.0 (drawn_observer t z.0 n.contract (with_controls t n z.1))

abbrev pub drawn_node : Told → Node → Sketch
drawn_node t n = drawn_node_from t n empty
