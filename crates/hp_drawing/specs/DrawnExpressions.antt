-- What is drawn of an expression: its value, with the sketch behind it.
use Rattle.std.specs.Prelude.{ℕ, ◌+◌, Bool, ◌&&◌, if◌then◌else◌, List, [], ◌∷◌, Option, None, Some}
use Rattle.hp_base.specs.declared.ty.Const.{Const}
use Rattle.hp_circuit.specs.declared.circuit.Role.TheVariants as role
use Rattle.hp_circuit.specs.declared.circuit.Shape.{Shape}
use Rattle.hp_circuit.specs.declared.circuit.Shape.TheVariants.{Truth, Mark}
use Rattle.hp_circuit.specs.declared.circuit.Wire.TheVariants as wire
use Rattle.hp_tree.specs.declared.decl.Cons as tree_cons
use Rattle.hp_tree.specs.declared.decl.Cons.TheVariants as cons
use Rattle.hp_tree.specs.declared.expr.Op1.{Op1}
use Rattle.hp_tree.specs.declared.expr.Op1.TheVariants.{Not, Neg}
use Rattle.hp_tree.specs.declared.expr.Op2.{Op2}
use Rattle.hp_tree.specs.declared.expr.Op2.TheVariants.{And, Or, Xor, Imp, Eq, Ne}
use Rattle.hp_tree.specs.Blocks.{Decl}
use Rattle.hp_tree.specs.Expressions.{Expr, constant, variable, last_of, one, two, choose, pre, fby, arrow, when_is, merge, call, Exprs, no_expr, more_exprs, Parts, no_part, more_parts}
use Rattle.hp_tree.specs.Operators.{is_comparison}
use Rattle.hp_tree.specs.Programs.{Node}
use Rattle.hp_drawing.specs.declared.parts.Callee.{Callee}
use Rattle.hp_drawing.specs.declared.parts.Place.{Place}
use Rattle.hp_drawing.specs.declared.parts.Register.{Register}
use Rattle.hp_drawing.specs.declared.parts.Value.{Value}
use Rattle.hp_drawing.specs.Kept.{is_mark}
use Rattle.hp_drawing.specs.Told.{Told, type_shape, constant_shape, constant_number, constructor_number}
use Rattle.hp_drawing.specs.Planned.{shape_in, shape_in_parts}
use Rattle.hp_drawing.specs.Sketch.{Sketch, high, value, truth, next_wire, push, shape_at, read, mark, mark_of, hole, define, copy, is_gate, slot, given, inner_clock, outer_clock}
use Rattle.hp_drawing.specs.Places.{on_clock, may_be_early, register_of, new_register, takes, chain_add, chain_end}
use Rattle.hp_drawing.specs.Scopes.{Scope, value_in, last_in, shapes_in}

-- a wire that a step made, as a value
abbrev pub carried : Shape → ℕ × Sketch → Value × Sketch
carried p d = (value d.0 p, d.1)

abbrev pub gate : ℕ × Sketch → Value × Sketch
gate d = carried Truth d

-- ---- constants and constructors

unfoldable pub drawn_constant : Told → Const → Sketch → Value × Sketch
drawn_constant t c s = carried (constant_shape t c) (push (wire.Constant (constant_number t c)) (constant_shape t c) s)

abbrev pub cons_number : Told → tree_cons.Cons → ℕ
cons_number t cons.False = 0
cons_number t cons.True = 1
cons_number t (cons.Named x) = constructor_number (t.constructors x)

-- whether a wire has the constructor
unfoldable pub has_cons : Told → ℕ → tree_cons.Cons → Sketch → ℕ × Sketch
has_cons t w c s = is_gate w (cons_number t c) s

-- a clock with a step more, where the name has this value
unfoldable pub step_clock : Told → Scope → ℕ → tree_cons.Cons → List ℕ → Sketch → ℕ × Sketch
step_clock t z clock c x s =
    let is = has_cons t (value_in z x).wire c s in
    inner_clock clock is.0 is.1

-- ---- operators

abbrev pub marked : ℕ × Sketch → Value × Sketch
marked d = carried Mark d

-- an integer that reads two values, or three
unfoldable pub mark_of_two : Value → Value → Sketch → Value × Sketch
mark_of_two a b s = let m = mark_of a.wire s in (value m.0 Mark, read m.0 b.wire m.1)

unfoldable pub mark_of_three : Value → Value → Value → Sketch → Value × Sketch
mark_of_three a b c s = let m = mark_of_two a b s in (m.0, read m.0.wire c.wire m.1)

unfoldable pub drawn_one : Op1 → Value → Sketch → Value × Sketch
drawn_one Not a s = gate (push (wire.Not a.wire) Truth s)
drawn_one Neg a s = marked (mark_of a.wire s)

abbrev pub negated : ℕ × Sketch → Value × Sketch
negated d = gate (push (wire.Not d.0) Truth d.1)

abbrev pub implied : ℕ → ℕ × Sketch → Value × Sketch
implied b d = gate (push (wire.Or d.0 b) Truth d.1)

-- an operator of two operands, where it is no comparison of integers
unfoldable pub drawn_two : Op2 → Value → Value → Sketch → Value × Sketch
drawn_two And a b s = gate (push (wire.And a.wire b.wire) Truth s)
drawn_two Or a b s = gate (push (wire.Or a.wire b.wire) Truth s)
drawn_two Xor a b s = gate (push (wire.Xor a.wire b.wire) Truth s)
drawn_two Imp a b s = implied b.wire (push (wire.Not a.wire) Truth s)
drawn_two Eq a b s = gate (push (wire.Equal a.wire b.wire) Truth s)
drawn_two Ne a b s = negated (push (wire.Equal a.wire b.wire) Truth s)
drawn_two o a b s = mark_of_two a b s

-- the first where the condition holds, else the second
abbrev pub chosen_as : Shape → ℕ → Value → Value → Sketch → Value × Sketch
chosen_as Mark c a b s = mark_of_three (truth c) a b s
chosen_as p c a b s = carried p (push (wire.If c a.wire b.wire) p s)

unfoldable pub drawn_choice : ℕ → Value → Value → Sketch → Value × Sketch
drawn_choice c a b s = chosen_as a.shape c a b s

-- ---- calls: the outputs of a node that is called are given, and its contract alone is drawn

-- what the contract of a node brings that is called at a place, with these wires
abbrev pub Brings : Type 0
Brings = Told → Place → Node → Callee → Sketch → Sketch

abbrev pub shape_or : Option Shape → Shape
shape_or None = Truth
shape_or (Some p) = p

-- an output, by its place
unfoldable pub output : Callee → ℕ → Sketch → Value
output c k s = value (c.outputs + k) (shape_or (shape_at (c.outputs + k) s))

-- an input has its value, by its place
unfoldable pub takes_input : Callee → ℕ → Value → Sketch → Sketch
takes_input c k v s = read c.reads v.wire (define (c.inputs + k) v s)

abbrev pub add_output : Bool → Shape → ℕ → Sketch → Sketch
add_output early p reads s = let w = given (role.Free early) p s in read w.0 reads w.1

-- the outputs of a call, which read one wire
abbrev pub add_outputs : Told → Bool → List Decl → ℕ → Sketch → Sketch
add_outputs t early [] reads s = s
add_outputs t early (d ∷ ds) reads s = add_outputs t early ds reads (add_output early (type_shape t d.ty) reads s)

abbrev pub add_hole : Shape → Sketch → Sketch
add_hole p s = let w = hole p s in w.1

-- the wires of declared variables, which are said later
abbrev pub add_holes : Told → List Decl → Sketch → Sketch
add_holes t [] s = s
add_holes t (d ∷ ds) s = add_holes t ds (add_hole (type_shape t d.ty) s)

abbrev pub callee_of : ℕ → ℕ → ℕ → Callee
callee_of outputs inputs reads = record { outputs = outputs; inputs = inputs; reads = reads }

abbrev pub begin_node : Told → Brings → Place → Node → ℕ → Sketch → Sketch → Callee × Sketch
begin_node t brings place n reads before s =
    let callee = callee_of (next_wire before) (next_wire s) reads in
    (callee, brings t place n callee (add_holes t n.inputs s))

-- a call but for its arguments
abbrev pub begin_with : Told → Brings → Place → Option Node → Sketch → Callee × Sketch
begin_with t brings place None s = (callee_of 0 0 0, s)
begin_with t brings place (Some n) s =
    let reads = mark s in
    begin_node t brings place n reads.0 reads.1 (add_outputs t (may_be_early place) n.outputs reads.0 reads.1)

unfoldable pub begin_call : Told → Brings → Place → List ℕ → Sketch → Callee × Sketch
begin_call t brings place f s = begin_with t brings place (t.nodes f) s

-- ---- expressions: what stands before the operands, and what behind them

-- whether two operands are compared that are integers
abbrev pub compares : Told → Scope → Op2 → Expr → Bool
compares t z o a = is_comparison o && is_mark (shape_in t a (shapes_in z))

-- a comparison of integers is free, and stands before what it compares
abbrev pub two_begin : Bool → Place → Sketch → ℕ × Sketch
two_begin compared place s = if compared then slot (role.Free (may_be_early place)) Truth s else (0, s)

abbrev pub read_both : ℕ → Value → Value → Sketch → Sketch
read_both w a b s = read w b.wire (read w a.wire s)

abbrev pub two_end : Bool → ℕ → Op2 → Value → Value → Sketch → Value × Sketch
two_end compared w o a b s = if compared then (truth w, read_both w a b s) else drawn_two o a b s

-- a delayed value is that of a register; of an integer there is none
abbrev pub no_register : Register
no_register = register_of 0 0 0 Mark

abbrev pub delay_begin : Shape → Place → Sketch → Register × Sketch
delay_begin p place s = if is_mark p then (no_register, s) else new_register place 0 p s

abbrev pub delay_take : Shape → Register → Place → ℕ → Sketch → Sketch
delay_take p r place w s = if is_mark p then s else takes r place w s

-- a delayed integer reads nothing
abbrev pub pre_end : Shape → Register → Place → Value × Sketch → Value × Sketch
pre_end p r place d = if is_mark p then marked (mark d.1) else (value r.read p, takes r place d.0.wire d.1)

-- the first value where there is no past, of which an integer reads that alone
abbrev pub fby_end : Shape → Register → Register → Value → Sketch → Value × Sketch
fby_end p r past first s = if is_mark p then marked (mark_of first.wire s) else drawn_choice past.read (value r.read p) first s

-- a sampled value, which reads the name of its condition, on the outer clock
abbrev pub outside_of : Place → Sketch → Place
outside_of place s = on_clock place (outer_clock place.clock s)

abbrev pub sampled : ℕ → Value × Sketch → Value × Sketch
sampled condition d =
    let w = copy d.0 d.1 in
    (value w.0 d.0.shape, read w.0 condition w.1)

-- the value of the part for the name's constructor
abbrev pub merge_begin : Shape → ℕ → Sketch → ℕ × Sketch
merge_begin p condition s = let w = hole p s in (w.0, read w.0 condition w.1)

abbrev pub merge_end : Shape → ℕ → ℕ × Sketch → Value × Sketch
merge_end p w d = (value w p, if is_mark p then d.1 else chain_end d.0 d.1)

abbrev mutual
  pub drawn : Told → Brings → Scope → Place → Expr → Sketch → Value × Sketch
  drawn t brings z place (constant q c) s = drawn_constant t c s
  drawn t brings z place (variable q x) s = (value_in z x, s)
  drawn t brings z place (last_of q x) s = (last_in z x, s)
  drawn t brings z place (one q o a) s =
      let v = drawn t brings z place a s in
      drawn_one o v.0 v.1
  drawn t brings z place (two q o a b) s =
      let w = two_begin (compares t z o a) place s in
      let first = drawn t brings z place a w.1 in
      let second = drawn t brings z place b first.1 in
      two_end (compares t z o a) w.0 o first.0 second.0 second.1
  drawn t brings z place (choose q a b c) s =
      let condition = drawn t brings z place a s in
      let first = drawn t brings z place b condition.1 in
      let second = drawn t brings z place c first.1 in
      drawn_choice condition.0.wire first.0 second.0 second.1
  drawn t brings z place (pre q a) s =
      let p = shape_in t a (shapes_in z) in
      let r = delay_begin p place s in
      pre_end p r.0 place (drawn t brings z place a r.1)
  drawn t brings z place (fby q a b) s =
      let p = shape_in t a (shapes_in z) in
      let r = delay_begin p place s in
      let past = new_register place 0 Truth r.1 in
      let first = drawn t brings z place a past.1 in
      let second = drawn t brings z place b first.1 in
      fby_end p r.0 past.0 first.0 (takes past.0 place high (delay_take p r.0 place second.0.wire second.1))
  drawn t brings z place (arrow q a b) s =
      let past = new_register place 0 Truth s in
      let first = drawn t brings z place a past.1 in
      let second = drawn t brings z place b first.1 in
      drawn_choice past.0.read second.0 first.0 (takes past.0 place high second.1)
  drawn t brings z place (when_is q a c x) s = sampled (value_in z x).wire (drawn t brings z (outside_of place s) a s)
  drawn t brings z place (merge q x ps) s =
      let p = shape_in_parts t ps (shapes_in z) in
      let w = merge_begin p (value_in z x).wire s in
      merge_end p w.0 (drawn_parts t brings z place x ps w.0 w.1)
  drawn t brings z place (call q f inlined es) s =
      let c = begin_call t brings place f s in
      let behind = drawn_args t brings z place c.0 0 es c.1 in
      (output c.0 0 behind, behind)

  -- the parts of a merge, from the wire of the first part on; the wire behind the last is given
  pub drawn_parts : Told → Brings → Scope → Place → List ℕ → Parts → ℕ → Sketch → ℕ × Sketch
  drawn_parts t brings z place x no_part h s = (h, s)
  drawn_parts t brings z place x (more_parts c e ps) h s =
      let is = has_cons t (value_in z x).wire c s in
      let inner = step_clock t z place.clock c x is.1 in
      let v = drawn t brings z (on_clock place inner.0) e inner.1 in
      let rest = chain_add h is.0 v.0 v.1 in
      drawn_parts t brings z place x ps rest.0 rest.1

  -- the arguments of a call, from number k on
  pub drawn_args : Told → Brings → Scope → Place → Callee → ℕ → Exprs → Sketch → Sketch
  drawn_args t brings z place c k no_expr s = s
  drawn_args t brings z place c k (more_exprs e es) s =
      let v = drawn t brings z place e s in
      drawn_args t brings z place c (k + 1) es (takes_input c k v.0 v.1)

-- a part of a merge, as the element of a list
abbrev pub drawn_part : Told → Brings → Scope → Place → List ℕ → tree_cons.Cons → Expr → ℕ → Sketch → ℕ × Sketch
drawn_part t brings z place x c e h s =
    let is = has_cons t (value_in z x).wire c s in
    let inner = step_clock t z place.clock c x is.1 in
    let v = drawn t brings z (on_clock place inner.0) e inner.1 in
    chain_add h is.0 v.0 v.1

-- a call, whose arguments stand behind its outputs and its contract
abbrev pub drawn_call : Told → Brings → Scope → Place → List ℕ → Exprs → Sketch → Callee × Sketch
drawn_call t brings z place f es s =
    let c = begin_call t brings place f s in
    (c.0, drawn_args t brings z place c.0 0 es c.1)

-- ---- expressions by their operands

abbrev pub drawn_if : Told → Brings → Scope → Place → Expr → Expr → Expr → Sketch → Value × Sketch
drawn_if t brings z place a b c s =
    let condition = drawn t brings z place a s in
    let first = drawn t brings z place b condition.1 in
    let second = drawn t brings z place c first.1 in
    drawn_choice condition.0.wire first.0 second.0 second.1

abbrev pub drawn_operands : Told → Brings → Scope → Place → Op2 → Expr → Expr → Sketch → Value × Sketch
drawn_operands t brings z place o a b s =
    let w = two_begin (compares t z o a) place s in
    let first = drawn t brings z place a w.1 in
    let second = drawn t brings z place b first.1 in
    two_end (compares t z o a) w.0 o first.0 second.0 second.1

abbrev pub drawn_pre : Told → Brings → Scope → Place → Expr → Sketch → Value × Sketch
drawn_pre t brings z place a s =
    let p = shape_in t a (shapes_in z) in
    let r = delay_begin p place s in
    pre_end p r.0 place (drawn t brings z place a r.1)

abbrev pub drawn_fby : Told → Brings → Scope → Place → Expr → Expr → Sketch → Value × Sketch
drawn_fby t brings z place a b s =
    let p = shape_in t a (shapes_in z) in
    let r = delay_begin p place s in
    let past = new_register place 0 Truth r.1 in
    let first = drawn t brings z place a past.1 in
    let second = drawn t brings z place b first.1 in
    fby_end p r.0 past.0 first.0 (takes past.0 place high (delay_take p r.0 place second.0.wire second.1))

abbrev pub drawn_arrow : Told → Brings → Scope → Place → Expr → Expr → Sketch → Value × Sketch
drawn_arrow t brings z place a b s =
    let past = new_register place 0 Truth s in
    let first = drawn t brings z place a past.1 in
    let second = drawn t brings z place b first.1 in
    drawn_choice past.0.read second.0 first.0 (takes past.0 place high second.1)

abbrev pub drawn_when : Told → Brings → Scope → Place → Expr → List ℕ → Sketch → Value × Sketch
drawn_when t brings z place a x s = sampled (value_in z x).wire (drawn t brings z (outside_of place s) a s)

abbrev pub drawn_merge : Told → Brings → Scope → Place → List ℕ → Parts → Sketch → Value × Sketch
drawn_merge t brings z place x ps s =
    let p = shape_in_parts t ps (shapes_in z) in
    let w = merge_begin p (value_in z x).wire s in
    merge_end p w.0 (drawn_parts t brings z place x ps w.0 w.1)
