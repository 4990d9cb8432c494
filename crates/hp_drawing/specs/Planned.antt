-- The slots of a node's circuit in the order in which they are laid down, but for their wires: what is there before, and what is there behind each part of the node.
use Rattle.std.specs.Prelude.{ℕ, suc, ◌&&◌, if◌then◌else◌, List, [], ◌∷◌, Option, None, Some}
use Rattle.std.specs.Str.{bytes_eq}
use Rattle.hp_base.specs.declared.ty.Const.{Const}
use Rattle.hp_tree.specs.declared.block.Trans.{Trans}
use Rattle.hp_tree.specs.declared.expr.Op2.{Op2}
use Rattle.hp_tree.specs.declared.expr.Op2.TheVariants.{Add, Sub, Mul, Div, Rem}
use Rattle.hp_tree.specs.Expressions.{Expr, constant, variable, last_of, one, two, choose, pre, fby, arrow, when_is, merge, call, Exprs, no_expr, more_exprs, Parts, no_part, more_parts}
use Rattle.hp_tree.specs.Blocks.{Decl, Block, block, Eqns, no_eqn, more_eqns, Eqn, define, switch, reset, automaton, Arms, no_arm, more_arms, States, no_state, more_states, State}
use Rattle.hp_tree.specs.Programs.{Contract, Node}
use Rattle.hp_tree.specs.Operators.{is_comparison}
use Rattle.hp_tree.specs.Meaning.{controls_of}
use Rattle.hp_circuit.specs.declared.circuit.Shape.{Shape}
use Rattle.hp_circuit.specs.declared.circuit.Shape.TheVariants.{Truth, Cons, Mark}
use Rattle.hp_drawing.specs.Kept.{Kept, register, input, control, free, is_mark, with_kept, with_shaped}
use Rattle.hp_drawing.specs.Told.{Told, type_shape, constant_shape, constant_number}

-- what names are carried as
abbrev pub Names : Type 0
Names = List ℕ → Shape

abbrev pub unseen : Names
unseen x = Truth

-- what a block, a control equation or a node says of names, and what is seen with it
abbrev pub Layer : Type 0
Layer = List ℕ → Option Shape

abbrev pub or_shape : Option Shape → Shape → Shape
or_shape None s = s
or_shape (Some s) d = s

abbrev pub over : Layer → Names → Names
over l out x = or_shape (l x) (out x)

-- one name more, if nothing is said of it yet
abbrev pub or_later : Option Shape → Option Shape → Option Shape
or_later None later = later
or_later (Some s) later = Some s

abbrev pub add_at : Layer → List ℕ → Shape → Layer
add_at l y s x = or_later (l x) (if bytes_eq y x then Some s else None)

abbrev pub sight : List Layer → Names
sight [] = unseen
sight (l ∷ ls) = over l (sight ls)

abbrev pub others : List Layer → List Layer
others [] = []
others (l ∷ ls) = ls

-- names that are declared; of two of one name the first counts
abbrev pub declaring : Told → List Decl → Names → Names
declaring t [] out x = out x
declaring t (d ∷ ds) out x = if bytes_eq d.name x then type_shape t d.ty else declaring t ds out x

-- a layer that says what is declared, where it says nothing yet
abbrev pub with_declared : Told → List Decl → Layer → Layer
with_declared t [] l = l
with_declared t (d ∷ ds) l = with_declared t ds (add_at l d.name (type_shape t d.ty))

abbrev pub two_shape : Op2 → Shape
two_shape Add = Mark
two_shape Sub = Mark
two_shape Mul = Mark
two_shape Div = Mark
two_shape Rem = Mark
two_shape o = Truth

abbrev pub outputs_by : Option Node → List Decl
outputs_by None = []
outputs_by (Some n) = n.outputs

abbrev pub first_shape : Told → List Decl → Shape
first_shape t [] = Truth
first_shape t (d ∷ ds) = type_shape t d.ty

abbrev mutual
  pub shape_in : Told → Expr → Names → Shape
  shape_in t (constant s c) names = constant_shape t c
  shape_in t (variable s x) names = names x
  shape_in t (last_of s x) names = names x
  shape_in t (one s o a) names = shape_in t a names
  shape_in t (two s o a b) names = two_shape o
  shape_in t (choose s a b c) names = shape_in t b names
  shape_in t (pre s a) names = shape_in t a names
  shape_in t (fby s a b) names = shape_in t a names
  shape_in t (arrow s a b) names = shape_in t a names
  shape_in t (when_is s a c x) names = shape_in t a names
  shape_in t (merge s x ps) names = shape_in_parts t ps names
  shape_in t (call s f inlined es) names = first_shape t (outputs_by (t.nodes f))

  pub shape_in_parts : Told → Parts → Names → Shape
  shape_in_parts t no_part names = Truth
  shape_in_parts t (more_parts c e ps) names = shape_in t e names

-- a register with this number at first; an integer has none
abbrev pub with_register : ℕ → Shape → List Kept → List Kept
with_register first shape before = with_shaped (register first) shape before

-- a comparison of integers
abbrev pub with_comparison : Op2 → Shape → List Kept → List Kept
with_comparison o shape before = if is_comparison o && is_mark shape then with_kept before (free Truth) else before

-- declared variables, one after the other
abbrev pub with_row : (Shape → Kept) → Told → List Decl → List Kept → List Kept
with_row kind t [] before = before
with_row kind t (d ∷ ds) before = with_row kind t ds (with_shaped kind (type_shape t d.ty) before)

abbrev pub with_last : Told → Decl → Option Const → List Kept → List Kept
with_last t d None before = before
with_last t d (Some c) before = with_register (constant_number t c) (type_shape t d.ty) before

abbrev pub with_lasts : Told → List Decl → List Kept → List Kept
with_lasts t [] before = before
with_lasts t (d ∷ ds) before = with_lasts t ds (with_last t d d.last before)

abbrev pub count_states : States → ℕ
count_states no_state = 0
count_states (more_states f b until unless s ss) = suc (count_states ss)

-- ---- `callee` is what the contract of a node brings that is called

abbrev pub Callee : Type 0
Callee = Told → Node → List Kept → List Kept

abbrev pub with_call : Told → Callee → Option Node → List Kept → List Kept
with_call t callee None before = before
with_call t callee (Some n) before = callee t n (with_row free t n.outputs before)

abbrev mutual
  pub planned : Told → Callee → Expr → Names → List Kept → List Kept
  planned t callee (constant s c) names before = before
  planned t callee (variable s x) names before = before
  planned t callee (last_of s x) names before = before
  planned t callee (one s o a) names before = planned t callee a names before
  planned t callee (two s o a b) names before =
      planned t callee b names (planned t callee a names (with_comparison o (shape_in t a names) before))
  planned t callee (choose s a b c) names before = planned t callee c names (planned t callee b names (planned t callee a names before))
  planned t callee (pre s a) names before = planned t callee a names (with_register 0 (shape_in t a names) before)
  planned t callee (fby s a b) names before =
      planned t callee b names (planned t callee a names (with_kept (with_register 0 (shape_in t a names) before) (register 0 Truth)))
  planned t callee (arrow s a b) names before = planned t callee b names (planned t callee a names (with_kept before (register 0 Truth)))
  planned t callee (when_is s a c x) names before = planned t callee a names before
  planned t callee (merge s x ps) names before = planned_parts t callee ps names before
  planned t callee (call s f inlined es) names before = planned_all t callee es names (with_call t callee (t.nodes f) before)

  pub planned_all : Told → Callee → Exprs → Names → List Kept → List Kept
  planned_all t callee no_expr names before = before
  planned_all t callee (more_exprs e es) names before = planned_all t callee es names (planned t callee e names before)

  pub planned_parts : Told → Callee → Parts → Names → List Kept → List Kept
  planned_parts t callee no_part names before = before
  planned_parts t callee (more_parts c e ps) names before = planned_parts t callee ps names (planned t callee e names before)

abbrev pub planned_conditions : Told → Callee → List Trans → Names → List Kept → List Kept
planned_conditions t callee [] names before = before
planned_conditions t callee (q ∷ qs) names before = planned_conditions t callee qs names (planned t callee q.cond names before)

-- what a block declares is seen in it
abbrev pub in_block : Told → Block → Names → Names
in_block t (block ds es) names = declaring t ds names

-- the `last` variables of a block
abbrev pub block_lasts : Told → Block → List Kept → List Kept
block_lasts t (block ds es) before = with_lasts t ds before

-- the words of an automaton of so many states
abbrev pub with_words : ℕ → List Kept → List Kept
with_words count before = with_kept (with_kept before (register 0 (Cons count))) (register 0 Truth)

abbrev mutual
  pub planned_block : Told → Callee → Block → Names → List Kept → List Kept
  planned_block t callee (block ds es) names before = planned_eqns t callee es (declaring t ds names) (with_lasts t ds before)

  pub planned_eqns : Told → Callee → Eqns → Names → List Kept → List Kept
  planned_eqns t callee no_eqn names before = before
  planned_eqns t callee (more_eqns e es) names before = planned_eqns t callee es names (planned_eqn t callee e names before)

  pub planned_eqn : Told → Callee → Eqn → Names → List Kept → List Kept
  planned_eqn t callee (define s ys e) names before = planned t callee e names before
  planned_eqn t callee (switch s e arms) names before = planned_arms t callee arms names (planned t callee e names before)
  planned_eqn t callee (reset s b e) names before = planned t callee e names (planned_block t callee b names before)
  planned_eqn t callee (automaton s ss) names before = planned_states t callee ss names names (with_words (count_states ss) before)

  pub planned_arms : Told → Callee → Arms → Names → List Kept → List Kept
  planned_arms t callee no_arm names before = before
  planned_arms t callee (more_arms c b s arms) names before = planned_arms t callee arms names (planned_block t callee b names before)

  -- `outer` are the names around the automaton, which strong transitions see
  pub planned_states : Told → Callee → States → Names → Names → List Kept → List Kept
  planned_states t callee no_state names outer before = before
  planned_states t callee (more_states f b until unless s ss) names outer before =
      planned_states t callee ss names outer
      (planned_conditions t callee unless outer (planned_conditions t callee until (in_block t b names) (planned_block t callee b names before)))

-- a state, as the element of a list
abbrev pub planned_state : Told → Callee → State → Names → Names → List Kept → List Kept
planned_state t callee q names outer before =
    planned_conditions t callee q.unless outer (planned_conditions t callee q.until (in_block t q.body names) (planned_block t callee q.body names before))

-- ---- contracts and nodes

abbrev pub planned_told : Told → Callee → Option Expr → Names → List Kept → List Kept
planned_told t callee None names before = before
planned_told t callee (Some e) names before = planned t callee e names before

abbrev pub planned_contract : Told → Callee → Contract → Names → List Kept → List Kept
planned_contract t callee c names before =
    planned_told t callee c.enforce (in_block t c.body names) (planned_told t callee c.assume (in_block t c.body names) (planned_block t callee c.body names before))

abbrev pub planned_observer : Told → Callee → Option Contract → Names → List Kept → List Kept
planned_observer t callee None names before = before
planned_observer t callee (Some c) names before = planned_contract t callee c names before

-- what a contract sees: inputs and outputs
abbrev pub contract_names : Told → Node → Names
contract_names t n = declaring t n.inputs (declaring t n.outputs unseen)

-- where nothing is called
abbrev pub no_callee : Callee
no_callee t n before = before

-- the contract of a node that is called, in which nothing is called
abbrev pub called_of : Told → Option Contract → Node → List Kept → List Kept
called_of t None n before = before
called_of t (Some c) n before = planned_contract t no_callee c (contract_names t n) (with_lasts t n.outputs before)

abbrev pub called : Callee
called t n before = called_of t n.contract n before

-- what a node brings
abbrev pub planned_node : Told → Node → List Kept → List Kept
planned_node t n before =
    planned_block t called n.body (declaring t (controls_of n.contract) (contract_names t n))
    (planned_observer t called n.contract (contract_names t n)
    (with_row control t (controls_of n.contract) (with_lasts t n.outputs (with_row input t n.inputs before))))
