-- The slots of a node's abstraction in the order of places: its registers with their shapes, and its free places with their types.
-- Source: own. Inputs, outputs and controllable variables come first, then the contract's block and what it assumes and enforces, then the body; the variables of a block before its equations; each operator before its operands; of a control equation the condition of a `switch` before its arms and the body of a `reset` before its condition; of a state its body, then `until`, then `unless`; of a call its outputs, then its callee's contract part with the `last` outputs first, then its arguments.
use Rattle.std.specs.Prelude.{ℕ, suc, Bool, true, false, ◌&&◌, if◌then◌else◌, List, [], ◌∷◌, ◌++◌, length, reverse, Option, None, Some}
use Rattle.std.specs.Str.{bytes_eq}
use Rattle.hp_base.specs.declared.ty.Ty.{Ty}
use Rattle.hp_base.specs.declared.ty.Ty.TheVariants as ty
use Rattle.hp_base.specs.declared.value.Value.{Value}
use Rattle.hp_base.specs.declared.value.Value.TheVariants.{Absent, B, E, Star}
use Rattle.hp_tree.specs.declared.block.Trans.{Trans}
use Rattle.hp_tree.specs.declared.program.Item.{Item}
use Rattle.hp_tree.specs.Expressions.{Expr, constant, variable, last_of, one, two, choose, pre, fby, arrow, when_is, merge, call, Exprs, no_expr, more_exprs, Parts, no_part, more_parts}
use Rattle.hp_tree.specs.Blocks.{Decl, Block, block, Eqns, no_eqn, more_eqns, Eqn, define, switch, reset, automaton, Arms, no_arm, more_arms, States, no_state, more_states}
use Rattle.hp_tree.specs.Programs.{TypeDecl, Contract, Node}
use Rattle.hp_tree.specs.Operators.{is_comparison}
use Rattle.hp_tree.specs.Instant.{Inputs, Controls, Body, Observer, Assume, Enforce, Named, Fresh, Equations, Head, Tail, Right, Test, Arms as ArmsOf, States as StatesOf, Until, Unless, Next, Pending, First, Second, Third, Args, Instance, Place, Instant}
use Rattle.hp_meaning.specs.Causal.Sources.{below}
use Rattle.hp_meaning.specs.Causal.RanksOfPoints.{same_place}
use Rattle.hp_tree.specs.Meaning.{types_of, controls_of, node_among}
use Rattle.hp_tree.specs.Values.{constructors_of}
use Rattle.hp_meaning.specs.Contract.Codes.{width}
use Rattle.hp_tree.specs.ExpressionTypes.{Scope, typed_in, untyped, scope_of, type_of}

-- what a register holds: a truth value, the mark of an integer, or one of so many constructors of a type, or states
pub data Shape : Type 0 where
  truth mark : Shape
  cons : ℕ → ℕ → Shape

-- a register is a place of memory with its shape, and a free place one of what is given, with its type
pub data Slot : Type 0 where
  register : Place → Shape → Slot
  free : Place → Ty → Slot
  -- an input and a controllable variable, by their places
  input control : Place → Ty → Slot

abbrev pub width_of : Shape → ℕ
width_of truth = 1
width_of mark = 0
width_of (cons t m) = width m

-- the number of a type, as values have it
abbrev type_number : ℕ → List TypeDecl → List ℕ → ℕ
type_number t [] x = t
type_number t (d ∷ ds) x = if bytes_eq d.name x then t else type_number (suc t) ds x

abbrev pub shape_of : List TypeDecl → Ty → Shape
shape_of types ty.Bool = truth
shape_of types ty.Int = mark
shape_of types (ty.Enum t) = cons (type_number 0 types t) (length (constructors_of types t))

-- integers are no free places
abbrev pub is_int : Ty → Bool
is_int ty.Int = true
is_int t = false

abbrev free_of : (Place → Ty → Slot) → Place → Ty → List Slot
free_of kind p ty.Int = []
free_of kind p t = kind p t ∷ []

abbrev lasts_slots : List TypeDecl → List Decl → (Place → Place) → List Slot
lasts_slots types [] w = []
lasts_slots types (d ∷ ds) w = (elim d.last [ None ↦ [] | Some c ↦ register (w (Named d.name ∷ [])) (shape_of types d.ty) ∷ [] ]) ++ lasts_slots types ds w

abbrev outputs_slots : List Decl → (Place → Place) → List Slot
outputs_slots [] w = []
outputs_slots (d ∷ ds) w = free_of free (w (Named d.name ∷ [])) d.ty ++ outputs_slots ds w

abbrev row_slots : (Place → Ty → Slot) → List Decl → (Place → Place) → List Slot
row_slots kind [] w = []
row_slots kind (d ∷ ds) w = free_of kind (w (Head ∷ [])) d.ty ++ row_slots kind ds (below Tail w)

abbrev count_states : States → ℕ
count_states no_state = 0
count_states (more_states f b until unless s ss) = suc (count_states ss)

module _ (types : List TypeDecl) (outputs : List ℕ → List Decl) (callee : List ℕ → (Place → Place) → List Slot) where
  abbrev mutual
    pub slots : Expr → Scope → (Place → Place) → List Slot
    slots (constant s c) names w = []
    slots (variable s x) names w = []
    slots (last_of s x) names w = []
    slots (one s o a) names w = slots a names (below First w)
    slots (two s o a b) names w =
        (if is_comparison o && is_int (type_of types outputs a names) then free (w []) ty.Bool ∷ [] else []) ++ (slots a names (below First w) ++ slots b names (below Second w))
    slots (choose s a b c) names w = slots a names (below First w) ++ (slots b names (below Second w) ++ slots c names (below Third w))
    slots (pre s a) names w = register (w []) (shape_of types (type_of types outputs a names)) ∷ slots a names (below First w)
    slots (fby s a b) names w =
        register (w []) (shape_of types (type_of types outputs a names)) ∷ (register (w (Fresh ∷ [])) truth ∷ (slots a names (below First w) ++ slots b names (below Second w)))
    slots (arrow s a b) names w = register (w (Fresh ∷ [])) truth ∷ (slots a names (below First w) ++ slots b names (below Second w))
    slots (when_is s a c x) names w = slots a names (below First w)
    slots (merge s x ps) names w = slots_of_parts ps names (below Args w)
    slots (call s f inlined es) names w = outputs_slots (outputs f) (below Instance w) ++ (callee f (below Instance w) ++ slots_of_all es names (below Args w))

    pub slots_of_all : Exprs → Scope → (Place → Place) → List Slot
    slots_of_all no_expr names w = []
    slots_of_all (more_exprs e es) names w = slots e names (below Head w) ++ slots_of_all es names (below Tail w)

    pub slots_of_parts : Parts → Scope → (Place → Place) → List Slot
    slots_of_parts no_part names w = []
    slots_of_parts (more_parts c e ps) names w = slots e names (below Head w) ++ slots_of_parts ps names (below Tail w)

  abbrev pub slots_of_conditions : List Trans → Scope → (Place → Place) → List Slot
  slots_of_conditions [] names w = []
  slots_of_conditions (t ∷ ts) names w = slots t.cond names (below Head w) ++ slots_of_conditions ts names (below Tail w)

  abbrev mutual
    pub slots_of_block : Block → Scope → (Place → Place) → List Slot
    slots_of_block (block ds es) out w = lasts_slots types ds w ++ slots_of_equations es (typed_in ds out) (below Equations w)

    pub slots_of_equations : Eqns → Scope → (Place → Place) → List Slot
    slots_of_equations no_eqn names w = []
    slots_of_equations (more_eqns e es) names w = slots_of_equation e names (below Head w) ++ slots_of_equations es names (below Tail w)

    pub slots_of_equation : Eqn → Scope → (Place → Place) → List Slot
    slots_of_equation (define s ys e) names w = slots e names (below Right w)
    slots_of_equation (switch s e arms) names w = slots e names (below Test w) ++ slots_of_arms arms names (below ArmsOf w)
    slots_of_equation (reset s b e) names w = slots_of_block b names (below Body w) ++ slots e names (below Test w)
    slots_of_equation (automaton s ss) names w =
        register (w (Next ∷ [])) (cons 0 (count_states ss)) ∷ (register (w (Pending ∷ [])) truth ∷ slots_of_states ss names (below StatesOf w))

    pub slots_of_arms : Arms → Scope → (Place → Place) → List Slot
    slots_of_arms no_arm names w = []
    slots_of_arms (more_arms c b s arms) names w = slots_of_block b names (below Head w) ++ slots_of_arms arms names (below Tail w)

    pub slots_of_states : States → Scope → (Place → Place) → List Slot
    slots_of_states no_state names w = []
    slots_of_states (more_states f b until unless s ss) names w =
        slots_of_block b names (below Body (below Head w))
        ++ (slots_of_conditions until (scope_of b names) (below Until (below Head w))
        ++ (slots_of_conditions unless names (below Unless (below Head w)) ++ slots_of_states ss names (below Tail w)))

  abbrev slots_told : Option Expr → Scope → (Place → Place) → List Slot
  slots_told None names w = []
  slots_told (Some e) names w = slots e names w

  abbrev pub slots_of_contract : Option Contract → Scope → (Place → Place) → List Slot
  slots_of_contract None names w = []
  slots_of_contract (Some c) names w =
      slots_of_block c.body names (below Observer w) ++ (slots_told c.assume (scope_of c.body names) (below Assume w) ++ slots_told c.enforce (scope_of c.body names) (below Enforce w))

-- ---- nodes

abbrev decls_by : Option Node → List Decl
decls_by None = []
decls_by (Some n) = n.outputs

abbrev no_slots : List ℕ → (Place → Place) → List Slot
no_slots f w = []

-- a callee's contract part: its last outputs first; all its outputs have registers where it has a contract
abbrev pub callee_slots : List TypeDecl → Option Node → (Place → Place) → List Slot
callee_slots types None w = []
callee_slots types (Some n) w =
    elim n.contract [
      | None ↦ []
      | Some c ↦ lasts_slots types n.outputs w ++ slots_of_contract types (λ f. []) no_slots (Some c) (typed_in n.inputs (typed_in n.outputs untyped)) w
    ]

abbrev pub slots_of_node : List Item → Node → List Slot
slots_of_node program n =
    let types = types_of program in
    let callee_named : List ℕ → Option Node = λ f. node_among (reverse program) f in
    let outs : List ℕ → List Decl = λ f. decls_by (callee_named f) in
    let callee : List ℕ → (Place → Place) → List Slot = λ f w. callee_slots types (callee_named f) w in
    let here : Place → Place = λ p. p in
    let seen = typed_in n.inputs (typed_in n.outputs untyped) in
    row_slots input n.inputs (below Inputs here)
    ++ (lasts_slots types n.outputs here
    ++ (row_slots control (controls_of n.contract) (below Controls here)
    ++ (slots_of_contract types outs callee n.contract seen here
    ++ slots_of_block types outs callee n.body (typed_in (controls_of n.contract) seen) (below Body here))))

-- ---- free places and registers

-- a free place with its type, and a register with its shape
abbrev pub FreePlace : Type 0
FreePlace = Place × Ty

abbrev pub Register : Type 0
Register = Place × Shape

-- The free places: Boolean and enumerated inputs, comparisons of integers, and Boolean and enumerated outputs of calls.
abbrev pub free_among : List Slot → List FreePlace
free_among [] = []
free_among (input p t ∷ ss) = (p, t) ∷ free_among ss
free_among (free p t ∷ ss) = (p, t) ∷ free_among ss
free_among (s ∷ ss) = free_among ss

abbrev pub registers_among : List Slot → List Register
registers_among [] = []
registers_among (register p k ∷ ss) = (p, k) ∷ registers_among ss
registers_among (s ∷ ss) = registers_among ss

abbrev pub free_places : List Item → Node → List FreePlace
free_places program n = free_among (slots_of_node program n)

abbrev pub registers : List Item → Node → List Register
registers program n = registers_among (slots_of_node program n)

-- ---- the value of a register before the first instant

abbrev pub zero_of : Shape → Value
zero_of truth = B false
zero_of mark = Star
zero_of (cons t m) = E t 0

abbrev pub zero_at : List Register → Instant
zero_at [] p = Absent
zero_at (r ∷ rs) p = if same_place r.0 p then zero_of r.1 else zero_at rs p
