-- What the rules ask. Of types there is one claim for each place where a type is wanted and one is found. The claims on one place
-- stand in the order of the text. Nothing is asked of what has no type. What is asked of definitions stands in `Definedness`.
use Rattle.std.specs.Prelude.{ℕ, Bool, nat_eq, if◌then◌else◌, List, [], ◌∷◌, ◌++◌, Option, None, Some, length}
use Rattle.hp_base.specs.declared.span.Span.{Span}
use Rattle.hp_tree.specs.declared.block.Trans.{Trans}
use Rattle.hp_base.specs.declared.ty.Ty.{Ty}
use Rattle.hp_base.specs.declared.ty.Ty.TheVariants.{Bool as bool, Int as int, Enum as enum}
use Rattle.hp_base.specs.declared.ty.Const.{Const}
use Rattle.hp_tree.specs.declared.decl.Cons.{Cons}
use Rattle.hp_tree.specs.declared.expr.Op2.{Op2}
use Rattle.hp_tree.specs.declared.program.Item.{Item}
use Rattle.hp_tree.specs.declared.program.Item.TheVariants.{TypeItem, NodeItem}
use Rattle.hp_tree.specs.Expressions.{Expr, constant, variable, last_of, one, two, choose, pre, fby, arrow, when_is, merge, call, Exprs, no_expr, more_exprs, Parts, no_part, more_parts, list_of}
use Rattle.hp_tree.specs.Blocks.{Decl, Block, block, Eqns, no_eqn, more_eqns, Eqn, define, switch, reset, automaton, Arms, no_arm, more_arms, States, no_state, more_states}
use Rattle.hp_tree.specs.Programs.{Contract, Node}
use Rattle.hp_typing.specs.declared.error.Is.{Is}
use Rattle.hp_typing.specs.declared.error.Is.TheVariants.{Bool as is_bool, Int as is_int, Enum as is_enum, Row as is_row}
use Rattle.hp_base.specs.Known.Known.{lookup}
use Rattle.hp_tree.specs.Meaning.{controls_of}
use Rattle.hp_typing.specs.Scopes.{Scope, nothing, with_variables, inside, inside_node, behind}
use Rattle.hp_typing.specs.Types.{type_of, types_in, outputs_in, all_typed, constant_type, cons_type, type_of_one, operand, place}

-- a claim on a place
pub data Claim : Type 0 where
  -- something is wanted and something is found: a type, or a row of so many
  wants : Span → Is → Is → Claim
  -- the variable of that name, which is `last` or not, is defined by the equations of its block
  has_equation : Span → List ℕ → Bool → Eqns → Claim
  -- the name is defined by none of the equations
  has_none : Span → List ℕ → Eqns → Claim
  -- the constructor stands once among those that are named there
  stands_once : Span → Cons → List Cons → Claim

abbrev pub is_of : Ty → Is
is_of bool = is_bool
is_of int = is_int
is_of (enum t) = is_enum t

-- a type that is wanted and one that is found, where there are both
abbrev pub tested : Span → Option Ty → Option Ty → List Claim
tested at None found = []
tested at (Some t) None = []
tested at (Some t) (Some u) = wants at (is_of t) (is_of u) ∷ []

-- what a `switch` or a `merge` is over is no integer
abbrev pub in_choice : Span → Option Ty → List Claim
in_choice at None = []
in_choice at (Some bool) = []
in_choice at (Some (enum t)) = []
in_choice at (Some int) = wants at is_bool is_int ∷ []

-- ---- expressions

-- the operands of an operator, and the parts of a conditional
abbrev pub in_two : Op2 → Span → Span → Option Ty → Option Ty → List Claim
in_two op at behind t u = tested at (operand op t) t ++ tested behind (operand op t) u

abbrev pub in_if : Span → Span → Option Ty → Option Ty → Option Ty → List Claim
in_if at last test t u = tested at (Some bool) test ++ tested last t u

-- the arguments of a call and the inputs
abbrev pub in_pairs : Scope → List Decl → Exprs → List Claim
in_pairs s [] es = []
in_pairs s (d ∷ ds) no_expr = []
in_pairs s (d ∷ ds) (more_exprs e es) = tested (place e) (Some d.ty) (type_of s e) ++ in_pairs s ds es

-- a call whose arguments have types has the right number of them, and then the right types
abbrev pub in_inputs : Scope → Span → List Decl → Exprs → List Claim
in_inputs s at ds es =
    if nat_eq (length ds) (length (list_of es)) then in_pairs s ds es else wants at (is_row (length ds)) (is_row (length (list_of es))) ∷ []

abbrev pub in_known : Scope → Span → Option Node → Exprs → List Claim
in_known s at None es = []
in_known s at (Some n) es = if all_typed (types_in s es) then in_inputs s at n.inputs es else []

-- so many outputs are wanted of a call
abbrev pub in_outputs : Span → ℕ → Option (List Decl) → List Claim
in_outputs at n None = []
in_outputs at n (Some ds) = wants at (is_row n) (is_row (length ds)) ∷ []

abbrev mutual
  pub in_expr : Scope → Expr → List Claim
  in_expr s (constant at c) = []
  in_expr s (variable at x) = []
  in_expr s (last_of at x) = []
  in_expr s (one at op a) = in_expr s a ++ tested (place a) (Some (type_of_one op)) (type_of s a)
  in_expr s (two at op a b) =
      in_expr s a
      ++ (in_expr s b ++ in_two op (place a) (place b) (type_of s a) (type_of s b))
  in_expr s (choose at a b c) =
      in_expr s a
      ++ (in_expr s b ++ (in_expr s c ++ in_if (place a) (place c) (type_of s a) (type_of s b) (type_of s c)))
  in_expr s (pre at a) = in_expr s a
  in_expr s (fby at a b) = in_expr s a ++ (in_expr s b ++ tested (place b) (type_of s a) (type_of s b))
  in_expr s (arrow at a b) = in_expr s a ++ (in_expr s b ++ tested (place b) (type_of s a) (type_of s b))
  in_expr s (when_is at a c x) = in_expr s a ++ tested at (lookup s.variables x) (cons_type s c)
  in_expr s (merge at x ps) = in_choice at (lookup s.variables x) ++ in_operands s at (lookup s.variables x) ps
  in_expr s (call at f inlined es) = (in_exprs s es ++ in_known s at (lookup s.nodes f) es) ++ in_outputs at 1 (outputs_in (lookup s.nodes f) (types_in s es))

  pub in_exprs : Scope → Exprs → List Claim
  in_exprs s no_expr = []
  in_exprs s (more_exprs e es) = in_expr s e ++ in_exprs s es

  pub in_operands : Scope → Span → Option Ty → Parts → List Claim
  in_operands s at name no_part = []
  in_operands s at name (more_parts c e ps) = tested at name (cons_type s c) ++ (in_expr s e ++ in_parts s at name (type_of s e) ps)

  -- constructors are of the type of the name, operands of the type of the first
  pub in_parts : Scope → Span → Option Ty → Option Ty → Parts → List Claim
  in_parts s at name first no_part = []
  in_parts s at name first (more_parts c e ps) =
      tested at name (cons_type s c) ++ (in_expr s e ++ (tested (place e) first (type_of s e) ++ in_parts s at name first ps))

-- a call, but for the number of its outputs
abbrev pub in_call : Scope → Span → List ℕ → Exprs → List Claim
in_call s at f es = in_exprs s es ++ in_known s at (lookup s.nodes f) es

-- a condition is a `bool`
abbrev pub in_test : Scope → Expr → List Claim
in_test s e = in_expr s e ++ tested (place e) (Some bool) (type_of s e)

-- ---- declarations

abbrev pub in_first : Scope → Span → Ty → Option Const → List Claim
in_first s at t None = []
in_first s at t (Some c) = tested at (Some t) (constant_type s c)

abbrev pub in_path : Scope → Span → List (Cons × List ℕ) → List Claim
in_path s at [] = []
in_path s at (step ∷ steps) = tested at (lookup s.variables step.1) (cons_type s step.0) ++ in_path s at steps

abbrev pub in_clock : Scope → Span → Option (List (Cons × List ℕ)) → List Claim
in_clock s at None = []
in_clock s at (Some path) = in_path s at path

abbrev pub in_decl : Scope → Decl → List Claim
in_decl s d = in_first s d.span d.ty d.last ++ in_clock s d.span d.clock

abbrev pub in_decls : Scope → List Decl → List Claim
in_decls s [] = []
in_decls s (d ∷ ds) = in_decl s d ++ in_decls s ds

-- ---- equations

-- the names on the left of a call, and its outputs
abbrev pub in_names : Scope → Span → List (List ℕ × Span) → List Decl → List Claim
in_names s at [] ds = []
in_names s at (x ∷ xs) [] = []
in_names s at (x ∷ xs) (d ∷ ds) = tested at (lookup s.variables x.0) (Some d.ty) ++ in_names s at xs ds

abbrev pub in_row : Scope → Span → List (List ℕ × Span) → Option (List Decl) → List Claim
in_row s at xs None = []
in_row s at xs (Some ds) = if nat_eq (length xs) (length ds) then in_names s at xs ds else wants at (is_row (length xs)) (is_row (length ds)) ∷ []

-- another right side is that of one name
abbrev pub in_single : Scope → Span → List (List ℕ × Span) → Option Ty → List Claim
in_single s at xs None = []
in_single s at [] (Some t) = wants at (is_row 0) (is_of t) ∷ []
in_single s at (x ∷ []) (Some t) = tested at (lookup s.variables x.0) (Some t)
in_single s at (x ∷ y ∷ xs) (Some t) = wants at (is_row (length (x ∷ y ∷ xs))) (is_of t) ∷ []

abbrev pub in_right : Scope → List (List ℕ × Span) → Expr → List Claim
in_right s xs (call at f inlined es) = in_call s at f es ++ in_row s at xs (outputs_in (lookup s.nodes f) (types_in s es))
in_right s xs e = in_expr s e ++ in_single s (place e) xs (type_of s e)

abbrev pub in_transitions : Scope → List Trans → List Claim
in_transitions s [] = []
in_transitions s (t ∷ ts) = in_test s t.cond ++ in_transitions s ts

abbrev mutual
  pub in_block : Scope → Block → List Claim
  in_block s (block ds es) = in_decls (with_variables s ds) ds ++ in_eqns (with_variables s ds) es

  pub in_eqns : Scope → Eqns → List Claim
  in_eqns s no_eqn = []
  in_eqns s (more_eqns e es) = in_eqn s e ++ in_eqns s es

  pub in_eqn : Scope → Eqn → List Claim
  in_eqn s (define at xs e) = in_right s xs e
  in_eqn s (switch at e arms) = in_expr s e ++ (in_choice (place e) (type_of s e) ++ in_arms s (type_of s e) arms)
  in_eqn s (reset at b e) = in_block s b ++ in_test s e
  in_eqn s (automaton at qs) = in_states s qs

  -- the constructor of an arm is of the type of the condition
  pub in_arms : Scope → Option Ty → Arms → List Claim
  in_arms s cond no_arm = []
  in_arms s cond (more_arms c b at arms) = tested at cond (cons_type s c) ++ (in_block s b ++ in_arms s cond arms)

  pub in_states : Scope → States → List Claim
  in_states s no_state = []
  in_states s (more_states x b until unless at qs) =
      in_block s b ++ (in_transitions (inside s b) until ++ (in_transitions s unless ++ in_states s qs))

-- ---- nodes and programs

abbrev pub in_condition : Scope → Option Expr → List Claim
in_condition s None = []
in_condition s (Some e) = in_test s e

abbrev pub in_contract : Scope → Option Contract → List Claim
in_contract s None = []
in_contract s (Some c) = in_block s c.body ++ (in_condition (inside s c.body) c.assume ++ in_condition (inside s c.body) c.enforce)

abbrev pub in_body : Scope → List Decl → Block → List Claim
in_body s controls body = in_decls (with_variables s controls) controls ++ in_block (with_variables s controls) body

abbrev pub in_node : Scope → Node → List Claim
in_node s n =
    in_decls (inside_node s n) n.inputs
    ++ (in_decls (inside_node s n) n.outputs
    ++ (in_contract (inside_node s n) n.contract ++ in_body (inside_node s n) (controls_of n.contract) n.body))

abbrev pub in_item : Scope → Item → List Claim
in_item s (TypeItem t) = []
in_item s (NodeItem n) = in_node s n

abbrev pub in_items : Scope → List Item → List Claim
in_items s [] = []
in_items s (item ∷ items) = in_item s item ++ in_items (behind s item) items

-- all claims on a program
abbrev pub claims : List Item → List Claim
claims program = in_items nothing program
