-- The shapes of contracts: a contract makes no plain call once its inlined calls are replaced, a node with a contract is not inlined,
-- and a controllable variable is no integer.
use Rattle.std.specs.Prelude.{ℕ, Bool, false, if◌then◌else◌, List, [], ◌∷◌, ◌++◌, fold, Option, None, Some, is_some}
use Rattle.std.specs.Str.{bytes_eq}
use Rattle.hp_base.specs.declared.span.Span.{Span}
use Rattle.hp_base.specs.First.First.{itself, sooner, merged}
use Rattle.hp_base.specs.declared.ty.Ty.{Ty}
use Rattle.hp_base.specs.declared.ty.Ty.TheVariants as ty
use Rattle.hp_tree.specs.declared.program.Item.{Item}
use Rattle.hp_tree.specs.declared.program.Item.TheVariants.{TypeItem, NodeItem}
use Rattle.hp_tree.specs.Expressions.{Expr, constant, variable, last_of, one, two, choose, pre, fby, arrow, when_is, merge, call, Exprs, no_expr, more_exprs, Parts, no_part, more_parts}
use Rattle.hp_tree.specs.Blocks.{Decl, Block, block, Eqns, no_eqn, more_eqns, Eqn, define, switch, reset, automaton, Arms, no_arm, more_arms, States, no_state, more_states}
use Rattle.hp_tree.specs.declared.block.Trans.{Trans}
use Rattle.hp_tree.specs.Programs.{Contract, Node}
use Rattle.hp_expand.specs.declared.error.Shape.{Shape}
use Rattle.hp_expand.specs.declared.error.Shape.TheVariants.{Call, Inline, WrongType}
pub use Rattle.hp_expand.specs.declared.found.Found.{Found}
pub use Rattle.hp_expand.specs.declared.found.Breach.{Breach}
pub use Rattle.hp_expand.specs.declared.forms.Form.{Form}

-- what shapes are about, at its place: a plain call, an inlined call of a node with a contract, a controllable variable that is an integer
pub data Mark : Type 0 where
  plain_at : Span → Mark
  bound_at : Span → Mark
  integer_at : Span → Mark

-- the plain call that an inlined call brings: the first in the text of those that the node makes once its inlined calls are replaced
abbrev pub brings : Option Span → List Mark
brings None = []
brings (Some at) = plain_at at ∷ []

-- a call of a node of such a form; a node with a contract is not inlined, so it brings nothing
unfoldable pub of_call : Span → Bool → Form → List Mark
of_call at inlined form = if inlined then (if form.has_contract then bound_at at ∷ [] else brings form.plain) else plain_at at ∷ []

-- ---- in which order they stand in the parts of a node, where the form of each node is known

abbrev mutual
  pub in_expr : (List ℕ → Form) → Expr → List Mark
  in_expr forms (constant at c) = []
  in_expr forms (variable at x) = []
  in_expr forms (last_of at x) = []
  in_expr forms (one at op a) = in_expr forms a
  in_expr forms (two at op a b) = in_expr forms a ++ in_expr forms b
  in_expr forms (choose at a b c) = in_expr forms a ++ (in_expr forms b ++ in_expr forms c)
  in_expr forms (pre at a) = in_expr forms a
  in_expr forms (fby at a b) = in_expr forms a ++ in_expr forms b
  in_expr forms (arrow at a b) = in_expr forms a ++ in_expr forms b
  in_expr forms (when_is at a c x) = in_expr forms a
  in_expr forms (merge at x ps) = in_parts forms ps
  in_expr forms (call at f inlined es) = of_call at inlined (forms f) ++ in_exprs forms es

  pub in_exprs : (List ℕ → Form) → Exprs → List Mark
  in_exprs forms no_expr = []
  in_exprs forms (more_exprs e es) = in_expr forms e ++ in_exprs forms es

  pub in_parts : (List ℕ → Form) → Parts → List Mark
  in_parts forms no_part = []
  in_parts forms (more_parts c e ps) = in_expr forms e ++ in_parts forms ps

abbrev pub in_transitions : (List ℕ → Form) → List Trans → List Mark
in_transitions forms [] = []
in_transitions forms (t ∷ ts) = in_expr forms t.cond ++ in_transitions forms ts

abbrev mutual
  pub in_block : (List ℕ → Form) → Block → List Mark
  in_block forms (block ds es) = in_eqns forms es

  pub in_eqns : (List ℕ → Form) → Eqns → List Mark
  in_eqns forms no_eqn = []
  in_eqns forms (more_eqns e es) = in_eqn forms e ++ in_eqns forms es

  pub in_eqn : (List ℕ → Form) → Eqn → List Mark
  in_eqn forms (define at xs e) = in_expr forms e
  in_eqn forms (switch at e arms) = in_expr forms e ++ in_arms forms arms
  in_eqn forms (reset at b e) = in_block forms b ++ in_expr forms e
  in_eqn forms (automaton at qs) = in_states forms qs

  pub in_arms : (List ℕ → Form) → Arms → List Mark
  in_arms forms no_arm = []
  in_arms forms (more_arms c b at arms) = in_block forms b ++ in_arms forms arms

  pub in_states : (List ℕ → Form) → States → List Mark
  in_states forms no_state = []
  in_states forms (more_states x b until unless at qs) =
      in_block forms b ++ (in_transitions forms until ++ (in_transitions forms unless ++ in_states forms qs))

abbrev pub in_condition : (List ℕ → Form) → Option Expr → List Mark
in_condition forms None = []
in_condition forms (Some e) = in_expr forms e

-- a controllable variable of a type, at its declaration
abbrev pub in_type : Span → Ty → List Mark
in_type at ty.Bool = []
in_type at ty.Int = integer_at at ∷ []
in_type at (ty.Enum t) = []

abbrev pub in_controls : List Decl → List Mark
in_controls [] = []
in_controls (d ∷ ds) = in_type d.span d.ty ++ in_controls ds

abbrev pub in_contract : (List ℕ → Form) → Option Contract → List Mark
in_contract forms None = []
in_contract forms (Some c) = in_block forms c.body ++ (in_condition forms c.assume ++ (in_condition forms c.enforce ++ in_controls c.controls))

-- ---- which stand first in the text

abbrev pub nothing : Found
nothing = record { plain = None; bound = None; integer = None }

abbrev pub see : Found → Mark → Found
see found (plain_at at) = record found { plain = sooner itself found.plain at }
see found (bound_at at) = record found { bound = sooner itself found.bound at }
see found (integer_at at) = record found { integer = sooner itself found.integer at }

-- the first of each kind, among those found so far and these
unfoldable pub found_after : Found → List Mark → Found
found_after found marks = fold see found marks

-- ---- what a node breaks

-- a breach of such a shape at a place, if there is one
abbrev pub breach_at : Shape → Option Span → Option Breach
breach_at shape None = None
breach_at shape (Some at) = Some (record { shape = shape; at = at })

abbrev pub place_of : Breach → Span
place_of b = b.at

-- the first breach of a node whose contract and body have these first
unfoldable pub breach_among : Found → Found → Option Breach
breach_among contract body =
    merged place_of (merged place_of (breach_at Call contract.plain) (breach_at Inline contract.bound))
    (merged place_of (breach_at WrongType contract.integer) (breach_at Inline body.bound))

abbrev pub breach_of : (List ℕ → Form) → Node → Option Breach
breach_of forms n = breach_among (found_after nothing (in_contract forms n.contract)) (found_after nothing (in_block forms n.body))

-- the form of a node: whether it has a contract, and the first plain call that it makes
abbrev pub form_of : (List ℕ → Form) → Node → Form
form_of forms n = record { has_contract = is_some n.contract; plain = (found_after nothing (in_block forms n.body)).plain }

-- ---- what a program breaks

-- the forms of the nodes of some names, with one node more
abbrev pub with_form : (List ℕ → Form) → List ℕ → Form → List ℕ → Form
with_form forms f form x = if bytes_eq f x then form else forms x

abbrev pub no_form : Form
no_form = record { has_contract = false; plain = None }

-- before the first node none is known
abbrev pub nothing_known : List ℕ → Form
nothing_known x = no_form

abbrev pub at_node : List ℕ → Option Breach → Option (List ℕ × Breach) → Option (List ℕ × Breach)
at_node f None behind = behind
at_node f (Some b) behind = Some (f, b)

-- the first node that breaks a shape, and its first breach
abbrev pub in_items : (List ℕ → Form) → List Item → Option (List ℕ × Breach)
in_items forms [] = None
in_items forms (TypeItem t ∷ items) = in_items forms items
in_items forms (NodeItem n ∷ items) = at_node n.name (breach_of forms n) (in_items (with_form forms n.name (form_of forms n)) items)

abbrev pub breach_in : List Item → Option (List ℕ × Breach)
breach_in program = in_items nothing_known program
