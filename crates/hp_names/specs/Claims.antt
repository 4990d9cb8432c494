-- What the rules ask of each name of a program, one claim for each place where a name is used or declared. The claims on one
-- place stand in the order of the text.
use Rattle.std.specs.Prelude.{ℕ, List, [], ◌∷◌, ◌++◌, Option, None, Some, Contains}
use Rattle.hp_base.specs.declared.span.Span.{Span}
use Rattle.hp_base.specs.declared.ty.Ty.{Ty}
use Rattle.hp_base.specs.declared.ty.Ty.TheVariants as ty
use Rattle.hp_base.specs.declared.ty.Const.{Const}
use Rattle.hp_base.specs.declared.ty.Const.TheVariants as const
use Rattle.hp_tree.specs.declared.decl.Cons.{Cons}
use Rattle.hp_tree.specs.declared.decl.Cons.TheVariants as cons
use Rattle.hp_tree.specs.declared.block.Trans.{Trans}
use Rattle.hp_tree.specs.declared.program.Item.{Item}
use Rattle.hp_tree.specs.declared.program.Item.TheVariants.{TypeItem, NodeItem}
use Rattle.hp_tree.specs.Expressions.{Expr, constant, variable, last_of, one, two, choose, pre, fby, arrow, when_is, merge, call, Exprs, no_expr, more_exprs, Parts, no_part, more_parts}
use Rattle.hp_tree.specs.Blocks.{Decl, Block, block, Eqns, no_eqn, more_eqns, Eqn, define, switch, reset, automaton, Arms, no_arm, more_arms, States, no_state, more_states}
use Rattle.hp_tree.specs.Programs.{Contract, Node}
use Rattle.hp_names.specs.Names.{Placed, with_name, with_names, declared_names, state_names, names_at}
use Rattle.hp_tree.specs.Meaning.{controls_of}
use Rattle.hp_names.specs.Scopes.{Scope, nothing, with_variables, inside, inside_node, behind}

-- a name at a place: where it is used it is among those that are known there, where it is declared it is none of them
pub data Claim : Type 0 where
  uses : List (List ℕ) → List ℕ → Span → Claim
  declares : List (List ℕ) → List ℕ → Span → Claim

-- The claim is true.
abbrev pub Holds : Claim → Type 0
Holds (uses names x at) = Contains names x
Holds (declares names x at) = Contains names x → ⊥

-- names that are declared one after another
abbrev pub new_names : List (List ℕ) → List Placed → List Claim
new_names names [] = []
new_names names (x ∷ xs) = declares names x.0 x.1 ∷ new_names (with_name names x.0) xs

-- ---- expressions

abbrev pub in_constant : Scope → Span → Const → List Claim
in_constant s at (const.B b) = []
in_constant s at (const.I n) = []
in_constant s at (const.E c) = uses s.constructors c at ∷ []

abbrev pub in_cons : Scope → Span → Cons → List Claim
in_cons s at cons.False = []
in_cons s at cons.True = []
in_cons s at (cons.Named c) = uses s.constructors c at ∷ []

-- an expression in a scope; the names of a `when` and a `merge` are placed where it begins
abbrev mutual
  pub in_expr : Scope → Expr → List Claim
  in_expr s (constant at c) = in_constant s at c
  in_expr s (variable at x) = uses s.variables x at ∷ []
  in_expr s (last_of at x) = uses s.lasts x at ∷ []
  in_expr s (one at op a) = in_expr s a
  in_expr s (two at op a b) = in_expr s a ++ in_expr s b
  in_expr s (choose at a b c) = in_expr s a ++ (in_expr s b ++ in_expr s c)
  in_expr s (pre at a) = in_expr s a
  in_expr s (fby at a b) = in_expr s a ++ in_expr s b
  in_expr s (arrow at a b) = in_expr s a ++ in_expr s b
  in_expr s (when_is at a c x) = in_expr s a ++ (in_cons s at c ++ uses s.variables x at ∷ [])
  in_expr s (merge at x ps) = uses s.variables x at ∷ in_parts s at ps
  in_expr s (call at f inlined es) = uses s.nodes f at ∷ in_exprs s es

  pub in_exprs : Scope → Exprs → List Claim
  in_exprs s no_expr = []
  in_exprs s (more_exprs e es) = in_expr s e ++ in_exprs s es

  pub in_parts : Scope → Span → Parts → List Claim
  in_parts s at no_part = []
  in_parts s at (more_parts c e ps) = in_cons s at c ++ (in_expr s e ++ in_parts s at ps)

-- ---- declarations

abbrev pub in_type : Scope → Span → Ty → List Claim
in_type s at ty.Bool = []
in_type s at ty.Int = []
in_type s at (ty.Enum t) = uses s.types t at ∷ []

abbrev pub in_first : Scope → Span → Option Const → List Claim
in_first s at None = []
in_first s at (Some c) = in_constant s at c

abbrev pub in_path : Scope → Span → List (Cons × List ℕ) → List Claim
in_path s at [] = []
in_path s at (step ∷ steps) = in_cons s at step.0 ++ (uses s.variables step.1 at ∷ in_path s at steps)

abbrev pub in_clock : Scope → Span → Option (List (Cons × List ℕ)) → List Claim
in_clock s at None = []
in_clock s at (Some path) = in_path s at path

-- the type, the first value and the clock of a declaration are placed at its name
abbrev pub in_decl : Scope → Decl → List Claim
in_decl s d = in_type s d.span d.ty ++ (in_first s d.span d.last ++ in_clock s d.span d.clock)

abbrev pub in_decls : Scope → List Decl → List Claim
in_decls s [] = []
in_decls s (d ∷ ds) = in_decl s d ++ in_decls s ds

abbrev pub in_variables : Scope → List Decl → List Claim
in_variables s ds = new_names s.variables (declared_names ds) ++ in_decls (with_variables s ds) ds

-- ---- equations

abbrev pub in_left : Scope → List Placed → List Claim
in_left s [] = []
in_left s (x ∷ xs) = uses s.variables x.0 x.1 ∷ in_left s xs

-- the target of a transition is placed where the transition begins
abbrev pub in_transitions : Scope → List (List ℕ) → List Trans → List Claim
in_transitions s states [] = []
in_transitions s states (t ∷ ts) = in_expr s t.cond ++ (uses states t.target t.span ∷ in_transitions s states ts)

abbrev mutual
  pub in_block : Scope → Block → List Claim
  in_block s (block ds es) = in_variables s ds ++ in_eqns (with_variables s ds) es

  pub in_eqns : Scope → Eqns → List Claim
  in_eqns s no_eqn = []
  in_eqns s (more_eqns e es) = in_eqn s e ++ in_eqns s es

  pub in_eqn : Scope → Eqn → List Claim
  in_eqn s (define at xs e) = in_left s xs ++ in_expr s e
  in_eqn s (switch at e arms) = in_expr s e ++ in_arms s arms
  in_eqn s (reset at b e) = in_block s b ++ in_expr s e
  in_eqn s (automaton at qs) = new_names [] (state_names qs) ++ in_states s (with_names [] (state_names qs)) qs

  pub in_arms : Scope → Arms → List Claim
  in_arms s no_arm = []
  in_arms s (more_arms c b at arms) = in_cons s at c ++ (in_block s b ++ in_arms s arms)

  pub in_states : Scope → List (List ℕ) → States → List Claim
  in_states s states no_state = []
  in_states s states (more_states x b until unless at qs) =
      in_block s b
      ++ (in_transitions (inside s b) states until ++ (in_transitions s states unless ++ in_states s states qs))

-- ---- nodes and programs

abbrev pub in_condition : Scope → Option Expr → List Claim
in_condition s None = []
in_condition s (Some e) = in_expr s e

abbrev pub in_contract : Scope → Option Contract → List Claim
in_contract s None = []
in_contract s (Some c) = in_block s c.body ++ (in_condition (inside s c.body) c.assume ++ in_condition (inside s c.body) c.enforce)

abbrev pub in_body : Scope → List Decl → Block → List Claim
in_body s controls body = in_variables s controls ++ in_block (with_variables s controls) body

abbrev pub in_node : Scope → Node → List Claim
in_node s n =
    new_names s.variables (declared_names n.inputs)
    ++ (new_names (with_variables s n.inputs).variables (declared_names n.outputs)
    ++ (in_decls (inside_node s n) n.inputs
    ++ (in_decls (inside_node s n) n.outputs
    ++ (in_contract (inside_node s n) n.contract ++ in_body (inside_node s n) (controls_of n.contract) n.body))))

-- the constructors of a type are placed at the type's name
abbrev pub in_item : Scope → Item → List Claim
in_item s (TypeItem t) = declares s.types t.name t.span ∷ new_names s.constructors (names_at t.span t.cons)
in_item s (NodeItem n) = declares s.nodes n.name n.span ∷ in_node s n

abbrev pub in_items : Scope → List Item → List Claim
in_items s [] = []
in_items s (item ∷ items) = in_item s item ++ in_items (behind s item) items

-- all claims on a program
abbrev pub claims : List Item → List Claim
claims program = in_items nothing program
