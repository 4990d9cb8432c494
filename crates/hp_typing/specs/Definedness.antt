-- What the rules on definitions ask: each output and local is defined by one equation of the block that declares it, by at most one
-- of each block inside, and by each block of a control equation that defines it, unless it is `last`; inputs and controllable
-- variables have no equation. A contract defines its own variables alone. A `switch` and a `merge` name each constructor once.
use Rattle.std.specs.Prelude.{is_some, List, [], ◌∷◌, ◌++◌, Option, None, Some}
use Rattle.hp_base.specs.declared.span.Span.{Span}
use Rattle.hp_tree.specs.declared.block.Trans.{Trans}
use Rattle.hp_tree.specs.declared.decl.Cons.{Cons}
use Rattle.hp_tree.specs.declared.program.Item.{Item}
use Rattle.hp_tree.specs.declared.program.Item.TheVariants.{TypeItem, NodeItem}
use Rattle.hp_tree.specs.Expressions.{Expr, constant, variable, last_of, one, two, choose, pre, fby, arrow, when_is, merge, call, Exprs, no_expr, more_exprs, Parts, no_part, more_parts}
use Rattle.hp_tree.specs.Blocks.{Decl, Block, block, Eqns, no_eqn, more_eqns, Eqn, define, switch, reset, automaton, Arms, no_arm, more_arms, States, no_state, more_states}
use Rattle.hp_tree.specs.Programs.{Contract, Node}
use Rattle.hp_base.specs.Known.Known.{lookup}
use Rattle.hp_tree.specs.Meaning.{controls_of}
use Rattle.hp_typing.specs.Scopes.{Scope, nothing, with_variables, inside, inside_node, behind}
use Rattle.hp_typing.specs.Types.{type_of, constructors_of}
use Rattle.hp_typing.specs.Claims.{Claim, has_equation, has_none, stands_once}

-- ---- constructors

abbrev pub conses_of_parts : Parts → List Cons
conses_of_parts no_part = []
conses_of_parts (more_parts c e ps) = c ∷ conses_of_parts ps

abbrev pub conses_of_arms : Arms → List Cons
conses_of_arms no_arm = []
conses_of_arms (more_arms c b at arms) = c ∷ conses_of_arms arms

-- each constructor of a type stands once among those that are named at the place
abbrev pub in_constructors : Span → List Cons → List Cons → List Claim
in_constructors at [] given = []
in_constructors at (c ∷ cs) given = stands_once at c given ∷ in_constructors at cs given

-- ---- expressions

abbrev mutual
  pub in_expr : Scope → Expr → List Claim
  in_expr s (constant at c) = []
  in_expr s (variable at x) = []
  in_expr s (last_of at x) = []
  in_expr s (one at op a) = in_expr s a
  in_expr s (two at op a b) = in_expr s a ++ in_expr s b
  in_expr s (choose at a b c) = in_expr s a ++ (in_expr s b ++ in_expr s c)
  in_expr s (pre at a) = in_expr s a
  in_expr s (fby at a b) = in_expr s a ++ in_expr s b
  in_expr s (arrow at a b) = in_expr s a ++ in_expr s b
  in_expr s (when_is at a c x) = in_expr s a
  in_expr s (merge at x ps) = in_constructors at (constructors_of s (lookup s.variables x)) (conses_of_parts ps) ++ in_parts s ps
  in_expr s (call at f inlined es) = in_exprs s es

  pub in_exprs : Scope → Exprs → List Claim
  in_exprs s no_expr = []
  in_exprs s (more_exprs e es) = in_expr s e ++ in_exprs s es

  pub in_parts : Scope → Parts → List Claim
  in_parts s no_part = []
  in_parts s (more_parts c e ps) = in_expr s e ++ in_parts s ps

abbrev pub in_transitions : Scope → List Trans → List Claim
in_transitions s [] = []
in_transitions s (t ∷ ts) = in_expr s t.cond ++ in_transitions s ts

-- ---- declarations

-- variables are defined by the equations of the block that declares them
abbrev pub in_variables : Eqns → List Decl → List Claim
in_variables es [] = []
in_variables es (d ∷ ds) = has_equation d.span d.name (is_some d.last) es ∷ in_variables es ds

-- others have no equation
abbrev pub in_others : Eqns → List Decl → List Claim
in_others es [] = []
in_others es (d ∷ ds) = has_none d.span d.name es ∷ in_others es ds

-- ---- equations

abbrev mutual
  pub in_block : Scope → Block → List Claim
  in_block s (block ds es) = in_eqns (with_variables s ds) es ++ in_variables es ds

  pub in_eqns : Scope → Eqns → List Claim
  in_eqns s no_eqn = []
  in_eqns s (more_eqns e es) = in_eqn s e ++ in_eqns s es

  pub in_eqn : Scope → Eqn → List Claim
  in_eqn s (define at xs e) = in_expr s e
  in_eqn s (switch at e arms) = in_expr s e ++ (in_constructors at (constructors_of s (type_of s e)) (conses_of_arms arms) ++ in_arms s arms)
  in_eqn s (reset at b e) = in_block s b ++ in_expr s e
  in_eqn s (automaton at qs) = in_states s qs

  pub in_arms : Scope → Arms → List Claim
  in_arms s no_arm = []
  in_arms s (more_arms c b at arms) = in_block s b ++ in_arms s arms

  pub in_states : Scope → States → List Claim
  in_states s no_state = []
  in_states s (more_states x b until unless at qs) =
      in_block s b ++ (in_transitions (inside s b) until ++ (in_transitions s unless ++ in_states s qs))

-- ---- nodes and programs

abbrev pub in_condition : Scope → Option Expr → List Claim
in_condition s None = []
in_condition s (Some e) = in_expr s e

abbrev pub equations : Block → Eqns
equations (block ds es) = es

-- a contract has equations for its own variables alone, and none for the inputs and outputs of its node
abbrev pub in_contract : Scope → List Decl → List Decl → Option Contract → List Claim
in_contract s inputs outputs None = []
in_contract s inputs outputs (Some c) =
    in_block s c.body
    ++ (in_others (equations c.body) inputs
    ++ (in_others (equations c.body) outputs ++ (in_condition (inside s c.body) c.assume ++ in_condition (inside s c.body) c.enforce)))

-- the outputs are variables of the body
abbrev pub in_body : Scope → List Decl → List Decl → List Decl → Block → List Claim
in_body s inputs outputs controls b =
    in_block (with_variables s controls) b
    ++ (in_others (equations b) inputs ++ (in_others (equations b) controls ++ in_variables (equations b) outputs))

abbrev pub in_node : Scope → Node → List Claim
in_node s n =
    in_contract (inside_node s n) n.inputs n.outputs n.contract
    ++ in_body (inside_node s n) n.inputs n.outputs (controls_of n.contract) n.body

abbrev pub in_item : Scope → Item → List Claim
in_item s (TypeItem t) = []
in_item s (NodeItem n) = in_node s n

abbrev pub in_items : Scope → List Item → List Claim
in_items s [] = []
in_items s (item ∷ items) = in_item s item ++ in_items (behind s item) items

-- all claims on the definitions of a program
abbrev pub definition_claims : List Item → List Claim
definition_claims program = in_items nothing program
