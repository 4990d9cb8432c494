-- What a node asks of the classes of its names, which are numbers here: that one is Second where another is, and that one is First.
use Rattle.std.specs.Prelude.{⊤, ℕ, ◌+◌, Bool, true, false, IsTrue, if◌then◌else◌, List, [], ◌∷◌, ◌++◌, length, map, Option, None, Some}
use Rattle.hp_base.specs.declared.span.Span.{Span}
use Rattle.hp_tree.specs.declared.decl.Cons.{Cons}
use Rattle.hp_tree.specs.declared.block.Trans.{Trans}
use Rattle.hp_tree.specs.Expressions.{Expr, constant, variable, last_of, one, two, choose, pre, fby, arrow, when_is, merge, call, Exprs, no_expr, more_exprs, Parts, no_part, more_parts}
use Rattle.hp_tree.specs.Blocks.{Decl, Block, block, Eqns, no_eqn, more_eqns, Eqn, define, switch, reset, automaton, Arms, no_arm, more_arms, States, no_state, more_states}
use Rattle.hp_tree.specs.Programs.{Contract, Node}
use Rattle.hp_tree.specs.Meaning.{defines, some_defines, names_of as declared}
use Rattle.hp_meaning.specs.Causal.Points.{span_of}
use Rattle.hp_init.specs.declared.ask.Source.{Source}
use Rattle.hp_init.specs.declared.ask.Source.TheVariants.{Always, Class}
use Rattle.hp_init.specs.declared.ask.Ask.{Ask}
use Rattle.hp_init.specs.declared.ask.Ask.TheVariants.{Follows, First}
use Rattle.hp_init.specs.Names.{size, size_of, size_of_contract}
use Rattle.hp_tables.specs.Defining.Layers.{numbered}
use Rattle.hp_init.specs.Wants.{some_must}

-- the number of the variable of a name; a name without one is First
abbrev pub Sight : Type 0
Sight = List ℕ → Option ℕ

-- what is known of names: their variables, and those whose values are read
pub record Seen : Type 0 where
  pub variables : Sight
  pub values : Sight

abbrev pub over : Sight → Sight → Sight
over inner out x = elim (inner x) [ None ↦ out x | Some k ↦ Some k ]

-- in a block whose variables are numbered from k on
abbrev pub seen_in : ℕ → Block → Seen → Seen
seen_in k (block ds es) see =
    record {
      variables = over (numbered k (declared ds)) see.variables;
      values = λ x. if some_defines es x then over (numbered k (declared ds)) see.variables x else see.values x;
    }

abbrev pub seen_within : Eqn → Seen → Seen
seen_within e see = record { variables = see.variables; values = λ x. if defines e x then None else see.values x }

abbrev pub seen_outputs : Node → Seen
seen_outputs n = record { variables = numbered 0 (declared n.outputs); values = numbered 0 (declared n.outputs) }

-- ---- where a source goes: whether the unit wants it First, and to which variables

pub record Goes : Type 0 where
  pub wanted : Bool
  pub targets : List ℕ

abbrev pub to_want : Goes
to_want = record { wanted = true; targets = [] }

abbrev pub to_nothing : Goes
to_nothing = record { wanted = false; targets = [] }

abbrev pub tell : Span → Goes → Source → List Ask
tell at goes source = (if goes.wanted then First source at ∷ [] else []) ++ map (Follows source) goes.targets

abbrev pub tell_name : Sight → Span → Goes → List ℕ → List Ask
tell_name see at goes x = elim (see x) [ None ↦ [] | Some k ↦ tell at goes (Class k) ]

abbrev mutual
  pub of_expr : Sight → Span → Goes → Expr → List Ask
  of_expr see at goes (constant s c) = []
  of_expr see at goes (variable s x) = tell_name see at goes x
  of_expr see at goes (last_of s x) = []
  of_expr see at goes (one s o a) = of_expr see at goes a
  of_expr see at goes (two s o a b) = of_expr see at goes a ++ of_expr see at goes b
  of_expr see at goes (choose s a b c) = of_expr see at goes a ++ (of_expr see at goes b ++ of_expr see at goes c)
  of_expr see at goes (pre s a) = tell at goes Always ++ of_expr see at to_want a
  of_expr see at goes (fby s a b) = of_expr see at goes a ++ of_expr see at to_want b
  of_expr see at goes (arrow s a b) = of_expr see at goes a ++ of_expr see at to_nothing b
  of_expr see at goes (when_is s a c x) = of_expr see at goes a ++ tell_name see at to_want x
  of_expr see at goes (merge s x ps) = tell_name see at to_want x ++ of_parts see at ps
  of_expr see at goes (call s f i es) = of_exprs see at es

  pub of_exprs : Sight → Span → Exprs → List Ask
  of_exprs see at no_expr = []
  of_exprs see at (more_exprs e es) = of_expr see at to_want e ++ of_exprs see at es

  pub of_parts : Sight → Span → Parts → List Ask
  of_parts see at no_part = []
  of_parts see at (more_parts c e ps) = of_expr see at to_want e ++ of_parts see at ps

-- ---- declarations and equations

abbrev pub of_path : Sight → Span → List (Cons × List ℕ) → List Ask
of_path see at [] = []
of_path see at (on ∷ path) = tell_name see at to_want on.1 ++ of_path see at path

abbrev pub of_clock : Sight → Span → Option (List (Cons × List ℕ)) → List Ask
of_clock see at None = []
of_clock see at (Some path) = of_path see at path

abbrev pub of_decls : Sight → List Decl → List Ask
of_decls see [] = []
of_decls see (d ∷ ds) = of_clock see d.span d.clock ++ of_decls see ds

-- the numbers of the names on a left side
abbrev pub targets_of : Sight → List (List ℕ × Span) → List ℕ
targets_of own [] = []
targets_of own (y ∷ ys) = elim (own y.0) [ None ↦ targets_of own ys | Some k ↦ k ∷ targets_of own ys ]

-- a definition; where one of its names has to be First, the right side is wanted so
abbrev pub of_definition : Seen → List Decl → Span → List (List ℕ × Span) → Expr → List Ask
of_definition see ds at ys e =
    of_expr see.values at (record { wanted = some_must ds ys; targets = targets_of see.variables ys }) e

abbrev pub of_test : Sight → Expr → List Ask
of_test see e = of_expr see (span_of e) to_want e

abbrev pub of_tests : Sight → List Trans → List Ask
of_tests see [] = []
of_tests see (t ∷ ts) = of_test see t.cond ++ of_tests see ts

-- Each part is numbered from k on.
abbrev mutual
  pub of_block : Seen → ℕ → Block → List Ask
  of_block see k (block ds es) = of_decls (seen_in k (block ds es) see).values ds ++ of_eqns (seen_in k (block ds es) see) ds (k + length ds) es

  pub of_eqns : Seen → List Decl → ℕ → Eqns → List Ask
  of_eqns see ds k no_eqn = []
  of_eqns see ds k (more_eqns e es) = of_eqn see ds k e ++ of_eqns see ds (k + size_of e) es

  pub of_eqn : Seen → List Decl → ℕ → Eqn → List Ask
  of_eqn see ds k (define at ys e) = of_definition see ds at ys e
  of_eqn see ds k (switch at e arms) = of_test see.values e ++ of_arms (seen_within (switch at e arms) see) k arms
  of_eqn see ds k (reset at b e) = of_block (seen_within (reset at b e) see) k b ++ of_test see.values e
  of_eqn see ds k (automaton at ss) = of_states see (seen_within (automaton at ss) see) k ss

  pub of_arms : Seen → ℕ → Arms → List Ask
  of_arms see k no_arm = []
  of_arms see k (more_arms c b at arms) = of_block see k b ++ of_arms see (k + size b) arms

  pub of_states : Seen → Seen → ℕ → States → List Ask
  of_states out see k no_state = []
  of_states out see k (more_states f b until unless at ss) =
      of_block see k b ++ (of_tests (seen_in k b see).values until ++ (of_tests out.values unless ++ of_states out see (k + size b) ss))

abbrev pub of_told : Sight → Option Expr → List Ask
of_told see None = []
of_told see (Some e) = of_test see e

abbrev pub of_contract : Seen → ℕ → Option Contract → List Ask
of_contract see k None = []
of_contract see k (Some c) =
    of_block see k c.body ++ (of_told (seen_in k c.body see).values c.assume ++ of_told (seen_in k c.body see).values c.enforce)

abbrev pub of_node : Node → List Ask
of_node n =
    of_contract (seen_outputs n) (length n.outputs) n.contract
    ++ of_block (seen_outputs n) (length n.outputs + size_of_contract n.contract) n.body

-- ---- which classes meet what is asked

-- A number is Second. (A class for each number.)
abbrev pub Valued : Type 0
Valued = ℕ → Bool

abbrev pub value_of : Valued → Source → Bool
value_of second Always = true
value_of second (Class k) = second k

abbrev pub Obeys : Valued → Ask → Type 0
Obeys second (Follows s k) = IsTrue (value_of second s) → IsTrue (second k)
Obeys second (First s at) = ⊤

abbrev pub ObeysAll : Valued → List Ask → Type 0
ObeysAll second [] = ⊤
ObeysAll second (a ∷ others) = Obeys second a × ObeysAll second others

-- the place of the first want that is not met
abbrev pub unmet : Valued → List Ask → Option Span
unmet second [] = None
unmet second (Follows s k ∷ others) = unmet second others
unmet second (First s at ∷ others) = if value_of second s then Some at else unmet second others
