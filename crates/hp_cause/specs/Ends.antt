-- The places of the vertices of a node, in the order of their numbers.
use Rattle.std.specs.Prelude.{ℕ, zero, suc, if◌then◌else◌, List, [], ◌∷◌, ◌++◌, map, Option, None, Some}
use Rattle.hp_tree.specs.declared.block.Trans.{Trans}
use Rattle.hp_tree.specs.Expressions.{Expr, constant, variable, last_of, one, two, choose, pre, fby, arrow, when_is, merge, call, Exprs, no_expr, more_exprs, Parts, no_part, more_parts}
use Rattle.hp_tree.specs.Blocks.{Decl, Block, block, Eqns, no_eqn, more_eqns, Eqn, define, switch, reset, automaton, Arms, no_arm, more_arms, States, no_state, more_states}
use Rattle.hp_tree.specs.Programs.{Contract, Node}
use Rattle.hp_tree.specs.Instant.{Step, Controls, Body, Observer, Assume, Enforce, Named, Fresh, Equations, Head, Tail, Right, Test, Arms as ArmsOf, States as StatesOf, Until, Unless, Active, Next, First, Second, Third, Args, Place}
use Rattle.hp_tree.specs.Meaning.{controls_of}
use Rattle.hp_tables.specs.Defining.Names.{names_in}
use Rattle.hp_cause.specs.Vertices.{is_call}

-- the place of a number
abbrev pub nth : List Place → ℕ → Option Place
nth [] i = None
nth (p ∷ ps) zero = Some p
nth (p ∷ ps) (suc i) = nth ps i

abbrev pub step_in : Step → List Place → List Place
step_in s ps = map (λ p. s ∷ p) ps

abbrev mutual
  pub ends_of_expr : Expr → List Place
  ends_of_expr (constant s c) = []
  ends_of_expr (variable s x) = []
  ends_of_expr (last_of s x) = []
  ends_of_expr (one s o a) = step_in First (ends_of_expr a)
  ends_of_expr (two s o a b) = step_in First (ends_of_expr a) ++ step_in Second (ends_of_expr b)
  ends_of_expr (choose s a b c) = step_in First (ends_of_expr a) ++ (step_in Second (ends_of_expr b) ++ step_in Third (ends_of_expr c))
  ends_of_expr (pre s a) = step_in First (ends_of_expr a)
  ends_of_expr (fby s a b) = step_in First (ends_of_expr a) ++ step_in Second (ends_of_expr b)
  ends_of_expr (arrow s a b) = step_in First (ends_of_expr a) ++ step_in Second (ends_of_expr b)
  ends_of_expr (when_is s a c x) = step_in First (ends_of_expr a)
  ends_of_expr (merge s x ps) = step_in Args (ends_of_parts ps)
  ends_of_expr (call s f i es) = [] ∷ step_in Args (ends_of_exprs es)

  pub ends_of_exprs : Exprs → List Place
  ends_of_exprs no_expr = []
  ends_of_exprs (more_exprs e es) = step_in Head (ends_of_expr e) ++ step_in Tail (ends_of_exprs es)

  pub ends_of_parts : Parts → List Place
  ends_of_parts no_part = []
  ends_of_parts (more_parts c e ps) = step_in Head (ends_of_expr e) ++ step_in Tail (ends_of_parts ps)

abbrev pub own_end : Expr → List Place
own_end e = if is_call e then [] else [] ∷ []

abbrev pub ends_of_test : Expr → List Place
ends_of_test e = own_end e ++ ends_of_expr e

abbrev pub ends_of_tests : List Trans → List Place
ends_of_tests [] = []
ends_of_tests (t ∷ ts) = step_in Head (ends_of_test t.cond) ++ step_in Tail (ends_of_tests ts)

abbrev pub ends_of_names : List (List ℕ) → List Place
ends_of_names names = map (λ x. Named x ∷ []) names

abbrev pub own_ends : Block → List Place
own_ends (block ds es) = ends_of_names (names_in es)

abbrev mutual
  pub ends_inside : Block → List Place
  ends_inside (block ds es) = step_in Equations (ends_of_eqns es)

  pub ends_of_eqns : Eqns → List Place
  ends_of_eqns no_eqn = []
  ends_of_eqns (more_eqns e es) = step_in Head (ends_of_eqn e) ++ step_in Tail (ends_of_eqns es)

  pub ends_of_eqn : Eqn → List Place
  ends_of_eqn (define at ys e) = step_in Right (ends_of_expr e)
  ends_of_eqn (switch at e arms) = (Fresh ∷ []) ∷ (step_in Test (ends_of_expr e) ++ step_in ArmsOf (ends_of_arms arms))
  ends_of_eqn (reset at b e) = (Fresh ∷ []) ∷ (step_in Body (own_ends b ++ ends_inside b) ++ step_in Test (ends_of_expr e))
  ends_of_eqn (automaton at ss) = (Active ∷ []) ∷ ((Next ∷ []) ∷ step_in StatesOf (ends_of_states ss))

  pub ends_of_arms : Arms → List Place
  ends_of_arms no_arm = []
  ends_of_arms (more_arms c b at arms) = step_in Head (own_ends b ++ ends_inside b) ++ step_in Tail (ends_of_arms arms)

  pub ends_of_states : States → List Place
  ends_of_states no_state = []
  ends_of_states (more_states f b until unless at ss) =
      step_in Head (step_in Body (own_ends b ++ ends_inside b) ++ (step_in Until (ends_of_tests until) ++ step_in Unless (ends_of_tests unless))) ++ step_in Tail (ends_of_states ss)

abbrev pub ends_of_told : Option Expr → List Place
ends_of_told None = []
ends_of_told (Some e) = ends_of_expr e

abbrev pub ends_of_contract : Option Contract → List Place
ends_of_contract None = []
ends_of_contract (Some c) =
    step_in Observer (own_ends c.body ++ ends_inside c.body) ++ (step_in Assume (ends_of_told c.assume) ++ step_in Enforce (ends_of_told c.enforce))

abbrev pub ends_of_controls : List Decl → List Place
ends_of_controls [] = []
ends_of_controls (d ∷ ds) = (Head ∷ []) ∷ step_in Tail (ends_of_controls ds)

abbrev pub ends_of_node : Node → List Place
ends_of_node n =
    step_in Controls (ends_of_controls (controls_of n.contract))
    ++ (step_in Body (own_ends n.body) ++ (ends_of_contract n.contract ++ step_in Body (ends_inside n.body)))
