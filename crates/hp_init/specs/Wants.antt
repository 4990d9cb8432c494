-- What is wanted First, unit by unit. A unit is a declaration with a clock, a basic equation, a condition or an expression of a contract.
use Rattle.std.specs.Prelude.{ℕ, Bool, true, false, ◌||◌, ◌&&◌, not, if◌then◌else◌, List, [], ◌∷◌, ◌++◌, Option, None, Some, is_some}
use Rattle.std.specs.Str.{bytes_eq}
use Rattle.hp_base.specs.declared.span.Span.{Span}
use Rattle.hp_tree.specs.declared.decl.Cons.{Cons}
use Rattle.hp_tree.specs.declared.block.Trans.{Trans}
use Rattle.hp_tree.specs.Expressions.{Expr, constant, variable, last_of, one, two, choose, pre, fby, arrow, when_is, merge, call, Exprs, no_expr, more_exprs, Parts, no_part, more_parts}
use Rattle.hp_tree.specs.Blocks.{Decl, Block, block, Eqns, no_eqn, more_eqns, Eqn, define, switch, reset, automaton, Arms, no_arm, more_arms, States, no_state, more_states}
use Rattle.hp_tree.specs.Programs.{Contract, Node}
use Rattle.hp_tree.specs.Instant.{Body, Observer, Equations, Head, Tail, Arms as ArmsOf, States as StatesOf}
use Rattle.hp_meaning.specs.Causal.Points.{span_of}
use Rattle.hp_init.specs.Classes.{Classes, Assignment, is_second, Known, known_in, known_within, known_outputs}

-- ---- expressions

-- Whether what an expression wants is First: the operand of `pre`, the second one of `fby`, the names of `when` and `merge`, the operands of `merge` and the arguments of a call.
abbrev mutual
  pub is_met : Classes → Expr → Bool
  is_met second (constant s c) = true
  is_met second (variable s x) = true
  is_met second (last_of s x) = true
  is_met second (one s o a) = is_met second a
  is_met second (two s o a b) = is_met second a && is_met second b
  is_met second (choose s a b c) = is_met second a && (is_met second b && is_met second c)
  is_met second (pre s a) = is_met second a && not (is_second second a)
  is_met second (fby s a b) = is_met second a && (is_met second b && not (is_second second b))
  is_met second (arrow s a b) = is_met second a && is_met second b
  is_met second (when_is s a c x) = is_met second a && not (second x)
  is_met second (merge s x ps) = not (second x) && parts_first second ps
  is_met second (call s f i es) = are_first second es

  pub are_first : Classes → Exprs → Bool
  are_first second no_expr = true
  are_first second (more_exprs e es) = (is_met second e && not (is_second second e)) && are_first second es

  pub parts_first : Classes → Parts → Bool
  parts_first second no_part = true
  parts_first second (more_parts c e ps) = (is_met second e && not (is_second second e)) && parts_first second ps

-- An expression is First, and what it wants is.
abbrev pub is_first : Classes → Expr → Bool
is_first second e = is_met second e && not (is_second second e)

-- ---- units

-- a unit: its place, and whether what it wants is First
pub record Wish : Type 0 where
  pub at : Span
  pub met : Bool

-- a declaration with a clock wants the clock's names
abbrev pub path_first : Classes → List (Cons × List ℕ) → Bool
path_first second [] = true
path_first second (on ∷ path) = not (second on.1) && path_first second path

abbrev pub of_clock : Classes → Span → Option (List (Cons × List ℕ)) → List Wish
of_clock second at None = []
of_clock second at (Some path) = record { at = at; met = path_first second path } ∷ []

abbrev pub of_decls : Classes → List Decl → List Wish
of_decls second [] = []
of_decls second (d ∷ ds) = of_clock second d.span d.clock ++ of_decls second ds

-- whether a name that a block defines has to be First: one that is declared `last` there, or further out, as outputs are
abbrev pub must_be_first : List Decl → List ℕ → Bool
must_be_first [] x = true
must_be_first (d ∷ ds) x = if bytes_eq d.name x then is_some d.last else must_be_first ds x

abbrev pub some_must : List Decl → List (List ℕ × Span) → Bool
some_must ds [] = false
some_must ds (y ∷ ys) = must_be_first ds y.0 || some_must ds ys

-- a definition: what its right side wants is First, and where a name has to be, the right side is
abbrev pub definition_met : Classes → List Decl → List (List ℕ × Span) → Expr → Bool
definition_met second ds ys e = is_met second e && not (some_must ds ys && is_second second e)

-- a condition, or an expression of a contract
abbrev pub of_test : Classes → Expr → List Wish
of_test second e = record { at = span_of e; met = is_first second e } ∷ []

abbrev pub of_tests : Classes → List Trans → List Wish
of_tests second [] = []
of_tests second (t ∷ ts) = of_test second t.cond ++ of_tests second ts

-- The units of a block, in the order of the text's parts. Weak conditions are read in the body of their state, all others outside of their equation.
abbrev mutual
  pub of_block : Known → Assignment → Block → List Wish
  of_block k class (block ds es) =
      of_decls (known_in (block ds es) class k).values ds ++ of_eqns (known_in (block ds es) class k) ds (λ p. class (Equations ∷ p)) es

  pub of_eqns : Known → List Decl → Assignment → Eqns → List Wish
  of_eqns k ds class no_eqn = []
  of_eqns k ds class (more_eqns e es) = of_eqn k ds (λ p. class (Head ∷ p)) e ++ of_eqns k ds (λ p. class (Tail ∷ p)) es

  pub of_eqn : Known → List Decl → Assignment → Eqn → List Wish
  of_eqn k ds class (define at ys e) = record { at = at; met = definition_met k.values ds ys e } ∷ []
  of_eqn k ds class (switch at e arms) = of_test k.values e ++ of_arms (known_within (switch at e arms) k) (λ p. class (ArmsOf ∷ p)) arms
  of_eqn k ds class (reset at b e) = of_block (known_within (reset at b e) k) (λ p. class (Body ∷ p)) b ++ of_test k.values e
  of_eqn k ds class (automaton at ss) = of_states k (known_within (automaton at ss) k) (λ p. class (StatesOf ∷ p)) ss

  pub of_arms : Known → Assignment → Arms → List Wish
  of_arms k class no_arm = []
  of_arms k class (more_arms c b at arms) = of_block k (λ p. class (Head ∷ p)) b ++ of_arms k (λ p. class (Tail ∷ p)) arms

  -- a state: its body, its weak conditions and its strong ones; `out` is what is known outside
  pub of_states : Known → Known → Assignment → States → List Wish
  of_states out k class no_state = []
  of_states out k class (more_states f b until unless at ss) =
      of_block k (λ p. class (Head ∷ Body ∷ p)) b
      ++ (of_tests (known_in b (λ p. class (Head ∷ Body ∷ p)) k).values until ++ (of_tests out.values unless ++ of_states out k (λ p. class (Tail ∷ p)) ss))

abbrev pub of_told : Classes → Option Expr → List Wish
of_told second None = []
of_told second (Some e) = of_test second e

-- a contract: its block, what it assumes, and what it enforces
abbrev pub of_contract : Known → Assignment → Option Contract → List Wish
of_contract k class None = []
of_contract k class (Some c) =
    of_block k class c.body ++ (of_told (known_in c.body class k).values c.assume ++ of_told (known_in c.body class k).values c.enforce)

-- the units of a node: those of its contract, and those of its body
abbrev pub of_node : Assignment → Node → List Wish
of_node class n =
    of_contract (known_outputs n class) (λ p. class (Observer ∷ p)) n.contract ++ of_block (known_outputs n class) (λ p. class (Body ∷ p)) n.body
