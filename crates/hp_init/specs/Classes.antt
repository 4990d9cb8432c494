-- Which expressions and variables may be Nil at first. Each is of class First or Second: one of class First has a value whenever it is there; one of class Second may have none at
-- the first instant at which it is there, since its block began.
-- Source: Colaço and Pouzet, "Type-based initialization analysis of a synchronous dataflow language" (STTT 2004), with its two classes.
use Rattle.std.specs.Prelude.{⊤, ℕ, Bool, true, false, ◌||◌, IsTrue, if◌then◌else◌, List, [], ◌∷◌, Option, None, Some}
use Rattle.hp_base.specs.declared.span.Span.{Span}
use Rattle.hp_tree.specs.Expressions.{Expr, constant, variable, last_of, one, two, choose, pre, fby, arrow, when_is, merge, call}
use Rattle.hp_tree.specs.Blocks.{Decl, Block, block, Eqns, no_eqn, more_eqns, Eqn, define, switch, reset, automaton, Arms, no_arm, more_arms, States, no_state, more_states}
use Rattle.hp_tree.specs.Programs.{Contract, Node}
use Rattle.hp_tree.specs.Instant.{Body, Observer, Named, Equations, Head, Tail, Arms as ArmsOf, States as StatesOf, Place}
use Rattle.hp_tree.specs.Meaning.{declares, defines, some_defines}

-- whether a name is of class Second
abbrev pub Classes : Type 0
Classes = List ℕ → Bool

-- A class for each variable of a node, at the place `Named x` of the block that declares it, or of the node for an output: true is Second.
abbrev pub Assignment : Type 0
Assignment = Place → Bool

-- Whether an expression is of class Second: `pre` is, `fby`, `->` and `when` are where their first operand is, and any other operator where an operand is.
abbrev pub is_second : Classes → Expr → Bool
is_second second (constant s c) = false
is_second second (variable s x) = second x
is_second second (last_of s x) = false
is_second second (one s o a) = is_second second a
is_second second (two s o a b) = is_second second a || is_second second b
is_second second (choose s a b c) = is_second second a || (is_second second b || is_second second c)
is_second second (pre s a) = true
is_second second (fby s a b) = is_second second a
is_second second (arrow s a b) = is_second second a
is_second second (when_is s a c x) = is_second second a
is_second second (merge s x ps) = false
is_second second (call s f i es) = false

-- ---- the classes of names at a place: of the variables that are known there, and where names are read

-- what is known of names: the classes of those that are variables, and of their values where they are read
pub record Known : Type 0 where
  pub variables : List ℕ → Option Bool
  pub values : Classes

abbrev pub or_first : Option Bool → Bool
or_first None = false
or_first (Some second) = second

abbrev pub with_declared : List Decl → Assignment → (List ℕ → Option Bool) → List ℕ → Option Bool
with_declared ds class out x = if declares ds x then Some (class (Named x ∷ [])) else out x

-- In a block its own variables are known too. A name that the block defines is read there; every other one is read as further out.
abbrev pub known_in : Block → Assignment → Known → Known
known_in (block ds es) class k =
    record {
      variables = with_declared ds class k.variables;
      values = λ x. if some_defines es x then or_first (with_declared ds class k.variables x) else k.values x;
    }

-- Inside a control equation the last values are read of the names that it defines, which are First.
abbrev pub known_within : Eqn → Known → Known
known_within e k = record { variables = k.variables; values = λ x. if defines e x then false else k.values x }

-- In a node its outputs are known. Inputs and controllable variables are First.
abbrev pub known_outputs : Node → Assignment → Known
known_outputs n class =
    record {
      variables = with_declared n.outputs class (λ x. None);
      values = λ x. or_first (with_declared n.outputs class (λ y. None) x);
    }

-- ---- the classes of variables by their definitions: a variable is Second where one of its definitions is

abbrev pub VariableFollows : Option Bool → Bool → Type 0
VariableFollows None d = ⊤
VariableFollows (Some second) d = IsTrue d → IsTrue second

abbrev pub LeftsFollow : (List ℕ → Option Bool) → List (List ℕ × Span) → Bool → Type 0
LeftsFollow variables [] d = ⊤
LeftsFollow variables (y ∷ ys) d = VariableFollows (variables y.0) d × LeftsFollow variables ys d

abbrev mutual
  pub BlockFollows : Known → Assignment → Block → Type 0
  BlockFollows k class (block ds es) = EqnsFollow (known_in (block ds es) class k) (λ p. class (Equations ∷ p)) es

  pub EqnsFollow : Known → Assignment → Eqns → Type 0
  EqnsFollow k class no_eqn = ⊤
  EqnsFollow k class (more_eqns e es) = EqnFollows k (λ p. class (Head ∷ p)) e × EqnsFollow k (λ p. class (Tail ∷ p)) es

  pub EqnFollows : Known → Assignment → Eqn → Type 0
  EqnFollows k class (define at ys e) = LeftsFollow k.variables ys (is_second k.values e)
  EqnFollows k class (switch at e arms) = ArmsFollow (known_within (switch at e arms) k) (λ p. class (ArmsOf ∷ p)) arms
  EqnFollows k class (reset at b e) = BlockFollows (known_within (reset at b e) k) (λ p. class (Body ∷ p)) b
  EqnFollows k class (automaton at ss) = StatesFollow (known_within (automaton at ss) k) (λ p. class (StatesOf ∷ p)) ss

  pub ArmsFollow : Known → Assignment → Arms → Type 0
  ArmsFollow k class no_arm = ⊤
  ArmsFollow k class (more_arms c b at arms) = BlockFollows k (λ p. class (Head ∷ p)) b × ArmsFollow k (λ p. class (Tail ∷ p)) arms

  pub StatesFollow : Known → Assignment → States → Type 0
  StatesFollow k class no_state = ⊤
  StatesFollow k class (more_states f b until unless at ss) = BlockFollows k (λ p. class (Head ∷ Body ∷ p)) b × StatesFollow k (λ p. class (Tail ∷ p)) ss

abbrev pub ContractFollows : Known → Assignment → Option Contract → Type 0
ContractFollows k class None = ⊤
ContractFollows k class (Some c) = BlockFollows k class c.body

-- Each variable of a node is Second where one of its definitions is.
abbrev pub NodeFollows : Assignment → Node → Type 0
NodeFollows class n =
    ContractFollows (known_outputs n class) (λ p. class (Observer ∷ p)) n.contract × BlockFollows (known_outputs n class) (λ p. class (Body ∷ p)) n.body

-- The classes of a node are the least ones that follow the definitions: a variable is First wherever it can be.
abbrev pub AreClasses : Node → Assignment → Type 0
AreClasses n class = NodeFollows class n × ((other : Assignment) → NodeFollows other n → (p : Place) → IsTrue (class p) → IsTrue (other p))
