-- The vertices of a node's graph, and their numbers. A vertex is a point, or the control of a `switch` or a `reset`: what its condition reads, and the control around it. Its place is `Fresh`
-- in the equation, at which there is no point. All that stands in such an equation reads the one vertex, so that the graph has no more edges than the text has words.
use Rattle.std.specs.Prelude.{ℕ, ◌+◌, Bool, true, false, if◌then◌else◌, List, [], ◌∷◌, length, Option, None, Some}
use Rattle.hp_tree.specs.declared.block.Trans.{Trans}
use Rattle.hp_tree.specs.Expressions.{Expr, constant, variable, last_of, one, two, choose, pre, fby, arrow, when_is, merge, call, Exprs, no_expr, more_exprs, Parts, no_part, more_parts}
use Rattle.hp_tree.specs.Blocks.{Decl, Block, block, Eqns, no_eqn, more_eqns, Eqn, define, switch, reset, automaton, Arms, no_arm, more_arms, States, no_state, more_states}
use Rattle.hp_tree.specs.Programs.{Contract, Node}
use Rattle.hp_tree.specs.Instant.{Controls, Body, Observer, Assume, Enforce, Fresh, Named, Equations, Head, Tail, Right, Test, Arms as ArmsOf, States as StatesOf, Until, Unless, Active, Next, First, Second, Third, Args, Place}
use Rattle.hp_tree.specs.Meaning.{controls_of}
use Rattle.hp_tables.specs.Defining.Layers.{numbered}
use Rattle.hp_tables.specs.Defining.Names.{names_in}

-- ---- how many there are in a part: calls, conditions, words, controls, and the names that a block's equations define, one as often as it is defined

abbrev mutual
  pub calls_in : Expr → ℕ
  calls_in (constant s c) = 0
  calls_in (variable s x) = 0
  calls_in (last_of s x) = 0
  calls_in (one s o a) = calls_in a
  calls_in (two s o a b) = calls_in a + calls_in b
  calls_in (choose s a b c) = calls_in a + (calls_in b + calls_in c)
  calls_in (pre s a) = calls_in a
  calls_in (fby s a b) = calls_in a + calls_in b
  calls_in (arrow s a b) = calls_in a + calls_in b
  calls_in (when_is s a c x) = calls_in a
  calls_in (merge s x ps) = calls_in_parts ps
  calls_in (call s f i es) = 1 + calls_in_all es

  pub calls_in_all : Exprs → ℕ
  calls_in_all no_expr = 0
  calls_in_all (more_exprs e es) = calls_in e + calls_in_all es

  pub calls_in_parts : Parts → ℕ
  calls_in_parts no_part = 0
  calls_in_parts (more_parts c e ps) = calls_in e + calls_in_parts ps

-- A condition that is a call is one vertex with it.
abbrev pub is_call : Expr → Bool
is_call (call s f i es) = true
is_call e = false

abbrev pub own_of_test : Expr → ℕ
own_of_test e = if is_call e then 0 else 1

abbrev pub size_of_tests : List Trans → ℕ
size_of_tests [] = 0
size_of_tests (t ∷ ts) = (own_of_test t.cond + calls_in t.cond) + size_of_tests ts

abbrev pub own_size : Block → ℕ
own_size (block ds es) = length (names_in es)

abbrev mutual
  pub size_inside : Block → ℕ
  size_inside (block ds es) = size_of_all es

  pub size_of_all : Eqns → ℕ
  size_of_all no_eqn = 0
  size_of_all (more_eqns e es) = size_of e + size_of_all es

  pub size_of : Eqn → ℕ
  size_of (define at ys e) = calls_in e
  size_of (switch at e arms) = 1 + (calls_in e + size_of_arms arms)
  size_of (reset at b e) = 1 + ((own_size b + size_inside b) + calls_in e)
  size_of (automaton at ss) = 2 + size_of_states ss

  pub size_of_arms : Arms → ℕ
  size_of_arms no_arm = 0
  size_of_arms (more_arms c b at arms) = (own_size b + size_inside b) + size_of_arms arms

  pub size_of_states : States → ℕ
  size_of_states no_state = 0
  size_of_states (more_states f b until unless at ss) = ((own_size b + size_inside b) + (size_of_tests until + size_of_tests unless)) + size_of_states ss

abbrev pub size : Block → ℕ
size b = own_size b + size_inside b

abbrev pub size_of_told : Option Expr → ℕ
size_of_told None = 0
size_of_told (Some e) = calls_in e

abbrev pub size_of_contract : Option Contract → ℕ
size_of_contract None = 0
size_of_contract (Some c) = size c.body + (size_of_told c.assume + size_of_told c.enforce)

-- ---- the number of the vertex at a place, where a part is numbered from k on

abbrev pub Numbering : Type 0
Numbering = Place → Option ℕ

abbrev mutual
  pub number_expr : ℕ → Expr → Numbering
  number_expr k (one s o a) (First ∷ p) = number_expr k a p
  number_expr k (two s o a b) (First ∷ p) = number_expr k a p
  number_expr k (two s o a b) (Second ∷ p) = number_expr (k + calls_in a) b p
  number_expr k (choose s a b c) (First ∷ p) = number_expr k a p
  number_expr k (choose s a b c) (Second ∷ p) = number_expr (k + calls_in a) b p
  number_expr k (choose s a b c) (Third ∷ p) = number_expr ((k + calls_in a) + calls_in b) c p
  number_expr k (pre s a) (First ∷ p) = number_expr k a p
  number_expr k (fby s a b) (First ∷ p) = number_expr k a p
  number_expr k (fby s a b) (Second ∷ p) = number_expr (k + calls_in a) b p
  number_expr k (arrow s a b) (First ∷ p) = number_expr k a p
  number_expr k (arrow s a b) (Second ∷ p) = number_expr (k + calls_in a) b p
  number_expr k (when_is s a c x) (First ∷ p) = number_expr k a p
  number_expr k (merge s x ps) (Args ∷ p) = number_parts k ps p
  number_expr k (call s f i es) [] = Some k
  number_expr k (call s f i es) (Args ∷ p) = number_exprs (k + 1) es p
  number_expr k e p = None

  pub number_exprs : ℕ → Exprs → Numbering
  number_exprs k (more_exprs e es) (Head ∷ p) = number_expr k e p
  number_exprs k (more_exprs e es) (Tail ∷ p) = number_exprs (k + calls_in e) es p
  number_exprs k es p = None

  pub number_parts : ℕ → Parts → Numbering
  number_parts k (more_parts c e ps) (Head ∷ p) = number_expr k e p
  number_parts k (more_parts c e ps) (Tail ∷ p) = number_parts (k + calls_in e) ps p
  number_parts k ps p = None

-- a condition, and the calls in it
abbrev pub number_test : ℕ → Expr → Numbering
number_test k e [] = Some k
number_test k e (s ∷ p) = number_expr (k + own_of_test e) e (s ∷ p)

abbrev pub number_tests : ℕ → List Trans → Numbering
number_tests k (t ∷ ts) (Head ∷ p) = number_test k t.cond p
number_tests k (t ∷ ts) (Tail ∷ p) = number_tests ((k + own_of_test t.cond) + calls_in t.cond) ts p
number_tests k ts p = None

-- Of a block the names that it defines are numbered from j on, and what stands in its equations from k on.
abbrev mutual
  pub number_block : ℕ → ℕ → Block → Numbering
  number_block j k (block ds es) (Named x ∷ []) = numbered j (names_in es) x
  number_block j k (block ds es) (Equations ∷ p) = number_eqns k es p
  number_block j k b p = None

  pub number_eqns : ℕ → Eqns → Numbering
  number_eqns k (more_eqns e es) (Head ∷ p) = number_eqn k e p
  number_eqns k (more_eqns e es) (Tail ∷ p) = number_eqns (k + size_of e) es p
  number_eqns k es p = None

  pub number_eqn : ℕ → Eqn → Numbering
  number_eqn k (define at ys e) (Right ∷ p) = number_expr k e p
  number_eqn k (switch at e arms) (Fresh ∷ []) = Some k
  number_eqn k (switch at e arms) (Test ∷ p) = number_expr (k + 1) e p
  number_eqn k (switch at e arms) (ArmsOf ∷ p) = number_arms ((k + 1) + calls_in e) arms p
  number_eqn k (reset at b e) (Fresh ∷ []) = Some k
  number_eqn k (reset at b e) (Body ∷ p) = number_block (k + 1) ((k + 1) + own_size b) b p
  number_eqn k (reset at b e) (Test ∷ p) = number_expr (((k + 1) + own_size b) + size_inside b) e p
  number_eqn k (automaton at ss) (Active ∷ []) = Some k
  number_eqn k (automaton at ss) (Next ∷ []) = Some (k + 1)
  number_eqn k (automaton at ss) (StatesOf ∷ p) = number_states (k + 2) ss p
  number_eqn k e p = None

  pub number_arms : ℕ → Arms → Numbering
  number_arms k (more_arms c b at arms) (Head ∷ p) = number_block k (k + own_size b) b p
  number_arms k (more_arms c b at arms) (Tail ∷ p) = number_arms ((k + own_size b) + size_inside b) arms p
  number_arms k arms p = None

  pub number_states : ℕ → States → Numbering
  number_states k (more_states f b until unless at ss) (Head ∷ Body ∷ p) = number_block k (k + own_size b) b p
  number_states k (more_states f b until unless at ss) (Head ∷ Until ∷ p) = number_tests ((k + own_size b) + size_inside b) until p
  number_states k (more_states f b until unless at ss) (Head ∷ Unless ∷ p) = number_tests (((k + own_size b) + size_inside b) + size_of_tests until) unless p
  number_states k (more_states f b until unless at ss) (Tail ∷ p) = number_states ((((k + own_size b) + size_inside b) + size_of_tests until) + size_of_tests unless) ss p
  number_states k ss p = None

abbrev pub number_told : ℕ → Option Expr → Numbering
number_told k None p = None
number_told k (Some e) p = number_expr k e p

abbrev pub number_contract : ℕ → Option Contract → Numbering
number_contract k (Some c) (Observer ∷ p) = number_block k (k + own_size c.body) c.body p
number_contract k (Some c) (Assume ∷ p) = number_told ((k + own_size c.body) + size_inside c.body) c.assume p
number_contract k (Some c) (Enforce ∷ p) = number_told (((k + own_size c.body) + size_inside c.body) + size_of_told c.assume) c.enforce p
number_contract k c p = None

abbrev pub number_controls : ℕ → List Decl → Numbering
number_controls k (d ∷ ds) (Head ∷ []) = Some k
number_controls k (d ∷ ds) (Tail ∷ p) = number_controls (k + 1) ds p
number_controls k ds p = None

-- of a node its controllable variables, the names that its body defines, its contract, and what stands in its body
abbrev pub first_of_body : Node → ℕ
first_of_body n = length (controls_of n.contract)

abbrev pub first_of_contract : Node → ℕ
first_of_contract n = first_of_body n + own_size n.body

abbrev pub first_inside : Node → ℕ
first_inside n = first_of_contract n + size_of_contract n.contract

abbrev pub size_of_node : Node → ℕ
size_of_node n = first_inside n + size_inside n.body

abbrev pub number_node : Node → Numbering
number_node n (Controls ∷ p) = number_controls 0 (controls_of n.contract) p
number_node n (Body ∷ p) = number_block (first_of_body n) (first_inside n) n.body p
number_node n p = number_contract (first_of_contract n) n.contract p
