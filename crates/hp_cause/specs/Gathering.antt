-- The facts of each part of a node, where names are seen as vertices, and the part is numbered from k on.
use Rattle.std.specs.Prelude.{ℕ, ◌+◌, Bool, if◌then◌else◌, List, [], ◌∷◌, ◌++◌, Option, None, Some, codes}
use Rattle.hp_base.specs.declared.span.Span.{Span}
use Rattle.hp_tree.specs.declared.block.Trans.{Trans}
use Rattle.hp_tree.specs.Expressions.{Expr, constant, variable, last_of, one, two, choose, pre, fby, arrow, when_is, merge, call, Exprs, no_expr, more_exprs, Parts, no_part, more_parts}
use Rattle.hp_tree.specs.Blocks.{Decl, Block, block, Eqns, no_eqn, more_eqns, Eqn, define, switch, reset, automaton, Arms, no_arm, more_arms, States, no_state, more_states}
use Rattle.hp_tree.specs.Programs.{Contract, Node}
use Rattle.hp_tree.specs.Instant.{Clock}
use Rattle.hp_tree.specs.Meaning.{declares, defines, clock_of, controls_of, names_of}
use Rattle.hp_meaning.specs.declared.causal.point.PointKind.TheVariants as kind
use Rattle.hp_meaning.specs.Causal.Points.{span_of}
use Rattle.hp_tables.specs.Defining.Layers.{numbered}
use Rattle.hp_tables.specs.Defining.Names.{names_in, undeclared}
use Rattle.hp_cause.specs.Facts.{Fact, stand, read, depend, read_by_all}
use Rattle.hp_cause.specs.Vertices.{calls_in, own_of_test, is_call, size_of_tests, own_size, size_inside, size_of, size_of_told, first_of_body, first_of_contract, first_inside}

-- the vertex of a name, if it has one
abbrev pub Sight : Type 0
Sight = List ℕ → Option ℕ

-- a vertex depends on the names of its clock
abbrev pub on_clock : Sight → List (List ℕ) → Option ℕ → List Fact
on_clock see [] v = []
on_clock see (x ∷ xs) v = depend v (see x) ++ on_clock see xs v

abbrev pub names_of_clock : Clock → List (List ℕ)
names_of_clock [] = []
names_of_clock (on ∷ clock) = on.1 ∷ names_of_clock clock

abbrev pub outer_clock : List (List ℕ) → List (List ℕ)
outer_clock [] = []
outer_clock (x ∷ xs) = xs

-- a call: who reads it, and that it reads the control around it and depends on its clock
abbrev pub of_call : Sight → Option ℕ → List (List ℕ) → List ℕ → List ℕ → Span → ℕ → List Fact
of_call see control clock readers f at v = stand kind.Call f at (Some v) ++ (read_by_all readers (Some v) ++ (read (Some v) control ++ on_clock see clock (Some v)))

-- An expression that some vertices read, on a clock and under a control. What stands under `pre` and behind `fby` nobody reads. The arguments of a call are read by the call.
abbrev mutual
  pub of_expr : Sight → Option ℕ → List (List ℕ) → List ℕ → ℕ → Expr → List Fact
  of_expr see control clock readers k (constant s c) = []
  of_expr see control clock readers k (variable s x) = read_by_all readers (see x)
  of_expr see control clock readers k (last_of s x) = []
  of_expr see control clock readers k (one s o a) = of_expr see control clock readers k a
  of_expr see control clock readers k (two s o a b) = of_expr see control clock readers k a ++ of_expr see control clock readers (k + calls_in a) b
  of_expr see control clock readers k (choose s a b c) =
      of_expr see control clock readers k a
      ++ (of_expr see control clock readers (k + calls_in a) b ++ of_expr see control clock readers ((k + calls_in a) + calls_in b) c)
  of_expr see control clock readers k (pre s a) = of_expr see control clock [] k a
  of_expr see control clock readers k (fby s a b) = of_expr see control clock readers k a ++ of_expr see control clock [] (k + calls_in a) b
  of_expr see control clock readers k (arrow s a b) = of_expr see control clock readers k a ++ of_expr see control clock readers (k + calls_in a) b
  of_expr see control clock readers k (when_is s a c x) = read_by_all readers (see x) ++ of_expr see control (outer_clock clock) readers k a
  of_expr see control clock readers k (merge s x ps) = read_by_all readers (see x) ++ of_parts see control (x ∷ clock) readers k ps
  of_expr see control clock readers k (call s f i es) = of_call see control clock readers f s k ++ of_exprs see control clock (k ∷ []) (k + 1) es

  pub of_exprs : Sight → Option ℕ → List (List ℕ) → List ℕ → ℕ → Exprs → List Fact
  of_exprs see control clock readers k no_expr = []
  of_exprs see control clock readers k (more_exprs e es) = of_expr see control clock readers k e ++ of_exprs see control clock readers (k + calls_in e) es

  pub of_parts : Sight → Option ℕ → List (List ℕ) → List ℕ → ℕ → Parts → List Fact
  of_parts see control clock readers k no_part = []
  of_parts see control clock readers k (more_parts c e ps) = of_expr see control clock readers k e ++ of_parts see control clock readers (k + calls_in e) ps

-- a condition, which some vertex reads; one that is a call has the call's vertex
abbrev pub readers_of_test : ℕ → Expr → List ℕ
readers_of_test k e = if is_call e then [] else k ∷ []

abbrev pub of_test : Sight → Option ℕ → ℕ → ℕ → Expr → List Fact
of_test see control reader k e =
    (stand kind.Cond (codes "cond") (span_of e) (Some k) ++ (read (Some reader) (Some k) ++ read (Some k) control))
    ++ of_expr see control [] (readers_of_test k e) (k + own_of_test e) e

abbrev pub of_tests : Sight → Option ℕ → ℕ → ℕ → List Trans → List Fact
of_tests see control reader k [] = []
of_tests see control reader k (t ∷ ts) = of_test see control reader k t.cond ++ of_tests see control reader ((k + own_of_test t.cond) + calls_in t.cond) ts

-- ---- equations

-- the names on a left side
abbrev pub of_left : Sight → Option ℕ → List (List ℕ) → List ℕ → Span → List Fact
of_left see control clock x at = stand kind.Def x at (see x) ++ (read (see x) control ++ on_clock see clock (see x))

abbrev pub of_lefts : Sight → Option ℕ → List (List ℕ) → List (List ℕ × Span) → List Fact
of_lefts see control clock [] = []
of_lefts see control clock (y ∷ ys) = of_left see control clock y.0 y.1 ++ of_lefts see control clock ys

abbrev pub in_list : Option ℕ → List ℕ
in_list None = []
in_list (Some v) = v ∷ []

abbrev pub vertices_of : Sight → List (List ℕ × Span) → List ℕ
vertices_of see [] = []
vertices_of see (y ∷ ys) = in_list (see y.0) ++ vertices_of see ys

abbrev pub of_definition : Sight → Option ℕ → List Decl → ℕ → List (List ℕ × Span) → Expr → List Fact
of_definition see control ds k ys e =
    of_lefts see control (names_of_clock (clock_of ds ys e)) ys ++ of_expr see control (names_of_clock (clock_of ds ys e)) (vertices_of see ys) k e

-- the names that a control equation defines, each of which reads a vertex and the control around
abbrev pub of_defined_name : Sight → Option ℕ → Option ℕ → Span → List ℕ → List Fact
of_defined_name see control v at x = stand kind.Def x at (see x) ++ (read (see x) v ++ read (see x) control)

abbrev pub of_name_if : Sight → Option ℕ → Option ℕ → Span → (List ℕ → Bool) → List ℕ → List Fact
of_name_if see control v at defined x = if defined x then of_defined_name see control v at x else []

abbrev pub of_defined : Sight → Option ℕ → Option ℕ → Span → (List ℕ → Bool) → List (List ℕ) → List Fact
of_defined see control v at defined [] = []
of_defined see control v at defined (x ∷ xs) = of_name_if see control v at defined x ++ of_defined see control v at defined xs

-- a `switch` or a `reset`, whose own vertex stands for its control
abbrev pub of_control : Sight → Option ℕ → ℕ → Span → (List ℕ → Bool) → List (List ℕ) → List Fact
of_control see control k at defined around = of_defined see control (Some k) at defined around ++ read (Some k) control

-- the words of an automaton: the next word depends on the active one
abbrev pub of_words : Option ℕ → ℕ → Span → List Fact
of_words control k at =
    stand kind.Active (codes "active") at (Some k)
    ++ (stand kind.Next (codes "next") at (Some (k + 1)) ++ (read (Some k) control ++ (read (Some (k + 1)) control ++ depend (Some (k + 1)) (Some k))))

-- A name of an equation reads its definition in a block of that equation.
abbrev pub of_links : Sight → Sight → List (List ℕ) → List Fact
of_links out own [] = []
of_links out own (x ∷ xs) = read (out x) (own x) ++ of_links out own xs

-- ---- names

-- in a block whose names are numbered from j on
abbrev pub over : Sight → Sight → Sight
over inner out x = elim (inner x) [ None ↦ out x | Some v ↦ Some v ]

abbrev pub seen_in : ℕ → Block → Sight → Sight
seen_in j (block ds es) see = over (numbered j (names_in es)) see

-- inside a control equation, where last values are read of the names that it defines
abbrev pub seen_within : Eqn → Sight → Sight
seen_within e see x = if defines e x then None else see x

abbrev pub block_names : Block → List (List ℕ)
block_names (block ds es) = names_in es

abbrev pub links_of : ℕ → Block → Sight → List Fact
links_of j (block ds es) out = of_links out (numbered j (names_in es)) (undeclared ds (names_in es))

abbrev pub declared_with : List (List ℕ) → List Decl → List (List ℕ)
declared_with around ds = around ++ names_of ds

abbrev mutual
  -- what stands inside a block, where its names are seen
  pub of_inside : Sight → Option ℕ → List (List ℕ) → ℕ → Block → List Fact
  of_inside see control around k (block ds es) = of_eqns see control (declared_with around ds) ds k es

  pub of_eqns : Sight → Option ℕ → List (List ℕ) → List Decl → ℕ → Eqns → List Fact
  of_eqns see control around ds k no_eqn = []
  of_eqns see control around ds k (more_eqns e es) = of_eqn see control around ds k e ++ of_eqns see control around ds (k + size_of e) es

  pub of_eqn : Sight → Option ℕ → List (List ℕ) → List Decl → ℕ → Eqn → List Fact
  of_eqn see control around ds k (define at ys e) = of_definition see control ds k ys e
  of_eqn see control around ds k (switch at e arms) =
      of_control see control k at (defines (switch at e arms)) around
      ++ (of_expr see control [] (k ∷ []) (k + 1) e ++ of_arms see (seen_within (switch at e arms) see) (Some k) around ((k + 1) + calls_in e) arms)
  of_eqn see control around ds k (reset at b e) =
      of_control see control k at (defines (reset at b e)) around
      ++ ((links_of (k + 1) b see ++ of_inside (seen_in (k + 1) b (seen_within (reset at b e) see)) (Some k) around ((k + 1) + own_size b) b)
      ++ of_expr see control [] (k ∷ []) (((k + 1) + own_size b) + size_inside b) e)
  of_eqn see control around ds k (automaton at ss) =
      of_words control k at
      ++ (of_defined see control (Some k) at (defines (automaton at ss)) around ++ of_states see control (seen_within (automaton at ss) see) k (k + 1) around (k + 2) ss)

  -- the arms of a `switch` with this control, whose names are seen so outside of it
  pub of_arms : Sight → Sight → Option ℕ → List (List ℕ) → ℕ → Arms → List Fact
  of_arms out see control around k no_arm = []
  of_arms out see control around k (more_arms c b at arms) =
      (links_of k b out ++ of_inside (seen_in k b see) control around (k + own_size b) b) ++ of_arms out see control around ((k + own_size b) + size_inside b) arms

  -- The states of an automaton with these active and next words. Strong conditions are read with the names and the control outside of it.
  pub of_states : Sight → Option ℕ → Sight → ℕ → ℕ → List (List ℕ) → ℕ → States → List Fact
  of_states out control see active next around k no_state = []
  of_states out control see active next around k (more_states f b until unless at ss) =
      ((links_of k b out ++ of_inside (seen_in k b see) (Some active) around (k + own_size b) b)
      ++ (of_tests (seen_in k b see) (Some active) next ((k + own_size b) + size_inside b) until
      ++ of_tests out control active (((k + own_size b) + size_inside b) + size_of_tests until) unless))
      ++ of_states out control see active next around ((((k + own_size b) + size_inside b) + size_of_tests until) + size_of_tests unless) ss

abbrev pub of_block : Sight → Sight → Option ℕ → List (List ℕ) → ℕ → Block → List Fact
of_block out see control around k b = links_of k b out ++ of_inside (seen_in k b see) control around (k + own_size b) b

abbrev pub of_state : Sight → Option ℕ → Sight → ℕ → ℕ → List (List ℕ) → ℕ → Block → List Trans → List Trans → List Fact
of_state out control see active next around k b until unless =
    of_block out see (Some active) around k b
    ++ (of_tests (seen_in k b see) (Some active) next ((k + own_size b) + size_inside b) until
    ++ of_tests out control active (((k + own_size b) + size_inside b) + size_of_tests until) unless)

-- ---- nodes

abbrev pub of_told : Sight → ℕ → Option Expr → List Fact
of_told see k None = []
of_told see k (Some e) = of_expr see None [] [] k e

abbrev pub of_contract : Sight → ℕ → Option Contract → List Fact
of_contract see k None = []
of_contract see k (Some c) =
    of_inside (seen_in k c.body see) None [] (k + own_size c.body) c.body
    ++ (of_told (seen_in k c.body see) ((k + own_size c.body) + size_inside c.body) c.assume
    ++ of_told (seen_in k c.body see) (((k + own_size c.body) + size_inside c.body) + size_of_told c.assume) c.enforce)

abbrev pub of_controls : ℕ → List Decl → List Fact
of_controls k [] = []
of_controls k (d ∷ ds) = stand kind.Def d.name d.span (Some k) ++ of_controls (k + 1) ds

-- controllable variables, as the body sees them; outputs, as the contract does
abbrev pub seen_controls : Node → Sight
seen_controls n = numbered 0 (names_of (controls_of n.contract))

abbrev pub own_sight : ℕ → Block → Sight
own_sight j b = numbered j (block_names b)

abbrev pub seen_declared : List Decl → Sight → Sight
seen_declared ds see x = if declares ds x then see x else None

abbrev pub seen_outputs : Node → Sight
seen_outputs n = seen_declared n.outputs (own_sight (first_of_body n) n.body)

abbrev pub behind_controls : Node → List Fact
behind_controls n =
    of_contract (seen_outputs n) (first_of_contract n) n.contract
    ++ of_inside (seen_in (first_of_body n) n.body (seen_controls n)) None (names_of n.outputs) (first_inside n) n.body

abbrev pub of_node : Node → List Fact
of_node n = of_controls 0 (controls_of n.contract) ++ behind_controls n
