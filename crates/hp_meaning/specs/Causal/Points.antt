-- The points of a node, in the order of their places: its definitions, the words and conditions of its automata, and its calls.
use Rattle.std.specs.Prelude.{ℕ, Bool, false, ◌||◌, IsTrue, ⊤, List, [], ◌∷◌, ◌++◌, map, filter, Option, None, Some, codes}
use Rattle.std.specs.Str.{bytes_eq}
use Rattle.hp_base.specs.declared.span.Span.{Span}
use Rattle.hp_tree.specs.declared.block.Trans.{Trans}
use Rattle.hp_tree.specs.Expressions.{Expr, constant, variable, last_of, one, two, choose, pre, fby, arrow, when_is, merge, call, Exprs, no_expr, more_exprs, Parts, no_part, more_parts}
use Rattle.hp_tree.specs.Blocks.{Decl, Block, block, Eqns, no_eqn, more_eqns, Eqn, define, switch, reset, automaton, Arms, no_arm, more_arms, States, no_state, more_states}
use Rattle.hp_tree.specs.Programs.{Contract, Node}
use Rattle.hp_tree.specs.Instant.{Body, Controls, Observer, Assume, Enforce, Named, Equations, Head, Tail, Right, Test, Arms as ArmsOf, States as StatesOf, Until, Unless, Active, Next, First, Second, Third, Args, Place}
use Rattle.hp_tree.specs.Meaning.{defines, names_of, controls_of}
use Rattle.hp_meaning.specs.declared.causal.point.Point.{Point}
use Rattle.hp_meaning.specs.declared.causal.point.PointKind.{PointKind}
use Rattle.hp_meaning.specs.declared.causal.point.PointKind.TheVariants as kind
use Rattle.hp_meaning.specs.Causal.Sources.{below}

-- a point and its place
pub record Placed : Type 0 where
  pub point : Point
  pub place : Place

-- where the places of a part are in its node
abbrev pub Whereabouts : Type 0
Whereabouts = Place → Place

abbrev pub point_at : PointKind → List ℕ → Span → Place → Placed
point_at k x s p = record { point = record { kind = k; name = x; span = s }; place = p }

abbrev pub span_of : Expr → Span
span_of (constant s c) = s
span_of (variable s x) = s
span_of (last_of s x) = s
span_of (one s o a) = s
span_of (two s o a b) = s
span_of (choose s a b c) = s
span_of (pre s a) = s
span_of (fby s a b) = s
span_of (arrow s a b) = s
span_of (when_is s a c x) = s
span_of (merge s x ps) = s
span_of (call s f inlined es) = s

-- the calls in an expression, each before those in its arguments
abbrev mutual
  pub calls : Expr → Whereabouts → List Placed
  calls (constant s c) w = []
  calls (variable s x) w = []
  calls (last_of s x) w = []
  calls (one s o a) w = calls a (below First w)
  calls (two s o a b) w = calls a (below First w) ++ calls b (below Second w)
  calls (choose s a b c) w = calls a (below First w) ++ (calls b (below Second w) ++ calls c (below Third w))
  calls (pre s a) w = calls a (below First w)
  calls (fby s a b) w = calls a (below First w) ++ calls b (below Second w)
  calls (arrow s a b) w = calls a (below First w) ++ calls b (below Second w)
  calls (when_is s a c x) w = calls a (below First w)
  calls (merge s x ps) w = calls_in_parts ps (below Args w)
  calls (call s f inlined es) w = point_at kind.Call f s (w []) ∷ calls_in_all es (below Args w)

  pub calls_in_all : Exprs → Whereabouts → List Placed
  calls_in_all no_expr w = []
  calls_in_all (more_exprs e es) w = calls e (below Head w) ++ calls_in_all es (below Tail w)

  pub calls_in_parts : Parts → Whereabouts → List Placed
  calls_in_parts no_part w = []
  calls_in_parts (more_parts c e ps) w = calls e (below Head w) ++ calls_in_parts ps (below Tail w)

-- conditions of transitions, and the calls in them
abbrev pub conditions : List Trans → Whereabouts → List Placed
conditions [] w = []
conditions (t ∷ ts) w =
    point_at kind.Cond (codes "cond") (span_of t.cond) (w (Head ∷ [])) ∷ (calls t.cond (below Head w) ++ conditions ts (below Tail w))

-- the names on the left side of an equation, in a block whose names have these places
abbrev pub lefts : List (List ℕ × Span) → (List ℕ → Place) → List Placed
lefts ys named = map (λ y. point_at kind.Def y.0 y.1 (named y.0)) ys

-- the names that a control equation defines, in the order in which they are declared
abbrev pub defined_by : Eqn → Span → List (List ℕ) → (List ℕ → Place) → List Placed
defined_by e s declared named = map (λ x. point_at kind.Def x s (named x)) (filter (defines e) declared)

-- The points of a block, where these names are declared around it.
abbrev mutual
  pub points_of : List (List ℕ) → Block → Whereabouts → List Placed
  points_of declared (block ds es) w = points_of_all (declared ++ names_of ds) (λ x. w (Named x ∷ [])) es (below Equations w)

  pub points_of_all : List (List ℕ) → (List ℕ → Place) → Eqns → Whereabouts → List Placed
  points_of_all declared named no_eqn w = []
  points_of_all declared named (more_eqns e es) w = points_of_one declared named e (below Head w) ++ points_of_all declared named es (below Tail w)

  pub points_of_one : List (List ℕ) → (List ℕ → Place) → Eqn → Whereabouts → List Placed
  points_of_one declared named (define s ys e) w = lefts ys named ++ calls e (below Right w)
  points_of_one declared named (switch s e arms) w =
      defined_by (switch s e arms) s declared named ++ (calls e (below Test w) ++ points_of_arms declared arms (below ArmsOf w))
  points_of_one declared named (reset s b e) w =
      defined_by (reset s b e) s declared named ++ (points_of declared b (below Body w) ++ calls e (below Test w))
  points_of_one declared named (automaton s ss) w =
      point_at kind.Active (codes "active") s (w (Active ∷ [])) ∷ (point_at kind.Next (codes "next") s (w (Next ∷ []))
      ∷ (defined_by (automaton s ss) s declared named ++ points_of_states declared ss (below StatesOf w)))

  pub points_of_arms : List (List ℕ) → Arms → Whereabouts → List Placed
  points_of_arms declared no_arm w = []
  points_of_arms declared (more_arms c b s arms) w = points_of declared b (below Head w) ++ points_of_arms declared arms (below Tail w)

  pub points_of_states : List (List ℕ) → States → Whereabouts → List Placed
  points_of_states declared no_state w = []
  points_of_states declared (more_states f b until unless s ss) w =
      points_of declared b (below Body (below Head w))
      ++ (conditions until (below Until (below Head w)) ++ (conditions unless (below Unless (below Head w)) ++ points_of_states declared ss (below Tail w)))

abbrev pub controls : List Decl → Whereabouts → List Placed
controls [] w = []
controls (d ∷ ds) w = point_at kind.Def d.name d.span (w (Head ∷ [])) ∷ controls ds (below Tail w)

abbrev pub calls_told : Option Expr → Whereabouts → List Placed
calls_told None w = []
calls_told (Some e) w = calls e w

abbrev pub points_of_contract : Option Contract → Whereabouts → List Placed
points_of_contract None w = []
points_of_contract (Some c) w =
    points_of [] c.body (below Observer w) ++ (calls_told c.assume (below Assume w) ++ calls_told c.enforce (below Enforce w))

abbrev pub points : Node → List Placed
points n =
    controls (controls_of n.contract) (λ p. Controls ∷ p)
    ++ (points_of_contract n.contract (λ p. p) ++ points_of (names_of n.outputs) n.body (λ p. Body ∷ p))

abbrev pub places : Node → List Place
places n = map (λ p. p.place) (points n)

-- ---- Each name that a control equation defines is declared around it.

abbrev pub is_one_of : List (List ℕ) → List ℕ → Bool
is_one_of [] x = false
is_one_of (y ∷ ys) x = bytes_eq y x || is_one_of ys x

abbrev pub DeclaredBy : List (List ℕ) → Eqn → Type 0
DeclaredBy declared e = (x : List ℕ) → IsTrue (defines e x) → IsTrue (is_one_of declared x)

abbrev mutual
  pub Declared : List (List ℕ) → Block → Type 0
  Declared declared (block ds es) = DeclaredInAll (declared ++ names_of ds) es

  pub DeclaredInAll : List (List ℕ) → Eqns → Type 0
  DeclaredInAll declared no_eqn = ⊤
  DeclaredInAll declared (more_eqns e es) = DeclaredInOne declared e × DeclaredInAll declared es

  pub DeclaredInOne : List (List ℕ) → Eqn → Type 0
  DeclaredInOne declared (define s ys e) = ⊤
  DeclaredInOne declared (switch s e arms) = DeclaredBy declared (switch s e arms) × DeclaredInArms declared arms
  DeclaredInOne declared (reset s b e) = DeclaredBy declared (reset s b e) × Declared declared b
  DeclaredInOne declared (automaton s ss) = DeclaredBy declared (automaton s ss) × DeclaredInStates declared ss

  pub DeclaredInArms : List (List ℕ) → Arms → Type 0
  DeclaredInArms declared no_arm = ⊤
  DeclaredInArms declared (more_arms c b s arms) = Declared declared b × DeclaredInArms declared arms

  pub DeclaredInStates : List (List ℕ) → States → Type 0
  DeclaredInStates declared no_state = ⊤
  DeclaredInStates declared (more_states f b until unless s ss) = Declared declared b × DeclaredInStates declared ss

abbrev pub DeclaredInContract : Option Contract → Type 0
DeclaredInContract None = ⊤
DeclaredInContract (Some c) = Declared [] c.body

abbrev pub NamesDeclared : Node → Type 0
NamesDeclared n = DeclaredInContract n.contract × Declared (names_of n.outputs) n.body
