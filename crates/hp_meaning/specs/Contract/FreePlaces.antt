-- The free places of an abstract instant, whose values nothing determines: comparisons of integers, and outputs of calls. Which of them are early.
-- Source: own. They stand in for what the abstraction forgets; early ones are known before the controllable variables are chosen.
use Rattle.std.specs.Prelude.{ℕ, ◌≡◌, ◌⊎◌, Bool, true, false, IsTrue, if◌then◌else◌, List, [], ◌∷◌, ◌++◌, filter, reverse, Option, None, Some, All, Contains, ⊤}
use Rattle.hp_base.specs.declared.ty.Ty.{Ty}
use Rattle.hp_base.specs.declared.ty.Ty.TheVariants as ty
use Rattle.hp_base.specs.declared.value.Value.{Value}
use Rattle.hp_base.specs.declared.value.Value.TheVariants.{B, Star}
use Rattle.hp_tree.specs.declared.block.Trans.{Trans}
use Rattle.hp_tree.specs.declared.program.Item.{Item}
use Rattle.hp_tree.specs.Expressions.{Expr, constant, variable, last_of, one, two, choose, pre, fby, arrow, when_is, merge, call, Exprs, no_expr, more_exprs, Parts, no_part, more_parts}
use Rattle.hp_tree.specs.Blocks.{Decl, Block, block, Eqns, no_eqn, more_eqns, Eqn, define, switch, reset, automaton, States, no_state, more_states}
use Rattle.hp_tree.specs.Programs.{TypeDecl, Contract, Node}
use Rattle.hp_tree.specs.Operators.{Reading, constructor_from, is_comparison, is_there, marked}
use Rattle.hp_tree.specs.Instant.{Inputs, Step, Controls, Body, Observer, Assume, Enforce, Named, Fresh, Equations, Head, Tail, Right, Test, States as StatesOf, Unless, First, Second, Third, Args, Instance, Place, Instant, Past, Clock, without}
use Rattle.hp_tree.specs.Meaning.{clock_of, types_of, meaning, node_among}
use Rattle.hp_meaning.specs.declared.causal.point.PointKind.{PointKind}
use Rattle.hp_meaning.specs.declared.causal.point.PointKind.TheVariants as kind
use Rattle.hp_meaning.specs.Causal.Points.{Placed, points}
use Rattle.hp_meaning.specs.Causal.Causality.{Chain, IsRanked}
use Rattle.hp_meaning.specs.Causal.RanksOfPoints.{same_step}
use Rattle.hp_meaning.specs.Causal.Clocked.{ClocksRight}
use Rattle.hp_meaning.specs.Causal.Abstract.{abstract_meaning}
use Rattle.hp_meaning.specs.Causal.Steering.{steered_by}
use Rattle.hp_tree.specs.Values.{constructors_of}
use Rattle.hp_meaning.specs.Contract.Slots.{FreePlace, free_places}

-- ---- the clock of each place of a node itself that may be free: outside of all blocks in its body or its contract's block, and outside of what it calls

-- the clock of a free place, and None at every other place
abbrev pub FreeClocks : Type 0
FreeClocks = Place → Option Clock

abbrev pub none_free : FreeClocks
none_free p = None

-- what is free in each part, by the step to it
abbrev pub by_step : List (Step × FreeClocks) → FreeClocks
by_step ks [] = None
by_step [] (s ∷ p) = None
by_step (k ∷ ks) (s ∷ p) = if same_step k.0 s then k.1 p else by_step ks (s ∷ p)

-- something that is free itself, on a clock, if it is a comparison
abbrev pub if_compared : Bool → Clock → FreeClocks → FreeClocks
if_compared true clock k [] = Some clock
if_compared compared clock k p = k p

-- the outputs of a call
abbrev pub outputs_free : Clock → FreeClocks
outputs_free clock (Named x ∷ []) = Some clock
outputs_free clock p = None

abbrev mutual
  pub free_in : Expr → Clock → FreeClocks
  free_in (constant s c) clock = none_free
  free_in (variable s x) clock = none_free
  free_in (last_of s x) clock = none_free
  free_in (one s o a) clock = by_step ((First, free_in a clock) ∷ [])
  free_in (two s o a b) clock = if_compared (is_comparison o) clock (by_step ((First, free_in a clock) ∷ (Second, free_in b clock) ∷ []))
  free_in (choose s a b c) clock = by_step ((First, free_in a clock) ∷ (Second, free_in b clock) ∷ (Third, free_in c clock) ∷ [])
  free_in (pre s a) clock = by_step ((First, free_in a clock) ∷ [])
  free_in (fby s a b) clock = by_step ((First, free_in a clock) ∷ (Second, free_in b clock) ∷ [])
  free_in (arrow s a b) clock = by_step ((First, free_in a clock) ∷ (Second, free_in b clock) ∷ [])
  free_in (when_is s a c x) clock = by_step ((First, free_in a (without clock)) ∷ [])
  free_in (merge s x ps) clock = by_step ((Args, free_in_parts ps x clock) ∷ [])
  free_in (call s f inlined es) clock = by_step ((Args, free_in_all es clock) ∷ (Instance, outputs_free clock) ∷ [])

  pub free_in_all : Exprs → Clock → FreeClocks
  free_in_all no_expr clock = none_free
  free_in_all (more_exprs e es) clock = by_step ((Head, free_in e clock) ∷ (Tail, free_in_all es clock) ∷ [])

  pub free_in_parts : Parts → List ℕ → Clock → FreeClocks
  free_in_parts no_part x clock = none_free
  free_in_parts (more_parts c e ps) x clock = by_step ((Head, free_in e ((c, x) ∷ clock)) ∷ (Tail, free_in_parts ps x clock) ∷ [])

abbrev pub free_in_conditions : List Trans → FreeClocks
free_in_conditions [] = none_free
free_in_conditions (t ∷ ts) = by_step ((Head, free_in t.cond []) ∷ (Tail, free_in_conditions ts) ∷ [])

-- Strong conditions stand in the block of the automaton, weak ones in the bodies of its states.
abbrev pub free_in_states : States → FreeClocks
free_in_states no_state = none_free
free_in_states (more_states f b until unless s ss) =
    by_step ((Head, by_step ((Unless, free_in_conditions unless) ∷ [])) ∷ (Tail, free_in_states ss) ∷ [])

abbrev pub free_in_equation : List Decl → Eqn → FreeClocks
free_in_equation ds (define s ys e) = by_step ((Right, free_in e (clock_of ds ys e)) ∷ [])
free_in_equation ds (switch s e arms) = by_step ((Test, free_in e []) ∷ [])
free_in_equation ds (reset s b e) = by_step ((Test, free_in e []) ∷ [])
free_in_equation ds (automaton s ss) = by_step ((StatesOf, free_in_states ss) ∷ [])

abbrev pub free_in_equations : List Decl → Eqns → FreeClocks
free_in_equations ds no_eqn = none_free
free_in_equations ds (more_eqns e es) = by_step ((Head, free_in_equation ds e) ∷ (Tail, free_in_equations ds es) ∷ [])

abbrev pub free_in_block : Block → FreeClocks
free_in_block (block ds es) = by_step ((Equations, free_in_equations ds es) ∷ [])

abbrev pub free_in_told : Option Expr → FreeClocks
free_in_told None = none_free
free_in_told (Some e) = free_in e []

abbrev pub free_in_contract : Option Contract → List (Step × FreeClocks)
free_in_contract None = []
free_in_contract (Some c) = (Observer, free_in_block c.body) ∷ (Assume, free_in_told c.assume) ∷ (Enforce, free_in_told c.enforce) ∷ []

abbrev pub own_free : Node → FreeClocks
own_free n = by_step ((Body, free_in_block n.body) ∷ free_in_contract n.contract)

-- ---- early places

-- one of some free places
abbrev pub IsFree : List FreePlace → Place → Type 0
IsFree [] p = ⊥
IsFree (q ∷ qs) p = (p ≡ q.0) ⊎ IsFree qs p

-- A comparison or an output of a call is early where it stands in the node itself on the base clock and reads no controllable variable by any chain.
pub record IsEarly (program : List Item) (n : Node) (p : Place) : Type 0 where
  pub is_free : IsFree (free_places program n) p
  pub on_base : own_free n p ≡ Some []
  pub unsteered : (between : List Place) (q : Place) → Chain n p between (Controls ∷ q) → ⊥

-- A free place is known before the controllable variables are chosen where it is an input, or early; all others are late, those of callees' contracts among them.
abbrev pub IsKnownBefore : List Item → Node → Place → Type 0
IsKnownBefore program n p = ((q : Place) × (p ≡ Inputs ∷ q)) ⊎ IsEarly program n p

-- ---- values of types in the abstraction, where an integer may be a mark

abbrev pub IsAbstractOf : List TypeDecl → Ty → Value → Type 0
IsAbstractOf types ty.Bool v = (b : Bool) × (v ≡ B b)
IsAbstractOf types ty.Int v = marked v ≡ Star
IsAbstractOf types (ty.Enum t) v = (c : List ℕ) × Contains (constructors_of types t) c × (v ≡ constructor_from 0 types c)

abbrev pub InputsFit : List TypeDecl → List Decl → List Value → Type 0
InputsFit types [] [] = ⊤
InputsFit types (d ∷ ds) (v ∷ vs) = IsAbstractOf types d.ty v × InputsFit types ds vs
InputsFit types ds vs = ⊥

-- ---- the calls of a node

abbrev pub is_call : PointKind → Bool
is_call kind.Call = true
is_call k = false

abbrev pub calls_of : Node → List Placed
calls_of n = filter (λ p. is_call p.point.kind) (points n)

-- what an instant gives to the instance of a call
abbrev pub instance_at : Placed → Instant → Instant
instance_at c i p = i (c.place ++ (Instance ∷ p))

abbrev pub declared_outputs : Option Node → List Decl
declared_outputs None = []
declared_outputs (Some n) = n.outputs

-- ---- given values

abbrev pub OutputFits : List TypeDecl → Placed → Instant → Decl → Type 0
OutputFits types c free d = IsAbstractOf types d.ty (instance_at c free (Named d.name ∷ []))

-- The values that are given for free places are of their types: where one is taken for what is made of two integers it is a Boolean, and the outputs of a call that is there are of the callee's types. What is given at other places is not looked at.
pub record Fits (program : List Item) (n : Node) (now free : Instant) : Type 0 where
  pub comparisons : (p : Place) → now (p ++ (First ∷ [])) ≡ Star → now (p ++ (Second ∷ [])) ≡ Star → now p ≡ free p → (b : Bool) × (free p ≡ B b)
  pub outputs : All (λ c. IsTrue (is_there (instance_at c now (Fresh ∷ []))) → All (OutputFits (types_of program) c free) (declared_outputs (node_among (reverse program) c.point.name))) (calls_of n)

-- ---- the law

-- Whatever the controllable variables of a node are, its early places have the same values; what its callees are given is the same.
abbrev pub EarlyValuesLaw : Type 0
EarlyValuesLaw =
    (reading : Reading) (program : List Item) (f : List ℕ) (n : Node) (inputs : List Value) (past : Past) (free controls others : Instant) (now other : Instant)
    → IsRanked program → ClocksRight n → node_among (reverse program) f ≡ Some n
    → ((p : Place) → now p ≡ meaning reading program f inputs (record { past = past; free = steered_by free controls }) now p)
    → ((p : Place) → other p ≡ meaning reading program f inputs (record { past = past; free = steered_by free others }) other p)
    → (p : Place) → IsEarly program n p → now p ≡ other p

-- the same in the Boolean abstraction
abbrev pub AbstractEarlyValuesLaw : Type 0
AbstractEarlyValuesLaw =
    (program : List Item) (f : List ℕ) (n : Node) (inputs : List Value) (past : Past) (free controls others : Instant) (now other : Instant)
    → IsRanked program → ClocksRight n → node_among (reverse program) f ≡ Some n
    → ((p : Place) → now p ≡ abstract_meaning program f inputs (record { past = past; free = steered_by free controls }) now p)
    → ((p : Place) → other p ≡ abstract_meaning program f inputs (record { past = past; free = steered_by free others }) other p)
    → (p : Place) → IsEarly program n p → now p ≡ other p
