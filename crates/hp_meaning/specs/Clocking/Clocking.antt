-- Assignments of clocks to a node whose clocks are not all written, and what each of its units asks of them.
-- Source: clocks as types, Colaço and Pouzet (EMSOFT 2003); the clocked streams of Biernacki and others (LCTES 2008). The order of the units, and that the first one
-- that allows nothing is named, is this project's.
use Rattle.std.specs.Prelude.{ℕ, ◌≡◌, Bool, false, ◌||◌, if◌then◌else◌, List, [], ◌∷◌, ◌++◌, map, reverse, Option, None, Some, ⊤, IsTrue}
use Rattle.std.specs.Str.{bytes_eq}
use Rattle.hp_base.specs.declared.span.Span.{Span}
use Rattle.hp_base.specs.declared.ty.Const.{Const}
use Rattle.hp_tree.specs.declared.decl.Cons.{Cons}
use Rattle.hp_tree.specs.declared.block.Trans.{Trans}
use Rattle.hp_tree.specs.Expressions.{Expr}
use Rattle.hp_tree.specs.Blocks.{Decl, Block, block, Eqns, no_eqn, more_eqns, Eqn, define, switch, reset, automaton, Arms, no_arm, more_arms, States, no_state, more_states}
use Rattle.hp_tree.specs.Programs.{Contract, Node}
use Rattle.hp_tree.specs.Instant.{Place, Body, Observer, Named, Equations, Head, Tail, Right, Arms as ArmsOf, States as StatesOf, Clock}
use Rattle.hp_tree.specs.Meaning.{declares, defines, some_defines, written, clock_in, clock_of}
use Rattle.hp_meaning.specs.Causal.Sources.{below}
use Rattle.hp_tree.specs.Meaning.{controls_of}
use Rattle.hp_meaning.specs.Causal.Points.{span_of}
use Rattle.hp_meaning.specs.Causal.Clocked.{Standing, base_alone, ClockRight, IsOn}
use Rattle.hp_meaning.specs.Clocking.Terms.{Term as TermOf, Values, value}

-- A step of a clock, and clocks that are known in part. A variable is a place: that of a name in the block that declares it, or that of the right side of an equation.
abbrev pub On : Type 0
On = Cons × List ℕ

abbrev pub Term : Type 0
Term = TermOf Place On

-- a clock for each local and for each equation
abbrev pub Assignment : Type 0
Assignment = Values Place On

abbrev pub base : Term
base = ([], None)

abbrev pub open_at : Place → Term
open_at p = ([], Some p)

-- ---- how names are seen in a block

-- a name that is not read here, one of this block, and one of a block around it, which is read where it is on the base clock and counts as on this block's
pub data Seen : Type 0 where
  nowhere : Seen
  own : Term → Seen
  further : Term → Seen

abbrev pub Sight : Type 0
Sight = List ℕ → Seen

abbrev pub from_inside : Seen → Seen
from_inside nowhere = nowhere
from_inside (own t) = further t
from_inside (further t) = further t

abbrev pub seen_on : Assignment → Seen → Option Clock
seen_on at nowhere = None
seen_on at (own t) = Some (value at t)
seen_on at (further t) = base_alone (Some (value at t))

-- the clock on which each name is read
abbrev pub standing : Assignment → Sight → Standing
standing at sight x = seen_on at (sight x)

-- Names that a control equation defines, and those that are declared `last`, are on the base clock.
abbrev pub controls_define : Eqns → List ℕ → Bool
controls_define no_eqn x = false
controls_define (more_eqns (define s ys e) es) x = controls_define es x
controls_define (more_eqns (switch s e arms) es) x = defines (switch s e arms) x || controls_define es x
controls_define (more_eqns (reset s b e) es) x = defines (reset s b e) x || controls_define es x
controls_define (more_eqns (automaton s ss) es) x = defines (automaton s ss) x || controls_define es x

abbrev pub local_at : Option Const → Bool → Place → Term
local_at None defined p = if defined then base else open_at p
local_at (Some c) defined p = base

abbrev pub local_term : Eqns → (Place → Place) → Decl → Term
local_term es here d = local_at d.last (controls_define es d.name) (here (Named d.name ∷ []))

abbrev pub term_in : Eqns → (Place → Place) → List Decl → List ℕ → Term
term_in es here [] x = base
term_in es here (d ∷ ds) x = if bytes_eq d.name x then local_term es here d else term_in es here ds x

abbrev pub sight_in : List Decl → Eqns → (Place → Place) → Sight → Sight
sight_in ds es here out x = if some_defines es x then own (term_in es here ds x) else from_inside (out x)

abbrev pub sight_of : Block → (Place → Place) → Sight → Sight
sight_of (block ds es) here out = sight_in ds es here out

-- ---- units

pub data ClockUnit : Type 0 where
  -- a declaration: its name, the clock of that name, and the clock that is written
  declared : Span → Sight → Term → Clock → ClockUnit
  -- a basic equation: the clocks of its names, that of its right side, and the right side
  equated : Span → Sight → List Term → Term → Expr → ClockUnit
  -- a condition, or an expression of a contract
  tested : Span → Sight → Expr → ClockUnit

abbrev pub AllAre : Assignment → List Term → Clock → Type 0
AllAre at [] c = ⊤
AllAre at (t ∷ ts) c = (value at t ≡ c) × AllAre at ts c

-- what a unit asks
abbrev pub Allows : Assignment → ClockUnit → Type 0
Allows at (declared s sight t c) = ClockRight (standing at sight) c × (value at t ≡ c)
Allows at (equated s sight ts t e) = AllAre at ts (value at t) × IsOn (standing at sight) e (value at t)
Allows at (tested s sight e) = IsOn (standing at sight) e []

abbrev pub AllAllow : Assignment → List ClockUnit → Type 0
AllAllow at [] = ⊤
AllAllow at (u ∷ us) = Allows at u × AllAllow at us

abbrev pub place_of : ClockUnit → Span
place_of (declared s sight t c) = s
place_of (equated s sight ts t e) = s
place_of (tested s sight e) = s

-- ---- the units of a node, in order: declarations first, then equations, each by its parts in the order of their fields

abbrev pub declarations : Sight → Eqns → (Place → Place) → List Decl → List ClockUnit
declarations sight es here [] = []
declarations sight es here (d ∷ ds) =
    elim d.clock [ None ↦ declarations sight es here ds | Some path ↦ declared d.span sight (local_term es here d) (reverse path) ∷ declarations sight es here ds ]

abbrev pub conditions : Sight → List Trans → List ClockUnit
conditions sight [] = []
conditions sight (t ∷ ts) = tested (span_of t.cond) sight t.cond ∷ conditions sight ts

abbrev mutual
  -- a block at a place, in which names of further out are seen so
  pub units : Block → (Place → Place) → Sight → List ClockUnit
  units (block ds es) here out =
      declarations (sight_in ds es here out) es here ds ++ units_of_all es (below Equations here) (sight_in ds es here out) (λ x. term_in es here ds x)

  pub units_of_all : Eqns → (Place → Place) → Sight → (List ℕ → Term) → List ClockUnit
  units_of_all no_eqn here sight left = []
  units_of_all (more_eqns e es) here sight left = units_of_one e (below Head here) sight left ++ units_of_all es (below Tail here) sight left

  pub units_of_one : Eqn → (Place → Place) → Sight → (List ℕ → Term) → List ClockUnit
  units_of_one (define s ys e) here sight left = equated s sight (map (λ y. left y.0) ys) (open_at (here (Right ∷ []))) e ∷ []
  units_of_one (switch s e arms) here sight left = tested (span_of e) sight e ∷ units_of_arms arms (below ArmsOf here) sight
  units_of_one (reset s b e) here sight left = units b (below Body here) sight ++ (tested (span_of e) sight e ∷ [])
  units_of_one (automaton s ss) here sight left = units_of_states ss (below StatesOf here) sight

  pub units_of_arms : Arms → (Place → Place) → Sight → List ClockUnit
  units_of_arms no_arm here sight = []
  units_of_arms (more_arms c b s arms) here sight = units b (below Head here) sight ++ units_of_arms arms (below Tail here) sight

  pub units_of_states : States → (Place → Place) → Sight → List ClockUnit
  units_of_states no_state here sight = []
  units_of_states (more_states f b until unless s ss) here sight =
      units b (below Body (below Head here)) sight
      ++ (conditions (sight_of b (below Body (below Head here)) sight) until ++ (conditions sight unless ++ units_of_states ss (below Tail here) sight))

-- ---- nodes: inputs, outputs and controllable variables are on the base clock

abbrev pub known_on_base : Bool → Seen
known_on_base b = if b then own base else nowhere

abbrev pub contract_sight : Node → Sight
contract_sight n x = known_on_base (declares n.inputs x || declares n.outputs x)

abbrev pub body_sight : Node → Sight
body_sight n x = known_on_base (declares n.inputs x || (declares n.outputs x || declares (controls_of n.contract) x))

abbrev pub told : Sight → Option Expr → List ClockUnit
told sight None = []
told sight (Some e) = tested (span_of e) sight e ∷ []

abbrev pub in_observer : Place → Place
in_observer p = Observer ∷ p

abbrev pub in_body : Place → Place
in_body p = Body ∷ p

abbrev pub contract_units : Sight → Option Contract → List ClockUnit
contract_units out None = []
contract_units out (Some c) =
    units c.body in_observer out ++ (told (sight_of c.body in_observer out) c.assume ++ told (sight_of c.body in_observer out) c.enforce)

abbrev pub node_units : Node → List ClockUnit
node_units n = contract_units (contract_sight n) n.contract ++ units n.body in_body (body_sight n)

-- ---- writing the clocks

-- the clock of a local
abbrev pub with_clock : Assignment → Eqns → (Place → Place) → Decl → Decl
with_clock at es here d =
    record { name = d.name; ty = d.ty; last = d.last; clock = Some (reverse (value at (local_term es here d))); span = d.span }

abbrev pub base_written : Decl → Decl
base_written d = record { name = d.name; ty = d.ty; last = d.last; clock = Some []; span = d.span }

abbrev mutual
  pub with_clocks : Assignment → (Place → Place) → Block → Block
  with_clocks at here (block ds es) = block (map (with_clock at es here) ds) (all_with_clocks at (below Equations here) es)

  pub all_with_clocks : Assignment → (Place → Place) → Eqns → Eqns
  all_with_clocks at here no_eqn = no_eqn
  all_with_clocks at here (more_eqns e es) = more_eqns (one_with_clocks at (below Head here) e) (all_with_clocks at (below Tail here) es)

  pub one_with_clocks : Assignment → (Place → Place) → Eqn → Eqn
  one_with_clocks at here (define s ys e) = define s ys e
  one_with_clocks at here (switch s e arms) = switch s e (arms_with_clocks at (below ArmsOf here) arms)
  one_with_clocks at here (reset s b e) = reset s (with_clocks at (below Body here) b) e
  one_with_clocks at here (automaton s ss) = automaton s (states_with_clocks at (below StatesOf here) ss)

  pub arms_with_clocks : Assignment → (Place → Place) → Arms → Arms
  arms_with_clocks at here no_arm = no_arm
  arms_with_clocks at here (more_arms c b s arms) = more_arms c (with_clocks at (below Head here) b) s (arms_with_clocks at (below Tail here) arms)

  pub states_with_clocks : Assignment → (Place → Place) → States → States
  states_with_clocks at here no_state = no_state
  states_with_clocks at here (more_states f b until unless s ss) =
      more_states f (with_clocks at (below Body (below Head here)) b) until unless s (states_with_clocks at (below Tail here) ss)

abbrev pub contract_with_clocks : Assignment → Option Contract → Option Contract
contract_with_clocks at None = None
contract_with_clocks at (Some c) =
    Some (record { body = with_clocks at in_observer c.body; assume = c.assume; enforce = c.enforce; controls = map base_written c.controls; span = c.span })

abbrev pub node_with_clocks : Assignment → Node → Node
node_with_clocks at n =
    record {
      name = n.name;
      span = n.span;
      inputs = map base_written n.inputs;
      outputs = map base_written n.outputs;
      contract = contract_with_clocks at n.contract;
      body = with_clocks at in_body n.body;
    }

-- ---- where the places of clocks stand

abbrev pub no_sight : Sight
no_sight x = nowhere

-- how names are seen at each place that has a clock; elsewhere nothing is
abbrev mutual
  pub sights : Block → (Place → Place) → Sight → Place → Sight
  sights (block ds es) here out (Named x ∷ []) = sight_in ds es here out
  sights (block ds es) here out (Equations ∷ p) = sights_of_all es (below Equations here) (sight_in ds es here out) p
  sights (block ds es) here out p = no_sight

  pub sights_of_all : Eqns → (Place → Place) → Sight → Place → Sight
  sights_of_all (more_eqns e es) here sight (Head ∷ p) = sights_of_one e (below Head here) sight p
  sights_of_all (more_eqns e es) here sight (Tail ∷ p) = sights_of_all es (below Tail here) sight p
  sights_of_all es here sight p = no_sight

  pub sights_of_one : Eqn → (Place → Place) → Sight → Place → Sight
  sights_of_one (define s ys e) here sight (Right ∷ []) = sight
  sights_of_one (switch s e arms) here sight (ArmsOf ∷ p) = sights_of_arms arms (below ArmsOf here) sight p
  sights_of_one (reset s b e) here sight (Body ∷ p) = sights b (below Body here) sight p
  sights_of_one (automaton s ss) here sight (StatesOf ∷ p) = sights_of_states ss (below StatesOf here) sight p
  sights_of_one e here sight p = no_sight

  pub sights_of_arms : Arms → (Place → Place) → Sight → Place → Sight
  sights_of_arms (more_arms c b s arms) here sight (Head ∷ p) = sights b (below Head here) sight p
  sights_of_arms (more_arms c b s arms) here sight (Tail ∷ p) = sights_of_arms arms (below Tail here) sight p
  sights_of_arms arms here sight p = no_sight

  pub sights_of_states : States → (Place → Place) → Sight → Place → Sight
  sights_of_states (more_states f b until unless s ss) here sight (Head ∷ Body ∷ p) = sights b (below Body (below Head here)) sight p
  sights_of_states (more_states f b until unless s ss) here sight (Tail ∷ p) = sights_of_states ss (below Tail here) sight p
  sights_of_states ss here sight p = no_sight

abbrev pub contract_sights : Option Contract → Sight → Place → Sight
contract_sights None out p = no_sight
contract_sights (Some c) out p = sights c.body in_observer out p

abbrev pub node_sights : Node → Place → Sight
node_sights n (Observer ∷ p) = contract_sights n.contract (contract_sight n) p
node_sights n (Body ∷ p) = sights n.body in_body (body_sight n) p
node_sights n p = no_sight

-- In each clock `ck on C(x)` of the assignment the name x is on `ck`.
abbrev pub AreClocks : (Place → Sight) → Assignment → Type 0
AreClocks at_place at = (p : Place) → ClockRight (standing at (at_place p)) (at p)

-- ---- an assignment is allowed where each unit allows it

abbrev pub IsAllowed : Node → Assignment → Type 0
IsAllowed n at = AreClocks (node_sights n) at × AllAllow at (node_units n)

-- ---- what is true of each block

abbrev mutual
  pub EachBlock : (List Decl → Eqns → Type 0) → Block → Type 0
  EachBlock P (block ds es) = P ds es × EachOfAll P es

  pub EachOfAll : (List Decl → Eqns → Type 0) → Eqns → Type 0
  EachOfAll P no_eqn = ⊤
  EachOfAll P (more_eqns e es) = EachOfOne P e × EachOfAll P es

  pub EachOfOne : (List Decl → Eqns → Type 0) → Eqn → Type 0
  EachOfOne P (define s ys e) = ⊤
  EachOfOne P (switch s e arms) = EachOfArms P arms
  EachOfOne P (reset s b e) = EachBlock P b
  EachOfOne P (automaton s ss) = EachOfStates P ss

  pub EachOfArms : (List Decl → Eqns → Type 0) → Arms → Type 0
  EachOfArms P no_arm = ⊤
  EachOfArms P (more_arms c b s arms) = EachBlock P b × EachOfArms P arms

  pub EachOfStates : (List Decl → Eqns → Type 0) → States → Type 0
  EachOfStates P no_state = ⊤
  EachOfStates P (more_states f b until unless s ss) = EachBlock P b × EachOfStates P ss

abbrev pub EachInContract : (List Decl → Eqns → Type 0) → Option Contract → Type 0
EachInContract P None = ⊤
EachInContract P (Some c) = EachBlock P c.body

-- each local has an equation in its block
abbrev pub AreDefined : List Decl → Eqns → Type 0
AreDefined ds es = (x : List ℕ) → IsTrue (declares ds x) → IsTrue (some_defines es x)

-- each declaration is the one that its name finds
abbrev pub AreFound : List Decl → List Decl → Type 0
AreFound all [] = ⊤
AreFound all (d ∷ ds) = (clock_in all d.name ≡ written d.clock) × AreFound all ds

-- each name is declared once
abbrev pub AreOnce : List Decl → Type 0
AreOnce [] = ⊤
AreOnce (d ∷ ds) = (declares ds d.name ≡ false) × AreOnce ds

-- each clock is written
abbrev pub IsWritten : Option (List On) → Type 0
IsWritten None = ⊥
IsWritten (Some path) = ⊤

abbrev pub AreWritten : List Decl → Type 0
AreWritten [] = ⊤
AreWritten (d ∷ ds) = IsWritten d.clock × AreWritten ds

abbrev pub AreOnBase : List Decl → Type 0
AreOnBase [] = ⊤
AreOnBase (d ∷ ds) = (d.clock ≡ Some []) × AreOnBase ds

abbrev pub ControlsWritten : Option Contract → Type 0
ControlsWritten None = ⊤
ControlsWritten (Some c) = AreOnBase c.controls

pub record NodeWritten (n : Node) : Type 0 where
  pub inputs : AreOnBase n.inputs
  pub outputs : AreOnBase n.outputs
  pub controls : ControlsWritten n.contract
  pub body : EachBlock (λ ds es. AreWritten ds) n.body
  pub contract : EachInContract (λ ds es. AreWritten ds) n.contract

abbrev pub NodeFound : Node → Type 0
NodeFound n = EachBlock (λ ds es. AreFound ds ds) n.body × EachInContract (λ ds es. AreFound ds ds) n.contract

-- In each block each local is declared once, and has an equation.
abbrev pub NamesRight : List Decl → Eqns → Type 0
NamesRight ds es = AreOnce ds × AreDefined ds es

abbrev pub locals_declare : Block → List ℕ → Bool
locals_declare (block ds es) x = declares ds x

-- and outputs are no locals of the body
abbrev pub NodeNamed : Node → Type 0
NodeNamed n =
    EachBlock NamesRight n.body × EachInContract NamesRight n.contract × ((x : List ℕ) → IsTrue (declares n.outputs x) → IsTrue (locals_declare n.body x) → ⊥)

abbrev pub LocalsDefined : Block → Type 0
LocalsDefined b = EachBlock AreDefined b

abbrev pub AllDefined : Eqns → Type 0
AllDefined es = EachOfAll AreDefined es

abbrev pub OneDefined : Eqn → Type 0
OneDefined e = EachOfOne AreDefined e

abbrev pub ArmsDefined : Arms → Type 0
ArmsDefined arms = EachOfArms AreDefined arms

abbrev pub StatesDefined : States → Type 0
StatesDefined ss = EachOfStates AreDefined ss

abbrev pub ContractDefined : Option Contract → Type 0
ContractDefined c = EachInContract AreDefined c

-- Outputs are no locals of the body.
abbrev pub NodeDefined : Node → Type 0
NodeDefined n =
    LocalsDefined n.body × ContractDefined n.contract × ((x : List ℕ) → IsTrue (declares n.outputs x) → IsTrue (locals_declare n.body x) → ⊥)

-- ---- the clocks of a program as it is: one that is not written is the base clock

abbrev mutual
  pub clocks_of : Block → Place → Clock
  clocks_of (block ds es) (Named x ∷ []) = clock_in ds x
  clocks_of (block ds es) (Equations ∷ p) = clocks_of_all ds es p
  clocks_of (block ds es) p = []

  pub clocks_of_all : List Decl → Eqns → Place → Clock
  clocks_of_all ds (more_eqns e es) (Head ∷ p) = clocks_of_one ds e p
  clocks_of_all ds (more_eqns e es) (Tail ∷ p) = clocks_of_all ds es p
  clocks_of_all ds es p = []

  pub clocks_of_one : List Decl → Eqn → Place → Clock
  clocks_of_one ds (define s ys e) (Right ∷ []) = clock_of ds ys e
  clocks_of_one ds (switch s e arms) (ArmsOf ∷ p) = clocks_of_arms arms p
  clocks_of_one ds (reset s b e) (Body ∷ p) = clocks_of b p
  clocks_of_one ds (automaton s ss) (StatesOf ∷ p) = clocks_of_states ss p
  clocks_of_one ds e p = []

  pub clocks_of_arms : Arms → Place → Clock
  clocks_of_arms (more_arms c b s arms) (Head ∷ p) = clocks_of b p
  clocks_of_arms (more_arms c b s arms) (Tail ∷ p) = clocks_of_arms arms p
  clocks_of_arms arms p = []

  pub clocks_of_states : States → Place → Clock
  clocks_of_states (more_states f b until unless s ss) (Head ∷ Body ∷ p) = clocks_of b p
  clocks_of_states (more_states f b until unless s ss) (Tail ∷ p) = clocks_of_states ss p
  clocks_of_states ss p = []

abbrev pub clocks_of_contract : Option Contract → Place → Clock
clocks_of_contract None p = []
clocks_of_contract (Some c) p = clocks_of c.body p

abbrev pub clocks_of_node : Node → Assignment
clocks_of_node n (Observer ∷ p) = clocks_of_contract n.contract p
clocks_of_node n (Body ∷ p) = clocks_of n.body p
clocks_of_node n p = []
