-- The units of a node, with cells in place of terms. The variables of a part, which are its locals and its basic equations, have the cells from a number on, in the order of the text.
use Rattle.std.specs.Prelude.{ℕ, ◌+◌, ◌≡◌, ⊤, Bool, ◌||◌, if◌then◌else◌, List, [], ◌∷◌, ◌++◌, length, map, reverse, Option, None, Some}
use Rattle.std.specs.Str.{bytes_eq}
use Rattle.hp_base.specs.declared.span.Span.{Span}
use Rattle.hp_base.specs.declared.ty.Const.{Const}
use Rattle.hp_tree.specs.declared.block.Trans.{Trans}
use Rattle.hp_tree.specs.Expressions.{Expr}
use Rattle.hp_tree.specs.Blocks.{Decl, Block, block, Eqns, no_eqn, more_eqns, Eqn, define, switch, reset, automaton, Arms, no_arm, more_arms, States, no_state, more_states}
use Rattle.hp_tree.specs.Programs.{Contract, Node}
use Rattle.hp_tree.specs.Instant.{Clock}
use Rattle.hp_tree.specs.Meaning.{declares, some_defines, controls_of}
use Rattle.hp_meaning.specs.Causal.Points.{span_of}
use Rattle.hp_meaning.specs.Causal.Clocked.{ClockRight, IsOn}
use Rattle.hp_meaning.specs.Clocking.Clocking.{controls_define}
use Rattle.hp_clocks.specs.declared.layer.Seen.{Seen}
use Rattle.hp_clocks.specs.declared.layer.Seen.TheVariants as seen
use Rattle.hp_clocks.specs.Cells.{Clocks}
use Rattle.hp_clocks.specs.Scopes.{Sight, standing}

-- ---- how many variables a part has

abbrev mutual
  pub size : Block → ℕ
  size (block ds es) = length ds + size_of_all es

  pub size_of_all : Eqns → ℕ
  size_of_all no_eqn = 0
  size_of_all (more_eqns e es) = size_of e + size_of_all es

  pub size_of : Eqn → ℕ
  size_of (define s ys e) = 1
  size_of (switch s e arms) = size_of_arms arms
  size_of (reset s b e) = size b
  size_of (automaton s ss) = size_of_states ss

  pub size_of_arms : Arms → ℕ
  size_of_arms no_arm = 0
  size_of_arms (more_arms c b s arms) = size b + size_of_arms arms

  pub size_of_states : States → ℕ
  size_of_states no_state = 0
  size_of_states (more_states f b until unless s ss) = size b + size_of_states ss

abbrev pub size_of_contract : Option Contract → ℕ
size_of_contract None = 0
size_of_contract (Some c) = size c.body

abbrev pub size_of_node : Node → ℕ
size_of_node n = size_of_contract n.contract + size n.body

-- ---- cells of locals

-- the number of a name that is declared; of two with one name that of the first
abbrev pub number_in : ℕ → List Decl → List ℕ → Option ℕ
number_in k [] x = None
number_in k (d ∷ ds) x = if bytes_eq d.name x then Some k else number_in (k + 1) ds x

abbrev pub or_base : Option ℕ → ℕ
or_base None = 0
or_base (Some i) = i

abbrev pub local_cell : Option Const → Bool → ℕ → ℕ
local_cell None defined i = if defined then 0 else i
local_cell (Some c) defined i = 0

-- the cell of a local of these
abbrev pub cell_of : Eqns → ℕ → List Decl → Decl → ℕ
cell_of es k all d = local_cell d.last (controls_define es d.name) (or_base (number_in k all d.name))

-- the cell of a name, where these are some of the locals
abbrev pub cell_in : Eqns → ℕ → List Decl → List Decl → List ℕ → ℕ
cell_in es k all [] x = 0
cell_in es k all (d ∷ ds) x = if bytes_eq d.name x then cell_of es k all d else cell_in es k all ds x

-- ---- how names are seen

abbrev pub from_inside : Seen → Seen
from_inside seen.Nowhere = seen.Nowhere
from_inside (seen.Own i) = seen.Further i
from_inside (seen.Further i) = seen.Further i

abbrev pub sight_in : ℕ → List Decl → Eqns → Sight → Sight
sight_in k ds es out x = if some_defines es x then seen.Own (cell_in es k ds ds x) else from_inside (out x)

abbrev pub sight_of : ℕ → Block → Sight → Sight
sight_of k (block ds es) out = sight_in k ds es out

abbrev pub on_base : Bool → Seen
on_base b = if b then seen.Own 0 else seen.Nowhere

abbrev pub contract_sight : Node → Sight
contract_sight n x = on_base (declares n.inputs x || declares n.outputs x)

abbrev pub body_sight : Node → Sight
body_sight n x = on_base (declares n.inputs x || (declares n.outputs x || declares (controls_of n.contract) x))

-- ---- units

pub data CellUnit : Type 0 where
  -- a declaration: the cell of its name, and the clock that is written
  declared : Span → Sight → ℕ → Clock → CellUnit
  -- a basic equation: the cells of its names, that of its right side, and the right side
  equated : Span → Sight → List ℕ → ℕ → Expr → CellUnit
  -- a condition, or an expression of a contract
  tested : Span → Sight → Expr → CellUnit

abbrev pub AllAre : Clocks → List ℕ → Clock → Type 0
AllAre at [] c = ⊤
AllAre at (i ∷ is) c = (at i ≡ c) × AllAre at is c

abbrev pub Allows : Clocks → CellUnit → Type 0
Allows at (declared s sight i c) = ClockRight (standing at sight) c × (at i ≡ c)
Allows at (equated s sight is i e) = AllAre at is (at i) × IsOn (standing at sight) e (at i)
Allows at (tested s sight e) = IsOn (standing at sight) e []

abbrev pub AllAllow : Clocks → List CellUnit → Type 0
AllAllow at [] = ⊤
AllAllow at (u ∷ us) = Allows at u × AllAllow at us

abbrev pub place_of : CellUnit → Span
place_of (declared s sight i c) = s
place_of (equated s sight is i e) = s
place_of (tested s sight e) = s

-- ---- the units of a node

abbrev pub declarations : Sight → Eqns → ℕ → List Decl → List Decl → List CellUnit
declarations sight es k all [] = []
declarations sight es k all (d ∷ ds) =
    elim d.clock [ None ↦ declarations sight es k all ds | Some path ↦ declared d.span sight (cell_of es k all d) (reverse path) ∷ declarations sight es k all ds ]

abbrev pub conditions : Sight → List Trans → List CellUnit
conditions sight [] = []
conditions sight (t ∷ ts) = tested (span_of t.cond) sight t.cond ∷ conditions sight ts

-- the cells of the names on a left side that the block defines
abbrev pub own_cell : Seen → List ℕ → List ℕ
own_cell seen.Nowhere is = is
own_cell (seen.Own i) is = i ∷ is
own_cell (seen.Further i) is = is

abbrev pub left_cells : Sight → List (List ℕ × Span) → List ℕ
left_cells sight [] = []
left_cells sight (y ∷ ys) = own_cell (sight y.0) (left_cells sight ys)

abbrev mutual
  pub units : ℕ → Block → Sight → List CellUnit
  units k (block ds es) out = declarations (sight_in k ds es out) es k ds ds ++ units_of_all (k + length ds) es (sight_in k ds es out)

  pub units_of_all : ℕ → Eqns → Sight → List CellUnit
  units_of_all k no_eqn sight = []
  units_of_all k (more_eqns e es) sight = units_of_one k e sight ++ units_of_all (k + size_of e) es sight

  pub units_of_one : ℕ → Eqn → Sight → List CellUnit
  units_of_one k (define s ys e) sight = equated s sight (left_cells sight ys) k e ∷ []
  units_of_one k (switch s e arms) sight = tested (span_of e) sight e ∷ units_of_arms k arms sight
  units_of_one k (reset s b e) sight = units k b sight ++ (tested (span_of e) sight e ∷ [])
  units_of_one k (automaton s ss) sight = units_of_states k ss sight

  pub units_of_arms : ℕ → Arms → Sight → List CellUnit
  units_of_arms k no_arm sight = []
  units_of_arms k (more_arms c b s arms) sight = units k b sight ++ units_of_arms (k + size b) arms sight

  pub units_of_states : ℕ → States → Sight → List CellUnit
  units_of_states k no_state sight = []
  units_of_states k (more_states f b until unless s ss) sight =
      units k b sight ++ (conditions (sight_of k b sight) until ++ (conditions sight unless ++ units_of_states (k + size b) ss sight))

abbrev pub told : Sight → Option Expr → List CellUnit
told sight None = []
told sight (Some e) = tested (span_of e) sight e ∷ []

abbrev pub contract_units : ℕ → Sight → Option Contract → List CellUnit
contract_units k out None = []
contract_units k out (Some c) =
    units k c.body out ++ (told (sight_of k c.body out) c.assume ++ told (sight_of k c.body out) c.enforce)

-- The first cell is the base clock.
abbrev pub node_units : Node → List CellUnit
node_units n = contract_units 1 (contract_sight n) n.contract ++ units (1 + size_of_contract n.contract) n.body (body_sight n)

-- ---- the cells of locals and of right sides

abbrev mutual
  pub locals : ℕ → Block → List ℕ
  locals k (block ds es) = map (λ d. cell_of es k ds d) ds ++ locals_in_all (k + length ds) es

  pub locals_in_all : ℕ → Eqns → List ℕ
  locals_in_all k no_eqn = []
  locals_in_all k (more_eqns e es) = locals_in_one k e ++ locals_in_all (k + size_of e) es

  pub locals_in_one : ℕ → Eqn → List ℕ
  locals_in_one k (define s ys e) = []
  locals_in_one k (switch s e arms) = locals_in_arms k arms
  locals_in_one k (reset s b e) = locals k b
  locals_in_one k (automaton s ss) = locals_in_states k ss

  pub locals_in_arms : ℕ → Arms → List ℕ
  locals_in_arms k no_arm = []
  locals_in_arms k (more_arms c b s arms) = locals k b ++ locals_in_arms (k + size b) arms

  pub locals_in_states : ℕ → States → List ℕ
  locals_in_states k no_state = []
  locals_in_states k (more_states f b until unless s ss) = locals k b ++ locals_in_states (k + size b) ss

abbrev pub locals_of_contract : Option Contract → List ℕ
locals_of_contract None = []
locals_of_contract (Some c) = locals 1 c.body

abbrev pub locals_of_node : Node → List ℕ
locals_of_node n = locals_of_contract n.contract ++ locals (1 + size_of_contract n.contract) n.body

abbrev pub Right : Type 0
Right = ℕ × Expr

abbrev pub tests : List Trans → List Right
tests ts = map (λ t. (0, t.cond)) ts

abbrev pub test_of : Expr → List Right
test_of e = (0, e) ∷ []

abbrev mutual
  pub rights : ℕ → Block → List Right
  rights k (block ds es) = rights_in_all (k + length ds) es

  pub rights_in_all : ℕ → Eqns → List Right
  rights_in_all k no_eqn = []
  rights_in_all k (more_eqns e es) = rights_in_one k e ++ rights_in_all (k + size_of e) es

  pub rights_in_one : ℕ → Eqn → List Right
  rights_in_one k (define s ys e) = (k, e) ∷ []
  rights_in_one k (switch s e arms) = test_of e ++ rights_in_arms k arms
  rights_in_one k (reset s b e) = rights k b ++ test_of e
  rights_in_one k (automaton s ss) = rights_in_states k ss

  pub rights_in_arms : ℕ → Arms → List Right
  rights_in_arms k no_arm = []
  rights_in_arms k (more_arms c b s arms) = rights k b ++ rights_in_arms (k + size b) arms

  pub rights_in_states : ℕ → States → List Right
  rights_in_states k no_state = []
  rights_in_states k (more_states f b until unless s ss) =
      rights k b ++ (tests until ++ (tests unless ++ rights_in_states (k + size b) ss))

abbrev pub rights_told : Option Expr → List Right
rights_told None = []
rights_told (Some e) = test_of e

abbrev pub rights_of_contract : Option Contract → List Right
rights_of_contract None = []
rights_of_contract (Some c) = rights 1 c.body ++ (rights_told c.assume ++ rights_told c.enforce)

abbrev pub rights_of_node : Node → List Right
rights_of_node n = rights_of_contract n.contract ++ rights (1 + size_of_contract n.contract) n.body
