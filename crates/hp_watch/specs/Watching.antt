-- The early and late variables of a node.
-- Source: own; a free place of the Boolean abstraction is a variable of the clocked equations, and what the controller sees of it are its bits on the base clock.
use Rattle.std.specs.Prelude.{◌≡◌, ℕ, zero, suc, ◌+◌, Bool, true, false, if◌then◌else◌, List, [], ◌∷◌, ◌++◌, length, map, slice_get, Option, None, Some}
use Rattle.std.specs.List.{flat_map, range_with_len}
use Rattle.hp_base.specs.declared.value.Value.TheVariants.{I}
use Rattle.hp_tree.specs.Programs.{Contract, Node}
use Rattle.hp_obc.specs.Machines.{ObcType}
use Rattle.hp_tables.specs.Declarations.Tables.{said_in}
use Rattle.hp_flat.specs.declared.equation.Atom.{Atom}
use Rattle.hp_flat.specs.declared.equation.Atom.TheVariants.{Variable as Read, Value as Fixed}
use Rattle.hp_flat.specs.declared.node.FlatTy.{FlatTy}
use Rattle.hp_flat.specs.declared.node.FlatTy.TheVariants.{Int}
use Rattle.hp_flat.specs.Equations.{Clock, Right, operator, register, called, FlatEqn}
use Rattle.hp_flat.specs.Nodes.{FlatNode}
use Rattle.hp_watch.specs.declared.embedding.Shift.{Shift}
use Rattle.hp_watch.specs.declared.watching.Free.{Free}
use Rattle.hp_watch.specs.declared.watching.Observer as held
use Rattle.hp_watch.specs.declared.watching.Observers as all_held
use Rattle.hp_watch.specs.declared.watching.Watched as made
use Rattle.hp_watch.specs.Walk.{events_from, in_block, walk_block, walk_contract}
use Rattle.hp_watch.specs.Adding.{type_at}
use Rattle.hp_watch.specs.Lifting.{lifted, Spelled, spelled}
use Rattle.hp_watch.specs.Embedding.{Site, embedded, shift_of}

-- ---- free places

abbrev pub is_integer : FlatTy → Bool
is_integer Int = true
is_integer other = false

-- whether an atom is an integer
abbrev pub reads_integer : FlatNode → Atom → Bool
reads_integer n (Read x) = is_integer (type_at n x)
reads_integer n (Fixed (I v)) = true
reads_integer n (Fixed other) = false

-- whether what is compared are integers
abbrev pub compares_integers : FlatNode → List Atom → Bool
compares_integers n [] = false
compares_integers n (a ∷ args) = reads_integer n a

-- a variable that an equation defines is a free place, unless it is an integer
abbrev pub free_target : FlatNode → ℕ → ℕ → List Free
free_target n k x = if is_integer (type_at n x) then [] else record { variable = x; eqn = Some k } ∷ []

-- the free places that an equation with this number gives: whether integers compare so, and outputs of a call that are no integers
abbrev pub free_by : FlatNode → ℕ → Right → List ℕ → List Free
free_by n k (operator o args) targets = if compares_integers n args then flat_map (free_target n k) targets else []
free_by n k (register first next) targets = []
free_by n k (called f args) targets = flat_map (free_target n k) targets

abbrev pub free_of : FlatNode → ℕ → Option FlatEqn → List Free
free_of n k None = []
free_of n k (Some e) = free_by n k e.right e.targets

-- those of the equation with a number
abbrev pub free_at : FlatNode → ℕ → List Free
free_at n k = free_of n k (slice_get n.eqns k)

-- an input is a free place, unless it is an integer; it is there always
abbrev pub free_input : FlatNode → ℕ → List Free
free_input n x = if is_integer (type_at n x) then [] else record { variable = x; eqn = None } ∷ []

abbrev pub free_inputs : FlatNode → ℕ → List Free
free_inputs n count = flat_map (free_input n) (range_with_len 0 count)

-- ---- observers

-- the clocked equations of a contract, and its free places in order
pub record Observed : Type 0 where
  pub node : FlatNode
  pub free : List Free

-- as the code holds it
abbrev pub observer_seen : held.Observer → Observed
observer_seen o = record { node = o.node; free = o.free.items }

abbrev pub observed : Contract → FlatNode → Observed
observed c n = record { node = n; free = flat_map (free_at n) (walk_contract c (events_from 0 n.eqns)).0 }

-- observers by the names of the nodes that they belong to
abbrev pub Observing : Type 0
Observing = List ℕ → Option Observed

abbrev pub seen_at : List held.Observer → Option ℕ → Option Observed
seen_at os None = None
seen_at os (Some k) = elim (slice_get os k) [ None ↦ None | Some o ↦ Some (observer_seen o) ]

abbrev pub observers_seen : all_held.Observers → Observing
observers_seen o f = seen_at o.all.items (said_in o.names f)

-- a free place of an observer where that stands in a node
abbrev pub moved_number : ℕ → Option ℕ → Option ℕ
moved_number by None = None
moved_number by (Some k) = Some (k + by)

abbrev pub moved_free : Shift → Free → Free
moved_free s f = record { variable = f.variable + s.variables; eqn = moved_number s.eqns f.eqn }

-- ---- where observers are put

abbrev pub reads : List ℕ → List Atom
reads xs = map (λ x. Read x) xs

-- that of the node's own contract: on the base clock, over its own inputs, of which there are so many, and its outputs
abbrev pub own_site : ℕ → FlatNode → Site
own_site inputs n = record { clock = []; restart = []; inputs = reads (range_with_len 0 inputs) ++ reads n.outputs }

-- that of a node that is called: where the equation is, over the arguments and the outputs of the call
abbrev pub args_of : Right → List Atom
args_of (called f args) = args
args_of other = []

abbrev pub site_of : FlatEqn → Site
site_of e = record { clock = e.clock; restart = e.restart; inputs = args_of e.right ++ reads e.targets }

-- the observer of the node that an equation calls
abbrev pub called_by : Observing → Right → Option Observed
called_by observers (called f args) = observers f
called_by observers other = None

-- a node with observers, and where those of its equations' calls stand, by the numbers of the equations
pub record Placed : Type 0 where
  pub node : FlatNode
  pub shifts : List (Option Shift)

abbrev pub with_observer : Option Observed → Site → Placed → Placed
with_observer None site p = record { node = p.node; shifts = p.shifts ++ None ∷ [] }
with_observer (Some o) site p = record { node = embedded o.node site p.node; shifts = p.shifts ++ Some (shift_of o.node site p.node) ∷ [] }

abbrev pub with_called : Observing → Option FlatEqn → Placed → Placed
with_called observers None p = with_observer None (record { clock = []; restart = []; inputs = [] }) p
with_called observers (Some e) p = with_observer (called_by observers e.right) (site_of e) p

abbrev pub with_called_at : Observing → ℕ → Placed → Placed
with_called_at observers k p = with_called observers (slice_get p.node.eqns k) p

abbrev pub placed_as : FlatNode → List (Option Shift) → Placed
placed_as n shifts = record { node = n; shifts = shifts }

-- the node with the observers of the calls among its first so many equations
abbrev pub placed : Observing → ℕ → FlatNode → Placed
placed observers zero n = record { node = n; shifts = [] }
placed observers (suc k) n = with_called_at observers k (placed observers k n)

-- where the observer of a call stands, if it stands there
abbrev pub or_none : Option (Option Shift) → Option Shift
or_none None = None
or_none (Some s) = s

abbrev pub shift_at : List (Option Shift) → ℕ → Option Shift
shift_at shifts k = or_none (slice_get shifts k)

-- the free places of an observer where it stands, if it stands there
abbrev pub free_moved : Option Observed → Option Shift → List Free
free_moved None s = []
free_moved (Some o) None = []
free_moved (Some o) (Some s) = map (moved_free s) o.free

-- the free places of a comparison or a call: behind the outputs of a call stand those of the contract of the node that is called
abbrev pub free_placed_by : Observing → Placed → ℕ → Option FlatEqn → List Free
free_placed_by observers p k None = []
free_placed_by observers p k (Some e) = free_by p.node k e.right e.targets ++ free_moved (called_by observers e.right) (shift_at p.shifts k)

abbrev pub free_placed : Observing → Placed → ℕ → List Free
free_placed observers p k = free_placed_by observers p k (slice_get p.node.eqns k)

-- ---- all free places

-- a node with observers, and its free places in order
pub record Surveyed : Type 0 where
  pub node : FlatNode
  pub free : List Free

-- the comparisons and calls of a node's body in the order of places, by the numbers of their equations
abbrev pub walked : Node → FlatNode → List ℕ
walked node n = (walk_block node.body (events_from 0 n.eqns)).0

-- Of a node that has this observer: its inputs, its contract, and its body, whose comparisons and calls stand in an order.
abbrev pub surveyed : Observing → Observed → ℕ → List ℕ → FlatNode → Surveyed
surveyed observers own inputs order n =
    let site = own_site inputs n in
    let p = placed observers (length n.eqns) (embedded own.node site n) in
    record { node = p.node; free = (free_inputs n inputs ++ map (moved_free (shift_of own.node site n)) own.free) ++ flat_map (free_placed observers p) order }

-- There is an observer of the node, and so it is surveyed.
pub record IsSurveyed (observers : Observing) (inputs : ℕ) (order : List ℕ) (n other : FlatNode) (free : List Free) : Type 0 where
  pub own : Observed
  pub has : observers n.name ≡ Some own
  pub node : other ≡ (surveyed observers own inputs order n).node
  pub places : free ≡ (surveyed observers own inputs order n).free

-- ---- their bits

-- the clock of a free place
abbrev pub clock_by : Option FlatEqn → Clock
clock_by None = []
clock_by (Some e) = e.clock

abbrev pub clock_of : FlatNode → Option ℕ → Clock
clock_of n None = []
clock_of n (Some k) = clock_by (slice_get n.eqns k)

-- the bits of a free place on the base clock
abbrev pub spelled_place : List ObcType → Free → FlatNode → Spelled
spelled_place types f n =
    let value = lifted types [] (clock_of n f.eqn) f.variable n in
    spelled types value.value value.node

-- a node with more variables and equations: those that have the early and the late bits of its machine, in order
pub record Watched : Type 0 where
  pub node : FlatNode
  pub early : List ℕ
  pub late : List ℕ

-- as the code holds it
abbrev pub watched_seen : made.Watched → Watched
watched_seen w = record { node = w.node; early = w.early.items; late = w.late.items }

-- the bits of a place, which is early or late
abbrev pub with_place : List ObcType → Free → Bool → Watched → Watched
with_place types f is_early w =
    let s = spelled_place types f w.node in
    if is_early then record { node = s.node; early = w.early ++ s.bits; late = w.late } else record { node = s.node; early = w.early; late = w.late ++ s.bits }

-- those of places, of which it is said which are early
abbrev pub with_places : List ObcType → List Free → List Bool → Watched → Watched
with_places types [] es w = w
with_places types (f ∷ fs) [] w = w
with_places types (f ∷ fs) (e ∷ es) w = with_places types fs es (with_place types f e w)

-- a node of which nothing is watched yet
abbrev pub unwatched : FlatNode → Watched
unwatched n = record { node = n; early = []; late = [] }

-- the node that is watched
abbrev pub watched_by : List ObcType → List Bool → Surveyed → Watched
watched_by types is_early s = with_places types s.free is_early (unwatched s.node)

-- The clocked equations are those of the node: they have as many comparisons and calls, there is an observer of the node, and there are as many free places as it is said of
-- which are early.
pub record Fits (observers : Observing) (node : Node) (is_early : List Bool) (n : FlatNode) : Type 0 where
  pub events : in_block node.body ≡ length (events_from 0 n.eqns)
  pub own : Observed
  pub has : observers n.name ≡ Some own
  pub places : length (surveyed observers own (length node.inputs) (walked node n) n).free ≡ length is_early

-- They fit, and this is the node that is watched.
pub record IsWatched (types : List ObcType) (observers : Observing) (node : Node) (is_early : List Bool) (n : FlatNode) (w : Watched) : Type 0 where
  pub fits : Fits observers node is_early n
  pub is : w ≡ watched_by types is_early (surveyed observers fits.own (length node.inputs) (walked node n) n)
