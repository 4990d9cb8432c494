-- Clocks of equations that are added to a node are short.
use Rattle.std.proofs.Common.{◌≡◌, ℕ, zero, suc, ◌+◌, ◌-◌, ◌<◌, ◌≤◌, Bool, true, false, if◌then◌else◌, List, [], ◌∷◌, ◌++◌, length, Option, None, Some, slice_get, refl, sym, ap, subst, ◌∙◌, arith}
use Rattle.std.specs.List.{AllByRecursion, range_with_len}
use Rattle.std.proofs.lemmas.List.{append_assoc, append-nil, length-append}
use Rattle.hp_base.specs.declared.value.Value.TheVariants.{B}
use Rattle.hp_boolx.specs.Machine.{Machine}
use Rattle.hp_boolx.specs.declared.gate.Gate.{Gate}
use Rattle.hp_boolx.specs.Search.{Bits}
use Rattle.hp_obc.specs.Machines.{ObcType}
use Rattle.hp_obc.specs.declared.command.ObcOp.{ObcOp}
use Rattle.hp_obc.specs.declared.command.ObcOp.TheVariants.{Copy, Or}
use Rattle.hp_tree.specs.Programs.{Node}
use Rattle.hp_flat.specs.declared.equation.Atom.{Atom}
use Rattle.hp_flat.specs.declared.equation.Atom.TheVariants.{Variable as Read, Value as Fixed}
use Rattle.hp_flat.specs.declared.node.FlatTy.{FlatTy}
use Rattle.hp_flat.specs.declared.node.FlatTy.TheVariants as ty
use Rattle.hp_flat.specs.declared.node.Variable.{Variable}
use Rattle.hp_flat.specs.Equations.{Clock, Right, operator, register, called, FlatEqn}
use Rattle.hp_flat.specs.Nodes.{FlatNode}
use Rattle.hp_watch.specs.Adding.{next_variable, operator_eqn, type_at, with_copy, with_eqn, with_operator, with_variable}
use Rattle.hp_watch.specs.Embedding.{Site, embedded, moved_clock, moved_eqn, with_inputs, with_moved, with_room, with_variables}
use Rattle.hp_watch.specs.Lifting.{Valued, case_eqn, count_of, either, lifted, width_of, with_bit, with_bits, with_code, with_each, with_either, with_spelling, with_step, with_test}
use Rattle.hp_watch.specs.Watching.{IsWatched, Observed, Observing, Placed, Watched, called_by, clock_by, clock_of, own_site, placed, site_of, spelled_place, surveyed, unwatched, walked, with_called, with_called_at, with_observer, with_place, with_places}
use Rattle.hp_watch.specs.declared.watching.Free.{Free}
use Rattle.hp_controller.specs.Controlled.{controlled, decoded_controls, placing_of}
use Rattle.hp_controller.specs.Decoding.{control_eqns, controls_eqns, tree}
use Rattle.hp_controller.specs.Gates.{gate_eqns}
use Rattle.hp_controller.specs.Steps.{asking_eqn, places, register_eqns, register_places, step_eqns}
use Rattle.hp_controller.specs.declared.decoding.Control.{Control}
use Rattle.hp_controller.specs.declared.decoding.ControlKind.{ControlKind}
use Rattle.hp_controller.specs.declared.decoding.ControlKind.TheVariants.{Truth, Constructor}
use Rattle.law_choices.proofs.AddingLemmas.Placed.{same_eqns, transfer}
use Rattle.law_choices.specs.InTurn.Nodes.{Contracted, IsContracted, controller_name}

-- no clock has more steps
abbrev pub AllShort : ℕ → List FlatEqn → Type 0
AllShort limit es = AllByRecursion (λ (e : FlatEqn). length e.clock ≤ limit) es

both : {A : Type 0} (P : A → Type 0) (xs ys : List A) → AllByRecursion P xs → AllByRecursion P ys → AllByRecursion P (xs ++ ys)
both P [] ys h k = k
both P (x ∷ xs) ys h k = (h.0, both P xs ys h.1 k)

longer : (m limit : ℕ) → m ≤ limit → (es : List FlatEqn) → AllShort m es → AllShort limit es
longer m limit l [] h = tt
longer m limit l (e ∷ es) h = ((let a = h.0 in omega (arith, a, l)), longer m limit l es h.1)

-- the clock of an equation that is there
clock_short : (limit : ℕ) (es : List FlatEqn) (k : ℕ) → AllShort limit es → length (clock_by (slice_get es k)) ≤ limit
clock_short limit [] k h = omega arith
clock_short limit (e ∷ es) zero h = h.0
clock_short limit (e ∷ es) (suc k) h = clock_short limit es k h.1

front_short : (limit : ℕ) (es more : List FlatEqn) (k : ℕ) → k < length es → AllShort limit es → length (clock_by (slice_get (es ++ more) k)) ≤ limit
front_short limit [] more k l h = absurd (omega (arith, l))
front_short limit (e ∷ es) more zero l h = h.0
front_short limit (e ∷ es) more (suc k) l h = front_short limit es more k (omega (arith, l)) h.1

-- ---- more equations, whose clocks are short

-- The other node has more equations, whose clocks have at most 256 steps: so many have those of a call and of an observer together.
record Grown (n m : FlatNode) : Type 0 where
  more : List FlatEqn
  eqns : m.eqns ≡ n.eqns ++ more
  short : AllShort 256 more

all_grown : (n m : FlatNode) → Grown n m → AllShort 256 n.eqns → AllShort 256 m.eqns
all_grown n m g h = subst (AllShort 256) (sym g.eqns) (both (λ (e : FlatEqn). length e.clock ≤ 256) n.eqns g.more h g.short)

stays : (n : FlatNode) → Grown n n
stays n = record { more = []; eqns = sym (append-nil n.eqns); short = tt }

further : (n m k : FlatNode) → Grown n m → Grown m k → Grown n k
further n m k g h = record {
  more = g.more ++ h.more;
  eqns = h.eqns ∙ ap (λ es. es ++ h.more) g.eqns ∙ append_assoc n.eqns g.more h.more;
  short = both (λ (e : FlatEqn). length e.clock ≤ 256) g.more h.more g.short h.short;
}

by_variable : (t : FlatTy) (n : FlatNode) → Grown n (with_variable t n)
unfolding with_variable
by_variable t n = record { more = []; eqns = sym (append-nil n.eqns); short = tt }

by_eqn : (e : FlatEqn) (n : FlatNode) → length e.clock ≤ 256 → Grown n (with_eqn e n)
unfolding with_eqn
by_eqn e n l = record { more = e ∷ []; eqns = refl; short = (l, tt) }

by_operator : (t : FlatTy) (op : ObcOp) (args : List Atom) (n : FlatNode) → Grown n (with_operator t op args n)
by_operator t op args n = further n (with_variable t n) (with_operator t op args n) (by_variable t n) (by_eqn (operator_eqn (next_variable n) [] op args) (with_variable t n) (omega arith))

by_each : (f : ℕ → FlatNode → FlatNode) → ((k : ℕ) (m : FlatNode) → Grown m (f k m)) → (count : ℕ) (n : FlatNode) → Grown n (with_each f count n)
by_each f h zero n = stays n
by_each f h (suc k) n = further n (with_each f k n) (f k (with_each f k n)) (by_each f h k n) (h k (with_each f k n))

-- ---- values on the base clock, and their bits

by_step : (types : List ObcType) (clock : Clock) (step : ℕ × ℕ) (value : ℕ) (n : FlatNode) → length clock < 256 → Grown n (with_step types clock step value n)
by_step types clock step value n l =
    let t = type_at n value in
    let case = λ (k : ℕ). case_eqn (next_variable n) t clock step value k in
    let long : (k : ℕ) → length (clock ++ (step.0, k) ∷ []) ≤ 256 = (λ k. let q = length-append clock ((step.0, k) ∷ []) in omega (arith, q, l)) in
    further n (with_variable t n) (with_step types clock step value n) (by_variable t n)
    (by_each (λ k. with_eqn (case k)) (λ k m. by_eqn (case k) m (long k)) (count_of types (type_at n step.0)) (with_variable t n))

by_lifting : (types : List ObcType) (clock steps : Clock) (x : ℕ) (n : FlatNode) → length clock + length steps ≤ 256 → Grown n (lifted types clock steps x n).node
by_lifting types clock [] x n l = stays n
by_lifting types clock (s ∷ steps) x n l =
    let q = length-append clock (s ∷ []) in
    let inner = lifted types (clock ++ s ∷ []) steps x n in
    further n inner.node (with_step types clock s inner.value inner.node) (by_lifting types (clock ++ s ∷ []) steps x n (omega (arith, q, l))) (by_step types clock s inner.value inner.node (omega (arith, l)))

either_by : (b : Bool) (n : FlatNode) (v w : Valued) → Grown n v.node → Grown n w.node → Grown n (if b then v else w).node
either_by true n v w g h = g
either_by false n v w g h = h

by_with_either : (k place bit test : ℕ) (n : FlatNode) → Grown n (with_either k place bit test n).node
by_with_either k place bit test n =
    either_by _ n (record { node = with_operator ty.Bool Or (Read bit ∷ Read test ∷ []) n; value = next_variable n }) (record { node = n; value = bit }) (by_operator ty.Bool Or (Read bit ∷ Read test ∷ []) n) (stays n)

by_either : (place k : ℕ) (tests : List ℕ) (bit : ℕ) (n : FlatNode) → Grown n (either place k tests bit n).node
by_either place k [] bit n = stays n
by_either place k (test ∷ tests) bit n =
    let first = with_either k place bit test n in
    further n first.node (either place (k + 1) tests first.value first.node).node (by_with_either k place bit test n) (by_either place (k + 1) tests first.value first.node)

abbrev nothing_yet : FlatNode → FlatNode
nothing_yet n = with_operator ty.Bool Copy (Fixed (B false) ∷ []) n

by_bit : (tests : List ℕ) (place : ℕ) (n : FlatNode) → Grown n (with_bit tests place n).node
by_bit tests place n = further n (nothing_yet n) (with_bit tests place n).node (by_operator ty.Bool Copy (Fixed (B false) ∷ []) n) (by_either place 0 tests (next_variable n) (nothing_yet n))

by_bits : (tests : List ℕ) (width : ℕ) (n : FlatNode) → Grown n (with_bits tests width n).node
by_bits tests zero n = stays n
by_bits tests (suc place) n =
    let bit = with_bit tests place n in
    further n bit.node (with_bits tests place bit.node).node (by_bit tests place n) (by_bits tests place bit.node)

by_code : (t count value : ℕ) (n : FlatNode) → Grown n (with_code t count value n).node
by_code t count value n =
    let tested = with_each (with_test t value) count n in
    further n tested (with_code t count value n).node (by_each (with_test t value) (λ k m. by_operator ty.Bool _ _ m) count n) (by_bits (range_with_len (next_variable n) count) (width_of count) tested)

by_spelling : (types : List ObcType) (t : FlatTy) (value : ℕ) (n : FlatNode) → Grown n (with_spelling types t value n).node
by_spelling types ty.Bool value n = stays n
by_spelling types ty.Int value n = stays n
by_spelling types (ty.Enum e) value n = by_code e (count_of types (ty.Enum e)) value n

-- ---- observers

by_variables : (vs : List Variable) (n : FlatNode) → Grown n (with_variables vs n)
by_variables [] n = stays n
by_variables (v ∷ vs) n = further n (with_variable v.ty n) (with_variables vs (with_variable v.ty n)) (by_variable v.ty n) (by_variables vs (with_variable v.ty n))

by_inputs : (clock : Clock) (target : ℕ) (args : List Atom) (n : FlatNode) → length clock ≤ 128 → Grown n (with_inputs clock target args n)
by_inputs clock target [] n l = stays n
by_inputs clock target (a ∷ args) n l =
    let more = with_eqn (operator_eqn target clock Copy (a ∷ [])) n in
    further n more (with_inputs clock (target + 1) args more) (by_eqn (operator_eqn target clock Copy (a ∷ [])) n (omega (arith, l))) (by_inputs clock (target + 1) args more l)

moved_length : (by : ℕ) (clock : Clock) → length (moved_clock by clock) ≡ length clock
moved_length by [] = refl
moved_length by (on ∷ clock) = ap (λ k. suc k) (moved_length by clock)

by_moved : (site : Site) (by : ℕ) (es : List FlatEqn) (n : FlatNode) → length site.clock ≤ 128 → AllShort 128 es → Grown n (with_moved site by es n)
by_moved site by [] n l h = stays n
by_moved site by (e ∷ es) n l h =
    let more = with_eqn (moved_eqn site by e) n in
    let long : length (site.clock ++ moved_clock by e.clock) ≤ 256 = let p = length-append site.clock (moved_clock by e.clock) in let q = moved_length by e.clock in let first = h.0 in omega (arith, l, p, q, first) in
    further n more (with_moved site by es more) (by_eqn (moved_eqn site by e) n long) (by_moved site by es more l h.1)

by_embedding : (observer : FlatNode) (site : Site) (n : FlatNode) → length site.clock ≤ 128 → AllShort 128 observer.eqns → Grown n (embedded observer site n)
by_embedding observer site n l h =
    let named = with_variables observer.variables n in
    let room = with_room observer site n in
    further n named (embedded observer site n) (by_variables observer.variables n)
    (further named room (embedded observer site n) (by_inputs site.clock (next_variable n) site.inputs named l) (by_moved site (next_variable n) observer.eqns room l h))

by_observer : (o : Option Observed) (site : Site) (p : Placed) → length site.clock ≤ 128 → ((seen : Observed) → o ≡ Some seen → AllShort 128 seen.node.eqns) → Grown p.node (with_observer o site p).node
by_observer None site p l h = stays p.node
by_observer (Some o) site p l h = by_embedding o.node site p.node l (h o refl)

-- clocks of observers have at most 128 steps
abbrev pub ObserversShort : Observing → Type 0
ObserversShort observers = (f : List ℕ) (o : Observed) → observers f ≡ Some o → AllShort 128 o.node.eqns

called_short : (observers : Observing) → ObserversShort observers → (e : FlatEqn) (o : Observed) → called_by observers e.right ≡ Some o → AllShort 128 o.node.eqns
called_short observers h e o is = by e.right is
  where
    by : (r : Right) → called_by observers r ≡ Some o → AllShort 128 o.node.eqns
    by (operator op args) q = absurd cc
    by (register first next) q = absurd cc
    by (called f args) q = h f o q

by_called : (observers : Observing) (e : Option FlatEqn) (p : Placed) → ObserversShort observers → length (clock_by e) ≤ 128 → Grown p.node (with_called observers e p).node
by_called observers None p h l = stays p.node
by_called observers (Some e) p h l = by_observer (called_by observers e.right) (site_of e) p l (λ o is. called_short observers h e o is)

-- the observers of the calls of a node, where it has more equations already
by_placing : (observers : Observing) (n first : FlatNode) → ObserversShort observers → AllShort 128 n.eqns → Grown n first → (count : ℕ) → count ≤ length n.eqns → Grown n (placed observers count first).node
by_placing observers n first h s g zero l = g
by_placing observers n first h s g (suc k) l =
    let before = placed observers k first in
    let so_far = by_placing observers n first h s g k (omega (arith, l)) in
    let clock : length (clock_by (slice_get before.node.eqns k)) ≤ 128 = subst (λ es. length (clock_by (slice_get es k)) ≤ 128) (sym so_far.eqns) (front_short 128 n.eqns so_far.more k (omega (arith, l)) s) in
    further n before.node (with_called_at observers k before).node so_far (by_called observers (slice_get before.node.eqns k) before h clock)

by_survey : (observers : Observing) (own : Observed) (inputs : ℕ) (order : List ℕ) (n : FlatNode) → ObserversShort observers → AllShort 128 own.node.eqns → AllShort 128 n.eqns → Grown n (surveyed observers own inputs order n).node
by_survey observers own inputs order n h o s =
    let site = own_site inputs n in
    by_placing observers n (embedded own.node site n) h s (by_embedding own.node site n (omega arith) o) (length n.eqns) (omega arith)

-- ---- all that is watched

clock_of_short : (n : FlatNode) (k : Option ℕ) → AllShort 256 n.eqns → length (clock_of n k) ≤ 256
clock_of_short n None s = omega arith
clock_of_short n (Some k) s = clock_short 256 n.eqns k s

by_place : (types : List ObcType) (f : Free) (n : FlatNode) → AllShort 256 n.eqns → Grown n (spelled_place types f n).node
by_place types f n s =
    let value = lifted types [] (clock_of n f.eqn) f.variable n in
    let long = clock_of_short n f.eqn s in
    further n value.node (spelled_place types f n).node (by_lifting types [] (clock_of n f.eqn) f.variable n (omega (arith, long))) (by_spelling types (type_at value.node value.value) value.value value.node)

place_by : (b : Bool) (n : FlatNode) (v w : Watched) → Grown n v.node → Grown n w.node → Grown n (if b then v else w).node
place_by true n v w g h = g
place_by false n v w g h = h

by_with_place : (types : List ObcType) (f : Free) (is_early : Bool) (w : Watched) → AllShort 256 w.node.eqns → Grown w.node (with_place types f is_early w).node
by_with_place types f is_early w short =
    let s = spelled_place types f w.node in
    let more = by_place types f w.node short in
    place_by is_early w.node (record { node = s.node; early = w.early ++ s.bits; late = w.late }) (record { node = s.node; early = w.early; late = w.late ++ s.bits }) more more

places_short : (types : List ObcType) (fs : List Free) (es : List Bool) (w : Watched) → AllShort 256 w.node.eqns → AllShort 256 (with_places types fs es w).node.eqns
places_short types [] es w s = s
places_short types (f ∷ fs) [] w s = s
places_short types (f ∷ fs) (e ∷ es) w s = let one = with_place types f e w in places_short types fs es one (all_grown w.node one.node (by_with_place types f e w s) s)

watched_short : (types : List ObcType) (observers : Observing) (node : Node) (is_early : List Bool) (n : FlatNode) (w : Watched) → ObserversShort observers → AllShort 128 n.eqns → IsWatched types observers node is_early n w → AllShort 256 w.node.eqns
watched_short types observers node is_early n w h s i =
    let f = i.fits in
    let seen = surveyed observers f.own (length node.inputs) (walked node n) n in
    let first = all_grown n seen.node (by_survey observers f.own (length node.inputs) (walked node n) n h (h n.name f.own f.has) s) (longer 128 256 (omega arith) n.eqns s) in
    subst (λ (z : Watched). AllShort 256 z.node.eqns) (sym i.is) (places_short types seen.free is_early (unwatched seen.node) first)

-- ---- the machine's own equations, which are on the base clock

registers_short : (a first count : ℕ) (init : Bits) (next : List ℕ) → AllShort 256 (register_eqns a first count init next)
registers_short a first count [] next = tt
registers_short a first count (b ∷ init) [] = tt
registers_short a first count (b ∷ init) (n ∷ next) = (omega arith, registers_short (a + 1) first count init next)

gates_short : (ps : List ℕ) (first i : ℕ) (gs : List Gate) → AllShort 256 (gate_eqns ps first i gs)
gates_short ps first i [] = tt
gates_short ps first i (g ∷ gs) = (omega arith, gates_short ps first (i + 1) gs)

tree_short : (t count b w k next : ℕ) → AllShort 256 (tree t count b w k next).eqns
tree_short t count b zero k next = tt
tree_short t count b (suc w) k next =
    let P : FlatEqn → Type 0 = λ e. length e.clock ≤ 256 in
    let high = tree t count (b + 1) w (k + k + 1) next in
    let low = tree t count (b + 1) w (k + k) high.next in
    both P high.eqns (low.eqns ++ _ ∷ []) (tree_short t count (b + 1) w (k + k + 1) next) (both P low.eqns (_ ∷ []) (tree_short t count (b + 1) w (k + k) high.next) (omega arith, tt))

control_short : (target b next width : ℕ) (kind : ControlKind) → AllShort 256 (control_eqns target b next width kind).eqns
control_short target b next width Truth = (omega arith, tt)
control_short target b next width (Constructor e) =
    both (λ (d : FlatEqn). length d.clock ≤ 256) (tree e.number e.constructors b width 0 next).eqns (_ ∷ []) (tree_short e.number e.constructors b width 0 next) (omega arith, tt)

controls_short : (target b next : ℕ) (cs : List Control) → AllShort 256 (controls_eqns target b next cs).eqns
controls_short target b next [] = tt
controls_short target b next (c ∷ cs) =
    let one = control_eqns target b next c.width c.kind in
    both (λ (d : FlatEqn). length d.clock ≤ 256) one.eqns (controls_eqns (target + 1) (b + c.width) one.next cs).eqns (control_short target b next c.width c.kind) (controls_short (target + 1) (b + c.width) one.next cs)

controlled_short : (n : FlatNode) (m : Machine) (name early late : List ℕ) (controls : List Control) → AllShort 256 n.eqns → AllShort 256 (controlled n m name early late controls).eqns
controlled_short n m name early late controls s =
    let P : FlatEqn → Type 0 = λ e. length e.clock ≤ 256 in
    let p = placing_of (length n.variables) m early late in
    let registers = register_eqns p.registers p.gates (length m.gates) m.init m.next in
    let gates = gate_eqns (places m p) p.gates 0 m.gates in
    let steps : AllShort 256 (step_eqns m p name) =
    both P registers (asking_eqn name (register_places m p ++ early) p.control m.control ∷ gates) (registers_short p.registers p.gates (length m.gates) m.init m.next) (omega arith, gates_short (places m p) p.gates 0 m.gates) in
    both P (n.eqns ++ step_eqns m p name) (decoded_controls n m controls).eqns (both P n.eqns (step_eqns m p name) s steps) (controls_short (n.inputs - length controls) (length n.variables + m.registers) _ controls)

-- ---- the node that chooses

pub chosen_short : (types : List ObcType) (observers : Observing) (node : Node) (c : Contracted) → ObserversShort observers → AllShort 128 c.plant.eqns → IsContracted types observers node c → AllShort 256 c.chosen.node.eqns
chosen_short types observers node c h s is =
    let w = is.watched in
    let whole = is.whole in
    let placed = whole.placed in
    let asks = controlled w.node is.machine (controller_name node.name) w.early w.late is.controls in
    let one = with_copy whole.assume asks in
    let two = with_copy whole.enforce one in
    let watched = watched_short types observers node is.is_early c.plant w h s is.is_watched in
    let asked = controlled_short w.node is.machine (controller_name node.name) w.early w.late is.controls watched in
    let first = all_grown asks one (by_operator ty.Bool Copy (Read whole.assume ∷ []) asks) asked in
    let all = all_grown one two (by_operator ty.Bool Copy (Read whole.enforce ∷ []) one) first in
    transfer (λ (e : FlatEqn). length e.clock ≤ 256) (λ e l. l) (λ e l. l) two.eqns c.chosen.node.eqns (same_eqns two.eqns c.chosen.node.eqns (sym placed.eqns)) all
