-- What is added to a node for its controller has names of its own.
use Rattle.std.proofs.Common.{◌≡◌, ℕ, zero, suc, ◌+◌, ◌-◌, Bool, true, false, if◌then◌else◌, List, [], ◌∷◌, ◌++◌, length, map, slice_get, Option, None, Some, refl, sym, ap, ◌∙◌, subst, arith, inl, inr}
use Rattle.std.specs.List.{range_with_len}
use Rattle.std.proofs.lemmas.List.{append_assoc, append-nil, length-append}
use Rattle.hp_tree.specs.Programs.{Node}
use Rattle.hp_boolx.specs.Machine.{Machine}
use Rattle.hp_obc.specs.Machines.{ObcType}
use Rattle.hp_obc.specs.declared.command.ObcOp.{ObcOp}
use Rattle.hp_obc.specs.declared.command.ObcOp.TheVariants.{Or, Copy}
use Rattle.hp_base.specs.declared.value.Value.TheVariants.{B}
use Rattle.hp_flat.specs.declared.equation.Atom.{Atom}
use Rattle.hp_flat.specs.declared.equation.Atom.TheVariants.{Variable as Read, Value as Fixed}
use Rattle.hp_flat.specs.declared.node.FlatTy.{FlatTy}
use Rattle.hp_flat.specs.declared.node.FlatTy.TheVariants as ty
use Rattle.hp_flat.specs.declared.node.Variable.{Variable}
use Rattle.hp_flat.specs.Equations.{Clock, FlatEqn}
use Rattle.hp_flat.specs.Nodes.{FlatNode}
use Rattle.hp_watch.specs.declared.watching.Free.{Free}
use Rattle.hp_watch.specs.Adding.{type_at, next_variable, added_variable, with_variable, with_eqn, operator_eqn, with_operator, with_copy}
use Rattle.hp_watch.specs.Embedding.{Site, moved_eqn, with_variables, with_inputs, with_moved, with_room, embedded}
use Rattle.hp_watch.specs.Lifting.{count_of, with_each, case_eqn, with_step, lifted, Valued, has_bit, with_test, with_either, either, with_bit, with_bits, width_of, with_code, with_spelling}
use Rattle.hp_watch.specs.Watching.{Observing, Observed, Placed, called_by, site_of, with_observer, with_called, with_called_at, placed, own_site, surveyed, clock_of, spelled_place, Watched, with_place, with_places, unwatched, watched_by, IsWatched, walked}
use Rattle.hp_controller.specs.declared.decoding.Control.{Control}
use Rattle.hp_controller.specs.declared.decoding.ControlKind.{ControlKind}
use Rattle.hp_controller.specs.declared.decoding.ControlKind.TheVariants.{Truth, Constructor}
use Rattle.hp_controller.specs.Controllers as controller
use Rattle.hp_controller.specs.Controlled.{bit_variables, bits_added, controlled, decoded_controls}
use Rattle.hp_controller.specs.Decoding.{control_eqns, controls_eqns, tree}
use Rattle.hp_controlled.specs.Choosing.{IsChoosing, Telling, asking, first_gate}
use Rattle.law_controlled.specs.Names.{Adds, AreAdded}

-- ---- what is added

added_both : (x : ℕ) (vs ws : List Variable) → AreAdded x vs → AreAdded (x + length vs) ws → AreAdded x (vs ++ ws)
added_both x [] ws h k = subst (λ j. AreAdded j ws) (let same : x + 0 ≡ x = omega arith in same) k
added_both x (v ∷ vs) ws h k = (h.0, added_both (x + 1) vs ws h.1 (subst (λ j. AreAdded j ws) (let same : x + suc (length vs) ≡ x + 1 + length vs = omega arith in same) k))

stays : (n : FlatNode) → Adds n n
stays n = record { more = []; variables = sym (append-nil n.variables); added = tt }

further : (n m k : FlatNode) → Adds n m → Adds m k → Adds n k
further n m k g h =
    let long : length m.variables ≡ length n.variables + length g.more = ap length g.variables ∙ length-append n.variables g.more in
    record {
      more = g.more ++ h.more;
      variables = h.variables ∙ ap (λ xs. xs ++ h.more) g.variables ∙ append_assoc n.variables g.more h.more;
      added = added_both (length n.variables) g.more h.more g.added (subst (λ x. AreAdded x h.more) long h.added);
    }

by_variable : (t : FlatTy) (n : FlatNode) → Adds n (with_variable t n)
unfolding with_variable
by_variable t n = record { more = added_variable (next_variable n) t ∷ []; variables = refl; added = (inl refl, tt) }

by_eqn : (e : FlatEqn) (n : FlatNode) → Adds n (with_eqn e n)
unfolding with_eqn
by_eqn e n = record { more = []; variables = sym (append-nil n.variables); added = tt }

by_operator : (t : FlatTy) (op : ObcOp) (args : List Atom) (n : FlatNode) → Adds n (with_operator t op args n)
by_operator t op args n = further n (with_variable t n) (with_operator t op args n) (by_variable t n) (by_eqn (operator_eqn (next_variable n) [] op args) (with_variable t n))

by_each : (f : ℕ → FlatNode → FlatNode) → ((k : ℕ) (m : FlatNode) → Adds m (f k m)) → (count : ℕ) (n : FlatNode) → Adds n (with_each f count n)
by_each f h zero n = stays n
by_each f h (suc k) n = further n (with_each f k n) (f k (with_each f k n)) (by_each f h k n) (h k (with_each f k n))

by_step : (types : List ObcType) (clock : Clock) (step : ℕ × ℕ) (value : ℕ) (n : FlatNode) → Adds n (with_step types clock step value n)
by_step types clock step value n =
    let t = type_at n value in
    let case = λ (k : ℕ). with_eqn (case_eqn (next_variable n) t clock step value k) in
    further n (with_variable t n) (with_step types clock step value n) (by_variable t n)
    (by_each case (λ k m. by_eqn (case_eqn (next_variable n) t clock step value k) m) (count_of types (type_at n step.0)) (with_variable t n))

by_lifting : (types : List ObcType) (clock steps : Clock) (x : ℕ) (n : FlatNode) → Adds n (lifted types clock steps x n).node
by_lifting types clock [] x n = stays n
by_lifting types clock (s ∷ steps) x n =
    let inner = lifted types (clock ++ s ∷ []) steps x n in
    further n inner.node (with_step types clock s inner.value inner.node) (by_lifting types (clock ++ s ∷ []) steps x n) (by_step types clock s inner.value inner.node)

either_by : (b : Bool) (n : FlatNode) (v w : Valued) → Adds n v.node → Adds n w.node → Adds n (if b then v else w).node
either_by true n v w g h = g
either_by false n v w g h = h

by_with_either : (k place bit test : ℕ) (n : FlatNode) → Adds n (with_either k place bit test n).node
by_with_either k place bit test n =
    either_by (has_bit k place) n (record { node = with_operator ty.Bool Or (Read bit ∷ Read test ∷ []) n; value = next_variable n }) (record { node = n; value = bit }) (by_operator ty.Bool Or (Read bit ∷ Read test ∷ []) n) (stays n)

by_either : (place k : ℕ) (tests : List ℕ) (bit : ℕ) (n : FlatNode) → Adds n (either place k tests bit n).node
by_either place k [] bit n = stays n
by_either place k (test ∷ tests) bit n =
    let first = with_either k place bit test n in
    further n first.node (either place (k + 1) tests first.value first.node).node (by_with_either k place bit test n) (by_either place (k + 1) tests first.value first.node)

abbrev nothing_yet : FlatNode → FlatNode
nothing_yet n = with_operator ty.Bool Copy (Fixed (B false) ∷ []) n

by_bit : (tests : List ℕ) (place : ℕ) (n : FlatNode) → Adds n (with_bit tests place n).node
by_bit tests place n = further n (nothing_yet n) (with_bit tests place n).node (by_operator ty.Bool Copy (Fixed (B false) ∷ []) n) (by_either place 0 tests (next_variable n) (nothing_yet n))

by_bits : (tests : List ℕ) (width : ℕ) (n : FlatNode) → Adds n (with_bits tests width n).node
by_bits tests zero n = stays n
by_bits tests (suc place) n =
    let bit = with_bit tests place n in
    further n bit.node (with_bits tests place bit.node).node (by_bit tests place n) (by_bits tests place bit.node)

tested : (t value count : ℕ) (n : FlatNode) → Adds n (with_each (with_test t value) count n)
tested t value count n = by_each (with_test t value) (λ k m. by_operator ty.Bool _ _ m) count n

by_code : (t count value : ℕ) (n : FlatNode) → Adds n (with_code t count value n).node
by_code t count value n =
    further n (with_each (with_test t value) count n) (with_code t count value n).node (tested t value count n) (by_bits (range_with_len (next_variable n) count) (width_of count) (with_each (with_test t value) count n))

by_spelling : (types : List ObcType) (t : FlatTy) (value : ℕ) (n : FlatNode) → Adds n (with_spelling types t value n).node
by_spelling types ty.Bool value n = stays n
by_spelling types ty.Int value n = stays n
by_spelling types (ty.Enum e) value n = by_code e (count_of types (ty.Enum e)) value n

by_variables : (vs : List Variable) (n : FlatNode) → Adds n (with_variables vs n)
by_variables [] n = stays n
by_variables (v ∷ vs) n = further n (with_variable v.ty n) (with_variables vs (with_variable v.ty n)) (by_variable v.ty n) (by_variables vs (with_variable v.ty n))

by_inputs : (clock : Clock) (target : ℕ) (args : List Atom) (n : FlatNode) → Adds n (with_inputs clock target args n)
by_inputs clock target [] n = stays n
by_inputs clock target (a ∷ args) n =
    let more = with_eqn (operator_eqn target clock Copy (a ∷ [])) n in
    further n more (with_inputs clock (target + 1) args more) (by_eqn (operator_eqn target clock Copy (a ∷ [])) n) (by_inputs clock (target + 1) args more)

by_moved : (site : Site) (by : ℕ) (es : List FlatEqn) (n : FlatNode) → Adds n (with_moved site by es n)
by_moved site by [] n = stays n
by_moved site by (e ∷ es) n =
    let more = with_eqn (moved_eqn site by e) n in
    further n more (with_moved site by es more) (by_eqn (moved_eqn site by e) n) (by_moved site by es more)

by_embedding : (observer : FlatNode) (site : Site) (n : FlatNode) → Adds n (embedded observer site n)
by_embedding observer site n =
    let named = with_variables observer.variables n in
    let room = with_room observer site n in
    further n named (embedded observer site n) (by_variables observer.variables n)
    (further named room (embedded observer site n) (by_inputs site.clock (next_variable n) site.inputs named) (by_moved site (next_variable n) observer.eqns room))

by_observer : (o : Option Observed) (site : Site) (p : Placed) → Adds p.node (with_observer o site p).node
by_observer None site p = stays p.node
by_observer (Some o) site p = by_embedding o.node site p.node

by_called : (observers : Observing) (e : Option FlatEqn) (p : Placed) → Adds p.node (with_called observers e p).node
by_called observers None p = stays p.node
by_called observers (Some e) p = by_observer (called_by observers e.right) (site_of e) p

by_placing : (observers : Observing) (count : ℕ) (n : FlatNode) → Adds n (placed observers count n).node
by_placing observers zero n = stays n
by_placing observers (suc k) n =
    let before = placed observers k n in
    further n before.node (with_called_at observers k before).node (by_placing observers k n) (by_called observers (slice_get before.node.eqns k) before)

by_survey : (observers : Observing) (own : Observed) (inputs : ℕ) (order : List ℕ) (n : FlatNode) → Adds n (surveyed observers own inputs order n).node
by_survey observers own inputs order n =
    let site = own_site inputs n in
    let first = embedded own.node site n in
    further n first (placed observers (length n.eqns) first).node (by_embedding own.node site n) (by_placing observers (length n.eqns) first)

by_place : (types : List ObcType) (f : Free) (n : FlatNode) → Adds n (spelled_place types f n).node
by_place types f n =
    let value = lifted types [] (clock_of n f.eqn) f.variable n in
    further n value.node (spelled_place types f n).node (by_lifting types [] (clock_of n f.eqn) f.variable n) (by_spelling types (type_at value.node value.value) value.value value.node)

-- ---- all that is watched

place_by : (b : Bool) (n : FlatNode) (v w : Watched) → Adds n v.node → Adds n w.node → Adds n (if b then v else w).node
place_by true n v w g h = g
place_by false n v w g h = h

by_with_place : (types : List ObcType) (f : Free) (is_early : Bool) (w : Watched) → Adds w.node (with_place types f is_early w).node
by_with_place types f is_early w =
    let s = spelled_place types f w.node in
    let more = by_place types f w.node in
    place_by is_early w.node (record { node = s.node; early = w.early ++ s.bits; late = w.late }) (record { node = s.node; early = w.early; late = w.late ++ s.bits }) more more

by_places : (types : List ObcType) (fs : List Free) (es : List Bool) (w : Watched) → Adds w.node (with_places types fs es w).node
by_places types [] es w = stays w.node
by_places types (f ∷ fs) [] w = stays w.node
by_places types (f ∷ fs) (e ∷ es) w =
    let one = with_place types f e w in
    further w.node one.node (with_places types fs es one).node (by_with_place types f e w) (by_places types fs es one)

by_watching : (types : List ObcType) (observers : Observing) (node : Node) (is_early : List Bool) (n : FlatNode) (w : Watched) → IsWatched types observers node is_early n w → Adds n w.node
by_watching types observers node is_early n w i =
    let s = surveyed observers i.fits.own (length node.inputs) (walked node n) n in
    subst (λ (z : Watched). Adds n z.node) (sym i.is)
    (further n s.node (watched_by types is_early s).node (by_survey observers i.fits.own (length node.inputs) (walked node n) n) (by_places types s.free is_early (unwatched s.node)))

-- ---- the bits of a machine, and what makes its control variables

-- variables that are added stand from a number on, and the next one is behind them
abbrev Numbered : ℕ → List Variable → ℕ → Type 0
Numbered x vs next = AreAdded x vs × (next ≡ x + length vs)

numbered_both : (x y z : ℕ) (vs ws : List Variable) → Numbered x vs y → Numbered y ws z → Numbered x (vs ++ ws) z
numbered_both x y z vs ws g h =
    let long = length-append vs ws in
    let first = g.1 in
    let second = h.1 in
    (added_both x vs ws g.0 (subst (λ k. AreAdded k ws) g.1 h.0), omega (arith, long, first, second))

one_numbered : (x : ℕ) (t : FlatTy) → Numbered x (controller.added_variable x t ∷ []) (x + 1)
one_numbered x t = ((inr refl, tt), omega arith)

tree_numbered : (t count b w k next : ℕ) → Numbered next (tree t count b w k next).variables (tree t count b w k next).next
tree_numbered t count b zero k next = (tt, omega arith)
tree_numbered t count b (suc w) k next =
    let high = tree t count (b + 1) w (k + k + 1) next in
    let low = tree t count (b + 1) w (k + k) high.next in
    numbered_both next high.next (low.next + 1) high.variables (low.variables ++ controller.added_variable low.next (ty.Enum t) ∷ []) (tree_numbered t count (b + 1) w (k + k + 1) next)
    (numbered_both high.next low.next (low.next + 1) low.variables (controller.added_variable low.next (ty.Enum t) ∷ []) (tree_numbered t count (b + 1) w (k + k) high.next) (one_numbered low.next (ty.Enum t)))

control_numbered : (target b next width : ℕ) (kind : ControlKind) → Numbered next (control_eqns target b next width kind).variables (control_eqns target b next width kind).next
control_numbered target b next width Truth = (tt, omega arith)
control_numbered target b next width (Constructor e) = tree_numbered e.number e.constructors b width 0 next

controls_numbered : (target b next : ℕ) (cs : List Control) → Numbered next (controls_eqns target b next cs).variables (controls_eqns target b next cs).next
controls_numbered target b next [] = (tt, omega arith)
controls_numbered target b next (c ∷ cs) =
    let one = control_eqns target b next c.width c.kind in
    let rest = controls_eqns (target + 1) (b + c.width) one.next cs in
    numbered_both next one.next rest.next one.variables rest.variables (control_numbered target b next c.width c.kind) (controls_numbered (target + 1) (b + c.width) one.next cs)

bits_numbered : (from count : ℕ) → Numbered from (map (λ x. controller.added_variable x ty.Bool) (range_with_len from count)) (from + count)
bits_numbered from zero = (tt, omega arith)
bits_numbered from (suc count) =
    let rest = bits_numbered (from + 1) count in
    let long = rest.1 in
    ((inr refl, rest.0), omega (arith, long))

by_control : (n : FlatNode) (m : Machine) (name early late : List ℕ) (controls : List Control) → Adds n (controlled n m name early late controls)
by_control n m name early late controls =
    let from = length n.variables in
    let bits = bit_variables from m in
    let decoded = decoded_controls n m controls in
    let all = numbered_both from (from + bits_added m) decoded.next bits decoded.variables (bits_numbered from (bits_added m)) (controls_numbered (n.inputs - length controls) (from + m.registers) (from + bits_added m) controls) in
    record { more = bits ++ decoded.variables; variables = append_assoc n.variables bits decoded.variables; added = all.0 }

-- ---- the node that chooses

pub choosing_adds : (types : List ObcType) (observers : Observing) (node : Node) (n : FlatNode) (a : _) (c : Telling) → IsChoosing types observers node n a c → Adds n c.node
choosing_adds types observers node n a c chooses =
    let s = chooses.suits in
    let w = s.watched in
    let sees = s.sees in
    let asks = asking node.name w a s.controls in
    let gates = first_gate w a.machine in
    let one = with_copy (gates + a.assume) asks in
    let whole = with_copy (gates + a.enforce) one in
    let is = chooses.is in
    let ordered = is.node in
    let all = further n w.node whole (by_watching types observers node _ n w sees.is_watched)
    (further w.node asks whole (by_control w.node a.machine _ w.early w.late s.controls)
    (further asks one whole (by_operator ty.Bool Copy (Read (gates + a.assume) ∷ []) asks) (by_operator ty.Bool Copy (Read (gates + a.enforce) ∷ []) one))) in
    record { more = all.more; variables = ordered.variables ∙ all.variables; added = all.added }
