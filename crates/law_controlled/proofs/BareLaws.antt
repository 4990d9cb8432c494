-- What is made of clocked equations does not depend on their places, but for places.
use Rattle.std.proofs.Common.{◌≡◌, ℕ, zero, suc, ◌+◌, Bool, true, false, List, [], ◌∷◌, ◌++◌, length, map, Option, None, Some, refl, sym, ap, ◌∙◌, if◌then◌else◌}
use Rattle.std.specs.Prelude.{slice_get}
use Rattle.std.specs.List.{flat_map, range_with_len}
use Rattle.std.proofs.lemmas.List.{length-map}
use Rattle.hp_base.specs.declared.value.Value.TheVariants.{Absent, B, E, I, Nil, Star}
use Rattle.hp_obc.specs.Machines.{ObcType}
use Rattle.hp_obc.specs.declared.command.ObcOp.{ObcOp}
use Rattle.hp_obc.specs.declared.command.ObcOp.TheVariants.{Copy, Eq, Or}
use Rattle.hp_tree.specs.Programs.{Contract}
use Rattle.hp_flat.specs.declared.equation.Atom.{Atom}
use Rattle.hp_flat.specs.declared.equation.Atom.TheVariants.{Variable as Read, Value as Fixed}
use Rattle.hp_flat.specs.declared.node.FlatTy.{FlatTy}
use Rattle.hp_flat.specs.declared.node.FlatTy.TheVariants as ty
use Rattle.hp_flat.specs.declared.node.Variable.{Variable}
use Rattle.hp_flat.specs.Equations.{Clock, Right, operator, register, called, FlatEqn}
use Rattle.hp_flat.specs.Nodes.{FlatNode}
use Rattle.law_equations.specs.Made.Laws.{unplaced}
use Rattle.hp_watch.specs.declared.embedding.Shift.{Shift}
use Rattle.hp_watch.specs.declared.watching.Free.{Free}
use Rattle.hp_watch.specs.Adding.{next_variable, operator_eqn, type_at, with_copy, with_eqn, with_operator, with_variable}
use Rattle.hp_watch.specs.Embedding.{Site, embedded, moved_eqn, shift_of, with_inputs, with_moved, with_room, with_variables}
use Rattle.hp_watch.specs.Lifting.{Spelled, Valued, case_eqn, count_of, either, has_bit, lifted, spelled, width_of, with_bit, with_bits, with_cases, with_code, with_each, with_either, with_spelling, with_step, with_test}
use Rattle.hp_watch.specs.Walk.{events_from, is_event, walk_contract}
use Rattle.hp_watch.specs.Watching.{Observed, Observing, Placed, Surveyed, Watched, called_by, clock_by, clock_of, compares_integers, free_at, free_by, free_inputs, free_moved, free_of, free_placed, free_placed_by, free_target, moved_free, observed, own_site, placed, reads_integer, shift_at, site_of, spelled_place, surveyed, unwatched, watched_by, with_called, with_called_at, with_observer, with_place, with_places}
use Rattle.law_controlled.specs.Alike.{bare}

-- ---- lists of equations

pub plain_both : (es ds : List FlatEqn) → map unplaced (es ++ ds) ≡ map unplaced es ++ map unplaced ds
plain_both [] ds = refl
plain_both (e ∷ es) ds = ap (λ (fs : List FlatEqn). unplaced e ∷ fs) (plain_both es ds)

pub plain_twice : (es : List FlatEqn) → map unplaced (map unplaced es) ≡ map unplaced es
plain_twice [] = refl
plain_twice (e ∷ es) = ap (λ (fs : List FlatEqn). unplaced e ∷ fs) (plain_twice es)

abbrev pub plain_option : Option FlatEqn → Option FlatEqn
plain_option None = None
plain_option (Some e) = Some (unplaced e)

pub plain_at : (es : List FlatEqn) (k : ℕ) → slice_get (map unplaced es) k ≡ plain_option (slice_get es k)
plain_at [] k = refl
plain_at (e ∷ es) zero = refl
plain_at (e ∷ es) (suc k) = plain_at es k

pub events_same : (i : ℕ) (es : List FlatEqn) → events_from i (map unplaced es) ≡ events_from i es
events_same i [] = refl
events_same i (e ∷ es) = ap (λ (xs : List ℕ). if is_event e.right then i ∷ xs else xs) (events_same (suc i) es)

-- ---- adding

bare_variable : (t : FlatTy) (n : FlatNode) → bare (with_variable t n) ≡ with_variable t (bare n)
unfolding with_variable
bare_variable t n = refl

bare_eqn : (e : FlatEqn) (n : FlatNode) → bare (with_eqn e n) ≡ with_eqn (unplaced e) (bare n)
unfolding with_eqn
bare_eqn e n = λ i. record { name = n.name; variables = n.variables; inputs = n.inputs; outputs = n.outputs; eqns = plain_both n.eqns (e ∷ []) i }

bare_operator : (t : FlatTy) (op : ObcOp) (args : List Atom) (n : FlatNode) → bare (with_operator t op args n) ≡ with_operator t op args (bare n)
bare_operator t op args n =
    bare_eqn (operator_eqn (next_variable n) [] op args) (with_variable t n) ∙ ap (with_eqn (operator_eqn (next_variable n) [] op args)) (bare_variable t n)

pub bare_copy : (x : ℕ) (n : FlatNode) → bare (with_copy x n) ≡ with_copy x (bare n)
bare_copy x n = bare_operator ty.Bool Copy (Read x ∷ []) n

bare_each : (add : ℕ → FlatNode → FlatNode) → ((k : ℕ) (n : FlatNode) → bare (add k n) ≡ add k (bare n)) → (count : ℕ) (n : FlatNode) → bare (with_each add count n) ≡ with_each add count (bare n)
bare_each add same zero n = refl
bare_each add same (suc k) n = same k (with_each add k n) ∙ ap (add k) (bare_each add same k n)

-- ---- lifting

bare_step : (types : List ObcType) (clock : Clock) (step : ℕ × ℕ) (value : ℕ) (n : FlatNode) → bare (with_step types clock step value n) ≡ with_step types clock step value (bare n)
bare_step types clock step value n =
    let target = next_variable n in
    let t = type_at n value in
    let count = count_of types (type_at n step.0) in
    bare_each (λ k. with_eqn (case_eqn target t clock step value k)) (λ k m. bare_eqn (case_eqn target t clock step value k) m) count (with_variable t n)
    ∙ ap (with_cases target t clock step value count) (bare_variable t n)

abbrev bare_valued : Valued → Valued
bare_valued v = record { node = bare v.node; value = v.value }

bare_lifted : (types : List ObcType) (clock steps : Clock) (x : ℕ) (n : FlatNode) → bare_valued (lifted types clock steps x n) ≡ lifted types clock steps x (bare n)
bare_lifted types clock [] x n = refl
bare_lifted types clock (step ∷ steps) x n =
    let inner = lifted types (clock ++ step ∷ []) steps x n in
    (λ i. record { node = bare_step types clock step inner.value inner.node i; value = next_variable inner.node })
    ∙ ap (λ (v : Valued). record { node = with_step types clock step v.value v.node; value = next_variable v.node }) (bare_lifted types (clock ++ step ∷ []) steps x n)

-- ---- bits

bare_test : (t value k : ℕ) (n : FlatNode) → bare (with_test t value k n) ≡ with_test t value k (bare n)
bare_test t value k n = bare_operator ty.Bool Eq (Read value ∷ Fixed (E t k) ∷ []) n

bare_either_of : (k place bit test : ℕ) (n : FlatNode) → bare_valued (with_either k place bit test n) ≡ with_either k place bit test (bare n)
bare_either_of k place bit test n = by (has_bit k place)
  where
    by : (b : Bool) → bare_valued (if b then record { node = with_operator ty.Bool Or (Read bit ∷ Read test ∷ []) n; value = next_variable n } else record { node = n; value = bit })
        ≡ (if b then record { node = with_operator ty.Bool Or (Read bit ∷ Read test ∷ []) (bare n); value = next_variable n } else record { node = bare n; value = bit })
    by true = λ i. record { node = bare_operator ty.Bool Or (Read bit ∷ Read test ∷ []) n i; value = next_variable n }
    by false = refl

bare_either : (place k : ℕ) (tests : List ℕ) (bit : ℕ) (n : FlatNode) → bare_valued (either place k tests bit n) ≡ either place k tests bit (bare n)
bare_either place k [] bit n = refl
bare_either place k (test ∷ tests) bit n =
    let first = with_either k place bit test n in
    bare_either place (k + 1) tests first.value first.node ∙ ap (λ (v : Valued). either place (k + 1) tests v.value v.node) (bare_either_of k place bit test n)

bare_bit : (tests : List ℕ) (place : ℕ) (n : FlatNode) → bare_valued (with_bit tests place n) ≡ with_bit tests place (bare n)
bare_bit tests place n =
    bare_either place 0 tests (next_variable n) (with_operator ty.Bool Copy (Fixed (B false) ∷ []) n) ∙ ap (either place 0 tests (next_variable n)) (bare_operator ty.Bool Copy (Fixed (B false) ∷ []) n)

abbrev bare_spelled : Spelled → Spelled
bare_spelled s = record { node = bare s.node; bits = s.bits }

bare_bits : (tests : List ℕ) (place : ℕ) (n : FlatNode) → bare_spelled (with_bits tests place n) ≡ with_bits tests place (bare n)
bare_bits tests zero n = refl
bare_bits tests (suc place) n =
    let bit = with_bit tests place n in
    ap (λ (s : Spelled). record { node = s.node; bits = bit.value ∷ s.bits }) (bare_bits tests place bit.node)
    ∙ ap (λ (v : Valued). record { node = (with_bits tests place v.node).node; bits = v.value ∷ (with_bits tests place v.node).bits }) (bare_bit tests place n)

bare_code : (t count value : ℕ) (n : FlatNode) → bare_spelled (with_code t count value n) ≡ with_code t count value (bare n)
bare_code t count value n =
    let tests = range_with_len (next_variable n) count in
    bare_bits tests (width_of count) (with_each (with_test t value) count n) ∙ ap (with_bits tests (width_of count)) (bare_each (with_test t value) (bare_test t value) count n)

bare_spelling : (types : List ObcType) (t : FlatTy) (value : ℕ) (n : FlatNode) → bare_spelled (with_spelling types t value n) ≡ with_spelling types t value (bare n)
bare_spelling types ty.Bool value n = refl
bare_spelling types ty.Int value n = refl
bare_spelling types (ty.Enum t) value n = bare_code t (count_of types (ty.Enum t)) value n

-- ---- observers

bare_variables : (vs : List Variable) (n : FlatNode) → bare (with_variables vs n) ≡ with_variables vs (bare n)
bare_variables [] n = refl
bare_variables (v ∷ vs) n = bare_variables vs (with_variable v.ty n) ∙ ap (with_variables vs) (bare_variable v.ty n)

bare_inputs : (clock : Clock) (target : ℕ) (args : List Atom) (n : FlatNode) → bare (with_inputs clock target args n) ≡ with_inputs clock target args (bare n)
bare_inputs clock target [] n = refl
bare_inputs clock target (a ∷ args) n =
    bare_inputs clock (target + 1) args (with_eqn (operator_eqn target clock Copy (a ∷ [])) n) ∙ ap (with_inputs clock (target + 1) args) (bare_eqn (operator_eqn target clock Copy (a ∷ [])) n)

bare_moved : (site : Site) (by : ℕ) (es : List FlatEqn) (n : FlatNode) → bare (with_moved site by es n) ≡ with_moved site by (map unplaced es) (bare n)
bare_moved site by [] n = refl
bare_moved site by (e ∷ es) n = bare_moved site by es (with_eqn (moved_eqn site by e) n) ∙ ap (with_moved site by (map unplaced es)) (bare_eqn (moved_eqn site by e) n)

bare_room : (o : FlatNode) (site : Site) (n : FlatNode) → bare (with_room o site n) ≡ with_room (bare o) site (bare n)
bare_room o site n =
    bare_inputs site.clock (next_variable n) site.inputs (with_variables o.variables n) ∙ ap (with_inputs site.clock (next_variable n) site.inputs) (bare_variables o.variables n)

bare_embedded : (o : FlatNode) (site : Site) (n : FlatNode) → bare (embedded o site n) ≡ embedded (bare o) site (bare n)
bare_embedded o site n =
    bare_moved site (next_variable n) o.eqns (with_room o site n) ∙ ap (with_moved site (next_variable n) (map unplaced o.eqns)) (bare_room o site n)

shift_same : (o : FlatNode) (site : Site) (n : FlatNode) → shift_of o site n ≡ shift_of (bare o) site (bare n)
shift_same o site n =
    let long : length (with_room o site n).eqns ≡ length (with_room (bare o) site (bare n)).eqns =
    sym (length-map (with_room o site n).eqns unplaced) ∙ ap (λ (m : FlatNode). length m.eqns) (bare_room o site n) in
    λ i. record { variables = next_variable n; eqns = long i }

abbrev pub bare_observed : Observed → Observed
bare_observed o = record { node = bare o.node; free = o.free }

abbrev pub bare_option : Option Observed → Option Observed
bare_option None = None
bare_option (Some o) = Some (bare_observed o)

abbrev pub bare_observing : Observing → Observing
bare_observing observers f = bare_option (observers f)

abbrev bare_placed : Placed → Placed
bare_placed p = record { node = bare p.node; shifts = p.shifts }

called_same : (observers : Observing) (r : Right) → bare_option (called_by observers r) ≡ called_by (bare_observing observers) r
called_same observers (operator op args) = refl
called_same observers (register first next) = refl
called_same observers (called f args) = refl

bare_observer : (o : Option Observed) (site : Site) (p : Placed) → bare_placed (with_observer o site p) ≡ with_observer (bare_option o) site (bare_placed p)
bare_observer None site p = refl
bare_observer (Some o) site p = λ i. record { node = bare_embedded o.node site p.node i; shifts = p.shifts ++ Some (shift_same o.node site p.node i) ∷ [] }

bare_called : (observers : Observing) (e : Option FlatEqn) (p : Placed) → bare_placed (with_called observers e p) ≡ with_called (bare_observing observers) (plain_option e) (bare_placed p)
bare_called observers None p = bare_observer None (record { clock = []; restart = []; inputs = [] }) p
bare_called observers (Some e) p =
    bare_observer (called_by observers e.right) (site_of e) p ∙ ap (λ (o : Option Observed). with_observer o (site_of e) (bare_placed p)) (called_same observers e.right)

bare_called_at : (observers : Observing) (k : ℕ) (p : Placed) → bare_placed (with_called_at observers k p) ≡ with_called_at (bare_observing observers) k (bare_placed p)
bare_called_at observers k p =
    bare_called observers (slice_get p.node.eqns k) p ∙ ap (λ (e : Option FlatEqn). with_called (bare_observing observers) e (bare_placed p)) (sym (plain_at p.node.eqns k))

bare_all_placed : (observers : Observing) (k : ℕ) (n : FlatNode) → bare_placed (placed observers k n) ≡ placed (bare_observing observers) k (bare n)
bare_all_placed observers zero n = refl
bare_all_placed observers (suc k) n = bare_called_at observers k (placed observers k n) ∙ ap (with_called_at (bare_observing observers) k) (bare_all_placed observers k n)

-- ---- free places

integer_same : (n : FlatNode) (a : Atom) → reads_integer n a ≡ reads_integer (bare n) a
integer_same n (Read x) = refl
integer_same n (Fixed Absent) = refl
integer_same n (Fixed (B b)) = refl
integer_same n (Fixed (I v)) = refl
integer_same n (Fixed (E t c)) = refl
integer_same n (Fixed Nil) = refl
integer_same n (Fixed Star) = refl

compares_same : (n : FlatNode) (args : List Atom) → compares_integers n args ≡ compares_integers (bare n) args
compares_same n [] = refl
compares_same n (a ∷ args) = integer_same n a

free_by_same : (n : FlatNode) (k : ℕ) (r : Right) (targets : List ℕ) → free_by n k r targets ≡ free_by (bare n) k r targets
free_by_same n k (operator o args) targets = ap (λ (b : Bool). if b then flat_map (free_target n k) targets else []) (compares_same n args)
free_by_same n k (register first next) targets = refl
free_by_same n k (called f args) targets = refl

free_of_same : (n : FlatNode) (k : ℕ) (e : Option FlatEqn) → free_of n k e ≡ free_of (bare n) k (plain_option e)
free_of_same n k None = refl
free_of_same n k (Some e) = free_by_same n k e.right e.targets

free_same : (n : FlatNode) (k : ℕ) → free_at n k ≡ free_at (bare n) k
free_same n k = free_of_same n k (slice_get n.eqns k) ∙ ap (free_of (bare n) k) (sym (plain_at n.eqns k))

-- the observer of a contract
pub observed_same : (c : Contract) (n : FlatNode) → bare_observed (observed c n) ≡ observed c (bare n)
observed_same c n = λ i. record {
  node = bare n;
  free = ((λ j. flat_map (λ k. free_same n k j) (walk_contract c (events_from 0 n.eqns)).0) ∙ ap (λ (es : List ℕ). flat_map (free_at (bare n)) (walk_contract c es).0) (sym (events_same 0 n.eqns))) i;
}

moved_same : (o : Option Observed) (s : Option Shift) → free_moved o s ≡ free_moved (bare_option o) s
moved_same None s = refl
moved_same (Some o) None = refl
moved_same (Some o) (Some s) = refl

free_placed_by_same : (observers : Observing) (p : Placed) (k : ℕ) (e : Option FlatEqn) → free_placed_by observers p k e ≡ free_placed_by (bare_observing observers) (bare_placed p) k (plain_option e)
free_placed_by_same observers p k None = refl
free_placed_by_same observers p k (Some e) =
    λ i. free_by_same p.node k e.right e.targets i ++ (moved_same (called_by observers e.right) (shift_at p.shifts k) ∙ ap (λ (o : Option Observed). free_moved o (shift_at p.shifts k)) (called_same observers e.right)) i

free_placed_same : (observers : Observing) (p : Placed) (k : ℕ) → free_placed observers p k ≡ free_placed (bare_observing observers) (bare_placed p) k
free_placed_same observers p k =
    free_placed_by_same observers p k (slice_get p.node.eqns k) ∙ ap (free_placed_by (bare_observing observers) (bare_placed p) k) (sym (plain_at p.node.eqns k))

abbrev bare_surveyed : Surveyed → Surveyed
bare_surveyed s = record { node = bare s.node; free = s.free }

surveyed_same : (observers : Observing) (own : Observed) (inputs : ℕ) (order : List ℕ) (n : FlatNode)
    → bare_surveyed (surveyed observers own inputs order n) ≡ surveyed (bare_observing observers) (bare_observed own) inputs order (bare n)
surveyed_same observers own inputs order n =
    let site = own_site inputs n in
    let p = placed observers (length n.eqns) (embedded own.node site n) in
    let others = bare_observing observers in
    let whole : bare_placed p ≡ placed others (length (map unplaced n.eqns)) (embedded (bare own.node) site (bare n)) =
    bare_all_placed observers (length n.eqns) (embedded own.node site n)
    ∙ ap (placed others (length n.eqns)) (bare_embedded own.node site n)
    ∙ ap (λ k. placed others k (embedded (bare own.node) site (bare n))) (sym (length-map n.eqns unplaced)) in
    let free : flat_map (free_placed observers p) order ≡ flat_map (free_placed others (placed others (length (map unplaced n.eqns)) (embedded (bare own.node) site (bare n)))) order =
    (λ j. flat_map (λ k. free_placed_same observers p k j) order) ∙ ap (λ (q : Placed). flat_map (free_placed others q) order) whole in
    λ i. record { node = (whole i).node; free = (free_inputs n inputs ++ map (moved_free (shift_same own.node site n i)) own.free) ++ free i }

-- ---- watched nodes

clock_same : (e : Option FlatEqn) → clock_by e ≡ clock_by (plain_option e)
clock_same None = refl
clock_same (Some e) = refl

clock_of_same : (n : FlatNode) (k : Option ℕ) → clock_of n k ≡ clock_of (bare n) k
clock_of_same n None = refl
clock_of_same n (Some k) = clock_same (slice_get n.eqns k) ∙ ap clock_by (sym (plain_at n.eqns k))

place_same : (types : List ObcType) (f : Free) (n : FlatNode) → bare_spelled (spelled_place types f n) ≡ spelled_place types f (bare n)
place_same types f n =
    let value = lifted types [] (clock_of n f.eqn) f.variable n in
    bare_spelling types (type_at value.node value.value) value.value value.node
    ∙ ap (λ (v : Valued). spelled types v.value v.node) (bare_lifted types [] (clock_of n f.eqn) f.variable n)
    ∙ ap (λ (clock : Clock). spelled types (lifted types [] clock f.variable (bare n)).value (lifted types [] clock f.variable (bare n)).node) (clock_of_same n f.eqn)

abbrev pub bare_watched : Watched → Watched
bare_watched w = record { node = bare w.node; early = w.early; late = w.late }

with_place_same : (types : List ObcType) (f : Free) (is_early : Bool) (w : Watched) → bare_watched (with_place types f is_early w) ≡ with_place types f is_early (bare_watched w)
with_place_same types f true w = ap (λ (s : Spelled). record { node = s.node; early = w.early ++ s.bits; late = w.late }) (place_same types f w.node)
with_place_same types f false w = ap (λ (s : Spelled). record { node = s.node; early = w.early; late = w.late ++ s.bits }) (place_same types f w.node)

with_places_same : (types : List ObcType) (fs : List Free) (es : List Bool) (w : Watched) → bare_watched (with_places types fs es w) ≡ with_places types fs es (bare_watched w)
with_places_same types [] es w = refl
with_places_same types (f ∷ fs) [] w = refl
with_places_same types (f ∷ fs) (e ∷ es) w = with_places_same types fs es (with_place types f e w) ∙ ap (with_places types fs es) (with_place_same types f e w)

pub watched_same : (types : List ObcType) (is_early : List Bool) (observers : Observing) (own : Observed) (inputs : ℕ) (order : List ℕ) (n : FlatNode)
    → bare_watched (watched_by types is_early (surveyed observers own inputs order n)) ≡ watched_by types is_early (surveyed (bare_observing observers) (bare_observed own) inputs order (bare n))
watched_same types is_early observers own inputs order n =
    let s = surveyed observers own inputs order n in
    with_places_same types s.free is_early (unwatched s.node) ∙ ap (watched_by types is_early) (surveyed_same observers own inputs order n)
