-- What is added for a controller leaves the node as it was, and its bits are truth values.
use Rattle.std.proofs.Common.{◌≡◌, ℕ, zero, suc, ◌+◌, Bool, true, false, if◌then◌else◌, List, [], ◌∷◌, ◌++◌, length, map, slice_get, Option, None, Some, refl, sym, ap, subst, ◌∙◌}
use Rattle.std.specs.List.{AllByRecursion, range_with_len}
use Rattle.std.proofs.lemmas.List.{append_assoc, append-nil}
use Rattle.hp_tree.specs.Programs.{Node}
use Rattle.hp_obc.specs.Machines.{ObcType}
use Rattle.hp_obc.specs.declared.command.ObcOp.{ObcOp}
use Rattle.hp_obc.specs.declared.command.ObcOp.TheVariants.{Or, Copy}
use Rattle.hp_base.specs.declared.value.Value.TheVariants.{B}
use Rattle.hp_flat.specs.declared.equation.Atom.{Atom}
use Rattle.hp_flat.specs.declared.equation.Atom.TheVariants.{Variable as Read, Value as Fixed}
use Rattle.hp_flat.specs.declared.node.FlatTy.{FlatTy}
use Rattle.hp_flat.specs.declared.node.FlatTy.TheVariants as ty
use Rattle.hp_flat.specs.declared.node.Variable.{Variable}
use Rattle.hp_flat.specs.Equations.{Clock, FlatEqn}
use Rattle.hp_flat.specs.Nodes.{FlatNode}
use Rattle.hp_watch.specs.declared.watching.Free.{Free}
use Rattle.hp_watch.specs.Adding.{type_of, type_at, next_variable, added_variable, with_variable, with_eqn, operator_eqn, with_operator}
use Rattle.hp_watch.specs.Embedding.{Site, moved_eqn, with_variables, with_inputs, with_moved, with_room, embedded}
use Rattle.hp_watch.specs.Growing.{Grows, AreTruths, IsLarger}
use Rattle.hp_watch.specs.Lifting.{count_of, with_each, case_eqn, with_cases, with_step, lifted, Valued, has_bit, with_test, with_either, either, with_bit, Spelled, with_bits, width_of, with_code, with_spelling, spelled}
use Rattle.hp_watch.specs.Watching.{Observing, Observed, Placed, called_by, site_of, with_observer, with_called, with_called_at, placed, own_site, surveyed, clock_of, spelled_place, Watched, with_place, with_places, unwatched, watched_by, IsWatched, walked}

-- ---- what grows

pub stays : (n : FlatNode) → Grows n n
stays n = record { name = refl; inputs = refl; outputs = refl; variables = ([], sym (append-nil n.variables)); eqns = ([], sym (append-nil n.eqns)) }

pub further : (n m k : FlatNode) → Grows n m → Grows m k → Grows n k
further n m k g h = record {
  name = h.name ∙ g.name;
  inputs = h.inputs ∙ g.inputs;
  outputs = h.outputs ∙ g.outputs;
  variables = (g.variables.0 ++ h.variables.0, h.variables.1 ∙ ap (λ xs. xs ++ h.variables.0) g.variables.1 ∙ append_assoc n.variables g.variables.0 h.variables.0);
  eqns = (g.eqns.0 ++ h.eqns.0, h.eqns.1 ∙ ap (λ xs. xs ++ h.eqns.0) g.eqns.1 ∙ append_assoc n.eqns g.eqns.0 h.eqns.0);
}

by_variable : (t : FlatTy) (n : FlatNode) → Grows n (with_variable t n)
unfolding with_variable
by_variable t n = record { name = refl; inputs = refl; outputs = refl; variables = (added_variable (next_variable n) t ∷ [], refl); eqns = ([], sym (append-nil n.eqns)) }

by_eqn : (e : FlatEqn) (n : FlatNode) → Grows n (with_eqn e n)
unfolding with_eqn
by_eqn e n = record { name = refl; inputs = refl; outputs = refl; variables = ([], sym (append-nil n.variables)); eqns = (e ∷ [], refl) }

by_operator : (t : FlatTy) (op : ObcOp) (args : List Atom) (n : FlatNode) → Grows n (with_operator t op args n)
by_operator t op args n = further n (with_variable t n) (with_operator t op args n) (by_variable t n) (by_eqn (operator_eqn (next_variable n) [] op args) (with_variable t n))

by_each : (f : ℕ → FlatNode → FlatNode) → ((k : ℕ) (m : FlatNode) → Grows m (f k m)) → (count : ℕ) (n : FlatNode) → Grows n (with_each f count n)
by_each f h zero n = stays n
by_each f h (suc k) n = further n (with_each f k n) (f k (with_each f k n)) (by_each f h k n) (h k (with_each f k n))

by_step : (types : List ObcType) (clock : Clock) (step : ℕ × ℕ) (value : ℕ) (n : FlatNode) → Grows n (with_step types clock step value n)
by_step types clock step value n =
    let t = type_at n value in
    let case = λ (k : ℕ). with_eqn (case_eqn (next_variable n) t clock step value k) in
    further n (with_variable t n) (with_step types clock step value n) (by_variable t n)
    (by_each case (λ k m. by_eqn (case_eqn (next_variable n) t clock step value k) m) (count_of types (type_at n step.0)) (with_variable t n))

by_lifting : (types : List ObcType) (clock steps : Clock) (x : ℕ) (n : FlatNode) → Grows n (lifted types clock steps x n).node
by_lifting types clock [] x n = stays n
by_lifting types clock (s ∷ steps) x n =
    let inner = lifted types (clock ++ s ∷ []) steps x n in
    further n inner.node (with_step types clock s inner.value inner.node) (by_lifting types (clock ++ s ∷ []) steps x n) (by_step types clock s inner.value inner.node)

either_by : (b : Bool) (n : FlatNode) (v w : Valued) → Grows n v.node → Grows n w.node → Grows n (if b then v else w).node
either_by true n v w g h = g
either_by false n v w g h = h

by_with_either : (k place bit test : ℕ) (n : FlatNode) → Grows n (with_either k place bit test n).node
by_with_either k place bit test n =
    either_by (has_bit k place) n (record { node = with_operator ty.Bool Or (Read bit ∷ Read test ∷ []) n; value = next_variable n }) (record { node = n; value = bit }) (by_operator ty.Bool Or (Read bit ∷ Read test ∷ []) n) (stays n)

by_either : (place k : ℕ) (tests : List ℕ) (bit : ℕ) (n : FlatNode) → Grows n (either place k tests bit n).node
by_either place k [] bit n = stays n
by_either place k (test ∷ tests) bit n =
    let first = with_either k place bit test n in
    further n first.node (either place (k + 1) tests first.value first.node).node (by_with_either k place bit test n) (by_either place (k + 1) tests first.value first.node)

abbrev nothing_yet : FlatNode → FlatNode
nothing_yet n = with_operator ty.Bool Copy (Fixed (B false) ∷ []) n

by_bit : (tests : List ℕ) (place : ℕ) (n : FlatNode) → Grows n (with_bit tests place n).node
by_bit tests place n = further n (nothing_yet n) (with_bit tests place n).node (by_operator ty.Bool Copy (Fixed (B false) ∷ []) n) (by_either place 0 tests (next_variable n) (nothing_yet n))

by_bits : (tests : List ℕ) (width : ℕ) (n : FlatNode) → Grows n (with_bits tests width n).node
by_bits tests zero n = stays n
by_bits tests (suc place) n =
    let bit = with_bit tests place n in
    further n bit.node (with_bits tests place bit.node).node (by_bit tests place n) (by_bits tests place bit.node)

tested : (t value count : ℕ) (n : FlatNode) → Grows n (with_each (with_test t value) count n)
tested t value count n = by_each (with_test t value) (λ k m. by_operator ty.Bool _ _ m) count n

by_code : (t count value : ℕ) (n : FlatNode) → Grows n (with_code t count value n).node
by_code t count value n =
    further n (with_each (with_test t value) count n) (with_code t count value n).node (tested t value count n) (by_bits (range_with_len (next_variable n) count) (width_of count) (with_each (with_test t value) count n))

by_spelling : (types : List ObcType) (t : FlatTy) (value : ℕ) (n : FlatNode) → Grows n (with_spelling types t value n).node
by_spelling types ty.Bool value n = stays n
by_spelling types ty.Int value n = stays n
by_spelling types (ty.Enum e) value n = by_code e (count_of types (ty.Enum e)) value n

by_variables : (vs : List Variable) (n : FlatNode) → Grows n (with_variables vs n)
by_variables [] n = stays n
by_variables (v ∷ vs) n = further n (with_variable v.ty n) (with_variables vs (with_variable v.ty n)) (by_variable v.ty n) (by_variables vs (with_variable v.ty n))

by_inputs : (clock : Clock) (target : ℕ) (args : List Atom) (n : FlatNode) → Grows n (with_inputs clock target args n)
by_inputs clock target [] n = stays n
by_inputs clock target (a ∷ args) n =
    let more = with_eqn (operator_eqn target clock Copy (a ∷ [])) n in
    further n more (with_inputs clock (target + 1) args more) (by_eqn (operator_eqn target clock Copy (a ∷ [])) n) (by_inputs clock (target + 1) args more)

by_moved : (site : Site) (by : ℕ) (es : List FlatEqn) (n : FlatNode) → Grows n (with_moved site by es n)
by_moved site by [] n = stays n
by_moved site by (e ∷ es) n =
    let more = with_eqn (moved_eqn site by e) n in
    further n more (with_moved site by es more) (by_eqn (moved_eqn site by e) n) (by_moved site by es more)

by_embedding : (observer : FlatNode) (site : Site) (n : FlatNode) → Grows n (embedded observer site n)
by_embedding observer site n =
    let named = with_variables observer.variables n in
    let room = with_room observer site n in
    further n named (embedded observer site n) (by_variables observer.variables n)
    (further named room (embedded observer site n) (by_inputs site.clock (next_variable n) site.inputs named) (by_moved site (next_variable n) observer.eqns room))

by_observer : (o : Option Observed) (site : Site) (p : Placed) → Grows p.node (with_observer o site p).node
by_observer None site p = stays p.node
by_observer (Some o) site p = by_embedding o.node site p.node

by_called : (observers : Observing) (e : Option FlatEqn) (p : Placed) → Grows p.node (with_called observers e p).node
by_called observers None p = stays p.node
by_called observers (Some e) p = by_observer (called_by observers e.right) (site_of e) p

by_placing : (observers : Observing) (count : ℕ) (n : FlatNode) → Grows n (placed observers count n).node
by_placing observers zero n = stays n
by_placing observers (suc k) n =
    let before = placed observers k n in
    further n before.node (with_called_at observers k before).node (by_placing observers k n) (by_called observers (slice_get before.node.eqns k) before)

by_survey : (observers : Observing) (own : Observed) (inputs : ℕ) (order : List ℕ) (n : FlatNode) → Grows n (surveyed observers own inputs order n).node
by_survey observers own inputs order n =
    let site = own_site inputs n in
    let first = embedded own.node site n in
    further n first (placed observers (length n.eqns) first).node (by_embedding own.node site n) (by_placing observers (length n.eqns) first)

by_place : (types : List ObcType) (f : Free) (n : FlatNode) → Grows n (spelled_place types f n).node
by_place types f n =
    let value = lifted types [] (clock_of n f.eqn) f.variable n in
    further n value.node (spelled_place types f n).node (by_lifting types [] (clock_of n f.eqn) f.variable n) (by_spelling types (type_at value.node value.value) value.value value.node)

-- ---- truth values

known_type : (vs more : List Variable) (x : ℕ) → type_of (slice_get vs x) ≡ ty.Bool → type_of (slice_get (vs ++ more) x) ≡ ty.Bool
known_type [] more x h = absurd cc
known_type (v ∷ vs) more zero h = h
known_type (v ∷ vs) more (suc x) h = known_type vs more x h

truth_stays : (n m : FlatNode) (x : ℕ) → Grows n m → type_at n x ≡ ty.Bool → type_at m x ≡ ty.Bool
truth_stays n m x g h = ap (λ vs. type_of (slice_get vs x)) g.variables.1 ∙ known_type n.variables g.variables.0 x h

pub truths_stay : (n m : FlatNode) (xs : List ℕ) → Grows n m → AreTruths n xs → AreTruths m xs
truths_stay n m [] g h = h
truths_stay n m (x ∷ xs) g h = (truth_stays n m x g h.0, truths_stay n m xs g h.1)

pub truths_join : (n : FlatNode) (xs ys : List ℕ) → AreTruths n xs → AreTruths n ys → AreTruths n (xs ++ ys)
truths_join n [] ys h k = k
truths_join n (x ∷ xs) ys h k = (h.0, truths_join n xs ys h.1 k)

last_type : (vs : List Variable) (v : Variable) → type_of (slice_get (vs ++ v ∷ []) (length vs)) ≡ v.ty
last_type [] v = refl
last_type (w ∷ vs) v = last_type vs v

truth_added : (op : ObcOp) (args : List Atom) (n : FlatNode) → type_at (with_operator ty.Bool op args n) (next_variable n) ≡ ty.Bool
unfolding with_variable with_eqn
truth_added op args n = last_type n.variables (added_variable (next_variable n) ty.Bool)

abbrev IsTruth : Valued → Type 0
IsTruth v = type_at v.node v.value ≡ ty.Bool

truth_by : (b : Bool) (v w : Valued) → IsTruth v → IsTruth w → IsTruth (if b then v else w)
truth_by true v w g h = g
truth_by false v w g h = h

truth_either : (k place bit test : ℕ) (n : FlatNode) → type_at n bit ≡ ty.Bool → IsTruth (with_either k place bit test n)
truth_either k place bit test n h =
    truth_by (has_bit k place) (record { node = with_operator ty.Bool Or (Read bit ∷ Read test ∷ []) n; value = next_variable n }) (record { node = n; value = bit }) (truth_added Or (Read bit ∷ Read test ∷ []) n) h

truth_among : (place k : ℕ) (tests : List ℕ) (bit : ℕ) (n : FlatNode) → type_at n bit ≡ ty.Bool → IsTruth (either place k tests bit n)
truth_among place k [] bit n h = h
truth_among place k (test ∷ tests) bit n h =
    let first = with_either k place bit test n in
    truth_among place (k + 1) tests first.value first.node (truth_either k place bit test n h)

truth_bit : (tests : List ℕ) (place : ℕ) (n : FlatNode) → IsTruth (with_bit tests place n)
truth_bit tests place n = truth_among place 0 tests (next_variable n) (nothing_yet n) (truth_added Copy (Fixed (B false) ∷ []) n)

truth_bits : (tests : List ℕ) (width : ℕ) (n : FlatNode) → AreTruths (with_bits tests width n).node (with_bits tests width n).bits
truth_bits tests zero n = tt
truth_bits tests (suc place) n =
    let bit = with_bit tests place n in
    let rest = with_bits tests place bit.node in
    (truth_stays bit.node rest.node bit.value (by_bits tests place bit.node) (truth_bit tests place n), truth_bits tests place bit.node)

truth_spelling : (types : List ObcType) (t : FlatTy) (value : ℕ) (n : FlatNode) → type_at n value ≡ t → AreTruths (with_spelling types t value n).node (with_spelling types t value n).bits
truth_spelling types ty.Bool value n h = (h, tt)
truth_spelling types ty.Int value n h = tt
truth_spelling types (ty.Enum e) value n h = truth_bits (range_with_len (next_variable n) (count_of types (ty.Enum e))) (width_of (count_of types (ty.Enum e))) (with_each (with_test e value) (count_of types (ty.Enum e)) n)

truth_place : (types : List ObcType) (f : Free) (n : FlatNode) → AreTruths (spelled_place types f n).node (spelled_place types f n).bits
truth_place types f n =
    let value = lifted types [] (clock_of n f.eqn) f.variable n in
    truth_spelling types (type_at value.node value.value) value.value value.node refl

-- ---- all of it

larger_by : (b : Bool) (n : FlatNode) (v w : Watched) → IsLarger n v → IsLarger n w → IsLarger n (if b then v else w)
larger_by true n v w g h = g
larger_by false n v w g h = h

larger_place : (types : List ObcType) (f : Free) (is_early : Bool) (n : FlatNode) (w : Watched) → IsLarger n w → IsLarger n (with_place types f is_early w)
larger_place types f is_early n w l =
    let s = spelled_place types f w.node in
    let more = by_place types f w.node in
    let grown = further n w.node s.node l.grows more in
    let bits = truth_place types f w.node in
    let early = truths_stay w.node s.node w.early more l.early in
    let late = truths_stay w.node s.node w.late more l.late in
    larger_by is_early n (record { node = s.node; early = w.early ++ s.bits; late = w.late }) (record { node = s.node; early = w.early; late = w.late ++ s.bits })
    (record { grows = grown; early = truths_join s.node w.early s.bits early bits; late = late })
    (record { grows = grown; early = early; late = truths_join s.node w.late s.bits late bits })

larger_places : (types : List ObcType) (fs : List Free) (es : List Bool) (n : FlatNode) (w : Watched) → IsLarger n w → IsLarger n (with_places types fs es w)
larger_places types [] es n w l = l
larger_places types (f ∷ fs) [] n w l = l
larger_places types (f ∷ fs) (e ∷ es) n w l = larger_places types fs es n (with_place types f e w) (larger_place types f e n w l)

pub watched-larger : (types : List ObcType) (is_early : List Bool) (observers : Observing) (own : Observed) (inputs : ℕ) (order : List ℕ) (n : FlatNode) → IsLarger n (watched_by types is_early (surveyed observers own inputs order n))
watched-larger types is_early observers own inputs order n =
    let s = surveyed observers own inputs order n in
    larger_places types s.free is_early n (unwatched s.node) (record { grows = by_survey observers own inputs order n; early = tt; late = tt })

pub larger : (types : List ObcType) (observers : Observing) (node : Node) (is_early : List Bool) (n : FlatNode) (w : Watched) → IsWatched types observers node is_early n w → IsLarger n w
larger types observers node is_early n w i = subst (IsLarger n) (sym i.is) (watched-larger types is_early observers i.fits.own (length node.inputs) (walked node n) n)
