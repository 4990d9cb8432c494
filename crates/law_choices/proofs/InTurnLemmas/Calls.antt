-- Which nodes the node that chooses calls: those that its plant calls, and its controller.
use Rattle.std.proofs.Common.{◌≡◌, ℕ, zero, suc, ◌+◌, ◌-◌, Bool, true, false, if◌then◌else◌, List, [], ◌∷◌, ◌++◌, Option, None, Some, refl, sym, subst}
use Rattle.std.specs.Prelude.{length, slice_get}
use Rattle.std.specs.List.{AllByRecursion, range_with_len}
use Rattle.hp_boolx.specs.declared.gate.Gate.{Gate}
use Rattle.hp_boolx.specs.Machine.{Machine}
use Rattle.hp_boolx.specs.Search.{Bits}
use Rattle.hp_obc.specs.Form.{has_name}
use Rattle.hp_obc.specs.Machines.{ObcType}
use Rattle.hp_obc.specs.declared.command.ObcOp.{ObcOp}
use Rattle.hp_obc.specs.declared.command.ObcOp.TheVariants.{Or}
use Rattle.hp_tree.specs.Programs.{Node}
use Rattle.hp_flat.specs.declared.equation.Atom.{Atom}
use Rattle.hp_flat.specs.declared.equation.Atom.TheVariants.{Variable as Read}
use Rattle.hp_flat.specs.declared.node.FlatTy.{FlatTy}
use Rattle.hp_flat.specs.declared.node.FlatTy.TheVariants.{Bool as Truth, Int, Enum}
use Rattle.hp_flat.specs.declared.node.Variable.{Variable}
use Rattle.hp_flat.specs.Equations.{Clock, Right, operator, register, called, FlatEqn}
use Rattle.hp_flat.specs.Nodes.{FlatNode}
use Rattle.law_equations.specs.Followed.Programs.{CallsAmong, CallsOnly}
use Rattle.hp_controller.specs.declared.decoding.Control.{Control}
use Rattle.hp_controller.specs.declared.decoding.ControlKind.{ControlKind}
use Rattle.hp_controller.specs.declared.decoding.ControlKind.TheVariants as kind
use Rattle.hp_controller.specs.Controlled.{bits_added, placing_of, decoded_controls, controlled}
use Rattle.hp_controller.specs.Controlling.{IsOperator}
use Rattle.hp_controller.specs.Decoding.{tree, control_eqns, controls_eqns}
use Rattle.hp_controller.specs.Gates.{gate_eqns}
use Rattle.hp_controller.specs.Steps.{register_eqns, asking_eqn, step_eqns, register_places, places}
use Rattle.hp_watch.specs.declared.watching.Free.{Free}
use Rattle.hp_watch.specs.Adding.{with_variable, with_eqn, with_operator, with_copy, next_variable, type_at}
use Rattle.hp_watch.specs.Lifting.{Valued, with_each, case_eqn, with_cases, lifted, with_test, has_bit, with_either, either, with_bit, with_bits, with_spelling, width_of, count_of}
use Rattle.hp_watch.specs.Embedding.{Site, moved_right, moved_eqn, with_variables, with_inputs, with_moved, with_room, embedded}
use Rattle.hp_watch.specs.Watching.{Observed, Observing, Placed, called_by, site_of, with_observer, with_called, placed, own_site, surveyed, walked, clock_of, spelled_place, Watched, with_place, with_places, unwatched, IsWatched}
use Rattle.law_choices.proofs.AddingLemmas.Adding.{both}
use Rattle.law_choices.specs.InTurn.Calling.{CallNothing}

-- ---- fewer names and more

module _ (names more : List (List ℕ)) (among : (f : List ℕ) → has_name names f ≡ true → has_name more f ≡ true) where
  right_among : (r : Right) → CallsAmong names r → CallsAmong more r
  right_among (operator op args) h = tt
  right_among (register first next) h = tt
  right_among (called f args) h = among f h

  pub calls_among : (es : List FlatEqn) → CallsOnly names es → CallsOnly more es
  calls_among [] h = tt
  calls_among (e ∷ es) h = (right_among e.right h.0, calls_among es h.1)

none_among : (more : List (List ℕ)) (f : List ℕ) → has_name [] f ≡ true → has_name more f ≡ true
none_among more f h = absurd cc

pub calls_nothing : (more : List (List ℕ)) (es : List FlatEqn) → CallsOnly [] es → CallsOnly more es
calls_nothing more es h = calls_among [] more (none_among more) es h

stateless_call : (r : Right) → IsOperator r → CallsAmong [] r
stateless_call (operator op args) h = tt
stateless_call (register first next) h = absurd h
stateless_call (called f args) h = absurd h

pub stateless_calls : (es : List FlatEqn) → AllByRecursion (λ (e : FlatEqn). IsOperator e.right) es → CallsOnly [] es
stateless_calls [] h = tt
stateless_calls (e ∷ es) h = (stateless_call e.right h.0, stateless_calls es h.1)

-- ---- a node to which something is added

module _ (names : List (List ℕ)) where
  abbrev Calls : FlatEqn → Type 0
  Calls e = CallsAmong names e.right

  abbrev Good : FlatNode → Type 0
  Good n = CallsOnly names n.eqns

  eqn_good : (e : FlatEqn) (n : FlatNode) → CallsAmong names e.right → Good n → Good (with_eqn e n)
  unfolding with_eqn
  eqn_good e n h g = both Calls n.eqns (e ∷ []) g (h, tt)

  variable_good : (ty : FlatTy) (n : FlatNode) → Good n → Good (with_variable ty n)
  unfolding with_variable
  variable_good ty n g = g

  each_good : (add : ℕ → FlatNode → FlatNode) → ((k : ℕ) (n : FlatNode) → Good n → Good (add k n)) → (count : ℕ) (n : FlatNode) → Good n → Good (with_each add count n)
  each_good add f zero n g = g
  each_good add f (suc k) n g = f k (with_each add k n) (each_good add f k n g)

  operator_good : (ty : FlatTy) (op : ObcOp) (args : List Atom) (n : FlatNode) → Good n → Good (with_operator ty op args n)
  operator_good ty op args n g = eqn_good _ (with_variable ty n) tt (variable_good ty n g)

  pub copy_good : (x : ℕ) (n : FlatNode) → Good n → Good (with_copy x n)
  copy_good x n g = operator_good Truth _ _ n g

  cases_good : (target : ℕ) (t : FlatTy) (clock : Clock) (step : ℕ × ℕ) (value count : ℕ) (n : FlatNode) → Good n → Good (with_cases target t clock step value count n)
  cases_good target t clock step value count n g = each_good (λ k. with_eqn (case_eqn target t clock step value k)) (λ k m h. eqn_good (case_eqn target t clock step value k) m tt h) count n g

  lifted_good : (types : List ObcType) (clock on : Clock) (x : ℕ) (n : FlatNode) → Good n → Good (lifted types clock on x n).node
  lifted_good types clock [] x n g = g
  lifted_good types clock (step ∷ steps) x n g =
      let inner = lifted types (clock ++ step ∷ []) steps x n in
      let m = inner.node in
      cases_good (next_variable m) (type_at m inner.value) clock step inner.value (count_of types (type_at m step.0)) (with_variable (type_at m inner.value) m) (variable_good (type_at m inner.value) m (lifted_good types (clock ++ step ∷ []) steps x n g))

  -- ---- bits

  abbrev GoodValue : Valued → Type 0
  GoodValue v = Good v.node

  either_step : (k place bit test : ℕ) (n : FlatNode) → Good n → Good (with_either k place bit test n).node
  either_step k place bit test n g = by (has_bit k place)
    where
      by : (b : Bool) → GoodValue (if b then record { node = with_operator Truth Or (Read bit ∷ Read test ∷ []) n; value = next_variable n } else record { node = n; value = bit })
      by true = operator_good Truth _ _ n g
      by false = g

  either_good : (place k : ℕ) (tests : List ℕ) (bit : ℕ) (n : FlatNode) → Good n → Good (either place k tests bit n).node
  either_good place k [] bit n g = g
  either_good place k (test ∷ tests) bit n g =
      let first = with_either k place bit test n in
      either_good place (k + 1) tests first.value first.node (either_step k place bit test n g)

  bits_good : (tests : List ℕ) (count : ℕ) (n : FlatNode) → Good n → Good (with_bits tests count n).node
  bits_good tests zero n g = g
  bits_good tests (suc place) n g =
      let bit = with_bit tests place n in
      bits_good tests place bit.node (either_good place 0 tests (next_variable n) _ (operator_good Truth _ _ n g))

  spelling_good : (types : List ObcType) (ty : FlatTy) (value : ℕ) (n : FlatNode) → Good n → Good (with_spelling types ty value n).node
  spelling_good types Truth value n g = g
  spelling_good types Int value n g = g
  spelling_good types (Enum t) value n g =
      let count = count_of types (Enum t) in
      bits_good (range_with_len (next_variable n) count) (width_of count) (with_each (with_test t value) count n) (each_good (with_test t value) (λ k m h. operator_good Truth _ _ m h) count n g)

  -- ---- observers

  moved_call : (by : ℕ) (r : Right) → CallsAmong names r → CallsAmong names (moved_right by r)
  moved_call by (operator op args) h = tt
  moved_call by (register first next) h = tt
  moved_call by (called f args) h = h

  variables_good : (vs : List Variable) (n : FlatNode) → Good n → Good (with_variables vs n)
  variables_good [] n g = g
  variables_good (v ∷ vs) n g = variables_good vs (with_variable v.ty n) (variable_good v.ty n g)

  inputs_good : (clock : Clock) (target : ℕ) (args : List Atom) (n : FlatNode) → Good n → Good (with_inputs clock target args n)
  inputs_good clock target [] n g = g
  inputs_good clock target (a ∷ args) n g = inputs_good clock (target + 1) args _ (eqn_good _ n tt g)

  moved_good : (site : Site) (by : ℕ) (es : List FlatEqn) (n : FlatNode) → CallsOnly names es → Good n → Good (with_moved site by es n)
  moved_good site by [] n h g = g
  moved_good site by (e ∷ es) n h g = moved_good site by es (with_eqn (moved_eqn site by e) n) h.1 (eqn_good (moved_eqn site by e) n (moved_call by e.right h.0) g)

  embedded_good : (observer : FlatNode) (site : Site) (n : FlatNode) → CallsOnly names observer.eqns → Good n → Good (embedded observer site n)
  embedded_good observer site n h g =
      moved_good site (next_variable n) observer.eqns (with_room observer site n) h (inputs_good site.clock (next_variable n) site.inputs (with_variables observer.variables n) (variables_good observer.variables n g))

  module _ (observers : Observing) (alone : CallNothing observers) where
    observed_good : (f : List ℕ) (o : Observed) → observers f ≡ Some o → CallsOnly names o.node.eqns
    observed_good f o e = calls_nothing names o.node.eqns (alone f o e)

    observer_good : (o : Option Observed) → ((k : Observed) → o ≡ Some k → CallsOnly names k.node.eqns) → (site : Site) (p : Placed) → Good p.node → Good (with_observer o site p).node
    observer_good None h site p g = g
    observer_good (Some o) h site p g = embedded_good o.node site p.node (h o refl) g

    called_by_good : (r : Right) (k : Observed) → called_by observers r ≡ Some k → CallsOnly names k.node.eqns
    called_by_good (operator op args) k e = absurd cc
    called_by_good (register first next) k e = absurd cc
    called_by_good (called f args) k e = observed_good f k e

    called_good : (o : Option FlatEqn) (p : Placed) → Good p.node → Good (with_called observers o p).node
    called_good None p g = g
    called_good (Some e) p g = observer_good (called_by observers e.right) (called_by_good e.right) (site_of e) p g

    placed_good : (count : ℕ) (n : FlatNode) → Good n → Good (placed observers count n).node
    placed_good zero n g = g
    placed_good (suc k) n g = let p = placed observers k n in called_good (slice_get p.node.eqns k) p (placed_good k n g)

    place_good : (types : List ObcType) (f : Free) (is_early : Bool) (w : Watched) → Good w.node → Good (with_place types f is_early w).node
    place_good types f is_early w g = by is_early
      where
        spelled_good : Good (spelled_place types f w.node).node
        spelled_good =
            let on = clock_of w.node f.eqn in
            let value = lifted types [] on f.variable w.node in
            spelling_good types (type_at value.node value.value) value.value value.node (lifted_good types [] on f.variable w.node g)

        by : (b : Bool) → Good (with_place types f b w).node
        by true = spelled_good
        by false = spelled_good

    places_good : (types : List ObcType) (free : List Free) (is_early : List Bool) (w : Watched) → Good w.node → Good (with_places types free is_early w).node
    places_good types [] is_early w g = g
    places_good types (f ∷ fs) [] w g = g
    places_good types (f ∷ fs) (e ∷ es) w g = places_good types fs es (with_place types f e w) (place_good types f e w g)

    pub watched_good : (types : List ObcType) (node : Node) (is_early : List Bool) (n : FlatNode) (w : Watched) → IsWatched types observers node is_early n w → Good n → Good w.node
    watched_good types node is_early n w is g =
        let fits = is.fits in
        let own = fits.own in
        let site = own_site (length node.inputs) n in
        let s = surveyed observers own (length node.inputs) (walked node n) n in
        subst (λ (z : Watched). Good z.node) (sym is.is)
        (places_good types s.free is_early (unwatched s.node) (placed_good (length n.eqns) (embedded own.node site n) (embedded_good own.node site n (observed_good n.name own fits.has) g)))

  -- ---- the controller is asked

  registers_good : (first gates count : ℕ) (init : Bits) (next : List ℕ) → CallsOnly names (register_eqns first gates count init next)
  registers_good first gates count [] [] = tt
  registers_good first gates count [] (n ∷ next) = tt
  registers_good first gates count (b ∷ init) [] = tt
  registers_good first gates count (b ∷ init) (n ∷ next) = (tt, registers_good (first + 1) gates count init next)

  gates_good : (at : List ℕ) (first i : ℕ) (gates : List Gate) → CallsOnly names (gate_eqns at first i gates)
  gates_good at first i [] = tt
  gates_good at first i (g ∷ gs) = (tt, gates_good at first (i + 1) gs)

  tree_good : (t count b w k next : ℕ) → CallsOnly names (tree t count b w k next).eqns
  tree_good t count b zero k next = tt
  tree_good t count b (suc w) k next =
      let high = tree t count (b + 1) w (k + k + 1) next in
      let low = tree t count (b + 1) w (k + k) high.next in
      both Calls high.eqns _ (tree_good t count (b + 1) w (k + k + 1) next) (both Calls low.eqns _ (tree_good t count (b + 1) w (k + k) high.next) (tt, tt))

  control_good : (target b next width : ℕ) (k : ControlKind) → CallsOnly names (control_eqns target b next width k).eqns
  control_good target b next width kind.Truth = (tt, tt)
  control_good target b next width (kind.Constructor e) = let value = tree e.number e.constructors b width 0 next in both Calls value.eqns _ (tree_good e.number e.constructors b width 0 next) (tt, tt)

  controls_good : (target b next : ℕ) (cs : List Control) → CallsOnly names (controls_eqns target b next cs).eqns
  controls_good target b next [] = tt
  controls_good target b next (c ∷ cs) =
      let one = control_eqns target b next c.width c.kind in
      both Calls one.eqns _ (control_good target b next c.width c.kind) (controls_good (target + 1) (b + c.width) one.next cs)

  pub controlled_good : (n : FlatNode) (m : Machine) (name early late : List ℕ) (controls : List Control) → has_name names name ≡ true → Good n → Good (controlled n m name early late controls)
  controlled_good n m name early late controls h g =
      let p = placing_of (length n.variables) m early late in
      let registers = register_eqns p.registers p.gates (length m.gates) m.init m.next in
      let asking = asking_eqn name (register_places m p ++ p.early) p.control m.control in
      let gates = gate_eqns (places m p) p.gates 0 m.gates in
      both Calls (n.eqns ++ step_eqns m p name) (decoded_controls n m controls).eqns
      (both Calls n.eqns (step_eqns m p name) g (both Calls registers (asking ∷ gates) (registers_good p.registers p.gates (length m.gates) m.init m.next) (h, gates_good (places m p) p.gates 0 m.gates)))
      (controls_good (n.inputs - length controls) (length n.variables + m.registers) (length n.variables + bits_added m) controls)
