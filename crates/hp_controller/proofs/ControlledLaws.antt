-- A controlled node.
use Rattle.std.proofs.Common.{◌≡◌, ◌⊎◌, inl, inr, ℕ, zero, suc, ◌+◌, ◌-◌, ◌<◌, ◌≤◌, List, [], ◌∷◌, ◌++◌, length, map, get_or, refl, sym, ap, subst, ◌∙◌, arith}
use Rattle.std.specs.List.{AllByRecursion, range_with_len}
use Rattle.std.proofs.lemmas.List.{append_assoc}
use Rattle.std.proofs.lemmas.List.FromFn.{get_or-map-range_with_len}
use Rattle.hp_base.specs.declared.value.Value.{Value}
use Rattle.hp_base.specs.declared.value.Value.TheVariants.{Absent, B}
use Rattle.hp_boolx.specs.declared.gate.Gate.{Gate}
use Rattle.hp_boolx.specs.Machine.{Machine}
use Rattle.hp_boolx.specs.Search.{Bits}
use Rattle.hp_obc.specs.declared.command.ObcOp.TheVariants.{Copy, Mux}
use Rattle.hp_flat.specs.declared.equation.Atom.TheVariants.{Variable as Read}
use Rattle.hp_flat.specs.Equations.{FlatEqn}
use Rattle.hp_flat.specs.Nodes.{FlatNode}
use Rattle.law_equations.specs.Meaning.Instants.{Instant}
use Rattle.law_equations.specs.Meaning.Reactions.{Answers, Holds, Reaction}
use Rattle.hp_controller.specs.declared.decoding.Control.{Control}
use Rattle.hp_controller.specs.declared.decoding.ControlKind.{ControlKind}
use Rattle.hp_controller.specs.declared.decoding.ControlKind.TheVariants.{Truth, Constructor}
use Rattle.hp_controller.specs.Controllers.{equation}
use Rattle.hp_controller.specs.Controlled.{placing_of, bits_added, decoded_controls, controlled, IsControllable, AreChosen, IsControlledRun, ControlledLaw}
use Rattle.hp_controller.specs.Decoding.{tree, control_eqns, controls_eqns}
use Rattle.hp_controller.specs.Extending.{Extends}
use Rattle.hp_controller.specs.Gates.{gate_eqns}
use Rattle.hp_controller.specs.Steps.{Placing, register_eqns, register_places, places, asking_eqn, step_eqns, AreBits, AlwaysHold, AnswersAsController, AlwaysSteered}
use Rattle.hp_controller.proofs.ControllerLaws.{in_front, behind, bit_mapped}
use Rattle.hp_controller.proofs.DecodingLaws.{controls_law}
use Rattle.hp_controller.proofs.ExtendingLaws.{extended_law}
use Rattle.hp_controller.proofs.StepLaws.{steered_law}

-- ---- targets

-- the targets of equations are among the last inputs of a node, or behind its variables
abbrev AreNew : ℕ → ℕ → List FlatEqn → Type 0
AreNew inputs V es = AllByRecursion (λ (e : FlatEqn). AllByRecursion (λ x. (x < inputs) ⊎ (V ≤ x)) e.targets) es

new_both : (inputs V : ℕ) (xs ys : List FlatEqn) → AreNew inputs V xs → AreNew inputs V ys → AreNew inputs V (xs ++ ys)
new_both inputs V [] ys h g = g
new_both inputs V (x ∷ xs) ys h g = (h.0, new_both inputs V xs ys h.1 g)

range_new : (inputs V a n : ℕ) → V ≤ a → AllByRecursion (λ x. (x < inputs) ⊎ (V ≤ x)) (range_with_len a n)
range_new inputs V a zero h = tt
range_new inputs V a (suc n) h = (inr h, range_new inputs V (a + 1) n (omega (arith, h)))

registers_new : (inputs V first gates count : ℕ) (init : Bits) (next : List ℕ) → V ≤ first → AreNew inputs V (register_eqns first gates count init next)
registers_new inputs V first gates count [] next h = tt
registers_new inputs V first gates count (b ∷ init) [] h = tt
registers_new inputs V first gates count (b ∷ init) (n ∷ next) h = ((inr h, tt), registers_new inputs V (first + 1) gates count init next (omega (arith, h)))

gates_new : (inputs V : ℕ) (ps : List ℕ) (first i : ℕ) (gs : List Gate) → V ≤ first → AreNew inputs V (gate_eqns ps first i gs)
gates_new inputs V ps first i [] h = tt
gates_new inputs V ps first i (g ∷ gs) h = ((inr (omega (arith, h)), tt), gates_new inputs V ps first (i + 1) gs h)

tree_grows : (t count b w k next : ℕ) → next ≤ (tree t count b w k next).next
tree_grows t count b zero k next = omega arith
tree_grows t count b (suc w) k next =
    let high = tree t count (b + 1) w (k + k + 1) next in
    let one = tree_grows t count (b + 1) w (k + k + 1) next in
    let two = tree_grows t count (b + 1) w (k + k) high.next in
    omega (arith, one, two)

tree_new : (inputs V t count b w k next : ℕ) → V ≤ next → AreNew inputs V (tree t count b w k next).eqns
tree_new inputs V t count b zero k next h = tt
tree_new inputs V t count b (suc w) k next h =
    let high = tree t count (b + 1) w (k + k + 1) next in
    let low = tree t count (b + 1) w (k + k) high.next in
    let one = tree_grows t count (b + 1) w (k + k + 1) next in
    let two = tree_grows t count (b + 1) w (k + k) high.next in
    let root = equation 0 low.next Mux (Read b ∷ high.atom ∷ low.atom ∷ []) in
    new_both inputs V high.eqns (low.eqns ++ root ∷ []) (tree_new inputs V t count (b + 1) w (k + k + 1) next h)
    (new_both inputs V low.eqns (root ∷ []) (tree_new inputs V t count (b + 1) w (k + k) high.next (omega (arith, h, one))) ((inr (omega (arith, h, one, two)), tt), tt))

control_grows : (target b next width : ℕ) (k : ControlKind) → next ≤ (control_eqns target b next width k).next
control_grows target b next width Truth = omega arith
control_grows target b next width (Constructor e) = tree_grows e.number e.constructors b width 0 next

control_new : (inputs V target b next width : ℕ) (k : ControlKind) → target < inputs → V ≤ next → AreNew inputs V (control_eqns target b next width k).eqns
control_new inputs V target b next width Truth l h = ((inl l, tt), tt)
control_new inputs V target b next width (Constructor e) l h =
    let value = tree e.number e.constructors b width 0 next in
    new_both inputs V value.eqns (equation 0 target Copy (value.atom ∷ []) ∷ []) (tree_new inputs V e.number e.constructors b width 0 next h) ((inl l, tt), tt)

controls_new : (inputs V target b next : ℕ) (cs : List Control) → target + length cs ≤ inputs → V ≤ next → AreNew inputs V (controls_eqns target b next cs).eqns
controls_new inputs V target b next [] l h = tt
controls_new inputs V target b next (c ∷ cs) l h =
    let one = control_eqns target b next c.width c.kind in
    let grown = control_grows target b next c.width c.kind in
    new_both inputs V one.eqns (controls_eqns (target + 1) (b + c.width) one.next cs).eqns (control_new inputs V target b next c.width c.kind (omega (arith, l)) h)
    (controls_new inputs V (target + 1) (b + c.width) one.next cs (omega (arith, l)) (omega (arith, h, grown)))

-- ---- the node

module _ (answers : Answers) (n : FlatNode) (m : Machine) (name : List ℕ) (early late : List ℕ) (controls : List Control) (can : IsControllable n m early controls) (controller : AnswersAsController answers m name) where
  abbrev V : ℕ
  V = length n.variables

  abbrev target : ℕ
  target = n.inputs - length controls

  abbrev p : Placing
  p = placing_of V m early late

  abbrev steps : List FlatEqn
  steps = step_eqns m p name

  abbrev decoding : List FlatEqn
  decoding = (decoded_controls n m controls).eqns

  steps_new : AreNew n.inputs V steps
  steps_new =
      new_both n.inputs V (register_eqns V p.gates (length m.gates) m.init m.next) (asking_eqn name (register_places m p ++ early) p.control m.control ∷ gate_eqns (places m p) p.gates 0 m.gates) (registers_new n.inputs V V p.gates (length m.gates) m.init m.next (omega arith))
      (range_new n.inputs V p.control m.control (omega arith), gates_new n.inputs V (places m p) p.gates 0 m.gates (omega arith))

  extends : Extends n (controlled n m name early late controls) (length controls) (steps ++ decoding)
  extends =
      let few = can.inputs in
      record {
        inputs = omega (arith, few);
        variables = can.variables;
        within = can.within;
        eqns = append_assoc n.eqns steps decoding;
        targets = new_both n.inputs V steps decoding steps_new (controls_new n.inputs V target (V + m.registers) (V + bits_added m) controls (omega (arith, few)) (omega arith));
      }

  holds : (rows : List (List Value)) (instants : List Instant) → Reaction answers (controlled n m name early late controls) rows instants → AlwaysHold answers (steps ++ decoding) instants
  holds [] [] r = tt
  holds [] (now ∷ past) r = absurd r
  holds (row ∷ rows) [] r = absurd r
  holds (row ∷ rows) (now ∷ past) r =
      let here = r.1 in
      (behind (Holds answers past now) n.eqns (steps ++ decoding) (subst (AllByRecursion (Holds answers past now)) (append_assoc n.eqns steps decoding) here.equations), holds rows past r.0)

  first_holds : (instants : List Instant) → AlwaysHold answers (steps ++ decoding) instants → AlwaysHold answers steps instants
  first_holds [] h = tt
  first_holds (now ∷ past) h = (in_front (Holds answers past now) steps decoding h.0, first_holds past h.1)

  chosen : (instants : List Instant) (s : AlwaysSteered m p instants) → AlwaysHold answers (steps ++ decoding) instants → AreChosen m p target controls instants s
  chosen [] s h = tt
  chosen (now ∷ past) s h =
      let here = s.0 in
      let machine = can.machine in
      let widths = can.widths in
      let many : length here.choice ≡ m.control = sym (values_many here.choice) ∙ ap length (sym here.controls) ∙ range_many now p.control m.control in (
        controls_law answers past now target (V + m.registers) (V + bits_added m) controls here.choice can.bits (omega (arith, many, widths)) (behind (Holds answers past now) steps decoding h.0)
            (λ i l.
            let from : p.control + i ≡ p.control + i = refl in
            sym (get_or-map-range_with_len now p.control m.control i (p.control + i) Absent (omega (arith, l, many)) from) ∙ ap (λ vs. get_or vs i Absent) here.controls ∙ bit_mapped here.choice i l),
        chosen past s.1 h.1,
      )
    where
      values_many : (bs : Bits) → length (map (λ b. B b) bs) ≡ length bs
      values_many [] = refl
      values_many (b ∷ bs) = ap suc (values_many bs)

      range_many : (f : Instant) (a k : ℕ) → length (map f (range_with_len a k)) ≡ k
      range_many f a zero = refl
      range_many f a (suc k) = ap suc (range_many f (a + 1) k)

  run : (rows : List (List Value)) (instants : List Instant) → Reaction answers (controlled n m name early late controls) rows instants → AllByRecursion (λ (i : Instant). AreBits i early × AreBits i late) instants → IsControlledRun answers n m early late controls rows instants
  run rows instants r bits =
      let all = holds rows instants r in
      let s = steered_law m p name answers instants can.machine can.as_many controller (first_holds instants all) bits in
      record { reaction = extended_law answers n (controlled n m name early late controls) (length controls) (steps ++ decoding) extends rows instants r; steered = s; chosen = chosen instants s all }

pub controlled_law : ControlledLaw
controlled_law answers n m name early late controls can controller rows instants r bits = run answers n m name early late controls can controller rows instants r bits
