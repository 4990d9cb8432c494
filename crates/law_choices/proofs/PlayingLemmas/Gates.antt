-- What the node that chooses holds for the gates that it copies.
use Rattle.std.proofs.Common.{◌≡◌, ℕ, zero, suc, ◌+◌, ◌<◌, ◌≤◌, List, [], ◌∷◌, ◌++◌, length, map, refl, sym, ap, subst, ◌∙◌, arith}
use Rattle.std.specs.List.{AllByRecursion, range_with_len}
use Rattle.std.proofs.lemmas.List.{length-append, length-map}
use Rattle.hp_base.specs.declared.value.Value.{Value}
use Rattle.hp_base.specs.declared.value.Value.TheVariants.{Absent, B}
use Rattle.hp_boolx.specs.Machine.{Machine, at_gate}
use Rattle.hp_boolx.specs.Search.{Bits}
use Rattle.hp_obc.specs.declared.command.ObcOp.TheVariants.{Copy}
use Rattle.hp_flat.specs.declared.node.FlatTy.TheVariants.{Bool as Truth}
use Rattle.hp_flat.specs.declared.equation.Atom.TheVariants.{Variable as Read}
use Rattle.hp_flat.specs.Equations.{FlatEqn}
use Rattle.hp_flat.specs.Nodes.{FlatNode}
use Rattle.law_equations.specs.Meaning.Instants.{Instant, is_true}
use Rattle.law_equations.specs.Meaning.Reactions.{Answers, Holds}
use Rattle.hp_controller.specs.declared.decoding.Control.{Control}
use Rattle.hp_controller.specs.Controllers.{added_variable}
use Rattle.hp_controller.specs.Controlled.{bit_variables, bits_added, controlled, decoded_controls, placing_of}
use Rattle.hp_controller.specs.Gates.{GatesLaw, HaveBits, gate_eqns}
use Rattle.hp_controller.specs.Steps.{AreBits, Placing, asking_eqn, bits_of, control_places, places, register_eqns, register_places, step_eqns}
use Rattle.hp_watch.specs.Adding.{next_variable, operator_eqn, with_copy, with_eqn, with_variable}
use Rattle.law_choices.specs.Adding.Whole.{IsWhole}
use Rattle.law_choices.specs.Playing.Laws.{bits_at}
use Rattle.law_choices.proofs.AddingLemmas.Base.{front}
use Rattle.law_choices.proofs.AddingLemmas.Adding.{both}
use Rattle.law_choices.proofs.AddingLemmas.Placed.{same_eqns, transfer}
use Rattle.law_choices.proofs.AddingLemmas.Rows.{each_range}
use Rattle.law_choices.proofs.InTurnLemmas.Telling.{copy_next}

back : {A : Type 0} (P : A → Type 0) (xs ys : List A) → AllByRecursion P (xs ++ ys) → AllByRecursion P ys
back P [] ys h = h
back P (x ∷ xs) ys h = back P xs ys h.1

first_value : List Value → Value
first_value [] = Absent
first_value (v ∷ vs) = v

-- ---- the equations of gates and of their copies

module _ (n other : FlatNode) (m : Machine) (name early late : List ℕ) (controls : List Control) (whole : IsWhole n m name early late controls other) (answers : Answers) (past : List Instant) (now : Instant) (holds : AllByRecursion (Holds answers past now) other.eqns) where
  abbrev P : FlatEqn → Type 0
  P e = Holds answers past now e

  abbrev p : Placing
  p = placing_of (length n.variables) m early late

  abbrev asking : FlatNode
  asking = controlled n m name early late controls

  abbrev first : FlatNode
  first = with_copy whole.assume asking

  abbrev second : FlatNode
  second = with_copy whole.enforce first

  second-holds : AllByRecursion P second.eqns
  second-holds = let q = whole.placed in transfer P (λ e h. h) (λ e h. h) other.eqns second.eqns (same_eqns other.eqns second.eqns q.eqns) holds

  first-holds : AllByRecursion P first.eqns
  unfolding with_eqn with_variable
  first-holds = front P first.eqns (operator_eqn (next_variable first) [] Copy (Read whole.enforce ∷ []) ∷ []) second-holds

  asking-holds : AllByRecursion P asking.eqns
  unfolding with_eqn with_variable
  asking-holds = front P asking.eqns (operator_eqn (next_variable asking) [] Copy (Read whole.assume ∷ []) ∷ []) first-holds

  copy-first : P (operator_eqn (next_variable asking) [] Copy (Read whole.assume ∷ []))
  unfolding with_eqn with_variable
  copy-first = (back P asking.eqns (operator_eqn (next_variable asking) [] Copy (Read whole.assume ∷ []) ∷ []) first-holds).0

  copy-second : P (operator_eqn (next_variable first) [] Copy (Read whole.enforce ∷ []))
  unfolding with_eqn with_variable
  copy-second = (back P first.eqns (operator_eqn (next_variable first) [] Copy (Read whole.enforce ∷ []) ∷ []) second-holds).0

  pub assume-copied : now (length asking.variables) ≡ now whole.assume
  unfolding first_value
  assume-copied = ap first_value (copy-first refl)

  pub enforce-copied : now (suc (length asking.variables)) ≡ now whole.enforce
  unfolding first_value
  enforce-copied = ap now (sym (copy_next whole.assume asking)) ∙ ap first_value (copy-second refl)

  gates-hold : AllByRecursion P (gate_eqns (places m p) p.gates 0 m.gates)
  gates-hold =
      let decoding = (decoded_controls n m controls).eqns in
      let steps = back P n.eqns (step_eqns m p name) (front P (n.eqns ++ step_eqns m p name) decoding asking-holds) in
      (back P (register_eqns p.registers p.gates (length m.gates) m.init m.next) (asking_eqn name (register_places m p ++ p.early) p.control m.control ∷ gate_eqns (places m p) p.gates 0 m.gates) steps).1

  -- each gate has its value
  pub gate-is : GatesLaw → (v : Bits) → HaveBits (places m p) now v → (k : ℕ) → k < length m.gates → now (p.gates + k) ≡ B (at_gate m v k)
  gate-is law v have k below = law answers past now (places m p) p.gates m.gates v have gates-hold k below

-- ---- the variables of the machine

have-bits : (i j : Instant) (xs : List ℕ) → AreBits j xs → map j xs ≡ map i xs → HaveBits xs i (bits_of j xs)
have-bits i j [] h e x = refl
have-bits i j (y ∷ ys) h e zero = let here : j y ≡ i y = cc in sym here ∙ h.0
have-bits i j (y ∷ ys) h e (suc x) = let behind : map j ys ≡ map i ys = cc in have-bits i j ys h.1 behind x

bits-append : (i : Instant) (xs ys : List ℕ) → bits_of i (xs ++ ys) ≡ bits_of i xs ++ bits_of i ys
bits-append i [] ys = refl
bits-append i (x ∷ xs) ys = ap (λ bs. is_true (i x) ∷ bs) (bits-append i xs ys)

module _ (m : Machine) (p : Placing) where
  abbrev registers : List ℕ
  registers = register_places m p

  abbrev chosen : List ℕ
  chosen = control_places m p

  all-bits : (j : Instant) → bits_of j (places m p) ≡ bits_at m p j
  all-bits j =
      bits-append j registers (p.early ++ (chosen ++ p.late)) ∙ ap (λ bs. bits_of j registers ++ bs) (bits-append j p.early (chosen ++ p.late)) ∙ ap (λ bs. bits_of j registers ++ (bits_of j p.early ++ bs)) (bits-append j chosen p.late)

  -- they have the bits of an instant with the same values
  pub have-all : (i j : Instant) → AreBits j registers → AreBits j p.early → AreBits j chosen → AreBits j p.late → map j (places m p) ≡ map i (places m p) → HaveBits (places m p) i (bits_at m p j)
  have-all i j r u c w e =
      let One : ℕ → Type 0 = λ x. j x ≡ B (is_true (j x)) in
      subst (HaveBits (places m p) i) (all-bits j) (have-bits i j (places m p) (both One registers (p.early ++ (chosen ++ p.late)) r (both One p.early (chosen ++ p.late) u (both One chosen p.late c w))) e)

pub range-long : (a k : ℕ) → length (range_with_len a k) ≡ k
range-long a zero = refl
range-long a (suc k) = ap suc (range-long (a + 1) k)

-- how many variables there are at least
pub enough-variables : (n : FlatNode) (m : Machine) (name early late : List ℕ) (controls : List Control) → length n.variables + bits_added m ≤ length (controlled n m name early late controls).variables
enough-variables n m name early late controls =
    let bits = bit_variables (length n.variables) m in
    let one = length-append (n.variables ++ bits) (decoded_controls n m controls).variables in
    let two = length-append n.variables bits in
    let three : length bits ≡ bits_added m = length-map (range_with_len (length n.variables) (bits_added m)) (λ x. added_variable x Truth) ∙ range-long (length n.variables) (bits_added m) in
    omega (arith, one, two, three)

-- the places of the machine are among them
pub places-below : (n : FlatNode) (m : Machine) (early late : List ℕ) (count : ℕ) → length n.variables + bits_added m ≤ count → AllByRecursion (λ x. x < count) early → AllByRecursion (λ x. x < count) late
    → let p = placing_of (length n.variables) m early late in AllByRecursion (λ x. x < count) (places m p)
places-below n m early late count enough few some =
    let p = placing_of (length n.variables) m early late in
    let Below : ℕ → Type 0 = λ x. x < count in
    let registers : AllByRecursion Below (register_places m p) = each_range Below p.registers m.registers (λ x l u. omega (arith, u, enough)) in
    let chosen : AllByRecursion Below (control_places m p) = each_range Below p.control m.control (λ x l u. omega (arith, u, enough)) in
    both Below (register_places m p) (early ++ (control_places m p ++ late)) registers (both Below early (control_places m p ++ late) few (both Below (control_places m p) late chosen some))
