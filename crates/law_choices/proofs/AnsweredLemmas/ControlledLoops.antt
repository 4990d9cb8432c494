-- A node that asks its controller defines its controllable variables at each instant.
use Rattle.std.proofs.Common.{◌≡◌, ℕ, ◌+◌, ◌-◌, Bool, true, false, ◌||◌, ◌&&◌, nat_eq, List, [], ◌∷◌, ◌++◌, length, refl, ap, ◌∙◌, arith}
use Rattle.std.specs.List.{AllByRecursion, range_with_len}
use Rattle.std.proofs.lemmas.Bool.Decides.{nat_tests}
use Rattle.std.proofs.lemmas.List.{append_assoc}
use Rattle.hp_obc.specs.declared.command.ObcOp.TheVariants.{Copy}
use Rattle.hp_flat.specs.declared.equation.Atom.{Atom}
use Rattle.hp_flat.specs.declared.equation.Atom.TheVariants.{Variable as Read}
use Rattle.hp_flat.specs.Equations.{FlatEqn}
use Rattle.law_equations.specs.Meaning.Instants.{Instant, holds}
use Rattle.law_equations.specs.Meaning.Reactions.{has, is_set}
use Rattle.hp_controller.specs.declared.decoding.Control.{Control}
use Rattle.hp_controller.specs.declared.decoding.ControlKind.{ControlKind}
use Rattle.hp_controller.specs.declared.decoding.ControlKind.TheVariants.{Truth, Constructor}
use Rattle.hp_controller.specs.Controllers.{equation}
use Rattle.hp_controller.specs.Controlled.{placing_of, bits_added, bit_variables, decoded_controls}
use Rattle.hp_controller.specs.Decoding.{tree, control_eqns, controls_eqns}
use Rattle.hp_controller.specs.Steps.{step_eqns}
use Rattle.law_choices.specs.Answered.Loops.{ControlledLoopLaw}

true_right : (b : Bool) → (b || true) ≡ true
true_right true = refl
true_right false = refl

-- what is set stays so where equations are added
pub set_front : (es fs : List FlatEqn) (now : Instant) (x : ℕ) → is_set es now x ≡ true → is_set (es ++ fs) now x ≡ true
set_front [] fs now x h = absurd cc
set_front (e ∷ es) fs now x h = by (holds e.clock now && has e.targets x) h (λ g. set_front es fs now x g)
  where
    by : (b : Bool) → (b || is_set es now x) ≡ true → (is_set es now x ≡ true → is_set (es ++ fs) now x ≡ true) → (b || is_set (es ++ fs) now x) ≡ true
    by true h rest = refl
    by false h rest = rest h

pub set_behind : (es fs : List FlatEqn) (now : Instant) (x : ℕ) → is_set fs now x ≡ true → is_set (es ++ fs) now x ≡ true
set_behind [] fs now x h = h
set_behind (e ∷ es) fs now x h = ap (λ b. (holds e.clock now && has e.targets x) || b) (set_behind es fs now x h) ∙ true_right (holds e.clock now && has e.targets x)

all_behind : (es fs : List FlatEqn) (now : Instant) (xs : List ℕ) → AllByRecursion (λ x. is_set fs now x ≡ true) xs → AllByRecursion (λ x. is_set (es ++ fs) now x ≡ true) xs
all_behind es fs now [] h = tt
all_behind es fs now (x ∷ xs) h = (set_behind es fs now x h.0, all_behind es fs now xs h.1)

same_number : (x : ℕ) → nat_eq x x ≡ true
same_number x = grind (arith, nat_tests)

pub copy_set : (target : ℕ) (a : Atom) (now : Instant) → is_set (equation 0 target Copy (a ∷ []) ∷ []) now target ≡ true
copy_set target a now = ap (λ b. (b || false) || false) (same_number target)

control_set : (target b next width : ℕ) (k : ControlKind) (now : Instant) → is_set (control_eqns target b next width k).eqns now target ≡ true
control_set target b next width Truth now = copy_set target (Read b) now
control_set target b next width (Constructor e) now =
    let value = tree e.number e.constructors b width 0 next in
    set_behind value.eqns (equation 0 target Copy (value.atom ∷ []) ∷ []) now target (copy_set target value.atom now)

controls_set : (target b next : ℕ) (cs : List Control) (now : Instant) → AllByRecursion (λ x. is_set (controls_eqns target b next cs).eqns now x ≡ true) (range_with_len target (length cs))
controls_set target b next [] now = tt
controls_set target b next (c ∷ cs) now =
    let one = control_eqns target b next c.width c.kind in
    let rest = controls_eqns (target + 1) (b + c.width) one.next cs in
    (set_front one.eqns rest.eqns now target (control_set target b next c.width c.kind now), all_behind one.eqns rest.eqns now (range_with_len (target + 1) (length cs)) (controls_set (target + 1) (b + c.width) one.next cs now))

pub controlled_loop : ControlledLoopLaw
controlled_loop n m name early late controls can =
    let few = can.inputs in
    let decoded = decoded_controls n m controls in
    let target = n.inputs - length controls in
    record {
      name = refl;
      inputs = omega (arith, few);
      within = can.variables;
      variables = (bit_variables (length n.variables) m ++ decoded.variables, append_assoc n.variables (bit_variables (length n.variables) m) decoded.variables);
      defined = λ now.
          all_behind (n.eqns ++ step_eqns m (placing_of (length n.variables) m early late) name) decoded.eqns now (range_with_len target (length controls))
          (controls_set target (length n.variables + m.registers) (length n.variables + bits_added m) controls now);
    }
