-- The clocked equations that make a value of a control variable's bits, most significant first.
-- Source: own; codes as in the machine of a contract. A code that is no value counts as the first constructor.
use Rattle.std.specs.Prelude.{◌≡◌, ℕ, zero, suc, ◌+◌, ◌<◌, nat_lt, if◌then◌else◌, List, [], ◌∷◌, ◌++◌, ⊤, length, map, take, drop}
use Rattle.std.specs.List.{AllByRecursion, range_with_len}
use Rattle.hp_base.specs.declared.value.Value.{Value}
use Rattle.hp_base.specs.declared.value.Value.TheVariants.{B, E}
use Rattle.hp_boolx.specs.Machine.{bit}
use Rattle.hp_boolx.specs.Search.{Bits}
use Rattle.hp_circuit.specs.Numbers.{number}
use Rattle.hp_obc.specs.declared.command.ObcOp.TheVariants.{Copy, Mux}
use Rattle.hp_flat.specs.declared.equation.Atom.{Atom}
use Rattle.hp_flat.specs.declared.equation.Atom.TheVariants.{Variable as Read, Value as Fixed}
use Rattle.hp_flat.specs.declared.node.FlatTy.TheVariants.{Enum}
use Rattle.hp_flat.specs.declared.node.Variable.{Variable}
use Rattle.hp_flat.specs.Equations.{FlatEqn}
use Rattle.law_equations.specs.Meaning.Instants.{Instant, atom}
use Rattle.law_equations.specs.Meaning.Reactions.{Answers, Holds}
use Rattle.hp_controller.specs.declared.decoding.Control.{Control}
use Rattle.hp_controller.specs.declared.decoding.ControlKind.{ControlKind}
use Rattle.hp_controller.specs.declared.decoding.ControlKind.TheVariants.{Truth, Constructor}
use Rattle.hp_controller.specs.Controllers.{equation, added_variable}

-- the value of a code of a type that has so many constructors
abbrev pub value_of : ℕ → ℕ → ℕ → Value
value_of t count k = E t (if nat_lt k count then k else 0)

-- variables that are added with their equations, the atom that has the value, and the next variable that is free
pub record Tree : Type 0 where
  pub variables : List Variable
  pub eqns : List FlatEqn
  pub atom : Atom
  pub next : ℕ

-- The value of the code that some bits make behind a code: one choice for each bit and each code of those before it.
abbrev pub tree : ℕ → ℕ → ℕ → ℕ → ℕ → ℕ → Tree
tree t count b zero k next = record { variables = []; eqns = []; atom = Fixed (value_of t count k); next = next }
tree t count b (suc w) k next =
    let high = tree t count (b + 1) w (k + k + 1) next in
    let low = tree t count (b + 1) w (k + k) high.next in
    record {
      variables = high.variables ++ (low.variables ++ added_variable low.next (Enum t) ∷ []);
      eqns = high.eqns ++ (low.eqns ++ equation 0 low.next Mux (Read b ∷ high.atom ∷ low.atom ∷ []) ∷ []);
      atom = Read low.next;
      next = low.next + 1;
    }

-- At an instant at which the equations hold, and the bits from a variable on are these, the atom has the value of their code.
abbrev pub DecodedLaw : Type 0
DecodedLaw =
    (answers : Answers) (past : List Instant) (now : Instant) (t count b next : ℕ) (bits : Bits) → AllByRecursion (Holds answers past now) (tree t count b (length bits) 0 next).eqns → ((i : ℕ) → i < length bits → now (b + i) ≡ B (bit bits i))
    → atom now (tree t count b (length bits) 0 next).atom ≡ value_of t count (number bits)

-- ---- control variables

-- variables that are added, equations, and the next variable that is free
pub record Decoded : Type 0 where
  pub variables : List Variable
  pub eqns : List FlatEqn
  pub next : ℕ

-- the equations of a control variable of a kind, whose bits stand from a variable on
abbrev pub control_eqns : ℕ → ℕ → ℕ → ℕ → ControlKind → Decoded
control_eqns target b next width Truth = record { variables = []; eqns = equation 0 target Copy (Read b ∷ []) ∷ []; next = next }
control_eqns target b next width (Constructor e) =
    let value = tree e.number e.constructors b width 0 next in
    record { variables = value.variables; eqns = value.eqns ++ equation 0 target Copy (value.atom ∷ []) ∷ []; next = value.next }

-- those of control variables in a row, whose bits stand in a row
abbrev pub controls_eqns : ℕ → ℕ → ℕ → List Control → Decoded
controls_eqns target b next [] = record { variables = []; eqns = []; next = next }
controls_eqns target b next (c ∷ cs) =
    let one = control_eqns target b next c.width c.kind in
    let rest = controls_eqns (target + 1) (b + c.width) one.next cs in
    record { variables = one.variables ++ rest.variables; eqns = one.eqns ++ rest.eqns; next = rest.next }

-- the values of bits
abbrev pub value_by : ControlKind → Bits → Value
value_by Truth bits = B (bit bits 0)
value_by (Constructor e) bits = value_of e.number e.constructors (number bits)

abbrev pub values_by : List Control → Bits → List Value
values_by [] bits = []
values_by (c ∷ cs) bits = value_by c.kind (take c.width bits) ∷ values_by cs (drop c.width bits)

abbrev pub total_width : List Control → ℕ
total_width [] = 0
total_width (c ∷ cs) = c.width + total_width cs

-- a truth value has one bit
abbrev pub HasBits : ControlKind → ℕ → Type 0
HasBits Truth width = width ≡ 1
HasBits (Constructor e) width = ⊤

-- At an instant at which the equations hold, and the bits from a variable on are these, the control variables have their values.
abbrev pub ControlsLaw : Type 0
ControlsLaw =
    (answers : Answers) (past : List Instant) (now : Instant) (target b next : ℕ) (controls : List Control) (bits : Bits) → AllByRecursion (λ (c : Control). HasBits c.kind c.width) controls → length bits ≡ total_width controls
    → AllByRecursion (Holds answers past now) (controls_eqns target b next controls).eqns → ((i : ℕ) → i < length bits → now (b + i) ≡ B (bit bits i)) → map now (range_with_len target (length controls)) ≡ values_by controls bits
