-- The clocked equations of a machine's gates.
-- Source: own.
use Rattle.std.specs.Prelude.{◌≡◌, ℕ, ◌+◌, ◌<◌, nat_lt, if◌then◌else◌, false, List, [], ◌∷◌, length, slice_get, Option, Some, None}
use Rattle.std.specs.List.{AllByRecursion}
use Rattle.hp_base.specs.declared.value.Value.TheVariants.{B}
use Rattle.hp_boolx.specs.declared.gate.Gate.{Gate}
use Rattle.hp_boolx.specs.declared.gate.Gate.TheVariants as gate
use Rattle.hp_boolx.specs.Machine.{bit, values}
use Rattle.hp_boolx.specs.Search.{Bits}
use Rattle.hp_obc.specs.declared.command.ObcOp.{ObcOp}
use Rattle.hp_obc.specs.declared.command.ObcOp.TheVariants.{Copy, Not, And, Or, Xor, Mux}
use Rattle.hp_flat.specs.declared.equation.Atom.{Atom}
use Rattle.hp_flat.specs.declared.equation.Atom.TheVariants.{Variable as Read, Value as Fixed}
use Rattle.hp_flat.specs.Equations.{FlatEqn}
use Rattle.law_equations.specs.Meaning.Instants.{Instant, atom}
use Rattle.law_equations.specs.Meaning.Reactions.{Answers, Holds}
use Rattle.hp_controller.specs.Controllers.{equation}

-- where a machine's variable of a number is found; one that is nowhere counts as false
abbrev pub place_of : Option ℕ → Atom
place_of None = Fixed (B false)
place_of (Some y) = Read y

abbrev pub variable_at : List ℕ → ℕ → Atom
variable_at places x = place_of (slice_get places x)

-- a gate of a number, where the first gate is this variable and so many gates stand before; one that does not counts as false
abbrev pub gate_at : ℕ → ℕ → ℕ → Atom
gate_at first count j = if nat_lt j count then Read (first + j) else Fixed (B false)

-- the operator of a gate, and what it reads
abbrev pub gate_op : Gate → ObcOp
gate_op (gate.Const b) = Copy
gate_op (gate.Var x) = Copy
gate_op (gate.Not j) = Not
gate_op (gate.And j k) = And
gate_op (gate.Or j k) = Or
gate_op (gate.Xor j k) = Xor
gate_op (gate.Ite j k l) = Mux

abbrev pub gate_args : List ℕ → ℕ → ℕ → Gate → List Atom
gate_args places first i (gate.Const b) = Fixed (B b) ∷ []
gate_args places first i (gate.Var x) = variable_at places x ∷ []
gate_args places first i (gate.Not j) = gate_at first i j ∷ []
gate_args places first i (gate.And j k) = gate_at first i j ∷ gate_at first i k ∷ []
gate_args places first i (gate.Or j k) = gate_at first i j ∷ gate_at first i k ∷ []
gate_args places first i (gate.Xor j k) = gate_at first i j ∷ gate_at first i k ∷ []
gate_args places first i (gate.Ite j k l) = gate_at first i j ∷ gate_at first i k ∷ gate_at first i l ∷ []

-- the equations of gates from the i-th on, each on the base clock, in the order of the gates
abbrev pub gate_eqns : List ℕ → ℕ → ℕ → List Gate → List FlatEqn
gate_eqns places first i [] = []
gate_eqns places first i (g ∷ gs) = equation i (first + i) (gate_op g) (gate_args places first i g) ∷ gate_eqns places first (i + 1) gs

-- the variables of a machine have these bits, where they are found
abbrev pub HaveBits : List ℕ → Instant → Bits → Type 0
HaveBits places now v = (x : ℕ) → atom now (variable_at places x) ≡ B (bit v x)

-- At an instant at which the equations hold, and the machine's variables have bits, the variable of each gate has its value.
abbrev pub GatesLaw : Type 0
GatesLaw =
    (answers : Answers) (past : List Instant) (now : Instant) (places : List ℕ) (first : ℕ) (gates : List Gate) (v : Bits) → HaveBits places now v → AllByRecursion (Holds answers past now) (gate_eqns places first 0 gates)
    → (k : ℕ) → k < length gates → now (first + k) ≡ B (bit (values v [] gates) k)
