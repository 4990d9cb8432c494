-- Boolean machines: gates over registers, early, control and late variables.
use Rattle.std.specs.Prelude.{ℕ, suc, ◌+◌, ◌<◌, ◌≤◌, ◌≡◌, Bool, false, not, ◌&&◌, ◌||◌, List, [], ◌∷◌, ◌++◌, length, map, sum, slice_index_or, All, if◌then◌else◌}
use Rattle.hp_boolx.specs.declared.gate.Gate.{Gate}
use Rattle.hp_boolx.specs.declared.gate.Gate.TheVariants.{Const, Var, Not, And, Or, Xor, Ite}
use Rattle.hp_boolx.specs.Search.{Bits}
use Rattle.hp_boolx.specs.Game.{Game}

-- a value by its number; false where there is none
abbrev pub bit : Bits → ℕ → Bool
bit v i = slice_index_or v i false

-- the value of a gate, from the variables and the gates before it
abbrev pub gate_value : Bits → Bits → Gate → Bool
gate_value vars done (Const b) = b
gate_value vars done (Var x) = bit vars x
gate_value vars done (Not i) = not (bit done i)
gate_value vars done (And i j) = bit done i && bit done j
gate_value vars done (Or i j) = bit done i || bit done j
gate_value vars done (Xor i j) = if bit done i then not (bit done j) else bit done j
gate_value vars done (Ite i j k) = if bit done i then bit done j else bit done k

-- the values of gates behind those that are done
abbrev pub values : Bits → Bits → List Gate → Bits
values vars done [] = done
values vars done (g ∷ gs) = values vars (done ++ gate_value vars done g ∷ []) gs

-- a Boolean machine: how many variables there are of each kind, the bits of each controllable variable and what is preferred of them, gates, and which of these are
-- the next registers, what is valid, the hypothesis and the duty
pub record Machine : Type 0 where
  pub name : List ℕ
  pub registers : ℕ
  pub early : ℕ
  pub control : ℕ
  pub late : ℕ
  pub widths : List ℕ
  pub prefer : Bits
  pub gates : List Gate
  pub init : Bits
  pub next : List ℕ
  pub valid : ℕ
  pub hyp : ℕ
  pub duty : ℕ

-- a gate names variables and gates of which there are so many
abbrev pub GateFits : ℕ → ℕ → Gate → Type 0
GateFits vars before (Const b) = 0 ≤ 0
GateFits vars before (Var x) = x < vars
GateFits vars before (Not i) = i < before
GateFits vars before (And i j) = (i < before) × (j < before)
GateFits vars before (Or i j) = (i < before) × (j < before)
GateFits vars before (Xor i j) = (i < before) × (j < before)
GateFits vars before (Ite i j k) = (i < before) × (j < before) × (k < before)

-- each gate names earlier gates and variables
abbrev pub AreFit : ℕ → ℕ → List Gate → Type 0
AreFit vars before [] = 0 ≤ 0
AreFit vars before (g ∷ gs) = GateFits vars before g × AreFit vars (suc before) gs

module _ (m : Machine) where
  -- how many variables there are
  abbrev pub variables : ℕ
  variables = m.registers + m.early + m.control + m.late

  -- the value of a gate, where the variables have these values
  abbrev pub at_gate : Bits → ℕ → Bool
  at_gate v k = bit (values v [] m.gates) k

  -- what the game sees of the machine
  abbrev pub game : Game
  game = record {
    registers = m.registers;
    early = m.early;
    control = m.control;
    late = m.late;
    prefer = m.prefer;
    init = m.init;
    next = λ v. map (at_gate v) m.next;
    valid = λ v. at_gate v m.valid;
    hyp = λ v. at_gate v m.hyp;
    duty = λ v. at_gate v m.duty;
  }

  -- What a machine keeps: there are at most 65,535 variables, gates name variables and earlier gates, there is one first value and one next gate for each register, one
  -- preferred value for each control bit, and the controllable variables have as many bits as there are control bits.
  pub record IsMachine : Type 0 where
    pub few : variables ≤ 65535
    pub gates : AreFit variables 0 m.gates
    pub init : length m.init ≡ m.registers
    pub next : length m.next ≡ m.registers
    pub next_gates : All (λ k. k < length m.gates) m.next
    pub valid : m.valid < length m.gates
    pub hyp : m.hyp < length m.gates
    pub duty : m.duty < length m.gates
    pub prefer : length m.prefer ≡ m.control
    pub widths : sum m.widths ≡ m.control
