-- The clocked equations by which a node keeps the registers of its machine and asks its controller.
-- Source: own; the registers are what a reaction leaves of its past, as the machine of the contract remembers it (Delaval, Marchand and Rutten, LCTES 2010).
use Rattle.std.specs.Prelude.{◌≡◌, ⊤, ℕ, ◌+◌, Bool, List, [], ◌∷◌, ◌++◌, length, map}
use Rattle.std.specs.List.{AllByRecursion, range_with_len}
use Rattle.hp_base.specs.declared.value.Value.{Value}
use Rattle.hp_base.specs.declared.value.Value.TheVariants.{B}
use Rattle.hp_boolx.specs.Machine.{Machine, IsMachine, game}
use Rattle.hp_boolx.specs.Search.{Bits}
use Rattle.hp_boolx.specs.Game.{joined}
use Rattle.hp_boolx.specs.Solved.{IsChoice}
use Rattle.hp_flat.specs.declared.equation.Atom.{Atom}
use Rattle.hp_flat.specs.declared.equation.Atom.TheVariants.{Variable as Read}
use Rattle.hp_flat.specs.Nodes.{FlatNode}
use Rattle.hp_flat.specs.Equations.{register, called, FlatEqn}
use Rattle.law_equations.specs.Meaning.Instants.{Instant, is_true}
use Rattle.law_equations.specs.Meaning.Reactions.{Answers, Holds, Reaction, outputs_at}
use Rattle.hp_controller.specs.declared.steps.Placing as held
use Rattle.hp_controller.specs.Controlling.{IsController}
use Rattle.hp_controller.specs.Gates.{gate_at, gate_eqns}

-- a register: it has its first value, and then what was read before
abbrev pub register_eqn : ℕ → Bool → Atom → FlatEqn
register_eqn target b next = record { targets = target ∷ []; clock = []; right = register (B b) next; restart = []; at = 0 }

-- registers from a variable on: each has its first value, and then what its gate had before, where the first gate is this variable and there are so many
abbrev pub register_eqns : ℕ → ℕ → ℕ → Bits → List ℕ → List FlatEqn
register_eqns first gates count (b ∷ init) (n ∷ next) = register_eqn first b (gate_at gates count n) ∷ register_eqns (first + 1) gates count init next
register_eqns first gates count init next = []

-- the controller of this name is asked over some variables, and gives so many from one on
abbrev pub asking_eqn : List ℕ → List ℕ → ℕ → ℕ → FlatEqn
asking_eqn name args first count = record { targets = range_with_len first count; clock = []; right = called name (map (λ x. Read x) args); restart = []; at = 0 }

-- the variables at which a node has those of its machine: registers, early, control and late ones, and gates; of registers, control variables and gates the first one
pub record Placing : Type 0 where
  pub registers : ℕ
  pub early : List ℕ
  pub control : ℕ
  pub late : List ℕ
  pub gates : ℕ

-- as the code holds them
abbrev pub placing_seen : held.Placing → Placing
placing_seen p = record { registers = p.registers; early = p.early.now; control = p.control; late = p.late.now; gates = p.gates }

module _ (m : Machine) (p : Placing) where
  abbrev pub register_places : List ℕ
  register_places = range_with_len p.registers m.registers

  abbrev pub control_places : List ℕ
  control_places = range_with_len p.control m.control

  abbrev pub places : List ℕ
  places = register_places ++ (p.early ++ (control_places ++ p.late))

  -- the registers, the gates, and the controller of this name
  abbrev pub step_eqns : List ℕ → List FlatEqn
  step_eqns name =
      register_eqns p.registers p.gates (length m.gates) m.init m.next ++ (asking_eqn name (register_places ++ p.early) p.control m.control ∷ gate_eqns places p.gates 0 m.gates)

-- the bits of some variables at an instant, which have truth values
abbrev pub bits_of : Instant → List ℕ → Bits
bits_of now xs = map (λ x. is_true (now x)) xs

abbrev pub AreBits : Instant → List ℕ → Type 0
AreBits now xs = AllByRecursion (λ x. now x ≡ B (is_true (now x))) xs

-- equations hold at each instant, after those before it
abbrev pub AlwaysHold : Answers → List FlatEqn → List Instant → Type 0
AlwaysHold answers es [] = ⊤
AlwaysHold answers es (now ∷ past) = AllByRecursion (Holds answers past now) es × AlwaysHold answers es past

-- what the registers are to be after some instants, newest first
abbrev pub state_after : Machine → Placing → List Instant → Bits
state_after m p [] = m.init
state_after m p (now ∷ past) = (game m).next (joined (bits_of now (register_places m p)) (bits_of now p.early) (bits_of now (control_places m p)) (bits_of now p.late))

-- Where the equations always hold and the variables have truth values, the registers follow the machine: they begin with its first values, and take the next ones of the instant before.
abbrev pub StepsLaw : Type 0
StepsLaw =
    (m : Machine) (p : Placing) (name : List ℕ) (answers : Answers) (now : Instant) (past : List Instant) → IsMachine m → AlwaysHold answers (step_eqns m p name) (now ∷ past)
    → AllByRecursion (λ (i : Instant). AreBits i (places m p)) past → map now (register_places m p) ≡ map (λ b. B b) (state_after m p past)

-- ---- with a controller

-- the registers and the early bits, in a row
abbrev pub IsRow : Machine → List Value → Type 0
IsRow m row = (bits : Bits) × (length bits ≡ m.registers + m.early) × (row ≡ map (λ b. B b) bits)

-- A node of a name answers as the machine's controller: over registers and early bits, after others, with the choice.
abbrev pub AnswersAsController : Answers → Machine → List ℕ → Type 0
AnswersAsController answers m name =
    (r u : Bits) (earlier : List (List Value)) → length r ≡ m.registers → length u ≡ m.early → AllByRecursion (IsRow m) earlier → (c : Bits) × IsChoice (game m) r u c × (answers name (map (λ b. B b) (r ++ u)) earlier ≡ map (λ b. B b) c)

-- So it is where the controller is a node that answers, over such rows, with the outputs of a reaction at its newest instant.
abbrev pub AnswersLaw : Type 0
AnswersLaw =
    (m : Machine) (node : FlatNode) (answers : Answers) → IsController m node
    → ((args : List Value) (earlier : List (List Value)) → IsRow m args → AllByRecursion (IsRow m) earlier → (now : Instant) × (past : List Instant) × Reaction answers node (args ∷ earlier) (now ∷ past) × (answers node.name args earlier ≡ outputs_at node now))
    → AnswersAsController answers m node.name

-- At an instant after some others the registers are those of the machine, and the controls are the choice at these and the early bits.
pub record IsSteered (m : Machine) (p : Placing) (past : List Instant) (now : Instant) : Type 0 where
  pub registers : map now (register_places m p) ≡ map (λ b. B b) (state_after m p past)
  pub choice : Bits
  pub chosen : IsChoice (game m) (state_after m p past) (bits_of now p.early) choice
  pub controls : map now (control_places m p) ≡ map (λ b. B b) choice

abbrev pub AlwaysSteered : Machine → Placing → List Instant → Type 0
AlwaysSteered m p [] = ⊤
AlwaysSteered m p (now ∷ past) = IsSteered m p past now × AlwaysSteered m p past

-- Where the equations always hold, the early and the late variables have truth values, and the controller is asked, each instant is steered.
abbrev pub SteeredLaw : Type 0
SteeredLaw =
    (m : Machine) (p : Placing) (name : List ℕ) (answers : Answers) (instants : List Instant) → IsMachine m → length p.early ≡ m.early → AnswersAsController answers m name → AlwaysHold answers (step_eqns m p name) instants
    → AllByRecursion (λ (i : Instant). AreBits i p.early × AreBits i p.late) instants → AlwaysSteered m p instants
