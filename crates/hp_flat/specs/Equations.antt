-- Clocked equations as plain data. After Biernacki, Colaço, Hamon, Pouzet: Clock-directed modular code generation for synchronous data-flow languages (LCTES 2008).
use Rattle.std.specs.Prelude.{ℕ, List}
use Rattle.hp_base.specs.declared.value.Value.{Value}
use Rattle.hp_obc.specs.declared.command.ObcOp.{ObcOp}
use Rattle.hp_flat.specs.declared.equation.Atom.{Atom}

-- what gives values: an operator on arguments; a register, with its first value and what it takes next; or the outputs of an instance of a node
pub data Right : Type 0 where
  operator : ObcOp → List Atom → Right
  register : Value → Atom → Right
  called : List ℕ → List Atom → Right

-- when an equation is there: each variable has the constructor of this number, outermost first; always where there is none
abbrev pub Clock : Type 0
Clock = List (ℕ × ℕ)

pub record FlatEqn : Type 0 where
  pub targets : List ℕ
  pub clock : Clock
  pub right : Right
  pub restart : List ℕ
  pub at : ℕ
