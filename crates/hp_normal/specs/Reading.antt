-- What equations define and read.
use Rattle.std.specs.Prelude.{ℕ, ◌+◌, Bool, ◌&&◌, nat_eq, nat_lt, if◌then◌else◌, List, [], ◌∷◌, ◌++◌, length, map, Option, None, Some}
use Rattle.std.specs.List.{flat_map}
use Rattle.hp_obc.specs.declared.command.ObcOp.TheVariants.{Copy}
use Rattle.hp_flat.specs.declared.equation.Atom.{Atom}
use Rattle.hp_flat.specs.declared.equation.Atom.TheVariants.{Variable, Value}
use Rattle.hp_flat.specs.Equations.{Clock, Right, operator, register, called, FlatEqn}
use Rattle.hp_flat.specs.Nodes.{FlatNode}

-- how often a number is in a list
abbrev pub count : ℕ → List ℕ → ℕ
count x [] = 0
count x (y ∷ ys) = (if nat_eq y x then 1 else 0) + count x ys

-- a variable of a node is in a list so often
abbrev pub occurs : FlatNode → ℕ → List ℕ → ℕ → Bool
occurs n k xs x = nat_lt x (length n.variables) && nat_eq (count x xs) k

-- ---- what is read

abbrev pub clock_variables : Clock → List ℕ
clock_variables clock = map (λ (on : ℕ × ℕ). on.0) clock

abbrev pub atom_variables : Atom → List ℕ
atom_variables (Variable x) = x ∷ []
atom_variables (Value v) = []

-- what gives values reads its arguments, or its next value
abbrev pub operands : Right → List ℕ
operands (operator op args) = flat_map atom_variables args
operands (register first next) = atom_variables next
operands (called f args) = flat_map atom_variables args

abbrev pub eqn_reads : FlatEqn → List ℕ
eqn_reads e = clock_variables e.clock ++ (operands e.right ++ e.restart)

-- ---- of all equations of a node

abbrev pub targets : FlatNode → List ℕ
targets n = flat_map (λ (e : FlatEqn). e.targets) n.eqns

-- what is read, from outside or by an equation
abbrev pub uses : FlatNode → List ℕ
uses n = n.outputs ++ flat_map eqn_reads n.eqns

-- what has to stay under its number: outputs, and what may make an equation begin anew
abbrev pub fixed : FlatNode → List ℕ
fixed n = n.outputs ++ flat_map (λ (e : FlatEqn). e.restart) n.eqns

-- what clocks read
abbrev pub sampled : FlatNode → List ℕ
sampled n = flat_map (λ (e : FlatEqn). clock_variables e.clock) n.eqns

-- ---- copies

-- the element of a list of one
abbrev pub only : {A : Type 0} → List A → Option A
only (x ∷ []) = Some x
only xs = None

abbrev pub copied : Right → Option Atom
copied (operator Copy args) = only args
copied right = None

abbrev pub both : {A B : Type 0} → Option A → Option B → Option (A × B)
both (Some a) (Some b) = Some (a, b)
both a b = None

-- of an equation that gives one variable a copy: that variable, and what is copied
abbrev pub copy_of : FlatEqn → Option (ℕ × Atom)
copy_of e = both (only e.targets) (copied e.right)
