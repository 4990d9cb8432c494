-- The machine of scheduled equations: a register is a variable and a memory, which takes its next value behind all equations.
use Rattle.std.specs.Prelude.{ℕ, zero, suc, ◌+◌, Bool, false, ◌&&◌, ◌||◌, not, nat_eq, if◌then◌else◌, List, [], ◌∷◌, ◌++◌, map, take, drop}
use Rattle.hp_obc.specs.declared.command.Arg.{Arg}
use Rattle.hp_obc.specs.declared.command.Arg.TheVariants.{Name as NameArg, Const as ConstArg}
use Rattle.hp_obc.specs.declared.command.ObcOp.{ObcOp}
use Rattle.hp_obc.specs.declared.command.ObcOp.TheVariants.{Copy}
use Rattle.hp_obc.specs.declared.machine.Var.{Var}
use Rattle.hp_obc.specs.declared.machine.Mem.{Mem}
use Rattle.hp_obc.specs.Commands.{Cmds, Cmd, Arms, done, and_then, set, call, restart as reset, case_of, no_arm, more_arms, cmds_of}
use Rattle.hp_obc.specs.Machines.{ObcType, Machine}
use Rattle.hp_flat.specs.declared.equation.Atom.{Atom}
use Rattle.hp_flat.specs.declared.equation.Atom.TheVariants.{Variable as VariableAtom, Value as ValueAtom}
use Rattle.hp_flat.specs.declared.node.FlatTy.{FlatTy}
use Rattle.hp_flat.specs.declared.node.FlatTy.TheVariants.{Int as FlatInt}
use Rattle.hp_flat.specs.declared.node.Variable.{Variable}
use Rattle.hp_flat.specs.Equations.{Clock, Right, operator, register, called, FlatEqn}
use Rattle.hp_flat.specs.Nodes.{FlatNode}
use Rattle.hp_toobc.specs.Labels.{made_name}
use Rattle.hp_toobc.specs.Tables.{variable_at, name_of, variable_type, type_of, width_of, constant, argument}

-- n arms, of which the one of a number has commands
abbrev pub arms_with : ℕ → ℕ → Cmds → Arms
arms_with zero c cs = no_arm
arms_with (suc n) zero cs = more_arms cs (arms_with n zero done)
arms_with (suc n) (suc c) cs = more_arms done (arms_with n c cs)

-- the two arms of a case that does a command where a variable is true
abbrev pub where_it_holds : Cmd → Arms
where_it_holds c = more_arms done (more_arms (and_then c done) no_arm)

-- the first target of an equation; the empty name where it has none
abbrev pub first_name : List Variable → List ℕ → List ℕ
first_name variables [] = []
first_name variables (x ∷ xs) = name_of variables x

-- The name of the memory of a register, after its target, and of the instance of a call, after the node, by the place of the equation among all.
abbrev pub memory_name : List Variable → List ℕ → ℕ → List ℕ
memory_name variables targets i = made_name (first_name variables targets) 109 i

abbrev pub instance_name : List ℕ → ℕ → List ℕ
instance_name f i = made_name f 110 i

-- ---- commands

module _ (types : List ObcType) (variables : List Variable) where
  -- commands that are done where a clock holds: a case for each of its variables, the outermost first
  abbrev pub under : Clock → List Cmd → List Cmd
  under [] cs = cs
  under (on ∷ clock) cs = case_of (name_of variables on.0) (arms_with (width_of types (variable_type variables on.0)) on.1 (cmds_of (under clock cs))) ∷ []

  -- a command that is done where a variable is true, for each of some
  abbrev pub where_true : List ℕ → Cmd → List Cmd
  where_true xs c = map (λ x. case_of (name_of variables x) (where_it_holds c)) xs

  -- the first target is given the value of an operator
  abbrev pub set_first : List ℕ → ObcOp → List Arg → List Cmd
  set_first [] op args = []
  set_first (x ∷ xs) op args = set (name_of variables x) op args ∷ []

  -- What is done for an equation in its place. Where it begins anew, whether it is there or not, its memory has the first value again, or its
  -- instance is reset.
  abbrev pub placed : ℕ → List ℕ → Clock → List ℕ → Right → List Cmd
  placed i targets clock again (operator op args) = under clock (set_first targets op (map (argument types variables) args))
  placed i targets clock again (register first next) =
      where_true again (set (memory_name variables targets i) Copy (ConstArg (constant types first) ∷ []))
      ++ under clock (set_first targets Copy (NameArg (memory_name variables targets i) ∷ []))
  placed i targets clock again (called f args) =
      where_true again (reset (instance_name f i))
      ++ under clock (call (instance_name f i) (map (name_of variables) targets) (map (argument types variables) args) ∷ [])

  abbrev pub place : ℕ → FlatEqn → List Cmd
  place i e = placed i e.targets e.clock e.restart e.right

  -- and what is done behind all equations: a memory takes the next value
  abbrev pub stored : ℕ → List ℕ → Clock → Right → List Cmd
  stored i targets clock (register first next) = under clock (set (memory_name variables targets i) Copy (argument types variables next ∷ []) ∷ [])
  stored i targets clock right = []

  abbrev pub store : ℕ → FlatEqn → List Cmd
  store i e = stored i e.targets e.clock e.right

  -- equations, of which the first has a place
  abbrev pub places : ℕ → List FlatEqn → List Cmd
  places i [] = []
  places i (e ∷ es) = place i e ++ places (i + 1) es

  abbrev pub stores : ℕ → List FlatEqn → List Cmd
  stores i [] = []
  stores i (e ∷ es) = store i e ++ stores (i + 1) es

-- ---- declarations

abbrev pub declared : List ObcType → Variable → Var
declared types v = record { name = v.name; ty = type_of types v.ty }

-- the type of the first target; an integer where there is none
abbrev pub first_type : List Variable → List ℕ → FlatTy
first_type variables [] = FlatInt
first_type variables (x ∷ xs) = variable_type variables x

module _ (types : List ObcType) (variables : List Variable) where
  abbrev pub mem_of : ℕ → List ℕ → Right → List Mem
  mem_of i targets (register first next) =
      record { name = memory_name variables targets i; ty = type_of types (first_type variables targets); first = constant types first } ∷ []
  mem_of i targets right = []

  abbrev pub mems : ℕ → List FlatEqn → List Mem
  mems i [] = []
  mems i (e ∷ es) = mem_of i e.targets e.right ++ mems (i + 1) es

abbrev pub inst_of : ℕ → Right → List (List ℕ × List ℕ)
inst_of i (called f args) = (instance_name f i, f) ∷ []
inst_of i right = []

abbrev pub insts : ℕ → List FlatEqn → List (List ℕ × List ℕ)
insts i [] = []
insts i (e ∷ es) = inst_of i e.right ++ insts (i + 1) es

-- ---- variables behind the inputs that are no outputs

abbrev pub has_number : List ℕ → ℕ → Bool
has_number [] x = false
has_number (y ∷ ys) x = nat_eq y x || has_number ys x

-- the variable of an argument, those of some arguments, and those of a clock
abbrev pub atom_variables : Atom → List ℕ
atom_variables (VariableAtom x) = x ∷ []
atom_variables (ValueAtom v) = []

abbrev pub atoms_variables : List Atom → List ℕ
atoms_variables [] = []
atoms_variables (a ∷ args) = atom_variables a ++ atoms_variables args

abbrev pub clock_variables : Clock → List ℕ
clock_variables [] = []
clock_variables (on ∷ clock) = on.0 ∷ clock_variables clock

-- the variables of what gives values, the next value of a register among them
abbrev pub right_variables : Right → List ℕ
right_variables (operator op args) = atoms_variables args
right_variables (register first next) = atom_variables next
right_variables (called f args) = atoms_variables args

-- all variables that an equation defines or reads, which its commands may name
abbrev pub named : FlatEqn → List ℕ
named e = e.targets ++ (e.restart ++ (clock_variables e.clock ++ right_variables e.right))

-- some equation defines or reads a variable
abbrev pub is_named : List FlatEqn → ℕ → Bool
is_named [] x = false
is_named (e ∷ es) x = has_number (named e) x || is_named es x

-- In each program that is accepted what is read is defined too; said so, a machine declares all that its commands name.
abbrev pub is_local : FlatNode → ℕ → Bool
is_local n x = is_named n.eqns x && not (has_number n.outputs x)

-- those of some variables, of which the first has a number
abbrev pub locals_from : FlatNode → ℕ → List Variable → List Variable
locals_from n x [] = []
locals_from n x (v ∷ vs) = if is_local n x then v ∷ locals_from n (x + 1) vs else locals_from n (x + 1) vs

-- ---- the machine

abbrev pub machine_of : List ObcType → FlatNode → Machine
machine_of types n = record {
  name = n.name;
  inputs = map (declared types) (take n.inputs n.variables);
  outputs = map (λ x. declared types (variable_at n.variables x)) n.outputs;
  vars = map (declared types) (locals_from n n.inputs (drop n.inputs n.variables));
  mems = mems types n.variables 0 n.eqns;
  insts = insts 0 n.eqns;
  step = cmds_of (places types n.variables 0 n.eqns ++ stores types n.variables 0 n.eqns);
}
