-- What the step and the reset of a machine do. Source: Biernacki, Colaco, Hamon, Pouzet, Clock-directed modular code
-- generation for synchronous data-flow languages (2008): objects with a memory, a step and a reset.
use Rattle.std.specs.Prelude.{ℕ, zero, suc, true, List, [], ◌∷◌, ◌++◌, map, if◌then◌else◌}
use Rattle.std.specs.Str.{bytes_eq}
use Rattle.hp_base.specs.declared.value.Value.{Value}
use Rattle.hp_base.specs.declared.value.Value.TheVariants.{Absent, B, E}
use Rattle.hp_obc.specs.declared.command.Arg.{Arg}
use Rattle.hp_obc.specs.declared.command.Arg.TheVariants.{Name as NameArg, Const as ConstArg}
use Rattle.hp_obc.specs.declared.machine.Var.{Var}
use Rattle.hp_obc.specs.declared.machine.Mem.{Mem}
use Rattle.hp_obc.specs.Commands.{Cmds, Cmd, Arms, done, and_then, set, call, restart, case_of, no_arm, more_arms}
use Rattle.hp_obc.specs.Machines.{ObcType, Machine, Obc}
use Rattle.hp_obc.specs.Values.{constant_of, first_value, or_absent, operated}

mutual
  -- the memory of a machine: a value for each of its memories, and the memory of each of its instances
  pub data Memory : Type 0 where
    memory : List Value → Memories → Memory

  pub data Memories : Type 0 where
    no_memory : Memories
    more_memories : Memory → Memories → Memories

-- the values that a memory holds itself, and the memories of the instances in it
abbrev pub values_in : Memory → List Value
values_in (memory values inner) = values

abbrev pub inner_of : Memory → Memories
inner_of (memory values inner) = inner

abbrev pub listed : Memories → List Memory
listed no_memory = []
listed (more_memories m ms) = m ∷ listed ms

abbrev pub memories_of : List Memory → Memories
memories_of [] = no_memory
memories_of (m ∷ ms) = more_memories m (memories_of ms)

-- what a step gives: the outputs, and the memory behind it
pub record Stepped : Type 0 where
  pub outputs : List Value
  pub kept : Memory

-- what a machine does: its memory after a reset, and its step from a memory on some inputs
pub record Behaviour : Type 0 where
  pub reset : Memory
  pub step : Memory → List Value → Stepped

-- what names stand for
abbrev pub Names : Type 0 → Type 0
Names A = List ℕ → A

-- the same, but for one name
abbrev pub given : {A : Type 0} → List ℕ → A → Names A → Names A
given x v names = λ y. if bytes_eq x y then v else names y

-- the same, but for some names, which stand for some values in order
abbrev pub all_given : {A : Type 0} → List (List ℕ) → List A → Names A → Names A
all_given (x ∷ xs) (v ∷ vs) names = given x v (all_given xs vs names)
all_given xs vs names = names

-- what the names of a machine stand for within a step: values, and memories of instances
pub record State : Type 0 where
  pub values : Names Value
  pub memories : Names Memory

-- the value of an argument
abbrev pub argument : List ObcType → Names Value → Arg → Value
argument types names (NameArg x) = names x
argument types names (ConstArg c) = or_absent (constant_of types c)

-- the number of the arm for a value: `false` before `true`, or that of the constructor
abbrev pub arm_number : Value → ℕ
arm_number (B true) = 1
arm_number (E t c) = c
arm_number v = 0

-- The instances of a machine have behaviours, of which `instances` tells the one of each name.
module _ (types : List ObcType) (instances : Names Behaviour) where
  abbrev mutual
    -- commands are done in order
    pub after : Cmds → State → State
    after done s = s
    after (and_then c cs) s = after cs (after_one c s)

    pub after_one : Cmd → State → State
    after_one (set x op args) s =
        record { values = given x (operated op (map (argument types s.values) args)) s.values; memories = s.memories }
    after_one (call i outs args) s =
        let stepped = (instances i).step (s.memories i) (map (argument types s.values) args) in
        record { values = all_given outs stepped.outputs s.values; memories = given i stepped.kept s.memories }
    after_one (restart i) s = record { values = s.values; memories = given i (instances i).reset s.memories }
    after_one (case_of x arms) s = after_arm (arm_number (s.values x)) arms s

    pub after_arm : ℕ → Arms → State → State
    after_arm n no_arm s = s
    after_arm zero (more_arms cs arms) s = after cs s
    after_arm (suc n) (more_arms cs arms) s = after_arm n arms s

abbrev pub var_names : List Var → List (List ℕ)
var_names vars = map (λ (x : Var). x.name) vars

abbrev pub mem_names : List Mem → List (List ℕ)
mem_names mems = map (λ (x : Mem). x.name) mems

abbrev pub inst_names : List (List ℕ × List ℕ) → List (List ℕ)
inst_names insts = map (λ (i : List ℕ × List ℕ). i.0) insts

-- the memory of nothing
abbrev pub empty : Memory
empty = memory [] no_memory

-- what names stand for before the commands of a step
abbrev pub before : List ObcType → Machine → Memory → List Value → State
before types m kept inputs = record {
  values = all_given (var_names m.inputs) inputs
      (all_given (var_names (m.outputs ++ m.vars)) (map (λ (x : Var). first_value types x.ty) (m.outputs ++ m.vars))
      (all_given (mem_names m.mems) (values_in kept) (λ x. Absent)));
  memories = all_given (inst_names m.insts) (listed (inner_of kept)) (λ i. empty);
}

-- the outputs and the memory that a state holds
abbrev pub stepped_to : Machine → State → Stepped
stepped_to m s = record {
  outputs = map s.values (var_names m.outputs);
  kept = memory (map s.values (mem_names m.mems)) (memories_of (map s.memories (inst_names m.insts)));
}

-- the behaviours of some machines by their names; no other name has one
abbrev pub Known : Type 0
Known = Names Behaviour

abbrev pub unknown : Known
unknown x = record { reset = empty; step = λ kept inputs. record { outputs = []; kept = empty } }

-- the behaviour of an instance of a machine: that of the machine with which it is declared
abbrev pub of_instance : Known → List (List ℕ × List ℕ) → Names Behaviour
of_instance known insts = all_given (inst_names insts) (map (λ (i : List ℕ × List ℕ). known i.1) insts) unknown

-- the behaviour of a machine, whose instances are of known machines
abbrev pub behaviour : List ObcType → Known → Machine → Behaviour
behaviour types known m = record {
  reset = memory (map (λ (x : Mem). or_absent (constant_of types x.first)) m.mems) (memories_of (map (λ (i : List ℕ × List ℕ). (known i.1).reset) m.insts));
  step = λ kept inputs. stepped_to m (after types (of_instance known m.insts) m.step (before types m kept inputs));
}

-- machines in order, each with those before it known
abbrev pub known_behind : List ObcType → List Machine → Known → Known
known_behind types [] known = known
known_behind types (m ∷ machines) known = known_behind types machines (given m.name (behaviour types known m) known)

-- the behaviour of the machine of a name in a file
abbrev pub machine_behaviour : Obc → Names Behaviour
machine_behaviour o = known_behind o.types o.machines unknown

-- the outputs of the steps over some inputs, from a memory on
abbrev pub outputs_from : Behaviour → Memory → List (List Value) → List (List Value)
outputs_from b kept [] = []
outputs_from b kept (inputs ∷ later) = let stepped = b.step kept inputs in stepped.outputs ∷ outputs_from b stepped.kept later

-- a run: the outputs of the steps from the memory after a reset
abbrev pub run : Behaviour → List (List Value) → List (List Value)
run b inputs = outputs_from b b.reset inputs
