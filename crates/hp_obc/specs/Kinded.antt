-- Machines keep values of their kinds, and give outputs of their kinds.
use Rattle.std.specs.Prelude.{◌≡◌, ℕ, List, [], ◌∷◌, Some, map, unwrap_or}
use Rattle.std.specs.List.{All}
use Rattle.hp_base.specs.Kinds.{KindData, Bools, AreOfKinds}
use Rattle.hp_base.specs.declared.value.Value.{Value}
use Rattle.hp_obc.specs.Machines.{ObcType, Machine, Obc}
use Rattle.hp_obc.specs.Steps.{Memory, Memories, memory, no_memory, more_memories, Names, given, Behaviour, machine_behaviour, run}
use Rattle.hp_obc.specs.Values.{kind_of}
use Rattle.hp_obc.specs.Form.{mem_vars, machine_named}
use Rattle.hp_obc.specs.declared.machine.Var.{Var}

-- the kinds of variables whose types are declared
abbrev pub kinds_in : List ObcType → List Var → List KindData
kinds_in types vars = map (λ (x : Var). unwrap_or (kind_of types x.ty) Bools) vars

mutual
  -- the kinds of what a machine keeps: of the value of each of its memories, and of what each of its instances keeps
  pub data MemoryKinds : Type 0 where
    memory_kinds : List KindData → InnerKinds → MemoryKinds

  pub data InnerKinds : Type 0 where
    no_kinds : InnerKinds
    more_kinds : MemoryKinds → InnerKinds → InnerKinds

abbrev pub inner_kinds : List MemoryKinds → InnerKinds
inner_kinds [] = no_kinds
inner_kinds (k ∷ ks) = more_kinds k (inner_kinds ks)

-- Each value of a memory is of its kind, in the instances too.
abbrev mutual
  pub HasKinds : MemoryKinds → Memory → Type 0
  HasKinds (memory_kinds kinds inner) (memory values more) = AreOfKinds kinds values × HaveKinds inner more

  pub HaveKinds : InnerKinds → Memories → Type 0
  HaveKinds no_kinds no_memory = Unit {0}
  HaveKinds (more_kinds k ks) (more_memories m ms) = HasKinds k m × HaveKinds ks ms
  HaveKinds kinds memories = ⊥

-- the kinds of what nothing keeps
abbrev pub none_kept : MemoryKinds
none_kept = memory_kinds [] no_kinds

-- the kinds of what a machine keeps, where those of the machines of its instances are known
abbrev pub kinds_of_kept : List ObcType → Names MemoryKinds → Machine → MemoryKinds
kinds_of_kept types known m = memory_kinds (kinds_in types (mem_vars m.mems)) (inner_kinds (map (λ (i : List ℕ × List ℕ). known i.1) m.insts))

abbrev pub kinds_behind : List ObcType → List Machine → Names MemoryKinds → Names MemoryKinds
kinds_behind types [] known = known
kinds_behind types (m ∷ machines) known = kinds_behind types machines (given m.name (kinds_of_kept types known m) known)

-- the kinds of what the machine of a name in a file keeps
abbrev pub machine_keeps : Obc → Names MemoryKinds
machine_keeps o = kinds_behind o.types o.machines (λ x. none_kept)

-- After a reset a memory is of its kinds. Each step from any memory of the kinds, on inputs of theirs, gives outputs of theirs and
-- leaves such a memory.
pub record StepsInKind (inputs outputs : List KindData) (keeps : MemoryKinds) (b : Behaviour) : Type 0 where
  pub reset : HasKinds keeps b.reset
  pub outputs_are : (kept : Memory) (values : List Value) → HasKinds keeps kept → AreOfKinds inputs values → AreOfKinds outputs (b.step kept values).outputs
  pub kept_is : (kept : Memory) (values : List Value) → HasKinds keeps kept → AreOfKinds inputs values → HasKinds keeps (b.step kept values).kept

-- so does each machine of a file, for the kinds of its inputs and outputs
abbrev pub AreKinded : Obc → Type 0
AreKinded o = (x : List ℕ) (m : Machine) → machine_named o.machines x ≡ Some m
    → StepsInKind (kinds_in o.types m.inputs) (kinds_in o.types m.outputs) (machine_keeps o x) (machine_behaviour o x)

-- In each run on inputs of their kinds the outputs of the machines of a file are of theirs.
abbrev pub RunInKind : Obc → Type 0
RunInKind o = (x : List ℕ) (m : Machine) (inputs : List (List Value)) → machine_named o.machines x ≡ Some m → All (AreOfKinds (kinds_in o.types m.inputs)) inputs
    → All (AreOfKinds (kinds_in o.types m.outputs)) (run (machine_behaviour o x) inputs)
