-- Machines that stand among others.
use Rattle.std.specs.Prelude.{◌≡◌, ℕ, Bool, true, ◌&&◌, List, [], ◌∷◌, ◌++◌, Some, IsTrue, is_some}
use Rattle.std.specs.List.{list_all}
use Rattle.hp_obc.specs.Form.{MachinesForm, machine_named}
use Rattle.hp_obc.specs.Machines.{Machine, ObcType}
use Rattle.hp_obc.specs.Steps.{machine_behaviour}

-- Some machines stand among others, in their order. Source: own.
pub data StandAmong : List Machine → List Machine → Type 0 where
  nothing : StandAmong [] []
  one : {own all : List Machine} (m : Machine) → StandAmong own all → StandAmong (m ∷ own) (m ∷ all)
  another : {own all : List Machine} (m : Machine) → StandAmong own all → StandAmong own (m ∷ all)

-- each instance of a machine is of one of these
abbrev pub calls_these : List Machine → Machine → Bool
calls_these these m = list_all (λ (i : List ℕ × List ℕ). is_some (machine_named these i.1)) m.insts

-- each instance of each machine is of a machine before it
abbrev pub call_earlier : List Machine → List Machine → Bool
call_earlier earlier [] = true
call_earlier earlier (m ∷ machines) = calls_these earlier m && call_earlier (earlier ++ m ∷ []) machines

-- Machines that call each other alone do among others, of other names, what they do by themselves: each has its name there, and its reset and steps are the same.
abbrev pub AmongLaw : Type 0
AmongLaw =
    (types : List ObcType) (own all : List Machine) → StandAmong own all → IsTrue (call_earlier [] own) → MachinesForm types [] all → (f : List ℕ) (m : Machine) → machine_named own f ≡ Some m
    → (machine_named all f ≡ Some m) × (machine_behaviour (record { types = types; machines = all }) f ≡ machine_behaviour (record { types = types; machines = own }) f)

-- Machines that have form do so.
abbrev pub FormLaw : Type 0
FormLaw = (types : List ObcType) (machines : List Machine) → MachinesForm types [] machines → IsTrue (call_earlier [] machines)
