-- When the commands under a clock are done.
use Rattle.std.specs.Prelude.{◌≡◌, ◌<◌, Bool, true, ◌&&◌, nat_eq, if◌then◌else◌, List, [], ◌∷◌}
use Rattle.hp_base.specs.declared.value.Value.{Value}
use Rattle.hp_obc.specs.Commands.{Cmd, cmds_of}
use Rattle.hp_obc.specs.Machines.{ObcType}
use Rattle.hp_obc.specs.Steps.{Names, State, Behaviour, after, arm_number}
use Rattle.hp_flat.specs.declared.node.Variable.{Variable}
use Rattle.hp_flat.specs.Equations.{Clock}
use Rattle.hp_toobc.specs.Tables.{name_of, variable_type, width_of}
use Rattle.hp_toobc.specs.Making.{under}

-- each variable of a clock has the constructor of its number
abbrev pub is_on : List Variable → Names Value → Clock → Bool
is_on variables values [] = true
is_on variables values (on ∷ clock) = nat_eq (arm_number (values (name_of variables on.0))) on.1 && is_on variables values clock

-- each variable of a clock has a type with that constructor
abbrev pub AreWide : List ObcType → List Variable → Clock → Type 0
AreWide types variables [] = Unit {0}
AreWide types variables (on ∷ clock) = (on.1 < width_of types (variable_type variables on.0)) × AreWide types variables clock

-- Commands under a clock are done where it holds, whatever the instances do.
abbrev pub UnderLaw : List ObcType → List Variable → Type 0
UnderLaw types variables =
    (instances : Names Behaviour) (clock : Clock) (cs : List Cmd) (s : State) → AreWide types variables clock
    → after types instances (cmds_of (under types variables clock cs)) s ≡ (if is_on variables s.values clock then after types instances (cmds_of cs) s else s)
