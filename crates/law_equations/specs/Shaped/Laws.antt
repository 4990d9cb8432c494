-- That the machines of clocked equations have form.
use Rattle.std.specs.Prelude.{Bool, List, []}
use Rattle.std.specs.List.{filter}
use Rattle.hp_obc.specs.Form.{TypesForm, MachineForm, HasObcForm}
use Rattle.hp_obc.specs.Machines.{ObcType, Machine}
use Rattle.hp_flat.specs.Equations.{FlatEqn}
use Rattle.hp_flat.specs.Nodes.{FlatNode}
use Rattle.law_equations.specs.Meaning.Kinding.{Callees}
use Rattle.law_equations.specs.Meaning.Scheduling.{IsRanked}
use Rattle.hp_normal.specs.Retargeting.{with_eqns}
use Rattle.law_equations.specs.Fewer.Compiling.{IsCompiled, AreCompiled}
use Rattle.law_equations.specs.Shaped.Shaped.{NodeShape, IsShaped, AreShaped}

-- Where types have form, the machine of a ranked node with shape has form behind the machines that the node calls.
abbrev pub FormLaw : Type 0
FormLaw =
    (types : List ObcType) (callees : Callees) (earlier : List Machine) (n : FlatNode) (m : Machine) → TypesForm types → IsRanked n.eqns → IsShaped types callees earlier n → IsCompiled types n m
    → MachineForm types earlier m

-- So the machines of nodes in order make a file that has form.
abbrev pub ProgramFormLaw : Type 0
ProgramFormLaw =
    (types : List ObcType) (callees : Callees) (ns : List FlatNode) (machines : List Machine) → TypesForm types → AreShaped types callees [] ns → AreCompiled types ns machines
    → HasObcForm types machines

-- A ranked node of which some equations go has shape and ranks as before.
abbrev pub KeptLaw : Type 0
KeptLaw =
    (types : List ObcType) (callees : Callees) (n : FlatNode) (keep : FlatEqn → Bool) → NodeShape types callees n → IsRanked n.eqns
    → NodeShape types callees (with_eqns n (filter keep n.eqns)) × IsRanked (filter keep n.eqns)
