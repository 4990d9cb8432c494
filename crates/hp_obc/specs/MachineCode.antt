-- Types, machines and files are coded as the tuples of their fields.
use Rattle.std.specs.Prelude.{ℕ, List, refl}
use Rattle.std.specs.Coded.{Coded, code_by, coded×, coded_ℕ, coded_list}
use Rattle.hp_obc.specs.declared.machine.Var.{Var}
use Rattle.hp_obc.specs.contracts.machine.Var as var
use Rattle.hp_obc.specs.declared.machine.Mem.{Mem}
use Rattle.hp_obc.specs.contracts.machine.Mem as mem
use Rattle.hp_obc.specs.Commands.{Cmds}
use Rattle.hp_obc.specs.CommandCode.{cmds_code}
use Rattle.hp_obc.specs.Machines.{ObcType, Machine, Obc}

abbrev bytes : Coded (List ℕ)
bytes = coded_list coded_ℕ

abbrev pub type_code : Coded ObcType
type_code = code_by (List ℕ × List (List ℕ)) (coded× bytes (coded_list bytes)) (λ t. (t.name, t.cons)) (λ f. record { name = f.0; cons = f.1 }) (λ t. refl)

abbrev Fields : Type 0
Fields = List ℕ × (List Var × (List Var × (List Var × (List Mem × (List (List ℕ × List ℕ) × Cmds)))))

abbrev fields_code : Coded Fields
fields_code = coded× bytes (coded× (coded_list var.the_row.coded) (coded× (coded_list var.the_row.coded) (coded× (coded_list var.the_row.coded) (coded× (coded_list mem.the_row.coded) (coded× (coded_list (coded× bytes bytes)) cmds_code)))))

abbrev pub machine_code : Coded Machine
machine_code = code_by Fields fields_code (λ m. (m.name, (m.inputs, (m.outputs, (m.vars, (m.mems, (m.insts, m.step)))))))
    (λ f. record { name = f.0; inputs = f.1.0; outputs = f.1.1.0; vars = f.1.1.1.0; mems = f.1.1.1.1.0; insts = f.1.1.1.1.1.0; step = f.1.1.1.1.1.1 }) (λ m. refl)

abbrev pub obc_code : Coded Obc
obc_code = code_by (List ObcType × List Machine) (coded× (coded_list type_code) (coded_list machine_code)) (λ o. (o.types, o.machines)) (λ f. record { types = f.0; machines = f.1 }) (λ o. refl)
