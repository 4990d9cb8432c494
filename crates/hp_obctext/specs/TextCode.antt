-- What the text of a machine is seen as, and its code.
use Rattle.std.specs.Prelude.{ℕ, List, refl}
use Rattle.std.specs.Coded.{Coded, code_by, coded×, coded_ℕ, coded_list}
use Rattle.hp_obc.specs.declared.machine.Var.{Var}
use Rattle.hp_obc.specs.contracts.machine.Var as var
use Rattle.hp_obc.specs.declared.machine.Mem.{Mem}
use Rattle.hp_obc.specs.contracts.machine.Mem as mem
use Rattle.hp_obctext.specs.declared.text.Text.TheInside.{Inside}
use Rattle.hp_obctext.specs.Files.{Steps, Text}
use Rattle.hp_obctext.specs.StepCode.{steps_code}

abbrev pub bytes : Coded (List ℕ)
bytes = coded_list coded_ℕ

abbrev pub Fields : Type 0
Fields = List ℕ × (List Var × (List Var × (List Var × (List Mem × (List (List ℕ × List ℕ) × Steps)))))

abbrev pub fields_code : Coded Fields
fields_code = coded× bytes (coded× (coded_list var.the_row.coded) (coded× (coded_list var.the_row.coded) (coded× (coded_list var.the_row.coded) (coded× (coded_list mem.the_row.coded) (coded× (coded_list (coded× bytes bytes)) steps_code)))))

abbrev pub text_code : Coded Text
text_code = code_by Fields fields_code (λ m. (m.name, (m.inputs, (m.outputs, (m.vars, (m.mems, (m.insts, m.steps)))))))
    (λ f. record { name = f.0; inputs = f.1.0; outputs = f.1.1.0; vars = f.1.1.1.0; mems = f.1.1.1.1.0; insts = f.1.1.1.1.1.0; steps = f.1.1.1.1.1.1 }) (λ m. refl)

abbrev pub text_seen : Inside → Text
text_seen m = record {
  name = m.name;
  inputs = m.inputs.items;
  outputs = m.outputs.items;
  vars = m.vars.items;
  mems = m.mems.items;
  insts = m.insts.items;
  steps = m.steps;
}
