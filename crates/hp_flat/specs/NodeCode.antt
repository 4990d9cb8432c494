-- Nodes are coded as the tuples of their fields.
use Rattle.std.specs.Prelude.{ℕ, List, refl}
use Rattle.std.specs.Coded.{Coded, code_by, coded×, coded_ℕ, coded_list}
use Rattle.hp_flat.specs.declared.node.Variable.{Variable}
use Rattle.hp_flat.specs.contracts.node.Variable as variable
use Rattle.hp_flat.specs.Equations.{FlatEqn}
use Rattle.hp_flat.specs.EquationCode.{eqn_code}
use Rattle.hp_flat.specs.Nodes.{FlatNode}

abbrev numbers : Coded (List ℕ)
numbers = coded_list coded_ℕ

abbrev pub node_code : Coded FlatNode
node_code = code_by (List ℕ × (List Variable × (ℕ × (List ℕ × List FlatEqn))))
    (coded× numbers (coded× (coded_list variable.the_row.coded) (coded× coded_ℕ (coded× numbers (coded_list eqn_code)))))
    (λ n. (n.name, (n.variables, (n.inputs, (n.outputs, n.eqns)))))
    (λ f. record { name = f.0; variables = f.1.0; inputs = f.1.1.0; outputs = f.1.1.1.0; eqns = f.1.1.1.1 }) (λ n. refl)
