-- What is looked at of clocked equations before a machine is made of them.
use Rattle.std.specs.Prelude.{◌≤◌, ◌^◌, List, length}
use Rattle.std.specs.List.{AllByRecursion}
use Rattle.hp_obc.specs.Form.{TypesForm}
use Rattle.hp_obc.specs.Machines.{ObcType}
use Rattle.hp_flat.specs.declared.node.Variable.{Variable}
use Rattle.hp_flat.specs.Equations.{FlatEqn}
use Rattle.hp_flat.specs.Nodes.{FlatNode}
use Rattle.hp_toobc.specs.Stepping.{AreWide}
use Rattle.hp_normal.specs.Reading.{copy_of}
use Rattle.law_equations.specs.Followed.Premises.{EqnForm, IsOfTypes, constants_of}
use Rattle.law_equations.specs.Fewer.Compiling.{CopyAgrees, CopiesAgree}

-- The clock names constructors of the types of its variables, constants are of the types, and a copy has the type of what it copies.
pub record EqnIsRegular (types : List ObcType) (variables : List Variable) (e : FlatEqn) : Type 0 where
  pub clock : AreWide types variables e.clock
  pub constants : AllByRecursion (IsOfTypes types) (constants_of e.right)
  pub copy : CopyAgrees variables (copy_of e)

-- so it is of each equation
abbrev pub EqnsRegular : List ObcType → FlatNode → Type 0
EqnsRegular types n = AllByRecursion (EqnIsRegular types n.variables) n.eqns

-- There are no more equations, and no more variables, than names of memories and instances tell apart.
pub record IsSmall (n : FlatNode) : Type 0 where
  pub eqns : length n.eqns ≤ 10 ^ 13
  pub variables : length n.variables ≤ 10 ^ 13

-- the equations are regular, and few
pub record IsRegular (types : List ObcType) (n : FlatNode) : Type 0 where
  pub eqns : EqnsRegular types n
  pub few : length n.eqns ≤ 10 ^ 13
  pub few_variables : length n.variables ≤ 10 ^ 13

-- Where types have form, a machine made of such equations writes constants that are told.
abbrev pub RegularLaw : Type 0
RegularLaw =
    (types : List ObcType) (n : FlatNode) → TypesForm types → IsRegular types n → AllByRecursion (EqnForm types n.variables) n.eqns × CopiesAgree n.variables n.eqns
