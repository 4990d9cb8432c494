-- Machines without equations that nothing needs.
-- Source: the elimination of dead code, as in Leroy: Formal verification of a realistic compiler (Communications of the ACM, 2009).
use Rattle.std.specs.Prelude.{◌≡◌, List}
use Rattle.std.specs.List.{AllByRecursion}
use Rattle.hp_flat.specs.Nodes.{FlatNode}
use Rattle.hp_fuse.specs.Fusing.{fused_machine}
use Rattle.hp_machines.specs.Machined.{AreMachinesOf}
use Rattle.hp_normal.specs.Needing.{EqnNeeded}
use Rattle.hp_obc.specs.Machines.{ObcType, Machine, Obc}
use Rattle.hp_toobc.specs.Making.{machine_of}
use Rattle.hp_tree.specs.declared.program.Item.{Item}

-- Each equation that a machine is made of is of a register or a call, or defines what is needed: by an output, a register or a call, itself or by others.
pub record HasNeeded (types : List ObcType) (m : Machine) : Type 0 where
  pub node : FlatNode
  pub made : m ≡ fused_machine (machine_of types node)
  pub needed : AllByRecursion (EqnNeeded node) node.eqns

-- So it is of each machine of a program.
abbrev pub NeededMachinesLaw : Type 0
NeededMachinesLaw = (program : List Item) (o : Obc) → AreMachinesOf program o → AllByRecursion (HasNeeded o.types) o.machines
