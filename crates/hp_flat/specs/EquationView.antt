-- What an equation is seen as.
use Rattle.hp_flat.specs.declared.equation.FlatRight.{FlatRight}
use Rattle.hp_flat.specs.declared.equation.FlatRight.TheVariants.{Op, Register, Call}
use Rattle.hp_flat.specs.declared.equation.FlatEqn.TheInside.{Inside}
use Rattle.hp_flat.specs.Equations.{Right, operator, register, called, FlatEqn}

abbrev pub right_seen : FlatRight → Right
right_seen (Op op args) = operator op args.items
right_seen (Register first next) = register first next
right_seen (Call f args) = called f args.items

abbrev pub eqn_seen : Inside → FlatEqn
eqn_seen e = record {
  targets = e.targets.items;
  clock = e.clock.items;
  right = right_seen e.right;
  restart = e.restart.items;
  at = e.at;
}
