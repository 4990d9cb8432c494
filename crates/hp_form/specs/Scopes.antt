-- What a scope is of.
use Rattle.std.specs.Prelude.{◌≡◌, List}
use Rattle.hp_obc.specs.Machines.{ObcType, Machine}
use Rattle.hp_form.specs.declared.scope.Scope.{Scope}

-- The scope is of the machine, behind earlier machines.
pub record IsScopeOf (s : Scope) (types : List ObcType) (earlier : List Machine) (m : Machine) : Type 0 where
  pub types_are : s.types.now.declared.now ≡ types
  pub earlier_are : s.earlier.now ≡ earlier
  pub machine_is : s.machine.now ≡ m
