-- What clocked equations have whose machines have form, but for a name and their number.
-- Source: own.
use Rattle.std.specs.Prelude.{◌≤◌, nat_eq, List}
use Rattle.std.specs.List.{AllByRecursion, IsDistinct}
use Rattle.std.specs.Str.{bytes_eq}
use Rattle.hp_obc.specs.Machines.{ObcType}
use Rattle.hp_flat.specs.declared.node.Variable.{Variable}
use Rattle.hp_flat.specs.Nodes.{FlatNode}
use Rattle.law_equations.specs.Followed.Premises.{IsOwn, names}
use Rattle.law_equations.specs.Meaning.Kinding.{Callees, EqnKinds, HasValue}
use Rattle.law_equations.specs.Meaning.Scheduling.{DefinesNoInput, IsWithin}
use Rattle.law_equations.specs.Meaning.Solving.{TargetsDiffer}
use Rattle.law_equations.specs.Shaped.Shaped.{IsShort}
use Rattle.law_wellmade.specs.Lettered.Names.{IsName}
use Rattle.law_choices.specs.Closed.Exclusive.{AreParted}

-- Kinds agree, numbers and names are in order, and where two equations define one variable their clocks part.
pub record IsFit (types : List ObcType) (callees : Callees) (n : FlatNode) : Type 0 where
  pub within : IsWithin n
  pub no_inputs : DefinesNoInput n
  -- outputs are no inputs, and each is given once
  pub outputs_behind : AllByRecursion (λ x. n.inputs ≤ x) n.outputs
  pub outputs_differ : IsDistinct nat_eq n.outputs
  pub kinds : AllByRecursion (EqnKinds types callees n.variables) n.eqns
  pub values : AllByRecursion (λ (v : Variable). HasValue types v.ty) n.variables
  pub targets_differ : TargetsDiffer n
  pub parted : AreParted n.eqns
  pub short : AllByRecursion IsShort n.eqns
  -- names are names and differ, and no memory or instance has one of them
  pub names_good : AllByRecursion IsName (names n.variables)
  pub names_differ : IsDistinct bytes_eq (names n.variables)
  pub names_own : AllByRecursion IsOwn (names n.variables)
