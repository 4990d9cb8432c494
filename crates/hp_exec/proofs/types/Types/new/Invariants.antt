use Rattle.std.proofs.Common.{◌≡◌, take, map}
use Rattle.hp_obc.specs.Machines.{ObcType}
use Rattle.hp_obc.specs.Form.{constructors_of}
use Rattle.hp_exec.specs.Naming.{names_in}
use Rattle.hp_exec.specs.Typing.{all_constructors, first_constructors}
use Rattle.hp_exec.proofs.types.Types.new.Given as goal

abbrev pub invariant-loop-n : goal.invariant-loop-n
invariant-loop-n l = record {
  names : names_in l.names ≡ map (λ (d : ObcType). d.name) (take l.n l.types);
  firsts : l.firsts.items ≡ first_constructors 0 (take l.n l.types);
  constructors : names_in l.constructors ≡ constructors_of (take l.n l.types);
  values : l.values.items ≡ all_constructors 0 (take l.n l.types);
}
