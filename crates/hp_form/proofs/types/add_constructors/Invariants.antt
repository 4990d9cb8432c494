use Rattle.std.proofs.Common.{◌≡◌, [], ◌++◌, drop}
use Rattle.std.specs.Prelude.{◌↔◌}
use Rattle.hp_obc.specs.Form.{constructors_of}
use Rattle.hp_form.specs.Declaring.{keys, ConstructorsAreNew}
use Rattle.hp_form.specs.Kinds.{held}
use Rattle.hp_form.proofs.types.add_constructors.Given as goal

abbrev pub invariant-loop-i : goal.invariant-loop-i
invariant-loop-i l = record {
  new : ConstructorsAreNew (keys l.constructors) (constructors_of (drop l.i l.types)) ↔ ConstructorsAreNew [] (constructors_of l.types);
  added : l.constructors ++ held l.i (drop l.i l.types) ≡ held 0 l.types;
}
