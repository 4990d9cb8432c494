use Rattle.std.proofs.Common.{◌≡◌, [], ◌++◌, drop}
use Rattle.std.specs.Prelude.{◌↔◌}
use Rattle.hp_form.specs.Declaring.{keys, TypesAreNew}
use Rattle.hp_form.specs.Kinds.{numbered}
use Rattle.hp_form.proofs.types.add_types.Given as goal

abbrev pub invariant-loop-i : goal.invariant-loop-i
invariant-loop-i l = record {
  new : TypesAreNew (keys l.names) (drop l.i l.types) ↔ TypesAreNew [] l.types;
  added : l.names ++ numbered l.i (drop l.i l.types) ≡ numbered 0 l.types;
}
