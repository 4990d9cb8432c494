use Rattle.std.proofs.Common.{◌≡◌, ◌++◌, drop}
use Rattle.std.specs.Prelude.{◌↔◌}
use Rattle.hp_form.specs.Declaring.{keys, ConstructorsAreNew}
use Rattle.hp_form.specs.Kinds.{all_at}
use Rattle.hp_form.proofs.types.add_constructors_of.Given as goal

abbrev pub invariant-loop-i : goal.invariant-loop-i
invariant-loop-i l = record {
  new : ConstructorsAreNew (keys l.constructors) (drop l.i l.names) ↔ ConstructorsAreNew (keys l.initial.constructors) l.names;
  added : l.constructors ++ all_at l.number (drop l.i l.names) ≡ l.initial.constructors ++ all_at l.number l.names;
}
