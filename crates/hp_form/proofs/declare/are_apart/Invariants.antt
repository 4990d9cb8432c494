use Rattle.std.proofs.Common.{drop}
use Rattle.std.specs.Prelude.{◌↔◌}
use Rattle.std.specs.List.{IsDistinct}
use Rattle.std.specs.Str.{bytes_eq}
use Rattle.hp_form.specs.Declaring.{keys, AreApart}
use Rattle.hp_form.proofs.declare.are_apart.Given as goal

abbrev pub invariant-loop-name : goal.invariant-loop-name
invariant-loop-name l = AreApart (keys l.known) (drop l.name-index l.names) ↔ IsDistinct bytes_eq l.names
