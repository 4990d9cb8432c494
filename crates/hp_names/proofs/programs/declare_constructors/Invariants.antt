use Rattle.std.proofs.Common.{◌≡◌, drop}
use Rattle.hp_names.specs.Breaches.{found_after}
use Rattle.hp_names.specs.Names.{with_names, names_at}
use Rattle.hp_names.specs.Claims.{new_names}
use Rattle.hp_names.proofs.programs.declare_constructors.Given as goal

abbrev pub invariant-loop-constructor : goal.invariant-loop-constructor
invariant-loop-constructor l =
    record {
      names : with_names l.names (names_at l.at (drop l.constructor-index l.constructors)) ≡ with_names l.initial.names (names_at l.at l.constructors);
      found : found_after l.found (new_names l.names (names_at l.at (drop l.constructor-index l.constructors)))
          ≡ found_after l.initial.found (new_names l.initial.names (names_at l.at l.constructors));
    }
