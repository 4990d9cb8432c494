use Rattle.std.proofs.Common.{◌≡◌, drop}
use Rattle.hp_names.specs.Breaches.{found_after}
use Rattle.hp_names.specs.Names.{declared_names}
use Rattle.hp_names.specs.Scopes.{with_variables}
use Rattle.hp_names.specs.Claims.{new_names}
use Rattle.hp_names.proofs.declarations.declare_variables.Given as goal

abbrev pub invariant-loop-decl : goal.invariant-loop-decl
invariant-loop-decl l =
    record {
      scope : with_variables l.scope (drop l.decl-index l.decls) ≡ with_variables l.initial.scope l.decls;
      found : found_after l.found (new_names l.scope.variables (declared_names (drop l.decl-index l.decls)))
          ≡ found_after l.initial.found (new_names l.initial.scope.variables (declared_names l.decls));
    }
