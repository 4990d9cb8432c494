use Rattle.std.proofs.Common.{◌≡◌, drop}
use Rattle.hp_typing.specs.Breaches.{found_after}
use Rattle.hp_typing.specs.Claims.{in_decls}
use Rattle.hp_typing.proofs.declarations.check_decls.Given as goal

abbrev pub invariant-loop-decl : goal.invariant-loop-decl
invariant-loop-decl l = found_after l.found (in_decls l.scope (drop l.decl-index l.decls)) ≡ found_after l.initial.found (in_decls l.scope l.decls)
