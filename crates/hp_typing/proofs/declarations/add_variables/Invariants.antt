use Rattle.std.proofs.Common.{◌≡◌, drop}
use Rattle.hp_typing.specs.Scopes.{with_variables}
use Rattle.hp_typing.proofs.declarations.add_variables.Given as goal

abbrev pub invariant-loop-decl : goal.invariant-loop-decl
invariant-loop-decl l = with_variables l.scope (drop l.decl-index l.decls) ≡ with_variables l.initial.scope l.decls
