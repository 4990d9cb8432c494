use Rattle.std.proofs.Common.{◌≡◌, drop}
use Rattle.hp_verdicts.specs.Decided.{some_wide}
use Rattle.hp_verdicts.proofs.machine.is_any_wide.Given as goal

abbrev pub invariant-loop-decl : goal.invariant-loop-decl
invariant-loop-decl l = some_wide (drop l.decl-index l.decls) ≡ some_wide l.decls
