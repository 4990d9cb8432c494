use Rattle.std.proofs.Common.{◌≡◌, drop}
use Rattle.hp_init.specs.Wants.{some_must}
use Rattle.hp_init.proofs.gather.some_must.Given as goal

abbrev pub invariant-loop-name : goal.invariant-loop-name
invariant-loop-name l = some_must l.locals.decls.now (drop l.name-index l.names) ≡ some_must l.locals.decls.now l.names
