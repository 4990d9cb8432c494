use Rattle.std.proofs.Common.{◌≡◌, drop}
use Rattle.hp_typing.specs.Uses.{how}
use Rattle.hp_typing.specs.Breaches.{found_among, of_others}
use Rattle.hp_typing.proofs.definitions.check_others.Given as goal

abbrev pub invariant-loop-decl : goal.invariant-loop-decl
invariant-loop-decl l = found_among l.found (of_others (how l.uses) (drop l.decl-index l.decls)) ≡ found_among l.initial.found (of_others (how l.uses) l.decls)
