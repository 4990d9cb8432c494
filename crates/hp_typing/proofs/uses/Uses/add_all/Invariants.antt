use Rattle.std.proofs.Common.{◌≡◌, drop}
use Rattle.hp_typing.specs.Uses.{both, how}
use Rattle.hp_typing.proofs.UseMaps.{said}
use Rattle.hp_typing.proofs.uses.Uses.add_all.Given as goal

abbrev pub invariant-loop-i : goal.invariant-loop-i
invariant-loop-i l = both (how l.self) (said (drop l.i l.other.names.entries)) ≡ both (how l.initial.self) (how l.other)
