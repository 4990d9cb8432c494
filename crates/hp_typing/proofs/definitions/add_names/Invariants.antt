use Rattle.std.proofs.Common.{◌≡◌, drop}
use Rattle.hp_typing.specs.Uses.{both, how, use_on}
use Rattle.hp_typing.proofs.definitions.add_names.Given as goal

abbrev pub invariant-loop-name : goal.invariant-loop-name
invariant-loop-name l = both (how l.uses) (use_on (drop l.name-index l.names)) ≡ both (how l.initial.uses) (use_on l.names)
