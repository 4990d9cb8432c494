use Rattle.std.proofs.Common.{◌≡◌, drop}
use Rattle.hp_expand.specs.NewNames.{is_new}
use Rattle.hp_expand.proofs.names.is_new.Given as goal

abbrev pub invariant-loop-i : goal.invariant-loop-i
invariant-loop-i l = is_new (drop l.i l.text) ≡ is_new l.text
