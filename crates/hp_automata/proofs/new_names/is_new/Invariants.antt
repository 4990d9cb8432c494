use Rattle.std.proofs.Common.{◌≡◌, drop}
use Rattle.hp_automata.specs.NewNames.{is_new}
use Rattle.hp_automata.proofs.new_names.is_new.Given as goal

abbrev pub invariant-loop-i : goal.invariant-loop-i
invariant-loop-i l = is_new (drop l.i l.text) ≡ is_new l.text
