use Rattle.std.proofs.Common.{◌≡◌, drop}
use Rattle.hp_obctext.specs.Breaches.{after}
use Rattle.hp_obctext.specs.NamesView.{names_seen}
use Rattle.hp_obctext.specs.Rules.{in_inputs}
use Rattle.hp_obctext.proofs.check.check_inputs.Given as goal

abbrev pub invariant-loop-i : goal.invariant-loop-i
invariant-loop-i l = after l.found (in_inputs (names_seen l.names) (drop l.i l.args) (drop l.i l.inputs)) ≡ after l.initial.found (in_inputs (names_seen l.names) l.args l.inputs)
