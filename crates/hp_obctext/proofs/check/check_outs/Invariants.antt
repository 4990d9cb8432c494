use Rattle.std.proofs.Common.{◌≡◌, [], drop}
use Rattle.hp_obctext.specs.Breaches.{after}
use Rattle.hp_obctext.specs.NamesView.{names_seen}
use Rattle.hp_obctext.specs.Rules.{in_outs}
use Rattle.hp_obctext.proofs.check.check_outs.Given as goal

abbrev pub invariant-loop-i : goal.invariant-loop-i
invariant-loop-i l = after l.found (in_outs (names_seen l.names) l.seen (drop l.i l.outs) (drop l.i l.outputs)) ≡ after l.initial.found (in_outs (names_seen l.names) [] l.outs l.outputs)
