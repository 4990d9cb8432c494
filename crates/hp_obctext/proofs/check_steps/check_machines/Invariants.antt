use Rattle.std.proofs.Common.{◌≡◌, [], drop}
use Rattle.hp_obctext.specs.Breaches.{after}
use Rattle.hp_obctext.specs.NamesView.{types_seen}
use Rattle.hp_obctext.specs.Rules.{in_machines}
use Rattle.hp_obctext.proofs.check_steps.check_machines.Given as goal

abbrev pub invariant-loop-machine : goal.invariant-loop-machine
invariant-loop-machine l = after l.found (in_machines (types_seen l.types) l.known (drop l.machine-index l.machines)) ≡ after l.initial.found (in_machines (types_seen l.types) [] l.machines)
