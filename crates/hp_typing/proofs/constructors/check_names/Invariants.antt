use Rattle.std.proofs.Common.{◌≡◌, drop}
use Rattle.hp_typing.specs.Breaches.{found_after}
use Rattle.hp_typing.specs.Definedness.{in_constructors}
use Rattle.hp_typing.specs.Seen.{conses_seen, conses_told}
use Rattle.hp_typing.proofs.constructors.check_names.Given as goal

abbrev pub invariant-loop-name : goal.invariant-loop-name
invariant-loop-name l =
    found_after l.found (in_constructors l.at (conses_seen (drop l.name-index l.names)) (conses_told l.given))
    ≡ found_after l.initial.found (in_constructors l.at (conses_seen l.names) (conses_told l.given))
