use Rattle.std.proofs.Common.{◌≡◌, map, drop}
use Rattle.hp_obctext.specs.Files.{each, machine_words}
use Rattle.hp_obctext.specs.Found.{text_known}
use Rattle.hp_obctext.specs.Words.{with_words}
use Rattle.hp_obctext.proofs.page.Page.machines.Given as goal

abbrev pub invariant-loop-machine : goal.invariant-loop-machine
invariant-loop-machine l =
    with_words l.self (each machine_words (map (text_known l.types) (drop l.machine-index l.machines)))
    ≡ with_words l.initial.self (each machine_words (map (text_known l.types) l.machines))
