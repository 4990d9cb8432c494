use Rattle.std.proofs.Common.{◌≡◌, drop, map}
use Rattle.hp_obctext.specs.Words.{small, with_words}
use Rattle.hp_obctext.proofs.page.Page.names.Given as goal

abbrev pub invariant-loop-name : goal.invariant-loop-name
invariant-loop-name l = with_words l.self (map small (drop l.name-index l.names)) ≡ with_words l.initial.self (map small l.names)
