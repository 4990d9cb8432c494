use Rattle.std.proofs.Common.{◌≡◌, drop}
use Rattle.hp_obctext.specs.Files.{each, next_constructor}
use Rattle.hp_obctext.specs.Words.{with_words}
use Rattle.hp_obctext.proofs.page.Page.more_constructors.Given as goal

abbrev pub invariant-loop-name : goal.invariant-loop-name
invariant-loop-name l = with_words l.self (each next_constructor (drop l.name-index l.cons)) ≡ with_words l.initial.self (each next_constructor l.cons)
