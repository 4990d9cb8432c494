use Rattle.std.proofs.Common.{◌≡◌, drop}
use Rattle.hp_obctext.specs.Files.{each, type_words}
use Rattle.hp_obctext.specs.Words.{with_words}
use Rattle.hp_obctext.proofs.page.Page.types.Given as goal

abbrev pub invariant-loop-ty : goal.invariant-loop-ty
invariant-loop-ty l = with_words l.self (each type_words (drop l.ty-index l.types)) ≡ with_words l.initial.self (each type_words l.types)
