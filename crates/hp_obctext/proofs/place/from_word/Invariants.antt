use Rattle.std.proofs.Common.{◌≡◌, drop}
use Rattle.hp_obctext.specs.Lexing.{words, BeginsWord}
use Rattle.hp_obctext.specs.Places.{IsEndOf}
use Rattle.hp_obctext.proofs.place.from_word.Given as goal

abbrev pub invariant-loop-i : goal.invariant-loop-i
invariant-loop-i l = record { end : IsEndOf l.text l.rest; no_blank : BeginsWord l.rest; words_are : words l.rest ≡ drop l._i (words l.text) }
