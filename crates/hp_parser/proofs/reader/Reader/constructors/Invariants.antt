use Rattle.std.proofs.Common.{◌≡◌, ◌≤◌, All, map, length, Some}
use Rattle.hp_parser.specs.declared.reader.Word.{Word}
use Rattle.hp_parser.specs.ItemReading.{constructors_read}
use Rattle.hp_parser.specs.Seen.{word_seen}
use Rattle.hp_parser.proofs.ItemRounds.{constructors_from}
use Rattle.hp_parser.proofs.reader.Reader.constructors.Given as goal

abbrev pub invariant-loop-words : goal.invariant-loop-words
invariant-loop-words l =
    (constructors_from (Some l.left) (map word_seen l.words.items) l.self ≡ constructors_read l.fn.self) × All (λ (w : Word). length w.text.now ≤ 255) l.words.items

abbrev pub decreases-loop-words : goal.decreases-loop-words
decreases-loop-words l = length l.self
