use Rattle.std.proofs.Common.{◌≡◌, map, take}
use Rattle.hp_parser.specs.declared.reader.Word.{Word}
use Rattle.hp_parser.proofs.program.names_of.Given as goal

abbrev pub invariant-loop-word : goal.invariant-loop-word
invariant-loop-word l = l.names.items ≡ map (λ (w : Word). w.text.now) (take l.word-index l.words)
