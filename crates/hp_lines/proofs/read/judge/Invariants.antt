use Rattle.std.proofs.Common.{◌≡◌, ◌+◌, ◌≤◌, length, drop}
use Rattle.hp_base.specs.SignatureView.{kinds_seen}
use Rattle.hp_lines.specs.Words.{words}
use Rattle.hp_lines.specs.Values.{HaveFewConstructors}
use Rattle.hp_lines.specs.Refusals.{wrong_word}
use Rattle.hp_lines.proofs.ReadLaws.{first_or}
use Rattle.hp_lines.proofs.read.judge.Given as goal

abbrev pub invariant-loop-kind : goal.invariant-loop-kind
invariant-loop-kind l =
    (first_or l.wrong (wrong_word (l.number + 1) (kinds_seen (drop l.kind-index l.inputs)) (words l.rest)) ≡ wrong_word 1 (kinds_seen l.inputs) (words l.line))
    × (l.number + length (words l.rest) ≡ length (words l.line))
    × (l.number + length l.rest ≤ length l.line)
    × (l.number ≡ l.kind-index)
    × HaveFewConstructors (kinds_seen (drop l.kind-index l.inputs))
