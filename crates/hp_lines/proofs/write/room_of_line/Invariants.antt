use Rattle.std.proofs.Common.{◌≡◌, ◌+◌, min, drop}
use Rattle.std.specs.List.{sum_by}
use Rattle.hp_base.specs.SignatureView.{kinds_seen}
use Rattle.hp_lines.specs.Lines.{word_room}
use Rattle.hp_lines.proofs.write.room_of_line.Given as goal

abbrev pub invariant-loop-kind : goal.invariant-loop-kind
invariant-loop-kind l =
    min 18446744073709551615 (l.room + sum_by word_room (kinds_seen (drop l.kind-index l.outputs))) ≡ min 18446744073709551615 (sum_by word_room (kinds_seen l.outputs))
