use Rattle.std.proofs.Common.{◌≡◌, ◌+◌, ◌≤◌, ◌++◌, drop, vec_len, vec_capacity}
use Rattle.std.specs.List.{sum_by}
use Rattle.hp_base.specs.Kinds.{AreOfKinds}
use Rattle.hp_base.specs.SignatureView.{kinds_seen}
use Rattle.hp_lines.specs.Lines.{texts_of, spaced, word_room}
use Rattle.hp_lines.proofs.write.append_more.Given as goal

abbrev pub invariant-loop-i : goal.invariant-loop-i
invariant-loop-i l =
    (l.into.items ++ spaced (texts_of (kinds_seen (drop l.i l.outputs)) (drop l.i l.values)) ≡ l.initial.into.items ++ spaced (texts_of (kinds_seen l.outputs) l.values))
    × AreOfKinds (kinds_seen (drop l.i l.outputs)) (drop l.i l.values)
    × (vec_len l.into + sum_by word_room (kinds_seen (drop l.i l.outputs)) ≤ vec_len l.initial.into + sum_by word_room (kinds_seen l.outputs))
    × (vec_capacity l.initial.into ≤ vec_capacity l.into)
