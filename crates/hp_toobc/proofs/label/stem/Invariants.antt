use Rattle.std.proofs.Common.{◌≡◌, ◌++◌, take, drop}
use Rattle.hp_toobc.specs.Labels.{stem}
use Rattle.hp_toobc.proofs.label.stem.Given as goal

abbrev pub invariant-loop-i : goal.invariant-loop-i
invariant-loop-i l = take l.i l.text ++ stem (drop l.i l.text) ≡ stem l.text
