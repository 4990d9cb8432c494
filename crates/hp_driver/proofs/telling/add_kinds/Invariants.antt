use Rattle.std.proofs.Common.{◌≡◌, ◌++◌, take}
use Rattle.hp_base.specs.SignatureView.{kinds_seen}
use Rattle.hp_driver.proofs.telling.add_kinds.Given as goal

abbrev pub invariant-loop-i : goal.invariant-loop-i
invariant-loop-i l = kinds_seen l.outputs.items ≡ kinds_seen l.fn.outputs.items ++ take l.i (kinds_seen l.from)
