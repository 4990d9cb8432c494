use Rattle.std.proofs.Common.{◌≡◌, ◌≤◌, drop, Some}
use Rattle.hp_driver.specs.Command.{with_digits}
use Rattle.hp_driver.proofs.words.number_of.Given as goal

-- the digits so far are read
abbrev pub invariant-loop-i : goal.invariant-loop-i
invariant-loop-i l = (l.number ≤ l.most) × (with_digits (Some l.number) (drop l.i l.bytes) ≡ with_digits (Some 0) l.bytes)
