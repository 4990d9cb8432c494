use Rattle.std.proofs.Common.{◌≡◌, ◌++◌, drop}
use Rattle.hp_driver.specs.Command.{spaced_numbers}
use Rattle.hp_driver.proofs.sweep.add_numbers.Given as goal

-- the numbers so far are written
abbrev pub invariant-loop-i : goal.invariant-loop-i
invariant-loop-i l = l.text.items ++ spaced_numbers (drop l.i l.numbers) ≡ l.fn.text.items ++ spaced_numbers l.numbers
