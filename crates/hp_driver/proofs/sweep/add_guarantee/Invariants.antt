use Rattle.std.proofs.Common.{◌≡◌, ◌≤◌, ◌++◌, codes}
use Rattle.hp_driver.specs.Sweeping.{row, apart_text}
use Rattle.hp_driver.proofs.sweep.add_guarantee.Given as goal

-- the parts so far are written
abbrev pub invariant-loop-i : goal.invariant-loop-i
invariant-loop-i l = (1 ≤ l.i) × (l.text.items ≡ l.fn.text.items ++ row (codes " & ") (apart_text) l.i)
