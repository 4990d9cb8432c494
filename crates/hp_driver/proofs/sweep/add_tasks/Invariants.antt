use Rattle.std.proofs.Common.{◌≡◌, ◌≤◌, ◌++◌, codes}
use Rattle.hp_driver.specs.Sweeping.{row, task_text}
use Rattle.hp_driver.proofs.sweep.add_tasks.Given as goal

-- the parts so far are written
abbrev pub invariant-loop-i : goal.invariant-loop-i
invariant-loop-i l = (1 ≤ l.i) × (l.text.items ≡ l.fn.text.items ++ row (codes ";\n") (task_text) l.i)
