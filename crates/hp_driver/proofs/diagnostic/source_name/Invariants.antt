use Rattle.std.proofs.Common.{◌≡◌, ◌++◌, take, drop}
use Rattle.hp_driver.specs.Diagnostics.{source_name}
use Rattle.hp_driver.proofs.diagnostic.source_name.Given as goal

abbrev pub invariant-loop-i : goal.invariant-loop-i
invariant-loop-i l = source_name l.name ≡ take l.i l.name ++ source_name (drop l.i l.name)
