use Rattle.std.proofs.Common.{◌≡◌, ◌++◌, take, drop}
use Rattle.law_equations.specs.Made.Making.{stem}
use Rattle.hp_complete.proofs.naming.stem.Given as goal

abbrev pub invariant-loop-i : goal.invariant-loop-i
invariant-loop-i l = stem l.text ≡ take l.i l.text ++ stem (drop l.i l.text)
