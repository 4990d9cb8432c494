use Rattle.std.proofs.Common.{◌≡◌, ℕ, get_or, length}
use Rattle.hp_flat.specs.declared.equation.Atom.TheVariants.{Variable}
use Rattle.hp_normal.proofs.substitute.variables.Given as goal

abbrev pub invariant-loop-i : goal.invariant-loop-i
invariant-loop-i l = record { count : length l.table.items ≡ l.i; same : (x : ℕ) → get_or l.table.items x (Variable x) ≡ Variable x }
