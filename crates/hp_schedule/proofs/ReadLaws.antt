-- The reads of an equation are among its numbers.
use Rattle.std.proofs.Common.{ℕ, ◌<◌, ◌++◌}
use Rattle.hp_flat.specs.Equations.{Right, operator, register, called, FlatEqn}
use Rattle.law_equations.specs.Meaning.Fitting.{operands}
use Rattle.law_equations.specs.Meaning.Scheduling.{clock_variables, right_reads, reads, AreBelow, EqnWithin}
use Rattle.law_equations.proofs.FewerLemmas.SubstituteLaws.{each_append}

-- what an equation reads, part by part
pub reads-below : (n : ℕ) (e : FlatEqn) → AreBelow n (clock_variables e.clock) → AreBelow n e.restart → AreBelow n (right_reads e.right) → AreBelow n (reads e)
reads-below n e clock restart right = each_append (λ x. x < n) (clock_variables e.clock) (e.restart ++ right_reads e.right) clock (each_append (λ x. x < n) e.restart (right_reads e.right) restart right)

right_within : (n : ℕ) (r : Right) → AreBelow n (operands r) → AreBelow n (right_reads r)
right_within n (operator op args) h = h
right_within n (register first next) h = tt
right_within n (called f args) h = h

pub reads-within : (n : ℕ) (e : FlatEqn) → EqnWithin n e → AreBelow n (reads e)
reads-within n e w = reads-below n e w.clock w.restart (right_within n e.right w.operands)
