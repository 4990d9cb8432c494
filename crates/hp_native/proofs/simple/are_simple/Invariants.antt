use Rattle.std.proofs.Common.{◌≡◌, drop}
use Rattle.hp_native.specs.Natively.{are_simple}
use Rattle.hp_native.proofs.simple.are_simple.Given as goal

abbrev pub invariant-loop-var : goal.invariant-loop-var
invariant-loop-var l = are_simple (drop l.var-index l.vars) ≡ are_simple l.vars
