use Rattle.std.proofs.Common.{◌≡◌, take}
use Rattle.hp_machines.specs.Machined.{vars_of}
use Rattle.hp_controlled.proofs.heading.are_vars.Given as goal

abbrev pub invariant-loop-i : goal.invariant-loop-i
invariant-loop-i l = take l.i l.vars ≡ take l.i (vars_of l.decls)
