use Rattle.std.proofs.Common.{◌≡◌, map, take}
use Rattle.hp_flat.specs.declared.equation.Atom.TheVariants.{Variable as Read}
use Rattle.hp_controller.proofs.steps.reads.Given as goal

abbrev pub invariant-loop-variable : goal.invariant-loop-variable
invariant-loop-variable l = l.args.items ≡ map (λ x. Read x) (take l.variable-index l.variables)
