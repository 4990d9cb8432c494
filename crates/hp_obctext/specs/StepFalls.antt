-- The steps of an arm are fewer than those around it.
use Rattle.std.specs.Prelude.{◌+◌, ◌≤◌, List, [], ◌∷◌, map}
use Rattle.std.proofs.Common.{arith}
use denote.Param.Weighed.{most}
use Rattle.hp_obctext.specs.declared.steps.Step.{Step}
use Rattle.hp_obctext.specs.declared.steps.Step.TheVariants.{Set, Call, Restart, Case}
use Rattle.hp_obctext.specs.declared.steps.Branch.{Branch}
use Rattle.hp_obctext.specs.declared.steps.Steps.TheInside.{Inside}
use Rattle.hp_obctext.specs.declared.steps.Steps.TheDeep.{deep-Steps, deep-Step, deep-Branch}
use Rattle.hp_obctext.specs.StepView.{steps_seen, step_seen, branch_seen, size_of_steps, size_of_step, size_of_branches}
use Rattle.hp_obctext.specs.Files.{steps_of, branches_of}

most_of_branches : (bs : List Branch) → most deep-Branch bs ≤ size_of_branches (branches_of (map branch_seen bs)) + 1
most_of_branches [] = omega arith
most_of_branches (b ∷ bs) = omega (arith, most_of_branches bs)

step_smaller : (s : Step) → deep-Step s ≤ size_of_step (step_seen s)
step_smaller (Set x op args) = omega arith
step_smaller (Call i outs args) = omega arith
step_smaller (Restart i) = omega arith
step_smaller (Case x bs) = omega (arith, most_of_branches bs.items)

most_of_steps : (ss : List Step) → most deep-Step ss ≤ size_of_steps (steps_of (map step_seen ss))
most_of_steps [] = omega arith
most_of_steps (s ∷ ss) = omega (arith, step_smaller s, most_of_steps ss)

pub steps_smaller : (a : Inside) → deep-Steps a ≤ size_of_steps (steps_seen a)
steps_smaller a = omega (arith, most_of_steps a.list.items)
