use Rattle.std.proofs.Common.{◌≡◌, ◌+◌, ◌*◌, map, drop}
use Rattle.hp_obctext.specs.Breaches.{after}
use Rattle.hp_obctext.specs.Files.{steps_of, branches_of}
use Rattle.hp_obctext.specs.Found.{labels_seen}
use Rattle.hp_obctext.specs.NamesView.{names_seen}
use Rattle.hp_obctext.specs.Rules.{in_steps, in_branches}
use Rattle.hp_obctext.specs.StepView.{step_seen, branch_seen, size_of_steps, size_of_step, size_of_branches}
use Rattle.hp_obctext.proofs.check_steps.+checking.Given as goal

abbrev pub decreases-check_step : goal.decreases-check_step
decreases-check_step l = 2 * size_of_step (step_seen l.step.now)

abbrev pub decreases-check_branches : goal.decreases-check_branches
decreases-check_branches l = 2 * size_of_branches (branches_of (map branch_seen l.branches.now)) + 1

abbrev pub decreases-check_steps : goal.decreases-check_steps
decreases-check_steps l = 2 * size_of_steps l.steps.now

abbrev pub invariant-check_branches-loop-i : goal.invariant-check_branches-loop-i
invariant-check_branches-loop-i l =
    after l.found (in_branches (names_seen l.names) (drop l.i (labels_seen l.labels)) (branches_of (map branch_seen (drop l.i l.branches))))
    ≡ after l.initial.found (in_branches (names_seen l.names) (labels_seen l.labels) (branches_of (map branch_seen l.branches)))

abbrev pub invariant-check_steps-loop-step : goal.invariant-check_steps-loop-step
invariant-check_steps-loop-step l =
    after l.found (in_steps (names_seen l.names) (steps_of (map step_seen (drop l.step-index l.step-items)))) ≡ after l.initial.found (in_steps (names_seen l.names) (steps_of (map step_seen l.step-items)))
