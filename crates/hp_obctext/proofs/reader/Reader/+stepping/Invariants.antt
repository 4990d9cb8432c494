use Rattle.std.proofs.Common.{◌≡◌, ◌+◌, ◌-◌, ◌*◌, [], map, codes, length}
use Rattle.hp_obctext.specs.Reading.{many, is_this, begins_step, branch, step, steps_within}
use Rattle.hp_obctext.specs.StepView.{step_seen, branch_seen}
use Rattle.hp_obctext.proofs.reader.Reader.+stepping.Given as goal

abbrev pub decreases-branch : goal.decreases-branch
decreases-branch l = 5 * l.deep + 1

abbrev pub decreases-branches : goal.decreases-branches
decreases-branches l = 5 * l.deep + 2

abbrev pub decreases-case_step : goal.decreases-case_step
decreases-case_step l = 5 * l.deep + 3

abbrev pub decreases-step : goal.decreases-step
decreases-step l = 5 * l.deep + 4

abbrev pub decreases-steps : goal.decreases-steps
decreases-steps l = 5 * l.deep

abbrev pub invariant-branches-loop-branches : goal.invariant-branches-loop-branches
invariant-branches-loop-branches l =
    many (is_this (codes "|")) (branch (steps_within l.deep)) (map branch_seen l.branches.items) l.self ≡ many (is_this (codes "|")) (branch (steps_within l.deep)) [] l.fn.self

abbrev pub decreases-branches-loop-branches : goal.decreases-branches-loop-branches
decreases-branches-loop-branches l = length l.self

abbrev pub invariant-steps-loop-list : goal.invariant-steps-loop-list
invariant-steps-loop-list l =
    many begins_step (step (steps_within (l.deep - 1))) (map step_seen l.list.items) l.self ≡ many begins_step (step (steps_within (l.deep - 1))) [] l.fn.self

abbrev pub decreases-steps-loop-list : goal.decreases-steps-loop-list
decreases-steps-loop-list l = length l.self
