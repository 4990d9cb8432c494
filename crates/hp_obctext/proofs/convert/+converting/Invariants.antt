use Rattle.std.proofs.Common.{◌≡◌, ◌+◌, ◌*◌, map, take}
use Rattle.hp_obc.specs.CommandView.{cmd_seen}
use Rattle.hp_obctext.specs.declared.steps.Step.{Step}
use Rattle.hp_obctext.specs.declared.steps.Branch.{Branch}
use Rattle.hp_obctext.specs.Files.{branches_of}
use Rattle.hp_obctext.specs.Machines.{command, commands}
use Rattle.hp_obctext.specs.StepView.{step_seen, branch_seen, size_of_steps, size_of_step, size_of_branches}
use Rattle.hp_obctext.proofs.convert.+converting.Given as goal

abbrev pub decreases-command : goal.decreases-command
decreases-command l = 2 * size_of_step (step_seen l.step.now)

abbrev pub decreases-arms : goal.decreases-arms
decreases-arms l = 2 * size_of_branches (branches_of (map branch_seen l.branches.now)) + 1

abbrev pub decreases-commands : goal.decreases-commands
decreases-commands l = 2 * size_of_steps l.steps.now

abbrev pub invariant-arms-loop-branch : goal.invariant-arms-loop-branch
invariant-arms-loop-branch l = l.arms.items ≡ map (λ (b : Branch). commands b.steps) (take l.branch-index l.branches)

abbrev pub invariant-commands-loop-step : goal.invariant-commands-loop-step
invariant-commands-loop-step l = map cmd_seen l.list.items ≡ map (λ (s : Step). command (step_seen s)) (take l.step-index l.step-items)
