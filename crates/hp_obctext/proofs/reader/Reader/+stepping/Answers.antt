use Rattle.hp_obctext.proofs.StepRounds.{branch_strict, step_strict}
use Rattle.hp_obctext.specs.StepView.{step_seen, branch_seen}
use Rattle.std.proofs.Common.{◌-◌}
use Rattle.hp_obctext.proofs.reader.Reader.+stepping.Goals as goal

pub branches-loop-branches-smaller : goal.branches-loop-branches-smaller
branches-loop-branches-smaller t c = branch_strict c.args.deep c.loop-branches.self (branch_seen c.in_ok-branch.field-0) c.branch-self.new.self c.in_ok-branch.ensures

pub steps-loop-list-smaller : goal.steps-loop-list-smaller
steps-loop-list-smaller t c = step_strict (c.args.deep - 1) c.loop-list.self (step_seen c.in_ok-step.field-0) c.step.new.self c.in_ok-step.ensures
