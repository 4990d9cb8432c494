use Rattle.std.proofs.Common.{ap, ◌∙◌, map}
use Rattle.std.proofs.lemmas.List.{take_all}
use Rattle.hp_obc.specs.Commands.{cmds_of, arms_of}
use Rattle.hp_obctext.specs.declared.steps.Step.{Step}
use Rattle.hp_obctext.specs.declared.steps.Branch.{Branch}
use Rattle.hp_obctext.specs.Machines.{command, commands}
use Rattle.hp_obctext.specs.StepView.{step_seen}
use Rattle.hp_obctext.proofs.Converting.{commands-of, arms-of}
use Rattle.hp_obctext.proofs.convert.+converting.Goals as goal

pub arms-returns : goal.arms-returns
arms-returns t c =
    ap arms_of (c.loop-branch.invariant ∙ ap (map (λ (b : Branch). commands b.steps)) (take_all c.loop-branch.branch-index c.args.branches.now c.loop-branch-test.false))
    ∙ arms-of c.args.branches.now

pub commands-returns : goal.commands-returns
commands-returns t c =
    ap cmds_of (c.loop-step.invariant
    ∙ ap (map (λ (s : Step). command (step_seen s))) (take_all c.loop-step.step-index c.deref-step-items.result.now c.loop-step-test.false ∙ c.deref-step-items.ensures.value))
    ∙ commands-of c.steps.inside.list.items ∙ ap commands c.steps.view_is
