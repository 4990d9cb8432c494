-- Lists of steps and of arms, converted one by one.
use Rattle.std.proofs.Common.{◌≡◌, List, [], ◌∷◌, map, refl, ap}
use Rattle.std.proofs.lemmas.List.{map_more}
use Rattle.hp_obc.specs.Commands.{cmds_of, arms_of, and_then, more_arms}
use Rattle.hp_obctext.specs.declared.steps.Step.{Step}
use Rattle.hp_obctext.specs.declared.steps.Branch.{Branch}
use Rattle.hp_obctext.specs.Files.{steps_of, branches_of}
use Rattle.hp_obctext.specs.Machines.{command, commands, arms}
use Rattle.hp_obctext.specs.StepView.{step_seen, branch_seen}
use Rattle.hp_obctext.proofs.CheckLaws.{size-at_step, size-at_branch}

pub commands-of : (ss : List Step) → cmds_of (map (λ (s : Step). command (step_seen s)) ss) ≡ commands (steps_of (map step_seen ss))
commands-of [] = refl
commands-of (s ∷ ss) = ap (and_then (command (step_seen s))) (commands-of ss)

pub arms-of : (bs : List Branch) → arms_of (map (λ (b : Branch). commands b.steps) bs) ≡ arms (branches_of (map branch_seen bs))
arms-of [] = refl
arms-of (b ∷ bs) = ap (more_arms (commands b.steps)) (arms-of bs)

pub ruleset converting = (commands-of, arms-of, size-at_step, size-at_branch, map_more)
