-- What steps are seen as: one level, whose inner steps are seen already.
use Rattle.std.specs.Prelude.{ℕ, ◌+◌, map}
use Rattle.hp_base.specs.declared.ty.Const.{Const}
use Rattle.hp_obctext.specs.declared.steps.Step.{Step}
use Rattle.hp_obctext.specs.declared.steps.Step.TheVariants.{Set, Call, Restart, Case}
use Rattle.hp_obctext.specs.declared.steps.Branch.{Branch}
use Rattle.hp_obctext.specs.declared.steps.Steps.TheInside.{Inside}
use Rattle.hp_obctext.specs.Files as file
use Rattle.hp_obctext.specs.Files.{steps_of, branches_of}

abbrev pub branch_seen : Branch → Const × file.Steps
branch_seen b = (b.label, b.steps)

abbrev pub step_seen : Step → file.Step
step_seen (Set x op args) = file.set x op args.items
step_seen (Call i outs args) = file.call i outs.items args.items
step_seen (Restart i) = file.restart i
step_seen (Case x bs) = file.case_of x (branches_of (map branch_seen bs.items))

abbrev pub steps_seen : Inside → file.Steps
steps_seen a = steps_of (map step_seen a.list.items)

-- how many steps and lists of steps there are in some steps, themselves counted
abbrev mutual
  pub size_of_steps : file.Steps → ℕ
  size_of_steps file.done = 1
  size_of_steps (file.and_then s ss) = size_of_step s + size_of_steps ss

  pub size_of_step : file.Step → ℕ
  size_of_step (file.set x op args) = 1
  size_of_step (file.call i outs args) = 1
  size_of_step (file.restart i) = 1
  size_of_step (file.case_of x bs) = size_of_branches bs + 1

  pub size_of_branches : file.Branches → ℕ
  size_of_branches file.no_branch = 0
  size_of_branches (file.more_branches c ss bs) = size_of_steps ss + size_of_branches bs
