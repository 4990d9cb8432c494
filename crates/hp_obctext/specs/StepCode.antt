-- Steps are coded as binary trees, from which they are read back.
use Rattle.std.specs.Prelude.{◌≡◌, ℕ, List, [], ◌⊎◌}
use Rattle.std.specs.Coded.{Coded, code_by, coded×, coded⊎, coded_ℕ, coded_list}
use Rattle.std.proofs.Common.{refl, ap, inl, inr}
use Rattle.hp_base.specs.Coding.{Coding, leaf, fork, coded_coding}
use Rattle.hp_base.specs.declared.ty.Const.{Const}
use Rattle.hp_base.specs.declared.ty.Const.TheVariants as constant
use Rattle.hp_base.specs.contracts.ty.Const as the_const
use Rattle.hp_obc.specs.declared.command.Arg.{Arg}
use Rattle.hp_obc.specs.contracts.command.Arg as arg
use Rattle.hp_obc.specs.declared.command.ObcOp.{ObcOp}
use Rattle.hp_obc.specs.contracts.command.ObcOp as op
use Rattle.hp_obctext.specs.Files.{Steps, Step, Branches, done, and_then, set, call, restart, case_of, no_branch, more_branches}

abbrev pub Bytes : Type 0
Bytes = List ℕ

abbrev pub bytes : Coded Bytes
bytes = coded_list coded_ℕ

abbrev pub args_code : Coded (List Arg)
args_code = coded_list arg.the_row.coded

-- what stands at a place of the tree: nothing, a `set`, a call, the name of a restart or a case, or the value of an arm
abbrev pub Label : Type 0
Label = List ℕ ⊎ ((Bytes × (ObcOp × List Arg)) ⊎ ((Bytes × (List Bytes × List Arg)) ⊎ (Bytes ⊎ (Bytes ⊎ Const))))

abbrev pub label_code : Coded Label
label_code =
    coded⊎ bytes (coded⊎ (coded× bytes (coded× op.the_row.coded args_code)) (coded⊎ (coded× bytes (coded× (coded_list bytes) args_code)) (coded⊎ bytes (coded⊎ bytes the_const.the_row.coded))))

abbrev pub T : Type 0
T = Coding Label

abbrev mutual
  pub to_steps : Steps → T
  to_steps done = leaf
  to_steps (and_then s ss) = fork (inl []) (to_step s) (to_steps ss)

  pub to_step : Step → T
  to_step (set x op args) = fork (inr (inl (x, (op, args)))) leaf leaf
  to_step (call i outs args) = fork (inr (inr (inl (i, (outs, args))))) leaf leaf
  to_step (restart i) = fork (inr (inr (inr (inl i)))) leaf leaf
  to_step (case_of x bs) = fork (inr (inr (inr (inr (inl x))))) (to_branches bs) leaf

  pub to_branches : Branches → T
  to_branches no_branch = leaf
  to_branches (more_branches c ss bs) = fork (inr (inr (inr (inr (inr c))))) (to_steps ss) (to_branches bs)

-- the value of an arm at a place
abbrev pub value_at : Label → Const
value_at (inr (inr (inr (inr (inr c))))) = c
value_at label = constant.E []

abbrev mutual
  pub from_steps : T → Steps
  from_steps leaf = done
  from_steps (fork m l r) = and_then (from_step l) (from_steps r)

  pub from_step : T → Step
  from_step leaf = restart []
  from_step (fork (inl m) l r) = restart []
  from_step (fork (inr (inl (x, (op, args)))) l r) = set x op args
  from_step (fork (inr (inr (inl (i, (outs, args))))) l r) = call i outs args
  from_step (fork (inr (inr (inr (inl i)))) l r) = restart i
  from_step (fork (inr (inr (inr (inr (inl x))))) l r) = case_of x (from_branches l)
  from_step (fork (inr (inr (inr (inr (inr c))))) l r) = restart []

  pub from_branches : T → Branches
  from_branches leaf = no_branch
  from_branches (fork m l r) = more_branches (value_at m) (from_steps l) (from_branches r)

mutual
  pub steps_back : (ss : Steps) → from_steps (to_steps ss) ≡ ss
  steps_back done = refl
  steps_back (and_then s ss) = λ i. and_then (step_back s i) (steps_back ss i)

  step_back : (s : Step) → from_step (to_step s) ≡ s
  step_back (set x op args) = refl
  step_back (call i outs args) = refl
  step_back (restart i) = refl
  step_back (case_of x bs) = ap (case_of x) (branches_back bs)

  branches_back : (bs : Branches) → from_branches (to_branches bs) ≡ bs
  branches_back no_branch = refl
  branches_back (more_branches c ss bs) = λ i. more_branches c (steps_back ss i) (branches_back bs i)

abbrev pub steps_code : Coded Steps
steps_code = code_by T (coded_coding label_code) to_steps from_steps steps_back
