-- Commands are coded as binary trees, from which they are read back.
use Rattle.std.specs.Prelude.{◌≡◌, ℕ, List, [], ◌⊎◌}
use Rattle.std.specs.Coded.{Coded, code_by, coded×, coded⊎, coded_ℕ, coded_list}
use Rattle.std.proofs.Common.{refl, ap, inl, inr}
use Rattle.hp_base.specs.Coding.{Coding, leaf, fork, coded_coding}
use Rattle.hp_obc.specs.declared.command.Arg.{Arg}
use Rattle.hp_obc.specs.contracts.command.Arg as arg
use Rattle.hp_obc.specs.declared.command.ObcOp.{ObcOp}
use Rattle.hp_obc.specs.contracts.command.ObcOp as op
use Rattle.hp_obc.specs.Commands.{Cmds, Cmd, Arms, done, and_then, set, call, restart, case_of, no_arm, more_arms}

abbrev Bytes : Type 0
Bytes = List ℕ

abbrev bytes : Coded Bytes
bytes = coded_list coded_ℕ

abbrev args_code : Coded (List Arg)
args_code = coded_list arg.the_row.coded

-- what stands at a place of the tree: nothing, a `set`, a call, or the name of a restart or a case
abbrev Label : Type 0
Label = List ℕ ⊎ ((Bytes × (ObcOp × List Arg)) ⊎ ((Bytes × (List Bytes × List Arg)) ⊎ (Bytes ⊎ Bytes)))

abbrev label_code : Coded Label
label_code = coded⊎ bytes (coded⊎ (coded× bytes (coded× op.the_row.coded args_code)) (coded⊎ (coded× bytes (coded× (coded_list bytes) args_code)) (coded⊎ bytes bytes)))

abbrev T : Type 0
T = Coding Label

abbrev mutual
  to_cmds : Cmds → T
  to_cmds done = leaf
  to_cmds (and_then c cs) = fork (inl []) (to_cmd c) (to_cmds cs)

  to_cmd : Cmd → T
  to_cmd (set x op args) = fork (inr (inl (x, (op, args)))) leaf leaf
  to_cmd (call i outs args) = fork (inr (inr (inl (i, (outs, args))))) leaf leaf
  to_cmd (restart i) = fork (inr (inr (inr (inl i)))) leaf leaf
  to_cmd (case_of x arms) = fork (inr (inr (inr (inr x)))) (to_arms arms) leaf

  to_arms : Arms → T
  to_arms no_arm = leaf
  to_arms (more_arms cs arms) = fork (inl []) (to_cmds cs) (to_arms arms)

abbrev mutual
  from_cmds : T → Cmds
  from_cmds leaf = done
  from_cmds (fork m l r) = and_then (from_cmd l) (from_cmds r)

  from_cmd : T → Cmd
  from_cmd leaf = restart []
  from_cmd (fork (inl m) l r) = restart []
  from_cmd (fork (inr (inl (x, (op, args)))) l r) = set x op args
  from_cmd (fork (inr (inr (inl (i, (outs, args))))) l r) = call i outs args
  from_cmd (fork (inr (inr (inr (inl i)))) l r) = restart i
  from_cmd (fork (inr (inr (inr (inr x)))) l r) = case_of x (from_arms l)

  from_arms : T → Arms
  from_arms leaf = no_arm
  from_arms (fork m l r) = more_arms (from_cmds l) (from_arms r)

mutual
  pub cmds_back : (cs : Cmds) → from_cmds (to_cmds cs) ≡ cs
  cmds_back done = refl
  cmds_back (and_then c cs) = λ i. and_then (cmd_back c i) (cmds_back cs i)

  cmd_back : (c : Cmd) → from_cmd (to_cmd c) ≡ c
  cmd_back (set x op args) = refl
  cmd_back (call i outs args) = refl
  cmd_back (restart i) = refl
  cmd_back (case_of x arms) = ap (case_of x) (arms_back arms)

  arms_back : (arms : Arms) → from_arms (to_arms arms) ≡ arms
  arms_back no_arm = refl
  arms_back (more_arms cs arms) = λ i. more_arms (cmds_back cs i) (arms_back arms i)

abbrev pub cmds_code : Coded Cmds
cmds_code = code_by T (coded_coding label_code) to_cmds from_cmds cmds_back
