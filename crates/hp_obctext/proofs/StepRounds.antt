-- Steps and machines, round by round.
use Rattle.std.proofs.Common.{◌≡◌, ◌≢◌, ℕ, zero, suc, ◌-◌, ◌<◌, Bool, true, false, if◌then◌else◌, List, [], ◌∷◌, ◌++◌, length, map, codes, refl, ap, arith}
use Rattle.hp_base.specs.declared.ty.Const.{Const}
use Rattle.hp_obc.specs.declared.command.ObcOp.TheVariants.{Copy}
use Rattle.hp_obctext.specs.declared.steps.Step.{Step}
use Rattle.hp_obctext.specs.declared.steps.Branch.{Branch}
use Rattle.hp_obctext.specs.Files as file
use Rattle.hp_obctext.specs.Files.{Steps, steps_of}
use Rattle.hp_obctext.specs.StepView.{step_seen, branch_seen}
use Rattle.hp_obctext.specs.Outcomes.{Words, done, refused, ◌>>=◌}
use Rattle.hp_obctext.specs.Spelling.{this, name_of, label_of, op_of}
use Rattle.hp_obctext.specs.Reading.{Reader, one, fixed, many, is_ahead, is_this, is_op, section, var, mem, inst, names, args, arity, args_behind, op_or_copy, assignment, call_step, reset_step, branch, branches, case_step, step, begins_step, steps, steps_within, machine}
use Rattle.hp_obctext.proofs.Rounds.{Below, below_done, Strict, Falls, then_falls, one_strict, one_falls, many_end, many_pushed, many_added, many_refused, many_falls}
use Rattle.hp_obctext.proofs.ListRounds.{vars_fall, mems_fall, insts_fall, names_fall, args_fall, args_behind_fall}

op_falls : Falls op_or_copy
op_falls ws n h = by (is_ahead is_op ws)
  where
    by : (d : Bool) → Below n (if d then one op_of ws else done Copy ws)
    by true = one_falls op_of ws n h
    by false = h

assignment_strict : Strict assignment
assignment_strict ws =
    then_falls (fixed (codes "set") ws) _ (length ws) (one_strict (this (codes "set")) ws) (λ u r k. then_falls (one name_of r) _ (length ws) (one_falls name_of r (length ws) k)
    (λ x s k. then_falls (op_or_copy s) _ (length ws) (op_falls s (length ws) k) (λ op v k. then_falls (args_behind (arity op) [] v) _ (length ws) (args_behind_fall (arity op) [] v (length ws) k) (λ xs w k. k))))

call_strict : Strict call_step
call_strict ws =
    let n = length ws in
    then_falls (fixed (codes "call") ws) _ n (one_strict (this (codes "call")) ws) (λ u r k. then_falls (one name_of r) _ n (one_falls name_of r n k)
    (λ x s k. then_falls (fixed (codes "(") s) _ n (one_falls (this (codes "(")) s n k) (λ u v k. then_falls (names v) _ n (names_fall v n k)
    (λ outs w k. then_falls (fixed (codes ")") w) _ n (one_falls (this (codes ")")) w n k) (λ u y k. then_falls (fixed (codes "(") y) _ n (one_falls (this (codes "(")) y n k)
    (λ u z k. then_falls (args z) _ n (args_fall z n k) (λ xs q k. then_falls (fixed (codes ")") q) _ n (one_falls (this (codes ")")) q n k) (λ u p k. k))))))))

reset_strict : Strict reset_step
reset_strict ws =
    then_falls (fixed (codes "reset") ws) _ (length ws) (one_strict (this (codes "reset")) ws) (λ u r k. then_falls (one name_of r) _ (length ws) (one_falls name_of r (length ws) k) (λ x s k. k))

module _ (inner : Reader Steps) (falls : Falls inner) where
  pub branch_next : Strict (branch inner)
  branch_next ws =
      then_falls (fixed (codes "|") ws) _ (length ws) (one_strict (this (codes "|")) ws) (λ u r k. then_falls (one label_of r) _ (length ws) (one_falls label_of r (length ws) k)
      (λ c s k. then_falls (inner s) _ (length ws) (falls s (length ws) k) (λ ss v k. k)))

  case_strict : Strict (case_step inner)
  case_strict ws =
      then_falls (fixed (codes "case") ws) _ (length ws) (one_strict (this (codes "case")) ws) (λ u r k. then_falls (one name_of r) _ (length ws) (one_falls name_of r (length ws) k)
      (λ x s k. then_falls (branches inner s) _ (length ws) (many_falls (is_this (codes "|")) (branch inner) branch_next [] s (length ws) k)
      (λ bs v k. then_falls (fixed (codes "end") v) _ (length ws) (one_falls (this (codes "end")) v (length ws) k) (λ u w k. k))))

  pub step_next : Strict (step inner)
  step_next ws = by (is_ahead (is_this (codes "set")) ws) (is_ahead (is_this (codes "call")) ws) (is_ahead (is_this (codes "reset")) ws)
    where
      by : (a b c : Bool) → Below (length ws) (if a then assignment ws else (if b then call_step ws else (if c then reset_step ws else case_step inner ws)))
      by true b c = assignment_strict ws
      by false true c = call_strict ws
      by false false true = reset_strict ws
      by false false false = case_strict ws

pub steps_fall : (deep : ℕ) → Falls (steps_within deep)
unfolding steps_within
steps_fall zero ws n h = h
steps_fall (suc deep) ws n h =
    then_falls (many begins_step (step (steps deep)) [] ws) (λ ss. done (steps_of ss.0) ss.1) n (many_falls begins_step (step (steps deep)) (step_next (steps deep) (steps_fall deep)) [] ws n h) (λ ss rest k. k)

pub steps_none : (deep : ℕ) (ws : Words) → deep ≡ 0 → steps_within deep ws ≡ done file.done ws
unfolding steps_within
steps_none deep ws h = ap (λ d. steps d ws) h

pub steps_begin : (deep : ℕ) (ws : Words) → deep ≢ 0 → steps_within deep ws ≡ (many begins_step (step (steps_within (deep - 1))) [] ws >>= λ ss. done (steps_of ss.0) ss.1)
unfolding steps_within
steps_begin zero ws h = absurd (h refl)
steps_begin (suc deep) ws h = let less : deep ≡ suc deep - 1 = omega arith in ap (λ d. many begins_step (step (steps d)) [] ws >>= λ ss. done (steps_of ss.0) ss.1) less

pub branch_strict : (deep : ℕ) (ws : Words) (b : Const × Steps) (rest : Words) → branch (steps_within deep) ws ≡ done b rest → length rest < length ws
branch_strict deep ws b rest e = below_done (length ws) (branch (steps_within deep) ws) b rest (branch_next (steps_within deep) (steps_fall deep) ws) e

pub step_strict : (deep : ℕ) (ws : Words) (s : file.Step) (rest : Words) → step (steps_within deep) ws ≡ done s rest → length rest < length ws
step_strict deep ws s rest e = below_done (length ws) (step (steps_within deep) ws) s rest (step_next (steps_within deep) (steps_fall deep) ws) e

pub branches_end : (deep : ℕ) (items : List (Const × Steps)) (ws : Words) → is_ahead (is_this (codes "|")) ws ≡ false → many (is_this (codes "|")) (branch (steps_within deep)) items ws ≡ done items ws
branches_end deep = many_end (is_this (codes "|")) (branch (steps_within deep)) (branch_next (steps_within deep) (steps_fall deep))

pub branches_pushed : (deep : ℕ) (xs : List Branch) (x : Branch) (ws rest : Words) → is_ahead (is_this (codes "|")) ws ≡ true → (branch (steps_within deep)) ws ≡ done (branch_seen x) rest → many (is_this (codes "|")) (branch (steps_within deep)) (map branch_seen (xs ++ x ∷ [])) rest ≡ many (is_this (codes "|")) (branch (steps_within deep)) (map branch_seen xs) ws
branches_pushed deep = many_pushed (is_this (codes "|")) (branch (steps_within deep)) (branch_next (steps_within deep) (steps_fall deep)) branch_seen

pub branches_refused : (deep : ℕ) (items : List (Const × Steps)) (ws rest : Words) → is_ahead (is_this (codes "|")) ws ≡ true → (branch (steps_within deep)) ws ≡ refused rest → many (is_this (codes "|")) (branch (steps_within deep)) items ws ≡ refused rest
branches_refused deep = many_refused (is_this (codes "|")) (branch (steps_within deep)) (branch_next (steps_within deep) (steps_fall deep))

pub steps_end : (deep : ℕ) (items : List file.Step) (ws : Words) → is_ahead begins_step ws ≡ false → many begins_step (step (steps_within deep)) items ws ≡ done items ws
steps_end deep = many_end begins_step (step (steps_within deep)) (step_next (steps_within deep) (steps_fall deep))

pub steps_pushed : (deep : ℕ) (xs : List Step) (x : Step) (ws rest : Words) → is_ahead begins_step ws ≡ true → (step (steps_within deep)) ws ≡ done (step_seen x) rest → many begins_step (step (steps_within deep)) (map step_seen (xs ++ x ∷ [])) rest ≡ many begins_step (step (steps_within deep)) (map step_seen xs) ws
steps_pushed deep = many_pushed begins_step (step (steps_within deep)) (step_next (steps_within deep) (steps_fall deep)) step_seen

pub steps_refused : (deep : ℕ) (items : List file.Step) (ws rest : Words) → is_ahead begins_step ws ≡ true → (step (steps_within deep)) ws ≡ refused rest → many begins_step (step (steps_within deep)) items ws ≡ refused rest
steps_refused deep = many_refused begins_step (step (steps_within deep)) (step_next (steps_within deep) (steps_fall deep))

pub machine_next : Strict machine
machine_next ws =
    let n = length ws in
    then_falls (fixed (codes "machine") ws) _ n (one_strict (this (codes "machine")) ws) (λ u r k. then_falls (one name_of r) _ n (one_falls name_of r n k)
    (λ x s k. then_falls (section (codes "in") var s) _ n (vars_fall (codes "in") s n k) (λ a v k. then_falls (section (codes "out") var v) _ n (vars_fall (codes "out") v n k)
    (λ b w k. then_falls (section (codes "var") var w) _ n (vars_fall (codes "var") w n k) (λ c y k. then_falls (section (codes "mem") mem y) _ n (mems_fall y n k)
    (λ d z k. then_falls (section (codes "inst") inst z) _ n (insts_fall z n k) (λ e q k. then_falls (fixed (codes "step") q) _ n (one_falls (this (codes "step")) q n k)
    (λ u p k. then_falls (steps_within 301 p) _ n (steps_fall 301 p n k) (λ ss o k. then_falls (fixed (codes "end") o) _ n (one_falls (this (codes "end")) o n k) (λ u m k. k))))))))))

pub machine_strict : (ws : Words) (m : file.Text) (rest : Words) → machine ws ≡ done m rest → length rest < length ws
machine_strict ws m rest e = below_done (length ws) (machine ws) m rest (machine_next ws) e

pub machines_end : (items : List file.Text) (ws : Words) → is_ahead (is_this (codes "machine")) ws ≡ false → many (is_this (codes "machine")) machine items ws ≡ done items ws
machines_end = many_end (is_this (codes "machine")) machine machine_next

pub machines_pushed : (xs : List file.Text) (x : file.Text) (ws rest : Words) → is_ahead (is_this (codes "machine")) ws ≡ true → machine ws ≡ done x rest → many (is_this (codes "machine")) machine (xs ++ x ∷ []) rest ≡ many (is_this (codes "machine")) machine xs ws
machines_pushed = many_added (is_this (codes "machine")) machine machine_next

pub machines_refused : (items : List file.Text) (ws rest : Words) → is_ahead (is_this (codes "machine")) ws ≡ true → machine ws ≡ refused rest → many (is_this (codes "machine")) machine items ws ≡ refused rest
machines_refused = many_refused (is_this (codes "machine")) machine machine_next
