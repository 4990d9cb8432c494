-- Steps are read as what their words spell.
use Rattle.std.proofs.Common.{◌≡◌, ◌≤◌, ℕ, zero, suc, Bool, true, false, not, if◌then◌else◌, List, [], ◌∷◌, ◌++◌, length, map, codes, None, Some, is_some, refl, sym, ap, subst, ◌∙◌, append_assoc, append-nil, arith}
use Rattle.hp_base.specs.declared.ty.Const.{Const}
use Rattle.hp_obc.specs.declared.command.Arg.{Arg}
use Rattle.hp_obc.specs.declared.command.ObcOp.{ObcOp}
use Rattle.hp_obc.specs.declared.command.ObcOp.TheVariants.{Copy, Not, Neg, Mux, And, Or, Xor, Imp, Eq, Ne, Lt, Le, Gt, Ge, Add, Sub, Mul, Div, Rem}
use Rattle.hp_obc.specs.Form.{depth, depth_of_one, depth_of_arms}
use Rattle.hp_obctext.specs.Files as file
use Rattle.hp_obctext.specs.Files.{Steps, Step, Branches, and_then, set, call, restart, case_of, no_branch, more_branches, steps_of, branches_of, const_word, arg_word, each, op_words, set_words, call_words, steps_words, step_words, branches_words}
use Rattle.hp_obctext.specs.Machines.{commands, command, arms}
use Rattle.hp_obctext.specs.Outcomes.{Words, done, refused, ◌>>=◌}
use Rattle.hp_obctext.specs.Reading.{Reader, one, is_ahead, is_this, is_open, arity, args_behind, op_or_copy, assignment, names, args, call_step, reset_step, branch, branches, case_step, step, begins_step, steps, steps_within}
use Rattle.hp_obctext.specs.Shapes.{Each, IsLabel, AreStepTexts, IsStepText, AreBranchTexts}
use Rattle.hp_obctext.specs.Spelling.{name_of, label_of, arg_of, op_of}
use Rattle.hp_obctext.specs.Spells.{Takes}
use Rattle.hp_obctext.specs.Words.{Word, leading, fixed as plain, small}
use Rattle.hp_obctext.proofs.Complete.{Gets, others, Anything, word_then, plain_then, leading_then, then_by, word_gets, Without, ahead_plain, ahead_leading, ahead_other, this_ahead, Starts, many_gets}
use Rattle.hp_obctext.proofs.CompleteWords.{name_means, label_means, arg_means, arg_no_op}
use Rattle.hp_obctext.proofs.Rounds.{Falls, one_strict}
use Rattle.hp_obctext.proofs.Sound.{arm_words, arms_are, steps_are, each-map}
use Rattle.hp_obctext.proofs.StepRounds.{branch_next, step_next, steps_fall}

-- ---- operators and their arguments

-- What is read in front, and what stands behind it.
record Reads (A : Type 0) (read : Reader A) (us : Words) (a : A) (ws : List Word) (rest : Words) : Type 0 where
  behind : Words
  is : read us ≡ done a behind
  goes_on : Takes behind ws rest

op_by : (op : ObcOp) (word : List ℕ) → op_of word ≡ Some op → (us : Words) (ws : List Word) (rest : Words) → Takes us (plain word ∷ ws) rest → Reads ObcOp op_or_copy us op ws rest
op_by op word e [] ws rest h = absurd h
op_by op word e (u ∷ us) ws rest h =
    record {
      behind = us;
      is = ap (λ w. op_or_copy (w ∷ us)) h.0 ∙ ap (λ o. if is_some o then elim o [ Some a ↦ done a us | None ↦ refused (word ∷ us) ] else done Copy (word ∷ us)) e;
      goes_on = h.1;
    }

copy_by : (a : Arg) (us : Words) (ws : List Word) (rest : Words) → Takes us (arg_word a ∷ ws) rest → Reads ObcOp op_or_copy us Copy (arg_word a ∷ ws) rest
copy_by a [] ws rest h = absurd h
copy_by a (u ∷ us) ws rest h =
    record { behind = u ∷ us; is = ap (λ o. if is_some o then one op_of (u ∷ us) else done Copy (u ∷ us)) (arg_no_op u a (arg_means a u h.0)); goes_on = h }

op_reads : (op : ObcOp) (args : List Arg) (us rest : Words) → length args ≡ arity op → Takes us (op_words op ++ map arg_word args) rest → Reads ObcOp op_or_copy us op (map arg_word args) rest
op_reads Copy [] us rest e h = absurd (omega (arith, e))
op_reads Copy (a ∷ args) us rest e h = copy_by a us (map arg_word args) rest h
op_reads Not args us rest e h = op_by Not (codes "@not") refl us (map arg_word args) rest h
op_reads Neg args us rest e h = op_by Neg (codes "@neg") refl us (map arg_word args) rest h
op_reads Mux args us rest e h = op_by Mux (codes "@mux") refl us (map arg_word args) rest h
op_reads And args us rest e h = op_by And (codes "@and") refl us (map arg_word args) rest h
op_reads Or args us rest e h = op_by Or (codes "@or") refl us (map arg_word args) rest h
op_reads Xor args us rest e h = op_by Xor (codes "@xor") refl us (map arg_word args) rest h
op_reads Imp args us rest e h = op_by Imp (codes "@imp") refl us (map arg_word args) rest h
op_reads Eq args us rest e h = op_by Eq (codes "@eq") refl us (map arg_word args) rest h
op_reads Ne args us rest e h = op_by Ne (codes "@ne") refl us (map arg_word args) rest h
op_reads Lt args us rest e h = op_by Lt (codes "@lt") refl us (map arg_word args) rest h
op_reads Le args us rest e h = op_by Le (codes "@le") refl us (map arg_word args) rest h
op_reads Gt args us rest e h = op_by Gt (codes "@gt") refl us (map arg_word args) rest h
op_reads Ge args us rest e h = op_by Ge (codes "@ge") refl us (map arg_word args) rest h
op_reads Add args us rest e h = op_by Add (codes "@add") refl us (map arg_word args) rest h
op_reads Sub args us rest e h = op_by Sub (codes "@sub") refl us (map arg_word args) rest h
op_reads Mul args us rest e h = op_by Mul (codes "@mul") refl us (map arg_word args) rest h
op_reads Div args us rest e h = op_by Div (codes "@div") refl us (map arg_word args) rest h
op_reads Rem args us rest e h = op_by Rem (codes "@rem") refl us (map arg_word args) rest h

args_read : (n : ℕ) (args items : List Arg) (us rest : Words) → length args ≡ n → Takes us (map arg_word args) rest → args_behind n items us ≡ done (items ++ args) rest
args_read zero [] items us rest e h = ap (λ ys. done ys us) (sym (append-nil items)) ∙ ap (done (items ++ [])) h
args_read zero (a ∷ args) items us rest e h = absurd (omega (arith, e))
args_read (suc n) [] items us rest e h = absurd (omega (arith, e))
args_read (suc n) (a ∷ args) items us rest e h =
    word_then arg_word arg_of a (arg_means a) us (map arg_word args) rest (λ a. args_behind n (items ++ (a.0 ∷ [])) a.1) (done (items ++ (a ∷ args)) rest) h
    (λ vs k. args_read n args (items ++ (a ∷ [])) vs rest (omega (arith, e)) k ∙ ap (λ ys. done ys rest) (append_assoc items (a ∷ []) args))

set_gets : (x : List ℕ) (op : ObcOp) (xs : List Arg) → length xs ≡ arity op → Gets step_words assignment Anything (set x op xs)
set_gets x op xs e us rest h n =
    leading_then (codes "set") us (small x ∷ (op_words op ++ map arg_word xs)) rest _ (done (set x op xs) rest) h
    (λ vs k. word_then small name_of x (name_means x) vs (op_words op ++ map arg_word xs) rest _ (done (set x op xs) rest) k
    (λ vs k. let r = op_reads op xs vs rest e k in
    ap (λ o. o >>= λ op. args_behind (arity op.0) [] op.1 >>= λ args. done (set x op.0 args.0) args.1) r.is
    ∙ ap (λ o. o >>= λ args. done (set x op args.0) args.1) (args_read (arity op) xs [] r.behind rest e r.goes_on)))

-- ---- calls

names_each : (xs : List (List ℕ)) → Each (Gets (λ x. small x ∷ []) (one name_of) Anything) xs
names_each [] = tt
names_each (x ∷ xs) = (word_gets small name_of x (name_means x), names_each xs)

args_each : (xs : List Arg) → Each (Gets (λ a. arg_word a ∷ []) (one arg_of) Anything) xs
args_each [] = tt
args_each (x ∷ xs) = (word_gets arg_word arg_of x (arg_means x), args_each xs)

open_by : (us : Words) → Without (is_this (codes ")")) us → 1 ≤ length us → is_ahead is_open us ≡ true
open_by [] h k = absurd (omega (arith, k))
open_by (u ∷ us) h k = ap not h

takes_some : (us : Words) (w : Word) (ws : List Word) (rest : Words) → Takes us (w ∷ ws) rest → 1 ≤ length us
takes_some [] w ws rest h = absurd h
takes_some (u ∷ us) w ws rest h = omega arith

names_start : (xs : List (List ℕ)) → Each (Starts (λ x. small x ∷ []) is_open) xs
names_start [] = tt
names_start (x ∷ xs) = (λ us ws rest h. open_by us (ahead_other small name_of x (name_means x) (codes ")") refl us ws rest h) (takes_some us (small x) ws rest h), names_start xs)

args_start : (xs : List Arg) → Each (Starts (λ a. arg_word a ∷ []) is_open) xs
args_start [] = tt
args_start (x ∷ xs) = (λ us ws rest h. open_by us (ahead_other arg_word arg_of x (arg_means x) (codes ")") refl us ws rest h) (takes_some us (arg_word x) ws rest h), args_start xs)

abbrev InFront : Words → Type 0
InFront rest = Unit {0} × Without is_open rest

names_get : (xs : List (List ℕ)) → Gets (map small) names InFront xs
names_get xs us rest h n =
    many_gets (λ x. small x ∷ []) is_open (one name_of) (one_strict name_of) Anything (λ us e. tt) xs (names_each xs) (names_start xs) us rest (subst (λ ts. Takes us ts rest) (sym (each-map small xs)) h) n

args_get : (xs : List Arg) → Gets (map arg_word) args InFront xs
args_get xs us rest h n =
    many_gets (λ a. arg_word a ∷ []) is_open (one arg_of) (one_strict arg_of) Anything (λ us e. tt) xs (args_each xs) (args_start xs) us rest (subst (λ ts. Takes us ts rest) (sym (each-map arg_word xs)) h) n

closed : (us : Words) (ws : List Word) (rest : Words) → Takes us (plain (codes ")") ∷ ws) rest → InFront us
closed us ws rest h = (tt, ahead_plain is_open false (codes ")") refl us ws rest h)

call_gets : (i : List ℕ) (outs : List (List ℕ)) (xs : List Arg) → Gets step_words call_step Anything (call i outs xs)
call_gets i outs xs us rest h n =
    let open_word = plain (codes "(") in
    let close = plain (codes ")") in
    let o = done (call i outs xs) rest in
    let last = map arg_word xs ++ close ∷ [] in
    let more = map small outs ++ (close ∷ open_word ∷ last) in
    leading_then (codes "call") us (small i ∷ open_word ∷ more) rest _ o (subst (λ ts. Takes us ts rest) (in_turn (leading (codes "call")) (small i) open_word close (map small outs) (map arg_word xs)) h)
    (λ vs k. word_then small name_of i (name_means i) vs (open_word ∷ more) rest _ o k
    (λ vs k. plain_then (codes "(") vs more rest _ o k
    (λ vs k. then_by (map small) names InFront outs (names_get outs) vs (close ∷ open_word ∷ last) rest _ o k (λ vs k. closed vs (open_word ∷ last) rest k)
    (λ vs k. plain_then (codes ")") vs (open_word ∷ last) rest _ o k
    (λ vs k. plain_then (codes "(") vs last rest _ o k
    (λ vs k. then_by (map arg_word) args InFront xs (args_get xs) vs (close ∷ []) rest _ o k (λ vs k. closed vs [] rest k)
    (λ vs k. plain_then (codes ")") vs [] rest _ o k (λ vs k. ap (done (call i outs xs)) k))))))))
  where
    in_turn : (a b c d : Word) (p q : List Word) → (((a ∷ b ∷ c ∷ p) ++ (d ∷ c ∷ q)) ++ d ∷ []) ≡ a ∷ b ∷ c ∷ (p ++ (d ∷ c ∷ (q ++ d ∷ [])))
    in_turn a b c d p q = simp append_assoc

reset_gets : (i : List ℕ) → Gets step_words reset_step Anything (restart i)
reset_gets i us rest h n =
    leading_then (codes "reset") us (small i ∷ []) rest _ (done (restart i) rest) h
    (λ vs k. word_then small name_of i (name_means i) vs [] rest _ (done (restart i) rest) k (λ vs k. ap (done (restart i)) k))

-- ---- steps in each other

-- the lists of a tree, as plain lists
abbrev listed_steps : Steps → List Step
listed_steps file.done = []
listed_steps (and_then s ss) = s ∷ listed_steps ss

abbrev listed_branches : Branches → List (Const × Steps)
listed_branches no_branch = []
listed_branches (more_branches c ss bs) = (c, ss) ∷ listed_branches bs

same_steps : (ss : Steps) → steps_of (listed_steps ss) ≡ ss
same_steps file.done = refl
same_steps (and_then s ss) = ap (and_then s) (same_steps ss)

same_branches : (bs : Branches) → branches_of (listed_branches bs) ≡ bs
same_branches no_branch = refl
same_branches (more_branches c ss bs) = ap (more_branches c ss) (same_branches bs)

all_fall : (d : ℕ) → Falls (steps d)
unfolding steps_within
all_fall d = steps_fall d

step_starts : (s : Step) → Starts step_words begins_step s
step_starts (set x op xs) us ws rest h = ahead_leading begins_step true (codes "set") refl us (others (step_words (set x op xs) ++ ws)) rest h
step_starts (call i outs xs) us ws rest h = ahead_leading begins_step true (codes "call") refl us (others (step_words (call i outs xs) ++ ws)) rest h
step_starts (restart i) us ws rest h = ahead_leading begins_step true (codes "reset") refl us (others (step_words (restart i) ++ ws)) rest h
step_starts (case_of x bs) us ws rest h = ahead_leading begins_step true (codes "case") refl us (others (step_words (case_of x bs) ++ ws)) rest h

steps_start : (ss : List Step) → Each (Starts step_words begins_step) ss
steps_start [] = tt
steps_start (s ∷ ss) = (step_starts s, steps_start ss)

branches_start : (bs : List (Const × Steps)) → Each (Starts arm_words (is_this (codes "|"))) bs
branches_start [] = tt
branches_start (b ∷ bs) = (λ us ws rest h. ahead_leading (is_this (codes "|")) true (codes "|") refl us (others (arm_words b ++ ws)) rest h, branches_start bs)

-- no step stands ahead
abbrev pub NoStep : Words → Type 0
NoStep ws = Without begins_step ws

-- what each step of a list reads, where so many may stand in each other
abbrev Read : ℕ → List Step → Type 0
Read d ss = Each (Gets step_words (step (steps d)) Anything) ss

list_gets : (d : ℕ) (ss : Steps) → Read d (listed_steps ss) → Gets steps_words (steps (suc d)) NoStep ss
list_gets d ss g us rest h n =
    ap (λ o. o >>= λ ss. done (steps_of ss.0) ss.1)
    (many_gets step_words begins_step (step (steps d)) (step_next (steps d) (all_fall d)) Anything (λ us e. tt) (listed_steps ss) g (steps_start (listed_steps ss)) us rest
    (subst (λ ts. Takes us ts rest) (sym (steps_are (listed_steps ss) ∙ ap steps_words (same_steps ss))) h) (tt, n))
    ∙ ap (λ z. done z rest) (same_steps ss)

depth_within : (c : Const) (ss : Steps) (bs : Branches) (d : ℕ) → depth_of_arms (arms (more_branches c ss bs)) ≤ suc d → depth (commands ss) ≤ d
depth_within c file.done bs d h = omega arith
depth_within c (and_then s ss) bs d h = omega (arith, h)

depth_behind : (c : Const) (ss : Steps) (bs : Branches) (d : ℕ) → depth_of_arms (arms (more_branches c ss bs)) ≤ d → depth_of_arms (arms bs) ≤ d
depth_behind c file.done bs d h = h
depth_behind c (and_then s ss) bs d h = omega (arith, h)

-- the steps of an arm
arm_steps : (c : Const) (ss : Steps) (bs : Branches) (d : ℕ) → depth_of_arms (arms (more_branches c ss bs)) ≤ d → ((e : ℕ) → depth (commands ss) ≤ e → Read e (listed_steps ss)) → Gets steps_words (steps d) NoStep ss
arm_steps c file.done bs zero h k us rest t n = ap (done file.done) t
arm_steps c (and_then s ss) bs zero h k us rest t n = absurd (omega (arith, h))
arm_steps c ss bs (suc d) h k us rest t n = list_gets d ss (k d (depth_within c ss bs d h)) us rest t n

branch_gets : (c : Const) (ss : Steps) (d : ℕ) → IsLabel c → Gets steps_words (steps d) NoStep ss → Gets arm_words (branch (steps d)) NoStep (c, ss)
branch_gets c ss d l g us rest h n =
    leading_then (codes "|") us (const_word c ∷ steps_words ss) rest _ (done (c, ss) rest) h
    (λ vs k. word_then const_word label_of c (label_means c l) vs (steps_words ss) rest _ (done (c, ss) rest) k
    (λ vs k. ap (λ o. o >>= λ ss. done (c, ss.0) ss.1) (g vs rest k n)))

case_gets : (x : List ℕ) (bs : Branches) (d : ℕ) → Each (Gets arm_words (branch (steps d)) NoStep) (listed_branches bs) → Gets step_words (case_step (steps d)) Anything (case_of x bs)
case_gets x bs d g us rest h n =
    let o = done (case_of x bs) rest in
    let last = leading (codes "end") ∷ [] in
    let list = listed_branches bs in
    leading_then (codes "case") us (small x ∷ (branches_words bs ++ last)) rest _ o h
    (λ vs k. word_then small name_of x (name_means x) vs (branches_words bs ++ last) rest _ o k
    (λ vs k. then_by (each arm_words) (branches (steps d)) (λ us. NoStep us × Without (is_this (codes "|")) us) list
    (many_gets arm_words (is_this (codes "|")) (branch (steps d)) (branch_next (steps d) (all_fall d)) NoStep (this_ahead (codes "|") begins_step refl) list g (branches_start list))
    vs last rest _ o (subst (λ ts. Takes vs (ts ++ last) rest) (sym (arms_are list ∙ ap branches_words (same_branches bs))) k)
    (λ vs k. (ahead_leading begins_step false (codes "end") refl vs [] rest k, ahead_leading (is_this (codes "|")) false (codes "end") refl vs [] rest k))
    (λ vs k. leading_then (codes "end") vs [] rest _ o k (λ vs k. ap (λ z. done (case_of x z) vs) (same_branches bs) ∙ ap (done (case_of x bs)) k))))

-- ---- which step it is

abbrev chosen : Bool → Bool → Bool → Reader Steps → Reader Step
chosen a b c inner us = if a then assignment us else (if b then call_step us else (if c then reset_step us else case_step inner us))

step_by : (word : List ℕ) (a b c : Bool) → is_this (codes "set") word ≡ a → is_this (codes "call") word ≡ b → is_this (codes "reset") word ≡ c → (inner : Reader Steps) (us : Words) (ws : List Word) (rest : Words) →
    Takes us (leading word ∷ ws) rest → step inner us ≡ chosen a b c inner us
step_by word a b c p q r inner us ws rest h =
    ap (λ d. chosen d (is_ahead (is_this (codes "call")) us) (is_ahead (is_this (codes "reset")) us) inner us) (ahead_leading (is_this (codes "set")) a word p us ws rest h)
    ∙ ap (λ d. chosen a d (is_ahead (is_this (codes "reset")) us) inner us) (ahead_leading (is_this (codes "call")) b word q us ws rest h)
    ∙ ap (λ d. chosen a b d inner us) (ahead_leading (is_this (codes "reset")) c word r us ws rest h)

mutual
  steps_each : (ss : Steps) (d : ℕ) → AreStepTexts ss → depth (commands ss) ≤ d → Read d (listed_steps ss)
  steps_each file.done d a h = tt
  steps_each (and_then s ss) d a h = (step_gets s d a.0 (omega (arith, h)), steps_each ss d a.1 (omega (arith, h)))

  step_gets : (s : Step) (d : ℕ) → IsStepText s → depth_of_one (command s) ≤ d → Gets step_words (step (steps d)) Anything s
  step_gets (set x op xs) d a h = λ us rest t n. step_by (codes "set") true false false refl refl refl (steps d) us (others (step_words (set x op xs))) rest t ∙ set_gets x op xs a us rest t n
  step_gets (call i outs xs) d a h = λ us rest t n. step_by (codes "call") false true false refl refl refl (steps d) us (others (step_words (call i outs xs))) rest t ∙ call_gets i outs xs us rest t n
  step_gets (restart i) d a h = λ us rest t n. step_by (codes "reset") false false true refl refl refl (steps d) us (others (step_words (restart i))) rest t ∙ reset_gets i us rest t n
  step_gets (case_of x bs) d a h = λ us rest t n. step_by (codes "case") false false false refl refl refl (steps d) us (others (step_words (case_of x bs))) rest t ∙ case_gets x bs d (branches_each bs d a h) us rest t n

  branches_each : (bs : Branches) (d : ℕ) → AreBranchTexts bs → depth_of_arms (arms bs) ≤ d → Each (Gets arm_words (branch (steps d)) NoStep) (listed_branches bs)
  branches_each no_branch d a h = tt
  branches_each (more_branches c ss bs) d a h =
      (branch_gets c ss d a.0 (arm_steps c ss bs d h (λ e k. steps_each ss e a.1.0 k)), branches_each bs d a.1.1 (depth_behind c ss bs d h))

-- steps are read in front of a word that begins none
pub steps_get : (ss : Steps) → AreStepTexts ss → depth (commands ss) ≤ 300 → Gets steps_words (steps_within 301) NoStep ss
unfolding steps_within
steps_get ss a h us rest t n = list_gets 300 ss (steps_each ss 300 a h) us rest t n
