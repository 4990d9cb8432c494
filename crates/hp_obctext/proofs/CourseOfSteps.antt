-- How the readers of steps go.
use Rattle.std.proofs.Common.{◌≡◌, ℕ, zero, suc, Bool, true, false, if◌then◌else◌, List, [], ◌∷◌, ◌++◌, codes, Option, None, Some, is_some, refl, sym, ap, subst, ◌∙◌}
use Rattle.std.specs.Str.{bytes_eq}
use Rattle.hp_base.specs.declared.ty.Const.{Const}
use Rattle.hp_obc.specs.declared.command.Arg.{Arg}
use Rattle.hp_obc.specs.declared.command.ObcOp.{ObcOp}
use Rattle.hp_obc.specs.declared.command.ObcOp.TheVariants.{Copy, Not, Neg, Mux, And, Or, Xor, Imp, Eq, Ne, Lt, Le, Gt, Ge, Add, Sub, Mul, Div, Rem}
use Rattle.hp_obctext.specs.Files.{Steps, Step, set, call, restart, case_of, steps_of, branches_of, done as no_step}
use Rattle.hp_obctext.specs.Outcomes.{Words, Outcome, done, refused, ◌>>=◌}
use Rattle.hp_obctext.specs.Spelling.{name_of, label_of, arg_of, op_of}
use Rattle.hp_obctext.specs.Reading.{Reader, one, fixed, many, is_ahead, is_this, is_open, is_op, arity, args_behind, op_or_copy, assignment, names, args, call_step, reset_step, branch, branches, case_step, step, begins_step, steps, steps_within}
use Rattle.hp_obctext.proofs.Truths.{equal_bytes}
use Rattle.hp_obctext.proofs.Rounds.{one_strict}
use Rattle.hp_obctext.proofs.StepRounds.{branch_strict, step_strict}
use Rattle.hp_obctext.proofs.Courses.{SameNext, same_ahead, Course, Runs, Anything, Apart, weaker_course, alike, then_runs, next, done_runs, mapped_runs, one_runs, many_runs}
use Rattle.hp_obctext.proofs.CourseOfLists.{IsAhead, NotAhead, other_ahead, fixed_ahead, strict_of, fixed_runs, name_runs}

arg_runs : Runs (one arg_of) Anything
arg_runs = one_runs arg_of (codes "x") _ refl

label_runs : Runs (one label_of) Anything
label_runs = one_runs label_of (codes "true") _ refl

-- ---- assignments

-- the word of an operator is no argument
no_arg_case : (w word : List ℕ) (op : ObcOp) (o : Option ObcOp) → arg_of word ≡ None → (is_some o ≡ true → arg_of w ≡ None) → is_some (if bytes_eq w word then Some op else o) ≡ true → arg_of w ≡ None
no_arg_case w word op o e k h = by (bytes_eq w word) refl h
  where
    by : (d : Bool) → bytes_eq w word ≡ d → is_some (if d then Some op else o) ≡ true → arg_of w ≡ None
    by true p h = ap arg_of (equal_bytes w word p) ∙ e
    by false p h = k h

no_arg : (w : List ℕ) → is_op w ≡ true → arg_of w ≡ None
no_arg w =
    no_arg_case w (codes "@not") Not _ refl (
    no_arg_case w (codes "@neg") Neg _ refl (
    no_arg_case w (codes "@mux") Mux _ refl (
    no_arg_case w (codes "@and") And _ refl (
    no_arg_case w (codes "@or") Or _ refl (
    no_arg_case w (codes "@xor") Xor _ refl (
    no_arg_case w (codes "@imp") Imp _ refl (
    no_arg_case w (codes "@eq") Eq _ refl (
    no_arg_case w (codes "@ne") Ne _ refl (
    no_arg_case w (codes "@lt") Lt _ refl (
    no_arg_case w (codes "@le") Le _ refl (
    no_arg_case w (codes "@gt") Gt _ refl (
    no_arg_case w (codes "@ge") Ge _ refl (
    no_arg_case w (codes "@add") Add _ refl (
    no_arg_case w (codes "@sub") Sub _ refl (
    no_arg_case w (codes "@mul") Mul _ refl (
    no_arg_case w (codes "@div") Div _ refl (
    no_arg_case w (codes "@rem") Rem None refl (
    λ e. absurd cc))))))))))))))))))

copied : (ws : Words) → NotAhead is_op ws → op_or_copy ws ≡ done Copy ws
copied ws h = ap (λ d. if d then one op_of ws else done Copy ws) h

worded : (ws : Words) → is_ahead is_op ws ≡ true → op_or_copy ws ≡ one op_of ws
worded ws h = ap (λ d. if d then one op_of ws else done Copy ws) h

op_runs : Runs op_or_copy (NotAhead is_op)
op_runs vs = by (is_ahead is_op vs) refl
  where
    by : (d : Bool) → is_ahead is_op vs ≡ d → Course op_or_copy (NotAhead is_op) vs (if d then one op_of vs else done Copy vs)
    by true p =
        alike op_or_copy (one op_of) (NotAhead is_op) vs (λ us s. worded us (sym (same_ahead is_op vs us s) ∙ p)) (record { more = []; value = Copy; whole = copied }) (one op_of vs) (one_strict op_of vs)
        (weaker_course (one op_of) Anything (NotAhead is_op) vs (one op_of vs) (λ us h. tt) (one_runs op_of (codes "@not") Not refl vs))
    by false p = record { front = []; split = refl; same = λ other s. copied other (sym (same_ahead is_op vs other s) ∙ p); stopped = copied }

args_run : (n : ℕ) (items : List Arg) → Runs (args_behind n items) Anything
args_run zero items = done_runs items
args_run (suc n) items = next (one arg_of) (λ a. args_behind n (items ++ (a.0 ∷ [])) a.1) Anything arg_runs (λ a. args_run n (items ++ (a ∷ [])))

-- where an argument is read, no operator is ahead
first_arg : (n : ℕ) (items : List Arg) (f : List Arg × Words → Outcome Step) (us : Words) (s : Step) (rest : Words) → (args_behind (suc n) items us >>= f) ≡ done s rest → NotAhead is_op us
first_arg n items f [] s rest e = refl
first_arg n items f (w ∷ ws) s rest e = by (is_op w) (arg_of w) refl refl e
  where
    by : (d : Bool) (o : Option Arg) → is_op w ≡ d → arg_of w ≡ o → (((elim o [ Some a ↦ done a ws | None ↦ refused (w ∷ ws) ]) >>= λ (a : Arg × Words). args_behind n (items ++ (a.0 ∷ [])) a.1) >>= f) ≡ done s rest → is_op w ≡ false
    by false o p q e = p
    by true None p q e = absurd cc
    by true (Some a) p q e = let none = no_arg w p in absurd cc

arity_is : (op : ObcOp) → (n : ℕ) × (arity op ≡ suc n)
arity_is Copy = (0, refl)
arity_is Not = (0, refl)
arity_is Neg = (0, refl)
arity_is Mux = (2, refl)
arity_is op = (1, refl)

abbrev arguments : List ℕ → ObcOp × Words → Outcome Step
arguments x op = args_behind (arity op.0) [] op.1 >>= λ args. done (set x op.0 args.0) args.1

op_apart : (x : List ℕ) → Apart (arguments x) (NotAhead is_op) Anything
op_apart x op us s rest e k =
    let n = arity_is op in
    first_arg n.0 [] (λ args. done (set x op args.0) args.1) us s rest (subst (λ m. (args_behind m [] us >>= λ args. done (set x op args.0) args.1) ≡ done s rest) n.1 e)

assignment_runs : Runs assignment Anything
assignment_runs =
    next (fixed (codes "set")) _ Anything (fixed_runs (codes "set") refl) (λ u. next (one name_of) _ Anything name_runs
    (λ x. then_runs op_or_copy (arguments x) (NotAhead is_op) Anything (op_apart x) op_runs (λ op. next (args_behind (arity op) []) _ Anything (args_run (arity op) []) (λ xs. done_runs (set x op xs)))))

-- ---- calls

names_run : Runs names (NotAhead is_open)
names_run = many_runs is_open (one name_of) (one_strict name_of) Anything (NotAhead is_open) name_runs (λ us h. tt) (λ us h. h) (λ us h. tt) []

open_args_run : Runs args (NotAhead is_open)
open_args_run = many_runs is_open (one arg_of) (one_strict arg_of) Anything (NotAhead is_open) arg_runs (λ us h. tt) (λ us h. h) (λ us h. tt) []

call_runs : Runs call_step Anything
call_runs =
    next (fixed (codes "call")) _ Anything (fixed_runs (codes "call") refl) (λ u. next (one name_of) _ Anything name_runs (λ i. next (fixed (codes "(")) _ Anything (fixed_runs (codes "(") refl)
    (λ u. then_runs names _ (NotAhead is_open) Anything (λ outs us b rest e s. other_ahead (codes ")") is_open refl us (fixed_ahead (codes ")") _ us b rest e)) names_run
    (λ outs. next (fixed (codes ")")) _ Anything (fixed_runs (codes ")") refl) (λ u. next (fixed (codes "(")) _ Anything (fixed_runs (codes "(") refl)
    (λ u. then_runs args _ (NotAhead is_open) Anything (λ xs us b rest e s. other_ahead (codes ")") is_open refl us (fixed_ahead (codes ")") _ us b rest e)) open_args_run
    (λ xs. next (fixed (codes ")")) _ Anything (fixed_runs (codes ")") refl) (λ u. done_runs (call i outs xs)))))))))

reset_runs : Runs reset_step Anything
reset_runs = next (fixed (codes "reset")) _ Anything (fixed_runs (codes "reset") refl) (λ u. next (one name_of) _ Anything name_runs (λ i. done_runs (restart i)))

-- ---- cases

-- where neither an arm nor a step is ahead
abbrev BehindArms : Words → Type 0
BehindArms ws = NotAhead (is_this (codes "|")) ws × NotAhead begins_step ws

at_end : (us : Words) → IsAhead (codes "end") us → BehindArms us
at_end us h = (other_ahead (codes "end") (is_this (codes "|")) refl us h, other_ahead (codes "end") begins_step refl us h)

module _ (deep : ℕ) (runs : Runs (steps_within deep) (NotAhead begins_step)) where
  abbrev inner : Reader Steps
  inner = steps_within deep

  branch_runs : Runs (branch inner) (NotAhead begins_step)
  branch_runs =
      next (fixed (codes "|")) _ (NotAhead begins_step) (fixed_runs (codes "|") refl) (λ u. next (one label_of) _ (NotAhead begins_step) label_runs
      (λ c. mapped_runs {B = Const × Steps} inner (λ ss. (c, ss)) (NotAhead begins_step) runs))

  branches_run : Runs (branches inner) BehindArms
  branches_run =
      many_runs (is_this (codes "|")) (branch inner) (strict_of (branch inner) (branch_strict deep)) (NotAhead begins_step) BehindArms branch_runs (other_ahead (codes "|") begins_step refl) (λ us h. h.0) (λ us h. h.1) []

  case_runs : Runs (case_step inner) Anything
  case_runs =
      next (fixed (codes "case")) _ Anything (fixed_runs (codes "case") refl) (λ u. next (one name_of) _ Anything name_runs
      (λ x. then_runs (branches inner) _ BehindArms Anything (λ bs us b rest e s. at_end us (fixed_ahead (codes "end") _ us b rest e)) branches_run
      (λ bs. next (fixed (codes "end")) _ Anything (fixed_runs (codes "end") refl) (λ u. done_runs (case_of x (branches_of bs))))))

  -- the reader of a step, where it is known which word is ahead
  abbrev chosen : Bool → Bool → Bool → Reader Step
  chosen a b c ws = if a then assignment ws else (if b then call_step ws else (if c then reset_step ws else case_step inner ws))

  chosen_runs : (a b c : Bool) → Runs (chosen a b c) Anything
  chosen_runs true b c = assignment_runs
  chosen_runs false true c = call_runs
  chosen_runs false false true = reset_runs
  chosen_runs false false false = case_runs

  step_runs : Runs (step inner) Anything
  step_runs vs =
      let a = is_ahead (is_this (codes "set")) vs in
      let b = is_ahead (is_this (codes "call")) vs in
      let c = is_ahead (is_this (codes "reset")) vs in
      alike (step inner) (chosen a b c) Anything vs (λ us s. as_chosen us s) (record { more = codes "reset" ∷ codes "x" ∷ []; value = restart (codes "x"); whole = λ other s. refl }) (step inner vs)
      (strict_of (step inner) (step_strict deep) vs) (chosen_runs a b c vs)
    where
      as_chosen : (us : Words) → SameNext vs us → step inner us ≡ chosen (is_ahead (is_this (codes "set")) vs) (is_ahead (is_this (codes "call")) vs) (is_ahead (is_this (codes "reset")) vs) us
      as_chosen us s =
          ap (λ a. chosen a (is_ahead (is_this (codes "call")) us) (is_ahead (is_this (codes "reset")) us) us) (sym (same_ahead (is_this (codes "set")) vs us s))
          ∙ ap (λ b. chosen (is_ahead (is_this (codes "set")) vs) b (is_ahead (is_this (codes "reset")) us) us) (sym (same_ahead (is_this (codes "call")) vs us s))
          ∙ ap (λ c. chosen (is_ahead (is_this (codes "set")) vs) (is_ahead (is_this (codes "call")) vs) c us) (sym (same_ahead (is_this (codes "reset")) vs us s))

pub steps_run : (deep : ℕ) → Runs (steps_within deep) (NotAhead begins_step)
unfolding steps_within
steps_run zero = λ vs. weaker_course (λ ws. done no_step ws) Anything (NotAhead begins_step) vs (done no_step vs) (λ us h. tt) (done_runs no_step vs)
steps_run (suc deep) =
    mapped_runs (many begins_step (step (steps deep)) []) steps_of (NotAhead begins_step)
    (many_runs begins_step (step (steps deep)) (strict_of (step (steps deep)) (step_strict deep)) Anything (NotAhead begins_step) (step_runs deep (steps_run deep)) (λ us h. tt) (λ us h. h) (λ us h. tt) [])
