-- What is read is of the shape that the grammar asks for.
use Rattle.std.proofs.Common.{◌≡◌, ℕ, zero, suc, ◌+◌, ◌≤◌, Bool, true, false, if◌then◌else◌, List, [], ◌∷◌, ◌++◌, length, codes, Option, None, Some, refl, sym, ap, subst, ◌∙◌, arith}
use Rattle.hp_base.specs.declared.ty.Const.{Const}
use Rattle.hp_base.specs.declared.ty.Const.TheVariants.{B, E}
use Rattle.hp_obc.specs.declared.command.Arg.{Arg}
use Rattle.hp_obc.specs.Form.{is_name, is_constructor, depth, depth_of_one, depth_of_arms}
use Rattle.std.specs.Prelude.{option_map}
use Rattle.std.specs.Str.{bytes_eq}
use Rattle.hp_obctext.specs.Files as file
use Rattle.hp_obctext.specs.Files.{Steps, Step, Branches, Text, File, steps_of, branches_of}
use Rattle.hp_obctext.specs.Machines.{commands, command, arms}
use Rattle.hp_obctext.specs.Outcomes.{Words, Outcome, done, refused, ◌>>=◌}
use Rattle.hp_obctext.specs.Spelling.{name_of, constructor_of, ty_of, label_of, const_of, arg_of}
use Rattle.hp_obctext.specs.Reading.{Reader, one, fixed, many_within, many, behind, is_ahead, is_this, listed, section, var, mem, inst, arity, args_behind, op_or_copy, assignment, names, args, call_step, reset_step, branch, branches, case_step, step, begins_step, steps, steps_within, next_constructor, constructors, type_declaration, types, machine, machines, all_read, file as read_file}
use Rattle.hp_obctext.specs.Shapes.{Each, IsLabel, AreStepTexts, IsStepText, AreBranchTexts, HasName, MemHasName, InstHasName, IsTypeText, IsMachineText, IsFileText}
use Rattle.hp_obctext.proofs.Truths.{each_append}

-- P holds of what was read
abbrev pub Holds : {A : Type 0} → (A → Type 0) → Outcome A → Type 0
Holds P (done a rest) = P a
Holds P (refused rest) = Unit {0}

abbrev Any : {A : Type 0} → A → Type 0
Any a = Unit {0}

any : {A : Type 0} (o : Outcome A) → Holds Any o
any (done a rest) = tt
any (refused rest) = tt

then_holds : {A B : Type 0} (P : A → Type 0) (Q : B → Type 0) (o : Outcome A) (f : A × Words → Outcome B) → Holds P o → ((a : A) (rest : Words) → P a → Holds Q (f (a, rest))) → Holds Q (o >>= f)
then_holds P Q (done a rest) f h k = k a rest h
then_holds P Q (refused rest) f h k = tt

after : {A B : Type 0} (Q : B → Type 0) (o : Outcome A) (f : A × Words → Outcome B) → ((a : A) (rest : Words) → Holds Q (f (a, rest))) → Holds Q (o >>= f)
after Q o f k = then_holds Any Q o f (any o) (λ a rest u. k a rest)

one_holds_by : {A : Type 0} (P : A → Type 0) (w : List ℕ) (ws : Words) (o : Option A) → ((a : A) → o ≡ Some a → P a) → Holds P (elim o [ Some a ↦ done a ws | None ↦ refused (w ∷ ws) ])
one_holds_by P w ws None k = tt
one_holds_by P w ws (Some a) k = k a refl

one_holds : {A : Type 0} (P : A → Type 0) (of : List ℕ → Option A) → ((w : List ℕ) (a : A) → of w ≡ Some a → P a) → (ws : Words) → Holds P (one of ws)
one_holds P of k [] = tt
one_holds P of k (w ∷ ws) = one_holds_by P w ws (of w) (k w)

only_by : (p : List ℕ → Bool) (d : Bool) (w x : List ℕ) → p w ≡ d → (if d then Some w else None) ≡ Some x → p x ≡ true
only_by p true w x e h = let same : w ≡ x = cc in ap p (sym same) ∙ e
only_by p false w x e h = absurd cc

pub name_is : (w x : List ℕ) → name_of w ≡ Some x → is_name x ≡ true
name_is w x h = only_by is_name (is_name w) w x refl h

pub constructor_is : (w x : List ℕ) → constructor_of w ≡ Some x → is_constructor x ≡ true
constructor_is w x h = only_by is_constructor (is_constructor w) w x refl h

abbrev IsName : List ℕ → Type 0
IsName x = is_name x ≡ true

abbrev IsConstructor : List ℕ → Type 0
IsConstructor x = is_constructor x ≡ true

a_name : (ws : Words) → Holds IsName (one name_of ws)
a_name = one_holds IsName name_of name_is

a_constructor : (ws : Words) → Holds IsConstructor (one constructor_of ws)
a_constructor = one_holds IsConstructor constructor_of constructor_is

label_by : (d e : Bool) (o : Option (List ℕ)) (c : Const) → (if d then Some (B true) else (if e then Some (B false) else option_map E o)) ≡ Some c → IsLabel c
label_by true e o c h = let same : B true ≡ c = cc in subst IsLabel same tt
label_by false true o c h = let same : B false ≡ c = cc in subst IsLabel same tt
label_by false false (Some x) c h = let same : E x ≡ c = cc in subst IsLabel same tt
label_by false false None c h = absurd cc

label_is : (w : List ℕ) (c : Const) → label_of w ≡ Some c → IsLabel c
label_is w c h = label_by (bytes_eq w (codes "true")) (bytes_eq w (codes "false")) (constructor_of w) c h

a_label : (ws : Words) → Holds IsLabel (one label_of ws)
a_label = one_holds IsLabel label_of label_is

-- ---- lists

many_holds_by : {A : Type 0} (P : A → Type 0) (begins : List ℕ → Bool) (item : Reader A) → ((ws : Words) → Holds P (item ws)) → (n : ℕ) (items : List A) (ws : Words) → Each P items → Holds (Each P) (many_within begins item n items ws)
many_holds_by P begins item h zero items ws k = k
many_holds_by P begins item h (suc n) items ws k =
    by (is_ahead begins ws) (then_holds P (Each P) (item ws) (λ r. many_within begins item n (items ++ (r.0 ∷ [])) r.1) (h ws) (λ a rest p. many_holds_by P begins item h n (items ++ (a ∷ [])) rest (each_append P items (a ∷ []) k (p, tt))))
  where
    by : (d : Bool) → Holds (Each P) (item ws >>= λ r. many_within begins item n (items ++ (r.0 ∷ [])) r.1) → Holds (Each P) (if d then (item ws >>= λ r. many_within begins item n (items ++ (r.0 ∷ [])) r.1) else done items ws)
    by true m = m
    by false m = k

many_holds : {A : Type 0} (P : A → Type 0) (begins : List ℕ → Bool) (item : Reader A) → ((ws : Words) → Holds P (item ws)) → (items : List A) (ws : Words) → Each P items → Holds (Each P) (many begins item items ws)
many_holds P begins item h items ws k = many_holds_by P begins item h (length ws) items ws k

listed_holds : {A : Type 0} (P : A → Type 0) (item : Reader A) → ((ws : Words) → Holds P (item ws)) → (ws : Words) → Holds (Each P) (listed item ws)
listed_holds P item h ws =
    by (is_ahead (is_this (codes ")")) ws)
    (then_holds P (Each P) (item ws) (λ r. many (is_this (codes ",")) (behind (codes ",") item) (r.0 ∷ []) r.1) (h ws) (λ a rest p. many_holds P (is_this (codes ",")) (behind (codes ",") item) (λ vs. after P (fixed (codes ",") vs) (λ r. item r.1) (λ u more. h more)) (a ∷ []) rest (p, tt)))
  where
    by : (d : Bool) → Holds (Each P) (item ws >>= λ r. many (is_this (codes ",")) (behind (codes ",") item) (r.0 ∷ []) r.1) →
        Holds (Each P) (if d then done [] ws else (item ws >>= λ r. many (is_this (codes ",")) (behind (codes ",") item) (r.0 ∷ []) r.1))
    by true m = tt
    by false m = m

section_holds : {A : Type 0} (P : A → Type 0) (title : List ℕ) (item : Reader A) → ((ws : Words) → Holds P (item ws)) → (ws : Words) → Holds (Each P) (section title item ws)
section_holds P title item h ws =
    after (Each P) (fixed title ws) _ (λ u r. after (Each P) (fixed (codes "(") r) _ (λ u s. then_holds (Each P) (Each P) (listed item s) _ (listed_holds P item h s)
    (λ xs v p. after (Each P) (fixed (codes ")") v) _ (λ u w. p))))

var_holds : (ws : Words) → Holds HasName (var ws)
var_holds ws =
    then_holds IsName HasName (one name_of ws) _ (a_name ws) (λ x r p. after HasName (fixed (codes ":") r) _ (λ u s. after HasName (one ty_of s) _ (λ t v. p)))

mem_holds : (ws : Words) → Holds MemHasName (mem ws)
mem_holds ws =
    then_holds IsName MemHasName (one name_of ws) _ (a_name ws) (λ x r p. after MemHasName (fixed (codes ":") r) _ (λ u s. after MemHasName (one ty_of s) _
    (λ t v. after MemHasName (fixed (codes "=") v) _ (λ u w. after MemHasName (one const_of w) _ (λ c y. p)))))

inst_holds : (ws : Words) → Holds InstHasName (inst ws)
inst_holds ws =
    then_holds IsName InstHasName (one name_of ws) _ (a_name ws) (λ x r p. after InstHasName (fixed (codes ":") r) _ (λ u s. after InstHasName (one name_of s) _ (λ t v. p)))

-- ---- steps

-- Steps that are read where so many may stand in each other.
abbrev IsDeep : ℕ → Steps → Type 0
IsDeep zero ss = ss ≡ file.done
IsDeep (suc d) ss = depth (commands ss) ≤ d

abbrev StepsFit : ℕ → Steps → Type 0
StepsFit d ss = AreStepTexts ss × IsDeep d ss

abbrev StepFits : ℕ → Step → Type 0
StepFits d s = IsStepText s × (depth_of_one (command s) ≤ d)

abbrev BranchFits : ℕ → Const × Steps → Type 0
BranchFits d b = IsLabel b.0 × StepsFit d b.1

steps_fit : (d : ℕ) (ss : List Step) → Each (StepFits d) ss → AreStepTexts (steps_of ss) × (depth (commands (steps_of ss)) ≤ d)
steps_fit d [] h = (tt, omega arith)
steps_fit d (s ∷ ss) h = let rest = steps_fit d ss h.1 in let one = h.0.1 in let more = rest.1 in ((h.0.0, rest.0), omega (arith, one, more))

arm_fits : (d : ℕ) (ss : Steps) (bs : Branches) (c : Const) → IsDeep d ss → depth_of_arms (arms bs) ≤ d → depth_of_arms (arms (file.more_branches c ss bs)) ≤ d
arm_fits d file.done bs c h k = k
arm_fits zero (file.and_then s ss) bs c h k = absurd cc
arm_fits (suc d) (file.and_then s ss) bs c h k = omega (arith, h, k)

branches_fit : (d : ℕ) (bs : List (Const × Steps)) → Each (BranchFits d) bs → AreBranchTexts (branches_of bs) × (depth_of_arms (arms (branches_of bs)) ≤ d)
branches_fit d [] h = (tt, omega arith)
branches_fit d (b ∷ bs) h = let rest = branches_fit d bs h.1 in ((h.0.0, (h.0.1.0, rest.0)), arm_fits d b.1 (branches_of bs) b.0 h.0.1.1 rest.1)

args_length : (n : ℕ) (xs : List Arg) (ws : Words) → Holds (λ (ys : List Arg). length ys ≡ length xs + n) (args_behind n xs ws)
args_length zero xs ws = omega arith
args_length (suc n) xs ws =
    after (λ (ys : List Arg). length ys ≡ length xs + suc n) (one arg_of ws) (λ a. args_behind n (xs ++ (a.0 ∷ [])) a.1) (λ a rest. weaker (args_behind n (xs ++ (a ∷ [])) rest) (pushed xs a) (args_length n (xs ++ (a ∷ [])) rest))
  where
    pushed : (xs : List Arg) (a : Arg) → length (xs ++ (a ∷ [])) ≡ suc (length xs)
    pushed [] a = refl
    pushed (x ∷ xs) a = ap suc (pushed xs a)

    weaker : {m : ℕ} (o : Outcome (List Arg)) → m ≡ suc (length xs) → Holds (λ (ys : List Arg). length ys ≡ m + n) o → Holds (λ (ys : List Arg). length ys ≡ length xs + suc n) o
    weaker (done ys rest) e h = omega (arith, e, h)
    weaker (refused rest) e h = tt

assignment_holds : (d : ℕ) (ws : Words) → Holds (StepFits d) (assignment ws)
assignment_holds d ws =
    after (StepFits d) (fixed (codes "set") ws) _ (λ u r. after (StepFits d) (one name_of r) _ (λ x s. after (StepFits d) (op_or_copy s) _
    (λ op v. then_holds (λ (ys : List Arg). length ys ≡ length {A = Arg} [] + arity op) (StepFits d) (args_behind (arity op) [] v) _ (args_length (arity op) [] v) (λ xs w e. (omega (arith, e), omega arith)))))

call_holds : (d : ℕ) (ws : Words) → Holds (StepFits d) (call_step ws)
call_holds d ws =
    after (StepFits d) (fixed (codes "call") ws) _ (λ u r. after (StepFits d) (one name_of r) _ (λ x s. after (StepFits d) (fixed (codes "(") s) _ (λ u v. after (StepFits d) (names v) _
    (λ outs w. after (StepFits d) (fixed (codes ")") w) _ (λ u y. after (StepFits d) (fixed (codes "(") y) _ (λ u z. after (StepFits d) (args z) _ (λ xs q. after (StepFits d) (fixed (codes ")") q) _ (λ u p. (tt, omega arith)))))))))

reset_holds : (d : ℕ) (ws : Words) → Holds (StepFits d) (reset_step ws)
reset_holds d ws = after (StepFits d) (fixed (codes "reset") ws) _ (λ u r. after (StepFits d) (one name_of r) _ (λ x s. (tt, omega arith)))

module _ (d : ℕ) (inner : Reader Steps) (holds : (ws : Words) → Holds (StepsFit d) (inner ws)) where
  branch_holds : (ws : Words) → Holds (BranchFits d) (branch inner ws)
  branch_holds ws =
      after (BranchFits d) (fixed (codes "|") ws) _ (λ u r. then_holds IsLabel (BranchFits d) (one label_of r) _ (a_label r) (λ c s k. then_holds (StepsFit d) (BranchFits d) (inner s) _ (holds s) (λ ss v p. (k, p))))

  case_holds : (ws : Words) → Holds (StepFits d) (case_step inner ws)
  case_holds ws =
      after (StepFits d) (fixed (codes "case") ws) _ (λ u r. after (StepFits d) (one name_of r) _ (λ x s. then_holds (Each (BranchFits d)) (StepFits d) (branches inner s) _
      (many_holds (BranchFits d) (is_this (codes "|")) (branch inner) branch_holds [] s tt) (λ bs v p. after (StepFits d) (fixed (codes "end") v) _ (λ u w. branches_fit d bs p))))

  step_holds : (ws : Words) → Holds (StepFits d) (step inner ws)
  step_holds ws = by (is_ahead (is_this (codes "set")) ws) (is_ahead (is_this (codes "call")) ws) (is_ahead (is_this (codes "reset")) ws)
    where
      by : (a b e : Bool) → Holds (StepFits d) (if a then assignment ws else (if b then call_step ws else (if e then reset_step ws else case_step inner ws)))
      by true b e = assignment_holds d ws
      by false true e = call_holds d ws
      by false false true = reset_holds d ws
      by false false false = case_holds ws

steps_hold : (deep : ℕ) (ws : Words) → Holds (StepsFit deep) (steps deep ws)
steps_hold zero ws = (tt, refl)
steps_hold (suc deep) ws =
    then_holds (Each (StepFits deep)) (StepsFit (suc deep)) (many begins_step (step (steps deep)) [] ws) (λ ss. done (steps_of ss.0) ss.1)
    (many_holds (StepFits deep) begins_step (step (steps deep)) (step_holds deep (steps deep) (steps_hold deep)) [] ws tt) (λ ss rest p. steps_fit deep ss p)

within_holds : (deep : ℕ) (ws : Words) → Holds (StepsFit deep) (steps_within deep ws)
unfolding steps_within
within_holds deep ws = steps_hold deep ws

-- ---- files

constructors_hold : (ws : Words) → Holds (λ (xs : List (List ℕ)). Each IsConstructor xs × (1 ≤ length xs)) (constructors ws)
constructors_hold ws =
    then_holds IsConstructor (λ (xs : List (List ℕ)). Each IsConstructor xs × (1 ≤ length xs)) (one constructor_of ws) (λ c. many (is_this (codes "|")) next_constructor (c.0 ∷ []) c.1) (a_constructor ws)
    (λ c rest p. both (many (is_this (codes "|")) next_constructor (c ∷ []) rest) (many_holds IsConstructor (is_this (codes "|")) next_constructor next (c ∷ []) rest (p, tt)) (longer (length rest) (c ∷ []) rest (omega arith)))
  where
    next : (vs : Words) → Holds IsConstructor (next_constructor vs)
    next vs = after IsConstructor (fixed (codes "|") vs) (λ r. one constructor_of r.1) (λ u more. a_constructor more)

    both : (o : Outcome (List (List ℕ))) → Holds (Each IsConstructor) o → Holds (λ (xs : List (List ℕ)). 1 ≤ length xs) o → Holds (λ (xs : List (List ℕ)). Each IsConstructor xs × (1 ≤ length xs)) o
    both (done xs rest) h k = (h, k)
    both (refused rest) h k = tt

    longer : (n : ℕ) (items : List (List ℕ)) (ws : Words) → 1 ≤ length items → Holds (λ (xs : List (List ℕ)). 1 ≤ length xs) (many_within (is_this (codes "|")) next_constructor n items ws)
    longer zero items ws h = h
    longer (suc n) items ws h =
        split (is_ahead (is_this (codes "|")) ws) (after (λ (xs : List (List ℕ)). 1 ≤ length xs) (next_constructor ws) (λ r. many_within (is_this (codes "|")) next_constructor n (items ++ (r.0 ∷ [])) r.1) (λ a rest. longer n (items ++ (a ∷ [])) rest (more items a h)))
      where
        more : (items : List (List ℕ)) (a : List ℕ) → 1 ≤ length items → 1 ≤ length (items ++ (a ∷ []))
        more [] a h = omega arith
        more (x ∷ items) a h = omega arith

        split : (d : Bool) → Holds (λ (xs : List (List ℕ)). 1 ≤ length xs) (next_constructor ws >>= λ r. many_within (is_this (codes "|")) next_constructor n (items ++ (r.0 ∷ [])) r.1) →
            Holds (λ (xs : List (List ℕ)). 1 ≤ length xs) (if d then (next_constructor ws >>= λ r. many_within (is_this (codes "|")) next_constructor n (items ++ (r.0 ∷ [])) r.1) else done items ws)
        split true m = m
        split false m = h

type_holds : (ws : Words) → Holds IsTypeText (type_declaration ws)
type_holds ws =
    after IsTypeText (fixed (codes "type") ws) _ (λ u r. then_holds IsName IsTypeText (one name_of r) _ (a_name r) (λ x s p. after IsTypeText (fixed (codes "=") s) _
    (λ u v. then_holds (λ (xs : List (List ℕ)). Each IsConstructor xs × (1 ≤ length xs)) IsTypeText (constructors v) _ (constructors_hold v) (λ cs w q. record { name = p; cons = q.0; some = q.1 }))))

machine_holds : (ws : Words) → Holds IsMachineText (machine ws)
machine_holds ws =
    let Q = IsMachineText in
    after Q (fixed (codes "machine") ws) _ (λ u r. then_holds IsName Q (one name_of r) _ (a_name r)
    (λ x s p. then_holds (Each HasName) Q (section (codes "in") var s) _ (section_holds HasName (codes "in") var var_holds s)
    (λ inputs v pi. then_holds (Each HasName) Q (section (codes "out") var v) _ (section_holds HasName (codes "out") var var_holds v)
    (λ outputs w po. then_holds (Each HasName) Q (section (codes "var") var w) _ (section_holds HasName (codes "var") var var_holds w)
    (λ vars y pv. then_holds (Each MemHasName) Q (section (codes "mem") mem y) _ (section_holds MemHasName (codes "mem") mem mem_holds y)
    (λ mems z pm. then_holds (Each InstHasName) Q (section (codes "inst") inst z) _ (section_holds InstHasName (codes "inst") inst inst_holds z)
    (λ insts q pn. after Q (fixed (codes "step") q) _ (λ u t. then_holds (StepsFit 301) Q (steps_within 301 t) _ (within_holds 301 t)
    (λ ss k ps. after Q (fixed (codes "end") k) _ (λ u l. record { name = p; inputs = pi; outputs = po; vars = pv; mems = pm; insts = pn; step_texts = ps.0; deep = deep_of ss ps.1 }))))))))))
  where
    deep_by : (d : ℕ) (ss : Steps) → IsDeep (suc d) ss → depth (commands ss) ≤ d
    deep_by d ss h = h

    deep_of : (ss : Steps) → IsDeep 301 ss → depth (commands ss) ≤ 300
    deep_of ss h = deep_by 300 ss h

all_holds : (f : File) (ws : Words) → IsFileText f → Holds IsFileText (all_read f ws)
all_holds f [] h = h
all_holds f (w ∷ ws) h = tt

file_holds : (ws : Words) → Holds IsFileText (read_file ws)
file_holds ws =
    after IsFileText (fixed (codes "obc") ws) _ (λ u r. after IsFileText (fixed (codes "1") r) _ (λ u s. then_holds (Each IsTypeText) IsFileText (types s) _ (many_holds IsTypeText (is_this (codes "type")) type_declaration type_holds [] s tt)
    (λ ts v p. then_holds (Each IsMachineText) IsFileText (machines v) _ (many_holds IsMachineText (is_this (codes "machine")) machine machine_holds [] v tt)
    (λ ms w q. all_holds (record { types = ts; machines = ms }) w (record { types = p; machines = q })))))

-- what is read as a file is the text of one
pub file_read : (ws : Words) (f : File) (rest : Words) → read_file ws ≡ done f rest → IsFileText f
file_read ws f rest e = subst (Holds IsFileText) e (file_holds ws)
