-- Lists whose words are passed one by one.
use Rattle.std.proofs.Common.{◌≡◌, ℕ, zero, suc, ◌+◌, ◌<◌, ◌≤◌, Bool, true, false, not, ◌&&◌, map, List, [], ◌∷◌, ◌++◌, length, drop, get_or, nat_lt, nat_le, is_some, Option, Some, refl, sym, ap, ◌∙◌, arith}
use Rattle.std.proofs.Math.Numerals.{add-one}
use Rattle.std.proofs.lemmas.Bool.Decides.{nat_tests}
use Rattle.hp_base.specs.declared.ty.Ty.{Ty}
use Rattle.hp_obc.specs.declared.command.Arg.{Arg}
use Rattle.hp_obc.specs.declared.command.ObcOp.{ObcOp}
use Rattle.hp_obc.specs.declared.machine.Var.{Var}
use Rattle.hp_obc.specs.declared.machine.Mem.{Mem}
use Rattle.hp_obc.specs.Machines.{ObcType}
use Rattle.hp_obctext.specs.declared.found.Found.{Found}
use Rattle.hp_base.specs.declared.ty.Const.{Const}
use Rattle.hp_base.specs.declared.ty.Const.TheVariants as constant
use Rattle.hp_obctext.specs.declared.steps.Step.{Step}
use Rattle.hp_obctext.specs.declared.steps.Branch.{Branch}
use Rattle.hp_obctext.specs.StepView.{step_seen, branch_seen, size_of_steps, size_of_step, size_of_branches}
use Rattle.hp_obctext.specs.Files.{Text, steps_of, branches_of}
use Rattle.std.proofs.lemmas.List.{drop-map}
use Rattle.hp_obctext.specs.Breaches.{passed_one, after}
use Rattle.hp_base.specs.Known.Known.{lookup, with_entry}
use Rattle.hp_obctext.specs.Rules.{Types, Table, Context, is_new, comma, is_empty, behind, is_known, agree, const_ty, arg_ty, in_constructors, with_constructors, in_type, with_type, in_types, with_types, in_vars, with_vars, in_mems, with_mems, in_insts, with_insts, with_instance, wanted, in_args, is_output, with_output, in_outs, is_input, in_inputs, in_steps, in_step, in_branches, is_next, same_const, in_machine, in_machines}
use Rattle.hp_obctext.proofs.BreachLaws.{after_none, after_next, after_more}
use Rattle.hp_obctext.proofs.Writing.{drop-next, drop-end}

-- what stands behind an element
behind_suc : {A : Type 0} (xs : List A) (i : ℕ) → behind (drop i xs) ≡ drop (suc i) xs
behind_suc [] zero = refl
behind_suc [] (suc i) = refl
behind_suc (x ∷ xs) zero = refl
behind_suc (x ∷ xs) (suc i) = behind_suc xs i

pub behind-drop : {A : Type 0} (xs : List A) (i : ℕ) → behind (drop i xs) ≡ drop (i + 1) xs
behind-drop xs i = behind_suc xs i ∙ ap (λ j. drop j xs) (sym (add-one i))

none_left : (i : ℕ) → true ≡ nat_le 0 i
none_left i = grind (arith, nat_tests)

some_left : (n : ℕ) → false ≡ nat_le (suc n) 0
some_left n = grind (arith, nat_tests)

one_less : (m n : ℕ) → nat_le m n ≡ nat_le (suc m) (suc n)
one_less m n = grind (arith, nat_tests)

-- nothing is left where as many were passed as there are
pub empty-drop : {A : Type 0} (xs : List A) (i : ℕ) → is_empty (drop i xs) ≡ nat_le (length xs) i
empty-drop [] i = ap is_empty (drop-end [] i (omega arith)) ∙ none_left i
empty-drop (x ∷ xs) zero = some_left (length xs)
empty-drop (x ∷ xs) (suc i) = empty-drop xs i ∙ one_less (length xs) i

-- ---- types

pub constructors-next : (f : Found) (t : ObcType) (cons : Table ObcType) (xs : List (List ℕ)) (i : ℕ) (x : List ℕ) → i < length xs → x ≡ get_or xs i x →
    after f (in_constructors t i cons (drop i xs)) ≡ after (passed_one (passed_one f true) (is_new cons x && nat_lt i 64)) (in_constructors t (i + 1) (with_entry cons x t) (drop (i + 1) xs))
constructors-next f t cons xs i x h p =
    ap (λ rest. after f (in_constructors t i cons rest)) (drop-next xs i x h p)
    ∙ after_next f true ((is_new cons x && nat_lt i 64) ∷ in_constructors t (suc i) (with_entry cons x t) (drop (i + 1) xs))
    ∙ after_next (passed_one f true) (is_new cons x && nat_lt i 64) (in_constructors t (suc i) (with_entry cons x t) (drop (i + 1) xs))
    ∙ ap (λ j. after (passed_one (passed_one f true) (is_new cons x && nat_lt i 64)) (in_constructors t j (with_entry cons x t) (drop (i + 1) xs))) (sym (add-one i))

pub with_constructors-next : (t : ObcType) (cons : Table ObcType) (xs : List (List ℕ)) (i : ℕ) (x : List ℕ) → i < length xs → x ≡ get_or xs i x →
    with_constructors t cons (drop i xs) ≡ with_constructors t (with_entry cons x t) (drop (i + 1) xs)
with_constructors-next t cons xs i x h p = ap (with_constructors t cons) (drop-next xs i x h p)

pub types-next : (f : Found) (ts : Types) (xs : List ObcType) (i : ℕ) (t : ObcType) → i < length xs → t ≡ get_or xs i t →
    after f (in_types ts (drop i xs)) ≡ after (after f (in_type ts t)) (in_types (with_type ts t) (drop (i + 1) xs))
types-next f ts xs i t h p = ap (λ rest. after f (in_types ts rest)) (drop-next xs i t h p) ∙ after_more f (in_type ts t) (in_types (with_type ts t) (drop (i + 1) xs))

pub with_types-next : (ts : Types) (xs : List ObcType) (i : ℕ) (t : ObcType) → i < length xs → t ≡ get_or xs i t → with_types ts (drop i xs) ≡ with_types (with_type ts t) (drop (i + 1) xs)
with_types-next ts xs i t h p = ap (with_types ts) (drop-next xs i t h p)

-- ---- declarations

pub vars-next : (f : Found) (ts : Types) (first : Bool) (vars : Table Ty) (xs : List Var) (i : ℕ) (v : Var) → i < length xs → v ≡ get_or xs i v →
    after f (in_vars ts first vars (drop i xs)) ≡ after (passed_one (passed_one (passed_one (after f (comma first)) (is_new vars v.name)) true) (is_known ts v.ty)) (in_vars ts false (with_entry vars v.name v.ty) (drop (i + 1) xs))
vars-next f ts first vars xs i v h p =
    let rest = in_vars ts false (with_entry vars v.name v.ty) (drop (i + 1) xs) in
    ap (λ more. after f (in_vars ts first vars more)) (drop-next xs i v h p)
    ∙ after_more f (comma first ++ is_new vars v.name ∷ true ∷ is_known ts v.ty ∷ []) rest
    ∙ ap (λ g. after g rest)
    (after_more f (comma first) (is_new vars v.name ∷ true ∷ is_known ts v.ty ∷ []) ∙ after_next (after f (comma first)) (is_new vars v.name) (true ∷ is_known ts v.ty ∷ [])
    ∙ after_next (passed_one (after f (comma first)) (is_new vars v.name)) true (is_known ts v.ty ∷ [])
    ∙ after_next (passed_one (passed_one (after f (comma first)) (is_new vars v.name)) true) (is_known ts v.ty) [] ∙ after_none _)

pub with_vars-next : (vars : Table Ty) (xs : List Var) (i : ℕ) (v : Var) → i < length xs → v ≡ get_or xs i v → with_vars vars (drop i xs) ≡ with_vars (with_entry vars v.name v.ty) (drop (i + 1) xs)
with_vars-next vars xs i v h p = ap (with_vars vars) (drop-next xs i v h p)

pub mems-next : (f : Found) (ts : Types) (first : Bool) (vars : Table Ty) (xs : List Mem) (i : ℕ) (v : Mem) → i < length xs → v ≡ get_or xs i v →
    after f (in_mems ts first vars (drop i xs))
    ≡ after (passed_one (passed_one (passed_one (passed_one (passed_one (after f (comma first)) (is_new vars v.name)) true) (is_known ts v.ty)) true) (agree (const_ty ts v.first) (Some v.ty)))
    (in_mems ts false (with_entry vars v.name v.ty) (drop (i + 1) xs))
mems-next f ts first vars xs i v h p =
    let rest = in_mems ts false (with_entry vars v.name v.ty) (drop (i + 1) xs) in
    let a = is_new vars v.name in
    let b = is_known ts v.ty in
    let d = agree (const_ty ts v.first) (Some v.ty) in
    let g = after f (comma first) in
    ap (λ more. after f (in_mems ts first vars more)) (drop-next xs i v h p)
    ∙ after_more f (comma first ++ a ∷ true ∷ b ∷ true ∷ d ∷ []) rest
    ∙ ap (λ g. after g rest)
    (after_more f (comma first) (a ∷ true ∷ b ∷ true ∷ d ∷ []) ∙ after_next g a (true ∷ b ∷ true ∷ d ∷ []) ∙ after_next (passed_one g a) true (b ∷ true ∷ d ∷ [])
    ∙ after_next (passed_one (passed_one g a) true) b (true ∷ d ∷ []) ∙ after_next (passed_one (passed_one (passed_one g a) true) b) true (d ∷ [])
    ∙ after_next (passed_one (passed_one (passed_one (passed_one g a) true) b) true) d [] ∙ after_none _)

pub with_mems-next : (vars : Table Ty) (xs : List Mem) (i : ℕ) (v : Mem) → i < length xs → v ≡ get_or xs i v → with_mems vars (drop i xs) ≡ with_mems (with_entry vars v.name v.ty) (drop (i + 1) xs)
with_mems-next vars xs i v h p = ap (with_mems vars) (drop-next xs i v h p)

pub insts-next : (f : Found) (machines : Table Text) (first : Bool) (insts : Table Text) (xs : List (List ℕ × List ℕ)) (i : ℕ) (v : List ℕ × List ℕ) → i < length xs → v ≡ get_or xs i v →
    after f (in_insts machines first insts (drop i xs))
    ≡ after (passed_one (passed_one (passed_one (after f (comma first)) (is_new insts v.0)) true) (is_some (lookup machines v.1))) (in_insts machines false (with_instance insts v.0 (lookup machines v.1)) (drop (i + 1) xs))
insts-next f machines first insts xs i v h p =
    let rest = in_insts machines false (with_instance insts v.0 (lookup machines v.1)) (drop (i + 1) xs) in
    let a = is_new insts v.0 in
    let b = is_some (lookup machines v.1) in
    let g = after f (comma first) in
    ap (λ more. after f (in_insts machines first insts more)) (drop-next xs i v h p)
    ∙ after_more f (comma first ++ a ∷ true ∷ b ∷ []) rest
    ∙ ap (λ g. after g rest)
    (after_more f (comma first) (a ∷ true ∷ b ∷ []) ∙ after_next g a (true ∷ b ∷ []) ∙ after_next (passed_one g a) true (b ∷ []) ∙ after_next (passed_one (passed_one g a) true) b [] ∙ after_none _)

pub with_insts-next : (machines insts : Table Text) (xs : List (List ℕ × List ℕ)) (i : ℕ) (v : List ℕ × List ℕ) → i < length xs → v ≡ get_or xs i v →
    with_insts machines insts (drop i xs) ≡ with_insts machines (with_instance insts v.0 (lookup machines v.1)) (drop (i + 1) xs)
with_insts-next machines insts xs i v h p = ap (with_insts machines insts) (drop-next xs i v h p)

-- one round over instances
pub insts_step : (f0 f1 f2 f3 f4 : Found) (machines : Table Text) (first : Bool) (known new : Table Text) (xs : List (List ℕ × List ℕ)) (i : ℕ) (v : List ℕ × List ℕ) (h1 h2 : Bool) (g : Option Text) →
    i < length xs → v ≡ get_or xs i v → f1 ≡ after f0 (comma first) → h1 ≡ is_some (lookup known v.0) → f2 ≡ passed_one f1 (not h1) → f3 ≡ passed_one f2 true →
    h2 ≡ is_some (lookup machines v.1) → f4 ≡ passed_one f3 h2 → g ≡ lookup machines v.1 → new ≡ with_instance known v.0 g →
    after f4 (in_insts machines false new (drop (i + 1) xs)) ≡ after f0 (in_insts machines first known (drop i xs))
insts_step f0 f1 f2 f3 f4 machines first known new xs i v h1 h2 g h p q1 k1 q2 q3 k2 q4 k3 q5 =
    let rest = drop (i + 1) xs in
    let e : f4 ≡ passed_one (passed_one (passed_one (after f0 (comma first)) (is_new known v.0)) true) (is_some (lookup machines v.1)) =
    q4 ∙ ap (passed_one f3) k2
    ∙ ap (λ f. passed_one f (is_some (lookup machines v.1))) (q3 ∙ ap (λ f. passed_one f true) (q2 ∙ ap (λ b. passed_one f1 (not b)) k1 ∙ ap (λ f. passed_one f (is_new known v.0)) q1)) in
    ap (λ f. after f (in_insts machines false new rest)) e
    ∙ ap (λ k. after (passed_one (passed_one (passed_one (after f0 (comma first)) (is_new known v.0)) true) (is_some (lookup machines v.1))) (in_insts machines false k rest)) (q5 ∙ ap (with_instance known v.0) k3)
    ∙ sym (insts-next f0 machines first known xs i v h p)

pub insts_known_step : (machines known new : Table Text) (xs : List (List ℕ × List ℕ)) (i : ℕ) (v : List ℕ × List ℕ) (g : Option Text) →
    i < length xs → v ≡ get_or xs i v → g ≡ lookup machines v.1 → new ≡ with_instance known v.0 g → with_insts machines new (drop (i + 1) xs) ≡ with_insts machines known (drop i xs)
insts_known_step machines known new xs i v g h p k q =
    ap (λ t. with_insts machines t (drop (i + 1) xs)) (q ∙ ap (with_instance known v.0) k) ∙ sym (with_insts-next machines known xs i v h p)

-- ---- steps

pub args-next : (f : Found) (c : Context) (op : ObcOp) (target first : Option Ty) (xs : List Arg) (i : ℕ) (a : Arg) → i < length xs → a ≡ get_or xs i a →
    after f (in_args c op target first i (drop i xs)) ≡ after (passed_one f (agree (arg_ty c a) (wanted op target first i))) (in_args c op target first (i + 1) (drop (i + 1) xs))
args-next f c op target first xs i a h p =
    ap (λ rest. after f (in_args c op target first i rest)) (drop-next xs i a h p)
    ∙ after_next f (agree (arg_ty c a) (wanted op target first i)) (in_args c op target first (suc i) (drop (i + 1) xs))
    ∙ ap (λ j. after (passed_one f (agree (arg_ty c a) (wanted op target first i))) (in_args c op target first j (drop (i + 1) xs))) (sym (add-one i))

pub outs-next : (f : Found) (c : Context) (seen : Table Ty) (xs : List (List ℕ)) (os : List Var) (i : ℕ) (x : List ℕ) → i < length xs → x ≡ get_or xs i x →
    after f (in_outs c seen (drop i xs) (drop i os)) ≡ after (passed_one f (is_output c seen x (drop i os))) (in_outs c (with_output seen x (drop i os)) (drop (i + 1) xs) (drop (i + 1) os))
outs-next f c seen xs os i x h p =
    ap (λ rest. after f (in_outs c seen rest (drop i os))) (drop-next xs i x h p)
    ∙ after_next f (is_output c seen x (drop i os)) (in_outs c (with_output seen x (drop i os)) (drop (i + 1) xs) (behind (drop i os)))
    ∙ ap (λ more. after (passed_one f (is_output c seen x (drop i os))) (in_outs c (with_output seen x (drop i os)) (drop (i + 1) xs) more)) (behind-drop os i)

pub outs-end : (f : Found) (c : Context) (seen : Table Ty) (xs : List (List ℕ)) (os : List Var) (i : ℕ) → i ≡ length xs → after f (in_outs c seen (drop i xs) (drop i os)) ≡ passed_one f (nat_le (length os) (length xs))
outs-end f c seen xs os i h =
    ap (λ rest. after f (in_outs c seen rest (drop i os))) (drop-end xs i (omega arith))
    ∙ after_next f (is_empty (drop i os)) [] ∙ after_none _ ∙ ap (passed_one f) (empty-drop os i ∙ ap (nat_le (length os)) h)

pub inputs-next : (f : Found) (c : Context) (xs : List Arg) (os : List Var) (i : ℕ) (x : Arg) → i < length xs → x ≡ get_or xs i x →
    after f (in_inputs c (drop i xs) (drop i os)) ≡ after (passed_one f (is_input c x (drop i os))) (in_inputs c (drop (i + 1) xs) (drop (i + 1) os))
inputs-next f c xs os i x h p =
    ap (λ rest. after f (in_inputs c rest (drop i os))) (drop-next xs i x h p)
    ∙ after_next f (is_input c x (drop i os)) (in_inputs c (drop (i + 1) xs) (behind (drop i os)))
    ∙ ap (λ more. after (passed_one f (is_input c x (drop i os))) (in_inputs c (drop (i + 1) xs) more)) (behind-drop os i)

pub inputs-end : (f : Found) (c : Context) (xs : List Arg) (os : List Var) (i : ℕ) → i ≡ length xs → after f (in_inputs c (drop i xs) (drop i os)) ≡ passed_one f (nat_le (length os) (length xs))
inputs-end f c xs os i h =
    ap (λ rest. after f (in_inputs c rest (drop i os))) (drop-end xs i (omega arith))
    ∙ after_next f (is_empty (drop i os)) [] ∙ after_none _ ∙ ap (passed_one f) (empty-drop os i ∙ ap (nat_le (length os)) h)

pub steps-next : (f : Found) (c : Context) (ss : List Step) (i : ℕ) (s : Step) → i < length ss → s ≡ get_or ss i s →
    after f (in_steps c (steps_of (map step_seen (drop i ss)))) ≡ after (after f (in_step c (step_seen s))) (in_steps c (steps_of (map step_seen (drop (i + 1) ss))))
steps-next f c ss i s h p =
    ap (λ rest. after f (in_steps c (steps_of (map step_seen rest)))) (drop-next ss i s h p) ∙ after_more f (in_step c (step_seen s)) (in_steps c (steps_of (map step_seen (drop (i + 1) ss))))

pub branches-next : (f : Found) (c : Context) (labels : List Const) (bs : List Branch) (i : ℕ) (b : Branch) → i < length bs → b ≡ get_or bs i b →
    after f (in_branches c (drop i labels) (branches_of (map branch_seen (drop i bs))))
    ≡ after (after (passed_one (passed_one f true) (is_next b.label (drop i labels))) (in_steps c b.steps)) (in_branches c (drop (i + 1) labels) (branches_of (map branch_seen (drop (i + 1) bs))))
branches-next f c labels bs i b h p =
    let rest = branches_of (map branch_seen (drop (i + 1) bs)) in
    let holds = is_next b.label (drop i labels) in
    ap (λ more. after f (in_branches c (drop i labels) (branches_of (map branch_seen more)))) (drop-next bs i b h p)
    ∙ after_more f (true ∷ holds ∷ in_steps c b.steps) (in_branches c (behind (drop i labels)) rest)
    ∙ ap (λ g. after g (in_branches c (behind (drop i labels)) rest)) (after_next f true (holds ∷ in_steps c b.steps) ∙ after_next (passed_one f true) holds (in_steps c b.steps))
    ∙ ap (λ ls. after (after (passed_one (passed_one f true) holds) (in_steps c b.steps)) (in_branches c ls rest)) (behind-drop labels i)

pub branches-end : (f : Found) (c : Context) (labels : List Const) (bs : List Branch) (i : ℕ) → i ≡ length bs →
    after f (in_branches c (drop i labels) (branches_of (map branch_seen (drop i bs)))) ≡ passed_one f (nat_le (length labels) (length bs))
branches-end f c labels bs i h =
    ap (λ rest. after f (in_branches c (drop i labels) (branches_of (map branch_seen rest)))) (drop-end bs i (omega arith))
    ∙ after_next f (is_empty (drop i labels)) [] ∙ after_none _ ∙ ap (passed_one f) (empty-drop labels i ∙ ap (nat_le (length labels)) h)

size-positive : (ss : List Step) → 0 < size_of_steps (steps_of (map step_seen ss))
size-positive [] = omega arith
size-positive (s ∷ ss) = omega (arith, size-positive ss)

pub size-at_step : (ss : List Step) (i : ℕ) (d : Step) → i < length ss → size_of_step (step_seen (get_or ss i d)) < size_of_steps (steps_of (map step_seen ss))
size-at_step [] i d h = absurd (omega arith)
size-at_step (s ∷ ss) zero d h = omega (arith, size-positive ss)
size-at_step (s ∷ ss) (suc i) d h = omega (arith, size-at_step ss i d (omega arith))

pub size-at_branch : (bs : List Branch) (i : ℕ) (d : Branch) → i < length bs → size_of_steps (get_or bs i d).steps ≤ size_of_branches (branches_of (map branch_seen bs))
size-at_branch [] i d h = absurd (omega arith)
size-at_branch (b ∷ bs) zero d h = omega arith
size-at_branch (b ∷ bs) (suc i) d h = omega (arith, size-at_branch bs i d (omega arith))

-- the values for arms
pub bools_end : (i : ℕ) (c : Const) → 2 ≤ i → is_next c (drop i (constant.B false ∷ constant.B true ∷ [])) ≡ false
bools_end i c h = ap (is_next c) (drop-end (constant.B false ∷ constant.B true ∷ []) i h)

pub names_next : (names : List (List ℕ)) (i : ℕ) (x : List ℕ) (c : Const) → i < length names → x ≡ get_or names i x → is_next c (drop i (map constant.E names)) ≡ same_const (constant.E x) c
names_next names i x c h p = ap (is_next c) (drop-map constant.E i names ∙ ap (map constant.E) (drop-next names i x h p))

pub names_end : (names : List (List ℕ)) (i : ℕ) (c : Const) → length names ≤ i → is_next c (drop i (map constant.E names)) ≡ false
names_end names i c h = ap (is_next c) (drop-map constant.E i names ∙ ap (map constant.E) (drop-end names i h))

pub machines-next : (f : Found) (ts : Types) (known : Table Text) (xs : List Text) (i : ℕ) (m : Text) → i < length xs → m ≡ get_or xs i m →
    after f (in_machines ts known (drop i xs)) ≡ after (after f (in_machine ts known m)) (in_machines ts (with_entry known m.name m) (drop (i + 1) xs))
machines-next f ts known xs i m h p = ap (λ rest. after f (in_machines ts known rest)) (drop-next xs i m h p) ∙ after_more f (in_machine ts known m) (in_machines ts (with_entry known m.name m) (drop (i + 1) xs))

-- the head of what is left
pub drop-at : {A : Type 0} (xs : List A) (i : ℕ) (x : A) → i < length xs → x ≡ get_or xs i x → drop i xs ≡ x ∷ drop (i + 1) xs
drop-at = drop-next

pub ruleset constructors = (after_none, constructors-next, with_constructors-next, drop-end)

pub ruleset types = (after_none, types-next, with_types-next, drop-end)

pub ruleset vars = (after_none, vars-next, with_vars-next, drop-end)

pub ruleset mems = (after_none, mems-next, with_mems-next, drop-end)

pub ruleset insts = (after_none, insts-next, with_insts-next, drop-end)

pub ruleset args = (after_none, args-next, drop-end)

pub ruleset output = (drop-next, drop-end)

pub ruleset outs = (outs-next, outs-end)

pub ruleset input = (drop-next, drop-end)

pub ruleset inputs = (inputs-next, inputs-end)

pub ruleset steps = (after_none, steps-next, drop-end, size-at_step)

pub ruleset branches = (branches-next, branches-end, size-at_branch)

pub ruleset labels = (bools_end, names_next, names_end)

pub ruleset machines = (after_none, machines-next, drop-end)
