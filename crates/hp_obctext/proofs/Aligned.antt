-- The rules of form speak of each word of a file.
use Rattle.std.proofs.Common.{◌≡◌, ◌≤◌, ℕ, suc, Bool, true, false, List, [], ◌∷◌, ◌++◌, length, map, codes, Option, refl, ap, arith}
use Rattle.std.proofs.lemmas.List.{length-append}
use Rattle.hp_base.specs.declared.ty.Ty.{Ty}
use Rattle.hp_base.specs.declared.ty.Const.{Const}
use Rattle.hp_obc.specs.declared.command.Arg.{Arg}
use Rattle.hp_obc.specs.declared.command.ObcOp.{ObcOp}
use Rattle.hp_obc.specs.declared.command.ObcOp.TheVariants.{Copy, Not, Neg, Mux, And, Or, Xor, Imp, Eq, Ne, Lt, Le, Gt, Ge, Add, Sub, Mul, Div, Rem}
use Rattle.hp_obc.specs.declared.machine.Var.{Var}
use Rattle.hp_obc.specs.declared.machine.Mem.{Mem}
use Rattle.hp_obc.specs.Machines.{ObcType}
use Rattle.hp_obctext.specs.Files as file
use Rattle.hp_obctext.specs.Files.{Steps, Step, Branches, Text, File, done, and_then, set, call, restart, case_of, no_branch, more_branches, arg_word, each, listed, section, var_words, mem_words, inst_words, op_words, set_words, call_words, steps_words, step_words, branches_words, next_constructor, type_words, machine_words, file_words}
use Rattle.hp_base.specs.Known.Known.{lookup, with_entry}
use Rattle.hp_obctext.specs.Rules.{Table, Types, Context, in_section, in_constructors, in_type, with_type, in_types, with_types, no_types, in_vars, with_vars, in_mems, in_insts, with_instance, in_op, first_ty, in_args, with_output, in_outs, behind, in_inputs, inputs_of, outputs_of, in_call, labels_of_ty, in_steps, in_step, in_branches, context_of, in_machine, in_machines, in_file}
use Rattle.hp_obctext.specs.Shapes.{Each, IsTypeText, IsFileText}
use Rattle.hp_obctext.specs.Words.{Word, small}

-- two lists are equally long
abbrev Long : {A B : Type 0} → List A → List B → Type 0
Long xs ys = length xs ≡ length ys

both_long : {A B : Type 0} (xs us : List A) (ys vs : List B) → Long xs ys → Long us vs → Long (xs ++ us) (ys ++ vs)
both_long xs us ys vs h k = let e = length-append xs us in let f = length-append ys vs in omega (arith, e, f, h, k)

vars_rest : (ts : Types) (vars : Table Ty) (vs : List Var) → Long (in_vars ts false vars vs) (each (file.comma var_words) vs)
vars_rest ts vars [] = refl
vars_rest ts vars (v ∷ vs) = ap (λ n. suc (suc (suc (suc n)))) (vars_rest ts (with_entry vars v.name v.ty) vs)

vars_long : (ts : Types) (vars : Table Ty) (vs : List Var) → Long (in_vars ts true vars vs) (listed var_words vs)
vars_long ts vars [] = refl
vars_long ts vars (v ∷ vs) = ap (λ n. suc (suc (suc n))) (vars_rest ts (with_entry vars v.name v.ty) vs)

mems_rest : (ts : Types) (vars : Table Ty) (ms : List Mem) → Long (in_mems ts false vars ms) (each (file.comma mem_words) ms)
mems_rest ts vars [] = refl
mems_rest ts vars (m ∷ ms) = ap (λ n. suc (suc (suc (suc (suc (suc n)))))) (mems_rest ts (with_entry vars m.name m.ty) ms)

mems_long : (ts : Types) (vars : Table Ty) (ms : List Mem) → Long (in_mems ts true vars ms) (listed mem_words ms)
mems_long ts vars [] = refl
mems_long ts vars (m ∷ ms) = ap (λ n. suc (suc (suc (suc (suc n))))) (mems_rest ts (with_entry vars m.name m.ty) ms)

insts_rest : (machines insts : Table Text) (is : List (List ℕ × List ℕ)) → Long (in_insts machines false insts is) (each (file.comma inst_words) is)
insts_rest machines insts [] = refl
insts_rest machines insts (i ∷ is) = ap (λ n. suc (suc (suc (suc n)))) (insts_rest machines (with_instance insts i.0 (lookup machines i.1)) is)

insts_long : (machines insts : Table Text) (is : List (List ℕ × List ℕ)) → Long (in_insts machines true insts is) (listed inst_words is)
insts_long machines insts [] = refl
insts_long machines insts (i ∷ is) = ap (λ n. suc (suc (suc n))) (insts_rest machines (with_instance insts i.0 (lookup machines i.1)) is)

section_long : {A : Type 0} (vs : List Bool) (title : List ℕ) (words : A → List Word) (xs : List A) → Long vs (listed words xs) → Long (in_section vs) (section title words xs)
section_long vs title words xs h = ap (λ n. suc (suc n)) (both_long vs (true ∷ []) (listed words xs) (Rattle.hp_obctext.specs.Words.fixed (codes ")") ∷ []) h refl)

constructors_long : (t : ObcType) (j : ℕ) (cons : Table ObcType) (xs : List (List ℕ)) → Long (in_constructors t j cons xs) (each next_constructor xs)
constructors_long t j cons [] = refl
constructors_long t j cons (x ∷ xs) = ap (λ n. suc (suc n)) (constructors_long t (suc j) (with_entry cons x t) xs)

cons_long : (t : ObcType) (cons : Table ObcType) (xs : List (List ℕ)) → 1 ≤ length xs → suc (suc (length (in_constructors t 0 cons xs))) ≡ suc (suc (suc (length (file.constructors_words xs))))
cons_long t cons [] h = absurd (omega (arith, h))
cons_long t cons (x ∷ xs) h = ap (λ n. suc (suc (suc (suc n)))) (constructors_long t 1 (with_entry cons x t) xs)

type_long : (ts : Types) (t : ObcType) → IsTypeText t → Long (in_type ts t) (type_words t)
type_long ts t h = cons_long t ts.cons t.cons h.some

types_long : (ts : Types) (types : List ObcType) → Each IsTypeText types → Long (in_types ts types) (each type_words types)
types_long ts [] h = refl
types_long ts (t ∷ types) h = both_long (in_type ts t) (in_types (with_type ts t) types) (type_words t) (each type_words types) (type_long ts t h.0) (types_long (with_type ts t) types h.1)

op_long : (op : ObcOp) (target : Option Ty) → Long (in_op op target) (op_words op)
op_long Copy target = refl
op_long Not target = refl
op_long Neg target = refl
op_long Mux target = refl
op_long And target = refl
op_long Or target = refl
op_long Xor target = refl
op_long Imp target = refl
op_long Eq target = refl
op_long Ne target = refl
op_long Lt target = refl
op_long Le target = refl
op_long Gt target = refl
op_long Ge target = refl
op_long Add target = refl
op_long Sub target = refl
op_long Mul target = refl
op_long Div target = refl
op_long Rem target = refl

args_long : (c : Context) (op : ObcOp) (target first : Option Ty) (n : ℕ) (args : List Arg) → Long (in_args c op target first n args) (map arg_word args)
args_long c op target first n [] = refl
args_long c op target first n (a ∷ args) = ap suc (args_long c op target first (suc n) args)

outs_long : (c : Context) (seen : Table Ty) (xs : List (List ℕ)) (os : List Var) → length (in_outs c seen xs os) ≡ suc (length (map small xs))
outs_long c seen [] os = refl
outs_long c seen (x ∷ xs) os = ap suc (outs_long c (with_output seen x os) xs (behind os))

inputs_long : (c : Context) (args : List Arg) (is : List Var) → length (in_inputs c args is) ≡ suc (length (map arg_word args))
inputs_long c [] is = refl
inputs_long c (a ∷ args) is = ap suc (inputs_long c args (behind is))

call_long : (c : Context) (i : List ℕ) (outs : List (List ℕ)) (args : List Arg) → Long (in_call c i outs args) (call_words i outs args)
call_long c i outs args =
    let os = in_outs c [] outs (outputs_of (lookup c.insts i)) in
    let is = in_inputs c args (inputs_of (lookup c.insts i)) in
    let a = outs_long c [] outs (outputs_of (lookup c.insts i)) in
    let b = inputs_long c args (inputs_of (lookup c.insts i)) in
    ap (λ n. suc (suc (suc n))) (call_by os is (map small outs) (map arg_word args) (Rattle.hp_obctext.specs.Words.fixed (codes ")")) (Rattle.hp_obctext.specs.Words.fixed (codes "(")) a b)
  where
    call_by : (os is : List Bool) (xs ys : List Word) (close open_word : Word) → length os ≡ suc (length xs) → length is ≡ suc (length ys) → Long (os ++ true ∷ is) ((xs ++ close ∷ open_word ∷ ys) ++ close ∷ [])
    call_by os is xs ys close open_word a b =
        let e = length-append os (true ∷ is) in
        let f = length-append (xs ++ close ∷ open_word ∷ ys) (close ∷ []) in
        let g = length-append xs (close ∷ open_word ∷ ys) in
        omega (arith, e, f, g, a, b)

module _ (c : Context) where
  mutual
    steps_long : (ss : Steps) → Long (in_steps c ss) (steps_words ss)
    steps_long done = refl
    steps_long (and_then s ss) = both_long (in_step c s) (in_steps c ss) (step_words s) (steps_words ss) (step_long s) (steps_long ss)

    step_long : (s : Step) → Long (in_step c s) (step_words s)
    step_long (set x op args) =
        ap (λ n. suc (suc n)) (both_long (in_op op (lookup c.written x)) (in_args c op (lookup c.written x) (first_ty c args) 0 args) (op_words op) (map arg_word args) (op_long op (lookup c.written x)) (args_long c op (lookup c.written x) (first_ty c args) 0 args))
    step_long (call i outs args) = call_long c i outs args
    step_long (restart i) = refl
    step_long (case_of x bs) =
        let e = branches_long (labels_of_ty c.types (lookup c.vars x)) bs in
        let f = length-append (branches_words bs) (Rattle.hp_obctext.specs.Words.leading (codes "end") ∷ []) in
        ap (λ n. suc (suc n)) (omega (arith, e, f))

    branches_long : (labels : List Const) (bs : Branches) → length (in_branches c labels bs) ≡ suc (length (branches_words bs))
    branches_long labels no_branch = refl
    branches_long labels (more_branches k ss bs) =
        let e = branches_long (behind labels) bs in
        let d = steps_long ss in
        let f = length-append (in_steps c ss) (in_branches c (behind labels) bs) in
        let g = length-append (steps_words ss) (branches_words bs) in
        ap (λ n. suc (suc n)) (omega (arith, d, e, f, g))

machine_long : (ts : Types) (machines : Table Text) (m : Text) → Long (in_machine ts machines m) (machine_words m)
machine_long ts machines m =
    let v1 = with_vars [] m.inputs in
    let v2 = with_vars v1 m.outputs in
    let v3 = with_vars v2 m.vars in
    ap (λ n. suc (suc n)) (all_long
    (in_section (in_vars ts true [] m.inputs)) (in_section (in_vars ts true v1 m.outputs)) (in_section (in_vars ts true v2 m.vars)) (in_section (in_mems ts true v3 m.mems)) (in_section (in_insts machines true [] m.insts)) (in_steps (context_of ts machines m) m.steps)
    (section (codes "in") var_words m.inputs) (section (codes "out") var_words m.outputs) (section (codes "var") var_words m.vars) (section (codes "mem") mem_words m.mems) (section (codes "inst") inst_words m.insts) (steps_words m.steps)
    (Rattle.hp_obctext.specs.Words.leading (codes "step")) (Rattle.hp_obctext.specs.Words.leading (codes "end"))
    (section_long (in_vars ts true [] m.inputs) (codes "in") var_words m.inputs (vars_long ts [] m.inputs)) (section_long (in_vars ts true v1 m.outputs) (codes "out") var_words m.outputs (vars_long ts v1 m.outputs))
    (section_long (in_vars ts true v2 m.vars) (codes "var") var_words m.vars (vars_long ts v2 m.vars)) (section_long (in_mems ts true v3 m.mems) (codes "mem") mem_words m.mems (mems_long ts v3 m.mems))
    (section_long (in_insts machines true [] m.insts) (codes "inst") inst_words m.insts (insts_long machines [] m.insts)) (steps_long (context_of ts machines m) m.steps))
  where
    all_long : (a b c d e f : List Bool) (p q r s t u : List Word) (w v : Word) → Long a p → Long b q → Long c r → Long d s → Long e t → Long f u →
        Long (((((((a ++ b) ++ c) ++ d) ++ e)) ++ (true ∷ f)) ++ true ∷ []) ((((((p ++ q) ++ r) ++ s) ++ t) ++ (w ∷ u)) ++ v ∷ [])
    all_long a b c d e f p q r s t u w v ha hb hc hd he hf =
        both_long (((((a ++ b) ++ c) ++ d) ++ e) ++ (true ∷ f)) (true ∷ []) (((((p ++ q) ++ r) ++ s) ++ t) ++ (w ∷ u)) (v ∷ [])
        (both_long ((((a ++ b) ++ c) ++ d) ++ e) (true ∷ f) ((((p ++ q) ++ r) ++ s) ++ t) (w ∷ u)
        (both_long (((a ++ b) ++ c) ++ d) e (((p ++ q) ++ r) ++ s) t (both_long ((a ++ b) ++ c) d ((p ++ q) ++ r) s (both_long (a ++ b) c (p ++ q) r (both_long a b p q ha hb) hc) hd) he)
        (ap suc hf)) refl

machines_long : (ts : Types) (machines : Table Text) (ms : List Text) → Long (in_machines ts machines ms) (each machine_words ms)
machines_long ts machines [] = refl
machines_long ts machines (m ∷ ms) = both_long (in_machine ts machines m) (in_machines ts (with_entry machines m.name m) ms) (machine_words m) (each machine_words ms) (machine_long ts machines m) (machines_long ts (with_entry machines m.name m) ms)

-- there is a rule for each word
pub file_long : (f : File) → IsFileText f → length (in_file f) ≡ length (file_words f)
file_long f h =
    ap (λ n. suc (suc n)) (both_long (in_types no_types f.types) (in_machines (with_types no_types f.types) [] f.machines) (each type_words f.types) (each machine_words f.machines)
    (types_long no_types f.types h.types) (machines_long (with_types no_types f.types) [] f.machines))
