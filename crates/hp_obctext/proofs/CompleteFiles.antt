-- A file is read from the words that spell it.
use Rattle.std.proofs.Common.{◌≡◌, ◌≤◌, ℕ, true, false, List, [], ◌∷◌, ◌++◌, length, codes, None, Some, refl, ap, subst, ◌∙◌, append_assoc, arith}
use Rattle.hp_obc.specs.declared.machine.Var.{Var}
use Rattle.hp_obc.specs.declared.machine.Mem.{Mem}
use Rattle.hp_obc.specs.Machines.{ObcType}
use Rattle.hp_obctext.specs.Files as file
use Rattle.hp_obctext.specs.Files.{Text, File, const_word, type_word, each, var_words, mem_words, inst_words, steps_words, constructors_words, type_words, machine_words, file_words}
use Rattle.hp_obctext.specs.Outcomes.{Words, done, refused, ◌>>=◌}
use Rattle.hp_obctext.specs.Reading.{one, many, is_ahead, is_this, section, var, mem, inst, steps_within, next_constructor, constructors, type_declaration, types, machine, machines, all_read, file as read_file}
use Rattle.hp_obctext.specs.Shapes.{Each, IsTypeText, IsMachineText, IsFileText}
use Rattle.hp_obctext.specs.Spelling.{name_of, constructor_of, ty_of, const_of}
use Rattle.hp_obctext.specs.Spells.{Takes, Spell}
use Rattle.hp_obctext.specs.Words.{Word, leading, fixed as plain, small, capital}
use Rattle.hp_obctext.proofs.Complete.{Gets, others, Anything, word_then, plain_then, leading_then, then_by, Without, ahead_leading, ahead_other, this_ahead, Starts, many_by, many_gets, NotClosed, section_gets}
use Rattle.hp_obctext.proofs.CompleteSteps.{NoStep, steps_get}
use Rattle.hp_obctext.proofs.CompleteWords.{name_means, constructor_means, ty_means, const_means}
use Rattle.hp_obctext.proofs.ListRounds.{var_falls, mem_falls, inst_falls, constructor_next, type_next}
use Rattle.hp_obctext.proofs.StepRounds.{machine_next}

-- ---- declarations

var_gets : (v : Var) → Gets var_words var Anything v
var_gets v us rest h n =
    let t = type_word v.ty ∷ [] in
    word_then small name_of v.name (name_means v.name) us (plain (codes ":") ∷ t) rest _ (done v rest) h (λ vs k. plain_then (codes ":") vs t rest _ (done v rest) k
    (λ vs k. word_then type_word ty_of v.ty (ty_means v.ty) vs [] rest _ (done v rest) k (λ vs k. ap (done v) k)))

mem_gets : (m : Mem) → Gets mem_words mem Anything m
mem_gets m us rest h n =
    let c = const_word m.first ∷ [] in
    let t = type_word m.ty ∷ plain (codes "=") ∷ c in
    word_then small name_of m.name (name_means m.name) us (plain (codes ":") ∷ t) rest _ (done m rest) h (λ vs k. plain_then (codes ":") vs t rest _ (done m rest) k
    (λ vs k. word_then type_word ty_of m.ty (ty_means m.ty) vs (plain (codes "=") ∷ c) rest _ (done m rest) k (λ vs k. plain_then (codes "=") vs c rest _ (done m rest) k
    (λ vs k. word_then const_word const_of m.first (const_means m.first) vs [] rest _ (done m rest) k (λ vs k. ap (done m) k)))))

inst_gets : (i : List ℕ × List ℕ) → Gets inst_words inst Anything i
inst_gets i us rest h n =
    let t = small i.1 ∷ [] in
    word_then small name_of i.0 (name_means i.0) us (plain (codes ":") ∷ t) rest _ (done i rest) h (λ vs k. plain_then (codes ":") vs t rest _ (done i rest) k
    (λ vs k. word_then small name_of i.1 (name_means i.1) vs [] rest _ (done i rest) k (λ vs k. ap (done i) k)))

vars_each : (vs : List Var) → Each (Gets var_words var Anything) vs
vars_each [] = tt
vars_each (v ∷ vs) = (var_gets v, vars_each vs)

mems_each : (ms : List Mem) → Each (Gets mem_words mem Anything) ms
mems_each [] = tt
mems_each (m ∷ ms) = (mem_gets m, mems_each ms)

insts_each : (is : List (List ℕ × List ℕ)) → Each (Gets inst_words inst Anything) is
insts_each [] = tt
insts_each (i ∷ is) = (inst_gets i, insts_each is)

vars_open : (vs : List Var) → Each (NotClosed var_words var var_falls) vs
vars_open [] = tt
vars_open (v ∷ vs) = (λ us ws rest h. ahead_other small name_of v.name (name_means v.name) (codes ")") refl us (others (var_words v ++ ws)) rest h, vars_open vs)

mems_open : (ms : List Mem) → Each (NotClosed mem_words mem mem_falls) ms
mems_open [] = tt
mems_open (m ∷ ms) = (λ us ws rest h. ahead_other small name_of m.name (name_means m.name) (codes ")") refl us (others (mem_words m ++ ws)) rest h, mems_open ms)

insts_open : (is : List (List ℕ × List ℕ)) → Each (NotClosed inst_words inst inst_falls) is
insts_open [] = tt
insts_open (i ∷ is) = (λ us ws rest h. ahead_other small name_of i.0 (name_means i.0) (codes ")") refl us (others (inst_words i ++ ws)) rest h, insts_open is)

vars_get : (title : List ℕ) (vs : List Var) → Gets (file.section title var_words) (section title var) Anything vs
vars_get title vs = section_gets var_words var var_falls title vs (vars_each vs) (vars_open vs)

mems_get : (ms : List Mem) → Gets (file.section (codes "mem") mem_words) (section (codes "mem") mem) Anything ms
mems_get ms = section_gets mem_words mem mem_falls (codes "mem") ms (mems_each ms) (mems_open ms)

insts_get : (is : List (List ℕ × List ℕ)) → Gets (file.section (codes "inst") inst_words) (section (codes "inst") inst) Anything is
insts_get is = section_gets inst_words inst inst_falls (codes "inst") is (insts_each is) (insts_open is)

-- ---- types

next_gets : (x : List ℕ) → Gets file.next_constructor next_constructor Anything x
next_gets x us rest h n =
    leading_then (codes "|") us (capital x ∷ []) rest (λ r. one constructor_of r.1) (done x rest) h (λ vs k. one_word vs k)
  where
    one_word : (vs : Words) → Takes vs (capital x ∷ []) rest → one constructor_of vs ≡ done x rest
    one_word [] k = absurd k
    one_word (v ∷ vs) k = ap (λ o. elim o [ Some b ↦ done b vs | None ↦ refused (v ∷ vs) ]) (constructor_means x v k.0) ∙ ap (done x) k.1

nexts_each : (xs : List (List ℕ)) → Each (Gets file.next_constructor next_constructor Anything) xs
nexts_each [] = tt
nexts_each (x ∷ xs) = (next_gets x, nexts_each xs)

nexts_start : (xs : List (List ℕ)) → Each (Starts file.next_constructor (is_this (codes "|"))) xs
nexts_start [] = tt
nexts_start (x ∷ xs) = (λ us ws rest h. ahead_leading (is_this (codes "|")) true (codes "|") refl us (others (file.next_constructor x ++ ws)) rest h, nexts_start xs)

abbrev NoBar : Words → Type 0
NoBar ws = Without (is_this (codes "|")) ws

constructors_get : (xs : List (List ℕ)) → 1 ≤ length xs → Gets constructors_words constructors NoBar xs
constructors_get [] s us rest h n = absurd (omega (arith, s))
constructors_get (x ∷ xs) s us rest h n =
    word_then capital constructor_of x (constructor_means x) us (each file.next_constructor xs) rest (λ c. many (is_this (codes "|")) next_constructor (c.0 ∷ []) c.1) (done (x ∷ xs) rest) h
    (λ vs k. many_by file.next_constructor (is_this (codes "|")) next_constructor constructor_next Anything (λ us e. tt) xs (nexts_each xs) (nexts_start xs) (x ∷ []) vs rest k tt n)

type_gets : (t : ObcType) → IsTypeText t → Gets type_words type_declaration NoBar t
type_gets t s us rest h n =
    let cs = constructors_words t.cons in
    leading_then (codes "type") us (small t.name ∷ plain (codes "=") ∷ cs) rest _ (done t rest) h
    (λ vs k. word_then small name_of t.name (name_means t.name) vs (plain (codes "=") ∷ cs) rest _ (done t rest) k
    (λ vs k. plain_then (codes "=") vs cs rest _ (done t rest) k
    (λ vs k. ap (λ o. o >>= λ cs. done (record { name = t.name; cons = cs.0 }) cs.1) (constructors_get t.cons s.some vs rest k n))))

types_each : (ts : List ObcType) → Each IsTypeText ts → Each (Gets type_words type_declaration NoBar) ts
types_each [] h = tt
types_each (t ∷ ts) h = (type_gets t h.0, types_each ts h.1)

types_start : (ts : List ObcType) → Each (Starts type_words (is_this (codes "type"))) ts
types_start [] = tt
types_start (t ∷ ts) = (λ us ws rest h. ahead_leading (is_this (codes "type")) true (codes "type") refl us (others (type_words t ++ ws)) rest h, types_start ts)

-- neither a type nor a constructor stands ahead
abbrev NoType : Words → Type 0
NoType ws = NoBar ws × Without (is_this (codes "type")) ws

types_get : (ts : List ObcType) → Each IsTypeText ts → Gets (each type_words) types NoType ts
types_get ts h = many_gets type_words (is_this (codes "type")) type_declaration type_next NoBar (this_ahead (codes "type") (is_this (codes "|")) refl) ts (types_each ts h) (types_start ts)

-- ---- machines

abbrev S : {A : Type 0} → List ℕ → (A → List Word) → List A → List Word
S = file.section

machine_gets : (m : Text) → IsMachineText m → Gets machine_words machine Anything m
machine_gets m s us rest h n =
    let o = done m rest in
    let last = leading (codes "end") ∷ [] in
    let w5 = leading (codes "step") ∷ (steps_words m.steps ++ last) in
    let w4 = S (codes "inst") inst_words m.insts ++ w5 in
    let w3 = S (codes "mem") mem_words m.mems ++ w4 in
    let w2 = S (codes "var") var_words m.vars ++ w3 in
    let w1 = S (codes "out") var_words m.outputs ++ w2 in
    let w0 = S (codes "in") var_words m.inputs ++ w1 in
    leading_then (codes "machine") us (small m.name ∷ w0) rest _ o
    (subst (λ ts. Takes us ts rest) (in_turn (leading (codes "machine")) (small m.name) (leading (codes "step")) (S (codes "in") var_words m.inputs) (S (codes "out") var_words m.outputs) (S (codes "var") var_words m.vars) (S (codes "mem") mem_words m.mems) (S (codes "inst") inst_words m.insts) (steps_words m.steps) last) h)
    (λ vs k. word_then small name_of m.name (name_means m.name) vs w0 rest _ o k
    (λ vs k. then_by (S (codes "in") var_words) (section (codes "in") var) Anything m.inputs (vars_get (codes "in") m.inputs) vs w1 rest _ o k (λ vs k. tt)
    (λ vs k. then_by (S (codes "out") var_words) (section (codes "out") var) Anything m.outputs (vars_get (codes "out") m.outputs) vs w2 rest _ o k (λ vs k. tt)
    (λ vs k. then_by (S (codes "var") var_words) (section (codes "var") var) Anything m.vars (vars_get (codes "var") m.vars) vs w3 rest _ o k (λ vs k. tt)
    (λ vs k. then_by (S (codes "mem") mem_words) (section (codes "mem") mem) Anything m.mems (mems_get m.mems) vs w4 rest _ o k (λ vs k. tt)
    (λ vs k. then_by (S (codes "inst") inst_words) (section (codes "inst") inst) Anything m.insts (insts_get m.insts) vs w5 rest _ o k (λ vs k. tt)
    (λ vs k. leading_then (codes "step") vs (steps_words m.steps ++ last) rest _ o k
    (λ vs k. then_by steps_words (steps_within 301) NoStep m.steps (steps_get m.steps s.step_texts s.deep) vs last rest _ o k (λ vs k. ahead_leading _ false (codes "end") refl vs [] rest k)
    (λ vs k. leading_then (codes "end") vs [] rest _ o k (λ vs k. ap (done m) k))))))))))
  where
    in_turn : (m x s : Word) (a b c d e f g : List Word) →
        (((((((m ∷ x ∷ a) ++ b) ++ c) ++ d) ++ e) ++ (s ∷ f)) ++ g) ≡ m ∷ x ∷ (a ++ (b ++ (c ++ (d ++ (e ++ (s ∷ (f ++ g)))))))
    in_turn m x s a b c d e f g = simp append_assoc

machines_each : (ms : List Text) → Each IsMachineText ms → Each (Gets machine_words machine Anything) ms
machines_each [] h = tt
machines_each (m ∷ ms) h = (machine_gets m h.0, machines_each ms h.1)

machines_start : (ms : List Text) → Each (Starts machine_words (is_this (codes "machine"))) ms
machines_start [] = tt
machines_start (m ∷ ms) = (λ us ws rest h. ahead_leading (is_this (codes "machine")) true (codes "machine") refl us (others (machine_words m ++ ws)) rest h, machines_start ms)

abbrev NoMachine : Words → Type 0
NoMachine ws = Unit {0} × Without (is_this (codes "machine")) ws

machines_get : (ms : List Text) → Each IsMachineText ms → Gets (each machine_words) machines NoMachine ms
machines_get ms h = many_gets machine_words (is_this (codes "machine")) machine machine_next Anything (λ us e. tt) ms (machines_each ms h) (machines_start ms)

-- behind the types stands a machine or nothing
no_type : (ms : List Text) (us : Words) → Takes us (each machine_words ms) [] → NoType us
no_type [] us h = (ap (is_ahead (is_this (codes "|"))) h, ap (is_ahead (is_this (codes "type"))) h)
no_type (m ∷ ms) us h = (ahead_leading (is_this (codes "|")) false (codes "machine") refl us (others (each machine_words (m ∷ ms))) [] h, ahead_leading (is_this (codes "type")) false (codes "machine") refl us (others (each machine_words (m ∷ ms))) [] h)

-- words that spell a file are read as the file
pub file_gets : (f : File) → IsFileText f → (us : Words) → Spell us (file_words f) → read_file us ≡ done f []
file_gets f s us h =
    let ts = each type_words f.types in
    let ms = each machine_words f.machines in
    plain_then (codes "obc") us (plain (codes "1") ∷ (ts ++ ms)) [] _ (done f []) h
    (λ vs k. plain_then (codes "1") vs (ts ++ ms) [] _ (done f []) k
    (λ vs k. then_by (each type_words) types NoType f.types (types_get f.types s.types) vs ms [] _ (done f []) k (no_type f.machines)
    (λ vs k. ap (λ o. o >>= λ ms. all_read (record { types = f.types; machines = ms.0 }) ms.1) (machines_get f.machines s.machines vs [] k (tt, refl)))))
