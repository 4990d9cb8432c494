-- Words of one form are of no other.
use Rattle.std.proofs.Common.{◌≡◌, ◌<◌, ℕ, suc, ◌⊎◌, inl, inr, Bool, true, false, List, [], ◌∷◌, get_or, length, sym, subst, refl, ap, ◌∙◌, arith}
use Rattle.std.specs.Prelude.{codes, Option, Some}
use Rattle.hp_arguments.specs.Words.{IsArgument}
use Rattle.hp_driver.specs.Command.{IsOnTraceBy, IsOnCertBy, IsRunOf, IsTellOf, IsExecOf, IsCheckOf, IsCompileOf, IsPastOf, IsProveOf, IsVerifyOf, IsSegmentOf, IsNoSegment, IsSweepOf, IsOverSource, IsOverContract, ReadsSource, IsOver, Writes}
use Rattle.hp_driver.specs.Outcome.{AsksToRun}
use Rattle.hp_tree.specs.declared.program.Item.{Item}

same_first : (x y : List ℕ) (xs ys : List (List ℕ)) → x ∷ xs ≡ y ∷ ys → x ≡ y
same_first x y xs ys e = cc

-- the same words have one name
one_name : (words : List (List ℕ)) (x y : List ℕ) (xs ys : List (List ℕ)) → words ≡ x ∷ xs → words ≡ y ∷ ys → x ≡ y
one_name words x y xs ys p q = same_first x y xs ys (sym p ∙ q)

-- the words of a check, behind its name
record IsChecking (words : List (List ℕ)) : Type 0 where
  behind : List (List ℕ)
  spelled : words ≡ codes "check" ∷ behind

checking : (words : List (List ℕ)) (file : List ℕ) (print : Bool) → IsCheckOf words file print → IsChecking words
checking words file false w = record { behind = file ∷ []; spelled = w.spelled }
checking words file true w = elim w.spelled [
  | inl p ↦ record { behind = file ∷ codes "--print" ∷ []; spelled = p }
  | inr p ↦ record { behind = codes "--print" ∷ file ∷ []; spelled = p }
]

-- the words of a run that tells, behind its name: three
record IsTelling (words : List (List ℕ)) : Type 0 where
  behind : List (List ℕ)
  spelled : words ≡ codes "run" ∷ behind
  three : length behind ≡ 3

telling : (words : List (List ℕ)) (file node : List ℕ) → IsTellOf words file node → IsTelling words
telling words file node w = elim w.spelled [
  | inl p ↦ record { behind = file ∷ node ∷ codes "--contract" ∷ []; spelled = p; three = refl }
  | inr q ↦ elim q [
    | inl p ↦ record { behind = file ∷ codes "--contract" ∷ node ∷ []; spelled = p; three = refl }
    | inr p ↦ record { behind = codes "--contract" ∷ file ∷ node ∷ []; spelled = p; three = refl }
  ]
]

tell_four : (words : List (List ℕ)) (file node : List ℕ) → IsTellOf words file node → length words ≡ 4
tell_four words file node w = let t = telling words file node w in ap length t.spelled ∙ ap suc t.three

module _ (words : List (List ℕ)) (a b x y : List ℕ) (w : IsTellOf words a b) where
  pub tell_exec : IsExecOf words x y → ⊥
  tell_exec q = let t = telling words a b w in let e : codes "run" ≡ codes "exec" = one_name words (codes "run") (codes "exec") t.behind (x ∷ y ∷ []) t.spelled q.spelled in cc

  pub tell_compile : IsCompileOf words x y → ⊥
  tell_compile q = let t = telling words a b w in let e : codes "run" ≡ codes "compile" = one_name words (codes "run") (codes "compile") t.behind (x ∷ y ∷ []) t.spelled q.spelled in cc

  pub tell_run : IsRunOf words x y → ⊥
  tell_run q =
      let four = tell_four words a b w in
      let three : length words ≡ 3 = ap length q.spelled in
      omega (arith, four, three)

  pub tell_check : (print : Bool) → IsCheckOf words x print → ⊥
  tell_check print q =
      let t = telling words a b w in
      let c = checking words x print q in
      let e : codes "run" ≡ codes "check" = one_name words (codes "run") (codes "check") t.behind c.behind t.spelled c.spelled in cc

tell_contract : (words : List (List ℕ)) (a b file node : List ℕ) → IsTellOf words a b → IsOverContract words file node → ⊥
tell_contract words a b file node w (IsOverContract.to_prove {cert = z} p) =
    let t = telling words a b w in
    let e : codes "run" ≡ codes "prove" = one_name words (codes "run") (codes "prove") t.behind (file ∷ node ∷ z ∷ []) t.spelled p.spelled in cc
tell_contract words a b file node w (IsOverContract.to_verify {cert = z} v) =
    let t = telling words a b w in
    let e : codes "run" ≡ codes "verify" = one_name words (codes "run") (codes "verify") t.behind (file ∷ node ∷ z ∷ []) t.spelled v.spelled in cc

module _ (words : List (List ℕ)) (a b x y : List ℕ) where
  pub run_exec : IsRunOf words a b → IsExecOf words x y → ⊥
  run_exec p q = let e : codes "run" ≡ codes "exec" = one_name words (codes "run") (codes "exec") (a ∷ b ∷ []) (x ∷ y ∷ []) p.spelled q.spelled in cc

  pub run_compile : IsRunOf words a b → IsCompileOf words x y → ⊥
  run_compile p q = let e : codes "run" ≡ codes "compile" = one_name words (codes "run") (codes "compile") (a ∷ b ∷ []) (x ∷ y ∷ []) p.spelled q.spelled in cc

  pub exec_compile : IsExecOf words a b → IsCompileOf words x y → ⊥
  exec_compile p q = let e : codes "exec" ≡ codes "compile" = one_name words (codes "exec") (codes "compile") (a ∷ b ∷ []) (x ∷ y ∷ []) p.spelled q.spelled in cc

module _ (words : List (List ℕ)) (file x y : List ℕ) (print : Bool) (w : IsCheckOf words file print) where
  pub check_run : IsRunOf words x y → ⊥
  check_run q =
      let c = checking words file print w in
      let e : codes "check" ≡ codes "run" = one_name words (codes "check") (codes "run") c.behind (x ∷ y ∷ []) c.spelled q.spelled in cc

  pub check_exec : IsExecOf words x y → ⊥
  check_exec q =
      let c = checking words file print w in
      let e : codes "check" ≡ codes "exec" = one_name words (codes "check") (codes "exec") c.behind (x ∷ y ∷ []) c.spelled q.spelled in cc

  pub check_compile : IsCompileOf words x y → ⊥
  check_compile q =
      let c = checking words file print w in
      let e : codes "check" ≡ codes "compile" = one_name words (codes "check") (codes "compile") c.behind (x ∷ y ∷ []) c.spelled q.spelled in cc

two_words : (name a b x y : List ℕ) → name ∷ a ∷ b ∷ [] ≡ name ∷ x ∷ y ∷ [] → (a ≡ x) × (b ≡ y)
two_words name a b x y e = (cc, cc)

-- words that name a file and something behind it name no others
pub same_words : (name : List ℕ) (words : List (List ℕ)) (file node x y : List ℕ) → IsOnTraceBy name words file node → IsOnTraceBy name words x y → (x ≡ file) × (y ≡ node)
same_words name words file node x y w v = two_words name x y file node (sym v.spelled ∙ w.spelled)

-- a command over source text that is no check and no compile is a run, and so on
module _ (words : List (List ℕ)) (file : List ℕ) where
  pub run_source : (node x : List ℕ) → IsRunOf words file node → IsOverSource words x → x ≡ file
  run_source node x w (IsOverSource.to_run {node = y} r) = (same_words (codes "run") words file node x y w r).0
  run_source node x w (IsOverSource.to_tell {node = y} r) = absurd (tell_run words x y file node r w)
  run_source node x w (IsOverSource.to_check print c) = absurd (check_run words x file node print c w)
  run_source node x w (IsOverSource.to_compile {out = y} c) = absurd (run_compile words file node x y w c)

  pub compile_source : (out x : List ℕ) → IsCompileOf words file out → IsOverSource words x → x ≡ file
  compile_source out x w (IsOverSource.to_run {node = y} r) = absurd (run_compile words x y file out r w)
  compile_source out x w (IsOverSource.to_tell {node = y} r) = absurd (tell_compile words x y file out r w)
  compile_source out x w (IsOverSource.to_check print c) = absurd (check_compile words x file out print c w)
  compile_source out x w (IsOverSource.to_compile {out = y} c) = (same_words (codes "compile") words file out x y w c).0

  pub exec_source : (node x : List ℕ) → IsExecOf words file node → IsOverSource words x → ⊥
  exec_source node x w (IsOverSource.to_run {node = y} r) = run_exec words x y file node r w
  exec_source node x w (IsOverSource.to_tell {node = y} r) = tell_exec words x y file node r w
  exec_source node x w (IsOverSource.to_check print c) = check_exec words x file node print c w
  exec_source node x w (IsOverSource.to_compile {out = y} c) = exec_compile words file node x y w c

-- ---- the words of commands over certificates are four, and those of all others fewer

contract_four : (words : List (List ℕ)) (file node : List ℕ) → IsOverContract words file node → length words ≡ 4
contract_four words file node (IsOverContract.to_prove w) = ap length w.spelled
contract_four words file node (IsOverContract.to_verify w) = ap length w.spelled

trace_three : (name : List ℕ) (words : List (List ℕ)) (a b : List ℕ) → IsOnTraceBy name words a b → length words ≡ 3
trace_three name words a b w = ap length w.spelled

check_few : (words : List (List ℕ)) (file : List ℕ) (print : Bool) → IsCheckOf words file print → length words < 4
check_few words file false w = let two : length words ≡ 2 = ap length w.spelled in omega (arith, two)
check_few words file true w = elim w.spelled [
  | inl p ↦ (let three : length words ≡ 3 = ap length p in omega (arith, three))
  | inr p ↦ (let three : length words ≡ 3 = ap length p in omega (arith, three))
]

few_contract : (words : List (List ℕ)) (file node : List ℕ) → length words < 4 → IsOverContract words file node → ⊥
few_contract words file node few k = let four = contract_four words file node k in omega (arith, few, four)

pub source_contract : (words : List (List ℕ)) (x file node : List ℕ) → IsOverSource words x → IsOverContract words file node → ⊥
source_contract words x file node (IsOverSource.to_run {node = y} w) k = few_contract words file node (let three = trace_three (codes "run") words x y w in omega (arith, three)) k
source_contract words x file node (IsOverSource.to_tell {node = y} w) k = tell_contract words x y file node w k
source_contract words x file node (IsOverSource.to_check print w) k = few_contract words file node (check_few words x print w) k
source_contract words x file node (IsOverSource.to_compile {out = y} w) k = few_contract words file node (let three = trace_three (codes "compile") words x y w in omega (arith, three)) k

pub exec_contract : (words : List (List ℕ)) (x y file node : List ℕ) → IsExecOf words x y → IsOverContract words file node → ⊥
exec_contract words x y file node w k =
    let three = trace_three (codes "exec") words x y w in
    let four = contract_four words file node k in
    omega (arith, three, four)

pub prove_verify : (words : List (List ℕ)) (file node cert x y z : List ℕ) → IsProveOf words file node cert → IsVerifyOf words x y z → ⊥
prove_verify words file node cert x y z p q =
    let e : codes "prove" ≡ codes "verify" = one_name words (codes "prove") (codes "verify") (file ∷ node ∷ cert ∷ []) (x ∷ y ∷ z ∷ []) p.spelled q.spelled in cc

four_words : (name a b c x y z : List ℕ) → name ∷ a ∷ b ∷ c ∷ [] ≡ name ∷ x ∷ y ∷ z ∷ [] → (a ≡ x) × (b ≡ y) × (c ≡ z)
four_words name a b c x y z e = (cc, cc, cc)

-- words that name two files and a node name no others
pub same_four : (name : List ℕ) (words : List (List ℕ)) (file node cert x y z : List ℕ) → IsOnCertBy name words file node cert → IsOnCertBy name words x y z → (x ≡ file) × (y ≡ node) × (z ≡ cert)
same_four name words file node cert x y z w v = four_words name x y z file node cert (sym v.spelled ∙ w.spelled)

module _ (words : List (List ℕ)) (file node cert x y : List ℕ) where
  pub prove_contract : IsProveOf words file node cert → IsOverContract words x y → (x ≡ file) × (y ≡ node)
  prove_contract w (IsOverContract.to_prove {cert = z} p) = let same = same_four (codes "prove") words file node cert x y z w p in (same.0, same.1)
  prove_contract w (IsOverContract.to_verify {cert = z} v) = absurd (prove_verify words file node cert x y z w v)

  pub verify_contract : IsVerifyOf words file node cert → IsOverContract words x y → (x ≡ file) × (y ≡ node)
  verify_contract w (IsOverContract.to_prove {cert = z} p) = absurd (prove_verify words x y z file node cert p w)
  verify_contract w (IsOverContract.to_verify {cert = z} v) = let same = same_four (codes "verify") words file node cert x y z w v in (same.0, same.1)

-- ---- the words of `past`

past_check : codes "past" ≡ codes "check" → ⊥
past_check e = let first : 112 ≡ 99 = ap (λ (w : List ℕ). get_or w 0 0) e in omega (arith, first)

past_exec_names : codes "past" ≡ codes "exec" → ⊥
past_exec_names e = let first : 112 ≡ 101 = ap (λ (w : List ℕ). get_or w 0 0) e in omega (arith, first)

module _ (words : List (List ℕ)) (a b : List ℕ) (w : IsPastOf words a b) where
  past_named : (x : List ℕ) (xs : List (List ℕ)) → words ≡ x ∷ xs → codes "past" ≡ x
  past_named x xs e = one_name words (codes "past") x (a ∷ b ∷ []) xs w.spelled e

  pub past_source : (file : List ℕ) → IsOverSource words file → ⊥
  past_source file (IsOverSource.to_run {node = y} r) = let e : codes "past" ≡ codes "run" = past_named (codes "run") (file ∷ y ∷ []) r.spelled in cc
  past_source file (IsOverSource.to_tell {node = y} r) =
      let four = tell_four words file y r in
      let three = trace_three (codes "past") words a b w in
      omega (arith, four, three)
  past_source file (IsOverSource.to_check print c) = let k = checking words file print c in past_check (past_named (codes "check") k.behind k.spelled)
  past_source file (IsOverSource.to_compile {out = y} c) = let e : codes "past" ≡ codes "compile" = past_named (codes "compile") (file ∷ y ∷ []) c.spelled in cc

  pub past_contract : (file node : List ℕ) → IsOverContract words file node → ⊥
  past_contract file node k = few_contract words file node (let three = trace_three (codes "past") words a b w in omega (arith, three)) k

  pub past_exec : (file node : List ℕ) → IsExecOf words file node → ⊥
  past_exec file node v = past_exec_names (past_named (codes "exec") (file ∷ node ∷ []) v.spelled)

-- ---- the words of runs that leave a checkpoint

segment_name : (words : List (List ℕ)) (file node : List ℕ) (from : Option (List ℕ)) (out : List ℕ) → IsSegmentOf words file node from out → (name : List ℕ) (behind : List (List ℕ)) → words ≡ name ∷ behind →
    (codes "save" ≡ name) ⊎ (codes "resume" ≡ name)
segment_name words file node from out (IsSegmentOf.to_save w) name behind e = inl (one_name words (codes "save") name (file ∷ node ∷ out ∷ []) behind w.spelled e)
segment_name words file node from out (IsSegmentOf.to_resume {mem = m} w) name behind e = inr (one_name words (codes "resume") name (file ∷ node ∷ m ∷ out ∷ []) behind w.spelled e)

other_name : (words : List (List ℕ)) (name : List ℕ) (behind : List (List ℕ)) → words ≡ name ∷ behind → (codes "save" ≡ name → ⊥) → (codes "resume" ≡ name → ⊥) → IsNoSegment words
other_name words name behind e f g file node from out s = elim (segment_name words file node from out s name behind e) [ inl p ↦ f p | inr p ↦ g p ]

save_exec : codes "save" ≡ codes "exec" → ⊥
save_exec e = let first : 115 ≡ 101 = ap (λ (w : List ℕ). get_or w 0 0) e in omega (arith, first)

save_past : codes "save" ≡ codes "past" → ⊥
save_past e = let first : 115 ≡ 112 = ap (λ (w : List ℕ). get_or w 0 0) e in omega (arith, first)

resume_verify : codes "resume" ≡ codes "verify" → ⊥
resume_verify e = let first : 114 ≡ 118 = ap (λ (w : List ℕ). get_or w 0 0) e in omega (arith, first)

-- they are of no other form
module _ (words : List (List ℕ)) (file x : List ℕ) where
  pub run_segment : IsRunOf words file x → IsNoSegment words
  run_segment w = other_name words (codes "run") (file ∷ x ∷ []) w.spelled (λ e. cc) (λ e. cc)

  pub tell_segment : IsTellOf words file x → IsNoSegment words
  tell_segment w = let t = telling words file x w in other_name words (codes "run") t.behind t.spelled (λ e. cc) (λ e. cc)

  pub compile_segment : IsCompileOf words file x → IsNoSegment words
  compile_segment w = other_name words (codes "compile") (file ∷ x ∷ []) w.spelled (λ e. cc) (λ e. cc)

  pub past_segment : IsPastOf words file x → IsNoSegment words
  past_segment w = other_name words (codes "past") (file ∷ x ∷ []) w.spelled save_past (λ e. cc)

  pub exec_segment : IsExecOf words file x → IsNoSegment words
  exec_segment w = other_name words (codes "exec") (file ∷ x ∷ []) w.spelled save_exec (λ e. cc)

  pub prove_segment : (cert : List ℕ) → IsProveOf words file x cert → IsNoSegment words
  prove_segment cert w = other_name words (codes "prove") (file ∷ x ∷ cert ∷ []) w.spelled (λ e. cc) (λ e. cc)

  pub verify_segment : (cert : List ℕ) → IsVerifyOf words file x cert → IsNoSegment words
  verify_segment cert w = other_name words (codes "verify") (file ∷ x ∷ cert ∷ []) w.spelled (λ e. cc) resume_verify

pub check_segment : (words : List (List ℕ)) (file : List ℕ) (print : Bool) → IsCheckOf words file print → IsNoSegment words
check_segment words file print w = let c = checking words file print w in other_name words (codes "check") c.behind c.spelled (λ e. cc) (λ e. cc)

pub sweep_segment : (words : List (List ℕ)) (tasks instants : ℕ) → IsSweepOf words tasks instants → IsNoSegment words
sweep_segment words tasks instants w = other_name words (codes "sweep") (w.tasks_word ∷ w.instants_word ∷ []) w.spelled (λ e. cc) (λ e. cc)

-- ---- what writes no file

module _ (words : List (List ℕ)) (file out : List ℕ) where
  pub run_writes : (node : List ℕ) → IsRunOf words file node → Writes words out → ⊥
  run_writes node w (Writes.machines {file = x} c) = run_compile words file node x out w c
  run_writes node w (Writes.a_source {file = x} p) = past_source words x out p file (IsOverSource.to_run w)
  run_writes node w (Writes.a_certificate {file = x} {node = y} p) = source_contract words file x y (IsOverSource.to_run w) (IsOverContract.to_prove p)
  run_writes node w (Writes.a_checkpoint {file = x} {node = y} {from = z} s) = run_segment words file node w x y z out s

  pub tell_writes : (node : List ℕ) → IsTellOf words file node → Writes words out → ⊥
  tell_writes node w (Writes.machines {file = x} c) = tell_compile words file node x out w c
  tell_writes node w (Writes.a_source {file = x} p) = past_source words x out p file (IsOverSource.to_tell w)
  tell_writes node w (Writes.a_certificate {file = x} {node = y} p) = source_contract words file x y (IsOverSource.to_tell w) (IsOverContract.to_prove p)
  tell_writes node w (Writes.a_checkpoint {file = x} {node = y} {from = z} s) = tell_segment words file node w x y z out s

  pub exec_writes : (node : List ℕ) → IsExecOf words file node → Writes words out → ⊥
  exec_writes node w (Writes.machines {file = x} c) = exec_compile words file node x out w c
  exec_writes node w (Writes.a_source {file = x} p) = past_exec words x out p file node w
  exec_writes node w (Writes.a_certificate {file = x} {node = y} p) = exec_contract words file node x y w (IsOverContract.to_prove p)
  exec_writes node w (Writes.a_checkpoint {file = x} {node = y} {from = z} s) = exec_segment words file node w x y z out s

  pub check_writes : (print : Bool) → IsCheckOf words file print → Writes words out → ⊥
  check_writes print w (Writes.machines {file = x} c) = check_compile words file x out print w c
  check_writes print w (Writes.a_source {file = x} p) = past_source words x out p file (IsOverSource.to_check print w)
  check_writes print w (Writes.a_certificate {file = x} {node = y} p) = source_contract words file x y (IsOverSource.to_check print w) (IsOverContract.to_prove p)
  check_writes print w (Writes.a_checkpoint {file = x} {node = y} {from = z} s) = check_segment words file print w x y z out s

  pub verify_writes : (node cert : List ℕ) → IsVerifyOf words file node cert → Writes words out → ⊥
  verify_writes node cert w (Writes.machines {file = x} c) = source_contract words x file node (IsOverSource.to_compile c) (IsOverContract.to_verify w)
  verify_writes node cert w (Writes.a_source {file = x} p) = past_contract words x out p file node (IsOverContract.to_verify w)
  verify_writes node cert w (Writes.a_certificate {file = x} {node = y} p) = prove_verify words x y out file node cert p w
  verify_writes node cert w (Writes.a_checkpoint {file = x} {node = y} {from = z} s) = verify_segment words file node cert w x y z out s

-- ---- machines that choose

-- machines that are run are made of a source text
pub running_source : (words : List (List ℕ)) (file node : List ℕ) (program : List Item) → AsksToRun words file node program → IsOverSource words file
running_source words file node program (AsksToRun.to_run w some) = IsOverSource.to_run w
running_source words file node program (AsksToRun.to_tell w) = IsOverSource.to_tell w

-- a check runs none
pub either_source : (words : List (List ℕ)) (file node : List ℕ) → IsRunOf words file node ⊎ IsTellOf words file node → IsOverSource words file
either_source words file node (inl w) = IsOverSource.to_run w
either_source words file node (inr w) = IsOverSource.to_tell w

pub check_runs : (words : List (List ℕ)) (file x node : List ℕ) (print : Bool) (program : List Item) → IsCheckOf words file print → AsksToRun words x node program → ⊥
check_runs words file x node print program w (AsksToRun.to_run r some) = check_run words file x node print w r
check_runs words file x node print program w (AsksToRun.to_tell r) = tell_check words x node file file r print w

-- nor does `compile`
pub compile_runs : (words : List (List ℕ)) (file out x node : List ℕ) (program : List Item) → IsCompileOf words file out → AsksToRun words x node program → ⊥
compile_runs words file out x node program w (AsksToRun.to_run r some) = run_compile words x node file out r w
compile_runs words file out x node program w (AsksToRun.to_tell r) = tell_compile words x node file out r w

-- ---- the words of a sweep

sweep_check : codes "sweep" ≡ codes "check" → ⊥
sweep_check e = let first : 115 ≡ 99 = ap (λ (w : List ℕ). get_or w 0 0) e in omega (arith, first)

module _ (words : List (List ℕ)) (tasks instants : ℕ) (w : IsSweepOf words tasks instants) where
  sweep_three : length words ≡ 3
  sweep_three = ap length w.spelled

  sweep_named : (x : List ℕ) (xs : List (List ℕ)) → words ≡ x ∷ xs → codes "sweep" ≡ x
  sweep_named x xs e = one_name words (codes "sweep") x (w.tasks_word ∷ w.instants_word ∷ []) xs w.spelled e

  pub sweep_source : (file : List ℕ) → IsOverSource words file → ⊥
  sweep_source file (IsOverSource.to_run {node = y} r) = let e : codes "sweep" ≡ codes "run" = sweep_named (codes "run") (file ∷ y ∷ []) r.spelled in cc
  sweep_source file (IsOverSource.to_tell {node = y} r) = let four = tell_four words file y r in let three = sweep_three in omega (arith, four, three)
  sweep_source file (IsOverSource.to_check print c) = let k = checking words file print c in sweep_check (sweep_named (codes "check") k.behind k.spelled)
  sweep_source file (IsOverSource.to_compile {out = y} c) = let e : codes "sweep" ≡ codes "compile" = sweep_named (codes "compile") (file ∷ y ∷ []) c.spelled in cc

  pub sweep_contract : (file node : List ℕ) → IsOverContract words file node → ⊥
  sweep_contract file node k = few_contract words file node (let three = sweep_three in omega (arith, three)) k

  pub sweep_exec : (file node : List ℕ) → IsExecOf words file node → ⊥
  sweep_exec file node v = let e : codes "sweep" ≡ codes "exec" = sweep_named (codes "exec") (file ∷ node ∷ []) v.spelled in cc

  pub sweep_past : (file out : List ℕ) → IsPastOf words file out → ⊥
  sweep_past file out v =
      let e = sweep_named (codes "past") (file ∷ out ∷ []) v.spelled in
      let first : 115 ≡ 112 = ap (λ (w : List ℕ). get_or w 0 0) e in
      omega (arith, first)

  pub sweep_over : (file : List ℕ) → IsOver words file → ⊥
  sweep_over file (IsOver.a_source (ReadsSource.of_program s)) = sweep_source file s
  sweep_over file (IsOver.a_source (ReadsSource.of_contract {node = y} k)) = sweep_contract file y k
  sweep_over file (IsOver.a_tree {out = y} v) = sweep_past file y v
  sweep_over file (IsOver.machines {node = y} v) = sweep_exec file y v
  sweep_over file (IsOver.a_certificate {source = x} {node = y} v) = sweep_contract x y (IsOverContract.to_verify v)
  sweep_over file (IsOver.a_segment {node = y} {out = z} {from = m} s) = sweep_segment words tasks instants w file y m z s
  sweep_over file (IsOver.a_checkpoint {source = x} {node = y} {out = z} s) = sweep_segment words tasks instants w x y (Some file) z s

  pub sweep_writes : (out : List ℕ) → Writes words out → ⊥
  sweep_writes out (Writes.machines {file = x} c) = sweep_source x (IsOverSource.to_compile c)
  sweep_writes out (Writes.a_source {file = x} v) = sweep_past x out v
  sweep_writes out (Writes.a_certificate {file = x} {node = y} p) = sweep_contract x y (IsOverContract.to_prove p)
  sweep_writes out (Writes.a_checkpoint {file = x} {node = y} {from = z} s) = sweep_segment words tasks instants w x y z out s

-- ---- the words of checks

one_word : (x y : List ℕ) → codes "check" ∷ x ∷ [] ≡ codes "check" ∷ y ∷ [] → x ≡ y
one_word x y e = cc

no_length : (a b x : List ℕ) → codes "check" ∷ a ∷ b ∷ [] ≡ codes "check" ∷ x ∷ [] → ⊥
no_length a b x e = absurd cc

-- the word is no argument
no_argument : (x : List ℕ) → x ≡ codes "--print" → IsArgument x → ⊥
no_argument x e h = subst IsArgument e h refl

same_check : (words : List (List ℕ)) (file x : List ℕ) (print other : Bool) → IsCheckOf words file print → IsCheckOf words x other → x ≡ file
same_check words file x false false w v = one_word x file (sym v.spelled ∙ w.spelled)
same_check words file x false true w v = absurd (elim v.spelled [
  | inl p ↦ no_length x (codes "--print") file (sym p ∙ w.spelled)
  | inr p ↦ no_length (codes "--print") x file (sym p ∙ w.spelled)
])
same_check words file x true false w v = absurd (elim w.spelled [
  | inl p ↦ no_length file (codes "--print") x (sym p ∙ v.spelled)
  | inr p ↦ no_length (codes "--print") file x (sym p ∙ v.spelled)
])
same_check words file x true true w v = by w.spelled v.spelled
  where
    Spelled : List ℕ → Type 0
    Spelled y = (words ≡ codes "check" ∷ y ∷ codes "--print" ∷ []) ⊎ (words ≡ codes "check" ∷ codes "--print" ∷ y ∷ [])

    by : Spelled file → Spelled x → x ≡ file
    by (inl p) (inl q) = (two_words (codes "check") x (codes "--print") file (codes "--print") (sym q ∙ p)).0
    by (inl p) (inr q) = absurd (no_argument file (sym (two_words (codes "check") (codes "--print") x file (codes "--print") (sym q ∙ p)).0) w.file_is_argument)
    by (inr p) (inl q) = absurd (no_argument x (two_words (codes "check") x (codes "--print") (codes "--print") file (sym q ∙ p)).0 v.file_is_argument)
    by (inr p) (inr q) = (two_words (codes "check") (codes "--print") x (codes "--print") file (sym q ∙ p)).1

pub check_source : (words : List (List ℕ)) (file x : List ℕ) (print : Bool) → IsCheckOf words file print → IsOverSource words x → x ≡ file
check_source words file x print w (IsOverSource.to_run {node = y} r) = absurd (check_run words file x y print w r)
check_source words file x print w (IsOverSource.to_tell {node = y} r) = absurd (tell_check words x y file file r print w)
check_source words file x print w (IsOverSource.to_check other c) = same_check words file x print other w c
check_source words file x print w (IsOverSource.to_compile {out = y} c) = absurd (check_compile words file x y print w c)
