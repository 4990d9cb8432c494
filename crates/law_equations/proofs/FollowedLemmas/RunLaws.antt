-- The memory of a machine after inputs, what it answers, and its runs.
use Rattle.std.proofs.Common.{◌≡◌, ℕ, ◌+◌, List, [], ◌∷◌, ◌++◌, map, refl, sym, ap, ◌∙◌}
use Rattle.std.specs.Prelude.{reverse}
use Rattle.std.specs.List.{AllByRecursion}
use Rattle.std.proofs.lemmas.Grind.{reverse_onto}
use Rattle.hp_base.specs.Kinds.{KindData}
use Rattle.hp_base.specs.declared.value.Value.{Value}
use Rattle.hp_obc.specs.declared.machine.Mem.{Mem}
use Rattle.hp_obc.specs.Machines.{ObcType}
use Rattle.hp_obc.specs.Values.{constant_of, or_absent}
use Rattle.hp_obc.specs.Steps.{Names, Memory, memory, memories_of, Stepped, Behaviour, Known, behaviour, outputs_from}
use Rattle.hp_flat.specs.declared.node.Variable.{Variable}
use Rattle.hp_flat.specs.Equations.{Right, operator, register, called, FlatEqn}
use Rattle.hp_flat.specs.Nodes.{FlatNode}
use Rattle.law_equations.specs.Meaning.Instants.{Instant}
use Rattle.law_equations.specs.Meaning.Reactions.{Answers, Reaction, outputs_at}
use Rattle.law_equations.specs.Meaning.Fitting.{Fits}
use Rattle.hp_toobc.specs.Making.{mem_of, mems, inst_of, insts, machine_of}
use Rattle.law_equations.specs.Followed.Memories.{memory_after, answered, all_answered, CalleesAnswer, cell, inner, cells, inners, memory_at}
use Rattle.law_equations.specs.Followed.Premises.{constants_of, IsTold, EqnForm, NodeForm}
use Rattle.law_equations.specs.Followed.Following.{MemoryLaw, OutputsLaw, RunLaw, AnsweredLaw}
use Rattle.law_equations.proofs.FollowedLemmas.StepLaws.{step_law}

-- ---- after a reset

abbrev first_in : List ObcType → Mem → Value
first_in types x = or_absent (constant_of types x.first)

module _ (types : List ObcType) (variables : List Variable) where
  reset_cell : (i : ℕ) (e : FlatEqn) (r : Right) (ms : List Mem) (vs : List Value) → AllByRecursion (IsTold types) (constants_of r)
      → map (first_in types) ms ≡ vs → map (first_in types) (mem_of types variables i e.targets r ++ ms) ≡ cell e [] r ++ vs
  reset_cell i e (operator op args) ms vs h q = q
  reset_cell i e (register first next) ms vs h q = λ j. h.0 j ∷ q j
  reset_cell i e (called g args) ms vs h q = q

  reset-cells : (i : ℕ) (es : List FlatEqn) → AllByRecursion (EqnForm types variables) es → map (first_in types) (mems types variables i es) ≡ cells es []
  reset-cells i [] h = refl
  reset-cells i (e ∷ es) h = reset_cell i e e.right (mems types variables (i + 1) es) (cells es []) h.0.constants (reset-cells (i + 1) es h.1)

abbrev reset_in : Known → (List ℕ × List ℕ) → Memory
reset_in known i = (known i.1).reset

reset_inner : (known : Known) (i : ℕ) (e : FlatEqn) (r : Right) (is : List (List ℕ × List ℕ)) (ms : List Memory)
    → map (reset_in known) is ≡ ms → map (reset_in known) (inst_of i r ++ is) ≡ inner known e [] r ++ ms
reset_inner known i e (operator op args) is ms q = q
reset_inner known i e (register first next) is ms q = q
reset_inner known i e (called g args) is ms q = ap (λ ns. (known g).reset ∷ ns) q

reset-inners : (known : Known) (i : ℕ) (es : List FlatEqn) → map (reset_in known) (insts i es) ≡ inners known es []
reset-inners known i [] = refl
reset-inners known i (e ∷ es) = reset_inner known i e e.right (insts (i + 1) es) (inners known es []) (reset-inners known (i + 1) es)

-- ---- after inputs

module _ (types : List ObcType) (known : Known) (answers : Answers) (takes : Names (List KindData)) (n : FlatNode) (f : NodeForm types n) (by : CalleesAnswer known answers takes n.eqns) where
  abbrev b : Behaviour
  b = behaviour types known (machine_of types n)

  remembers : (inputs : List (List Value)) (instants : List Instant) → AllByRecursion (Fits takes n) instants → Reaction answers n inputs instants → memory_after b inputs ≡ memory_at known n.eqns instants
  remembers [] [] fits r = λ i. memory (reset-cells types n.variables 0 n.eqns f.eqns i) (memories_of (reset-inners known 0 n.eqns i))
  remembers (inputs ∷ earlier) (now ∷ past) fits r =
      ap (λ k. (b.step k inputs).kept) (remembers earlier past fits.1 r.0)
      ∙ ap (λ (st : Stepped). st.kept) (step_law types known answers takes n f by past inputs now fits.1 fits.0 r.1)
  remembers [] (now ∷ past) fits r = absurd r
  remembers (inputs ∷ earlier) [] fits r = absurd r

  answers-are : (inputs : List Value) (earlier : List (List Value)) (now : Instant) (past : List Instant) → AllByRecursion (Fits takes n) (now ∷ past) → Reaction answers n (inputs ∷ earlier) (now ∷ past)
      → answered b inputs earlier ≡ outputs_at n now
  answers-are inputs earlier now past fits r =
      ap (λ k. (b.step k inputs).outputs) (remembers earlier past fits.1 r.0)
      ∙ ap (λ (st : Stepped). st.outputs) (step_law types known answers takes n f by past inputs now fits.1 fits.0 r.1)

  all-answers : (inputs : List (List Value)) (instants : List Instant) → AllByRecursion (Fits takes n) instants → Reaction answers n inputs instants → all_answered b inputs ≡ map (outputs_at n) instants
  all-answers [] [] fits r = refl
  all-answers (inputs ∷ earlier) (now ∷ past) fits r = λ i. answers-are inputs earlier now past fits r i ∷ all-answers earlier past fits.1 r.0 i
  all-answers [] (now ∷ past) fits r = absurd r
  all-answers (inputs ∷ earlier) [] fits r = absurd r

-- ---- runs

abbrev kept_from : Behaviour → Memory → List (List Value) → Memory
kept_from b kept [] = kept
kept_from b kept (inputs ∷ later) = kept_from b (b.step kept inputs).kept later

outputs-append : (b : Behaviour) (kept : Memory) (xs ys : List (List Value)) → outputs_from b kept (xs ++ ys) ≡ outputs_from b kept xs ++ outputs_from b (kept_from b kept xs) ys
outputs-append b kept [] ys = refl
outputs-append b kept (x ∷ xs) ys = ap (λ zs. (b.step kept x).outputs ∷ zs) (outputs-append b (b.step kept x).kept xs ys)

kept-append : (b : Behaviour) (kept : Memory) (xs ys : List (List Value)) → kept_from b kept (xs ++ ys) ≡ kept_from b (kept_from b kept xs) ys
kept-append b kept [] ys = refl
kept-append b kept (x ∷ xs) ys = kept-append b (b.step kept x).kept xs ys

kept-after : (b : Behaviour) (inputs : List (List Value)) → kept_from b b.reset (reverse inputs) ≡ memory_after b inputs
kept-after b [] = refl
kept-after b (x ∷ earlier) =
    ap (kept_from b b.reset) (reverse_onto earlier x []) ∙ kept-append b b.reset (reverse earlier) (x ∷ []) ∙ ap (λ k. (b.step k x).kept) (kept-after b earlier)

pub answered_law : AnsweredLaw
answered_law b [] = refl
answered_law b (x ∷ earlier) =
    ap (outputs_from b b.reset) (reverse_onto earlier x [])
    ∙ outputs-append b b.reset (reverse earlier) (x ∷ [])
    ∙ (λ i. answered_law b earlier i ++ (b.step (kept-after b earlier i) x).outputs ∷ [])
    ∙ sym (reverse_onto (all_answered b earlier) (answered b x earlier) [])

pub memory_law : MemoryLaw
memory_law types known answers takes n f by inputs instants fits r = remembers types known answers takes n f by inputs instants fits r

pub outputs_law : OutputsLaw
outputs_law types known answers takes n f by inputs earlier now past fits r = answers-are types known answers takes n f by inputs earlier now past fits r

pub run_law : RunLaw
run_law types known answers takes n f by inputs instants fits r =
    answered_law (behaviour types known (machine_of types n)) inputs ∙ ap reverse (all-answers types known answers takes n f by inputs instants fits r)
