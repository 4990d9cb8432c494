-- Lines that are answered in two parts are answered as one.
use Rattle.std.proofs.Common.{◌≡◌, ◌≤◌, ℕ, suc, ◌+◌, nat_lt, List, [], ◌∷◌, ◌++◌, length, None, Some, refl, sym, ap, ◌∙◌, arith}
use Rattle.std.specs.Prelude.{Result, Ok, Err}
use Rattle.std.proofs.lemmas.Bool.{le-ltb}
use Rattle.std.proofs.lemmas.Grind.{flat_map-append}
use Rattle.std.specs.List.{AllByRecursion}
use Rattle.hp_base.specs.Kinds.{KindData, AreOfKinds}
use Rattle.hp_base.specs.declared.value.Value.{Value}
use Rattle.hp_lines.specs.Lines.{line_of}
use Rattle.hp_lines.specs.declared.read.TheConstants.{MAX_LINE}
use Rattle.hp_obc.specs.Machines.{Obc}
use Rattle.hp_obc.specs.Steps.{Memory, Behaviour, machine_behaviour, outputs_from}
use Rattle.law_decided.specs.Promised.{RunLaw}
use Rattle.law_history.specs.Streams.Texts.{TextLaw}
use Rattle.hp_driver.specs.Answers.{IsAnswer}
use Rattle.hp_driver.specs.Checkpoints.{memory_behind}
use Rattle.hp_driver.specs.Joined.{AreGoodLines, JoinedLaw, JoinedRunLaw, memory_past}
use Rattle.hp_driver.specs.LineFaults.{bad}
use Rattle.hp_driver.specs.Segments.{AreRun}
use Rattle.hp_driver.specs.Systems.{of_machine, from_memory, inputs_of, outputs_of}
use Rattle.hp_driver.specs.Values.{reading, inputs_on, inputs_until, first_bad}
use Rattle.hp_driver.specs.declared.trace_limits.Fault.{Fault}
use Rattle.hp_driver.specs.declared.trace_limits.TheConstants.{MAX_LINES}
use Rattle.hp_driver.proofs.TraceLaws.{by_tests}
use Rattle.hp_driver.proofs.WrittenLaws.{as_machine}

-- ---- steps in two parts

module _ (b : Behaviour) where
  pub memory_both : (kept : Memory) (xs ys : List (List Value)) → memory_behind b kept (xs ++ ys) ≡ memory_behind b (memory_behind b kept xs) ys
  memory_both kept [] ys = refl
  memory_both kept (x ∷ xs) ys = memory_both (b.step kept x).kept xs ys

  outputs_both : (kept : Memory) (xs ys : List (List Value)) → outputs_from b kept (xs ++ ys) ≡ outputs_from b kept xs ++ outputs_from b (memory_behind b kept xs) ys
  outputs_both kept [] ys = refl
  outputs_both kept (x ∷ xs) ys = ap (λ outs. (b.step kept x).outputs ∷ outs) (outputs_both (b.step kept x).kept xs ys)

-- ---- lines in two parts

module _ (kinds : List KindData) where
  -- what a line spells does not depend on its number, where it is not one too many
  same_line : (n m : ℕ) (line : List ℕ) → n ≤ MAX_LINES → m ≤ MAX_LINES → inputs_on kinds n line ≡ inputs_on kinds m line
  same_line n m line few other =
      ap (λ d. by_tests d (nat_lt MAX_LINE (length line)) (reading kinds line)) (le-ltb MAX_LINES n few)
      ∙ sym (ap (λ d. by_tests d (nat_lt MAX_LINE (length line)) (reading kinds line)) (le-ltb MAX_LINES m other))

  -- so lines without a fault may be counted from another number on
  abbrev SameFrom : ℕ → ℕ → List (List ℕ) → Type 0
  SameFrom n m lines = (inputs_until kinds n lines ≡ inputs_until kinds m lines) × (first_bad kinds n lines ≡ first_bad kinds m lines)

  same_by : (n m : ℕ) (line : List ℕ) (lines : List (List ℕ)) (r : Result (List Value) Fault) → inputs_on kinds n line ≡ r → inputs_on kinds m line ≡ r → first_bad kinds n (line ∷ lines) ≡ None →
      (first_bad kinds (suc n) lines ≡ None → SameFrom (suc n) (suc m) lines) → SameFrom n m (line ∷ lines)
  same_by n m line lines (Ok values) p q good more =
      let first = ap (λ r. elim r [ Ok values ↦ first_bad kinds (suc n) lines | Err fault ↦ Some (bad n fault) ]) p in
      let rest = more (sym first ∙ good) in (
        ap (λ r. elim r [ Ok values ↦ values ∷ inputs_until kinds (suc n) lines | Err fault ↦ [] ]) p
            ∙ ap (λ z. values ∷ z) rest.0
            ∙ sym (ap (λ r. elim r [ Ok values ↦ values ∷ inputs_until kinds (suc m) lines | Err fault ↦ [] ]) q),
        first ∙ rest.1 ∙ sym (ap (λ r. elim r [ Ok values ↦ first_bad kinds (suc m) lines | Err fault ↦ Some (bad m fault) ]) q),
      )
  same_by n m line lines (Err fault) p q good more =
      let wrong : Some (bad n fault) ≡ None = sym (ap (λ r. elim r [ Ok values ↦ first_bad kinds (suc n) lines | Err found ↦ Some (bad n found) ]) p) ∙ good in absurd cc

  same_from : (n m : ℕ) (lines : List (List ℕ)) → n + length lines ≤ suc MAX_LINES → m + length lines ≤ suc MAX_LINES → first_bad kinds n lines ≡ None → SameFrom n m lines
  same_from n m [] few other good = (refl, refl)
  same_from n m (line ∷ lines) few other good =
      same_by n m line lines (inputs_on kinds n line) refl (sym (same_line n m line (omega (arith, few)) (omega (arith, other)))) good
      (λ good. same_from (suc n) (suc m) lines (omega (arith, few)) (omega (arith, other)) good)

  -- lines behind others that have no fault
  abbrev Both : ℕ → List (List ℕ) → List (List ℕ) → Type 0
  Both n first second =
      (inputs_until kinds n (first ++ second) ≡ inputs_until kinds n first ++ inputs_until kinds (n + length first) second) × (first_bad kinds n (first ++ second) ≡ first_bad kinds (n + length first) second)

  both_by : (n : ℕ) (line : List ℕ) (lines second : List (List ℕ)) (r : Result (List Value) Fault) → inputs_on kinds n line ≡ r → first_bad kinds n (line ∷ lines) ≡ None →
      (first_bad kinds (suc n) lines ≡ None → Both (suc n) lines second) → Both n (line ∷ lines) second
  both_by n line lines second (Ok values) p good more =
      let rest = more (sym (ap (λ r. elim r [ Ok values ↦ first_bad kinds (suc n) lines | Err fault ↦ Some (bad n fault) ]) p) ∙ good) in
      let number : suc n + length lines ≡ n + suc (length lines) = omega arith in (
        ap (λ r. elim r [ Ok values ↦ values ∷ inputs_until kinds (suc n) (lines ++ second) | Err fault ↦ [] ]) p
            ∙ ap (λ z. values ∷ z) rest.0
            ∙ ap (λ k. values ∷ (inputs_until kinds (suc n) lines ++ inputs_until kinds k second)) number
            ∙ sym (ap (λ r. elim r [ Ok values ↦ values ∷ inputs_until kinds (suc n) lines | Err fault ↦ [] ] ++ inputs_until kinds (n + suc (length lines)) second) p),
        ap (λ r. elim r [ Ok values ↦ first_bad kinds (suc n) (lines ++ second) | Err fault ↦ Some (bad n fault) ]) p ∙ rest.1 ∙ ap (λ k. first_bad kinds k second) number,
      )
  both_by n line lines second (Err fault) p good more =
      let wrong : Some (bad n fault) ≡ None = sym (ap (λ r. elim r [ Ok values ↦ first_bad kinds (suc n) lines | Err found ↦ Some (bad n found) ]) p) ∙ good in absurd cc

  both : (n : ℕ) (first second : List (List ℕ)) → first_bad kinds n first ≡ None → Both n first second
  both n [] second good = let same : n ≡ n + 0 = omega arith in (ap (λ k. inputs_until kinds k second) same, ap (λ k. first_bad kinds k second) same)
  both n (line ∷ lines) second good = both_by n line lines second (inputs_on kinds n line) refl good (λ good. both (suc n) lines second good)

  module _ (first second : List (List ℕ)) (good : AreGoodLines kinds first second) where
    behind : SameFrom 1 (1 + length first) second
    behind = let few = good.few in same_from 1 (1 + length first) second (omega (arith, few)) (omega (arith, few)) good.second_good

    pub inputs_joined : inputs_until kinds 1 (first ++ second) ≡ inputs_until kinds 1 first ++ inputs_until kinds 1 second
    inputs_joined = (both 1 first second good.first_good).0 ∙ ap (λ z. inputs_until kinds 1 first ++ z) (sym behind.0)

    pub good_joined : first_bad kinds 1 (first ++ second) ≡ None
    good_joined = (both 1 first second good.first_good).1 ∙ sym behind.1 ∙ good.second_good

-- ---- answers in two parts

all_both : {A : Type 0} (P : A → Type 0) (xs ys : List A) → AllByRecursion P xs → AllByRecursion P ys → AllByRecursion P (xs ++ ys)
all_both P [] ys h k = k
all_both P (x ∷ xs) ys h k = (h.0, all_both P xs ys h.1 k)

pub joined : JoinedLaw
joined o node memory first second bytes more good a d =
    let b = machine_behaviour o node in
    let ins = inputs_of (of_machine o node) in
    let xs = inputs_until ins 1 first in
    let ys = inputs_until ins 1 second in
    let all = inputs_joined ins first second good in
    record {
      good = good_joined ins first second good;
      said = record {
        outputs = a.outputs ++ d.outputs;
        run = (λ i. a.run i ++ d.run i) ∙ sym (outputs_both b memory xs ys) ∙ ap (outputs_from b memory) (sym all);
        kinds = all_both (AreOfKinds (outputs_of (of_machine o node))) a.outputs d.outputs a.kinds d.kinds;
        said = (λ i. a.said i ++ d.said i) ∙ sym (flat_map-append (line_of (outputs_of (of_machine o node))) a.outputs d.outputs);
      };
      kept = ap (memory_behind b memory) all ∙ memory_both b memory xs ys;
    }

-- from the memory after a reset on
of_machine_joined : (o : Obc) (node : List ℕ) (first second : List (List ℕ)) (bytes more : List ℕ) → AreGoodLines (inputs_of (of_machine o node)) first second → IsAnswer (of_machine o node) first bytes →
    IsAnswer (from_memory o node (memory_past o node (machine_behaviour o node).reset first)) second more → IsAnswer (of_machine o node) (first ++ second) (bytes ++ more)
of_machine_joined o node first second bytes more good a d =
    let said = (joined o node (machine_behaviour o node).reset first second bytes more good (record { outputs = a.outputs; run = a.run; kinds = a.kinds; said = a.said }) d).said in
    record { outputs = said.outputs; run = said.run; kinds = said.kinds; said = said.said }

pub joined_run : JoinedRunLaw
joined_run files file node o s first second bytes more (AreRun.own n compiled named is_chosen) is good a d = of_machine_joined o node first second bytes more good a d
