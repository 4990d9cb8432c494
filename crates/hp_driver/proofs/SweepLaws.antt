-- The inputs of a sweep, its counts, and why it stops.
use Rattle.std.proofs.Common.{◌≡◌, ℕ, zero, suc, ◌+◌, ◌*◌, ◌<◌, false, true, List, [], ◌∷◌, ◌++◌, None, Some, length, take, drop, set, get_or, refl, sym, ap, subst, ◌∙◌, arith}
use Rattle.std.specs.Prelude.{IsSome, is_some}
use Rattle.std.proofs.lemmas.List.{append_assoc, drop_more, length-map, length_push, set_at}
use Rattle.hp_base.specs.Kinds.{SignatureData}
use Rattle.hp_base.specs.declared.value.Value.{Value}
use Rattle.hp_base.specs.declared.value.Value.TheVariants.{Absent, B}
use Rattle.hp_exec.specs.Answers.{Executes}
use Rattle.hp_exec.specs.Executors.{Executor}
use Rattle.hp_exec.specs.Signatures.{kind_in_file}
use Rattle.hp_obc.specs.Form.{machine_named}
use Rattle.hp_obc.specs.Machines.{Machine, Obc}
use Rattle.hp_obc.specs.Steps.{Behaviour, Memory, Stepped, machine_behaviour}
use Rattle.hp_obc.specs.declared.machine.Var.{Var}
use Rattle.hp_driver.specs.Command.{summary_text}
use Rattle.hp_driver.specs.Compiled.{HasCircuit, IsCompiled, IsNotCompiled}
use Rattle.hp_driver.specs.Stopping.{Stops, StopsAt}
use Rattle.hp_driver.specs.Sweeping.{HasTasks, counted, counts_behind, inputs_at, is_input, memory_behind, one_more, sweep_text, tasks_name, tasks_text}
use Rattle.hp_driver.specs.Swept.{IsSwept}
use Rattle.hp_driver.specs.declared.compile_error.CompileErr.{CompileErr}
use Rattle.hp_driver.specs.declared.sweep.Stop.{Stop}
use Rattle.hp_driver.specs.declared.sweep.Stop.TheVariants as stop
use Rattle.hp_driver.specs.declared.sweep.Stop.TheVariants.{NotCompiled}

-- ---- the inputs

length_inputs_at : (instant n : ℕ) → length (inputs_at instant n) ≡ n
length_inputs_at instant zero = refl
length_inputs_at instant (suc n) = let h = length_inputs_at instant n in let k = length_push (inputs_at instant n) (B (is_input n instant)) in omega (arith, h, k)

fill_at : (instant i : ℕ) (old : List Value) → i < length old → set (inputs_at instant i ++ drop i old) i (B (is_input i instant)) ≡ inputs_at instant (suc i) ++ drop (suc i) old
fill_at instant i old h =
    let front = inputs_at instant i in
    let x = B (is_input i instant) in
    let next : i + 1 ≡ suc i = omega arith in
    ap (λ z. set (front ++ z) i x) (drop_more old i Absent h ∙ ap (λ j. get_or old i Absent ∷ drop j old) next)
    ∙ set_at front (get_or old i Absent) (drop (suc i) old) x i (length_inputs_at instant i) ∙ sym (append_assoc front (x ∷ []) (drop (suc i) old))

-- one input more is filled in
pub fill_next : (instant i : ℕ) (old now : List Value) → i < length old → now ≡ inputs_at instant i ++ drop i old → set now i (B (is_input i instant)) ≡ inputs_at instant (i + 1) ++ drop (i + 1) old
fill_next instant i old now h e =
    let same : suc i ≡ i + 1 = omega arith in
    ap (λ z. set z i (B (is_input i instant))) e ∙ fill_at instant i old h ∙ ap (λ j. inputs_at instant j ++ drop j old) same

-- ---- the counts

-- one count more is made
count_at : (counts : List ℕ) (outputs : List Value) (i x : ℕ) (v d : Value) → i < length counts → i < length outputs → v ≡ get_or outputs i d → x ≡ one_more (get_or counts i 0) v
    → take (suc i) (set counts i x) ++ counted (drop (suc i) (set counts i x)) (drop (suc i) outputs) ≡ take i counts ++ counted (drop i counts) (drop i outputs)
count_at [] outputs i x v d h k e f = absurd (omega (arith, h))
count_at (c ∷ counts) [] i x v d h k e f = absurd (omega (arith, k))
count_at (c ∷ counts) (w ∷ outputs) zero x v d h k e f = ap (λ z. z ∷ counted counts outputs) (f ∙ ap (one_more c) e)
count_at (c ∷ counts) (w ∷ outputs) (suc i) x v d h k e f = ap (λ z. c ∷ z) (count_at counts outputs i x v d (omega (arith, h)) (omega (arith, k)) e f)

pub count_next : (counts : List ℕ) (outputs : List Value) (i x : ℕ) (v d : Value) → i < length counts → i < length outputs → v ≡ get_or outputs i d → x ≡ one_more (get_or counts i 0) v
    → take (i + 1) (set counts i x) ++ counted (drop (i + 1) (set counts i x)) (drop (i + 1) outputs) ≡ take i counts ++ counted (drop i counts) (drop i outputs)
count_next counts outputs i x v d h k e f =
    let same : suc i ≡ i + 1 = omega arith in
    subst (λ j. take j (set counts i x) ++ counted (drop j (set counts i x)) (drop j outputs) ≡ take i counts ++ counted (drop i counts) (drop i outputs)) same (count_at counts outputs i x v d h k e f)

-- ---- the run

module _ (b : Behaviour) (many n places : ℕ) (now : Memory) (e : places ≡ many) (h : now ≡ memory_behind b many n) where
  step_next : b.step now (inputs_at (n + 1) places) ≡ b.step (memory_behind b many n) (inputs_at (suc n) many)
  step_next =
      let next : n + 1 ≡ suc n = omega arith in
      ap (λ z. b.step z (inputs_at (n + 1) places)) h ∙ ap (λ p. b.step (memory_behind b many n) (inputs_at (n + 1) p)) e ∙ ap (λ j. b.step (memory_behind b many n) (inputs_at j many)) next

  -- the memory behind one instant more, and the counts
  pub memory_next : (b.step now (inputs_at (n + 1) places)).kept ≡ memory_behind b many (n + 1)
  memory_next = let next : suc n ≡ n + 1 = omega arith in ap (λ (s : Stepped). s.kept) step_next ∙ ap (memory_behind b many) next

  pub counts_next : (outputs : ℕ) (counts : List ℕ) → counts ≡ counts_behind b many outputs n → counted counts (b.step now (inputs_at (n + 1) places)).outputs ≡ counts_behind b many outputs (n + 1)
  counts_next outputs counts f =
      let next : suc n ≡ n + 1 = omega arith in
      ap (λ z. counted z (b.step now (inputs_at (n + 1) places)).outputs) f ∙ ap (λ (s : Stepped). counted (counts_behind b many outputs n) s.outputs) step_next ∙ ap (counts_behind b many outputs) next

-- ---- the machine of the tasks

-- where it is among some, it is there
pub is_there : (many : ℕ) (o : Obc) → HasTasks many o → IsSome (machine_named o.machines tasks_name)
is_there many o has = let named = has.named in ap (λ m. is_some m) named

-- and is not refused for its name
pub has_name : (o : Obc) → IsSome (machine_named o.machines tasks_name) → machine_named o.machines tasks_name ≡ None → ⊥
has_name o some none = let both : false ≡ true = sym (ap (λ m. is_some m) none) ∙ some in cc

-- its executor has so many inputs and outputs as it has
module _ (o : Obc) (e : Executor) (h : Executes o tasks_name e) (many : ℕ) (has : HasTasks many o) where
  same_machine : h.machine ≡ has.machine
  same_machine = let both : Some h.machine ≡ Some has.machine = sym h.named ∙ has.named in cc

  length_inputs : length e.signature.inputs ≡ many
  length_inputs =
      ap (λ (s : SignatureData). length s.inputs) h.signature ∙ length-map h.machine.inputs (λ (x : Var). (x.name, kind_in_file o.types x.ty))
      ∙ ap (λ (m : Machine). length m.inputs) same_machine ∙ has.inputs

  length_outputs : length e.signature.outputs ≡ many
  length_outputs =
      ap (λ (s : SignatureData). length s.outputs) h.signature ∙ length-map h.machine.outputs (λ (x : Var). (x.name, kind_in_file o.types x.ty))
      ∙ ap (λ (m : Machine). length m.outputs) same_machine ∙ has.outputs

  -- the counts of its steps
  pub its_counts : (instants : ℕ) (counts : List ℕ) → counts ≡ counts_behind (machine_behaviour o tasks_name) (length e.signature.inputs) (length e.signature.outputs) instants
      → counts ≡ counts_behind (machine_behaviour o tasks_name) many many instants
  its_counts instants counts counted =
      let b = machine_behaviour o tasks_name in
      counted ∙ ap (λ n. counts_behind b n (length e.signature.outputs) instants) length_inputs ∙ ap (λ n. counts_behind b many n instants) length_outputs

-- their text is that of a sweep
pub is_summary : (o : Obc) (tasks instants : ℕ) (text counts : List ℕ) → text ≡ summary_text (take tasks counts) (drop tasks counts)
    → counts ≡ counts_behind (machine_behaviour o tasks_name) (2 * tasks) (2 * tasks) instants → text ≡ sweep_text o tasks instants
is_summary o tasks instants text counts spelled counted = spelled ∙ ap (λ (z : List ℕ). summary_text (take tasks z) (drop tasks z)) counted

-- ---- the whole sweep

module _ (tasks instants : ℕ) (o : Obc) (compiled : IsCompiled (tasks_text tasks) o) where
  pub swept_by : HasTasks (2 * tasks) o → (text : List ℕ) → text ≡ sweep_text o tasks instants → IsSwept tasks instants text
  swept_by has text spelled = record { machines = o; compiled = compiled; has = has; spelled = spelled }

  pub stops_so : (why : Stop) → StopsAt o why → Stops tasks why
  stops_so (stop.TooLarge limit) h = (o, compiled, h)
  stops_so stop.OutOfMemory h = tt
  stops_so (stop.NotCompiled cause) h = absurd h

-- a text is not compiled, for a cause that has a circuit
pub stops_for : (tasks : ℕ) (cause : CompileErr) → IsNotCompiled (tasks_text tasks) cause → HasCircuit cause → Stops tasks (NotCompiled cause)
stops_for tasks cause h k = (h, k)
