-- What an executor says to lines is what the run of its machine says.
use Rattle.std.proofs.Common.{◌≡◌, ℕ, suc, Bool, true, false, if◌then◌else◌, List, [], ◌∷◌, ◌++◌, length, take, drop, None, Some, refl, sym, ap, subst, ◌∙◌, arith}
use Rattle.std.proofs.Math.Seq.{take-append_seam}
use Rattle.std.specs.List.{flat_map, All, AllByRecursion}
use Rattle.std.specs.Option.{unwrap_or}
use Rattle.std.specs.Prelude.{Ok, Err}
use Rattle.std.specs.Str.{bytes_eq}
use Rattle.hp_base.specs.Kinds.{KindData, Bools, AreOfKinds, SignatureData, kinds_of}
use Rattle.hp_base.specs.declared.ty.Ty.{Ty}
use Rattle.hp_base.specs.declared.ty.Ty.TheVariants.{Bool as BoolTy, Int as IntTy, Enum as EnumTy}
use Rattle.hp_base.specs.declared.value.Value.{Value}
use Rattle.hp_lines.specs.Lines.{line_of}
use Rattle.hp_lines.specs.Refusals.{refusal}
use Rattle.hp_lines.specs.Values.{HasFewConstructors, HaveFewConstructors, values_of}
use Rattle.hp_lines.specs.Words.{words}
use Rattle.hp_lines.proofs.LineLaws.{as_many_values}
use Rattle.hp_obc.specs.Form.{HasConstructors, TypesForm}
use Rattle.hp_obc.specs.Kinded.{MemoryKinds, HasKinds, StepsInKind, kinds_in, machine_keeps}
use Rattle.hp_obc.specs.Form.{machine_named}
use Rattle.hp_obc.specs.Machines.{ObcType, Machine, Obc}
use Rattle.hp_obc.specs.Steps.{Behaviour, Memory, outputs_from, machine_behaviour, run}
use Rattle.hp_obc.specs.Values.{enum_from}
use Rattle.hp_obc.specs.declared.machine.Var.{Var}
use Rattle.hp_exec.specs.Answers.{Executes}
use Rattle.hp_exec.specs.Executors.{Executor, Runs, IsKinded, IsKindedBy, answered, stepped, kept}
use Rattle.hp_exec.specs.Signatures.{kind_in_file, ports_by, signature_of}
use Rattle.hp_driver.specs.Answers.{IsAnswer}
use Rattle.hp_driver.specs.Checkpoints.{memory_behind}
use Rattle.hp_driver.specs.Course.{Takes}
use Rattle.hp_driver.specs.Executing.{executing, step_of, HasBehaviour}
use Rattle.hp_driver.specs.Systems.{of_machine, that_tells, inputs_of, outputs_of}
use Rattle.hp_driver.specs.Teller.{Teller, teller, telling, told_of}
use Rattle.hp_driver.specs.Telling.{told_line}
use Rattle.hp_driver.specs.declared.telling.Ending.{Ending}
use Rattle.hp_driver.specs.Trace.{said_to, refused_in}
use Rattle.hp_driver.specs.Reader.{reader, reacts, stepped as read_and_step}
use Rattle.hp_driver.specs.Values.{reading, inputs_until, first_bad}
use Rattle.hp_driver.proofs.SpellingLaws.{AllOfKinds, all_of_kinds, steps_through, says_inputs, refuses_first, takes_inputs}

-- ---- a step

module _ (b : Behaviour) where
  pub runs_on : (e : Executor) (values : List Value) → Runs e b → length values ≡ length e.signature.inputs → Runs (stepped e values) b
  runs_on e values h n =
      let follows = h.steps e.values values h.long n in
      record { long = follows.as_long ∙ h.long; reset = h.reset; flat = h.flat; shape = h.shape; steps = h.steps }

  outputs_on : (e : Executor) (values : List Value) → Runs e b → length values ≡ length e.signature.inputs → answered e values ≡ (b.step (kept e) values).outputs
  outputs_on e values h n = sym (h.steps e.values values h.long n).given

  kept_on : (e : Executor) (values : List Value) → Runs e b → length values ≡ length e.signature.inputs → kept (stepped e values) ≡ (b.step (kept e) values).kept
  kept_on e values h n = sym (h.steps e.values values h.long n).kept

-- values that were put into a vector of their length
pub put_back : (n : ℕ) (values old : List Value) → length values ≡ n → take n (values ++ drop (length values) old) ≡ values
put_back n values old h = ap (λ m. take m (values ++ drop (length values) old)) (sym h) ∙ take-append_seam values (drop (length values) old)

-- ---- a line

read_ok : (kinds : List KindData) (line : List ℕ) (values : List Value) → refusal kinds (words line) ≡ None → values_of kinds (words line) ≡ Some values → reading kinds line ≡ Ok values
read_ok kinds line values e f =
    ap (λ o. elim o [ None ↦ Ok (unwrap_or (values_of kinds (words line)) []) | Some error ↦ Err error ]) e
    ∙ ap (λ o. Ok (unwrap_or o [])) f

-- a line that spells inputs is answered by a step on them
pub answers_line : (e : Executor) (line : List ℕ) (values : List Value) → refusal (kinds_of e.signature.inputs) (words line) ≡ None → values_of (kinds_of e.signature.inputs) (words line) ≡ Some values →
    executing e line ≡ Ok (step_of e values)
answers_line e line values h k = ap (read_and_step step_of e) (read_ok (kinds_of e.signature.inputs) line values h k)

pub tells_line : (t : Teller) (line : List ℕ) (values : List Value) → refusal (kinds_of t.executor.signature.inputs) (words line) ≡ None → values_of (kinds_of t.executor.signature.inputs) (words line) ≡ Some values →
    telling t line ≡ Ok (told_of t values)
tells_line t line values h k = ap (read_and_step told_of t) (read_ok (kinds_of t.executor.signature.inputs) line values h k)

pub keeps_behaviour : (old new : Executor) (h : HasBehaviour old) → ((b : Behaviour) → Runs old b → Runs new b) → ((b : Behaviour) → Runs old b → IsKinded old b → IsKinded new b) → HasBehaviour new
keeps_behaviour old new h runs kinded = record { behaviour = h.behaviour; runs = runs h.behaviour h.runs; kinded = kinded h.behaviour h.runs h.kinded }

-- ---- steps over lists of inputs

count_kinds : (ports : List (List ℕ × KindData)) → length (kinds_of ports) ≡ length ports
count_kinds [] = refl
count_kinds (p ∷ ports) = ap suc (count_kinds ports)

reactions : (b : Behaviour) (e : Executor) (inputs : List (List Value)) → Runs e b → AllOfKinds (kinds_of e.signature.inputs) inputs →
    reacts step_of e inputs ≡ flat_map (line_of (kinds_of e.signature.outputs)) (outputs_from b (kept e) inputs)
reactions b e [] h fit = refl
reactions b e (values ∷ more) h fit =
    let says = line_of (kinds_of e.signature.outputs) in
    let long : length values ≡ length e.signature.inputs = as_many_values (kinds_of e.signature.inputs) values fit.0 ∙ count_kinds e.signature.inputs in
    ap (λ rest. says (answered e values) ++ rest) (reactions b (stepped e values) more (runs_on b e values h long) fit.1)
    ∙ (λ i. says (outputs_on b e values h long i) ++ flat_map says (outputs_from b (kept_on b e values h long i) more))

-- an executor keeps its signature
module _ (s : SignatureData) where
  reads : (e : Executor) (line : List ℕ) → e.signature ≡ s → executing e line ≡ reader (kinds_of s.inputs) step_of e line
  reads e line h = ap (λ (t : SignatureData). reader (kinds_of t.inputs) step_of e line) h

  stays : (e : Executor) (values : List Value) → AreOfKinds (kinds_of s.inputs) values → e.signature ≡ s → (step_of e values).1.signature ≡ s
  stays e values fit h = h

-- the executor behind steps on inputs of its kinds
module _ (b : Behaviour) where
  pub runs_through : (e : Executor) (inputs : List (List Value)) → Runs e b → AllOfKinds (kinds_of e.signature.inputs) inputs → Runs (steps_through step_of e inputs) b
  runs_through e [] h fit = h
  runs_through e (values ∷ more) h fit =
      let long : length values ≡ length e.signature.inputs = as_many_values (kinds_of e.signature.inputs) values fit.0 ∙ count_kinds e.signature.inputs in
      runs_through (stepped e values) more (runs_on b e values h long) fit.1

  pub kept_through : (e : Executor) (inputs : List (List Value)) → Runs e b → AllOfKinds (kinds_of e.signature.inputs) inputs → kept (steps_through step_of e inputs) ≡ memory_behind b (kept e) inputs
  kept_through e [] h fit = refl
  kept_through e (values ∷ more) h fit =
      let long : length values ≡ length e.signature.inputs = as_many_values (kinds_of e.signature.inputs) values fit.0 ∙ count_kinds e.signature.inputs in
      kept_through (stepped e values) more (runs_on b e values h long) fit.1 ∙ ap (λ m. memory_behind b m more) (kept_on b e values h long)

  pub kinds_through : (keeps : MemoryKinds) (e : Executor) (inputs : List (List Value)) → Runs e b → IsKindedBy keeps e b → AllOfKinds (kinds_of e.signature.inputs) inputs →
      IsKindedBy keeps (steps_through step_of e inputs) b
  kinds_through keeps e [] h k fit = k
  kinds_through keeps e (values ∷ more) h k fit =
      let long : length values ≡ length e.signature.inputs = as_many_values (kinds_of e.signature.inputs) values fit.0 ∙ count_kinds e.signature.inputs in
      let has : HasKinds keeps (kept (stepped e values)) = subst (HasKinds keeps) (sym (kept_on b e values h long)) (k.steps.kept_is (kept e) values k.has fit.0) in
      kinds_through keeps (stepped e values) more (runs_on b e values h long) (record { has = has; steps = k.steps }) fit.1

-- the outputs of steps are of their kinds
outputs_kinded : (ins outs : List KindData) (keeps : MemoryKinds) (b : Behaviour) (memory : Memory) (inputs : List (List Value)) → StepsInKind ins outs keeps b → HasKinds keeps memory → AllOfKinds ins inputs →
    AllByRecursion (AreOfKinds outs) (outputs_from b memory inputs)
outputs_kinded ins outs keeps b memory [] h has fit = tt
outputs_kinded ins outs keeps b memory (values ∷ more) h has fit =
    (h.outputs_are memory values has fit.0, outputs_kinded ins outs keeps b (b.step memory values).kept more h (h.kept_is memory values has fit.0) fit.1)

pub signature_through : (e : Executor) (inputs : List (List Value)) → (steps_through step_of e inputs).signature ≡ e.signature
signature_through e [] = refl
signature_through e (values ∷ more) = signature_through (stepped e values) more

-- what lines leave that it takes
pub left_by_lines : (e behind : Executor) (lines : List (List ℕ)) (said : List ℕ) → Takes executing e 1 lines said behind → behind ≡ steps_through step_of e (inputs_until (kinds_of e.signature.inputs) 1 lines)
left_by_lines e behind lines said takes =
    takes_inputs executing (kinds_of e.signature.inputs) step_of (λ d. d.signature ≡ e.signature) (reads e.signature) (stays e.signature) takes refl

-- the same, where behind the outputs it is told what a contract assumes and enforces
module _ (ending : Ending) where
  told_reactions : (b : Behaviour) (e : Executor) (inputs : List (List Value)) → Runs e b → AllOfKinds (kinds_of e.signature.inputs) inputs →
      reacts told_of (teller e ending) inputs ≡ flat_map (told_line ending (kinds_of e.signature.outputs)) (outputs_from b (kept e) inputs)
  told_reactions b e [] h fit = refl
  told_reactions b e (values ∷ more) h fit =
      let says = told_line ending (kinds_of e.signature.outputs) in
      let long : length values ≡ length e.signature.inputs = as_many_values (kinds_of e.signature.inputs) values fit.0 ∙ count_kinds e.signature.inputs in
      ap (λ rest. says (answered e values) ++ rest) (told_reactions b (stepped e values) more (runs_on b e values h long) fit.1)
      ∙ (λ i. says (outputs_on b e values h long i) ++ flat_map says (outputs_from b (kept_on b e values h long i) more))

  module _ (s : SignatureData) where
    told_reads : (t : Teller) (line : List ℕ) → (t.executor.signature ≡ s) × (t.ending ≡ ending) → telling t line ≡ reader (kinds_of s.inputs) told_of t line
    told_reads t line h = ap (λ (z : SignatureData). reader (kinds_of z.inputs) told_of t line) h.0

    told_stays : (t : Teller) (values : List Value) → AreOfKinds (kinds_of s.inputs) values → (t.executor.signature ≡ s) × (t.ending ≡ ending)
        → ((told_of t values).1.executor.signature ≡ s) × ((told_of t values).1.ending ≡ ending)
    told_stays t values fit h = h

-- ---- the machine of a name

kinds-found : (types : List ObcType) (vars : List Var) → kinds_of (ports_by (kind_in_file types) vars) ≡ kinds_in types vars
kinds-found types [] = refl
kinds-found types (v ∷ vars) = ap (λ ks. kind_in_file types v.ty ∷ ks) (kinds-found types vars)

-- the executor has its signature
module _ (o : Obc) (node : List ℕ) (e : Executor) (m : Machine) (named : machine_named o.machines node ≡ Some m) (signature : e.signature ≡ signature_of o.types m) where
  pub ins_are : kinds_of e.signature.inputs ≡ inputs_of (of_machine o node)
  ins_are =
      ap (λ (s : SignatureData). kinds_of s.inputs) signature ∙ kinds-found o.types m.inputs
      ∙ sym (ap (λ found. elim found [ None ↦ [] | Some x ↦ kinds_in o.types x.inputs ]) named)

  pub outs_are : kinds_of e.signature.outputs ≡ outputs_of (of_machine o node)
  outs_are =
      ap (λ (s : SignatureData). kinds_of s.outputs) signature ∙ kinds-found o.types m.outputs
      ∙ sym (ap (λ found. elim found [ None ↦ [] | Some x ↦ kinds_in o.types x.outputs ]) named)

  -- it refuses the first line that has a fault
  pub refuses_lines : (lines : List (List ℕ)) → refused_in executing e 1 lines ≡ first_bad (inputs_of (of_machine o node)) 1 lines
  refuses_lines lines =
      refuses_first executing (kinds_of e.signature.inputs) step_of (λ d. d.signature ≡ e.signature) (reads e.signature) (stays e.signature) 1 lines e refl
      ∙ ap (λ kinds. first_bad kinds 1 lines) ins_are

  -- what it says and keeps, from its memory on
  module _ (b : Behaviour) (runs : Runs e b) where
    pub says_outputs : (lines : List (List ℕ)) →
        said_to executing e 1 lines ≡ flat_map (line_of (outputs_of (of_machine o node))) (outputs_from b (kept e) (inputs_until (inputs_of (of_machine o node)) 1 lines))
    says_outputs lines =
        let ins = kinds_of e.signature.inputs in
        says_inputs executing ins step_of (λ d. d.signature ≡ e.signature) (reads e.signature) (stays e.signature) 1 lines e refl
        ∙ reactions b e (inputs_until ins 1 lines) runs (all_of_kinds ins 1 lines)
        ∙ (λ i. flat_map (line_of (outs_are i)) (outputs_from b (kept e) (inputs_until (ins_are i) 1 lines)))

    -- and what it says is of its kinds
    pub says_kinded : (keeps : MemoryKinds) → IsKindedBy keeps e b → (lines : List (List ℕ)) →
        AllByRecursion (AreOfKinds (outputs_of (of_machine o node))) (outputs_from b (kept e) (inputs_until (inputs_of (of_machine o node)) 1 lines))
    says_kinded keeps k lines =
        let ins = inputs_of (of_machine o node) in
        let outs = outputs_of (of_machine o node) in
        let steps : StepsInKind ins outs keeps b = subst (λ ks. StepsInKind ks outs keeps b) ins_are (subst (λ ks. StepsInKind (kinds_of e.signature.inputs) ks keeps b) outs_are k.steps) in
        outputs_kinded ins outs keeps b (kept e) (inputs_until ins 1 lines) steps k.has (all_of_kinds ins 1 lines)

module _ (o : Obc) (node : List ℕ) (e : Executor) (h : Executes o node e) where
  run_kinded : (lines : List (List ℕ)) → AllByRecursion (AreOfKinds (outputs_of (of_machine o node))) (run (machine_behaviour o node) (inputs_until (inputs_of (of_machine o node)) 1 lines))
  run_kinded lines =
      let b = machine_behaviour o node in
      subst (λ memory. AllByRecursion (AreOfKinds (outputs_of (of_machine o node))) (outputs_from b memory (inputs_until (inputs_of (of_machine o node)) 1 lines))) h.fresh
      (says_kinded o node e h.machine h.named h.signature b h.runs (machine_keeps o node) h.kinds lines)

  pub machine_says : (lines : List (List ℕ)) → IsAnswer (of_machine o node) lines (said_to executing e 1 lines)
  machine_says lines =
      let b = machine_behaviour o node in
      record {
        outputs = run b (inputs_until (inputs_of (of_machine o node)) 1 lines);
        run = refl;
        kinds = run_kinded lines;
        said = says_outputs o node e h.machine h.named h.signature b h.runs lines
            ∙ ap (λ kept. flat_map (line_of (outputs_of (of_machine o node))) (outputs_from b kept (inputs_until (inputs_of (of_machine o node)) 1 lines))) h.fresh;
      }

  pub machine_refuses : (lines : List (List ℕ)) → refused_in executing e 1 lines ≡ first_bad (inputs_of (of_machine o node)) 1 lines
  machine_refuses lines = refuses_lines o node e h.machine h.named h.signature lines

  module _ (ending : Ending) where
    pub teller_says : (lines : List (List ℕ)) → IsAnswer (that_tells ending o node) lines (said_to telling (teller e ending) 1 lines)
    teller_says lines =
        let b = machine_behaviour o node in
        let ins = kinds_of e.signature.inputs in
        let inputs = ins_are o node e h.machine h.named h.signature in
        let outs = outs_are o node e h.machine h.named h.signature in
        record {
          outputs = run b (inputs_until (inputs_of (of_machine o node)) 1 lines);
          run = refl;
          kinds = run_kinded lines;
          said = says_inputs telling ins told_of (λ d. (d.executor.signature ≡ e.signature) × (d.ending ≡ ending)) (told_reads ending e.signature) (told_stays ending e.signature) 1 lines (teller e ending) (refl, refl)
              ∙ told_reactions ending b e (inputs_until ins 1 lines) h.runs (all_of_kinds ins 1 lines)
              ∙ (λ i. flat_map (told_line ending (outs i)) (outputs_from b (h.fresh i) (inputs_until (inputs i) 1 lines)));
        }

    pub teller_refuses : (lines : List (List ℕ)) → refused_in telling (teller e ending) 1 lines ≡ first_bad (inputs_of (that_tells ending o node)) 1 lines
    teller_refuses lines =
        refuses_first telling (kinds_of e.signature.inputs) told_of (λ d. (d.executor.signature ≡ e.signature) × (d.ending ≡ ending)) (told_reads ending e.signature) (told_stays ending e.signature) 1 lines (teller e ending) (refl, refl)
        ∙ ap (λ kinds. first_bad kinds 1 lines) (ins_are o node e h.machine h.named h.signature)

-- ---- enumerations are small

few_by : (d : Bool) (n : ℕ) (t : ObcType) (types : List ObcType) (x : List ℕ) → HasConstructors t → HasFewConstructors (unwrap_or (enum_from (suc n) types x) Bools) →
    HasFewConstructors (unwrap_or (if d then Some (KindData.Constructors n t.cons) else enum_from (suc n) types x) Bools)
few_by true n t types x h rest = h.1
few_by false n t types x h rest = rest

few_in : (n : ℕ) (types : List ObcType) (x : List ℕ) → All HasConstructors types → HasFewConstructors (unwrap_or (enum_from n types x) Bools)
few_in n [] x h = tt
few_in n (t ∷ types) x h = few_by (bytes_eq t.name x) n t types x (h 0 t (omega arith)) (few_in (suc n) types x (λ i d below. h (suc i) d (omega (arith, below))))

few_of_type : (types : List ObcType) (ty : Ty) → All HasConstructors types → HasFewConstructors (kind_in_file types ty)
few_of_type types BoolTy h = tt
few_of_type types IntTy h = tt
few_of_type types (EnumTy x) h = few_in 0 types x h

few_of_vars : (types : List ObcType) (vars : List Var) → All HasConstructors types → HaveFewConstructors (kinds_of (ports_by (kind_in_file types) vars))
few_of_vars types [] h = tt
few_of_vars types (v ∷ vars) h = (few_of_type types v.ty h, few_of_vars types vars h)

pub few_of_signature : (o : Obc) (e : Executor) (m : Machine) → TypesForm o.types → e.signature ≡ signature_of o.types m → HaveFewConstructors (kinds_of e.signature.inputs)
few_of_signature o e m form same = subst (λ (s : SignatureData). HaveFewConstructors (kinds_of s.inputs)) (sym same) (few_of_vars o.types m.inputs form.counts)

pub few_inputs : (o : Obc) (node : List ℕ) (e : Executor) → TypesForm o.types → Executes o node e → HaveFewConstructors (kinds_of e.signature.inputs)
few_inputs o node e form h = few_of_signature o e h.machine form h.signature

pub behaves : (o : Obc) (node : List ℕ) (e : Executor) → Executes o node e → HasBehaviour e
behaves o node e h = record { behaviour = machine_behaviour o node; runs = h.runs; kinded = h.kinded }
