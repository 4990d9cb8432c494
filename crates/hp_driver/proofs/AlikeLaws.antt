-- What one machine resumes, another one resumes that does the same.
use Rattle.std.proofs.Common.{◌≡◌, ℕ, List, [], ◌∷◌, None, Some, refl, sym, ap, subst, ◌∙◌}
use Rattle.std.specs.List.{AllByRecursion, flat_map}
use Rattle.hp_base.specs.Kinds.{AreOfKinds, KindData}
use Rattle.hp_base.specs.declared.value.Value.{Value}
use Rattle.hp_exec.specs.Hooked.{AgreeInKind}
use Rattle.hp_exec.specs.Layouts.{AreAlike, flattened}
use Rattle.hp_lines.specs.Lines.{line_of}
use Rattle.hp_obc.specs.Form.{HasObcForm, machine_named}
use Rattle.hp_obc.specs.Kinded.{HasKinds, MemoryKinds, StepsInKind, kinds_in, machine_keeps}
use Rattle.hp_obc.specs.Machines.{Machine, Obc, ObcType}
use Rattle.hp_obc.specs.Steps.{Behaviour, Memory, machine_behaviour, outputs_from}
use Rattle.hp_obc.specs.declared.machine.Var.{Var}
use Rattle.hp_obc.proofs.KindLaws.{file-kinded}
use Rattle.hp_obctext.specs.MemoryKinds.{memory_text}
use Rattle.law_controlled.specs.Alike.{IsOneOf}
use Rattle.law_controlled.specs.One.{AreOne}
use Rattle.hp_driver.specs.Answers.{IsAnswer}
use Rattle.hp_driver.specs.Checkpoints.{IsCheckpointOf, memory_behind, memory_past}
use Rattle.hp_driver.specs.Systems.{from_memory, inputs_of, machine_kinds, of_machine}
use Rattle.hp_driver.specs.Values.{first_bad, inputs_until}
use Rattle.hp_driver.proofs.SpellingLaws.{AllOfKinds, all_of_kinds}

-- ---- steps

module _ (ins outs : List KindData) (keeps : MemoryKinds) (b other : Behaviour) (agree : AgreeInKind ins keeps other b) (kinded : StepsInKind ins outs keeps b) where
  same_outputs : (kept : Memory) (inputs : List (List Value)) → HasKinds keeps kept → AllOfKinds ins inputs → outputs_from other kept inputs ≡ outputs_from b kept inputs
  same_outputs kept [] has fits = refl
  same_outputs kept (values ∷ inputs) has fits =
      let here = agree.steps kept values has fits.0 in
      (λ i. (here i).outputs ∷ outputs_from other (here i).kept inputs)
      ∙ ap (λ (rest : List (List Value)). (b.step kept values).outputs ∷ rest) (same_outputs (b.step kept values).kept inputs (kinded.kept_is kept values has fits.0) fits.1)

  same_memory : (kept : Memory) (inputs : List (List Value)) → HasKinds keeps kept → AllOfKinds ins inputs → memory_behind other kept inputs ≡ memory_behind b kept inputs
  same_memory kept [] has fits = refl
  same_memory kept (values ∷ inputs) has fits =
      let here = agree.steps kept values has fits.0 in
      (λ i. memory_behind other (here i).kept inputs) ∙ same_memory (b.step kept values).kept inputs (kinded.kept_is kept values has fits.0) fits.1

-- ---- two machines of one name

module _ (o p : Obc) (node : List ℕ) (m l : Machine) (form : HasObcForm o.types o.machines) (one : AreOne o p) (named : machine_named o.machines node ≡ Some m) (its_name : machine_named p.machines node ≡ Some l)
    (inputs : m.inputs ≡ l.inputs) (outputs : m.outputs ≡ l.outputs) where
  abbrev does : IsOneOf o p node m
  does = one.machines node m named

  kinds_same : (vars : Machine → List Var) → vars m ≡ vars l → machine_kinds vars o node ≡ machine_kinds vars p node
  kinds_same vars same =
      ap (λ found. elim found [ None ↦ [] | Some x ↦ kinds_in o.types (vars x) ]) named
      ∙ (λ i. kinds_in (one.types i) (same i))
      ∙ sym (ap (λ found. elim found [ None ↦ [] | Some x ↦ kinds_in p.types (vars x) ]) its_name)

  pub inputs_same : inputs_of (of_machine o node) ≡ inputs_of (of_machine p node)
  inputs_same = kinds_same (λ (x : Machine). x.inputs) inputs

  its_inputs : inputs_of (of_machine o node) ≡ kinds_in o.types m.inputs
  its_inputs = ap (λ found. elim found [ None ↦ [] | Some x ↦ kinds_in o.types x.inputs ]) named

  -- a checkpoint of the one is one of the other
  pub checkpoint_moved : (kept : Memory) (text : List ℕ) → IsCheckpointOf p node kept text → IsCheckpointOf o node kept text
  checkpoint_moved kept text is = record {
    shaped = subst (AreAlike kept) does.does.resets is.shaped;
    kinded = subst (λ (keeps : MemoryKinds). HasKinds keeps kept) (sym does.keeps) is.kinded;
    spelled = is.spelled ∙ ap (λ (types : List ObcType). memory_text types node (flattened kept)) (sym one.types);
  }

  pub checkpoint_back : (kept : Memory) (text : List ℕ) → IsCheckpointOf o node kept text → IsCheckpointOf p node kept text
  checkpoint_back kept text is = record {
    shaped = subst (AreAlike kept) (sym does.does.resets) is.shaped;
    kinded = subst (λ (keeps : MemoryKinds). HasKinds keeps kept) does.keeps is.kinded;
    spelled = is.spelled ∙ ap (λ (types : List ObcType). memory_text types node (flattened kept)) one.types;
  }

  module _ (kept : Memory) (has : HasKinds (machine_keeps o node) kept) (lines : List (List ℕ)) where
    abbrev ins : List KindData
    ins = inputs_of (of_machine o node)

    steps_kinded : StepsInKind (kinds_in o.types m.inputs) (kinds_in o.types m.outputs) (machine_keeps o node) (machine_behaviour o node)
    steps_kinded = file-kinded o form node m named

    fits : AllOfKinds (kinds_in o.types m.inputs) (inputs_until ins 1 lines)
    fits = subst (λ ks. AllOfKinds ks (inputs_until ins 1 lines)) its_inputs (all_of_kinds ins 1 lines)

    -- and what the one says from its memory on, the other one says,
    pub answer_moved : (bytes : List ℕ) → IsAnswer (from_memory p node kept) lines bytes → IsAnswer (from_memory o node kept) lines bytes
    answer_moved bytes a = record {
      outputs = a.outputs;
      run =
          a.run
          ∙ ap (λ ks. outputs_from (machine_behaviour p node) kept (inputs_until ks 1 lines)) (sym inputs_same)
          ∙ same_outputs (kinds_in o.types m.inputs) (kinds_in o.types m.outputs) (machine_keeps o node) (machine_behaviour o node) (machine_behaviour p node) does.does steps_kinded kept (inputs_until ins 1 lines) has fits;
      kinds = subst (λ ks. AllByRecursion (AreOfKinds ks) a.outputs) (sym (kinds_same (λ (x : Machine). x.outputs) outputs)) a.kinds;
      said = a.said ∙ ap (λ ks. flat_map (line_of ks) a.outputs) (sym (kinds_same (λ (x : Machine). x.outputs) outputs));
    }

    -- and they leave one memory
    pub memory_moved : memory_past p node kept lines ≡ memory_past o node kept lines
    memory_moved =
        ap (λ ks. memory_behind (machine_behaviour p node) kept (inputs_until ks 1 lines)) (sym inputs_same)
        ∙ same_memory (kinds_in o.types m.inputs) (kinds_in o.types m.outputs) (machine_keeps o node) (machine_behaviour o node) (machine_behaviour p node) does.does steps_kinded kept (inputs_until ins 1 lines) has fits

  pub good_moved : (lines : List (List ℕ)) → first_bad (inputs_of (of_machine p node)) 1 lines ≡ None → first_bad (inputs_of (of_machine o node)) 1 lines ≡ None
  good_moved lines good = ap (λ ks. first_bad ks 1 lines) inputs_same ∙ good
