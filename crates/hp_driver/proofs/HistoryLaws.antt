-- A machine that runs a node answers as the node does.
use Rattle.std.proofs.Common.{◌≡◌, ℕ, List, [], ◌∷◌, None, Some, sym, ap, subst, ◌∙◌}
use Rattle.std.specs.List.{AllByRecursion, flat_map}
use Rattle.hp_base.specs.Kinds.{KindData, AreOfKinds}
use Rattle.hp_base.specs.declared.value.Value.{Value}
use Rattle.hp_lines.specs.Lines.{line_of}
use Rattle.hp_tree.specs.declared.program.Item.{Item}
use Rattle.hp_tree.specs.Meaning.{types_of}
use Rattle.hp_obc.specs.Form.{machine_named}
use Rattle.hp_obc.specs.Kinded.{kinds_in}
use Rattle.hp_obc.specs.Machines.{Machine, Obc}
use Rattle.hp_obc.specs.Steps.{machine_behaviour, run}
use Rattle.hp_tree.specs.Reaction.{IsRun}
use Rattle.law_wellmade.specs.Timely.Kinds.{kinds_of_decls}
use Rattle.law_history.specs.Streams.Texts.{RunsNode}
use Rattle.law_decided.specs.Promised.{KeepsContracts}
use Rattle.hp_driver.specs.Answers.{IsAnswer}
use Rattle.hp_driver.specs.Systems.{of_node, of_machine, inputs_of, outputs_of, Gives}
use Rattle.hp_driver.specs.Values.{inputs_until}
use Rattle.hp_driver.proofs.SpellingLaws.{AllOfKinds, all_of_kinds}

-- ---- the machine of a node

-- runs of a node keep contracts
abbrev pub Keeping : List Item → List ℕ → Type 0
Keeping program node = (inputs outputs : List (List Value)) → IsRun program node inputs outputs → KeepsContracts program node inputs

module _ (program : List Item) (o : Obc) (node : List ℕ) (m : Machine) (named : machine_named o.machines node ≡ Some m) (r : RunsNode program o node m) where
  pub inputs_same : inputs_of (of_machine o node) ≡ inputs_of (of_node program node)
  inputs_same =
      ap (λ found. elim found [ None ↦ [] | Some x ↦ kinds_in o.types x.inputs ]) named ∙ r.inputs
      ∙ sym (ap (λ found. elim found [ None ↦ [] | Some n ↦ kinds_of_decls (types_of program) n.inputs ]) r.is_node)

  pub outputs_same : outputs_of (of_machine o node) ≡ outputs_of (of_node program node)
  outputs_same =
      ap (λ found. elim found [ None ↦ [] | Some x ↦ kinds_in o.types x.outputs ]) named ∙ r.outputs
      ∙ sym (ap (λ found. elim found [ None ↦ [] | Some n ↦ kinds_of_decls (types_of program) n.outputs ]) r.is_node)

  ins_are : inputs_of (of_machine o node) ≡ kinds_in o.types m.inputs
  ins_are = ap (λ found. elim found [ None ↦ [] | Some x ↦ kinds_in o.types x.inputs ]) named

  all_kinds : (kinds : List KindData) (inputs : List (List Value)) → AllOfKinds kinds inputs → AllByRecursion (AreOfKinds kinds) inputs
  all_kinds kinds [] h = tt
  all_kinds kinds (vs ∷ inputs) h = (h.0, all_kinds kinds inputs h.1)

  -- lines spell inputs of its kinds
  pub fitting : (lines : List (List ℕ)) → AllByRecursion (AreOfKinds (kinds_in o.types m.inputs)) (inputs_until (inputs_of (of_machine o node)) 1 lines)
  fitting lines =
      let ins = inputs_of (of_machine o node) in
      all_kinds (kinds_in o.types m.inputs) (inputs_until ins 1 lines) (subst (λ ks. AllOfKinds ks (inputs_until ins 1 lines)) ins_are (all_of_kinds ins 1 lines))

  -- what its machine answers is what the node does
  pub as_node : Keeping program node → (lines : List (List ℕ)) (bytes : List ℕ) → IsAnswer (of_machine o node) lines bytes → IsAnswer (of_node program node) lines bytes
  as_node keeps lines bytes a =
      let inputs = inputs_until (inputs_of (of_machine o node)) 1 lines in
      let outputs = run (machine_behaviour o node) inputs in
      let runs : IsRun program node inputs outputs = r.runs inputs (fitting lines) in
      record {
        outputs = a.outputs;
        run = subst (λ ks. Gives (of_node program node) (inputs_until ks 1 lines) a.outputs) inputs_same (subst (λ outs. Gives (of_node program node) inputs outs) (sym a.run) (runs, keeps inputs outputs runs));
        kinds = subst (λ ks. AllByRecursion (AreOfKinds ks) a.outputs) outputs_same a.kinds;
        said = a.said ∙ ap (λ ks. flat_map (line_of ks) a.outputs) outputs_same;
      }
