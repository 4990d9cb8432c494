-- The text which `compile` writes does what its program does.
use Rattle.std.proofs.Common.{◌≡◌, ℕ, false, List, [], None, Some, sym, ap, subst, ◌∙◌}
use Rattle.std.specs.Prelude.{Option}
use Rattle.std.specs.List.{AllByRecursion, flat_map}
use Rattle.hp_base.specs.Kinds.{AreOfKinds}
use Rattle.hp_base.specs.declared.value.Value.{Value}
use Rattle.hp_lines.specs.Lines.{line_of}
use Rattle.hp_io.specs.Files.{Files}
use Rattle.hp_controlled.specs.Among.{FormLaw}
use Rattle.hp_controlled.specs.Joining.{SameLaw}
use Rattle.hp_driver.proofs.OwnLaws.{does_there}
use Rattle.hp_machines.specs.Machined.{AreMachinesOf}
use Rattle.hp_obc.specs.Form.{machine_named}
use Rattle.hp_obc.specs.Kinded.{kinds_in}
use Rattle.hp_obc.specs.Machines.{Machine, Obc}
use Rattle.hp_obc.specs.Steps.{machine_behaviour, run}
use Rattle.hp_obctext.proofs.Answering.{same_machines}
use Rattle.hp_tree.specs.Reaction.{IsRun}
use Rattle.hp_tree.specs.declared.program.Item.{Item}
use Rattle.law_history.specs.Streams.Texts.{BuiltLaw, RunsNode, TextLaw}
use Rattle.law_decided.specs.Outcomes.{AreKeptInGames}
use Rattle.law_decided.specs.Promised.{RunLaw}
use Rattle.hp_driver.specs.Agreeing.{AgreesWith, AgreeWithNodes}
use Rattle.hp_driver.specs.Answers.{IsAnswer}
use Rattle.hp_driver.specs.Controls.{has_controls}
use Rattle.hp_driver.specs.Outcome.{IsHeld}
use Rattle.hp_driver.specs.Systems.{System, of_node, of_machine, inputs_of, outputs_of}
use Rattle.hp_driver.specs.Values.{inputs_until, first_bad}
use Rattle.hp_driver.specs.Written.{WrittenLaw}
use Rattle.hp_driver.proofs.HistoryLaws.{Keeping, inputs_same, outputs_same, fitting, as_node}

-- a node has one run
one_run : (program : List Item) (f : List ℕ) (inputs first second : List (List Value)) → IsRun program f inputs first → IsRun program f inputs second → first ≡ second
one_run program f inputs first second a b = let r = a.some in sym (a.every r.0 r.1 r.2) ∙ b.every r.0 r.1 r.2

module _ (program : List Item) (o : Obc) (node : List ℕ) (m : Machine) (named : machine_named o.machines node ≡ Some m) (r : RunsNode program o node m) (keeps : Keeping program node) where
  pub as_machine : (lines : List (List ℕ)) (bytes : List ℕ) → IsAnswer (of_node program node) lines bytes → IsAnswer (of_machine o node) lines bytes
  as_machine lines bytes a =
      let same = inputs_same program o node m named r in
      let inputs = inputs_until (inputs_of (of_machine o node)) 1 lines in
      let runs : IsRun program node inputs a.outputs = subst (λ ks. IsRun program node (inputs_until ks 1 lines) a.outputs) (sym same) a.run.0 in
      record {
        outputs = a.outputs;
        run = one_run program node inputs a.outputs (run (machine_behaviour o node) inputs) runs (r.runs inputs (fitting program o node m named r lines));
        kinds = subst (λ ks. AllByRecursion (AreOfKinds ks) a.outputs) (sym (outputs_same program o node m named r)) a.kinds;
        said = a.said ∙ ap (λ ks. flat_map (line_of ks) a.outputs) (sym (outputs_same program o node m named r));
      }

  pub agrees : AgreesWith (of_machine o node) (of_node program node)
  agrees = record {
    refuses = λ lines. ap (λ ks. first_bad ks 1 lines) (inputs_same program o node m named r);
    answers = λ lines bytes. (as_node program o node m named r keeps lines bytes, as_machine lines bytes);
  }

-- ---- a text that is written

pub written_agrees : WrittenLaw
written_agrees files file o read text compiled printed stands =
    let same : read ≡ o = same_machines text stands.file_is read o stands.spelled stands.machines (printed.stands stands.within) in
    record {
      same = same;
      agree = λ none node n named.
          let there = (compiled.are.plain none).agree node n named in (
            there.0,
            ap (λ (z : Obc). machine_named z.machines node) same ∙ there.1,
            subst (λ z. AgreesWith (of_machine z node) (of_node compiled.held.clocked node)) (sym same) there.2,
          );
    }
