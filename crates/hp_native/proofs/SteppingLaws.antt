-- A hook that changes nothing in kind gives what a step without it gives.
use Rattle.std.proofs.Common.{◌≡◌, ℕ, List, length, Option, None, Some, sym, ap, subst, ◌∙◌}
use Rattle.std.specs.Prelude.{IfSome}
use Rattle.hp_base.specs.Kinds.{AreOfKinds, SignatureData, kinds_of}
use Rattle.hp_base.specs.declared.value.Value.{Value}
use Rattle.hp_obc.specs.Machines.{Obc}
use Rattle.hp_obc.specs.Steps.{Behaviour, Stepped, machine_behaviour}
use Rattle.hp_obc.specs.Kinded.{machine_keeps}
use Rattle.hp_exec.specs.Answers.{Executes}
use Rattle.hp_exec.specs.Executors.{Executor, Runs, layout, flow, flow_with, with_memory, kept, stepped, answered, stepped_with, answered_with}
use Rattle.hp_exec.specs.Hooked.{Hooking, Fits, ChangesNothingInKind, hooked_behaviour}
use Rattle.hp_exec.specs.Layouts.{flattened}
use Rattle.hp_exec.specs.Mirrors.{Follows}
use Rattle.hp_exec.proofs.KindedLaws.{step_by}
use Rattle.hp_exec.proofs.StepLaws.{other_runs, other_hooked, step_kept}
use Rattle.hp_native.specs.Stepping.{GoesNatively}

-- an executor from its making on
pub new_native : (h : Hooking) (o : Obc) (node : List ℕ) (e : Executor) → Executes o node e → Fits h o.machines → ((t : ℕ) → ChangesNothingInKind h t o) → GoesNatively h e
new_native h o node e does fits same = record {
  behaviour = machine_behaviour o node;
  hooked = λ t. hooked_behaviour h t o node;
  keeps = machine_keeps o node;
  runs = does.runs;
  kinds = does.kinds;
  runs_hooked = λ t. does.hooked h t fits;
  agree = λ t. does.unchanged_in_kind h t (same t);
}

module _ (h : Hooking) (t : ℕ) (e : Executor) (inputs : List Value) (goes : GoesNatively h e) (many : length inputs ≡ length e.signature.inputs) (fits : AreOfKinds (kinds_of e.signature.inputs) inputs) where
  same : (goes.hooked t).step (kept e) inputs ≡ goes.behaviour.step (kept e) inputs
  same = (goes.agree t).steps (kept e) inputs goes.kinds.has fits

  own : Follows (flow e) (layout e) (length e.signature.outputs) goes.behaviour e.values inputs
  own = goes.runs.steps e.values inputs goes.runs.long many

  hooked : Follows (flow_with h t e) (layout e) (length e.signature.outputs) (goes.hooked t) e.values inputs
  hooked = (goes.runs_hooked t).steps e.values inputs goes.runs.long many

  pub native-answered : answered_with h t e inputs ≡ answered e inputs
  native-answered = sym hooked.given ∙ ap (λ (s : Stepped). s.outputs) same ∙ own.given

  native-kept : kept (stepped_with h t e inputs) ≡ kept (stepped e inputs)
  native-kept = sym hooked.kept ∙ ap (λ (s : Stepped). s.kept) same ∙ own.kept

  native-values : (stepped_with h t e inputs).values ≡ (stepped e inputs).values
  native-values =
      sym (goes.runs.flat (stepped_with h t e inputs).values (hooked.as_long ∙ goes.runs.long))
      ∙ ap flattened native-kept
      ∙ goes.runs.flat (stepped e inputs).values (own.as_long ∙ goes.runs.long)

  pub native-stepped : stepped_with h t e inputs ≡ stepped e inputs
  native-stepped = ap (with_memory e) native-values

-- what is known of the executor behind a step
module _ (old new : Executor) (b : Behaviour) (inputs : List Value) (many : length inputs ≡ length old.signature.inputs) (is : new ≡ stepped old inputs) where
  pub runs_after : Runs old b → Runs new b
  runs_after h = other_runs old new (stepped old inputs).values b is (h.steps old.values inputs h.long many).as_long h

-- a hook that changes nothing in kind changes nothing of what comes behind a step
pub still_native : (h : Hooking) (old new : Executor) (inputs : List Value) (goes : GoesNatively h old) → length inputs ≡ length old.signature.inputs → AreOfKinds (kinds_of old.signature.inputs) inputs → new ≡ stepped old inputs → GoesNatively h new
still_native h old new inputs goes many fits is =
    let b : Behaviour = goes.behaviour in
    let signature : new.signature ≡ old.signature = ap (λ (e : Executor). e.signature) is in
    record {
      behaviour = b;
      hooked = goes.hooked;
      keeps = goes.keeps;
      runs = runs_after old new b inputs many is goes.runs;
      kinds = step_by old new b inputs goes.keeps goes.kinds signature (step_kept old b inputs many new is goes.runs) fits;
      runs_hooked = λ t. other_hooked old new (stepped old inputs).values h t (goes.hooked t) is (goes.runs.steps old.values inputs goes.runs.long many).as_long (goes.runs_hooked t);
      agree = λ t. record {
        resets = (goes.agree t).resets;
        steps = λ kept values has of_kinds. (goes.agree t).steps kept values has (subst (λ (s : SignatureData). AreOfKinds (kinds_of s.inputs) values) signature of_kinds);
      };
    }

-- what holds of a value holds of it where it is kept
pub kept_so : {A : Type 0} (o : Option A) (x : A) (P : A → Type 0) → IfSome o (λ y. y ≡ x) → P x → IfSome o P
kept_so None x P h p = tt
kept_so (Some y) x P h p = subst P (sym h) p
