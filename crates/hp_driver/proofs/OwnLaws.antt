-- The machines of a program without controllable variables run its nodes, also among those of its contracts.
use Rattle.std.proofs.Common.{◌≡◌, ℕ, Bool, true, false, List, [], Some, refl, sym, ap, subst, ◌∙◌}
use Rattle.std.specs.Prelude.{IsTrue}
use Rattle.std.specs.List.{AllByRecursion}
use Rattle.hp_base.specs.Kinds.{AreOfKinds}
use Rattle.hp_controlled.specs.Among.{FormLaw, call_earlier}
use Rattle.hp_controlled.specs.Joining.{AreWithContracts, SameLaw}
use Rattle.hp_lexer.specs.declared.token.Token.{Token}
use Rattle.hp_driver.proofs.NamedLaws.{machine_of_node}
use Rattle.hp_driver.specs.Agreeing.{RunNodes}
use Rattle.hp_machines.specs.Machined.{AreMachinesOf}
use Rattle.hp_machines.specs.Making.{AreMade}
use Rattle.hp_machines.specs.NotBuilt.{HasNoMachines}
use Rattle.hp_obc.specs.Form.{HasObcForm, machine_named}
use Rattle.hp_obc.specs.Kinded.{kinds_in}
use Rattle.hp_obc.specs.Machines.{Machine, Obc, ObcType}
use Rattle.hp_obc.specs.Steps.{machine_behaviour, run}
use Rattle.hp_tree.specs.Reaction.{IsRun}
use Rattle.hp_tree.specs.declared.program.Item.{Item}
use Rattle.law_history.specs.Streams.Texts.{BuiltLaw, IsAccepted, RunsNode, TextLaw}

-- what the own machine of a node does among others
pub record DoesThere (o own : Obc) (node : List ℕ) (m : Machine) : Type 0 where
  pub types : o.types ≡ own.types
  pub named : machine_named o.machines node ≡ Some m
  pub does : machine_behaviour o node ≡ machine_behaviour own node

module _ (text : List ℕ) (tokens : List Token) (program ordered : List Item) (ranks : List (List ℕ)) (accepted : IsAccepted text tokens program ordered ranks) (own : Obc) (machines : AreMachinesOf ordered own) where
  -- own machines call own ones before them
  pub calls_own : BuiltLaw → FormLaw → IsTrue (call_earlier [] own.machines)
  calls_own built form_law = by (call_earlier [] own.machines) refl
    where
      by : (b : Bool) → call_earlier [] own.machines ≡ b → IsTrue (call_earlier [] own.machines)
      by true e = e
      by false e =
          let formless : HasObcForm own.types own.machines → ⊥ = λ form. (let calls = form_law own.types own.machines form.1 in cc) in
          let none = subst (λ (ts : List ObcType). HasObcForm ts own.machines → ⊥) machines.types formless in
          let made = subst (λ (ts : List ObcType). AreMade ts machines.nodes own.machines) machines.types machines.made in
          absurd (built text tokens program ordered ranks accepted (HasNoMachines.formless machines.nodes own.machines (record { flat = machines.flat; made = machines.equations }) made none))

  pub does_there : BuiltLaw → FormLaw → SameLaw → (o : Obc) → AreWithContracts ordered own o → (node : List ℕ) (m : Machine) → machine_named own.machines node ≡ Some m → DoesThere o own node m
  does_there built form_law same_law o w node m named =
      let same = same_law ordered own o w (calls_own built form_law) node m named in
      record { types = w.types; named = same.0; does = same.1 }

  pub run_nodes : TextLaw → BuiltLaw → FormLaw → SameLaw → (o : Obc) → AreWithContracts ordered own o → RunNodes ordered o
  run_nodes law built form_law same_law o w f n named =
      let found = machine_of_node ordered own.machines f n machines.machines named in
      let m = found.0 in
      let there = does_there built form_law same_law o w f m found.1 in
      let r : RunsNode ordered own f m = law text tokens program ordered ranks own accepted machines f m found.1 in (
        m,
        there.named,
        record {
          node = r.node;
          is_node = r.is_node;
          inputs = ap (λ (ts : List ObcType). kinds_in ts m.inputs) there.types ∙ r.inputs;
          outputs = ap (λ (ts : List ObcType). kinds_in ts m.outputs) there.types ∙ r.outputs;
          runs = λ inputs fit.
              subst (λ b. IsRun ordered f inputs (run b inputs)) (sym there.does) (r.runs inputs (subst (λ (ts : List ObcType). AllByRecursion (AreOfKinds (kinds_in ts m.inputs)) inputs) there.types fit));
        },
      )
