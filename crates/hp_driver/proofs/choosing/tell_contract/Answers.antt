use Rattle.std.proofs.Common.{◌≡◌, ◌++◌, [], rules, IsSome, codes, subst, sym}
use Rattle.hp_obc.specs.Form.{machine_named}
use Rattle.hp_io.proofs.ToldLaws.{Grows-nil}
use Rattle.hp_driver.specs.Follows.{ChosenOutcome}
use Rattle.hp_driver.specs.Status.{code_of}
use Rattle.hp_driver.specs.Systems.{that_tells}
use Rattle.hp_driver.specs.declared.telling.Ending.TheVariants.{Told}
use Rattle.hp_driver.proofs.ChoosingLaws.{chosen_memory}
use Rattle.hp_driver.proofs.RanLaws.{heard_nothing}
use Rattle.hp_driver.proofs.choosing.tell_contract.Goals as goal

pub returns-in_default-clause-outcome : goal.returns-in_default-clause-outcome
returns-in_default-clause-outcome g c =
    let name = c.args.name.now ++ codes "$contract" in (
      [],
      [],
      Grows-nil (g.C.Console.events c.args.console.now),
      heard_nothing (g.C.Console.left c.args.console.now),
      Grows-nil (g.E.Sink.took c.args.diag.now),
      chosen_memory (that_tells Told c.args.machines.now name) c.args.machines.now name,
    )

pub tell_chosen-requires-clause-there : goal.tell_chosen-requires-clause-there
tell_chosen-requires-clause-there g c =
    let runs : c.as_str.result.now ≡ c.args.name.now ++ codes "$contract" = search rules in
    subst (λ z. IsSome (machine_named c.args.machines.now.machines z)) (sym runs) c.requires.there

pub returns-clause-outcome : goal.returns-clause-outcome
returns-clause-outcome g c =
    let o = c.args.machines.now in
    let ran = c.tell_chosen.ensures.outcome in
    let runs : c.as_str.result.now ≡ c.args.name.now ++ codes "$contract" = search rules in
    (ran.0, ran.1, ran.2, ran.3, ran.4, subst (λ z. ChosenOutcome (that_tells Told o z) o z ran.0 ran.1 (code_of c.tell_chosen.result)) runs ran.5)
